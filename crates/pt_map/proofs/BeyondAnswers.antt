-- What a map past the root answers, from what it did at the root.
use Rattle.std.proofs.Common.{◌≡◌, ◌⊎◌, ◌↔◌, ℕ, Bool, ◌+◌, ◌-◌, ◌%◌, ◌<◌, ◌≤◌, List, [], ◌∷◌, ◌++◌, true, false, inl, inr, refl, ap, sym, subst, ◌∙◌, arith, append_assoc, length-append}
use Rattle.std.specs.Prelude.{IsTrue, ◌&&◌, Some, None, Ok, Err, Result, length, map, max, min, filter, not, nat_le, nat_lt, option_map}
use Rattle.std.proofs.lemmas.Bool.{and_from, and_parts, cases_Bool, cases_lt, false_from_ne_true, false≢true, le-leb, leb-true, lt-ltb, ltb-false, ltb-true, not-true, not_from_false, or_cases, or_left, or_right}
use Rattle.std.proofs.lemmas.List.Elements.{All-contains}
use Rattle.std.proofs.lemmas.List.Filters.{length-filter_both}
use Rattle.std.proofs.lemmas.List.FromFn.{length-map-range_with_len, length-range_with_len}
use Rattle.pt_model.specs.declared.block.Block.{Block}
use Rattle.pt_model.specs.declared.position.Position.{Position}
use Rattle.pt_model.specs.Layout.{Layout, pages_of_table}
use Rattle.pt_model.specs.Book.{IsLawful, Occupied, is_linked, lowest_mapped}
use Rattle.pt_model.specs.Pages.{byte_at}
use Rattle.pt_model.specs.Sets.{IsAmong, IsSorted, places}
use Rattle.pt_model.specs.Tables.{IsPosition, all_needed, end_of_table, is_spine, least_top, levels_between, spine_position, starting_top}
use Rattle.pt_model.proofs.Positions.{Once, among_append, among_filtered, among_left, among_passes, among_right, any_among, length_within, places_append, same_length, sorted_filter, sorted_levels, sorted_once}
use Rattle.pt_model.proofs.Tops.{table_mono}
use Rattle.pt_format.specs.Laws.{IsLayout}
use Rattle.pt_tile.specs.declared.extent.Extent.{Extent}
use Rattle.pt_tile.specs.Extents.{tables_of, tiles}
use Rattle.pt_tile.proofs.FirstSizes.{extent_tiling}
use Rattle.pt_tile.proofs.Levels.{in_levels, levels_in}
use Rattle.pt_tile.proofs.Needed.{needed_below}
use Rattle.pt_view.specs.declared.view.View.{View}
use Rattle.pt_view.specs.declared.view.Absence.{Absence}
use Rattle.pt_view.specs.declared.view.Absence.TheVariants.{Top}
use Rattle.pt_view.specs.declared.view.Change.{Change}
use Rattle.pt_view.specs.declared.view.Change.TheVariants.{Written}
use Rattle.pt_view.specs.declared.view.Node.{Node}
use Rattle.pt_view.specs.declared.view.Piece.{Piece}
use Rattle.pt_view.specs.Calls.{Rooted}
use Rattle.pt_view.specs.Pieces.{add_pieces, all_pieces}
use Rattle.pt_view.specs.Views.{Aside, IsAtRest, book_of, linked_count}
use Rattle.pt_view.proofs.Loads.{root_loads}
use Rattle.pt_view.proofs.Stays.{range_on}
use Rattle.pt_walk.specs.Walks.{IsFree, OwnsAll, Rests}
use Rattle.pt_walk.proofs.Books.{owns_all}
use Rattle.pt_walk.proofs.Descent.{owns_on}
use Rattle.pt_walk.proofs.Ranges.{free_on, lowest_on}
use Rattle.pt_map.specs.declared.refused.MapRefused.{MapRefused}
use Rattle.pt_map.specs.declared.refused.MapRefused.TheVariants as refused
use Rattle.pt_map.specs.Absent.{IsMissing, is_shown, shows}
use Rattle.pt_map.specs.Answers.{Accounts, Answers, FindsAbsent, IsMapped, IsRefused, IsShortOf, IsWanting, KeepsPurse, LinksAll, WantsFrames, book_with, lacking, refusal_of, unknown}
use Rattle.pt_map.specs.Beyond.{EndsBeyond, HasCauseBeyond, LacksBeyond, MappedBeyond, MayMapBeyond, near_root}
use Rattle.pt_map.specs.Past.{past_root, reaches_past}
use Rattle.pt_map.specs.Replaced.{is_replaced, replaced}
use Rattle.pt_map.specs.Requests.{MayMap, occupied}
use Rattle.pt_map.specs.Stands.{IsOwnTable}
use Rattle.pt_map.proofs.AbsentCounted.{shown_left, shown_right}
use Rattle.pt_map.proofs.BeyondMapped.{spine_past}
use Rattle.pt_map.proofs.BlocksAdded.{Apart, adds_pieces, in_order_from}
use Rattle.pt_map.proofs.FirstMapped.{first_mapped, free_apart, none_mapped}
use Rattle.pt_map.proofs.LackingTables.{is_unknown, lacking_once, table_linked, tables_more}
use Rattle.pt_map.proofs.NearRoot.{spine_back, spine_is}
use Rattle.pt_map.proofs.NeededTables.{needs_sorted}
use Rattle.pt_map.proofs.PastRoot.{low_spine, past_top}
use Rattle.pt_map.proofs.MapResults.{Standing, rested}
use Rattle.pt_map.proofs.MapResults as results
use Rattle.pt_map.proofs.MapFromTable.{linked_same}
use Rattle.pt_map.proofs.TablesAfter.{covered_many, member_at, sorted_tables, tables_after}

-- An extent of a holder at rest may be mapped, and the root was loaded, which is too low for it.
module _ {f : Layout} (good : IsLayout f) {tells alone : Type 0} {v u : View} {x : Extent} {root : ℕ} (may : MayMap f v x) (past : pages_of_table f root < x.end) (rooted : Rooted f tells alone v root u) where
  lawful : IsLawful f v.levels (book_of v may.rest.0)
  lawful = may.lawful may.rest.0 may.rest.1

  aligned : (p : Position) → IsAmong v.tables p → p.base % pages_of_table f p.level ≡ 0
  aligned p m = (All-contains (IsPosition f) v.tables p lawful.positions (member_at v.tables p m)).aligned

  off_spine : (p : Position) → IsAmong v.tables p → is_spine v.levels p ≡ false
  off_spine p m = All-contains (λ q. is_spine v.levels q ≡ false) v.tables p lawful.off_spine (member_at v.tables p m)

  few : v.levels ≤ f.levels
  few = let low = lawful.top_least in let high = lawful.top_below in omega arith

  owns : OwnsAll f v
  owns = owns_all f good v may.rest.0 may.levels may.rest.1 lawful

  high : starting_top v.levels ≤ root
  high = let reach = rooted.reaches in let low = lawful.top_least in omega arith

  -- it may be mapped past the root
  pub may_beyond : MayMapBeyond f u x root
  may_beyond = record {
    at = record {
      path = rooted.path;
      reaches = (let r = rooted.reaches in let e = rooted.book.top in omega arith);
      low = (let h = high in let e = rooted.range.levels in omega arith);
      legal = rooted.legal;
      spine = λ l from to. (rooted.known (spine_position l)).1 (inl (spine_is v.levels l (let e = rooted.range.levels in omega arith), to));
      none = rooted.prepared ∙ may.rest.1.prepared;
    };
    extent = may.inside.extent;
    past = past;
    from = (let a = may.inside.from in let e = rooted.range.first in omega arith);
    to = (let a = may.inside.to in let e = rooted.range.first in let d = rooted.range.count in omega arith);
    start = (let a = may.levels in let e = rooted.range.levels in omega arith);
    few = (let a = few in let e = rooted.range.levels in omega arith);
    owns = owns_on f rooted.range rooted.book owns;
    tables = λ p m.
        let there : IsAmong v.tables p = subst (λ (ps : List Position). IsAmong ps p) rooted.book.tables m in
        record { off_spine = subst (λ (l : ℕ). is_spine l p ≡ false) (sym rooted.range.levels) (off_spine p there); aligned = aligned p there };
    once = λ p.
        let s : places p v.tables ≤ 1 = sorted_once v.tables (sorted_tables v.tables lawful.tables_in_order) p in
        let e : places p u.tables ≡ places p v.tables = ap (places p) rooted.book.tables in omega arith;
    over_tables = λ p m. rooted.over_tables p (subst (λ (ps : List Position). IsAmong ps p) rooted.book.tables m);
  }

  pub standing : (blocks : List Block) → IsAtRest f v blocks → Standing f tells v u blocks x root
  standing blocks rest = record {
    rest = rest;
    lawful = may.lawful blocks rest;
    owns = owns;
    sorted = sorted_tables v.tables (may.lawful blocks rest).tables_in_order;
    aligned = aligned;
    extent = may.inside.extent;
    start = may.levels;
    few = few;
    below = rooted.legal;
    walked = root_loads rooted;
  }

  -- The lacking positions: those found absent under the root, and those past it.

  abbrev far : List Position
  far = past_root f v.levels root x

  far_same : past_root f u.levels root x ≡ far
  far_same = ap (λ (l : ℕ). past_root f l root x) rooted.range.levels

  near_same : near_root f u.levels root x ≡ near_root f v.levels root x
  near_same = ap (λ (l : ℕ). near_root f l root x) rooted.range.levels

  far_needed : (p : Position) → IsAmong far p → IsAmong (all_needed f v.levels (tiles f x)) p × (pages_of_table f root < end_of_table f p)
  far_needed p h =
      let r = among_filtered (reaches_past f root) (all_needed f v.levels (tiles f x)) p h in
      (r.0, ltb-true (pages_of_table f root) (end_of_table f p) r.1)

  near_needed : (p : Position) → IsAmong (near_root f v.levels root x) p → IsAmong (all_needed f v.levels (tiles f x)) p × (reaches_past f root p ≡ false) × (is_spine v.levels p ≡ false)
  near_needed p h =
      let r = among_filtered (λ q. not (reaches_past f root q) && not (is_spine v.levels q)) (all_needed f v.levels (tiles f x)) p h in
      let b = and_parts (not (reaches_past f root p)) (not (is_spine v.levels p)) r.1 in
      (r.0, not-true (reaches_past f root p) b.0, not-true (is_spine v.levels p) b.1)

  -- what a load of the root shows of them
  far_shown : (p : Position) → IsAmong far p → IsTrue (shows f (Top root) p)
  far_shown p h = or_right (nat_lt root p.level) _ (lt-ltb (pages_of_table f root) (end_of_table f p) (far_needed p h).1)

  module _ (blocks : List Block) where
    lacks_is : (p : Position) → IsAmong (all_needed f v.levels (tiles f x)) p → (¬ IsAmong v.tables p) → ((is_spine v.levels p && nat_le p.level v.top) ≡ false) → IsAmong (lacking f v blocks x) p
    lacks_is p needed no_table no_spine =
        among_passes (λ q. not (is_linked v.levels (book_of v blocks) q)) (all_needed f v.levels (tiles f x)) p needed
        (not_from_false (is_linked v.levels (book_of v blocks) p) (false_from_ne_true (is_linked v.levels (book_of v blocks) p) (λ e.
        elim (or_cases (is_spine v.levels p && nat_le p.level v.top) _ e) [
          | inl spine ↦ false≢true (sym no_spine ∙ spine)
          | inr table ↦ no_table (any_among v.tables p table)
        ])))

    far_lacks : (p : Position) → IsAmong far p → IsAmong (lacking f v blocks x) p
    far_lacks p h =
        let n = far_needed p h in
        lacks_is p n.0 (λ there. let over = rooted.over_tables p there in let beyond = n.1 in omega arith)
        (false_from_ne_true (is_spine v.levels p && nat_le p.level v.top) (λ e.
        let b = and_parts (is_spine v.levels p) (nat_le p.level v.top) e in
        let s = spine_back v.levels p b.0 in
        let wide = table_mono f p.level root (let l = leb-true p.level v.top b.1 in let r = rooted.reaches in omega arith) in
        let base : p.base ≡ 0 = ap (λ (q : Position). q.base) s.1 in
        let beyond = n.1 in (let w : ⊥ = omega arith in w)))

    far_unknown : (p : Position) → IsAmong far p → IsAmong (unknown f v blocks x) p
    far_unknown p h = is_unknown good v blocks may.inside.extent may.levels few p (far_lacks p h) (λ k. let over = rooted.over_known p k in let beyond = (far_needed p h).1 in omega arith)

    -- Tables that were found absent under the root.
    module _ (absent : List Position) (once : Once absent) (missing : (p : Position) → IsAmong absent p → IsMissing u (near_root f u.levels root x) p) where
      near_is : (p : Position) → IsAmong absent p → IsAmong (near_root f v.levels root x) p
      near_is p h = subst (λ (ps : List Position). IsAmong ps p) near_same (missing p h).is_needed

      near_lacks : (p : Position) → IsAmong absent p → IsAmong (lacking f v blocks x) p
      near_lacks p h =
          let n = near_needed p (near_is p h) in
          lacks_is p n.0 (λ there. (missing p h).no_table (subst (λ (ps : List Position). IsAmong ps p) (sym rooted.book.tables) there))
          (ap (λ (b : Bool). b && nat_le p.level v.top) n.2)

      near_unknown : (p : Position) → IsAmong absent p → IsAmong (unknown f v blocks x) p
      near_unknown p h = is_unknown good v blocks may.inside.extent may.levels few p (near_lacks p h) (λ k. (missing p h).unknown ((root_loads rooted).known p k))

      abbrev both : List Position
      both = absent ++ far

      both_once : Once both
      both_once p =
          let sum = places_append p absent far in
          let a = once p in
          let b = sorted_once far (sorted_filter (reaches_past f root) (all_needed f v.levels (tiles f x)) (needs_sorted f v.levels (tiles f x))) p in
          elim (cases_lt 0 (places p absent)) [
            | inr none ↦ omega arith
            | inl here ↦ elim (cases_lt 0 (places p far)) [
              | inr none ↦ omega arith
              | inl there ↦ absurd (
                  let close = (near_needed p (near_is p here)).1 in
                  let beyond = lt-ltb (pages_of_table f root) (end_of_table f p) (far_needed p there).1 in false≢true (sym close ∙ beyond))
            ]
          ]

      both_unknown : (p : Position) → IsAmong both p → IsAmong (unknown f v blocks x) p
      both_unknown p h = elim (among_append p absent far h) [ inl a ↦ near_unknown p a | inr b ↦ far_unknown p b ]

      both_lacks : (p : Position) → IsAmong both p → IsAmong (lacking f v blocks x) p
      both_lacks p h = elim (among_append p absent far h) [ inl a ↦ near_lacks p a | inr b ↦ far_lacks p b ]

      many : length both ≡ length absent + length far
      many = length-append absent far

      pub few_unknown : length absent + length far ≤ length (unknown f v blocks x)
      few_unknown = let m = many in let w = length_within both (unknown f v blocks x) both_once both_unknown in omega arith

      pub few_lacking : length absent + length far ≤ length (lacking f v blocks x)
      few_lacking = let m = many in let w = length_within both (lacking f v blocks x) both_once both_lacks in omega arith

      pub few_shown : (facts : List Absence) → ((p : Position) → IsAmong absent p → IsTrue (is_shown f facts p)) →
          length absent + length far ≤ length (filter (is_shown f (Top root ∷ [] ++ facts)) (unknown f v blocks x))
      few_shown facts shown =
          let m = many in
          let w = length_within both (filter (is_shown f (Top root ∷ [] ++ facts)) (unknown f v blocks x)) both_once
          (λ p h. among_passes (is_shown f (Top root ∷ [] ++ facts)) (unknown f v blocks x) p (both_unknown p h) (elim (among_append p absent far h) [
            | inl a ↦ shown_right f (Top root ∷ []) facts p (shown p a)
            | inr b ↦ shown_left f (Top root ∷ []) facts p (or_left (shows f (Top root) p) _ (far_shown p b))
          ])) in omega arith

      -- over a lone holder there are no others
      pub all_lacking : alone → ((p : Position) → IsAmong (near_root f u.levels root x) p → IsAmong absent p ⊎ IsOwnTable u p) → length absent + length far ≡ length (lacking f v blocks x)
      all_lacking a all =
          let m = many in
          let e = same_length both (lacking f v blocks x) both_once (lacking_once good v blocks may.inside.extent may.levels few) both_lacks
          (λ p h.
          let r = among_filtered (λ q. not (is_linked v.levels (book_of v blocks) q)) (all_needed f v.levels (tiles f x)) p h in
          let no : is_linked v.levels (book_of v blocks) p ≡ false = not-true (is_linked v.levels (book_of v blocks) p) r.1 in
          elim (cases_Bool (reaches_past f root p)) [
            | inl beyond ↦ among_right p absent far (among_passes (reaches_past f root) (all_needed f v.levels (tiles f x)) p r.0 beyond)
            | inr close ↦ among_left p absent far (under p r.0 no close)
          ]) in omega arith
        where
          under : (p : Position) → IsAmong (all_needed f v.levels (tiles f x)) p → is_linked v.levels (book_of v blocks) p ≡ false → reaches_past f root p ≡ false → IsAmong absent p
          under p needed unlinked close = elim (cases_Bool (is_spine v.levels p)) [
            | inl spine ↦ absurd (
                let s = spine_back v.levels p spine in
                let ends : end_of_table f p ≤ pages_of_table f root = ltb-false (pages_of_table f root) (end_of_table f p) close in
                let base : p.base ≡ 0 = ap (λ (q : Position). q.base) s.1 in
                let low : p.level ≤ root = low_spine good may.inside.extent v.levels root may.levels high past p.level (omega arith) in
                let exact = rooted.exact a in
                false≢true (sym unlinked ∙ or_left (is_spine v.levels p && nat_le p.level v.top) _ (and_from (is_spine v.levels p) _ spine (le-leb p.level v.top (omega arith)))))
            | inr off ↦ elim (all p (subst (λ (ps : List Position). IsAmong ps p) (sym near_same) (among_passes (λ q. not (reaches_past f root q) && not (is_spine v.levels q)) (all_needed f v.levels (tiles f x)) p needed
                (and_from (not (reaches_past f root p)) _ (ap not close) (ap not off))))) [
                  | inl here ↦ here
                  | inr own ↦ absurd (elim own [
                    | inl there ↦ false≢true (sym unlinked ∙ table_linked good v blocks may.inside.extent may.levels few p (subst (λ (ps : List Position). IsAmong ps p) rooted.book.tables there))
                    | inr spine ↦ false≢true (sym off ∙ subst (λ (l : ℕ). is_spine l p ≡ true) rooted.range.levels spine)
                  ])
                ]
          ]

  -- The extent was mapped.
  module _ (blocks : List Block) (rest : IsAtRest f v blocks) {alone_u : Type 0} {linked : ℕ} {w : View} (m : MappedBeyond f tells alone_u linked u w x root) where
    stand : Standing f tells v u blocks x root
    stand = standing blocks rest

    free_here : IsFree f v x.first x.end
    free_here = free_on f x.first x.end rooted.book m.free

    none_there : lowest_mapped (book_of v blocks) x.first x.end ≡ None
    none_there = none_mapped good rest x.first x.end may.inside.extent.some free_here

    pub accepts : occupied f x (book_of v blocks) ≡ None
    accepts = ap (λ o. option_map (λ page. Occupied (byte_at f page)) o) none_there

    tables_same : (p : Position) → IsAmong w.tables p ↔ ((IsAmong v.tables p × (is_replaced f (tiles f x) p ≡ false)) ⊎ (IsAmong (tables_of f x) p × (is_spine v.levels p ≡ false)))
    tables_same p =
        subst (λ (l : ℕ). IsAmong w.tables p ↔ ((IsAmong v.tables p × (is_replaced f (tiles f x) p ≡ false)) ⊎ (IsAmong (tables_of f x) p × (is_spine l p ≡ false)))) rooted.range.levels
        (subst (λ (ps : List Position). IsAmong w.tables p ↔ ((IsAmong ps p × (is_replaced f (tiles f x) p ≡ false)) ⊎ (IsAmong (tables_of f x) p × (is_spine u.levels p ≡ false)))) rooted.book.tables (m.tables p))

    sorted_after : IsSorted w.tables
    sorted_after = m.in_order (subst (λ (ps : List Position). IsSorted ps) (sym rooted.book.tables) stand.sorted)

    blocks_after : w.pieces ≡ all_pieces f (book_with f v blocks x).blocks
    blocks_after =
        let some = may.inside.extent.some in
        let ends : x.end ≡ x.first + (x.end - x.first) = omega arith in
        let apart : Apart x.first (x.first + (x.end - x.first)) blocks =
        subst (λ (n : ℕ). Apart x.first n blocks) ends (free_apart good rest x.first x.end some free_here) in
        m.pieces ∙ ap (λ (ps : List Piece). add_pieces f ps (all_pieces f (tiles f x))) (rooted.book.pieces ∙ rest.pieces)
        ∙ adds_pieces good x.prot x.first x.out (x.end - x.first) (tiles f x) blocks (extent_tiling good may.inside.extent)
        (in_order_from 0 blocks (λ k b less e. omega arith) stand.lawful.in_order) apart

    top_least : w.top ≡ max v.top (least_top f v.levels x.end)
    top_least = m.top ∙ (λ i. max (rooted.book.top i) (least_top f (rooted.range.levels i) x.end))

    top_after : w.top ≡ (book_with f v blocks x).top
    top_after =
        let some = may.inside.extent.some in
        let ends : x.end ≡ x.first + (x.end - x.first) = omega arith in
        top_least ∙ ap (λ (n : ℕ). max v.top (least_top f v.levels n)) ends

    far_many : length (past_root f u.levels root x) ≡ length far
    far_many = ap length far_same

    unknown_few : length m.absent + length far ≤ length (unknown f v blocks x)
    unknown_few = few_unknown blocks m.absent m.are_absent.once m.are_absent.missing

    found : FindsAbsent f tells v (rested w) blocks x (length m.absent + length far)
    found = record {
      capped = (let c = m.capped in let e = far_many in let s = rooted.range.frames in omega arith);
      few = unknown_few;
      shown = λ t.
          let here = m.shown t in
          let s = few_shown blocks m.absent m.are_absent.once m.are_absent.missing here.0 here.2 in
          (Top root ∷ [] ++ here.0, here.1 ∙ ap (λ (xs : List Absence). xs ++ here.0) (rooted.told t).1 ∙ append_assoc v.absent (Top root ∷ []) here.0, s);
    }

    replaced_same : length (replaced f u (tiles f x)) ≡ length (replaced f v (tiles f x))
    replaced_same = ap (λ (ps : List Position). length (filter (is_replaced f (tiles f x)) ps)) rooted.book.tables

    pub is_mapped : IsMapped f tells v (rested w) blocks x
    is_mapped = record {
      range = (let r = range_on rooted.range m.range in record { frames = r.frames; levels = r.levels; first = r.first; count = r.count });
      rest = record { path = refl; prepared = m.prepared; end = m.end ∙ rooted.purse.end ∙ rest.end; pieces = blocks_after };
      tables = tables_after good v may.inside.extent blocks w.tables may.levels few aligned stand.sorted sorted_after tables_same;
      top = top_after;
      frames = record {
        absent = length m.absent + length far;
        found = found;
        freed = m.freed;
        drawn = m.drawn;
        linked = m.used;
        purse = ap (λ (xs : List ℕ). m.freed ++ (m.drawn ++ xs)) (sym rooted.purse.purse) ∙ m.purse;
        back = let b = m.back in let gone = replaced_same in let same = covered_many good v may.inside.extent aligned in omega arith;
        few = (let a = m.few in let b = unknown_few in let e = far_many in omega arith);
        within = (let a = m.few in let e = far_many in omega arith);
        spared = (let a = m.spared in let p : length u.purse ≡ length v.purse = ap length rooted.purse.purse in let e = far_many in omega arith);
      };
      known = λ p h. m.known p ((root_loads rooted).known p h);
      busy = λ frame h. m.busy frame (((root_loads rooted).busy frame).1 h);
      grew = λ t.
          let here = m.shown t in let lost = m.taken t in (
            record { facts = Top root ∷ [] ++ here.0; are = here.1 ∙ ap (λ (xs : List Absence). xs ++ here.0) (rooted.told t).1 ∙ append_assoc v.absent (Top root ∷ []) here.0 },
            lost.0,
            lost.1 ∙ ap (λ (xs : List ℕ). xs ++ lost.0) (rooted.told t).0,
          );
      stores = λ t. m.stores t ∙ ap (λ (xs : List Change). xs ++ map Written (all_pieces f (tiles f x))) (rooted.told t).2;
    }

    -- over a lone holder, where so many positions were linked before
    module _ (aside : Aside) (is : linked ≡ linked_count v aside) (a : alone) (a_u : alone_u) where
      top_is : v.top ≡ root
      top_is = sym (rooted.exact a)

      high_top : root < least_top f v.levels x.end
      high_top = past_top good may.inside.extent v.levels root may.levels high past

      -- the lacking ones of the spine are the levels that are raised
      spine_many : length (filter (is_spine v.levels) (lacking f v blocks x)) ≡ least_top f v.levels x.end - root
      spine_many =
          let top : ℕ = least_top f v.levels x.end in
          let levels : List Position = map spine_position (levels_between (root + 1) top) in
          let many : length levels ≡ top + 1 - (root + 1) = length-map-range_with_len spine_position (root + 1) (top + 1 - (root + 1)) in
          let e = same_length (filter (is_spine v.levels) (lacking f v blocks x)) levels
          (sorted_once (filter (is_spine v.levels) (lacking f v blocks x)) (sorted_filter (is_spine v.levels) (lacking f v blocks x) (sorted_filter _ (all_needed f v.levels (tiles f x)) (needs_sorted f v.levels (tiles f x)))))
          (sorted_once levels (sorted_levels spine_position (λ i. refl) (top + 1 - (root + 1)) (root + 1)))
          (λ p h.
          let s = among_filtered (is_spine v.levels) (lacking f v blocks x) p h in
          let r = among_filtered (λ q. not (is_linked v.levels (book_of v blocks) q)) (all_needed f v.levels (tiles f x)) p s.0 in
          let b = spine_back v.levels p s.1 in
          let up : root < p.level = elim (cases_lt root p.level) [
            | inl fine ↦ fine
            | inr low ↦ absurd (
                let exact = top_is in
                false≢true (sym (not-true (is_linked v.levels (book_of v blocks) p) r.1)
                ∙ or_left (is_spine v.levels p && nat_le p.level v.top) _ (and_from (is_spine v.levels p) _ s.1 (le-leb p.level v.top (omega arith)))))
          ] in
          let to = needed_up p r.0 in
          subst (IsAmong levels) (sym b.1) (levels_in spine_position (root + 1) top p.level (omega arith) to))
          (λ p h.
          let r = in_levels spine_position (λ i. refl) (root + 1) top p h in
          let past_it : IsAmong far (spine_position p.level) = spine_far p.level (let l = r.0 in omega arith) r.1 in
          subst (IsAmong (filter (is_spine v.levels) (lacking f v blocks x))) r.2
          (among_passes (is_spine v.levels) (lacking f v blocks x) (spine_position p.level) (far_lacks blocks (spine_position p.level) past_it) (spine_is v.levels p.level (let l = r.0 in let h = high in omega arith)))) in
          let up = high_top in omega arith
        where
          needed_up : (p : Position) → IsAmong (all_needed f v.levels (tiles f x)) p → p.level ≤ least_top f v.levels x.end
          needed_up p needed =
              let some = may.inside.extent.some in let input = may.inside.extent.in_input in
              let ends : x.first + (x.end - x.first) ≡ x.end = omega arith in
              let e : least_top f v.levels (x.first + (x.end - x.first)) ≡ least_top f v.levels x.end = ap (least_top f v.levels) ends in
              let start = may.levels in
              let most = needed_below f v.levels x.first x.out (x.end - x.first) x.prot good.has_pages (λ k b. omega (arith, good.sizes_low k b, good.start_low)) (omega arith) may.inside.extent.in_output p needed in omega arith

          spine_far : (level : ℕ) → root < level → level ≤ least_top f v.levels x.end → IsAmong far (spine_position level)
          spine_far level from to =
              subst (λ (ps : List Position). IsAmong ps (spine_position level)) far_same (spine_past good may_beyond level from (let e = ap (λ (l : ℕ). least_top f l x.end) rooted.range.levels in omega arith))

      pub links_all : LinksAll f v (rested w) aside blocks x
      links_all =
          let lacks = all_lacking blocks m.absent m.are_absent.once m.are_absent.missing a (m.are_absent.all a_u) in
          let room = m.room a_u in let frames = rooted.range.frames in let e = far_many in
          let more = tables_more good v blocks may.inside.extent may.levels few w.tables stand.sorted sorted_after tables_same in
          let parts = length-filter_both (is_spine v.levels) (λ p. not (is_spine v.levels p)) (λ p. refl) (lacking f v blocks x) in
          let spine = spine_many in
          let top = top_least in let exact = top_is in let up = high_top in let low = lawful.top_least in
          let levels : w.levels ≡ v.levels = m.range.levels ∙ rooted.range.levels in
          let count_w : length (levels_between (starting_top w.levels) w.top) ≡ w.top + 1 - starting_top w.levels = length-range_with_len (starting_top w.levels) (w.top + 1 - starting_top w.levels) in
          let count_v : length (levels_between (starting_top v.levels) v.top) ≡ v.top + 1 - starting_top v.levels = length-range_with_len (starting_top v.levels) (v.top + 1 - starting_top v.levels) in
          let gone = replaced_same in
          let back = m.only a_u in let used = m.few in
          let purse : length u.purse ≡ length v.purse = ap length rooted.purse.purse in
          let sum : length (m.freed ++ (m.drawn ++ u.purse)) ≡ length (m.used ++ w.purse) = ap length m.purse in
          let left : length (m.freed ++ (m.drawn ++ u.purse)) ≡ length m.freed + (length m.drawn + length u.purse) =
          length-append m.freed (m.drawn ++ u.purse) ∙ ap (λ (n : ℕ). length m.freed + n) (length-append m.drawn u.purse) in
          let right = length-append m.used w.purse in
          record { enough = omega arith; linked = omega arith; none_lost = omega arith }

  -- It was refused.
  module _ (blocks : List Block) (rest : IsAtRest f v blocks) (alone_u : Type 0) (linked : ℕ) (w : View) where
    here : Standing f tells v u blocks x root
    here = standing blocks rest

    unmapped : IsFree f u x.first x.end → lowest_mapped (book_of v blocks) x.first x.end ≡ None
    unmapped free = none_mapped good rest x.first x.end may.inside.extent.some (free_on f x.first x.end rooted.book free)

    pub is_refused : (e : MapRefused) → HasCauseBeyond f tells alone_u linked u w x root e → occupied f x (book_of v blocks) ≡ refusal_of e
    is_refused (refused.NoFrames absent held) h = ap (λ o. option_map (λ page. Occupied (byte_at f page)) o) (unmapped h.free)
    is_refused (refused.Occupied address) h =
        ap (λ o. option_map (λ page. Occupied (byte_at f page)) o) (first_mapped good rest here.lawful owns x.first x.end h.0 (lowest_on rooted.book h.2))
        ∙ ap (λ (n : ℕ). Some (Occupied n)) (sym h.1)
    is_refused refused.Misaligned h = absurd h
    is_refused refused.OutsideLease h = absurd h
    is_refused refused.OutputRange h = absurd h

    -- want of frames
    module _ {absent held : ℕ} (l : LacksBeyond f tells alone_u linked u w x root absent held) where
      far_count : length (past_root f u.levels root x) ≡ length far
      far_count = ap length far_same

      wants : WantsFrames f tells v (rested w) blocks x absent held
      wants =
          let n = l.counted in let c = n.count_is in let sum = l.sum in let e = far_count in let frames = rooted.range.frames in
          let purse = rooted.purse.purse in
          record {
            more = l.lacks.more;
            held_is = l.lacks.held_is;
            found = record {
              capped = omega arith;
              few = (let s = few_unknown blocks n.absent n.once n.missing in omega arith);
              shown = λ t.
                  let told = n.told t in
                  let s = few_shown blocks n.absent n.once n.missing told.0 told.2 in
                  (Top root ∷ [] ++ told.0, told.1 ∙ ap (λ (xs : List Absence). xs ++ told.0) (rooted.told t).1 ∙ append_assoc v.absent (Top root ∷ []) told.0, omega arith);
            };
            idle = λ over. l.lacks.idle (omega arith) ∙ purse;
            tried = λ t. elim (l.lacks.tried t) [
              | inl over ↦ inl (omega arith)
              | inr each ↦ inr (results.each_by good here t each)
            ];
          }

      short : alone → alone_u → (v.frames < linked + length (lacking f v blocks x)) × (absent ≡ min (v.frames + 1) (length (lacking f v blocks x)))
      short a a_u =
          let n = l.counted in let c = n.count_is in let sum = l.sum in let e = far_count in let frames = rooted.range.frames in
          let more = l.lacks.more in let is = l.lacks.held_is in
          let most = few_lacking blocks n.absent n.once n.missing in
          elim (cases_lt l.near (u.frames + 1)) [
            | inl fits ↦
                let all = all_lacking blocks n.absent n.once n.missing a (n.all a_u fits) in
                elim (l.lacks.all a_u) [
                  | inl none ↦ (omega arith, omega arith)
                  | inr sum' ↦ (omega arith, omega arith)
                ]
            | inr many' ↦ (omega arith, omega arith)
          ]

    pub is_wanting : (e : MapRefused) → HasCauseBeyond f tells alone_u linked u w x root e → IsWanting f tells v (rested w) blocks x e
    is_wanting (refused.NoFrames absent held) h = wants h
    is_wanting refused.Misaligned h = tt
    is_wanting refused.OutsideLease h = tt
    is_wanting refused.OutputRange h = tt
    is_wanting (refused.Occupied address) h = tt

    pub is_short_of : alone → alone_u → (e : MapRefused) → HasCauseBeyond f tells alone_u linked u w x root e → IsShortOf f v linked blocks x e
    is_short_of a a_u (refused.NoFrames absent held) h = short h a a_u
    is_short_of a a_u refused.Misaligned h = tt
    is_short_of a a_u refused.OutsideLease h = tt
    is_short_of a a_u refused.OutputRange h = tt
    is_short_of a a_u (refused.Occupied address) h = tt

  -- The root's table is left in the end.
  module _ (alone_u : Type 0) (linked : ℕ) (w z : View) (r : Result (Unit {0}) MapRefused) (ends : EndsBeyond f tells alone_u linked u w x root r)
      (left : (front nodes : List Node) → w.path ≡ front ++ nodes → length nodes ≡ 1 → z ≡ record w { path = front }) where
    pub one_table : (r : Result (Unit {0}) MapRefused) → EndsBeyond f tells alone_u linked u w x root r → length w.path ≡ 1
    one_table (Ok t) m = ap length m.path.1.1
    one_table (Err e) m = ap length (m.stays.path ∙ rooted.path.1)

    at_rest : z ≡ rested w
    at_rest = left [] w.path refl (one_table r ends)

    mapped : MappedBeyond f tells alone_u linked u w x root → (blocks : List Block) → IsAtRest f v blocks → IsMapped f tells v z blocks x
    mapped m blocks rest = subst (λ (y : View). IsMapped f tells v y blocks x) (sym at_rest) (is_mapped blocks rest m)

    answers_by : (r : Result (Unit {0}) MapRefused) → EndsBeyond f tells alone_u linked u w x root r → Answers f tells v z (occupied f x) x r
    answers_by (Ok t) m = record {
      range = (mapped m may.rest.0 may.rest.1).range;
      accepted = λ blocks rest. accepts blocks rest m;
      mapped = mapped m;
    }
    answers_by (Err e) m =
        let stand = standing may.rest.0 may.rest.1 in
        record {
          stays = subst (IsRefused f tells v) (sym at_rest) (results.stays_by good stand m.stays may.rest.1.path);
          purse = subst (λ (y : View). KeepsPurse v y e) (sym at_rest) (results.keeps_purse good stand w e m.purse);
          refused = λ blocks rest. is_refused blocks rest alone_u linked w e m.cause;
          wants = λ blocks rest. subst (λ (y : View). IsWanting f tells v y blocks x e) (sym at_rest) (is_wanting blocks rest alone_u linked w e m.cause);
        }

    pub answers_beyond : Answers f tells v z (occupied f x) x r
    answers_beyond = answers_by r ends

    rests_by : (r : Result (Unit {0}) MapRefused) → Answers f tells v z (occupied f x) x r → Rests f z
    rests_by (Ok t) m = (_, (m.mapped may.rest.0 may.rest.1).rest)
    rests_by (Err e) m =
        let s = m.stays in let rest = may.rest in
        (rest.0, record { path = s.path ∙ rest.1.path; prepared = s.prepared ∙ rest.1.prepared; end = s.end ∙ rest.1.end; pieces = s.book.pieces ∙ rest.1.pieces })

    pub rests_beyond : Rests f z
    rests_beyond = rests_by r answers_beyond

    -- over a lone holder, which has set this aside
    module _ (aside : Aside) (is : linked ≡ linked_count v aside) (a : alone) (a_u : alone_u) where
      accounts_by : (r : Result (Unit {0}) MapRefused) → EndsBeyond f tells alone_u linked u w x root r → Accounts f v z aside x r
      accounts_by (Ok t) m = λ blocks rest. subst (λ (y : View). LinksAll f v y aside blocks x) (sym at_rest) (links_all blocks rest m aside is a a_u)
      accounts_by (Err e) m =
          let s = results.stays_by good (standing may.rest.0 may.rest.1) m.stays may.rest.1.path in (
            ap (λ (y : View). linked_count y aside) at_rest ∙ linked_same v (rested w) aside s.range s.book,
            λ blocks rest. subst (λ (n : ℕ). IsShortOf f v n blocks x e) is (is_short_of blocks rest alone_u linked w a a_u e m.cause),
          )

      pub accounts_beyond : Accounts f v z aside x r
      accounts_beyond = accounts_by r ends
