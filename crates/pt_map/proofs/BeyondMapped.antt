-- A map past the root from its look to its end: what was drawn, unlinked, raised and written.
use Rattle.std.proofs.Common.{◌≡◌, ◌⊎◌, ℕ, Bool, ◌+◌, ◌-◌, ◌*◌, ◌<◌, ◌≤◌, ◌↔◌, List, ◌++◌, length, false, inl, inr, refl, ap, sym, subst, ◌∙◌, arith, append_assoc, length-append}
use Rattle.std.specs.Prelude.{IsTrue, ◌&&◌, Some, filter, map, max, min, not}
use Rattle.std.proofs.lemmas.Bool.{and_from, cases_Bool, lt-ltb, not-true}
use Rattle.std.proofs.lemmas.List.Filters.{length-filter_both}
use Rattle.std.proofs.lemmas.List.FromFn.{length-map-range_with_len}
use Rattle.std.proofs.lemmas.Nat.{mul-le, pow_below}
use Rattle.pt_model.specs.declared.position.Position.{Position}
use Rattle.pt_model.specs.Layout.{Layout, pages_of_table}
use Rattle.pt_model.specs.Pages.{byte_at}
use Rattle.pt_model.specs.Sets.{IsAmong, IsSorted, places}
use Rattle.pt_model.specs.Tables.{all_needed, end_of_table, is_spine, least_top, levels_between, position_over, spine_position, starting_top}
use Rattle.pt_model.proofs.Positions.{among_filtered, among_left, among_passes, among_right, length_within, sorted_filter, sorted_levels, sorted_once}
use Rattle.pt_model.proofs.Quotients.{root_over}
use Rattle.pt_model.proofs.Tops.{above_top, reaches_top, table_mono, top_below, top_low}
use Rattle.pt_format.specs.Laws.{IsLayout}
use Rattle.pt_tile.specs.declared.extent.Extent.{Extent}
use Rattle.pt_tile.specs.Extents.{tables_below, tiles}
use Rattle.pt_tile.proofs.FirstSizes.{extent_tiling}
use Rattle.pt_tile.proofs.Levels.{in_levels}
use Rattle.pt_view.specs.declared.view.View.{View}
use Rattle.pt_view.specs.declared.view.Absence.{Absence}
use Rattle.pt_view.specs.declared.view.Change.{Change}
use Rattle.pt_view.specs.declared.view.Change.TheVariants.{Written}
use Rattle.pt_view.specs.declared.view.Piece.{Piece}
use Rattle.pt_view.specs.declared.view.Node.{Node}
use Rattle.pt_view.specs.Calls.{lowest}
use Rattle.pt_view.specs.Lists.{IsIn}
use Rattle.pt_view.specs.Loads.{AddsAbsences, ByLoads}
use Rattle.pt_view.specs.Pieces.{IsOneOf, add_pieces, all_pieces}
use Rattle.pt_view.specs.Views.{Aside, SameBook, SameRange, linked_count}
use Rattle.pt_view.proofs.Loads.{absences_on}
use Rattle.pt_view.proofs.Stays.{book_on, range_on}
use Rattle.pt_walk.specs.Walks.{IsFree, IsLowest, IsWayDown}
use Rattle.pt_walk.proofs.Descent.{owns_on}
use Rattle.pt_sweep.specs.Raises.{AtRoot, MayRaise, Raises}
use Rattle.pt_map.specs.declared.refused.MapRefused.{MapRefused}
use Rattle.pt_map.specs.declared.refused.MapRefused.TheVariants as refused
use Rattle.pt_map.specs.Absent.{Counted, is_shown}
use Rattle.pt_map.specs.Answers.{FindsEach}
use Rattle.pt_map.specs.Beyond.{MappedBeyond, MayMakeWayNear, MayMapBeyond, RefusedBeyond, near_root}
use Rattle.pt_map.specs.Filled.{Fills, HasRoom, MayFill, MayStore}
use Rattle.pt_map.specs.Past.{past_root, reaches_past}
use Rattle.pt_map.specs.Replaced.{HasNoneReplaced, UnlinksReplaced, is_replaced, replaced}
use Rattle.pt_map.specs.Requests.{Gathered, HasFrames, IsLackOf, LacksFrames}
use Rattle.pt_map.specs.Stands.{StandsAt}
use Rattle.pt_map.proofs.AbsentCounted.{shown_left}
use Rattle.pt_map.proofs.MapFromTable.{linked_walked, no_piece_kept, refused_walked}
use Rattle.pt_map.proofs.NearRoot.{low, spine_is}
use Rattle.pt_map.proofs.NeededTables.{has_below, index_some, needed_same, space_in_table}
use Rattle.pt_map.proofs.PastRoot.{past_top, root_low, small, spine_above}
use Rattle.pt_map.proofs.ReplacedTables.{needed_stays, replaced_none, spine_stays, two_parts}
use Rattle.pt_map.proofs.TopsOver.{top_of_tiling}
use Rattle.pt_map.proofs.NearRoot.{spine_back}

-- a root of the same levels, path, top and prepared frame, with no spine position forgotten
root_on : {f : Layout} {v w : View} {root : ℕ} → AtRoot f v root → w.levels ≡ v.levels → w.path ≡ v.path → w.top ≡ v.top → w.prepared ≡ v.prepared →
    ((l : ℕ) → starting_top v.levels ≤ l → l ≤ root → IsAmong v.known (spine_position l) → IsAmong w.known (spine_position l)) → AtRoot f w root
root_on a levels path top prepared known = record {
  path = (a.path.0, path ∙ a.path.1);
  reaches = (let r = a.reaches in omega arith);
  low = (let l = a.low in omega arith);
  legal = a.legal;
  spine = λ l from to. known l (omega arith) to (a.spine l (omega arith) to);
  none = prepared ∙ a.none;
}

module _ {f : Layout} (good : IsLayout f) {v : View} {x : Extent} {root : ℕ} (may : MayMapBeyond f v x root) where
  abbrev n : ℕ
  n = v.levels

  abbrev top : ℕ
  top = least_top f n x.end

  abbrev past : List Position
  past = past_root f n root x

  -- the top that the code finds
  pub top_found : {found : ℕ} → found ≡ least_top f (root + 1) x.end → found ≡ top
  top_found {found} is =
      let input = may.extent.in_input in let wide = space_in_table good in
      let few = good.start_low in let high = good.start_high in
      let up = past_top good may.extent n root may.start (low good may) may.past in
      let l = low good may in let below = root_low good may.extent n root may.start l may.past in
      let a = top_below f n x.end (let s = may.start in omega arith) may.few (omega arith) (omega arith) in
      let b = top_below f (root + 1) x.end (omega arith) (omega arith) (omega arith) (omega arith) in
      let here = above_top f n x.end top a (omega arith) in
      let there = above_top f (root + 1) x.end (least_top f (root + 1) x.end) b (omega arith) in
      let least = top_low f (root + 1) x.end in
      let one = reaches_top f (root + 1) x.end top (omega arith) here in
      let other = reaches_top f n x.end (least_top f (root + 1) x.end) (omega arith) there in omega arith

  pub top_high : root < top
  top_high = past_top good may.extent n root may.start (low good may) may.past

  pub top_few : top < f.levels
  top_few =
      let input = may.extent.in_input in let wide = space_in_table good in let few = good.start_low in let high = good.start_high in
      top_below f n x.end (let s = may.start in omega arith) may.few (omega arith) (omega arith)

  -- Of the tables past the root the spine's are at least those of the levels that are raised.

  abbrev off : List Position
  off = filter (λ p. not (is_spine n p)) past

  pub spine_past : (level : ℕ) → root < level → level ≤ top → IsAmong past (spine_position level)
  spine_past level from to =
      let some = index_some good in
      let step = mul-le f.index (root + 2) f.index (level + 1) (omega arith) (omega arith) in
      let wide = pow_below (f.index * (root + 1)) (f.index * (level + 1)) (omega arith) in
      among_passes (reaches_past f root) (all_needed f n (tiles f x)) (spine_position level)
      (spine_above good may.extent n root may.start (low good may) may.past level (let l = low good may in omega arith) to)
      (lt-ltb (pages_of_table f root) (end_of_table f (spine_position level)) (let e : pages_of_table f root < 0 + pages_of_table f level = omega arith in e))

  raised : List Position
  raised = map spine_position (levels_between (root + 1) top)

  pub off_few : length off + (top - root) ≤ length past
  unfolding raised
  off_few =
      let both = length-filter_both (is_spine n) (λ p. not (is_spine n p)) (λ p. refl) past in
      let many : length raised ≡ top + 1 - (root + 1) = length-map-range_with_len spine_position (root + 1) (top + 1 - (root + 1)) in
      let within = length_within raised (filter (is_spine n) past) (sorted_once raised (sorted_levels spine_position (λ i. refl) (top + 1 - (root + 1)) (root + 1)))
      (λ p m.
      let r = in_levels spine_position (λ i. refl) (root + 1) top p m in
      subst (IsAmong (filter (is_spine n) past)) r.2 (among_passes (is_spine n) past (spine_position p.level) (spine_past p.level (let a = r.0 in omega arith) r.1)
      (spine_is n p.level (let l = low good may in let a = r.0 in omega arith)))) in
      let up = top_high in omega arith

-- What the look, from view v to view c, and the draw, from there to view g, keep.
module _ {f : Layout} (good : IsLayout f) {tells : Type 0} {v c g : View} {x : Extent} {root drawn_for : ℕ} (may : MayMapBeyond f v x root)
    (walked : ByLoads tells v c) (path : c.path ≡ v.path) (gathered : Gathered tells c g drawn_for) where
  range_kept : SameRange v g
  range_kept = range_on walked.range gathered.keeps.range

  book_kept : SameBook v g
  book_kept = book_on walked.book gathered.keeps.book

  path_kept : g.path ≡ v.path
  path_kept = gathered.place.path ∙ path

  prepared_kept : g.prepared ≡ v.prepared
  prepared_kept = gathered.place.prepared ∙ walked.prepared

  known_kept : (p : Position) → IsAmong v.known p → IsAmong g.known p
  known_kept p h = (gathered.keeps.known p).1 (walked.known p h)

  busy_kept : (frame : ℕ) → IsIn v.busy frame → IsIn g.busy frame
  busy_kept frame h = gathered.busy frame ((walked.busy frame).1 h)

  taken_kept : tells → (lost : List ℕ) × (g.taken ≡ v.taken ++ lost)
  taken_kept t = let r = gathered.taken t in (r.0, r.1 ∙ ap (λ (xs : List ℕ). xs ++ r.0) (walked.taken t))

  drawn_kept : g.purse ≡ gathered.drawn ++ v.purse
  drawn_kept = gathered.purse ∙ ap (λ (xs : List ℕ). gathered.drawn ++ xs) walked.purse.purse

  root_kept : AtRoot f g root
  root_kept = root_on may.at range_kept.levels path_kept book_kept.top prepared_kept (λ l from to h. known_kept (spine_position l) h)

  may_kept : MayMapBeyond f g x root
  may_kept = record {
    at = root_kept;
    extent = may.extent;
    past = may.past;
    from = (let a = may.from in let e = range_kept.first in omega arith);
    to = (let a = may.to in let e = range_kept.first in let d = range_kept.count in omega arith);
    start = (let a = may.start in let e = range_kept.levels in omega arith);
    few = (let a = may.few in let e = range_kept.levels in omega arith);
    owns = owns_on f range_kept book_kept may.owns;
    tables = λ p m.
        let t = may.tables p (subst (λ (ps : List Position). IsAmong ps p) book_kept.tables m) in
        record { off_spine = subst (λ (l : ℕ). is_spine l p ≡ false) (sym range_kept.levels) t.off_spine; aligned = t.aligned };
    once = λ p. subst (λ (ps : List Position). places p ps < 2) (sym book_kept.tables) (may.once p);
    over_tables = λ p m. may.over_tables p (subst (λ (ps : List Position). IsAmong ps p) book_kept.tables m);
  }

  pub may_make_way : {tables : Bool} → IsFree f v x.first x.end → (tables ≡ false → HasNoneReplaced f v (tiles f x)) → MayMakeWayNear f g x root tables
  may_make_way free none = record {
    may = may_kept;
    free = λ page from to y m. free page from to y (subst (λ (ps : List Piece). IsOneOf ps y) book_kept.pieces m);
    none = λ e p m. none e p (subst (λ (ps : List Position). IsAmong ps p) book_kept.tables m);
  }

  module _ {alone : Type 0} {cap near : ℕ} (found : Counted f tells alone v c (near_root f v.levels root x) cap near) (free : IsFree f v x.first x.end) (is : cap ≡ v.frames + 1)
      (asks : drawn_for ≡ min cap (near + length (past_root f v.levels root x))) {alone_c : Type 0} {old new : Aside} (to_c : alone → alone_c) (aside : new ≡ old) where
    same : linked_count c new ≡ linked_count v old
    same = linked_walked v c old new walked aside

    -- each table counted was shown absent
    told_on : tells → (facts : List Absence) × (g.absent ≡ v.absent ++ facts) × ((p : Position) → IsAmong found.absent p → IsTrue (is_shown f facts p))
    told_on t = let d = found.told t in (d.0, gathered.absences t ∙ d.1, d.2)

    counted_drawn : Counted f tells alone v g (near_root f v.levels root x) (v.frames + 1) near
    counted_drawn = subst (λ (m : ℕ). Counted f tells alone v g (near_root f v.levels root x) m near) is (record {
      absent = found.absent;
      count_is = found.count_is;
      once = found.once;
      missing = found.missing;
      others = λ less p h. elim (found.others less p h) [ inl a ↦ inl a | inr k ↦ inr ((gathered.keeps.known p).1 k) ];
      all = found.all;
      told = told_on;
    })

    finds_before : tells → FindsEach c g → FindsEach v g
    finds_before t each = record {
      drawn = each.drawn;
      lost = each.lost;
      purse = each.purse ∙ ap (λ (xs : List ℕ). each.drawn ++ xs) walked.purse.purse;
      taken = each.taken ∙ ap (λ (xs : List ℕ). xs ++ each.lost) (walked.taken t);
      each = λ frame less. elim (each.each frame (subst (λ (n : ℕ). frame < n) (sym walked.range.frames) less)) [
        | inl held ↦ inl (subst (λ (xs : List ℕ). IsIn xs frame) walked.purse.purse held)
        | inr other ↦ inr other
      ];
    }

    -- frames lack
    pub lack_beyond : (e : MapRefused) → IsLackOf tells alone_c (linked_count c new) c g drawn_for e → RefusedBeyond f tells alone (linked_count v old) v g x root e
    lack_beyond refused.Misaligned h = absurd h
    lack_beyond refused.OutsideLease h = absurd h
    lack_beyond refused.OutputRange h = absurd h
    lack_beyond (refused.Occupied address) h = absurd h
    lack_beyond (refused.NoFrames count held) h =
        let frames : c.frames ≡ v.frames = walked.range.frames in
        let l = h.1 in
        record {
          stays = record {
            range = range_kept;
            book = book_kept;
            path = path_kept;
            prepared = prepared_kept;
            end = gathered.place.end ∙ walked.purse.end;
            purse = (gathered.drawn, drawn_kept);
            known = known_kept;
            busy = busy_kept;
            grew = λ t. let lost = taken_kept t in let d = told_on t in (record { facts = d.0; are = d.1 }, lost.0, lost.1);
            stores = λ t. gathered.stores t ∙ walked.stores t;
          };
          purse = tt;
          cause = record {
            free = free;
            near = near;
            counted = counted_drawn;
            sum = h.0 ∙ asks ∙ ap (λ (m : ℕ). min m (near + length (past_root f v.levels root x))) is;
            lacks = subst (λ (m : ℕ). LacksFrames tells alone (linked_count v old) v g m held) (sym h.0) (record {
              more = l.more;
              held_is = l.held_is;
              idle = λ over. l.idle (omega arith) ∙ walked.purse.purse;
              tried = λ t. elim (l.tried t) [ inl over ↦ inl (omega arith) | inr each ↦ inr (finds_before t each) ];
              all = λ a. elim (l.all (to_c a)) [ inl over ↦ inl (omega arith) | inr sum ↦ inr (let s = same in omega arith) ];
            });
          };
        }

    -- There are frames for all absent tables: way was made, from view g to view z.
    module _ (has : HasFrames alone_c (linked_count c new) c g drawn_for) {alone_g : Type 0} (to_g : alone → alone_g) {z : View} (made : UnlinksReplaced f tells alone_g (tiles f x) g z) where
      near_is : length found.absent ≡ near
      near_is = let e = found.count_is in let h = has.frames in let s = walked.range.frames in let a = asks in omega arith

      all_is : drawn_for ≡ length found.absent + length (past_root f v.levels root x)
      all_is = let e = near_is in let h = has.frames in let s = walked.range.frames in let a = asks in omega arith

      longer : length z.purse ≡ length made.purse.0 + length g.purse
      longer = ap length made.purse.1 ∙ length-append made.purse.0 g.purse

      range_z : SameRange v z
      range_z = range_on range_kept made.range

      spine_z : (l : ℕ) → starting_top v.levels ≤ l → IsAmong g.known (spine_position l) → IsAmong z.known (spine_position l)
      spine_z l from h = made.known (spine_position l) h (spine_stays good may.extent v.levels may.start l from)

      root_z : AtRoot f z root
      root_z = root_on root_kept made.range.levels made.path made.top made.prepared (λ l from to h. spine_z l (let e = range_kept.levels in omega arith) h)

      -- the root may be raised
      pub may_raise : {found_top : ℕ} → found_top ≡ least_top f (root + 1) x.end → MayRaise f z root found_top
      may_raise {found_top} is_top =
          let e = top_found good may is_top in
          let few = top_few good may in let off = off_few good may in
          let all = all_is in let held = has.held in let l = longer in
          record { at = root_z; legal = omega arith; frames = omega arith }

      left_tables : (p : Position) → IsAmong z.tables p ↔ (IsAmong v.tables p × (is_replaced f (tiles f x) p ≡ false))
      left_tables p = (
        (λ m.
            let r = among_filtered (λ q. not (is_replaced f (tiles f x) q)) g.tables p (subst (λ (ps : List Position). IsAmong ps p) made.tables m) in
            (subst (λ (ps : List Position). IsAmong ps p) book_kept.tables r.0, not-true (is_replaced f (tiles f x) p) r.1)),
        (λ h.
            subst (λ (ps : List Position). IsAmong ps p) (sym made.tables)
            (among_passes (λ q. not (is_replaced f (tiles f x) q)) g.tables p (subst (λ (ps : List Position). IsAmong ps p) (sym book_kept.tables) h.0) (ap not h.1))),
      )

      -- The root was raised, from view z to view y.
      module _ {alone_z : Type 0} {y : View} {found_top level : ℕ} (is_top : found_top ≡ least_top f (root + 1) x.end) (raises : Raises f tells alone_z z y root found_top level) where
        range_y : SameRange v y
        range_y = range_on range_z raises.range

        up : least_top f v.levels x.end ≤ level
        up = let e = top_found good may is_top in let h = raises.high in omega arith

        reaches_all : x.end ≤ pages_of_table f level
        reaches_all =
            let legal = raises.at.legal in
            let here = above_top f v.levels x.end (least_top f v.levels x.end) (top_few good may) (omega arith) in
            let wide = table_mono f (least_top f v.levels x.end) level up in omega arith

        pieces_y : y.pieces ≡ v.pieces
        pieces_y = raises.pieces ∙ made.pieces ∙ book_kept.pieces

        tables_y : (p : Position) → IsAmong y.tables p ↔ (IsAmong v.tables p × (is_replaced f (tiles f x) p ≡ false))
        tables_y p = subst (λ (ps : List Position). IsAmong ps p ↔ (IsAmong v.tables p × (is_replaced f (tiles f x) p ≡ false))) (sym raises.tables) (left_tables p)

        stands : StandsAt f y x level
        stands =
            let some = may.extent.some in
            let over : spine_position level ≡ position_over f x.first level = root_over f x.first level (let r = reaches_all in omega arith) in
            let first = range_y.first in let count = range_y.count in let levels = range_y.levels in
            let from = may.from in let to = may.to in
            let high = raises.high in
            let node : Node = record { frame = raises.at.path.0; position = spine_position level } in
            let long : length y.path ≡ 1 = ap length raises.at.path.1 in
            let back : 1 + level - 1 ≡ level = omega arith in
            record {
              at = record {
                extent = may.extent;
                range = record {
                  below = raises.at.legal;
                  over = record { frame = raises.at.path.0; is = ap lowest raises.at.path.1 ∙ ap (λ (p : Position). Some (record { frame = raises.at.path.0; position = p })) over };
                  some = some;
                  under = subst (λ (p : Position). x.end ≤ end_of_table f p) over (let r = reaches_all in let e : x.end ≤ 0 + pages_of_table f level = omega arith in e);
                  in_space = may.extent.in_input;
                  from = omega arith;
                  to = omega arith;
                };
                low =
                    let k = small good may.extent v.levels root may.start (low good may) may.past in
                    let wider = mul-le f.index (root + 1) f.index (level + 1) (omega arith) (omega arith) in omega arith;
                spine = λ l high less. raises.at.spine l high (omega arith);
              };
              way = subst (λ (ns : List Node). IsWayDown f x.first (length ns + level) ns) (sym raises.at.path.1)
                  (let e : spine_position level ≡ position_over f x.first (1 + level - 1) = over ∙ ap (position_over f x.first) (sym back) in (e, tt));
              high = (let r = raises.at.reaches in omega arith);
              below = (let l = raises.at.legal in omega arith);
              none = raises.at.none;
              reach = (let u = up in let e = ap (λ (l : ℕ). least_top f l x.end) levels in omega arith);
            }

        store : MayStore f y x level
        store = record {
          stands = stands;
          no_piece = no_piece_kept f good v y x.first x.end may.owns pieces_y free;
          no_table = λ p m b here. replaced_none f p (tiles f x) ((tables_y p).0 m).1 b here;
        }

        abbrev lacking : List Position
        lacking = found.absent ++ off good may

        -- a needed table is known by now, or one of those that lack
        each : (p : Position) → IsAmong (tables_below f x level) p → IsAmong y.known p ⊎ IsAmong lacking p
        each p h =
            let b = has_below f level x p h in
            elim (cases_Bool (is_spine v.levels p)) [
              | inl spine ↦ inl (
                  let s = spine_back v.levels p spine in
                  subst (IsAmong y.known) (sym s.1) (raises.at.spine p.level (let from = s.0 in let levels = range_y.levels in omega arith) (let less = b.1 in omega arith)))
              | inr none ↦
                  let needed : IsAmong (all_needed f v.levels (tiles f x)) p = (needed_same good may.extent v.levels may.start may.few p none).1 b.0 in
                  elim (cases_Bool (reaches_past f root p)) [
                    | inl far ↦ inr (among_right p found.absent (off good may) (among_passes (λ q. not (is_spine v.levels q)) (past_root f v.levels root x) p
                        (among_passes (reaches_past f root) (all_needed f v.levels (tiles f x)) p needed far) (ap not none)))
                    | inr close ↦ elim (found.others (let h = has.frames in let s = walked.range.frames in let a = all_is in let e = near_is in omega arith) p
                        (among_passes (λ q. not (reaches_past f root q) && not (is_spine v.levels q)) (all_needed f v.levels (tiles f x)) p needed (and_from (not (reaches_past f root p)) _ (ap not close) (ap not none)))) [
                          | inl a ↦ inr (among_left p found.absent (off good may) a)
                          | inr k ↦ inl (raises.known p (made.known p ((gathered.keeps.known p).1 k) (needed_stays good may.extent p b.0)))
                        ]
                  ]
            ]

        purse_y : length z.purse ≡ length raises.used + length y.purse
        purse_y = ap length raises.purse ∙ length-append raises.used y.purse

        room : HasRoom y (tables_below f x level) lacking
        room = record {
          each = each;
          frames =
              let sum = length-append found.absent (off good may) in let less = off_few good may in let e = top_found good may is_top in
              let all = all_is in let held = has.held in let l = longer in let p = purse_y in let f' = raises.few in let high = top_high good may in omega arith;
        }

        pub may_fill : MayFill f y x level
        may_fill = record { store = store; lacking = lacking; room = room }

        -- the frames of the tables that blocks take the place of came, and over a lone holder no other
        many_left : length z.tables + length (replaced f v (tiles f x)) ≡ length g.tables
        many_left =
            let left : length z.tables ≡ length (filter (λ p. not (is_replaced f (tiles f x) p)) v.tables) =
            ap length made.tables ∙ ap (λ (ps : List Position). length (filter (λ p. not (is_replaced f (tiles f x) p)) ps)) book_kept.tables in
            let all : length g.tables ≡ length v.tables = ap length book_kept.tables in
            let parts = two_parts (is_replaced f (tiles f x)) v.tables in omega arith

        each_freed : length (replaced f v (tiles f x)) ≤ length made.purse.0
        each_freed = let each = made.frees.each in let l = longer in let t = many_left in omega arith

        only_freed : alone → length made.purse.0 ≡ length (replaced f v (tiles f x))
        only_freed a = let only = made.frees.only (to_g a) in let l = longer in let t = many_left in omega arith

        -- The extent was written, from view y to view w.
        module _ {w : View} (fills : Fills f tells y w x level) where
          top_after : w.top ≡ max v.top (least_top f v.levels x.end)
          top_after =
              let some = may.extent.some in let levels = range_y.levels in
              let ends : x.first + (x.end - x.first) ≡ x.end = omega arith in
              let tops : least_top f y.levels (x.first + (x.end - x.first)) ≡ least_top f v.levels x.end = (λ i. least_top f (levels i) (ends i)) in
              let over = top_of_tiling f y.levels x.prot (tiles f x) y.top x.first x.out (x.end - x.first) (extent_tiling good may.extent) (omega arith) in
              let filled = fills.filled.top in
              let e = top_found good may is_top in let from = raises.top_from in let to = raises.top_to in let same_top : z.top ≡ v.top = made.top ∙ book_kept.top in omega arith

          pub mapped_beyond : MappedBeyond f tells alone (linked_count v old) v w x root
          mapped_beyond =
              let filled = fills.filled in
              let spends = (fills.spends lacking room).1 in
              let less : near < cap = (let h = has.frames in let s = walked.range.frames in let a = all_is in let e = near_is in omega arith) in
              let purse : length c.purse ≡ length v.purse = ap length walked.purse.purse in
              let all = all_is in
              record {
                free = free;
                absent = found.absent;
                are_absent = record { once = found.once; missing = found.missing; all = λ a p h. found.all a less p h };
                freed = made.purse.0;
                drawn = gathered.drawn;
                used = raises.used ++ spends.used;
                purse = ap (λ (xs : List ℕ). made.purse.0 ++ xs) (sym drawn_kept) ∙ sym made.purse.1 ∙ raises.purse
                    ∙ ap (λ (xs : List ℕ). raises.used ++ xs) spends.purse ∙ sym (append_assoc raises.used spends.used w.purse);
                back = each_freed;
                only = only_freed;
                spared = (let s = gathered.spared in omega arith);
                few =
                    let sum = length-append raises.used spends.used in let s = spends.few in
                    let both = length-append found.absent (off good may) in let o = off_few good may in let e = top_found good may is_top in
                    let r = raises.few in let high = top_high good may in omega arith;
                capped = (let h = has.frames in let s = walked.range.frames in omega arith);
                room = λ a. (let h = has.few (to_c a) in let enough = has.held in let s = same in let frames = walked.range.frames in omega arith);
                range = range_on range_y filled.range;
                path = (level, (raises.at.path.0, filled.path ∙ raises.at.path.1));
                prepared = filled.prepared ∙ raises.at.none;
                end = filled.end ∙ raises.end ∙ made.end ∙ gathered.place.end ∙ walked.purse.end;
                top = top_after;
                pieces = filled.pieces ∙ ap (λ (ps : List Piece). add_pieces f ps (all_pieces f (tiles f x))) pieces_y;
                tables = λ p. (
                  (λ m. elim ((filled.tables p).0 m) [
                    | inl was ↦ inl ((tables_y p).0 was)
                    | inr now ↦ inr (now.0, subst (λ (l : ℕ). is_spine l p ≡ false) range_y.levels now.1)
                  ]),
                  (λ h. (filled.tables p).1 (elim h [
                    | inl was ↦ inl ((tables_y p).1 was)
                    | inr now ↦ inr (now.0, subst (λ (l : ℕ). is_spine l p ≡ false) (sym range_y.levels) now.1)
                  ])),
                );
                in_order = λ s. filled.in_order (subst (λ (ps : List Position). IsSorted ps) (sym (raises.tables ∙ made.tables))
                    (sorted_filter (λ q. not (is_replaced f (tiles f x) q)) g.tables (subst (λ (ps : List Position). IsSorted ps) (sym book_kept.tables) s)));
                busy = λ frame h. (filled.busy frame).1 ((raises.busy frame).1 ((made.busy frame).1 (busy_kept frame h)));
                known = λ p h stays. filled.known p (raises.known p (made.known p (known_kept p h) stays));
                shown = λ t.
                    let d = told_on t in
                    let more : AddsAbsences g w = absences_on (absences_on (made.absent t) (raises.absent t)) (filled.absent t) in
                    (d.0 ++ more.facts, more.are ∙ ap (λ (xs : List Absence). xs ++ more.facts) d.1 ∙ append_assoc v.absent d.0 more.facts, λ p h. shown_left f d.0 more.facts p (d.2 p h));
                taken = λ t. let r = taken_kept t in (r.0, (filled.told t).0 ∙ raises.taken t ∙ made.taken t ∙ r.1);
                stores = λ t. (filled.told t).1 ∙ ap (λ (xs : List Change). xs ++ map Written (all_pieces f (tiles f x))) (raises.stores t ∙ made.stores t ∙ gathered.stores t ∙ walked.stores t);
              }

-- an extent of which a page is mapped
pub occupied_beyond : {f : Layout} {tells alone : Type 0} {linked : ℕ} {v w : View} {x : Extent} {root page address : ℕ} → ByLoads tells v w → w.path ≡ v.path → address ≡ byte_at f page →
    IsLowest f v x.first x.end page → RefusedBeyond f tells alone linked v w x root (refused.Occupied address)
occupied_beyond {f = f} {tells = tells} {v = v} {w = w} {page = page} walked path at lowest =
    record { stays = refused_walked f tells v w walked path; purse = walked.purse.purse; cause = (page, at, lowest) }
