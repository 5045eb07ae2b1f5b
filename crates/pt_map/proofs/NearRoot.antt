-- What of an extent lies under the root, which is too low for all of it: its needed tables, its free pages and the tables that
-- its blocks take the place of.
use Rattle.std.proofs.Common.{◌≡◌, ℕ, Bool, ◌+◌, ◌-◌, ◌*◌, ◌^◌, ◌<◌, ◌≤◌, ◌↔◌, List, ◌∷◌, [], true, false, inl, inr, refl, ap, sym, subst, ◌∙◌, arith}
use Rattle.std.specs.Prelude.{Some, ◌==◌, ◌&&◌, ◌||◌, filter, not, nat_le}
use Rattle.std.proofs.lemmas.Bool.{and_from, and_parts, cases_Bool, cases_lt, eq-eqb, eqb-true, false_from_ne_true, false≢true, le-leb, leb-true, not-true, or_left}
use Rattle.std.proofs.Math.Bool.{or-false}
use Rattle.std.proofs.lemmas.Nat.{pow_pos}
use Rattle.pt_model.specs.declared.block.Block.{Block}
use Rattle.pt_model.specs.declared.position.Position.{Position}
use Rattle.pt_model.specs.Layout.{Layout, pages_of_table}
use Rattle.pt_model.specs.Sets.{IsAmong}
use Rattle.pt_model.specs.Tables.{all_needed, end_of_table, is_spine, position_over, spine_position, starting_top}
use Rattle.pt_model.proofs.Positions.{among_filtered, among_here, among_more, among_passes, filter_in, filter_out, same_position}
use Rattle.pt_model.proofs.Quotients.{root_over}
use Rattle.pt_model.proofs.Tops.{table_mono}
use Rattle.pt_format.specs.Laws.{IsLayout}
use Rattle.pt_tile.specs.declared.extent.Extent.{Extent}
use Rattle.pt_tile.specs.Extents.{IsExtent, from, tables_below, tables_of, tiles}
use Rattle.pt_tile.proofs.FirstParts.{cut_step, tile_of}
use Rattle.pt_tile.proofs.Levels.{in_levels}
use Rattle.pt_view.specs.declared.view.View.{View}
use Rattle.pt_view.specs.Calls.{lowest}
use Rattle.pt_walk.proofs.Ranges.{clear_root}
use Rattle.pt_walk.specs.Walks.{HasNowhere, IsFree, IsLowest}
use Rattle.pt_walk.proofs.Descent.{own_piece}
use Rattle.pt_view.proofs.Pieces.{page_in_block}
use Rattle.pt_view.proofs.Loads.{loads_here}
use Rattle.pt_map.specs.declared.survey.Found.{Found}
use Rattle.pt_map.specs.declared.survey.Found.TheVariants.{Mapped, Absent}
use Rattle.pt_map.specs.Absent.{Counted, Finds, MaySurvey, Surveyed}
use Rattle.pt_map.specs.Filled.{IsTableIn}
use Rattle.pt_map.specs.Beyond.{FindsNear, MayMapBeyond, SurveyedNear, near_root}
use Rattle.pt_map.specs.Past.{reaches_past}
use Rattle.pt_map.specs.Replaced.{MayMakeWay, UnlinksReplaced, is_replaced}
use Rattle.pt_sweep.specs.Empties.{Unlinks}
use Rattle.pt_map.proofs.WayMade.{none_unlinked}
use Rattle.pt_map.specs.Stands.{IsExtentAt}
use Rattle.pt_map.proofs.AbsentCounted.{nothing_counted}
use Rattle.pt_map.proofs.ReplacedTables.{none_replaced, replaced_append}
use Rattle.pt_map.proofs.NeededTables.{below_has, has_below, needed_same}
use Rattle.pt_map.proofs.PastRoot.{far_block, near, near_all, near_part, not_past, parted, small, spine_alone, under_root}

pub spine_is : (levels level : ℕ) → levels - 1 ≤ level → is_spine levels (spine_position level) ≡ true
spine_is levels level low = and_from (nat_le (levels - 1) level) (0 == 0) (le-leb (levels - 1) level low) (eq-eqb 0 0 refl)

-- a position of the spine is over page 0
pub spine_back : (levels : ℕ) (p : Position) → is_spine levels p ≡ true → (starting_top levels ≤ p.level) × (p ≡ spine_position p.level)
spine_back levels p e =
    let b = and_parts (nat_le (starting_top levels) p.level) (p.base == 0) e in
    (leb-true (starting_top levels) p.level b.0, same_position p (spine_position p.level) refl (eqb-true p.base 0 b.1))

-- tables that are unlinked by a test are so by one that tells the same of the book's tables and of the known positions
unlinks_for : {f : Layout} {tells alone : Type 0} {v w : View} (p r : Position → Bool) → ((q : Position) → IsAmong v.tables q → r q ≡ p q) → ((q : Position) → r q ≡ false → p q ≡ false) →
    Unlinks f tells alone p v w → Unlinks f tells alone r v w
unlinks_for {v = v} p r tables less u = record {
  range = u.range;
  pieces = u.pieces;
  top = u.top;
  tables = u.tables ∙ same v.tables tables;
  path = u.path;
  prepared = u.prepared;
  end = u.end;
  busy = u.busy;
  known = λ q h none. u.known q h (less q none);
  purse = u.purse;
  frees = u.frees;
  taken = u.taken;
  stores = u.stores;
  absent = u.absent;
}
  where
    same : (ts : List Position) → ((q : Position) → IsAmong ts q → r q ≡ p q) → filter (λ q. not (p q)) ts ≡ filter (λ q. not (r q)) ts
    same [] cover = refl
    same (t ∷ ts) cover =
        let here : r t ≡ p t = cover t (among_here t ts) in
        let rest = same ts (λ q m. cover q (among_more q t ts m)) in
        elim (cases_Bool (p t)) [
          | inl e ↦ filter_out (λ q. not (p q)) t ts (ap not e) ∙ rest ∙ sym (filter_out (λ q. not (r q)) t ts (ap not (here ∙ e)))
          | inr e ↦ filter_in (λ q. not (p q)) t ts (ap not e) ∙ ap (λ (qs : List Position). t ∷ qs) rest ∙ sym (filter_in (λ q. not (r q)) t ts (ap not (here ∙ e)))
        ]

module _ {f : Layout} (good : IsLayout f) {v : View} {x : Extent} {root : ℕ} (may : MayMapBeyond f v x root) where
  abbrev n : ℕ
  n = v.levels

  pub low : n - 1 ≤ root
  low = may.at.low

  -- the needed tables under the root and off the spine are among those not past the root
  near_under : (p : Position) → IsAmong (near_root f n root x) p → IsAmong (under_root good may.extent n root may.start low may.past) p × (is_spine n p ≡ false)
  near_under p h =
      let r = among_filtered (λ q. not (reaches_past f root q) && not (is_spine n q)) (all_needed f n (tiles f x)) p h in
      let b = and_parts (not (reaches_past f root p)) (not (is_spine n p)) r.1 in
      (among_passes (λ q. not (reaches_past f root q)) (all_needed f n (tiles f x)) p r.0 b.0, not-true (is_spine n p) b.1)

  under_near : (p : Position) → IsAmong (under_root good may.extent n root may.start low may.past) p → is_spine n p ≡ false → IsAmong (near_root f n root x) p
  under_near p h off =
      let r = among_filtered (λ q. not (reaches_past f root q)) (all_needed f n (tiles f x)) p h in
      among_passes (λ q. not (reaches_past f root q) && not (is_spine n q)) (all_needed f n (tiles f x)) p r.0
      (and_from (not (reaches_past f root p)) _ r.1 (ap not off))

  -- No page of the extent is under the root.
  module _ (beyond : pages_of_table f root ≤ x.first) where
    pub near_none : (p : Position) → IsAmong (near_root f n root x) p → ⊥
    near_none p h =
        let u = near_under p h in
        let m = subst (λ (ps : List Position). IsAmong ps p) (spine_alone good may.extent n root may.start low may.past beyond) u.0 in
        let s = in_levels spine_position (λ i. refl) (n - 1) root p m in
        false≢true (sym u.1 ∙ subst (λ (q : Position). is_spine n q ≡ true) s.2 (spine_is n p.level s.0))

  -- Its first page is.
  module _ (within : x.first < pages_of_table f root) where
    abbrev pub part : Extent
    part = near good may.extent n root may.start low may.past within

    pub is_part : IsExtent f part
    is_part = near_part good may.extent n root may.start low may.past within

    near_has : (p : Position) → IsAmong (near_root f n root x) p ↔ (IsAmong (tables_below f part root) p × (is_spine n p ≡ false))
    near_has p = (
      (λ h.
          let u = near_under p h in
          let m = subst (λ (ps : List Position). IsAmong ps p) (near_all good may.extent n root may.start low may.past within) u.0 in
          let there : IsAmong (tables_of f part) p = (needed_same good is_part n may.start may.few p u.1).0 m in
          let ends = not_past good may.extent n root may.start low may.past p (among_filtered (λ q. not (reaches_past f root q)) (all_needed f n (tiles f x)) p u.0).1 in
          (below_has f root part p there (lower p ends u.1), u.1)),
      (λ h.
          let there = (has_below f root part p h.0).0 in
          let m : IsAmong (all_needed f n (tiles f part)) p = (needed_same good is_part n may.start may.few p h.1).1 there in
          under_near p (subst (λ (ps : List Position). IsAmong ps p) (sym (near_all good may.extent n root may.start low may.past within)) m) h.1),
    )
      where
        lower : (p : Position) → end_of_table f p ≤ pages_of_table f root → is_spine n p ≡ false → p.level < root
        lower p ends off = elim (cases_lt p.level root) [
          | inl fine ↦ fine
          | inr high ↦ absurd (
              let wide = table_mono f root p.level high in
              let base : p.base ≡ 0 = (let some = pow_pos (f.index * (root + 1)) in omega arith) in
              let spine : is_spine n p ≡ true = and_from (nat_le (n - 1) p.level) (p.base == 0) (le-leb (n - 1) p.level (let l = low in omega arith)) (eq-eqb p.base 0 base) in
              false≢true (sym off ∙ spine))
        ]

    -- what was counted there
    pub counted_near : {tells alone : Type 0} {w : View} {cap count : ℕ} → Counted f tells alone v w (tables_below f part root) cap count → Counted f tells alone v w (near_root f n root x) cap count
    counted_near c = record {
      absent = c.absent;
      count_is = c.count_is;
      once = c.once;
      missing = λ p h. let m = c.missing p h in record { is_needed = (near_has p).1 (m.is_needed, m.off_spine); off_spine = m.off_spine; no_table = m.no_table; unknown = m.unknown };
      others = λ less p h. c.others less p ((near_has p).0 h).0;
      all = λ a less p h. c.all a less p ((near_has p).0 h).0;
      told = c.told;
    }

    -- the way stands at it
    pub at_part : IsExtentAt f v part root
    at_part =
        let over : spine_position root ≡ position_over f x.first root = root_over f x.first root within in
        let input = may.extent.in_input in let past = may.past in let from = may.from in let to = may.to in
        record {
          extent = is_part;
          range = record {
            below = may.at.legal;
            over = record { frame = may.at.path.0; is = ap lowest may.at.path.1 ∙ ap (λ (p : Position). Some (record { frame = may.at.path.0; position = p })) over };
            some = within;
            under = subst (λ (p : Position). pages_of_table f root ≤ end_of_table f p) over (let e : pages_of_table f root ≤ 0 + pages_of_table f root = omega arith in e);
            in_space = omega arith;
            from = from;
            to = omega arith;
          };
          low = (let s = cut_step good may.extent (pages_of_table f root) within (omega arith) in let k = small good may.extent n root may.start low may.past in omega arith);
          spine = λ l high less. may.at.spine l high (omega arith);
        }

    pub may_survey : {cap : ℕ} → cap ≤ 2 ^ 32 → MaySurvey f v part root cap
    may_survey few = record { at = at_part; clear = clear_root f v x.first (pages_of_table f root) root may.owns may.at.reaches; owns = may.owns; fits = few }

  -- No piece has a page past the root, and no table is replaced there.

  pub none_past : (page : ℕ) → pages_of_table f root ≤ page → HasNowhere f v page
  none_past page above y m has =
      let o = may.owns y m in
      let ends = page_in_block good (own_piece o) has in
      let under = o.under_top in
      let wide = table_mono f v.top root may.at.reaches in omega arith

  pub free_beyond : pages_of_table f root ≤ x.first → IsFree f v x.first x.end
  free_beyond beyond = λ page from to. none_past page (omega arith)

  pub free_near : IsFree f v x.first (pages_of_table f root) → IsFree f v x.first x.end
  free_near free = λ page from to. elim (cases_lt page (pages_of_table f root)) [
    | inl under ↦ free page from under
    | inr above ↦ none_past page above
  ]

  pub lowest_near : {page : ℕ} → IsLowest f v x.first (pages_of_table f root) page → IsLowest f v x.first x.end page
  lowest_near l = record { from = l.from; to = (let t = l.to in let p = may.past in omega arith); piece = l.piece; own = l.own; has_page = l.has_page; free = l.free }

  -- a table under the root isn't in a block past it
  not_in_far : (p : Position) → end_of_table f p ≤ pages_of_table f root → (b : Block) → pages_of_table f root ≤ b.first → ¬ IsTableIn f b p
  not_in_far p ends b far = λ lies. let low = lies.1 in let some = pow_pos (f.index * (p.level + 1)) in omega arith

  pub far_replaced : pages_of_table f root ≤ x.first → (p : Position) → end_of_table f p ≤ pages_of_table f root → is_replaced f (tiles f x) p ≡ false
  far_replaced beyond p ends = none_replaced f p (tiles f x) (λ b m. not_in_far p ends b (let from = (tile_of good may.extent b m).from in omega arith))

  pub near_replaced : (within : x.first < pages_of_table f root) → (p : Position) → end_of_table f p ≤ pages_of_table f root → is_replaced f (tiles f x) p ≡ is_replaced f (tiles f (part within)) p
  near_replaced within p ends =
      let far : is_replaced f (tiles f (from x (pages_of_table f root))) p ≡ false =
      none_replaced f p (tiles f (from x (pages_of_table f root))) (λ b m. not_in_far p ends b (far_block good may.extent n root may.start low may.past within b m)) in
      ap (λ (bs : List Block). is_replaced f bs p) (parted good may.extent n root may.start low may.past within)
      ∙ replaced_append f p (tiles f (part within)) (tiles f (from x (pages_of_table f root)))
      ∙ ap (λ (b : Bool). is_replaced f (tiles f (part within)) p || b) far ∙ or-false (is_replaced f (tiles f (part within)) p)

  -- What the look found.

  pub surveyed_far : {tells alone : Type 0} {cap : ℕ} → pages_of_table f root ≤ x.first → SurveyedNear f tells alone v v x root cap (Absent 0 false)
  surveyed_far {tells} {alone} {cap} beyond = record {
    walked = loads_here;
    path = refl;
    finds = (
      free_beyond beyond,
      nothing_counted f tells alone v v (near_root f n root x) cap loads_here (near_none beyond),
      λ e p m. far_replaced beyond p (may.over_tables p m),
    );
  }

  found_near : (within : x.first < pages_of_table f root) (tells alone : Type 0) (w : View) (cap : ℕ) (found : Found) →
      Finds f tells alone v w (part within) root cap found → FindsNear f tells alone v w x root cap found
  found_near within tells alone w cap (Mapped page) h = lowest_near h
  found_near within tells alone w cap (Absent count tables) h = (free_near h.0, counted_near within h.1, λ e p m. near_replaced within p (may.over_tables p m) ∙ h.2 e p m)

  pub surveyed_near : (within : x.first < pages_of_table f root) {tells alone : Type 0} {w : View} {cap : ℕ} {found : Found} →
      Surveyed f tells alone v w (part within) root cap found → SurveyedNear f tells alone v w x root cap found
  surveyed_near within {tells} {alone} {w} {cap} {found} s = record { walked = s.walked; path = s.path; finds = found_near within tells alone w cap found s.finds }

  -- Way is made under the root.

  pub may_make : (within : x.first < pages_of_table f root) → IsFree f v x.first x.end → MayMakeWay f v (part within) root
  may_make within free = record {
    at = at_part within;
    levels = may.start;
    empty = record {
      owns = may.owns;
      free = λ page from to. free page from (let p = may.past in omega arith);
      tables = may.tables;
      once = may.once;
      levels_are = refl;
      none = may.at.none;
    };
  }

  part_less : (within : x.first < pages_of_table f root) (p : Position) → is_replaced f (tiles f x) p ≡ false → is_replaced f (tiles f (part within)) p ≡ false
  part_less within p none = false_from_ne_true (is_replaced f (tiles f (part within)) p) (λ e.
      false≢true (sym none ∙ ap (λ (bs : List Block). is_replaced f bs p) (parted good may.extent n root may.start low may.past within)
      ∙ replaced_append f p (tiles f (part within)) (tiles f (from x (pages_of_table f root))) ∙ or_left (is_replaced f (tiles f (part within)) p) _ e))

  pub made_near : (within : x.first < pages_of_table f root) {tells alone : Type 0} {w : View} → UnlinksReplaced f tells alone (tiles f (part within)) v w → UnlinksReplaced f tells alone (tiles f x) v w
  made_near within u = unlinks_for (is_replaced f (tiles f (part within))) (is_replaced f (tiles f x))
      (λ p m. near_replaced within p (may.over_tables p m)) (part_less within) u

  pub made_far : pages_of_table f root ≤ x.first → {tells alone : Type 0} → UnlinksReplaced f tells alone (tiles f x) v v
  made_far beyond = none_unlinked (tiles f x) (λ p m. far_replaced beyond p (may.over_tables p m))
