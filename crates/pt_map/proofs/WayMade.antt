-- The turns in which way is made for an extent: one part of it after the other, each a run of blocks or under one entry.
use Rattle.std.proofs.Common.{◌≡◌, ℕ, ◌+◌, ◌-◌, ◌*◌, ◌%◌, ◌^◌, ◌<◌, ◌≤◌, true, List, [], ◌++◌, inl, inr, refl, ap, sym, subst, ◌∙◌, arith, append_assoc}
use Rattle.std.specs.Prelude.{◌||◌, not}
use Rattle.std.proofs.lemmas.Bool.{cases_Bool, false_from_ne_true, false≢true, or_left, or_right}
use Rattle.std.proofs.lemmas.List.{append-nil}
use Rattle.std.proofs.lemmas.Nat.{le-div, pow_pos}
use Rattle.pt_model.specs.declared.block.Block.{Block}
use Rattle.pt_model.specs.declared.position.Position.{Position}
use Rattle.pt_model.specs.Layout.{Layout, level_of_size, pages_of_table}
use Rattle.pt_model.specs.Tables.{spine_position}
use Rattle.pt_model.specs.Tiling.{tiling}
use Rattle.pt_format.specs.Laws.{IsLayout}
use Rattle.pt_tile.specs.declared.extent.Extent.{Extent}
use Rattle.pt_tile.specs.Extents.{IsExtent, IsFirstTo, IsOneBlock, IsRun, first_size, from, tiles, under_entry, up_to}
use Rattle.pt_tile.specs.Runs.{run_blocks}
use Rattle.pt_tile.proofs.FirstParts.{cut_part, cut_step, first_from, first_split, first_to, low_after, rest_part}
use Rattle.pt_tile.proofs.Levels.{size_low}
use Rattle.pt_tile.proofs.RunTilings.{run_from, run_shifted, run_tiles}
use Rattle.pt_view.specs.declared.view.View.{View}
use Rattle.pt_view.specs.declared.holder.Seen.{Seen}
use Rattle.pt_view.specs.declared.holder.Seen.TheVariants.{Entered}
use Rattle.pt_view.specs.Calls.{all_but_last, left}
use Rattle.pt_view.proofs.Loads.{IsLoad, loads_here, no_table, table_loads, table_path}
use Rattle.pt_view.proofs.Paths.{front_snoc}
use Rattle.pt_walk.specs.Walks.{IsOverRange}
use Rattle.pt_walk.proofs.Ranges.{no_table_here, range_from}
use Rattle.pt_sweep.specs.Empties.{Unlinks, lies_below}
use Rattle.pt_sweep.specs.EmptyRanges.{IsEmptyRange}
use Rattle.pt_sweep.proofs.Empties.{back_unlinks, loads_unlink, unlinks_as, unlinks_on}
use Rattle.pt_sweep.proofs.GoneTables.{below_is, below_tells}
use Rattle.pt_sweep.proofs.EmptyTables.{empty_kept, empty_loads, empty_part}
use Rattle.pt_map.specs.Replaced.{HasNoneReplaced, MayMakeWay, UnlinksReplaced, is_replaced}
use Rattle.pt_map.specs.Stands.{IsEntryExtent, IsExtentAt}
use Rattle.pt_map.proofs.AbsentShown.{open_part}
use Rattle.pt_map.proofs.ReplacedTables.{no_table_replaced, replaced_append, replaced_ends, replaced_inside, replaced_is, run_covers, run_size, spine_stays}
use Rattle.pt_map.proofs.StandAfter.{Keeps, at_moves, keeps_here}

-- nothing was unlinked where no block takes the place of a table
pub none_unlinked : {f : Layout} {tells alone : Type 0} {v : View} (bs : List Block) → HasNoneReplaced f v bs → UnlinksReplaced f tells alone bs v v
none_unlinked {f} bs none = loads_unlink (is_replaced f bs) loads_here refl none

-- what was unlinked leaves the spine known
pub unlinks_keep : {f : Layout} (good : IsLayout f) {tells alone : Type 0} {v w : View} {x : Extent} → IsExtent f x → f.start ≤ v.levels → UnlinksReplaced f tells alone (tiles f x) v w → Keeps v w
unlinks_keep good {v = v} part start u = record {
  range = u.range;
  prepared = u.prepared;
  known = λ l low h. u.known (spine_position l) h (spine_stays good part v.levels start l low);
}

-- From view v to view w way was made for an extent up to the first page of what is left of it.
pub record IsMaking (f : Layout) (tells alone : Type 0) (v w : View) (x rest : Extent) (level : ℕ) : Type 0 where
  pub within : rest.first ≤ rest.end
  pub may : rest.first < rest.end → MayMakeWay f w rest level
  pub done : List Block
  pub split : tiles f x ≡ done ++ tiles f rest
  pub unlinks : UnlinksReplaced f tells alone done v w

pub making_none : {f : Layout} (tells alone : Type 0) {v : View} {x : Extent} {level : ℕ} → MayMakeWay f v x level → IsMaking f tells alone v v x x level
making_none tells alone may = record {
  within = let some = may.at.extent.some in omega arith;
  may = λ some. may;
  done = [];
  split = refl;
  unlinks = none_unlinked [] (λ p m. refl);
}

-- A part of an extent for which way may be made.
module _ {f : Layout} (good : IsLayout f) {v : View} {x : Extent} {level : ℕ} (may : MayMakeWay f v x level) (to : ℕ) (is : IsFirstTo f level x to) where
  starts : x.first < to
  starts = first_from good may.at.extent level to is

  ends : to ≤ x.end
  ends = first_to good may.at.extent level to is

  pub may_make_first : MayMakeWay f v (up_to x to) level
  may_make_first =
      let a = starts in let b = ends in
      record {
        at = at_moves good may.at (cut_part good may.at.extent to a b) (let z : x.first ≤ x.first = omega arith in z) b
            (let s = cut_step good may.at.extent to a b in let l = may.at.low in omega arith) (keeps_here v) refl;
        levels = may.levels;
        empty = empty_part may.empty x.first to (omega arith) b;
      }

  -- what is left, once way was made for the first part
  module _ {tells alone : Type 0} {w : View} (u : UnlinksReplaced f tells alone (tiles f (up_to x to)) v w) (after : to < x.end) where
    pub may_make_rest : MayMakeWay f w (from x to) level
    may_make_rest =
        let a = starts in
        let first : IsExtent f (up_to x to) = may_make_first.at.extent in
        let kept : IsEmptyRange f w to x.end v.levels = empty_kept may.empty (is_replaced f (tiles f (up_to x to)))
        (λ q aligned e. let h = replaced_inside good first q aligned e in let low = h.0 in let high = h.1 in (omega arith, let b = ends in omega arith)) to x.end u (omega arith) (omega arith) in
        record {
          at = at_moves good may.at (rest_part good may.at.extent to (omega arith) after) (omega arith) (let z : x.end ≤ x.end = omega arith in z)
              (low_after good may.at.extent level to may.at.range.under a after) (unlinks_keep good first may.levels u) u.path;
          levels = (let l = may.levels in let e = u.range.levels in omega arith);
          empty = subst (IsEmptyRange f w to x.end) (sym u.range.levels) kept;
        }

-- The next part.
module _ {f : Layout} (good : IsLayout f) {tells alone alone' : Type 0} {v w u : View} {x rest : Extent} {level : ℕ} (making : IsMaking f tells alone v w x rest level) (still : alone → alone')
    (some : rest.first < rest.end) (to : ℕ) (is : IsFirstTo f level rest to) (made : UnlinksReplaced f tells alone' (tiles f (up_to rest to)) w u) where
  pub making_next : (next : Extent) → next ≡ from rest to → IsMaking f tells alone v u x next level
  making_next next e = subst (λ (y : Extent). IsMaking f tells alone v u x y level) (sym e) (
      let may = making.may some in
      let part : List Block = tiles f (up_to rest to) in
      let both : (q : Position) → is_replaced f (making.done ++ part) q ≡ (is_replaced f making.done q || is_replaced f part q) = λ q. replaced_append f q making.done part in
      record {
        within = first_to good may.at.extent level to is;
        may = λ after. may_make_rest good may to is made after;
        done = making.done ++ part;
        split = making.split ∙ ap (λ (bs : List Block). making.done ++ bs) (first_split good may.at.extent level to is) ∙ sym (append_assoc making.done part (tiles f (from rest to)));
        unlinks = unlinks_on (is_replaced f making.done) (is_replaced f part) (is_replaced f (making.done ++ part))
            (λ q none. false_from_ne_true (is_replaced f making.done q) (λ h. false≢true (sym none ∙ both q ∙ or_left (is_replaced f making.done q) (is_replaced f part q) h)))
            (λ q none. false_from_ne_true (is_replaced f part q) (λ h. false≢true (sym none ∙ both q ∙ or_right (is_replaced f making.done q) (is_replaced f part q) h)))
            (λ q m. both q) still making.unlinks made;
      })

-- in the end
pub making_all : {f : Layout} {tells alone : Type 0} {v w : View} {x rest : Extent} {level : ℕ} → IsMaking f tells alone v w x rest level → ¬ (rest.first < rest.end) →
    UnlinksReplaced f tells alone (tiles f x) v w
making_all {f} {tells} {alone} {v} {w} {x = x} {rest} making none =
    let nothing : rest.end - rest.first ≡ 0 = omega arith in
    let all : tiles f x ≡ making.done = making.split ∙ ap (λ (n : ℕ). making.done ++ tiling f rest.prot rest.first rest.out n) nothing ∙ append-nil making.done in
    subst (λ (bs : List Block). UnlinksReplaced f tells alone bs v w) (sym all) making.unlinks

-- the lowest table has none below it
pub none_lowest : {f : Layout} (good : IsLayout f) {v : View} {x : Extent} {level : ℕ} → IsExtentAt f v x level → level ≡ 0 → HasNoneReplaced f v (tiles f x)
none_lowest good at e = no_table_replaced good at (λ q m low from to. omega arith)

-- A run of blocks of the first one's size, which stands in the table of the level.
module _ {f : Layout} (good : IsLayout f) {v : View} {x : Extent} {level : ℕ} (may : MayMakeWay f v x level) (k : ℕ) (e : k ≡ first_size f x) {count : ℕ} (is : IsRun f x count) (large : f.index * level ≤ first_size f x)
    (to : ℕ) (shifted : to ≡ x.first + count * 2 ^ k % 2 ^ 64) where
  to_is : to ≡ x.first + count * 2 ^ first_size f x
  to_is = shifted ∙ run_shifted good may.at.extent is k e

  pub run_to : IsFirstTo f level x to
  run_to = inl (large, count, is, to_is)

  after : x.first < to
  after = let some = run_from good may.at.extent is in let t = to_is in omega arith

  before : to ≤ x.end
  before = let within = is.within in let t = to_is in omega arith

  pub run_range : IsOverRange f v x.first to level
  run_range = range_from (record { frames = refl; levels = refl; first = refl; count = refl }) refl may.at.range x.first to (let z : x.first ≤ x.first = omega arith in z) after before

  pub run_empty : (levels : ℕ) → levels ≡ v.levels → IsEmptyRange f v x.first to levels
  run_empty levels same = subst (IsEmptyRange f v x.first to) (sym same) (empty_part may.empty x.first to (let z : x.first ≤ x.first = omega arith in z) before)

  level_is : level_of_size f (first_size f x) ≡ level
  level_is =
      let some : 0 < f.index = omega (arith, good.index_is, good.granule_low) in
      let a = size_low f.index (first_size f x) level some may.at.low in
      let b = le-div level (first_size f x) f.index some (let h : level * f.index ≤ first_size f x = omega arith in h) in omega arith

  tiles_are : tiles f (up_to x to) ≡ run_blocks count (first_size f x) x.prot x.first x.out
  tiles_are = ap (λ (n : ℕ). tiles f (up_to x n)) to_is ∙ run_tiles good may.at.extent is

  -- a table of a lower level that begins in it is one that a block takes the place of
  lies_replaced : (q : Position) → lies_below f x.first to level q ≡ true → is_replaced f (tiles f (up_to x to)) q ≡ true
  lies_replaced q lies =
      let h = below_tells f x.first to level q lies in
      let some = pow_pos (f.index * (q.level + 1)) in let t = to_is in let ends = h.2 in
      let c = run_covers count (first_size f x) x.prot x.first x.out q.base h.1 (omega arith) in
      let size = run_size count (first_size f x) x.prot x.first x.out c.0 c.1 in
      let level_c : level_of_size f c.0.log2 ≡ level = ap (level_of_size f) size ∙ level_is in
      replaced_is f q (tiles f (up_to x to)) c.0 (subst (λ (bs : List Block). IsOneBlock bs c.0) (sym tiles_are) c.1) (let low = h.0 in omega arith, c.2, c.3)

  replaced_lies : (q : Position) → q.base % pages_of_table f q.level ≡ 0 → is_replaced f (tiles f (up_to x to)) q ≡ true → lies_below f x.first to level q ≡ true
  replaced_lies q aligned e =
      let first : IsExtent f (up_to x to) = (may_make_first good may to run_to).at.extent in
      let r = replaced_ends good first q aligned e in
      let h = replaced_inside good first q aligned e in
      let size = run_size count (first_size f x) x.prot x.first x.out r.0 (subst (λ (bs : List Block). IsOneBlock bs r.0) tiles_are r.1) in
      let level_r : level_of_size f r.0.log2 ≡ level = ap (level_of_size f) size ∙ level_is in
      let low = r.4 in below_is f x.first to level q (omega arith) h.0 h.1

  pub run_unlinked : {tells alone : Type 0} {w : View} → Unlinks f tells alone (lies_below f x.first to level) v w → UnlinksReplaced f tells alone (tiles f (up_to x to)) v w
  run_unlinked u = unlinks_as (lies_below f x.first to level) (is_replaced f (tiles f (up_to x to)))
      (λ q none. false_from_ne_true (lies_below f x.first to level q) (λ lies. false≢true (sym none ∙ lies_replaced q lies)))
      (λ q m. elim (cases_Bool (lies_below f x.first to level q)) [
        | inl lies ↦ lies_replaced q lies ∙ sym lies
        | inr out ↦ false_from_ne_true (is_replaced f (tiles f (up_to x to)) q) (λ e. false≢true (sym out ∙ replaced_lies q (may.empty.tables q m).aligned e)) ∙ sym out
      ]) u

-- What lies under the entry over its first page.
module _ {f : Layout} (good : IsLayout f) {v : View} {x : Extent} {level : ℕ} (may : MayMakeWay f v x level) (low : first_size f x < f.index * level) (inner : Extent) (is : inner ≡ under_entry f level x) where
  pub may_make_inner : MayMakeWay f v inner level
  may_make_inner = subst (λ (y : Extent). MayMakeWay f v y level) (sym is) (may_make_first good may (under_entry f level x).end (inr (low, refl)))

  pub inner_unlinked : {tells alone : Type 0} {w : View} → UnlinksReplaced f tells alone (tiles f inner) v w → UnlinksReplaced f tells alone (tiles f (up_to x inner.end)) v w
  inner_unlinked {tells = tells} {alone = alone} {w = w} u =
      subst (λ (y : Extent). UnlinksReplaced f tells alone (tiles f (up_to x y.end)) v w) (sym is) (subst (λ (y : Extent). UnlinksReplaced f tells alone (tiles f y) v w) is u)

-- The load of the entry under which an extent lies.
module _ {f : Layout} (good : IsLayout f) {v : View} {x : Extent} {level : ℕ} (may : MayMakeWay f v x level) (entry : IsEntryExtent f x level)
    {tells alone : Type 0} {seen : Seen} {w : View} (load : IsLoad f tells alone v x.first level seen w) where
  pub unlinked_none : (¬ (seen ≡ Entered)) → UnlinksReplaced f tells alone (tiles f x) v w
  unlinked_none not =
      let s = no_table load not in
      loads_unlink (is_replaced f (tiles f x)) s.0 s.1 (no_table_replaced good may.at (no_table_here good may.at.range entry.one load not))

  module _ (entered : seen ≡ Entered) where
    pub may_make_inside : MayMakeWay f w x (level - 1)
    may_make_inside = record {
      at = open_part good may.at entry load entered;
      levels = (let l = may.levels in let e = load.went.range.levels in omega arith);
      empty = subst (IsEmptyRange f w x.first x.end) (sym load.went.range.levels) (empty_loads may.empty (table_loads load entered));
    }

    pub unlinked_entered : {alone' : Type 0} → (alone → alone') → {u z : View} → UnlinksReplaced f tells alone' (tiles f x) w u → z ≡ left u → UnlinksReplaced f tells alone (tiles f x) v z
    unlinked_entered still deeper back =
        back_unlinks (is_replaced f (tiles f x)) (table_loads load entered) still deeper back (ap all_but_last (table_path load entered).1 ∙ front_snoc v.path _)
