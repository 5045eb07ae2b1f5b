-- The turns in which an extent is filled: one part of it after the other, each a run of blocks or under one entry.
use Rattle.pt_map.proofs.AbsentCounted.{run_none}
use Rattle.std.proofs.Common.{◌≡◌, ℕ, ◌+◌, ◌-◌, ◌*◌, ◌%◌, ◌^◌, ◌<◌, ◌≤◌, List, [], ◌∷◌, ◌++◌, inl, inr, refl, ap, sym, ◌∙◌, subst, arith, append_assoc}
use Rattle.std.proofs.lemmas.List.{append-nil}
use Rattle.std.proofs.lemmas.Nat.{le-div}
use Rattle.pt_model.specs.declared.position.Position.{Position}
use Rattle.pt_model.specs.declared.block.Block.{Block}
use Rattle.pt_model.specs.Layout.{Layout, level_of_size}
use Rattle.pt_model.specs.Sets.{IsAmong}
use Rattle.pt_model.specs.Tables.{all_needed}
use Rattle.pt_model.specs.Tiling.{tiling}
use Rattle.pt_format.specs.Laws.{IsLayout}
use Rattle.pt_format.specs.Words.{MayBeLeaves}
use Rattle.pt_tile.specs.declared.extent.Extent.{Extent}
use Rattle.pt_tile.specs.Extents.{IsExtent, IsFirstTo, IsRun, block, extent_of, first_size, from, tables_below, tables_of, tiles, under_entry, up_to}
use Rattle.pt_tile.specs.Runs.{run_blocks}
use Rattle.pt_tile.proofs.FirstParts.{first_split, first_to}
use Rattle.pt_tile.proofs.Levels.{size_low}
use Rattle.pt_tile.proofs.RunTilings.{run_shifted, run_tiles}
use Rattle.pt_view.specs.declared.view.View.{View}
use Rattle.pt_view.specs.Calls.{left}
use Rattle.pt_map.specs.Filled.{Filled, Fills, HasRoom, IsDeeper, MayFill, MayStore, MayStoreRun, Spends, SpendsOn, StoresRun, next_table}
use Rattle.pt_map.specs.Stands.{IsEntryExtent, IsRunOf}
use Rattle.pt_map.proofs.RunEntries.{all_leaves}
use Rattle.pt_map.proofs.FilledParts.{below_inside, below_rest, filled_left, filled_none, filled_on, knows_left, may_first, may_rest, needs_parts, room_into}
use Rattle.pt_map.proofs.NeededTables.{needs_append, below_has, has_below}
use Rattle.pt_map.proofs.FramesSpent.{room_on, room_part, spends_none, spends_on}

-- From view v to view w the blocks of an extent up to the first page of what is left of it were written.
pub record IsFilling (f : Layout) (tells : Type 0) (v w : View) (x rest : Extent) (level : ℕ) : Type 0 where
  pub within : rest.first ≤ rest.end
  pub may : rest.first < rest.end → MayStore f w rest level
  pub done : List Block
  pub split : tiles f x ≡ done ++ tiles f rest
  pub filled : Filled f tells v w done (all_needed f f.levels done)
  pub spends : SpendsOn v w (tables_below f x level)
  pub knows : (p : Position) → IsAmong (all_needed f f.levels done) p → p.level < level → IsAmong w.known p

-- at the start
pub filling_none : {f : Layout} (tells : Type 0) {v : View} {x : Extent} {level : ℕ} → MayStore f v x level → IsFilling f tells v v x x level
filling_none {f = f} tells {v = v} may = record {
  within = let some = may.stands.at.extent.some in omega arith;
  may = λ some. may;
  done = [];
  split = refl;
  filled = filled_none f tells v;
  spends = λ lacking room. (lacking, spends_none v v lacking refl);
  knows = λ p h low. absurd (omega arith);
}

module _ {f : Layout} (good : IsLayout f) {tells : Type 0} {v w : View} {x rest : Extent} {level : ℕ} (filling : IsFilling f tells v w x rest level) where
  -- what is left may be filled
  pub may_fill_rest : rest.first < rest.end → MayFill f v x level → MayFill f w rest level
  may_fill_rest some may =
      let s = filling.spends may.lacking may.room in
      record {
        store = filling.may some;
        lacking = s.0;
        room = room_on v w (tables_below f x level) (tables_below f rest level) may.lacking s.0 filling.filled.known (below_rest f x rest filling.done filling.split level) may.room s.1;
      }

  -- nothing is left
  pub filling_all : ¬ (rest.first < rest.end) → Fills f tells v w x level
  filling_all none =
      let nothing : rest.end - rest.first ≡ 0 = omega arith in
      let all : tiles f x ≡ filling.done = filling.split ∙ ap (λ (n : ℕ). filling.done ++ tiling f rest.prot rest.first rest.out n) nothing ∙ append-nil filling.done in
      record {
        filled = subst (λ (bs : List Block). Filled f tells v w bs (all_needed f f.levels bs)) (sym all) filling.filled;
        spends = filling.spends;
        knows = λ p h. let r = has_below f level x p h in filling.knows p (subst (λ (bs : List Block). IsAmong (all_needed f f.levels bs) p) all r.0) r.1;
      }

  -- the first part of what is left is filled
  module _ (some : rest.first < rest.end) (to : ℕ) (is : IsFirstTo f level rest to) {u : View} (fills : Fills f tells w u (up_to rest to) level) where
    abbrev first : Extent
    first = up_to rest to

    may : MayStore f w rest level
    may = filling.may some

    split_first : tiles f rest ≡ tiles f first ++ tiles f (from rest to)
    split_first = first_split good may.stands.at.extent level to is

    below_first : (p : Position) → IsAmong (tables_below f first level) p → IsAmong (tables_below f rest level) p
    below_first p h = let r = has_below f level first p h in below_has f level rest p ((needs_parts f rest (from rest to) (tiles f first) split_first p).1 (inl r.0)) r.1

    spends_next : SpendsOn v u (tables_below f x level)
    spends_next lacking room =
        let a = filling.spends lacking room in
        let left = room_on v w (tables_below f x level) (tables_below f rest level) lacking a.0 filling.filled.known (below_rest f x rest filling.done filling.split level) room a.1 in
        let b = fills.spends a.0 (room_part w (tables_below f rest level) (tables_below f first level) a.0 below_first left) in
        (b.0, spends_on v w u lacking a.0 b.0 fills.filled.known a.1 b.1)

    pub filling_next : (next : Extent) → next ≡ from rest to → IsFilling f tells v u x next level
    filling_next next e = subst (λ (y : Extent). IsFilling f tells v u x y level) (sym e) (record {
      within = first_to good may.stands.at.extent level to is;
      may = λ after. may_rest good may to is fills.filled after;
      done = filling.done ++ tiles f first;
      split = filling.split ∙ ap (λ (bs : List Block). filling.done ++ bs) split_first ∙ sym (append_assoc filling.done (tiles f first) (tiles f (from rest to)));
      filled = filled_on f tells v w u filling.done (tiles f first) (all_needed f f.levels filling.done) (tables_of f first) (all_needed f f.levels (filling.done ++ tiles f first))
          (needs_append f f.levels filling.done (tiles f first)) filling.filled fills.filled;
      spends = spends_next;
      knows = λ p h low. elim ((needs_append f f.levels filling.done (tiles f first) p).0 h) [
        | inl old ↦ fills.filled.known p (filling.knows p old low)
        | inr new ↦ fills.knows p (below_has f level first p new low)
      ];
    })

-- a run that is all of an extent
pub all_run : {f : Layout} → IsLayout f → {x : Extent} → IsExtent f x → {log2 level count : ℕ} → log2 ≡ first_size f x → f.index * level ≤ log2 → IsRun f x count →
    x.end - x.first ≡ count * 2 ^ log2 % 2 ^ 64 → IsRunOf f x log2 level count
all_run {f} good {x} extent {log2} {level} {count} e high run all =
    let some = extent.some in
    let shifted = run_shifted good extent run log2 e in
    let size : count * 2 ^ log2 ≡ count * 2 ^ first_size f x = ap (λ (j : ℕ). count * 2 ^ j) e in
    record { size = e; high = high; run = run; whole = omega (arith, shifted, size, all, some) }

-- A run of blocks of the first one's size, which stands in the table of the level.
module _ {f : Layout} (good : IsLayout f) {v : View} {x : Extent} {level : ℕ} (may : MayStore f v x level) (k : ℕ) (e : k ≡ first_size f x) (high : f.index * level ≤ k) {count : ℕ} (is : IsRun f x count) where
  level_is : level_of_size f k ≡ level
  level_is =
      let some : 0 < f.index = omega (arith, good.index_is, good.granule_low) in
      let a = size_low f.index k level some (let low = may.stands.at.low in omega arith) in
      let b = le-div level k f.index some (let h : level * f.index ≤ k = omega arith in h) in omega arith

  pub may_run : MayStoreRun f v count (block k x) level
  may_run = record {
    may = subst (λ (j : ℕ). MayStore f v (up_to x (x.first + count * 2 ^ j)) level) (sym e)
        (may_first good may (x.first + count * 2 ^ first_size f x) (inl (omega arith, count, is, refl)));
    tiled = subst (λ (j : ℕ). tiles f (up_to x (x.first + count * 2 ^ j)) ≡ run_blocks count j x.prot x.first x.out) (sym e) (run_tiles good may.stands.at.extent is);
    here = level_is;
  }

  -- each of its words may be written
  pub run_leaves : MayBeLeaves f level k x.out x.prot count
  run_leaves = all_leaves good may_run

  -- the page after it, as the code makes it
  module _ (to : ℕ) (to_shifted : to ≡ x.first + count * 2 ^ k % 2 ^ 64) where
    to_is : to ≡ x.first + count * 2 ^ k
    to_is = to_shifted ∙ run_shifted good may.stands.at.extent is k e ∙ ap (λ (j : ℕ). x.first + count * 2 ^ j) (sym e)

    pub to_run : IsFirstTo f level x to
    to_run = inl (omega arith, count, is, to_shifted ∙ run_shifted good may.stands.at.extent is k e)

    -- it needs no table below the level
    pub none_below : (p : Position) → IsAmong (tables_below f (up_to x to) level) p → ⊥
    none_below p h = run_none good may.stands.at.extent level (omega arith) count is p
        (subst (λ (n : ℕ). IsAmong (tables_below f (up_to x n) level) p) (to_shifted ∙ run_shifted good may.stands.at.extent is k e) h)

    pub fills_run : {tells : Type 0} {w : View} → StoresRun f tells v w count (block k x) → Fills f tells v w (up_to x to) level
    fills_run {tells = tells} {w = w} stored = record {
      filled = subst (λ (n : ℕ). Filled f tells v w (tiles f (up_to x n)) (tables_of f (up_to x n))) (sym to_is)
          (subst (λ (bs : List Block). Filled f tells v w bs (tables_of f (extent_of count (block k x)))) (sym may_run.tiled) stored.filled);
      spends = λ lacking room. (lacking, spends_none v w lacking stored.purse);
      knows = λ p h. absurd (none_below p h);
    }

-- What lies under the entry over its first page.
module _ {f : Layout} (good : IsLayout f) {v : View} {x : Extent} {level : ℕ} (may : MayFill f v x level) (low : first_size f x < f.index * level) (inner : Extent) (is : inner ≡ under_entry f level x) where
  pub may_fill_inner : MayFill f v inner level
  may_fill_inner =
      let end : IsFirstTo f level x (under_entry f level x).end = inr (low, refl) in
      subst (λ (y : Extent). MayFill f v y level) (sym is) (record {
        store = may_first good may.store (under_entry f level x).end end;
        lacking = may.lacking;
        room = room_part v (tables_below f x level) (tables_below f (under_entry f level x) level) may.lacking (λ p h.
            let r = has_below f level (under_entry f level x) p h in
            below_has f level x p ((needs_parts f x (from x (under_entry f level x).end) (tiles f (under_entry f level x))
            (first_split good may.store.stands.at.extent level (under_entry f level x).end end) p).1 (inl r.0)) r.1) may.room;
      })

  pub fills_inner : {tells : Type 0} {w : View} → Fills f tells v w inner level → Fills f tells v w (up_to x inner.end) level
  fills_inner {tells = tells} {w = w} fills =
      subst (λ (y : Extent). Fills f tells v w (up_to x y.end) level) (sym is) (subst (λ (y : Extent). Fills f tells v w y level) is fills)

-- An extent under one entry: the way goes into the table there, the extent is filled from there, and that table is left.
module _ {f : Layout} (good : IsLayout f) {tells : Type 0} {v w : View} {x : Extent} {level : ℕ} (may : MayFill f v x level) (entry : IsEntryExtent f x level)
    (deeper : IsDeeper f tells v w x.first level) (into : SpendsOn v w (next_table f x.first level ∷ [])) where
  room_below : (lacking : List Position) → HasRoom v (tables_below f x level) lacking → (still : List Position) × Spends v w lacking still × HasRoom w (tables_below f x (level - 1)) still
  room_below lacking room =
      let a = into lacking (room_into good may.store entry lacking room) in
      (a.0, a.1, room_on v w (tables_below f x level) (tables_below f x (level - 1)) lacking a.0 (λ p h. (deeper.known p).1 (inr h)) (below_inside good may.store entry) room a.1)

  pub lacking_below : (still : List Position) × HasRoom w (tables_below f x (level - 1)) still
  lacking_below = let r = room_below may.lacking may.room in (r.0, r.2)

  pub fills_entry : {u z : View} → z ≡ left u → Fills f tells w u x (level - 1) → Fills f tells v z x level
  fills_entry {u = u} {z = z} e fills = subst (λ (y : View). Fills f tells v y x level) (sym e) (record {
    filled = filled_left good may.store entry deeper fills.filled;
    spends = λ lacking room.
        let a = room_below lacking room in
        let b = fills.spends a.0 a.2 in
        let s = spends_on v w u lacking a.0 b.0 fills.filled.known a.1 b.1 in
        (b.0, record { used = s.used; purse = s.purse; few = s.few; only = s.only; each = s.each });
    knows = knows_left good may.store entry deeper fills.filled fills.knows;
  })
