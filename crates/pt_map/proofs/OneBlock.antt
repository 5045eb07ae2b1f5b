-- An extent that is one block of the path's last table, or a run of equal ones: nothing is counted, drawn or linked for it.
use Rattle.pt_view.specs.Views.{Aside, linked_count}
use Rattle.std.proofs.Common.{◌≡◌, ℕ, ◌+◌, ◌*◌, ◌/◌, ◌%◌, ◌^◌, ◌≤◌, ◌++◌, refl, ap, sym, ◌∙◌, subst, arith}
use Rattle.pt_model.specs.Layout.{Layout, pages_of_entry}
use Rattle.pt_format.specs.Laws.{IsLayout}
use Rattle.pt_tile.specs.Runs.{run_blocks}
use Rattle.pt_view.specs.declared.view.View.{View}
use Rattle.pt_view.specs.Calls.{held_count}
use Rattle.pt_walk.specs.Walks.{HasNoTable, IsFree}
use Rattle.pt_view.specs.Loads.{ByLoads}
use Rattle.pt_tile.specs.declared.extent.Extent.{Extent}
use Rattle.pt_map.specs.Filled.{Fills, MayStore, MayStoreRun, StoresRun}
use Rattle.pt_map.specs.Requests.{MappedBelow, MayMapBelow}
use Rattle.pt_map.specs.Replaced.{HasNoneReplaced, MayMakeWay, UnlinksReplaced}
use Rattle.pt_map.proofs.MapFromTable.{mapped_below, may_make, may_store, none_kept}
use Rattle.pt_map.proofs.ReplacedTables.{no_table_replaced}
use Rattle.std.proofs.lemmas.Nat.{div-add-mod'}
use Rattle.pt_tile.proofs.RunTilings.{run_shifted}
use Rattle.pt_tile.proofs.FirstSizes.{size_greatest}
use Rattle.pt_tile.proofs.UnderEntries.{first_tile}
use Rattle.pt_model.proofs.Quotients.{wider_entry}
use Rattle.pt_tile.specs.Extents.{IsExtent, IsRun, LiesUnderEntry, first_size, from, tables_below, tiles, block}
use Rattle.pt_map.proofs.FillTurns.{may_run, none_below, fills_run}
use Rattle.pt_map.specs.Stands.{IsBlockOf, IsRunOf}
use Rattle.pt_map.proofs.FramesDrawn.{gathered_none}
use Rattle.pt_map.proofs.AbsentCounted.{nothing_counted}

distrib : (q m : ℕ) → (q + 1) * m ≡ q * m + m
distrib q m = grind arith

-- a page that a number divides, and one that number further
ends_there : (first end m : ℕ) → first % m ≡ 0 → end ≡ first + m → end ≤ (first / m + 1) * m
ends_there first end m aligned ends = omega (arith, div-add-mod' first m, aligned, ends, distrib (first / m) m)

-- it is a run of one
pub one_run : (f : Layout) → IsLayout f → (x : Extent) → IsExtent f x → (k : ℕ) → k ≡ first_size f x → x.end ≡ x.first + 2 ^ k → IsRun f x 1
one_run f good x part k e whole =
    let one : 1 * 2 ^ first_size f x ≡ 2 ^ first_size f x = omega arith in
    let ends : x.first + 2 ^ first_size f x ≡ x.end = ap (λ (j : ℕ). x.first + 2 ^ j) (sym e) ∙ sym whole in
    record {
      some = omega arith;
      within = omega arith;
      run = subst (λ (n : ℕ). tiles f x ≡ run_blocks 1 (first_size f x) x.prot x.first x.out ++ tiles f (from x (x.first + n))) (sym one) (first_tile good part);
    }

-- the block of one entry ends where that entry does
pub at_most : {a b : ℕ} → a ≡ b → b ≤ a
at_most e = omega (arith, e)

pub block_end : (f : Layout) → IsLayout f → (x : Extent) → IsExtent f x → (level k : ℕ) → k ≡ first_size f x → k ≡ f.index * level → x.end ≡ x.first + 2 ^ k →
    x.end ≤ (x.first / pages_of_entry f level + 1) * pages_of_entry f level
block_end f good x part level k e one whole =
    let aligned : x.first % 2 ^ (f.index * level) ≡ 0 = subst (λ (j : ℕ). x.first % 2 ^ j ≡ 0) (sym e ∙ one) (size_greatest good part).legal.first_aligned in
    let ends : x.end ≡ x.first + 2 ^ (f.index * level) = subst (λ (j : ℕ). x.end ≡ x.first + 2 ^ j) one whole in
    ends_there x.first x.end (2 ^ (f.index * level)) aligned ends

-- so it lies under one table of that level
pub block_under : (f : Layout) → IsLayout f → (x : Extent) → IsExtent f x → (level k : ℕ) → k ≡ first_size f x → k ≡ f.index * level → x.end ≡ x.first + 2 ^ k →
    LiesUnderEntry f x (level + 1)
block_under f good x part level k e one whole =
    let end = block_end f good x part level k e one whole in
    let wide = wider_entry f x.first level (level + 1) (omega arith) in omega arith

-- a block is a run of one
pub block_run : {f : Layout} → IsLayout f → {x : Extent} → IsExtent f x → {log2 level : ℕ} → IsBlockOf f x log2 level → IsRunOf f x log2 level 1
block_run {f} good {x} extent {log2} is = record {
  size = is.size;
  high = is.high;
  run = one_run f good x extent log2 is.size is.whole;
  whole = is.whole ∙ (let one : x.first + 2 ^ log2 ≡ x.first + 1 * 2 ^ log2 = omega arith in one);
}

-- A run of blocks of that table: from view v a walk to view b found no mapped page.
module _ {f : Layout} (good : IsLayout f) {tells : Type 0} {v b : View} {x : Extent} {log2 level count : ℕ} (may : MayMapBelow f v x level) (is : IsRunOf f x log2 level count)
    (walked : ByLoads tells v b) (path : b.path ≡ v.path) (free : IsFree f v x.first x.end) where
  pub run_way : MayMakeWay f b x level
  run_way = may_make good may walked path (gathered_none tells b 0) free

  pub run_replaces_none : HasNoTable v x.first x.end level → HasNoneReplaced f b (tiles f x)
  run_replaces_none none = none_kept good may walked path (gathered_none tells b 0) (no_table_replaced good may.stands.at none)

  -- the page after it, as the code makes it
  pub run_to : x.end ≡ x.first + count * 2 ^ log2 % 2 ^ 64
  run_to = is.whole ∙ ap (λ (j : ℕ). x.first + count * 2 ^ j) is.size ∙ sym (run_shifted good may.stands.at.extent is.run log2 is.size)

  -- Way was made for it, from there to view z, from where its blocks are written.
  module _ {alone_b : Type 0} {z : View} (made : UnlinksReplaced f tells alone_b (tiles f x) b z) where
    pub run_stores : MayStore f z x level
    run_stores = may_store good may walked path (gathered_none tells b 0) free made

    pub run_mapped : {alone : Type 0} {old new : Aside} → (alone → alone_b) → new ≡ old → (alone_b → linked_count b new + held_count b ≤ b.frames) →
        {w : View} → Fills f tells z w x level → MappedBelow f tells alone (linked_count v old) v w x level
    run_mapped {alone = alone} {old = old} {new = new} still same few filled =
        let none = none_below good run_stores log2 is.size is.high is.run x.end run_to in
        mapped_below good may walked path (gathered_none tells b 0) (nothing_counted f tells alone v b (tables_below f x level) (v.frames + 1) walked none) free refl
        {alone_c = alone_b} {old = old} {new = new} still same
        (record { held = omega arith; frames = omega arith; few = λ a. let h = few a in omega arith })
        still made filled

-- One block: from view v a walk to view b found no mapped page.
module _ {f : Layout} (good : IsLayout f) {tells : Type 0} {v b : View} {x : Extent} {log2 level : ℕ} (may : MayMapBelow f v x level) (is : IsBlockOf f x log2 level)
    (walked : ByLoads tells v b) (path : b.path ≡ v.path) (free : IsFree f v x.first x.end) where
  run : IsRunOf f x log2 level 1
  run = block_run good may.stands.at.extent is

  pub block_way : MayMakeWay f b x level
  block_way = run_way good may run walked path free

  pub block_none : HasNoTable v x.first x.end level → HasNoneReplaced f b (tiles f x)
  block_none = run_replaces_none good may run walked path free

  -- Way was made for it, from there to view z, from where the block is written.
  module _ {alone_b : Type 0} {z : View} (made : UnlinksReplaced f tells alone_b (tiles f x) b z) where
    stores : MayStore f z x level
    stores = run_stores good may run walked path free made

    pub block_may : MayStoreRun f z 1 (block log2 x) level
    block_may = may_run good stores log2 is.size is.high run.run

    pub block_mapped : {alone : Type 0} {old new : Aside} → (alone → alone_b) → new ≡ old → (alone_b → linked_count b new + held_count b ≤ b.frames) →
        {w : View} → StoresRun f tells z w 1 (block log2 x) → MappedBelow f tells alone (linked_count v old) v w x level
    block_mapped {alone = alone} {old = old} {new = new} still same few stored =
        run_mapped good may run walked path free made {alone = alone} {old = old} {new = new} still same few
        (fills_run good stores log2 is.size is.high run.run x.end (run_to good may run walked path free) stored)
