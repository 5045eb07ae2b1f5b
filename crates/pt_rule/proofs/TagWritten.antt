-- A step that changes the tag of one frame, which is linked neither before nor after: what it owes.
use Rattle.std.proofs.Common.{◌≡◌, ◌≢◌, ℕ, ◌+◌, ◌<◌, List, set, refl, ap, ◌∙◌, subst, arith}
use Rattle.std.specs.Prelude.{slice_set, Option}
use mathlib.Core.Option.{some}
use lib.ListN.{get_elem?}
use Rattle.pt_model.specs.Layout.{Layout}
use Rattle.pt_view.specs.declared.view.View.{View}
use Rattle.pt_model.specs.Words.{tag}
use Rattle.pt_model.specs.Sets.{one_if, IsAmong, places}
use Rattle.pt_view.specs.Lists.{times}
use Rattle.pt_view.specs.Views.{SameRange, SameBook}
use Rattle.pt_rule.specs.Totals.{Each, prepares, has_table}
use Rattle.pt_rule.specs.Tags.{IsEnd, IsTag, Chained, is_held}
use Rattle.pt_rule.specs.Linked.{IsLinked}
use Rattle.pt_rule.specs.Lawful.{Lawful, BusyPart}
use Rattle.pt_model.proofs.Places.{length_kept, tag_else, root_after_tag, entry_after_tag}
use Rattle.pt_rule.proofs.TotalsKept.{total_same, each_set}
use Rattle.pt_rule.proofs.PartsKept.{SameLinks, bridged_to, links_else, prepared_moved, prepares_here, SameTree, tree_same, spans_set, TagOwed, frames_tag, positions_same, root_same, parents_same, entries_same, books_set, book_same, path_same, paths_set, sizes_same, known_set, near_same}

-- the view w has the book, the path and the known positions of v
pub record SamePlace (v w : View) : Type 0 where
  pub range : SameRange v w
  pub book : SameBook v w
  pub path : w.path ≡ v.path
  pub known : w.known ≡ v.known

module _ (f : Layout) (n l : ℕ) where
  pub tag_links : (words : List ℕ) (views : List View) (id : ℕ) (v w : View) (g x : ℕ) → get_elem? views id ≡ some v → ¬ IsLinked n words views g →
      ¬ IsLinked n (slice_set words (1 + g) x) (set views id w) g → ((h : ℕ) → h ≢ g → prepares h w ≡ prepares h v) →
      SameLinks n words (slice_set words (1 + g) x) views (set views id w)
  tag_links words views id v w g x at before after prepared =
      links_else n g words (slice_set words (1 + g) x) views (set views id w) before after (λ h ne. tag_else words g x h ne) (λ h ne. total_same (prepares h) views id v w at (prepared h ne))

  -- what a step owes that changes a purse and the tag of a frame that no view prepares
  pub owed_unprepared : (words : List ℕ) (views : List View) (id : ℕ) (v : View) (purse busy : List ℕ) (end : Option ℕ) (g x : ℕ) → Lawful f n l words views → get_elem? views id ≡ some v →
      ((j : ℕ) (u : View) → get_elem? views j ≡ some u → prepares g u ≡ 0) → (let w : View = record v { purse = purse; busy = busy; end = end } in
      SameLinks n words (slice_set words (1 + g) x) views (set views id w) → IsTag f x → times g purse + one_if (is_held (tag words g)) ≡ times g v.purse + one_if (is_held x) →
      ((h : ℕ) → h ≢ g → times h purse ≡ times h v.purse) → TagOwed f n g x words views id v w)
  owed_unprepared words views id v purse busy end g x r at none links a_tag held_here held_else =
      let words' : List ℕ = slice_set words (1 + g) x in
      let views' : List View = set views id (record v { purse = purse; busy = busy; end = end }) in
      let bare = none id v at in
      record {
        a_tag = a_tag;
        held_here = held_here;
        held_else = held_else;
        prepared_here = omega arith;
        prepared_else = λ h ne. refl;
        unprepared = λ j u ne there. none j u there;
        at = prepared_moved words words' v.prepared (λ y e. tag_else words g x y.frame
            (λ same. let one : prepares g v ≡ 1 = subst (λ (z : ℕ). prepares z v ≡ 1) same (prepares_here views id v y e) in omega arith)) (r.frames.at id v at);
        bridged = bridged_to f n words words' views views' links v.levels v.prepared (r.frames.bridges id v at);
        bridge = λ h i. refl;
      }

  pub tag_kept : (words : List ℕ) (views : List View) (id : ℕ) (v w : View) (g x : ℕ) → Lawful f n l words views → get_elem? views id ≡ some v → 0 < v.count → g < n →
      SamePlace v w → ¬ IsLinked n words views g → ¬ IsLinked n (slice_set words (1 + g) x) (set views id w) g → TagOwed f n g x words views id v w →
      Each (set views id w) (λ u. Chained (slice_set words (1 + g) x) u.end u.purse) → IsEnd n w.end → BusyPart f n (slice_set words (1 + g) x) (set views id w) →
      Lawful f n l (slice_set words (1 + g) x) (set views id w)
  tag_kept words views id v w g x r at live within same before after owed chained end busy =
      let words' : List ℕ = slice_set words (1 + g) x in
      let views' : List View = set views id w in
      let links : SameLinks n words words' views views' = tag_links words views id v w g x at before after owed.prepared_else in
      let tree : SameTree l words words' views views' = tree_same l words words' views views' (root_after_tag words g x) (λ p. total_same (has_table p) views id v w at (ap (places p) same.book.tables)) in
      let top = same.book.top in
      let most = r.root.greatest id v at in
      record {
        spans = spans_set f views id v w at same.range r.spans;
        frames = frames_tag f n g x words views id v w r.sizes.words_are within at links before owed r.frames;
        positions = positions_same f n l words words' views views' links tree r.positions;
        root = root_same n l words words' views id v w at links (root_after_tag words g x) same.range.count (omega arith) (omega arith) r.root;
        parents = parents_same f n l words words' views views' links tree (λ h k p a ne b. entry_after_tag f n words g x h _ within) r.parents;
        entries = entries_same f n l words words' views id v w at links tree same.book.pieces (λ h i a small. entry_after_tag f n words g x h i within) r.entries;
        books = books_set f views id v w at (λ some. book_same f v w same.range same.book (r.books id v at live)) r.books;
        paths = paths_set f n words words' views id v w at links (path_same f n words words' views views' v w links same.range same.path (r.paths id v at)) r.paths;
        purses = record { chained = chained; ends = each_set (λ u. IsEnd n u.end) (λ u. IsEnd n u.end) views id v w at end (λ j u ne here h. h) r.purses.ends };
        sizes = sizes_same f n l words words' views id v w at live same.range (length_kept words (1 + g) x) r.sizes;
        busy = busy;
        known = known_set f l words words' views id v w at (λ p e. tree.tree p ∙ e)
            (λ p a. let b = r.known id v at p (subst (λ ps. IsAmong ps p) same.known a) in (tree.tree p ∙ b.0, near_same f v w same.range p b.1)) r.known;
      }
