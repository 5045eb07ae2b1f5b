-- A store to an entry over which the tree has no child: what it keeps, whatever pieces are then in the book.
use Rattle.std.proofs.Common.{◌≡◌, ◌≢◌, ℕ, false, ◌+◌, ◌^◌, ◌<◌, ◌≤◌, List, set, refl, ap, sym, ◌∙◌, subst, arith}
use Rattle.std.specs.Prelude.{nat_lt, slice_index, slice_set}
use Rattle.std.specs.List.{AllByRecursion}
use Rattle.std.proofs.lemmas.Bool.{and_from, false≢true, lt-ltb}
use mathlib.Core.Option.{some}
use lib.ListN.{get_elem?}
use Rattle.pt_model.specs.declared.position.Position.{Position}
use Rattle.pt_model.specs.Layout.{Layout}
use Rattle.pt_model.specs.Tables.{child_at, parent_of, spine_position}
use Rattle.pt_model.specs.Words.{tag, placed_at, entry_place, entry_of, root_level}
use Rattle.pt_format.specs.Laws.{IsLayout}
use Rattle.pt_view.specs.declared.view.View.{View}
use Rattle.pt_view.specs.declared.view.Piece.{Piece}
use Rattle.pt_view.specs.declared.view.Change.{Change}
use Rattle.pt_view.specs.Pieces.{table_of}
use Rattle.pt_view.specs.Views.{SameRange}
use Rattle.pt_rule.specs.Totals.{Each, prepares}
use Rattle.pt_rule.specs.Linked.{IsLinked, IsLinkedAt, is_in_tree}
use Rattle.pt_rule.specs.Lawful.{Lawful, EntriesPart, HasBook, slot_of, has_child}
use Rattle.pt_model.proofs.Places.{entry_else, tag_after_entry, root_after_entry, length_kept}
use Rattle.pt_rule.proofs.TotalsKept.{total_same, each_set}
use Rattle.pt_view.proofs.Members.{all_map}
use Rattle.pt_rule.proofs.PartsKept.{together, InTree, SameLinks, links_same, SameTree, frames_same, positions_same, root_same, parents_same, books_set, paths_set, path_same, known_set}
use Rattle.pt_rule.proofs.PositionFacts.{child_of_parent, slot_below}
use Rattle.pt_rule.proofs.TreeFacts.{is_position, linked_there}

module _ {f : Layout} {n l : ℕ} (good : IsLayout f) {words : List ℕ} {views : List View} (r : Lawful f n l words views) (id : ℕ) {v : View} (at : get_elem? views id ≡ some v) (live : 0 < v.count)
    {frame : ℕ} {p : Position} (number word : ℕ) (here : IsLinkedAt n words views frame p) (within : number < 2 ^ f.index) (no_child : has_child f l words views p number ≡ false)
    (pieces : List Piece) (tables : List Position) (top : ℕ) (stores : List Change) where
  abbrev w : View
  w = record v { pieces = pieces; tables = tables; top = top; stores = stores }

  abbrev words' : List ℕ
  words' = slice_set words (entry_place f n frame number) word

  abbrev views' : List View
  views' = set views id w

  same : SameRange v w
  same = record { frames = refl; levels = refl; first = refl; count = refl }

  tags : (h : ℕ) → h < n → tag words' h ≡ tag words h
  tags h lt = tag_after_entry f n words frame number word h lt

  root : slice_index words' 0 ≡ slice_index words 0
  root = root_after_entry f n words frame number word

  pub links : SameLinks n words words' views views'
  links = links_same n words words' views views' tags (λ h. total_same (prepares h) views id v w at refl)

  -- another entry than the one that is stored to
  pub else_same : (h i : ℕ) → i < 2 ^ f.index → (h ≡ frame → i ≡ number → ⊥) → entry_of f n words' h i ≡ entry_of f n words h i
  else_same h i small other = entry_else f n words frame number word h i within small other

  -- the pieces stand in the tree still
  pub homes : SameTree l words words' views views' → (AllByRecursion (λ y. InTree l words views (table_of f y)) v.pieces → AllByRecursion (λ y. InTree l words' views' (table_of f y)) pieces) →
      Each views' (λ u. AllByRecursion (λ y. InTree l words' views' (table_of f y)) u.pieces)
  homes tree mine = each_set (λ u. AllByRecursion (λ y. InTree l words views (table_of f y)) u.pieces) (λ u. AllByRecursion (λ y. InTree l words' views' (table_of f y)) u.pieces) views id v w at
      (mine (r.entries.homes id v at))
      (λ j u ne e h. all_map (λ (y : Piece). InTree l words views (table_of f y)) (λ y. InTree l words' views' (table_of f y)) u.pieces (λ y t. tree.tree (table_of f y) ∙ t) h) r.entries.homes

  -- no pointer stood at the entry
  pointers : (g h : ℕ) (q : Position) → IsLinkedAt n words views h q → q ≢ spine_position (root_level words) → IsLinkedAt n words views g (parent_of f q) →
      entry_of f n words' g (slot_of f q) ≡ entry_of f n words g (slot_of f q)
  pointers g h q a ne b =
      let aligned = (is_position f n l words views good r h q a).0.aligned in
      else_same g (slot_of f q) (slot_below f q aligned)
      (λ e d.
      let up : parent_of f q ≡ p = sym b.at ∙ ap (λ (z : ℕ). placed_at (tag words z)) e ∙ here.at in
      let child : child_at f p number ≡ q = (λ k. child_at f (sym up k) (sym d k)) ∙ child_of_parent f q aligned in
      let high : 0 < p.level = (let level : q.level + 1 ≡ p.level = ap (λ (z : Position). z.level) up in omega arith) in
      false≢true (sym no_child ∙ and_from (nat_lt 0 p.level) _ (lt-ltb 0 p.level high) (ap (is_in_tree l words views) child ∙ linked_there f n l words views good r h q a)))

  pub stored : SameTree l words words' views views' → EntriesPart f n l words' views' → HasBook f w → v.top ≤ top → top ≤ root_level words → Lawful f n l words' views'
  stored tree entries book raised low = together f n l words words' views id v w r at live same refl refl refl tags (length_kept words (entry_place f n frame number) word)
      (frames_same f n words words' views id v w at links tags refl refl refl
      (λ h i lt unlinked small. else_same h i small (λ e d. unlinked (subst (IsLinked n words views) (sym e) here.is_linked))) r.frames)
      (positions_same f n l words words' views views' links tree r.positions)
      (root_same n l words words' views id v w at links root refl raised low r.root)
      (parents_same f n l words words' views views' links tree pointers r.parents) entries (books_set f views id v w at (λ some_page. book) r.books)
      (paths_set f n words words' views id v w at links (path_same f n words words' views views' v w links same refl (r.paths id v at)) r.paths)
      (known_set f l words words' views id v w at (λ q e. tree.tree q ∙ e) (λ q m. let k = r.known id v at q m in (tree.tree q ∙ k.0, k.1)) r.known)
