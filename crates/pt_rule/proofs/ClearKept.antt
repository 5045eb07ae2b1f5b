-- The law of a store of zero over a piece's word.
use Rattle.std.proofs.Common.{◌≡◌, ℕ, Bool, false, ◌^◌, ◌<◌, List, set, refl, ap, sym, ◌∙◌, subst, ⊎_elim, arith}
use Rattle.std.specs.Prelude.{IsTrue, ◌&&◌, nat_lt, slice_set, Some}
use Rattle.std.proofs.lemmas.Bool.{false_from_ne_true}
use mathlib.Core.Option.{some}
use lib.ListN.{get_elem?}
use Rattle.pt_model.specs.declared.position.Position.{Position}
use Rattle.pt_model.specs.Layout.{Layout}
use Rattle.pt_model.specs.Tables.{child_at}
use Rattle.pt_model.specs.Words.{tag, placed_at, entry_place, entry_of}
use Rattle.pt_format.specs.Laws.{IsLayout}
use Rattle.pt_view.specs.declared.view.View.{View}
use Rattle.pt_view.specs.declared.view.Piece.{Piece}
use Rattle.pt_view.specs.Pieces.{table_of, number_of, word_of}
use Rattle.pt_view.specs.Calls.{drop_at, pieces_at, MayDrop}
use Rattle.pt_view.specs.Views.{SameRange}
use Rattle.pt_rule.specs.Totals.{total, has_table, has_piece, has_word, words_at}
use Rattle.pt_rule.specs.Linked.{IsLinkedAt, is_in_tree}
use Rattle.pt_rule.specs.Lawful.{Lawful, EntriesPart, HasBook, IsOnPath, IsOwnPiece, IsOwnTable, has_child}
use Rattle.pt_rule.specs.Kinds.{Keeps, IsLowestIn, ClearTells, clear, cleared}
use Rattle.pt_model.proofs.Places.{entry_same, root_after_entry}
use Rattle.pt_rule.proofs.TotalsKept.{total_at, total_only, total_same, total_set, total_two}
use Rattle.pt_view.proofs.Members.{all_map}
use Rattle.pt_view.proofs.Paths.{lowest_has}
use Rattle.pt_view.proofs.Pieces.{one_here}
use Rattle.pt_rule.proofs.PartsKept.{InTree, SameLinks, linked_back, SameTree, tree_same}
use Rattle.pt_rule.proofs.PieceFacts.{no_words}
use Rattle.pt_rule.proofs.TreeFacts.{no_words_of, one_frame}
use Rattle.pt_rule.proofs.StoredEntry as store
use Rattle.pt_rule.proofs.FindsKept.{piece_kept, table_kept}
use Rattle.pt_rule.proofs.ListsWithout.{all_filtered, entry_cases, member_counts, member_word, none_left, pieces_left, words_left, order_left}

module _ (f : Layout) (n l : ℕ) (good : IsLayout f) (words : List ℕ) (views : List View) (r : Lawful f n l words views) (id : ℕ) (v : View) (at : get_elem? views id ≡ some v) (live : 0 < v.count) (frame number : ℕ) (x : Piece) (down : IsLowestIn v frame) (may : MayDrop f v number x) where
  abbrev w : View
  w = cleared f x v

  abbrev words' : List ℕ
  words' = slice_set words (entry_place f n frame number) 0

  abbrev views' : List View
  views' = set views id w

  abbrev p : Position
  p = may.position

  same : SameRange v w
  same = record { frames = refl; levels = refl; first = refl; count = refl }

  here : IsLinkedAt n words views frame p
  here =
      let e : Some may.entry.node ≡ Some (record { frame = frame; position = down.0 }) = sym may.entry.is_lowest ∙ down.1 in
      let node_is : may.entry.node ≡ record { frame = frame; position = down.0 } = cc in
      let on : IsOnPath f n words views v may.entry.node = lowest_has (IsOnPath f n words views v) v.path may.entry.node may.entry.is_lowest (r.paths id v at).nodes in
      subst (λ (s : ℕ × Position). IsLinkedAt n words views s.0 s.1) (λ i. ((node_is i).frame, may.entry.at i)) on.at

  -- Before the step: the piece alone stands at the entry, which is its word.

  mine : pieces_at f p number v.pieces ≡ 1
  mine =
      let some_one = member_counts f p number v.pieces x may.member may.here in
      let most = total_at (has_piece f p number) views id v at in
      let once = r.entries.once number p in omega arith

  no_child : has_child f l words views p number ≡ false
  no_child = false_from_ne_true (has_child f l words views p number) (λ e.
      let none = r.entries.apart number p e in let most = total_at (has_piece f p number) views id v at in let one = mine in omega arith)

  stood : (total (has_word f p number) views ≡ word_of f x) × (entry_of f n words frame number ≡ word_of f x)
  stood =
      let once = r.entries.once number p in
      let one = mine in
      let only : total (has_word f p number) views ≡ words_at f p number v.pieces =
      total_only (has_word f p number) views id v at
      (λ j u ne e. no_words f p number u.pieces (let two = total_two (has_piece f p number) views j id u v ne e at in omega arith)) in
      let is = only ∙ member_word f p number v.pieces x may.member may.here (omega arith) in
      (is, r.entries.words_are frame number p here may.entry.within no_child ∙ is)

  -- The tree and the linked frames stay.

  links : SameLinks n words words' views views'
  links = store.links good r id at live number 0 here may.entry.within no_child w.pieces w.tables w.top w.stores

  tree : SameTree l words words' views views'
  tree = tree_same l words words' views views' (root_after_entry f n words frame number 0) (λ q. total_same (has_table q) views id v w at refl)

  -- The book.

  book : HasBook f w
  book =
      let old : HasBook f v = r.books id v at live in record {
        pieces = all_filtered _ (IsOwnPiece f w) v.pieces (all_map (IsOwnPiece f v) (IsOwnPiece f w) v.pieces (λ y a. piece_kept f y v w same (omega arith) (λ q m. m) (omega arith) a) old.pieces);
        tables = all_map (IsOwnTable f v) (IsOwnTable f w) v.tables (λ q a. table_kept f q v w same a) old.tables;
        in_order = old.in_order;
        pieces_in_order = order_left f (table_of f x) (number_of f x) v.pieces old.pieces_in_order;
        top_low = old.top_low;
        top_high = old.top_high;
      }

  -- The entries.

  -- another entry than the one that is cleared
  else_same : (h i : ℕ) → i < 2 ^ f.index → (h ≡ frame → i ≡ number → ⊥) → entry_of f n words' h i ≡ entry_of f n words h i
  else_same = store.else_same good r id at live number 0 here may.entry.within no_child w.pieces w.tables w.top w.stores

  left_are : w.pieces ≡ drop_at f p number v.pieces
  left_are = let h : (p ≡ table_of f x) × (number_of f x ≡ number) = one_here f p number x may.here in λ k. drop_at f (sym h.0 k) (h.1 k) v.pieces

  piece_here : total (has_piece f p number) views' ≡ 0
  piece_here =
      let s = total_set (has_piece f p number) views id v w at in
      let gone : pieces_at f p number w.pieces ≡ 0 = ap (pieces_at f p number) left_are ∙ none_left f p number v.pieces in
      let one = mine in let once = r.entries.once number p in omega arith

  piece_else : (q : Position) (i : ℕ) → (q ≡ p → i ≡ number → ⊥) → total (has_piece f q i) views' ≡ total (has_piece f q i) views
  piece_else q i other = total_same (has_piece f q i) views id v w at (ap (pieces_at f q i) left_are ∙ pieces_left f p number q i other v.pieces)

  word_else : (q : Position) (i : ℕ) → (q ≡ p → i ≡ number → ⊥) → total (has_word f q i) views' ≡ total (has_word f q i) views
  word_else q i other = total_same (has_word f q i) views id v w at (ap (words_at f q i) left_are ∙ words_left f p number q i other v.pieces)

  child_same : (q : Position) (i : ℕ) → has_child f l words' views' q i ≡ has_child f l words views q i
  child_same q i = ap (λ (b : Bool). nat_lt 0 q.level && b) (tree.tree (child_at f q i))

  entries : EntriesPart f n l words' views'
  entries = record {
    words_are = λ h i q a small none.
        let was : IsLinkedAt n words views h q = linked_back n words words' views views' links h q a in
        ⊎_elim
        (λ (e : (q ≡ p) × (i ≡ number)).
        let frame_is : h ≡ frame = one_frame f n l words views good r h frame p (subst (IsLinkedAt n words views h) e.0 was) here in
        (λ k. entry_of f n words' (frame_is k) (e.1 k)) ∙ entry_same f n words frame number 0 r.sizes.words_are here.is_linked.within may.entry.within
        ∙ sym (no_words_of f p number views' piece_here) ∙ (λ k. total (has_word f (sym e.0 k) (sym e.1 k)) views'))
        (λ (other : q ≡ p → i ≡ number → ⊥).
        else_same h i small (λ e d. other (sym was.at ∙ ap (λ (z : ℕ). placed_at (tag words z)) e ∙ here.at) d)
        ∙ r.entries.words_are h i q was small (sym (child_same q i) ∙ none) ∙ sym (word_else q i other))
        (entry_cases p number q i);
    apart = λ i q one. ⊎_elim
        (λ (e : (q ≡ p) × (i ≡ number)). (λ k. total (has_piece f (e.0 k) (e.1 k)) views') ∙ piece_here)
        (λ (other : q ≡ p → i ≡ number → ⊥). piece_else q i other ∙ r.entries.apart i q (sym (child_same q i) ∙ one)) (entry_cases p number q i);
    once = λ i q. ⊎_elim
        (λ (e : (q ≡ p) × (i ≡ number)). let none : total (has_piece f q i) views' ≡ 0 = (λ k. total (has_piece f (e.0 k) (e.1 k)) views') ∙ piece_here in omega arith)
        (λ (other : q ≡ p → i ≡ number → ⊥). let t = piece_else q i other in let old = r.entries.once i q in omega arith) (entry_cases p number q i);
    homes = store.homes good r id at live number 0 here may.entry.within no_child w.pieces w.tables w.top w.stores tree
        (λ old. all_filtered _ (λ y. IsTrue (is_in_tree l words' views' (table_of f y))) v.pieces (all_map (λ (y : Piece). InTree l words views (table_of f y)) (λ y. InTree l words' views' (table_of f y)) v.pieces (λ y t. tree.tree (table_of f y) ∙ t) old));
  }

  lawful : Lawful f n l words' views'
  lawful = store.stored good r id at live number 0 here may.entry.within no_child w.pieces w.tables w.top w.stores tree entries book (omega arith) (r.root.greatest id v at)

  tells : ClearTells f v x (entry_of f n words frame number)
  tells =
      let h : (p ≡ table_of f x) × (number_of f x ≡ number) = one_here f p number x may.here in
      record { was_word = stood.1; alone = (λ k. pieces_at f (sym h.0 k) (h.1 k) v.pieces) ∙ mine }

-- A store of zero over a piece's word keeps the rule, and what it found tells.
pub clear_keeps : (f : Layout) (n l : ℕ) → IsLayout f → (frame number : ℕ) (x : Piece) → Keeps f n l (clear frame number x)
clear_keeps f n l good frame number x words views id v r at live may =
    (lawful f n l good words views r id v at live frame number x may.0 may.1, tells f n l good words views r id v at live frame number x may.0 may.1)
