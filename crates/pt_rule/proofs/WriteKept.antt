-- The law of a store of a piece's word.
use Rattle.std.proofs.Common.{◌≡◌, ◌≢◌, ◌⊎◌, inl, inr, ℕ, Bool, true, false, ◌+◌, ◌*◌, ◌%◌, ◌^◌, ◌<◌, ◌≤◌, List, [], ◌∷◌, set, refl, ap, sym, ◌∙◌, subst, ⊎_elim, arith}
use Rattle.std.specs.Prelude.{IsTrue, ◌==◌, ◌&&◌, ◌||◌, nat_lt, nat_le, not, map, slice_set}
use Rattle.std.proofs.lemmas.Bool.{and_from, cases_Bool, false≢true, le-leb}
use mathlib.Core.Option.{some}
use mathlib.Core.Logic.{dite}
use native.Mathlib.Decide.{ℕ_discrete}
use lib.ListN.{get_elem?}
use Rattle.pt_model.specs.declared.position.Position.{Position}
use Rattle.pt_model.specs.Layout.{Layout, end_of, input_pages}
use Rattle.pt_model.specs.Tables.{IsPosition, child_at, end_of_table, is_same, is_spine, least_top, levels_between, position_over, spine_position, starting_top}
use Rattle.pt_model.specs.Words.{tag, placed_at, entry_place, entry_of, root_level}
use Rattle.pt_format.specs.Laws.{IsLayout}
use Rattle.pt_view.specs.declared.view.View.{View}
use Rattle.pt_view.specs.declared.view.Node.{Node}
use Rattle.pt_view.specs.declared.view.Piece.{Piece}
use Rattle.pt_model.specs.Sets.{IsAmong}
use Rattle.pt_view.specs.Pieces.{add_piece, first_of, table_of, number_of, level_of, word_of}
use Rattle.pt_view.specs.Calls.{meets_span, off_spine, pieces_at, MayPut}
use Rattle.pt_view.specs.Views.{SameRange}
use Rattle.pt_rule.specs.Totals.{total, has_table, has_piece, has_word, words_at}
use Rattle.pt_rule.specs.Linked.{IsLinkedAt, is_in_tree}
use Rattle.pt_rule.specs.Lawful.{Lawful, EntriesPart, HasBook, IsOnPath, IsOwnPiece, IsOwnTable, has_child}
use Rattle.pt_rule.specs.Kinds.{Keeps, IsLowestIn, WriteTells, write, written}
use Rattle.pt_model.proofs.Places.{entry_same, root_after_entry}
use Rattle.pt_rule.proofs.PieceFacts.{pieces_with}
use Rattle.pt_rule.proofs.OrderedPieces.{all_with_piece, piece_in_order}
use Rattle.pt_rule.proofs.TotalsKept.{total_set}
use Rattle.pt_model.proofs.Positions.{adds_again, adds_cases, adds_kept, adds_new, all_among, among_all, among_filtered, among_passes, bit_le, sorted_adds}
use Rattle.pt_view.proofs.Members.{all_append, all_map}
use Rattle.pt_view.proofs.Pieces.{one_here}
use Rattle.pt_rule.proofs.PartsKept.{InTree, SameLinks, linked_back, SameTree}
use Rattle.pt_rule.proofs.TreeFacts.{linked_there, one_frame, table_there, whole_alone, whole_tree}
use Rattle.pt_rule.proofs.StoredEntry as store
use Rattle.pt_rule.proofs.FindsKept.{piece_kept, tree_found}
use Rattle.pt_rule.proofs.PathTables.{all_levels}
use Rattle.pt_model.proofs.Tops.{above_top, reaches_top, table_mono}
use Rattle.pt_rule.proofs.PathOverBlock.{same_over}
use Rattle.pt_rule.proofs.WriteFacts.{ReachesOver, path_has, linked_here, no_child, no_piece, was_zero, no_word, on_path, reaches}

-- A piece put among others.

pub words_with : (f : Layout) (p : Position) (i : ℕ) (ys : List Piece) (x : Piece) →
    words_at f p i (add_piece f ys x) ≡ pieces_at f p i (x ∷ []) * word_of f x + words_at f p i ys
words_with f p i [] x = omega arith
words_with f p i (y ∷ ys) x = ⊎_elim
    (λ (e : nat_le (first_of f y) (first_of f x) ≡ true). rw e (let rest = words_with f p i ys x in omega arith))
    (λ (e : nat_le (first_of f y) (first_of f x) ≡ false). rw e refl) (cases_Bool (nat_le (first_of f y) (first_of f x)))

module _ (f : Layout) (n l : ℕ) (good : IsLayout f) (words : List ℕ) (views : List View) (r : Lawful f n l words views) (id : ℕ) (v : View) (at : get_elem? views id ≡ some v) (live : 0 < v.count) (frame number : ℕ) (x : Piece) (down : IsLowestIn v frame) (may : MayPut f v number x) where
  abbrev w : View
  w = written f x v

  abbrev words' : List ℕ
  words' = slice_set words (entry_place f n frame number) (word_of f x)

  abbrev views' : List View
  views' = set views id w

  abbrev p : Position
  p = may.position

  same : SameRange v w
  same = record { frames = refl; levels = refl; first = refl; count = refl }

  here : IsLinkedAt n words views frame p
  here = linked_here f n l good words views r id v at live frame number x down may

  -- The tree and the linked frames stay.

  links : SameLinks n words words' views views'
  links = store.links good r id at live number (word_of f x) here may.entry.within (no_child f n l good words views r id v at live frame number x down may) w.pieces w.tables w.top w.stores

  -- the tables of the path are of the tree, off the spine, and meet the span
  on_tables : (q : Position) → IsAmong (off_spine v.levels v.path) q → IsOwnTable f w q × IsTrue (is_in_tree l words views q)
  on_tables q m =
      let a : IsAmong (map (λ (y : Node). y.position) v.path) q × (not (is_spine v.levels q) ≡ true) =
      among_filtered (λ z. not (is_spine v.levels z)) (map (λ (y : Node). y.position) v.path) q m in
      let b : (y : Node) × (IsOnPath f n words views v y × (IsPosition f y.position × IsTrue (is_in_tree l words views y.position))) × (y.position ≡ q) =
      path_has (λ y. IsOnPath f n words views v y × (IsPosition f y.position × IsTrue (is_in_tree l words views y.position))) v.path q (on_path f n l good words views r id v at live frame number x down may) a.0 in
      let off : is_spine v.levels q ≡ false = not_true (is_spine v.levels q) a.1 in (
        record {
          a_position = subst (IsPosition f) b.2 b.1.1.0;
          off_spine = off;
          meets = ⊎_elim
              (λ (s : IsTrue (is_spine v.levels b.0.position)). absurd (false≢true (sym off ∙ ap (is_spine v.levels) (sym b.2) ∙ s)))
              (λ (s : IsTrue (meets_span v b.0.position.base (end_of_table f b.0.position))). subst (λ (z : Position). IsTrue (meets_span v z.base (end_of_table f z))) b.2 s) b.1.0.near;
        },
        subst (λ (z : Position). IsTrue (is_in_tree l words views z)) b.2 b.1.1.1,
      )
    where
      not_true : (b : Bool) → not b ≡ true → b ≡ false
      not_true true e = absurd (false≢true e)
      not_true false e = refl

  kept : (q : Position) → IsAmong v.tables q → IsAmong w.tables q
  kept q m = adds_kept (off_spine v.levels v.path) v.tables q m

  found : (q : Position) → IsAmong w.tables q → IsTrue (is_in_tree l words views q)
  found q m = ⊎_elim (λ (old : IsAmong v.tables q). table_there f n l words views good r id v at q old) (λ (new : IsAmong (off_spine v.levels v.path) q). (on_tables q new).1)
      (adds_cases (off_spine v.levels v.path) v.tables q m)

  tree : SameTree l words words' views views'
  tree = record {
    root = root_after_entry f n words frame number (word_of f x);
    tree = λ q. (λ i. (is_spine l q && nat_le q.level (root_after_entry f n words frame number (word_of f x) i % 8)) || nat_lt 0 (total (has_table q) views')) ∙ tree_found l words views id v w at q (kept q) (found q);
  }

  -- The book.

  over : ReachesOver f words v x
  over = reaches f n l good words views r id v at live frame number x down may

  raised : (v.top ≤ w.top) × (least_top f v.levels (end_of x.block) ≤ w.top) × (w.top ≤ root_level words)
  raised =
      let a = r.root.greatest id v at in
      let b = reaches_top f v.levels (end_of x.block) over.top over.low over.ends in
      let c = over.high in (omega arith, omega arith, omega arith)

  top_high : root_level words < f.levels
  top_high = high r.root.reached
    where
      high : ((j : ℕ) × (u : View) × (get_elem? views j ≡ some u) × (0 < u.count) × (u.top ≡ root_level words)) → root_level words < f.levels
      high (j, u, e, alive, is) = let h = (r.books j u e alive).top_high in omega arith

  has_position : (level : ℕ) → level_of f x ≤ level → level ≤ least_top f v.levels (end_of x.block) →
      IsAmong w.tables (position_over f x.block.first level) ⊎ (IsTrue (is_spine v.levels (position_over f x.block.first level)) × (level ≤ w.top))
  has_position level from to =
      let q : Position = position_over f x.block.first level in
      let b = reaches_top f v.levels (end_of x.block) over.top over.low over.ends in
      let on = subst (IsAmong (map (λ (y : Node). y.position) v.path)) (sym (same_over f good x may.a_part may.legal level from)) (over.each level from (omega arith)) in
      ⊎_elim (λ (s : is_spine v.levels q ≡ true). inr (s, let t = raised.1 in omega arith))
      (λ (s : is_spine v.levels q ≡ false). inl (adds_new (off_spine v.levels v.path) v.tables q
      (among_passes (λ z. not (is_spine v.levels z)) (map (λ (y : Node). y.position) v.path) q on (ap not s)))) (cases_Bool (is_spine v.levels q))

  abbrev Has : Position → Type 0
  Has q = IsAmong w.tables q ⊎ (IsTrue (is_spine v.levels q) × (q.level ≤ w.top))

  own : IsOwnPiece f w x
  own = record {
    a_part = may.a_part;
    legal = may.legal;
    stated = may.stated;
    in_span = may.in_span;
    under_top =
        let t = raised in let c = over.high in let h = top_high in let b = reaches_top f v.levels (end_of x.block) over.top over.low over.ends in
        let low = above_top f v.levels (end_of x.block) (least_top f v.levels (end_of x.block)) (omega arith) (omega arith) in
        let wide = table_mono f (least_top f v.levels (end_of x.block)) w.top t.1 in omega arith;
    has_needed =
        let top : ℕ = least_top f v.levels (end_of x.block) in
        all_append Has (map (position_over f x.block.first) (levels_between (level_of f x) top)) (map spine_position (levels_between (starting_top v.levels) top))
        (all_levels Has (position_over f x.block.first) (level_of f x) top has_position)
        (all_levels Has spine_position (starting_top v.levels) top
        (λ k from to. inr (and_from (nat_le (starting_top v.levels) k) _ (le-leb (starting_top v.levels) k from) refl, let t = raised.1 in omega arith)));
  }

  book : HasBook f w
  book =
      let old : HasBook f v = r.books id v at live in
      let wide = table_mono f v.top w.top raised.0 in
      let own_table : (q : Position) → IsOwnTable f v q → IsOwnTable f w q = (λ q a. record { a_position = a.a_position; off_spine = a.off_spine; meets = a.meets }) in
      record {
        pieces = all_with_piece f (IsOwnPiece f w) v.pieces x (all_map (IsOwnPiece f v) (IsOwnPiece f w) v.pieces (λ y a. piece_kept f y v w same raised.0 kept wide a) old.pieces) own;
        tables = all_among (IsOwnTable f w) w.tables (λ q m. ⊎_elim (λ (was : IsAmong v.tables q). own_table q (among_all (IsOwnTable f v) v.tables old.tables q was))
            (λ (new : IsAmong (off_spine v.levels v.path) q). (on_tables q new).0) (adds_cases (off_spine v.levels v.path) v.tables q m));
        in_order = sorted_adds (off_spine v.levels v.path) v.tables old.in_order;
        pieces_in_order = piece_in_order f v.pieces x old.pieces_in_order;
        top_low = (let a = old.top_low in let t = raised.0 in omega arith);
        top_high = (let a = top_high in let t = raised.2 in omega arith);
      }

  -- The entries.

  -- another entry than the one that is written
  else_same : (h i : ℕ) → i < 2 ^ f.index → (h ≡ frame → i ≡ number → ⊥) → entry_of f n words' h i ≡ entry_of f n words h i
  else_same = store.else_same good r id at live number (word_of f x) here may.entry.within (no_child f n l good words views r id v at live frame number x down may) w.pieces w.tables w.top w.stores

  -- where the piece stands
  at_piece : (q : Position) (i : ℕ) → pieces_at f q i (x ∷ []) ≢ 0 → (q ≡ p) × (i ≡ number)
  at_piece q i some_one =
      let most = bit_le (is_same q (table_of f x) && (number_of f x == i)) in
      let a : (q ≡ table_of f x) × (number_of f x ≡ i) = one_here f q i x (omega arith) in
      let b : (p ≡ table_of f x) × (number_of f x ≡ number) = one_here f p number x may.here in
      (a.0 ∙ sym b.0, sym a.1 ∙ b.1)

  piece_total : (q : Position) (i : ℕ) → total (has_piece f q i) views' ≡ pieces_at f q i (x ∷ []) + total (has_piece f q i) views
  piece_total q i = let s = total_set (has_piece f q i) views id v w at in let t = pieces_with f q i v.pieces x in omega arith

  word_total : (q : Position) (i : ℕ) → total (has_word f q i) views' ≡ pieces_at f q i (x ∷ []) * word_of f x + total (has_word f q i) views
  word_total q i = let s = total_set (has_word f q i) views id v w at in let t = words_with f q i v.pieces x in omega arith

  child_same : (q : Position) (i : ℕ) → has_child f l words' views' q i ≡ has_child f l words views q i
  child_same q i = ap (λ (b : Bool). nat_lt 0 q.level && b) (tree.tree (child_at f q i))

  entries : EntriesPart f n l words' views'
  entries = record {
    words_are = λ h i q a small none.
        let was : IsLinkedAt n words views h q = linked_back n words words' views views' links h q a in
        let childless : has_child f l words views q i ≡ false = sym (child_same q i) ∙ none in
        dite (ℕ_discrete (pieces_at f q i (x ∷ [])) 0)
        (λ no_x.
        else_same h i small
        (λ e d.
        let is : q ≡ p = sym was.at ∙ ap (λ (z : ℕ). placed_at (tag words z)) e ∙ here.at in
        let z : pieces_at f p number (x ∷ []) ≡ 0 = (λ k. pieces_at f (sym is k) (sym d k) (x ∷ [])) ∙ no_x in let one = may.here in omega arith)
        ∙ r.entries.words_are h i q was small childless
        ∙ (let t = word_total q i in let z : pieces_at f q i (x ∷ []) * word_of f x ≡ 0 * word_of f x = ap (λ k. k * word_of f x) no_x in omega arith))
        (λ some_x.
        let e : (q ≡ p) × (i ≡ number) = at_piece q i some_x in
        let frame_is : h ≡ frame = one_frame f n l words views good r h frame p (subst (IsLinkedAt n words views h) e.0 was) here in
        (λ k. entry_of f n words' (frame_is k) (e.1 k)) ∙ entry_same f n words frame number (word_of f x) r.sizes.words_are here.is_linked.within may.entry.within
        ∙ (let one = may.here in let none = no_word f n l good words views r id v at live frame number x down may in
        let t = word_total p number in
        let z : pieces_at f p number (x ∷ []) * word_of f x ≡ 1 * word_of f x = ap (λ k. k * word_of f x) may.here in
        let sum : word_of f x ≡ total (has_word f p number) views' = omega arith in sum)
        ∙ (λ k. total (has_word f (sym e.0 k) (sym e.1 k)) views'));
    apart = λ i q one. dite (ℕ_discrete (pieces_at f q i (x ∷ [])) 0)
        (λ no_x. let t = piece_total q i in let old = r.entries.apart i q (sym (child_same q i) ∙ one) in omega arith)
        (λ some_x.
        let e : (q ≡ p) × (i ≡ number) = at_piece q i some_x in
        absurd (false≢true (sym (no_child f n l good words views r id v at live frame number x down may) ∙ (λ k. has_child f l words views (sym e.0 k) (sym e.1 k)) ∙ sym (child_same q i) ∙ one)));
    once = λ i q. dite (ℕ_discrete (pieces_at f q i (x ∷ [])) 0)
        (λ no_x. let t = piece_total q i in let old = r.entries.once i q in omega arith)
        (λ some_x.
        let e : (q ≡ p) × (i ≡ number) = at_piece q i some_x in
        let most = bit_le (is_same q (table_of f x) && (number_of f x == i)) in
        let none : total (has_piece f q i) views ≡ 0 = (λ k. total (has_piece f (e.0 k) (e.1 k)) views) ∙ no_piece f n l good words views r id v at live frame number x down may in
        let t = piece_total q i in omega arith);
    homes = store.homes good r id at live number (word_of f x) here may.entry.within (no_child f n l good words views r id v at live frame number x down may) w.pieces w.tables w.top w.stores tree
        (λ old. all_with_piece f (λ y. IsTrue (is_in_tree l words' views' (table_of f y))) v.pieces x (all_map (λ (y : Piece). InTree l words views (table_of f y)) (λ y. InTree l words' views' (table_of f y)) v.pieces (λ y t. tree.tree (table_of f y) ∙ t) old)
        (tree.tree (table_of f x) ∙ ap (is_in_tree l words views) (sym (one_here f p number x may.here).0) ∙ linked_there f n l words views good r frame p here));
  }

  lawful : Lawful f n l words' views'
  lawful = store.stored good r id at live number (word_of f x) here may.entry.within (no_child f n l good words views r id v at live frame number x down may) w.pieces w.tables w.top w.stores tree entries book raised.0 raised.2

  -- the view of the whole space has the tables of its path already, and its top is the root's level
  tells : WriteTells f v x (entry_of f n words frame number)
  tells = record {
    was_zero = was_zero f n l good words views r id v at live frame number x down may;
    same_tables = λ whole. adds_again (off_spine v.levels v.path) v.tables (r.books id v at live).in_order
        (λ q m. ⊎_elim (λ (known : IsAmong v.tables q). known)
        (λ (s : IsTrue (is_spine v.levels q)). absurd (false≢true (sym (on_tables q m).0.off_spine ∙ s)))
        (whole_tree f n l words views good r id v at live whole q (on_tables q m).1));
    same_top = λ whole. let a = r.root.greatest id v at in let t = raised in let same = top_is whole r.root.reached in omega arith;
  }
    where
      top_is : v.count ≡ input_pages f → ((j : ℕ) × (u : View) × (get_elem? views j ≡ some u) × (0 < u.count) × (u.top ≡ root_level words)) → root_level words ≡ v.top
      top_is whole (j, u, here, alive, is) = sym is ∙ ap (λ (z : View). z.top) (whole_alone f n l words views good r id v at live whole j u here alive)

-- A store of a piece's word keeps the rule, and what it found tells.
pub write_keeps : (f : Layout) (n l : ℕ) → IsLayout f → (frame number : ℕ) (x : Piece) → Keeps f n l (write frame number x)
write_keeps f n l good frame number x words views id v r at live may =
    (lawful f n l good words views r id v at live frame number x may.0 may.1, tells f n l good words views r id v at live frame number x may.0 may.1)
