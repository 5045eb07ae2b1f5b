-- The pieces of a view of the whole space are read from the words.
use Rattle.std.proofs.Common.{◌≡◌, ◌≢◌, ◌⊎◌, inl, inr, ℕ, zero, suc, ◌*◌, ◌^◌, ◌<◌, ◌≤◌, List, [], ◌∷◌, sym, refl, ap, ◌∙◌, subst, arith, ⊎_elim}
use Rattle.std.specs.Prelude.{IsTrue, nat_lt, nat_le, Option}
use Rattle.std.specs.List.{AllByRecursion}
use Rattle.std.proofs.lemmas.Bool.{and_from, false≢true, leb-true, leb-false, lt-ltb}
use Rattle.std.proofs.lemmas.Nat.{pow_pos}
use mathlib.Core.Option.{some, some-injective, some-ne-none}
use mathlib.Core.Logic.{dite}
use native.Mathlib.Decide.{ℕ_discrete}
use lib.ListN.{get_elem?}
use Rattle.pt_model.proofs.Positions.{same_list}
use Rattle.pt_view.proofs.Members.{all_have, all_map, one_has}
use Rattle.pt_view.proofs.Pieces.{here_one, number_below, one_here}
use Rattle.pt_model.specs.declared.position.Position.{Position}
use Rattle.pt_model.specs.Layout.{Layout}
use Rattle.pt_model.specs.Tables.{IsPosition, child_at}
use Rattle.pt_model.specs.Words.{tag, placed_at, entry_of, frame_address}
use Rattle.pt_format.specs.Laws.{IsLayout, WordsDiffer}
use Rattle.pt_format.specs.Manual.{StepsAgree}
use Rattle.pt_view.specs.declared.view.View.{View}
use Rattle.pt_view.specs.declared.view.Piece.{Piece}
use Rattle.pt_view.specs.Pieces.{IsOneOf, add_piece, first_of, level_of, number_of, table_of}
use Rattle.pt_view.specs.Calls.{pieces_at}
use Rattle.pt_rule.specs.Totals.{total, has_piece}
use Rattle.pt_rule.specs.Linked.{IsLinkedAt, is_in_tree}
use Rattle.pt_rule.specs.Lawful.{Lawful, IsOwnPiece}
use Rattle.pt_rule.specs.WholeView.{is_linked_in, piece_in, pieces_in, pieces_with_frame, prepared_frame, with_piece}
use Rattle.pt_rule.proofs.TreeFacts.{an_empty, a_piece, a_child, entry_is, entry_of_piece, is_address, is_position, linked_there, one_frame}
use Rattle.pt_rule.proofs.OrderedPieces.{all_with_piece, either_has}
use Rattle.pt_rule.proofs.PiecesApart.{Spaced, last_of, spaced, stands}
use Rattle.pt_rule.proofs.ReadPiece.{piece_read, pointer_read, zero_read}
use Rattle.pt_rule.proofs.ReadTables.{is_linked, reads_linked}

-- Lists of pieces.

-- each piece begins before the later ones
abbrev Rises : Layout → List Piece → Type 0
Rises f [] = Unit {0}
Rises f (x ∷ xs) = AllByRecursion (λ y. first_of f x < first_of f y) xs × Rises f xs

spaced_rises : (f : Layout) (xs : List Piece) → Spaced f xs → Rises f xs
spaced_rises f [] s = tt
spaced_rises f (x ∷ xs) s = (
  all_map (λ y. last_of f x ≤ first_of f y) (λ y. first_of f x < first_of f y) xs (λ y a. let some_page = pow_pos (f.index * level_of f x) in omega arith) s.0,
  spaced_rises f xs s.1,
)

member_cases : (x y : Piece) (xs : List Piece) → IsOneOf (y ∷ xs) x → (x ≡ y) ⊎ IsOneOf xs x
member_cases x y xs (inl e) = inl (sym e)
member_cases x y xs (inr h) = inr h

-- two rising lists of the same pieces are one
same_pieces : (f : Layout) (xs ys : List Piece) → Rises f xs → Rises f ys → ((x : Piece) → IsOneOf xs x → IsOneOf ys x) → ((x : Piece) → IsOneOf ys x → IsOneOf xs x) → xs ≡ ys
same_pieces f = same_list IsOneOf (λ x y. first_of f x < first_of f y) (Rises f) (λ x m. m) (λ x xs. inl refl) (λ x y xs m. inr m) member_cases
    (λ x xs s y m. one_has (λ z. first_of f x < first_of f z) xs y s.0 m) (λ x xs s. s.1) (λ x y a b. omega arith)

-- pieces of a rising list that begin at one page are one
one_first : (f : Layout) (xs : List Piece) (x y : Piece) → Rises f xs → IsOneOf xs x → IsOneOf xs y → first_of f x ≡ first_of f y → x ≡ y
one_first f [] x y s a b e = absurd a
one_first f (z ∷ zs) x y s (inl a) (inl b) e = sym a ∙ b
one_first f (z ∷ zs) x y s (inl a) (inr b) e =
    let less = one_has (λ w. first_of f z < first_of f w) zs y s.0 b in let same : first_of f z ≡ first_of f x = ap (first_of f) a in absurd (omega arith)
one_first f (z ∷ zs) x y s (inr a) (inl b) e =
    let less = one_has (λ w. first_of f z < first_of f w) zs x s.0 a in let same : first_of f z ≡ first_of f y = ap (first_of f) b in absurd (omega arith)
one_first f (z ∷ zs) x y s (inr a) (inr b) e = one_first f zs x y s.1 a b e

-- A piece put among others.

piece_added : (f : Layout) (ys : List Piece) (y : Piece) → IsOneOf (add_piece f ys y) y
piece_added f [] y = inl refl
piece_added f (z ∷ zs) y = either_has (λ xs. IsOneOf xs y) (nat_le (first_of f z) (first_of f y)) (z ∷ add_piece f zs y) (y ∷ (z ∷ zs)) (λ e. inr (piece_added f zs y)) (λ e. inl refl)

piece_kept : (f : Layout) (ys : List Piece) (y x : Piece) → IsOneOf ys x → IsOneOf (add_piece f ys y) x
piece_kept f [] y x h = absurd h
piece_kept f (z ∷ zs) y x h = either_has (λ xs. IsOneOf xs x) (nat_le (first_of f z) (first_of f y)) (z ∷ add_piece f zs y) (y ∷ (z ∷ zs))
    (λ e. ⊎_elim (λ (a : z ≡ x). inl a) (λ (b : IsOneOf zs x). inr (piece_kept f zs y x b)) h) (λ e. inr h)

added_is : (f : Layout) (ys : List Piece) (y x : Piece) → IsOneOf (add_piece f ys y) x → IsOneOf ys x ⊎ (x ≡ y)
added_is f ys y x = one_has (λ z. IsOneOf ys z ⊎ (z ≡ y)) (add_piece f ys y) x
    (all_with_piece f (λ z. IsOneOf ys z ⊎ (z ≡ y)) ys y (all_have (λ z. IsOneOf ys z ⊎ (z ≡ y)) ys (λ z m. inl m)) (inr refl))

rises_more : (f : Layout) (ys : List Piece) (y : Piece) → Rises f ys → ((z : Piece) → IsOneOf ys z → first_of f z ≢ first_of f y) → Rises f (add_piece f ys y)
rises_more f [] y s other = (tt, tt)
rises_more f (z ∷ zs) y s other = either_has (Rises f) (nat_le (first_of f z) (first_of f y)) (z ∷ add_piece f zs y) (y ∷ (z ∷ zs))
    (λ e.
    let low : first_of f z < first_of f y = (let le = leb-true (first_of f z) (first_of f y) e in let ne = other z (inl refl) in omega arith) in
    (all_with_piece f (λ w. first_of f z < first_of f w) zs y s.0 low, rises_more f zs y s.1 (λ w m. other w (inr m))))
    (λ e.
    let low : first_of f y < first_of f z = leb-false (first_of f z) (first_of f y) e in
    ((low, all_map (λ w. first_of f z < first_of f w) (λ w. first_of f y < first_of f w) zs (λ w a. omega arith) s.0), s))

-- A list that rises and has exactly those pieces of another that are seen.
record Gathers (f : Layout) (pieces : List Piece) (Seen : Piece → Type 0) (ys : List Piece) : Type 0 where
  rises : Rises f ys
  own : (x : Piece) → IsOneOf ys x → IsOneOf pieces x × Seen x
  all : (x : Piece) → IsOneOf pieces x → Seen x → IsOneOf ys x

module _ (f : Layout) (pieces : List Piece) where
  gathers_same : (A B : Piece → Type 0) (ys : List Piece) → ((x : Piece) → IsOneOf pieces x → A x → B x) → ((x : Piece) → IsOneOf pieces x → B x → A x) →
      Gathers f pieces A ys → Gathers f pieces B ys
  gathers_same A B ys to back h = record {
    rises = h.rises;
    own = λ x m. let o = h.own x m in (o.0, to x o.0 o.1);
    all = λ x m b. h.all x m (back x m b);
  }

  gathers_more : (A : Piece → Type 0) (ys : List Piece) (y : Piece) → Rises f pieces → IsOneOf pieces y → ¬ A y → Gathers f pieces A ys →
      Gathers f pieces (λ x. A x ⊎ (x ≡ y)) (add_piece f ys y)
  gathers_more A ys y rising member unseen h = record {
    rises = rises_more f ys y h.rises (λ z m e. let o = h.own z m in unseen (subst A (one_first f pieces z y rising o.0 member e) o.1));
    own = λ x m. ⊎_elim (λ (old : IsOneOf ys x). let o = h.own x old in (o.0, inl o.1)) (λ (e : x ≡ y). (subst (IsOneOf pieces) (sym e) member, inr e)) (added_is f ys y x m);
    all = λ x m s. ⊎_elim (λ (a : A x). piece_kept f ys y x (h.all x m a)) (λ (e : x ≡ y). subst (IsOneOf (add_piece f ys y)) (sym e) (piece_added f ys y)) s;
  }

-- the one view of a list
pub only_view : (v : View) (j : ℕ) (u : View) → get_elem? (v ∷ []) j ≡ some u → u ≡ v
only_view v zero u e = sym (some-injective v u e)
only_view v (suc j) u e = absurd (some-ne-none u (sym e))

module _ (f : Layout) (n l : ℕ) (words : List ℕ) (v : View) (good : IsLayout f) (d : WordsDiffer f) (a : StepsAgree f) (r : Lawful f n l words (v ∷ [])) (live : 0 < v.count) where
  -- a piece stands at an entry before entry i of frame g
  record IsSeen (g i : ℕ) (x : Piece) : Type 0 where
    frame : ℕ
    at : IsLinkedAt n words (v ∷ []) frame (table_of f x)
    before : (frame < g) ⊎ ((frame ≡ g) × (number_of f x < i))

  rising : Rises f v.pieces
  rising = spaced_rises f v.pieces (spaced f n l words (v ∷ []) good r 0 v refl live)

  -- One entry.
  module _ (g i : ℕ) (p : Position) (here : IsLinkedAt n words (v ∷ []) g p) where
    at_frame : (x : Piece) (h : ℕ) → IsLinkedAt n words (v ∷ []) h (table_of f x) → h ≡ g → table_of f x ≡ p
    at_frame x h b e = sym b.at ∙ ap (λ (k : ℕ). placed_at (tag words k)) e ∙ here.at

    seen_more : (x : Piece) → IsSeen g i x → IsSeen g (suc i) x
    seen_more x s = record {
      frame = s.frame;
      at = s.at;
      before = ⊎_elim (λ (low : s.frame < g). inl low) (λ (same : (s.frame ≡ g) × (number_of f x < i)). inr (same.0, (let less = same.1 in omega arith))) s.before;
    }

    -- what is seen after it was seen before it, or stands there
    seen_cases : (x : Piece) → IsSeen g (suc i) x → IsSeen g i x ⊎ ((table_of f x ≡ p) × (number_of f x ≡ i))
    seen_cases x s = ⊎_elim
        (λ (low : s.frame < g). inl (record { frame = s.frame; at = s.at; before = inl low }))
        (λ (same : (s.frame ≡ g) × (number_of f x < suc i)).
        dite (ℕ_discrete (number_of f x) i) (λ e. inr (at_frame x s.frame s.at same.0, e))
        (λ ne. inl (record { frame = s.frame; at = s.at; before = inr (same.0, (let less = same.1 in omega arith)) }))) s.before

    -- a piece of the view that stands there is counted there
    counted : (x : Piece) → IsOneOf v.pieces x → table_of f x ≡ p → number_of f x ≡ i → 0 < pieces_at f p i v.pieces
    counted x m e k = subst (λ (s : Position × ℕ). 0 < pieces_at f s.0 s.1 v.pieces) (λ j. (e j, k j)) (stands f v.pieces x m)

    entry_none : (ys : List Piece) → total (has_piece f p i) (v ∷ []) ≡ 0 → Gathers f v.pieces (IsSeen g i) ys → Gathers f v.pieces (IsSeen g (suc i)) ys
    entry_none ys none = gathers_same f v.pieces (IsSeen g i) (IsSeen g (suc i)) ys (λ x m s. seen_more x s)
        (λ x m s. ⊎_elim (λ (old : IsSeen g i x). old)
        (λ (e : (table_of f x ≡ p) × (number_of f x ≡ i)). absurd (let some_one = counted x m e.0 e.1 in omega arith)) (seen_cases x s))

    entry_one : (ys : List Piece) (y : Piece) → IsOneOf v.pieces y → IsOwnPiece f v y → pieces_at f p i (y ∷ []) ≡ 1 → Gathers f v.pieces (IsSeen g i) ys →
        Gathers f v.pieces (IsSeen g (suc i)) (add_piece f ys y)
    entry_one ys y member own stands_here h =
        let place : (p ≡ table_of f y) × (number_of f y ≡ i) = one_here f p i y stands_here in
        gathers_same f v.pieces (λ x. IsSeen g i x ⊎ (x ≡ y)) (IsSeen g (suc i)) (add_piece f ys y)
        (λ x m s. ⊎_elim (λ (old : IsSeen g i x). seen_more x old)
        (λ (e : x ≡ y). subst (IsSeen g (suc i)) (sym e)
        (record { frame = g; at = subst (IsLinkedAt n words (v ∷ []) g) place.0 here; before = inr (refl, (let k = place.1 in omega arith)) })) s)
        (λ x m s. ⊎_elim (λ (old : IsSeen g i x). inl old)
        (λ (e : (table_of f x ≡ p) × (number_of f x ≡ i)). inr (same_piece x m e.0 e.1)) (seen_cases x s))
        (gathers_more f v.pieces (IsSeen g i) ys y rising member (unseen place.0 place.1) h)
      where
        unseen : p ≡ table_of f y → number_of f y ≡ i → ¬ IsSeen g i y
        unseen e k s =
            let frame : s.frame ≡ g = one_frame f n l words (v ∷ []) good r s.frame g p (subst (IsLinkedAt n words (v ∷ []) s.frame) (sym e) s.at) here in
            ⊎_elim (λ (low : s.frame < g). omega arith) (λ (same : (s.frame ≡ g) × (number_of f y < i)). let less = same.1 in omega arith) s.before

        same_piece : (x : Piece) → IsOneOf v.pieces x → table_of f x ≡ p → number_of f x ≡ i → x ≡ y
        same_piece x m e k =
            let one : pieces_at f p i (x ∷ []) ≡ 1 = (λ j. pieces_at f (sym e j) (sym k j) (x ∷ [])) ∙ here_one f x in
            let theirs : IsOwnPiece f v x = one_has (IsOwnPiece f v) v.pieces x (r.books 0 v refl live).pieces m in
            one_first f v.pieces x y rising m member (sym (entry_of_piece f good v x theirs p i one) ∙ entry_of_piece f good v y own p i stands_here)

    entry_read : (ys : List Piece) → i < 2 ^ f.index → Gathers f v.pieces (IsSeen g i) ys →
        Gathers f v.pieces (IsSeen g (suc i)) (with_piece f ys (piece_in f p i (entry_of f n words g i)))
    entry_read ys small h =
        let pos : IsPosition f p = (is_position f n l words (v ∷ []) good r g p here).0 in
        elim (entry_is f n l words (v ∷ []) good r g p i here small) [
          | an_empty z none childless ↦
              subst (λ (o : Option Piece). Gathers f v.pieces (IsSeen g (suc i)) (with_piece f ys o)) (sym (zero_read f a p i (entry_of f n words g i) pos.a_level z)) (entry_none ys none h)
          | a_piece one word ↦
              let mine : one.view ≡ v = only_view v one.index one.view one.at in
              let own : IsOwnPiece f v one.piece = subst (λ (u : View). IsOwnPiece f u one.piece) mine one.own in
              subst (λ (o : Option Piece). Gathers f v.pieces (IsSeen g (suc i)) (with_piece f ys o))
              (sym (piece_read f good d a v one.piece own p i (entry_of f n words g i) one.here word))
              (entry_one ys one.piece (subst (λ (u : View). IsOneOf u.pieces one.piece) mine one.member) own one.here h)
          | a_child k child high word ↦
              let there = linked_there f n l words (v ∷ []) good r k (child_at f p i) child in
              let none : total (has_piece f p i) (v ∷ []) ≡ 0 = r.entries.apart i p (and_from (nat_lt 0 p.level) _ (lt-ltb 0 p.level high) there) in
              let address = is_address f k (let within = child.is_linked.within in let limit = r.sizes.limit in omega arith) in
              subst (λ (o : Option Piece). Gathers f v.pieces (IsSeen g (suc i)) (with_piece f ys o))
              (sym (pointer_read f a p i (entry_of f n words g i) (frame_address f k) (record { above = high; below = pos.a_level }) address word)) (entry_none ys none h)
        ]

  -- The first entries of a linked frame, and the first frames.

  entries_read : (g : ℕ) → IsLinkedAt n words (v ∷ []) g (placed_at (tag words g)) → (ys : List Piece) → Gathers f v.pieces (IsSeen g 0) ys → (count : ℕ) → count ≤ 2 ^ f.index →
      Gathers f v.pieces (IsSeen g count) (pieces_with_frame f n words g ys count)
  entries_read g here ys h zero small = h
  entries_read g here ys h (suc i) small =
      entry_read g i (placed_at (tag words g)) here (pieces_with_frame f n words g ys i) (omega arith) (entries_read g here ys h i (omega arith))

  abbrev prepared : Option ℕ
  prepared = prepared_frame v.prepared

  next_frame : (g : ℕ) (ys : List Piece) → Gathers f v.pieces (IsSeen g (2 ^ f.index)) ys → Gathers f v.pieces (IsSeen (suc g) 0) ys
  next_frame g ys = gathers_same f v.pieces (IsSeen g (2 ^ f.index)) (IsSeen (suc g) 0) ys
      (λ x m s. record { frame = s.frame; at = s.at; before = inl (⊎_elim (λ (low : s.frame < g). omega arith) (λ (same : (s.frame ≡ g) × (number_of f x < 2 ^ f.index)). let e = same.0 in omega arith) s.before) })
      (λ x m s. record {
        frame = s.frame;
        at = s.at;
        before = ⊎_elim
            (λ (low : s.frame < suc g). dite (ℕ_discrete s.frame g) (λ e. inr (e, number_below f x)) (λ ne. inl (omega arith)))
            (λ (none : (s.frame ≡ suc g) × (number_of f x < 0)). absurd (let z = none.1 in omega arith)) s.before;
      })

  frames_read : (m : ℕ) → m ≤ n → Gathers f v.pieces (IsSeen m 0) (pieces_in f n prepared words m)
  frames_read zero low = record {
    rises = tt;
    own = λ x m. absurd m;
    all = λ x m s. absurd (⊎_elim (λ (less : s.frame < 0). omega arith) (λ (less : (s.frame ≡ 0) × (number_of f x < 0)). let z = less.1 in omega arith) s.before);
  }
  frames_read (suc g) low =
      let old : Gathers f v.pieces (IsSeen g 0) (pieces_in f n prepared words g) = frames_read g (omega arith) in
      either_has (Gathers f v.pieces (IsSeen (suc g) 0)) (is_linked_in prepared words g) (pieces_with_frame f n words g (pieces_in f n prepared words g) (2 ^ f.index)) (pieces_in f n prepared words g)
      (λ e. next_frame g (pieces_with_frame f n words g (pieces_in f n prepared words g) (2 ^ f.index))
      (entries_read g (record { is_linked = is_linked f n l words v good r live g (omega arith) e; at = refl }) (pieces_in f n prepared words g) old (2 ^ f.index) (omega arith)))
      (λ e. next_frame g (pieces_in f n prepared words g)
      (gathers_same f v.pieces (IsSeen g 0) (IsSeen g (2 ^ f.index)) (pieces_in f n prepared words g)
      (λ x m s. record { frame = s.frame; at = s.at; before = ⊎_elim (λ (less : s.frame < g). inl less) (λ (same : (s.frame ≡ g) × (number_of f x < 0)). absurd (let z = same.1 in omega arith)) s.before })
      (λ x m s. record {
        frame = s.frame;
        at = s.at;
        before = ⊎_elim (λ (less : s.frame < g). inl less)
            (λ (same : (s.frame ≡ g) × (number_of f x < 2 ^ f.index)). absurd (false≢true (sym e ∙ ap (is_linked_in prepared words) (sym same.0) ∙ reads_linked f n l words v good r live s.frame s.at.is_linked))) s.before;
      })
      old))

  -- the pieces are those that are read
  pub pieces_read : v.pieces ≡ pieces_in f n prepared words n
  pieces_read =
      let all : Gathers f v.pieces (IsSeen n 0) (pieces_in f n prepared words n) = frames_read n (omega arith) in
      same_pieces f v.pieces (pieces_in f n prepared words n) rising all.rises (λ x m. all.all x m (seen x m)) (λ x m. (all.own x m).0)
    where
      seen : (x : Piece) → IsOneOf v.pieces x → IsSeen n 0 x
      seen x m =
          let home : IsTrue (is_in_tree l words (v ∷ []) (table_of f x)) = one_has (λ y. IsTrue (is_in_tree l words (v ∷ []) (table_of f y))) v.pieces x (r.entries.homes 0 v refl) m in
          let b : (h : ℕ) × IsLinkedAt n words (v ∷ []) h (table_of f x) = r.positions.all (table_of f x) home in
          record { frame = b.0; at = b.1; before = inl b.1.is_linked.within }
