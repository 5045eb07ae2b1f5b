-- Lists without some items: the pieces that stand elsewhere than at an entry, and the positions but for one.
use Rattle.std.proofs.Common.{◌≡◌, ◌⊎◌, inl, inr, ℕ, Bool, true, false, ◌+◌, ◌*◌, ◌≤◌, List, [], ◌∷◌, length, refl, ap, sym, ◌∙◌, subst, ⊎_elim, arith}
use Rattle.std.specs.Prelude.{◌==◌, ◌&&◌, not, filter}
use Rattle.std.specs.List.{AllByRecursion}
use Rattle.std.proofs.lemmas.Bool.{cases_Bool, eqb-true, false≢true, eq-eqb}
use mathlib.Core.Logic.{dite}
use native.Mathlib.Decide.{ℕ_discrete, dec_le}
use Rattle.pt_view.proofs.Pieces.{one_here}
use Rattle.pt_model.specs.declared.position.Position.{Position}
use Rattle.pt_model.specs.Layout.{Layout}
use Rattle.pt_model.specs.Tables.{is_before, is_same}
use Rattle.pt_view.specs.declared.view.Piece.{Piece}
use Rattle.pt_model.specs.Sets.{IsAmong, RemovesPosition, without_position, IsSorted}
use Rattle.pt_view.specs.Pieces.{IsOneOf, first_of, table_of, number_of, word_of}
use Rattle.pt_view.specs.Calls.{drop_at, pieces_at}
use Rattle.pt_rule.specs.Totals.{words_at}
use Rattle.pt_rule.specs.Lawful.{PiecesInOrder}
use Rattle.pt_rule.proofs.PieceFacts.{no_words}
use Rattle.pt_model.proofs.Positions.{before_self, bit_le, is_same_self, is_same_true, same_cases, among_cases, among_filtered, among_passes, filter_members, same_cases, sorted_filter}

-- Items that pass a test.
module _ {X : Type 0} (t : X → Bool) where
  passes_in : (x : X) (xs : List X) → t x ≡ true → filter t (x ∷ xs) ≡ x ∷ filter t xs
  passes_in x xs e = rw e refl

  fails_out : (x : X) (xs : List X) → t x ≡ false → filter t (x ∷ xs) ≡ filter t xs
  fails_out x xs e = rw e refl

  pub all_filtered : (P : X → Type 0) (xs : List X) → AllByRecursion P xs → AllByRecursion P (filter t xs)
  all_filtered P [] all = tt
  all_filtered P (x ∷ xs) all = ⊎_elim
      (λ (e : t x ≡ true). subst (AllByRecursion P) (sym (passes_in x xs e)) (all.0, all_filtered P xs all.1))
      (λ (e : t x ≡ false). subst (AllByRecursion P) (sym (fails_out x xs e)) (all_filtered P xs all.1)) (cases_Bool (t x))

-- An entry is this one or another.
pub entry_cases : (p : Position) (i : ℕ) (q : Position) (j : ℕ) → ((q ≡ p) × (j ≡ i)) ⊎ (q ≡ p → j ≡ i → ⊥)
entry_cases p i q j = ⊎_elim
    (λ (e : q ≡ p). dite (ℕ_discrete j i) (λ d. inl (e, d)) (λ ne. inr (λ _ d. ne d)))
    (λ (ne : is_same q p ≡ false). inr (λ e _. false≢true (sym ne ∙ ap (is_same q) (sym e) ∙ is_same_self q q refl))) (same_cases q p)

-- Members of a list of pieces.

-- An entry: a piece of a list that stands there, and the list without it.
module _ (f : Layout) (p : Position) (i : ℕ) where
  pub member_counts : (xs : List Piece) (x : Piece) → IsOneOf xs x → pieces_at f p i (x ∷ []) ≡ 1 → 1 ≤ pieces_at f p i xs
  member_counts [] x m here = absurd m
  member_counts (y ∷ ys) x m here = ⊎_elim
      (λ (e : y ≡ x). let one : pieces_at f p i (y ∷ []) ≡ 1 = ap (λ (z : Piece). pieces_at f p i (z ∷ [])) e ∙ here in omega arith)
      (λ (later : IsOneOf ys x). let rest = member_counts ys x later here in omega arith) m

  -- where no other stands there, the word is the piece's
  pub member_word : (xs : List Piece) (x : Piece) → IsOneOf xs x → pieces_at f p i (x ∷ []) ≡ 1 → pieces_at f p i xs ≤ 1 → words_at f p i xs ≡ word_of f x
  member_word [] x m here once = absurd m
  member_word (y ∷ ys) x m here once = ⊎_elim
      (λ (e : y ≡ x).
      let one : pieces_at f p i (y ∷ []) ≡ 1 = ap (λ (z : Piece). pieces_at f p i (z ∷ [])) e ∙ here in
      let rest = no_words f p i ys (omega arith) in
      ap (λ k. k * word_of f y + words_at f p i ys) one ∙ (let sum : 1 * word_of f y + words_at f p i ys ≡ word_of f y = omega (arith, rest) in sum) ∙ ap (word_of f) e)
      (λ (later : IsOneOf ys x).
      let some_one = member_counts ys x later here in
      let none : pieces_at f p i (y ∷ []) ≡ 0 = omega arith in
      ap (λ k. k * word_of f y + words_at f p i ys) none ∙ (let sum : 0 * word_of f y + words_at f p i ys ≡ words_at f p i ys = omega arith in sum)
      ∙ member_word ys x later here (omega arith)) m

  -- and there is one such piece
  pub one_member : (xs : List Piece) (x y : Piece) → IsOneOf xs x → IsOneOf xs y → pieces_at f p i (x ∷ []) ≡ 1 → pieces_at f p i (y ∷ []) ≡ 1 → pieces_at f p i xs ≤ 1 → x ≡ y
  one_member [] x y m k here there once = absurd m
  one_member (z ∷ zs) x y m k here there once = ⊎_elim
      (λ (e : z ≡ x).
      let one : pieces_at f p i (z ∷ []) ≡ 1 = ap (λ (a : Piece). pieces_at f p i (a ∷ [])) e ∙ here in
      ⊎_elim (λ (d : z ≡ y). sym e ∙ d) (λ (later : IsOneOf zs y). absurd (let some_one = member_counts zs y later there in omega arith)) k)
      (λ (later : IsOneOf zs x).
      let some_one = member_counts zs x later here in
      ⊎_elim (λ (d : z ≡ y). absurd (let one : pieces_at f p i (z ∷ []) ≡ 1 = ap (λ (a : Piece). pieces_at f p i (a ∷ [])) d ∙ there in omega arith))
      (λ (after : IsOneOf zs y). one_member zs x y later after here there (omega arith)) k) m

  abbrev elsewhere : Piece → Bool
  elsewhere x = pieces_at f p i (x ∷ []) == 0

  pub none_left : (xs : List Piece) → pieces_at f p i (drop_at f p i xs) ≡ 0
  none_left [] = refl
  none_left (x ∷ xs) = ⊎_elim
      (λ (e : elsewhere x ≡ true).
      let none : pieces_at f p i (x ∷ []) ≡ 0 = eqb-true (pieces_at f p i (x ∷ [])) 0 e in
      ap (pieces_at f p i) (passes_in elsewhere x xs e) ∙ (let rest = none_left xs in omega arith))
      (λ (e : elsewhere x ≡ false). ap (pieces_at f p i) (fails_out elsewhere x xs e) ∙ none_left xs) (cases_Bool (elsewhere x))

  -- what stands at another entry stays
  module _ (q : Position) (j : ℕ) (other : q ≡ p → j ≡ i → ⊥) where
    not_both : (x : Piece) → elsewhere x ≡ false → pieces_at f q j (x ∷ []) ≡ 0
    not_both x e = dite (dec_le (pieces_at f q j (x ∷ [])) 0) (λ none. omega arith)
        (λ there.
        let most = bit_le (is_same q (table_of f x) && (number_of f x == j)) in
        let most' = bit_le (is_same p (table_of f x) && (number_of f x == i)) in
        let one : pieces_at f p i (x ∷ []) ≡ 1 = dite (dec_le (pieces_at f p i (x ∷ [])) 0)
        (λ none. let z : pieces_at f p i (x ∷ []) ≡ 0 = omega arith in absurd (false≢true (sym e ∙ eq-eqb (pieces_at f p i (x ∷ [])) 0 z))) (λ some_one. omega arith) in
        let a : (q ≡ table_of f x) × (number_of f x ≡ j) = one_here f q j x (omega arith) in
        let b : (p ≡ table_of f x) × (number_of f x ≡ i) = one_here f p i x one in
        absurd (other (a.0 ∙ sym b.0) (sym a.1 ∙ b.1)))

    pub pieces_left : (xs : List Piece) → pieces_at f q j (drop_at f p i xs) ≡ pieces_at f q j xs
    pieces_left [] = refl
    pieces_left (x ∷ xs) = ⊎_elim
        (λ (e : elsewhere x ≡ true). ap (pieces_at f q j) (passes_in elsewhere x xs e) ∙ (let rest = pieces_left xs in omega arith))
        (λ (e : elsewhere x ≡ false). ap (pieces_at f q j) (fails_out elsewhere x xs e) ∙ (let rest = pieces_left xs in let none = not_both x e in omega arith)) (cases_Bool (elsewhere x))

    pub words_left : (xs : List Piece) → words_at f q j (drop_at f p i xs) ≡ words_at f q j xs
    words_left [] = refl
    words_left (x ∷ xs) = ⊎_elim
        (λ (e : elsewhere x ≡ true). ap (words_at f q j) (passes_in elsewhere x xs e) ∙ ap (λ k. pieces_at f q j (x ∷ []) * word_of f x + k) (words_left xs))
        (λ (e : elsewhere x ≡ false). ap (words_at f q j) (fails_out elsewhere x xs e) ∙ words_left xs
        ∙ (let sum : words_at f q j xs ≡ 0 * word_of f x + words_at f q j xs = omega arith in sum)
        ∙ ap (λ k. k * word_of f x + words_at f q j xs) (sym (not_both x e))) (cases_Bool (elsewhere x))

  pub order_left : (xs : List Piece) → PiecesInOrder f xs → PiecesInOrder f (drop_at f p i xs)
  order_left [] o = tt
  order_left (x ∷ xs) o = ⊎_elim
      (λ (e : elsewhere x ≡ true). subst (PiecesInOrder f) (sym (passes_in elsewhere x xs e)) (all_filtered elsewhere (λ y. first_of f x ≤ first_of f y) xs o.0, order_left xs o.1))
      (λ (e : elsewhere x ≡ false). subst (PiecesInOrder f) (sym (fails_out elsewhere x xs e)) (order_left xs o.1)) (cases_Bool (elsewhere x))

-- Positions but for one.
module _ (p : Position) where
  abbrev another : Position → Bool
  another q = not (is_same p q)

  differs : (q : Position) → another q ≡ true → is_same p q ≡ false
  differs q e = ⊎_elim (λ (yes : is_same p q ≡ true). absurd (false≢true (sym (ap not yes) ∙ e))) (λ (no : is_same p q ≡ false). no) (cases_Bool (is_same p q))

  pub without_is : (ps : List Position) → RemovesPosition ps (without_position p ps) p
  without_is ps q = (
    λ m. let a : IsAmong ps q × (another q ≡ true) = among_filtered another ps q m in (differs q a.1, a.0),
    λ m. among_passes another ps q m.1 (ap not m.0),
  )

  pub order_without : (ps : List Position) → IsSorted ps → IsSorted (without_position p ps)
  order_without ps o = sorted_filter another ps o

  -- a list without the position loses nothing
  none_lost : (ps : List Position) → (IsAmong ps p → ⊥) → without_position p ps ≡ ps
  none_lost ps none = filter_members another ps (λ q m. elim (same_cases p q) [
    | inl e ↦ absurd (none (subst (IsAmong ps) (sym e) m))
    | inr e ↦ ap not e
  ])

  -- a list in order that has the position loses one
  pub one_lost : (ps : List Position) → IsSorted ps → IsAmong ps p → length (without_position p ps) + 1 ≡ length ps
  one_lost [] o m = absurd (omega arith)
  one_lost (q ∷ qs) o m = ⊎_elim
      (λ (e : is_same p q ≡ true).
      let same : p ≡ q = is_same_true p q e in
      let out : without_position p (q ∷ qs) ≡ qs =
      fails_out another q qs (ap not e) ∙ none_lost qs (λ k. before_self q (subst (λ r. is_before q r ≡ true) same (o.0 p k))) in
      let count : length (without_position p (q ∷ qs)) ≡ length qs = ap (λ (xs : List Position). length xs) out in omega arith)
      (λ (e : is_same p q ≡ false).
      let later : IsAmong qs p = ⊎_elim (λ (is : p ≡ q). absurd (false≢true (sym e ∙ ap (is_same p) (sym is) ∙ is_same_self p p refl))) (λ (k : IsAmong qs p). k) (among_cases p q qs m) in
      let rest = one_lost qs o.1 later in
      let count : length (without_position p (q ∷ qs)) ≡ 1 + length (without_position p qs) = ap (λ (xs : List Position). length xs) (passes_in another q qs (ap not e)) ∙ omega arith in omega arith)
      (cases_Bool (is_same p q))
