-- Pieces put among others, and how many of them stand at an entry.
use Rattle.pt_view.proofs.Pieces.{here_one}
use Rattle.std.proofs.Common.{◌≡◌, ℕ, ◌+◌, List, [], ◌∷◌, ◌++◌, true, inl, inr, refl, ap, sym, ◌∙◌, arith}
use Rattle.std.specs.Prelude.{◌&&◌, ◌==◌, nat_le}
use Rattle.std.proofs.lemmas.Bool.{and_parts, cases_Bool, eqb-true}
use Rattle.std.proofs.lemmas.List.Sums.{fold-append}
use Rattle.pt_model.specs.declared.position.Position.{Position}
use Rattle.pt_model.specs.Layout.{Layout}
use Rattle.pt_model.specs.Tables.{is_same}
use Rattle.pt_model.proofs.Positions.{is_same_true}
use Rattle.pt_view.specs.declared.view.Piece.{Piece}
use Rattle.pt_model.specs.Sets.{one_if}
use Rattle.pt_view.specs.Pieces.{IsOneOf, add_piece, add_pieces, first_of, number_of, table_of}
use Rattle.pt_view.specs.Calls.{pieces_at}

pub add_append : (f : Layout) (old xs ys : List Piece) → add_pieces f old (xs ++ ys) ≡ add_pieces f (add_pieces f old xs) ys
add_append f old xs ys = fold-append (add_piece f) old xs ys

module _ (f : Layout) (p : Position) (n : ℕ) where
  -- a piece stands at its own entry alone
  pub stands_at : (x : Piece) → p ≡ table_of f x → number_of f x ≡ n → pieces_at f p n (x ∷ []) ≡ 1
  stands_at x table number = (λ i. pieces_at f (table i) (sym number i) (x ∷ [])) ∙ here_one f x

  pub stands_not : (x : Piece) → (p ≡ table_of f x → number_of f x ≡ n → ⊥) → pieces_at f p n (x ∷ []) ≡ 0
  stands_not x other = elim (cases_Bool (is_same p (table_of f x) && (number_of f x == n))) [
    | inl e ↦
        let h : (is_same p (table_of f x) ≡ true) × ((number_of f x == n) ≡ true) = and_parts (is_same p (table_of f x)) _ e in
        absurd (other (is_same_true p (table_of f x) h.0) (eqb-true (number_of f x) n h.1))
    | inr e ↦ (let none = ap one_if e in omega arith)
  ]

  pub at_added : (xs : List Piece) (x : Piece) → pieces_at f p n (add_piece f xs x) ≡ pieces_at f p n xs + pieces_at f p n (x ∷ [])
  at_added [] x = omega arith
  at_added (y ∷ ys) x = elim (cases_Bool (nat_le (first_of f y) (first_of f x))) [
    | inl e ↦ (let rest = at_added ys x in rw (e, add_piece) (omega arith))
    | inr e ↦ rw (e, add_piece) (omega arith)
  ]

  -- of pieces none of which stands there
  pub at_adds : (new old : List Piece) → ((x : Piece) → IsOneOf new x → pieces_at f p n (x ∷ []) ≡ 0) → pieces_at f p n (add_pieces f old new) ≡ pieces_at f p n old
  at_adds [] old none = refl
  at_adds (x ∷ xs) old none =
      at_adds xs (add_piece f old x) (λ y h. none y (inr h))
      ∙ (let e = at_added old x in let z = none x (inl refl) in omega arith)
