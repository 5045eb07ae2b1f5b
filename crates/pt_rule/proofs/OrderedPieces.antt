-- Pieces in the order of their first pages, and lists in order.
use Rattle.std.proofs.Common.{◌≡◌, Bool, true, false, ◌≤◌, List, [], ◌∷◌, refl, ⊎_elim, arith}
use Rattle.std.specs.Prelude.{nat_le, if◌then◌else◌}
use Rattle.std.specs.List.{AllByRecursion}
use Rattle.std.proofs.lemmas.Bool.{cases_Bool, leb-true, leb-false}
use Rattle.pt_model.specs.Layout.{Layout}
use Rattle.pt_view.specs.declared.view.Piece.{Piece}
use Rattle.pt_view.specs.Pieces.{add_piece, first_of}
use Rattle.pt_rule.specs.Lawful.{PiecesInOrder}
use Rattle.pt_view.proofs.Members.{all_map}

-- what holds of each piece and of one more holds where this one is put among them
pub all_with_piece : (f : Layout) (P : Piece → Type 0) (ys : List Piece) (x : Piece) → AllByRecursion P ys → P x → AllByRecursion P (add_piece f ys x)
all_with_piece f P [] x all h = (h, tt)
all_with_piece f P (y ∷ ys) x all h = ⊎_elim
    (λ (e : nat_le (first_of f y) (first_of f x) ≡ true). rw e (all.0, all_with_piece f P ys x all.1 h))
    (λ (e : nat_le (first_of f y) (first_of f x) ≡ false). rw e (h, all)) (cases_Bool (nat_le (first_of f y) (first_of f x)))

-- a piece put among others keeps the order
pub piece_in_order : (f : Layout) (ys : List Piece) (x : Piece) → PiecesInOrder f ys → PiecesInOrder f (add_piece f ys x)
piece_in_order f [] x h = (tt, tt)
piece_in_order f (y ∷ ys) x h = ⊎_elim
    (λ (e : nat_le (first_of f y) (first_of f x) ≡ true).
    rw e (all_with_piece f (λ z. first_of f y ≤ first_of f z) ys x h.0 (leb-true (first_of f y) (first_of f x) e), piece_in_order f ys x h.1))
    (λ (e : nat_le (first_of f y) (first_of f x) ≡ false).
    let low : first_of f x ≤ first_of f y = (let g = leb-false (first_of f y) (first_of f x) e in omega arith) in
    rw e ((low, all_map (λ z. first_of f y ≤ first_of f z) (λ z. first_of f x ≤ first_of f z) ys (λ z a. omega arith) h.0), h))
    (cases_Bool (nat_le (first_of f y) (first_of f x)))

-- what holds of both branches of a choice holds of the choice
pub either_has : {X : Type 0} → (P : X → Type 0) (b : Bool) (x y : X) → (b ≡ true → P x) → (b ≡ false → P y) → P (if b then x else y)
either_has P true x y first other = first refl
either_has P false x y first other = other refl
