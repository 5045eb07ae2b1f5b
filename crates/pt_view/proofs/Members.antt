-- What stands in lists of frames and of pieces.
use Rattle.std.proofs.Common.{◌≡◌, ◌≢◌, ◌⊎◌, ℕ, zero, suc, ◌+◌, ◌<◌, ◌≤◌, List, [], ◌∷◌, ◌++◌, inl, inr, refl, ap, sym, ◌∙◌, subst, arith, append_assoc, eq-eqb, ne_eqb}
use Rattle.std.specs.Prelude.{map, Contains}
use Rattle.std.specs.List.{AllByRecursion, range_with_len}
use Rattle.std.proofs.lemmas.Bool.{cases_eq}
use Rattle.pt_model.specs.declared.block.Block.{Block}
use Rattle.pt_model.specs.Layout.{Layout}
use Rattle.pt_model.specs.Sets.{one_if}
use Rattle.pt_view.specs.declared.view.Piece.{Piece}
use Rattle.pt_view.specs.Lists.{times, IsIn}
use Rattle.pt_view.specs.Pieces.{IsOneOf, all_pieces, pieces_of, words_of}

-- What holds of each item.

module _ {X : Type 0} where
  pub all_map : (P Q : X → Type 0) (xs : List X) → ((x : X) → P x → Q x) → AllByRecursion P xs → AllByRecursion Q xs
  all_map P Q [] h all = tt
  all_map P Q (x ∷ xs) h all = (h x all.0, all_map P Q xs h all.1)

  pub all_append : (P : X → Type 0) (xs ys : List X) → AllByRecursion P xs → AllByRecursion P ys → AllByRecursion P (xs ++ ys)
  all_append P [] ys a b = b
  all_append P (x ∷ xs) ys a b = (a.0, all_append P xs ys a.1 b)

  pub all_parts : (P : X → Type 0) (xs ys : List X) → AllByRecursion P (xs ++ ys) → AllByRecursion P xs × AllByRecursion P ys
  all_parts P [] ys all = (tt, all)
  all_parts P (x ∷ xs) ys all = let rest = all_parts P xs ys all.1 in ((all.0, rest.0), rest.1)

-- How often a number stands in a list.

pub times_append : (g : ℕ) (xs ys : List ℕ) → times g (xs ++ ys) ≡ times g xs + times g ys
times_append g [] ys = omega arith
times_append g (x ∷ xs) ys = let rest = times_append g xs ys in omega arith

pub times_here : (g : ℕ) (xs : List ℕ) → times g (g ∷ xs) ≡ 1 + times g xs
times_here g xs = ap (λ b. one_if b + times g xs) (eq-eqb g g refl)

pub times_else : (g x : ℕ) (xs : List ℕ) → x ≢ g → times g (x ∷ xs) ≡ times g xs
times_else g x xs n = ap (λ b. one_if b + times g xs) (ne_eqb x g n) ∙ omega arith

pub in_here : (g : ℕ) (xs : List ℕ) → IsIn (g ∷ xs) g
in_here g xs = let t = times_here g xs in omega arith

pub in_more : (g x : ℕ) (xs : List ℕ) → IsIn xs g → IsIn (x ∷ xs) g
in_more g x xs h = let some : 0 < times g xs = h in omega arith

pub in_cases : (g x : ℕ) (xs : List ℕ) → IsIn (x ∷ xs) g → (g ≡ x) ⊎ IsIn xs g
in_cases g x xs h = elim (cases_eq x g) [
  | inl e ↦ inl (sym e)
  | inr ne ↦ inr (let t = times_else g x xs ne in let all : 0 < times g (x ∷ xs) = h in omega arith)
]

pub in_left : (g : ℕ) (xs ys : List ℕ) → IsIn xs g → IsIn (xs ++ ys) g
in_left g xs ys h = let e = times_append g xs ys in let some : 0 < times g xs = h in omega arith

pub in_right : (g : ℕ) (xs ys : List ℕ) → IsIn ys g → IsIn (xs ++ ys) g
in_right g xs ys h = let e = times_append g xs ys in let some : 0 < times g ys = h in omega arith

-- Pieces of a list.

pub one_of_either : (xs ys : List Piece) (x : Piece) → IsOneOf (xs ++ ys) x → IsOneOf xs x ⊎ IsOneOf ys x
one_of_either [] ys x h = inr h
one_of_either (y ∷ xs) ys x (inl e) = inl (inl e)
one_of_either (y ∷ xs) ys x (inr h) = elim (one_of_either xs ys x h) [ inl a ↦ inl (inr a) | inr b ↦ inr b ]

pub one_of_left : (xs ys : List Piece) (x : Piece) → IsOneOf xs x → IsOneOf (xs ++ ys) x
one_of_left [] ys x h = absurd h
one_of_left (y ∷ xs) ys x (inl e) = inl e
one_of_left (y ∷ xs) ys x (inr h) = inr (one_of_left xs ys x h)

pub one_of_right : (xs ys : List Piece) (x : Piece) → IsOneOf ys x → IsOneOf (xs ++ ys) x
one_of_right [] ys x h = h
one_of_right (y ∷ xs) ys x h = inr (one_of_right xs ys x h)

pub one_has : (P : Piece → Type 0) (xs : List Piece) (x : Piece) → AllByRecursion P xs → IsOneOf xs x → P x
one_has P [] x all h = absurd h
one_has P (y ∷ ys) x all (inl e) = subst P e all.0
one_has P (y ∷ ys) x all (inr h) = one_has P ys x all.1 h

pub all_have : (P : Piece → Type 0) (xs : List Piece) → ((x : Piece) → IsOneOf xs x → P x) → AllByRecursion P xs
all_have P [] h = tt
all_have P (x ∷ xs) h = (h x (inl refl), all_have P xs (λ y m. h y (inr m)))

-- pieces by their numbers, from one on
pub one_mapped : (g : ℕ → Piece) (n low : ℕ) (x : Piece) → IsOneOf (map g (range_with_len low n)) x → (k : ℕ) × (low ≤ k) × (k < low + n) × (g k ≡ x)
one_mapped g zero low x h = absurd h
one_mapped g (suc n) low x (inl e) = (low, omega arith, omega arith, e)
one_mapped g (suc n) low x (inr h) =
    let r : (k : ℕ) × (low + 1 ≤ k) × (k < low + 1 + n) × (g k ≡ x) = one_mapped g n (low + 1) x h in (r.0, omega arith, omega arith, r.3)

pub mapped_one : (g : ℕ → Piece) (n low k : ℕ) → low ≤ k → k < low + n → IsOneOf (map g (range_with_len low n)) (g k)
mapped_one g zero low k from to = absurd (omega arith)
mapped_one g (suc n) low k from to = elim (cases_eq low k) [
  | inl e ↦ inl (ap g e)
  | inr ne ↦ inr (mapped_one g n (low + 1) k (omega arith) (omega arith))
]

-- Pieces of blocks.

abbrev pub piece_at : Block → ℕ → Piece
piece_at b part = record { block = b; part = part }

pub in_block : (f : Layout) (b : Block) (x : Piece) → IsOneOf (pieces_of f b) x → (b ≡ x.block) × (x.part < words_of f x.block)
in_block f b x h =
    let r : (k : ℕ) × (0 ≤ k) × (k < 0 + words_of f b) × (piece_at b k ≡ x) = one_mapped (piece_at b) (words_of f b) 0 x h in
    (ap (λ (y : Piece). y.block) r.3, subst (λ (y : Piece). y.part < words_of f y.block) r.3 (let s = r.2 in omega arith))

-- a piece of a book's is one of a block of it
pub in_blocks : (f : Layout) (bs : List Block) (x : Piece) → IsOneOf (all_pieces f bs) x → Contains bs x.block × (x.part < words_of f x.block)
in_blocks f [] x h = absurd h
in_blocks f (b ∷ bs) x h = elim (one_of_either (pieces_of f b) (all_pieces f bs) x h) [
  | inl a ↦ (let r = in_block f b x a in ((0, omega arith, r.0), r.1))
  | inr a ↦ (let r = in_blocks f bs x a in ((suc r.0.0, (let s = r.0.1 in omega arith), r.0.2), r.1))
]

pub all_pieces_append : (f : Layout) (xs ys : List Block) → all_pieces f (xs ++ ys) ≡ all_pieces f xs ++ all_pieces f ys
all_pieces_append f [] ys = refl
all_pieces_append f (b ∷ bs) ys = ap (λ zs. pieces_of f b ++ zs) (all_pieces_append f bs ys) ∙ sym (append_assoc (pieces_of f b) (all_pieces f bs) (all_pieces f ys))
