-- Paths: the last node, and the path without it.
use Rattle.std.proofs.Common.{◌≡◌, ℕ, zero, suc, ◌-◌, List, [], ◌∷◌, ◌++◌, refl, ap, sym, ◌∙◌, subst, arith, append_assoc}
use Rattle.std.specs.Prelude.{Some, length}
use Rattle.std.specs.List.{AllByRecursion}
use Rattle.std.proofs.lemmas.List.{append-nil}
use Rattle.pt_view.specs.declared.view.Node.{Node}
use Rattle.pt_view.specs.Calls.{all_but_last, lowest}

pub lowest_snoc : (xs : List Node) (x : Node) → lowest (xs ++ x ∷ []) ≡ Some x
lowest_snoc [] x = refl
lowest_snoc (y ∷ []) x = refl
lowest_snoc (y ∷ z ∷ xs) x = lowest_snoc (z ∷ xs) x

pub front_snoc : (xs : List Node) (x : Node) → all_but_last (xs ++ x ∷ []) ≡ xs
front_snoc [] x = refl
front_snoc (y ∷ []) x = refl
front_snoc (y ∷ z ∷ xs) x = ap (λ ys. y ∷ ys) (front_snoc (z ∷ xs) x)

pub length_front : (xs : List Node) → length (all_but_last xs) ≡ length xs - 1
length_front [] = refl
length_front (x ∷ []) = refl
length_front (x ∷ y ∷ xs) = let h = length_front (y ∷ xs) in omega arith

pub all_front : (P : Node → Type 0) (xs : List Node) → AllByRecursion P xs → AllByRecursion P (all_but_last xs)
all_front P [] all = tt
all_front P (x ∷ []) all = tt
all_front P (x ∷ y ∷ xs) all = (all.0, all_front P (y ∷ xs) all.1)

-- what holds of each node holds of the last one
pub lowest_has : (P : Node → Type 0) (xs : List Node) (x : Node) → lowest xs ≡ Some x → AllByRecursion P xs → P x
lowest_has P [] x e all = absurd (let z : ⊥ = cc in z)
lowest_has P (y ∷ []) x e all = subst P (let same : y ≡ x = cc in same) all.0
lowest_has P (y ∷ z ∷ xs) x e all = lowest_has P (z ∷ xs) x e all.1

-- a path without its last so many nodes
abbrev pub up : ℕ → List Node → List Node
up zero xs = xs
up (suc n) xs = all_but_last (up n xs)

pub length_up : (n : ℕ) (xs : List Node) → length (up n xs) ≡ length xs - n
length_up zero xs = omega arith
length_up (suc n) xs = let h = length_up n xs in let a = length_front (up n xs) in omega arith

pub up_all : (nodes front : List Node) → up (length nodes) (front ++ nodes) ≡ front
up_all [] front = append-nil front
up_all (x ∷ xs) front =
    ap all_but_last (ap (up (length xs)) (sym (append_assoc front (x ∷ []) xs)) ∙ up_all xs (front ++ x ∷ [])) ∙ front_snoc front x
