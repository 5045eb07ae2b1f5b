-- Totals over views where one view changes, and how often numbers and positions stand in lists.
use Rattle.std.proofs.Common.{◌≡◌, ◌≢◌, ℕ, zero, suc, ◌+◌, ◌<◌, ◌≤◌, List, [], ◌∷◌, length, set, sym, refl, ap, subst, ⊎_elim, arith}
use Rattle.std.specs.Prelude.{IsTrue, nat_le, ◌&&◌}
use Rattle.std.proofs.lemmas.Bool.{lt-ltb, or_right}
use mathlib.Core.Option.{some, some-injective, some-ne-none}
use mathlib.Core.Logic.{dite}
use native.Mathlib.Decide.{dec_le}
use lib.ListN.{get_elem?}
use Rattle.atomic_table.proofs.Lists.{at_set}
use Rattle.pt_model.specs.declared.position.Position.{Position}
use Rattle.pt_model.specs.Tables.{is_spine}
use Rattle.pt_model.specs.Words.{root_level}
use Rattle.pt_model.specs.Sets.{IsAmong, places}
use Rattle.pt_view.specs.declared.view.View.{View}
use Rattle.pt_rule.specs.Linked.{is_in_tree}
use Rattle.pt_rule.specs.Totals.{total, Each, has_table}

module _ {V : Type 0} (f : V → ℕ) where
  pub total_set : (vs : List V) (j : ℕ) (v w : V) → get_elem? vs j ≡ some v → total f (set vs j w) + f v ≡ total f vs + f w
  total_set [] j v w e = absurd (some-ne-none v (sym e))
  total_set (x ∷ xs) zero v w e = let same : f x ≡ f v = ap f (some-injective x v e) in omega arith
  total_set (x ∷ xs) (suc j) v w e = let rest = total_set xs j v w e in omega arith

  pub total_at : (vs : List V) (j : ℕ) (v : V) → get_elem? vs j ≡ some v → f v ≤ total f vs
  total_at [] j v e = absurd (some-ne-none v (sym e))
  total_at (x ∷ xs) zero v e = let same : f x ≡ f v = ap f (some-injective x v e) in omega arith
  total_at (x ∷ xs) (suc j) v e = let rest = total_at xs j v e in omega arith

  pub total_two : (vs : List V) (i j : ℕ) (v w : V) → i ≢ j → get_elem? vs i ≡ some v → get_elem? vs j ≡ some w → f v + f w ≤ total f vs
  total_two [] i j v w n e d = absurd (some-ne-none v (sym e))
  total_two (x ∷ xs) zero zero v w n e d = absurd (n refl)
  total_two (x ∷ xs) zero (suc j) v w n e d = let same : f x ≡ f v = ap f (some-injective x v e) in let rest = total_at xs j w d in omega arith
  total_two (x ∷ xs) (suc i) zero v w n e d = let same : f x ≡ f w = ap f (some-injective x w d) in let rest = total_at xs i v e in omega arith
  total_two (x ∷ xs) (suc i) (suc j) v w n e d = let rest = total_two xs i j v w (λ h. n (ap suc h)) e d in omega arith

  -- one item changes, and its number doesn't
  pub total_same : (vs : List V) (j : ℕ) (v w : V) → get_elem? vs j ≡ some v → f w ≡ f v → total f (set vs j w) ≡ total f vs
  total_same vs j v w e h = let s = total_set vs j v w e in omega arith

  -- where the total isn't 0, one item's number isn't
  pub total_some : (vs : List V) → 0 < total f vs → (j : ℕ) × (v : V) × (get_elem? vs j ≡ some v) × (0 < f v)
  total_some [] h = absurd (omega arith)
  total_some (x ∷ xs) h = dite (dec_le (f x) 0)
      (λ none. let rest : (j : ℕ) × (v : V) × (get_elem? xs j ≡ some v) × (0 < f v) = total_some xs (omega arith) in (suc rest.0, rest.1, rest.2, rest.3))
      (λ one. (0, x, refl, omega arith))

  total_none : (vs : List V) → ((j : ℕ) (u : V) → get_elem? vs j ≡ some u → f u ≡ 0) → total f vs ≡ 0
  total_none [] h = refl
  total_none (x ∷ xs) h = let a = h 0 x refl in let b = total_none xs (λ j u e. h (suc j) u e) in omega arith

  pub total_only : (vs : List V) (id : ℕ) (v : V) → get_elem? vs id ≡ some v → ((j : ℕ) (u : V) → j ≢ id → get_elem? vs j ≡ some u → f u ≡ 0) → total f vs ≡ f v
  total_only [] id v e h = absurd (some-ne-none v (sym e))
  total_only (x ∷ xs) zero v e h = let same : f x ≡ f v = ap f (some-injective x v e) in let b = total_none xs (λ j u d. h (suc j) u (λ z. omega arith) d) in omega arith
  total_only (x ∷ xs) (suc id) v e h = let a = h 0 x (λ z. omega arith) refl in let b = total_only xs id v e (λ j u n d. h (suc j) u (λ z. n (omega arith)) d) in omega arith

pub at_inside : {A : Type 0} → (l : List A) (i : ℕ) (a : A) → get_elem? l i ≡ some a → i < length l
at_inside [] i a e = absurd (some-ne-none a (sym e))
at_inside (x ∷ xs) zero a e = omega arith
at_inside (x ∷ xs) (suc i) a e = let h = at_inside xs i a e in omega arith

pub set_set : {A : Type 0} → (l : List A) (i : ℕ) (a b : A) → set (set l i a) i b ≡ set l i b
set_set [] i a b = refl
set_set (x ∷ xs) zero a b = refl
set_set (x ∷ xs) (suc i) a b = ap (λ ys. x ∷ ys) (set_set xs i a b)

-- Each view has a fact, where one view changes.
pub each_set : (P Q : View → Type 0) (views : List View) (id : ℕ) (v w : View) → get_elem? views id ≡ some v → Q w →
    ((j : ℕ) (u : View) → j ≢ id → get_elem? views j ≡ some u → P u → Q u) → Each views P → Each (set views id w) Q
each_set P Q views id v w at here there all j u e =
    ⊎_elim (λ (t : (j ≡ id) × (w ≡ u)). subst Q t.1 here) (λ (t : (j ≢ id) × (get_elem? views j ≡ some u)). there j u t.0 t.1 (all j u t.1)) (at_set views id j w u e)

-- Bits.

-- How often a number stands in a list.

-- How often a position stands in a list.

-- a view's table is one of the tree
pub own_in_tree : (l : ℕ) (words : List ℕ) (views : List View) (j : ℕ) (u : View) → get_elem? views j ≡ some u → (p : Position) → IsAmong u.tables p → IsTrue (is_in_tree l words views p)
own_in_tree l words views j u at p a =
    let some_one : 0 < places p u.tables = a in
    let most = total_at (has_table p) views j u at in
    or_right (is_spine l p && nat_le p.level (root_level words)) _ (lt-ltb 0 (total (has_table p) views) (omega arith))
