-- The frames of a purse, one after the other.
use Rattle.std.proofs.Common.{◌≡◌, ◌≢◌, ℕ, zero, suc, Bool, ◌+◌, ◌-◌, ◌*◌, ◌/◌, ◌<◌, ◌≤◌, ◌^◌, List, [], ◌∷◌, ◌++◌, length, take, drop, refl, ap, ◌∙◌, subst, arith, eq-eqb, ne_eqb}
use Rattle.std.specs.Prelude.{None, Some, Option, if◌then◌else◌}
use Rattle.pt_view.specs.Lists.{IsIn, times}
use Rattle.pt_rule.specs.Tags.{IsEnd, first_or, held_word}
use Rattle.pt_rule.specs.Kinds.{follows}
use Rattle.pt_view.proofs.Members.{in_here, in_more, times_here}
use Rattle.pt_space.specs.Cuts.{last_of, named_in}

-- a frame that is read names the one after it
pub follows_at : (xs : List ℕ) (i frame : ℕ) (end : Option ℕ) → ((x : ℕ) → times x xs ≤ 1) → first_or None (drop i xs) ≡ Some frame → follows frame end xs ≡ first_or end (drop (suc i) xs)
follows_at [] zero frame end once e = absurd (let w : ⊥ = cc in w)
follows_at [] (suc i) frame end once e = absurd (let w : ⊥ = cc in w)
follows_at (x ∷ xs) zero frame end once e = let same : x ≡ frame = cc in ap (λ (b : Bool). if b then first_or end xs else follows frame end xs) (eq-eqb x frame same)
follows_at (x ∷ xs) (suc i) frame end once e =
    let there : IsIn xs frame = drop_in xs i frame e in
    let other : x ≢ frame = (λ same. let a = once frame in let b = times_here frame xs in let c : times frame (x ∷ xs) ≡ times frame (frame ∷ xs) = ap (λ (z : ℕ). times frame (z ∷ xs)) same in let d : 0 < times frame xs = there in omega arith) in
    ap (λ (b : Bool). if b then first_or end xs else follows frame end xs) (ne_eqb x frame other) ∙ follows_at xs i frame end (λ z. let a = once z in let b : times z xs ≤ times z (x ∷ xs) = omega arith in omega arith) e
  where
    drop_in : (ys : List ℕ) (k g : ℕ) → first_or None (drop k ys) ≡ Some g → IsIn ys g
    drop_in [] zero g q = absurd (let w : ⊥ = cc in w)
    drop_in [] (suc k) g q = absurd (let w : ⊥ = cc in w)
    drop_in (y ∷ ys) zero g q = let same : y ≡ g = cc in subst (IsIn (y ∷ ys)) same (in_here y ys)
    drop_in (y ∷ ys) (suc k) g q = in_more g y ys (drop_in ys k g q)

pub at_in : (ys : List ℕ) (k g : ℕ) → first_or None (drop k ys) ≡ Some g → IsIn ys g
at_in [] zero g q = absurd (let w : ⊥ = cc in w)
at_in [] (suc k) g q = absurd (let w : ⊥ = cc in w)
at_in (y ∷ ys) zero g q = let same : y ≡ g = cc in subst (IsIn (y ∷ ys)) same (in_here y ys)
at_in (y ∷ ys) (suc k) g q = in_more g y ys (at_in ys k g q)

-- so many frames are there
pub some_more : (xs : List ℕ) (i : ℕ) → i < length xs → first_or None (drop i xs) ≢ None
some_more [] i lt e = absurd (omega arith)
some_more (x ∷ xs) zero lt e = let w : ⊥ = cc in w
some_more (x ∷ xs) (suc i) lt e = some_more xs i (omega arith) e

pub last_more : (xs : List ℕ) (i frame : ℕ) → first_or None (drop i xs) ≡ Some frame → last_of (take (suc i) xs) ≡ Some frame
last_more [] zero frame e = absurd (let w : ⊥ = cc in w)
last_more [] (suc i) frame e = absurd (let w : ⊥ = cc in w)
last_more (x ∷ xs) zero frame e = e
last_more (x ∷ []) (suc zero) frame e = absurd (let w : ⊥ = cc in w)
last_more (x ∷ []) (suc (suc i)) frame e = absurd (let w : ⊥ = cc in w)
last_more (x ∷ y ∷ ys) (suc i) frame e = last_more (y ∷ ys) i frame e

-- the last frame of a purse, and those before it
pub last_splits : (xs : List ℕ) (frame : ℕ) → last_of xs ≡ Some frame → (front : List ℕ) × (xs ≡ front ++ frame ∷ [])
last_splits [] frame e = absurd (let w : ⊥ = cc in w)
last_splits (x ∷ []) frame e = let same : x ≡ frame = cc in ([], ap (λ (z : ℕ). z ∷ []) same)
last_splits (x ∷ y ∷ ys) frame e = let r = last_splits (y ∷ ys) frame e in (x ∷ r.0, ap (λ (zs : List ℕ). x ∷ zs) r.1)

pub no_last : (xs : List ℕ) → last_of xs ≡ None → xs ≡ []
no_last [] e = refl
no_last (x ∷ []) e = absurd (let w : ⊥ = cc in w)
no_last (x ∷ y ∷ ys) e = absurd (some_last (y ∷ ys) (λ q. let w : ⊥ = cc in w) e)
  where
    some_last : (zs : List ℕ) → zs ≢ [] → last_of zs ≡ None → ⊥
    some_last [] ne e = ne refl
    some_last (z ∷ []) ne e = let w : ⊥ = cc in w
    some_last (z ∷ y ∷ ys) ne e = some_last (y ∷ ys) (λ q. let w : ⊥ = cc in w) e

pub named_back : (o : Option ℕ) → named_in (held_word o) ≡ o
named_back None = refl
named_back (Some x) = ap (λ (b : Bool). if b then None else Some ((1 + 4 * (x + 1)) / 4 - 1)) (ne_eqb (1 + 4 * (x + 1)) 1 (λ e. omega arith)) ∙ ap (λ (z : ℕ). Some z) (let q : (1 + 4 * (x + 1)) / 4 - 1 ≡ x = omega arith in q)

pub next_end : (n : ℕ) (xs : List ℕ) → n ≤ 2 ^ 32 → ((x : ℕ) → IsIn xs x → x < n) → IsEnd (2 ^ 32) (first_or None xs)
next_end n [] few h = tt
next_end n (x ∷ xs) few h = let a = h x (in_here x xs) in omega arith

pub drop_within : (xs : List ℕ) (i x : ℕ) → IsIn (drop i xs) x → IsIn xs x
drop_within xs zero x h = h
drop_within [] (suc i) x h = h
drop_within (y ∷ ys) (suc i) x h = in_more x y ys (drop_within ys i x h)
