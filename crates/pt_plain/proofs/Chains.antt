-- Chains of tags: the purse, and the frames that aren't free.
use Rattle.std.proofs.Common.{◌≡◌, ◌≢◌, ℕ, zero, suc, Bool, true, false, ◌+◌, ◌-◌, ◌*◌, ◌/◌, ◌<◌, List, [], ◌∷◌, length, refl, ap, sym, ◌∙◌, subst, arith, ⊎_elim}
use Rattle.std.specs.Prelude.{◌==◌, Option, None, Some, if◌then◌else◌}
use Rattle.std.proofs.lemmas.Bool.{eqb-true, eq-eqb, ne_eqb, cases_Bool, cases_eq, false≢true}
use Rattle.pt_model.specs.Words.{tag}
use Rattle.pt_view.specs.Lists.{IsIn}
use Rattle.pt_rule.specs.Tags.{Chained, first_or, held_word}
use Rattle.pt_view.proofs.Members.{in_cases, in_here, in_more}
use Rattle.pt_plain.specs.Owner.{busy_in, chain_of, next_named}

-- a held frame's tag names the next one
pub named_back : (o : Option ℕ) → next_named (held_word o) ≡ o
named_back None = refl
named_back (Some k) =
    let no : ((1 + 4 * (k + 1)) == 1) ≡ false = ne_eqb (1 + 4 * (k + 1)) 1 (λ e. omega arith) in
    let back : (1 + 4 * (k + 1)) / 4 - 1 ≡ k = omega arith in
    ap (λ (b : Bool). if b then None else Some ((1 + 4 * (k + 1)) / 4 - 1)) no ∙ ap (λ (m : ℕ). Some m) back

-- a purse that is chained is the chain from its first frame
pub chain_back : (words xs : List ℕ) → Chained words None xs → chain_of words (first_or None xs) (length xs) ≡ xs
chain_back words [] c = refl
chain_back words (x ∷ xs) c =
    ap (λ (h : Option ℕ). x ∷ chain_of words h (length xs)) (ap next_named c.0 ∙ named_back (first_or None xs))
    ∙ ap (λ (ys : List ℕ). x ∷ ys) (chain_back words xs c.1)

-- the frames that aren't free are those whose tag isn't 0
pub busy_tag : (words : List ℕ) (n g : ℕ) → IsIn (busy_in words n) g → (g < n) × (tag words g ≢ 0)
busy_tag words zero g h = absurd (omega arith)
busy_tag words (suc k) g h = ⊎_elim
    (λ (free : (tag words k == 0) ≡ true).
    let e : busy_in words (suc k) ≡ busy_in words k = ap (λ (b : Bool). if b then busy_in words k else k ∷ busy_in words k) free in
    let a : (g < k) × (tag words g ≢ 0) = busy_tag words k g (subst (λ (xs : List ℕ). IsIn xs g) e h) in let lt = a.0 in (omega arith, a.1))
    (λ (taken : (tag words k == 0) ≡ false).
    let e : busy_in words (suc k) ≡ k ∷ busy_in words k = ap (λ (b : Bool). if b then busy_in words k else k ∷ busy_in words k) taken in
    ⊎_elim
    (λ (same : g ≡ k). (omega arith, λ z. false≢true (sym taken ∙ eq-eqb (tag words k) 0 (ap (tag words) (sym same) ∙ z))))
    (λ (rest : IsIn (busy_in words k) g). let a : (g < k) × (tag words g ≢ 0) = busy_tag words k g rest in let lt = a.0 in (omega arith, a.1))
    (in_cases g k (busy_in words k) (subst (λ (xs : List ℕ). IsIn xs g) e h)))
    (cases_Bool (tag words k == 0))

pub tag_busy : (words : List ℕ) (n g : ℕ) → g < n → tag words g ≢ 0 → IsIn (busy_in words n) g
tag_busy words zero g lt some = absurd (omega arith)
tag_busy words (suc k) g lt some = ⊎_elim
    (λ (free : (tag words k == 0) ≡ true).
    let e : busy_in words (suc k) ≡ busy_in words k = ap (λ (b : Bool). if b then busy_in words k else k ∷ busy_in words k) free in
    let ne : g ≢ k = (λ z. some (ap (tag words) z ∙ eqb-true (tag words k) 0 free)) in
    subst (λ (xs : List ℕ). IsIn xs g) (sym e) (tag_busy words k g (omega arith) some))
    (λ (taken : (tag words k == 0) ≡ false).
    let e : busy_in words (suc k) ≡ k ∷ busy_in words k = ap (λ (b : Bool). if b then busy_in words k else k ∷ busy_in words k) taken in
    subst (λ (xs : List ℕ). IsIn xs g) (sym e) (⊎_elim
    (λ (same : g ≡ k). subst (λ (x : ℕ). IsIn (k ∷ busy_in words k) x) (sym same) (in_here k (busy_in words k)))
    (λ (ne : g ≢ k). in_more g k (busy_in words k) (tag_busy words k g (omega arith) some))
    (cases_eq g k)))
    (cases_Bool (tag words k == 0))
