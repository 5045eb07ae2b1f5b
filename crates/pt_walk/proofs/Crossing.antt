-- The block on both sides of a cut: it is the one over the page behind it, where that begins before the page.
use Rattle.std.proofs.Common.{◌≡◌, ℕ, zero, suc, ◌+◌, ◌<◌, ◌≤◌, true, false, List, [], ◌∷◌, length, inl, inr, refl, ap, sym, ◌∙◌, subst, arith}
use Rattle.std.specs.Prelude.{nat_lt, AllPairs, find, slice_index_or, Option, Some, None, if◌then◌else◌}
use Rattle.std.proofs.lemmas.Bool.{and_from, and_parts, cases_Bool, false_from_ne_true, lt-ltb, ltb-true}
use Rattle.pt_model.specs.declared.block.Block.{Block}
use Rattle.pt_model.specs.Layout.{end_of}
use Rattle.pt_model.specs.Book.{meets}
use Rattle.pt_model.specs.Cuts.{crosses}

-- Blocks.

crosses_tells : (page : ℕ) (b : Block) → crosses page b ≡ true → (b.first < page) × (page < end_of b)
crosses_tells page b e = let h : (nat_lt b.first page ≡ true) × (nat_lt page (end_of b) ≡ true) = and_parts (nat_lt b.first page) _ e in (ltb-true b.first page h.0, ltb-true page (end_of b) h.1)

-- blocks that begin at a page or behind it don't cross it
none_behind : (page : ℕ) (bs : List Block) → ((k : ℕ) (b : Block) → k < length bs → slice_index_or bs k b ≡ b → page ≤ b.first) → find (crosses page) bs ≡ None
none_behind page [] behind = refl
none_behind page (c ∷ bs) behind =
    let here : crosses page c ≡ false = false_from_ne_true (crosses page c) (λ e. let t = (crosses_tells page c e).0 in let from = behind zero c (omega arith) refl in omega arith) in
    let rest : find (crosses page) bs ≡ None = none_behind page bs (λ k b less e. behind (suc k) b (omega arith) e) in rw here rest

-- a block, where it begins before a page
abbrev pub if_before : ℕ → Option Block → Option Block
if_before page None = None
if_before page (Some b) = if nat_lt b.first page then Some b else None

pub crossing : (page : ℕ) (bs : List Block) → AllPairs (λ c d. end_of c ≤ d.first) bs → find (crosses page) bs ≡ if_before page (find (meets page (page + 1)) bs)
crossing page [] pairs = refl
crossing page (c ∷ bs) pairs = elim (cases_Bool (meets page (page + 1) c)) [
  | inl e ↦
      let m : (nat_lt c.first (page + 1) ≡ true) × (nat_lt page (end_of c) ≡ true) = and_parts (nat_lt c.first (page + 1)) _ e in
      let high : page < end_of c = ltb-true page (end_of c) m.1 in
      elim (cases_Bool (nat_lt c.first page)) [
        | inl before ↦ (
            let here : crosses page c ≡ true = and_from (nat_lt c.first page) _ before m.1 in
            let x : find (crosses page) (c ∷ bs) ≡ Some c = rw here refl in
            let y : find (meets page (page + 1)) (c ∷ bs) ≡ Some c = rw e refl in
            let z : if_before page (Some c) ≡ Some c = rw before refl in
            x ∙ sym (ap (if_before page) y ∙ z))
        | inr from ↦ (
            let here : crosses page c ≡ false = false_from_ne_true (crosses page c) (λ t. let low = lt-ltb c.first page (crosses_tells page c t).0 in let both : true ≡ false = sym low ∙ from in cc) in
            let rest : find (crosses page) bs ≡ None = none_behind page bs (λ k d less is.
            let after : end_of c ≤ d.first = subst (λ (x : Block). end_of c ≤ x.first) is (pairs zero (suc k) d (omega arith) (omega arith)) in omega arith) in
            let x : find (crosses page) (c ∷ bs) ≡ None = rw here rest in
            let y : find (meets page (page + 1)) (c ∷ bs) ≡ Some c = rw e refl in
            let z : if_before page (Some c) ≡ None = rw from refl in
            x ∙ sym (ap (if_before page) y ∙ z))
      ]
  | inr e ↦ (
      let here : crosses page c ≡ false = false_from_ne_true (crosses page c) (λ t.
      let u = crosses_tells page c t in let low = u.0 in let high = u.1 in
      let yes : meets page (page + 1) c ≡ true = and_from (nat_lt c.first (page + 1)) _ (lt-ltb c.first (page + 1) (omega arith)) (lt-ltb page (end_of c) high) in
      let both : true ≡ false = sym yes ∙ e in cc) in
      let x : find (crosses page) (c ∷ bs) ≡ find (crosses page) bs = rw here refl in
      let y : find (meets page (page + 1)) (c ∷ bs) ≡ find (meets page (page + 1)) bs = rw e refl in
      x ∙ crossing page bs (λ i j d a z. pairs (suc i) (suc j) d (omega arith) (omega arith)) ∙ sym (ap (if_before page) y))
]
