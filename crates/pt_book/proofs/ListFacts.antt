-- What a search finds, lists of legal blocks, and blocks in the order of first pages.
use Rattle.std.proofs.Common.{◌≡◌, ℕ, suc, ◌+◌, ◌-◌, ◌^◌, ◌<◌, ◌≤◌, Bool, true, false, inl, inr, List, [], ◌∷◌, length, get_or, drop, Option, Some, refl, ap, sym, subst, ◌∙◌, arith, ◌⊎◌, Vec, Global}
use Rattle.std.specs.Prelude.{nat_le, nat_lt, filter, find, not, All, AllPairs, cond, IfOk, Result}
use Rattle.std.proofs.lemmas.Bool.{and_from, cases_eq, cases_lt, le-leb, le-ltb}
use Rattle.std.proofs.lemmas.List.Elements.{All-append, All-cons, All-filter}
use Rattle.std.proofs.lemmas.List.{get_or-drop, get_or_default, length-drop}
use Rattle.std.proofs.lemmas.List.Kept.{AllPairs-cons}
use Rattle.std.proofs.Math.Pow.{pow_mono}
use Rattle.std.proofs.lemmas.Result.{IfOk-weaker}
use Rattle.pt_model.specs.declared.block.Block.{Block}
use Rattle.pt_model.specs.declared.block.Prot.{Prot}
use Rattle.pt_model.specs.Layout.{Layout, IsLegal, IsLegalBlock, end_of, pages}
use Rattle.pt_model.specs.Tiling.{IsTiling}
use Rattle.pt_model.specs.Book.{add_blocks, lies_in}

-- a power below another has a smaller exponent
pub small_power : (k m : ℕ) → 2 ^ k < 2 ^ m → k < m
small_power k m h = elim (cases_lt k m) [
  | inl low ↦ low
  | inr high ↦ absurd (let more : 2 ^ m ≤ 2 ^ k = pow_mono high in omega arith)
]

by_test : (t : Bool) (x b : Block) (rest : Option Block) → Some b ≡ cond t (Some x) rest → ((t ≡ true) × (b ≡ x)) ⊎ (Some b ≡ rest)
by_test true x b rest e = inl (refl, cc)
by_test false x b rest e = inr e

-- what a search finds is one of the list and passes the test
pub found_is : (P : Block → Type 0) (p : Block → Bool) (xs : List Block) (b : Block) → All P xs → Some b ≡ find p xs → P b × (p b ≡ true)
found_is P p [] b all e = absurd (let w : ⊥ = cc in w)
found_is P p (x ∷ xs) b all e = elim (by_test (p x) x b (find p xs) e) [
  | inl here ↦ (subst P (sym here.1) (all 0 x (omega arith)), ap p here.1 ∙ here.0)
  | inr later ↦ found_is P p xs b (λ k d h. all (suc k) d (omega arith)) later
]

-- all blocks that end by a page lie in the pages before it
pub all_lie_in : (last : ℕ) (bs : List Block) → All (λ b. end_of b ≤ last) bs → filter (lies_in 0 last) bs ≡ bs
all_lie_in last [] all = refl
all_lie_in last (b ∷ bs) all =
    let here : lies_in 0 last b ≡ true = and_from (nat_le 0 b.first) (nat_le (end_of b) last) (le-leb 0 b.first (omega arith)) (le-leb (end_of b) last (all 0 b (omega arith))) in
    rw here (ap (λ (xs : List Block). b ∷ xs) (all_lie_in last bs (λ k d h. all (suc k) d (omega arith))))

-- the blocks of two lists of legal blocks are legal
pub all_added : (P : Block → Type 0) (bs new : List Block) → All P bs → All P new → All P (add_blocks bs new)
all_added P [] new old fresh = fresh
all_added P (b ∷ bs) new old fresh =
    All-append P (filter (λ n. nat_lt n.first b.first) new) (b ∷ add_blocks bs (filter (λ n. not (nat_lt n.first b.first)) new))
    (All-filter (λ n. nat_lt n.first b.first) P new fresh)
    (All-cons P b (add_blocks bs (filter (λ n. not (nat_lt n.first b.first)) new)) (old 0 b (omega arith))
    (all_added P bs (filter (λ n. not (nat_lt n.first b.first)) new) (λ k d h. old (suc k) d (omega arith))
    (All-filter (λ n. not (nat_lt n.first b.first)) P new fresh)))

-- the blocks of a tiling are legal
pub tiling_legal : (f : Layout) (prot : Prot) (first out left : ℕ) (bs : List Block) → IsTiling f prot first out left bs → All (IsLegalBlock f) bs
tiling_legal f prot first out left [] t = λ k d h. absurd (omega arith)
tiling_legal f prot first out left (b ∷ bs) t =
    All-cons (IsLegalBlock f) b bs
    (subst (λ (x : Block). IsLegal f x.first b.log2 x.out) (sym t.0) t.1.legal)
    (tiling_legal f prot (first + pages b) (out + pages b) (left - pages b) bs t.2)

-- Lists in the order of first pages.

-- the blocks of a tiling begin at its first page or after it
tiling_from : (f : Layout) (prot : Prot) (first out left : ℕ) (bs : List Block) → IsTiling f prot first out left bs →
    All (λ b. first ≤ b.first) bs
tiling_from f prot first out left [] t = λ k d h. absurd (omega arith)
tiling_from f prot first out left (b ∷ bs) t =
    let here : b.first ≡ first = ap (λ (x : Block). x.first) t.0 in
    let later = tiling_from f prot (first + pages b) (out + pages b) (left - pages b) bs t.2 in
    All-cons (λ c. first ≤ c.first) b bs (omega (arith, here)) (λ k d h. omega (arith, later k d h))

-- they are in order
pub tiling_ordered : (f : Layout) (prot : Prot) (first out left : ℕ) (bs : List Block) → IsTiling f prot first out left bs →
    AllPairs (λ b c. b.first ≤ c.first) bs
tiling_ordered f prot first out left [] t = λ i j d h k. absurd (omega arith)
tiling_ordered f prot first out left (b ∷ bs) t =
    let here : b.first ≡ first = ap (λ (x : Block). x.first) t.0 in
    let later = tiling_from f prot (first + pages b) (out + pages b) (left - pages b) bs t.2 in
    AllPairs-cons (λ b c. b.first ≤ c.first) b bs (λ k d h. omega (arith, here, later k d h))
    (tiling_ordered f prot (first + pages b) (out + pages b) (left - pages b) bs t.2)

-- of blocks that begin at a page or after it none is before it
none_before : (page : ℕ) (bs : List Block) → All (λ b. page ≤ b.first) bs →
    (filter (λ n. nat_lt n.first page) bs ≡ []) × (filter (λ n. not (nat_lt n.first page)) bs ≡ bs)
none_before page [] all = (refl, refl)
none_before page (b ∷ bs) all =
    let rest = none_before page bs (λ k d h. all (suc k) d (omega arith)) in
    let out : nat_lt b.first page ≡ false = le-ltb b.first page (all 0 b (omega arith)) in (
      rw out rest.0,
      rw out (ap (λ (xs : List Block). b ∷ xs) rest.1),
    )

-- from a place on, where the block there isn't before the page
pub none_left : (page : ℕ) (bs : List Block) (i : ℕ) (d : Block) → AllPairs (λ b c. b.first ≤ c.first) bs → i < length bs →
    page ≤ (get_or bs i d).first →
    (filter (λ n. nat_lt n.first page) (drop i bs) ≡ []) × (filter (λ n. not (nat_lt n.first page)) (drop i bs) ≡ drop i bs)
none_left page bs i d ordered h from =
    none_before page (drop i bs)
    (λ k e m.
    let at : get_or (drop i bs) k e ≡ get_or bs (i + k) e = get_or-drop i bs k e in
    let here : page ≤ (get_or bs i e).first = subst (λ (b : Block). page ≤ b.first) (get_or_default bs i d e h) from in
    elim (cases_eq k 0) [
      | inl none ↦
          let same : i + k ≡ i = omega arith in
          omega (arith, here, ap (λ (b : Block). b.first) (at ∙ ap (λ n. get_or bs n e) same))
      | inr some ↦
          let inside : i + k < length bs = omega (arith, length-drop i bs) in
          omega (arith, here, ap (λ (b : Block). b.first) at, ordered i (i + k) e (omega arith) inside)
    ])

-- what holds of a list holds of a vector that is answered with its items
pub answered : {E : Type 0} (r : Result (Vec Block Global) E) (list : List Block) (P : List Block → Type 0) → P list →
    IfOk r (λ (bs : Vec Block Global). bs.items ≡ list) → IfOk r (λ (bs : Vec Block Global). P bs.items)
answered r list P holds e =
    IfOk-weaker r (λ (bs : Vec Block Global). bs.items ≡ list) (λ (bs : Vec Block Global). P bs.items) (λ bs is. subst P (sym is) holds) e
