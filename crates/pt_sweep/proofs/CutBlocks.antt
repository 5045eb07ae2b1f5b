-- The blocks that a range cuts: they are over its first page or its last.
use Rattle.std.proofs.Common.{◌≡◌, ◌⊎◌, ℕ, zero, suc, ◌+◌, ◌-◌, ◌<◌, ◌≤◌, Bool, true, false, List, [], ◌∷◌, inl, inr, refl, ap, sym, subst, ◌∙◌, arith}
use Rattle.std.specs.Prelude.{◌&&◌, not, find, nat_le, nat_lt, AllPairs, Contains, None, Some}
use Rattle.std.proofs.lemmas.Bool.{and_from, and_parts, cases_Bool, cases_lt, false_from_ne_true, false≢true, leb-true, le-leb, ltb-true, lt-ltb}
use Rattle.std.proofs.lemmas.Nat.{pow_pos}
use Rattle.pt_model.specs.declared.block.Block.{Block}
use Rattle.pt_model.specs.Layout.{end_of}
use Rattle.pt_model.specs.Book.{lies_in, meets}
use Rattle.pt_model.specs.Unmap.{is_cut}

-- Searches.

-- a block that a list has isn't passed over by a search that finds none
pub found_none : (p : Block → Bool) (bs : List Block) → find p bs ≡ None → (b : Block) → Contains bs b → p b ≡ false
found_none p [] none b h = absurd (let less = h.1 in omega arith)
found_none p (c ∷ bs) none b (zero, less, is) = false_from_ne_true (p b) (λ e. let here : p c ≡ true = ap p is ∙ e in let s : Some c ≡ None = sym (rw here refl) ∙ none in let z : ⊥ = cc in z)
found_none p (c ∷ bs) none b (suc k, less, is) = elim (cases_Bool (p c)) [
  | inl e ↦ absurd (let s : Some c ≡ None = sym (rw e refl) ∙ none in let z : ⊥ = cc in z)
  | inr e ↦ found_none p bs (sym (rw e refl) ∙ none) b (k, omega arith, is)
]

pub finds_none : (p : Block → Bool) (bs : List Block) → ((b : Block) → Contains bs b → p b ≡ false) → find p bs ≡ None
finds_none p [] none = refl
finds_none p (c ∷ bs) none =
    let here : p c ≡ false = none c (0, omega arith, refl) in
    let rest : find p bs ≡ None = finds_none p bs (λ b h. none b (suc h.0, (let l = h.1 in omega arith), h.2)) in rw here rest

pub found_one : (p : Block → Bool) (bs : List Block) (b : Block) → find p bs ≡ Some b → Contains bs b × (p b ≡ true)
found_one p [] b found = absurd (let z : ⊥ = cc in z)
found_one p (c ∷ bs) b found = elim (cases_Bool (p c)) [
  | inl e ↦ (let s : Some c ≡ Some b = sym (rw e refl) ∙ found in let is : c ≡ b = cc in ((0, omega arith, is), ap p (sym is) ∙ e))
  | inr e ↦ (let r = found_one p bs b (sym (rw e refl) ∙ found) in ((suc r.0.0, (let l = r.0.1 in omega arith), r.0.2), r.1))
]

finds_same : (p q : Block → Bool) (bs : List Block) → ((b : Block) → Contains bs b → p b ≡ q b) → find p bs ≡ find q bs
finds_same p q [] same = refl
finds_same p q (c ∷ bs) same =
    let here : p c ≡ q c = same c (0, omega arith, refl) in
    let rest : find p bs ≡ find q bs = finds_same p q bs (λ b h. same b (suc h.0, (let l = h.1 in omega arith), h.2)) in
    elim (cases_Bool (q c)) [
      | inl e ↦ (let a : p c ≡ true = here ∙ e in let x : find p (c ∷ bs) ≡ Some c = rw a refl in let y : find q (c ∷ bs) ≡ Some c = rw e refl in x ∙ sym y)
      | inr e ↦ (let a : p c ≡ false = here ∙ e in let x : find p (c ∷ bs) ≡ find p bs = rw a refl in let y : find q (c ∷ bs) ≡ find q bs = rw e refl in x ∙ rest ∙ sym y)
    ]

-- Blocks in order.

abbrev Ordered : List Block → Type 0
Ordered bs = AllPairs (λ b c. end_of b ≤ c.first) bs

behind : (c : Block) (bs : List Block) → Ordered (c ∷ bs) → (b : Block) → Contains bs b → end_of c ≤ b.first
behind c bs order b h = subst (λ (d : Block). end_of c ≤ d.first) h.2 (order 0 (suc h.0) b (omega arith) (let l = h.1 in omega arith))

later : (c : Block) (bs : List Block) → Ordered (c ∷ bs) → Ordered bs
later c bs order = λ i j d a z. order (suc i) (suc j) d (omega arith) (omega arith)

pub meets_tells : (first last : ℕ) (b : Block) → meets first last b ≡ true → (b.first < last) × (first < end_of b)
meets_tells first last b e = let h = and_parts (nat_lt b.first last) _ e in (ltb-true b.first last h.0, ltb-true first (end_of b) h.1)

meets_is : (first last : ℕ) (b : Block) → b.first < last → first < end_of b → meets first last b ≡ true
meets_is first last b low high = and_from (nat_lt b.first last) _ (lt-ltb b.first last low) (lt-ltb first (end_of b) high)

longer : (b : Block) → b.first < end_of b
longer b = let p = pow_pos b.log2 in omega arith

-- A range.

module _ (first end : ℕ) where
  pub cut_is : (b : Block) → b.first < end → first < end_of b → (b.first < first) ⊎ (end < end_of b) → is_cut first end b ≡ true
  cut_is b low high out =
      and_from (meets first end b) _ (meets_is first end b low high) (ap not (false_from_ne_true (lies_in first end b) (λ e.
      let h = and_parts (nat_le first b.first) _ e in let f = leb-true first b.first h.0 in let t = leb-true (end_of b) end h.1 in
      elim out [ inl before ↦ omega arith | inr past ↦ omega arith ])))

  pub cut_tells : (b : Block) → is_cut first end b ≡ true → (b.first < end) × (first < end_of b) × ((b.first < first) ⊎ (end < end_of b))
  cut_tells b e =
      let h = and_parts (meets first end b) _ e in
      let m = meets_tells first end b h.0 in (
        m.0,
        m.1,
        elim (cases_lt b.first first) [
          | inl before ↦ inl before
          | inr from ↦ elim (cases_lt end (end_of b)) [
            | inl past ↦ inr past
            | inr to ↦ absurd (false≢true (sym (ap not (and_from (nat_le first b.first) _ (le-leb first b.first from) (le-leb (end_of b) end to))) ∙ h.1))
          ]
        ],
      )

  -- the block over a page of it, where the range cuts that
  abbrev over : ℕ → Block → Bool
  over page b = meets page (page + 1) b && is_cut first end b

  module _ (page : ℕ) (from : first ≤ page) (to : page < end) where
    pub over_none : (bs : List Block) → find (meets page (page + 1)) bs ≡ None → find (over page) bs ≡ None
    over_none bs none = finds_none (over page) bs (λ b h. false_from_ne_true (over page b) (λ e. false≢true (sym (found_none (meets page (page + 1)) bs none b h) ∙ (and_parts (meets page (page + 1) b) _ e).0)))

    pub over_found : (bs : List Block) → Ordered bs → (b : Block) → find (meets page (page + 1)) bs ≡ Some b →
        (((b.first < first) ⊎ (end < end_of b)) → find (over page) bs ≡ Some b) × (((((b.first < first) ⊎ (end < end_of b)) → ⊥)) → find (over page) bs ≡ None)
    over_found [] order b found = absurd (let z : ⊥ = cc in z)
    over_found (c ∷ bs) order b found = elim (cases_Bool (meets page (page + 1) c)) [
      | inl e ↦ (
          let s : Some c ≡ Some b = sym (rw e refl) ∙ found in
          let is : c ≡ b = cc in
          let m = meets_tells page (page + 1) c e in let low = m.0 in let high = m.1 in (
            λ out. (
                let here : over page c ≡ true = and_from (meets page (page + 1) c) _ e (cut_is c (omega arith) (omega arith) (subst (λ (d : Block). (d.first < first) ⊎ (end < end_of d)) (sym is) out)) in
                let x : find (over page) (c ∷ bs) ≡ Some c = rw here refl in x ∙ s),
            λ never. finds_none (over page) (c ∷ bs) (λ d h. false_from_ne_true (over page d) (λ o.
                let p = and_parts (meets page (page + 1) d) _ o in
                let n = meets_tells page (page + 1) d p.0 in
                first_alone h d n (cut_tells d p.1).2 (λ same. never (subst (λ (d : Block). (d.first < first) ⊎ (end < end_of d)) (same ∙ is) (cut_tells d p.1).2)) high)),
          )
          )
      | inr e ↦ (
          let r = over_found bs (later c bs order) b (sym (rw e refl) ∙ found) in
          let not_here : over page c ≡ false = false_from_ne_true (over page c) (λ o. false≢true (sym e ∙ (and_parts (meets page (page + 1) c) _ o).0)) in
          let x : find (over page) (c ∷ bs) ≡ find (over page) bs = rw not_here refl in
          (λ out. x ∙ r.0 out, λ never. x ∙ r.1 never))
    ]
      where
        first_alone : {d : Block} → (h : Contains (c ∷ bs) d) → (d' : Block) → (d.first < page + 1) × (page < end_of d) → (d.first < first) ⊎ (end < end_of d) → ((d ≡ c) → ⊥) → page < end_of c → ⊥
        first_alone {d} (zero, less, is) d' n out other high = other (sym is)
        first_alone {d} (suc k, less, is) d' n out other high = let b = behind c bs order d (k, omega arith, is) in let low = n.0 in omega arith

  -- the one over the first page is the lowest that is cut
  pub first_cut : (bs : List Block) → Ordered bs → (b : Block) → find (over first) bs ≡ Some b → find (is_cut first end) bs ≡ Some b
  first_cut [] order b found = absurd (let z : ⊥ = cc in z)
  first_cut (c ∷ bs) order b found = elim (cases_Bool (over first c)) [
    | inl e ↦ (
        let s : Some c ≡ Some b = sym (rw e refl) ∙ found in
        let cut : is_cut first end c ≡ true = (and_parts (meets first (first + 1) c) _ e).1 in
        let x : find (is_cut first end) (c ∷ bs) ≡ Some c = rw cut refl in x ∙ s)
    | inr e ↦ (
        let there : find (over first) bs ≡ Some b = sym (rw e refl) ∙ found in
        let one = found_one (over first) bs b there in
        let low = (meets_tells first (first + 1) b (and_parts (meets first (first + 1) b) _ one.1).0).0 in
        let before = behind c bs order b one.0 in
        let uncut : is_cut first end c ≡ false = false_from_ne_true (is_cut first end c) (λ k. let high = (cut_tells c k).1 in omega arith) in
        let x : find (is_cut first end) (c ∷ bs) ≡ find (is_cut first end) bs = rw uncut refl in
        x ∙ first_cut bs (later c bs order) b there)
  ]

  -- where none is there, the one over the last page is
  pub last_cut : (bs : List Block) → first < end → find (over first) bs ≡ None → find (is_cut first end) bs ≡ find (over (end - 1)) bs
  last_cut bs some none = finds_same (is_cut first end) (over (end - 1)) bs (λ b h. elim (cases_Bool (is_cut first end b)) [
    | inr uncut ↦ uncut ∙ sym (false_from_ne_true (over (end - 1) b) (λ o. false≢true (sym uncut ∙ (and_parts (meets (end - 1) (end - 1 + 1) b) _ o).1)))
    | inl cut ↦ (
        let t = cut_tells b cut in
        let low = t.0 in let high = t.1 in
        elim t.2 [
          | inl before ↦ absurd (false≢true (sym (found_none (over first) bs none b h) ∙ and_from (meets first (first + 1) b) _ (meets_is first (first + 1) b (omega arith) high) cut))
          | inr past ↦ cut ∙ sym (and_from (meets (end - 1) (end - 1 + 1) b) _ (meets_is (end - 1) (end - 1 + 1) b (omega arith) (omega arith)) cut)
        ])
  ])
