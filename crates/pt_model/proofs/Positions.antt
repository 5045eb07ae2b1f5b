-- Lists of positions as sets: the order of positions, how often one stands in a list, what is among it, and lists in order.
use Rattle.std.proofs.Common.{◌≡◌, ℕ, zero, suc, ◌++◌, Bool, ◌+◌, ◌≤◌, ◌<◌, ◌⊎◌, ◌↔◌, List, [], ◌∷◌, length, refl, ap, sym, subst, ◌∙◌, arith, true, false, inl, inr}
use Rattle.std.specs.Prelude.{◌==◌, nat_lt, not, filter, map, IsTrue}
use Rattle.std.specs.List.{list_any, range_with_len, AllByRecursion}
use Rattle.std.proofs.lemmas.Bool.{cases_Bool, cases_eq, cases_lt, cases_order, false≢true, and_parts, and_from, or_cases, or_left, or_right, ltb-true, lt-ltb, eqb-true, eq-eqb, false_from_ne_true}
use Rattle.std.proofs.lemmas.List.Sums.{length-filter, count_by-le-length}
use Rattle.pt_model.specs.declared.position.Position.{Position}
use Rattle.pt_model.specs.Tables.{is_before, is_same, add_position, add_positions}
use Rattle.pt_model.specs.Sets.{IsAmong, IsSorted, one_if, places, without_position}

-- The order of positions.

pub same_position : (p q : Position) → p.level ≡ q.level → p.base ≡ q.base → p ≡ q
same_position p q e h = λ i. record { level = e i; base = h i }

pub before_cases : (p q : Position) → is_before p q ≡ true →
    (p.level < q.level) ⊎ ((p.level ≡ q.level) × (p.base < q.base))
before_cases p q e =
    elim (or_cases (nat_lt p.level q.level) _ e) [
      | inl lower ↦ inl (ltb-true p.level q.level lower)
      | inr beside ↦
          let h = and_parts (p.level == q.level) _ beside in
          inr (eqb-true p.level q.level h.0, ltb-true p.base q.base h.1)
    ]

pub before_lower : (p q : Position) → p.level < q.level → is_before p q ≡ true
before_lower p q h = or_left (nat_lt p.level q.level) _ (lt-ltb p.level q.level h)

pub before_beside : (p q : Position) → p.level ≡ q.level → p.base < q.base → is_before p q ≡ true
before_beside p q e h =
    or_right (nat_lt p.level q.level) _ (and_from (p.level == q.level) _ (eq-eqb p.level q.level e) (lt-ltb p.base q.base h))

pub before_self : (p : Position) → is_before p p ≡ true → ⊥
before_self p e = elim (before_cases p p e) [ inl h ↦ omega arith | inr h ↦ omega arith ]

pub before_trans : (p q r : Position) → is_before p q ≡ true → is_before q r ≡ true → is_before p r ≡ true
before_trans p q r e h =
    elim (before_cases p q e) [
      | inl a ↦ elim (before_cases q r h) [
        | inl b ↦ before_lower p r (omega arith)
        | inr b ↦ before_lower p r (omega arith)
      ]
      | inr a ↦ elim (before_cases q r h) [
        | inl b ↦ before_lower p r (omega arith)
        | inr b ↦ before_beside p r (omega arith) (omega arith)
      ]
    ]

pub before_order : (p q : Position) → (is_before p q ≡ true) ⊎ ((p ≡ q) ⊎ (is_before q p ≡ true))
before_order p q =
    elim (cases_order p.level q.level) [
      | inl same ↦ elim (cases_order p.base q.base) [
        | inl equal ↦ inr (inl (same_position p q same equal))
        | inr other ↦ elim other [
          | inl less ↦ inl (before_beside p q same less)
          | inr more ↦ inr (inr (before_beside q p (sym same) more))
        ]
      ]
      | inr other ↦ elim other [
        | inl less ↦ inl (before_lower p q less)
        | inr more ↦ inr (inr (before_lower q p more))
      ]
    ]

pub not_before : (p q : Position) → is_before q p ≡ true → is_before p q ≡ false
not_before p q e = false_from_ne_true (is_before p q) (λ h. before_self p (before_trans p q p h e))

pub same_not_before : (p q : Position) → p ≡ q → is_before p q ≡ false
same_not_before p q e = false_from_ne_true (is_before p q) (λ h. before_self q (subst (λ r. is_before r q ≡ true) e h))

-- The test of sameness.

pub is_same_true : (p q : Position) → is_same p q ≡ true → p ≡ q
is_same_true p q e =
    let h = and_parts (p.level == q.level) _ e in
    same_position p q (eqb-true p.level q.level h.0) (eqb-true p.base q.base h.1)

pub is_same_self : (p q : Position) → q ≡ p → is_same p q ≡ true
is_same_self p q e =
    and_from (p.level == q.level) _ (eq-eqb p.level q.level (ap (λ (x : Position). x.level) (sym e)))
    (eq-eqb p.base q.base (ap (λ (x : Position). x.base) (sym e)))

pub same_cases : (p q : Position) → (p ≡ q) ⊎ (is_same p q ≡ false)
same_cases p q = elim (cases_Bool (is_same p q)) [ inl e ↦ inl (is_same_true p q e) | inr e ↦ inr e ]

-- 1 where a test passes.

pub bit_le : (b : Bool) → one_if b ≤ 1
bit_le true = omega arith
bit_le false = omega arith

pub bit_true : (b : Bool) → b ≡ true → one_if b ≡ 1
bit_true b e = ap (λ (x : Bool). one_if x) e

pub bit_false : (b : Bool) → b ≡ false → one_if b ≡ 0
bit_false b e = ap (λ (x : Bool). one_if x) e

pub true_bit : (b : Bool) → 0 < one_if b → b ≡ true
true_bit true h = refl
true_bit false h = absurd (omega arith)

pub false_bit : (b : Bool) → one_if b ≡ 0 → b ≡ false
false_bit true h = absurd (omega arith)
false_bit false h = refl

-- How often a position stands in a list.

pub places_append : (p : Position) (xs ys : List Position) → places p (xs ++ ys) ≡ places p xs + places p ys
places_append p [] ys = omega arith
places_append p (x ∷ xs) ys = let rest = places_append p xs ys in omega arith

pub places_here : (p : Position) (ps : List Position) → places p (p ∷ ps) ≡ 1 + places p ps
places_here p ps = ap (λ b. one_if b + places p ps) (is_same_self p p refl)

pub places_else : (p q : Position) (qs : List Position) → is_same p q ≡ false → places p (q ∷ qs) ≡ places p qs
places_else p q qs e = ap (λ b. one_if b + places p qs) e ∙ omega arith

-- What is among a list.

pub among_none : (p : Position) → IsAmong [] p → ⊥
among_none p h = omega arith

pub among_here : (p : Position) (ps : List Position) → IsAmong (p ∷ ps) p
among_here p ps = let h = places_here p ps in omega arith

pub among_first : (p q : Position) (qs : List Position) → p ≡ q → IsAmong (q ∷ qs) p
among_first p q qs e = subst (IsAmong (q ∷ qs)) (sym e) (among_here q qs)

pub among_more : (p q : Position) (qs : List Position) → IsAmong qs p → IsAmong (q ∷ qs) p
among_more p q qs h = let some : 0 < places p qs = h in omega arith

pub among_cases : (p q : Position) (qs : List Position) → IsAmong (q ∷ qs) p → (p ≡ q) ⊎ IsAmong qs p
among_cases p q qs h = elim (same_cases p q) [
  | inl e ↦ inl e
  | inr other ↦ inr (let e = places_else p q qs other in let some : 0 < places p (q ∷ qs) = h in omega arith)
]

pub among_one : (p q : Position) → IsAmong (q ∷ []) p → p ≡ q
among_one p q h = elim (among_cases p q [] h) [ inl e ↦ e | inr none ↦ absurd (among_none p none) ]

-- a list that has a position is not empty
pub among_some : (p : Position) (ps : List Position) → IsAmong ps p → 0 < length ps
among_some p [] h = absurd (omega arith)
among_some p (q ∷ qs) h = omega arith

pub among_append : (p : Position) (xs ys : List Position) → IsAmong (xs ++ ys) p → IsAmong xs p ⊎ IsAmong ys p
among_append p xs ys h =
    let e = places_append p xs ys in
    elim (cases_lt 0 (places p xs)) [ inl here ↦ inl here | inr none ↦ inr (let some : 0 < places p (xs ++ ys) = h in omega arith) ]

pub among_left : (p : Position) (xs ys : List Position) → IsAmong xs p → IsAmong (xs ++ ys) p
among_left p xs ys h = let e = places_append p xs ys in let some : 0 < places p xs = h in omega arith

pub among_right : (p : Position) (xs ys : List Position) → IsAmong ys p → IsAmong (xs ++ ys) p
among_right p xs ys h = let e = places_append p xs ys in let some : 0 < places p ys = h in omega arith

-- what holds of each item holds of those that are among the list, and the other way round
pub among_all : (P : Position → Type 0) (ps : List Position) → AllByRecursion P ps → (p : Position) → IsAmong ps p → P p
among_all P [] all p h = absurd (omega arith)
among_all P (q ∷ qs) all p h = elim (among_cases p q qs h) [ inl e ↦ subst P (sym e) all.0 | inr later ↦ among_all P qs all.1 p later ]

pub all_among : (P : Position → Type 0) (ps : List Position) → ((p : Position) → IsAmong ps p → P p) → AllByRecursion P ps
all_among P [] h = tt
all_among P (q ∷ qs) h = (h q (among_here q qs), all_among P qs (λ p m. h p (among_more p q qs m)))

-- the same by a test of the whole list
pub any_among : (ps : List Position) (p : Position) → list_any (is_same p) ps ≡ true → IsAmong ps p
any_among [] p e = absurd (false≢true e)
any_among (q ∷ qs) p e = elim (or_cases (is_same p q) _ e) [
  | inl here ↦ among_first p q qs (is_same_true p q here)
  | inr later ↦ among_more p q qs (any_among qs p later)
]

pub among_any : (ps : List Position) (p : Position) → IsAmong ps p → list_any (is_same p) ps ≡ true
among_any [] p h = absurd (omega arith)
among_any (q ∷ qs) p h = elim (among_cases p q qs h) [
  | inl e ↦ or_left (is_same p q) _ (is_same_self p q (sym e))
  | inr later ↦ or_right (is_same p q) _ (among_any qs p later)
]

-- A position added to a list.

pub add_after : (q : Position) (qs : List Position) (p : Position) → is_before q p ≡ true →
    add_position (q ∷ qs) p ≡ q ∷ add_position qs p
add_after q qs p e = rw (e, add_position) refl

pub add_before : (q : Position) (qs : List Position) (p : Position) → is_before p q ≡ true →
    add_position (q ∷ qs) p ≡ p ∷ (q ∷ qs)
add_before q qs p e = rw (not_before q p e, add_position) (rw e refl)

pub add_there : (q : Position) (qs : List Position) (p : Position) → q ≡ p → add_position (q ∷ qs) p ≡ q ∷ qs
add_there q qs p e = rw (same_not_before q p e, add_position) (rw (same_not_before p q (sym e)) refl)

-- what is shown of a list with a position added, by where that one goes
pub added_by : (P : List Position → Type 0) (r : Position) (rs : List Position) (q : Position) → (is_before r q ≡ true → P (r ∷ add_position rs q)) →
    (r ≡ q → P (r ∷ rs)) → (is_before q r ≡ true → P (q ∷ (r ∷ rs))) → P (add_position (r ∷ rs) q)
added_by P r rs q later here first = elim (before_order r q) [
  | inl before ↦ subst P (sym (add_after r rs q before)) (later before)
  | inr other ↦ elim other [
    | inl same ↦ subst P (sym (add_there r rs q same)) (here same)
    | inr after ↦ subst P (sym (add_before r rs q after)) (first after)
  ]
]

pub added_cases : (ps : List Position) (q p : Position) → IsAmong (add_position ps q) p → IsAmong ps p ⊎ (p ≡ q)
added_cases [] q p m = inr (among_one p q m)
added_cases (r ∷ rs) q p m = added_by (λ xs. IsAmong xs p → IsAmong (r ∷ rs) p ⊎ (p ≡ q)) r rs q
    (λ before m. elim (among_cases p r (add_position rs q) m) [
      | inl e ↦ inl (among_first p r rs e)
      | inr later ↦ elim (added_cases rs q p later) [ inl old ↦ inl (among_more p r rs old) | inr e ↦ inr e ]
    ])
    (λ same m. inl m) (λ after m. elim (among_cases p q (r ∷ rs) m) [ inl e ↦ inr e | inr old ↦ inl old ]) m

pub added_kept : (ps : List Position) (q p : Position) → IsAmong ps p → IsAmong (add_position ps q) p
added_kept [] q p m = absurd (omega arith)
added_kept (r ∷ rs) q p m = added_by (λ xs. IsAmong xs p) r rs q
    (λ before. elim (among_cases p r rs m) [
      | inl e ↦ among_first p r (add_position rs q) e
      | inr later ↦ among_more p r (add_position rs q) (added_kept rs q p later)
    ])
    (λ same. m) (λ after. among_more p q (r ∷ rs) m)

pub added_new : (ps : List Position) (q : Position) → IsAmong (add_position ps q) q
added_new [] q = among_here q []
added_new (r ∷ rs) q = added_by (λ xs. IsAmong xs q) r rs q (λ before. among_more q r (add_position rs q) (added_new rs q))
    (λ same. among_first q r rs (sym same)) (λ after. among_here q (r ∷ rs))

pub added_are : (ps : List Position) (q p : Position) → IsAmong (add_position ps q) p ↔ (IsAmong ps p ⊎ (p ≡ q))
added_are ps q p = (added_cases ps q p, λ m. elim m [ inl old ↦ added_kept ps q p old | inr e ↦ subst (IsAmong (add_position ps q)) (sym e) (added_new ps q) ])

pub all_added : (P : Position → Type 0) (ps : List Position) (q : Position) → AllByRecursion P ps → P q → AllByRecursion P (add_position ps q)
all_added P [] q all h = (h, tt)
all_added P (r ∷ rs) q all h = added_by (AllByRecursion P) r rs q (λ before. (all.0, all_added P rs q all.1 h)) (λ same. all) (λ after. (h, all))

pub sorted_add : (ps : List Position) (q : Position) → IsSorted ps → IsSorted (add_position ps q)
sorted_add [] q s = (λ p m. absurd (among_none p m), tt)
sorted_add (r ∷ rs) q s = added_by IsSorted r rs q
    (λ before. (
      λ p m. elim (added_cases rs q p m) [ inl a ↦ s.0 p a | inr e ↦ subst (λ x. is_before r x ≡ true) (sym e) before ],
      sorted_add rs q s.1,
    ))
    (λ same. s)
    (λ after. (λ p m. elim (among_cases p r rs m) [ inl e ↦ subst (λ x. is_before q x ≡ true) (sym e) after | inr a ↦ before_trans q r p after (s.0 p a) ], s))

-- what is among a list in order and is added again changes nothing
pub add_again : (ps : List Position) (q : Position) → IsSorted ps → IsAmong ps q → add_position ps q ≡ ps
add_again [] q s m = absurd (omega arith)
add_again (r ∷ rs) q s m = elim (among_cases q r rs m) [
  | inl e ↦ add_there r rs q (sym e)
  | inr later ↦ add_after r rs q (s.0 q later) ∙ ap (λ (xs : List Position). r ∷ xs) (add_again rs q s.1 later)
]

pub length_added : (ps : List Position) (q : Position) → (¬ IsAmong ps q) → length (add_position ps q) ≡ length ps + 1
length_added [] q new = omega arith
length_added (r ∷ rs) q new = added_by (λ xs. length xs ≡ length (r ∷ rs) + 1) r rs q
    (λ before. let e : length (add_position rs q) ≡ length rs + 1 = length_added rs q (λ m. new (among_more q r rs m)) in omega arith)
    (λ same. absurd (new (among_first q r rs (sym same)))) (λ after. omega arith)

-- Positions added to a list.

pub adds_cases : (qs ps : List Position) (p : Position) → IsAmong (add_positions ps qs) p → IsAmong ps p ⊎ IsAmong qs p
adds_cases [] ps p m = inl m
adds_cases (q ∷ qs) ps p m = elim (adds_cases qs (add_position ps q) p m) [
  | inl a ↦ elim (added_cases ps q p a) [ inl old ↦ inl old | inr e ↦ inr (among_first p q qs e) ]
  | inr later ↦ inr (among_more p q qs later)
]

pub adds_kept : (qs ps : List Position) (p : Position) → IsAmong ps p → IsAmong (add_positions ps qs) p
adds_kept [] ps p m = m
adds_kept (q ∷ qs) ps p m = adds_kept qs (add_position ps q) p (added_kept ps q p m)

pub adds_new : (qs ps : List Position) (p : Position) → IsAmong qs p → IsAmong (add_positions ps qs) p
adds_new [] ps p m = absurd (omega arith)
adds_new (q ∷ qs) ps p m = elim (among_cases p q qs m) [
  | inl e ↦ adds_kept qs (add_position ps q) p (subst (IsAmong (add_position ps q)) (sym e) (added_new ps q))
  | inr later ↦ adds_new qs (add_position ps q) p later
]

pub adds_are : (qs ps : List Position) (p : Position) → IsAmong (add_positions ps qs) p ↔ (IsAmong ps p ⊎ IsAmong qs p)
adds_are qs ps p = (adds_cases qs ps p, λ m. elim m [ inl old ↦ adds_kept qs ps p old | inr new ↦ adds_new qs ps p new ])

pub all_adds : (P : Position → Type 0) (qs ps : List Position) → AllByRecursion P ps → AllByRecursion P qs → AllByRecursion P (add_positions ps qs)
all_adds P [] ps all new = all
all_adds P (q ∷ qs) ps all new = all_adds P qs (add_position ps q) (all_added P ps q all new.0) new.1

pub sorted_adds : (qs ps : List Position) → IsSorted ps → IsSorted (add_positions ps qs)
sorted_adds [] ps s = s
sorted_adds (q ∷ qs) ps s = sorted_adds qs (add_position ps q) (sorted_add ps q s)

pub adds_again : (qs ps : List Position) → IsSorted ps → ((q : Position) → IsAmong qs q → IsAmong ps q) → add_positions ps qs ≡ ps
adds_again [] ps s m = refl
adds_again (q ∷ qs) ps s m =
    ap (λ (xs : List Position). add_positions xs qs) (add_again ps q s (m q (among_here q qs)))
    ∙ adds_again qs ps s (λ r k. m r (among_more r q qs k))

-- Two lists in order with the same members are one: `M` tells the members, `R` the order, and `O` that a list is in order.
module _ {X : Type 0} (M : List X → X → Type 0) (R : X → X → Type 0) (O : List X → Type 0)
    (none : (x : X) → M [] x → ⊥) (here : (x : X) (xs : List X) → M (x ∷ xs) x) (more : (x y : X) (xs : List X) → M xs x → M (y ∷ xs) x)
    (cases : (x y : X) (xs : List X) → M (y ∷ xs) x → (x ≡ y) ⊎ M xs x)
    (after : (x : X) (xs : List X) → O (x ∷ xs) → (y : X) → M xs y → R x y) (rest : (x : X) (xs : List X) → O (x ∷ xs) → O xs)
    (one_way : (x y : X) → R x y → R y x → ⊥) where
  -- what is a member of both lists, and isn't their first item, is one of their rests
  later : (x z : X) (xs ys : List X) → ((y : X) → M xs y → R x y) → M xs z → M (x ∷ ys) z → M ys z
  later x z xs ys before member other = elim (cases z x ys other) [
    | inl e ↦ (let loop : R x x = subst (R x) e (before z member) in absurd (one_way x x loop loop))
    | inr m ↦ m
  ]

  pub same_list : (xs ys : List X) → O xs → O ys → ((x : X) → M xs x → M ys x) → ((x : X) → M ys x → M xs x) → xs ≡ ys
  same_list [] [] a b to back = refl
  same_list [] (y ∷ ys) a b to back = absurd (none y (back y (here y ys)))
  same_list (x ∷ xs) [] a b to back = absurd (none x (to x (here x xs)))
  same_list (x ∷ xs) (y ∷ ys) a b to back =
      let first : x ≡ y = elim (cases x y ys (to x (here x xs))) [
        | inl e ↦ e
        | inr m ↦ elim (cases y x xs (back y (here y ys))) [ inl e ↦ sym e | inr k ↦ absurd (one_way x y (after x xs a y k) (after y ys b x m)) ]
      ] in
      let tails : xs ≡ ys =
      same_list xs ys (rest x xs a) (rest y ys b)
      (λ z m. later x z xs ys (after x xs a) m (subst (λ (h : X). M (h ∷ ys) z) (sym first) (to z (more z x xs m))))
      (λ z m. later y z ys xs (after y ys b) m (subst (λ (h : X). M (h ∷ xs) z) first (back z (more z y ys m)))) in
      λ i. first i ∷ tails i

pub same_members : (ps qs : List Position) → IsSorted ps → IsSorted qs →
    ((p : Position) → IsAmong ps p → IsAmong qs p) → ((p : Position) → IsAmong qs p → IsAmong ps p) → ps ≡ qs
same_members = same_list IsAmong (λ p q. IsTrue (is_before p q)) IsSorted among_none among_here among_more among_cases
    (λ p ps s. s.0) (λ p ps s. s.1) (λ p q a b. before_self p (before_trans p q p a b))

-- the order in which positions are added is all one
pub adds_by_members : (ps qs rs : List Position) → IsSorted ps → IsSorted rs → ((p : Position) → IsAmong rs p ↔ (IsAmong ps p ⊎ IsAmong qs p)) → rs ≡ add_positions ps qs
adds_by_members ps qs rs s t are =
    same_members rs (add_positions ps qs) t (sorted_adds qs ps s) (λ p m. (adds_are qs ps p).1 ((are p).0 m)) (λ p m. (are p).1 ((adds_are qs ps p).0 m))

-- Positions that pass a test.

pub filter_in : {X : Type 0} → (t : X → Bool) (x : X) (xs : List X) → t x ≡ true → filter t (x ∷ xs) ≡ x ∷ filter t xs
filter_in t x xs e = rw e refl

pub filter_out : {X : Type 0} → (t : X → Bool) (x : X) (xs : List X) → t x ≡ false → filter t (x ∷ xs) ≡ filter t xs
filter_out t x xs e = rw e refl

-- what is shown of a list's items that pass, by whether the first one does
filter_by : (P : List Position → Type 0) (t : Position → Bool) (x : Position) (xs : List Position) →
    (t x ≡ true → P (x ∷ filter t xs)) → (t x ≡ false → P (filter t xs)) → P (filter t (x ∷ xs))
filter_by P t x xs passes fails = elim (cases_Bool (t x)) [
  | inl e ↦ subst P (sym (filter_in t x xs e)) (passes e)
  | inr e ↦ subst P (sym (filter_out t x xs e)) (fails e)
]

pub among_filtered : (t : Position → Bool) (xs : List Position) (p : Position) → IsAmong (filter t xs) p → IsAmong xs p × (t p ≡ true)
among_filtered t [] p m = absurd (omega arith)
among_filtered t (x ∷ xs) p m = filter_by (λ zs. IsAmong zs p → IsAmong (x ∷ xs) p × (t p ≡ true)) t x xs
    (λ passes m. elim (among_cases p x (filter t xs) m) [
      | inl e ↦ (among_first p x xs e, ap t e ∙ passes)
      | inr later ↦ (let h = among_filtered t xs p later in (among_more p x xs h.0, h.1))
    ])
    (λ fails m. let h = among_filtered t xs p m in (among_more p x xs h.0, h.1)) m

pub among_passes : (t : Position → Bool) (xs : List Position) (p : Position) → IsAmong xs p → t p ≡ true → IsAmong (filter t xs) p
among_passes t [] p m e = absurd (omega arith)
among_passes t (x ∷ xs) p m e = filter_by (λ zs. IsAmong zs p) t x xs
    (λ passes. elim (among_cases p x xs m) [
      | inl here ↦ among_first p x (filter t xs) here
      | inr later ↦ among_more p x (filter t xs) (among_passes t xs p later e)
    ])
    (λ fails. elim (among_cases p x xs m) [
      | inl here ↦ absurd (false≢true (sym fails ∙ ap t (sym here) ∙ e))
      | inr later ↦ among_passes t xs p later e
    ])

pub sorted_filter : (t : Position → Bool) (xs : List Position) → IsSorted xs → IsSorted (filter t xs)
sorted_filter t [] s = s
sorted_filter t (x ∷ xs) s =
    filter_by IsSorted t x xs (λ passes. (λ p m. s.0 p (among_filtered t xs p m).0, sorted_filter t xs s.1)) (λ fails. sorted_filter t xs s.1)

-- a test that all members pass keeps them all
pub filter_members : (t : Position → Bool) (xs : List Position) → ((p : Position) → IsAmong xs p → t p ≡ true) → filter t xs ≡ xs
filter_members t [] h = refl
filter_members t (x ∷ xs) h =
    filter_in t x xs (h x (among_here x xs)) ∙ ap (λ (zs : List Position). x ∷ zs) (filter_members t xs (λ p m. h p (among_more p x xs m)))

-- a test that a member fails leaves fewer
pub filter_fewer : (t : Position → Bool) (xs : List Position) (p : Position) → IsAmong xs p → t p ≡ false → length (filter t xs) < length xs
filter_fewer t [] p m e = absurd (omega arith)
filter_fewer t (x ∷ xs) p m e = filter_by (λ zs. length zs < length (x ∷ xs)) t x xs
    (λ passes. elim (among_cases p x xs m) [
      | inl here ↦ absurd (false≢true (sym e ∙ ap t here ∙ passes))
      | inr later ↦ (let less : length (filter t xs) < length xs = filter_fewer t xs p later e in omega arith)
    ])
    (λ fails. omega (arith, length-filter t xs, count_by-le-length t xs))

-- Positions of a run of levels.

pub among_levels : (g : ℕ → Position) (n low : ℕ) (p : Position) → IsAmong (map g (range_with_len low n)) p → (k : ℕ) × (low ≤ k) × (k < low + n) × (p ≡ g k)
among_levels g zero low p m = absurd (let none : IsAmong (map g (range_with_len low zero)) p = m in omega arith)
among_levels g (suc n) low p m = elim (among_cases p (g low) (map g (range_with_len (low + 1) n)) m) [
  | inl e ↦ (low, omega arith, omega arith, e)
  | inr later ↦ (let h : (k : ℕ) × (low + 1 ≤ k) × (k < low + 1 + n) × (p ≡ g k) = among_levels g n (low + 1) p later in (h.0, omega arith, omega arith, h.3))
]

pub levels_among : (g : ℕ → Position) (n low k : ℕ) → low ≤ k → k < low + n → IsAmong (map g (range_with_len low n)) (g k)
levels_among g zero low k h i = absurd (omega arith)
levels_among g (suc n) low k h i = elim (cases_eq low k) [
  | inl e ↦ among_first (g k) (g low) (map g (range_with_len (low + 1) n)) (ap g (sym e))
  | inr other ↦ among_more (g k) (g low) (map g (range_with_len (low + 1) n)) (levels_among g n (low + 1) k (omega arith) (omega arith))
]

pub sorted_levels : (g : ℕ → Position) → ((k : ℕ) → (g k).level ≡ k) → (n low : ℕ) → IsSorted (map g (range_with_len low n))
sorted_levels g e zero low = tt
sorted_levels g e (suc n) low = (
  λ p m.
      let h = among_levels g n (low + 1) p m in
      let over : p.level ≡ h.0 = ap (λ (q : Position). q.level) h.3 ∙ e h.0 in
      before_lower (g low) p (omega (arith, over, e low, h.1)),
  sorted_levels g e n (low + 1),
)

-- Lists that have each position once at most.

abbrev pub Once : List Position → Type 0
Once ps = (p : Position) → places p ps ≤ 1

pub sorted_once : (ps : List Position) → IsSorted ps → Once ps
sorted_once [] s p = omega arith
sorted_once (q ∷ qs) s p = elim (same_cases p q) [
  | inl e ↦ elim (cases_lt 0 (places p qs)) [
    | inl again ↦ absurd (before_self p (subst (λ (r : Position). is_before r p ≡ true) (sym e) (s.0 p again)))
    | inr none ↦ (let most = bit_le (is_same p q) in omega arith)
  ]
  | inr other ↦ (let rest : places p qs ≤ 1 = sorted_once qs s.1 p in let h = places_else p q qs other in omega arith)
]

-- such a list is no longer than one that has all of its positions
pub length_within : (xs ys : List Position) → Once xs → ((p : Position) → IsAmong xs p → IsAmong ys p) → length xs ≤ length ys
length_within [] ys once within = omega arith
length_within (x ∷ xs) ys once within =
    let one = places_here x xs in
    let few = once x in
    let less = filter_fewer (λ q. not (is_same x q)) ys x (within x (among_here x xs)) (ap not (is_same_self x x refl)) in
    let other : (p : Position) → IsAmong xs p → is_same x p ≡ false = λ p m. elim (same_cases x p) [
      | inl e ↦ absurd (let again : IsAmong xs x = subst (IsAmong xs) (sym e) m in omega arith)
      | inr e ↦ e
    ] in
    let rest : length xs ≤ length (without_position x ys) = length_within xs (without_position x ys) (λ p. let h = once p in omega arith)
    (λ p m. among_passes (λ q. not (is_same x q)) ys p (within p (among_more p x xs m)) (ap not (other p m))) in
    omega arith

pub same_length : (xs ys : List Position) → Once xs → Once ys → ((p : Position) → IsAmong xs p → IsAmong ys p) → ((p : Position) → IsAmong ys p → IsAmong xs p) → length xs ≡ length ys
same_length xs ys once other to back =
    let a = length_within xs ys once to in
    let b = length_within ys xs other back in omega arith
