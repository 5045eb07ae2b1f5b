-- Pieces that are apart, and those of them that begin in a range.
use Rattle.std.proofs.Common.{◌≡◌, ℕ, ◌+◌, ◌-◌, ◌*◌, ◌<◌, ◌≤◌, Bool, true, false, List, [], ◌∷◌, ◌++◌, inl, inr, refl, ap, sym, subst, ◌∙◌, arith}
use Rattle.std.specs.Prelude.{◌||◌, not, filter, max, nat_le}
use Rattle.std.proofs.lemmas.List.{append-nil}
use Rattle.std.proofs.lemmas.Bool.{and_from, and_parts, cases_Bool, cases_lt, false_from_ne_true, leb-true, le-leb, ltb-true, lt-ltb}
use Rattle.std.proofs.lemmas.Nat.{pow_pos}
use Rattle.pt_model.specs.Layout.{Layout}
use Rattle.pt_model.proofs.Positions.{filter_in, filter_out}
use Rattle.pt_view.specs.declared.view.Piece.{Piece}
use Rattle.pt_view.specs.Pieces.{IsOneOf, IsUnderPiece, first_of, level_of}
use Rattle.pt_sweep.specs.Sweeps.{AreApart, IsUncut, begins_in, end_of_piece, pages_under}

-- Tests of the pieces of a list.

pub filter_same : (p q : Piece → Bool) (xs : List Piece) → ((x : Piece) → IsOneOf xs x → p x ≡ q x) → filter p xs ≡ filter q xs
filter_same p q [] h = refl
filter_same p q (x ∷ xs) h =
    let rest : filter p xs ≡ filter q xs = filter_same p q xs (λ y m. h y (inr m)) in
    elim (cases_Bool (p x)) [
      | inl a ↦ filter_in p x xs a ∙ ap (λ (ys : List Piece). x ∷ ys) rest ∙ sym (filter_in q x xs (sym (h x (inl refl)) ∙ a))
      | inr a ↦ filter_out p x xs a ∙ rest ∙ sym (filter_out q x xs (sym (h x (inl refl)) ∙ a))
    ]

pub filter_all : (p : Piece → Bool) (xs : List Piece) → ((x : Piece) → IsOneOf xs x → p x ≡ true) → filter p xs ≡ xs
filter_all p [] h = refl
filter_all p (x ∷ xs) h = filter_in p x xs (h x (inl refl)) ∙ ap (λ (ys : List Piece). x ∷ ys) (filter_all p xs (λ y m. h y (inr m)))

pub filter_none : (p : Piece → Bool) (xs : List Piece) → ((x : Piece) → IsOneOf xs x → p x ≡ false) → filter p xs ≡ []
filter_none p [] h = refl
filter_none p (x ∷ xs) h = filter_out p x xs (h x (inl refl)) ∙ filter_none p xs (λ y m. h y (inr m))

pub filtered_one : (p : Piece → Bool) (xs : List Piece) (x : Piece) → IsOneOf (filter p xs) x → IsOneOf xs x × (p x ≡ true)
filtered_one p [] x m = absurd m
filtered_one p (y ∷ ys) x m = elim (cases_Bool (p y)) [
  | inl a ↦ elim (subst (λ (zs : List Piece). IsOneOf zs x) (filter_in p y ys a) m) [
    | inl e ↦ (inl e, ap p (sym e) ∙ a)
    | inr more ↦ (let r = filtered_one p ys x more in (inr r.0, r.1))
  ]
  | inr a ↦ (let r = filtered_one p ys x (subst (λ (zs : List Piece). IsOneOf zs x) (filter_out p y ys a) m) in (inr r.0, r.1))
]

pub one_passes : (p : Piece → Bool) (xs : List Piece) (x : Piece) → IsOneOf xs x → p x ≡ true → IsOneOf (filter p xs) x
one_passes p [] x m e = absurd m
one_passes p (y ∷ ys) x (inl same) e = subst (λ (zs : List Piece). IsOneOf zs x) (sym (filter_in p y ys (ap p same ∙ e))) (inl same)
one_passes p (y ∷ ys) x (inr more) e =
    let rest : IsOneOf (filter p ys) x = one_passes p ys x more e in
    elim (cases_Bool (p y)) [
      | inl a ↦ subst (λ (zs : List Piece). IsOneOf zs x) (sym (filter_in p y ys a)) (inr rest)
      | inr a ↦ subst (λ (zs : List Piece). IsOneOf zs x) (sym (filter_out p y ys a)) rest
    ]

-- what two tests let go, one after the other, is what a third one does
pub record GoesOn (a b c : Piece → Bool) (xs : List Piece) : Type 0 where
  pub stay : filter (λ x. not (b x)) (filter (λ x. not (a x)) xs) ≡ filter (λ x. not (c x)) xs
  pub go : filter c xs ≡ filter a xs ++ filter b (filter (λ x. not (a x)) xs)

-- a second test that lets none go
pub goes_no_more : (a : Piece → Bool) (xs : List Piece) → GoesOn a (λ x. false) a xs
goes_no_more a xs = record {
  stay = filter_all (λ x. true) (filter (λ x. not (a x)) xs) (λ x m. refl);
  go = sym (ap (λ (ys : List Piece). filter a xs ++ ys) (filter_none (λ x. false) (filter (λ x. not (a x)) xs) (λ x m. refl)) ∙ append-nil (filter a xs));
}

stay_twice : (a b c : Piece → Bool) (xs : List Piece) → ((x : Piece) → c x ≡ (a x || b x)) → filter (λ x. not (b x)) (filter (λ x. not (a x)) xs) ≡ filter (λ x. not (c x)) xs
stay_twice a b c [] h = refl
stay_twice a b c (x ∷ xs) h =
    let rest : filter (λ y. not (b y)) (filter (λ y. not (a y)) xs) ≡ filter (λ y. not (c y)) xs = stay_twice a b c xs h in
    elim (cases_Bool (a x)) [
      | inl e ↦
          ap (filter (λ y. not (b y))) (filter_out (λ y. not (a y)) x xs (ap not e)) ∙ rest
          ∙ sym (filter_out (λ y. not (c y)) x xs (ap not (h x ∙ ap (λ t. t || b x) e)))
      | inr e ↦ elim (cases_Bool (b x)) [
        | inl g ↦
            ap (filter (λ y. not (b y))) (filter_in (λ y. not (a y)) x xs (ap not e)) ∙ filter_out (λ y. not (b y)) x (filter (λ y. not (a y)) xs) (ap not g) ∙ rest
            ∙ sym (filter_out (λ y. not (c y)) x xs (ap not (h x ∙ ap (λ t. t || b x) e ∙ g)))
        | inr g ↦
            ap (filter (λ y. not (b y))) (filter_in (λ y. not (a y)) x xs (ap not e)) ∙ filter_in (λ y. not (b y)) x (filter (λ y. not (a y)) xs) (ap not g)
            ∙ ap (λ (ys : List Piece). x ∷ ys) rest ∙ sym (filter_in (λ y. not (c y)) x xs (ap not (h x ∙ ap (λ t. t || b x) e ∙ g)))
      ]
    ]

go_past : (a b : Piece → Bool) (xs : List Piece) → ((x : Piece) → b x ≡ true → a x ≡ false) → filter b (filter (λ x. not (a x)) xs) ≡ filter b xs
go_past a b [] h = refl
go_past a b (x ∷ xs) h =
    let rest : filter b (filter (λ y. not (a y)) xs) ≡ filter b xs = go_past a b xs h in
    elim (cases_Bool (b x)) [
      | inl e ↦
          ap (filter b) (filter_in (λ y. not (a y)) x xs (ap not (h x e))) ∙ filter_in b x (filter (λ y. not (a y)) xs) e ∙ ap (λ (ys : List Piece). x ∷ ys) rest
          ∙ sym (filter_in b x xs e)
      | inr e ↦ elim (cases_Bool (a x)) [
        | inl g ↦ ap (filter b) (filter_out (λ y. not (a y)) x xs (ap not g)) ∙ rest ∙ sym (filter_out b x xs e)
        | inr g ↦ ap (filter b) (filter_in (λ y. not (a y)) x xs (ap not g)) ∙ filter_out b x (filter (λ y. not (a y)) xs) e ∙ rest ∙ sym (filter_out b x xs e)
      ]
    ]

-- The pages under pieces.

pub pages_append : (f : Layout) (xs ys : List Piece) → pages_under f (xs ++ ys) ≡ pages_under f xs + pages_under f ys
pages_append f [] ys = omega arith
pages_append f (x ∷ xs) ys = let rest = pages_append f xs ys in omega arith

-- Whether a piece begins in a range.

pub begins_tells : (f : Layout) (first end : ℕ) (x : Piece) → begins_in f first end x ≡ true → (first ≤ first_of f x) × (first_of f x < end)
begins_tells f first end x e = let h = and_parts (nat_le first (first_of f x)) _ e in (leb-true first (first_of f x) h.0, ltb-true (first_of f x) end h.1)

pub begins_is : (f : Layout) (first end : ℕ) (x : Piece) → first ≤ first_of f x → first_of f x < end → begins_in f first end x ≡ true
begins_is f first end x low high = and_from (nat_le first (first_of f x)) _ (le-leb first (first_of f x) low) (lt-ltb (first_of f x) end high)

pub begins_not : (f : Layout) (first end : ℕ) (x : Piece) → (first ≤ first_of f x → first_of f x < end → ⊥) → begins_in f first end x ≡ false
begins_not f first end x never = false_from_ne_true (begins_in f first end x) (λ e. let h = begins_tells f first end x e in never h.0 h.1)

pub piece_long : (f : Layout) (x : Piece) → first_of f x < end_of_piece f x
piece_long f x = let some = pow_pos (f.index * level_of f x) in omega arith

-- a piece that has no page of a range isn't cut by it, and doesn't begin there
pub free_uncut : (f : Layout) (first end : ℕ) (x : Piece) → first < end → ((page : ℕ) → first ≤ page → page < end → IsUnderPiece f x page → ⊥) → IsUncut f first end x
free_uncut f first end x some free = elim (cases_lt first (end_of_piece f x)) [
  | inr before ↦ inl before
  | inl reaches ↦ elim (cases_lt (first_of f x) end) [
    | inr behind ↦ inr (inl behind)
    | inl low ↦ absurd (let long = piece_long f x in free (max first (first_of f x)) (omega arith) (omega arith) (omega arith, omega arith))
  ]
]

pub free_begins : (f : Layout) (first end : ℕ) (x : Piece) → ((page : ℕ) → first ≤ page → page < end → IsUnderPiece f x page → ⊥) → begins_in f first end x ≡ false
free_begins f first end x free = begins_not f first end x (λ low high. let long = piece_long f x in free (first_of f x) low high (omega arith, omega arith))

or_last : (a b : Bool) → b ≡ true → (a || b) ≡ true
or_last true b e = refl
or_last false b e = e

pub begins_either : (f : Layout) (first at next : ℕ) (x : Piece) → first ≤ at → at ≤ next → begins_in f first next x ≡ (begins_in f first at x || begins_in f at next x)
begins_either f first at next x low high = elim (cases_lt (first_of f x) first) [
  | inl before ↦
      begins_not f first next x (λ l h. omega arith)
      ∙ sym (ap (λ (b : Bool). b || begins_in f at next x) (begins_not f first at x (λ l h. omega arith)) ∙ begins_not f at next x (λ l h. omega arith))
  | inr from ↦ elim (cases_lt (first_of f x) at) [
    | inl early ↦
        begins_is f first next x from (omega arith) ∙ sym (ap (λ (b : Bool). b || begins_in f at next x) (begins_is f first at x from early))
    | inr late ↦ elim (cases_lt (first_of f x) next) [
      | inl inside ↦ begins_is f first next x from inside ∙ sym (or_last (begins_in f first at x) (begins_in f at next x) (begins_is f at next x late inside))
      | inr past ↦
          begins_not f first next x (λ l h. omega arith)
          ∙ sym (ap (λ (b : Bool). b || begins_in f at next x) (begins_not f first at x (λ l h. omega arith)) ∙ begins_not f at next x (λ l h. omega arith))
    ]
  ]
]

-- Pieces that are apart.

pub apart_from : (f : Layout) (from : ℕ) (xs : List Piece) (x : Piece) → AreApart f from xs → IsOneOf xs x → from ≤ first_of f x
apart_from f from [] x apart m = absurd m
apart_from f from (y ∷ ys) x apart (inl e) = subst (λ (z : Piece). from ≤ first_of f z) e apart.0
apart_from f from (y ∷ ys) x apart (inr m) = let rest = apart_from f (end_of_piece f y) ys x apart.1 m in let low = apart.0 in let long = piece_long f y in omega arith

pub apart_wider : (f : Layout) (low from : ℕ) (xs : List Piece) → low ≤ from → AreApart f from xs → AreApart f low xs
apart_wider f low from [] less apart = tt
apart_wider f low from (x ∷ xs) less apart = ((let a = apart.0 in omega arith), apart.1)

pub apart_filter : (f : Layout) (t : Piece → Bool) (from : ℕ) (xs : List Piece) → AreApart f from xs → AreApart f from (filter t xs)
apart_filter f t from [] apart = tt
apart_filter f t from (x ∷ xs) apart =
    let rest : AreApart f (end_of_piece f x) (filter t xs) = apart_filter f t (end_of_piece f x) xs apart.1 in
    elim (cases_Bool (t x)) [
      | inl e ↦ subst (AreApart f from) (sym (filter_in t x xs e)) (apart.0, rest)
      | inr e ↦ subst (AreApart f from) (sym (filter_out t x xs e))
          (apart_wider f from (end_of_piece f x) (filter t xs) (let a = apart.0 in let long = piece_long f x in omega arith) rest)
    ]

-- those that begin in a range, and from its end on in the next
pub split : (f : Layout) (first at next from : ℕ) (xs : List Piece) → first ≤ at → at ≤ next → AreApart f from xs →
    filter (begins_in f first next) xs ≡ filter (begins_in f first at) xs ++ filter (begins_in f at next) xs
split f first at next from [] low high apart = refl
split f first at next from (x ∷ xs) low high apart =
    let a : Piece → Bool = begins_in f first at in
    let b : Piece → Bool = begins_in f at next in
    let c : Piece → Bool = begins_in f first next in
    let rest : filter c xs ≡ filter a xs ++ filter b xs = split f first at next (end_of_piece f x) xs low high apart.1 in
    let either : c x ≡ (a x || b x) = begins_either f first at next x low high in
    elim (cases_Bool (a x)) [
      | inl e ↦
          filter_in c x xs (either ∙ ap (λ (t : Bool). t || b x) e) ∙ ap (λ (ys : List Piece). x ∷ ys) rest
          ∙ sym ((λ i. filter_in a x xs e i ++ filter_out b x xs (begins_not f at next x (λ l h. let s = (begins_tells f first at x e).1 in omega arith)) i))
      | inr e ↦ elim (cases_Bool (b x)) [
        | inl g ↦ (
            let none : filter a xs ≡ [] = filter_none a xs (λ y m. begins_not f first at y (λ l h.
            let from = apart_from f (end_of_piece f x) xs y apart.1 m in let here = (begins_tells f at next x g).0 in let long = piece_long f x in omega arith)) in
            filter_in c x xs (either ∙ or_last (a x) (b x) g) ∙ ap (λ (ys : List Piece). x ∷ ys) (rest ∙ ap (λ (ys : List Piece). ys ++ filter b xs) none)
            ∙ sym ((λ i. filter_out a x xs e i ++ filter_in b x xs g i) ∙ ap (λ (ys : List Piece). ys ++ (x ∷ filter b xs)) none))
        | inr g ↦
            filter_out c x xs (either ∙ ap (λ (t : Bool). t || b x) e ∙ g) ∙ rest ∙ sym (λ i. filter_out a x xs e i ++ filter_out b x xs g i)
      ]
    ]

pub goes_split : (f : Layout) (first at next : ℕ) (xs : List Piece) → first ≤ at → at ≤ next → AreApart f 0 xs → GoesOn (begins_in f first at) (begins_in f at next) (begins_in f first next) xs
goes_split f first at next xs low high apart = record {
  stay = stay_twice (begins_in f first at) (begins_in f at next) (begins_in f first next) xs (λ x. begins_either f first at next x low high);
  go = split f first at next 0 xs low high apart
      ∙ ap (λ (ys : List Piece). filter (begins_in f first at) xs ++ ys)
      (sym (go_past (begins_in f first at) (begins_in f at next) xs (λ x e. begins_not f first at x (λ l h. let s = (begins_tells f at next x e).0 in omega arith))));
}

-- the only one that begins in a range
pub only_one : (f : Layout) (first end from : ℕ) (xs : List Piece) (x : Piece) → AreApart f from xs → IsOneOf xs x → begins_in f first end x ≡ true →
    ((y : Piece) → IsOneOf xs y → begins_in f first end y ≡ true → first_of f y ≡ first_of f x) → filter (begins_in f first end) xs ≡ x ∷ []
only_one f first end from [] x apart m e same = absurd m
only_one f first end from (y ∷ ys) x apart (inl is) e same =
    let here : begins_in f first end y ≡ true = ap (begins_in f first end) is ∙ e in
    filter_in (begins_in f first end) y ys here
    ∙ (λ i. is i ∷ filter_none (begins_in f first end) ys (λ z m. false_from_ne_true (begins_in f first end z) (λ g.
    let a = same z (inr m) g in let b = apart_from f (end_of_piece f y) ys z apart.1 m in let c = ap (first_of f) is in let long = piece_long f y in omega arith)) i)
only_one f first end from (y ∷ ys) x apart (inr more) e same =
    filter_out (begins_in f first end) y ys (false_from_ne_true (begins_in f first end y) (λ g.
    let a = same y (inl refl) g in let b = apart_from f (end_of_piece f y) ys x apart.1 more in let long = piece_long f y in omega arith))
    ∙ only_one f first end (end_of_piece f y) ys x apart.1 more e (λ z m g. same z (inr m) g)

-- the pages under those that begin in a range are no more than it has
fits_from : (f : Layout) (first end from : ℕ) (xs : List Piece) → AreApart f from xs → ((x : Piece) → IsOneOf xs x → IsUncut f first end x) →
    pages_under f (filter (begins_in f first end) xs) ≤ end - max first from
fits_from f first end from [] apart uncut = omega arith
fits_from f first end from (x ∷ xs) apart uncut =
    let rest : pages_under f (filter (begins_in f first end) xs) ≤ end - max first (end_of_piece f x) = fits_from f first end (end_of_piece f x) xs apart.1 (λ y m. uncut y (inr m)) in
    let low = apart.0 in let long = piece_long f x in
    elim (cases_Bool (begins_in f first end x)) [
      | inl e ↦ (
          let t = begins_tells f first end x e in let t0 = t.0 in let t1 = t.1 in
          let is = ap (pages_under f) (filter_in (begins_in f first end) x xs e) in
          elim (uncut x (inl refl)) [
            | inl before ↦ absurd (omega arith)
            | inr other ↦ elim other [
              | inl behind ↦ absurd (omega arith)
              | inr inside ↦ (let u = inside.1 in omega arith)
            ]
          ])
      | inr e ↦ (let is = ap (pages_under f) (filter_out (begins_in f first end) x xs e) in omega arith)
    ]

pub pages_fit : (f : Layout) (first end : ℕ) (xs : List Piece) → AreApart f 0 xs → ((x : Piece) → IsOneOf xs x → IsUncut f first end x) →
    pages_under f (filter (begins_in f first end) xs) ≤ end - first
pages_fit f first end xs apart uncut = let h = fits_from f first end 0 xs apart uncut in omega arith
