-- Frames that are drawn one after another.
use Rattle.std.proofs.Common.{◌≡◌, ⊎_elim, inl, inr, ℕ, zero, suc, ◌+◌, ◌<◌, ◌≤◌, List, [], ◌∷◌, ◌++◌, ◌==◌, refl, sym, subst, ap, ◌∙◌, arith, length-append}
use Rattle.std.proofs.lemmas.Bool.{cases_eq}
use Rattle.std.proofs.lemmas.List.{append_assoc, append-nil}
use Rattle.pt_view.specs.declared.view.View.{View}
use Rattle.pt_view.proofs.Members.{in_cases, in_here, in_left, in_more, in_right, times_append, times_else}
use Rattle.pt_view.proofs.Stays.{book_here, book_on, range_here, range_on}
use Rattle.pt_view.specs.Lists.{IsIn}
use Rattle.pt_view.specs.Calls.{Takes}
use Rattle.pt_sweep.specs.Draws.{FallBelow, Gains, GainsInOrder, IsTriedOnce, KeepsBook, OnlyTakes, RiseBelow}

-- what a try adds to the purse: its frame, or none
pub gains_one : (tells : Type 0) (frame k : ℕ) (v w : View) → k ≤ 1 → Takes (k == 1) tells frame v w → Gains v.purse w.purse k
gains_one tells frame zero v w le t = ([], t.0, refl)
gains_one tells frame (suc zero) v w le t = (frame ∷ [], t.0, refl)
gains_one tells frame (suc (suc k)) v w le t = absurd (omega arith)

pub gains_more : (old mid new : List ℕ) (k j : ℕ) → Gains old mid k → Gains mid new j → Gains old new (k + j)
gains_more old mid new k j a b =
    (b.0 ++ a.0, (b.1 ∙ ap (λ xs. b.0 ++ xs) a.1 ∙ sym (append_assoc b.0 a.0 old)), (let x = a.2 in let y = b.2 in let z = length-append b.0 a.0 in omega arith))

pub keeps_here : {v : View} → KeepsBook v v
keeps_here = record { range = range_here; book = book_here; known = λ p. ((λ h. h), (λ h. h)) }

module _ {tells : Type 0} where
  pub only_here : {v : View} → OnlyTakes tells v v
  only_here = record {
    keeps = keeps_here;
    place = record { path = refl; prepared = refl; end = refl };
    absent = λ told. refl;
    stores = λ told. refl;
  }

  pub only_on : {u v w : View} → OnlyTakes tells u v → OnlyTakes tells v w → OnlyTakes tells u w
  only_on a b = record {
    keeps = record {
      range = range_on a.keeps.range b.keeps.range;
      book = book_on a.keeps.book b.keeps.book;
      known = λ p. ((λ h. (a.keeps.known p).0 ((b.keeps.known p).0 h)), (λ h. (b.keeps.known p).1 ((a.keeps.known p).1 h)));
    };
    place = record { path = b.place.path ∙ a.place.path; prepared = b.place.prepared ∙ a.place.prepared; end = b.place.end ∙ a.place.end };
    absent = λ told. b.absent told ∙ a.absent told;
    stores = λ told. b.stores told ∙ a.stores told;
  }

-- numbers that fall or rise are all below the bound
fall_in : (bound x : ℕ) (xs : List ℕ) → FallBelow bound xs → IsIn xs x → x < bound
fall_in bound x [] f h = absurd (omega arith)
fall_in bound x (y ∷ xs) f h = let less = f.0 in elim (in_cases x y xs h) [
  | inl e ↦ omega arith
  | inr later ↦ (let rest : x < y = fall_in y x xs f.1 later in omega arith)
]

rise_in : (least bound x : ℕ) (xs : List ℕ) → RiseBelow least bound xs → IsIn xs x → x < bound
rise_in least bound x [] r h = absurd (omega arith)
rise_in least bound x (y ∷ xs) r h = let less = r.1 in elim (in_cases x y xs h) [
  | inl e ↦ omega arith
  | inr later ↦ rise_in (y + 1) bound x xs r.2 later
]

-- a greater bound
pub fall_wider : (n m : ℕ) (xs : List ℕ) → n ≤ m → FallBelow n xs → FallBelow m xs
fall_wider n m [] le f = tt
fall_wider n m (x ∷ xs) le f = (let less = f.0 in omega arith, f.1)

rise_wider : (least n m : ℕ) (xs : List ℕ) → n ≤ m → RiseBelow least n xs → RiseBelow least m xs
rise_wider least n m [] le r = tt
rise_wider least n m (x ∷ xs) le r = (r.0, (let less = r.1 in omega arith), rise_wider (x + 1) n m xs le r.2)

-- the bound is put after numbers that rise below it
rise_more : (least n : ℕ) (xs : List ℕ) → least ≤ n → RiseBelow least n xs → RiseBelow least (n + 1) (xs ++ n ∷ [])
rise_more least n [] le r = (le, omega arith, tt)
rise_more least n (x ∷ xs) le r = let less = r.1 in (r.0, omega arith, rise_more (x + 1) n xs (omega arith) r.2)

-- the next frame was taken, or was lost
got_more : (n : ℕ) (got lost : List ℕ) → IsTriedOnce n got lost → IsTriedOnce (n + 1) (n ∷ got) lost
got_more n got lost a = record {
  falls = (omega arith, a.falls);
  rises = rise_wider 0 n (n + 1) lost (omega arith) a.rises;
  either = λ x less. elim (cases_eq x n) [
    | inl e ↦ inl (subst (IsIn (n ∷ got)) (sym e) (in_here n got))
    | inr ne ↦ ⊎_elim (λ h. inl (in_more x n got h)) (λ h. inr h) (a.either x (omega arith))
  ];
  apart = λ x g l. let less = rise_in 0 n x lost a.rises l in elim (in_cases x n got g) [ inl e ↦ absurd (omega arith) | inr old ↦ a.apart x old l ];
}

lost_more : (n : ℕ) (got lost : List ℕ) → IsTriedOnce n got lost → IsTriedOnce (n + 1) got (lost ++ n ∷ [])
lost_more n got lost a = record {
  falls = fall_wider n (n + 1) got (omega arith) a.falls;
  rises = rise_more 0 n lost (omega arith) a.rises;
  either = λ x less. elim (cases_eq x n) [
    | inl e ↦ inr (in_right x lost (n ∷ []) (subst (IsIn (n ∷ [])) (sym e) (in_here n [])))
    | inr ne ↦ ⊎_elim (λ h. inl h) (λ h. inr (in_left x lost (n ∷ []) h)) (a.either x (omega arith))
  ];
  apart = λ x g l.
      let less = fall_in n x got a.falls g in
      let o = times_else x n [] (λ e. omega arith) in let t = times_append x lost (n ∷ []) in a.apart x g (omega arith);
}

-- none was tried
pub once_none : IsTriedOnce 0 [] []
once_none = record {
  falls = tt;
  rises = tt;
  either = λ x less. absurd (omega arith);
  apart = λ x g l. omega arith;
}

-- the purse after the next try
pub order_more : (tells : Type 0) (n k : ℕ) (u v w : View) → k ≤ 1 → Takes (k == 1) tells n v w →
    GainsInOrder n u.purse v.purse → GainsInOrder (n + 1) u.purse w.purse
order_more tells n zero u v w le t a = (a.0, t.0 ∙ a.1, fall_wider n (n + 1) a.0 (omega arith) a.2)
order_more tells n (suc zero) u v w le t a = (n ∷ a.0, t.0 ∙ ap (λ xs. n ∷ xs) a.1, (omega arith, a.2))
order_more tells n (suc (suc k)) u v w le t a = absurd (omega arith)

-- what was told of the frames below a number
abbrev pub Told : (upto : ℕ) → (u v : View) → Type 0
Told upto u v = (got : List ℕ) × (lost : List ℕ) × (v.purse ≡ got ++ u.purse) × (v.taken ≡ u.taken ++ lost) × IsTriedOnce upto got lost

pub told_none : (v : View) → Told 0 v v
told_none v = ([], [], refl, sym (append-nil v.taken), once_none)

pub told_more : (tells : Type 0) (n k : ℕ) (u v w : View) → k ≤ 1 → Takes (k == 1) tells n v w → tells → Told n u v → Told (n + 1) u w
told_more tells n zero u v w le t told a =
    (a.0, a.1 ++ n ∷ [], t.0 ∙ a.2, t.1 told ∙ ap (λ xs. xs ++ n ∷ []) a.3 ∙ append_assoc u.taken a.1 (n ∷ []), lost_more n a.0 a.1 a.4)
told_more tells n (suc zero) u v w le t told a =
    (n ∷ a.0, a.1, t.0 ∙ ap (λ xs. n ∷ xs) a.2, t.1 told ∙ a.3, got_more n a.0 a.1 a.4)
told_more tells n (suc (suc k)) u v w le t told a = absurd (omega arith)
