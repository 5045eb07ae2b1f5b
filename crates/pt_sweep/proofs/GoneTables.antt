-- Tables that go: those that lie in a range, lists without them, and the frames that come for them.
use Rattle.std.proofs.Common.{◌≡◌, ℕ, ◌+◌, ◌-◌, ◌*◌, ◌/◌, ◌%◌, ◌^◌, ◌<◌, ◌≤◌, Bool, true, false, List, [], ◌∷◌, length, inl, inr, refl, ap, sym, ◌∙◌, arith}
use Rattle.std.specs.Prelude.{◌||◌, not, filter, nat_le, nat_lt}
use Rattle.std.proofs.lemmas.Bool.{and_from, and_parts, cases_Bool, cases_lt, false_from_ne_true, false≢true, leb-true, le-leb, ltb-true, lt-ltb}
use Rattle.std.proofs.lemmas.Nat.{pow-add, mul-le}
use Rattle.std.proofs.Math.Nat.{mul-le-mul_left}
use mathlib.Core.Logic.{dite}
use native.Mathlib.Decide.{ℕ_discrete}
use Rattle.pt_model.specs.declared.position.Position.{Position}
use Rattle.pt_model.specs.Layout.{Layout, pages_of_entry, pages_of_table}
use Rattle.pt_model.specs.Sets.{IsAmong, one_if, places, without_position}
use Rattle.pt_model.specs.Tables.{is_same}
use Rattle.pt_model.proofs.Positions.{among_here, among_more, filter_in, filter_out, is_same_self, places_else, same_cases}
use Rattle.pt_model.proofs.Quotients.{whole}
use Rattle.pt_view.specs.declared.view.View.{View}
use Rattle.pt_view.specs.Loads.{ByLoads}
use Rattle.pt_sweep.specs.Empties.{Frees, lies_below}

-- Filters, one after another.

pub filter_twice : (p q r : Position → Bool) (ts : List Position) → ((x : Position) → IsAmong ts x → r x ≡ (p x || q x)) →
    filter (λ x. not (q x)) (filter (λ x. not (p x)) ts) ≡ filter (λ x. not (r x)) ts
filter_twice p q r [] h = refl
filter_twice p q r (x ∷ xs) h =
    let rest : filter (λ y. not (q y)) (filter (λ y. not (p y)) xs) ≡ filter (λ y. not (r y)) xs = filter_twice p q r xs (λ y m. h y (among_more y x xs m)) in
    let here : r x ≡ (p x || q x) = h x (among_here x xs) in
    elim (cases_Bool (p x)) [
      | inl a ↦
          ap (filter (λ y. not (q y))) (filter_out (λ y. not (p y)) x xs (ap not a)) ∙ rest
          ∙ sym (filter_out (λ y. not (r y)) x xs (ap not (here ∙ ap (λ b. b || q x) a)))
      | inr a ↦ elim (cases_Bool (q x)) [
        | inl b ↦
            ap (filter (λ y. not (q y))) (filter_in (λ y. not (p y)) x xs (ap not a)) ∙ filter_out (λ y. not (q y)) x (filter (λ y. not (p y)) xs) (ap not b) ∙ rest
            ∙ sym (filter_out (λ y. not (r y)) x xs (ap not (here ∙ ap (λ c. c || q x) a ∙ b)))
        | inr b ↦
            ap (filter (λ y. not (q y))) (filter_in (λ y. not (p y)) x xs (ap not a)) ∙ filter_in (λ y. not (q y)) x (filter (λ y. not (p y)) xs) (ap not b)
            ∙ ap (λ (ys : List Position). x ∷ ys) rest ∙ sym (filter_in (λ y. not (r y)) x xs (ap not (here ∙ ap (λ c. c || q x) a ∙ b)))
      ]
    ]

-- Whether a table lies in a range, below a level.

pub below_tells : (f : Layout) (first end level : ℕ) (q : Position) → lies_below f first end level q ≡ true → (q.level < level) × (first ≤ q.base) × (q.base + pages_of_table f q.level ≤ end)
below_tells f first end level q e =
    let a = and_parts (nat_lt q.level level) _ e in
    let b = and_parts (nat_le first q.base) _ a.1 in
    (ltb-true q.level level a.0, leb-true first q.base b.0, leb-true (q.base + pages_of_table f q.level) end b.1)

pub below_is : (f : Layout) (first end level : ℕ) (q : Position) → q.level < level → first ≤ q.base → q.base + pages_of_table f q.level ≤ end → lies_below f first end level q ≡ true
below_is f first end level q low from to =
    and_from (nat_lt q.level level) _ (lt-ltb q.level level low) (and_from (nat_le first q.base) _ (le-leb first q.base from) (le-leb (q.base + pages_of_table f q.level) end to))

pub below_none : (f : Layout) (first end level : ℕ) (q : Position) → ((q.level < level) → (first ≤ q.base) → (q.base + pages_of_table f q.level ≤ end) → ⊥) → lies_below f first end level q ≡ false
below_none f first end level q never = false_from_ne_true (lies_below f first end level q) (λ e. let h = below_tells f first end level q e in never h.0 h.1 h.2)

pub below_wider : (f : Layout) (a b j first end level : ℕ) (q : Position) → first ≤ a → b ≤ end → j ≤ level → lies_below f first end level q ≡ false → lies_below f a b j q ≡ false
below_wider f a b j first end level q from to low none =
    below_none f a b j q (λ l m n. false≢true (sym none ∙ below_is f first end level q (omega arith) (omega arith) (omega arith)))

-- What is at a multiple of a power lies before a multiple of a greater one, or begins at it or behind.
pub steps_before : (j k base at : ℕ) → j ≤ k → base % 2 ^ j ≡ 0 → at % 2 ^ k ≡ 0 → base < at → base + 2 ^ j ≤ at
steps_before j k base at up aligned multiple before =
    let more : k ≡ (k - j) + j = omega arith in
    let pages : 2 ^ k ≡ 2 ^ (k - j) * 2 ^ j = ap (λ x. 2 ^ x) more ∙ pow-add 2 (k - j) j in
    let m : ℕ = base / 2 ^ j in
    let n : ℕ = at / 2 ^ k * 2 ^ (k - j) in
    let here : base ≡ m * 2 ^ j = whole base j aligned in
    let there : at ≡ n * 2 ^ j = whole at k multiple ∙ ap (λ x. at / 2 ^ k * x) pages ∙ (let g : at / 2 ^ k * (2 ^ (k - j) * 2 ^ j) ≡ at / 2 ^ k * 2 ^ (k - j) * 2 ^ j = omega arith in g) in
    elim (cases_lt m n) [
      | inl less ↦ (let h = mul-le (m + 1) (2 ^ j) n (2 ^ j) (omega arith) (omega arith) in omega (arith, h, here, there))
      | inr over ↦ absurd (let h = mul-le n (2 ^ j) m (2 ^ j) over (omega arith) in omega (arith, h, here, there, before))
    ]

pub ends_before : (f : Layout) (level at : ℕ) (q : Position) → q.level < level → q.base % pages_of_table f q.level ≡ 0 → at % pages_of_entry f level ≡ 0 → q.base < at → q.base + pages_of_table f q.level ≤ at
ends_before f level at q low aligned multiple before =
    steps_before (f.index * (q.level + 1)) (f.index * level) q.base at (mul-le-mul_left f.index (let h : q.level + 1 ≤ level = omega arith in h)) aligned multiple before

-- Lists without a position, and those that pass a test.

pub places_filtered : (t : Position → Bool) (ps : List Position) (q : Position) → places q (filter t ps) ≤ places q ps
places_filtered t [] q = omega arith
places_filtered t (p ∷ ps) q =
    let rest = places_filtered t ps q in
    elim (cases_Bool (t p)) [
      | inl e ↦ (let h = ap (places q) (filter_in t p ps e) in omega arith)
      | inr e ↦ (let h = ap (places q) (filter_out t p ps e) in omega arith)
    ]

all_others : (p : Position) (ps : List Position) → places p ps ≡ 0 → length (without_position p ps) ≡ length ps
all_others p [] none = refl
all_others p (q ∷ qs) none = elim (same_cases p q) [
  | inl e ↦ absurd (let h = ap one_if (is_same_self p q (sym e)) in omega arith)
  | inr e ↦ (let h = ap length (filter_in (λ x. not (is_same p x)) q qs (ap not e)) in let r = all_others p qs (omega arith) in omega arith)
]

pub length_without : (p : Position) (ps : List Position) → places p ps < 2 → IsAmong ps p → length (without_position p ps) + 1 ≡ length ps
length_without p [] once there = absurd (omega arith)
length_without p (q ∷ qs) once there = elim (same_cases p q) [
  | inl e ↦ (
      let one = ap one_if (is_same_self p q (sym e)) in
      let h = ap length (filter_out (λ x. not (is_same p x)) q qs (ap not (is_same_self p q (sym e)))) in
      let r = all_others p qs (omega arith) in omega arith)
  | inr e ↦ (
      let none = places_else p q qs e in
      let h = ap length (filter_in (λ x. not (is_same p x)) q qs (ap not e)) in
      let r : length (without_position p qs) + 1 ≡ length qs = length_without p qs (omega arith) (omega arith) in omega arith)
]

-- The frames that come for tables that go.

pub frees_on : {alone alone' : Type 0} {u v w : View} → (alone → alone') → Frees alone u v → Frees alone' v w → Frees alone u w
frees_on still a b = record {
  each = let x = a.each in let y = b.each in omega arith;
  only = λ h. let x = a.only h in let y = b.only (still h) in omega arith;
}

-- where the purse and the book have as many as before, none came and none went
pub frees_none : {alone : Type 0} {v w : View} → length w.purse ≡ length v.purse → length w.tables ≡ length v.tables → Frees alone v w
frees_none frames tables = record { each = omega arith; only = λ h. omega arith }

-- loads free none
pub frees_behind : {tells alone alone' : Type 0} {v w u : View} → ByLoads tells v w → (alone → alone') → Frees alone' w u → Frees alone v u
frees_behind k still d = frees_on still (frees_none (ap length k.purse.purse) (ap length k.book.tables)) d

-- one frame comes, and a table of the book goes, if it was one
pub frees_one : {alone : Type 0} {v w : View} (p : Position) (frame : ℕ) → w.purse ≡ frame ∷ v.purse → w.tables ≡ without_position p v.tables → places p v.tables < 2 →
    (alone → IsAmong v.tables p) → Frees alone v w
frees_one {v = v} p frame purse tables once there =
    let frames = ap length purse in
    let left = ap length tables in record {
      each = dite (ℕ_discrete (places p v.tables) 0)
          (λ none. let e = all_others p v.tables none in omega arith)
          (λ some. let e = length_without p v.tables once (omega arith) in omega arith);
      only = λ a. let e = length_without p v.tables once (there a) in omega arith;
    }
