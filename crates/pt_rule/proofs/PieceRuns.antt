-- Pieces at a run of entries: those put in one by one, those that stand at none of the entries, and those that stand at one.
use Rattle.std.proofs.Common.{◌≡◌, ◌≢◌, ℕ, zero, suc, Bool, true, false, ◌+◌, ◌<◌, ◌≤◌, List, [], ◌∷◌, ◌++◌, length, inl, inr, refl, ap, sym, ◌∙◌, arith, eq-eqb, ⊎_elim}
use Rattle.std.specs.Prelude.{IsTrue, ◌==◌, ◌&&◌, filter, if◌then◌else◌, nat_le, nat_lt}
use Rattle.std.proofs.lemmas.Bool.{and_from, and_parts, cases_Bool, eqb-true, leb-true, lt-ltb, ne_eqb}
use Rattle.std.proofs.lemmas.List.FromFn.{map-range_with_len_more}
use Rattle.std.proofs.lemmas.List.Sums.{fold-append}
use Rattle.std.proofs.Math.Bool.{and-false}
use Rattle.pt_model.specs.declared.position.Position.{Position}
use Rattle.pt_model.specs.Layout.{Layout}
use Rattle.pt_model.specs.Sets.{one_if}
use Rattle.pt_model.specs.Tables.{is_same}
use Rattle.pt_model.proofs.Positions.{filter_in, filter_out}
use Rattle.pt_model.proofs.Quotients.{entry_some}
use Rattle.pt_view.specs.declared.view.View.{View}
use Rattle.pt_view.specs.declared.view.Piece.{Piece}
use Rattle.pt_view.specs.Pieces.{IsOneOf, add_piece, add_pieces, number_of, pieces_by, table_of}
use Rattle.pt_view.specs.Views.{SameRange}
use Rattle.pt_view.specs.Calls.{drop_at, entry_end, entry_first, is_in_span, meets_span, pieces_at, span_end}
use Rattle.pt_view.specs.Runs.{drop_run, keep_at, stands_outside}
use Rattle.pt_view.proofs.Pieces.{counted, one_here}
use Rattle.pt_rule.proofs.PieceFacts.{pieces_with}

pub filter_twice : {X : Type 0} (s t : X → Bool) (xs : List X) → filter t (filter s xs) ≡ filter (λ x. s x && t x) xs
filter_twice s t [] = refl
filter_twice s t (x ∷ xs) = ⊎_elim
    (λ (yes : s x ≡ true). ap (filter t) (filter_in s x xs yes) ∙ ap (λ (ys : List _). if t x then x ∷ ys else ys) (filter_twice s t xs)
    ∙ (λ i. if sym yes i && t x then x ∷ filter (λ y. s y && t y) xs else filter (λ y. s y && t y) xs))
    (λ (no : s x ≡ false). ap (filter t) (filter_out s x xs no) ∙ filter_twice s t xs
    ∙ (λ i. if sym no i && t x then x ∷ filter (λ y. s y && t y) xs else filter (λ y. s y && t y) xs))
    (cases_Bool (s x))

-- an entry inside the span of a view meets that of a view with the same one
pub inside_meets : (f : Layout) (v w : View) (p : Position) (number : ℕ) → SameRange v w → IsTrue (is_in_span v (entry_first f p number) (entry_end f p number)) →
    IsTrue (meets_span w (entry_first f p number) (entry_end f p number))
inside_meets f v w p number same inside =
    let b : (nat_le v.first (entry_first f p number) ≡ true) × (nat_le (entry_end f p number) (span_end v) ≡ true) =
    and_parts (nat_le v.first (entry_first f p number)) _ inside in
    let low = leb-true v.first (entry_first f p number) b.0 in
    let up = leb-true (entry_end f p number) (span_end v) b.1 in
    let some_page = entry_some f p.level in
    let first = same.first in
    let count = same.count in
    and_from (nat_lt (entry_first f p number) (span_end w)) _ (lt-ltb (entry_first f p number) (span_end w) (omega arith))
    (lt-ltb w.first (entry_end f p number) (omega arith))

-- no piece at another number stands at this one
pub elsewhere : (f : Layout) (p q : Position) (i j : ℕ) (x : Piece) → i ≢ j → pieces_at f p i (x ∷ []) ≡ 1 → pieces_at f q j (x ∷ []) ≡ 0
elsewhere f p q i j x differ here =
    let at : number_of f x ≡ i = (one_here f p i x here).1 in
    let other : (number_of f x == j) ≡ false = ne_eqb (number_of f x) j (λ e. differ (sym at ∙ e)) in
    not_here other
  where
    not_here : (number_of f x == j) ≡ false → pieces_at f q j (x ∷ []) ≡ 0
    not_here other = rw (other, and-false) refl

-- one piece more of those by numbers
pub pieces_more : (piece : ℕ → Piece) (count : ℕ) → pieces_by piece (suc count) ≡ pieces_by piece count ++ piece count ∷ []
pieces_more piece count =
    ap (λ (k : ℕ). pieces_by piece k) (let e : suc count ≡ count + 1 = omega arith in e)
    ∙ map-range_with_len_more piece 0 count count (let z : 0 + count ≡ count = omega arith in z)

pub added_more : (f : Layout) (old : List Piece) (piece : ℕ → Piece) (count : ℕ) →
    add_pieces f old (pieces_by piece (suc count)) ≡ add_piece f (add_pieces f old (pieces_by piece count)) (piece count)
added_more f old piece count = ap (add_pieces f old) (pieces_more piece count) ∙ fold-append (add_piece f) old (pieces_by piece count) (piece count ∷ [])

-- pieces put in that stand elsewhere leave those at an entry as many
pub none_added : (f : Layout) (p : Position) (number : ℕ) (old : List Piece) (piece : ℕ → Piece) (count : ℕ) →
    ((i : ℕ) → i < count → pieces_at f p number (piece i ∷ []) ≡ 0) → pieces_at f p number (add_pieces f old (pieces_by piece count)) ≡ pieces_at f p number old
none_added f p number old piece zero none = refl
none_added f p number old piece (suc count) none =
    let rest = none_added f p number old piece count (λ i lt. none i (omega arith)) in
    let last = none count (omega arith) in
    ap (pieces_at f p number) (added_more f old piece count)
    ∙ pieces_with f p number (add_pieces f old (pieces_by piece count)) (piece count) ∙ omega arith

-- a run of no entries drops none, and with one entry more also those at that one
pub drop_no_run : (f : Layout) (p : Position) (first : ℕ) (xs : List Piece) → drop_run f p first 0 xs ≡ xs
drop_no_run f p first [] = refl
drop_no_run f p first (x ∷ xs) = ap (λ (ys : List Piece). x ∷ ys) (drop_no_run f p first xs)

pub drop_run_more : (f : Layout) (p : Position) (first count : ℕ) (xs : List Piece) →
    drop_run f p first (suc count) xs ≡ drop_at f p (first + count) (drop_run f p first count xs)
drop_run_more f p first count xs = sym (filter_twice (stands_outside f p first count) (λ x. pieces_at f p (first + count) (x ∷ []) == 0) xs)

-- a piece at an entry past those of a run stands at none of them
stands_past : (f : Layout) (p : Position) (first count number : ℕ) (x : Piece) → first + count ≤ number → pieces_at f p number (x ∷ []) ≡ 1 →
    stands_outside f p first count x ≡ true
stands_past f p first zero number x past here = refl
stands_past f p first (suc count) number x past here =
    and_from (stands_outside f p first count x) _ (stands_past f p first count number x (omega arith) here)
    (eq-eqb (pieces_at f p (first + count) (x ∷ [])) 0 (elsewhere f p p number (first + count) x (λ e. omega arith) here))

-- those past a run are kept where the run's are dropped
pub keep_past : (f : Layout) (p : Position) (first count number : ℕ) → first + count ≤ number → (xs : List Piece) →
    keep_at f p number (drop_run f p first count xs) ≡ keep_at f p number xs
keep_past f p first count number past [] = refl
keep_past f p first count number past (x ∷ xs) =
    let rest = keep_past f p first count number past xs in
    ⊎_elim
    (λ (here : (pieces_at f p number (x ∷ []) == 1) ≡ true).
    let outside : stands_outside f p first count x ≡ true = stands_past f p first count number x past (eqb-true (pieces_at f p number (x ∷ [])) 1 here) in
    ap (keep_at f p number) (filter_in (stands_outside f p first count) x xs outside)
    ∙ filter_in (λ y. pieces_at f p number (y ∷ []) == 1) x (drop_run f p first count xs) here
    ∙ ap (λ (ys : List Piece). x ∷ ys) rest
    ∙ sym (filter_in (λ y. pieces_at f p number (y ∷ []) == 1) x xs here))
    (λ (off : (pieces_at f p number (x ∷ []) == 1) ≡ false).
    ⊎_elim
    (λ (outside : stands_outside f p first count x ≡ true).
    ap (keep_at f p number) (filter_in (stands_outside f p first count) x xs outside)
    ∙ filter_out (λ y. pieces_at f p number (y ∷ []) == 1) x (drop_run f p first count xs) off)
    (λ (inside : stands_outside f p first count x ≡ false). ap (keep_at f p number) (filter_out (stands_outside f p first count) x xs inside))
    (cases_Bool (stands_outside f p first count x))
    ∙ rest ∙ sym (filter_out (λ y. pieces_at f p number (y ∷ []) == 1) x xs off))
    (cases_Bool (pieces_at f p number (x ∷ []) == 1))

module _ (f : Layout) (p : Position) (number : ℕ) where
  -- where no piece stands at an entry, none goes
  pub drop_none : (xs : List Piece) → pieces_at f p number xs ≡ 0 → drop_at f p number xs ≡ xs
  drop_none [] none = refl
  drop_none (x ∷ xs) none =
      let here : pieces_at f p number (x ∷ []) ≡ 0 = omega arith in
      let kept : (pieces_at f p number (x ∷ []) == 0) ≡ true = eq-eqb (pieces_at f p number (x ∷ [])) 0 here in
      (λ i. if kept i then x ∷ drop_at f p number xs else drop_at f p number xs) ∙ ap (λ (ys : List Piece). x ∷ ys) (drop_none xs (omega arith))

  -- those that stand at it are so many
  pub keep_length : (xs : List Piece) → length (keep_at f p number xs) ≡ pieces_at f p number xs
  keep_length [] = refl
  keep_length (x ∷ xs) =
      let rest = keep_length xs in
      ⊎_elim
      (λ (yes : (is_same p (table_of f x) && (number_of f x == number)) ≡ true).
      let one : one_if (is_same p (table_of f x) && (number_of f x == number)) ≡ 1 = ap one_if yes in
      (λ i. length (if one_if (yes i) + 0 == 1 then x ∷ keep_at f p number xs else keep_at f p number xs)) ∙ omega arith)
      (λ (no : (is_same p (table_of f x) && (number_of f x == number)) ≡ false).
      let none : one_if (is_same p (table_of f x) && (number_of f x == number)) ≡ 0 = ap one_if no in
      (λ i. length (if one_if (no i) + 0 == 1 then x ∷ keep_at f p number xs else keep_at f p number xs)) ∙ omega arith)
      (cases_Bool (is_same p (table_of f x) && (number_of f x == number)))

  pub keep_none : (xs : List Piece) → pieces_at f p number xs ≡ 0 → keep_at f p number xs ≡ []
  keep_none xs none = empty (keep_at f p number xs) (keep_length xs ∙ none)
    where
      empty : (ys : List Piece) → length ys ≡ 0 → ys ≡ []
      empty [] none = refl
      empty (y ∷ ys) none = absurd (omega arith)

  -- where one stands at it, that one is kept
  pub keep_one : (xs : List Piece) (x : Piece) → IsOneOf xs x → pieces_at f p number (x ∷ []) ≡ 1 → pieces_at f p number xs ≡ 1 → keep_at f p number xs ≡ x ∷ []
  keep_one [] x member here once = absurd member
  keep_one (y ∷ xs) x (inl same) here once =
      let one : pieces_at f p number (y ∷ []) ≡ 1 = ap (λ (z : Piece). pieces_at f p number (z ∷ [])) same ∙ here in
      filter_in (λ z. pieces_at f p number (z ∷ []) == 1) y xs (eq-eqb (pieces_at f p number (y ∷ [])) 1 one)
      ∙ (λ i. same i ∷ keep_none xs (let none : pieces_at f p number xs ≡ 0 = omega arith in none) i)
  keep_one (y ∷ xs) x (inr more) here once =
      let some = counted f p number xs x more here in
      let off : (pieces_at f p number (y ∷ []) == 1) ≡ false = ne_eqb (pieces_at f p number (y ∷ [])) 1 (λ e. omega arith) in
      filter_out (λ z. pieces_at f p number (z ∷ []) == 1) y xs off ∙ keep_one xs x more here (omega arith)
