-- A view whose span is the whole space is the only live one.
use Rattle.std.proofs.Common.{◌≡◌, ◌≢◌, ℕ, ◌+◌, ◌-◌, ◌<◌, ◌≤◌, List, arith}
use Rattle.std.specs.Prelude.{◌&&◌, nat_lt, nat_le}
use Rattle.std.proofs.lemmas.Bool.{and_from, and_parts, false_from_ne_true, lt-ltb, le-leb, ltb-true, leb-true}
use Rattle.std.proofs.lemmas.Nat.{pow_pos}
use mathlib.Core.Option.{some}
use mathlib.Core.Logic.{dite}
use native.Mathlib.Decide.{dec_le}
use lib.ListN.{get_elem?}
use Rattle.pt_model.specs.Layout.{Layout, input_pages}
use Rattle.pt_view.specs.declared.view.View.{View}
use Rattle.pt_rule.specs.Totals.{covers}
use Rattle.pt_rule.specs.Lawful.{SpansPart}
use Rattle.pt_rule.proofs.TotalsKept.{total_at, total_two}
use Rattle.pt_model.proofs.Positions.{bit_false, bit_le, bit_true, true_bit}

pub covers_in : (page : ℕ) (v : View) → v.first ≤ page → page < v.first + v.count → covers page v ≡ 1
covers_in page v low high = bit_true (nat_le v.first page && nat_lt page (v.first + v.count)) (and_from (nat_le v.first page) _ (le-leb v.first page low) (lt-ltb page (v.first + v.count) high))

-- an empty span has no page
pub covers_none : (page : ℕ) (v : View) → v.count ≡ 0 → covers page v ≡ 0
covers_none page v none = bit_false (nat_le v.first page && nat_lt page (v.first + v.count))
    (false_from_ne_true (nat_le v.first page && nat_lt page (v.first + v.count))
    (λ e. let both = and_parts (nat_le v.first page) _ e in let low : v.first ≤ page = leb-true v.first page both.0 in let high : page < v.first + v.count = ltb-true page (v.first + v.count) both.1 in omega arith))

pub some_page : (f : Layout) → 0 < input_pages f
some_page f = pow_pos (f.input - f.granule)

module _ (f : Layout) (views : List View) (part : SpansPart f views) where
  -- each page of a span is one of the space
  pub page_within : (j : ℕ) (u : View) (page : ℕ) → get_elem? views j ≡ some u → u.first ≤ page → page < u.first + u.count → page < input_pages f
  page_within j u page at low high =
      let one = covers_in page u low high in
      let most = total_at (covers page) views j u at in
      let all = part page in
      ltb-true page (input_pages f) (true_bit (nat_lt page (input_pages f)) (omega arith))

  -- no page is in the spans of two views
  pub spans_apart : (i j : ℕ) (v w : View) (page : ℕ) → i ≢ j → get_elem? views i ≡ some v → get_elem? views j ≡ some w → v.first ≤ page → page < v.first + v.count →
      w.first ≤ page → page < w.first + w.count → ⊥
  spans_apart i j v w page ne at there a b c d =
      let one = covers_in page v a b in
      let two = covers_in page w c d in
      let both = total_two (covers page) views i j v w ne at there in
      let all = part page in
      let most = bit_le (nat_lt page (input_pages f)) in
      omega arith

  pub whole_first : (id : ℕ) (v : View) → get_elem? views id ≡ some v → v.count ≡ input_pages f → v.first ≡ 0
  whole_first id v at whole =
      let some_page = some_page f in
      let inside = page_within id v (v.first + v.count - 1) at (omega arith) (omega arith) in
      omega arith

  pub whole_only : (id j : ℕ) (v u : View) → j ≢ id → get_elem? views id ≡ some v → v.count ≡ input_pages f → get_elem? views j ≡ some u → u.count ≡ 0
  whole_only id j v u ne at whole there =
      let first = whole_first id v at whole in
      dite (dec_le u.count 0) (λ none. omega arith) (λ live. absurd
      (let inside = page_within j u u.first there (omega arith) (omega arith) in
      spans_apart j id u v u.first ne there at (omega arith) (omega arith) (omega arith) (omega arith)))
