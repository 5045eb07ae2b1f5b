-- The numbers of a request against the refusals of the book machine.
use Rattle.std.proofs.Common.{◌≡◌, ◌⊎◌, ℕ, ◌+◌, ◌-◌, ◌*◌, ◌/◌, ◌%◌, ◌^◌, ◌<◌, ◌≤◌, Bool, true, false, inl, inr, refl, ap, sym, ◌∙◌, arith}
use Rattle.std.specs.Prelude.{IsTrue, ◌&&◌, ◌==◌, not, nat_le, nat_lt, if◌then◌else◌, Some, None, option_map}
use Rattle.std.proofs.lemmas.Bool.{cases_lt, eqb-true, lt-ltb, le-ltb, le-leb, and_from, false_from_ne_true, and_parts, leb-true}
use Rattle.std.proofs.lemmas.Nat.{pow_pos, pow-add, mul-le, shr_split}
use Rattle.pt_num.specs.declared.Span.{Span}
use Rattle.pt_model.specs.declared.block.Prot.{Prot}
use Rattle.pt_model.specs.Layout.{Layout, input_pages, output_pages}
use Rattle.pt_model.specs.Pages.{byte_at, has_page, is_whole, page_under, range_at}
use Rattle.pt_model.specs.Book.{Book, Occupied, OutsideLease, OutputRange, is_inside, lowest_mapped, map_refusal, span_end}
use Rattle.pt_format.specs.Laws.{IsLayout}
use Rattle.pt_format.specs.Ranges.{span_of}
use Rattle.pt_format.proofs.PageFacts.{count_small, under_small}
use Rattle.pt_map.specs.Requests.{IsRefusedByNumbers, IsRequested}
use Rattle.pt_map.specs.declared.refused.MapRefused.TheVariants as refused

-- the range that the bytes of a request are, where they are one
pub found_range : (f : Layout) (va len : ℕ) (range : Span) → Some range ≡ option_map span_of (range_at f va len) →
    (range.first ≡ page_under f va) × (range.count ≡ len / 2 ^ f.granule) × (range_at f va len ≡ Some (range.first, range.count))
found_range f va len range e = by_test _ refl
  where
    by_test : (t : Bool) → t ≡ (has_page f va && (has_page f (va + len - 1) && (nat_le (va + len) (2 ^ 64) && (page_under f va + len / 2 ^ f.granule == page_under f (va + len - 1) + 1)))) →
        (range.first ≡ page_under f va) × (range.count ≡ len / 2 ^ f.granule) × (range_at f va len ≡ Some (range.first, range.count))
    by_test true t =
        let is : range_at f va len ≡ Some (page_under f va, len / 2 ^ f.granule) = ap (λ (b : Bool). if b then Some (page_under f va, len / 2 ^ f.granule) else None) (sym t) in
        let same : Some range ≡ Some (span_of (page_under f va, len / 2 ^ f.granule)) = e ∙ ap (λ o. option_map span_of o) is in
        let first : range.first ≡ page_under f va = cc in
        let count : range.count ≡ len / 2 ^ f.granule = cc in
        (first, count, is ∙ (λ i. Some (sym first i, sym count i)))
    by_test false t =
        let is : range_at f va len ≡ None = ap (λ (b : Bool). if b then Some (page_under f va, len / 2 ^ f.granule) else None) (sym t) in
        let none : Some range ≡ None = e ∙ ap (λ o. option_map span_of o) is in
        absurd (let z : ⊥ = cc in z)

-- a number of whole pages
pub whole_times : (f : Layout) (bytes : ℕ) → is_whole f bytes ≡ true → bytes ≡ bytes / 2 ^ f.granule * 2 ^ f.granule
whole_times f bytes e = let z : bytes % 2 ^ f.granule ≡ 0 = eqb-true (bytes % 2 ^ f.granule) 0 e in let s = shr_split bytes f.granule in omega arith

module _ {f : Layout} (good : IsLayout f) (va pa len : ℕ) (whole_va : is_whole f va ≡ true) (whole_pa : is_whole f pa ≡ true) (whole_len : is_whole f len ≡ true) (some : 0 < len) (range : Span) (found : Some range ≡ option_map span_of (range_at f va len)) where
  -- what is left to test of a request of whole pages
  left_to_test : (book : Book) → map_refusal f book va pa len
      ≡ (if not (is_inside book range.first (range.first + range.count)) then Some OutsideLease else (
      if nat_lt (2 ^ f.output) (pa + len) then Some OutputRange else
      option_map (λ page. Occupied (byte_at f page)) (lowest_mapped book range.first (range.first + range.count))))
  left_to_test book =
      let at : range_at f va len ≡ Some (range.first, range.count) = (found_range f va len range found).2 in
      let long : nat_lt 0 len ≡ true = lt-ltb 0 len some in
      rw (whole_va, whole_pa, whole_len, long, at) refl

  pub small_range : len < 2 ^ 64 → range.first + range.count < 2 ^ 53
  small_range fits =
      let r = found_range f va len range found in
      let first = r.0 in let count = r.1 in
      omega (arith, under_small f va good, count_small f len good fits)

  -- the range begins before the span or ends behind it
  pub outside : (first count : ℕ) → (range.first < first) ⊎ (first + count < range.first + range.count) → IsRefusedByNumbers f first count va pa len refused.OutsideLease
  outside first count out = record {
    of_numbers = tt;
    refusal = λ book spans.
        let at = spans.0 in let long = spans.1 in
        let no : is_inside book range.first (range.first + range.count) ≡ false = false_from_ne_true (is_inside book range.first (range.first + range.count)) (λ e.
        let h : (nat_le book.first range.first ≡ true) × (nat_le (range.first + range.count) (span_end book) ≡ true) = and_parts (nat_le book.first range.first) _ e in
        let low = leb-true book.first range.first h.0 in
        let high = leb-true (range.first + range.count) (span_end book) h.1 in
        elim out [ inl before ↦ omega arith | inr behind ↦ omega arith ]) in
        left_to_test book ∙ rw no refl;
  }

  module _ (first count : ℕ) (from : first ≤ range.first) (to : range.first + range.count ≤ first + count) where
    inside : (book : Book) → (book.first ≡ first) × (book.count ≡ count) → is_inside book range.first (range.first + range.count) ≡ true
    inside book spans =
        let at = spans.0 in let long = spans.1 in
        and_from (nat_le book.first range.first) _ (le-leb book.first range.first (omega arith)) (le-leb (range.first + range.count) (span_end book) (omega arith))

    -- so many bytes end in the format's output exactly where their pages do
    bytes_are : (pa + len ≡ (pa / 2 ^ f.granule + range.count) * 2 ^ f.granule) × (2 ^ f.output ≡ output_pages f * 2 ^ f.granule)
    bytes_are =
        let bits : f.output - f.granule + f.granule ≡ f.output = omega (arith, good.output_low, good.granule_high) in
        let long : range.count ≡ len / 2 ^ f.granule = (found_range f va len range found).1 in
        let b : len ≡ range.count * 2 ^ f.granule = whole_times f len whole_len ∙ ap (λ n. n * 2 ^ f.granule) (sym long) in
        let a = whole_times f pa whole_pa in
        (omega arith, ap (λ k. 2 ^ k) (sym bits) ∙ pow-add 2 (f.output - f.granule) f.granule)

    bytes_within : pa / 2 ^ f.granule + range.count ≤ output_pages f → pa + len ≤ 2 ^ f.output
    bytes_within within =
        let more = mul-le (pa / 2 ^ f.granule + range.count) (2 ^ f.granule) (output_pages f) (2 ^ f.granule) within (omega arith) in
        omega (arith, bytes_are.0, bytes_are.1, more)

    bytes_past : output_pages f < pa / 2 ^ f.granule + range.count → 2 ^ f.output < pa + len
    bytes_past past =
        let more = mul-le (output_pages f + 1) (2 ^ f.granule) (pa / 2 ^ f.granule + range.count) (2 ^ f.granule) (omega arith) (omega arith) in
        omega (arith, pow_pos f.granule, bytes_are.0, bytes_are.1, more)

    pub past_output : output_pages f < pa / 2 ^ f.granule + range.count → IsRefusedByNumbers f first count va pa len refused.OutputRange
    past_output past = record {
      of_numbers = tt;
      refusal = λ book spans.
          let yes = inside book spans in
          let over : nat_lt (2 ^ f.output) (pa + len) ≡ true = lt-ltb (2 ^ f.output) (pa + len) (bytes_past past) in
          left_to_test book ∙ rw (yes, over) refl;
    }

    pub requested : (prot : Prot) (out : ℕ) → out ≡ pa / 2 ^ f.granule → IsTrue (f.states prot) → first + count ≤ input_pages f → out + range.count ≤ output_pages f →
        IsRequested f first count va pa len prot (record { first = range.first; end = range.first + range.count; out = out; prot = prot })
    requested prot out is stated in_space within =
        let r = found_range f va len range found in
        let b = whole_times f len whole_len in
        let long : range.count ≡ len / 2 ^ f.granule = r.1 in
        let any : 0 < range.count = elim (cases_lt 0 range.count) [ inl more ↦ more | inr none ↦ absurd (let z : len / 2 ^ f.granule ≡ 0 = omega arith in let y : len / 2 ^ f.granule * 2 ^ f.granule ≡ 0 = ap (λ n. n * 2 ^ f.granule) z ∙ omega arith in omega arith) ] in
        record {
          inside = record {
            extent = record { some = omega arith; in_input = omega arith; in_output = omega arith; stated = stated };
            from = from;
            to = to;
          };
          is = λ i. record { first = r.0 i; end = r.0 i + long i; out = is i; prot = prot };
          refusal = λ book spans.
              let yes = inside book spans in
              let under : nat_lt (2 ^ f.output) (pa + len) ≡ false = le-ltb (2 ^ f.output) (pa + len) (bytes_within (omega arith)) in
              left_to_test book ∙ rw (yes, under) refl;
        }
