-- Which maps their numbers alone refuse: those that an empty book of the whole space does.
use Rattle.std.proofs.Common.{◌≡◌, ℕ, ◌+◌, ◌-◌, ◌*◌, ◌/◌, ◌%◌, ◌^◌, ◌<◌, ◌≤◌, true, false, Option, Some, None, inl, inr, refl, ap, sym, ◌∙◌, arith, List, [], length}
use Rattle.std.specs.Prelude.{IsSome, not, nat_le, nat_lt, if◌then◌else◌, option_map}
use Rattle.std.proofs.lemmas.Bool.{cases_lt, false≢true, eqb-true, lt-ltb, le-ltb, le-leb, and_from}
use Rattle.std.proofs.lemmas.Nat.{pow_pos, pow-add, mul-le, shr_split}
use Rattle.pt_num.specs.declared.Span.{Span}
use Rattle.pt_model.specs.declared.block.Prot.{Prot}
use Rattle.pt_model.specs.declared.position.Position.{Position}
use Rattle.pt_model.specs.declared.command.What.TheVariants.{Map}
use Rattle.pt_model.specs.Layout.{Layout, input_pages, output_pages}
use Rattle.pt_model.specs.Tables.{all_needed}
use Rattle.pt_model.specs.Tiling.{tiling}
use Rattle.pt_model.specs.Run.{Machine}
use Rattle.pt_model.specs.Pages.{byte_at, is_whole, page_under, range_at}
use Rattle.pt_model.specs.Book.{MapRefusal, Occupied, OutsideLease, OutputRange, is_inside, lowest_mapped, map_refusal, new_book}
use Rattle.pt_format.specs.Laws.{IsLayout}
use Rattle.pt_format.specs.Ranges.{span_of}
use Rattle.pt_laws.specs.Need.{need_of_one, needed_by}
use Rattle.pt_laws.proofs.NeedRuns.{if_some, range_space}
use Rattle.pt_made.specs.Needing.{IsAdmitted}

whole_times : (f : Layout) (bytes : ℕ) → is_whole f bytes ≡ true → bytes ≡ bytes / 2 ^ f.granule * 2 ^ f.granule
whole_times f bytes e = let z : bytes % 2 ^ f.granule ≡ 0 = eqb-true (bytes % 2 ^ f.granule) 0 e in let s = shr_split bytes f.granule in omega arith

module _ {f : Layout} (good : IsLayout f) (va pa len : ℕ) (whole_va : is_whole f va ≡ true) (whole_pa : is_whole f pa ≡ true) (whole_len : is_whole f len ≡ true) (some : 0 < len) where
  -- what is left to test
  abbrev by_range : ℕ → Option (ℕ × ℕ) → Option MapRefusal
  by_range levels o = elim o as (λ _. Option MapRefusal) [
    | None ↦ Some OutsideLease
    | Some range ↦
        if not (is_inside (new_book f levels) range.0 (range.0 + range.1)) then Some OutsideLease else (
        if nat_lt (2 ^ f.output) (pa + len) then Some OutputRange else
        option_map (λ page. Occupied (byte_at f page)) (lowest_mapped (new_book f levels) range.0 (range.0 + range.1)))
  ]

  left_to_test : (levels : ℕ) → map_refusal f (new_book f levels) va pa len ≡ by_range levels (range_at f va len)
  left_to_test levels = let long : nat_lt 0 len ≡ true = lt-ltb 0 len some in rw (whole_va, whole_pa, whole_len, long) refl

  module _ (span : Span) (found : Some span ≡ option_map span_of (range_at f va len)) where
    abbrev IsFound : Type 0
    IsFound = (range_at f va len ≡ Some (span.first, span.count)) × (span.first ≡ page_under f va) × (span.count ≡ len / 2 ^ f.granule)

    is_found : IsFound
    is_found = by_option (range_at f va len) refl
      where
        by_option : (o : Option (ℕ × ℕ)) → range_at f va len ≡ o → IsFound
        by_option None is = absurd (let z : Some span ≡ None = found ∙ ap (λ (o : Option (ℕ × ℕ)). option_map span_of o) is in let y : ⊥ = cc in y)
        by_option (Some r) is =
            let same : Some span ≡ Some (span_of r) = found ∙ ap (λ (o : Option (ℕ × ℕ)). option_map span_of o) is in
            let first : span.first ≡ r.0 = cc in
            let count : span.count ≡ r.1 = cc in
            let parts = if_some _ (page_under f va) (len / 2 ^ f.granule) r is in
            (is ∙ (λ i. Some (sym first i, sym count i)), first ∙ sym parts.1, count ∙ sym parts.2)

    in_space : span.first + span.count ≤ input_pages f
    in_space = range_space f va len (span.first, span.count) is_found.0

    inside : (levels : ℕ) → is_inside (new_book f levels) span.first (span.first + span.count) ≡ true
    inside levels =
        let within = in_space in
        and_from (nat_le 0 span.first) _ (le-leb 0 span.first (omega arith)) (le-leb (span.first + span.count) (0 + input_pages f) (omega arith))

    -- the pages of bytes that end in the format's output end there too
    outputs_within : pa + len ≤ 2 ^ f.output → pa / 2 ^ f.granule + span.count ≤ output_pages f
    outputs_within within =
        let count = is_found.2 in
        let bits : f.output - f.granule + f.granule ≡ f.output = omega (arith, good.output_low, good.granule_high) in
        let all : 2 ^ f.output ≡ output_pages f * 2 ^ f.granule = ap (λ k. 2 ^ k) (sym bits) ∙ pow-add 2 (f.output - f.granule) f.granule in
        let b : len ≡ span.count * 2 ^ f.granule = whole_times f len whole_len ∙ ap (λ n. n * 2 ^ f.granule) (sym count) in
        let a = whole_times f pa whole_pa in
        elim (cases_lt (output_pages f) (pa / 2 ^ f.granule + span.count)) [
          | inl past ↦
              let more = mul-le (output_pages f + 1) (2 ^ f.granule) (pa / 2 ^ f.granule + span.count) (2 ^ f.granule) (omega arith) (omega arith) in
              absurd (omega (arith, pow_pos f.granule, more))
          | inr in_output ↦ in_output
        ]

    pub is_admitted : pa + len ≤ 2 ^ f.output → IsAdmitted f va pa len span.first span.count
    is_admitted within = record {
      admitted = λ levels.
          let at = is_found.0 in
          let yes = inside levels in
          let under : nat_lt (2 ^ f.output) (pa + len) ≡ false = le-ltb (2 ^ f.output) (pa + len) within in
          left_to_test levels ∙ rw (at, yes, under) refl;
      first_is = is_found.1;
      count_is = is_found.2;
      some =
          let count = is_found.2 in
          let b = whole_times f len whole_len in
          elim (cases_lt 0 span.count) [
            | inl more ↦ more
            | inr none ↦ absurd (let z : len / 2 ^ f.granule ≡ 0 = omega arith in let y : len / 2 ^ f.granule * 2 ^ f.granule ≡ 0 = ap (λ n. n * 2 ^ f.granule) z ∙ omega arith in omega arith)
          ];
      in_input = in_space;
      in_output = outputs_within within;
    }

-- a map that is refused so needs nothing
pub refused_need : (m : Machine) (va pa len : ℕ) (prot : Prot) → IsSome (map_refusal m.layout (new_book m.layout m.levels) va pa len) → need_of_one m (Map va pa len prot) ≡ 0
refused_need m va pa len prot some = by_option (map_refusal m.layout (new_book m.layout m.levels) va pa len) refl some
  where
    by_option : (o : Option MapRefusal) → map_refusal m.layout (new_book m.layout m.levels) va pa len ≡ o → IsSome o → need_of_one m (Map va pa len prot) ≡ 0
    by_option None is h = absurd (false≢true h)
    by_option (Some r) is h =
        let none : needed_by m (Map va pa len prot) ≡ [] =
        ap (λ (o : Option MapRefusal). elim o as (λ _. List Position) [ Some refusal ↦ [] | None ↦ all_needed m.layout m.levels (tiling m.layout prot (page_under m.layout va) (pa / 2 ^ m.layout.granule) (len / 2 ^ m.layout.granule)) ]) is in
        omega (arith, ap (λ (ps : List Position). length ps) none)
