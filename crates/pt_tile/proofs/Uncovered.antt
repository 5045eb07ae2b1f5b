-- The tables of one size that begin in a range and that no block takes up, from block to block.
use Rattle.std.proofs.Common.{◌≡◌, ℕ, ◌+◌, ◌-◌, ◌*◌, ◌/◌, ◌%◌, ◌^◌, ◌<◌, ◌≤◌, refl, ap, sym, ◌∙◌, arith, inl, inr, true, false}
use Rattle.std.specs.Prelude.{Option, Some, None, option_and_then, nat_lt}
use Rattle.std.proofs.lemmas.Nat.{pow_pos, shr_split}
use Rattle.std.proofs.lemmas.Bool.{cases_eq, cases_lt, lt-ltb, le-ltb}
use Rattle.pt_model.specs.Layout.{Layout, IsLegal, input_pages, output_pages}
use Rattle.pt_model.specs.Tiling.{IsGreatestSize}
use Rattle.pt_tile.specs.declared.tables.Part.{Part}
use Rattle.pt_tile.specs.Counting.{begun, whole_part, meeting, meeting_around, tables_over}
use Rattle.pt_tile.specs.Sizes.{IsLarger}
use Rattle.pt_tile.proofs.Begun.{begun_at, begun_in, begun_part, begun_times, begun_over, begun_mono, part_in, coarse_is_fine, aligned_sum, alike_more, alike_less, runs_below, runs_at_most, times_aligned}

abbrev pub left_around : (t s end : ℕ) → Option Part → ℕ
left_around t s end None = begun t end - begun t s
left_around t s end (Some part) = (begun t part.first - begun t s) + (begun t end - begun t part.end)

-- the tables of 2 ^ t pages that begin in a range and that no block takes up
abbrev pub uncovered : (t s end : ℕ) → Option ℕ → ℕ
uncovered t s end larger = left_around t s end (option_and_then (λ size. whole_part size s end) larger)

abbrev pub part_of : ℕ → ℕ → Part
part_of from to = record { first = from; end = to }

pub whole_none : (j s end : ℕ) → end / 2 ^ j * 2 ^ j ≤ begun j s * 2 ^ j → whole_part j s end ≡ None
whole_none j s end h = let t : nat_lt (begun j s * 2 ^ j) (end / 2 ^ j * 2 ^ j) ≡ false = le-ltb (begun j s * 2 ^ j) (end / 2 ^ j * 2 ^ j) h in rw t refl

pub whole_some : (j s end : ℕ) → begun j s * 2 ^ j < end / 2 ^ j * 2 ^ j →
    whole_part j s end ≡ Some (part_of (begun j s * 2 ^ j) (end / 2 ^ j * 2 ^ j))
whole_some j s end h = let t : nat_lt (begun j s * 2 ^ j) (end / 2 ^ j * 2 ^ j) ≡ true = lt-ltb (begun j s * 2 ^ j) (end / 2 ^ j * 2 ^ j) h in rw t refl

combined : (t s s' end d : ℕ) (a b a' b' : Option Part) → a ≡ a' → b ≡ b' →
    left_around t s end a' ≡ left_around t s' end b' + d → left_around t s end a ≡ left_around t s' end b + d
combined t s s' end d a b a' b' e h m = ap (left_around t s end) e ∙ m ∙ ap (λ (o : Option Part). left_around t s' end o + d) (sym h)

-- a block below a table's size
pub step_below : (g : Layout) (t s out end left k d : ℕ) (larger : Option ℕ) →
    s + left ≡ end → end ≤ input_pages g → out + left ≤ output_pages g →
    IsGreatestSize g s out left k → IsLarger g t s out larger → k < t →
    begun t (s + 2 ^ k) ≡ begun t s + d →
    uncovered t s end larger ≡ uncovered t (s + 2 ^ k) end larger + d
step_below g t s out end left k d None ends hi ho top l below e =
    let within : s + 2 ^ k ≤ end = omega (arith, top.fits) in
    omega (arith, e, begun_mono t (s + 2 ^ k) end within)
step_below g t s out end left k d (Some j) ends hi ho top l below e =
    let within : s + 2 ^ k ≤ end = omega (arith, top.fits) in
    elim (cases_eq (s % 2 ^ j) 0) [
      | inl aligned ↦
          let short : end < s + 2 ^ j = elim (cases_lt end (s + 2 ^ j)) [
            | inl lt ↦ lt
            | inr fits ↦
                let legal : IsLegal g s j out = record {
                  a_size = l.0;
                  first_aligned = aligned;
                  out_aligned = sym l.2 ∙ aligned;
                  in_input = omega arith;
                  in_output = omega arith;
                } in
                absurd (omega (arith, top.greatest j legal (omega arith), l.1))
          ] in
          let from : begun j s * 2 ^ j ≡ s = begun_times j s aligned in
          let to : end / 2 ^ j * 2 ^ j ≤ s = runs_at_most j s end aligned short in
          combined t s (s + 2 ^ k) end d (whole_part j s end) (whole_part j (s + 2 ^ k) end) None None
          (whole_none j s end (omega arith)) (whole_none j (s + 2 ^ k) end (omega (arith, begun_over j (s + 2 ^ k))))
          (omega (arith, e, begun_mono t (s + 2 ^ k) end within))
      | inr inside ↦
          let lies : s % 2 ^ j + 2 ^ k ≤ 2 ^ j = part_in j k s (omega (arith, l.1)) top.legal.first_aligned in
          let same : begun j (s + 2 ^ k) ≡ begun j s =
          begun_in j s (2 ^ k) (omega (arith, pow_pos k)) lies ∙ sym (begun_part j s inside) in
          elim (cases_lt (begun j s * 2 ^ j) (end / 2 ^ j * 2 ^ j)) [
            | inl some ↦
                let from : begun j (s + 2 ^ k) * 2 ^ j ≡ begun j s * 2 ^ j = ap (λ (b : ℕ). b * 2 ^ j) same in
                let reach : s + 2 ^ k ≤ begun j s * 2 ^ j = omega (arith, begun_over j (s + 2 ^ k)) in
                combined t s (s + 2 ^ k) end d (whole_part j s end) (whole_part j (s + 2 ^ k) end)
                (Some (part_of (begun j s * 2 ^ j) (end / 2 ^ j * 2 ^ j))) (Some (part_of (begun j s * 2 ^ j) (end / 2 ^ j * 2 ^ j)))
                (whole_some j s end some)
                (whole_some j (s + 2 ^ k) end (omega arith) ∙ ap (λ (b : ℕ). Some (part_of b (end / 2 ^ j * 2 ^ j))) from)
                (omega (arith, e, begun_mono t (s + 2 ^ k) (begun j s * 2 ^ j) reach))
            | inr none ↦
                let from : begun j (s + 2 ^ k) * 2 ^ j ≡ begun j s * 2 ^ j = ap (λ (b : ℕ). b * 2 ^ j) same in
                combined t s (s + 2 ^ k) end d (whole_part j s end) (whole_part j (s + 2 ^ k) end) None None
                (whole_none j s end none) (whole_none j (s + 2 ^ k) end (omega arith))
                (omega (arith, e, begun_mono t (s + 2 ^ k) end within))
          ]
    ]

-- a block of a table's size or more
pub step_above : (g : Layout) (t s out end left k : ℕ) (larger : Option ℕ) → s + left ≡ end →
    IsGreatestSize g s out left k → IsLarger g t s out larger → t ≤ k →
    uncovered t s end larger ≡ uncovered t (s + 2 ^ k) end larger
step_above g t s out end left k None ends top l above =
    absurd (omega (arith, l k top.legal.a_size (top.legal.first_aligned ∙ sym top.legal.out_aligned)))
step_above g t s out end left k (Some j) ends top l above =
    let within : s + 2 ^ k ≤ end = omega (arith, top.fits) in
    let low : j ≤ k = l.3 k top.legal.a_size above in
    let aligned : s % 2 ^ j ≡ 0 = coarse_is_fine j k s low top.legal.first_aligned in
    let next : (s + 2 ^ k) % 2 ^ j ≡ 0 = aligned_sum j k s low aligned in
    let from : begun j s * 2 ^ j ≡ s = begun_times j s aligned in
    let from' : begun j (s + 2 ^ k) * 2 ^ j ≡ s + 2 ^ k = begun_times j (s + 2 ^ k) next in
    let reach : s + 2 ^ k ≤ end / 2 ^ j * 2 ^ j = runs_below j (s + 2 ^ k) end next within in
    let first : whole_part j s end ≡ Some (part_of s (end / 2 ^ j * 2 ^ j)) =
    whole_some j s end (omega (arith, pow_pos k)) ∙ ap (λ (b : ℕ). Some (part_of b (end / 2 ^ j * 2 ^ j))) from in
    elim (cases_eq (s + 2 ^ k) (end / 2 ^ j * 2 ^ j)) [
      | inl last ↦
          let same : begun t (s + 2 ^ k) ≡ begun t (end / 2 ^ j * 2 ^ j) = ap (begun t) last in
          let none : whole_part j (s + 2 ^ k) end ≡ None = whole_none j (s + 2 ^ k) end (omega arith) in
          let sums : left_around t s end (Some (part_of s (end / 2 ^ j * 2 ^ j))) ≡ left_around t (s + 2 ^ k) end None + 0 = omega arith in
          combined t s (s + 2 ^ k) end 0 (whole_part j s end) (whole_part j (s + 2 ^ k) end) _ _ first none sums ∙ omega arith
      | inr more ↦
          let some : whole_part j (s + 2 ^ k) end ≡ Some (part_of (s + 2 ^ k) (end / 2 ^ j * 2 ^ j)) =
          whole_some j (s + 2 ^ k) end (omega arith) ∙ ap (λ (b : ℕ). Some (part_of b (end / 2 ^ j * 2 ^ j))) from' in
          let sums : left_around t s end (Some (part_of s (end / 2 ^ j * 2 ^ j))) ≡ left_around t (s + 2 ^ k) end (Some (part_of (s + 2 ^ k) (end / 2 ^ j * 2 ^ j))) + 0 = omega arith in
          combined t s (s + 2 ^ k) end 0 (whole_part j s end) (whole_part j (s + 2 ^ k) end) _ _ first some sums ∙ omega arith
    ]

-- nothing begins in an empty range
pub uncovered_end : (t end : ℕ) (larger : Option ℕ) → uncovered t end end larger ≡ 0
uncovered_end t end None = omega arith
uncovered_end t end (Some j) =
    ap (left_around t end end) (whole_none j end end (omega (arith, begun_over j end, shr_split end j))) ∙ omega arith

-- the least larger size stays what it is
pub larger_moves : (g : Layout) (t s out x : ℕ) (larger : Option ℕ) → IsLarger g t s out larger → IsLarger g t (s + x) (out + x) larger
larger_moves g t s out x None l = λ k size alike. l k size (alike_less k s out x alike)
larger_moves g t s out x (Some j) l = (l.0, l.1, alike_more j s out x l.2, l.3)

-- all tables that meet a range are those that begin in it, and the one that began before
meets : (t first end d : ℕ) → begun t first ≤ begun t end → begun t first ≡ first / 2 ^ t + d →
    meeting t first end ≡ (begun t end - begun t first) + d
meets t first end d h e = omega arith

pub over_is : (g : Layout) (t first out end d : ℕ) (larger : Option ℕ) → first ≤ end → IsLarger g t first out larger →
    begun t first ≡ first / 2 ^ t + d →
    tables_over t first end larger ≡ uncovered t first end larger + d
over_is g t first out end d None h l e = meets t first end d (begun_mono t first end h) e
over_is g t first out end d (Some j) h l e =
    elim (cases_lt (begun j first * 2 ^ j) (end / 2 ^ j * 2 ^ j)) [
      | inl some ↦
          let part = whole_some j first end some in
          let from : begun t first ≤ begun t (begun j first * 2 ^ j) = begun_mono t first (begun j first * 2 ^ j) (begun_over j first) in
          let to : begun t (end / 2 ^ j * 2 ^ j) ≡ end / 2 ^ j * 2 ^ j / 2 ^ t = begun_at t (end / 2 ^ j * 2 ^ j) (times_aligned t j (end / 2 ^ j) l.1) in
          let sums : meeting_around t first end (Some (part_of (begun j first * 2 ^ j) (end / 2 ^ j * 2 ^ j)))
          ≡ left_around t first end (Some (part_of (begun j first * 2 ^ j) (end / 2 ^ j * 2 ^ j))) + d =
          omega (arith, meets t first (begun j first * 2 ^ j) d from e) in
          ap (meeting_around t first end) part ∙ sums ∙ ap (λ (o : Option Part). left_around t first end o + d) (sym part)
      | inr none ↦
          let part = whole_none j first end none in
          ap (meeting_around t first end) part ∙ meets t first end d (begun_mono t first end h) e
          ∙ ap (λ (o : Option Part). left_around t first end o + d) (sym part)
    ]
