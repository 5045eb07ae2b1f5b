-- How many positions of one level a tiling needs.
use Rattle.std.proofs.Common.{◌≡◌, ℕ, zero, suc, ◌+◌, ◌-◌, ◌*◌, ◌/◌, ◌%◌, ◌^◌, ◌<◌, ◌≤◌, ◌≢◌, ◌⊎◌, List, [], ◌∷◌, length, refl, ap, subst, ◌∙◌, arith, inl, inr}
use Rattle.std.specs.Prelude.{Option, IsTrue, fold}
use Rattle.std.proofs.lemmas.Nat.{pow_pos, le-div}
use Rattle.std.proofs.lemmas.Bool.{cases_eq, cases_lt}
use Rattle.std.proofs.Math.Nat.{mul-le-mul_right}
use Rattle.pt_model.specs.declared.block.Block.{Block}
use Rattle.pt_model.specs.declared.block.Prot.{Prot}
use Rattle.pt_model.specs.Layout.{Layout, is_size, input_pages, output_pages, pages_of_table, level_of_size}
use Rattle.pt_model.specs.declared.position.Position.{Position}
use Rattle.pt_model.specs.Tables.{position_over, spine_position, least_top, needed, add_positions, all_needed}
use Rattle.pt_model.specs.Tiling.{IsTiling, IsGreatestSize, tiling}
use Rattle.pt_model.proofs.TilingFacts.{tiling_is}
use Rattle.pt_model.specs.Sets.{IsAmong, IsSorted}
use Rattle.pt_tile.specs.Counting.{at_level, levels_below, begun, tables_over}
use Rattle.pt_tile.specs.Sizes.{IsLarger}
use Rattle.pt_model.proofs.Positions.{among_none, sorted_adds, adds_are, among_here, among_more}
use Rattle.pt_tile.proofs.Begun.{begun_at, begun_part, coarse_is_fine}
use Rattle.pt_tile.proofs.Uncovered.{uncovered, uncovered_end, larger_moves, over_is}
use Rattle.pt_format.specs.Laws.{IsLayout}
use Rattle.pt_model.proofs.Tops.{power_mono, top_low, top_mono, top_below}
use Rattle.pt_tile.proofs.Levels.{IsBlock, IsUpTo, size, rest_at, next_list, step_at, block_adds, up_to_next, over_none, over_new, spine_none, spine_new, spine_again, over_first, size_low, size_high, starts_table, inside_table, takes_tables, above_place, over_of, levels_in, in_levels, after_cases}
use Rattle.pt_tile.proofs.Counts.{at_more, at_same}

abbrev pub all_from : Layout → (n : ℕ) → List Position → List Block → List Position
all_from g n ps bs = fold (λ qs b. add_positions qs (needed g n b)) ps bs

-- what a format and a request must meet
pub record IsRequest (g : Layout) (n l end : ℕ) : Type 0 where
  pub index_some : 0 < g.index
  pub level_in : l < g.levels
  pub sizes_low : (k : ℕ) → IsTrue (is_size g k) → level_of_size g k ≤ n - 1
  pub in_input : end ≤ input_pages g

block_of : (g : Layout) (n l s out end left k : ℕ) (larger : Option ℕ) → IsRequest g n l end → s + left ≡ end →
    out + left ≤ output_pages g → IsGreatestSize g s out left k → IsLarger g (size g l) s out larger →
    IsBlock g n l s out end left k larger
block_of g n l s out end left k larger r ends ho top l' = record {
  index_some = r.index_some;
  level_in = r.level_in;
  level_low = r.sizes_low k top.legal.a_size;
  ends = ends;
  in_input = r.in_input;
  in_output = ho;
  greatest = top;
  larger_is = l';
}

-- from a place inside the tiling on
rest_counts : (g : Layout) (n l end : ℕ) (prot : Prot) (larger : Option ℕ) → IsRequest g n l end → l ≤ least_top g n end →
    (bs : List Block) (s out left : ℕ) (ps : List Position) → s + left ≡ end → out + left ≤ output_pages g → 0 < s →
    IsLarger g (size g l) s out larger → IsUpTo g n l s ps → IsTiling g prot s out left bs →
    at_level l (all_from g n ps bs) ≡ at_level l ps + rest_at g n l s end larger
rest_counts g n l end prot larger r reach [] s out left ps ends ho some l' up none =
    let last : s ≡ end = omega (arith, none) in
    let nothing : uncovered (size g l) s end larger ≡ 0 = ap (λ (x : ℕ). uncovered (size g l) x end larger) last ∙ uncovered_end (size g l) end larger in
    let tops : least_top g n s ≡ least_top g n end = ap (least_top g n) last in
    omega (arith, nothing, tops)
rest_counts g n l end prot larger r reach (b ∷ bs) s out left ps ends ho some l' up t =
    let block = block_of g n l s out end left b.log2 larger r ends ho t.1 l' in
    let added : add_positions ps (needed g n b) ≡ next_list g n s b.log2 ps =
    ap (λ (x : Block). add_positions ps (needed g n x)) t.0 ∙ block_adds g n s b.log2 out prot ps in
    let next : IsUpTo g n l (s + 2 ^ b.log2) (next_list g n s b.log2 ps) =
    up_to_next g n l s b.log2 ps r.index_some (r.sizes_low b.log2 t.1.legal.a_size) t.1.legal.first_aligned up.sorted
    (λ p here m. (up.before p here m, up.below_top p here m)) in
    let rest : at_level l (all_from g n (next_list g n s b.log2 ps) bs) ≡ at_level l (next_list g n s b.log2 ps) + rest_at g n l (s + 2 ^ b.log2) end larger =
    rest_counts g n l end prot larger r reach bs (s + 2 ^ b.log2) (out + 2 ^ b.log2) (left - 2 ^ b.log2) (next_list g n s b.log2 ps)
    (omega (arith, t.1.fits)) (omega (arith, t.1.fits)) (omega arith)
    (larger_moves g (size g l) s out (2 ^ b.log2) larger l') next t.2 in
    let step = step_at g n l s out end left b.log2 larger ps block up some in
    ap (λ (qs : List Position). at_level l (all_from g n qs bs)) added ∙ rest ∙ step

-- a table that begins after page 0 is not of the spine
first_not_spine : (g : Layout) (n s k top l : ℕ) → 2 ^ size g l ≤ s → IsAmong (add_positions [] (over_of g n s k top)) (spine_position l) → ⊥
first_not_spine g n s k top l far m =
    elim ((adds_are (over_of g n s k top) [] (spine_position l)).0 m) [
      | inl none ↦ among_none (spine_position l) none
      | inr over ↦
          let h = in_levels (position_over g s) (λ i. refl) (level_of_size g k) top (spine_position l) over in
          let base : s / 2 ^ size g l * 2 ^ size g l ≡ 0 = ap (λ (q : Position). q.base) h.2 in
          let some : 1 ≤ s / 2 ^ size g l = le-div 1 s (2 ^ size g l) (pow_pos (size g l)) (omega arith) in
          omega (arith, base, mul-le-mul_right (2 ^ size g l) some, pow_pos (size g l))
    ]

-- what the first block adds to a level, and what is still to come
first_adds : (g : Layout) (n l s out end left k d extra : ℕ) (larger : Option ℕ) → IsBlock g n l s out end left k larger →
    l ≤ least_top g n end → begun (size g l) s ≡ s / 2 ^ size g l + d →
    ((n - 1 ≤ l) × (2 ^ size g l ≤ s) × (extra ≡ 1)) ⊎ (((l < n - 1) ⊎ (s < 2 ^ size g l)) × (extra ≡ 0)) →
    at_level l (next_list g n s k []) + rest_at g n l (s + 2 ^ k) end larger ≡ uncovered (size g l) s end larger + d + extra
first_adds g n l s out end left k d extra larger b reach e x =
    let low : n - 1 ≤ least_top g n (s + 2 ^ k) = top_low g n (s + 2 ^ k) in
    let sorted : IsSorted (add_positions [] (over_of g n s k (least_top g n (s + 2 ^ k)))) = sorted_adds (over_of g n s k (least_top g n (s + 2 ^ k))) [] tt in
    elim (cases_lt (least_top g n (s + 2 ^ k)) l) [
      | inl beyond ↦
          let place : s < 2 ^ size g l = omega (arith, above_place g n l (s + 2 ^ k) b.index_some b.level_in (omega arith) beyond) in
          let small : k < size g l = elim (cases_lt k (size g l)) [
            | inl h ↦ h
            | inr large ↦ absurd (omega (arith, size_high g.index k l b.index_some large, b.level_low))
          ] in
          let none = over_none g n s k (least_top g n (s + 2 ^ k)) l [] (omega (arith, b.level_low)) (inr beyond) in
          let spine = spine_none n (least_top g n (s + 2 ^ k)) l (add_positions [] (over_of g n s k (least_top g n (s + 2 ^ k)))) low (inr beyond) in
          let no_extra : extra ≡ 0 = elim x [ inl one ↦ absurd (omega (arith, one.1)) | inr nope ↦ nope.1 ] in
          elim (cases_eq (s % 2 ^ size g l) 0) [
            | inl aligned ↦ omega (arith, none, spine, no_extra, e, begun_at (size g l) s aligned, starts_table g n l s out end left k larger b small aligned)
            | inr part ↦ omega (arith, none, spine, no_extra, e, begun_part (size g l) s part, inside_table g n l s out end left k larger b small part)
          ]
      | inr here ↦ elim (cases_lt k (size g l)) [
        | inr large ↦
            let under = size_high g.index k l b.index_some large in
            let aligned : s % 2 ^ size g l ≡ 0 = coarse_is_fine (size g l) k s large b.greatest.legal.first_aligned in
            let none = over_none g n s k (least_top g n (s + 2 ^ k)) l [] (omega (arith, b.level_low)) (inl under) in
            let spine = spine_none n (least_top g n (s + 2 ^ k)) l (add_positions [] (over_of g n s k (least_top g n (s + 2 ^ k)))) low (inl (omega (arith, under, b.level_low))) in
            let no_extra : extra ≡ 0 = elim x [ inl one ↦ absurd (omega (arith, one.0, under, b.level_low)) | inr nope ↦ nope.1 ] in
            omega (arith, none, spine, no_extra, e, begun_at (size g l) s aligned, takes_tables g n l s out end left k larger b large)
        | inl small ↦
            let new = over_new g n s k (least_top g n (s + 2 ^ k)) l [] (size_low g.index k l b.index_some small) here (among_none (position_over g s l)) in
            let spine : at_level l (next_list g n s k []) ≡ at_level l (add_positions [] (over_of g n s k (least_top g n (s + 2 ^ k)))) + extra =
            elim x [
              | inl one ↦
                  spine_new n (least_top g n (s + 2 ^ k)) l (add_positions [] (over_of g n s k (least_top g n (s + 2 ^ k)))) one.0 here
                  (λ m. first_not_spine g n s k (least_top g n (s + 2 ^ k)) l one.1 m)
                  ∙ omega (arith, one.2)
              | inr nope ↦ elim nope.0 [
                | inl below ↦ spine_none n (least_top g n (s + 2 ^ k)) l (add_positions [] (over_of g n s k (least_top g n (s + 2 ^ k)))) low (inl below) ∙ omega (arith, nope.1)
                | inr place ↦ elim (cases_lt l (n - 1)) [
                  | inl below ↦ spine_none n (least_top g n (s + 2 ^ k)) l (add_positions [] (over_of g n s k (least_top g n (s + 2 ^ k)))) low (inl below) ∙ omega (arith, nope.1)
                  | inr from ↦
                      spine_again n (least_top g n (s + 2 ^ k)) l (add_positions [] (over_of g n s k (least_top g n (s + 2 ^ k)))) sorted
                      (subst (λ p. IsAmong (add_positions [] (over_of g n s k (least_top g n (s + 2 ^ k)))) p) (over_first g s l place)
                      ((adds_are (over_of g n s k (least_top g n (s + 2 ^ k))) [] (position_over g s l)).1
                      (inr (levels_in (position_over g s) (level_of_size g k) (least_top g n (s + 2 ^ k)) l (size_low g.index k l b.index_some small) here))))
                      ∙ omega (arith, nope.1)
                ]
              ]
            ] in
            elim (cases_eq (s % 2 ^ size g l) 0) [
              | inl aligned ↦ omega (arith, new, spine, e, begun_at (size g l) s aligned, starts_table g n l s out end left k larger b small aligned)
              | inr part ↦ omega (arith, new, spine, e, begun_part (size g l) s part, inside_table g n l s out end left k larger b small part)
            ]
      ]
    ]

first_counts : (g : Layout) (n l end : ℕ) (prot : Prot) (larger : Option ℕ) → IsRequest g n l end → l ≤ least_top g n end →
    (bs : List Block) (s out left d extra : ℕ) → s + left ≡ end → out + left ≤ output_pages g → 0 < left →
    IsLarger g (size g l) s out larger → begun (size g l) s ≡ s / 2 ^ size g l + d →
    ((n - 1 ≤ l) × (2 ^ size g l ≤ s) × (extra ≡ 1)) ⊎ (((l < n - 1) ⊎ (s < 2 ^ size g l)) × (extra ≡ 0)) →
    IsTiling g prot s out left bs →
    at_level l (all_from g n [] bs) ≡ uncovered (size g l) s end larger + d + extra
first_counts g n l end prot larger r reach [] s out left d extra ends ho some l' e x none = absurd (omega (arith, none))
first_counts g n l end prot larger r reach (b ∷ bs) s out left d extra ends ho some l' e x t =
    let block = block_of g n l s out end left b.log2 larger r ends ho t.1 l' in
    let added : add_positions [] (needed g n b) ≡ next_list g n s b.log2 [] =
    ap (λ (y : Block). add_positions [] (needed g n y)) t.0 ∙ block_adds g n s b.log2 out prot [] in
    let next : IsUpTo g n l (s + 2 ^ b.log2) (next_list g n s b.log2 []) =
    up_to_next g n l s b.log2 [] r.index_some (r.sizes_low b.log2 t.1.legal.a_size) t.1.legal.first_aligned tt (λ p here m. absurd (among_none p m)) in
    let rest : at_level l (all_from g n (next_list g n s b.log2 []) bs) ≡ at_level l (next_list g n s b.log2 []) + rest_at g n l (s + 2 ^ b.log2) end larger =
    rest_counts g n l end prot larger r reach bs (s + 2 ^ b.log2) (out + 2 ^ b.log2) (left - 2 ^ b.log2) (next_list g n s b.log2 [])
    (omega (arith, t.1.fits)) (omega (arith, t.1.fits)) (omega (arith, pow_pos b.log2))
    (larger_moves g (size g l) s out (2 ^ b.log2) larger l') next t.2 in
    ap (λ (qs : List Position). at_level l (all_from g n qs bs)) added ∙ rest ∙ first_adds g n l s out end left b.log2 d extra larger block reach e x

-- the count of a level up to the top
pub level_counts : (g : Layout) (n l first out count extra : ℕ) (prot : Prot) (larger : Option ℕ) → IsTrue (is_size g 0) →
    IsRequest g n l (first + count) → l ≤ least_top g n (first + count) → out + count ≤ output_pages g → 0 < count →
    IsLarger g (size g l) first out larger →
    ((n - 1 ≤ l) × (2 ^ size g l ≤ first) × (extra ≡ 1)) ⊎ (((l < n - 1) ⊎ (first < 2 ^ size g l)) × (extra ≡ 0)) →
    at_level l (all_needed g n (tiling g prot first out count)) ≡ tables_over (size g l) first (first + count) larger + extra
level_counts g n l first out count extra prot larger zero_size r reach ho some l' x =
    let t = tiling_is g prot first out count zero_size r.in_input ho in
    elim (cases_eq (first % 2 ^ size g l) 0) [
      | inl aligned ↦
          let e : begun (size g l) first ≡ first / 2 ^ size g l + 0 = omega (arith, begun_at (size g l) first aligned) in
          omega (
            arith,
            first_counts g n l (first + count) prot larger r reach (tiling g prot first out count) first out count 0 extra refl ho some l' e x t,
            over_is g (size g l) first out (first + count) 0 larger (omega arith) l' e,
          )
      | inr part ↦
          let e : begun (size g l) first ≡ first / 2 ^ size g l + 1 = begun_part (size g l) first part in
          omega (
            arith,
            first_counts g n l (first + count) prot larger r reach (tiling g prot first out count) first out count 1 extra refl ho some l' e x t,
            over_is g (size g l) first out (first + count) 1 larger (omega arith) l' e,
          )
    ]

-- no position lies above the top
rest_below : (g : Layout) (n end : ℕ) (prot : Prot) → ((k : ℕ) → IsTrue (is_size g k) → level_of_size g k ≤ n - 1) →
    (bs : List Block) (s out left : ℕ) (ps : List Position) → s + left ≡ end → IsTiling g prot s out left bs →
    ((p : Position) → IsAmong ps p → p.level ≤ least_top g n end) →
    (p : Position) → IsAmong (all_from g n ps bs) p → p.level ≤ least_top g n end
rest_below g n end prot low [] s out left ps ends none below p m = below p m
rest_below g n end prot low (b ∷ bs) s out left ps ends t below p m =
    let added : add_positions ps (needed g n b) ≡ next_list g n s b.log2 ps =
    ap (λ (y : Block). add_positions ps (needed g n y)) t.0 ∙ block_adds g n s b.log2 out prot ps in
    let tops : least_top g n (s + 2 ^ b.log2) ≤ least_top g n end = top_mono g n (s + 2 ^ b.log2) end (omega (arith, t.1.fits)) in
    rest_below g n end prot low bs (s + 2 ^ b.log2) (out + 2 ^ b.log2) (left - 2 ^ b.log2) (next_list g n s b.log2 ps) (omega (arith, t.1.fits)) t.2
    (λ q o. elim (after_cases g n s b.log2 (least_top g n (s + 2 ^ b.log2)) ps q o) [
      | inl was ↦ below q was
      | inr new ↦ elim new [ inl over ↦ omega (arith, over.1) | inr spine ↦ omega (arith, spine.1) ]
    ])
    p (subst (λ (qs : List Position). IsAmong (all_from g n qs bs) p) added m)

pub needed_below : (g : Layout) (n first out count : ℕ) (prot : Prot) → IsTrue (is_size g 0) →
    ((k : ℕ) → IsTrue (is_size g k) → level_of_size g k ≤ n - 1) →
    first + count ≤ input_pages g → out + count ≤ output_pages g →
    (p : Position) → IsAmong (all_needed g n (tiling g prot first out count)) p → p.level ≤ least_top g n (first + count)
needed_below g n first out count prot zero_size low hi ho p m =
    rest_below g n (first + count) prot low (tiling g prot first out count) first out count [] refl
    (tiling_is g prot first out count zero_size hi ho) (λ q o. absurd (among_none q o)) p m

-- a list by its levels

pub none_at : (l : ℕ) (ps : List Position) → ((p : Position) → IsAmong ps p → p.level ≢ l) → at_level l ps ≡ 0
none_at l [] h = refl
none_at l (q ∷ qs) h = at_same l q qs (h q (among_here q qs)) ∙ none_at l qs (λ p m. h p (among_more p q qs m))

below_none : (m : ℕ) → levels_below m [] ≡ 0
below_none zero = refl
below_none (suc m) = omega (arith, below_none m)

below_out : (m : ℕ) (q : Position) (qs : List Position) → m ≤ q.level → levels_below m (q ∷ qs) ≡ levels_below m qs
below_out zero q qs h = refl
below_out (suc m) q qs h = omega (arith, below_out m q qs (omega arith), at_same m q qs (omega arith))

below_in : (m : ℕ) (q : Position) (qs : List Position) → q.level < m → levels_below m (q ∷ qs) ≡ levels_below m qs + 1
below_in zero q qs h = absurd (omega arith)
below_in (suc m) q qs h = elim (cases_eq q.level m) [
  | inl here ↦ omega (arith, below_out m q qs (omega arith), at_more m q qs here)
  | inr other ↦ omega (arith, below_in m q qs (omega arith), at_same m q qs other)
]

pub by_levels : (m : ℕ) (ps : List Position) → ((p : Position) → IsAmong ps p → p.level < m) → levels_below m ps ≡ length ps
by_levels m [] h = below_none m
by_levels m (q ∷ qs) h = below_in m q qs (h q (among_here q qs)) ∙ omega (arith, by_levels m qs (λ p o. h p (among_more p q qs o)))

pub below_more : (l : ℕ) (ps : List Position) → levels_below (l + 1) ps ≡ levels_below l ps + at_level l ps
below_more l ps = let e : l + 1 ≡ suc l = omega arith in ap (λ (m : ℕ). levels_below m ps) e

-- what a tiling needs lies at the levels of its format
pub all_levels : (g : Layout) → IsLayout g → (n first out count : ℕ) (prot : Prot) → g.start ≤ n → n ≤ g.levels →
    first + count ≤ input_pages g → out + count ≤ output_pages g →
    levels_below g.levels (all_needed g n (tiling g prot first out count)) ≡ length (all_needed g n (tiling g prot first out count))
all_levels g law n first out count prot low high hi ho =
    let some : g.levels - 1 + 1 ≡ g.levels = omega (arith, law.start_low, law.start_high) in
    let exponent : g.input - g.granule ≤ g.index * (g.levels - 1 + 1) = rw some (omega (arith, law.has_levels)) in
    let whole : input_pages g ≤ pages_of_table g (g.levels - 1) = power_mono (g.input - g.granule) (g.index * (g.levels - 1 + 1)) exponent in
    let top : least_top g n (first + count) < g.levels =
    top_below g n (first + count) (omega (arith, law.start_low)) high (omega (arith, law.start_low, law.start_high)) (omega arith) in
    by_levels g.levels (all_needed g n (tiling g prot first out count))
    (λ p m. omega (arith, top, needed_below g n first out count prot law.has_pages (λ k a. omega (arith, law.sizes_low k a, law.start_low)) hi ho p m))
