-- The positions of one level that a tiling needs, from block to block.
use Rattle.std.proofs.Common.{◌≡◌, ℕ, zero, suc, ◌+◌, ◌-◌, ◌*◌, ◌/◌, ◌%◌, ◌^◌, ◌<◌, ◌≤◌, ◌≢◌, ◌⊎◌, List, refl, ap, sym, subst, ◌∙◌, arith, inl, inr}
use Rattle.std.specs.Prelude.{Option, map, min}
use Rattle.std.proofs.lemmas.Nat.{pow_pos, pow_below, shr_split, div_below, le-div}
use Rattle.std.proofs.lemmas.Bool.{cases_eq, cases_lt}
use Rattle.pt_model.specs.declared.block.Prot.{Prot}
use Rattle.pt_model.specs.Layout.{Layout, input_pages, output_pages, pages_of_table, level_of_size}
use Rattle.pt_model.specs.declared.position.Position.{Position}
use Rattle.pt_model.specs.Tables.{position_over, spine_position, levels_between, least_top, needed, add_positions}
use Rattle.pt_model.specs.Tiling.{IsGreatestSize, block_at}
use Rattle.pt_model.specs.Sets.{IsAmong, IsSorted}
use Rattle.pt_tile.specs.Counting.{at_level}
use Rattle.pt_tile.specs.Sizes.{IsLarger}
use Rattle.pt_model.proofs.Positions.{sorted_adds, adds_are, among_levels, levels_among}
use Rattle.pt_tile.proofs.Counts.{levels_other, levels_new, levels_again, adds_append}
use Rattle.pt_tile.proofs.Begun.{begun_at, begun_in, begun_part, part_in, coarse_is_fine, aligned_sum, same_table}
use Rattle.pt_tile.proofs.Uncovered.{uncovered, step_below, step_above}
use Rattle.pt_model.proofs.Tops.{top_low, top_mono, above_top}

-- what a list of positions has at a level, where a tiling has come to a page
pub record IsUpTo (g : Layout) (n l s : ℕ) (ps : List Position) : Type 0 where
  pub sorted : IsSorted ps
  pub before : (p : Position) → p.level ≡ l → IsAmong ps p → p.base < s
  pub inside : l ≤ least_top g n s → s % pages_of_table g l ≢ 0 → IsAmong ps (position_over g s l)
  pub spine : n - 1 ≤ l → l ≤ least_top g n s → IsAmong ps (spine_position l)
  pub below_top : (p : Position) → p.level ≡ l → IsAmong ps p → l ≤ least_top g n s

-- the lists that a block adds
abbrev pub over_of : Layout → ℕ → ℕ → ℕ → ℕ → List Position
over_of g n s k top = map (position_over g s) (levels_between (level_of_size g k) top)

abbrev pub spine_of : ℕ → ℕ → List Position
spine_of n top = map spine_position (levels_between (n - 1) top)

-- the members of a run of levels
pub in_levels : (h : ℕ → Position) → ((k : ℕ) → (h k).level ≡ k) → (low top : ℕ) (p : Position) →
    IsAmong (map h (levels_between low top)) p → (low ≤ p.level) × (p.level ≤ top) × (h p.level ≡ p)
in_levels h level_is low top p m =
    let a = among_levels h (top + 1 - low) low p m in
    let same : p.level ≡ a.0 = ap (λ (q : Position). q.level) a.3 ∙ level_is a.0 in
    (omega (arith, same, a.1), omega (arith, same, a.1, a.2), ap h same ∙ sym a.3)

pub levels_in : (h : ℕ → Position) (low top k : ℕ) → low ≤ k → k ≤ top → IsAmong (map h (levels_between low top)) (h k)
levels_in h low top k from to = levels_among h (top + 1 - low) low k from (omega arith)

-- the members after a block
abbrev pub after : Layout → ℕ → ℕ → ℕ → ℕ → List Position → List Position
after g n s k top ps = add_positions (add_positions ps (over_of g n s k top)) (spine_of n top)

pub after_cases : (g : Layout) (n s k top : ℕ) (ps : List Position) (p : Position) → IsAmong (after g n s k top ps) p →
    IsAmong ps p ⊎ (((level_of_size g k ≤ p.level) × (p.level ≤ top) × (position_over g s p.level ≡ p)) ⊎ ((n - 1 ≤ p.level) × (p.level ≤ top) × (spine_position p.level ≡ p)))
after_cases g n s k top ps p m =
    elim ((adds_are (spine_of n top) (add_positions ps (over_of g n s k top)) p).0 m) [
      | inl first ↦ elim ((adds_are (over_of g n s k top) ps p).0 first) [
        | inl old ↦ inl old
        | inr over ↦ inr (inl (in_levels (position_over g s) (λ i. refl) (level_of_size g k) top p over))
      ]
      | inr spine ↦ inr (inr (in_levels spine_position (λ i. refl) (n - 1) top p spine))
    ]

after_old : (g : Layout) (n s k top : ℕ) (ps : List Position) (p : Position) → IsAmong ps p → IsAmong (after g n s k top ps) p
after_old g n s k top ps p m =
    (adds_are (spine_of n top) (add_positions ps (over_of g n s k top)) p).1 (inl ((adds_are (over_of g n s k top) ps p).1 (inl m)))

after_over : (g : Layout) (n s k top l : ℕ) (ps : List Position) → level_of_size g k ≤ l → l ≤ top → IsAmong (after g n s k top ps) (position_over g s l)
after_over g n s k top l ps from to =
    (adds_are (spine_of n top) (add_positions ps (over_of g n s k top)) (position_over g s l)).1
    (inl ((adds_are (over_of g n s k top) ps (position_over g s l)).1 (inr (levels_in (position_over g s) (level_of_size g k) top l from to))))

after_spine : (g : Layout) (n s k top l : ℕ) (ps : List Position) → n - 1 ≤ l → l ≤ top → IsAmong (after g n s k top ps) (spine_position l)
after_spine g n s k top l ps from to =
    (adds_are (spine_of n top) (add_positions ps (over_of g n s k top)) (spine_position l)).1 (inr (levels_in spine_position (n - 1) top l from to))

-- what the lists of a block add to a level

pub over_none : (g : Layout) (n s k top l : ℕ) (ps : List Position) → level_of_size g k ≤ top → (l < level_of_size g k) ⊎ (top < l) →
    at_level l (add_positions ps (over_of g n s k top)) ≡ at_level l ps
over_none g n s k top l ps low out =
    levels_other l (position_over g s) (λ i. refl) (top + 1 - level_of_size g k) (level_of_size g k) ps
    (elim out [ inl b ↦ inl b | inr a ↦ inr (omega arith) ])

pub over_new : (g : Layout) (n s k top l : ℕ) (ps : List Position) → level_of_size g k ≤ l → l ≤ top → (IsAmong ps (position_over g s l) → ⊥) →
    at_level l (add_positions ps (over_of g n s k top)) ≡ at_level l ps + 1
over_new g n s k top l ps from to new =
    levels_new l (position_over g s) (λ i. refl) (top + 1 - level_of_size g k) (level_of_size g k) ps from (omega arith) new

pub over_again : (g : Layout) (n s k top l : ℕ) (ps : List Position) → IsSorted ps → IsAmong ps (position_over g s l) →
    at_level l (add_positions ps (over_of g n s k top)) ≡ at_level l ps
over_again g n s k top l ps sorted m =
    levels_again l (position_over g s) (λ i. refl) (top + 1 - level_of_size g k) (level_of_size g k) ps sorted m

pub spine_none : (n top l : ℕ) (ps : List Position) → n - 1 ≤ top → (l < n - 1) ⊎ (top < l) →
    at_level l (add_positions ps (spine_of n top)) ≡ at_level l ps
spine_none n top l ps low out =
    levels_other l spine_position (λ i. refl) (top + 1 - (n - 1)) (n - 1) ps (elim out [ inl b ↦ inl b | inr a ↦ inr (omega arith) ])

pub spine_new : (n top l : ℕ) (ps : List Position) → n - 1 ≤ l → l ≤ top → (IsAmong ps (spine_position l) → ⊥) →
    at_level l (add_positions ps (spine_of n top)) ≡ at_level l ps + 1
spine_new n top l ps from to new = levels_new l spine_position (λ i. refl) (top + 1 - (n - 1)) (n - 1) ps from (omega arith) new

pub spine_again : (n top l : ℕ) (ps : List Position) → IsSorted ps → IsAmong ps (spine_position l) →
    at_level l (add_positions ps (spine_of n top)) ≡ at_level l ps
spine_again n top l ps sorted m = levels_again l spine_position (λ i. refl) (top + 1 - (n - 1)) (n - 1) ps sorted m

-- the level of a size, and the size of a table
pub size_low : (index k l : ℕ) → 0 < index → k < index * (l + 1) → k / index ≤ l
size_low index k l some h = let b : k / index < l + 1 = div_below k index (l + 1) some (omega arith) in omega arith

pub size_high : (index k l : ℕ) → 0 < index → index * (l + 1) ≤ k → l < k / index
size_high index k l some h = let b : l + 1 ≤ k / index = le-div (l + 1) k index some (omega arith) in omega arith

-- a page below the end of the table at page 0 lies under that
pub over_first : (g : Layout) (s l : ℕ) → s < pages_of_table g l → position_over g s l ≡ spine_position l
over_first g s l h =
    let none : s / pages_of_table g l < 1 = div_below s (pages_of_table g l) 1 (pow_pos (g.index * (l + 1))) (omega arith) in
    let zero_base : s / pages_of_table g l * pages_of_table g l ≡ 0 = (let z : s / pages_of_table g l ≡ 0 = omega arith in rw z (omega arith)) in
    ap (λ (b : ℕ). record { level = l; base = b }) zero_base

-- the place that a tiling has come to after a block
pub up_to_next : (g : Layout) (n l s k : ℕ) (ps : List Position) → 0 < g.index → level_of_size g k ≤ n - 1 → s % 2 ^ k ≡ 0 →
    IsSorted ps →
    ((p : Position) → p.level ≡ l → IsAmong ps p → (p.base < s) × (l ≤ least_top g n s)) →
    IsUpTo g n l (s + 2 ^ k) (after g n s k (least_top g n (s + 2 ^ k)) ps)
up_to_next g n l s k ps index low aligned sorted old =
    let wider : least_top g n s ≤ least_top g n (s + 2 ^ k) = top_mono g n s (s + 2 ^ k) (omega arith) in
    record {
      sorted = sorted_adds (spine_of n (least_top g n (s + 2 ^ k))) _ (sorted_adds (over_of g n s k (least_top g n (s + 2 ^ k))) ps sorted);
      before = λ p here m. elim (after_cases g n s k (least_top g n (s + 2 ^ k)) ps p m) [
        | inl was ↦ omega (arith, (old p here was).0)
        | inr added ↦ elim added [
          | inl over ↦
              let base : s / pages_of_table g p.level * pages_of_table g p.level ≡ p.base = ap (λ (q : Position). q.base) over.2 in
              omega (arith, base, shr_split s (g.index * (p.level + 1)), pow_pos k)
          | inr spine ↦
              let base : 0 ≡ p.base = ap (λ (q : Position). q.base) spine.2 in
              omega (arith, base, pow_pos k)
        ]
      ];
      inside = λ reach part. elim (cases_lt k (g.index * (l + 1))) [
        | inl small ↦
            let lies : s % 2 ^ (g.index * (l + 1)) + 2 ^ k ≤ 2 ^ (g.index * (l + 1)) = part_in (g.index * (l + 1)) k s (omega arith) aligned in
            let same : (s + 2 ^ k) / 2 ^ (g.index * (l + 1)) ≡ s / 2 ^ (g.index * (l + 1)) = same_table (g.index * (l + 1)) s (2 ^ k) lies part in
            subst (λ (q : ℕ). IsAmong (after g n s k (least_top g n (s + 2 ^ k)) ps) (record { level = l; base = q * pages_of_table g l })) (sym same)
            (after_over g n s k (least_top g n (s + 2 ^ k)) l ps (size_low g.index k l index small) reach)
        | inr large ↦
            absurd (part (aligned_sum (g.index * (l + 1)) k s large (coarse_is_fine (g.index * (l + 1)) k s large aligned)))
      ];
      spine = λ from to. after_spine g n s k (least_top g n (s + 2 ^ k)) l ps from to;
      below_top = λ p here m. elim (after_cases g n s k (least_top g n (s + 2 ^ k)) ps p m) [
        | inl was ↦ omega (arith, (old p here was).1)
        | inr added ↦ elim added [ inl over ↦ omega (arith, over.1) | inr spine ↦ omega (arith, spine.1) ]
      ];
    }

-- what one block adds to a level, and takes from what is still to come
pub record IsBlock (g : Layout) (n l s out end left k : ℕ) (larger : Option ℕ) : Type 0 where
  pub index_some : 0 < g.index
  pub level_in : l < g.levels
  pub level_low : level_of_size g k ≤ n - 1
  pub ends : s + left ≡ end
  pub in_input : end ≤ input_pages g
  pub in_output : out + left ≤ output_pages g
  pub greatest : IsGreatestSize g s out left k
  pub larger_is : IsLarger g (g.index * (l + 1)) s out larger

abbrev pub size : Layout → ℕ → ℕ
size g l = g.index * (l + 1)

-- a block that is no table long, at the start of a table and elsewhere
pub starts_table : (g : Layout) (n l s out end left k : ℕ) (larger : Option ℕ) → IsBlock g n l s out end left k larger →
    k < size g l → s % 2 ^ size g l ≡ 0 → uncovered (size g l) s end larger ≡ uncovered (size g l) (s + 2 ^ k) end larger + 1
starts_table g n l s out end left k larger b small aligned =
    let lies : s % 2 ^ size g l + 2 ^ k ≤ 2 ^ size g l = part_in (size g l) k s (omega arith) b.greatest.legal.first_aligned in
    step_below g (size g l) s out end left k 1 larger b.ends b.in_input b.in_output b.greatest b.larger_is small
    (begun_in (size g l) s (2 ^ k) (omega (arith, pow_pos k)) lies ∙ omega (arith, begun_at (size g l) s aligned))

pub inside_table : (g : Layout) (n l s out end left k : ℕ) (larger : Option ℕ) → IsBlock g n l s out end left k larger →
    k < size g l → s % 2 ^ size g l ≢ 0 → uncovered (size g l) s end larger ≡ uncovered (size g l) (s + 2 ^ k) end larger
inside_table g n l s out end left k larger b small part =
    let lies : s % 2 ^ size g l + 2 ^ k ≤ 2 ^ size g l = part_in (size g l) k s (omega arith) b.greatest.legal.first_aligned in
    step_below g (size g l) s out end left k 0 larger b.ends b.in_input b.in_output b.greatest b.larger_is small
    (begun_in (size g l) s (2 ^ k) (omega (arith, pow_pos k)) lies ∙ omega (arith, begun_part (size g l) s part))
    ∙ omega arith

pub takes_tables : (g : Layout) (n l s out end left k : ℕ) (larger : Option ℕ) → IsBlock g n l s out end left k larger →
    size g l ≤ k → uncovered (size g l) s end larger ≡ uncovered (size g l) (s + 2 ^ k) end larger
takes_tables g n l s out end left k larger b large =
    step_above g (size g l) s out end left k larger b.ends b.greatest b.larger_is large

-- above the top the table at page 0 goes beyond the place
pub above_place : (g : Layout) (n l s : ℕ) → 0 < g.index → l < g.levels → n - 1 < l → least_top g n s < l → s < 2 ^ size g l
above_place g n zero s some high low above = absurd (omega arith)
above_place g n (suc l) s some high low above =
    let reach : s ≤ pages_of_table g l = above_top g n s l (omega arith) (omega arith) in
    let bigger : pages_of_table g l < 2 ^ size g (suc l) =
    pow_below (g.index * (l + 1)) (g.index * (suc l + 1)) (omega (arith, some)) in
    omega arith

part_of_first : (t s : ℕ) → 0 < s → s < 2 ^ t → s % 2 ^ t ≢ 0
part_of_first t s some h e = let q : s / 2 ^ t < 1 = div_below s (2 ^ t) 1 (pow_pos t) (omega arith) in
    let z : s / 2 ^ t ≡ 0 = omega arith in
    let zz : s / 2 ^ t * 2 ^ t ≡ 0 = rw z (omega arith) in
    omega (arith, shr_split s t)

-- what is to come at a level
abbrev pub rest_at : Layout → (n l s end : ℕ) → Option ℕ → ℕ
rest_at g n l s end larger = uncovered (size g l) s end larger + min 1 (l - least_top g n s)

abbrev pub next_list : Layout → (n s k : ℕ) → List Position → List Position
next_list g n s k ps = after g n s k (least_top g n (s + 2 ^ k)) ps

-- below the top
step_low : (g : Layout) (n l s out end left k : ℕ) (larger : Option ℕ) (ps : List Position) → IsBlock g n l s out end left k larger →
    IsUpTo g n l s ps → l ≤ least_top g n s →
    at_level l (next_list g n s k ps) + uncovered (size g l) (s + 2 ^ k) end larger ≡ at_level l ps + uncovered (size g l) s end larger
step_low g n l s out end left k larger ps b up reach =
    let wider : least_top g n s ≤ least_top g n (s + 2 ^ k) = top_mono g n s (s + 2 ^ k) (omega arith) in
    let low : n - 1 ≤ least_top g n (s + 2 ^ k) = top_low g n (s + 2 ^ k) in
    let sorted : IsSorted (add_positions ps (over_of g n s k (least_top g n (s + 2 ^ k)))) = sorted_adds (over_of g n s k (least_top g n (s + 2 ^ k))) ps up.sorted in
    let spine : at_level l (next_list g n s k ps) ≡ at_level l (add_positions ps (over_of g n s k (least_top g n (s + 2 ^ k)))) =
    elim (cases_lt l (n - 1)) [
      | inl below ↦ spine_none n (least_top g n (s + 2 ^ k)) l _ low (inl below)
      | inr from ↦ spine_again n (least_top g n (s + 2 ^ k)) l _ sorted
          ((adds_are (over_of g n s k (least_top g n (s + 2 ^ k))) ps (spine_position l)).1 (inl (up.spine from reach)))
    ] in
    elim (cases_lt k (size g l)) [
      | inr large ↦
          let none = over_none g n s k (least_top g n (s + 2 ^ k)) l ps (omega (arith, b.level_low)) (inl (size_high g.index k l b.index_some large)) in
          omega (arith, spine, none, takes_tables g n l s out end left k larger b large)
      | inl small ↦ elim (cases_eq (s % 2 ^ size g l) 0) [
        | inl aligned ↦
            let new = over_new g n s k (least_top g n (s + 2 ^ k)) l ps (size_low g.index k l b.index_some small) (omega arith)
            (λ m. omega (arith, up.before (position_over g s l) refl m, shr_split s (size g l))) in
            omega (arith, spine, new, starts_table g n l s out end left k larger b small aligned)
        | inr part ↦
            let again = over_again g n s k (least_top g n (s + 2 ^ k)) l ps up.sorted (up.inside reach part) in
            omega (arith, spine, again, inside_table g n l s out end left k larger b small part)
      ]
    ]

-- above the top, where the block brings the top up to the level, and where it does not
step_high : (g : Layout) (n l s out end left k : ℕ) (larger : Option ℕ) (ps : List Position) → IsBlock g n l s out end left k larger →
    IsUpTo g n l s ps → 0 < s → least_top g n s < l →
    at_level l (next_list g n s k ps) + rest_at g n l (s + 2 ^ k) end larger ≡ at_level l ps + rest_at g n l s end larger
step_high g n l s out end left k larger ps b up some above =
    let wider : least_top g n s ≤ least_top g n (s + 2 ^ k) = top_mono g n s (s + 2 ^ k) (omega arith) in
    let low : n - 1 ≤ least_top g n s = top_low g n s in
    let place : s < 2 ^ size g l = above_place g n l s b.index_some b.level_in (omega arith) above in
    let small : k < size g l = elim (cases_lt k (size g l)) [
      | inl h ↦ h
      | inr large ↦ absurd (omega (arith, size_high g.index k l b.index_some large, b.level_low))
    ] in
    let same : uncovered (size g l) s end larger ≡ uncovered (size g l) (s + 2 ^ k) end larger =
    inside_table g n l s out end left k larger b small (part_of_first (size g l) s some place) in
    let sorted : IsSorted (add_positions ps (over_of g n s k (least_top g n (s + 2 ^ k)))) = sorted_adds (over_of g n s k (least_top g n (s + 2 ^ k))) ps up.sorted in
    elim (cases_lt (least_top g n (s + 2 ^ k)) l) [
      | inl beyond ↦
          let none = over_none g n s k (least_top g n (s + 2 ^ k)) l ps (omega (arith, b.level_low)) (inr beyond) in
          let spine = spine_none n (least_top g n (s + 2 ^ k)) l (add_positions ps (over_of g n s k (least_top g n (s + 2 ^ k)))) (omega arith) (inr beyond) in
          omega (arith, none, spine, same)
      | inr reach ↦
          let new = over_new g n s k (least_top g n (s + 2 ^ k)) l ps (size_low g.index k l b.index_some small) reach
          (λ m. omega (arith, up.below_top (position_over g s l) refl m)) in
          let there : IsAmong (add_positions ps (over_of g n s k (least_top g n (s + 2 ^ k)))) (spine_position l) =
          subst (λ p. IsAmong (add_positions ps (over_of g n s k (least_top g n (s + 2 ^ k)))) p) (over_first g s l place)
          ((adds_are (over_of g n s k (least_top g n (s + 2 ^ k))) ps (position_over g s l)).1
          (inr (levels_in (position_over g s) (level_of_size g k) (least_top g n (s + 2 ^ k)) l (size_low g.index k l b.index_some small) reach))) in
          let spine = spine_again n (least_top g n (s + 2 ^ k)) l _ sorted there in
          omega (arith, new, spine, same)
    ]

pub step_at : (g : Layout) (n l s out end left k : ℕ) (larger : Option ℕ) (ps : List Position) → IsBlock g n l s out end left k larger →
    IsUpTo g n l s ps → 0 < s →
    at_level l (next_list g n s k ps) + rest_at g n l (s + 2 ^ k) end larger ≡ at_level l ps + rest_at g n l s end larger
step_at g n l s out end left k larger ps b up some =
    elim (cases_lt (least_top g n s) l) [
      | inl above ↦ step_high g n l s out end left k larger ps b up some above
      | inr reach ↦
          let wider : least_top g n s ≤ least_top g n (s + 2 ^ k) = top_mono g n s (s + 2 ^ k) (omega arith) in
          omega (arith, step_low g n l s out end left k larger ps b up reach)
    ]

-- the lists of a block, one after the other
pub block_adds : (g : Layout) (n s k out : ℕ) (prot : Prot) (ps : List Position) →
    add_positions ps (needed g n (block_at s k out prot)) ≡ next_list g n s k ps
block_adds g n s k out prot ps =
    adds_append (over_of g n s k (least_top g n (s + 2 ^ k))) (spine_of n (least_top g n (s + 2 ^ k))) ps
