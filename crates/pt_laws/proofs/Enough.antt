-- The need of commands is enough: what maps link is at most what they need.
use Rattle.std.proofs.Common.{◌≡◌, ℕ, zero, suc, ◌+◌, ◌-◌, ◌^◌, ◌<◌, ◌≤◌, List, [], ◌∷◌, true, ◌⊎◌, inl, inr, refl, subst, sym, arith, length}
use Rattle.std.specs.Prelude.{IsTrue, filter, not, map, fold, max, nat_le}
use Rattle.std.specs.List.{range_with_len, list_any}
use Rattle.std.proofs.lemmas.Bool.{cases_lt, and_from, or_left, le-leb}
use Rattle.std.proofs.lemmas.Nat.{pow_pos}
use Rattle.std.proofs.lemmas.List.FromFn.{length-range_with_len, length-map-range_with_len}
use Rattle.std.proofs.lemmas.List.Filters.{length-filter_both}
use Rattle.pt_model.specs.declared.block.Block.{Block}
use Rattle.pt_model.specs.declared.block.Prot.{Prot}
use Rattle.pt_model.specs.declared.position.Position.{Position}
use Rattle.pt_model.specs.Layout.{Layout, end_of, is_size, level_of_size}
use Rattle.pt_model.specs.Sets.{IsSorted, IsAmong}
use Rattle.pt_model.specs.Tiling.{tiling_within, tiling, greatest_size}
use Rattle.pt_model.specs.Tables.{add_positions, all_needed, is_spine, least_top, levels_between, needed, position_over, spine_position, starting_top}
use Rattle.pt_model.specs.Book.{Book, mapped, linked_count, is_linked, missing, table_lies_in}
use Rattle.pt_laws.proofs.Sizes.{AnyOf, length_adds, length_filtered, length_members, some_among}
use Rattle.pt_model.proofs.Positions.{among_right, levels_among, among_levels, adds_are, among_passes, sorted_adds, sorted_levels}
use Rattle.pt_laws.proofs.Between.{size_fits}

member_fold : (f : Layout) (l : ℕ) (bs : List Block) (ps : List Position) (q : Position) → IsAmong ps q ⊎ AnyOf f l bs q →
    IsAmong (fold (λ xs b. add_positions xs (needed f l b)) ps bs) q
member_fold f l [] ps q m = elim m [ inl here ↦ here | inr none ↦ absurd none ]
member_fold f l (b ∷ bs) ps q m =
    member_fold f l bs (add_positions ps (needed f l b)) q (elim m [
      | inl here ↦ inl ((adds_are (needed f l b) ps q).1 (inl here))
      | inr any ↦ elim any [ inl now ↦ inl ((adds_are (needed f l b) ps q).1 (inr now)) | inr later ↦ inr later ]
    ])

pub sorted_fold : (f : Layout) (l : ℕ) (bs : List Block) (ps : List Position) → IsSorted ps → IsSorted (fold (λ xs b. add_positions xs (needed f l b)) ps bs)
sorted_fold f l [] ps s = s
sorted_fold f l (b ∷ bs) ps s = sorted_fold f l bs (add_positions ps (needed f l b)) (sorted_adds (needed f l b) ps s)

-- the last block of a tiling needs the spine up to the least top of the range's end
spine_needed : (f : Layout) (l : ℕ) (b : Block) (k : ℕ) → starting_top l ≤ k → k ≤ least_top f l (end_of b) → IsAmong (needed f l b) (spine_position k)
spine_needed f l b k low high =
    among_right (spine_position k) (map (position_over f b.first) (levels_between (level_of_size f b.log2) (least_top f l (end_of b))))
    (map spine_position (levels_between (starting_top l) (least_top f l (end_of b))))
    (levels_among spine_position (least_top f l (end_of b) + 1 - starting_top l) (starting_top l) k low (omega arith))

last_needs : (f : Layout) (l : ℕ) (prot : Prot) (fuel first out left last k : ℕ) → IsTrue (is_size f 0) → left ≤ fuel → 0 < left → first + left ≡ last →
    starting_top l ≤ k → k ≤ least_top f l last → AnyOf f l (tiling_within fuel f prot first out left) (spine_position k)
last_needs f l prot zero first out left last k page short some e low high = absurd (omega arith)
last_needs f l prot (suc fuel) first out zero last k page short some e low high = absurd (omega arith)
last_needs f l prot (suc fuel) first out (suc more) last k page short some e low high =
    let size : ℕ = 2 ^ greatest_size f first out (suc more) in
    let fits = size_fits f first out more page in
    let positive = pow_pos (greatest_size f first out (suc more)) in
    elim (cases_lt (2 ^ greatest_size f first out (suc more)) (suc more)) [
      | inr all ↦
          inl (spine_needed f l (record { first = first; log2 = greatest_size f first out (suc more); out = out; prot = prot }) k low
          (subst (λ (n : ℕ). k ≤ least_top f l n) (let s : last ≡ first + 2 ^ greatest_size f first out (suc more) = omega arith in s) high))
      | inl rest ↦
          inr (last_needs f l prot fuel (first + 2 ^ greatest_size f first out (suc more)) (out + 2 ^ greatest_size f first out (suc more)) (suc more - 2 ^ greatest_size f first out (suc more)) last k page
          (omega arith) (omega arith) (omega arith) low high)
    ]

module _ (f : Layout) (l first count out : ℕ) (prot : Prot) (page : IsTrue (is_size f 0)) (some : 0 < count) where
  abbrev A : List Position
  A = all_needed f l (tiling f prot first out count)

  abbrev t : ℕ
  t = least_top f l (first + count)

  pub sorted_needed : IsSorted A
  sorted_needed = sorted_fold f l (tiling f prot first out count) [] tt

  pub spine_in : (k : ℕ) → starting_top l ≤ k → k ≤ t → IsAmong A (spine_position k)
  spine_in k low high = member_fold f l (tiling f prot first out count) [] (spine_position k) (inr (last_needs f l prot count first out count (first + count) k page (omega arith) some refl low high))

  pub top_from : starting_top l ≤ t
  top_from = omega arith

  pub spine_test : (k : ℕ) → starting_top l ≤ k → is_spine l (spine_position k) ≡ true
  spine_test k low = and_from (nat_le (starting_top l) k) true (le-leb (starting_top l) k low) refl

  -- the spine positions among the needed ones
  spine_count : t + 1 - starting_top l ≤ length (filter (λ p. is_spine l p) A)
  spine_count =
      let few : length (map spine_position (range_with_len (starting_top l) (t + 1 - starting_top l))) ≤ length (filter (λ p. is_spine l p) A) =
      length_members (filter (λ p. is_spine l p) A) (map spine_position (range_with_len (starting_top l) (t + 1 - starting_top l)))
      (sorted_levels spine_position (λ k. refl) (t + 1 - starting_top l) (starting_top l))
      (λ q m.
      let h = among_levels spine_position (t + 1 - starting_top l) (starting_top l) q m in
      let low = h.1 in let high = h.2 in let from = top_from in
      subst (λ (r : Position). IsAmong (filter (λ p. is_spine l p) A) r) (sym h.3)
      (among_passes (λ p. is_spine l p) A (spine_position h.0) (spine_in h.0 low (omega arith)) (spine_test h.0 low))) in
      omega (arith, few, length-map-range_with_len spine_position (starting_top l) (t + 1 - starting_top l))

  -- what a map adds to the linked positions is at most its needed ones without the starting top
  pub adds_few : (book : Book) → starting_top l ≤ book.top →
      linked_count l (mapped f l book first count out prot) ≤ linked_count l book + (length A - 1)
  adds_few book low =
      let new : List Block = tiling f prot first out count in
      let kept : List Position = filter (λ p. not (list_any (λ b. table_lies_in f b.first (end_of b) p) (tiling f prot first out count))) book.tables in
      let more : List Position = filter (λ p. not (is_spine l p)) A in
      let a = length_adds more kept in
      let b = length_filtered (λ p. not (list_any (λ b. table_lies_in f b.first (end_of b) p) (tiling f prot first out count))) book.tables in
      let c = length-filter_both (λ p. is_spine l p) (λ p. not (is_spine l p)) (λ x. refl) A in
      let d = spine_count in
      let e = length-range_with_len (starting_top l) (book.top + 1 - starting_top l) in
      let g = length-range_with_len (starting_top l) (max book.top t + 1 - starting_top l) in
      let from = top_from in
      omega arith

  -- and of the needed ones at least the starting top is linked
  pub lacks_few : (book : Book) → starting_top l ≤ book.top → length (missing f l book first count out prot) ≤ length A - 1
  lacks_few book low =
      let both = length-filter_both (λ p. is_linked l book p) (λ p. not (is_linked l book p)) (λ x. refl) A in
      let start : Position = spine_position (starting_top l) in
      let is : is_linked l book (spine_position (starting_top l)) ≡ true =
      or_left _ _ (and_from (is_spine l (spine_position (starting_top l))) _ (spine_test (starting_top l) (omega arith)) (le-leb (starting_top l) book.top low)) in
      let from = top_from in
      let here = among_passes (λ p. is_linked l book p) A (spine_position (starting_top l)) (spine_in (starting_top l) (omega arith) from) is in
      omega (arith, both, some_among (filter (λ p. is_linked l book p) A) (spine_position (starting_top l)) here)
