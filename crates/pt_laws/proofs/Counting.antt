-- Linked positions of a set, before and after a call.
use Rattle.std.proofs.Common.{◌≡◌, ℕ, ◌+◌, ◌-◌, ◌<◌, ◌≤◌, List, [], ◌∷◌, true, false, Bool, ◌⊎◌, inl, inr, refl, ap, arith, length}
use Rattle.std.specs.Prelude.{IsTrue, filter, not, ◌&&◌, map, fold, nat_le}
use Rattle.std.specs.List.{list_any}
use Rattle.std.proofs.lemmas.Bool.{cases_Bool, and_from, and_parts, or_left, or_right, or_cases, le-leb, leb-true}
use Rattle.std.proofs.lemmas.List.Filters.{length-filter_both}
use Rattle.pt_model.specs.declared.block.Block.{Block}
use Rattle.pt_model.specs.declared.block.Prot.{Prot}
use Rattle.pt_model.specs.declared.position.Position.{Position}
use Rattle.pt_model.specs.Layout.{Layout, end_of, is_size, level_of_size}
use Rattle.pt_model.specs.Sets.{IsSorted, IsAmong}
use Rattle.pt_model.specs.Tiling.{tiling}
use Rattle.pt_model.specs.Tables.{add_positions, all_needed, is_spine, least_top, levels_between, needed, position_over, spine_position, starting_top}
use Rattle.pt_model.specs.Book.{Book, mapped, is_linked, missing, table_lies_in}
use Rattle.pt_model.proofs.Positions.{among_none, adds_are, among_append, among_any, any_among, among_filtered, among_levels, among_passes, sorted_adds, sorted_filter}
use Rattle.pt_laws.proofs.Sizes.{length_adds, length_members, some_among}
use Rattle.pt_model.proofs.Tops.{top_mono}
use Rattle.pt_laws.specs.Apart.{LieIn}
use Rattle.pt_model.specs.Unmap.{unmapped}
use Rattle.pt_laws.proofs.Between.{tiles_lie}
use Rattle.pt_laws.proofs.Enough.{sorted_needed, spine_in, spine_test, top_from}

-- What a tiling needs is at most as high as the least top of the range's end.
level_needed : (f : Layout) (l : ℕ) (b : Block) (p : Position) → IsAmong (needed f l b) p → p.level ≤ least_top f l (end_of b)
level_needed f l b p m =
    elim (among_append p
    (map (position_over f b.first) (levels_between (level_of_size f b.log2) (least_top f l (end_of b))))
    (map spine_position (levels_between (starting_top l) (least_top f l (end_of b)))) m) [
      | inl over ↦
          let h = among_levels (position_over f b.first) (least_top f l (end_of b) + 1 - level_of_size f b.log2) (level_of_size f b.log2) p over in
          let level : p.level ≡ h.0 = ap (λ (q : Position). q.level) h.3 in let a = h.1 in let c = h.2 in omega arith
      | inr spine ↦
          let h = among_levels spine_position (least_top f l (end_of b) + 1 - starting_top l) (starting_top l) p spine in
          let level : p.level ≡ h.0 = ap (λ (q : Position). q.level) h.3 in let a = h.1 in let c = h.2 in omega arith
    ]

level_fold : (f : Layout) (l lo hi : ℕ) (bs : List Block) (ps : List Position) → LieIn lo hi bs → ((p : Position) → IsAmong ps p → p.level ≤ least_top f l hi) →
    (p : Position) → IsAmong (fold (λ xs b. add_positions xs (needed f l b)) ps bs) p → p.level ≤ least_top f l hi
level_fold f l lo hi [] ps lie low p m = low p m
level_fold f l lo hi (b ∷ bs) ps lie low p m =
    level_fold f l lo hi bs (add_positions ps (needed f l b)) lie.3
    (λ q o. elim ((adds_are (needed f l b) ps q).0 o) [
      | inl was ↦ low q was
      | inr new ↦ omega (arith, level_needed f l b q new, top_mono f l (end_of b) hi lie.2)
    ])
    p m

module _ (f : Layout) (l : ℕ) (page : IsTrue (is_size f 0)) where
  pub level_tiled : (first count out : ℕ) (prot : Prot) (p : Position) → IsAmong (all_needed f l (tiling f prot first out count)) p → p.level ≤ least_top f l (first + count)
  level_tiled first count out prot p m = level_fold f l first (first + count) (tiling f prot first out count) [] (tiles_lie f prot count first out count (first + count) page refl) (λ q o. absurd (among_none q o)) p m

not_true : (b : Bool) → b ≡ false → not b ≡ true
not_true b e = ap not e

-- the linked ones of a set
abbrev pub linked_of : (l : ℕ) → Book → List Position → List Position
linked_of l b u = filter (λ p. is_linked l b p) u

module _ (f : Layout) (l first count out : ℕ) (prot : Prot) (page : IsTrue (is_size f 0)) (some : 0 < count) (b : Book) (low : starting_top l ≤ b.top)
    (u : List Position) (sorted : IsSorted u) (has : (p : Position) → IsAmong (all_needed f l (tiling f prot first out count)) p → IsAmong u p) where
  abbrev A : List Position
  A = all_needed f l (tiling f prot first out count)

  abbrev gone : Position → Bool
  gone p = list_any (λ x. table_lies_in f x.first (end_of x) p) (tiling f prot first out count)

  abbrev lost : List Position
  lost = filter (λ p. list_any (λ x. table_lies_in f x.first (end_of x) p) (tiling f prot first out count)) b.tables

  abbrev b' : Book
  b' = mapped f l b first count out prot

  abbrev lacks : List Position
  lacks = missing f l b first count out prot

  -- the starting top is in the set, and is linked
  pub starts : 1 ≤ length (linked_of l b u)
  starts =
      let from = top_from f l first count out prot page some in
      let is : is_linked l b (spine_position (starting_top l)) ≡ true =
      or_left _ _ (and_from (is_spine l (spine_position (starting_top l))) _ (spine_test f l first count out prot page some (starting_top l) (omega arith)) (le-leb (starting_top l) b.top low)) in
      some_among (linked_of l b u) (spine_position (starting_top l))
      (among_passes (λ p. is_linked l b p) u (spine_position (starting_top l)) (has (spine_position (starting_top l)) (spine_in f l first count out prot page some (starting_top l) (omega arith) from)) is)

  sorted_lacks : IsSorted lacks
  sorted_lacks = sorted_filter (λ p. not (is_linked l b p)) A (sorted_needed f l first count out prot page some)

  -- the linked ones and the lacking ones are apart in any set that has both
  apart : (y : List Position) → IsSorted y → ((p : Position) → IsAmong (linked_of l b u) p → IsAmong y p) → ((p : Position) → IsAmong lacks p → IsAmong y p) →
      length (linked_of l b u) + length lacks ≤ length y
  apart y s has_linked has_lacking =
      let both = length-filter_both (λ p. is_linked l b p) (λ p. not (is_linked l b p)) (λ x. refl) y in
      let x = length_members (linked_of l b y) (linked_of l b u) (sorted_filter (λ p. is_linked l b p) u sorted)
      (λ p m. among_passes (λ p. is_linked l b p) y p (has_linked p m) (among_filtered (λ p. is_linked l b p) u p m).1) in
      let z = length_members (filter (λ p. not (is_linked l b p)) y) lacks sorted_lacks
      (λ p m. among_passes (λ p. not (is_linked l b p)) y p (has_lacking p m) (among_filtered (λ p. not (is_linked l b p)) A p m).1) in
      omega arith

  pub room : length (linked_of l b u) + length lacks ≤ length u
  room = apart u sorted (λ p m. (among_filtered (λ p. is_linked l b p) u p m).0) (λ p m. has p (among_filtered (λ p. not (is_linked l b p)) A p m).0)

  -- behind the map
  kept : (p : Position) → is_linked l b p ≡ true → (is_linked l b' p ≡ true) ⊎ IsAmong lost p
  kept p e = elim (or_cases (is_spine l p && nat_le p.level b.top) _ e) [
    | inl spine ↦
        let h = and_parts (is_spine l p) _ spine in
        let high = leb-true p.level b.top h.1 in
        inl (or_left _ _ (and_from (is_spine l p) _ h.0 (le-leb p.level b'.top (omega arith))))
    | inr table ↦
        let m = any_among b.tables p table in
        elim (cases_Bool (gone p)) [
          | inl holds ↦ inr (among_passes (λ p. list_any (λ x. table_lies_in f x.first (end_of x) p) (tiling f prot first out count)) b.tables p m holds)
          | inr fails ↦
              inl (or_right (is_spine l p && nat_le p.level b'.top) _ (among_any b'.tables p
              ((adds_are (filter (λ p. not (is_spine l p)) A) (filter (λ p. not (list_any (λ x. table_lies_in f x.first (end_of x) p) (tiling f prot first out count))) b.tables) p).1
              (inl (among_passes (λ p. not (list_any (λ x. table_lies_in f x.first (end_of x) p) (tiling f prot first out count))) b.tables p m (not_true (gone p) fails))))))
        ]
  ]

  comes : (p : Position) → IsAmong A p → is_linked l b' p ≡ true
  comes p m = elim (cases_Bool (is_spine l p)) [
    | inl holds ↦
        or_left _ _ (and_from (is_spine l p) _ holds (le-leb p.level b'.top (omega (arith, level_tiled f l page first count out prot p m))))
    | inr fails ↦
        or_right (is_spine l p && nat_le p.level b'.top) _ (among_any b'.tables p
        ((adds_are (filter (λ p. not (is_spine l p)) A) (filter (λ p. not (list_any (λ x. table_lies_in f x.first (end_of x) p) (tiling f prot first out count))) b.tables) p).1
        (inr (among_passes (λ p. not (is_spine l p)) A p m (not_true (is_spine l p) fails)))))
  ]

  -- what the set gains in linked ones, and the tables that the book loses, are at least what the book lacked
  pub grows : length (linked_of l b u) + length lacks ≤ length (linked_of l b' u) + length lost
  grows =
      let few = length_adds lost (linked_of l b' u) in
      let both = apart (add_positions (linked_of l b' u) lost) (sorted_adds lost (linked_of l b' u) (sorted_filter (λ p. is_linked l b' p) u sorted))
      (λ p m. let h = among_filtered (λ p. is_linked l b p) u p m in
      (adds_are lost (linked_of l b' u) p).1 (elim (kept p h.1) [
        | inl still ↦ inl (among_passes (λ p. is_linked l b' p) u p h.0 still)
        | inr out ↦ inr out
      ]))
      (λ p m. let h = among_filtered (λ p. not (is_linked l b p)) A p m in
      (adds_are lost (linked_of l b' u) p).1 (inl (among_passes (λ p. is_linked l b' p) u p (has p h.0) (comes p h.0)))) in
      omega arith

-- behind an unmap
module _ (f : Layout) (l : ℕ) (b : Book) (first count : ℕ) (u : List Position) (sorted : IsSorted u) where
  abbrev after : Book
  after = unmapped f b first count

  abbrev out : List Position
  out = filter (λ p. table_lies_in f first (first + count) p) b.tables

  stays : (p : Position) → is_linked l b p ≡ true → (is_linked l after p ≡ true) ⊎ IsAmong out p
  stays p e = elim (or_cases (is_spine l p && nat_le p.level b.top) _ e) [
    | inl spine ↦ inl (or_left (is_spine l p && nat_le p.level b.top) _ spine)
    | inr table ↦
        let m = any_among b.tables p table in
        elim (cases_Bool (table_lies_in f first (first + count) p)) [
          | inl holds ↦ inr (among_passes (λ p. table_lies_in f first (first + count) p) b.tables p m holds)
          | inr fails ↦
              inl (or_right (is_spine l p && nat_le p.level b.top) _ (among_any after.tables p
              (among_passes (λ p. not (table_lies_in f first (first + count) p)) b.tables p m (not_true (table_lies_in f first (first + count) p) fails))))
        ]
  ]

  pub loses : length (linked_of l b u) ≤ length (linked_of l after u) + length out
  loses =
      let few = length_adds out (linked_of l after u) in
      let all = length_members (add_positions (linked_of l after u) out) (linked_of l b u) (sorted_filter (λ p. is_linked l b p) u sorted)
      (λ p m. let h = among_filtered (λ p. is_linked l b p) u p m in
      (adds_are out (linked_of l after u) p).1 (elim (stays p h.1) [
        | inl still ↦ inl (among_passes (λ p. is_linked l after p) u p h.0 still)
        | inr gone ↦ inr gone
      ])) in
      omega arith
