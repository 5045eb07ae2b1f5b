-- Spans that stand in cuts.
use Rattle.std.proofs.Common.{◌≡◌, ◌⊎◌, ℕ, ◌+◌, ◌-◌, ◌≤◌, inl, inr, List, [], ◌∷◌, sym, ◌∙◌, subst, arith}
use Rattle.std.specs.Prelude.{nat_le, slice_index_or}
use Rattle.std.proofs.lemmas.Bool.{and_parts, leb-true}
use Rattle.pt_model.specs.Layout.{Layout, end_of}
use Rattle.pt_model.specs.Book.{Book, IsLawful, span_end}
use Rattle.pt_forks.specs.Places.{IsWidened}
use Rattle.pt_reply.specs.Running.{book_in}
use Rattle.pt_laws.proofs.Between.{crosses_apart}
use Rattle.pt_narrow.specs.declared.narrowed.Narrowing.{Narrowing}
use Rattle.pt_narrow.specs.Standing.{IsCut, IsSide, IsStanding, LeavesApart, Stand, StandsIn, over_span, place_of}
use Rattle.pt_narrow.proofs.Apart.{found_none}

-- such a span is of the book's
pub within : (b : Book) (first count : ℕ) (ns : List Narrowing) → StandsIn b first count ns → (b.first ≤ first) × (first + count ≤ span_end b)
within b first count [] s = let e = s.0 in let n = s.1 in (omega arith, omega arith)
within b first count (n ∷ ns) s =
    let outer = within b n.first n.count ns s.2 in
    let low = outer.0 in
    let high = outer.1 in
    let above = s.1.above in
    let below = s.1.below in
    elim s.0 [
      | inl left ↦ let e = left.0 in let end = left.1 in (omega arith, omega arith)
      | inr right ↦ let e = right.0 in let end = right.1 in (omega arith, omega arith)
    ]

-- no block is on both sides of its ends, where none is of the book's
pub ends_apart : (b : Book) (first count : ℕ) (ns : List Narrowing) → LeavesApart b b.first → LeavesApart b (span_end b) → StandsIn b first count ns →
    LeavesApart b first × LeavesApart b (first + count)
ends_apart b first count [] low high s =
    (subst (LeavesApart b) (sym s.0) low, subst (LeavesApart b) (λ i. sym s.0 i + sym s.1 i) high)
ends_apart b first count (n ∷ ns) low high s =
    let outer = ends_apart b n.first n.count ns low high s.2 in
    elim s.0 [
      | inl left ↦ (subst (LeavesApart b) (sym left.0) outer.0, subst (LeavesApart b) (sym left.1) s.1.apart)
      | inr right ↦ (subst (LeavesApart b) (sym right.0) s.1.apart, subst (LeavesApart b) (sym right.1) outer.1)
    ]

pub lawful_ends : (f : Layout) (levels : ℕ) (b : Book) → IsLawful f levels b → LeavesApart b b.first × LeavesApart b (span_end b)
lawful_ends f levels b good = (
  λ k d h.
      let x = slice_index_or b.blocks k d in
      let i = and_parts (nat_le b.first x.first) _ (good.in_span k d h) in
      (crosses_apart b.first b.first b.first (omega arith) (omega arith)).behind x (leb-true b.first x.first i.0),
  λ k d h.
      let x = slice_index_or b.blocks k d in
      let i = and_parts (nat_le b.first x.first) _ (good.in_span k d h) in
      (crosses_apart (span_end b) (span_end b) (span_end b) (omega arith) (omega arith)).before x (leb-true (end_of x) (span_end b) i.1),
)

-- a change between two pages leaves the cuts around them
module _ (b c : Book) (same_first : c.first ≡ b.first) (same_count : c.count ≡ b.count) (lo hi : ℕ) (keeps : (page : ℕ) → (page ≤ lo) ⊎ (hi ≤ page) → LeavesApart b page → LeavesApart c page) where
  pub stands_on : (first count : ℕ) (ns : List Narrowing) → first ≤ lo → hi ≤ first + count → StandsIn b first count ns → StandsIn c first count ns
  stands_on first count [] low high s = (s.0 ∙ sym same_first, s.1 ∙ sym same_count)
  stands_on first count (n ∷ ns) low high s =
      let above = s.1.above in
      let below = s.1.below in
      let around : (n.first ≤ lo) × (hi ≤ n.first + n.count) × ((n.at ≤ lo) ⊎ (hi ≤ n.at)) = elim s.0 [
        | inl left ↦ let e = left.0 in let end = left.1 in (omega arith, omega arith, inr (omega arith))
        | inr right ↦ let e = right.0 in let end = right.1 in (omega arith, omega arith, inl (omega arith))
      ] in (
        s.0,
        record { above = above; below = below; apart = keeps n.at around.2 s.1.apart },
        stands_on n.first n.count ns around.0 around.1 s.2,
      )

-- the span from before the innermost cut
same_count_again : (first count : ℕ) → count ≡ first + count - first
same_count_again first count = omega arith

widened_at : (f : Layout) (s : Stand) (n : Narrowing) (ns : List Narrowing) → IsCut (book_in s.owned.view) n →
    IsWidened (place_of f (record s { cuts = n ∷ ns })) (place_of f (record { owned = s.owned; first = n.first; count = n.count; cuts = ns }))
widened_at f s n ns cut = (
  λ i. record {
    machine = (place_of f s).machine;
    book = over_span (place_of f s).book n.first (same_count_again n.first n.count i);
    cuts = (place_of f (record s { cuts = ns })).cuts;
  },
  found_none n.at (place_of f s).book.blocks cut.apart,
)

module _ (f : Layout) (s : Stand) (stands : IsStanding f s) where
  module _ (n : Narrowing) (ns : List Narrowing) (e : s.cuts ≡ n ∷ ns) where
    abbrev outer : Stand
    outer = record { owned = s.owned; first = n.first; count = n.count; cuts = ns }

    stood : StandsIn (book_in s.owned.view) s.first s.count (n ∷ ns)
    stood = subst (StandsIn (book_in s.owned.view) s.first s.count) e stands.stands

    pub widened : IsWidened (place_of f s) (place_of f outer)
    widened =
        subst (λ (cuts : List Narrowing). IsWidened (place_of f (record s { cuts = cuts })) (place_of f outer)) (sym e) (widened_at f s n ns stood.1)

  -- one side of a cut of the span
  pub stands_inside : (n : Narrowing) (first count : ℕ) (cuts : List Narrowing) → n.first ≡ s.first → n.count ≡ s.count → cuts ≡ n ∷ s.cuts →
      IsCut (place_of f s).book n → IsSide first count n → IsStanding f (record { owned = s.owned; first = first; count = count; cuts = cuts })
  stands_inside n first count cuts same_first same_count e cut side =
      let above = cut.above in
      let below = cut.below in
      record {
        ready = stands.ready;
        aside = stands.aside;
        small = stands.small;
        some = elim side [
          | inl left ↦ let a = left.0 in let z = left.1 in omega arith
          | inr right ↦ let a = right.0 in let z = right.1 in omega arith
        ];
        stands = subst (StandsIn (book_in s.owned.view) first count) (sym e) (
          side,
          record { above = above; below = below; apart = cut.apart },
          subst (λ (x : ℕ). StandsIn (book_in s.owned.view) x n.count s.cuts) (sym same_first)
              (subst (λ (x : ℕ). StandsIn (book_in s.owned.view) s.first x s.cuts) (sym same_count) stands.stands),
        );
      }
