-- The lowest mapped page of a range, by the pieces of a view at rest and by the blocks of its book.
use Rattle.std.proofs.Common.{◌≡◌, ℕ, zero, suc, ◌<◌, ◌≤◌, List, [], ◌∷◌, true, false, inl, inr, refl, ap, sym, subst, ◌∙◌, arith}
use Rattle.std.specs.Prelude.{nat_lt, max, length, slice_index_or, find, Option, Some, None, option_map}
use Rattle.std.proofs.lemmas.Bool.{and_parts, and_from, lt-ltb, ltb-true, cases_lt, false_from_ne_true}
use Rattle.std.proofs.lemmas.Nat.{pow_pos}
use Rattle.pt_model.specs.declared.block.Block.{Block}
use Rattle.pt_model.specs.Layout.{Layout, end_of}
use Rattle.pt_model.specs.Book.{IsLawful, lowest_mapped, meets}
use Rattle.pt_format.specs.Laws.{IsLayout}
use Rattle.pt_view.specs.declared.view.View.{View}
use Rattle.pt_view.specs.declared.view.Piece.{Piece}
use Rattle.pt_view.specs.Pieces.{IsOneOf, all_pieces, pieces_of, IsUnderPiece}
use Rattle.pt_view.proofs.Members.{in_blocks, one_of_left, one_of_right}
use Rattle.pt_view.proofs.Pieces.{ends_in_block}
use Rattle.pt_walk.proofs.Descent.{own_piece}
use Rattle.pt_view.specs.Views.{IsAtRest, book_of}
use Rattle.pt_walk.specs.Walks.{IsFree, IsLowest, IsOwn, OwnsAll}
use Rattle.pt_walk.proofs.Books.{piece_over}
use Rattle.pt_map.proofs.BlocksAdded.{Apart, InOrder, in_order_from}
use Rattle.pt_tile.specs.Extents.{IsOneBlock}

-- Blocks of a list.

pub block_at_index : (bs : List Block) (b : Block) (k : ℕ) → k < length bs → slice_index_or bs k b ≡ b → IsOneBlock bs b
block_at_index [] b k less e = absurd (omega arith)
block_at_index (c ∷ bs) b zero less e = inl e
block_at_index (c ∷ bs) b (suc k) less e = inr (block_at_index bs b k (omega arith) e)

pub piece_of_block : (f : Layout) (bs : List Block) (b : Block) (x : Piece) → IsOneBlock bs b → IsOneOf (pieces_of f b) x → IsOneOf (all_pieces f bs) x
piece_of_block f [] b x m h = absurd m
piece_of_block f (c ∷ bs) b x m h = elim m [
  | inl e ↦ one_of_left (pieces_of f c) (all_pieces f bs) x (subst (λ (d : Block). IsOneOf (pieces_of f d) x) (sym e) h)
  | inr later ↦ one_of_right (pieces_of f c) (all_pieces f bs) x (piece_of_block f bs b x later h)
]

-- no block of a list has a page of a range
abbrev pub BlocksFree : List Block → (first end : ℕ) → Type 0
BlocksFree bs first end = (b : Block) → IsOneBlock bs b → (page : ℕ) → first ≤ page → page < end → b.first ≤ page → page < end_of b → ⊥

apart_free : (first end : ℕ) (bs : List Block) → first < end → BlocksFree bs first end → Apart first end bs
apart_free first end [] some free = tt
apart_free first end (b ∷ bs) some free = (
  elim (cases_lt first (end_of b)) [
    | inr before ↦ inl before
    | inl reaches ↦ elim (cases_lt b.first end) [
      | inr behind ↦ inr behind
      | inl begins ↦ absurd (free b (inl refl) (max first b.first) (omega arith) (omega arith) (omega arith) (omega (arith, pow_pos b.log2)))
    ]
  ],
  apart_free first end bs some (λ c m. free c (inr m)),
)

meets_true : (first end : ℕ) (b : Block) → b.first < end → first < end_of b → meets first end b ≡ true
meets_true first end b low high = and_from (nat_lt b.first end) _ (lt-ltb b.first end low) (lt-ltb first (end_of b) high)

meets_parts : (first end : ℕ) (b : Block) → meets first end b ≡ true → (b.first < end) × (first < end_of b)
meets_parts first end b e =
    let h : (nat_lt b.first end ≡ true) × (nat_lt first (end_of b) ≡ true) = and_parts (nat_lt b.first end) _ e in
    (ltb-true b.first end h.0, ltb-true first (end_of b) h.1)

-- a block that meets a range has a page of it
meets_free : (first end : ℕ) (bs : List Block) (b : Block) → first < end → BlocksFree bs first end → IsOneBlock bs b → meets first end b ≡ false
meets_free first end bs b some free m = false_from_ne_true (meets first end b) (λ e.
    let h = meets_parts first end b e in let low = h.0 in let high = h.1 in
    free b m (max first b.first) (omega arith) (omega arith) (omega arith) (omega (arith, pow_pos b.log2)))

find_none : (first end : ℕ) (bs : List Block) → first < end → BlocksFree bs first end → find (meets first end) bs ≡ None
find_none first end [] some free = refl
find_none first end (b ∷ bs) some free =
    let no : meets first end b ≡ false = meets_free first end (b ∷ bs) b some free (inl refl) in
    rw no (find_none first end bs some (λ c m. free c (inr m)))

-- a later block begins at the end of an earlier one or behind it
later_first : (n : ℕ) (bs : List Block) (b : Block) → InOrder n bs → IsOneBlock bs b → n ≤ b.first
later_first n [] b order m = absurd m
later_first n (c ∷ bs) b order m = elim m [
  | inl e ↦ subst (λ (d : Block). n ≤ d.first) e order.0
  | inr later ↦ (let a = order.0 in let z = later_first (end_of c) bs b order.1 later in omega arith)
]

-- the block that has the lowest mapped page is the first that meets the range
find_first : (first end page n : ℕ) (bs : List Block) (b : Block) → first ≤ page → page < end → BlocksFree bs first page → InOrder n bs → IsOneBlock bs b →
    b.first ≤ page → page < end_of b → find (meets first end) bs ≡ Some b
find_first first end page n [] b from to free order m low high = absurd m
find_first first end page n (c ∷ bs) b from to free order m low high = elim m [
  | inl e ↦
      (let here : meets first end b ≡ true = meets_true first end b (omega arith) (omega arith) in
      subst (λ (d : Block). find (meets first end) (d ∷ bs) ≡ Some b) (sym e) (rw here refl))
  | inr later ↦
      (let behind = later_first (end_of c) bs b order.1 later in
      let no : meets first end c ≡ false = false_from_ne_true (meets first end c) (λ e.
      let h = meets_parts first end c e in let high = h.1 in
      free c (inl refl) (max first c.first) (omega arith) (omega (arith, pow_pos c.log2)) (omega arith) (omega (arith, pow_pos c.log2))) in
      rw no (find_first first end page (end_of c) bs b from to (λ d k. free d (inr k)) order.1 later low high))
]

-- What the book of a view at rest says of a range.
module _ {f : Layout} (good : IsLayout f) {v : View} {blocks : List Block} (rest : IsAtRest f v blocks) where
  pub blocks_free : (first end : ℕ) → IsFree f v first end → BlocksFree blocks first end
  blocks_free first end free b m page from to low high =
      let x : (x : Piece) × IsOneOf (pieces_of f b) x × IsUnderPiece f x page = piece_over f good b page low high in
      free page from to x.0 (subst (λ (xs : List Piece). IsOneOf xs x.0) (sym rest.pieces) (piece_of_block f blocks b x.0 m x.1)) x.2

  pub free_apart : (first end : ℕ) → first < end → IsFree f v first end → Apart first end blocks
  free_apart first end some free = apart_free first end blocks some (blocks_free first end free)

  pub none_mapped : (first end : ℕ) → first < end → IsFree f v first end → lowest_mapped (book_of v blocks) first end ≡ None
  none_mapped first end some free =
      ap (λ (o : Option Block). option_map (λ (b : Block). max first b.first) o) (find_none first end blocks some (blocks_free first end free))

  pub first_mapped : (lawful : IsLawful f v.levels (book_of v blocks)) → OwnsAll f v → (first end page : ℕ) → IsLowest f v first end page →
      lowest_mapped (book_of v blocks) first end ≡ Some page
  first_mapped lawful owns first end page h =
      let x : Piece = h.piece in
      let own : IsOwn f v x = owns x h.own in
      let i = in_blocks f blocks x (subst (λ (xs : List Piece). IsOneOf xs x) rest.pieces h.own) in
      let m : IsOneBlock blocks x.block = block_at_index blocks x.block i.0.0 i.0.1 i.0.2 in
      let low = h.has_page.0 in let high = h.has_page.1 in
      let ends = ends_in_block good (own_piece own) in
      let free = blocks_free first page h.free in
      let from = h.from in let to = h.to in
      let order = in_order_from 0 blocks (λ k b less e. omega arith) lawful.in_order in
      let found = find_first first end page 0 blocks x.block h.from h.to free order m (omega arith) (omega arith) in
      let least : max first x.block.first ≡ page = elim (cases_lt (max first x.block.first) page) [
        | inl less ↦ absurd (free x.block m (max first x.block.first) (omega arith) less (omega arith) (omega arith))
        | inr more ↦ omega arith
      ] in
      ap (λ (o : Option Block). option_map (λ (b : Block). max first b.first) o) found ∙ ap Some least
