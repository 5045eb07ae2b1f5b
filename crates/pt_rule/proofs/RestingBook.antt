-- The book of a live view at rest is lawful.
use Rattle.std.proofs.Common.{◌≡◌, ◌⊎◌, inl, inr, ℕ, zero, suc, false, ◌+◌, ◌-◌, ◌*◌, ◌^◌, ◌<◌, ◌≤◌, List, [], ◌∷◌, ◌++◌, sym, ap, ◌∙◌, subst, arith, ⊎_elim}
use Rattle.std.specs.Prelude.{IsTrue, All, AllPairs, Contains, map}
use Rattle.std.specs.List.{AllByRecursion, range_with_len}
use Rattle.std.proofs.lemmas.List.Elements.{All-from_recursion}
use Rattle.std.proofs.lemmas.List.Kept.{AllPairs-cons}
use Rattle.std.proofs.lemmas.Nat.{pow_pos}
use mathlib.Core.Option.{some}
use mathlib.Core.Logic.{dite}
use native.Mathlib.Decide.{ℕ_discrete}
use lib.ListN.{get_elem?}
use Rattle.pt_model.specs.declared.position.Position.{Position}
use Rattle.pt_model.specs.declared.block.Block.{Block}
use Rattle.pt_model.specs.Layout.{Layout, IsLegalBlock, end_of, level_of_size, pages_of_entry, pages_of_table}
use Rattle.pt_model.specs.Tables.{IsPosition, is_before, is_spine, needed}
use Rattle.pt_model.specs.Book.{IsLawful, lies_in, table_meets}
use Rattle.pt_format.specs.Laws.{IsLayout}
use Rattle.pt_view.specs.declared.view.View.{View}
use Rattle.pt_view.specs.declared.view.Piece.{Piece}
use Rattle.pt_model.specs.Sets.{IsAmong, IsSorted}
use Rattle.pt_view.specs.Pieces.{all_pieces, first_of, pieces_of, words_of}
use Rattle.pt_view.specs.Views.{IsAtRest, book_of}
use Rattle.pt_rule.specs.Lawful.{Lawful, HasBook, IsOwnPiece, IsOwnTable}
use Rattle.pt_model.proofs.Positions.{among_cases, all_among}
use Rattle.pt_view.proofs.Members.{all_map}
use Rattle.pt_rule.proofs.SpansFacts.{page_within}
use Rattle.pt_rule.proofs.PathOverBlock.{block_is}
use Rattle.pt_rule.proofs.PiecesApart.{Spaced, last_of, spaced}

-- Lists.

all_parts : {X : Type 0} (P : X → Type 0) (xs ys : List X) → AllByRecursion P (xs ++ ys) → AllByRecursion P xs × AllByRecursion P ys
all_parts P [] ys all = (tt, all)
all_parts P (x ∷ xs) ys all = let rest = all_parts P xs ys all.1 in ((all.0, rest.0), rest.1)

-- a list by recursion, as one by index
all_of : {X : Type 0} (P Q : X → Type 0) (xs : List X) → ((x : X) → P x → Q x) → AllByRecursion P xs → All Q xs
all_of P Q xs h all = All-from_recursion Q xs (all_map P Q xs h all)

contains : (ps : List Position) (p : Position) → IsAmong ps p → Contains ps p
contains [] p m = absurd (omega arith)
contains (q ∷ qs) p m = ⊎_elim (λ (e : p ≡ q). (0, omega arith, sym e))
    (λ (later : IsAmong qs p). let rest = contains qs p later in (suc rest.0, (let less = rest.1 in omega arith), rest.2)) (among_cases p q qs m)

tables_in_order : (ps : List Position) → IsSorted ps → AllPairs (λ p q. IsTrue (is_before p q)) ps
tables_in_order [] s = λ i j d less inside. absurd (omega arith)
tables_in_order (p ∷ ps) s = AllPairs-cons (λ x y. IsTrue (is_before x y)) p ps (All-from_recursion (λ q. IsTrue (is_before p q)) ps (all_among (λ q. IsTrue (is_before p q)) ps s.0)) (tables_in_order ps s.1)

-- Blocks.

abbrev piece_at : Block → ℕ → Piece
piece_at b part = record { block = b; part = part }

-- what holds of each piece of a run of parts holds of a part of it
part_has : (P : Piece → Type 0) (b : Block) (count low : ℕ) → AllByRecursion P (map (piece_at b) (range_with_len low count)) → (part : ℕ) → low ≤ part → part < low + count → P (piece_at b part)
part_has P b zero low all part from to = absurd (omega arith)
part_has P b (suc count) low all part from to = dite (ℕ_discrete low part)
    (λ e. subst (λ (k : ℕ). P (piece_at b k)) e all.0)
    (λ ne. part_has P b count (low + 1) all.1 part (omega arith) (omega arith))

words_some : (f : Layout) (b : Block) → 0 < words_of f b
words_some f b = pow_pos (b.log2 - f.index * level_of_size f b.log2)

-- each block has a first piece
first_pieces : (f : Layout) (P : Piece → Type 0) (bs : List Block) → AllByRecursion P (all_pieces f bs) → AllByRecursion (λ b. P (piece_at b 0)) bs
first_pieces f P [] all = tt
first_pieces f P (b ∷ bs) all =
    let both = all_parts P (pieces_of f b) (all_pieces f bs) all in
    let some_word = words_some f b in
    (part_has P b (words_of f b) 0 both.0 0 (omega arith) (omega arith), first_pieces f P bs both.1)

-- where a list is spaced, each piece of its front ends before those of its rest begin
spaced_parts : (f : Layout) (xs ys : List Piece) → Spaced f (xs ++ ys) → AllByRecursion (λ x. AllByRecursion (λ y. last_of f x ≤ first_of f y) ys) xs × Spaced f ys
spaced_parts f [] ys s = (tt, s)
spaced_parts f (x ∷ xs) ys s =
    let rest = spaced_parts f xs ys s.1 in
    let here = all_parts (λ y. last_of f x ≤ first_of f y) xs ys s.0 in
    ((here.1, rest.0), rest.1)

-- so many of a size are one less of them and one more
with_last : (m e : ℕ) → 0 < m → m * e ≡ (m - 1) * e + e
with_last m e h =
    let one : m ≡ m - 1 + 1 = omega arith in
    let split : (m - 1 + 1) * e ≡ (m - 1) * e + e = add_one (m - 1) e in
    ap (λ k. k * e) one ∙ split
  where
    add_one : (k e : ℕ) → (k + 1) * e ≡ k * e + e
    add_one k e = omega arith

module _ (f : Layout) (good : IsLayout f) (v : View) where
  -- the last piece of a block ends where the block does
  last_piece : (b : Block) → IsOwnPiece f v (piece_at b 0) → last_of f (piece_at b (words_of f b - 1)) ≡ end_of b
  last_piece b own =
      let some_word = words_some f b in
      let e : ℕ = pages_of_entry f (level_of_size f b.log2) in
      let whole : 2 ^ b.log2 ≡ words_of f b * e = block_is f good (piece_at b 0) own.a_part own.legal in
      let sum : words_of f b * e ≡ (words_of f b - 1) * e + e = with_last (words_of f b) e some_word in
      omega (arith, whole, sum)

  -- blocks whose pieces are spaced are in order and apart
  blocks_in_order : (bs : List Block) → AllByRecursion (λ b. IsOwnPiece f v (piece_at b 0)) bs → Spaced f (all_pieces f bs) → AllPairs (λ b c. end_of b ≤ c.first) bs
  blocks_in_order [] own s = λ i j d less inside. absurd (omega arith)
  blocks_in_order (b ∷ bs) own s =
      let parts = spaced_parts f (pieces_of f b) (all_pieces f bs) s in
      let some_word = words_some f b in
      let last : Piece = piece_at b (words_of f b - 1) in
      let after : AllByRecursion (λ y. last_of f last ≤ first_of f y) (all_pieces f bs) =
      part_has (λ x. AllByRecursion (λ y. last_of f x ≤ first_of f y) (all_pieces f bs)) b (words_of f b) 0 parts.0 (words_of f b - 1) (omega arith) (omega arith) in
      let ends = last_piece b own.0 in
      AllPairs-cons (λ c d. end_of c ≤ d.first) b bs
      (all_of (λ c. last_of f last ≤ first_of f (piece_at c 0)) (λ c. end_of b ≤ c.first) bs (λ c a. omega (arith, a, ends))
      (first_pieces f (λ y. last_of f last ≤ first_of f y) bs after))
      (blocks_in_order bs own.1 parts.1)

-- the book of a live view at rest is lawful
pub resting : (f : Layout) → IsLayout f → (n l : ℕ) (words : List ℕ) (views : List View) (id : ℕ) (v : View) → Lawful f n l words views → get_elem? views id ≡ some v →
    0 < v.count → (blocks : List Block) → IsAtRest f v blocks → IsLawful f v.levels (book_of v blocks)
resting f good n l words views id v r at live blocks rest =
    let book : HasBook f v = r.books id v at live in
    let own : AllByRecursion (λ b. IsOwnPiece f v (piece_at b 0)) blocks =
    first_pieces f (IsOwnPiece f v) blocks (subst (AllByRecursion (IsOwnPiece f v)) rest.pieces book.pieces) in
    let last = page_within f views r.spans id v (v.first + v.count - 1) at (omega arith) (omega arith) in
    record {
      in_space = omega arith;
      legal = all_of (λ b. IsOwnPiece f v (piece_at b 0)) (IsLegalBlock f) blocks (λ b o. o.legal) own;
      stated = all_of (λ b. IsOwnPiece f v (piece_at b 0)) (λ b. IsTrue (f.states b.prot)) blocks (λ b o. o.stated) own;
      in_order = blocks_in_order f good v blocks own (subst (Spaced f) rest.pieces (spaced f n l words views good r id v at live));
      in_span = all_of (λ b. IsOwnPiece f v (piece_at b 0)) (λ b. IsTrue (lies_in v.first (v.first + v.count) b)) blocks (λ b o. o.in_span) own;
      under_top = all_of (λ b. IsOwnPiece f v (piece_at b 0)) (λ b. end_of b ≤ pages_of_table f v.top) blocks (λ b o. o.under_top) own;
      positions = all_of (IsOwnTable f v) (IsPosition f) v.tables (λ p o. o.a_position) book.tables;
      tables_in_order = tables_in_order v.tables book.in_order;
      tables_meet = all_of (IsOwnTable f v) (λ p. IsTrue (table_meets f v.first (v.first + v.count) p)) v.tables (λ p o. o.meets) book.tables;
      off_spine = all_of (IsOwnTable f v) (λ p. is_spine v.levels p ≡ false) v.tables (λ p o. o.off_spine) book.tables;
      has_needed = all_of (λ b. IsOwnPiece f v (piece_at b 0))
          (λ b. All (λ p. Contains v.tables p ⊎ (IsTrue (is_spine v.levels p) × (p.level ≤ v.top))) (needed f v.levels b)) blocks
          (λ b o. all_of (λ p. IsAmong v.tables p ⊎ (IsTrue (is_spine v.levels p) × (p.level ≤ v.top)))
          (λ p. Contains v.tables p ⊎ (IsTrue (is_spine v.levels p) × (p.level ≤ v.top))) (needed f v.levels b)
          (λ p h. ⊎_elim (λ (a : IsAmong v.tables p). inl (contains v.tables p a)) (λ s. inr s) h) o.has_needed) own;
      top_least = book.top_low;
      top_below = book.top_high;
    }
