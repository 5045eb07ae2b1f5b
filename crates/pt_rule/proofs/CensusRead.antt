-- The census of a view of the whole space at rest, over its words: what a word reads as tells of the piece there, and the
-- pieces of its blocks, added up.
use Rattle.std.proofs.Common.{◌≡◌, ℕ, zero, suc, Bool, ◌+◌, ◌-◌, ◌*◌, ◌/◌, ◌%◌, ◌^◌, ◌<◌, ◌≤◌, List, [], ◌∷◌, ◌++◌, length, refl, ap, sym, ◌∙◌, subst, arith}
use Rattle.std.specs.Prelude.{◌==◌, AllPairs, Option, None, map, slice_index_or}
use Rattle.std.specs.List.{range_with_len}
use Rattle.std.proofs.Math.Pow.{mod-mod-pow}
use Rattle.std.proofs.lemmas.Bool.{ne_eqb}
use Rattle.std.proofs.lemmas.List.Elements.{All-contains}
use Rattle.std.proofs.lemmas.Nat.{mod-mul-add, pow-add, pow_pos, shl-shr}
use Rattle.pt_model.specs.declared.block.Block.{Block}
use Rattle.pt_model.specs.declared.block.Prot.{Prot}
use Rattle.pt_model.specs.declared.position.Position.{Position}
use Rattle.pt_model.specs.Layout.{IsLegalBlock, Layout, end_of, input_pages, level_of_size, pages, pages_of_entry}
use Rattle.pt_model.specs.Book.{IsLawful}
use Rattle.pt_model.specs.Sets.{one_if}
use Rattle.pt_model.specs.Tables.{IsPosition, child_at}
use Rattle.pt_model.specs.Unmap.{pages_in}
use Rattle.pt_model.specs.Words.{tag, placed_at, entry_of, frame_address}
use Rattle.pt_model.proofs.Quotients.{size_below, size_split, whole}
use Rattle.pt_format.specs.declared.read.Read.{Read}
use Rattle.pt_format.specs.declared.read.Read.TheVariants.{Empty, Table, Leaf, Alien}
use Rattle.pt_format.specs.Reading.{ReadsAs}
use Rattle.pt_format.specs.Words.{IsLeaf, IsTableAddress, MayBeLeaf, words_in}
use Rattle.pt_format.specs.Laws.{IsLayout, WordsDiffer}
use Rattle.pt_format.specs.Manual.{StepsAgree}
use Rattle.pt_view.specs.declared.view.View.{View}
use Rattle.pt_view.specs.declared.view.Piece.{Piece}
use Rattle.pt_view.specs.Pieces.{IsLegalPiece, IsOneOf, all_pieces, first_of, level_of, number_of, pieces_of, word_of, words_of}
use Rattle.pt_view.specs.Views.{book_of}
use Rattle.pt_view.specs.Calls.{pieces_at}
use Rattle.pt_view.proofs.Members.{one_has, piece_at}
use Rattle.pt_view.proofs.Pieces.{one_here}
use Rattle.pt_view.proofs.Pieces as pieces
use Rattle.pt_rule.specs.Totals.{total}
use Rattle.pt_rule.specs.Linked.{IsLinkedAt}
use Rattle.pt_rule.specs.Lawful.{IsOwnPiece, Lawful}
use Rattle.pt_rule.specs.WholeView.{piece_in, prepared_frame}
use Rattle.pt_rule.specs.WholeCounts.{CensusIsRead, ReadingsTell, StandsAt, TellsPiece, nothing, a_part, a_table, added_in, counts_block, counts_pages, linked_frames_in}
use Rattle.pt_rule.proofs.AloneKept.{alone}
use Rattle.pt_rule.proofs.CountKept.{tags_are_counted}
use Rattle.pt_rule.proofs.PieceFacts.{may_be_leaf}
use Rattle.pt_rule.proofs.ReadEntries.{entries_are_read, pieces_are_added}
use Rattle.pt_rule.proofs.ReadPiece.{piece_read, pointer_read, zero_read}
use Rattle.pt_rule.proofs.ReadTables.{is_linked}
use Rattle.pt_rule.proofs.RestingBook.{resting}
use Rattle.pt_rule.proofs.SpansFacts.{some_page}
use Rattle.pt_rule.proofs.TreeFacts.{is_address, is_position, level_of_piece}

-- The number of a piece's entry is its part, but for multiples of its block's words.
module _ {f : Layout} (good : IsLayout f) {x : Piece} (is : IsLegalPiece f x) where
  part_is : number_of f x % words_of f x.block ≡ x.part
  part_is =
      let e : ℕ = pages_of_entry f (level_of f x) in
      let w : ℕ = words_of f x.block in
      let b : ℕ = x.block.first / 2 ^ x.block.log2 in
      let k : ℕ = x.block.log2 - f.index * level_of f x in
      let h : x.block.first ≡ b * 2 ^ x.block.log2 = whole x.block.first x.block.log2 is.legal.first_aligned in
      let m : ℕ = b * w + x.part in
      let g : first_of f x ≡ m * e = ap (λ y. y + x.part * e) (h ∙ ap (λ y. b * y) (pieces.block_pages good is)) ∙ (let z : b * (w * e) + x.part * e ≡ (b * w + x.part) * e = omega arith in z) in
      let q : first_of f x / e ≡ m = ap (λ y. y / e) g ∙ shl-shr m (f.index * level_of f x) in
      let low : x.block.log2 ≤ f.index * (level_of f x + 1) = size_below f.index x.block.log2 (omega (arith, good.index_is, good.granule_low)) in
      let wide : f.index * (level_of f x + 1) ≡ f.index * level_of f x + f.index = omega arith in
      let split : f.index ≡ f.index - k + k = omega arith in
      ap (λ y. y % 2 ^ f.index % w) q ∙ ap (λ y. m % 2 ^ y % w) split ∙ mod-mod-pow m (f.index - k) k ∙ mod-mul-add b w x.part is.a_part

-- What an entry's word reads as.
module _ (f : Layout) (good : IsLayout f) (d : WordsDiffer f) (a : StepsAgree f) (n l : ℕ) (words : List ℕ) (v : View) (r : Lawful f n l words (v ∷ [])) (live : 0 < v.count) where
  frame_there : (h : ℕ) (p : Position) → IsLinkedAt n words (v ∷ []) h p → IsTableAddress f (frame_address f h)
  frame_there h p linked = is_address f h (let within = linked.is_linked.within in let limit = r.sizes.limit in omega arith)

  own_piece : (x : Piece) → IsOneOf v.pieces x → IsOwnPiece f v x
  own_piece x member = one_has (IsOwnPiece f v) v.pieces x (r.books 0 v refl live).pieces member

  module _ (p : Position) (number word : ℕ) (low : p.level < f.levels) where
    -- a leaf is the word of the piece there, of its size
    leaf_there : (log2 : ℕ) (prot : Prot) → IsLeaf f p.level word log2 prot → (x : Piece) → IsOneOf v.pieces x → IsLegalPiece f x → pieces_at f p number (x ∷ []) ≡ 1 → word ≡ word_of f x →
        TellsPiece f p.level number (Leaf log2 prot) (piece_in f p number word)
    leaf_there log2 prot is x member legal here word_is =
        let own : IsOwnPiece f v x = own_piece x member in
        let level : p.level ≡ level_of f x = level_of_piece f p number x here in
        let theirs : MayBeLeaf f (level_of f x) log2 is.out prot is.part = subst (λ (k : ℕ). MayBeLeaf f k log2 is.out prot is.part) level is.may in
        let same : f.leaf (level_of f x) log2 is.out prot is.part ≡ word_of f x = ap (λ (k : ℕ). f.leaf k log2 is.out prot is.part) (sym level) ∙ sym is.word_is ∙ word_is in
        let size : log2 ≡ x.block.log2 =
        (d.one_size (level_of f x) log2 x.block.log2 is.out x.block.out is.part x.part prot x.block.prot theirs (may_be_leaf f good v x own) same).0 in
        let part : number % words_in f p.level log2 ≡ x.part =
        ap (λ (k : ℕ). k % words_in f p.level log2) (sym (one_here f p number x here).1) ∙ (λ i. number_of f x % words_in f (level i) (size i)) ∙ part_is good legal in
        (x, piece_read f good d a v x own p number word here word_is, sym level, ap (λ (k : ℕ). k == 0) (sym part))

    told : (read : Read) → ReadsAs f p.level word read → StandsAt f n words v p number word → TellsPiece f p.level number read (piece_in f p number word)
    told Empty z stands = zero_read f a p number word low z
    told (Table address) is stands = pointer_read f a p number word address is.at_level is.a_frame is.word_is
    told (Leaf log2 prot) is stands = elim stands [
      | nothing z none ↦ absurd (d.leaf_some p.level log2 is.out is.part prot is.may (sym is.word_is ∙ z))
      | a_part x member legal here once word_is ↦ leaf_there log2 prot is x member legal here word_is
      | a_table h linked level word_is none ↦ absurd (d.apart p.level log2 is.out is.part (frame_address f h) prot is.may level (frame_there h (child_at f p number) linked) (sym is.word_is ∙ word_is))
    ]
    told Alien alien stands = elim stands [
      | nothing z none ↦ alien.not_empty z
      | a_part x member legal here once word_is ↦
          let level : p.level ≡ level_of f x = level_of_piece f p number x here in
          alien.no_leaf x.block.log2 x.block.out x.part x.block.prot
          (subst (λ (k : ℕ). MayBeLeaf f k x.block.log2 x.block.out x.block.prot x.part) (sym level) (may_be_leaf f good v x (own_piece x member)))
          (word_is ∙ ap (λ (k : ℕ). f.leaf k x.block.log2 x.block.out x.block.prot x.part) (sym level))
      | a_table h linked level word_is none ↦ alien.no_pointer (frame_address f h) level (frame_there h (child_at f p number) linked) word_is
    ]

pub readings_tell : ReadingsTell
readings_tell f good d a n l words views id v r at whole frame number within small is read reads =
    let one : Lawful f n l words (v ∷ []) = alone f n l words views id v r at whole in
    let live : 0 < v.count = subst (λ (k : ℕ). 0 < k) (sym whole) (some_page f) in
    let p : Position = placed_at (tag words frame) in
    let here : IsLinkedAt n words (v ∷ []) frame p = record { is_linked = is_linked f n l words v good one live frame within is; at = refl } in
    let pos : IsPosition f p = (is_position f n l words (v ∷ []) good one frame p here).0 in
    told f good d a n l words v one live p number (entry_of f n words frame number) pos.a_level read reads (entries_are_read f good n l words views id v r at whole frame number within small is)

-- Sums over the pieces of blocks.

total_append : (number : Piece → ℕ) (xs ys : List Piece) → total number (xs ++ ys) ≡ total number xs + total number ys
total_append number [] ys = omega arith
total_append number (x ∷ xs) ys = let rest = total_append number xs ys in omega arith

firsts_later : (b : Block) (n low : ℕ) → 0 < low → total counts_block (map (piece_at b) (range_with_len low n)) ≡ 0
firsts_later b zero low some = refl
firsts_later b (suc n) low some =
    let here : one_if (low == 0) ≡ 0 = ap (λ (t : Bool). one_if t) (ne_eqb low 0 (λ e. omega arith)) in
    let rest = firsts_later b n (low + 1) (omega arith) in omega arith

first_once : (b : Block) (n : ℕ) → 0 < n → total counts_block (map (piece_at b) (range_with_len 0 n)) ≡ 1
first_once b zero some = absurd (omega arith)
first_once b (suc n) some = let rest = firsts_later b n 1 (omega arith) in omega arith

module _ (f : Layout) (good : IsLayout f) where
  words_pages : (b : Block) (n low : ℕ) → total (counts_pages f) (map (piece_at b) (range_with_len low n)) ≡ n * pages_of_entry f (level_of_size f b.log2)
  words_pages b zero low = omega arith
  words_pages b (suc n) low =
      let e : ℕ = pages_of_entry f (level_of_size f b.log2) in
      let rest : total (counts_pages f) (map (piece_at b) (range_with_len (low + 1) n)) ≡ n * e = words_pages b n (low + 1) in
      let g : suc n * e ≡ e + n * e = omega arith in omega arith

  block_pages : (b : Block) → total (counts_pages f) (pieces_of f b) ≡ pages b
  block_pages b =
      let split = size_split f.index b.log2 (omega (arith, good.index_is, good.granule_low)) in
      words_pages b (words_of f b) 0
      ∙ sym (ap (λ (k : ℕ). 2 ^ k) split ∙ pow-add 2 (b.log2 - f.index * level_of_size f b.log2) (f.index * level_of_size f b.log2))

  blocks_total : (bs : List Block) → total counts_block (all_pieces f bs) ≡ length bs
  blocks_total [] = refl
  blocks_total (b ∷ bs) =
      let rest = blocks_total bs in let both = total_append counts_block (pieces_of f b) (all_pieces f bs) in
      let one = first_once b (words_of f b) (pow_pos (b.log2 - f.index * level_of_size f b.log2)) in omega arith

  pages_total : (bs : List Block) → total (counts_pages f) (all_pieces f bs) ≡ pages_in bs
  pages_total [] = refl
  pages_total (b ∷ bs) =
      let rest = pages_total bs in let both = total_append (counts_pages f) (pieces_of f b) (all_pieces f bs) in let here = block_pages b in omega arith

-- blocks in order, of so many pages, have no more pages
pages_few : (from end : ℕ) (bs : List Block) → from ≤ end → AllPairs (λ b c. end_of b ≤ c.first) bs →
    ((k : ℕ) (b : Block) → k < length bs → slice_index_or bs k b ≡ b → (from ≤ b.first) × (end_of b ≤ end)) → from + pages_in bs ≤ end
pages_few from end [] low pairs each = omega arith
pages_few from end (b ∷ bs) low pairs each =
    let h = each zero b (omega arith) refl in
    let rest = pages_few (end_of b) end bs h.1 (λ i j c less e. pairs (suc i) (suc j) c (omega arith) (omega arith)) (λ k c less e. (
      subst (λ (x : Block). end_of b ≤ x.first) e (pairs zero (suc k) c (omega arith) (omega arith)),
      (each (suc k) c (omega arith) e).1,
    )) in
    let before = h.0 in omega arith

pub census_is_read : CensusIsRead
census_is_read f good d a n l words views id v r at whole blocks rest =
    let live : 0 < v.count = subst (λ (k : ℕ). 0 < k) (sym whole) (some_page f) in
    let none : prepared_frame v.prepared ≡ None = ap prepared_frame rest.prepared in
    let lawful : IsLawful f v.levels (book_of v blocks) = resting f good n l words views id v r at live blocks rest in
    let sum : (number : Piece → ℕ) → total number (all_pieces f blocks) ≡ added_in f n None words number n =
    (λ number. ap (λ (xs : List Piece). total number xs) (sym rest.pieces) ∙ pieces_are_added f good d a n l words views id v r at whole number
    ∙ ap (λ (o : Option ℕ). added_in f n o words number n) none) in
    record {
      tables = tags_are_counted f good n l words views id v r at whole ∙ ap (λ (o : Option ℕ). linked_frames_in o words n) none;
      blocks_are = sym (blocks_total f good blocks) ∙ sum counts_block;
      pages = sym (pages_total f good blocks) ∙ sum (counts_pages f);
      few =
          let all = pages_few 0 (input_pages f) blocks (omega arith) lawful.in_order (λ k b less e. (
            omega arith,
            (All-contains (IsLegalBlock f) blocks b lawful.legal (k, less, e)).in_input,
          )) in omega arith;
    }
