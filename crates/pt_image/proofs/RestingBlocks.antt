-- An entry at which a piece of a view at rest stands is a word of its block, each of whose words is in its place.
use Rattle.std.proofs.Common.{◌≡◌, inl, inr, ℕ, ◌+◌, ◌-◌, ◌*◌, ◌/◌, ◌^◌, ◌<◌, List, [], ◌∷◌, refl, sym, ap, ◌∙◌, subst, arith}
use Rattle.std.proofs.lemmas.Nat.{pow_pos, shl-shr}
use Rattle.pt_model.specs.declared.block.Block.{Block}
use Rattle.pt_model.specs.declared.position.Position.{Position}
use Rattle.pt_model.specs.Layout.{Layout, level_of_size, pages_of_entry}
use Rattle.pt_format.specs.Laws.{IsLayout}
use Rattle.pt_view.specs.declared.view.View.{View}
use Rattle.pt_view.specs.declared.view.Piece.{Piece}
use Rattle.pt_view.specs.Calls.{entry_first, pieces_at}
use Rattle.pt_view.specs.Pieces.{IsLegalPiece, IsOneOf, all_pieces, level_of, number_of, pieces_of, table_of, word_of, words_of}
use Rattle.pt_view.proofs.Members.{in_block, mapped_one, one_of_either, one_of_left, one_of_right}
use Rattle.pt_view.proofs.Pieces.{counted, first_is_entry's, here_one, number_below, one_here, table_of_block}
use Rattle.pt_rule.specs.Linked.{IsLinkedAt}
use Rattle.pt_rule.specs.WholeCounts.{nothing, a_part, a_table}
use Rattle.pt_image.specs.Books.{RestsAlone}
use Rattle.pt_image.specs.Bytes.{entry_at}
use Rattle.pt_image.specs.Drafts.{part_of}
use Rattle.pt_image.specs.Faults.{HasBlockAt, IsInBlock}
use Rattle.pt_image.specs.Visits.{HasImage}
use Rattle.pt_image.proofs.Resting.{stands}

-- the one piece of a list that stands at an entry
alone_same : (f : Layout) (p : Position) (i : ℕ) (xs : List Piece) (x y : Piece) → IsOneOf xs x → IsOneOf xs y → pieces_at f p i (x ∷ []) ≡ 1 →
    pieces_at f p i (y ∷ []) ≡ 1 → pieces_at f p i xs ≡ 1 → x ≡ y
alone_same f p i [] x y a b here there one = absurd a
alone_same f p i (z ∷ zs) x y (inl a) (inl b) here there one = sym a ∙ b
alone_same f p i (z ∷ zs) x y (inl a) (inr b) here there one =
    let first : pieces_at f p i (z ∷ []) ≡ 1 = ap (λ (u : Piece). pieces_at f p i (u ∷ [])) a ∙ here in let more = counted f p i zs y b there in absurd (omega arith)
alone_same f p i (z ∷ zs) x y (inr a) (inl b) here there one =
    let first : pieces_at f p i (z ∷ []) ≡ 1 = ap (λ (u : Piece). pieces_at f p i (u ∷ [])) b ∙ there in let more = counted f p i zs x a here in absurd (omega arith)
alone_same f p i (z ∷ zs) x y (inr a) (inr b) here there one =
    let more = counted f p i zs x a here in alone_same f p i zs x y a b here there (omega arith)

-- with a piece of a block all pieces of it are among those of the blocks
pub others_in : (f : Layout) (bs : List Block) (x : Piece) → IsOneOf (all_pieces f bs) x → (k : ℕ) → k < words_of f x.block → IsOneOf (all_pieces f bs) (part_of x.block k)
others_in f [] x a k lt = absurd a
others_in f (b ∷ bs) x a k lt = elim (one_of_either (pieces_of f b) (all_pieces f bs) x a) [
  | inl here ↦
      let e : b ≡ x.block = (in_block f b x here).0 in
      let short : k < words_of f b = subst (λ (c : Block). k < words_of f c) (sym e) lt in
      one_of_left (pieces_of f b) (all_pieces f bs) (part_of x.block k)
      (subst (λ (c : Block). IsOneOf (pieces_of f b) (part_of c k)) e (mapped_one (part_of b) (words_of f b) 0 k (omega arith) (omega arith)))
  | inr more ↦ one_of_right (pieces_of f b) (all_pieces f bs) (part_of x.block k) (others_in f bs x more k lt)
]

-- The entries of a block's pieces follow each other in one table.
module _ (f : Layout) (good : IsLayout f) (x : Piece) (legal : IsLegalPiece f x) where
  part_legal : (k : ℕ) → k < words_of f x.block → IsLegalPiece f (part_of x.block k)
  part_legal k lt = record { a_part = lt; legal = legal.legal; stated = legal.stated }

  words_some : 0 < words_of f x.block
  words_some = pow_pos (x.block.log2 - f.index * level_of_size f x.block.log2)

  pub part_table : (k : ℕ) → k < words_of f x.block → table_of f (part_of x.block k) ≡ table_of f x
  part_table k lt = table_of_block good (part_legal k lt) ∙ sym (table_of_block good legal)

  abbrev pub start : ℕ
  start = number_of f (part_of x.block 0)

  part_at : (k : ℕ) → k < words_of f x.block →
      (table_of f x).base + number_of f (part_of x.block k) * pages_of_entry f (level_of f x) ≡ x.block.first + k * pages_of_entry f (level_of f x)
  part_at k lt = ap (λ (q : Position). q.base + number_of f (part_of x.block k) * pages_of_entry f (level_of f x)) (sym (part_table k lt)) ∙ first_is_entry's good (part_legal k lt)

  pub start_first : x.block.first ≡ entry_first f (table_of f x) start
  start_first =
      let e = part_at 0 words_some in let none : 0 * pages_of_entry f (level_of f x) ≡ 0 = omega arith in
      let same : x.block.first ≡ (table_of f x).base + start * pages_of_entry f (level_of f x) = omega arith in same

  pub part_number : (k : ℕ) → k < words_of f x.block → start + k ≡ number_of f (part_of x.block k)
  part_number k lt =
      let e : ℕ = pages_of_entry f (level_of f x) in
      let m : ℕ = number_of f (part_of x.block k) in
      let a = part_at k lt in let b = start_first in
      let sum : (start + k) * e ≡ start * e + k * e = omega arith in
      let offs : (start + k) * e ≡ m * e = omega arith in
      sym (shl-shr (start + k) (f.index * level_of f x)) ∙ ap (λ (z : ℕ). z / e) offs ∙ shl-shr m (f.index * level_of f x)

module _ (f : Layout) (good : IsLayout f) (n l : ℕ) (image words : List ℕ) (v : View) (blocks : List Block)
    (r : RestsAlone f n l words v blocks) (has : HasImage f n image words) where
  -- the word of a piece of the view is in its place
  pub piece_word : (frame : ℕ) (p : Position) (i : ℕ) → IsLinkedAt n words (v ∷ []) frame p → i < 2 ^ f.index → (y : Piece) → IsOneOf v.pieces y → pieces_at f p i (y ∷ []) ≡ 1 →
      entry_at f image frame i ≡ word_of f y
  piece_word frame p i a small y own here = elim (stands f good n l image words v blocks r has frame p a i small) [
    | nothing none bare ↦ absurd (let more = counted f p i v.pieces y own here in omega arith)
    | a_part x one legal there single is ↦ is ∙ ap (word_of f) (alone_same f p i v.pieces x y one own there here single)
    | a_table child linked high is bare ↦ absurd (let more = counted f p i v.pieces y own here in omega arith)
  ]

  -- and so is each word of its block
  pub block_at : (frame : ℕ) (x : Piece) → IsLinkedAt n words (v ∷ []) frame (table_of f x) → IsOneOf v.pieces x → (legal : IsLegalPiece f x) →
      HasBlockAt f image frame (table_of f x) (start f good x legal) x.block
  block_at frame x a own legal = record {
    legal = legal.legal;
    stated = legal.stated;
    level_is = refl;
    first_is = start_first f good x legal;
    words = λ k lt.
        let y : Piece = part_of x.block k in
        let among : IsOneOf v.pieces y = subst (λ (xs : List Piece). IsOneOf xs y) (sym r.rest.pieces)
        (others_in f blocks x (subst (λ (xs : List Piece). IsOneOf xs x) r.rest.pieces own) k lt) in
        let number = part_number f good x legal k lt in
        let here : pieces_at f (table_of f x) (number_of f y) (y ∷ []) ≡ 1 = subst (λ (q : Position). pieces_at f q (number_of f y) (y ∷ []) ≡ 1) (part_table f good x legal k lt) (here_one f y) in
        ap (entry_at f image frame) number ∙ piece_word frame (table_of f x) (number_of f y) a (number_below f y) y among here;
  }

  -- the block of a piece that stands at an entry
  pub piece_block : (frame : ℕ) (p : Position) (i : ℕ) (x : Piece) → IsLinkedAt n words (v ∷ []) frame p → IsOneOf v.pieces x → (legal : IsLegalPiece f x) → pieces_at f p i (x ∷ []) ≡ 1 →
      HasBlockAt f image frame p (start f good x legal) x.block × (start f good x legal + x.part ≡ i)
  piece_block frame p i x a own legal here =
      let e = one_here f p i x here in (
        subst (λ (q : Position). HasBlockAt f image frame q (start f good x legal) x.block) (sym e.0) (block_at frame x (subst (IsLinkedAt n words (v ∷ []) frame) e.0 a) own legal),
        part_number f good x legal x.part legal.a_part ∙ e.1,
      )

  pub in_piece : (frame : ℕ) (p : Position) (i : ℕ) (x : Piece) → IsLinkedAt n words (v ∷ []) frame p → IsOneOf v.pieces x → IsLegalPiece f x → pieces_at f p i (x ∷ []) ≡ 1 →
      IsInBlock f image (record { frame = frame; position = p; number = i })
  in_piece frame p i x a own legal here =
      let y = piece_block frame p i x a own legal here in
      record { block = x.block; number = start f good x legal; part = x.part; here = y.1; a_part = legal.a_part; has = y.0 }
