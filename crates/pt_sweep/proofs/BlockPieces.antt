-- The pieces of a book's blocks: they are apart, and those that begin in a range that cuts no block are the blocks' in it.
use Rattle.std.proofs.Common.{◌≡◌, ◌⊎◌, ℕ, zero, suc, ◌+◌, ◌-◌, ◌*◌, ◌^◌, ◌≤◌, Bool, true, false, List, [], ◌∷◌, ◌++◌, inl, inr, refl, ap, sym, subst, ◌∙◌, arith}
use Rattle.std.specs.Prelude.{not, filter, map, nat_le, nat_lt, AllPairs, Contains}
use Rattle.std.specs.List.{range_with_len}
use Rattle.std.proofs.lemmas.List.Elements.{filter-append}
use Rattle.std.proofs.lemmas.Bool.{and_from, and_parts, cases_Bool, cases_lt, false≢true, leb-true, lt-ltb}
use Rattle.std.proofs.lemmas.Nat.{pow-add}
use Rattle.pt_model.specs.declared.block.Block.{Block}
use Rattle.pt_model.specs.Layout.{Layout, end_of, level_of_size, pages, pages_of_entry}
use Rattle.pt_model.specs.Book.{lies_in, meets}
use Rattle.pt_model.specs.Unmap.{is_cut, pages_in}
use Rattle.pt_model.proofs.Positions.{filter_in, filter_out}
use Rattle.pt_model.proofs.Quotients.{size_split}
use Rattle.pt_format.specs.Laws.{IsLayout}
use Rattle.pt_view.specs.declared.view.Piece.{Piece}
use Rattle.pt_view.specs.Pieces.{IsOneOf, all_pieces, first_of, level_of, pieces_of, words_of}
use Rattle.pt_view.proofs.Members.{in_block, one_of_either, piece_at}
use Rattle.pt_sweep.specs.Sweeps.{AreApart, IsUncut, begins_in, end_of_piece, pages_under}
use Rattle.pt_sweep.proofs.Apart.{apart_wider, begins_is, begins_not, filter_all, filter_none, pages_append, piece_long}

-- One block.

module _ (f : Layout) (good : IsLayout f) where
  block_words : (b : Block) → 2 ^ b.log2 ≡ words_of f b * pages_of_entry f (level_of_size f b.log2)
  block_words b =
      let e = size_split f.index b.log2 (omega (arith, good.index_is, good.granule_low)) in
      ap (λ k. 2 ^ k) e ∙ pow-add 2 (b.log2 - f.index * level_of_size f b.log2) (f.index * level_of_size f b.log2)

  -- some words of it, from one on, in front of others
  words_apart : (b : Block) (rest : List Piece) (n low from : ℕ) → from ≤ b.first + low * pages_of_entry f (level_of_size f b.log2) →
      AreApart f (b.first + (low + n) * pages_of_entry f (level_of_size f b.log2)) rest → AreApart f from (map (piece_at b) (range_with_len low n) ++ rest)
  words_apart b rest zero low from before apart =
      let e : ℕ = pages_of_entry f (level_of_size f b.log2) in
      let z : (low + 0) * e ≡ low * e = omega arith in
      apart_wider f from (b.first + (low + 0) * e) rest (omega arith) apart
  words_apart b rest (suc n) low from before apart =
      let e : ℕ = pages_of_entry f (level_of_size f b.log2) in
      let g : low + suc n ≡ low + 1 + n = omega arith in
      let h : (low + 1) * e ≡ low * e + e = omega arith in
      (before, words_apart b rest n (low + 1) (b.first + low * e + e) (omega arith) (subst (λ k. AreApart f (b.first + k * e) rest) g apart))

  words_pages : (b : Block) (n low : ℕ) → pages_under f (map (piece_at b) (range_with_len low n)) ≡ n * pages_of_entry f (level_of_size f b.log2)
  words_pages b zero low = omega arith
  words_pages b (suc n) low =
      let e : ℕ = pages_of_entry f (level_of_size f b.log2) in
      let rest : pages_under f (map (piece_at b) (range_with_len (low + 1) n)) ≡ n * e = words_pages b n (low + 1) in
      let g : suc n * e ≡ e + n * e = omega arith in omega arith

  block_pages : (b : Block) → pages_under f (pieces_of f b) ≡ pages b
  block_pages b = words_pages b (words_of f b) 0 ∙ sym (block_words b)

  -- its pieces lie in it
  piece_inside : (b : Block) (x : Piece) → IsOneOf (pieces_of f b) x → (b.first ≤ first_of f x) × (end_of_piece f x ≤ end_of b)
  piece_inside b x m =
      let i = in_block f b x m in
      let e : ℕ = pages_of_entry f (level_of f x) in
      let w : 2 ^ x.block.log2 ≡ words_of f x.block * e = block_words x.block in
      let less = i.1 in
      let g : (x.part + 1) * e ≤ words_of f x.block * e = mul_le (x.part + 1) (words_of f x.block) e (omega arith) in
      let h : (x.part + 1) * e ≡ x.part * e + e = omega arith in
      let inside : (x.block.first ≤ first_of f x) × (end_of_piece f x ≤ end_of x.block) = (omega arith, omega arith) in
      subst (λ (c : Block). (c.first ≤ first_of f x) × (end_of_piece f x ≤ end_of c)) (sym i.0) inside
    where
      mul_le : (a b k : ℕ) → a ≤ b → a * k ≤ b * k
      mul_le a b k less = let g : b * k ≡ a * k + (b - a) * k = (let h : b ≡ a + (b - a) = omega arith in ap (λ c. c * k) h ∙ (let i : (a + (b - a)) * k ≡ a * k + (b - a) * k = omega arith in i)) in omega arith

  -- All blocks of a book.

  pub blocks_apart : (bs : List Block) (from : ℕ) → AllPairs (λ b c. end_of b ≤ c.first) bs → ((c : Block) → Contains bs c → from ≤ c.first) → AreApart f from (all_pieces f bs)
  blocks_apart [] from pairs before = tt
  blocks_apart (b ∷ bs) from pairs before =
      let e : ℕ = pages_of_entry f (level_of_size f b.log2) in
      let rest : AreApart f (end_of b) (all_pieces f bs) = blocks_apart bs (end_of b) (λ i j d a z. pairs (suc i) (suc j) d (omega arith) (omega arith))
      (λ c h. subst (λ (d : Block). end_of b ≤ d.first) h.2 (pairs 0 (suc h.0) c (omega arith) (let less = h.1 in omega arith))) in
      let w = block_words b in
      let whole : end_of b ≡ b.first + (0 + words_of f b) * e = (let z : (0 + words_of f b) * e ≡ words_of f b * e = omega arith in omega arith) in
      let here = before b (0, omega arith, refl) in
      words_apart b (all_pieces f bs) (words_of f b) 0 from (omega arith) (subst (λ k. AreApart f k (all_pieces f bs)) whole rest)

  pub blocks_pages : (bs : List Block) → pages_under f (all_pieces f bs) ≡ pages_in bs
  blocks_pages [] = refl
  blocks_pages (b ∷ bs) = let rest = blocks_pages bs in let here = block_pages b in let both = pages_append f (pieces_of f b) (all_pieces f bs) in omega arith

  -- A range that cuts no block.

  module _ (first end : ℕ) where
    pub uncut_tells : (b : Block) → is_cut first end b ≡ false → (lies_in first end b ≡ true) ⊎ ((lies_in first end b ≡ false) × ((end ≤ b.first) ⊎ (end_of b ≤ first)))
    uncut_tells b none = elim (cases_Bool (lies_in first end b)) [
      | inl inside ↦ inl inside
      | inr out ↦ inr (
        out,
        elim (cases_lt b.first end) [
          | inr behind ↦ inl behind
          | inl low ↦ elim (cases_lt first (end_of b)) [
            | inr before ↦ inr before
            | inl high ↦ absurd (false≢true (sym none ∙ and_from (meets first end b) _ (and_from (nat_lt b.first end) _ (lt-ltb b.first end low) (lt-ltb first (end_of b) high)) (ap not out)))
          ]
        ],
      )
    ]

    lies_tells : (b : Block) → lies_in first end b ≡ true → (first ≤ b.first) × (end_of b ≤ end)
    lies_tells b lies = let h = and_parts (nat_le first b.first) _ lies in (leb-true first b.first h.0, leb-true (end_of b) end h.1)

    pub uncut_piece : (b : Block) → is_cut first end b ≡ false → (x : Piece) → IsOneOf (pieces_of f b) x → IsUncut f first end x × (begins_in f first end x ≡ lies_in first end b)
    uncut_piece b none x m =
        let i = piece_inside b x m in
        let low = i.0 in let high = i.1 in
        let long = piece_long f x in
        elim (uncut_tells b none) [
          | inl inside ↦ (let h = lies_tells b inside in let h0 = h.0 in let h1 = h.1 in
              (inr (inr (omega arith, omega arith)), begins_is f first end x (omega arith) (omega arith) ∙ sym inside))
          | inr out ↦ elim out.1 [
            | inl behind ↦ (inr (inl (omega arith)), begins_not f first end x (λ l h. omega arith) ∙ sym out.0)
            | inr before ↦ (inl (omega arith), begins_not f first end x (λ l h. omega arith) ∙ sym out.0)
          ]
        ]

    -- the pieces that pass a test of their blocks are those of the blocks that do
    by_blocks : (p : Piece → Bool) (t : Block → Bool) (bs : List Block) → ((b : Block) → Contains bs b → (x : Piece) → IsOneOf (pieces_of f b) x → p x ≡ t b) →
        filter p (all_pieces f bs) ≡ all_pieces f (filter t bs)
    by_blocks p t [] same = refl
    by_blocks p t (b ∷ bs) same =
        let rest : filter p (all_pieces f bs) ≡ all_pieces f (filter t bs) = by_blocks p t bs (λ c h x m. same c (suc h.0, (let l = h.1 in omega arith), h.2) x m) in
        let both : filter p (pieces_of f b ++ all_pieces f bs) ≡ filter p (pieces_of f b) ++ filter p (all_pieces f bs) = filter-append p (pieces_of f b) (all_pieces f bs) in
        elim (cases_Bool (t b)) [
          | inl e ↦
              both ∙ (λ i. filter_all p (pieces_of f b) (λ x m. same b (0, omega arith, refl) x m ∙ e) i ++ rest i) ∙ sym (ap (all_pieces f) (filter_in t b bs e))
          | inr e ↦
              both ∙ (λ i. filter_none p (pieces_of f b) (λ x m. same b (0, omega arith, refl) x m ∙ e) i ++ rest i) ∙ sym (ap (all_pieces f) (filter_out t b bs e))
        ]

    module _ (bs : List Block) (none : (b : Block) → Contains bs b → is_cut first end b ≡ false) where
      pub blocks_go : filter (begins_in f first end) (all_pieces f bs) ≡ all_pieces f (filter (lies_in first end) bs)
      blocks_go = by_blocks (begins_in f first end) (lies_in first end) bs (λ b h x m. (uncut_piece b (none b h) x m).1)

      pub blocks_stay : filter (λ x. not (begins_in f first end x)) (all_pieces f bs) ≡ all_pieces f (filter (λ b. not (lies_in first end b)) bs)
      blocks_stay = by_blocks (λ x. not (begins_in f first end x)) (λ b. not (lies_in first end b)) bs (λ b h x m. ap not (uncut_piece b (none b h) x m).1)

      pub blocks_uncut : (x : Piece) → IsOneOf (all_pieces f bs) x → IsUncut f first end x
      blocks_uncut x m = let i = block_over bs x m in (uncut_piece i.0 (none i.0 i.1) x i.2).0
        where
          block_over : (cs : List Block) (x : Piece) → IsOneOf (all_pieces f cs) x → (b : Block) × Contains cs b × IsOneOf (pieces_of f b) x
          block_over [] x m = absurd m
          block_over (c ∷ cs) x m = elim (one_of_either (pieces_of f c) (all_pieces f cs) x m) [
            | inl here ↦ (c, (0, omega arith, refl), here)
            | inr there ↦ (let r : (b : Block) × Contains cs b × IsOneOf (pieces_of f b) x = block_over cs x there in (r.0, (suc r.1.0, (let l = r.1.1 in omega arith), r.1.2), r.2))
          ]
