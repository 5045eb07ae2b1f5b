-- The words of a block: each stands at the next entry of one table.
use Rattle.std.proofs.Common.{◌≡◌, ℕ, ◌+◌, ◌-◌, ◌*◌, ◌/◌, ◌%◌, ◌^◌, ◌<◌, ◌≤◌, [], ◌∷◌, refl, ap, sym, ◌∙◌, subst, arith}
use Rattle.std.proofs.lemmas.Nat.{mod_below, mod_low, mul-le, pow-add, pow_pos, shl-shr, shr_high, shr_split}
use Rattle.pt_model.specs.declared.position.Position.{Position}
use Rattle.pt_model.specs.declared.block.Block.{Block}
use Rattle.pt_model.specs.Layout.{Layout, IsLegalBlock, end_of, level_of_size, pages_of_entry, pages_of_table}
use Rattle.pt_model.specs.Tables.{position_over}
use Rattle.pt_format.specs.Laws.{IsLayout}
use Rattle.pt_tile.proofs.Begun.{coarse_is_fine, part_in}
use Rattle.pt_view.specs.Pieces.{first_of, number_of, table_of, word_of, words_of, entry_number}
use Rattle.pt_view.proofs.Entries.{entry_first_is}
use Rattle.pt_view.specs.Calls.{entry_first, pieces_at}
use Rattle.pt_model.proofs.Quotients.{quotient, size_split, whole}
use Rattle.pt_model.proofs.Positions.{same_position}
use Rattle.pt_view.proofs.Members.{piece_at}
use Rattle.pt_map.proofs.PiecesAdded.{stands_at, stands_not}

module _ {f : Layout} (good : IsLayout f) (b : Block) (legal : IsLegalBlock f b) (level : ℕ) (here : level_of_size f b.log2 ≡ level) where
  abbrev pub bits : ℕ
  bits = f.index * level

  abbrev pub more : ℕ
  more = b.log2 - f.index * level

  index_some : 0 < f.index
  index_some = omega (arith, good.index_is, good.granule_low)

  pub size_is : b.log2 ≡ more + bits
  size_is = subst (λ (l : ℕ). b.log2 ≡ b.log2 - f.index * l + f.index * l) here (size_split f.index b.log2 index_some)

  -- a block is smaller than its table
  pub more_low : more < f.index
  more_low =
      let m = mod_below b.log2 f.index index_some in
      let split : b.log2 / f.index * f.index + b.log2 % f.index ≡ b.log2 = omega arith in
      let e : b.log2 / f.index * f.index ≡ f.index * level = (let c : b.log2 / f.index * f.index ≡ f.index * (b.log2 / f.index) = omega arith in c) ∙ ap (λ (l : ℕ). f.index * l) here in
      omega arith

  -- the first page under a word
  abbrev pub page_of_word : ℕ → ℕ
  page_of_word i = b.first + i * pages_of_entry f level

  pub first_whole : b.first ≡ b.first / pages_of_entry f level * pages_of_entry f level
  first_whole = whole b.first bits (coarse_is_fine bits b.log2 b.first (let e = size_is in omega arith) legal.first_aligned)

  pub word_whole : (i : ℕ) → page_of_word i ≡ (b.first / pages_of_entry f level + i) * pages_of_entry f level
  word_whole i = let e = first_whole in omega arith

  word_entry : (i : ℕ) → page_of_word i / pages_of_entry f level ≡ b.first / pages_of_entry f level + i
  word_entry i = ap (λ y. y / pages_of_entry f level) (word_whole i) ∙ shl-shr (b.first / pages_of_entry f level + i) bits

  word_split : (i : ℕ) → page_of_word i / pages_of_entry f level ≡ b.first / pages_of_entry f level / 2 ^ f.index * 2 ^ f.index + (b.first / pages_of_entry f level % 2 ^ f.index + i)
  word_split i = word_entry i ∙ (let s = shr_split (b.first / pages_of_entry f level) f.index in omega arith)

  -- the entries of a block are in one table
  first_entry : b.first / pages_of_entry f level % 2 ^ f.index + 2 ^ more ≤ 2 ^ f.index
  first_entry =
      let m : ℕ = b.first / pages_of_entry f level in
      let a : ℕ = b.first / 2 ^ b.log2 in
      let pages : 2 ^ b.log2 ≡ 2 ^ more * 2 ^ bits = ap (λ k. 2 ^ k) size_is ∙ pow-add 2 more bits in
      let first : b.first ≡ a * 2 ^ more * 2 ^ bits =
      whole b.first b.log2 legal.first_aligned ∙ ap (λ y. a * y) pages ∙ (let g : a * (2 ^ more * 2 ^ bits) ≡ a * 2 ^ more * 2 ^ bits = omega arith in g) in
      let is : m ≡ a * 2 ^ more = ap (λ y. y / 2 ^ bits) first ∙ shl-shr (a * 2 ^ more) bits in
      let aligned : m % 2 ^ more ≡ 0 = ap (λ y. y % 2 ^ more) (is ∙ (let z : a * 2 ^ more ≡ a * 2 ^ more + 0 = omega arith in z)) ∙ mod_low a more 0 (pow_pos more) in
      part_in f.index more m (let low = more_low in omega arith) aligned

  pub number_at : (i : ℕ) → i < 2 ^ more → entry_number f level (page_of_word i) ≡ entry_number f level b.first + i
  number_at i less =
      let m : ℕ = b.first / pages_of_entry f level in
      let fits = first_entry in
      ap (λ y. y % 2 ^ f.index) (word_split i) ∙ mod_low (m / 2 ^ f.index) f.index (m % 2 ^ f.index + i) (omega arith)

  pub number_low : (i : ℕ) → i < 2 ^ more → entry_number f level b.first + i < 2 ^ f.index
  number_low i less = let fits = first_entry in omega arith

  pub table_at : (i : ℕ) → i < 2 ^ more → position_over f (page_of_word i) level ≡ position_over f b.first level
  table_at i less =
      let m : ℕ = b.first / pages_of_entry f level in
      let fits = first_entry in
      let q : page_of_word i / pages_of_table f level ≡ b.first / pages_of_table f level =
      sym (quotient f (page_of_word i) level) ∙ ap (λ y. y / 2 ^ f.index) (word_split i)
      ∙ shr_high (m / 2 ^ f.index) f.index (m % 2 ^ f.index + i) (omega arith) ∙ quotient f b.first level in
      same_position (position_over f (page_of_word i) level) (position_over f b.first level) refl (ap (λ y. y * pages_of_table f level) q)

  -- the pages under its entry
  pub word_first : (i : ℕ) → i < 2 ^ more → entry_first f (position_over f b.first level) (entry_number f level b.first + i) ≡ page_of_word i
  word_first i less =
      (λ j. entry_first f (sym (table_at i less) j) (sym (number_at i less) j)) ∙ entry_first_is f (page_of_word i) level
      ∙ ap (λ y. y * pages_of_entry f level) (word_entry i) ∙ sym (word_whole i)

  pub words_are : words_of f b ≡ 2 ^ more
  words_are = ap (λ (l : ℕ). 2 ^ (b.log2 - f.index * l)) here

  pub word_ends : (i : ℕ) → i < 2 ^ more → page_of_word i + pages_of_entry f level ≤ end_of b
  word_ends i less =
      let pages : 2 ^ b.log2 ≡ 2 ^ more * 2 ^ bits = ap (λ k. 2 ^ k) size_is ∙ pow-add 2 more bits in
      let h = mul-le (i + 1) (2 ^ bits) (2 ^ more) (2 ^ bits) (omega arith) (omega arith) in omega arith

  -- where a piece of the block stands
  pub piece_first : (i : ℕ) → first_of f (piece_at b i) ≡ page_of_word i
  piece_first i = ap (λ (l : ℕ). b.first + i * pages_of_entry f l) here

  pub piece_table : (i : ℕ) → i < 2 ^ more → position_over f b.first level ≡ table_of f (piece_at b i)
  piece_table i less = sym ((λ j. position_over f (piece_first i j) (here j)) ∙ table_at i less)

  pub piece_number : (i : ℕ) → i < 2 ^ more → number_of f (piece_at b i) ≡ entry_number f level b.first + i
  piece_number i less = (λ j. entry_number f (here j) (piece_first i j)) ∙ number_at i less

  pub stands_here : (i : ℕ) → i < 2 ^ more → pieces_at f (position_over f b.first level) (entry_number f level b.first + i) (piece_at b i ∷ []) ≡ 1
  stands_here i less = stands_at f (position_over f b.first level) (entry_number f level b.first + i) (piece_at b i) (piece_table i less) (piece_number i less)

  pub word_is : (i : ℕ) → word_of f (piece_at b i) ≡ f.leaf level b.log2 b.out b.prot i
  word_is i = ap (λ (l : ℕ). f.leaf l b.log2 b.out b.prot i) here

  -- no piece of the block stands over a page past it
  pub past_elsewhere : (i page high : ℕ) → i < 2 ^ more → end_of b ≤ page → pieces_at f (position_over f page high) (entry_number f high page) (piece_at b i ∷ []) ≡ 0
  past_elsewhere i page high less past =
      stands_not f (position_over f page high) (entry_number f high page) (piece_at b i) (λ t n.
      let same : high ≡ level = ap (λ (p : Position). p.level) t ∙ here in
      let first : entry_first f (table_of f (piece_at b i)) (number_of f (piece_at b i)) ≡ page_of_word i =
      (λ j. entry_first f (sym (piece_table i less) j) (piece_number i less j)) ∙ word_first i less in
      let other : entry_first f (table_of f (piece_at b i)) (number_of f (piece_at b i)) ≡ page / pages_of_entry f high * pages_of_entry f high =
      (λ j. entry_first f (sym t j) (n j)) ∙ entry_first_is f page high in
      let size : pages_of_entry f high ≡ pages_of_entry f level = ap (pages_of_entry f) same in
      let s = shr_split page (f.index * high) in
      let r = mod_below page (pages_of_entry f high) (pow_pos (f.index * high)) in let ends = word_ends i less in omega arith)
