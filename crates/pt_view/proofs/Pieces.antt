-- Pieces: where one stands, the pages under it, and the pieces at an entry.
use Rattle.std.proofs.Common.{◌≡◌, ◌≢◌, ℕ, ◌+◌, ◌-◌, ◌*◌, ◌/◌, ◌%◌, ◌^◌, ◌<◌, ◌≤◌, List, [], ◌∷◌, ◌++◌, inl, inr, true, refl, ap, sym, ◌∙◌, subst, arith}
use Rattle.std.specs.Prelude.{◌&&◌, ◌==◌, nat_lt, nat_le}
use Rattle.std.proofs.lemmas.Bool.{and_parts, and_from, eqb-true, eq-eqb, lt-ltb, le-leb}
use Rattle.std.proofs.lemmas.Nat.{shr_split, shl-shr, pow-add, pow_pos, mod_below, mod-mul-add, mul-le}
use Rattle.std.proofs.Math.Nat.{div-mul-le_self}
use Rattle.pt_model.specs.declared.position.Position.{Position}
use Rattle.pt_model.specs.Layout.{Layout, end_of, pages_of_entry, pages_of_table}
use Rattle.pt_model.specs.Tables.{is_same, position_over}
use Rattle.pt_model.proofs.Positions.{bit_true, is_same_self, is_same_true, true_bit}
use Rattle.pt_model.proofs.Quotients.{floor_le, multiple_over, multiple_under, quotient, same_over, size_below, size_split, whole}
use Rattle.pt_format.specs.Laws.{IsLayout, WordsDiffer}
use Rattle.pt_format.specs.Words.{IsUnder, MayBeLeaf}
use Rattle.pt_view.specs.declared.view.Piece.{Piece}
use Rattle.pt_view.specs.Pieces.{IsLegalPiece, IsOneOf, IsUnderPiece, entry_number, first_of, level_of, number_of, table_of, word_of, words_of}
use Rattle.pt_view.specs.Calls.{entry_first, is_under, pieces_at}
use Rattle.pt_view.proofs.Entries.{entry_first_is, from_first, to_end}

-- Where a piece stands.

pub number_below : (f : Layout) (x : Piece) → number_of f x < 2 ^ f.index
number_below f x = mod_below (first_of f x / pages_of_entry f (level_of f x)) (2 ^ f.index) (pow_pos f.index)

pub table_aligned : (f : Layout) (x : Piece) → (table_of f x).base % pages_of_table f (table_of f x).level ≡ 0
table_aligned f x =
    let t : ℕ = pages_of_table f (level_of f x) in let b : ℕ = first_of f x / t in
    (let e : b * t ≡ b * t + 0 = omega arith in ap (λ y. y % t) e) ∙ mod-mul-add b t 0 (pow_pos (f.index * (level_of f x + 1)))

-- The pieces at an entry.

pub pieces_append : (f : Layout) (p : Position) (i : ℕ) (xs ys : List Piece) → pieces_at f p i (xs ++ ys) ≡ pieces_at f p i xs + pieces_at f p i ys
pieces_append f p i [] ys = omega arith
pieces_append f p i (x ∷ xs) ys = let rest = pieces_append f p i xs ys in omega arith

pub one_here : (f : Layout) (p : Position) (i : ℕ) (x : Piece) → pieces_at f p i (x ∷ []) ≡ 1 → (p ≡ table_of f x) × (number_of f x ≡ i)
one_here f p i x e =
    let b : (is_same p (table_of f x) && (number_of f x == i)) ≡ true = true_bit _ (omega arith) in
    let h : (is_same p (table_of f x) ≡ true) × ((number_of f x == i) ≡ true) = and_parts (is_same p (table_of f x)) _ b in
    (is_same_true p (table_of f x) h.0, eqb-true (number_of f x) i h.1)

pub here_one : (f : Layout) (x : Piece) → pieces_at f (table_of f x) (number_of f x) (x ∷ []) ≡ 1
here_one f x =
    let b : (is_same (table_of f x) (table_of f x) && (number_of f x == number_of f x)) ≡ true =
    and_from (is_same (table_of f x) (table_of f x)) _ (is_same_self (table_of f x) (table_of f x) refl) (eq-eqb (number_of f x) (number_of f x) refl) in
    let h = bit_true _ b in omega arith

-- one of a list that stands at an entry is counted there
pub counted : (f : Layout) (p : Position) (number : ℕ) (xs : List Piece) (x : Piece) → IsOneOf xs x → pieces_at f p number (x ∷ []) ≡ 1 → 0 < pieces_at f p number xs
counted f p number [] x h e = absurd h
counted f p number (y ∷ xs) x (inl same) e =
    let one : pieces_at f p number (y ∷ []) ≡ 1 = ap (λ (z : Piece). pieces_at f p number (z ∷ [])) same ∙ e in omega arith
counted f p number (y ∷ xs) x (inr more) e = let rest = counted f p number xs x more e in omega arith

-- A piece of a legal block.
module _ {f : Layout} (good : IsLayout f) {x : Piece} (is : IsLegalPiece f x) where
  pub block_pages : 2 ^ x.block.log2 ≡ words_of f x.block * pages_of_entry f (level_of f x)
  block_pages =
      let e = size_split f.index x.block.log2 (omega (arith, good.index_is, good.granule_low)) in
      ap (λ k. 2 ^ k) e ∙ pow-add 2 (x.block.log2 - f.index * level_of f x) (f.index * level_of f x)

  pub ends_in_block : first_of f x + pages_of_entry f (level_of f x) ≤ end_of x.block
  ends_in_block =
      let e : ℕ = pages_of_entry f (level_of f x) in
      let h = mul-le (x.part + 1) e (words_of f x.block) e (omega (arith, is.a_part)) (omega arith) in omega (arith, h, block_pages)

  pub first_whole : first_of f x ≡ first_of f x / pages_of_entry f (level_of f x) * pages_of_entry f (level_of f x)
  first_whole =
      let e : ℕ = pages_of_entry f (level_of f x) in
      let b : ℕ = x.block.first / 2 ^ x.block.log2 in
      let h : x.block.first ≡ b * 2 ^ x.block.log2 = whole x.block.first x.block.log2 is.legal.first_aligned in
      let m : ℕ = b * words_of f x.block + x.part in
      let g : first_of f x ≡ m * e = ap (λ y. y + x.part * e) (h ∙ ap (λ y. b * y) block_pages) ∙ (let k : b * (words_of f x.block * e) + x.part * e ≡ (b * words_of f x.block + x.part) * e = omega arith in k) in
      g ∙ ap (λ y. y * e) (sym (shl-shr m (f.index * level_of f x)) ∙ ap (λ y. y / e) (sym g))

  -- its entry's first page is its own
  pub first_is_entry's : entry_first f (table_of f x) (number_of f x) ≡ first_of f x
  first_is_entry's = entry_first_is f (first_of f x) (level_of f x) ∙ sym first_whole

  -- its table is the one of its level over the block
  pub table_of_block : table_of f x ≡ position_over f x.block.first (level_of f x)
  table_of_block =
      let some : 0 < pages_of_entry f (level_of f x) = pow_pos (f.index * level_of f x) in
      let ends = ends_in_block in
      same_over f (first_of f x) x.block.first (level_of f x)
      (multiple_over (first_of f x) x.block.log2 (f.index * (level_of f x + 1)) x.block.first (size_below f.index x.block.log2 (omega (arith, good.index_is, good.granule_low)))
      is.legal.first_aligned (omega arith) (omega arith))

  -- its word
  pub may_be_leaf : MayBeLeaf f (level_of f x) x.block.log2 x.block.out x.block.prot x.part
  may_be_leaf = record {
    below = let a = good.sizes_low x.block.log2 is.legal.a_size in let b = good.start_high in omega (arith, a, b);
    a_size = is.legal.a_size;
    at_level = refl;
    aligned = is.legal.out_aligned;
    within = is.legal.in_output;
    stated = is.stated;
    a_part = is.a_part;
  }

  pub word_some : WordsDiffer f → word_of f x ≢ 0
  word_some d = d.leaf_some (level_of f x) x.block.log2 x.block.out x.part x.block.prot may_be_leaf

  -- The piece has a page.
  module _ {page : ℕ} (has : IsUnderPiece f x page) where
    pub is_under_piece : IsUnder f (level_of f x) x.block.log2 x.block.first x.part page
    is_under_piece = record { aligned = is.legal.first_aligned; from = has.0; to = let high = has.1 in omega arith }

    pub page_in_block : page < end_of x.block
    page_in_block = let e = ends_in_block in let high = has.1 in omega arith

    same_entry : first_of f x / pages_of_entry f (level_of f x) ≡ page / pages_of_entry f (level_of f x)
    same_entry =
        let low = has.0 in let high = has.1 in
        let a : first_of f x % pages_of_entry f (level_of f x) ≡ 0 = (let w = first_whole in let s = shr_split (first_of f x) (f.index * level_of f x) in omega arith) in
        multiple_under page (f.index * level_of f x) (first_of f x) a low high

    same_table : first_of f x / pages_of_table f (level_of f x) ≡ page / pages_of_table f (level_of f x)
    same_table = sym (quotient f (first_of f x) (level_of f x)) ∙ ap (λ y. y / 2 ^ f.index) same_entry ∙ quotient f page (level_of f x)

    pub table_over : table_of f x ≡ position_over f page (level_of f x)
    table_over = same_over f (first_of f x) page (level_of f x) same_table

    pub number_over : number_of f x ≡ entry_number f (level_of f x) page
    number_over = ap (λ y. y % 2 ^ f.index) same_entry

    -- it stands at the entry over the page, in a table of its own level
    pub stands_here : (level : ℕ) → level_of f x ≡ level → pieces_at f (position_over f page level) (entry_number f level page) (x ∷ []) ≡ 1
    stands_here level e =
        subst (λ (k : ℕ). pieces_at f (position_over f page k) (entry_number f k page) (x ∷ []) ≡ 1) e
        (subst (λ (p : Position). pieces_at f p (entry_number f (level_of f x) page) (x ∷ []) ≡ 1) table_over
        (subst (λ (k : ℕ). pieces_at f (table_of f x) k (x ∷ []) ≡ 1) number_over (here_one f x)))

    -- its table lies under the entry over the page, in a table of a higher level
    pub table_under : (level : ℕ) → level_of f x < level → is_under f (position_over f page level) (entry_number f level page) (table_of f x) ≡ true
    table_under level low =
        let j : ℕ = f.index * (level_of f x + 1) in
        let over : ℕ = f.index * (level - (level_of f x + 1)) in
        let bits : over + j ≡ f.index * level =
        (let h : level - (level_of f x + 1) + (level_of f x + 1) ≡ level = omega arith in
        (let g : f.index * (level - (level_of f x + 1)) + f.index * (level_of f x + 1) ≡ f.index * (level - (level_of f x + 1) + (level_of f x + 1)) = omega arith in g) ∙ ap (λ y. f.index * y) h) in
        let base : (table_of f x).base ≡ page / 2 ^ j * 2 ^ j = ap (λ y. y * pages_of_table f (level_of f x)) same_table in
        let first : entry_first f (position_over f page level) (entry_number f level page) ≡ page / 2 ^ (over + j) * 2 ^ (over + j) =
        entry_first_is f page level ∙ ap (λ y. page / 2 ^ y * 2 ^ y) (sym bits) in
        let a : page / 2 ^ (over + j) * 2 ^ (over + j) ≤ page / 2 ^ j * 2 ^ j = floor_le page j over in
        let b : page / 2 ^ j * 2 ^ j ≤ page = div-mul-le_self page (2 ^ j) in
        let c = to_end f page level in
        and_from (nat_lt (level_of f x) level && nat_le (entry_first f (position_over f page level) (entry_number f level page)) (table_of f x).base) _
        (and_from (nat_lt (level_of f x) level) _ (lt-ltb (level_of f x) level low) (le-leb _ _ (omega (arith, first, a, base))))
        (lt-ltb (table_of f x).base _ (omega (arith, base, b, c)))

  -- where it stands at the entry over a page, it has the page
  pub has_page_here : (page level : ℕ) → pieces_at f (position_over f page level) (entry_number f level page) (x ∷ []) ≡ 1 → (level ≡ level_of f x) × IsUnderPiece f x page
  has_page_here page level e =
      let h : (position_over f page level ≡ table_of f x) × (number_of f x ≡ entry_number f level page) = one_here f (position_over f page level) (entry_number f level page) x e in
      let levels : level ≡ level_of f x = ap (λ (p : Position). p.level) h.0 in
      let first : entry_first f (position_over f page level) (entry_number f level page) ≡ first_of f x = (λ k. entry_first f (h.0 k) (sym h.1 k)) ∙ first_is_entry's in
      let size : pages_of_entry f level ≡ pages_of_entry f (level_of f x) = ap (λ k. pages_of_entry f k) levels in
      let a = from_first f page level in let c = to_end f page level in
      (levels, (omega arith, omega arith))
