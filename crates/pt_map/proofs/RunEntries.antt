-- The entries of a run of blocks: each has one word of one of its blocks, and all are in one table.
use Rattle.pt_model.proofs.Tops.{above_top, top_low}
use Rattle.std.proofs.Common.{length, true, ◌≡◌, ℕ, zero, suc, ◌+◌, ◌-◌, ◌*◌, ◌/◌, ◌%◌, ◌^◌, ◌<◌, ◌≤◌, List, [], ◌∷◌, ◌++◌, inl, inr, refl, ap, sym, ◌∙◌, subst, arith, false}
use Rattle.std.specs.Prelude.{◌↔◌, map, ◌==◌, nat_le}
use Rattle.std.specs.List.{range_with_len}
use Rattle.std.proofs.lemmas.Bool.{cases_lt, and_from, eq-eqb, false≢true, le-leb}
use Rattle.std.proofs.lemmas.List.{map-append}
use Rattle.std.proofs.lemmas.Nat.{mod_below, mod_low, mul-le, pow-add, pow_below, pow_pos, shl-shr, shr_high, shr_split}
use Rattle.std.proofs.Math.Nat.{div-lt_iff_lt-mul}
use Rattle.pt_model.specs.declared.position.Position.{Position}
use Rattle.pt_model.specs.declared.block.Block.{Block}
use Rattle.pt_model.specs.declared.block.Prot.{Prot}
use Rattle.pt_model.specs.Layout.{Layout, IsLegalBlock, end_of, level_of_size, pages_of_entry, pages_of_table}
use Rattle.pt_model.specs.Tables.{all_needed, end_of_table, position_over, is_spine, spine_position}
use Rattle.pt_model.specs.Tiling.{IsGreatestSize, block_at, tiling}
use Rattle.pt_model.specs.Sets.{IsSorted, IsAmong}
use Rattle.pt_model.proofs.Positions.{sorted_adds, adds_are}
use Rattle.pt_model.proofs.TilingFacts.{tiling_is, tiling_unique}
use Rattle.pt_format.specs.Laws.{IsLayout}
use Rattle.pt_format.specs.Words.{MayBeLeaf, MayBeLeaves}
use Rattle.pt_tile.specs.declared.extent.Extent.{Extent}
use Rattle.pt_tile.specs.Runs.{run_blocks}
use Rattle.pt_view.specs.declared.view.View.{View}
use Rattle.pt_view.specs.declared.view.Piece.{Piece}
use Rattle.pt_view.specs.declared.view.Change.TheVariants.{Written}
use Rattle.pt_view.specs.Pieces.{add_pieces, all_pieces, pieces_of, word_of, words_of, entry_number}
use Rattle.pt_walk.proofs.Cuts.{pages_few}
use Rattle.pt_view.specs.Calls.{ArePieces, IsWritten, IsWrittenRun, MayPut, MayWrite, MayWriteRun, off_spine, top_over}
use Rattle.pt_num.proofs.Bits.{exponent_below}
use Rattle.pt_model.proofs.Quotients.{quotient}
use Rattle.pt_map.specs.Filled.{Filled, MayStore, MayStoreRun}
use Rattle.pt_map.proofs.FilledParts.{may_part}
use Rattle.pt_tile.proofs.FirstParts.{IsTile, tile_of}
use Rattle.pt_map.proofs.NeededTables.{needs_any, needs_over, needs_page, over_needed, run_needs}
use Rattle.pt_view.proofs.Members.{piece_at}
use Rattle.pt_tile.proofs.FirstSizes.{size_greatest}
use Rattle.pt_map.proofs.PathTables.{positions, tables_way, way_tables}
use Rattle.pt_map.proofs.BlockWords.{first_whole, more_low, number_at, size_is, word_is}
use Rattle.pt_map.proofs.TopsOver.{top_of_pieces}
use Rattle.pt_map.proofs.WordsWritten.{among_off, block_part, may_leaf, may_put}
use Rattle.pt_tile.specs.Extents.{IsExtent, IsOneBlock, blocks_of, extent_of, first_size, tables_of, tiles}
use Rattle.pt_tile.proofs.TileFacts.{one_greatest}
use Rattle.pt_tile.proofs.Levels.{over_first}
use Rattle.pt_view.proofs.Loads.{absences_here}

-- block number `q` of a run, the piece of its entry number `e` where each block has so many words, and the pieces of
-- the entries before entry `n`
abbrev pub block_in : Block → (q : ℕ) → Block
block_in b q = block_at (b.first + q * 2 ^ b.log2) b.log2 (b.out + q * 2 ^ b.log2) b.prot

abbrev pub piece_in : Block → (words e : ℕ) → Piece
piece_in b words e = piece_at (block_in b (e / words)) (e % words)

abbrev pub pieces_to : Block → (words n : ℕ) → List Piece
pieces_to b words n = map (piece_in b words) (range_with_len 0 n)

-- Numbers in order.

range_append : (a m n : ℕ) → range_with_len a (m + n) ≡ range_with_len a m ++ range_with_len (a + m) n
range_append a zero n =
    let none : 0 + n ≡ n = omega arith in
    let same : a ≡ a + 0 = omega arith in
    (λ i. range_with_len (same i) (none i))
range_append a (suc m) n =
    let e : a + 1 + m ≡ a + suc m = omega arith in
    let more : suc m + n ≡ suc (m + n) = omega arith in
    ap (range_with_len a) more ∙ ap (λ (xs : List ℕ). a ∷ xs) (range_append (a + 1) m n ∙ ap (λ (c : ℕ). range_with_len (a + 1) m ++ range_with_len c n) e)

map_moved : {A : Type 0} (g h : ℕ → A) (base i n : ℕ) → ((j : ℕ) → j < i + n → g (base + j) ≡ h j) → map g (range_with_len (base + i) n) ≡ map h (range_with_len i n)
map_moved g h base i zero same = refl
map_moved g h base i (suc n) same =
    let e : base + i + 1 ≡ base + (i + 1) = omega arith in
    let rest : map g (range_with_len (base + i + 1) n) ≡ map h (range_with_len (i + 1) n) =
    ap (λ (c : ℕ). map g (range_with_len c n)) e ∙ map_moved g h base (i + 1) n (λ j less. same j (omega arith)) in
    (λ k. same i (omega arith) k ∷ rest k)

-- the pieces of the entries are those of the blocks
run_pieces : (f : Layout) (b : Block) (m : ℕ) → words_of f b ≡ 2 ^ m → (n q : ℕ) →
    map (piece_in b (2 ^ m)) (range_with_len (q * 2 ^ m) (n * 2 ^ m)) ≡ all_pieces f (run_blocks n b.log2 b.prot (b.first + q * 2 ^ b.log2) (b.out + q * 2 ^ b.log2))
run_pieces f b m words zero q = ap (λ (k : ℕ). map (piece_in b (2 ^ m)) (range_with_len (q * 2 ^ m) k)) (let none : 0 * 2 ^ m ≡ 0 = omega arith in none)
run_pieces f b m words (suc n) q =
    let g : ℕ → Piece = piece_in b (2 ^ m) in
    let base : ℕ = q * 2 ^ m in
    let c : Block = block_in b q in
    let here : map (piece_in b (2 ^ m)) (range_with_len (q * 2 ^ m) (2 ^ m)) ≡ pieces_of f (block_in b q) =
    ap (λ (a : ℕ). map (piece_in b (2 ^ m)) (range_with_len a (2 ^ m))) (let e : q * 2 ^ m ≡ q * 2 ^ m + 0 = omega arith in e)
    ∙ map_moved (piece_in b (2 ^ m)) (piece_at (block_in b q)) (q * 2 ^ m) 0 (2 ^ m)
    (λ j less. (λ i. piece_at (block_in b (shr_high q m j (omega arith) i)) (mod_low q m j (omega arith) i)))
    ∙ ap (λ (k : ℕ). map (piece_at (block_in b q)) (range_with_len 0 k)) (sym words) in
    let next : q * 2 ^ m + 2 ^ m ≡ (q + 1) * 2 ^ m = omega arith in
    let first : b.first + (q + 1) * 2 ^ b.log2 ≡ b.first + q * 2 ^ b.log2 + 2 ^ b.log2 = omega arith in
    let out : b.out + (q + 1) * 2 ^ b.log2 ≡ b.out + q * 2 ^ b.log2 + 2 ^ b.log2 = omega arith in
    let more : map (piece_in b (2 ^ m)) (range_with_len (q * 2 ^ m + 2 ^ m) (n * 2 ^ m)) ≡ all_pieces f (run_blocks n b.log2 b.prot (b.first + q * 2 ^ b.log2 + 2 ^ b.log2) (b.out + q * 2 ^ b.log2 + 2 ^ b.log2)) =
    ap (λ (a : ℕ). map (piece_in b (2 ^ m)) (range_with_len a (n * 2 ^ m))) next ∙ run_pieces f b m words n (q + 1)
    ∙ (λ i. all_pieces f (run_blocks n b.log2 b.prot (first i) (out i))) in
    ap (λ (k : ℕ). map (piece_in b (2 ^ m)) (range_with_len (q * 2 ^ m) k)) (let e : suc n * 2 ^ m ≡ 2 ^ m + n * 2 ^ m = omega arith in e)
    ∙ ap (map (piece_in b (2 ^ m))) (range_append (q * 2 ^ m) (2 ^ m) (n * 2 ^ m))
    ∙ map-append (piece_in b (2 ^ m)) (range_with_len (q * 2 ^ m) (2 ^ m)) (range_with_len (q * 2 ^ m + 2 ^ m) (n * 2 ^ m))
    ∙ (λ i. here i ++ more i)

pub all_entries : (f : Layout) (b : Block) (m n : ℕ) → words_of f b ≡ 2 ^ m → pieces_to b (2 ^ m) (n * 2 ^ m) ≡ all_pieces f (blocks_of n b)
all_entries f b m n words =
    let first : b.first + 0 * 2 ^ b.log2 ≡ b.first = omega arith in
    let out : b.out + 0 * 2 ^ b.log2 ≡ b.out = omega arith in
    ap (λ (a : ℕ). map (piece_in b (2 ^ m)) (range_with_len a (n * 2 ^ m))) (let none : 0 ≡ 0 * 2 ^ m = omega arith in none)
    ∙ run_pieces f b m words n 0 ∙ (λ i. all_pieces f (run_blocks n b.log2 b.prot (first i) (out i)))

-- the blocks of a run
in_run : (prot : Prot) (k n q first out : ℕ) → q < n → IsOneBlock (run_blocks n k prot first out) (block_at (first + q * 2 ^ k) k (out + q * 2 ^ k) prot)
in_run prot k zero q first out less = absurd (omega arith)
in_run prot k (suc n) zero first out less =
    let a : first ≡ first + 0 * 2 ^ k = omega arith in
    let b : out ≡ out + 0 * 2 ^ k = omega arith in
    inl (λ i. block_at (a i) k (b i) prot)
in_run prot k (suc n) (suc q) first out less =
    let a : first + 2 ^ k + q * 2 ^ k ≡ first + suc q * 2 ^ k = omega arith in
    let b : out + 2 ^ k + q * 2 ^ k ≡ out + suc q * 2 ^ k = omega arith in
    inr (subst (λ (c : Block). IsOneBlock (run_blocks n k prot (first + 2 ^ k) (out + 2 ^ k)) c) (λ i. block_at (a i) k (b i) prot) (in_run prot k n q (first + 2 ^ k) (out + 2 ^ k) (omega arith)))

-- A legal block is the tiling of its pages.
module _ {f : Layout} (good : IsLayout f) (c : Block) (legal : IsLegalBlock f c) where
  greatest_alone : IsGreatestSize f c.first c.out (2 ^ c.log2) c.log2
  greatest_alone = record {
    legal = legal;
    fits = omega arith;
    greatest = λ j l fits. elim (cases_lt c.log2 j) [ inl more ↦ absurd (let wide = pow_below c.log2 j more in omega arith) | inr few ↦ few ];
  }

  tile_alone : tiles f (block_part c) ≡ c ∷ []
  tile_alone =
      let input = legal.in_input in
      let output = legal.in_output in
      let same : end_of c - c.first ≡ 2 ^ c.log2 = omega arith in
      let none : 2 ^ c.log2 - 2 ^ c.log2 ≡ 0 = omega arith in
      ap (λ (n : ℕ). tiling f c.prot c.first c.out n) same
      ∙ tiling_unique f c.prot c.first c.out (2 ^ c.log2) _ _ (tiling_is f c.prot c.first c.out (2 ^ c.log2) good.has_pages (omega arith) (omega arith)) (refl, greatest_alone, none)

  step_alone : IsExtent f (block_part c) → first_size f (block_part c) ≡ c.log2
  step_alone part =
      let same : end_of c - c.first ≡ 2 ^ c.log2 = omega arith in
      one_greatest f c.first c.out (2 ^ c.log2) (first_size f (block_part c)) c.log2
      (subst (λ (n : ℕ). IsGreatestSize f c.first c.out n (first_size f (block_part c))) same (size_greatest good part)) greatest_alone

-- A run that may be written from the path's last table.
module _ {f : Layout} (good : IsLayout f) {v : View} {b : Block} {count level : ℕ} (stores : MayStoreRun f v count b level) where
  abbrev pub bits : ℕ
  bits = b.log2 - f.index * level

  abbrev may : MayStore f v (extent_of count b) level
  may = stores.may

  abbrev run : tiles f (extent_of count b) ≡ blocks_of count b
  run = stores.tiled

  abbrev here : level_of_size f b.log2 ≡ level
  here = stores.here

  a_tile : (c : Block) → IsOneBlock (blocks_of count b) c → IsTile f b.first (b.first + count * 2 ^ b.log2) c
  a_tile c m = tile_of good may.stands.at.extent c (subst (λ (bs : List Block). IsOneBlock bs c) (sym run) m)

  first_legal : 0 < count → IsLegalBlock f b
  first_legal some =
      let first : b.first + 0 * 2 ^ b.log2 ≡ b.first = omega arith in
      let out : b.out + 0 * 2 ^ b.log2 ≡ b.out = omega arith in
      (a_tile (block_at b.first b.log2 b.out b.prot) (subst (λ (c : Block). IsOneBlock (blocks_of count b) c) (λ i. block_at (first i) b.log2 (out i) b.prot) (in_run b.prot b.log2 count 0 b.first b.out some))).legal

  -- the path's tables are those that it needs
  needs_high : (p : Position) → IsAmong (tables_of f (extent_of count b)) p → level ≤ p.level
  needs_high p h =
      let low = run_needs f good b.prot b.log2 count b.first b.out p (λ c m. (a_tile c m).legal)
      (needs_any f f.levels (blocks_of count b) p (subst (λ (bs : List Block). IsAmong (all_needed f f.levels bs) p) run h)) in omega arith

  way_needs : (p : Position) → is_spine v.levels p ≡ false → IsAmong (positions v.path) p ↔ IsAmong (tables_of f (extent_of count b)) p
  way_needs p off =
      let x : Extent = extent_of count b in
      let long : length v.path + level ≡ length v.path + level = omega arith in (
        (λ h.
            let r = way_tables f b.first (length v.path + level) level v.path may.stands.way long p h in
            let most = may.stands.below in
            let wide : f.index * (level + 1) ≤ f.index * (p.level + 1) = mul-le f.index (level + 1) f.index (p.level + 1) (omega arith) (let low = r.0 in omega arith) in
            subst (IsAmong (tables_of f x)) r.2 (over_needed good may.stands.at.extent p.level (let low = may.stands.at.low in omega arith) (let n = r.1 in omega arith))),
        (λ h.
            let high = needs_high p h in
            let over : position_over f x.first p.level ≡ p = needs_over good may.stands.at.extent level may.stands.at.range.under p h high in
            let page = needs_page good may.stands.at.extent p h in
            elim (cases_lt p.level (length v.path + level)) [
              | inl on ↦ subst (IsAmong (positions v.path)) over (tables_way f b.first (length v.path + level) level v.path may.stands.way long p.level high on)
              | inr above ↦ absurd (
                  let reach_root = may.stands.reach in
                  let reach = above_top f v.levels x.end p.level page.3 (omega arith) in
                  let least = top_low f v.levels x.end in let some = may.stands.at.extent.some in
                  let spine : is_spine v.levels (spine_position p.level) ≡ true =
                  and_from (nat_le (v.levels - 1) p.level) (0 == 0) (le-leb (v.levels - 1) p.level (omega arith)) (eq-eqb 0 0 refl) in
                  let is : spine_position p.level ≡ p = sym (over_first f x.first p.level (omega arith)) ∙ over in
                  false≢true (sym off ∙ subst (λ (q : Position). is_spine v.levels q ≡ true) is spine))
            ]),
      )

  -- An entry of it.
  module _ (e : ℕ) (less : e < count * 2 ^ bits) where
    -- its block
    abbrev pub block : Block
    block = block_in b (e / 2 ^ bits)

    q_low : e / 2 ^ bits < count
    q_low = (div-lt_iff_lt-mul (pow_pos bits)).1 less

    pub r_low : e % 2 ^ bits < 2 ^ bits
    r_low = mod_below e (2 ^ bits) (pow_pos bits)

    split : e / 2 ^ bits * 2 ^ bits + e % 2 ^ bits ≡ e
    split = let s = shr_split e bits in omega arith

    member : IsOneBlock (blocks_of count b) block
    member = in_run b.prot b.log2 count (e / 2 ^ bits) b.first b.out q_low

    legal : IsLegalBlock f block
    legal = (a_tile block member).legal

    pub one : tiles f (block_part block) ≡ block ∷ []
    one = tile_alone good block legal

    part : IsExtent f (block_part block)
    part = record {
      some = (let some = pow_pos b.log2 in omega arith);
      in_input = legal.in_input;
      in_output = (let output = legal.in_output in omega arith);
      stated = may.stands.at.extent.stated;
    }

    pub may_block : MayStore f v (block_part block) level
    may_block =
        let t = a_tile block member in
        let low : f.index * (level + 1) ≡ f.index * level + f.index = omega arith in
        let same = step_alone good block legal part in
        let less = more_low good block legal level here in
        let some = size_is good block legal level here in
        may_part good may part t.from t.to (omega arith)
        (λ c m. elim (subst (λ (bs : List Block). IsOneBlock bs c) one m) [
          | inl is ↦ subst (IsOneBlock (tiles f (extent_of count b))) is (subst (λ (bs : List Block). IsOneBlock bs block) (sym run) member)
          | inr none ↦ absurd none
        ])

    pages_are : 2 ^ b.log2 ≡ 2 ^ bits * pages_of_entry f level
    pages_are = ap (λ k. 2 ^ k) (size_is good block legal level here) ∙ pow-add 2 bits (f.index * level)

    -- the first page under it
    page_is : block.first + e % 2 ^ bits * pages_of_entry f level ≡ b.first + e * pages_of_entry f level
    page_is =
        let pages : 2 ^ b.log2 ≡ 2 ^ bits * pages_of_entry f level = pages_are in
        let times : e / 2 ^ bits * 2 ^ b.log2 ≡ e / 2 ^ bits * 2 ^ bits * pages_of_entry f level = ap (λ k. e / 2 ^ bits * k) pages ∙ (let g : e / 2 ^ bits * (2 ^ bits * pages_of_entry f level) ≡ e / 2 ^ bits * 2 ^ bits * pages_of_entry f level = omega arith in g) in
        let sum : e / 2 ^ bits * 2 ^ bits * pages_of_entry f level + e % 2 ^ bits * pages_of_entry f level ≡ (e / 2 ^ bits * 2 ^ bits + e % 2 ^ bits) * pages_of_entry f level = omega arith in
        let whole = ap (λ k. k * pages_of_entry f level) split in omega arith

    first_whole_here : b.first ≡ b.first / pages_of_entry f level * pages_of_entry f level
    first_whole_here = first_whole good b (first_legal (let low = q_low in omega arith)) level here

    -- the entries are in one table
    entry_low : entry_number f level b.first + e < 2 ^ f.index
    entry_low = elim (cases_lt (entry_number f level b.first + e) (2 ^ f.index)) [
      | inl low ↦ low
      | inr high ↦ absurd (
          let size : ℕ = pages_of_entry f level in
          let m : ℕ = b.first / pages_of_entry f level in
          let over : ℕ = m / 2 ^ f.index in
          let sum : over * 2 ^ f.index + m % 2 ^ f.index ≡ m = (let s = shr_split (b.first / pages_of_entry f level) f.index in omega arith) in
          let bits_of : f.index * (level + 1) ≡ f.index + f.index * level = omega arith in
          let table : pages_of_table f level ≡ 2 ^ f.index * pages_of_entry f level = ap (λ k. 2 ^ k) bits_of ∙ pow-add 2 f.index (f.index * level) in
          let far : (over + 1) * 2 ^ f.index * size ≤ (m + e) * size = mul-le ((over + 1) * 2 ^ f.index) size (m + e) size (omega arith) (omega arith) in
          let end : (b.first / pages_of_table f level + 1) * pages_of_table f level ≡ (over + 1) * 2 ^ f.index * size =
          (λ i. (sym (quotient f b.first level) i + 1) * table i) ∙ (let g : (over + 1) * (2 ^ f.index * size) ≡ (over + 1) * 2 ^ f.index * size = omega arith in g) in
          let table_end : (b.first / pages_of_table f level + 1) * pages_of_table f level ≡ end_of_table f (position_over f b.first level) = omega arith in
          let here_is : (m + e) * size ≡ m * size + e * size = omega arith in
          let whole = first_whole_here in
          let last : (e + 1) * size ≤ count * 2 ^ bits * size = mul-le (e + 1) size (count * 2 ^ bits) size (omega arith) (omega arith) in
          let next : (e + 1) * size ≡ e * size + size = omega arith in
          let some : 0 < size = pow_pos (f.index * level) in
          let pages : 2 ^ b.log2 ≡ 2 ^ bits * size = pages_are in
          let all : count * 2 ^ b.log2 ≡ count * 2 ^ bits * size = ap (λ k. count * k) pages ∙ (let g : count * (2 ^ bits * size) ≡ count * 2 ^ bits * size = omega arith in g) in
          let under = may.stands.at.range.under in omega arith)
    ]

    pub number_low : entry_number f level b.first + e < 2 ^ f.index
    number_low = entry_low

    entry_is : entry_number f level (b.first + e * pages_of_entry f level) ≡ entry_number f level b.first + e
    entry_is =
        let m : ℕ = b.first / pages_of_entry f level in
        let low = entry_low in
        let whole = first_whole_here in
        let page : b.first + e * pages_of_entry f level ≡ (m + e) * pages_of_entry f level = omega arith in
        let sum : m + e ≡ m / 2 ^ f.index * 2 ^ f.index + (m % 2 ^ f.index + e) = (let s = shr_split m f.index in omega arith) in
        ap (λ y. y / pages_of_entry f level % 2 ^ f.index) page ∙ ap (λ y. y % 2 ^ f.index) (shl-shr (m + e) (f.index * level) ∙ sum)
        ∙ mod_low (m / 2 ^ f.index) f.index (m % 2 ^ f.index + e) low

    pub number_is : entry_number f level block.first + e % 2 ^ bits ≡ entry_number f level b.first + e
    number_is = sym (number_at good block legal level here (e % 2 ^ bits) r_low) ∙ ap (entry_number f level) page_is ∙ entry_is

    pub leaf_in : MayBeLeaf f level b.log2 (b.out + e / 2 ^ bits * 2 ^ b.log2) b.prot (e % 2 ^ bits)
    leaf_in = may_leaf good block may_block one here (e % 2 ^ bits) r_low

  count_some : 0 < count
  count_some = elim (cases_lt 0 count) [
    | inl some ↦ some
    | inr none ↦ absurd (
        let zero : count * 2 ^ b.log2 ≡ 0 = (let e : count ≡ 0 = omega arith in ap (λ (n : ℕ). n * 2 ^ b.log2) e ∙ (let z : 0 * 2 ^ b.log2 ≡ 0 = omega arith in z)) in
        let some = may.stands.at.extent.some in omega arith)
  ]

  pub first_legal_here : IsLegalBlock f b
  first_legal_here = first_legal count_some

  pub entries_some : 0 < count * 2 ^ bits
  entries_some =
      let words = pow_pos bits in
      let h = mul-le 1 1 count (2 ^ bits) count_some (omega arith) in omega arith

  pub size_small : b.log2 < 64
  size_small =
      let input = first_legal_here.in_input in
      let few = pages_few f good in
      exponent_below b.log2 (2 ^ b.log2) (omega arith) (omega arith)

  -- the first word of the first block, and all words
  pub first_leaf : MayBeLeaf f level b.log2 b.out b.prot 0
  first_leaf =
      let zero_of : 0 ≡ 0 * 2 ^ bits + 0 = omega arith in
      let q : 0 / 2 ^ bits ≡ 0 = ap (λ (n : ℕ). n / 2 ^ bits) zero_of ∙ shr_high 0 bits 0 (pow_pos bits) in
      let r : 0 % 2 ^ bits ≡ 0 = ap (λ (n : ℕ). n % 2 ^ bits) zero_of ∙ mod_low 0 bits 0 (pow_pos bits) in
      let out : b.out + 0 / 2 ^ bits * 2 ^ b.log2 ≡ b.out = ap (λ (n : ℕ). b.out + n * 2 ^ b.log2) q ∙ (let z : b.out + 0 * 2 ^ b.log2 ≡ b.out = omega arith in z) in
      subst (λ (i : ℕ). MayBeLeaf f level b.log2 b.out b.prot i) r (subst (λ (o : ℕ). MayBeLeaf f level b.log2 o b.prot (0 % 2 ^ bits)) out (leaf_in 0 entries_some))

  pub all_leaves : MayBeLeaves f level b.log2 b.out b.prot count
  all_leaves = λ e less. leaf_in e less

  -- a table has all its entries
  pub entries_few : count * 2 ^ bits ≤ 2 ^ f.index
  entries_few = elim (cases_lt 0 (count * 2 ^ bits)) [
    | inr none ↦ omega arith
    | inl some ↦ (let low = number_low (count * 2 ^ bits - 1) (omega arith) in omega arith)
  ]

  -- The words of all its entries go by a step, from that of its first entry.
  module _ (number word step : ℕ) (at : number ≡ entry_number f level b.first) (first : word ≡ f.leaf level b.log2 b.out b.prot 0)
      (goes : (e : ℕ) → e < count * 2 ^ bits → f.leaf level b.log2 (b.out + e / 2 ^ bits * 2 ^ b.log2) b.prot (e % 2 ^ bits) ≡ f.leaf level b.log2 b.out b.prot 0 + e * step) where
    pub are_pieces : ArePieces f v number (count * 2 ^ bits) word step (piece_in b (2 ^ bits))
    are_pieces = record {
      word_is = λ e less. word_is good (block e less) (legal e less) level here (e % 2 ^ bits) ∙ goes e less ∙ ap (λ (n : ℕ). n + e * step) (sym first);
      may = λ e less.
          subst (λ (k : ℕ). MayPut f v k (piece_in b (2 ^ bits) e)) (number_is e less ∙ (let z : entry_number f level b.first + e ≡ number + e = omega arith in z))
          (may_put good (block e less) (may_block e less) (one e less) here (e % 2 ^ bits) (r_low e less));
    }

    pub may_run_words : ((e : ℕ) → e < count * 2 ^ bits → f.leaf level b.log2 b.out b.prot 0 + e * step < 2 ^ 64) → MayWriteRun f v number (count * 2 ^ bits) word step
    may_run_words within = record {
      some = entries_some;
      within = λ e less. subst (λ (n : ℕ). n + e * step < 2 ^ 64) (sym first) (within e less);
      piece = piece_in b (2 ^ bits);
      are = are_pieces;
    }

    -- they were written
    module _ {tells : Type 0} {w : View} (written : IsWrittenRun f tells number (count * 2 ^ bits) word step v w) where
      pub run_filled : Filled f tells v w (blocks_of count b) (tables_of f (extent_of count b))
      run_filled =
          let all : pieces_to b (2 ^ bits) (count * 2 ^ bits) ≡ all_pieces f (blocks_of count b) = all_entries f b bits count (ap (λ (l : ℕ). 2 ^ (b.log2 - f.index * l)) here) in
          record {
            range = written.range;
            path = written.path;
            prepared = written.prepared;
            end = written.purse.end;
            top = written.top (piece_in b (2 ^ bits)) are_pieces ∙ ap (top_over f v.levels v.top) all ∙ top_of_pieces f v.levels v.top (blocks_of count b);
            pieces = written.pieces (piece_in b (2 ^ bits)) are_pieces ∙ ap (add_pieces f v.pieces) all;
            tables = λ p.
                let m = adds_are (off_spine v.levels v.path) v.tables p in
                let o = among_off v.levels v.path p in (
                  (λ h. elim (m.0 (subst (λ (ps : List Position). IsAmong ps p) written.tables h)) [
                    | inl was ↦ inl was
                    | inr now ↦ (let n = o.0 now in inr ((way_needs p n.1).0 n.0, n.1))
                  ]),
                  (λ h. subst (λ (ps : List Position). IsAmong ps p) (sym written.tables) (m.1 (elim h [
                    | inl was ↦ inl was
                    | inr new ↦ inr (o.1 ((way_needs p new.1).1 new.0, new.1))
                  ]))),
                );
            in_order = λ s. subst IsSorted (sym written.tables) (sorted_adds (off_spine v.levels v.path) v.tables s);
            busy = written.busy;
            known = λ p h. (written.known p).1 h;
            told = λ t. ((written.told t).0, written.stores t (piece_in b (2 ^ bits)) are_pieces ∙ ap (λ (xs : List Piece). v.stores ++ map Written xs) all);
            absent = λ t. absences_here (written.told t).1;
          }

-- One word is a run of one, whatever the step.
module _ {f : Layout} {v : View} {number word : ℕ} where
  module _ {piece : ℕ → Piece} (are : ArePieces f v number 1 word 0 piece) where
    one_is : word ≡ word_of f (piece 0)
    one_is = sym (are.word_is 0 (omega arith) ∙ (let e : word + 0 * 0 ≡ word = omega arith in e))

    one_may : MayPut f v number (piece 0)
    one_may = subst (λ (n : ℕ). MayPut f v n (piece 0)) (let e : number + 0 ≡ number = omega arith in e) (are.may 0 (omega arith))

    pub may_write_one : MayWrite f v number word
    may_write_one = (piece 0, one_is, one_may)

  pub written_one : {tells : Type 0} {w : View} → IsWritten f tells number word v w → IsWrittenRun f tells number 1 word 0 v w
  written_one written = record {
    range = written.range;
    purse = written.purse;
    path = written.path;
    prepared = written.prepared;
    busy = written.busy;
    known = written.known;
    tables = written.tables;
    pieces = λ piece are. written.pieces (piece 0) (one_is are) (one_may are);
    top = λ piece are. written.top (piece 0) (one_is are) (one_may are);
    stores = λ t piece are. written.stores t (piece 0) (one_is are) (one_may are);
    told = written.told;
  }
