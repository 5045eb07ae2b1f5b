-- A range under one entry that is empty, or the word of a block that is all of the range.
use Rattle.std.proofs.Common.{min, zero, ◌-◌, ◌≡◌, ◌⊎◌, ℕ, suc, ◌+◌, ◌*◌, ◌/◌, ◌^◌, ◌<◌, ◌≤◌, List, [], ◌∷◌, true, false, inl, inr, refl, ap, sym, subst, ◌∙◌, arith}
use Rattle.std.specs.Prelude.{IsBitSet, max, nat_le, nat_lt, AllPairs, Contains, None, Option, Some, IsTrue}
use Rattle.std.proofs.lemmas.Bool.{and_from, and_parts, cases_Bool, cases_lt, false_from_ne_true, false≢true, leb-true, lt-ltb}
use Rattle.std.proofs.lemmas.Nat.{div_below, mod_below, mul-le, pow_pos, shr_split}
use Rattle.std.proofs.Math.Pow.{pow_mono}
use Rattle.pt_model.specs.declared.position.Position.{Position}
use Rattle.pt_model.specs.declared.block.Block.{Block}
use Rattle.pt_model.specs.declared.block.Prot.{Prot}
use Rattle.pt_model.specs.Layout.{Layout, end_of, output_pages, pages_of_entry, pages_of_table}
use Rattle.pt_model.specs.Book.{table_lies_in}
use Rattle.pt_model.proofs.Tops.{table_mono}
use Rattle.pt_model.specs.Unmap.{is_cut}
use Rattle.std.proofs.Math.Nat.{div-mul-le_self}
use Rattle.pt_model.proofs.Quotients.{multiple_under, table_is_entries, whole}
use Rattle.pt_format.proofs.BitFacts.{one_bit_set}
use Rattle.pt_format.specs.Laws.{IsLayout}
use Rattle.pt_format.specs.Words.{IsLeaf, MayBeLeaf}
use Rattle.pt_view.specs.declared.view.View.{View}
use Rattle.pt_view.specs.declared.view.Piece.{Piece}
use Rattle.pt_view.specs.declared.holder.Seen.{Seen}
use Rattle.pt_view.specs.declared.holder.Seen.TheVariants.{Empty, Leaf}
use Rattle.pt_view.specs.Pieces.{IsOneOf, all_pieces, first_of, level_of, pieces_of}
use Rattle.pt_view.specs.declared.view.Node.{Node}
use Rattle.pt_view.specs.Loads.{ByLoads}
use Rattle.pt_view.specs.Views.{IsAtRest, SameBook, SameRange}
use Rattle.pt_view.proofs.Loads.{IsLoad, loads_on, loads_path}
use Rattle.pt_view.proofs.Members.{in_blocks, one_of_left, one_of_right}
use Rattle.pt_view.proofs.Pieces.{ends_in_block, first_whole}
use Rattle.pt_walk.specs.RangeWalks.{HasBook, IsBlockOf, rested}
use Rattle.pt_walk.specs.Walks.{IsClear, IsFound, IsOverRange, OwnsAll}
use Rattle.pt_walk.proofs.Books.{block_found, owns_all, piece_over}
use Rattle.pt_walk.proofs.Descent.{leaf_found, own_piece, owns_on}
use Rattle.pt_walk.proofs.Ranges.{free_here}
use Rattle.pt_sweep.specs.Empties.{lies_below}
use Rattle.pt_sweep.specs.Sweeps.{MaySweepBelow, SweepsIn, begins_in}
use Rattle.pt_sweep.specs.Unmaps.{ClearsEntry, CutsNoBlock, UnmapsEntry}
use Rattle.pt_sweep.proofs.BlockPieces.{blocks_uncut}
use Rattle.pt_sweep.proofs.BookTables.{swept_span}
use Rattle.pt_sweep.proofs.CutBlocks.{cut_tells, finds_none, found_none}
use Rattle.pt_walk.proofs.Cuts.{pages_few}
use Rattle.pt_sweep.proofs.Sweeps.{around_sweeps, sweeps_as}
use Rattle.pt_sweep.proofs.SweptTables.{may_loads}

-- a block of the one size of a level is all of a range under one entry exactly where the range is all of the entry
pub one_size : {f : Layout} → IsLayout f → (level word first end bits : ℕ) (b : Block) → IsBlockOf f level word first b → bits ≡ min (f.index * level) 63 → IsBitSet (2 ^ bits) b.log2 → first < end →
    end ≤ (first / pages_of_entry f level + 1) * pages_of_entry f level →
    (end - first ≡ 2 ^ bits → (b.first < first) ⊎ (end < end_of b) → ⊥) × (((end - first ≡ 2 ^ bits) → ⊥) → (b.first < first) ⊎ (end < end_of b))
one_size {f} good level word first end bits b block is set some one =
    let may = block.may in
    let under = block.under in
    let e : ℕ = pages_of_entry f level in
    let same : bits ≡ b.log2 = (one_bit_set bits b.log2).0 set in
    let low : b.log2 / f.index * f.index ≤ b.log2 = div-mul-le_self b.log2 f.index in
    let at : b.log2 / f.index * f.index ≡ f.index * level = ap (λ n. n * f.index) may.at_level ∙ (let g : level * f.index ≡ f.index * level = omega arith in g) in
    let log2 : b.log2 ≡ f.index * level = omega arith in
    let size : 2 ^ b.log2 ≡ e = ap (λ k. 2 ^ k) log2 in
    let all : 2 ^ bits ≡ e = ap (λ k. 2 ^ k) (same ∙ log2) in
    let zero : b.log2 - f.index * level ≡ 0 = omega arith in
    let few : block.part < 2 ^ 0 = subst (λ k. block.part < 2 ^ k) zero may.a_part in
    let none : block.part ≡ 0 = omega arith in
    let from0 : block.part * e ≡ 0 = ap (λ n. n * e) none ∙ omega arith in
    let to0 : (block.part + 1) * e ≡ e = ap (λ n. (n + 1) * e) none ∙ omega arith in
    let from = under.from in
    let to = under.to in
    let quotient : b.first / 2 ^ b.log2 ≡ first / 2 ^ b.log2 = multiple_under first b.log2 b.first under.aligned (omega arith) (omega arith) in
    let begins : b.first ≡ first / e * e = whole b.first b.log2 under.aligned ∙ ap (λ n. n * 2 ^ b.log2) quotient ∙ (λ i. first / size i * size i) in
    let s = shr_split first (f.index * level) in (
      λ exact out. elim out [ inl before ↦ omega arith | inr past ↦ omega arith ],
      λ other. elim (cases_lt b.first first) [ inl before ↦ inl before | inr not ↦ inr (elim (cases_lt end (end_of b)) [ inl past ↦ past | inr fine ↦ absurd (other (omega arith)) ]) ],
    )

-- the word over a page that a block has there is that of a leaf
pub leaf_of : {f : Layout} {level word page : ℕ} {b : Block} → IsBlockOf f level word page b → IsLeaf f level word b.log2 b.prot
leaf_of {b = b} is = record { out = b.out; part = is.part; may = is.may; word_is = is.word_is }

-- a block of one page may have the same permission, and any output page
pub page_leaf : {f : Layout} → IsLayout f → {word page : ℕ} {b : Block} → IsBlockOf f 0 word page b → {out : ℕ} {prot : Prot} → out < output_pages f → prot ≡ b.prot →
    MayBeLeaf f 0 0 out prot 0
page_leaf {f} good {b = b} is {out} {prot} within same = record {
  below = is.may.below;
  a_size = good.has_pages;
  at_level = (let some : 0 < f.index = omega (arith, good.index_is, good.granule_low) in let low = div_below 0 f.index 1 some (omega arith) in omega arith);
  aligned = (let low = mod_below out (2 ^ 0) (pow_pos 0) in omega arith);
  within = omega arith;
  stated = subst (λ (p : Prot). IsTrue (f.states p)) (sym same) is.may.stated;
  a_part = pow_pos (0 - f.index * 0);
}

-- a range of one page, the block's own, isn't cut by it
pub page_alone : (f : Layout) {word first end : ℕ} (b : Block) → b.log2 ≡ 0 → IsBlockOf f 0 word first b → first < end →
    end ≤ (first / pages_of_entry f 0 + 1) * pages_of_entry f 0 → {cut : Type 0} → (false ≡ true → cut) × ((b.first < first) ⊎ (end < end_of b) → false ≡ true)
page_alone f {first = first} {end} b page is some one =
    let pages : 2 ^ b.log2 ≡ 1 = ap (λ (k : ℕ). 2 ^ k) page in
    let none : f.index * 0 ≡ 0 = omega arith in
    let entry : pages_of_entry f 0 ≡ 1 = ap (λ (k : ℕ). 2 ^ k) none in
    let less : b.log2 - f.index * 0 ≡ 0 = omega arith in
    let part : is.part < 2 ^ 0 = subst (λ (k : ℕ). is.part < 2 ^ k) less is.may.a_part in
    let only : is.part ≡ 0 = omega arith in
    let from : b.first + 0 * 1 ≤ first = subst (λ (n : ℕ). b.first + n * 1 ≤ first) only (subst (λ (n : ℕ). b.first + is.part * n ≤ first) entry is.under.from) in
    let to : first < b.first + (0 + 1) * 1 = subst (λ (n : ℕ). first < b.first + (n + 1) * 1) only (subst (λ (n : ℕ). first < b.first + (is.part + 1) * n) entry is.under.to) in
    let within : end ≤ (first / 1 + 1) * 1 = subst (λ (n : ℕ). end ≤ (first / n + 1) * n) entry one in
    let split = shr_split first 0 in (
      λ t. absurd (false≢true t),
      λ out. absurd (elim out [ inl before ↦ omega arith | inr past ↦ omega arith ]),
    )

-- two blocks of a book are one, or apart
apart_or_same : (bs : List Block) → AllPairs (λ b c. end_of b ≤ c.first) bs → (b c : Block) → Contains bs b → Contains bs c → (b ≡ c) ⊎ ((end_of b ≤ c.first) ⊎ (end_of c ≤ b.first))
apart_or_same [] order b c h k = absurd (let less = h.1 in omega arith)
apart_or_same (d ∷ bs) order b c (zero, less, is) (zero, less', is') = inl (sym is ∙ is')
apart_or_same (d ∷ bs) order b c (zero, less, is) (suc k, less', is') =
    inr (inl (subst (λ (x : Block). end_of x ≤ c.first) is (subst (λ (x : Block). end_of d ≤ x.first) is' (order 0 (suc k) c (omega arith) less'))))
apart_or_same (d ∷ bs) order b c (suc j, less, is) (zero, less', is') =
    inr (inr (subst (λ (x : Block). end_of x ≤ b.first) is' (subst (λ (x : Block). end_of d ≤ x.first) is (order 0 (suc j) b (omega arith) less))))
apart_or_same (d ∷ bs) order b c (suc j, less, is) (suc k, less', is') =
    apart_or_same bs (λ i m x a z. order (suc i) (suc m) x (omega arith) (omega arith)) b c (j, omega arith, is) (k, omega arith, is')

one_in : (f : Layout) (bs : List Block) (c : Block) (x : Piece) → Contains bs c → IsOneOf (pieces_of f c) x → IsOneOf (all_pieces f bs) x
one_in f [] c x h m = absurd (let less = h.1 in omega arith)
one_in f (d ∷ bs) c x (zero, less, is) m = one_of_left (pieces_of f d) (all_pieces f bs) x (subst (λ (e : Block). IsOneOf (pieces_of f e) x) (sym is) m)
one_in f (d ∷ bs) c x (suc k, less, is) m = one_of_right (pieces_of f d) (all_pieces f bs) x (one_in f bs c x (k, omega arith, is) m)

module _ {f : Layout} (good : IsLayout f) {tells alone : Type 0} {v : View} {first end level : ℕ} (r : IsOverRange f v first end level)
    (one : end ≤ (first / pages_of_entry f level + 1) * pages_of_entry f level) (book : HasBook f v) (clear : IsClear f v first end level) {seen : Seen} {w : View} (l : IsLoad f tells alone v first level seen w) where
  -- the pieces of the view, left or not
  same_range : SameRange (rested v) v
  same_range = record { frames = refl; levels = refl; first = refl; count = refl }

  same_book : SameBook (rested v) v
  same_book = record { pieces = refl; tables = refl; top = refl }

  pub owns : OwnsAll f v
  owns = owns_on f same_range same_book (owns_all f good (rested v) book.rests.0 book.levels book.rests.1 (book.lawful book.rests.0 book.rests.1))

  -- where no block is cut, the range may be swept
  pub entry_may : CutsNoBlock f (rested v) first end → MaySweepBelow f v first end v.levels level
  entry_may none =
      let blocks = book.rests.0 in
      let rest = book.rests.1 in
      let found = none blocks rest in
      let at_rest = swept_span f good (rested v) blocks book.levels rest (book.lawful blocks rest) first end v.levels
      (λ x m. blocks_uncut f good first end blocks (λ b h. found_none (is_cut first end) blocks found b h) x (subst (λ (xs : List Piece). IsOneOf xs x) rest.pieces m)) refl in
      record { may = may_loads at_rest (loads_path {tells = tells} v.path refl); clear = clear }

  -- the entry is empty
  pub empty_cuts : seen ≡ Empty → CutsNoBlock f (rested v) first end
  empty_cuts e blocks rest = finds_none (is_cut first end) blocks (λ c h. false_from_ne_true (is_cut first end c) (λ cut.
      let t = cut_tells first end c cut in
      let low = t.0 in let high = t.1 in
      let some = r.some in
      let long = pow_pos c.log2 in
      let p = piece_over f good c (max first c.first) (omega arith) (omega arith) in
      free_here good r one l e owns clear (max first c.first) (omega arith) (omega arith) p.0
      (subst (λ (xs : List Piece). IsOneOf xs p.0) (sym rest.pieces) (one_in f blocks c p.0 h p.1)) p.2))

  -- it is the word of a block
  module _ {word : ℕ} (e : seen ≡ Leaf word) where
    abbrev leaf : IsFound f v first level word
    leaf = leaf_found good owns l e

    abbrev pub leaf_block : Block
    leaf_block = (leaf_found good owns l e).piece.block

    pub leaf_is : IsBlockOf f level word first leaf_block
    leaf_is = block_found f good v first level word owns (leaf_found good owns l e)

    pub leaf_inside : end_of leaf_block ≤ 2 ^ 52
    leaf_inside = let legal = (owns leaf.piece leaf.own).legal.in_input in let few = pages_few f good in omega arith

    -- that lies in the range: then it is all of it
    pub leaf_cuts : ((leaf_block.first < first) ⊎ (end < end_of leaf_block) → ⊥) → CutsNoBlock f (rested v) first end
    leaf_cuts inside blocks rest = finds_none (is_cut first end) blocks (λ c h. false_from_ne_true (is_cut first end c) (λ cut.
        let x : Piece = leaf.piece in
        let is = own_piece (owns x leaf.own) in
        let low = leaf.has_page.0 in let high = leaf.has_page.1 in
        let e : ℕ = pages_of_entry f (level_of f x) in
        let begins : first_of f x ≡ first_of f x / e * e = first_whole good is in
        let s = shr_split (first_of f x) (f.index * level_of f x) in
        let same : first_of f x / e ≡ first / e = multiple_under first (f.index * level_of f x) (first_of f x) (omega arith) low high in
        let to : end ≤ (first / e + 1) * e = subst (λ k. end ≤ (first / pages_of_entry f k + 1) * pages_of_entry f k) leaf.level_is one in
        let again : first_of f x / e * e ≡ first / e * e = ap (λ n. n * e) same in
        let ends = ends_in_block good is in
        let from : first ≤ x.block.first = (elim (cases_lt x.block.first first) [ inl before ↦ absurd (inside (inl before)) | inr fine ↦ fine ]) in
        let upto : end_of x.block ≤ end = (elim (cases_lt end (end_of x.block)) [ inl past ↦ absurd (inside (inr past)) | inr fine ↦ fine ]) in
        let all : end_of x.block ≡ end = omega arith in
        let t = cut_tells first end c cut in
        let t0 = t.0 in let t1 = t.1 in
        let there = (in_blocks f blocks x (subst (λ (xs : List Piece). IsOneOf xs x) rest.pieces leaf.own)).0 in
        elim (apart_or_same blocks (book.lawful blocks rest).in_order x.block c there h) [
          | inl is' ↦ inside (subst (λ (b : Block). (b.first < first) ⊎ (end < end_of b)) (sym is') t.2)
          | inr other ↦ elim other [ inl behind ↦ omega arith | inr before ↦ omega arith ]
        ]))

-- The way went down to the table that has the entry, and came back.
module _ {f : Layout} (good : IsLayout f) {tells alone alone' : Type 0} {v w u z : View} (first count level : ℕ) (rest : v.path ≡ []) (k : ByLoads tells v w) (still : alone → alone')
    (one : first + count ≤ (first / pages_of_entry f level + 1) * pages_of_entry f level) (back : u.path ≡ w.path → z ≡ record u { path = [] }) where
  -- a table that lies in the range is below that one
  low_table : (q : Position) → table_lies_in f first (first + count) q ≡ true → q.level < level
  low_table q lies = elim (cases_lt q.level level) [
    | inl less ↦ less
    | inr over ↦ absurd (
        let h = and_parts (nat_le first q.base) _ lies in
        let from = leb-true first q.base h.0 in
        let to = leb-true (q.base + pages_of_table f q.level) (first + count) h.1 in
        let wide = table_mono f level q.level over in
        let s = shr_split first (f.index * level) in
        let bits : 9 ≤ f.index = omega (arith, good.index_is, good.granule_low) in
        let more : 2 ^ 9 ≤ 2 ^ f.index = pow_mono bits in
        let many = mul-le 2 (pages_of_entry f level) (2 ^ f.index) (pages_of_entry f level) (omega arith) (omega arith) in
        let size : pages_of_table f level ≡ 2 ^ f.index * pages_of_entry f level = (let t = table_is_entries f level in let g : pages_of_entry f level * 2 ^ f.index ≡ 2 ^ f.index * pages_of_entry f level = omega arith in t ∙ g) in
        let some = pow_pos (f.index * level) in omega arith)
  ]

  pub entry_after : (o : Option ℕ) → ClearsEntry f tells alone' first (first + count) level w u o → UnmapsEntry f tells alone first count v z o
  entry_after None h = let is = back h.1 in (loads_on k (loads_on h.0 (loads_path [] is)), ap (λ (y : View). y.path) is ∙ sym rest)
  entry_after (Some pages) h = (
    λ blocks at_rest. h.0 blocks (record {
      path = refl;
      prepared = k.prepared ∙ at_rest.prepared;
      end = k.purse.end ∙ at_rest.end;
      pieces = k.book.pieces ∙ at_rest.pieces;
    }),
    sweeps_as (lies_below f first (first + count) level) (table_lies_in f first (first + count)) (begins_in f first (first + count)) (begins_in f first (first + count))
        (λ q out. false_from_ne_true (lies_below f first (first + count) level q) (λ lies. false≢true (sym out ∙ (and_parts (nat_lt q.level level) _ lies).1)))
        (λ q m. same q) (λ x m. refl)
        (around_sweeps (lies_below f first (first + count) level) (begins_in f first (first + count)) k still h.1
        (back h.1.path ∙ ap (λ (xs : List Node). record u { path = xs }) (sym rest))),
  )
    where
      same : (q : Position) → table_lies_in f first (first + count) q ≡ lies_below f first (first + count) level q
      same q = elim (cases_Bool (table_lies_in f first (first + count) q)) [
        | inl lies ↦ lies ∙ sym (and_from (nat_lt q.level level) _ (lt-ltb q.level level (low_table q lies)) lies)
        | inr out ↦ out ∙ sym (false_from_ne_true (lies_below f first (first + count) level q) (λ lies. false≢true (sym out ∙ (and_parts (nat_lt q.level level) _ lies).1)))
      ]

-- what a look at one entry leaves, where nothing went
pub none_went : (f : Layout) (tells alone : Type 0) (first count : ℕ) {v w : View} (o : Option ℕ) → o ≡ None → UnmapsEntry f tells alone first count v w o → ByLoads tells v w × (w.path ≡ v.path)
none_went f tells alone first count {v} {w} o e h = subst (UnmapsEntry f tells alone first count v w) e h

pub some_went : (f : Layout) (tells alone : Type 0) (first count : ℕ) {v w : View} {pages : ℕ} (o : Option ℕ) → o ≡ Some pages → UnmapsEntry f tells alone first count v w o →
    CutsNoBlock f v first (first + count) × SweepsIn f tells alone first count v w pages
some_went f tells alone first count {v} {w} o e h = subst (UnmapsEntry f tells alone first count v w) e h

pub still_rests : {f : Layout} {tells : Type 0} {v w : View} {blocks : List Block} → ByLoads tells v w × (w.path ≡ v.path) → IsAtRest f v blocks → IsAtRest f w blocks
still_rests k rest = record {
  path = k.1 ∙ rest.path;
  prepared = k.0.prepared ∙ rest.prepared;
  end = k.0.purse.end ∙ rest.end;
  pieces = k.0.book.pieces ∙ rest.pieces;
}
