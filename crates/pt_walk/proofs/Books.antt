-- The pieces of a book's blocks, and what the book says of a page by them.
use Rattle.std.proofs.Common.{◌≡◌, ℕ, zero, suc, ◌+◌, ◌-◌, ◌*◌, ◌/◌, ◌^◌, ◌<◌, ◌≤◌, List, [], ◌∷◌, ◌++◌, inl, inr, Bool, true, false, refl, ap, sym, subst, arith, ⊎_elim}
use Rattle.std.specs.Prelude.{IsTrue, ◌⊎◌, ◌&&◌, nat_lt, map, length, slice_index_or, All, AllPairs, Contains, find, Option, Some, None, option_map}
use Rattle.std.specs.List.{range_with_len, AllByRecursion}
use Rattle.std.proofs.lemmas.Bool.{and_parts, and_from, lt-ltb, ltb-true, cases_Bool}
use Rattle.std.proofs.lemmas.List.Elements.{All-contains, recursion_from_All}
use Rattle.std.proofs.lemmas.Nat.{shr_split, shr_below, pow_pos, mod_below}
use Rattle.pt_model.specs.declared.position.Position.{Position}
use Rattle.pt_model.specs.declared.block.Block.{Block}
use Rattle.pt_model.specs.declared.block.Prot.{Prot}
use Rattle.pt_model.specs.Layout.{Layout, IsLegalBlock, end_of, level_of_size, pages_of_table}
use Rattle.pt_model.specs.Tables.{is_spine, least_top, needed, position_over}
use Rattle.pt_model.specs.Book.{IsLawful, meets, value_at}
use Rattle.pt_format.specs.Laws.{IsLayout}
use Rattle.pt_format.specs.Words.{MayBeLeaf, IsUnder}
use Rattle.pt_view.specs.declared.view.View.{View}
use Rattle.pt_view.specs.declared.view.Piece.{Piece}
use Rattle.pt_model.specs.Sets.{IsAmong}
use Rattle.pt_view.specs.Pieces.{IsOneOf, all_pieces, level_of, pieces_of, table_of, words_of, IsUnderPiece}
use Rattle.pt_view.specs.Views.{IsAtRest, book_of}
use Rattle.pt_walk.specs.Walks.{HasNowhere, IsFound, IsOwn, OwnsAll}
use Rattle.pt_walk.specs.RangeWalks.{IsBlockOf}
use Rattle.pt_model.proofs.Quotients.{size_split}
use Rattle.pt_model.proofs.Positions.{among_first, among_more}
use Rattle.pt_view.proofs.Members.{in_blocks, mapped_one, one_of_left, one_of_right, piece_at}
use Rattle.pt_view.proofs.Pieces.{is_under_piece, may_be_leaf, page_in_block, table_of_block}
use Rattle.pt_walk.proofs.Descent.{own_piece}

contains_among : (ps : List Position) (p : Position) (k : ℕ) → k < length ps → slice_index_or ps k p ≡ p → IsAmong ps p
contains_among [] p k less e = absurd (omega arith)
contains_among (q ∷ ps) p zero less e = among_first p q ps (sym e)
contains_among (q ∷ ps) p (suc k) less e = among_more p q ps (contains_among ps p k (omega arith) e)

head_of : (P : Position → Type 0) (at : ℕ → Position) (n low : ℕ) (more : List Position) → 0 < n → AllByRecursion P (map at (range_with_len low n) ++ more) → P (at low)
head_of P at zero low more some h = absurd (omega arith)
head_of P at (suc n) low more some h = h.0

-- What a view at rest knows of its pieces, by its book.
pub owns_all : (f : Layout) → IsLayout f → (v : View) (blocks : List Block) → f.start ≤ v.levels → IsAtRest f v blocks → IsLawful f v.levels (book_of v blocks) → OwnsAll f v
owns_all f good v blocks levels rest lawful = λ x member.
    let i = in_blocks f blocks x (subst (λ (xs : List Piece). IsOneOf xs x) rest.pieces member) in
    let legal : IsLegalBlock f x.block = All-contains (IsLegalBlock f) blocks x.block lawful.legal i.0 in
    let stated : IsTrue (f.states x.block.prot) = All-contains (λ (b : Block). IsTrue (f.states b.prot)) blocks x.block lawful.stated i.0 in
    let under : end_of x.block ≤ pages_of_table f v.top = All-contains (λ (b : Block). end_of b ≤ pages_of_table f v.top) blocks x.block lawful.under_top i.0 in
    let IsThere : Position → Type 0 = λ p. Contains v.tables p ⊎ (IsTrue (is_spine v.levels p) × (p.level ≤ v.top)) in
    let all : All IsThere (needed f v.levels x.block) = All-contains (λ (b : Block). All IsThere (needed f v.levels b)) blocks x.block lawful.has_needed i.0 in
    let size = good.sizes_low x.block.log2 legal.a_size in
    let least = lawful.top_least in
    let low : level_of f x ≤ v.top = omega arith in
    let top : ℕ = least_top f v.levels (end_of x.block) in
    let reaches : level_of f x ≤ top = omega arith in
    let there : IsThere (position_over f x.block.first (level_of f x)) = head_of IsThere (position_over f x.block.first) (top + 1 - level_of f x) (level_of f x) _ (omega arith) (recursion_from_All IsThere (needed f v.levels x.block) all) in
    let table : position_over f x.block.first (level_of f x) ≡ table_of f x = sym (table_of_block good (record { a_part = i.1; legal = legal; stated = stated })) in
    record {
      a_part = i.1;
      legal = legal;
      stated = stated;
      under_top = under;
      low = low;
      in_table = ⊎_elim (λ (a : Contains v.tables (position_over f x.block.first (level_of f x))). inl (subst (IsAmong v.tables) table (contains_among v.tables _ a.0 a.1 a.2)))
          (λ s. inr (subst (λ (p : Position). IsTrue (is_spine v.levels p)) table s.0)) there;
    }

-- What a book says of a page.

pub find_here : (page : ℕ) (bs : List Block) (b : Block) (k : ℕ) → AllPairs (λ c d. end_of c ≤ d.first) bs → k < length bs → slice_index_or bs k b ≡ b →
    b.first ≤ page → page < end_of b → find (meets page (page + 1)) bs ≡ Some b
find_here page [] b k pairs less e low high = absurd (omega arith)
find_here page (c ∷ bs) b zero pairs less e low high =
    let t : meets page (page + 1) b ≡ true = and_from (nat_lt b.first (page + 1)) _ (lt-ltb b.first (page + 1) (omega arith)) (lt-ltb page (end_of b) high) in
    subst (λ (d : Block). find (meets page (page + 1)) (d ∷ bs) ≡ Some b) (sym e) (rw t refl)
find_here page (c ∷ bs) b (suc k) pairs less e low high =
    let rest : find (meets page (page + 1)) bs ≡ Some b = find_here page bs b k (λ i j d a z. pairs (suc i) (suc j) d (omega arith) (omega arith)) (omega arith) e low high in
    let before : end_of c ≤ b.first = subst (λ (d : Block). end_of c ≤ d.first) e (pairs 0 (suc k) b (omega arith) less) in
    let t : meets page (page + 1) c ≡ false = false_from_not (nat_lt c.first (page + 1)) page (end_of c) (omega arith) in
    rw t rest
  where
    false_from_not : (t : Bool) (a z : ℕ) → z ≤ a → (t && nat_lt a z) ≡ false
    false_from_not t a z h = elim (cases_Bool (t && nat_lt a z)) [
      | inl e ↦ absurd (let p : (t ≡ true) × (nat_lt a z ≡ true) = and_parts t _ e in let q = ltb-true a z p.1 in omega arith)
      | inr e ↦ e
    ]

-- a block that has a page has a piece that does
pub piece_over : (f : Layout) → IsLayout f → (b : Block) (page : ℕ) → b.first ≤ page → page < end_of b → (x : Piece) × IsOneOf (pieces_of f b) x × IsUnderPiece f x page
piece_over f good b page low high =
    let level : ℕ = level_of_size f b.log2 in
    let bits : ℕ = f.index * level in
    let part : ℕ = (page - b.first) / 2 ^ bits in
    let s : b.log2 ≡ b.log2 - bits + bits = size_split f.index b.log2 (omega (arith, good.index_is, good.granule_low)) in
    let within : page - b.first < 2 ^ (b.log2 - bits + bits) = subst (λ k. page - b.first < 2 ^ k) s (omega arith) in
    let small : part < words_of f b = shr_below (page - b.first) (b.log2 - bits) bits within in
    let split = shr_split (page - b.first) bits in
    let rest = mod_below (page - b.first) (2 ^ bits) (pow_pos bits) in
    (piece_at b part, mapped_one (piece_at b) (words_of f b) 0 part (omega arith) (omega arith), (omega arith, omega arith))

find_nowhere : (f : Layout) → IsLayout f → (page : ℕ) (bs : List Block) → ((x : Piece) → IsOneOf (all_pieces f bs) x → IsUnderPiece f x page → ⊥) → find (meets page (page + 1)) bs ≡ None
find_nowhere f good page [] none = refl
find_nowhere f good page (b ∷ bs) none = elim (cases_Bool (meets page (page + 1) b)) [
  | inl e ↦ absurd (
      let p : (nat_lt b.first (page + 1) ≡ true) × (nat_lt page (end_of b) ≡ true) = and_parts (nat_lt b.first (page + 1)) _ e in
      let low = ltb-true b.first (page + 1) p.0 in
      let high : page < end_of b = ltb-true page (end_of b) p.1 in
      let x : (x : Piece) × IsOneOf (pieces_of f b) x × IsUnderPiece f x page = piece_over f good b page (omega arith) high in
      none x.0 (one_of_left (pieces_of f b) (all_pieces f bs) x.0 x.1) x.2)
  | inr e ↦ (let rest : find (meets page (page + 1)) bs ≡ None = find_nowhere f good page bs (λ x h has. none x (one_of_right (pieces_of f b) (all_pieces f bs) x h) has) in rw e rest)
]

abbrev value_of : ℕ → Option Block → Option (ℕ × Prot)
value_of page o = option_map (λ (b : Block). (b.out + (page - b.first), b.prot)) o

-- What the book of a view at rest says of a page, by what its pieces say.
module _ (f : Layout) (good : IsLayout f) (v : View) (blocks : List Block) (rest : IsAtRest f v blocks) (page : ℕ) where
  pub value_nowhere : HasNowhere f v page → value_at (book_of v blocks) page ≡ None
  value_nowhere h = ap (value_of page) (find_nowhere f good page blocks (λ x member has. h x (subst (λ (xs : List Piece). IsOneOf xs x) (sym rest.pieces) member) has))

  pub value_found : f.start ≤ v.levels → IsLawful f v.levels (book_of v blocks) → (level word : ℕ) (h : IsFound f v page level word) →
      value_at (book_of v blocks) page ≡ Some (h.piece.block.out + (page - h.piece.block.first), h.piece.block.prot)
  value_found levels lawful level word h =
      let x : Piece = h.piece in
      let own : IsOwn f v x = owns_all f good v blocks levels rest lawful x h.own in
      let i = in_blocks f blocks x (subst (λ (xs : List Piece). IsOneOf xs x) rest.pieces h.own) in
      let low = h.has_page.0 in
      let ends = page_in_block good (own_piece own) h.has_page in
      ap (value_of page) (find_here page blocks x.block i.0.0 lawful.in_order i.0.1 i.0.2 (omega arith) (omega arith))

-- The word that was found is a leaf that has the page.
pub record IsLeafOver (f : Layout) (level word page first : ℕ) (out : ℕ) (prot : Prot) : Type 0 where
  pub log2 : ℕ
  pub part : ℕ
  pub may : MayBeLeaf f level log2 out prot part
  pub word_is : word ≡ f.leaf level log2 out prot part
  pub under : IsUnder f level log2 first part page

-- the block of the piece that was found is the word's
pub block_found : (f : Layout) → IsLayout f → (v : View) (page level word : ℕ) → OwnsAll f v → (h : IsFound f v page level word) → IsBlockOf f level word page h.piece.block
block_found f good v page level word owns h =
    let x : Piece = h.piece in
    let own : IsOwn f v x = owns x h.own in
    let at : IsBlockOf f (level_of f x) word page x.block = record {
      part = x.part;
      may = may_be_leaf good (own_piece own);
      word_is = h.word_is;
      under = is_under_piece good (own_piece own) h.has_page;
    } in
    subst (λ (k : ℕ). IsBlockOf f k word page x.block) (sym h.level_is) at

pub leaf_of : (f : Layout) → IsLayout f → (v : View) (page level word : ℕ) → OwnsAll f v → (h : IsFound f v page level word) →
    IsLeafOver f level word page h.piece.block.first h.piece.block.out h.piece.block.prot
leaf_of f good v page level word owns h =
    let b : IsBlockOf f level word page h.piece.block = block_found f good v page level word owns h in
    record { log2 = h.piece.block.log2; part = b.part; may = b.may; word_is = b.word_is; under = b.under }
