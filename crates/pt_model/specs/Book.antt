-- The book of a range of pages, and how each call answers by it and changes it. A book has ranges and
-- positions: no words, no walk and no frames. It is this project's own.
use Rattle.std.specs.Prelude.{◌≡◌, ℕ, ◌+◌, ◌-◌, ◌*◌, ◌%◌, ◌^◌, ◌≤◌, ◌<◌, nat_le, nat_lt, ◌&&◌, ◌||◌, not, Bool, true, false, List, [], ◌∷◌, ◌++◌, All, AllPairs, Contains, IsTrue, filter, find, max, length, Option, Some, None, option_map, if◌then◌else◌, ◌⊎◌}
use Rattle.std.specs.List.{list_any}
use Rattle.pt_model.specs.declared.block.Block.{Block}
use Rattle.pt_model.specs.declared.block.Prot.{Prot}
use Rattle.pt_model.specs.Layout.{Layout, IsLegalBlock, end_of, pages_of_table, input_pages}
use Rattle.pt_model.specs.Pages.{page_under, page_at, range_at, byte_at, is_whole}
use Rattle.pt_model.specs.Tiling.{tiling}
use Rattle.pt_model.specs.declared.position.Position.{Position}
use Rattle.pt_model.specs.Tables.{IsPosition, is_same, is_before, end_of_table, is_spine, starting_top, levels_between, least_top, needed, all_needed, add_positions}

pub record Book : Type 0 where
  -- the span: the pages that the book is about
  pub first : ℕ
  pub count : ℕ
  -- its blocks, in the order of their first pages
  pub blocks : List Block
  -- its tables that are not of the spine, in order, each once
  pub tables : List Position
  -- the level of the root's table
  pub top : ℕ

-- the page after the last one of the span
abbrev pub span_end : Book → ℕ
span_end book = book.first + book.count

-- whether the pages from `first` to before `last` are of the span
abbrev pub is_inside : Book → (first last : ℕ) → Bool
is_inside book first last = nat_le book.first first && nat_le last (span_end book)

-- whether a block meets the pages from `first` to before `last`, and whether it lies in them
abbrev pub meets : ℕ → ℕ → Block → Bool
meets first last b = nat_lt b.first last && nat_lt first (end_of b)

abbrev pub lies_in : ℕ → ℕ → Block → Bool
lies_in first last b = nat_le first b.first && nat_le (end_of b) last

abbrev pub table_meets : Layout → ℕ → ℕ → Position → Bool
table_meets f first last p = nat_lt p.base last && nat_lt first (end_of_table f p)

abbrev pub table_lies_in : Layout → ℕ → ℕ → Position → Bool
table_lies_in f first last p = nat_le first p.base && nat_le (end_of_table f p) last

-- The function of a book.

-- what a book maps a page to: the output page and what is permitted
abbrev pub value_at : Book → ℕ → Option (ℕ × Prot)
value_at book page =
    option_map (λ b. (b.out + (page - b.first), b.prot)) (find (meets page (page + 1)) book.blocks)

-- The book machine: why a call is refused, in the order of the refusals, and the book after it.

pub data MapRefusal : Type 0 where
  Misaligned : MapRefusal
  OutsideLease : MapRefusal
  OutputRange : MapRefusal
  -- the address of the lowest page that is mapped
  Occupied : (address : ℕ) → MapRefusal

-- the lowest mapped page of the pages from `first` to before `last`
abbrev pub lowest_mapped : Book → (first last : ℕ) → Option ℕ
lowest_mapped book first last = option_map (λ b. max first b.first) (find (meets first last) book.blocks)

-- why a map of `len` bytes from address `va` onto those from `pa` is refused, other than for want of frames
abbrev pub map_refusal : Layout → Book → (va pa len : ℕ) → Option MapRefusal
map_refusal f book va pa len =
    if not ((is_whole f va && is_whole f pa) && (is_whole f len && nat_lt 0 len)) then Some Misaligned else
    elim (range_at f va len) [
      | None ↦ Some OutsideLease
      | Some range ↦
          if not (is_inside book range.0 (range.0 + range.1)) then Some OutsideLease else (
          if nat_lt (2 ^ f.output) (pa + len) then Some OutputRange else
          option_map (λ page. Occupied (byte_at f page)) (lowest_mapped book range.0 (range.0 + range.1)))
    ]

-- the blocks put among others, in the order of first pages
abbrev pub add_blocks : List Block → List Block → List Block
add_blocks [] new = new
add_blocks (b ∷ bs) new =
    (filter (λ n. nat_lt n.first b.first) new) ++ (b ∷ add_blocks bs (filter (λ n. not (nat_lt n.first b.first)) new))

-- the book after a map of `count` pages from page `first` onto those from page `out`: it has the blocks of
-- the tiling and the tables that they need, but those that a new block takes the place of
abbrev pub mapped : Layout → (levels : ℕ) → Book → (first count out : ℕ) → Prot → Book
mapped f levels book first count out prot =
    let new = tiling f prot first out count in
    record book {
      blocks = add_blocks book.blocks new;
      tables =
          add_positions
          (filter (λ p. not (list_any (λ b. table_lies_in f b.first (end_of b) p) new)) book.tables)
          (filter (λ p. not (is_spine levels p)) (all_needed f levels new));
      top = max book.top (least_top f levels (first + count));
    }

-- whether an address has no page of the span
abbrev pub is_outside : Layout → Book → (address : ℕ) → Bool
is_outside f book address = elim (page_at f address) [
  | None ↦ true
  | Some page ↦ not (is_inside book page (page + 1))
]

-- the output address of the byte at an address, and what is permitted
abbrev pub translation : Layout → Book → (address : ℕ) → Option (ℕ × Prot)
translation f book address =
    option_map (λ t. (t.0 * 2 ^ f.granule + address % 2 ^ f.granule, t.1)) (value_at book (page_under f address))

-- Linked positions, and the account of frames.

-- the number of linked positions of a book of the whole space: its tables and the spine up to its top
abbrev pub linked_count : (levels : ℕ) → Book → ℕ
linked_count levels book = length book.tables + length (levels_between (starting_top levels) book.top)

abbrev pub is_linked : (levels : ℕ) → Book → Position → Bool
is_linked levels book p = (is_spine levels p && nat_le p.level book.top) || list_any (is_same p) book.tables

-- the positions that a map of these pages needs and that aren't linked
abbrev pub missing : Layout → (levels : ℕ) → Book → (first count out : ℕ) → Prot → List Position
missing f levels book first count out prot =
    filter (λ p. not (is_linked levels book p)) (all_needed f levels (tiling f prot first out count))

-- whether so many frames are too few: the linked positions and the missing ones, counted together
abbrev pub is_short : Layout → (levels frames : ℕ) → Book → (first count out : ℕ) → Prot → Bool
is_short f levels frames book first count out prot =
    nat_lt frames (linked_count levels book + length (missing f levels book first count out prot))

-- What every book keeps, where its space starts with so many levels.
pub record IsLawful (f : Layout) (levels : ℕ) (book : Book) : Type 0 where
  pub in_space : span_end book ≤ input_pages f
  pub legal : All (IsLegalBlock f) book.blocks
  pub stated : All (λ b. IsTrue (f.states b.prot)) book.blocks
  pub in_order : AllPairs (λ b c. end_of b ≤ c.first) book.blocks
  pub in_span : All (λ b. IsTrue (lies_in book.first (span_end book) b)) book.blocks
  pub under_top : All (λ b. end_of b ≤ pages_of_table f book.top) book.blocks
  pub positions : All (IsPosition f) book.tables
  pub tables_in_order : AllPairs (λ p q. IsTrue (is_before p q)) book.tables
  pub tables_meet : All (λ p. IsTrue (table_meets f book.first (span_end book) p)) book.tables
  pub off_spine : All (λ p. is_spine levels p ≡ false) book.tables
  pub has_needed : All (λ b. All (λ p. Contains book.tables p ⊎ (IsTrue (is_spine levels p) × (p.level ≤ book.top))) (needed f levels b)) book.blocks
  pub top_least : starting_top levels ≤ book.top
  pub top_below : book.top < f.levels

-- the book of a new space
abbrev pub new_book : Layout → (levels : ℕ) → Book
new_book f levels = record {
  first = 0;
  count = input_pages f;
  blocks = [];
  tables = [];
  top = starting_top levels;
}
