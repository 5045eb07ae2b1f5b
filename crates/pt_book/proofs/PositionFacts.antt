-- Positions put into lists in order, and those that a block needs.
use Rattle.std.proofs.Common.{◌≡◌, ℕ, zero, suc, ◌+◌, ◌-◌, ◌*◌, ◌/◌, ◌^◌, ◌<◌, ◌≤◌, Bool, true, false, inl, inr, List, [], ◌∷◌, ◌++◌, length, get_or, drop, cond, refl, ap, ap₂, sym, subst, ◌∙◌, arith}
use Rattle.std.specs.Prelude.{map, filter, not, max, fold, nat_le, ◌&&◌}
use Rattle.std.specs.List.{insert, list_any, range_with_len}
use Rattle.std.proofs.lemmas.Bool.{false≢true, cases_lt}
use Rattle.std.proofs.lemmas.Bool.Decides.{nat_tests}
use Rattle.std.proofs.lemmas.List.{at_drop_more}
use Rattle.std.proofs.lemmas.List.FromFn.{length-range_with_len}
use Rattle.std.proofs.lemmas.Nat.{pow_pos}
use Rattle.std.proofs.Math.Nat.{div-eq_of_lt}
use Rattle.pt_model.specs.declared.block.Block.{Block}
use Rattle.pt_model.specs.declared.position.Position.{Position}
use Rattle.pt_model.specs.Layout.{Layout, IsLegalBlock, end_of, input_pages, level_of_size, pages_of_table}
use Rattle.pt_model.specs.Tables.{is_before, add_position, add_positions, position_over, spine_position, starting_top, levels_between, least_top, needed, all_needed, is_spine}
use Rattle.pt_model.specs.Tiling.{tiling}
use Rattle.pt_model.specs.Book.{Book, add_blocks, mapped, table_lies_in}
use Rattle.pt_model.specs.declared.block.Prot.{Prot}
use Rattle.pt_model.specs.Sets.{IsAmong, IsSorted}
use Rattle.pt_model.proofs.Positions.{before_order, before_trans, add_after, add_before, add_again, sorted_add, sorted_adds, among_here, among_more}
use Rattle.pt_model.proofs.Tops.{power_mono, above_top, reaches_top}
use Rattle.pt_tile.proofs.Counts.{adds_append}
use Rattle.pt_format.specs.Laws.{IsLayout}
use Rattle.pt_book.proofs.ListFacts.{small_power}

member_at : (xs : List Position) (i : ℕ) (d : Position) → i < length xs → IsAmong xs (get_or xs i d)
member_at [] i d h = absurd (omega arith)
member_at (x ∷ xs) zero d h = among_here x xs
member_at (x ∷ xs) (suc i) d h = among_more (get_or xs i d) x xs (member_at xs i d (omega arith))

-- a position that is before all of a list is put first
pub add_first : (xs : List Position) (p d : Position) → (0 < length xs → is_before p (get_or xs 0 d) ≡ true) →
    add_position xs p ≡ insert xs 0 p
add_first [] p d h = refl
add_first (x ∷ xs) p d h = add_before x xs p (h (omega arith))

-- a position is put behind an item where it is before the next one
pub add_behind : (xs : List Position) (i : ℕ) (p d : Position) → IsSorted xs → i < length xs →
    is_before (get_or xs i d) p ≡ true → (suc i < length xs → is_before p (get_or xs (suc i) d) ≡ true) →
    add_position xs p ≡ insert xs (suc i) p
add_behind [] i p d s h b n = absurd (omega arith)
add_behind (x ∷ xs) zero p d s h b n = add_after x xs p b ∙ ap (λ (ys : List Position). x ∷ ys) (add_first xs p d (λ k. n (omega arith)))
add_behind (x ∷ xs) (suc i) p d s h b n =
    let before : is_before x p ≡ true = before_trans x (get_or xs i d) p (s.0 (get_or xs i d) (member_at xs i d (omega arith))) b in
    add_after x xs p before
    ∙ ap (λ (ys : List Position). x ∷ ys) (add_behind xs i p d s.1 (omega arith) b (λ k. n (omega arith)))

-- the same, with names for the place of the next one
pub add_between : (xs : List Position) (i j k : ℕ) (p d : Position) → j ≡ suc i → k ≡ suc i → IsSorted xs → i < length xs →
    is_before (get_or xs i d) p ≡ true → (k < length xs → is_before p (get_or xs k d) ≡ true) →
    add_position xs p ≡ insert xs j p
add_between xs i j k p d ej ek s h b n =
    let next : suc i < length xs → is_before p (get_or xs (suc i) d) ≡ true = λ m.
    subst (λ (m : ℕ). is_before p (get_or xs m d) ≡ true) ek (n (omega arith)) in
    add_behind xs i p d s h b next ∙ ap (λ (m : ℕ). insert xs m p) (sym ej)

-- a position that is neither before an item nor behind it is there
pub add_known : (xs : List Position) (i : ℕ) (p d : Position) → IsSorted xs → i < length xs →
    is_before (get_or xs i d) p ≡ false → is_before p (get_or xs i d) ≡ false → add_position xs p ≡ xs
add_known xs i p d s h b n =
    elim (before_order (get_or xs i d) p) [
      | inl before ↦ absurd (false≢true (sym b ∙ before))
      | inr other ↦ elim other [
        | inl same ↦ add_again xs p s (subst (λ (q : Position). IsAmong xs q) same (member_at xs i d h))
        | inr behind ↦ absurd (false≢true (sym n ∙ behind))
      ]
    ]

-- one more item of a list that is filtered, where it passes and where it doesn't
pub passed : (t : Position → Bool) (ps xs new all : List Position) (i : ℕ) (d : Position) → i < length xs → IsSorted ps →
    t (get_or xs i d) ≡ true → new ≡ add_position ps (get_or xs i d) → add_positions ps (filter t (drop i xs)) ≡ all →
    IsSorted new × (add_positions new (filter t (drop (i + 1) xs)) ≡ all)
passed t ps xs new all i d h s e n inv = (
  subst (λ (ys : List Position). IsSorted ys) (sym n) (sorted_add ps (get_or xs i d) s),
  ap (λ (ys : List Position). add_positions ys (filter t (drop (i + 1) xs))) n
      ∙ sym (at_drop_more (λ ys. add_positions ps (filter t ys)) xs i d h
      ∙ ap (λ b. add_positions ps (cond b (get_or xs i d ∷ filter t (drop (i + 1) xs)) (filter t (drop (i + 1) xs)))) e)
      ∙ inv,
)

pub failed : (t : Position → Bool) (ps xs new all : List Position) (i : ℕ) (d : Position) → i < length xs → IsSorted ps →
    t (get_or xs i d) ≡ false → new ≡ ps → add_positions ps (filter t (drop i xs)) ≡ all →
    IsSorted new × (add_positions new (filter t (drop (i + 1) xs)) ≡ all)
failed t ps xs new all i d h s e n inv = (
  subst (λ (ys : List Position). IsSorted ys) (sym n) s,
  ap (λ (ys : List Position). add_positions ys (filter t (drop (i + 1) xs))) n
      ∙ sym (at_drop_more (λ ys. add_positions ps (filter t ys)) xs i d h
      ∙ ap (λ b. add_positions ps (cond b (get_or xs i d ∷ filter t (drop (i + 1) xs)) (filter t (drop (i + 1) xs)))) e)
      ∙ inv,
)

-- What a block needs.

-- the spine is the positions over page 0
spine_over : (f : Layout) (levels : List ℕ) → map (position_over f 0) levels ≡ map spine_position levels
spine_over f [] = refl
spine_over f (level ∷ levels) =
    let none : 0 / pages_of_table f level ≡ 0 = div-eq_of_lt (pow_pos (f.index * (level + 1))) in
    let base : 0 / pages_of_table f level * pages_of_table f level ≡ 0 = ap (λ n. n * pages_of_table f level) none ∙ omega arith in
    ap₂ (λ (n : ℕ) (ps : List Position). let p : Position = record { level = level; base = n } in p ∷ ps) base (spine_over f levels)

-- the tables over a block, and then the spine
pub needed_done : (f : Layout) (levels : ℕ) (b : Block) (old ps all : List Position) (top low last : ℕ) →
    last ≡ end_of b → top ≡ least_top f levels last → low ≡ level_of_size f b.log2 →
    ps ≡ add_positions old (map (position_over f b.first) (levels_between low top)) →
    all ≡ add_positions ps (map (position_over f 0) (levels_between (levels - 1) top)) →
    all ≡ add_positions old (needed f levels b)
needed_done f levels b old ps all top low last l t s over spine =
    let top_is : top ≡ least_top f levels (end_of b) = t ∙ ap (least_top f levels) l in
    let high = levels_between (starting_top levels) top in
    let between : ps ≡ add_positions old (map (position_over f b.first) (levels_between (level_of_size f b.log2) top)) =
    over ∙ ap (λ m. add_positions old (map (position_over f b.first) (levels_between m top))) s in
    spine
    ∙ ap₂ (λ (xs ys : List Position). add_positions xs ys) between (spine_over f high)
    ∙ sym (adds_append (map (position_over f b.first) (levels_between (level_of_size f b.log2) top)) (map spine_position high) old)
    ∙ ap (λ t. add_positions old (map (position_over f b.first) (levels_between (level_of_size f b.log2) t)
    ++ map spine_position (levels_between (starting_top levels) t))) top_is

-- the positions of one more level, and of no level
pub level_more : (over : ℕ → Position) (levels level : ℕ) (ps new all : List Position) → level < levels → IsSorted ps →
    new ≡ add_position ps (over level) → add_positions ps (map over (range_with_len level (levels - level))) ≡ all →
    IsSorted new × (add_positions new (map over (range_with_len (level + 1) (levels - (level + 1)))) ≡ all)
level_more over levels level ps new all below s n inv =
    let more : levels - level ≡ suc (levels - (level + 1)) = omega arith in (
      subst (λ (xs : List Position). IsSorted xs) (sym n) (sorted_add ps (over level) s),
      ap (λ (xs : List Position). add_positions xs (map over (range_with_len (level + 1) (levels - (level + 1))))) n
          ∙ sym (ap (λ m. add_positions ps (map over (range_with_len level m))) more)
          ∙ inv,
    )

pub level_end : (h : ℕ → Position) (levels low : ℕ) (ps : List Position) → levels ≤ low →
    add_positions ps (map h (range_with_len low (levels - low))) ≡ ps
level_end h levels low ps above =
    let none : levels - low ≡ 0 = omega arith in
    ap (λ m. add_positions ps (map h (range_with_len low m))) none

-- what one more block needs
pub needed_more : (f : Layout) (levels : ℕ) (ps new all : List Position) (bs : List Block) (i : ℕ) (d : Block) → i < length bs → IsSorted ps →
    new ≡ add_positions ps (needed f levels (get_or bs i d)) →
    fold (λ xs b. add_positions xs (needed f levels b)) ps (drop i bs) ≡ all →
    IsSorted new × (fold (λ xs b. add_positions xs (needed f levels b)) new (drop (i + 1) bs) ≡ all)
needed_more f levels ps new all bs i d h s n inv = (
  subst (λ (ys : List Position). IsSorted ys) (sym n) (sorted_adds (needed f levels (get_or bs i d)) ps s),
  ap (λ (ys : List Position). fold (λ xs b. add_positions xs (needed f levels b)) ys (drop (i + 1) bs)) n
      ∙ sym (at_drop_more (λ cs. fold (λ xs b. add_positions xs (needed f levels b)) ps cs) bs i d h)
      ∙ inv,
)

-- a block of a format is small
pub log2_small : (f : Layout) → IsLayout f → (b : Block) → IsLegalBlock f b → b.log2 < 64
log2_small f l b h =
    let wide : input_pages f ≤ 2 ^ 52 = power_mono (f.input - f.granule) 52 (omega (arith, l.pages_high)) in
    small_power b.log2 64 (omega (arith, h.in_input))

-- the tables after a map of new blocks
abbrev pub tables_after : Layout → (levels : ℕ) → List Position → List Block → List Position
tables_after f levels old new =
    add_positions
    (filter (λ p. not (list_any (λ b. table_lies_in f b.first (end_of b) p) new)) old)
    (filter (λ p. not (is_spine levels p)) (all_needed f levels new))

abbrev pub with_parts : Book → List Block → List Position → (top : ℕ) → Book
with_parts old blocks tables top = record {
  first = old.first;
  count = old.count;
  blocks = blocks;
  tables = tables;
  top = top;
}

-- A table in a block, by its pages and those of the block.

pub lies_small : (first base room table : ℕ) → room < table → false ≡ (nat_le first base && nat_le (base + table) (first + room))
lies_small first base room table h = grind (arith, nat_tests)

pub lies_before : (first base room table : ℕ) → base < first → nat_le first base ≡ (nat_le first base && nat_le (base + table) (first + room))
lies_before first base room table h = grind (arith, nat_tests)

pub lies_behind : (first base room table : ℕ) → first ≤ base → table ≤ room →
    nat_le base (first + (room - table)) ≡ (nat_le first base && nat_le (base + table) (first + room))
lies_behind first base room table h k = grind (arith, nat_tests)

pub lies_past : (first last base table : ℕ) → last < table → false ≡ (nat_le first base && nat_le (base + table) last)
lies_past first last base table h = grind (arith, nat_tests)

-- The book after a map, by its parts.
pub mapped_is : (f : Layout) (levels : ℕ) (old : Book) (first count out : ℕ) (prot : Prot) →
    (blocks : List Block) (tables : List Position) (top : ℕ) →
    blocks ≡ add_blocks old.blocks (tiling f prot first out count) →
    tables ≡ tables_after f levels old.tables (tiling f prot first out count) →
    top ≡ max old.top (least_top f levels (first + count)) →
    with_parts old blocks tables top ≡ mapped f levels old first count out prot
mapped_is f levels old first count out prot blocks tables top b t e = λ i. with_parts old (b i) (t i) (e i)

-- The least top, sought from the starting one on.

-- it is above a level whose table ends before
pub above_short : (f : Layout) (levels last level : ℕ) → level < f.levels → level ≤ least_top f levels last → pages_of_table f level < last →
    level + 1 ≤ least_top f levels last
above_short f levels last level h low ends =
    elim (cases_lt level (least_top f levels last)) [
      | inl above ↦ omega arith
      | inr at ↦ absurd (omega (arith, ends, above_top f levels last level h (omega arith)))
    ]

-- it is a level that it isn't below, whose table reaches the page
pub top_here : (f : Layout) (levels last level : ℕ) → levels - 1 ≤ level → level ≤ least_top f levels last → last ≤ pages_of_table f level →
    level ≡ least_top f levels last
top_here f levels last level low at reach = omega (arith, at, reaches_top f levels last level low reach)

-- the table of the last level reaches all pages
pub last_reaches : (f : Layout) → IsLayout f → (last level : ℕ) → last ≤ input_pages f → level + 1 ≡ f.levels → last ≤ pages_of_table f level
last_reaches f l last level within e =
    let bits : f.input - f.granule ≤ f.index * (level + 1) =
    subst (λ (n : ℕ). f.input - f.granule ≤ f.index * n) (sym e) (omega (arith, l.has_levels)) in
    omega (arith, within, power_mono (f.input - f.granule) (f.index * (level + 1)) bits)

-- the levels of the spine
pub levels_counted : (levels top : ℕ) → 2 ≤ levels → levels - 1 ≤ top → top + 2 - levels ≡ length (levels_between (starting_top levels) top)
levels_counted levels top some low = sym (length-range_with_len (starting_top levels) (top + 1 - starting_top levels) ∙ omega arith)

-- where an index of a table has more bits than a number, the table has more pages than one
pub past_numbers : (f : Layout) (index level : ℕ) → index ≡ f.index → 64 ≤ index * (level + 1) → 2 ^ 64 ≤ pages_of_table f level
past_numbers f index level is high =
    let bits : index * (level + 1) ≡ f.index * (level + 1) = ap (λ n. n * (level + 1)) is in
    power_mono 64 (f.index * (level + 1)) (omega arith)
