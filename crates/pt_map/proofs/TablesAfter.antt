-- The tables of a book after a map.
use Rattle.std.proofs.lemmas.Bool.{and_from, and_parts, cases_Bool, cases_lt, false_from_ne_true, false≢true, leb-true, le-leb, not-true, or_cases, or_left, or_right}
use Rattle.std.proofs.Common.{◌≡◌, ℕ, suc, ◌+◌, ◌*◌, ◌/◌, ◌%◌, ◌^◌, ◌<◌, ◌≤◌, ◌⊎◌, ◌↔◌, List, [], ◌∷◌, Bool, true, false, inl, inr, refl, ap, sym, subst, ◌∙◌, arith}
use Rattle.std.specs.Prelude.{IsTrue, if◌then◌else◌, nat_le, not, filter, length, slice_index_or, AllPairs}
use Rattle.std.specs.List.{list_any}
use Rattle.std.proofs.lemmas.Nat.{le-div, pow-add, pow_pos}
use Rattle.std.proofs.Math.Pow.{pow_mono}
use Rattle.pt_model.specs.declared.block.Block.{Block}
use Rattle.pt_model.specs.declared.position.Position.{Position}
use Rattle.pt_model.specs.Layout.{Layout, end_of, pages_of_table}
use Rattle.pt_model.specs.Tables.{end_of_table, is_before, is_spine, all_needed}
use Rattle.pt_model.specs.Sets.{IsSorted, IsAmong}
use Rattle.pt_model.specs.Book.{table_lies_in}
use Rattle.pt_model.proofs.Positions.{among_here, among_more, among_none, adds_by_members, among_filtered, among_passes, among_cases, sorted_filter}
use Rattle.pt_format.specs.Laws.{IsLayout}
use Rattle.pt_view.specs.declared.view.View.{View}
use Rattle.pt_tile.specs.declared.extent.Extent.{Extent}
use Rattle.pt_map.specs.Answers.{book_with, covered}
use Rattle.pt_map.specs.Replaced.{is_replaced, replaced}
use Rattle.pt_map.proofs.NeededTables.{needed_same}
use Rattle.pt_map.proofs.ReplacedTables.{replaced_ends, replaced_is}
use Rattle.pt_tile.specs.Extents.{IsExtent, IsOneBlock, tables_of, tiles}

-- Lists.

-- the place of a member
pub member_at : (ps : List Position) (p : Position) → IsAmong ps p → (k : ℕ) × (k < length ps) × (slice_index_or ps k p ≡ p)
member_at [] p m = absurd (among_none p m)
member_at (q ∷ qs) p m = elim (among_cases p q qs m) [
  | inl e ↦ (0, omega arith, sym e)
  | inr later ↦ (let h : (k : ℕ) × (k < length qs) × (slice_index_or qs k p ≡ p) = member_at qs p later in (suc h.0, (let s = h.1 in omega arith), h.2))
]

-- tables in order, as the book has it
pub sorted_tables : (ps : List Position) → AllPairs (λ p q. IsTrue (is_before p q)) ps → IsSorted ps
sorted_tables [] pairs = tt
sorted_tables (q ∷ qs) pairs = (
  λ p m.
      let h : (k : ℕ) × (k < length qs) × (slice_index_or qs k p ≡ p) = member_at qs p m in
      let less = h.1 in
      subst (λ (r : Position). IsTrue (is_before q r)) h.2 (pairs 0 (suc h.0) p (omega arith) (omega arith)),
  sorted_tables qs (λ i j d a z. pairs (suc i) (suc j) d (omega arith) (omega arith)),
)

-- the book machine's test of a table that new blocks take the place of
abbrev lies_in_any : Layout → List Block → Position → Bool
lies_in_any f bs p = list_any (λ b. table_lies_in f b.first (end_of b) p) bs

any_lies : (f : Layout) (p : Position) (bs : List Block) → lies_in_any f bs p ≡ true → (b : Block) × IsOneBlock bs b × (table_lies_in f b.first (end_of b) p ≡ true)
any_lies f p [] e = absurd (false≢true e)
any_lies f p (b ∷ bs) e = elim (or_cases (table_lies_in f b.first (end_of b) p) (lies_in_any f bs p) e) [
  | inl here ↦ (b, inl refl, here)
  | inr more ↦ (let r : (c : Block) × IsOneBlock bs c × (table_lies_in f c.first (end_of c) p ≡ true) = any_lies f p bs more in (r.0, inr r.1, r.2))
]

lies_any : (f : Layout) (p : Position) (bs : List Block) (b : Block) → IsOneBlock bs b → table_lies_in f b.first (end_of b) p ≡ true → lies_in_any f bs p ≡ true
lies_any f p [] b m h = absurd m
lies_any f p (c ∷ cs) b m h = elim m [
  | inl e ↦ or_left (table_lies_in f c.first (end_of c) p) (lies_in_any f cs p) (subst (λ (d : Block). table_lies_in f d.first (end_of d) p ≡ true) (sym e) h)
  | inr more ↦ or_right (table_lies_in f c.first (end_of c) p) (lies_in_any f cs p) (lies_any f p cs b more h)
]

-- a table that lies in a block is of a level below that of the table in which the block stands
lies_low : (index level log2 first base : ℕ) → 0 < index → first ≤ base → base + 2 ^ (index * (level + 1)) ≤ first + 2 ^ log2 → level < log2 / index
lies_low index level log2 first base some from to =
    let j : ℕ = index * (level + 1) in
    let fits : j ≤ log2 = elim (cases_lt log2 j) [
      | inl less ↦ absurd (let wide : 2 ^ (log2 + 1) ≤ 2 ^ j = pow_mono (let h : log2 + 1 ≤ j = omega arith in h) in
          let twice : 2 ^ (log2 + 1) ≡ 2 ^ log2 * 2 = pow-add 2 log2 1 in let one = pow_pos log2 in omega arith)
      | inr fine ↦ fine
    ] in
    let h : level + 1 ≤ log2 / index = le-div (level + 1) log2 index some (let c : (level + 1) * index ≡ index * (level + 1) = omega arith in omega arith) in omega arith

-- filters by tests that say the same of each member
filters_alike : (s t : Position → Bool) (ps : List Position) → ((p : Position) → IsAmong ps p → s p ≡ t p) → filter s ps ≡ filter t ps
filters_alike s t [] same = refl
filters_alike s t (p ∷ ps) same =
    let here : s p ≡ t p = same p (among_here p ps) in
    let rest : filter s ps ≡ filter t ps = filters_alike s t ps (λ q m. same q (among_more q p ps m)) in
    λ i. if here i then p ∷ rest i else rest i

module _ {f : Layout} (good : IsLayout f) (v : View) {x : Extent} (part : IsExtent f x) where
  -- for a table at a multiple of its pages the book machine's test is that of the map
  same_test : (p : Position) → p.base % pages_of_table f p.level ≡ 0 → lies_in_any f (tiles f x) p ≡ is_replaced f (tiles f x) p
  same_test p aligned = elim (cases_Bool (is_replaced f (tiles f x) p)) [
    | inl e ↦
        let r = replaced_ends good part p aligned e in
        lies_any f p (tiles f x) r.0 r.1 (and_from (nat_le r.0.first p.base) _ (le-leb r.0.first p.base r.2) (le-leb (end_of_table f p) (end_of r.0) r.3)) ∙ sym e
    | inr none ↦ false_from_ne_true (lies_in_any f (tiles f x) p) (λ h.
        let r = any_lies f p (tiles f x) h in
        let a = and_parts (nat_le r.0.first p.base) _ r.2 in
        let from = leb-true r.0.first p.base a.0 in
        let to = leb-true (end_of_table f p) (end_of r.0) a.1 in
        let low = lies_low f.index p.level r.0.log2 r.0.first p.base (omega (arith, good.index_is, good.granule_low)) from to in
        let some = pow_pos (f.index * (p.level + 1)) in
        false≢true (sym none ∙ replaced_is f p (tiles f x) r.0 r.1 (low, from, omega arith))) ∙ sym none
  ]

  -- so as many lie in a block as blocks take the place of
  pub covered_many : ((p : Position) → IsAmong v.tables p → p.base % pages_of_table f p.level ≡ 0) → length (covered f v x) ≡ length (replaced f v (tiles f x))
  covered_many aligned = ap length (filters_alike (lies_in_any f (tiles f x)) (is_replaced f (tiles f x)) v.tables (λ p m. same_test p (aligned p m)))

  -- the tables after are those of the book machine
  pub tables_after : (blocks : List Block) (tables : List Position) → f.start ≤ v.levels → v.levels ≤ f.levels → ((p : Position) → IsAmong v.tables p → p.base % pages_of_table f p.level ≡ 0) →
      IsSorted v.tables → IsSorted tables →
      ((p : Position) → IsAmong tables p ↔ ((IsAmong v.tables p × (is_replaced f (tiles f x) p ≡ false)) ⊎ (IsAmong (tables_of f x) p × (is_spine v.levels p ≡ false)))) →
      tables ≡ (book_with f v blocks x).tables
  tables_after blocks tables start few aligned sorted sorted_after same =
      let all : List Position = all_needed f v.levels (tiles f x) in
      let off : Position → Bool = λ p. not (is_spine v.levels p) in
      let stays : Position → Bool = λ p. not (lies_in_any f (tiles f x) p) in
      adds_by_members (filter stays v.tables) (filter off all) tables (sorted_filter stays v.tables sorted) sorted_after
      (λ p. (
        (λ m. elim ((same p).0 m) [
          | inl old ↦ inl (among_passes stays v.tables p old.0 (ap not (same_test p (aligned p old.0) ∙ old.1)))
          | inr new ↦ inr (among_passes off all p ((needed_same good part v.levels start few p new.1).1 new.0) (ap not new.1))
        ]),
        (λ h. (same p).1 (elim h [
          | inl old ↦ (let r = among_filtered stays v.tables p old in inl (r.0, sym (same_test p (aligned p r.0)) ∙ not-true (lies_in_any f (tiles f x) p) r.1))
          | inr new ↦ (let r = among_filtered off all p new in
              let spine = not-true (is_spine v.levels p) r.1 in inr ((needed_same good part v.levels start few p spine).0 r.0, spine))
        ])),
      ))
