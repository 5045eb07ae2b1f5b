-- The tables and the pieces of a book at rest, and the range that a sweep of a span goes through.
use Rattle.std.proofs.Common.{◌≡◌, ℕ, suc, ◌+◌, ◌*◌, ◌^◌, ◌<◌, ◌≤◌, true, false, List, [], ◌∷◌, length, min, inl, inr, ap, sym, subst, ◌∙◌, arith}
use Rattle.std.specs.Prelude.{IsTrue, Some, nat_le, slice_index_or, AllPairs}
use Rattle.std.proofs.lemmas.Bool.{and_from, and_parts, cases_Bool, cases_lt, eq-eqb, false_from_ne_true, false≢true, leb-true, le-leb}
use Rattle.std.proofs.lemmas.Nat.{pow_pos}
use Rattle.std.proofs.lemmas.List.Elements.{recursion_from_All}
use Rattle.pt_model.specs.declared.position.Position.{Position}
use Rattle.pt_model.specs.declared.block.Block.{Block}
use Rattle.pt_model.specs.Layout.{Layout, input_pages, pages_of_table}
use Rattle.pt_model.specs.Sets.{IsAmong, IsSorted}
use Rattle.pt_model.specs.Tables.{IsPosition, end_of_table, is_before, is_spine, position_over, spine_position, starting_top}
use Rattle.pt_model.specs.Book.{IsLawful, table_lies_in}
use Rattle.pt_model.proofs.Positions.{among_all, among_cases, sorted_once}
use Rattle.pt_model.proofs.Quotients.{root_over}
use Rattle.pt_model.proofs.Tops.{table_mono}
use Rattle.pt_format.specs.Laws.{IsLayout}
use Rattle.pt_view.specs.declared.view.View.{View}
use Rattle.pt_view.specs.Views.{IsAtRest, book_of}
use Rattle.pt_view.specs.Calls.{Rooted, lowest}
use Rattle.pt_view.specs.declared.view.Piece.{Piece}
use Rattle.pt_view.specs.Pieces.{IsOneOf}
use Rattle.pt_view.proofs.Pieces.{ends_in_block}
use Rattle.pt_walk.specs.Walks.{IsOverRange, OwnsAll}
use Rattle.pt_walk.proofs.Descent.{own_piece}
use Rattle.pt_walk.proofs.Books.{owns_all}
use Rattle.pt_walk.proofs.Cuts.{pages_few}
use Rattle.pt_sweep.specs.Empties.{lies_below}
use Rattle.pt_sweep.specs.Sweeps.{AreApart, CutsNone, IsBookTable, MaySweep, begins_in, end_of_piece}
use Rattle.pt_sweep.proofs.Apart.{begins_is, begins_not, begins_tells, piece_long}
use Rattle.pt_sweep.proofs.BlockPieces.{blocks_apart}
use Rattle.pt_sweep.proofs.GoneTables.{below_is, below_tells}

-- Tables in order.

among_at : (ps : List Position) (p : Position) → IsAmong ps p → (k : ℕ) × (k < length ps) × (slice_index_or ps k p ≡ p)
among_at [] p m = absurd (omega arith)
among_at (q ∷ qs) p m = elim (among_cases p q qs m) [
  | inl e ↦ (0, omega arith, sym e)
  | inr later ↦ (let h : (k : ℕ) × (k < length qs) × (slice_index_or qs k p ≡ p) = among_at qs p later in (suc h.0, (let s = h.1 in omega arith), h.2))
]

sorted_tables : (ps : List Position) → AllPairs (λ p q. IsTrue (is_before p q)) ps → IsSorted ps
sorted_tables [] pairs = tt
sorted_tables (q ∷ qs) pairs = (
  λ p m.
      let h = among_at qs p m in
      let less = h.1 in
      subst (λ (r : Position). IsTrue (is_before q r)) h.2 (pairs 0 (suc h.0) p (omega arith) (omega arith)),
  sorted_tables qs (λ i j d a z. pairs (suc i) (suc j) d (omega arith) (omega arith)),
)

-- A span that cuts no piece, of a view at rest.
pub swept_span : (f : Layout) → IsLayout f → (v : View) (blocks : List Block) → f.start ≤ v.levels → IsAtRest f v blocks → IsLawful f v.levels (book_of v blocks) →
    (first end levels : ℕ) → CutsNone f v first end → levels ≡ v.levels → MaySweep f v first end levels
swept_span f good v blocks start rest lawful first end levels uncut same = record {
  owns = owns_all f good v blocks start rest lawful;
  apart = subst (AreApart f 0) (sym rest.pieces) (blocks_apart f good blocks 0 lawful.in_order (λ c h. omega arith));
  uncut = uncut;
  tables = λ q m. record {
    off_spine = among_all (λ p. is_spine v.levels p ≡ false) v.tables (recursion_from_All (λ p. is_spine v.levels p ≡ false) v.tables lawful.off_spine) q m;
    aligned = (among_all (IsPosition f) v.tables (recursion_from_All (IsPosition f) v.tables lawful.positions) q m).aligned;
  };
  once = λ q. let s = sorted_once v.tables (sorted_tables v.tables lawful.tables_in_order) q in omega arith;
  levels_are = same;
  none = rest.prepared;
}

-- The sweep begins at the root's table.
module _ {f : Layout} (good : IsLayout f) {tells alone : Type 0} {v w : View} {level : ℕ} (rooted : Rooted f tells alone v level w) (first last end spine : ℕ)
    (spine_is : spine ≡ min (pages_of_table f level) (2 ^ 63)) (end_is : end ≡ min last spine) (in_space : last ≤ input_pages f) where
  pub root_range : first < end → v.first ≤ first → last ≤ v.first + v.count → IsOverRange f w first end level
  root_range some from to =
      let few = pages_few f good in
      let over : spine_position level ≡ position_over f first level = root_over f first level (omega arith) in
      let stop : end_of_table f (spine_position level) ≡ end_of_table f (position_over f first level) = ap (end_of_table f) over in
      let begin = rooted.range.first in let many = rooted.range.count in
      record {
        below = rooted.legal;
        over = record { frame = rooted.path.0; is = ap lowest rooted.path.1 ∙ ap (λ (p : Position). Some (record { frame = rooted.path.0; position = p })) over };
        some = some;
        under = omega arith;
        in_space = omega arith;
        from = omega arith;
        to = omega arith;
      }

  -- The book's pieces end under the root's table.
  module _ (owns : OwnsAll f v) where
    piece_low : (x : Piece) → IsOneOf v.pieces x → end_of_piece f x ≤ spine
    piece_low x m =
        let o = owns x m in
        let is = own_piece o in
        let few = pages_few f good in
        let legal = o.legal.in_input in
        let under = o.under_top in
        let ends = ends_in_block good is in
        let wide = table_mono f v.top level rooted.reaches in omega arith

    -- the part of the span under it cuts none either
    pub part_uncut : CutsNone f v first last → CutsNone f v first end
    part_uncut uncut x m = elim (uncut x m) [
      | inl before ↦ inl before
      | inr other ↦ elim other [
        | inl behind ↦ inr (inl (omega arith))
        | inr inside ↦ inr (inr (inside.0, (let a = inside.1 in let b = piece_low x m in omega arith)))
      ]
    ]

    -- and the same pieces begin there
    pub same_pieces : (x : Piece) → IsOneOf v.pieces x → begins_in f first last x ≡ begins_in f first end x
    same_pieces x m =
        let low = piece_low x m in
        let long = piece_long f x in
        elim (cases_Bool (begins_in f first end x)) [
          | inl e ↦ (let h = begins_tells f first end x e in let b = h.1 in begins_is f first last x h.0 (omega arith) ∙ sym e)
          | inr e ↦ begins_not f first last x (λ l h. false≢true (sym e ∙ begins_is f first end x l (omega arith))) ∙ sym e
        ]

    pub none_begin : end ≤ first → (x : Piece) → IsOneOf v.pieces x → begins_in f first last x ≡ false
    none_begin past x m = same_pieces x m ∙ begins_not f first end x (λ l h. omega arith)

  module _ (tables : (q : Position) → IsAmong v.tables q → IsBookTable f v q) (top : starting_top v.levels ≤ level) where
    -- the book's tables are below the root's
    all_low : (q : Position) → IsAmong v.tables q → q.level < level
    all_low q m = elim (cases_lt q.level level) [
      | inl less ↦ less
      | inr over ↦ absurd (
          let ends = rooted.over_tables q m in
          let wide = table_mono f level q.level over in
          let some = pow_pos (f.index * (level + 1)) in
          false≢true (sym (tables q m).off_spine ∙ and_from (nat_le (starting_top v.levels) q.level) _ (le-leb (starting_top v.levels) q.level (omega arith)) (eq-eqb q.base 0 (omega arith))))
    ]

    lies_tells : (q : Position) → table_lies_in f first last q ≡ true → (first ≤ q.base) × (q.base + pages_of_table f q.level ≤ last)
    lies_tells q lies = let b = and_parts (nat_le first q.base) _ lies in (leb-true first q.base b.0, leb-true (q.base + pages_of_table f q.level) last b.1)

    ends_low : (q : Position) → IsAmong v.tables q → table_lies_in f first last q ≡ true → q.base + pages_of_table f q.level ≤ end
    ends_low q m lies = let few = pages_few f good in let h = (lies_tells q lies).1 in let ends = rooted.over_tables q m in omega arith

    -- those that lie in the span lie in the part of it under the root's table
    pub same_tables : (q : Position) → IsAmong v.tables q → table_lies_in f first last q ≡ lies_below f first end level q
    same_tables q m = elim (cases_Bool (table_lies_in f first last q)) [
      | inl lies ↦ lies ∙ sym (below_is f first end level q (all_low q m) (lies_tells q lies).0 (ends_low q m lies))
      | inr out ↦ out ∙ sym (false_from_ne_true (lies_below f first end level q) (λ below. false≢true (sym out ∙ wider q below)))
    ]
      where
        wider : (q : Position) → lies_below f first end level q ≡ true → table_lies_in f first last q ≡ true
        wider q below = let h = below_tells f first end level q below in let high = h.2 in
            and_from (nat_le first q.base) _ (le-leb first q.base h.1) (le-leb (q.base + pages_of_table f q.level) last (omega arith))

    pub less_tables : (q : Position) → table_lies_in f first last q ≡ false → lies_below f first end level q ≡ false
    less_tables q out = false_from_ne_true (lies_below f first end level q) (λ below.
        let h = below_tells f first end level q below in let high = h.2 in
        false≢true (sym out ∙ and_from (nat_le first q.base) _ (le-leb first q.base h.1) (le-leb (q.base + pages_of_table f q.level) last (omega arith))))

    -- where no page of the span is under it, no table lies there
    pub none_lie : end ≤ first → (q : Position) → IsAmong v.tables q → table_lies_in f first last q ≡ false
    none_lie past q m = false_from_ne_true (table_lies_in f first last q) (λ lies.
        let some = pow_pos (f.index * (q.level + 1)) in let low = (lies_tells q lies).0 in let high = ends_low q m lies in omega arith)
