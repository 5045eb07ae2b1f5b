-- What the rule says of an entry that a piece may be written into, and what the path above it says of the piece.
use Rattle.std.proofs.Common.{◌≡◌, ℕ, true, false, ◌+◌, ◌-◌, ◌<◌, ◌≤◌, List, [], ◌∷◌, refl, ap, sym, ◌∙◌, subst, ⊎_elim, arith}
use Rattle.std.specs.Prelude.{IsTrue, ◌==◌, ◌&&◌, nat_lt, nat_le, map, Some}
use Rattle.std.specs.List.{AllByRecursion}
use Rattle.std.proofs.lemmas.Bool.{and_parts, and_from, or_cases, eqb-true, false≢true, false_from_ne_true, leb-true, ltb-true, lt-ltb, le-leb}
use mathlib.Core.Option.{some, some-injective}
use mathlib.Core.Logic.{dite}
use native.Mathlib.Decide.{ℕ_discrete, dec_le}
use lib.ListN.{get_elem?}
use Rattle.pt_model.proofs.Positions.{among_all, among_cases, bit_le}
use Rattle.pt_model.proofs.Quotients.{entry_is_table, entry_some}
use Rattle.pt_view.proofs.Members.{all_map}
use Rattle.pt_view.proofs.Paths.{lowest_has}
use Rattle.pt_view.proofs.Pieces.{one_here}
use Rattle.pt_model.specs.declared.position.Position.{Position}
use Rattle.pt_model.specs.Layout.{Layout, input_pages, end_of, pages_of_table}
use Rattle.pt_model.specs.Tables.{IsPosition, child_at, end_of_table, is_spine, position_over, starting_top}
use Rattle.pt_model.specs.Words.{entry_of, root_level}
use Rattle.pt_format.specs.Laws.{IsLayout}
use Rattle.pt_view.specs.declared.view.View.{View}
use Rattle.pt_view.specs.declared.view.Node.{Node}
use Rattle.pt_view.specs.declared.view.Piece.{Piece}
use Rattle.pt_model.specs.Sets.{IsAmong}
use Rattle.pt_view.specs.Pieces.{first_of, table_of, number_of, level_of, word_of}
use Rattle.pt_view.specs.Calls.{entry_first, entry_end, is_under, lowest, meets_span, pieces_at, span_end, MayPut}
use Rattle.pt_rule.specs.Totals.{total, covers, has_table, has_piece, has_word}
use Rattle.pt_rule.specs.Linked.{IsLinkedAt, is_in_tree}
use Rattle.pt_rule.specs.Lawful.{Lawful, HasPath, IsOnPath, IsOwnTable, BeginsOnSpine, Descends, has_child}
use Rattle.pt_rule.specs.Kinds.{IsLowestIn}
use Rattle.pt_rule.proofs.TotalsKept.{total_at, total_two, total_some}
use Rattle.pt_rule.proofs.TreeFacts.{an_empty, a_piece, a_child, IsOnePiece, is_position, linked_there, level_low, live_table, one_piece, entry_is, own_view, covers_page, level_of_piece}
use Rattle.pt_rule.proofs.PathOverBlock.{IsAligned, LiesOver, lies_over, ends_under}

-- Paths.

pub path_has : (P : Node → Type 0) (xs : List Node) (q : Position) → AllByRecursion P xs → IsAmong (map (λ (x : Node). x.position) xs) q → (x : Node) × P x × (x.position ≡ q)
path_has P [] q all m = absurd (omega arith)
path_has P (x ∷ xs) q all m = ⊎_elim (λ (e : q ≡ x.position). (x, all.0, sym e))
    (λ (later : IsAmong (map (λ (x : Node). x.position) xs) q). path_has P xs q all.1 later) (among_cases q x.position (map (λ (x : Node). x.position) xs) m)

-- a level from which the tables over a block are on the path: the level of its first table, which ends after the block
pub record ReachesOver (f : Layout) (words : List ℕ) (v : View) (x : Piece) : Type 0 where
  pub top : ℕ
  pub low : starting_top v.levels ≤ top
  pub high : top ≤ root_level words
  pub over : level_of f x ≤ top
  pub ends : end_of x.block ≤ pages_of_table f top
  pub each : (level : ℕ) → level_of f x ≤ level → level ≤ top → IsAmong (map (λ (y : Node). y.position) v.path) (position_over f (first_of f x) level)

begins_with : (xs : List Node) (x : Node) → lowest xs ≡ Some x → (y : Node) × (ys : List Node) × (xs ≡ y ∷ ys)
begins_with [] x e = absurd (let w : ⊥ = cc in w)
begins_with (y ∷ ys) x e = (y, ys, refl)

module _ (f : Layout) (n l : ℕ) (good : IsLayout f) (words : List ℕ) (views : List View) (r : Lawful f n l words views) (id : ℕ) (v : View) (at : get_elem? views id ≡ some v) (live : 0 < v.count) where
  -- a page of the view's span is in no other view's
  one_view : (j : ℕ) (u : View) → get_elem? views j ≡ some u → (k : ℕ) → u.first ≤ k → k < u.first + u.count → v.first ≤ k → k < v.first + v.count → u ≡ v
  one_view j u here k a b c d =
      let theirs = covers_page u k a b in
      let mine = covers_page v k c d in
      dite (ℕ_discrete j id)
      (λ same. some-injective u v (sym here ∙ ap (get_elem? views) same ∙ at))
      (λ ne. absurd (let two = total_two (covers k) views j id u v ne here at in let sum = r.spans k in let most = bit_le (nat_lt k (input_pages f)) in omega arith))

  module _ (frame number : ℕ) (x : Piece) (down : IsLowestIn v frame) (may : MayPut f v number x) where
    abbrev pub there : Position
    there = may.position

    abbrev pub node : Node
    node = may.entry.node

    node_is : node ≡ record { frame = frame; position = down.0 }
    node_is = let e : Some node ≡ Some (record { frame = frame; position = down.0 }) = sym may.entry.is_lowest ∙ down.1 in cc

    pub linked_here : IsLinkedAt n words views frame there
    linked_here =
        let on : IsOnPath f n words views v node = lowest_has (IsOnPath f n words views v) v.path node may.entry.is_lowest (r.paths id v at).nodes in
        subst (λ (s : ℕ × Position). IsLinkedAt n words views s.0 s.1) (λ i. ((node_is i).frame, may.entry.at i)) on.at

    pub level_is : there.level ≡ level_of f x
    level_is = level_of_piece f there number x may.here

    in_span : (v.first ≤ entry_first f there number) × (entry_end f there number ≤ span_end v)
    in_span =
        let b : (nat_le v.first (entry_first f there number) ≡ true) × (nat_le (entry_end f there number) (span_end v) ≡ true) =
        and_parts (nat_le v.first (entry_first f there number)) _ may.inside in
        (leb-true v.first (entry_first f there number) b.0, leb-true (entry_end f there number) (span_end v) b.1)

    -- the entry has no child in the tree: by its size the piece stands below the spine, and a table there is one's own
    not_spine : starting_top l ≤ there.level - 1 → 0 < there.level → ⊥
    not_spine low high = let a = good.sizes_low x.block.log2 may.legal.a_size in let b = r.sizes.levels_low in omega (arith, a, b, level_is, low, high)

    not_table : 0 < there.level → ((j : ℕ) × (u : View) × (get_elem? views j ≡ some u) × (0 < has_table (child_at f there number) u)) → ⊥
    not_table high (j, u, here, has) =
        let child : Position = child_at f there number in
        let some_page = entry_some f there.level in
        let end : end_of_table f child ≡ entry_end f there number = ap (λ k. entry_first f there number + k) (sym (entry_is_table f there.level high)) in
        let alive = live_table f n l words views good r j u here child has in
        let theirs : IsOwnTable f u child = among_all (IsOwnTable f u) u.tables (r.books j u here alive).tables child has in
        let m : (nat_lt child.base (span_end u) ≡ true) × (nat_lt u.first (end_of_table f child) ≡ true) = and_parts (nat_lt child.base (span_end u)) _ theirs.meets in
        let a = ltb-true child.base (span_end u) m.0 in
        let b = ltb-true u.first (end_of_table f child) m.1 in
        let s = in_span in
        let mine : u ≡ v = dite (dec_le child.base u.first)
        (λ le. one_view j u here u.first (omega arith) (omega arith) (omega (arith, s)) (omega (arith, s)))
        (λ gt. one_view j u here child.base (omega arith) (omega arith) (omega (arith, s)) (omega (arith, s))) in
        let own : IsAmong v.tables child = subst (λ (w : View). IsAmong w.tables child) mine has in
        let under : is_under f there number child ≡ true =
        and_from (nat_lt child.level there.level && nat_le (entry_first f there number) child.base) _
        (and_from (nat_lt child.level there.level) _ (lt-ltb child.level there.level (omega arith)) (le-leb (entry_first f there number) child.base (omega arith)))
        (lt-ltb child.base (entry_end f there number) (omega arith)) in
        false≢true (sym (may.no_table child own) ∙ under)

    pub no_child : has_child f l words views there number ≡ false
    no_child = false_from_ne_true (has_child f l words views there number) (λ e.
        let b : (nat_lt 0 there.level ≡ true) × (is_in_tree l words views (child_at f there number) ≡ true) = and_parts (nat_lt 0 there.level) _ e in
        let high = ltb-true 0 there.level b.0 in
        let child : Position = child_at f there number in
        ⊎_elim
        (λ (s : (is_spine l child && nat_le child.level (root_level words)) ≡ true).
        let c : (is_spine l child ≡ true) × (nat_le child.level (root_level words) ≡ true) = and_parts (is_spine l child) _ s in
        let d : (nat_le (starting_top l) child.level ≡ true) × ((child.base == 0) ≡ true) = and_parts (nat_le (starting_top l) child.level) _ c.0 in
        not_spine (leb-true (starting_top l) child.level d.0) high)
        (λ (s : nat_lt 0 (total (has_table child) views) ≡ true). not_table high (total_some (has_table child) views (ltb-true 0 (total (has_table child) views) s)))
        (or_cases (is_spine l child && nat_le child.level (root_level words)) _ b.1))

    -- no piece stands there, and the entry is zero
    pub no_piece : total (has_piece f there number) views ≡ 0
    no_piece = dite (dec_le (total (has_piece f there number) views) 0) (λ none. omega arith)
        (λ some_one.
        let o : (one : IsOnePiece f views there number) × (total (has_word f there number) views ≡ word_of f one.piece) = one_piece f n l words views good r there number (omega arith) in
        let some_page = entry_some f there.level in
        let s = in_span in
        let meets : meets_span v (entry_first f there number) (entry_end f there number) ≡ true =
        and_from (nat_lt (entry_first f there number) (span_end v)) _ (lt-ltb (entry_first f there number) (span_end v) (omega (arith, s))) (lt-ltb v.first (entry_end f there number) (omega (arith, s))) in
        let mine : o.0.view ≡ v = own_view f n l words views good r there number o.0 id v at live meets in
        absurd (let one = o.0.alone in let none = may.no_piece in let same : pieces_at f there number o.0.view.pieces ≡ pieces_at f there number v.pieces = ap (λ (w : View). pieces_at f there number w.pieces) mine in omega arith))

    pub was_zero : entry_of f n words frame number ≡ 0
    was_zero = elim (entry_is f n l words views good r frame there number linked_here may.entry.within) [
      | an_empty e none childless ↦ e
      | a_piece one e ↦ absurd (let none = no_piece in let most = total_at (has_piece f there number) views one.index one.view one.at in let alone = one.alone in omega arith)
      | a_child h a high e ↦ absurd (false≢true (sym no_child ∙ and_from (nat_lt 0 there.level) _ (lt-ltb 0 there.level high) (linked_there f n l words views good r h (child_at f there number) a)))
    ]

    pub no_word : total (has_word f there number) views ≡ 0
    no_word = sym (r.entries.words_are frame number there linked_here may.entry.within no_child) ∙ was_zero

    -- The path above the entry.

    pub on_path : AllByRecursion (λ y. IsOnPath f n words views v y × (IsPosition f y.position × IsTrue (is_in_tree l words views y.position))) v.path
    on_path = all_map (IsOnPath f n words views v) (λ y. IsOnPath f n words views v y × (IsPosition f y.position × IsTrue (is_in_tree l words views y.position))) v.path
        (λ y on. (on, ((is_position f n l words views good r y.frame y.position on.at).0, linked_there f n l words views good r y.frame y.position on.at))) (r.paths id v at).nodes

    -- the path's first table is of the spine, and reaches over the block
    reaches_from : (y : Node) (ys : List Node) → v.path ≡ y ∷ ys → ReachesOver f words v x
    reaches_from y ys is =
        let path : HasPath f n words views v = r.paths id v at in
        let nodes = subst (AllByRecursion (λ z. IsOnPath f n words views v z × (IsPosition f z.position × IsTrue (is_in_tree l words views z.position)))) is on_path in
        let h : (there ≡ table_of f x) × (number_of f x ≡ number) = one_here f there number x may.here in
        let table : node.position ≡ position_over f (first_of f x) node.position.level =
        may.entry.at ∙ h.0 ∙ ap (position_over f (first_of f x)) (sym level_is ∙ ap (λ (p : Position). p.level) (sym may.entry.at)) in
        let over : LiesOver f (first_of f x) node.position.level y (y ∷ ys) =
        lies_over f (first_of f x) node y ys
        (all_map (λ z. IsOnPath f n words views v z × (IsPosition f z.position × IsTrue (is_in_tree l words views z.position))) (IsAligned f) (y ∷ ys) (λ z a. a.1.0.aligned) nodes)
        (subst (Descends f) is path.descends) (subst (λ (zs : List Node). lowest zs ≡ Some node) is may.entry.is_lowest) table in
        let same : node.position.level ≡ level_of f x = ap (λ (p : Position). p.level) may.entry.at ∙ level_is in
        let spine : is_spine v.levels y.position ≡ true = subst (BeginsOnSpine v.levels) is path.begins in
        let b : (nat_le (starting_top v.levels) y.position.level ≡ true) × ((y.position.base == 0) ≡ true) = and_parts (nat_le (starting_top v.levels) y.position.level) _ spine in
        let base : (position_over f (first_of f x) y.position.level).base ≡ 0 = ap (λ (p : Position). p.base) (sym over.first) ∙ eqb-true y.position.base 0 b.1 in
        let high : level_of f x ≤ y.position.level = (let g = over.high in omega arith) in
        record {
          top = y.position.level;
          low = leb-true (starting_top v.levels) y.position.level b.0;
          high = level_low f n l words views good r y.position nodes.0.1.1;
          over = high;
          ends = ends_under f good x may.a_part may.legal y.position.level high base;
          each = λ level from to. subst (λ (zs : List Node). IsAmong (map (λ (z : Node). z.position) zs) (position_over f (first_of f x) level)) (sym is) (over.each level (omega arith) to);
        }

    pub reaches : ReachesOver f words v x
    reaches = let b : (y : Node) × (ys : List Node) × (v.path ≡ y ∷ ys) = begins_with v.path node may.entry.is_lowest in reaches_from b.0 b.1 b.2
