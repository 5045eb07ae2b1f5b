-- What the rule says of a table that may be unlinked: it is the only one under its entry, its view's own, no piece
-- stands in it, none of its entries is used, and no other view has it.
use Rattle.std.proofs.Common.{◌≡◌, ◌≢◌, ℕ, true, false, ◌+◌, ◌-◌, ◌*◌, ◌/◌, ◌%◌, ◌^◌, ◌<◌, ◌≤◌, List, [], ◌∷◌, refl, ap, sym, ◌∙◌, subst, ⊎_elim, arith, eq-eqb}
use Rattle.std.specs.Prelude.{IsTrue, ◌==◌, ◌&&◌, nat_lt, nat_le, map, Some}
use Rattle.std.specs.List.{AllByRecursion}
use Rattle.std.proofs.lemmas.Bool.{and_parts, and_from, or_cases, eqb-true, false≢true, false_from_ne_true, leb-true, ltb-true, lt-ltb, le-leb}
use Rattle.std.proofs.lemmas.Nat.{shr_split, pow-add, pow_pos, mod_below, mul-le}
use Rattle.std.proofs.Math.Nat.{div-mul-le_self}
use mathlib.Core.Option.{some, some-injective}
use mathlib.Core.Logic.{dite}
use native.Mathlib.Decide.{ℕ_discrete, dec_le}
use lib.ListN.{get_elem?}
use Rattle.pt_model.proofs.Positions.{among_all}
use Rattle.pt_model.proofs.Quotients.{entry_some, table_is_entries, whole}
use Rattle.pt_view.proofs.Members.{all_append}
use Rattle.pt_view.proofs.Paths.{all_front, lowest_has}
use Rattle.pt_view.proofs.Pieces.{one_here}
use Rattle.pt_model.specs.declared.position.Position.{Position}
use Rattle.pt_model.specs.Layout.{Layout, end_of, pages_of_entry, pages_of_table}
use Rattle.pt_model.specs.Tables.{IsPosition, child_at, end_of_table, is_spine, least_top, levels_between, needed, parent_of, position_over, spine_position, starting_top}
use Rattle.pt_model.specs.Words.{entry_of, root_level}
use Rattle.pt_format.specs.Laws.{IsLayout}
use Rattle.pt_view.specs.declared.view.View.{View}
use Rattle.pt_view.specs.declared.view.Node.{Node}
use Rattle.pt_view.specs.declared.view.Piece.{Piece}
use Rattle.pt_model.specs.Sets.{places, IsAmong}
use Rattle.pt_view.specs.Pieces.{IsOneOf, first_of, table_of, number_of, level_of}
use Rattle.pt_view.specs.Calls.{begins_under, entry_first, entry_end, is_under, lowest, meets_span, pieces_at, span_end, all_but_last}
use Rattle.pt_rule.specs.Totals.{total, has_table, has_piece}
use Rattle.pt_rule.specs.Linked.{IsLinkedAt}
use Rattle.pt_rule.specs.Lawful.{Lawful, IsOwnPiece, IsOwnTable, BeginsOnSpine, Descends, has_child}
use Rattle.pt_rule.specs.Kinds.{MayCut}
use Rattle.pt_rule.proofs.TotalsKept.{total_some}
use Rattle.pt_rule.proofs.SpansFacts.{spans_apart}
use Rattle.pt_rule.proofs.PositionFacts.{child_quotient, end_of_child, end_in_parent}
use Rattle.pt_rule.proofs.PieceFacts.{ends_in_block, some_at}
use Rattle.pt_rule.proofs.PathTables.{all_levels}
use Rattle.pt_rule.proofs.PathOverBlock.{next_multiple, same_over}
use Rattle.pt_rule.proofs.TreeFacts.{IsThere, all_both, all_one_of, is_position, linked_there, live_piece, live_table, no_words_of, there_position}

-- Paths without their last node.

pub begins_above : (levels : ℕ) (xs : List Node) → BeginsOnSpine levels xs → BeginsOnSpine levels (all_but_last xs)
begins_above levels [] h = tt
begins_above levels (x ∷ []) h = tt
begins_above levels (x ∷ y ∷ xs) h = h

pub descends_above : (f : Layout) (xs : List Node) → Descends f xs → Descends f (all_but_last xs)
descends_above f [] h = tt
descends_above f (x ∷ []) h = tt
descends_above f (x ∷ y ∷ []) h = tt
descends_above f (x ∷ y ∷ z ∷ zs) h = (h.0, descends_above f (y ∷ z ∷ zs) h.1)

-- the last node is the lowest
lowest_low : (f : Layout) (y : Node) (ys : List Node) (x : Node) → lowest (y ∷ ys) ≡ Some x → Descends f (y ∷ ys) → x.position.level ≤ y.position.level
lowest_low f y [] x e h = let same : y ≡ x = cc in let level : y.position.level ≡ x.position.level = ap (λ (a : Node). a.position.level) same in omega arith
lowest_low f y (z ∷ zs) x e h =
    let rest = lowest_low f z zs x e h.1 in
    let level : z.position.level ≡ y.position.level - 1 = ap (λ (q : Position). q.level) h.0.is in omega arith

pub higher_above : (f : Layout) (xs : List Node) (x : Node) → lowest xs ≡ Some x → Descends f xs → AllByRecursion (λ y. x.position.level < y.position.level) (all_but_last xs)
higher_above f [] x e h = tt
higher_above f (y ∷ []) x e h = tt
higher_above f (y ∷ z ∷ zs) x e h = (
  let rest = lowest_low f z zs x e h.1 in let high = h.0.high in
      let level : z.position.level ≡ y.position.level - 1 = ap (λ (q : Position). q.level) h.0.is in omega arith,
  higher_above f (z ∷ zs) x e h.1,
)

-- A table under an entry ends there.

pub ends_under_entry : (f : Layout) (p : Position) (i : ℕ) → p.base % pages_of_table f p.level ≡ 0 → (q : Position) → q.base % pages_of_table f q.level ≡ 0 →
    q.level < p.level → q.base < entry_end f p i → end_of_table f q ≤ entry_end f p i
ends_under_entry f p i aligned q q_aligned lower up =
    let m : ℕ = p.base / pages_of_table f p.level * 2 ^ f.index + i in
    let j : ℕ = f.index * (q.level + 1) in
    let over : ℕ = f.index * (p.level - (q.level + 1)) in
    let e : f.index * p.level ≡ over + j = let h : p.level ≡ p.level - (q.level + 1) + (q.level + 1) = omega arith in
    ap (λ x. f.index * x) h ∙ (let g : f.index * (p.level - (q.level + 1) + (q.level + 1)) ≡ f.index * (p.level - (q.level + 1)) + f.index * (q.level + 1) = omega arith in g) in
    let pages : pages_of_entry f p.level ≡ 2 ^ over * 2 ^ j = ap (λ x. 2 ^ x) e ∙ pow-add 2 over j in
    let end : entry_end f p i ≡ (m * 2 ^ over + 2 ^ over) * 2 ^ j =
    ap (λ x. x + pages_of_entry f p.level) (child_quotient f p i aligned) ∙ ap (λ x. m * x + x) pages
    ∙ (let g : m * (2 ^ over * 2 ^ j) + 2 ^ over * 2 ^ j ≡ (m * 2 ^ over + 2 ^ over) * 2 ^ j = omega arith in g) in
    let here : q.base ≡ q.base / 2 ^ j * 2 ^ j = whole q.base j q_aligned in
    let h = next_multiple (q.base / 2 ^ j) (m * 2 ^ over + 2 ^ over) (2 ^ j) (omega (arith, up, end, here)) in omega (arith, h, end, here)

module _ (f : Layout) (n l : ℕ) (good : IsLayout f) (words : List ℕ) (views : List View) (r : Lawful f n l words views) (id : ℕ) (v : View) (at : get_elem? views id ≡ some v) (live : 0 < v.count) (frame number : ℕ) (may : MayCut f v frame number) where
  abbrev pub p : Position
  p = may.position

  abbrev pub g : ℕ
  g = may.child

  abbrev pub child : Position
  child = child_at f p number

  abbrev There : Position → Type 0
  There = IsThere f n l words views good r

  pub over_linked : IsLinkedAt n words views frame p
  over_linked = (lowest_has _ (all_but_last v.path) (record { frame = frame; position = p }) may.over (all_front _ v.path (r.paths id v at).nodes)).at

  pub child_linked : IsLinkedAt n words views g child
  child_linked = (lowest_has _ v.path (record { frame = g; position = child }) may.last (r.paths id v at).nodes).at

  pub place : IsPosition f p
  place = (is_position f n l words views good r frame p over_linked).0

  pub levels_are : v.levels ≡ l
  levels_are = (r.sizes.live id v at live).1

  pub child_is_there : There child
  child_is_there = linked_there f n l words views good r g child child_linked

  pub end_child : end_of_table f child ≡ entry_end f p number
  end_child = end_of_child f p number may.bare.high may.within place.aligned

  in_span : (v.first ≤ entry_first f p number) × (entry_end f p number ≤ span_end v)
  in_span =
      let b : (nat_le v.first (entry_first f p number) ≡ true) × (nat_le (entry_end f p number) (span_end v) ≡ true) =
      and_parts (nat_le v.first (entry_first f p number)) _ may.bare.inside in
      (leb-true v.first (entry_first f p number) b.0, leb-true (entry_end f p number) (span_end v) b.1)

  -- a view that has a page under the entry in its span is this one
  has_page : (j : ℕ) (u : View) → get_elem? views j ≡ some u → (k : ℕ) → entry_first f p number ≤ k → k < entry_end f p number → u.first ≤ k → k < u.first + u.count → j ≡ id
  has_page j u here k a b c d = dite (ℕ_discrete j id) (λ e. e)
      (λ ne. absurd (let s = in_span in spans_apart f views r.spans j id u v k ne here at c d (omega arith) (omega arith)))

  -- and so is one whose span a table under the entry meets
  has_table_under : (j : ℕ) (u : View) → get_elem? views j ≡ some u → 0 < u.count → (q : Position) → entry_first f p number ≤ q.base → end_of_table f q ≤ entry_end f p number →
      IsTrue (meets_span u q.base (end_of_table f q)) → j ≡ id
  has_table_under j u here alive q low up meets =
      let m : (nat_lt q.base (span_end u) ≡ true) × (nat_lt u.first (end_of_table f q) ≡ true) = and_parts (nat_lt q.base (span_end u)) _ meets in
      let a = ltb-true q.base (span_end u) m.0 in
      let b = ltb-true u.first (end_of_table f q) m.1 in
      let some_page : 0 < pages_of_table f q.level = pow_pos (f.index * (q.level + 1)) in
      dite (dec_le q.base u.first)
      (λ le. has_page j u here u.first (omega arith) (omega arith) (omega arith) (omega arith))
      (λ gt. has_page j u here q.base (omega arith) (omega arith) (omega arith) (omega arith))

  same_view : (j : ℕ) (u : View) → get_elem? views j ≡ some u → j ≡ id → u ≡ v
  same_view j u here e = some-injective u v (sym here ∙ ap (get_elem? views) e ∙ at)

  under_parts : (q : Position) → IsTrue (is_under f p number q) → (q.level < p.level) × (entry_first f p number ≤ q.base) × (q.base < entry_end f p number)
  under_parts q under =
      let a : ((nat_lt q.level p.level && nat_le (entry_first f p number) q.base) ≡ true) × (nat_lt q.base (entry_end f p number) ≡ true) =
      and_parts (nat_lt q.level p.level && nat_le (entry_first f p number) q.base) _ under in
      let b : (nat_lt q.level p.level ≡ true) × (nat_le (entry_first f p number) q.base ≡ true) = and_parts (nat_lt q.level p.level) _ a.0 in
      (ltb-true q.level p.level b.0, leb-true (entry_first f p number) q.base b.1, ltb-true q.base (entry_end f p number) a.1)

  under_from : (q : Position) → q.level < p.level → entry_first f p number ≤ q.base → q.base < entry_end f p number → IsTrue (is_under f p number q)
  under_from q a b c =
      and_from (nat_lt q.level p.level && nat_le (entry_first f p number) q.base) _
      (and_from (nat_lt q.level p.level) _ (lt-ltb q.level p.level a) (le-leb (entry_first f p number) q.base b)) (lt-ltb q.base (entry_end f p number) c)

  -- What lies under the entry in the tree is this view's own table, and so the child.

  pub own_under : (q : Position) → There q → IsTrue (is_under f p number q) → IsAmong v.tables q
  own_under q t under = ⊎_elim on_spine of_view (or_cases (is_spine l q && nat_le q.level (root_level words)) _ t)
    where
      on_spine : (is_spine l q && nat_le q.level (root_level words)) ≡ true → IsAmong v.tables q
      on_spine s =
          let u = under_parts q under in
          let b : (is_spine l q ≡ true) × (nat_le q.level (root_level words) ≡ true) = and_parts (is_spine l q) _ s in
          let c : (nat_le (starting_top l) q.level ≡ true) × ((q.base == 0) ≡ true) = and_parts (nat_le (starting_top l) q.level) _ b.0 in
          let low = leb-true (starting_top l) q.level c.0 in
          let zero_base = eqb-true q.base 0 c.1 in
          let spine : is_spine l child ≡ true = and_from (nat_le (starting_top l) child.level) _ (le-leb (starting_top l) child.level (omega arith)) (eq-eqb child.base 0 (omega arith)) in
          absurd (false≢true (sym may.bare.off_spine ∙ ap (λ (k : ℕ). is_spine k child) levels_are ∙ spine))

      of_view : nat_lt 0 (total (has_table q) views) ≡ true → IsAmong v.tables q
      of_view s =
          let o : (j : ℕ) × (u : View) × (get_elem? views j ≡ some u) × (0 < has_table q u) = total_some (has_table q) views (ltb-true 0 (total (has_table q) views) s) in
          let alive = live_table f n l words views good r o.0 o.1 o.2 q o.3 in
          let theirs : IsOwnTable f o.1 q = among_all (IsOwnTable f o.1) o.1.tables (r.books o.0 o.1 o.2 alive).tables q o.3 in
          let u = under_parts q under in
          let e : o.0 ≡ id = has_table_under o.0 o.1 o.2 alive q u.1
          (ends_under_entry f p number place.aligned q (there_position f n l words views good r q t).aligned u.0 u.2) theirs.meets in
          subst (λ (z : View). IsAmong z.tables q) (same_view o.0 o.1 o.2 e) o.3

  pub only_under : (q : Position) → There q → IsTrue (is_under f p number q) → q ≡ child
  only_under q t under = may.bare.no_table q (own_under q t under) under

  child_under : IsTrue (is_under f p number child)
  child_under = let high = may.bare.high in let some_page = entry_some f p.level in under_from child (omega arith) (omega arith) (omega arith)

  pub own : IsAmong v.tables child
  own = own_under child child_is_there child_under

  -- a live view that the child meets is this one
  pub meets_mine : (j : ℕ) (u : View) → get_elem? views j ≡ some u → 0 < u.count → IsTrue (meets_span u child.base (end_of_table f child)) → j ≡ id
  meets_mine j u here alive meets = has_table_under j u here alive child (omega arith) (let e = end_child in omega arith) meets

  -- no other view has it among its tables
  pub not_theirs : (j : ℕ) (u : View) → j ≢ id → get_elem? views j ≡ some u → places child u.tables ≡ 0
  not_theirs j u ne here = dite (dec_le (places child u.tables) 0) (λ none. omega arith)
      (λ some_one.
      let has : 0 < places child u.tables = omega arith in
      let alive = live_table f n l words views good r j u here child has in
      absurd (ne (meets_mine j u here alive (among_all (IsOwnTable f u) u.tables (r.books j u here alive).tables child has).meets)))

  -- no table is linked under the child
  pub childless : (i : ℕ) → i < 2 ^ f.index → has_child f l words views child i ≡ false
  childless i small = false_from_ne_true (has_child f l words views child i) (λ e.
      let b : (nat_lt 0 child.level ≡ true) × There (child_at f child i) = and_parts (nat_lt 0 child.level) _ e in
      let high = ltb-true 0 child.level b.0 in
      let some_page = entry_some f child.level in
      let pages = table_is_entries f child.level in
      let h = mul-le (i + 1) (pages_of_entry f child.level) (2 ^ f.index) (pages_of_entry f child.level) (omega arith) (omega arith) in
      let end = end_child in
      let is : child_at f child i ≡ child = only_under (child_at f child i) b.1 (under_from (child_at f child i) (omega arith) (omega arith) (omega (arith, h, pages, end, some_page))) in
      let level : child.level - 1 ≡ child.level = ap (λ (q : Position). q.level) is in omega (arith, level, high))

  pub not_parent : (q : Position) → There q → parent_of f q ≡ child → ⊥
  not_parent q t e =
      let aligned = (there_position f n l words views good r q t).aligned in
      let level : q.level + 1 ≡ child.level = ap (λ (z : Position). z.level) e in
      let base : (parent_of f q).base ≡ child.base = ap (λ (z : Position). z.base) e in
      let ends : end_of_table f (parent_of f q) ≡ end_of_table f child = ap (end_of_table f) e in
      let low = div-mul-le_self q.base (pages_of_table f (q.level + 1)) in
      let up = end_in_parent f q aligned in
      let end = end_child in
      let some_page : 0 < pages_of_table f q.level = pow_pos (f.index * (q.level + 1)) in
      let is : q ≡ child = only_under q t (under_from q (omega (arith, level, may.bare.high)) (omega (arith, base, low)) (omega (arith, ends, up, end, some_page))) in
      let same : q.level ≡ child.level = ap (λ (z : Position). z.level) is in omega (arith, level, same)

  -- Pieces.

  -- a page over which the child lies is under the entry
  over_child : (page level : ℕ) → position_over f page level ≡ child → (entry_first f p number ≤ page) × (page < entry_end f p number)
  over_child page level e =
      let k : ℕ = f.index * (level + 1) in
      let base : page / 2 ^ k * 2 ^ k ≡ child.base = ap (λ (z : Position). z.base) e in
      let ends : page / 2 ^ k * 2 ^ k + 2 ^ k ≡ end_of_table f child = ap (end_of_table f) e in
      let low = shr_split page k in
      let rest = mod_below page (2 ^ k) (pow_pos k) in
      let end = end_child in
      (omega (arith, base, low), omega (arith, ends, low, rest, end))

  -- no piece of any view begins under the entry
  none_begins : (j : ℕ) (u : View) → get_elem? views j ≡ some u → (x : Piece) → IsOwnPiece f u x → IsOneOf u.pieces x →
      entry_first f p number ≤ first_of f x → first_of f x < entry_end f p number → ⊥
  none_begins j u here x has member low up =
      let s : (nat_le u.first x.block.first ≡ true) × (nat_le (end_of x.block) (span_end u) ≡ true) = and_parts (nat_le u.first x.block.first) _ has.in_span in
      let a = leb-true u.first x.block.first s.0 in
      let b = leb-true (end_of x.block) (span_end u) s.1 in
      let c = ends_in_block f good u x has in
      let some_page = entry_some f (level_of f x) in
      let e : j ≡ id = has_page j u here (first_of f x) low up (omega arith) (omega arith) in
      let mine : IsOneOf v.pieces x = subst (λ (z : View). IsOneOf z.pieces x) (same_view j u here e) member in
      let begins : begins_under f p number x ≡ true = and_from (nat_le (entry_first f p number) (first_of f x)) _ (le-leb (entry_first f p number) (first_of f x) low) (lt-ltb (first_of f x) (entry_end f p number) up) in
      false≢true (sym (may.bare.no_piece x mine) ∙ begins)

  pub no_home : (j : ℕ) (u : View) → get_elem? views j ≡ some u → (x : Piece) → IsOwnPiece f u x → IsOneOf u.pieces x → table_of f x ≡ child → ⊥
  no_home j u here x has member e = let over = over_child (first_of f x) (level_of f x) e in none_begins j u here x has member over.0 over.1

  -- a live view's pieces, each as its own and a member
  pub pieces_own : (j : ℕ) (u : View) → get_elem? views j ≡ some u → 0 < u.count → AllByRecursion (λ x. IsOwnPiece f u x × IsOneOf u.pieces x) u.pieces
  pieces_own j u here alive = all_both (IsOwnPiece f u) (IsOneOf u.pieces) u.pieces (r.books j u here alive).pieces (all_one_of u.pieces)

  none_stands : (j : ℕ) (u : View) → get_elem? views j ≡ some u → (x : Piece) → IsOwnPiece f u x × IsOneOf u.pieces x → (i : ℕ) → pieces_at f child i (x ∷ []) ≡ 1 → ⊥
  none_stands j u here x has i stands = let h : (child ≡ table_of f x) × (number_of f x ≡ i) = one_here f child i x stands in no_home j u here x has.0 has.1 (sym h.0)

  pub no_piece_in : (i : ℕ) → total (has_piece f child i) views ≡ 0
  no_piece_in i = dite (dec_le (total (has_piece f child i) views) 0) (λ none. omega arith)
      (λ some_one.
      let o : (j : ℕ) × (u : View) × (get_elem? views j ≡ some u) × (0 < has_piece f child i u) = total_some (has_piece f child i) views (omega arith) in
      let alive = live_piece f n l words views good r o.0 o.1 o.2 child i o.3 in
      let x : (x : Piece) × (IsOwnPiece f o.1 x × IsOneOf o.1.pieces x) × (pieces_at f child i (x ∷ []) ≡ 1) =
      some_at f child i (λ y. IsOwnPiece f o.1 y × IsOneOf o.1.pieces y) o.1.pieces (pieces_own o.0 o.1 o.2 alive) o.3 in
      absurd (none_stands o.0 o.1 o.2 x.0 x.1 i x.2))

  -- the entries of its frame are zero
  pub zeros : (i : ℕ) → i < 2 ^ f.index → entry_of f n words g i ≡ 0
  zeros i small = r.entries.words_are g i child child_linked small (childless i small) ∙ no_words_of f child i views (no_piece_in i)

  -- no own piece needs it
  pub not_needed : (x : Piece) → IsOwnPiece f v x → IsOneOf v.pieces x → AllByRecursion (λ q. q ≡ child → ⊥) (needed f v.levels x.block)
  not_needed x has member =
      let top : ℕ = least_top f v.levels (end_of x.block) in
      all_append (λ q. q ≡ child → ⊥) (map (position_over f x.block.first) (levels_between (level_of f x) top)) (map spine_position (levels_between (starting_top v.levels) top))
      (all_levels (λ q. q ≡ child → ⊥) (position_over f x.block.first) (level_of f x) top
      (λ k from to e. let over = over_child (first_of f x) k (sym (same_over f good x has.a_part has.legal k from) ∙ e) in none_begins id v at x has member over.0 over.1))
      (all_levels (λ q. q ≡ child → ⊥) spine_position (starting_top v.levels) top
      (λ k from to e. false≢true (sym may.bare.off_spine ∙ ap (is_spine v.levels) (sym e) ∙ and_from (nat_le (starting_top v.levels) k) _ (le-leb (starting_top v.levels) k from) refl)))
