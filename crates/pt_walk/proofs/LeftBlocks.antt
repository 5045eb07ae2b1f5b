-- The blocks that are left of a walk over a range.
use Rattle.std.proofs.Common.{◌≡◌, ℕ, zero, suc, ◌^◌, ◌<◌, ◌≤◌, min, List, [], ◌∷◌, inl, inr, Bool, true, false, cond, refl, ap, sym, ◌∙◌, subst, arith}
use Rattle.std.specs.Prelude.{◌⊎◌, nat_lt, length, max, slice_index_or, AllPairs, filter, find, Option, Some, None, is_some}
use Rattle.std.proofs.lemmas.Bool.{and_parts, and_from, lt-ltb, ltb-true, cases_Bool, cases_lt}
use Rattle.std.proofs.lemmas.List.Elements.{All-contains}
use Rattle.std.proofs.lemmas.Nat.{pow_pos}
use Rattle.pt_model.specs.declared.block.Block.{Block}
use Rattle.pt_model.specs.Layout.{Layout, IsLegalBlock, end_of, input_pages, pages_of_table}
use Rattle.pt_model.specs.Book.{IsLawful, meets}
use Rattle.pt_format.specs.Laws.{IsLayout}
use Rattle.pt_view.specs.declared.view.View.{View}
use Rattle.pt_view.specs.declared.view.Piece.{Piece}
use Rattle.pt_view.specs.Pieces.{IsOneOf, all_pieces, pieces_of, IsUnderPiece}
use Rattle.pt_view.proofs.Members.{one_of_left, one_of_right}
use Rattle.pt_view.specs.Views.{IsAtRest, book_of}
use Rattle.pt_walk.specs.Walks.{IsFree}
use Rattle.pt_walk.specs.RangeWalks.{Comes, HasNext, is_left, rested}
use Rattle.pt_walk.proofs.Cuts.{pages_few}
use Rattle.pt_walk.proofs.Books.{piece_over}

-- Tests.

same_test : (p q : Bool) → (p ≡ true → q ≡ true) → (q ≡ true → p ≡ true) → p ≡ q
same_test true q a b = sym (a refl)
same_test false true a b = b refl
same_test false false a b = refl

is_false : (p : Bool) → (p ≡ true → ⊥) → p ≡ false
is_false true never = absurd (never refl)
is_false false never = refl

pub left_is : (at end : ℕ) (b : Block) → at < end → b.first < end → at < end_of b → is_left at end b ≡ true
left_is at end b some low high =
    and_from (nat_lt at end) _ (lt-ltb at end some) (and_from (nat_lt b.first end) _ (lt-ltb b.first end low) (lt-ltb at (end_of b) high))

pub left_tells : (at end : ℕ) (b : Block) → is_left at end b ≡ true → (at < end) × (b.first < end) × (at < end_of b)
left_tells at end b e =
    let p : (nat_lt at end ≡ true) × (meets at end b ≡ true) = and_parts (nat_lt at end) _ e in
    let q : (nat_lt b.first end ≡ true) × (nat_lt at (end_of b) ≡ true) = and_parts (nat_lt b.first end) _ p.1 in
    (ltb-true at end p.0, ltb-true b.first end q.0, ltb-true at (end_of b) q.1)

-- Filters.

-- tests that agree at each block of a list leave the same blocks of it
filter_same : (p q : Block → Bool) (bs : List Block) → ((k : ℕ) (b : Block) → k < length bs → slice_index_or bs k b ≡ b → p b ≡ q b) → filter p bs ≡ filter q bs
filter_same p q [] same = refl
filter_same p q (b ∷ bs) same =
    let rest : filter p bs ≡ filter q bs = filter_same p q bs (λ k c less e. same (suc k) c (omega arith) e) in
    ap (λ (t : Bool). cond t (b ∷ filter p bs) (filter p bs)) (same zero b (omega arith) refl)
    ∙ ap (λ (cs : List Block). cond (q b) (b ∷ cs) cs) rest

pub left_none : (at end : ℕ) (bs : List Block) → end ≤ at → filter (is_left at end) bs ≡ []
left_none at end [] past = refl
left_none at end (b ∷ bs) past =
    let none : is_left at end b ≡ false = is_false (is_left at end b) (λ e. let t : (at < end) × (b.first < end) × (at < end_of b) = left_tells at end b e in let some = t.0 in absurd (omega arith)) in
    ap (λ (t : Bool). cond t (b ∷ filter (is_left at end) bs) (filter (is_left at end) bs)) none ∙ left_none at end bs past

find_filter : (p : Block → Bool) (bs : List Block) (o : Option Block) (rest : List Block) → HasNext o (filter p bs) rest → o ≡ find p bs
find_filter p [] None rest h = refl
find_filter p [] (Some b) rest h = absurd (let z : ⊥ = cc in z)
find_filter p (c ∷ bs) o rest h = elim (cases_Bool (p c)) [
  | inl e ↦ here o (at_first o h (ap (λ (t : Bool). cond t (c ∷ filter p bs) (filter p bs)) e)) ∙ sym (rw e refl)
  | inr e ↦ find_filter p bs o rest (at_first o h (ap (λ (t : Bool). cond t (c ∷ filter p bs) (filter p bs)) e)) ∙ sym (rw e refl)
]
  where
    at_first : (o : Option Block) {xs ys : List Block} → HasNext o xs rest → xs ≡ ys → HasNext o ys rest
    at_first None h e = (sym e ∙ h.0, h.1)
    at_first (Some b) h e = sym e ∙ h

    here : (o : Option Block) → HasNext o (c ∷ filter p bs) rest → o ≡ Some c
    here None h = absurd (let e = h.0 in let z : ⊥ = cc in z)
    here (Some b) h = cc

pub next_found : (p : Block → Bool) (bs : List Block) (o : Option Block) (old rest : List Block) → old ≡ filter p bs → HasNext o old rest → o ≡ find p bs
next_found p bs o old rest e h = find_filter p bs o rest (subst (λ (xs : List Block). HasNext o xs rest) e h)

pub next_none : (o : Option Block) (old rest : List Block) → old ≡ [] → HasNext o old rest → o ≡ None
next_none None old rest e h = refl
next_none (Some b) old rest e h = absurd (let p : [] ≡ b ∷ rest = sym e ∙ h in let z : ⊥ = cc in z)

-- A step after steps that met no block.

pub next_some : (o : Option Block) (first old new : List Block) → is_some o ≡ true → first ≡ old → Comes o old new → HasNext o first new
next_some None first old new some e c = absurd (let z : ⊥ = cc in z)
next_some (Some b) first old new some e c = e ∙ c

pub next_more : (o : Option Block) (first old new : List Block) → is_some o ≡ false → first ≡ old → Comes o old new → first ≡ new
next_more None first old new none e c = e ∙ c
next_more (Some b) first old new none e c = absurd (let z : ⊥ = cc in z)

-- Blocks in order.

longer : (b : Block) → b.first < end_of b
longer b = let p = pow_pos b.log2 in omega arith

-- the first block that is left has the next page, and the others are left past it
found_head : (at end : ℕ) (b : Block) (bs : List Block) → AllPairs (λ c d. end_of c ≤ d.first) (b ∷ bs) → b.first ≤ at → at < end_of b → at < end →
    filter (is_left at end) (b ∷ bs) ≡ b ∷ filter (is_left (end_of b) end) (b ∷ bs)
found_head at end b bs pairs low high some =
    let here : is_left at end b ≡ true = left_is at end b some (omega arith) high in
    let gone : is_left (end_of b) end b ≡ false = is_false (is_left (end_of b) end b) (λ e. let t : (end_of b < end) × (b.first < end) × (end_of b < end_of b) = left_tells (end_of b) end b e in let z = t.2 in absurd (omega arith)) in
    let others : filter (is_left at end) bs ≡ filter (is_left (end_of b) end) bs = filter_same (is_left at end) (is_left (end_of b) end) bs (λ k d less e.
    let after : end_of b ≤ d.first = subst (λ (x : Block). end_of b ≤ x.first) e (pairs zero (suc k) d (omega arith) (omega arith)) in
    let long = longer d in
    same_test (is_left at end d) (is_left (end_of b) end d)
    (λ t. let u : (at < end) × (d.first < end) × (at < end_of d) = left_tells at end d t in let v = u.1 in left_is (end_of b) end d (omega arith) v (omega arith))
    (λ t. let u : (end_of b < end) × (d.first < end) × (end_of b < end_of d) = left_tells (end_of b) end d t in let v = u.1 in left_is at end d some v (omega arith))) in
    ap (λ (t : Bool). cond t (b ∷ filter (is_left at end) bs) (filter (is_left at end) bs)) here
    ∙ ap (λ (xs : List Block). b ∷ xs) (others ∙ sym (ap (λ (t : Bool). cond t (b ∷ filter (is_left (end_of b) end) bs) (filter (is_left (end_of b) end) bs)) gone))

pub found_left : (at end : ℕ) (bs : List Block) (b : Block) (k : ℕ) → AllPairs (λ c d. end_of c ≤ d.first) bs → k < length bs → slice_index_or bs k b ≡ b →
    b.first ≤ at → at < end_of b → at < end → filter (is_left at end) bs ≡ b ∷ filter (is_left (end_of b) end) bs
found_left at end [] b k pairs less e low high some = absurd (omega arith)
found_left at end (c ∷ bs) b zero pairs less e low high some =
    subst (λ (d : Block). filter (is_left at end) (d ∷ bs) ≡ b ∷ filter (is_left (end_of b) end) (d ∷ bs)) (sym e)
    (found_head at end b bs (subst (λ (d : Block). AllPairs (λ x y. end_of x ≤ y.first) (d ∷ bs)) e pairs) low high some)
found_left at end (c ∷ bs) b (suc k) pairs less e low high some =
    let rest : filter (is_left at end) bs ≡ b ∷ filter (is_left (end_of b) end) bs = found_left at end bs b k (λ i j d a z. pairs (suc i) (suc j) d (omega arith) (omega arith)) (omega arith) e low high some in
    let before : end_of c ≤ b.first = subst (λ (d : Block). end_of c ≤ d.first) e (pairs zero (suc k) b (omega arith) less) in
    let one : is_left at end c ≡ false = is_false (is_left at end c) (λ t. let u : (at < end) × (c.first < end) × (at < end_of c) = left_tells at end c t in let v = u.2 in absurd (omega arith)) in
    let two : is_left (end_of b) end c ≡ false = is_false (is_left (end_of b) end c) (λ t. let u : (end_of b < end) × (c.first < end) × (end_of b < end_of c) = left_tells (end_of b) end c t in let v = u.2 in absurd (omega arith)) in
    ap (λ (t : Bool). cond t (c ∷ filter (is_left at end) bs) (filter (is_left at end) bs)) one ∙ rest
    ∙ ap (λ (xs : List Block). b ∷ xs) (sym (ap (λ (t : Bool). cond t (c ∷ filter (is_left (end_of b) end) bs) (filter (is_left (end_of b) end) bs)) two))

-- Pages without pieces.

piece_in : (f : Layout) (bs : List Block) (b : Block) (k : ℕ) (x : Piece) → k < length bs → slice_index_or bs k b ≡ b → IsOneOf (pieces_of f b) x → IsOneOf (all_pieces f bs) x
piece_in f [] b k x less e h = absurd (omega arith)
piece_in f (c ∷ bs) b zero x less e h = one_of_left (pieces_of f c) (all_pieces f bs) x (subst (λ (d : Block). IsOneOf (pieces_of f d) x) (sym e) h)
piece_in f (c ∷ bs) b (suc k) x less e h = one_of_right (pieces_of f c) (all_pieces f bs) x (piece_in f bs b k x (omega arith) e h)

module _ (f : Layout) (good : IsLayout f) (v : View) (blocks : List Block) (rest : IsAtRest f (rested v) blocks) where
  -- no block has a page of a free range
  free_block : (first end : ℕ) → IsFree f v first end → (k : ℕ) (b : Block) → k < length blocks → slice_index_or blocks k b ≡ b →
      (page : ℕ) → first ≤ page → page < end → b.first ≤ page → page < end_of b → ⊥
  free_block first end free k b less e page low high from to =
      let x : (x : Piece) × IsOneOf (pieces_of f b) x × IsUnderPiece f x page = piece_over f good b page from to in
      free page low high x.0 (subst (λ (xs : List Piece). IsOneOf xs x.0) (sym rest.pieces) (piece_in f blocks b k x.0 less e x.1)) x.2

  -- past pages without pieces the same blocks are left
  pub free_left : (at to end : ℕ) → IsFree f v at to → at ≤ to → filter (is_left at end) blocks ≡ filter (is_left to end) blocks
  free_left at to end free on = filter_same (is_left at end) (is_left to end) blocks (λ k b less e.
      same_test (is_left at end b) (is_left to end b)
      (λ t.
      let u : (at < end) × (b.first < end) × (at < end_of b) = left_tells at end b t in
      let some = u.0 in let low = u.1 in let high = u.2 in let long = longer b in
      let past : to < end_of b = elim (cases_lt to (end_of b)) [
        | inl less' ↦ less'
        | inr over ↦ absurd (free_block at to free k b less e (max at b.first) (omega arith) (omega arith) (omega arith) (omega arith))
      ] in
      let more : to < end = elim (cases_lt to end) [
        | inl less' ↦ less'
        | inr over ↦ absurd (free_block at to free k b less e (max at b.first) (omega arith) (omega arith) (omega arith) (omega arith))
      ] in
      left_is to end b more low past)
      (λ t.
      let u : (to < end) × (b.first < end) × (to < end_of b) = left_tells to end b t in
      let some = u.0 in let low = u.1 in let high = u.2 in
      left_is at end b (omega arith) low (omega arith)))

  -- at first all blocks that meet the span are left, also where the walk ends with the root's table
  pub begin_left : IsLawful f v.levels (book_of v blocks) → (first last end spine : ℕ) → first < last → last ≤ input_pages f → pages_of_table f v.top ≤ spine ⊎ (2 ^ 52 ≤ spine) → end ≡ min last spine →
      filter (is_left first end) blocks ≡ filter (meets first last) blocks
  begin_left lawful first last end spine some in_space reach is = filter_same (is_left first end) (meets first last) blocks (λ k b less e.
      let legal : IsLegalBlock f b = All-contains (IsLegalBlock f) blocks b lawful.legal (k, less, e) in
      let in_input = legal.in_input in
      let few = pages_few f good in
      let under : end_of b ≤ pages_of_table f v.top = All-contains (λ (c : Block). end_of c ≤ pages_of_table f v.top) blocks b lawful.under_top (k, less, e) in
      let high : end_of b ≤ spine = elim reach [ inl a ↦ omega arith | inr a ↦ omega arith ] in
      let long = longer b in
      same_test (is_left first end b) (meets first last b)
      (λ t.
      let u : (first < end) × (b.first < end) × (first < end_of b) = left_tells first end b t in
      let low = u.1 in
      and_from (nat_lt b.first last) _ (lt-ltb b.first last (omega arith)) (lt-ltb first (end_of b) u.2))
      (λ t.
      let q : (nat_lt b.first last ≡ true) × (nat_lt first (end_of b) ≡ true) = and_parts (nat_lt b.first last) _ t in
      let low = ltb-true b.first last q.0 in
      let to = ltb-true first (end_of b) q.1 in
      left_is first end b (omega arith) (omega arith) to))
