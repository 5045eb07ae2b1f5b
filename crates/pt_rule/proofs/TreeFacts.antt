-- What the rule says of the tree: a linked frame's position, the frame at a position, closure, and what
-- an entry of a linked frame is.
use Rattle.std.proofs.Common.{◌≡◌, ◌⊎◌, inl, inr, ℕ, zero, suc, ◌+◌, ◌-◌, ◌*◌, ◌/◌, ◌%◌, ◌^◌, ◌<◌, ◌≤◌, List, [], ◌∷◌, refl, ap, sym, ◌∙◌, subst, arith, true, false, ⊎_elim}
use Rattle.std.specs.Prelude.{IsTrue, nat_lt, nat_le, ◌&&◌, Option, None, Some}
use Rattle.std.specs.List.{AllByRecursion}
use Rattle.std.proofs.lemmas.Bool.{and_parts, and_from, or_cases, or_left, eqb-true, cases_Bool, false≢true, leb-true, ltb-true, lt-ltb, le-leb}
use Rattle.std.proofs.lemmas.Nat.{shl-shr}
use mathlib.Core.Option.{some, some-injective}
use mathlib.Core.Logic.{dite}
use native.Mathlib.Decide.{ℕ_discrete, dec_le}
use lib.ListN.{get_elem?}
use Rattle.pt_model.specs.declared.position.Position.{Position}
use Rattle.pt_model.specs.Layout.{Layout, page, input_pages, end_of, pages_of_entry, pages_of_table}
use Rattle.pt_model.specs.Tables.{IsPosition, child_at, end_of_table, is_same, is_spine, parent_of, spine_position, starting_top}
use Rattle.pt_model.specs.Words.{tag, placed_at, placed_word, entry_of, root_level, frame_limit, frame_address, frame_named}
use Rattle.pt_format.specs.Words.{IsTableAddress}
use Rattle.pt_format.specs.Laws.{IsLayout}
use Rattle.pt_format.specs.Manual.{StepsAgree}
use Rattle.pt_view.specs.declared.view.View.{View}
use Rattle.pt_view.specs.declared.view.Piece.{Piece}
use Rattle.pt_view.specs.declared.view.Prepared.{Prepared}
use Rattle.pt_model.specs.Sets.{places, IsAmong}
use Rattle.pt_view.specs.Pieces.{IsOneOf, first_of, table_of, number_of, level_of, word_of}
use Rattle.pt_view.specs.Views.{spent}
use Rattle.pt_view.specs.Calls.{entry_first, entry_end, is_under, pieces_at, meets_span, span_end}
use Rattle.pt_rule.specs.Totals.{total, covers, has_table, has_piece, has_word}
use Rattle.pt_rule.specs.Tags.{IsTag, free, held, placed, held_word, is_placed}
use Rattle.pt_rule.specs.Linked.{IsLinkedAt, is_in_tree}
use Rattle.pt_rule.specs.Lawful.{Lawful, FramesPart, IsOwnPiece, IsPreparedAt, has_child}
use Rattle.pt_rule.proofs.TotalsKept.{own_in_tree, total_at, total_two, total_some, total_only}
use Rattle.pt_model.proofs.Positions.{bit_false, bit_le, bit_true, is_same_self, same_cases, same_position}
use Rattle.pt_model.proofs.Quotients.{entry_some}
use Rattle.pt_view.proofs.Members.{all_map}
use Rattle.pt_view.proofs.Pieces.{number_below, one_here}
use Rattle.pt_rule.proofs.TagFacts.{IsPreparedBy, prepared_by}
use Rattle.pt_rule.proofs.PositionFacts.{slot_of_child, parent_of_child, is_child, parent_low, parent_up, end_in_parent, level_within}
use Rattle.pt_rule.proofs.PieceFacts.{ends_in_block, first_is_entry's, may_be_leaf, is_under_piece, IsOneAt, no_words, some_at, one_at}

-- Tags and addresses say what they were made of.

pub placed_back : (p : Position) → p.level < 8 → placed_at (placed_word p) ≡ p
placed_back p low =
    let a : (2 + 4 * p.level + 32 * p.base) / 4 % 8 ≡ p.level = omega arith in
    let b : (2 + 4 * p.level + 32 * p.base) / 32 ≡ p.base = omega arith in
    same_position (placed_at (placed_word p)) p a b

pub frame_back : (f : Layout) (frame : ℕ) → frame_named f (frame_address f frame) ≡ frame
frame_back f frame =
    let e : 2 ^ 32 + frame * 2 ^ f.granule - 2 ^ 32 ≡ frame * 2 ^ f.granule = omega arith in
    ap (λ x. x / 2 ^ f.granule) e ∙ shl-shr frame f.granule

pub is_address : (f : Layout) (frame : ℕ) → frame < frame_limit f → IsTableAddress f (frame_address f frame)
is_address f frame within = record { frame = frame; in_limit = within; address_is = refl }

-- a placed tag is the word of a position
pub placed_position : (f : Layout) (word : ℕ) → IsTag f word → IsTrue (is_placed word) → (p : Position) × IsPosition f p × (word ≡ placed_word p)
placed_position f word t is = elim t [
  | free e ↦ absurd (false≢true (sym (ap is_placed e) ∙ is))
  | held next e ↦ absurd (not_held next (sym (ap is_placed e) ∙ is))
  | placed p a e ↦ (p, a, e)
]
  where
    not_held : (next : Option ℕ) → is_placed (held_word next) ≡ true → ⊥
    not_held None e = false≢true e
    not_held (Some k) e = let two : (1 + 4 * (k + 1)) % 4 ≡ 2 = eqb-true _ _ e in omega arith

-- a placed tag is the word of the position that it reads as
pub placed_reads : (f : Layout) → IsLayout f → (word : ℕ) (p : Position) → IsTag f word → IsTrue (is_placed word) → placed_at word ≡ p →
    IsPosition f p × (word ≡ placed_word p)
placed_reads f good word p t is reads =
    let q : (q : Position) × IsPosition f q × (word ≡ placed_word q) = placed_position f word t is in
    let low : q.0.level < 8 = (let x = q.1.a_level in let y = good.levels_high in omega arith) in
    let e : q.0 ≡ p = sym (placed_back q.0 low) ∙ ap placed_at (sym q.2) ∙ reads in
    (subst (IsPosition f) e q.1, q.2 ∙ ap placed_word e)

-- a frame that a view prepares is tagged with the word of the position that the view names, which is one
pub prepared_tag : (f : Layout) → IsLayout f → (n : ℕ) (words : List ℕ) (views : List View) → FramesPart f n words views → (id : ℕ) (v : View) (x : Prepared) →
    get_elem? views id ≡ some v → v.prepared ≡ Some x → IsPosition f x.position × (tag words x.frame ≡ placed_word x.position)
prepared_tag f good n words views part id v x at e =
    let by : IsPreparedBy n words views id v x.frame = prepared_by f n words views part id v x at e in
    placed_reads f good (tag words x.frame) x.position (part.tags x.frame by.within) by.placed (subst (IsPreparedAt words) e (part.at id v at))

-- The one piece at an entry, and the view that has it.
pub record IsOnePiece (f : Layout) (views : List View) (p : Position) (i : ℕ) : Type 0 where
  pub index : ℕ
  pub view : View
  pub at : get_elem? views index ≡ some view
  pub piece : Piece
  pub own : IsOwnPiece f view piece
  pub member : IsOneOf view.pieces piece
  pub here : pieces_at f p i (piece ∷ []) ≡ 1
  pub alone : pieces_at f p i view.pieces ≡ 1

-- An entry of a linked frame is empty, the word of the one piece there, or the pointer to the child's frame.
pub data IsEntry (f : Layout) (n l : ℕ) (words : List ℕ) (views : List View) (p : Position) (i word : ℕ) : Type 0 where
  an_empty : word ≡ 0 → total (has_piece f p i) views ≡ 0 → has_child f l words views p i ≡ false → IsEntry f n l words views p i word
  a_piece : (one : IsOnePiece f views p i) → word ≡ word_of f one.piece → IsEntry f n l words views p i word
  a_child : (h : ℕ) → IsLinkedAt n words views h (child_at f p i) → 0 < p.level → word ≡ f.pointer p.level (frame_address f h) → IsEntry f n l words views p i word

pub all_both : {X : Type 0} (P Q : X → Type 0) (xs : List X) → AllByRecursion P xs → AllByRecursion Q xs → AllByRecursion (λ x. P x × Q x) xs
all_both P Q [] a b = tt
all_both P Q (x ∷ xs) a b = ((a.0, b.0), all_both P Q xs a.1 b.1)

pub all_one_of : (xs : List Piece) → AllByRecursion (IsOneOf xs) xs
all_one_of [] = tt
all_one_of (x ∷ xs) = (inl refl, all_map (IsOneOf xs) (IsOneOf (x ∷ xs)) xs (λ y h. inr h) (all_one_of xs))

pub no_words_of : (f : Layout) (p : Position) (i : ℕ) (views : List View) → total (has_piece f p i) views ≡ 0 → total (has_word f p i) views ≡ 0
no_words_of f p i [] e = refl
no_words_of f p i (v ∷ vs) e =
    let here = no_words f p i v.pieces (omega arith) in let rest = no_words_of f p i vs (omega arith) in omega (arith, here, rest)

pub covers_page : (v : View) (k : ℕ) → v.first ≤ k → k < v.first + v.count → covers k v ≡ 1
covers_page v k low up =
    bit_true _ (and_from (nat_le v.first k) _ (le-leb v.first k low) (lt-ltb k (v.first + v.count) up))

-- two ranges that meet have a page of both
common_page : (a b c d : ℕ) → a < b → c < d → a < d → c < b → (k : ℕ) × (a ≤ k) × (k < b) × (c ≤ k) × (k < d)
common_page a b c d x y z w = dite (dec_le a c) (λ le. (c, le, w, omega arith, y)) (λ gt. (a, omega arith, x, omega arith, z))

-- the entry at which a piece stands begins where the piece does, in a table of its level
pub level_of_piece : (f : Layout) (p : Position) (i : ℕ) (x : Piece) → pieces_at f p i (x ∷ []) ≡ 1 → p.level ≡ level_of f x
level_of_piece f p i x here = let h : (p ≡ table_of f x) × (number_of f x ≡ i) = one_here f p i x here in ap (λ (q : Position). q.level) h.0

pub entry_of_piece : (f : Layout) → IsLayout f → (u : View) (x : Piece) → IsOwnPiece f u x → (p : Position) (i : ℕ) → pieces_at f p i (x ∷ []) ≡ 1 →
    entry_first f p i ≡ first_of f x
entry_of_piece f good u x own p i here =
    let h : (p ≡ table_of f x) × (number_of f x ≡ i) = one_here f p i x here in
    (λ k. entry_first f (h.0 k) (sym h.1 k)) ∙ first_is_entry's f good u x own

-- the manual's step finds a page at a piece's word
pub step_of_piece : (f : Layout) → IsLayout f → StepsAgree f → (u : View) (x : Piece) → IsOwnPiece f u x → (p : Position) (i : ℕ) → pieces_at f p i (x ∷ []) ≡ 1 →
    f.step p.level (word_of f x) (entry_first f p i) ≡ page (x.block.out + (first_of f x - x.block.first)) x.block.prot
step_of_piece f good a u x own p i here =
    (λ k. f.step (level_of_piece f p i x here k) (word_of f x) (entry_of_piece f good u x own p i here k))
    ∙ a.leaf (level_of f x) x.block.log2 x.block.out x.part x.block.first (first_of f x) x.block.prot (may_be_leaf f good u x own) (is_under_piece f good u x own)

module _ (f : Layout) (n l : ℕ) (words : List ℕ) (views : List View) (good : IsLayout f) (r : Lawful f n l words views) where
  abbrev pub IsThere : Position → Type 0
  IsThere p = IsTrue (is_in_tree l words views p)

  -- The position of a linked frame.

  pub is_position : (g : ℕ) (p : Position) → IsLinkedAt n words views g p → IsPosition f p × (tag words g ≡ placed_word p)
  is_position g p a = placed_reads f good (tag words g) p (r.frames.tags g a.is_linked.within) a.is_linked.placed a.at

  pub one_frame : (g h : ℕ) (p : Position) → IsLinkedAt n words views g p → IsLinkedAt n words views h p → g ≡ h
  one_frame g h p a b = r.positions.distinct g h a.is_linked b.is_linked ((is_position g p a).1 ∙ sym (is_position h p b).1)

  pub linked_there : (g : ℕ) (p : Position) → IsLinkedAt n words views g p → IsThere p
  linked_there g p a = subst IsThere a.at (r.positions.in_tree g a.is_linked)

  pub there_position : (p : Position) → IsThere p → IsPosition f p
  there_position p t = let a : (frame : ℕ) × IsLinkedAt n words views frame p = r.positions.all p t in (is_position a.0 p a.1).0

  -- Closure.

  index_some : 0 < f.index
  index_some = omega (arith, good.index_is, good.granule_low)

  ends_within : (k : ℕ) (p : Position) → IsThere p → f.levels ≤ p.level + k → end_of_table f p ≤ pages_of_table f (root_level words)
  ends_within zero p t far = let a = (there_position p t).a_level in absurd (omega arith)
  ends_within (suc k) p t far = ⊎_elim
      (λ (e : p ≡ spine_position (root_level words)). let h : end_of_table f p ≡ 0 + pages_of_table f (root_level words) = ap (end_of_table f) e in omega arith)
      (λ (ne : is_same p (spine_position (root_level words)) ≡ false).
      let up : IsThere (parent_of f p) = r.parents.closed p t (λ e. false≢true (sym ne ∙ ap (is_same p) (sym e) ∙ is_same_self p p refl)) in
      let rest = ends_within k (parent_of f p) up (omega arith) in
      let one = end_in_parent f p (there_position p t).aligned in omega (arith, rest, one))
      (same_cases p (spine_position (root_level words)))

  -- every table lies within the root's span
  pub ends_in_root : (p : Position) → IsThere p → end_of_table f p ≤ pages_of_table f (root_level words)
  ends_in_root p t = ends_within f.levels p t (omega arith)

  pub level_low : (p : Position) → IsThere p → p.level ≤ root_level words
  level_low p t = level_within f index_some p.level p.base (root_level words) (ends_in_root p t)

  pub parent_there : (p : Position) → IsThere p → p.level < root_level words → IsThere (parent_of f p)
  parent_there p t low = r.parents.closed p t (λ e. let h : p.level ≡ root_level words = ap (λ (q : Position). q.level) e in omega arith)

  -- where a table lies under an entry, the entry's child is of the tree
  child_within : (k : ℕ) (p : Position) (i : ℕ) → IsThere p → (q : Position) → IsThere q → q.level + 1 + k ≡ p.level →
      entry_first f p i ≤ q.base → q.base < entry_end f p i → IsThere (child_at f p i)
  child_within zero p i t q u e low up =
      subst IsThere (is_child f p i (there_position p t).aligned q (there_position q u).aligned low up (omega arith)) u
  child_within (suc k) p i t q u e low up =
      let a = (there_position p t).aligned in let b = (there_position q u).aligned in
      let below = level_low p t in
      child_within k p i t (parent_of f q) (parent_there q u (omega arith)) (omega arith)
      (parent_low f p i a q b low up (omega arith)) (parent_up f p i a q b low up)

  pub child_there : (p : Position) (i : ℕ) → IsThere p → (q : Position) → IsThere q → IsTrue (is_under f p i q) → IsThere (child_at f p i)
  child_there p i t q u under =
      let a : ((nat_lt q.level p.level && nat_le (entry_first f p i) q.base) ≡ true) × (nat_lt q.base (entry_end f p i) ≡ true) =
      and_parts (nat_lt q.level p.level && nat_le (entry_first f p i) q.base) _ under in
      let b : (nat_lt q.level p.level ≡ true) × (nat_le (entry_first f p i) q.base ≡ true) = and_parts (nat_lt q.level p.level) _ a.0 in
      let h = ltb-true q.level p.level b.0 in
      child_within (p.level - (q.level + 1)) p i t q u (omega arith) (leb-true (entry_first f p i) q.base b.1) (ltb-true q.base (entry_end f p i) a.1)

  pub spine_there : (level : ℕ) → starting_top l ≤ level → level ≤ root_level words → IsThere (spine_position level)
  spine_there level low up =
      or_left (is_spine l (spine_position level) && nat_le level (root_level words)) _
      (and_from (is_spine l (spine_position level)) _ (and_from (nat_le (starting_top l) level) _ (le-leb (starting_top l) level low) refl) (le-leb level (root_level words) up))

  pub table_there : (j : ℕ) (u : View) → get_elem? views j ≡ some u → (p : Position) → IsAmong u.tables p → IsThere p
  table_there = own_in_tree l words views

  -- Entries.

  -- a view with a piece is live
  pub live_piece : (j : ℕ) (u : View) → get_elem? views j ≡ some u → (p : Position) (i : ℕ) → 0 < pieces_at f p i u.pieces → 0 < u.count
  live_piece j u at p i some_one = dite (dec_le u.count 0)
      (λ none. let e : u ≡ spent = r.sizes.dead j u at (omega arith) in let z : pieces_at f p i u.pieces ≡ 0 = ap (λ (w : View). pieces_at f p i w.pieces) e in absurd (omega arith))
      (λ live. omega arith)

  pub one_piece : (p : Position) (i : ℕ) → 0 < total (has_piece f p i) views → (one : IsOnePiece f views p i) × (total (has_word f p i) views ≡ word_of f one.piece)
  one_piece p i some_one =
      let once = r.entries.once i p in
      let t : (j : ℕ) × (v : View) × (get_elem? views j ≡ some v) × (0 < has_piece f p i v) = total_some (has_piece f p i) views some_one in
      let most = total_at (has_piece f p i) views t.0 t.1 t.2 in
      let alone : pieces_at f p i t.1.pieces ≡ 1 = (let h = t.3 in omega arith) in
      let live = live_piece t.0 t.1 t.2 p i t.3 in
      let one : IsOneAt f (λ x. IsOwnPiece f t.1 x × IsOneOf t.1.pieces x) p i t.1.pieces =
      one_at f p i (λ x. IsOwnPiece f t.1 x × IsOneOf t.1.pieces x) t.1.pieces
      (all_both (IsOwnPiece f t.1) (IsOneOf t.1.pieces) t.1.pieces (r.books t.0 t.1 t.2 live).pieces (all_one_of t.1.pieces)) alone in (
        record { index = t.0; view = t.1; at = t.2; piece = one.piece; own = one.has.0; member = one.has.1; here = one.here; alone = alone },
        total_only (has_word f p i) views t.0 t.1 t.2
            (λ j u ne e. no_words f p i u.pieces (let two = total_two (has_piece f p i) views j t.0 u t.1 ne e t.2 in omega arith)) ∙ one.word,
      )

  pub pointer_at : (g : ℕ) (p : Position) (i : ℕ) → IsLinkedAt n words views g p → i < 2 ^ f.index → 0 < p.level → IsThere (child_at f p i) →
      (h : ℕ) × IsLinkedAt n words views h (child_at f p i) × (entry_of f n words g i ≡ f.pointer p.level (frame_address f h))
  pointer_at g p i a below high t =
      let aligned = (is_position g p a).0.aligned in
      let c : (h : ℕ) × IsLinkedAt n words views h (child_at f p i) = r.positions.all (child_at f p i) t in
      let low = level_low p (linked_there g p a) in
      let up : IsLinkedAt n words views g (parent_of f (child_at f p i)) = subst (IsLinkedAt n words views g) (sym (parent_of_child f p i high below aligned)) a in
      let level : p.level - 1 + 1 ≡ p.level = omega arith in (
        c.0,
        c.1,
        ap (entry_of f n words g) (sym (slot_of_child f p i high below aligned))
            ∙ r.parents.named g c.0 (child_at f p i) c.1 (λ e. let h : p.level - 1 ≡ root_level words = ap (λ (q : Position). q.level) e in omega arith) up
            ∙ ap (λ k. f.pointer k (frame_address f c.0)) level,
      )

  pub entry_is : (g : ℕ) (p : Position) (i : ℕ) → IsLinkedAt n words views g p → i < 2 ^ f.index → IsEntry f n l words views p i (entry_of f n words g i)
  entry_is g p i a below = ⊎_elim
      (λ (yes : has_child f l words views p i ≡ true).
      let b : (nat_lt 0 p.level ≡ true) × (is_in_tree l words views (child_at f p i) ≡ true) = and_parts (nat_lt 0 p.level) _ yes in
      let high : 0 < p.level = ltb-true 0 p.level b.0 in
      let c : (h : ℕ) × IsLinkedAt n words views h (child_at f p i) × (entry_of f n words g i ≡ f.pointer p.level (frame_address f h)) =
      pointer_at g p i a below high b.1 in
      a_child c.0 c.1 high c.2)
      (λ (no : has_child f l words views p i ≡ false).
      let e = r.entries.words_are g i p a below no in
      dite (dec_le (total (has_piece f p i) views) 0)
      (λ none. let z : total (has_piece f p i) views ≡ 0 = omega arith in an_empty (e ∙ no_words_of f p i views z) z no)
      (λ some_one.
      let o : (one : IsOnePiece f views p i) × (total (has_word f p i) views ≡ word_of f one.piece) = one_piece p i (omega arith) in
      a_piece o.0 (e ∙ o.1)))
      (cases_Bool (has_child f l words views p i))

  -- a piece at an entry that meets a live view's span is this view's own
  pub own_view : (p : Position) (i : ℕ) (one : IsOnePiece f views p i) (id : ℕ) (v : View) → get_elem? views id ≡ some v → 0 < v.count →
      IsTrue (meets_span v (entry_first f p i) (entry_end f p i)) → one.view ≡ v
  own_view p i one id v at live meets =
      let x : Piece = one.piece in let u : View = one.view in
      let first : entry_first f p i ≡ first_of f x = entry_of_piece f good u x one.own p i one.here in
      let level : p.level ≡ level_of f x = level_of_piece f p i x one.here in
      let last : entry_end f p i ≡ first_of f x + pages_of_entry f (level_of f x) = (λ k. first k + pages_of_entry f (level k)) in
      let m : (nat_lt (entry_first f p i) (span_end v) ≡ true) × (nat_lt v.first (entry_end f p i) ≡ true) = and_parts (nat_lt (entry_first f p i) (span_end v)) _ meets in
      let a = ltb-true (entry_first f p i) (span_end v) m.0 in
      let b = ltb-true v.first (entry_end f p i) m.1 in
      let s : (nat_le u.first x.block.first ≡ true) × (nat_le (end_of x.block) (span_end u) ≡ true) = and_parts (nat_le u.first x.block.first) _ one.own.in_span in
      let c = leb-true u.first x.block.first s.0 in
      let d = leb-true (end_of x.block) (span_end u) s.1 in
      let e = ends_in_block f good u x one.own in
      let some_page = entry_some f (level_of f x) in
      let g : (k : ℕ) × (first_of f x ≤ k) × (k < first_of f x + pages_of_entry f (level_of f x)) × (v.first ≤ k) × (k < v.first + v.count) =
      common_page (first_of f x) (first_of f x + pages_of_entry f (level_of f x)) v.first (v.first + v.count) (omega arith) (omega arith) (omega arith) (omega arith) in
      let mine = covers_page v g.0 g.3 g.4 in
      let low = g.1 in let up = g.2 in
      let theirs = covers_page u g.0 (omega arith) (omega arith) in
      dite (ℕ_discrete one.index id)
      (λ same. some-injective u v (sym one.at ∙ ap (get_elem? views) same ∙ at))
      (λ ne. absurd (let two = total_two (covers g.0) views one.index id u v ne one.at at in let sum = r.spans g.0 in let most = bit_le (nat_lt g.0 (input_pages f)) in omega arith))

  -- A live view of the whole space is the only one.

  page_within : (j : ℕ) (u : View) → get_elem? views j ≡ some u → (k : ℕ) → covers k u ≡ 1 → k < input_pages f
  page_within j u at k one = dite (dec_le (input_pages f) k)
      (λ out. absurd (let sum = r.spans k in let most = total_at (covers k) views j u at in
      ⊎_elim (λ (e : nat_lt k (input_pages f) ≡ true). let h = ltb-true k (input_pages f) e in omega (arith, h, out))
      (λ (e : nat_lt k (input_pages f) ≡ false). let z = bit_false _ e in omega arith) (cases_Bool (nat_lt k (input_pages f)))))
      (λ low. omega arith)

  pub whole_alone : (id : ℕ) (v : View) → get_elem? views id ≡ some v → 0 < v.count → v.count ≡ input_pages f → (j : ℕ) (u : View) → get_elem? views j ≡ some u → 0 < u.count → u ≡ v
  whole_alone id v at live all j u here some_page =
      let last = page_within id v at (v.first + (v.count - 1)) (covers_page v (v.first + (v.count - 1)) (omega arith) (omega arith)) in
      let mine = covers_page u u.first (omega arith) (omega arith) in
      let low = page_within j u here u.first mine in
      let theirs = covers_page v u.first (omega arith) (omega arith) in
      dite (ℕ_discrete j id)
      (λ same. some-injective u v (sym here ∙ ap (get_elem? views) same ∙ at))
      (λ ne. absurd (let two = total_two (covers u.first) views j id u v ne here at in let sum = r.spans u.first in let most = bit_le (nat_lt u.first (input_pages f)) in omega arith))

  -- a view with a table is live
  pub live_table : (j : ℕ) (u : View) → get_elem? views j ≡ some u → (p : Position) → 0 < places p u.tables → 0 < u.count
  live_table j u at p some_one = dite (dec_le u.count 0)
      (λ none. let e : u ≡ spent = r.sizes.dead j u at (omega arith) in let z : places p u.tables ≡ 0 = ap (λ (w : View). places p w.tables) e in absurd (omega arith))
      (λ live. omega arith)

  -- where a view is the whole space's, the tree is its tables and the spine
  pub whole_tree : (id : ℕ) (v : View) → get_elem? views id ≡ some v → 0 < v.count → v.count ≡ input_pages f → (p : Position) → IsThere p →
      IsAmong v.tables p ⊎ IsTrue (is_spine v.levels p)
  whole_tree id v at live all p t = ⊎_elim
      (λ (s : (is_spine l p && nat_le p.level (root_level words)) ≡ true).
      let b : (is_spine l p ≡ true) × (nat_le p.level (root_level words) ≡ true) = and_parts (is_spine l p) _ s in
      inr (ap (λ (k : ℕ). is_spine k p) (r.sizes.live id v at live).1 ∙ b.0))
      (λ (s : nat_lt 0 (total (has_table p) views) ≡ true).
      let o : (j : ℕ) × (u : View) × (get_elem? views j ≡ some u) × (0 < has_table p u) = total_some (has_table p) views (ltb-true 0 (total (has_table p) views) s) in
      inl (subst (λ (w : View). IsAmong w.tables p) (whole_alone id v at live all o.0 o.1 o.2 (live_table o.0 o.1 o.2 p o.3)) o.3))
      (or_cases (is_spine l p && nat_le p.level (root_level words)) _ t)

  -- where pieces stand is a table of the tree
  pub piece_home : (q : Position) (i : ℕ) → 0 < total (has_piece f q i) views → IsThere q × (i < 2 ^ f.index)
  piece_home q i some_one =
      let o : (j : ℕ) × (u : View) × (get_elem? views j ≡ some u) × (0 < has_piece f q i u) = total_some (has_piece f q i) views some_one in
      let x : (x : Piece) × IsThere (table_of f x) × (pieces_at f q i (x ∷ []) ≡ 1) =
      some_at f q i (λ y. IsThere (table_of f y)) o.1.pieces (r.entries.homes o.0 o.1 o.2) o.3 in
      let h : (q ≡ table_of f x.0) × (number_of f x.0 ≡ i) = one_here f q i x.0 x.2 in
      (subst IsThere (sym h.0) x.1, subst (λ (k : ℕ). k < 2 ^ f.index) h.1 (number_below f x.0))
