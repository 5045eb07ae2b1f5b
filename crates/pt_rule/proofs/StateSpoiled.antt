-- For each part of the rule small states that are spoiled in that part: the state with a mapped page, a new
-- space, or the state of two holders, with some words or fields changed.
use Rattle.std.proofs.Common.{◌≡◌, ℕ, zero, suc, true, false, ◌+◌, ◌<◌, ◌≤◌, List, [], ◌∷◌, sym, refl, ap, ◌∙◌, ⊎_elim, arith, Option, Some, None}
use mathlib.Core.Option.{some, some-injective, some-ne-none}
use lib.ListN.{get_elem?}
use Rattle.pt_model.specs.declared.position.Position.{Position}
use Rattle.pt_model.specs.declared.block.Prot.TheVariants.{Read}
use Rattle.pt_model.specs.Words.{tag, placed_at, placed_word}
use Rattle.pt_view.specs.declared.view.View.{View}
use Rattle.pt_view.specs.declared.view.Piece.{Piece}
use Rattle.pt_view.specs.Views.{spent}
use Rattle.std.specs.Prelude.{◌==◌}
use Rattle.std.proofs.lemmas.Bool.{eq-eqb}
use Rattle.pt_rule.specs.Tags.{held_word, is_placed, free, held, placed}
use Rattle.std.specs.Prelude.{IsTrue}
use Rattle.pt_rule.specs.Totals.{total, prepares}
use Rattle.pt_rule.specs.Linked.{IsLinkedAt}
use Rattle.pt_rule.specs.Lawful.{SpansPart, FramesPart, PositionsPart, RootPart, ParentsPart, EntriesPart, BooksPart, PathsPart, PursesPart, SizesPart, BusyPart, KnownPart}
use Rattle.pt_rule.proofs.StateMapped.{small, at, four, zeros, mapped_page, mapped_words, mapped_view, mapped_views, new_view}
use Rattle.pt_rule.proofs.StateShared.{left, right, words as shared_words}

-- the words of the state with a mapped page, with other tags of frames 2 and 3 and other entries
abbrev with_words : (root third fourth : ℕ) → (pointer leaf other third_first : ℕ) → List ℕ
with_words root third fourth pointer leaf other third_first =
    root ∷ 6 ∷ 130 ∷ third ∷ fourth ∷ (0 ∷ pointer ∷ 0 ∷ 0 ∷ (0 ∷ leaf ∷ other ∷ 0 ∷ (third_first ∷ zeros 7)))

pub unchanged : with_words 1 1 0 4294971395 36865 0 0 ≡ mapped_words
unchanged = refl

differ : (a b : ℕ) → (a == b) ≡ false → a ≡ b → ⊥
differ a b n e = let d : true ≡ false = sym (eq-eqb a b e) ∙ n in cc

-- 1. The last page is of no span; every page is of two.
pub page_lost : ¬ SpansPart small (record mapped_view { count = 63 } ∷ [])
page_lost part = differ 0 1 refl (part 63)

pub span_twice : ¬ SpansPart small (mapped_view ∷ mapped_view ∷ [])
span_twice part = differ 2 1 refl (part 0)

-- 2. A free frame in a purse; a frame in two purses; a tag of no kind; a held frame with an entry; a frame prepared
-- for another position than its tag's, or for one of level 8, whose word is that of a position of level 0; a frame
-- that two views prepare; a bridge at a position off the spine.
pub free_held : ¬ FramesPart small 4 mapped_words (record mapped_view { purse = 2 ∷ 3 ∷ [] } ∷ [])
free_held part = differ 1 0 refl (part.held 3 (omega arith))

pub held_twice : ¬ FramesPart small 4 mapped_words (record mapped_view { count = 8 } ∷ record mapped_view { first = 8; count = 56 } ∷ [])
held_twice part = differ 2 1 refl (part.held 2 (omega arith))

three_held : (next : Option ℕ) → (let three : ℕ = 3 in three) ≡ held_word next → ⊥
three_held None e = omega arith
three_held (Some k) e = omega arith

pub no_kind : ¬ FramesPart small 4 (with_words 1 1 3 4294971395 36865 0 0) mapped_views
no_kind part = elim (part.tags 3 (omega arith)) [
  | free e ↦ omega arith
  | held next e ↦ three_held next e
  | placed p legal e ↦ omega arith
]

pub not_cleared : ¬ FramesPart small 4 (with_words 1 1 0 4294971395 36865 0 36865) mapped_views
not_cleared part = differ 36865 0 refl (part.cleared 2 0 (omega arith) (λ a. cc (a.placed)) (omega arith))

-- the state with a mapped page, whose table's frame is prepared instead
abbrev prepares_table : Position → (bridge : Option ℕ) → View
prepares_table p bridge = record mapped_view { tables = []; pieces = []; path = []; prepared = Some (record { frame = 1; position = p; bridge = bridge }) }

pub prepared_elsewhere : ¬ FramesPart small 4 mapped_words (prepares_table (at 0 8) None ∷ [])
prepared_elsewhere part = differ 4 8 refl (ap (λ (p : Position). p.base) (part.at 0 (prepares_table (at 0 8) None) refl))

-- the right one of two holders, with a position that no table has, where it has the one at page 8
abbrev too_high : View
too_high = record right { prepared = Some (record { frame = 3; position = at 8 7; bridge = None }) }

pub same_word : placed_word (at 8 7) ≡ placed_word (at 0 8)
same_word = refl

pub prepared_too_high : ¬ FramesPart small 4 shared_words (left ∷ too_high ∷ spent ∷ [])
prepared_too_high part = differ 0 8 refl (ap (λ (p : Position). p.level) (part.at 1 too_high refl))

pub prepared_twice : ¬ FramesPart small 4 mapped_words (prepares_table (at 0 4) None ∷ prepares_table (at 0 4) None ∷ [])
prepared_twice part = let e : 2 ≤ 1 = part.prepared 1 (omega arith) in omega arith

pub bridge_off_spine : ¬ FramesPart small 4 mapped_words (prepares_table (at 0 4) (Some 0) ∷ [])
bridge_off_spine part = differ 4 0 refl (ap (λ (p : Position). p.base) ((part.bridges 0 (prepares_table (at 0 4) (Some 0)) refl).1))

-- 3. Two frames linked at one position; a linked frame whose position is in no book; a table of a book at which
-- no frame is linked.
pub linked_twice : ¬ PositionsPart small 4 2 (with_words 1 1 130 4294971395 36865 0 0) mapped_views
linked_twice part =
    differ 1 3 refl (part.distinct 1 3 (record { within = omega arith; placed = refl; unprepared = refl }) (record { within = omega arith; placed = refl; unprepared = refl }) refl)

pub not_in_tree : ¬ PositionsPart small 4 2 mapped_words (record mapped_view { tables = [] } ∷ [])
not_in_tree part = cc (part.in_tree 1 (record { within = omega arith; placed = refl; unprepared = refl }))

abbrev two_tables : View
two_tables = record mapped_view { tables = at 0 4 ∷ at 0 8 ∷ [] }

pub table_unlinked : ¬ PositionsPart small 4 2 mapped_words (two_tables ∷ [])
table_unlinked part = let x = part.all (at 0 8) refl in
    four (λ g. placed_at (tag mapped_words g) ≡ at 0 8 → ⊥)
    (λ e. differ 0 8 refl (ap (λ (p : Position). p.base) e)) (λ e. differ 4 8 refl (ap (λ (p : Position). p.base) e))
    (λ e. differ 0 8 refl (ap (λ (p : Position). p.base) e)) (λ e. differ 0 8 refl (ap (λ (p : Position). p.base) e)) x.0 x.1.is_linked.within x.1.at

-- 4. The root names another frame, a level below a view's top, or one that no view reaches.
pub other_root : ¬ RootPart 4 (with_words 9 1 0 4294971395 36865 0 0) mapped_views
other_root part = differ 0 1 refl (ap (λ (p : Position). p.level) part.is_linked.at)

pub low_root : ¬ RootPart 4 mapped_words (record mapped_view { top = 2 } ∷ [])
low_root part = let e : 2 ≤ 1 = part.greatest 0 (record mapped_view { top = 2 }) refl in omega arith

abbrev high_words : List ℕ
high_words = 2 ∷ 10 ∷ 130 ∷ 1 ∷ 0 ∷ (0 ∷ 4294971395 ∷ 0 ∷ 0 ∷ (0 ∷ 36865 ∷ 0 ∷ 0 ∷ zeros 8))

mapped_tops : (j : ℕ) (v : View) → get_elem? mapped_views j ≡ some v → v.top ≡ 2 → ⊥
mapped_tops zero v e h = differ 1 2 refl (ap (λ (u : View). u.top) (some-injective mapped_view v e) ∙ h)
mapped_tops (suc j) v e h = absurd (some-ne-none v (sym e))

pub root_unreached : ¬ RootPart 4 high_words mapped_views
root_unreached part = let r = part.reached in mapped_tops r.0 r.1 r.2 r.4

-- 5. The pointer to a table is missing; a table's parent isn't of the tree.
linked : (words : List ℕ) (views : List View) (g : ℕ) (p : Position) → g < 4 → IsTrue (is_placed (tag words g)) → total (prepares g) views ≡ 0 → placed_at (tag words g) ≡ p → IsLinkedAt 4 words views g p
linked words views g p within tagged none at = record { is_linked = record { within = within; placed = tagged; unprepared = none }; at = at }

pub no_pointer : ¬ ParentsPart small 4 2 (with_words 1 1 0 0 36865 0 0) mapped_views
no_pointer part = differ 0 4294971395 refl
    (part.named 0 1 (at 0 4) (linked _ mapped_views 1 (at 0 4) (omega arith) refl refl refl) (λ e. differ 0 1 refl (ap (λ (p : Position). p.level) e))
    (linked _ mapped_views 0 (at 1 0) (omega arith) refl refl refl))

abbrev far_table : View
far_table = record mapped_view { tables = at 0 4 ∷ at 0 16 ∷ [] }

pub no_parent : ¬ ParentsPart small 4 2 mapped_words (far_table ∷ [])
no_parent part = cc (part.closed (at 0 16) refl (λ e. differ 0 1 refl (ap (λ (p : Position). p.level) e)))

-- 6. A word where no piece stands; a piece without its word; two pieces at one entry; a piece whose table isn't
-- of the tree; a piece at an entry with a child.
pub no_piece : ¬ EntriesPart small 4 2 (with_words 1 1 0 4294971395 36865 40961 0) mapped_views
no_piece part =
    differ 40961 0 refl (part.words_are 1 2 (at 0 4) (linked _ mapped_views 1 (at 0 4) (omega arith) refl refl refl) (omega arith) refl)

pub no_word : ¬ EntriesPart small 4 2 (with_words 1 1 0 4294971395 0 0 0) mapped_views
no_word part =
    differ 0 36865 refl (part.words_are 1 1 (at 0 4) (linked _ mapped_views 1 (at 0 4) (omega arith) refl refl refl) (omega arith) refl)

pub piece_twice : ¬ EntriesPart small 4 2 mapped_words (record mapped_view { pieces = mapped_page ∷ mapped_page ∷ [] } ∷ [])
piece_twice part = let e : 2 ≤ 1 = part.once 1 (at 0 4) in omega arith

abbrev far_page : Piece
far_page = record { block = record { first = 9; log2 = 0; out = 9; prot = Read }; part = 0 }

pub no_table : ¬ EntriesPart small 4 2 mapped_words (record mapped_view { pieces = far_page ∷ [] } ∷ [])
no_table part = cc ((part.homes 0 (record mapped_view { pieces = far_page ∷ [] }) refl).0)

abbrev large_page : Piece
large_page = record { block = record { first = 4; log2 = 2; out = 8; prot = Read }; part = 0 }

pub over_table : ¬ EntriesPart small 4 2 mapped_words (record mapped_view { pieces = large_page ∷ mapped_page ∷ [] } ∷ [])
over_table part = differ 1 0 refl (part.apart 1 (at 1 0) refl)

-- 7. A block that isn't aligned; one that isn't in the span; a needed table that is in no book; a low top; two
-- pieces in the wrong order.
abbrev turned : Piece
turned = record { block = record { first = 5; log2 = 1; out = 9; prot = Read }; part = 0 }

pub not_legal : ¬ BooksPart small (record mapped_view { pieces = turned ∷ [] } ∷ [])
not_legal part = differ 1 0 refl ((part 0 (record mapped_view { pieces = turned ∷ [] }) refl (omega arith)).pieces.0.legal.first_aligned)

pub outside : ¬ BooksPart small (record mapped_view { first = 8 } ∷ [])
outside part = cc ((part 0 (record mapped_view { first = 8 }) refl (omega arith)).pieces.0.in_span)

pub needed_lost : ¬ BooksPart small (record mapped_view { tables = [] } ∷ [])
needed_lost part = ⊎_elim (λ (h : 0 < 0). omega arith) (λ (h : (false ≡ true) × (0 ≤ 1)). cc (h.0)) ((part 0 (record mapped_view { tables = [] }) refl (omega arith)).pieces.0.has_needed.0)

pub top_low : ¬ BooksPart small (record new_view { top = 0 } ∷ [])
top_low part = let e = (part 0 (record new_view { top = 0 }) refl (omega arith)).top_low in omega arith

abbrev later_page : Piece
later_page = record { block = record { first = 6; log2 = 0; out = 10; prot = Read }; part = 0 }

abbrev turned_view : View
turned_view = record mapped_view { pieces = later_page ∷ mapped_page ∷ [] }

pub wrong_order : ¬ BooksPart small (turned_view ∷ [])
wrong_order part = let e : 6 ≤ 5 = (part 0 turned_view refl (omega arith)).pieces_in_order.0.0 in omega arith

-- 8. A path that names another frame; one that begins off the spine; one that goes on in the same table; one
-- with a table away from the span.
pub other_frame : ¬ PathsPart small 4 mapped_words (record mapped_view { path = record { frame = 2; position = at 1 0 } ∷ [] } ∷ [])
other_frame part = cc ((part 0 (record mapped_view { path = record { frame = 2; position = at 1 0 } ∷ [] }) refl).nodes.0.at.is_linked.placed)

pub off_spine : ¬ PathsPart small 4 mapped_words (record mapped_view { path = record { frame = 1; position = at 0 4 } ∷ [] } ∷ [])
off_spine part = cc ((part 0 (record mapped_view { path = record { frame = 1; position = at 0 4 } ∷ [] }) refl).begins)

abbrev stays : View
stays = record mapped_view { path = record { frame = 0; position = at 1 0 } ∷ record { frame = 0; position = at 1 0 } ∷ [] }

pub no_descent : ¬ PathsPart small 4 mapped_words (stays ∷ [])
no_descent part = differ 1 0 refl (ap (λ (p : Position). p.level) ((part 0 stays refl).descends.0.is))

-- the view of the pages from 8 on, whose path leads to the table at page 4, which it knows
abbrev far_view : View
far_view = record mapped_view { first = 8; count = 56; known = at 0 4 ∷ [] }

pub far_path : ¬ PathsPart small 4 mapped_words (far_view ∷ [])
far_path part = ⊎_elim (λ (h : false ≡ true). cc h) (λ (h : false ≡ true). cc h) ((part 0 far_view refl).nodes.1.0.near)

-- 9. A tag that names a frame that isn't in the purse; an end mark that is no frame.
pub chain_goes_on : ¬ PursesPart 4 (with_words 1 17 0 4294971395 36865 0 0) mapped_views
chain_goes_on part = differ 17 1 refl ((part.chained 0 mapped_view refl).0)

pub end_is_no_frame : ¬ PursesPart 4 (with_words 1 41 0 4294971395 36865 0 0) (record mapped_view { end = Some 9 } ∷ [])
end_is_no_frame part = let h : 9 < 4 = part.ends 0 (record mapped_view { end = Some 9 }) refl in omega arith

-- 10. A word too many; a view of a space of other levels; a view of no pages with a purse.
pub long : ¬ SizesPart small 4 2 (0 ∷ mapped_words) mapped_views
long part = differ 22 21 refl (part.words_are)

pub other_levels : ¬ SizesPart small 4 2 mapped_words (record mapped_view { levels = 3 } ∷ [])
other_levels part = differ 3 2 refl ((part.live 0 (record mapped_view { levels = 3 }) refl (omega arith)).1)

pub half_spent : ¬ SizesPart small 4 2 mapped_words (record spent { purse = 3 ∷ [] } ∷ [])
half_spent part = let e = ap (λ (v : View). v.purse) (part.dead 0 (record spent { purse = 3 ∷ [] }) refl refl) in cc

-- 11. A free frame on the busy list of the whole space.
pub not_busy : ¬ BusyPart small 4 mapped_words (record mapped_view { busy = 3 ∷ [] } ∷ [])
not_busy part = part 0 (record mapped_view { busy = 3 ∷ [] }) refl refl 3 (omega arith) (omega arith) refl

-- 12. A known position that isn't of the tree; one away from the span.
pub not_known : ¬ KnownPart small 2 mapped_words (record mapped_view { known = at 0 8 ∷ [] } ∷ [])
not_known part = cc ((part 0 (record mapped_view { known = at 0 8 ∷ [] }) refl (at 0 8) (omega arith)).0)

pub far_known : ¬ KnownPart small 2 mapped_words (far_view ∷ [])
far_known part = ⊎_elim (λ (h : false ≡ true). cc h) (λ (h : false ≡ true). cc h) ((part 0 far_view refl (at 0 4) (omega arith)).1)

-- Between the stores of an unlink: a word is left in the prepared frame; the table stays in the book; the pointer to it
-- stays; the path stays in it; it stays known. And a bridge that isn't of the spine of two levels.
abbrev unlinking : View
unlinking = prepares_table (at 0 4) None

abbrev cut_words : List ℕ
cut_words = with_words 1 1 0 0 0 0 0

pub word_left : ¬ FramesPart small 4 (with_words 1 1 0 0 36865 0 0) (unlinking ∷ [])
word_left part = differ 36865 0 refl (part.cleared 1 1 (omega arith) (λ a. differ 1 0 refl a.unprepared) (omega arith))

abbrev keeps_table : View
keeps_table = record unlinking { tables = at 0 4 ∷ [] }

pub table_left : ¬ PositionsPart small 4 2 cut_words (keeps_table ∷ [])
table_left part = let x = part.all (at 0 4) refl in
    four (λ g. total (prepares g) (keeps_table ∷ []) ≡ 0 → placed_at (tag cut_words g) ≡ at 0 4 → ⊥)
    (λ n e. differ 0 4 refl (ap (λ (p : Position). p.base) e)) (λ n e. differ 1 0 refl n)
    (λ n e. differ 0 4 refl (ap (λ (p : Position). p.base) e)) (λ n e. differ 0 4 refl (ap (λ (p : Position). p.base) e)) x.0 x.1.is_linked.within x.1.is_linked.unprepared x.1.at

pub pointer_left : ¬ EntriesPart small 4 2 (with_words 1 1 0 4294971395 0 0 0) (unlinking ∷ [])
pointer_left part = differ 4294971395 0 refl (part.words_are 0 1 (at 1 0) (linked _ (unlinking ∷ []) 0 (at 1 0) (omega arith) refl refl refl) (omega arith) refl)

pub path_left : ¬ PathsPart small 4 cut_words (record unlinking { path = mapped_view.path } ∷ [])
path_left part = differ 1 0 refl ((part 0 (record unlinking { path = mapped_view.path }) refl).nodes.1.0.at.is_linked.unprepared)

pub known_left : ¬ KnownPart small 2 cut_words (unlinking ∷ [])
known_left part = cc ((part 0 unlinking refl (at 0 4) (omega arith)).0)

abbrev low_bridge : View
low_bridge = prepares_table (at 1 0) (Some 2)

pub bridge_below : ¬ FramesPart small 4 cut_words (low_bridge ∷ [])
bridge_below part =
    let b = part.bridges 0 low_bridge refl in
    let level : 1 ≡ b.0 + 1 = ap (λ (p : Position). p.level) b.1 in
    let high : 1 ≤ b.0 = b.3 in omega arith
