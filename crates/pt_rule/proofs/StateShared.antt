-- A state of two holders is lawful. The left one has the first eight pages, a block of two words, its table on
-- its path, and a frame; the right one has the rest, and prepares a frame. A third view is spent.
use Rattle.std.proofs.Common.{◌≡◌, ◌⊎◌, inl, inr, ℕ, zero, suc, Bool, true, false, ◌+◌, ◌<◌, ◌≤◌, List, [], ◌∷◌, sym, refl, ap, ◌∙◌, subst, ⊎_elim, arith, Some, None}
use Rattle.std.specs.Prelude.{IsTrue, ◌==◌, ◌&&◌}
use Rattle.std.proofs.lemmas.Bool.{eq-eqb, cases_Bool}
use Rattle.std.proofs.lemmas.Bool.Decides.{nat_tests}
use mathlib.Core.Option.{some-injective, some-ne-none}
use Rattle.pt_model.specs.declared.position.Position.{Position}
use Rattle.pt_model.specs.declared.block.Block.{Block}
use Rattle.pt_model.specs.declared.block.Prot.TheVariants.{Read}
use Rattle.pt_model.specs.Tables.{end_of_table, is_same, is_spine}
use Rattle.pt_model.specs.Words.{tag, entry_of}
use Rattle.pt_view.specs.declared.view.View.{View}
use Rattle.pt_model.specs.Sets.{one_if}
use Rattle.pt_view.specs.Calls.{meets_span}
use Rattle.pt_rule.specs.Totals.{total, Each, holds, prepares, has_table, has_piece, has_word, has_bridge}
use Rattle.pt_rule.specs.Tags.{IsTag, is_held, is_placed}
use Rattle.pt_rule.specs.Linked.{IsLinked, IsLinkedAt, is_in_tree}
use Rattle.pt_rule.specs.Lawful.{Lawful, IsOwnPiece, has_child}
use Rattle.pt_model.proofs.Positions.{is_same_true, true_bit}
use Rattle.pt_view.specs.Views.{spent}
use Rattle.pt_rule.proofs.StateMapped.{small, at, zeros, four, new_view, root_place, sizes_are, table_place, two_entries, two_known, two_parents, two_positions, unlinked_high}

abbrev pub two_pages : Block
two_pages = record { first = 4; log2 = 1; out = 8; prot = Read }

abbrev pub left : View
left = record new_view {
  count = 8;
  pieces = record { block = two_pages; part = 0 } ∷ record { block = two_pages; part = 1 } ∷ [];
  tables = at 0 4 ∷ [];
  purse = 2 ∷ [];
  path = record { frame = 0; position = at 1 0 } ∷ record { frame = 1; position = at 0 4 } ∷ [];
  busy = 3 ∷ [];
  known = at 0 4 ∷ at 1 0 ∷ [];
  taken = 3 ∷ [];
}

abbrev pub right : View
right = record new_view {
  first = 8;
  count = 56;
  purse = [];
  path = record { frame = 0; position = at 1 0 } ∷ [];
  prepared = Some (record { frame = 3; position = at 0 8; bridge = None });
}

abbrev pub views : List View
views = left ∷ right ∷ spent ∷ []

abbrev pub words : List ℕ
words = 1 ∷ 6 ∷ 130 ∷ 1 ∷ 258 ∷ (0 ∷ 4294971395 ∷ 0 ∷ 0 ∷ (32769 ∷ 36865 ∷ 0 ∷ 0 ∷ zeros 8))

each_view : (P : View → Type 0) → P left → P right → P spent → Each views P
each_view P a b c zero u e = subst P (some-injective left u e) a
each_view P a b c (suc zero) u e = subst P (some-injective right u e) b
each_view P a b c (suc (suc zero)) u e = subst P (some-injective spent u e) c
each_view P a b c (suc (suc (suc j))) u e = absurd (some-ne-none u (sym e))

differ : (a b : ℕ) → (a == b) ≡ false → a ≡ b → ⊥
differ a b n e = let d : true ≡ false = sym (eq-eqb a b e) ∙ n in cc

-- The linked frames and the tree.

root_frame_here : IsLinkedAt 4 words views 0 (at 1 0)
root_frame_here = record { is_linked = record { within = omega arith; placed = refl; unprepared = refl }; at = refl }

table_here : IsLinkedAt 4 words views 1 (at 0 4)
table_here = record { is_linked = record { within = omega arith; placed = refl; unprepared = refl }; at = refl }

linked : (g : ℕ) → IsLinked 4 words views g → (g ≡ 0) ⊎ (g ≡ 1)
linked g a = four (λ g. is_placed (tag words g) ≡ true → total (prepares g) views ≡ 0 → (g ≡ 0) ⊎ (g ≡ 1))
    (λ e u. inl refl) (λ e u. inr refl) (λ e u. cc) (λ e u. absurd (differ 1 0 refl u)) g a.within a.placed a.unprepared

tables : (p : Position) → 0 < total (has_table p) views → p ≡ at 0 4
tables p h = is_same_true p (at 0 4) (true_bit (is_same p (at 0 4)) (omega arith))

cleared : (g : ℕ) → g < 4 → 2 ≤ g → (i : ℕ) → i < 4 → entry_of small 4 words g i ≡ total (has_bridge small g i) views
cleared = four (λ g. 2 ≤ g → (i : ℕ) → i < 4 → entry_of small 4 words g i ≡ total (has_bridge small g i) views)
    (λ h. absurd (omega arith)) (λ h. absurd (omega arith))
    (λ h. four (λ i. entry_of small 4 words 2 i ≡ total (has_bridge small 2 i) views) refl refl refl refl)
    (λ h. four (λ i. entry_of small 4 words 3 i ≡ total (has_bridge small 3 i) views) refl refl refl refl)

apart : (i : ℕ) (p : Position) → has_child small 2 words views p i ≡ true → total (has_piece small p i) views ≡ 0
apart i p e = ⊎_elim
    (λ (h : is_same p (at 0 4) ≡ true). absurd (let d : true ≡ false = sym e ∙ ap (λ (q : Position). has_child small 2 words views q i) (is_same_true p (at 0 4) h) in cc))
    (λ (h : is_same p (at 0 4) ≡ false). ap (λ (b : Bool). one_if (b && (0 == i)) + (one_if (b && (1 == i)) + 0) + 0) h) (cases_Bool (is_same p (at 0 4)))

-- the two words of the block stand at two entries
once : (i : ℕ) (b : Bool) → one_if (b && (0 == i)) + (one_if (b && (1 == i)) + 0) + 0 ≤ 1
once i true = grind (arith, nat_tests)
once i false = omega arith

abbrev NearTree : Position → Type 0
NearTree p = IsTrue (is_in_tree 2 words views p) × (IsTrue (is_spine 2 p) ⊎ IsTrue (meets_span left p.base (end_of_table small p)))

pub shared_lawful : Lawful small 4 2 words views
shared_lawful = record {
  spans = λ page. grind (arith, nat_tests);
  frames = record {
    tags = four (λ g. IsTag small (tag words g)) (IsTag.placed (at 1 0) root_place refl) (IsTag.placed (at 0 4) table_place refl) (IsTag.held None refl)
        (IsTag.placed (at 0 8) (record { a_level = omega arith; a_page = omega arith; aligned = refl }) refl);
    held = four (λ g. total (holds g) views ≡ one_if (is_held (tag words g))) refl refl refl refl;
    prepared = four (λ g. total (prepares g) views ≤ one_if (is_placed (tag words g))) (omega arith) (omega arith) (omega arith) (omega arith);
    none_held = λ g h. grind (arith, nat_tests);
    none_prepared = λ g h. grind (arith, nat_tests);
    at = each_view _ tt refl tt;
    bridges = each_view _ tt tt tt;
    cleared = λ g i h unlinked k. cleared g h
        (unlinked_high words views linked root_frame_here table_here refl tables refl refl refl g h unlinked) i k;
  };
  positions = two_positions words views linked root_frame_here table_here refl tables refl refl refl;
  root = record { is_linked = root_frame_here; greatest = each_view _ (omega arith) (omega arith) (omega arith); reached = (0, left, refl, omega arith, refl) };
  parents = two_parents words views linked root_frame_here table_here refl tables refl refl refl;
  entries = record {
    words_are = two_entries words views linked root_frame_here table_here refl tables refl refl refl refl refl refl (four (λ i. entry_of small 4 words 1 i ≡ total (has_word small (at 0 4) i) views) refl refl refl refl);
    apart = apart;
    once = λ i p. once i (is_same p (at 0 4));
    homes = each_view _ (refl, (refl, tt)) tt tt;
  };
  books = each_view _ (λ live. record {
    pieces = (own 0 (omega arith), (own 1 (omega arith), tt));
    tables = (record { a_position = table_place; off_spine = refl; meets = refl }, tt);
    in_order = ((λ p m. absurd (omega arith)), tt);
    pieces_in_order = ((omega arith, tt), (tt, tt));
    top_low = omega arith;
    top_high = omega arith;
  }) (λ live. record { pieces = tt; tables = tt; in_order = tt; pieces_in_order = tt; top_low = omega arith; top_high = omega arith }) (λ live. absurd (omega arith));
  paths = each_view _ (record {
    nodes = (record { at = root_frame_here; near = inl refl }, (record { at = table_here; near = inr refl }, tt));
    begins = refl;
    descends = (record { number = 1; within = omega arith; high = omega arith; is = refl }, tt);
  }) (record { nodes = (record { at = root_frame_here; near = inl refl }, tt); begins = refl; descends = tt }) (record { nodes = tt; begins = tt; descends = tt });
  purses = record { chained = each_view _ (refl, tt) tt tt; ends = each_view _ tt tt tt };
  sizes = sizes_are words views refl (each_view _ (λ live. (refl, refl)) (λ live. (refl, refl)) (λ live. absurd (omega arith))) (each_view _ (λ none. cc) (λ none. cc) (λ none. refl));
  busy = each_view _ (λ whole. absurd (differ 8 64 refl whole)) (λ whole. absurd (differ 56 64 refl whole)) (λ whole. absurd (differ 0 64 refl whole));
  known = each_view _ (two_known NearTree (refl, inr refl) (refl, inl refl)) (λ p k. absurd (omega arith)) (λ p k. absurd (omega arith));
}
  where
    own : (part : ℕ) → part < 2 → IsOwnPiece small left (record { block = two_pages; part = part })
    own part h = record {
      a_part = h;
      legal = record { a_size = refl; first_aligned = refl; out_aligned = refl; in_input = omega arith; in_output = omega arith };
      stated = refl;
      in_span = refl;
      under_top = omega arith;
      has_needed = (inl (omega arith), (inr (refl, omega arith), (inr (refl, omega arith), tt)));
    }
