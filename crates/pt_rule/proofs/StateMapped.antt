-- The rule at small states of a format of four entries a table: a new space, and one with a mapped page, are lawful.
use Rattle.std.proofs.Common.{◌≡◌, ◌≢◌, ◌⊎◌, inl, inr, ℕ, zero, suc, Bool, true, false, ◌+◌, ◌-◌, ◌*◌, ◌/◌, ◌%◌, ◌^◌, ◌<◌, ◌≤◌, List, [], ◌∷◌, length, sym, refl, ap, ◌∙◌, subst, ⊎_elim, arith, Some, None}
use Rattle.std.specs.Prelude.{IsTrue, ◌==◌, ◌&&◌, nat_lt, nat_le, if◌then◌else◌}
use Rattle.std.proofs.lemmas.Bool.{and_parts, eqb-true, ltb-true, leb-true, or_cases, cases_Bool}
use Rattle.std.proofs.lemmas.Bool.Decides.{nat_tests}
use mathlib.Core.Option.{some-injective, some-ne-none}
use Rattle.pt_model.specs.declared.position.Position.{Position}
use Rattle.pt_model.specs.declared.block.Prot.TheVariants.{Read}
use Rattle.pt_model.specs.Layout.{Layout, nothing, page, table, nowhere}
use Rattle.pt_model.specs.Tables.{IsPosition, end_of_table, is_same, is_spine, parent_of, spine_position, starting_top}
use Rattle.pt_model.specs.Words.{tag, placed_at, entry_of, frame_address, root_level}
use Rattle.pt_view.specs.declared.view.View.{View}
use Rattle.pt_view.specs.declared.view.Piece.{Piece}
use Rattle.pt_model.specs.Sets.{one_if, IsAmong}
use Rattle.pt_view.specs.Lists.{IsIn}
use Rattle.pt_view.specs.Views.{spent}
use Rattle.pt_view.specs.Calls.{meets_span}
use Rattle.pt_rule.specs.Totals.{total, Each, holds, prepares, has_table, has_piece, has_word}
use Rattle.pt_rule.specs.Tags.{IsTag, held_word, is_held, is_placed}
use Rattle.pt_rule.specs.Linked.{IsLinked, IsLinkedAt, is_in_tree}
use Rattle.pt_rule.specs.Lawful.{Lawful, ParentsPart, PositionsPart, SizesPart, slot_of, has_child}
use Rattle.pt_rule.specs.Opening.{opening_view, IsNew}
use Rattle.pt_model.proofs.Positions.{among_cases, bit_le, is_same_true, same_position, true_bit}

-- Pages of 4 KiB and four entries a table, so 64 pages under three levels. A space starts with two levels.
abbrev pub small : Layout
small = record {
  granule = 12;
  index = 2;
  input = 18;
  output = 18;
  start = 2;
  levels = 3;
  grows = true;
  signed = false;
  sizes = 0 ∷ 1 ∷ 2 ∷ [];
  states = λ p. true;
  pointer = λ level address. address + 3;
  leaf = λ level log2 out p part. (out + part) * 2 ^ 12 + 1;
  step = λ level word here. if word == 0 then nothing else (if word % 4 == 3 then table (word - 3) else page (word / 2 ^ 12) Read);
  walk = λ words address. nowhere;
}

abbrev pub at : (level base : ℕ) → Position
at level base = record { level = level; base = base }

abbrev pub zeros : ℕ → List ℕ
zeros zero = []
zeros (suc n) = 0 ∷ zeros n

-- what holds of each number below four
pub four : (P : ℕ → Type 0) → P 0 → P 1 → P 2 → P 3 → (g : ℕ) → g < 4 → P g
four P a b c d zero h = a
four P a b c d (suc zero) h = b
four P a b c d (suc (suc zero)) h = c
four P a b c d (suc (suc (suc zero))) h = d
four P a b c d (suc (suc (suc (suc g)))) h = absurd (omega arith)

-- a position of the tree is of the spine up to the root's level, or a table of a view
pub tree_cases : (l : ℕ) (words : List ℕ) (views : List View) (p : Position) → IsTrue (is_in_tree l words views p) →
    ((starting_top l ≤ p.level) × (p.base ≡ 0) × (p.level ≤ root_level words)) ⊎ (0 < total (has_table p) views)
tree_cases l words views p e = ⊎_elim
    (λ (h : (is_spine l p && nat_le p.level (root_level words)) ≡ true).
    let both = and_parts (is_spine l p) (nat_le p.level (root_level words)) h in
    let spine = and_parts (nat_le (starting_top l) p.level) (p.base == 0) both.0 in
    inl (leb-true (starting_top l) p.level spine.0, eqb-true p.base 0 spine.1, leb-true p.level (root_level words) both.1))
    (λ h. inr (ltb-true 0 (total (has_table p) views) h))
    (or_cases (is_spine l p && nat_le p.level (root_level words)) (nat_lt 0 (total (has_table p) views)) e)

pub only : (P : View → Type 0) (v : View) → P v → Each (v ∷ []) P
only P v h zero u e = subst P (some-injective v u e) h
only P v h (suc j) u e = absurd (some-ne-none u (sym e))

-- The sizes of a space of four frames and two levels.
pub sizes_are : (words : List ℕ) (views : List View) → length words ≡ 21 → Each views (λ v. 0 < v.count → (v.frames ≡ 4) × (v.levels ≡ 2)) →
    Each views (λ v. v.count ≡ 0 → v ≡ spent) → SizesPart small 4 2 words views
sizes_are words views long live dead = record {
  some_frame = omega arith;
  limit = omega arith;
  words_are = long;
  levels_low = omega arith;
  levels_high = omega arith;
  live = live;
  dead = dead;
}

pub root_place : IsPosition small (at 1 0)
root_place = record { a_level = omega arith; a_page = omega arith; aligned = refl }

pub table_place : IsPosition small (at 0 4)
table_place = record { a_level = omega arith; a_page = omega arith; aligned = refl }

-- what holds of both positions of two tables holds of each known one
pub two_known : (P : Position → Type 0) → P (at 0 4) → P (at 1 0) → (p : Position) → IsAmong (at 0 4 ∷ at 1 0 ∷ []) p → P p
two_known P low high p k = ⊎_elim (λ (e : p ≡ at 0 4). subst P (sym e) low)
    (λ (rest : IsAmong (at 1 0 ∷ []) p). ⊎_elim (λ (e : p ≡ at 1 0). subst P (sym e) high) (λ (none : 0 < 0). absurd (omega arith)) (among_cases p (at 1 0) [] rest))
    (among_cases p (at 0 4) (at 1 0 ∷ []) k)

-- A tree of two tables: frame 0 is the root's table, which names frame 1, the table at page 4, at its entry 1.
module _ (words : List ℕ) (views : List View) (linked : (g : ℕ) → IsLinked 4 words views g → (g ≡ 0) ⊎ (g ≡ 1)) (root : IsLinkedAt 4 words views 0 (at 1 0))
    (table : IsLinkedAt 4 words views 1 (at 0 4)) (high : root_level words ≡ 1) (tables : (p : Position) → 0 < total (has_table p) views → p ≡ at 0 4)
    (in_root : IsTrue (is_in_tree 2 words views (at 1 0))) (in_table : IsTrue (is_in_tree 2 words views (at 0 4)))
    (pointer : entry_of small 4 words 0 1 ≡ small.pointer 1 (frame_address small 1)) where
  not_one : tag words 0 ≡ tag words 1 → ⊥
  not_one e = let same : at 1 0 ≡ at 0 4 = sym root.at ∙ ap placed_at e ∙ table.at in let z : 1 ≡ 0 = ap (λ (p : Position). p.level) same in absurd (omega (arith, z))

  linked_at : (g : ℕ) (p : Position) → IsLinkedAt 4 words views g p → ((g ≡ 0) × (p ≡ at 1 0)) ⊎ ((g ≡ 1) × (p ≡ at 0 4))
  linked_at g p a = ⊎_elim
      (λ (e : g ≡ 0). inl (e, sym a.at ∙ ap (λ (z : ℕ). placed_at (tag words z)) e ∙ root.at))
      (λ (e : g ≡ 1). inr (e, sym a.at ∙ ap (λ (z : ℕ). placed_at (tag words z)) e ∙ table.at)) (linked g a.is_linked)

  in_tree : (p : Position) → IsTrue (is_in_tree 2 words views p) → (p ≡ at 1 0) ⊎ (p ≡ at 0 4)
  in_tree p e = ⊎_elim (λ (h : (1 ≤ p.level) × (p.base ≡ 0) × (p.level ≤ root_level words)). inl (same_position p (at 1 0) (omega arith) h.1))
      (λ (h : 0 < total (has_table p) views). inr (tables p h)) (tree_cases 2 words views p e)

  pub unlinked_high : (g : ℕ) → g < 4 → ¬ IsLinked 4 words views g → 2 ≤ g
  unlinked_high = four (λ g. ¬ IsLinked 4 words views g → 2 ≤ g) (λ n. absurd (n root.is_linked)) (λ n. absurd (n table.is_linked)) (λ n. omega arith) (λ n. omega arith)

  pub two_positions : PositionsPart small 4 2 words views
  two_positions = record {
    distinct = λ g h a b e. ⊎_elim
        (λ (x : g ≡ 0). ⊎_elim (λ (y : h ≡ 0). x ∙ sym y) (λ (y : h ≡ 1). absurd (not_one (sym (ap (tag words) x) ∙ e ∙ ap (tag words) y))) (linked h b))
        (λ (x : g ≡ 1). ⊎_elim (λ (y : h ≡ 0). absurd (not_one (sym (ap (tag words) y) ∙ sym e ∙ ap (tag words) x))) (λ (y : h ≡ 1). x ∙ sym y) (linked h b))
        (linked g a);
    in_tree = λ g a. ⊎_elim
        (λ (e : g ≡ 0). subst (λ (p : Position). IsTrue (is_in_tree 2 words views p)) (sym (ap (λ (z : ℕ). placed_at (tag words z)) e ∙ root.at)) in_root)
        (λ (e : g ≡ 1). subst (λ (p : Position). IsTrue (is_in_tree 2 words views p)) (sym (ap (λ (z : ℕ). placed_at (tag words z)) e ∙ table.at)) in_table) (linked g a);
    all = λ p e. ⊎_elim (λ (h : p ≡ at 1 0). (0, subst (IsLinkedAt 4 words views 0) (sym h) root))
        (λ (h : p ≡ at 0 4). (1, subst (IsLinkedAt 4 words views 1) (sym h) table)) (in_tree p e);
  }

  pub two_parents : ParentsPart small 4 2 words views
  two_parents = record {
    closed = λ p e other. ⊎_elim (λ (h : p ≡ at 1 0). absurd (other (h ∙ ap spine_position (sym high))))
        (λ (h : p ≡ at 0 4). subst (λ (q : Position). IsTrue (is_in_tree 2 words views (parent_of small q))) (sym h) in_root) (in_tree p e);
    named = λ g h p a other b. ⊎_elim (λ (e : (h ≡ 0) × (p ≡ at 1 0)). absurd (other (e.1 ∙ ap spine_position (sym high))))
        (λ (e : (h ≡ 1) × (p ≡ at 0 4)). ⊎_elim
        (λ (d : (g ≡ 0) × (parent_of small p ≡ at 1 0)).
        subst (λ (x : ℕ × ℕ × Position). entry_of small 4 words x.0 (slot_of small x.2) ≡ small.pointer (x.2.level + 1) (frame_address small x.1))
        (λ k. (sym d.0 k, sym e.0 k, sym e.1 k)) pointer)
        (λ (d : (g ≡ 1) × (parent_of small p ≡ at 0 4)). absurd (let z : 1 ≡ 0 = ap (λ (q : Position). (parent_of small q).level) (sym e.1) ∙ ap (λ (q : Position). q.level) d.1 in omega arith))
        (linked_at g (parent_of small p) b))
        (linked_at h p a);
  }

  -- the root's table has a child at its entry 1 alone, and the table at page 4 has none
  abbrev Right : ℕ → ℕ × Position → Type 0
  Right i x = entry_of small 4 words x.0 i ≡ total (has_word small x.1 i) views

  pub two_entries : Right 0 (0, at 1 0) → Right 2 (0, at 1 0) → Right 3 (0, at 1 0) → ((i : ℕ) → i < 4 → Right i (1, at 0 4)) → (g i : ℕ) (p : Position) →
      IsLinkedAt 4 words views g p → i < 4 → has_child small 2 words views p i ≡ false → entry_of small 4 words g i ≡ total (has_word small p i) views
  two_entries first third fourth low g i p a h none = ⊎_elim
      (λ (e : (g ≡ 0) × (p ≡ at 1 0)). four (λ i. has_child small 2 words views p i ≡ false → Right i (g, p))
      (λ _. subst (Right 0) (λ k. (sym e.0 k, sym e.1 k)) first)
      (λ c. absurd (let d : true ≡ false = sym in_table ∙ sym (ap (λ (q : Position). has_child small 2 words views q 1) e.1) ∙ c in cc))
      (λ _. subst (Right 2) (λ k. (sym e.0 k, sym e.1 k)) third) (λ _. subst (Right 3) (λ k. (sym e.0 k, sym e.1 k)) fourth) i h none)
      (λ (e : (g ≡ 1) × (p ≡ at 0 4)). subst (Right i) (λ k. (sym e.0 k, sym e.1 k)) (low i h))
      (linked_at g p a)

-- A new space of four frames: frame 0 is the root's table, and the purse has the other three.

abbrev pub new_words : List ℕ
new_words = 1 ∷ 6 ∷ 13 ∷ 17 ∷ 1 ∷ zeros 16

abbrev pub new_view : View
new_view = opening_view small 4 2 3

abbrev pub new_views : List View
new_views = new_view ∷ []

new_zero : (g : ℕ) → g < 4 → (i : ℕ) → i < 4 → entry_of small 4 new_words g i ≡ 0
new_zero = four (λ g. (i : ℕ) → i < 4 → entry_of small 4 new_words g i ≡ 0)
    (four (λ i. entry_of small 4 new_words 0 i ≡ 0) refl refl refl refl)
    (four (λ i. entry_of small 4 new_words 1 i ≡ 0) refl refl refl refl)
    (four (λ i. entry_of small 4 new_words 2 i ≡ 0) refl refl refl refl)
    (four (λ i. entry_of small 4 new_words 3 i ≡ 0) refl refl refl refl)

pub new_is_new : IsNew small 4 2 3 new_words
new_is_new = record {
  long = refl;
  root = refl;
  top = refl;
  held = λ g low high. four (λ g. 1 ≤ g → g < 3 → tag new_words g ≡ held_word (Some (g + 1)))
      (λ l h. absurd (omega arith)) (λ l h. refl) (λ l h. refl) (λ l h. absurd (omega arith)) g (omega arith) low high;
  last = λ h. refl;
  free = λ g low high. absurd (omega arith);
  cleared = λ g i h k. new_zero g h i k;
}

new_linked : (g : ℕ) → IsLinked 4 new_words new_views g → g ≡ 0
new_linked g a = four (λ g. is_placed (tag new_words g) ≡ true → g ≡ 0) (λ e. refl) (λ e. cc) (λ e. cc) (λ e. cc) g a.within a.placed

new_root : IsLinkedAt 4 new_words new_views 0 (spine_position 1)
new_root = record { is_linked = record { within = omega arith; placed = refl; unprepared = refl }; at = refl }

new_tree : (p : Position) → IsTrue (is_in_tree 2 new_words new_views p) → p ≡ spine_position 1
new_tree p e = ⊎_elim (λ (h : (1 ≤ p.level) × (p.base ≡ 0) × (p.level ≤ 1)). same_position p (spine_position 1) (omega arith) h.1)
    (λ (h : 0 < 0). absurd (omega arith)) (tree_cases 2 new_words new_views p e)

pub new_lawful : Lawful small 4 2 new_words new_views
new_lawful = record {
  spans = λ page. grind (arith, nat_tests);
  frames = record {
    tags = four (λ g. IsTag small (tag new_words g)) (IsTag.placed (at 1 0) root_place refl) (IsTag.held (Some 2) refl) (IsTag.held (Some 3) refl) (IsTag.held None refl);
    held = four (λ g. total (holds g) new_views ≡ one_if (is_held (tag new_words g))) refl refl refl refl;
    prepared = four (λ g. total (prepares g) new_views ≤ one_if (is_placed (tag new_words g))) (omega arith) (omega arith) (omega arith) (omega arith);
    none_held = λ g h. grind (arith, nat_tests);
    none_prepared = λ g h. refl;
    at = only _ new_view tt;
    bridges = only _ new_view tt;
    cleared = λ g i h unlinked k. new_zero g h i k;
  };
  positions = record {
    distinct = λ g h a b e. new_linked g a ∙ sym (new_linked h b);
    in_tree = λ g a. subst (λ (z : ℕ). IsTrue (is_in_tree 2 new_words new_views (placed_at (tag new_words z)))) (sym (new_linked g a)) refl;
    all = λ p e. (0, subst (IsLinkedAt 4 new_words new_views 0) (sym (new_tree p e)) new_root);
  };
  root = record { is_linked = new_root; greatest = only _ new_view (omega arith); reached = (0, new_view, refl, omega arith, refl) };
  parents = record {
    closed = λ p e other. absurd (other (new_tree p e));
    named = λ g h p a other b. absurd (other (sym a.at ∙ ap (λ (z : ℕ). placed_at (tag new_words z)) (new_linked h a.is_linked)));
  };
  entries = record {
    words_are = λ g i p a k none. new_zero g a.is_linked.within i k;
    apart = λ i p e. refl;
    once = λ i p. omega arith;
    homes = only _ new_view tt;
  };
  books = only _ new_view (λ live. record { pieces = tt; tables = tt; in_order = tt; pieces_in_order = tt; top_low = omega arith; top_high = omega arith });
  paths = only _ new_view (record { nodes = tt; begins = tt; descends = tt });
  purses = record { chained = only _ new_view (refl, (refl, (refl, tt))); ends = only _ new_view tt };
  sizes = sizes_are new_words new_views refl (only _ new_view (λ live. (refl, refl))) (only _ new_view (λ none. cc));
  busy = only _ new_view (λ whole g h busy. absurd (omega arith));
  known = only _ new_view (λ p k. absurd (omega arith));
}

-- Page 5 is mapped to page 9: frame 1 is the table at page 4, frame 2 is in the purse, frame 3 is free.

abbrev pub mapped_page : Piece
mapped_page = record { block = record { first = 5; log2 = 0; out = 9; prot = Read }; part = 0 }

abbrev pub mapped_words : List ℕ
mapped_words = 1 ∷ 6 ∷ 130 ∷ 1 ∷ 0 ∷ (0 ∷ 4294971395 ∷ 0 ∷ 0 ∷ (0 ∷ 36865 ∷ 0 ∷ 0 ∷ zeros 8))

abbrev pub mapped_view : View
mapped_view = record new_view {
  pieces = mapped_page ∷ [];
  tables = at 0 4 ∷ [];
  purse = 2 ∷ [];
  path = record { frame = 0; position = at 1 0 } ∷ record { frame = 1; position = at 0 4 } ∷ [];
  busy = 2 ∷ 1 ∷ [];
  known = at 0 4 ∷ at 1 0 ∷ [];
}

abbrev pub mapped_views : List View
mapped_views = mapped_view ∷ []

pub pointer_is : small.pointer 1 (frame_address small 1) ≡ 4294971395
pointer_is = refl

mapped_zero : (g : ℕ) → g < 4 → 2 ≤ g → (i : ℕ) → i < 4 → entry_of small 4 mapped_words g i ≡ 0
mapped_zero = four (λ g. 2 ≤ g → (i : ℕ) → i < 4 → entry_of small 4 mapped_words g i ≡ 0)
    (λ h. absurd (omega arith)) (λ h. absurd (omega arith))
    (λ h. four (λ i. entry_of small 4 mapped_words 2 i ≡ 0) refl refl refl refl)
    (λ h. four (λ i. entry_of small 4 mapped_words 3 i ≡ 0) refl refl refl refl)

mapped_linked : (g : ℕ) → IsLinked 4 mapped_words mapped_views g → (g ≡ 0) ⊎ (g ≡ 1)
mapped_linked g a = four (λ g. is_placed (tag mapped_words g) ≡ true → (g ≡ 0) ⊎ (g ≡ 1)) (λ e. inl refl) (λ e. inr refl) (λ e. cc) (λ e. cc) g a.within a.placed

mapped_root : IsLinkedAt 4 mapped_words mapped_views 0 (at 1 0)
mapped_root = record { is_linked = record { within = omega arith; placed = refl; unprepared = refl }; at = refl }

mapped_table : IsLinkedAt 4 mapped_words mapped_views 1 (at 0 4)
mapped_table = record { is_linked = record { within = omega arith; placed = refl; unprepared = refl }; at = refl }

mapped_tables : (p : Position) → 0 < total (has_table p) mapped_views → p ≡ at 0 4
mapped_tables p h = is_same_true p (at 0 4) (true_bit (is_same p (at 0 4)) (omega arith))

-- a piece stands in a table of level 0, which has no child
mapped_apart : (i : ℕ) (p : Position) → has_child small 2 mapped_words mapped_views p i ≡ true → total (has_piece small p i) mapped_views ≡ 0
mapped_apart i p e = ⊎_elim
    (λ (h : is_same p (at 0 4) ≡ true). absurd (let d : true ≡ false = sym e ∙ ap (λ (q : Position). has_child small 2 mapped_words mapped_views q i) (is_same_true p (at 0 4) h) in cc))
    (λ (h : is_same p (at 0 4) ≡ false). ap (λ (b : Bool). one_if (b && (1 == i)) + 0 + 0) h) (cases_Bool (is_same p (at 0 4)))

abbrev NearTree : Position → Type 0
NearTree p = IsTrue (is_in_tree 2 mapped_words mapped_views p) × (IsTrue (is_spine 2 p) ⊎ IsTrue (meets_span mapped_view p.base (end_of_table small p)))

pub mapped_lawful : Lawful small 4 2 mapped_words mapped_views
mapped_lawful = record {
  spans = λ page. grind (arith, nat_tests);
  frames = record {
    tags = four (λ g. IsTag small (tag mapped_words g)) (IsTag.placed (at 1 0) root_place refl) (IsTag.placed (at 0 4) table_place refl) (IsTag.held None refl) (IsTag.free refl);
    held = four (λ g. total (holds g) mapped_views ≡ one_if (is_held (tag mapped_words g))) refl refl refl refl;
    prepared = four (λ g. total (prepares g) mapped_views ≤ one_if (is_placed (tag mapped_words g))) (omega arith) (omega arith) (omega arith) (omega arith);
    none_held = λ g h. grind (arith, nat_tests);
    none_prepared = λ g h. refl;
    at = only _ mapped_view tt;
    bridges = only _ mapped_view tt;
    cleared = λ g i h unlinked k. mapped_zero g h
        (unlinked_high mapped_words mapped_views mapped_linked mapped_root mapped_table refl mapped_tables refl refl refl g h unlinked) i k;
  };
  positions = two_positions mapped_words mapped_views mapped_linked mapped_root mapped_table refl mapped_tables refl refl refl;
  root = record { is_linked = mapped_root; greatest = only _ mapped_view (omega arith); reached = (0, mapped_view, refl, omega arith, refl) };
  parents = two_parents mapped_words mapped_views mapped_linked mapped_root mapped_table refl mapped_tables refl refl refl;
  entries = record {
    words_are = two_entries mapped_words mapped_views mapped_linked mapped_root mapped_table refl mapped_tables refl refl refl refl refl refl (four (λ i. entry_of small 4 mapped_words 1 i ≡ total (has_word small (at 0 4) i) mapped_views) refl refl refl refl);
    apart = mapped_apart;
    once = λ i p. let b = bit_le (is_same p (at 0 4) && (1 == i)) in omega arith;
    homes = only _ mapped_view (refl, tt);
  };
  books = only _ mapped_view (λ live. record {
    pieces = (
      record {
        a_part = omega arith;
        legal = record { a_size = refl; first_aligned = refl; out_aligned = refl; in_input = omega arith; in_output = omega arith };
        stated = refl;
        in_span = refl;
        under_top = omega arith;
        has_needed = (inl (omega arith), (inr (refl, omega arith), (inr (refl, omega arith), tt)));
      },
      tt,
    );
    tables = (record { a_position = table_place; off_spine = refl; meets = refl }, tt);
    in_order = ((λ p m. absurd (omega arith)), tt);
    pieces_in_order = (tt, tt);
    top_low = omega arith;
    top_high = omega arith;
  });
  paths = only _ mapped_view (record {
    nodes = (record { at = mapped_root; near = inl refl }, (record { at = mapped_table; near = inr refl }, tt));
    begins = refl;
    descends = (record { number = 1; within = omega arith; high = omega arith; is = refl }, tt);
  });
  purses = record { chained = only _ mapped_view (refl, tt); ends = only _ mapped_view tt };
  sizes = sizes_are mapped_words mapped_views refl (only _ mapped_view (λ live. (refl, refl))) (only _ mapped_view (λ none. cc));
  busy = only _ mapped_view (λ whole. four (λ g. IsIn mapped_view.busy g → tag mapped_words g ≢ 0) (λ b e. omega arith) (λ b e. omega arith) (λ b e. omega arith) (λ b e. omega arith));
  known = only _ mapped_view (two_known NearTree (refl, inr refl) (refl, inl refl));
}
