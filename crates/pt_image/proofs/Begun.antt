-- The words of a space whose one table is the root's, in any frame, meet the rule with an empty view.
use Rattle.std.proofs.Common.{◌≡◌, ◌≢◌, ◌⊎◌, ℕ, zero, suc, true, false, ◌+◌, ◌-◌, ◌<◌, ◌≤◌, List, [], ◌∷◌, sym, refl, ap, ◌∙◌, subst, ⊎_elim, arith}
use Rattle.std.specs.Prelude.{IsTrue, ◌==◌, ◌&&◌, nat_lt, nat_le}
use Rattle.std.specs.List.{AllByRecursion}
use Rattle.pt_view.specs.Pieces.{table_of}
use Rattle.std.proofs.lemmas.Bool.{and_parts, and_from, or_cases, or_left, le-leb, leb-true, eqb-true, false≢true}
use Rattle.std.proofs.lemmas.Bool.Decides.{nat_tests}
use Rattle.std.proofs.Math.Nat.{zero-mod}
use mathlib.Core.Logic.{dite}
use native.Mathlib.Decide.{ℕ_discrete}
use Rattle.pt_model.specs.declared.position.Position.{Position}
use Rattle.pt_model.specs.Layout.{Layout, input_pages, pages_of_table}
use Rattle.pt_model.specs.Tables.{end_of_table, is_spine, spine_position, starting_top}
use Rattle.pt_model.specs.Words.{tag, placed_at, placed_word, root_frame, root_level, frame_limit}
use Rattle.pt_format.specs.Laws.{IsLayout}
use Rattle.pt_view.specs.declared.view.View.{View}
use Rattle.pt_model.specs.Sets.{one_if, IsAmong}
use Rattle.pt_view.specs.Lists.{IsIn}
use Rattle.pt_view.specs.Calls.{meets_span}
use Rattle.pt_view.specs.Views.{spent}
use Rattle.pt_rule.specs.Totals.{total, holds}
use Rattle.pt_rule.specs.Tags.{IsEnd, IsTag, placed, Chained, is_held, is_placed}
use Rattle.pt_rule.specs.Linked.{IsLinked, is_in_tree}
use Rattle.pt_rule.specs.Lawful.{Lawful, HasBook, HasPath, IsPreparedAt, IsBridged}
use Rattle.pt_rule.specs.Opening.{opening_view}
use Rattle.pt_image.specs.Drafts.{IsBegun, IsDraft}
use Rattle.pt_model.proofs.Positions.{bit_false}
use Rattle.pt_rule.specs.Totals.{Each}
use Rattle.std.proofs.lemmas.Nat.{pow_pos}
use mathlib.Core.Option.{some-injective, some-ne-none}
use Rattle.pt_rule.proofs.TagFacts.{placed_is, placed_unheld}
use Rattle.pt_rule.proofs.HolderFacts.{placed_back}

some_page : (f : Layout) → 0 < input_pages f
some_page f = pow_pos (f.input - f.granule)

pub only : (P : View → Type 0) (v : View) → P v → Each (v ∷ []) P
only P v h zero u e = subst P (some-injective v u e) h
only P v h (suc j) u e = absurd (some-ne-none u (sym e))

whole_span : (page count : ℕ) → one_if (nat_le 0 page && nat_lt page (0 + count)) + 0 ≡ one_if (nat_lt page count)
whole_span page count = grind (arith, nat_tests)

-- what a frame is
data IsOpening (r : ℕ) (t : ℕ) (g : ℕ) (word : ℕ) : Type 0 where
  top : g ≡ r → word ≡ placed_word (spine_position t) → IsOpening r t g word
  free : g ≢ r → word ≡ 0 → IsOpening r t g word

module _ (f : Layout) (good : IsLayout f) (n l r : ℕ) (words : List ℕ) (limit : n ≤ frame_limit f) (room : r < n) (low : f.start ≤ l) (high : l ≤ f.levels)
    (new : IsBegun f n l r words) where
  abbrev t : ℕ
  t = starting_top l

  abbrev v : View
  v = opening_view f n l 0

  abbrev views : List View
  views = v ∷ []

  level_small : t < 8
  level_small = let a = good.levels_high in omega arith

  some_level : 1 ≤ l
  some_level = let a = good.start_low in omega arith

  frame_is : (g : ℕ) → g < n → IsOpening r t g (tag words g)
  frame_is g within = dite (ℕ_discrete g r)
      (λ e. IsOpening.top e (ap (tag words) e ∙ new.top))
      (λ ne. IsOpening.free ne (new.free g ne within))

  root_is : root_level words ≡ t
  root_is = let e = new.root in let s = level_small in omega arith

  root_frame_is : root_frame words ≡ r
  root_frame_is = let e = new.root in let s = level_small in omega arith

  only_root : (g : ℕ) → IsLinked n words views g → g ≡ r
  only_root g a = not_other g (frame_is g a.within) a.placed
    where
      not_other : (g : ℕ) → IsOpening r t g (tag words g) → is_placed (tag words g) ≡ true → g ≡ r
      not_other g (top e is) b = e
      not_other g (free gt is) b = absurd (false≢true (sym (ap is_placed is) ∙ b))

  top_linked : IsLinked n words views r
  top_linked = record { within = room; placed = ap is_placed new.top ∙ placed_is (spine_position t); unprepared = refl }

  top_at : placed_at (tag words r) ≡ spine_position t
  top_at = ap placed_at new.top ∙ placed_back (spine_position t) level_small

  tree_only : (p : Position) → IsTrue (is_in_tree l words views p) → p ≡ spine_position t
  tree_only p e = ⊎_elim
      (λ (s : (is_spine l p && nat_le p.level (root_level words)) ≡ true).
      let both : (is_spine l p ≡ true) × (nat_le p.level (root_level words) ≡ true) = and_parts (is_spine l p) _ s in
      let spine : (nat_le t p.level ≡ true) × ((p.base == 0) ≡ true) = and_parts (nat_le t p.level) _ both.0 in
      let a : t ≤ p.level = leb-true t p.level spine.0 in
      let b : p.level ≤ root_level words = leb-true p.level (root_level words) both.1 in
      let c : p.base ≡ 0 = eqb-true p.base 0 spine.1 in
      let d = root_is in
      let level : p.level ≡ t = omega arith in
      λ i. record { level = level i; base = c i })
      (λ (z : false ≡ true). absurd (false≢true z)) (or_cases (is_spine l p && nat_le p.level (root_level words)) _ e)

  top_in_tree : IsTrue (is_in_tree l words views (spine_position t))
  top_in_tree = or_left (is_spine l (spine_position t) && nat_le t (root_level words)) _
      (and_from (is_spine l (spine_position t)) _ (and_from (nat_le t t) _ (le-leb t t (omega arith)) refl) (le-leb t (root_level words) (let d = root_is in omega arith)))

  held_count : (g : ℕ) → g < n → total (holds g) views ≡ one_if (is_held (tag words g))
  held_count g within = count g (frame_is g within)
    where
      count : (g : ℕ) → IsOpening r t g (tag words g) → total (holds g) views ≡ one_if (is_held (tag words g))
      count g (top e is) = let b = bit_false (is_held (tag words g)) (ap is_held is ∙ placed_unheld (placed_word (spine_position t)) (placed_is (spine_position t))) in omega arith
      count g (free gt is) = let b = bit_false (is_held (tag words g)) (ap is_held is) in omega arith

  tag_is : (g : ℕ) → g < n → IsTag f (tag words g)
  tag_is g within = kind g (frame_is g within)
    where
      kind : (g : ℕ) → IsOpening r t g (tag words g) → IsTag f (tag words g)
      kind g (top e is) = placed (spine_position t) (record { a_level = let a = some_level in omega arith; a_page = some_page f; aligned = zero-mod (pages_of_table f t) }) is
      kind g (free gt is) = IsTag.free is

  not_top : (p : Position) → p ≡ spine_position t → p ≢ spine_position (root_level words) → ⊥
  not_top p e ne = ne (e ∙ ap spine_position (sym root_is))

  begins_lawful : Lawful f n l words views
  begins_lawful = record {
    spans = λ page. whole_span page (input_pages f);
    frames = record {
      tags = tag_is;
      held = held_count;
      prepared = λ g lt. omega arith;
      none_held = λ g le. refl;
      none_prepared = λ g le. refl;
      at = only (λ u. IsPreparedAt words u.prepared) v tt;
      bridges = only (λ u. IsBridged f n words views u.levels u.prepared) v tt;
      cleared = λ g i lt unlinked small. new.cleared g i lt small;
    };
    positions = record {
      distinct = λ g h a b e. only_root g a ∙ sym (only_root h b);
      in_tree = λ g a. subst (λ (p : Position). IsTrue (is_in_tree l words views p)) (sym (ap (λ (h : ℕ). placed_at (tag words h)) (only_root g a) ∙ top_at)) top_in_tree;
      all = λ p e. (r, record { is_linked = top_linked; at = top_at ∙ sym (tree_only p e) });
    };
    root = record {
      is_linked = record { is_linked = subst (IsLinked n words views) (sym root_frame_is) top_linked; at = ap (λ (h : ℕ). placed_at (tag words h)) root_frame_is ∙ top_at ∙ ap spine_position (sym root_is) };
      greatest = only (λ u. u.top ≤ root_level words) v (let d = root_is in omega arith);
      reached = (0, v, refl, some_page f, sym root_is);
    };
    parents = record {
      closed = λ p e ne. absurd (not_top p (tree_only p e) ne);
      named = λ g h p a ne b. absurd (not_top p (sym a.at ∙ ap (λ (k : ℕ). placed_at (tag words k)) (only_root h a.is_linked) ∙ top_at) ne);
    };
    entries = record {
      words_are = λ g i p a small none. new.cleared g i a.is_linked.within small;
      apart = λ i p one. refl;
      once = λ i p. omega arith;
      homes = only (λ u. AllByRecursion (λ x. IsTrue (is_in_tree l words views (table_of f x))) u.pieces) v tt;
    };
    books = only (λ u. 0 < u.count → HasBook f u) v (λ some_page. record { pieces = tt; tables = tt; in_order = tt; pieces_in_order = tt; top_low = omega arith; top_high = let a = some_level in omega arith });
    paths = only (HasPath f n words views) v (record { nodes = tt; begins = tt; descends = tt });
    purses = record { chained = only (λ u. Chained words u.end u.purse) v tt; ends = only (λ u. IsEnd n u.end) v tt };
    sizes = record {
      some_frame = omega arith;
      limit = limit;
      words_are = new.long;
      levels_low = low;
      levels_high = high;
      live = only (λ u. 0 < u.count → (u.frames ≡ n) × (u.levels ≡ l)) v (λ _. (refl, refl));
      dead = only (λ u. u.count ≡ 0 → u ≡ spent) v (λ z. absurd (let a = some_page f in omega arith));
    };
    busy = only (λ u. u.count ≡ input_pages f → (h : ℕ) → h < n → IsIn u.busy h → tag words h ≢ 0) v (λ whole h lt a. absurd (omega arith));
    known = only (λ u. (p : Position) → IsAmong u.known p → IsTrue (is_in_tree l words views p) × (IsTrue (is_spine u.levels p) ⊎ IsTrue (meets_span u p.base (end_of_table f p)))) v (λ p a. absurd (omega arith));
  }

  pub begins : IsDraft f n l words v
  begins = record {
    lawful = begins_lawful;
    whole = refl;
    none_held = refl;
    end = refl;
    none_prepared = refl;
  }
