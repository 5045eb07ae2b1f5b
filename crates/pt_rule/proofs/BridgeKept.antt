-- The laws of the stores to entry 0 of a prepared frame: its bridge is named, or none again.
use Rattle.std.proofs.Common.{◌≡◌, ◌≢◌, ℕ, Bool, true, false, ◌/◌, ◌^◌, ◌<◌, List, set, sym, refl, ap, ◌∙◌, subst, arith, eq-eqb, ne_eqb}
use Rattle.std.specs.Prelude.{◌==◌, ◌&&◌, if◌then◌else◌, slice_set, Option, None, Some}
use Rattle.std.proofs.lemmas.Nat.{mod_below, pow_pos}
use mathlib.Core.Option.{some}
use mathlib.Core.Logic.{dite}
use native.Mathlib.Decide.{ℕ_discrete}
use lib.ListN.{get_elem?}
use Rattle.atomic_table.proofs.Lists.{set_here, set_else}
use Rattle.pt_model.specs.declared.position.Position.{Position}
use Rattle.pt_model.specs.Layout.{Layout, pages_of_table}
use Rattle.pt_model.specs.Tables.{parent_of, spine_position}
use Rattle.pt_model.specs.Words.{entry_of, entry_place, tag}
use Rattle.pt_view.specs.declared.view.View.{View}
use Rattle.pt_view.specs.declared.view.Prepared.{Prepared}
use Rattle.pt_model.specs.Sets.{one_if}
use Rattle.pt_view.specs.Views.{SameRange, SameBook}
use Rattle.pt_rule.specs.Totals.{total, bridge_in, bridge_pointer, has_bridge, has_table, holds, is_prepared, prepares}
use Rattle.pt_rule.specs.Tags.{IsTag, is_held, is_placed}
use Rattle.pt_rule.specs.Linked.{IsLinked, IsLinkedAt}
use Rattle.pt_rule.specs.Lawful.{Lawful, FramesPart, HasBridge, IsBridged, IsOnPath, IsPreparedAt, slot_of}
use Rattle.pt_rule.specs.Kinds.{Keeps, bridge, unbridge, over_top}
use Rattle.pt_model.proofs.Places.{entry_else, entry_same, length_kept, root_after_entry, tag_after_entry}
use Rattle.pt_rule.proofs.TotalsKept.{at_inside, each_set, total_only, total_same}
use Rattle.pt_rule.proofs.PartsKept.{SameLinks, SameTree, book_same, books_set, bridge_to, bridged_to, busy_set, entries_same, known_set, links_same, parents_same, path_same, paths_set, positions_same, prepared_moved, prepared_within, purses_same, root_same, sizes_same, spans_set, tree_same}
use Rattle.pt_rule.proofs.TagFacts.{IsPreparedBy, prepared_by, prepared_unlinked}
use Rattle.pt_view.proofs.Paths.{lowest_has}

-- a frame that a view doesn't prepare has no bridge of it
pub bridge_none : (f : Layout) (g i : ℕ) (o : Option Prepared) → is_prepared g o ≡ false → bridge_in f g i o ≡ 0
bridge_none f g i None e = refl
bridge_none f g i (Some x) e = ap (λ (b : Bool). if b && (i == 0) then bridge_pointer f x.position.level x.bridge else 0) e

-- a bridge is at entry 0
pub bridge_low : (f : Layout) (g i : ℕ) (x : Prepared) → i ≢ 0 → bridge_in f g i (Some x) ≡ 0
bridge_low f g i x ne = ap (λ (b : Bool). if (x.frame == g) && b then bridge_pointer f x.position.level x.bridge else 0) (ne_eqb i 0 ne) ∙ either (x.frame == g)
  where
    either : (b : Bool) → (if b && false then bridge_pointer f x.position.level x.bridge else 0) ≡ 0
    either true = refl
    either false = refl

pub bridge_here : (f : Layout) (x : Prepared) → bridge_in f x.frame 0 (Some x) ≡ bridge_pointer f x.position.level x.bridge
bridge_here f x = ap (λ (b : Bool). if b && (0 == 0) then bridge_pointer f x.position.level x.bridge else 0) (eq-eqb x.frame x.frame refl)

-- no other view has a bridge in a frame that a view prepares
pub bridge_total : (f : Layout) (n : ℕ) (words : List ℕ) (views : List View) → FramesPart f n words views → (id : ℕ) (v : View) (x : Prepared) →
    get_elem? views id ≡ some v → v.prepared ≡ Some x → (i : ℕ) → total (has_bridge f x.frame i) views ≡ bridge_in f x.frame i (Some x)
bridge_total f n words views part id v x at is i =
    let by : IsPreparedBy n words views id v x.frame = prepared_by f n words views part id v x at is in
    total_only (has_bridge f x.frame i) views id v at (λ j u ne here. bridge_none f x.frame i u.prepared (not_prepared (is_prepared x.frame u.prepared) (by.others j u ne here)))
    ∙ ap (bridge_in f x.frame i) is
  where
    not_prepared : (b : Bool) → one_if b ≡ 0 → b ≡ false
    not_prepared true e = absurd (omega arith)
    not_prepared false e = refl

module _ (f : Layout) (n l : ℕ) (words : List ℕ) (views : List View) (id : ℕ) (v : View) (r : Lawful f n l words views) (at : get_elem? views id ≡ some v) (live : 0 < v.count)
    (x : Prepared) (is : v.prepared ≡ Some x) (o : Option ℕ) (linked : HasBridge f n words views v.levels x.position o) where
  abbrev g : ℕ
  g = x.frame

  abbrev y : Prepared
  y = record { frame = x.frame; position = x.position; bridge = o }

  abbrev word : ℕ
  word = bridge_pointer f x.position.level o

  abbrev words' : List ℕ
  words' = slice_set words (entry_place f n g 0) word

  abbrev w : View
  w = record v { prepared = Some y }

  abbrev views' : List View
  views' = set views id w

  by : IsPreparedBy n words views id v g
  by = prepared_by f n words views r.frames id v x at is

  first : 0 < 2 ^ f.index
  first = pow_pos f.index

  tags_kept : (h : ℕ) → h < n → tag words' h ≡ tag words h
  tags_kept h lt = tag_after_entry f n words g 0 word h lt

  same_prepares : (h : ℕ) → prepares h w ≡ prepares h v
  same_prepares h = sym (ap (λ (p : Option Prepared). one_if (is_prepared h p)) is)

  links : SameLinks n words words' views views'
  links = links_same n words words' views views' tags_kept (λ h. total_same (prepares h) views id v w at (same_prepares h))

  tree : SameTree l words words' views views'
  tree = tree_same l words words' views views' (root_after_entry f n words g 0 word) (λ p. total_same (has_table p) views id v w at refl)

  unlinked : ¬ IsLinked n words views g
  unlinked = prepared_unlinked n words views g by.somewhere

  entry_kept : (h i : ℕ) → IsLinked n words views h → i < 2 ^ f.index → entry_of f n words' h i ≡ entry_of f n words h i
  entry_kept h i a small = entry_else f n words g 0 word h i first small (λ e _. unlinked (subst (IsLinked n words views) e a))

  range_kept : SameRange v w
  range_kept = record { frames = refl; levels = refl; first = refl; count = refl }

  book_kept : SameBook v w
  book_kept = record { pieces = refl; tables = refl; top = refl }

  -- entry 0 of the frame is the bridge's pointer, and no other entry and no other view's bridge changes
  bridge_after : (h i : ℕ) → (h ≡ g → i ≡ 0 → ⊥) → total (has_bridge f h i) views' ≡ total (has_bridge f h i) views
  bridge_after h i other = total_same (has_bridge f h i) views id v w at
      (dite (ℕ_discrete h g)
      (λ e. dite (ℕ_discrete i 0) (λ z. absurd (other e z))
      (λ ne. bridge_low f h i y ne ∙ sym (ap (bridge_in f h i) is ∙ bridge_low f h i x ne)))
      (λ ne. let b : (g == h) ≡ false = ne_eqb g h (λ e. ne (sym e)) in bridge_none f h i (Some y) b ∙ sym (ap (bridge_in f h i) is ∙ bridge_none f h i (Some x) b)))

  bridge_now : total (has_bridge f g 0) views' ≡ word
  bridge_now = total_only (has_bridge f g 0) views' id w (set_here views id w (at_inside views id v at))
      (λ j u ne here. let b = by.others j u ne (sym (set_else views id j w ne) ∙ here) in bridge_none f g 0 u.prepared (not_prepared (is_prepared g u.prepared) b))
      ∙ bridge_here f y
    where
      not_prepared : (b : Bool) → one_if b ≡ 0 → b ≡ false
      not_prepared true e = absurd (omega arith)
      not_prepared false e = refl

  cleared : (h i : ℕ) → h < n → ¬ IsLinked n words' views' h → i < 2 ^ f.index → entry_of f n words' h i ≡ total (has_bridge f h i) views'
  cleared h i lt none small = dite (ℕ_discrete h g)
      (λ e. dite (ℕ_discrete i 0)
      (λ z. (λ k. entry_of f n words' (e k) (z k)) ∙ entry_same f n words g 0 word r.sizes.words_are by.within first ∙ sym bridge_now ∙ (λ k. total (has_bridge f (sym e k) (sym z k)) views'))
      (λ ne. elsewhere (λ _ z. ne z)))
      (λ ne. elsewhere (λ e _. ne e))
    where
      elsewhere : (h ≡ g → i ≡ 0 → ⊥) → entry_of f n words' h i ≡ total (has_bridge f h i) views'
      elsewhere other = entry_else f n words g 0 word h i first small other ∙ r.frames.cleared h i lt (λ a. none (links.to h a)) small ∙ sym (bridge_after h i other)

  frames_bridged : FramesPart f n words' views'
  frames_bridged = record {
    tags = λ h lt. subst (IsTag f) (sym (tags_kept h lt)) (r.frames.tags h lt);
    held = λ h lt. total_same (holds h) views id v w at refl ∙ r.frames.held h lt ∙ ap (λ (t : ℕ). one_if (is_held t)) (sym (tags_kept h lt));
    prepared = λ h lt. let a = total_same (prepares h) views id v w at (same_prepares h) in let b = r.frames.prepared h lt in
        let c : one_if (is_placed (tag words' h)) ≡ one_if (is_placed (tag words h)) = ap (λ (t : ℕ). one_if (is_placed t)) (tags_kept h lt) in omega arith;
    none_held = λ h le. total_same (holds h) views id v w at refl ∙ r.frames.none_held h le;
    none_prepared = λ h le. total_same (prepares h) views id v w at (same_prepares h) ∙ r.frames.none_prepared h le;
    at = each_set (λ u. IsPreparedAt words u.prepared) (λ u. IsPreparedAt words' u.prepared) views id v w at
        (prepared_moved words words' (Some x) (λ z e. tags_kept z.frame (prepared_within f n words views id v z r.frames at (is ∙ e))) (subst (IsPreparedAt words) is (r.frames.at id v at)))
        (λ j u ne here b. prepared_moved words words' u.prepared (λ z e. tags_kept z.frame (prepared_within f n words views j u z r.frames here e)) b) r.frames.at;
    bridges = each_set (λ u. IsBridged f n words views u.levels u.prepared) (λ u. IsBridged f n words' views' u.levels u.prepared) views id v w at
        (bridge_to f n words words' views views' links v.levels x.position o linked)
        (λ j u ne here b. bridged_to f n words words' views views' links u.levels u.prepared b) r.frames.bridges;
    cleared = cleared;
  }

  pub bridge_stored : Lawful f n l words' views'
  bridge_stored =
      let most = r.root.greatest id v at in record {
        spans = spans_set f views id v w at range_kept r.spans;
        frames = frames_bridged;
        positions = positions_same f n l words words' views views' links tree r.positions;
        root = root_same n l words words' views id v w at links (root_after_entry f n words g 0 word) refl (omega arith) most r.root;
        parents = parents_same f n l words words' views views' links tree (λ h k p a ne b. below h p b) r.parents;
        entries = entries_same f n l words words' views id v w at links tree refl entry_kept r.entries;
        books = books_set f views id v w at (λ some_page. book_same f v w range_kept book_kept (r.books id v at live)) r.books;
        paths = paths_set f n words words' views id v w at links (path_same f n words words' views views' v w links range_kept refl (r.paths id v at)) r.paths;
        purses = purses_same f n words words' views id v w at tags_kept refl refl r.frames r.purses;
        sizes = sizes_same f n l words words' views id v w at live range_kept (length_kept words (entry_place f n g 0) word) r.sizes;
        busy = busy_set f n words words' views id v w at (λ h lt b e. b (sym (tags_kept h lt) ∙ e)) (λ all h lt b e. r.busy id v at all h lt b (sym (tags_kept h lt) ∙ e)) r.busy;
        known = known_set f l words words' views id v w at (λ p e. tree.tree p ∙ e) (λ p a. let b = r.known id v at p a in (tree.tree p ∙ b.0, b.1)) r.known;
      }
    where
      below : (h : ℕ) (p : Position) → IsLinkedAt n words views h (parent_of f p) → entry_of f n words' h (slot_of f p) ≡ entry_of f n words h (slot_of f p)
      below h p b = entry_kept h (slot_of f p) b.is_linked (mod_below (p.base / pages_of_table f p.level) (2 ^ f.index) (pow_pos f.index))

module _ (f : Layout) (n l : ℕ) where
  pub bridge_kept : (frame old level : ℕ) → Keeps f n l (bridge frame old level)
  bridge_kept frame old level words views id v r at live may =
      let low = (r.books id v at live).top_low in let high = may.2 in (
        bridge_stored f n l words views id v r at live (over_top frame level None) may.0 (Some old)
            (level, refl, (lowest_has (IsOnPath f n words views v) v.path (record { frame = old; position = spine_position level }) may.1 (r.paths id v at).nodes).at, omega arith),
        tt,
      )

  pub unbridge_kept : (frame level : ℕ) → Keeps f n l (unbridge frame level)
  unbridge_kept frame level words views id v r at live may = (bridge_stored f n l words views id v r at live (over_top frame level (Some may.0)) may.1 None tt, tt)
