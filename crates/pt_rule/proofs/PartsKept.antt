-- What keeps each part of the rule, where words change and one view changes: for each part, a step that
-- changes none of the words and fields that the part reads.
use Rattle.std.proofs.Common.{◌≡◌, ◌≢◌, ◌⊎◌, inl, inr, ℕ, Bool, ◌+◌, ◌/◌, ◌%◌, ◌^◌, ◌<◌, ◌≤◌, List, [], ◌∷◌, length, set, sym, refl, ap, ap₂, ◌∙◌, subst, arith, eq-eqb}
use Rattle.std.specs.Prelude.{IsTrue, ◌==◌, ◌&&◌, ◌||◌, nat_lt, nat_le, slice_index, slice_set, Option, None, Some}
use Rattle.std.specs.List.{AllByRecursion}
use mathlib.Core.Option.{some, some-injective}
use mathlib.Core.Logic.{dite}
use native.Mathlib.Decide.{ℕ_discrete, dec_le}
use lib.ListN.{get_elem?}
use Rattle.atomic_table.proofs.Lists.{set_here, set_else}
use Rattle.pt_model.specs.declared.position.Position.{Position}
use Rattle.pt_model.specs.Layout.{Layout, input_pages, end_of, pages_of_table}
use Rattle.pt_model.specs.Tables.{child_at, end_of_table, is_spine, needed, parent_of, spine_position, starting_top}
use Rattle.pt_model.specs.Words.{word_count, tag, placed_at, entry_of, root_frame, root_level}
use Rattle.pt_view.specs.declared.view.View.{View}
use Rattle.pt_view.specs.declared.view.Node.{Node}
use Rattle.pt_view.specs.declared.view.Piece.{Piece}
use Rattle.pt_view.specs.declared.view.Prepared.{Prepared}
use Rattle.pt_model.specs.Sets.{one_if, IsAmong, IsSorted}
use Rattle.pt_view.specs.Lists.{times, IsIn}
use Rattle.pt_view.specs.Pieces.{table_of}
use Rattle.pt_view.specs.Calls.{meets_span, pieces_at}
use Rattle.pt_view.specs.Views.{spent, SameRange, SameBook}
use Rattle.pt_rule.specs.Totals.{total, covers, holds, prepares, has_table, has_piece, has_word, has_bridge, is_prepared, bridge_in, words_at}
use Rattle.pt_rule.specs.Tags.{IsEnd, IsTag, Chained, is_held, is_placed}
use Rattle.pt_rule.specs.Linked.{IsLinked, IsLinkedAt, is_in_tree}
use Rattle.pt_rule.specs.Lawful.{Lawful, SpansPart, FramesPart, PositionsPart, RootPart, ParentsPart, EntriesPart, BooksPart, PathsPart, PursesPart, SizesPart, BusyPart, KnownPart, IsPreparedAt, IsBridged, HasBridge, HasBook, IsOwnPiece, IsOwnTable, HasPath, IsOnPath, BeginsOnSpine, Descends, slot_of, PiecesInOrder}
use Rattle.pt_model.proofs.Places.{tag_same, tag_else, entry_after_tag}
use Rattle.pt_rule.proofs.TotalsKept.{total_set, total_at, total_same, total_only, at_inside, each_set}
use Rattle.pt_model.proofs.Positions.{bit_true}
use Rattle.pt_view.proofs.Members.{all_map, in_here, in_more}

-- The linked frames and the positions of the tree.

-- the same frames are linked, and their tags are the same
pub record SameLinks (n : ℕ) (words words' : List ℕ) (views views' : List View) : Type 0 where
  pub to : (h : ℕ) → IsLinked n words views h → IsLinked n words' views' h
  pub back : (h : ℕ) → IsLinked n words' views' h → IsLinked n words views h
  pub tags : (h : ℕ) → IsLinked n words views h → tag words' h ≡ tag words h

pub linked_to : (n : ℕ) (words words' : List ℕ) (views views' : List View) → SameLinks n words words' views views' → (h : ℕ) (p : Position) →
    IsLinkedAt n words views h p → IsLinkedAt n words' views' h p
linked_to n words words' views views' same h p a = record { is_linked = same.to h a.is_linked; at = ap placed_at (same.tags h a.is_linked) ∙ a.at }

pub linked_back : (n : ℕ) (words words' : List ℕ) (views views' : List View) → SameLinks n words words' views views' → (h : ℕ) (p : Position) →
    IsLinkedAt n words' views' h p → IsLinkedAt n words views h p
linked_back n words words' views views' same h p a =
    let was = same.back h a.is_linked in record { is_linked = was; at = sym (ap placed_at (same.tags h was)) ∙ a.at }

-- no tag changes, and no view prepares another frame
pub links_same : (n : ℕ) (words words' : List ℕ) (views views' : List View) → ((h : ℕ) → h < n → tag words' h ≡ tag words h) →
    ((h : ℕ) → total (prepares h) views' ≡ total (prepares h) views) → SameLinks n words words' views views'
links_same n words words' views views' tags prepared = record {
  to = λ h a. record { within = a.within; placed = ap is_placed (tags h a.within) ∙ a.placed; unprepared = prepared h ∙ a.unprepared };
  back = λ h a. record { within = a.within; placed = sym (ap is_placed (tags h a.within)) ∙ a.placed; unprepared = sym (prepared h) ∙ a.unprepared };
  tags = λ h a. tags h a.within;
}

-- the tag of one frame changes, which is linked neither before nor after
pub links_else : (n g : ℕ) (words words' : List ℕ) (views views' : List View) → ¬ IsLinked n words views g → ¬ IsLinked n words' views' g →
    ((h : ℕ) → h ≢ g → tag words' h ≡ tag words h) → ((h : ℕ) → h ≢ g → total (prepares h) views' ≡ total (prepares h) views) →
    SameLinks n words words' views views'
links_else n g words words' views views' before after tags prepared = record {
  to = λ h a. dite (ℕ_discrete h g) (λ e. absurd (before (subst (IsLinked n words views) e a)))
      (λ ne. record { within = a.within; placed = ap is_placed (tags h ne) ∙ a.placed; unprepared = prepared h ne ∙ a.unprepared });
  back = λ h a. dite (ℕ_discrete h g) (λ e. absurd (after (subst (IsLinked n words' views') e a)))
      (λ ne. record { within = a.within; placed = sym (ap is_placed (tags h ne)) ∙ a.placed; unprepared = sym (prepared h ne) ∙ a.unprepared });
  tags = λ h a. dite (ℕ_discrete h g) (λ e. absurd (before (subst (IsLinked n words views) e a))) (λ ne. tags h ne);
}

-- the position is one of the tree
abbrev pub InTree : (l : ℕ) → List ℕ → List View → Position → Type 0
InTree l words views p = IsTrue (is_in_tree l words views p)

-- the same root, and the same positions
pub record SameTree (l : ℕ) (words words' : List ℕ) (views views' : List View) : Type 0 where
  pub root : slice_index words' 0 ≡ slice_index words 0
  pub tree : (p : Position) → is_in_tree l words' views' p ≡ is_in_tree l words views p

pub tree_same : (l : ℕ) (words words' : List ℕ) (views views' : List View) → slice_index words' 0 ≡ slice_index words 0 →
    ((p : Position) → total (has_table p) views' ≡ total (has_table p) views) → SameTree l words words' views views'
tree_same l words words' views views' root tables = record {
  root = root;
  tree = λ p. let t = tables p in λ i. (is_spine l p && nat_le p.level (root i % 8)) || nat_lt 0 (t i);
}

-- 1. Spans: where no span changes.
pub spans_set : (f : Layout) (views : List View) (id : ℕ) (v w : View) → get_elem? views id ≡ some v → SameRange v w →
    SpansPart f views → SpansPart f (set views id w)
spans_set f views id v w at same part p =
    total_same (covers p) views id v w at (λ i. one_if (nat_le (same.first i) p && nat_lt p (same.first i + same.count i))) ∙ part p

-- 2. Frames.

-- a prepared frame is one of the space, and stands at no other view
pub prepares_here : (views : List View) (j : ℕ) (u : View) (x : Prepared) → u.prepared ≡ Some x → prepares x.frame u ≡ 1
prepares_here views j u x e = ap (λ (o : Option Prepared). one_if (is_prepared x.frame o)) e ∙ bit_true (x.frame == x.frame) (eq-eqb x.frame x.frame refl)

pub prepared_within : (f : Layout) (n : ℕ) (words : List ℕ) (views : List View) (j : ℕ) (u : View) (x : Prepared) → FramesPart f n words views →
    get_elem? views j ≡ some u → u.prepared ≡ Some x → x.frame < n
prepared_within f n words views j u x part at e =
    dite (dec_le n x.frame) (λ le. absurd (let one = prepares_here views j u x e in let most = total_at (prepares x.frame) views j u at in let none = part.none_prepared x.frame le in omega arith)) (λ gt. omega arith)

pub prepared_moved : (words words' : List ℕ) (o : Option Prepared) → ((x : Prepared) → o ≡ Some x → tag words' x.frame ≡ tag words x.frame) →
    IsPreparedAt words o → IsPreparedAt words' o
prepared_moved words words' None tags h = tt
prepared_moved words words' (Some x) tags h = ap placed_at (tags x refl) ∙ h

-- a frame of a purse is one of the space
pub purse_within : (f : Layout) (n : ℕ) (words : List ℕ) (views : List View) (j : ℕ) (u : View) (h : ℕ) → FramesPart f n words views → get_elem? views j ≡ some u → IsIn u.purse h → h < n
purse_within f n words views j u h part at a =
    dite (dec_le n h) (λ le. absurd (let some : 0 < times h u.purse = a in let most : times h u.purse ≤ total (holds h) views = total_at (holds h) views j u at in let none = part.none_held h le in omega arith)) (λ gt. omega arith)

pub bridge_to : (f : Layout) (n : ℕ) (words words' : List ℕ) (views views' : List View) → SameLinks n words words' views views' → (levels : ℕ) (p : Position) (o : Option ℕ) →
    HasBridge f n words views levels p o → HasBridge f n words' views' levels p o
bridge_to f n words words' views views' links levels p None h = tt
bridge_to f n words words' views views' links levels p (Some b) h = (h.0, h.1, linked_to n words words' views views' links b (spine_position h.0) h.2, h.3)

pub bridged_to : (f : Layout) (n : ℕ) (words words' : List ℕ) (views views' : List View) → SameLinks n words words' views views' → (levels : ℕ) (o : Option Prepared) →
    IsBridged f n words views levels o → IsBridged f n words' views' levels o
bridged_to f n words words' views views' links levels None h = tt
bridged_to f n words words' views views' links levels (Some x) h = bridge_to f n words words' views views' links levels x.position x.bridge h

-- where no tag, purse or prepared frame changes, nor an entry of a frame that isn't linked
pub frames_same : (f : Layout) (n : ℕ) (words words' : List ℕ) (views : List View) (id : ℕ) (v w : View) → get_elem? views id ≡ some v →
    SameLinks n words words' views (set views id w) → ((h : ℕ) → h < n → tag words' h ≡ tag words h) → w.levels ≡ v.levels → w.purse ≡ v.purse → w.prepared ≡ v.prepared →
    ((h i : ℕ) → h < n → ¬ IsLinked n words views h → i < 2 ^ f.index → entry_of f n words' h i ≡ entry_of f n words h i) →
    FramesPart f n words views → FramesPart f n words' (set views id w)
frames_same f n words words' views id v w at links tags levels purse prepared entries part =
    let views' : List View = set views id w in
    let held_same = λ (h : ℕ). total_same (holds h) views id v w at (ap (times h) purse) in
    let prepared_same = λ (h : ℕ). total_same (prepares h) views id v w at (ap (λ (o : Option Prepared). one_if (is_prepared h o)) prepared) in
    let bridge_same = λ (h k : ℕ). total_same (has_bridge f h k) views id v w at (ap (bridge_in f h k) prepared) in
    record {
      tags = λ h lt. subst (IsTag f) (sym (tags h lt)) (part.tags h lt);
      held = λ h lt. held_same h ∙ part.held h lt ∙ ap (λ (t : ℕ). one_if (is_held t)) (sym (tags h lt));
      prepared = λ h lt. let a = prepared_same h in let b = part.prepared h lt in
          let c : one_if (is_placed (tag words' h)) ≡ one_if (is_placed (tag words h)) = ap (λ (t : ℕ). one_if (is_placed t)) (tags h lt) in omega arith;
      none_held = λ h le. held_same h ∙ part.none_held h le;
      none_prepared = λ h le. prepared_same h ∙ part.none_prepared h le;
      at = each_set (λ u. IsPreparedAt words u.prepared) (λ u. IsPreparedAt words' u.prepared) views id v w at
          (subst (IsPreparedAt words') (sym prepared) (prepared_moved words words' v.prepared (λ x e. tags x.frame (prepared_within f n words views id v x part at e)) (part.at id v at)))
          (λ j u ne here h. prepared_moved words words' u.prepared (λ x e. tags x.frame (prepared_within f n words views j u x part here e)) h) part.at;
      bridges = each_set (λ u. IsBridged f n words views u.levels u.prepared) (λ u. IsBridged f n words' views' u.levels u.prepared) views id v w at
          (subst (λ (s : ℕ × Option Prepared). IsBridged f n words' views' s.0 s.1) (λ i. (sym levels i, sym prepared i))
          (bridged_to f n words words' views views' links v.levels v.prepared (part.bridges id v at)))
          (λ j u ne here h. bridged_to f n words words' views views' links u.levels u.prepared h) part.bridges;
      cleared = λ h i lt unlinked small. entries h i lt (λ a. unlinked (links.to h a)) small ∙ part.cleared h i lt (λ a. unlinked (links.to h a)) small ∙ sym (bridge_same h i);
    }

-- where the tag of frame g changes, that no other view prepares: what is owed of that frame and of the changed view
pub record TagOwed (f : Layout) (n g x : ℕ) (words : List ℕ) (views : List View) (id : ℕ) (v w : View) : Type 0 where
  pub a_tag : IsTag f x
  pub held_here : times g w.purse + one_if (is_held (tag words g)) ≡ times g v.purse + one_if (is_held x)
  pub held_else : (h : ℕ) → h ≢ g → times h w.purse ≡ times h v.purse
  pub prepared_here : prepares g w ≤ one_if (is_placed x)
  pub prepared_else : (h : ℕ) → h ≢ g → prepares h w ≡ prepares h v
  pub unprepared : (j : ℕ) (u : View) → j ≢ id → get_elem? views j ≡ some u → prepares g u ≡ 0
  pub at : IsPreparedAt (slice_set words (1 + g) x) w.prepared
  pub bridged : IsBridged f n (slice_set words (1 + g) x) (set views id w) w.levels w.prepared
  pub bridge : (h i : ℕ) → has_bridge f h i w ≡ has_bridge f h i v

pub frames_tag : (f : Layout) (n g x : ℕ) (words : List ℕ) (views : List View) (id : ℕ) (v w : View) → length words ≡ word_count f n → g < n →
    get_elem? views id ≡ some v → SameLinks n words (slice_set words (1 + g) x) views (set views id w) → ¬ IsLinked n words views g → TagOwed f n g x words views id v w →
    FramesPart f n words views → FramesPart f n (slice_set words (1 + g) x) (set views id w)
frames_tag f n g x words views id v w whole within at links before owed part =
    let words' : List ℕ = slice_set words (1 + g) x in
    let views' : List View = set views id w in
    let here : tag words' g ≡ x = tag_same f n words g x whole within in
    let others = λ (h : ℕ) (ne : h ≢ g). tag_else words g x h ne in
    record {
      tags = λ h lt. dite (ℕ_discrete h g) (λ e. subst (IsTag f) (sym (ap (tag words') e ∙ here)) owed.a_tag) (λ ne. subst (IsTag f) (sym (others h ne)) (part.tags h lt));
      held = λ h lt. dite (ℕ_discrete h g)
          (λ e. subst (λ (z : ℕ). total (holds z) views' ≡ one_if (is_held (tag words' z))) (sym e)
          (let s = total_set (holds g) views id v w at in let b = part.held g within in let o = owed.held_here in
          let c : one_if (is_held (tag words' g)) ≡ one_if (is_held x) = ap (λ (t : ℕ). one_if (is_held t)) here in omega arith))
          (λ ne. total_same (holds h) views id v w at (owed.held_else h ne) ∙ part.held h lt ∙ ap (λ (t : ℕ). one_if (is_held t)) (sym (others h ne)));
      prepared = λ h lt. dite (ℕ_discrete h g)
          (λ e. subst (λ (z : ℕ). total (prepares z) views' ≤ one_if (is_placed (tag words' z))) (sym e)
          (let only : total (prepares g) views' ≡ prepares g w = total_only (prepares g) views' id w (set_here views id w (at_inside views id v at)) (λ j u ne e. owed.unprepared j u ne (sym (set_else views id j w ne) ∙ e)) in
          let o = owed.prepared_here in
          let c : one_if (is_placed (tag words' g)) ≡ one_if (is_placed x) = ap (λ (t : ℕ). one_if (is_placed t)) here in omega arith))
          (λ ne. let a = total_same (prepares h) views id v w at (owed.prepared_else h ne) in let b = part.prepared h lt in
          let c : one_if (is_placed (tag words' h)) ≡ one_if (is_placed (tag words h)) = ap (λ (t : ℕ). one_if (is_placed t)) (others h ne) in omega arith);
      none_held = λ h le. total_same (holds h) views id v w at (owed.held_else h (λ e. omega arith)) ∙ part.none_held h le;
      none_prepared = λ h le. total_same (prepares h) views id v w at (owed.prepared_else h (λ e. omega arith)) ∙ part.none_prepared h le;
      at = each_set (λ u. IsPreparedAt words u.prepared) (λ u. IsPreparedAt words' u.prepared) views id v w at owed.at
          (λ j u ne there h. prepared_moved words words' u.prepared
          (λ y e. others y.frame (λ same. let none = owed.unprepared j u ne there in let one : prepares g u ≡ 1 = subst (λ (z : ℕ). prepares z u ≡ 1) same (prepares_here views j u y e) in omega arith)) h) part.at;
      bridges = each_set (λ u. IsBridged f n words views u.levels u.prepared) (λ u. IsBridged f n words' views' u.levels u.prepared) views id v w at owed.bridged
          (λ j u ne there h. bridged_to f n words words' views views' links u.levels u.prepared h) part.bridges;
      cleared = λ h i lt unlinked small. entry_after_tag f n words g x h i within ∙ part.cleared h i lt (λ a. unlinked (links.to h a)) small ∙ sym (total_same (has_bridge f h i) views id v w at (owed.bridge h i));
    }

-- 3. Positions: where the same frames are linked and the same positions are of the tree.
pub positions_same : (f : Layout) (n l : ℕ) (words words' : List ℕ) (views views' : List View) → SameLinks n words words' views views' → SameTree l words words' views views' →
    PositionsPart f n l words views → PositionsPart f n l words' views'
positions_same f n l words words' views views' links tree part = record {
  distinct = λ g h a b e. let a' = links.back g a in let b' = links.back h b in
      part.distinct g h a' b' (sym (links.tags g a') ∙ e ∙ links.tags h b');
  in_tree = λ h a. let a' = links.back h a in
      tree.tree (placed_at (tag words' h)) ∙ ap (λ (t : ℕ). is_in_tree l words views (placed_at t)) (links.tags h a') ∙ part.in_tree h a';
  all = λ p e. let was = part.all p (sym (tree.tree p) ∙ e) in (was.0, linked_to n words words' views views' links was.0 p was.1);
}

-- 4. Root: where word 0 and the linked frames stay, and the view's top is raised up to the root's level at most.
pub root_moved : (n l : ℕ) (words words' : List ℕ) (views : List View) (id : ℕ) (v w : View) → get_elem? views id ≡ some v →
    (IsLinkedAt n words views (root_frame words) (spine_position (root_level words)) → IsLinkedAt n words' (set views id w) (root_frame words) (spine_position (root_level words))) → slice_index words' 0 ≡ slice_index words 0 → w.count ≡ v.count → v.top ≤ w.top → w.top ≤ root_level words →
    RootPart n words views → RootPart n words' (set views id w)
root_moved n l words words' views id v w at kept root count raised low part =
    let views' : List View = set views id w in
    let level : root_level words' ≡ root_level words = ap (λ (r : ℕ). r % 8) root in
    let was = kept part.is_linked in
    record {
      is_linked = subst (λ (r : ℕ). IsLinkedAt n words' views' (r / 8) (spine_position (r % 8))) (sym root) was;
      greatest = each_set (λ u. u.top ≤ root_level words) (λ u. u.top ≤ root_level words') views id v w at (omega arith) (λ j u ne here h. omega arith) part.greatest;
      reached = reached_set part.reached;
    }
  where
    reached_set : ((j : ℕ) × (u : View) × (get_elem? views j ≡ some u) × (0 < u.count) × (u.top ≡ root_level words)) →
        (j : ℕ) × (u : View) × (get_elem? (set views id w) j ≡ some u) × (0 < u.count) × (u.top ≡ root_level words')
    reached_set (j, u, here, live, is) = dite (ℕ_discrete j id)
        (λ e. let same : u ≡ v = some-injective u v (sym here ∙ ap (get_elem? views) e ∙ at) in
        let top : u.top ≡ v.top = ap (λ (z : View). z.top) same in let size : u.count ≡ v.count = ap (λ (z : View). z.count) same in
        let level : root_level words' ≡ root_level words = ap (λ (r : ℕ). r % 8) root in
        (id, w, set_here views id w (at_inside views id v at), omega arith, omega arith))
        (λ ne. (j, u, set_else views id j w ne ∙ here, live, is ∙ sym (ap (λ (r : ℕ). r % 8) root)))

pub root_same : (n l : ℕ) (words words' : List ℕ) (views : List View) (id : ℕ) (v w : View) → get_elem? views id ≡ some v →
    SameLinks n words words' views (set views id w) → slice_index words' 0 ≡ slice_index words 0 → w.count ≡ v.count → v.top ≤ w.top → w.top ≤ root_level words →
    RootPart n words views → RootPart n words' (set views id w)
root_same n l words words' views id v w at links =
    root_moved n l words words' views id v w at (linked_to n words words' views (set views id w) links (root_frame words) (spine_position (root_level words)))

-- 5. Parents: where moreover the pointers stay.
pub parents_same : (f : Layout) (n l : ℕ) (words words' : List ℕ) (views views' : List View) → SameLinks n words words' views views' → SameTree l words words' views views' →
    ((g h : ℕ) (p : Position) → IsLinkedAt n words views h p → p ≢ spine_position (root_level words) → IsLinkedAt n words views g (parent_of f p) →
    entry_of f n words' g (slot_of f p) ≡ entry_of f n words g (slot_of f p)) →
    ParentsPart f n l words views → ParentsPart f n l words' views'
parents_same f n l words words' views views' links tree entries part =
    let level : root_level words' ≡ root_level words = ap (λ (r : ℕ). r % 8) tree.root in
    let still = λ (p : Position) (ne : p ≢ spine_position (root_level words')) (e : p ≡ spine_position (root_level words)). ne (e ∙ ap spine_position (sym level)) in
    record {
      closed = λ p e ne. tree.tree (parent_of f p) ∙ part.closed p (sym (tree.tree p) ∙ e) (still p ne);
      named = λ g h p a ne b. let a' = linked_back n words words' views views' links h p a in let b' = linked_back n words words' views views' links g (parent_of f p) b in
          entries g h p a' (still p ne) b' ∙ part.named g h p a' (still p ne) b';
    }

-- 6. Entries: where the entries of linked frames and the pieces stay.
pub entries_same : (f : Layout) (n l : ℕ) (words words' : List ℕ) (views : List View) (id : ℕ) (v w : View) → get_elem? views id ≡ some v →
    SameLinks n words words' views (set views id w) → SameTree l words words' views (set views id w) → w.pieces ≡ v.pieces →
    ((h i : ℕ) → IsLinked n words views h → i < 2 ^ f.index → entry_of f n words' h i ≡ entry_of f n words h i) →
    EntriesPart f n l words views → EntriesPart f n l words' (set views id w)
entries_same f n l words words' views id v w at links tree pieces entries part =
    let views' : List View = set views id w in
    let child = λ (p : Position) (i : ℕ). ap (λ (b : Bool). nat_lt 0 p.level && b) (tree.tree (child_at f p i)) in
    let word_same = λ (p : Position) (i : ℕ). total_same (has_word f p i) views id v w at (ap (words_at f p i) pieces) in
    let piece_same = λ (p : Position) (i : ℕ). total_same (has_piece f p i) views id v w at (ap (pieces_at f p i) pieces) in
    let home = λ (u : View). all_map (λ (x : Piece). IsTrue (is_in_tree l words views (table_of f x))) (λ x. IsTrue (is_in_tree l words' views' (table_of f x))) u.pieces (λ x h. tree.tree (table_of f x) ∙ h) in
    record {
      words_are = λ h i p a small none. let a' = linked_back n words words' views views' links h p a in
          entries h i a'.is_linked small ∙ part.words_are h i p a' small (sym (child p i) ∙ none) ∙ sym (word_same p i);
      apart = λ i p one. piece_same p i ∙ part.apart i p (sym (child p i) ∙ one);
      once = λ i p. subst (λ (t : ℕ). t ≤ 1) (sym (piece_same p i)) (part.once i p);
      homes = each_set (λ u. AllByRecursion (λ x. IsTrue (is_in_tree l words views (table_of f x))) u.pieces) (λ u. AllByRecursion (λ x. IsTrue (is_in_tree l words' views' (table_of f x))) u.pieces) views id v w at
          (subst (AllByRecursion (λ x. IsTrue (is_in_tree l words' views' (table_of f x)))) (sym pieces) (home v (part.homes id v at))) (λ j u ne here h. home u h) part.homes;
    }

-- 7. Books: where the view's book meets its conditions.
pub books_set : (f : Layout) (views : List View) (id : ℕ) (v w : View) → get_elem? views id ≡ some v → (0 < w.count → HasBook f w) → BooksPart f views → BooksPart f (set views id w)
books_set f views id v w at mine part = each_set (λ u. 0 < u.count → HasBook f u) (λ u. 0 < u.count → HasBook f u) views id v w at mine (λ j u ne here h. h) part

own_piece : (f : Layout) (x : Piece) (v w : View) → SameRange v w → SameBook v w → IsOwnPiece f v x → IsOwnPiece f w x
own_piece f x v w range book h = record {
  a_part = h.a_part;
  legal = h.legal;
  stated = h.stated;
  in_span = ap₂ (λ (a b : ℕ). nat_le a x.block.first && nat_le (end_of x.block) (a + b)) range.first range.count ∙ h.in_span;
  under_top = subst (λ (t : ℕ). end_of x.block ≤ pages_of_table f t) (sym book.top) h.under_top;
  has_needed = subst (λ (s : ℕ × List Position × ℕ). AllByRecursion (λ p. IsAmong s.1 p ⊎ (IsTrue (is_spine s.0 p) × (p.level ≤ s.2))) (needed f s.0 x.block))
      (λ i. (sym range.levels i, sym book.tables i, sym book.top i)) h.has_needed;
}

own_table : (f : Layout) (p : Position) (v w : View) → SameRange v w → IsOwnTable f v p → IsOwnTable f w p
own_table f p v w range h = record {
  a_position = h.a_position;
  off_spine = ap (λ (k : ℕ). is_spine k p) range.levels ∙ h.off_spine;
  meets = ap₂ (λ (a b : ℕ). nat_lt p.base (a + b) && nat_lt a (end_of_table f p)) range.first range.count ∙ h.meets;
}

pub book_same : (f : Layout) (v w : View) → SameRange v w → SameBook v w → HasBook f v → HasBook f w
book_same f v w range book h = record {
  pieces = subst (AllByRecursion (IsOwnPiece f w)) (sym book.pieces) (all_map (IsOwnPiece f v) (IsOwnPiece f w) v.pieces (λ x a. own_piece f x v w range book a) h.pieces);
  tables = subst (AllByRecursion (IsOwnTable f w)) (sym book.tables) (all_map (IsOwnTable f v) (IsOwnTable f w) v.tables (λ p a. own_table f p v w range a) h.tables);
  in_order = subst IsSorted (sym book.tables) h.in_order;
  pieces_in_order = subst (PiecesInOrder f) (sym book.pieces) h.pieces_in_order;
  top_low = let t = h.top_low in subst (λ (s : ℕ × ℕ). starting_top s.0 ≤ s.1) (λ i. (sym range.levels i, sym book.top i)) t;
  top_high = subst (λ (t : ℕ). t < f.levels) (sym book.top) h.top_high;
}

-- 8. Paths: where the linked frames stay.
pub near_same : (f : Layout) (v w : View) → SameRange v w → (p : Position) → IsTrue (is_spine v.levels p) ⊎ IsTrue (meets_span v p.base (end_of_table f p)) →
    IsTrue (is_spine w.levels p) ⊎ IsTrue (meets_span w p.base (end_of_table f p))
near_same f v w range p (inl h) = inl (ap (λ (k : ℕ). is_spine k p) range.levels ∙ h)
near_same f v w range p (inr h) = inr (ap₂ (λ (a b : ℕ). nat_lt p.base (a + b) && nat_lt a (end_of_table f p)) range.first range.count ∙ h)

pub path_same : (f : Layout) (n : ℕ) (words words' : List ℕ) (views views' : List View) (v w : View) → SameLinks n words words' views views' → SameRange v w → w.path ≡ v.path →
    HasPath f n words views v → HasPath f n words' views' w
path_same f n words words' views views' v w links range path h = record {
  nodes = subst (AllByRecursion (IsOnPath f n words' views' w)) (sym path)
      (all_map (IsOnPath f n words views v) (IsOnPath f n words' views' w) v.path
      (λ x a. record { at = linked_to n words words' views views' links x.frame x.position a.at; near = near_same f v w range x.position a.near }) h.nodes);
  begins = subst (λ (s : ℕ × List Node). BeginsOnSpine s.0 s.1) (λ i. (sym range.levels i, sym path i)) h.begins;
  descends = subst (Descends f) (sym path) h.descends;
}

pub paths_set : (f : Layout) (n : ℕ) (words words' : List ℕ) (views : List View) (id : ℕ) (v w : View) → get_elem? views id ≡ some v →
    SameLinks n words words' views (set views id w) → HasPath f n words' (set views id w) w → PathsPart f n words views → PathsPart f n words' (set views id w)
paths_set f n words words' views id v w at links mine part =
    each_set (HasPath f n words views) (HasPath f n words' (set views id w)) views id v w at mine
    (λ j u ne here h. path_same f n words words' views (set views id w) u u links (record { frames = refl; levels = refl; first = refl; count = refl }) refl h) part

-- 9. Purses: where the tags of the frames of a purse stay.
pub chained_same : (words words' : List ℕ) (end : Option ℕ) (xs : List ℕ) → ((h : ℕ) → IsIn xs h → tag words' h ≡ tag words h) → Chained words end xs → Chained words' end xs
chained_same words words' end [] tags h = tt
chained_same words words' end (x ∷ xs) tags h = (tags x (in_here x xs) ∙ h.0, chained_same words words' end xs (λ g a. tags g (in_more g x xs a)) h.1)

pub chained_else : (words : List ℕ) (g x : ℕ) (end : Option ℕ) (xs : List ℕ) → times g xs ≡ 0 → Chained words end xs → Chained (slice_set words (1 + g) x) end xs
chained_else words g x end xs none h = chained_same words (slice_set words (1 + g) x) end xs
    (λ y a. tag_else words g x y (λ e. let some : 0 < times g xs = subst (IsIn xs) e a in omega arith)) h

pub purses_same : (f : Layout) (n : ℕ) (words words' : List ℕ) (views : List View) (id : ℕ) (v w : View) → get_elem? views id ≡ some v →
    ((h : ℕ) → h < n → tag words' h ≡ tag words h) → w.purse ≡ v.purse → w.end ≡ v.end → FramesPart f n words views → PursesPart n words views → PursesPart n words' (set views id w)
purses_same f n words words' views id v w at tags purse end frames part = record {
  chained = each_set (λ u. Chained words u.end u.purse) (λ u. Chained words' u.end u.purse) views id v w at
      (subst (λ (s : Option ℕ × List ℕ). Chained words' s.0 s.1) (λ i. (sym end i, sym purse i)) (still id v at (part.chained id v at))) (λ j u ne here h. still j u here h) part.chained;
  ends = each_set (λ u. IsEnd n u.end) (λ u. IsEnd n u.end) views id v w at (subst (IsEnd n) (sym end) (part.ends id v at)) (λ j u ne here h. h) part.ends;
}
  where
    still : (j : ℕ) (u : View) → get_elem? views j ≡ some u → Chained words u.end u.purse → Chained words' u.end u.purse
    still j u here = chained_same words words' u.end u.purse (λ h a. tags h (purse_within f n words views j u h frames here a))

-- 10. Sizes: where the view keeps its range, and the words their number.
pub sizes_same : (f : Layout) (n l : ℕ) (words words' : List ℕ) (views : List View) (id : ℕ) (v w : View) → get_elem? views id ≡ some v → 0 < v.count → SameRange v w →
    length words' ≡ length words → SizesPart f n l words views → SizesPart f n l words' (set views id w)
sizes_same f n l words words' views id v w at live same long part =
    let count = same.count in record {
      some_frame = part.some_frame;
      limit = part.limit;
      words_are = long ∙ part.words_are;
      levels_low = part.levels_low;
      levels_high = part.levels_high;
      live = each_set (λ u. 0 < u.count → (u.frames ≡ n) × (u.levels ≡ l)) (λ u. 0 < u.count → (u.frames ≡ n) × (u.levels ≡ l)) views id v w at
          (λ _. let t = part.live id v at live in (same.frames ∙ t.0, same.levels ∙ t.1)) (λ j u ne here h. h) part.live;
      dead = each_set (λ u. u.count ≡ 0 → u ≡ spent) (λ u. u.count ≡ 0 → u ≡ spent) views id v w at (λ z. absurd (omega arith)) (λ j u ne here h. h) part.dead;
    }

-- 11. Busy: where no tag becomes 0, and the view's busy frames aren't free.
pub busy_set : (f : Layout) (n : ℕ) (words words' : List ℕ) (views : List View) (id : ℕ) (v w : View) → get_elem? views id ≡ some v →
    ((h : ℕ) → h < n → tag words h ≢ 0 → tag words' h ≢ 0) → (w.count ≡ input_pages f → (h : ℕ) → h < n → IsIn w.busy h → tag words' h ≢ 0) →
    BusyPart f n words views → BusyPart f n words' (set views id w)
busy_set f n words words' views id v w at tags mine part =
    each_set (λ u. u.count ≡ input_pages f → (h : ℕ) → h < n → IsIn u.busy h → tag words h ≢ 0) (λ u. u.count ≡ input_pages f → (h : ℕ) → h < n → IsIn u.busy h → tag words' h ≢ 0)
    views id v w at mine (λ j u ne here h whole g lt a. tags g lt (h whole g lt a)) part

-- 12. Known: where the positions of the tree stay.
pub known_set : (f : Layout) (l : ℕ) (words words' : List ℕ) (views : List View) (id : ℕ) (v w : View) → get_elem? views id ≡ some v →
    ((p : Position) → IsTrue (is_in_tree l words views p) → IsTrue (is_in_tree l words' (set views id w) p)) →
    ((p : Position) → IsAmong w.known p → IsTrue (is_in_tree l words' (set views id w) p) × (IsTrue (is_spine w.levels p) ⊎ IsTrue (meets_span w p.base (end_of_table f p)))) →
    KnownPart f l words views → KnownPart f l words' (set views id w)
known_set f l words words' views id v w at tree mine part =
    each_set (λ u. (p : Position) → IsAmong u.known p → IsTrue (is_in_tree l words views p) × (IsTrue (is_spine u.levels p) ⊎ IsTrue (meets_span u p.base (end_of_table f p))))
    (λ u. (p : Position) → IsAmong u.known p → IsTrue (is_in_tree l words' (set views id w) p) × (IsTrue (is_spine u.levels p) ⊎ IsTrue (meets_span u p.base (end_of_table f p))))
    views id v w at mine (λ j u ne here h p a. let b = h p a in (tree p b.0, b.1)) part

-- The parts together, where a step changes no tag and of one view no purse: the other parts are given.
pub together : (f : Layout) (n l : ℕ) (words words' : List ℕ) (views : List View) (id : ℕ) (v w : View) → Lawful f n l words views → get_elem? views id ≡ some v → 0 < v.count → SameRange v w →
    w.purse ≡ v.purse → w.end ≡ v.end → w.busy ≡ v.busy → ((h : ℕ) → h < n → tag words' h ≡ tag words h) → length words' ≡ length words → (let views' : List View = set views id w in
    FramesPart f n words' views' → PositionsPart f n l words' views' → RootPart n words' views' → ParentsPart f n l words' views' → EntriesPart f n l words' views' → BooksPart f views' →
    PathsPart f n words' views' → KnownPart f l words' views' → Lawful f n l words' views')
together f n l words words' views id v w r at live range purse end busy tags long frames positions root parents entries books paths known = record {
  spans = spans_set f views id v w at range r.spans;
  frames = frames;
  positions = positions;
  root = root;
  parents = parents;
  entries = entries;
  books = books;
  paths = paths;
  purses = purses_same f n words words' views id v w at tags purse end r.frames r.purses;
  sizes = sizes_same f n l words words' views id v w at live range long r.sizes;
  busy = busy_set f n words words' views id v w at (λ h lt b e. b (sym (tags h lt) ∙ e))
      (λ all h lt b e. r.busy id v at (sym range.count ∙ all) h lt (subst (λ (xs : List ℕ). IsIn xs h) busy b) (sym (tags h lt) ∙ e)) r.busy;
  known = known;
}
