-- A step that links the frame which a view prepares: the tags stay as they are, and the tree has one position more.
use Rattle.std.proofs.Common.{◌≡◌, ◌≢◌, ◌⊎◌, inl, inr, ℕ, true, false, ◌+◌, ◌^◌, ◌<◌, ◌≤◌, List, set, sym, refl, ap, ◌∙◌, subst, arith, ⊎_elim, ne_eqb}
use Rattle.std.specs.Prelude.{nat_lt, ◌==◌, Option, None, Some}
use Rattle.std.specs.List.{AllByRecursion}
use Rattle.std.proofs.lemmas.Bool.{and_parts, and_from, ltb-true, false≢true, false_from_ne_true}
use mathlib.Core.Option.{some}
use mathlib.Core.Logic.{dite}
use native.Mathlib.Decide.{ℕ_discrete, dec_le}
use lib.ListN.{get_elem?}
use Rattle.pt_model.specs.declared.position.Position.{Position}
use Rattle.pt_model.specs.Layout.{Layout}
use Rattle.pt_model.specs.Tables.{IsPosition, child_at, spine_position}
use Rattle.pt_model.specs.Words.{entry_of, placed_at, placed_word, tag}
use Rattle.pt_format.specs.Laws.{IsLayout}
use Rattle.pt_view.specs.declared.view.View.{View}
use Rattle.pt_view.specs.declared.view.Node.{Node}
use Rattle.pt_view.specs.declared.view.Prepared.{Prepared}
use Rattle.pt_model.specs.Sets.{one_if}
use Rattle.pt_view.specs.Pieces.{table_of}
use Rattle.pt_rule.specs.Totals.{total, has_bridge, has_piece, has_word, holds, is_prepared, prepares}
use Rattle.pt_rule.specs.Tags.{IsTag, is_held, is_placed}
use Rattle.pt_rule.specs.Linked.{IsLinked, IsLinkedAt}
use Rattle.pt_rule.specs.Lawful.{Lawful, EntriesPart, FramesPart, HasBridge, HasPath, IsBridged, IsOnPath, IsPreparedAt, PathsPart, PositionsPart, has_child}
use Rattle.pt_rule.proofs.TotalsKept.{each_set, total_set, total_same}
use Rattle.pt_model.proofs.Positions.{bit_false, bit_le}
use Rattle.pt_view.proofs.Members.{all_map}
use Rattle.pt_rule.proofs.PartsKept.{InTree, prepared_moved, prepared_within}
use Rattle.pt_rule.proofs.TagFacts.{IsPreparedBy, placed_is, prepared_by, prepared_unlinked}
use Rattle.pt_rule.proofs.TreeFacts.{piece_home, placed_back, prepared_tag}

-- the frames that were linked are linked where they were, and so is frame g at a child, which wasn't, and no other
pub record LinksNew (n : ℕ) (words words' : List ℕ) (views views' : List View) (g : ℕ) (child : Position) : Type 0 where
  pub unlinked : IsLinked n words views g → ⊥
  pub to : (h : ℕ) → IsLinked n words views h → IsLinked n words' views' h
  pub to_at : (h : ℕ) (q : Position) → IsLinkedAt n words views h q → IsLinkedAt n words' views' h q
  pub here : IsLinkedAt n words' views' g child
  pub back_at : (h : ℕ) (q : Position) → IsLinkedAt n words' views' h q → ((h ≡ g) × (q ≡ child)) ⊎ IsLinkedAt n words views h q

module _ {f : Layout} {n l : ℕ} (good : IsLayout f) {words : List ℕ} (words' : List ℕ) {views : List View} (id : ℕ) {v : View} (r : Lawful f n l words views)
    (at : get_elem? views id ≡ some v) {g : ℕ} {child : Position} {bridge : Option ℕ} (prepared : v.prepared ≡ Some (record { frame = g; position = child; bridge = bridge }))
    (top : ℕ) (tables known : List Position) (path : List Node) (tags_kept : (h : ℕ) → h < n → tag words' h ≡ tag words h) where
  abbrev w : View
  w = record v { top = top; prepared = None; path = path; known = known; tables = tables }

  abbrev views' : List View
  views' = set views id w

  abbrev x : Prepared
  x = record { frame = g; position = child; bridge = bridge }

  by : IsPreparedBy n words views id v g
  by = prepared_by f n words views r.frames id v x at prepared

  -- the tag of the frame names a position
  x_tag : IsPosition f child × (tag words g ≡ placed_word child)
  x_tag = prepared_tag f good n words views r.frames id v x at prepared

  child_low : child.level < 8
  child_low = let a = x_tag.0.a_level in let b = good.levels_high in omega arith

  -- The frames that are linked.

  prepares_after : (h : ℕ) → total (prepares h) views' + prepares h v ≡ total (prepares h) views
  prepares_after h = let t = total_set (prepares h) views id v w at in omega arith

  prepares_else : (h : ℕ) → h ≢ g → prepares h v ≡ 0
  prepares_else h ne = ap (λ (o : Option Prepared). one_if (is_prepared h o)) prepared ∙ bit_false (g == h) (ne_eqb g h (λ e. ne (sym e)))

  g_once : total (prepares g) views ≡ 1
  g_once = let one = by.one in let some_one = by.somewhere in let few = r.frames.prepared g by.within in let bit = bit_le (is_placed (tag words g)) in omega arith

  g_free : total (prepares g) views' ≡ 0
  g_free = let t = prepares_after g in let one = by.one in omega (arith, t, g_once, one)

  g_unlinked : IsLinked n words views g → ⊥
  g_unlinked = prepared_unlinked n words views g by.somewhere

  to_linked : (h : ℕ) → IsLinked n words views h → IsLinked n words' views' h
  to_linked h b = record {
    within = b.within;
    placed = ap is_placed (tags_kept h b.within) ∙ b.placed;
    unprepared = let t = prepares_after h in let none = b.unprepared in omega arith;
  }

  g_linked : IsLinked n words' views' g
  g_linked = record {
    within = by.within;
    placed = ap is_placed (tags_kept g by.within ∙ x_tag.1) ∙ placed_is child;
    unprepared = g_free;
  }

  back_linked : (h : ℕ) → h ≢ g → IsLinked n words' views' h → IsLinked n words views h
  back_linked h ne b = record {
    within = b.within;
    placed = sym (ap is_placed (tags_kept h b.within)) ∙ b.placed;
    unprepared = let t = prepares_after h in let none = b.unprepared in let z = prepares_else h ne in omega arith;
  }

  to_linked_at : (h : ℕ) (q : Position) → IsLinkedAt n words views h q → IsLinkedAt n words' views' h q
  to_linked_at h q b = record { is_linked = to_linked h b.is_linked; at = ap placed_at (tags_kept h b.is_linked.within) ∙ b.at }

  g_linked_at : IsLinkedAt n words' views' g child
  g_linked_at = record { is_linked = g_linked; at = ap placed_at (tags_kept g by.within ∙ x_tag.1) ∙ placed_back child child_low }

  -- a linked frame is the new one at the child, or was linked where it is
  back_linked_at : (h : ℕ) (q : Position) → IsLinkedAt n words' views' h q → ((h ≡ g) × (q ≡ child)) ⊎ IsLinkedAt n words views h q
  back_linked_at h q b = dite (ℕ_discrete h g)
      (λ e. inl (e, sym b.at ∙ ap (λ (k : ℕ). placed_at (tag words' k)) e ∙ g_linked_at.at))
      (λ ne. inr (record { is_linked = back_linked h ne b.is_linked; at = sym (ap placed_at (tags_kept h b.is_linked.within)) ∙ b.at }))

  pub links : LinksNew n words words' views views' g child
  links = record { unlinked = g_unlinked; to = to_linked; to_at = to_linked_at; here = g_linked_at; back_at = back_linked_at }

  pieces_kept : (q : Position) (i : ℕ) → total (has_piece f q i) views' ≡ total (has_piece f q i) views
  pieces_kept q i = total_same (has_piece f q i) views id v w at refl

  pub words_kept : (q : Position) (i : ℕ) → total (has_word f q i) views' ≡ total (has_word f q i) views
  words_kept q i = total_same (has_word f q i) views id v w at refl

  bridge_kept : (levels : ℕ) (q : Position) (o : Option ℕ) → HasBridge f n words views levels q o → HasBridge f n words' views' levels q o
  bridge_kept levels q None b = tt
  bridge_kept levels q (Some h) b = (b.0, b.1, to_linked_at h (spine_position b.0) b.2, b.3)

  bridged_kept : (levels : ℕ) (o : Option Prepared) → IsBridged f n words views levels o → IsBridged f n words' views' levels o
  bridged_kept levels None b = tt
  bridged_kept levels (Some y) b = bridge_kept levels y.position y.bridge b

  pub frames_won : ((h i : ℕ) → h < n → ¬ IsLinked n words' views' h → i < 2 ^ f.index → entry_of f n words' h i ≡ total (has_bridge f h i) views') → FramesPart f n words' views'
  frames_won cleared = record {
    tags = λ h lt. subst (IsTag f) (sym (tags_kept h lt)) (r.frames.tags h lt);
    held = λ h lt. total_same (holds h) views id v w at refl ∙ r.frames.held h lt ∙ ap (λ (t : ℕ). one_if (is_held t)) (sym (tags_kept h lt));
    prepared = λ h lt. let t = prepares_after h in let few = r.frames.prepared h lt in
        let same : one_if (is_placed (tag words' h)) ≡ one_if (is_placed (tag words h)) = ap (λ (t : ℕ). one_if (is_placed t)) (tags_kept h lt) in omega arith;
    none_held = λ h le. total_same (holds h) views id v w at refl ∙ r.frames.none_held h le;
    none_prepared = λ h le. let t = prepares_after h in let none = r.frames.none_prepared h le in omega arith;
    at = each_set (λ u. IsPreparedAt words u.prepared) (λ u. IsPreparedAt words' u.prepared) views id v w at tt
        (λ j u ne here b. prepared_moved words words' u.prepared (λ y e. tags_kept y.frame (prepared_within f n words views j u y r.frames here e)) b) r.frames.at;
    bridges = each_set (λ u. IsBridged f n words views u.levels u.prepared) (λ u. IsBridged f n words' views' u.levels u.prepared) views id v w at tt
        (λ j u ne here b. bridged_kept u.levels u.prepared b) r.frames.bridges;
    cleared = cleared;
  }

  -- Where the position wasn't of the tree, and the tree has it and no other more than before.
  module _ (not_there : InTree l words views child → ⊥) (tree_child : InTree l words' views' child) (to_tree : (q : Position) → InTree l words views q → InTree l words' views' q) (back_tree : (q : Position) → InTree l words' views' q → (q ≡ child) ⊎ InTree l words views q) where
    pub positions_won : PositionsPart f n l words' views'
    positions_won = record {
      distinct = λ y z b c e.
          let same : tag words y ≡ tag words z = sym (tags_kept y b.within) ∙ e ∙ tags_kept z c.within in
          dite (ℕ_discrete y g)
          (λ is_y. dite (ℕ_discrete z g) (λ is_z. is_y ∙ sym is_z)
          (λ not_z. absurd (not_there (tree_of z (back_linked z not_z c) (sym same ∙ ap (tag words) is_y ∙ x_tag.1)))))
          (λ not_y. dite (ℕ_discrete z g) (λ is_z. absurd (not_there (tree_of y (back_linked y not_y b) (same ∙ ap (tag words) is_z ∙ x_tag.1))))
          (λ not_z. r.positions.distinct y z (back_linked y not_y b) (back_linked z not_z c) same));
      in_tree = λ h b. dite (ℕ_discrete h g)
          (λ e. subst (InTree l words' views') (sym g_linked_at.at ∙ ap (λ (k : ℕ). placed_at (tag words' k)) (sym e)) tree_child)
          (λ ne. subst (InTree l words' views') (ap placed_at (sym (tags_kept h b.within))) (to_tree (placed_at (tag words h)) (r.positions.in_tree h (back_linked h ne b))));
      all = λ q t. ⊎_elim
          (λ (e : q ≡ child). (g, subst (IsLinkedAt n words' views' g) (sym e) g_linked_at))
          (λ (was : InTree l words views q). let a : (h : ℕ) × IsLinkedAt n words views h q = r.positions.all q was in (a.0, to_linked_at a.0 q a.1))
          (back_tree q t);
    }
      where
        tree_of : (h : ℕ) → IsLinked n words views h → tag words h ≡ placed_word child → InTree l words views child
        tree_of h b e = subst (InTree l words views) (ap placed_at e ∙ placed_back child child_low) (r.positions.in_tree h b)

    pub no_piece_in : (i : ℕ) → total (has_piece f child i) views ≡ 0
    no_piece_in i = dite (dec_le (total (has_piece f child i) views) 0) (λ none. omega arith)
        (λ some_one. absurd (not_there (piece_home f n l words views good r child i (omega arith)).0))

    -- the pieces stand where they stood
    pub entries_won : ((q : Position) (i : ℕ) → 0 < q.level → child_at f q i ≡ child → total (has_piece f q i) views ≡ 0) →
        ((h i : ℕ) (q : Position) → IsLinkedAt n words' views' h q → i < 2 ^ f.index → has_child f l words' views' q i ≡ false → entry_of f n words' h i ≡ total (has_word f q i) views') →
        EntriesPart f n l words' views'
    entries_won no_piece_over words_are = record {
      words_are = words_are;
      apart = λ i q yes. pieces_kept q i
          ∙ (let b : (nat_lt 0 q.level ≡ true) × InTree l words' views' (child_at f q i) = and_parts (nat_lt 0 q.level) _ yes in
          ⊎_elim (λ (e : child_at f q i ≡ child). no_piece_over q i (ltb-true 0 q.level b.0) e)
          (λ (was : InTree l words views (child_at f q i)). r.entries.apart i q (and_from (nat_lt 0 q.level) _ b.0 was)) (back_tree (child_at f q i) b.1));
      once = λ i q. subst (λ (t : ℕ). t ≤ 1) (sym (pieces_kept q i)) (r.entries.once i q);
      homes = each_set (λ u. AllByRecursion (λ y. InTree l words views (table_of f y)) u.pieces) (λ u. AllByRecursion (λ y. InTree l words' views' (table_of f y)) u.pieces) views id v w at
          (home v (r.entries.homes id v at)) (λ j u ne here b. home u b) r.entries.homes;
    }
      where
        home : (u : View) → AllByRecursion (λ y. InTree l words views (table_of f y)) u.pieces → AllByRecursion (λ y. InTree l words' views' (table_of f y)) u.pieces
        home u = all_map (λ y. InTree l words views (table_of f y)) (λ y. InTree l words' views' (table_of f y)) u.pieces (λ y t. to_tree (table_of f y) t)

  on_path : (u : View) → AllByRecursion (IsOnPath f n words views u) u.path → AllByRecursion (IsOnPath f n words' views' u) u.path
  on_path u = all_map (IsOnPath f n words views u) (IsOnPath f n words' views' u) u.path (λ y b. record { at = to_linked_at y.frame y.position b.at; near = b.near })

  -- the paths of the others are over the same tables
  pub paths_won : HasPath f n words' views' w → PathsPart f n words' views'
  paths_won mine = each_set (HasPath f n words views) (HasPath f n words' views') views id v w at mine
      (λ j u ne here b. record { nodes = on_path u b.nodes; begins = b.begins; descends = b.descends }) r.paths

  -- what holds of a word of a table that was linked
  pub words_still : (h i : ℕ) (q : Position) → ((p : Position) → InTree l words views p → InTree l words' views' p) → entry_of f n words' h i ≡ entry_of f n words h i → IsLinkedAt n words views h q → i < 2 ^ f.index →
      has_child f l words' views' q i ≡ false → entry_of f n words' h i ≡ total (has_word f q i) views'
  words_still h i q to_tree same was small childless = same
      ∙ r.entries.words_are h i q was small
      (false_from_ne_true (has_child f l words views q i) (λ yes.
      let b : (nat_lt 0 q.level ≡ true) × InTree l words views (child_at f q i) = and_parts (nat_lt 0 q.level) _ yes in
      false≢true (sym childless ∙ and_from (nat_lt 0 q.level) _ b.0 (to_tree (child_at f q i) b.1))))
      ∙ sym (words_kept q i)
