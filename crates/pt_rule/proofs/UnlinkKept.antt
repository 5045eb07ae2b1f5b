-- The law of a store of zero over a table: the child at the entry is of the tree no more, and its frame is prepared.
use Rattle.std.proofs.Common.{◌≡◌, ◌≢◌, ◌⊎◌, inl, inr, ℕ, Bool, true, false, ◌+◌, ◌%◌, ◌^◌, ◌<◌, ◌≤◌, List, set, sym, refl, ap, ◌∙◌, subst, arith, ⊎_elim, ne_eqb, eq-eqb}
use Rattle.std.specs.Prelude.{IsTrue, nat_le, nat_lt, ◌&&◌, ◌||◌, ◌==◌, if◌then◌else◌, slice_index, slice_set, Option, None, Some}
use Rattle.std.specs.List.{AllByRecursion}
use Rattle.std.proofs.lemmas.Bool.{and_parts, and_from, or_cases, le-leb, lt-ltb, ltb-true, false≢true, false_from_ne_true}
use mathlib.Core.Option.{some}
use mathlib.Core.Logic.{dite}
use native.Mathlib.Decide.{ℕ_discrete, dec_le}
use lib.ListN.{get_elem?}
use Rattle.atomic_table.proofs.Lists.{set_here, set_else}
use Rattle.pt_model.specs.declared.position.Position.{Position}
use Rattle.pt_model.specs.Layout.{Layout, pages_of_table}
use Rattle.pt_model.specs.Tables.{child_at, end_of_table, is_same, is_spine, needed, parent_of, spine_position, starting_top}
use Rattle.pt_model.specs.Words.{entry_of, entry_place, frame_address, placed_at, root_frame, root_level, tag}
use Rattle.pt_format.specs.Laws.{IsLayout}
use Rattle.pt_view.specs.declared.view.View.{View}
use Rattle.pt_view.specs.declared.view.Node.{Node}
use Rattle.pt_view.specs.declared.view.Piece.{Piece}
use Rattle.pt_view.specs.declared.view.Prepared.{Prepared}
use Rattle.pt_model.specs.Sets.{one_if, places, IsAmong, without_position}
use Rattle.pt_view.specs.Pieces.{IsOneOf, table_of}
use Rattle.pt_view.specs.Calls.{meets_span, all_but_last}
use Rattle.pt_view.specs.Views.{spent, SameRange}
use Rattle.pt_rule.specs.Totals.{total, bridge_in, bridge_pointer, has_bridge, has_piece, has_table, has_word, holds, is_prepared, prepares}
use Rattle.pt_rule.specs.Tags.{IsTag, is_held, is_placed}
use Rattle.pt_rule.specs.Linked.{IsLinked, IsLinkedAt, is_in_tree}
use Rattle.pt_rule.specs.Lawful.{Lawful, BooksPart, EntriesPart, FramesPart, HasBook, HasBridge, HasPath, IsBridged, IsOnPath, IsOwnPiece, IsOwnTable, IsPreparedAt, KnownPart, ParentsPart, PathsPart, PositionsPart, RootPart, has_child, slot_of}
use Rattle.pt_rule.specs.Kinds.{Keeps, MayCut, UnlinkTells, unlink, unlinked}
use Rattle.pt_model.proofs.Places.{entry_else, entry_same, length_kept, root_after_entry, tag_after_entry}
use Rattle.pt_rule.proofs.TotalsKept.{at_inside, each_set, total_at, total_only, total_same, total_set}
use Rattle.pt_model.proofs.Positions.{bit_false, bit_true, is_same_self, same_cases}
use Rattle.pt_view.proofs.Members.{all_map}
use Rattle.pt_view.proofs.Paths.{all_front}
use Rattle.pt_rule.proofs.PartsKept.{together, InTree, root_moved, prepared_moved, prepared_within, books_set}
use Rattle.pt_rule.proofs.PositionFacts.{child_of_parent, parent_of_child, slot_below, slot_of_child}
use Rattle.pt_rule.proofs.TagFacts.{no_bridge}
use Rattle.pt_rule.proofs.TreeFacts.{all_both, linked_there, level_low, no_words_of, one_frame, pointer_at, table_there, there_position}
use Rattle.pt_rule.proofs.FindsKept.{table_kept, tree_found}
use Rattle.pt_rule.proofs.ListsWithout.{all_filtered, entry_cases, one_lost, order_without, without_is}
use Rattle.pt_rule.proofs.UnlinkFacts.{begins_above, descends_above, higher_above, over_linked, child_linked, place, levels_are, child_is_there, own, meets_mine, not_theirs, not_parent, no_home, pieces_own, zeros, not_needed}

module _ (f : Layout) (n l : ℕ) (good : IsLayout f) (words : List ℕ) (views : List View) (r : Lawful f n l words views) (id : ℕ) (v : View) (at : get_elem? views id ≡ some v) (live : 0 < v.count) (frame number : ℕ) (may : MayCut f v frame number) where
  abbrev p : Position
  p = may.position

  abbrev g : ℕ
  g = may.child

  abbrev child : Position
  child = child_at f p number

  abbrev words' : List ℕ
  words' = slice_set words (entry_place f n frame number) 0

  abbrev w : View
  w = unlinked (Some (record { frame = g; position = child })) v

  abbrev views' : List View
  views' = set views id w

  frame_at : IsLinkedAt n words views frame p
  frame_at = over_linked f n l good words views r id v at live frame number may

  g_at : IsLinkedAt n words views g child
  g_at = child_linked f n l good words views r id v at live frame number may

  aligned : p.base % pages_of_table f p.level ≡ 0
  aligned = (place f n l good words views r id v at live frame number may).aligned

  same : SameRange v w
  same = record { frames = refl; levels = refl; first = refl; count = refl }

  w_at : get_elem? views' id ≡ some w
  w_at = set_here views id w (at_inside views id v at)

  -- The words after.

  tags_kept : (h : ℕ) → h < n → tag words' h ≡ tag words h
  tags_kept h lt = tag_after_entry f n words frame number 0 h lt

  root_kept : slice_index words' 0 ≡ slice_index words 0
  root_kept = root_after_entry f n words frame number 0

  level_kept : root_level words' ≡ root_level words
  level_kept = ap (λ (x : ℕ). x % 8) root_kept

  entry_there : entry_of f n words' frame number ≡ 0
  entry_there = entry_same f n words frame number 0 r.sizes.words_are frame_at.is_linked.within may.within

  entry_kept : (h i : ℕ) → i < 2 ^ f.index → (h ≡ frame → i ≡ number → ⊥) → entry_of f n words' h i ≡ entry_of f n words h i
  entry_kept h i small other = entry_else f n words frame number 0 h i may.within small other

  -- Positions: the child and others.

  another : (q : Position) → (q ≡ child → ⊥) → is_same child q ≡ false
  another q ne = ⊎_elim (λ (e : child ≡ q). absurd (ne (sym e))) (λ (no : is_same child q ≡ false). no) (same_cases child q)

  stays : (q : Position) → (q ≡ child → ⊥) → IsAmong v.tables q → IsAmong w.tables q
  stays q ne m = (without_is child v.tables q).1 (another q ne, m)

  was : (ps : List Position) (q : Position) → IsAmong (without_position child ps) q → (q ≡ child → ⊥) × IsAmong ps q
  was ps q m =
      let a : (is_same child q ≡ false) × IsAmong ps q = (without_is child ps q).0 m in
      (λ e. false≢true (sym a.0 ∙ ap (is_same child) e ∙ is_same_self child child refl), a.1)

  low : child.level < root_level words
  low = let high = may.bare.high in let a = level_low f n l words views good r p (linked_there f n l words views good r frame p frame_at) in omega arith

  not_root : child ≡ spine_position (root_level words) → ⊥
  not_root e = let level : child.level ≡ root_level words = ap (λ (q : Position). q.level) e in let a = low in omega arith

  not_over : p ≡ child → ⊥
  not_over e = let level : p.level ≡ child.level = ap (λ (q : Position). q.level) e in let high = may.bare.high in omega arith

  -- The frames that are linked.

  v_prepares : (h : ℕ) → prepares h v ≡ 0
  v_prepares h = ap (λ (o : Option Prepared). one_if (is_prepared h o)) may.none

  prepares_after : (h : ℕ) → total (prepares h) views' ≡ total (prepares h) views + prepares h w
  prepares_after h = let t = total_set (prepares h) views id v w at in let none = v_prepares h in omega arith

  g_prepares : prepares g w ≡ 1
  g_prepares = bit_true (g == g) (eq-eqb g g refl)

  else_prepares : (h : ℕ) → h ≢ g → prepares h w ≡ 0
  else_prepares h ne = bit_false (g == h) (ne_eqb g h (λ e. ne (sym e)))

  g_unlinked : IsLinked n words' views' g → ⊥
  g_unlinked b = let none = b.unprepared in let t = prepares_after g in let one = g_prepares in omega arith

  to_linked : (h : ℕ) → h ≢ g → IsLinked n words views h → IsLinked n words' views' h
  to_linked h ne b = record {
    within = b.within;
    placed = ap is_placed (tags_kept h b.within) ∙ b.placed;
    unprepared = let t = prepares_after h in let none = b.unprepared in let z = else_prepares h ne in omega arith;
  }

  back_linked : (h : ℕ) → IsLinked n words' views' h → IsLinked n words views h
  back_linked h b = record {
    within = b.within;
    placed = sym (ap is_placed (tags_kept h b.within)) ∙ b.placed;
    unprepared = let t = prepares_after h in let none = b.unprepared in omega arith;
  }

  not_g : (h : ℕ) (q : Position) → IsLinkedAt n words views h q → (q ≡ child → ⊥) → h ≢ g
  not_g h q b ne e = ne (sym b.at ∙ ap (λ (k : ℕ). placed_at (tag words k)) e ∙ g_at.at)

  to_linked_at : (h : ℕ) (q : Position) → (q ≡ child → ⊥) → IsLinkedAt n words views h q → IsLinkedAt n words' views' h q
  to_linked_at h q ne b = record { is_linked = to_linked h (not_g h q b ne) b.is_linked; at = ap placed_at (tags_kept h b.is_linked.within) ∙ b.at }

  -- a linked frame was linked where it is, which isn't the child
  back_linked_at : (h : ℕ) (q : Position) → IsLinkedAt n words' views' h q → IsLinkedAt n words views h q × (q ≡ child → ⊥)
  back_linked_at h q b =
      let old : IsLinkedAt n words views h q = record { is_linked = back_linked h b.is_linked; at = sym (ap placed_at (tags_kept h b.is_linked.within)) ∙ b.at } in (
        old,
        λ e. g_unlinked (subst (IsLinked n words' views') (one_frame f n l words views good r h g child (subst (IsLinkedAt n words views h) e old) g_at) b.is_linked),
      )

  frame_still : IsLinkedAt n words' views' frame p
  frame_still = to_linked_at frame p not_over frame_at

  -- The tree.

  tree_root : (q : Position) → is_in_tree l words' views' q ≡ is_in_tree l words views' q
  tree_root q = ap (λ (k : ℕ). (is_spine l q && nat_le q.level (k % 8)) || nat_lt 0 (total (has_table q) views')) root_kept

  tree_else : (q : Position) → (q ≡ child → ⊥) → is_in_tree l words' views' q ≡ is_in_tree l words views q
  tree_else q ne = tree_root q ∙ tree_found l words views id v w at q (stays q ne) (λ b. table_there f n l words views good r id v at q (was v.tables q b).1)

  none_there : total (has_table child) views' ≡ 0
  none_there =
      let only : total (has_table child) views' ≡ places child w.tables =
      total_only (has_table child) views' id w w_at (λ j u ne e. not_theirs f n l good words views r id v at live frame number may j u ne (sym (set_else views id j w ne) ∙ e)) in
      only ∙ dite (dec_le (places child w.tables) 0) (λ none. omega arith) (λ some_one. absurd ((was v.tables child (omega arith)).0 refl))

  gone : InTree l words' views' child → ⊥
  gone t = ⊎_elim
      (λ (s : (is_spine l child && nat_le child.level (root_level words')) ≡ true).
      let b : (is_spine l child ≡ true) × (nat_le child.level (root_level words') ≡ true) = and_parts (is_spine l child) _ s in
      false≢true (sym may.bare.off_spine ∙ ap (λ (k : ℕ). is_spine k child) (levels_are f n l good words views r id v at live frame number may) ∙ b.0))
      (λ (s : nat_lt 0 (total (has_table child) views') ≡ true). let h = ltb-true 0 (total (has_table child) views') s in let none = none_there in omega arith)
      (or_cases (is_spine l child && nat_le child.level (root_level words')) _ t)

  to_tree : (q : Position) → (q ≡ child → ⊥) → InTree l words views q → InTree l words' views' q
  to_tree q ne t = tree_else q ne ∙ t

  back_tree : (q : Position) → InTree l words' views' q → InTree l words views q × (q ≡ child → ⊥)
  back_tree q t = let ne : q ≡ child → ⊥ = (λ e. gone (subst (InTree l words' views') e t)) in (sym (tree_else q ne) ∙ t, ne)

  -- The parts.

  pieces_kept : (q : Position) (i : ℕ) → total (has_piece f q i) views' ≡ total (has_piece f q i) views
  pieces_kept q i = total_same (has_piece f q i) views id v w at refl

  words_kept : (q : Position) (i : ℕ) → total (has_word f q i) views' ≡ total (has_word f q i) views
  words_kept q i = total_same (has_word f q i) views id v w at refl

  bridges_kept : (h i : ℕ) → total (has_bridge f h i) views' ≡ total (has_bridge f h i) views
  bridges_kept h i = total_same (has_bridge f h i) views id v w at (no_bridge ((g == h) && (i == 0)) ∙ sym (ap (bridge_in f h i) may.none))

  -- no bridge was in its frame
  no_bridge_in : (i : ℕ) → total (has_bridge f g i) views ≡ 0
  no_bridge_in i = total_only (has_bridge f g i) views id v at (λ j u ne e. none_of j u e) ∙ none_of id v at
    where
      unnamed : (o : Option Prepared) → is_prepared g o ≡ false → bridge_in f g i o ≡ 0
      unnamed None e = refl
      unnamed (Some x) e = ap (λ (b : Bool). if b && (i == 0) then bridge_pointer f x.position.level x.bridge else 0) e

      none_of : (j : ℕ) (u : View) → get_elem? views j ≡ some u → has_bridge f g i u ≡ 0
      none_of j u e = unnamed u.prepared
          (false_from_ne_true (is_prepared g u.prepared) (λ yes. let one = bit_true _ yes in let most = total_at (prepares g) views j u e in let none = g_at.is_linked.unprepared in omega arith))

  bridge_kept : (levels : ℕ) → levels ≡ l → (q : Position) (o : Option ℕ) → HasBridge f n words views levels q o → HasBridge f n words' views' levels q o
  bridge_kept levels is q None b = tt
  bridge_kept levels is q (Some h) b = (
    b.0,
    b.1,
    to_linked_at h (spine_position b.0)
        (λ e.
        let spine : is_spine levels (spine_position b.0) ≡ true = and_from (nat_le (starting_top levels) b.0) _ (le-leb (starting_top levels) b.0 b.3) refl in
        false≢true (sym may.bare.off_spine ∙ (λ k. is_spine (levels_are f n l good words views r id v at live frame number may k) child) ∙ (λ k. is_spine (sym is k) (sym e k)) ∙ spine)) b.2,
    b.3,
  )

  bridged_kept : (levels : ℕ) → levels ≡ l → (o : Option Prepared) → IsBridged f n words views levels o → IsBridged f n words' views' levels o
  bridged_kept levels is None b = tt
  bridged_kept levels is (Some x) b = bridge_kept levels is x.position x.bridge b

  -- a view that isn't live has nothing, and the levels of a live one are the space's
  bridged_else : (j : ℕ) (u : View) → get_elem? views j ≡ some u → IsBridged f n words views u.levels u.prepared → IsBridged f n words' views' u.levels u.prepared
  bridged_else j u here b = dite (dec_le u.count 0)
      (λ none. let e : u ≡ spent = r.sizes.dead j u here (omega arith) in subst (λ (z : View). IsBridged f n words' views' z.levels z.prepared) (sym e) tt)
      (λ alive. bridged_kept u.levels (r.sizes.live j u here (omega arith)).1 u.prepared b)

  frames_cut : FramesPart f n words' views'
  frames_cut = record {
    tags = λ h lt. subst (IsTag f) (sym (tags_kept h lt)) (r.frames.tags h lt);
    held = λ h lt. total_same (holds h) views id v w at refl ∙ r.frames.held h lt ∙ ap (λ (t : ℕ). one_if (is_held t)) (sym (tags_kept h lt));
    prepared = λ h lt.
        let t = prepares_after h in let few = r.frames.prepared h lt in
        let kept : one_if (is_placed (tag words' h)) ≡ one_if (is_placed (tag words h)) = ap (λ (t : ℕ). one_if (is_placed t)) (tags_kept h lt) in
        dite (ℕ_discrete h g)
        (λ e.
        let none : total (prepares h) views ≡ 0 = ap (λ k. total (prepares k) views) e ∙ g_at.is_linked.unprepared in
        let one : prepares h w ≡ 1 = ap (λ k. prepares k w) e ∙ g_prepares in
        let placed : one_if (is_placed (tag words h)) ≡ 1 = bit_true (is_placed (tag words h)) (ap (λ k. is_placed (tag words k)) e ∙ g_at.is_linked.placed) in omega arith)
        (λ ne. let z = else_prepares h ne in omega arith);
    none_held = λ h le. total_same (holds h) views id v w at refl ∙ r.frames.none_held h le;
    none_prepared = λ h le. let t = prepares_after h in let none = r.frames.none_prepared h le in let lt = g_at.is_linked.within in let z = else_prepares h (λ e. omega arith) in omega arith;
    at = each_set (λ u. IsPreparedAt words u.prepared) (λ u. IsPreparedAt words' u.prepared) views id v w at (ap placed_at (tags_kept g g_at.is_linked.within) ∙ g_at.at)
        (λ j u ne here b. prepared_moved words words' u.prepared (λ x e. tags_kept x.frame (prepared_within f n words views j u x r.frames here e)) b) r.frames.at;
    bridges = each_set (λ u. IsBridged f n words views u.levels u.prepared) (λ u. IsBridged f n words' views' u.levels u.prepared) views id v w at tt
        (λ j u ne here b. bridged_else j u here b) r.frames.bridges;
    cleared = λ h i lt unlinked_now small.
        entry_kept h i small (λ e _. unlinked_now (subst (IsLinked n words' views') (sym e) frame_still.is_linked))
        ∙ dite (ℕ_discrete h g)
        (λ e. (λ k. entry_of f n words (e k) i) ∙ zeros f n l good words views r id v at live frame number may i small ∙ sym (no_bridge_in i) ∙ (λ k. total (has_bridge f (sym e k) i) views))
        (λ ne. r.frames.cleared h i lt (λ b. unlinked_now (to_linked h ne b)) small) ∙ sym (bridges_kept h i);
  }

  positions_cut : PositionsPart f n l words' views'
  positions_cut = record {
    distinct = λ x y b c e. r.positions.distinct x y (back_linked x b) (back_linked y c) (sym (tags_kept x b.within) ∙ e ∙ tags_kept y c.within);
    in_tree = λ h b.
        let old : IsLinkedAt n words views h (placed_at (tag words' h)) × (placed_at (tag words' h) ≡ child → ⊥) =
        back_linked_at h (placed_at (tag words' h)) (record { is_linked = b; at = refl }) in
        to_tree (placed_at (tag words' h)) old.1 (linked_there f n l words views good r h (placed_at (tag words' h)) old.0);
    all = λ q t.
        let old : InTree l words views q × (q ≡ child → ⊥) = back_tree q t in
        let a : (h : ℕ) × IsLinkedAt n words views h q = r.positions.all q old.0 in (a.0, to_linked_at a.0 q old.1 a.1);
  }

  root_cut : RootPart n words' views'
  root_cut = root_moved n l words words' views id v w at (to_linked_at (root_frame words) (spine_position (root_level words)) (λ e. not_root (sym e))) root_kept refl (omega arith) (r.root.greatest id v at) r.root

  parents_cut : ParentsPart f n l words' views'
  parents_cut = record {
    closed = λ q t ne.
        let old : InTree l words views q × (q ≡ child → ⊥) = back_tree q t in
        to_tree (parent_of f q) (not_parent f n l good words views r id v at live frame number may q old.0) (r.parents.closed q old.0 (still q ne));
    named = λ x h q b ne c.
        let b' : IsLinkedAt n words views h q × (q ≡ child → ⊥) = back_linked_at h q b in
        let c' : IsLinkedAt n words views x (parent_of f q) × (parent_of f q ≡ child → ⊥) = back_linked_at x (parent_of f q) c in
        let q_aligned = (there_position f n l words views good r q (linked_there f n l words views good r h q b'.0)).aligned in
        entry_kept x (slot_of f q) (slot_below f q q_aligned)
        (λ is_frame is_number.
        let is_p : parent_of f q ≡ p = sym c'.0.at ∙ ap (λ (k : ℕ). placed_at (tag words k)) is_frame ∙ frame_at.at in
        b'.1 (sym (child_of_parent f q q_aligned) ∙ (λ k. child_at f (is_p k) (is_number k))))
        ∙ r.parents.named x h q b'.0 (still q ne) c'.0;
  }
    where
      still : (q : Position) → q ≢ spine_position (root_level words') → q ≢ spine_position (root_level words)
      still q ne e = ne (e ∙ ap spine_position (sym level_kept))

  -- the entry had the child, so no piece stood there
  no_piece_at : total (has_piece f p number) views ≡ 0
  no_piece_at = r.entries.apart number p (and_from (nat_lt 0 p.level) _ (lt-ltb 0 p.level may.bare.high) (child_is_there f n l good words views r id v at live frame number may))

  -- where a child is at another entry, it is another
  other_child : (q : Position) (i : ℕ) → 0 < q.level → i < 2 ^ f.index → InTree l words views q → (q ≡ p → i ≡ number → ⊥) → child_at f q i ≡ child → ⊥
  other_child q i high small t other e =
      let q_aligned = (there_position f n l words views good r q t).aligned in
      other (sym (parent_of_child f q i high small q_aligned) ∙ ap (parent_of f) e ∙ parent_of_child f p number may.bare.high may.within aligned)
      (sym (slot_of_child f q i high small q_aligned) ∙ ap (slot_of f) e ∙ slot_of_child f p number may.bare.high may.within aligned)

  -- the homes of a view's pieces
  homes_of : (j : ℕ) (u : View) → get_elem? views j ≡ some u → AllByRecursion (λ x. InTree l words views (table_of f x)) u.pieces → AllByRecursion (λ x. InTree l words' views' (table_of f x)) u.pieces
  homes_of j u here all = dite (dec_le u.count 0)
      (λ none. let e : u ≡ spent = r.sizes.dead j u here (omega arith) in subst (λ (z : View). AllByRecursion (λ x. InTree l words' views' (table_of f x)) z.pieces) (sym e) tt)
      (λ alive. all_map (λ x. InTree l words views (table_of f x) × (IsOwnPiece f u x × IsOneOf u.pieces x)) (λ x. InTree l words' views' (table_of f x)) u.pieces
      (λ x b. to_tree (table_of f x) (no_home f n l good words views r id v at live frame number may j u here x b.1.0 b.1.1) b.0)
      (all_both (λ x. InTree l words views (table_of f x)) (λ x. IsOwnPiece f u x × IsOneOf u.pieces x) u.pieces all (pieces_own f n l good words views r id v at live frame number may j u here (omega arith))))

  entries_cut : EntriesPart f n l words' views'
  entries_cut = record {
    words_are = λ h i q b small none.
        let old : IsLinkedAt n words views h q × (q ≡ child → ⊥) = back_linked_at h q b in
        ⊎_elim
        (λ (e : (q ≡ p) × (i ≡ number)).
        let is_frame : h ≡ frame = one_frame f n l words views good r h frame p (subst (IsLinkedAt n words views h) e.0 old.0) frame_at in
        (λ k. entry_of f n words' (is_frame k) (e.1 k)) ∙ entry_there ∙ sym (words_kept p number ∙ no_words_of f p number views no_piece_at)
        ∙ (λ k. total (has_word f (sym e.0 k) (sym e.1 k)) views'))
        (λ (other : q ≡ p → i ≡ number → ⊥).
        entry_kept h i small (λ is_frame is_number. other (sym old.0.at ∙ ap (λ (k : ℕ). placed_at (tag words k)) is_frame ∙ frame_at.at) is_number)
        ∙ r.entries.words_are h i q old.0 small
        (false_from_ne_true (has_child f l words views q i) (λ yes.
        let c : (nat_lt 0 q.level ≡ true) × InTree l words views (child_at f q i) = and_parts (nat_lt 0 q.level) _ yes in
        let ne = other_child q i (ltb-true 0 q.level c.0) small (linked_there f n l words views good r h q old.0) other in
        false≢true (sym none ∙ and_from (nat_lt 0 q.level) _ c.0 (to_tree (child_at f q i) ne c.1))))
        ∙ sym (words_kept q i))
        (entry_cases p number q i);
    apart = λ i q yes.
        let c : (nat_lt 0 q.level ≡ true) × InTree l words' views' (child_at f q i) = and_parts (nat_lt 0 q.level) _ yes in
        pieces_kept q i ∙ r.entries.apart i q (and_from (nat_lt 0 q.level) _ c.0 (back_tree (child_at f q i) c.1).0);
    once = λ i q. subst (λ (t : ℕ). t ≤ 1) (sym (pieces_kept q i)) (r.entries.once i q);
    homes = each_set (λ u. AllByRecursion (λ x. InTree l words views (table_of f x)) u.pieces) (λ u. AllByRecursion (λ x. InTree l words' views' (table_of f x)) u.pieces) views id v w at
        (homes_of id v at (r.entries.homes id v at)) (λ j u ne here b. homes_of j u here b) r.entries.homes;
  }

  -- the book: no own piece needs the child
  own_piece : (x : Piece) → IsOwnPiece f v x → IsOneOf v.pieces x → IsOwnPiece f w x
  own_piece x has member = record {
    a_part = has.a_part;
    legal = has.legal;
    stated = has.stated;
    in_span = has.in_span;
    under_top = has.under_top;
    has_needed = all_map (λ q. (IsAmong v.tables q ⊎ (IsTrue (is_spine v.levels q) × (q.level ≤ v.top))) × (q ≡ child → ⊥)) (λ q. IsAmong w.tables q ⊎ (IsTrue (is_spine w.levels q) × (q.level ≤ w.top)))
        (needed f v.levels x.block)
        (λ q b. ⊎_elim (λ (m : IsAmong v.tables q). inl (stays q b.1 m)) (λ (s : IsTrue (is_spine v.levels q) × (q.level ≤ v.top)). inr s) b.0)
        (all_both (λ q. IsAmong v.tables q ⊎ (IsTrue (is_spine v.levels q) × (q.level ≤ v.top))) (λ q. q ≡ child → ⊥) (needed f v.levels x.block)
        has.has_needed (not_needed f n l good words views r id v at live frame number may x has member));
  }

  books_cut : BooksPart f views'
  books_cut = books_set f views id v w at
      (λ some_page.
      let book : HasBook f v = r.books id v at live in record {
        pieces = all_map (λ x. IsOwnPiece f v x × IsOneOf v.pieces x) (IsOwnPiece f w) v.pieces (λ x b. own_piece x b.0 b.1) (pieces_own f n l good words views r id v at live frame number may id v at live);
        tables = all_filtered _ (IsOwnTable f w) v.tables (all_map (IsOwnTable f v) (IsOwnTable f w) v.tables (λ q b. table_kept f q v w same b) book.tables);
        in_order = order_without child v.tables book.in_order;
        pieces_in_order = book.pieces_in_order;
        top_low = book.top_low;
        top_high = book.top_high;
      }) r.books

  -- a position of another view is no child: it is of the spine or meets the view's span
  else_near : (j : ℕ) (u : View) → j ≢ id → get_elem? views j ≡ some u → 0 < u.count → (q : Position) → IsTrue (is_spine u.levels q) ⊎ IsTrue (meets_span u q.base (end_of_table f q)) → q ≡ child → ⊥
  else_near j u ne here alive q near e = ⊎_elim
      (λ (s : IsTrue (is_spine u.levels q)).
      false≢true (sym may.bare.off_spine ∙ ap (λ (k : ℕ). is_spine k child) (levels_are f n l good words views r id v at live frame number may)
      ∙ (λ k. is_spine (sym (r.sizes.live j u here alive).1 k) (sym e k)) ∙ s))
      (λ (m : IsTrue (meets_span u q.base (end_of_table f q))).
      ne (meets_mine f n l good words views r id v at live frame number may j u here alive (subst (λ (z : Position). IsTrue (meets_span u z.base (end_of_table f z))) e m))) near

  path_else : (j : ℕ) (u : View) → j ≢ id → get_elem? views j ≡ some u → HasPath f n words views u → HasPath f n words' views' u
  path_else j u ne here b = dite (dec_le u.count 0)
      (λ none. let e : u ≡ spent = r.sizes.dead j u here (omega arith) in subst (λ (z : View). HasPath f n words' views' z) (sym e) (record { nodes = tt; begins = tt; descends = tt }))
      (λ alive. record {
        nodes = all_map (IsOnPath f n words views u) (IsOnPath f n words' views' u) u.path
            (λ x c. record { at = to_linked_at x.frame x.position (else_near j u ne here (omega arith) x.position c.near) c.at; near = c.near }) b.nodes;
        begins = b.begins;
        descends = b.descends;
      })

  paths_cut : PathsPart f n words' views'
  paths_cut = each_set (HasPath f n words views) (HasPath f n words' views') views id v w at
      (let old = r.paths id v at in record {
        nodes = all_map (λ x. IsOnPath f n words views v x × (child.level < x.position.level)) (IsOnPath f n words' views' w) (all_but_last v.path)
            (λ x c. record {
              at = to_linked_at x.frame x.position (λ e. let level : x.position.level ≡ child.level = ap (λ (q : Position). q.level) e in let high = c.1 in omega arith) c.0.at;
              near = c.0.near;
            })
            (all_both (IsOnPath f n words views v) (λ x. child.level < x.position.level) (all_but_last v.path) (all_front (IsOnPath f n words views v) v.path old.nodes)
            (higher_above f v.path (record { frame = g; position = child }) may.last old.descends));
        begins = begins_above v.levels v.path old.begins;
        descends = descends_above f v.path old.descends;
      })
      (λ j u ne here b. path_else j u ne here b) r.paths

  abbrev IsKnown : View → Position → Type 0
  IsKnown u q = IsTrue (is_spine u.levels q) ⊎ IsTrue (meets_span u q.base (end_of_table f q))

  known_else : (j : ℕ) (u : View) → j ≢ id → get_elem? views j ≡ some u → ((q : Position) → IsAmong u.known q → InTree l words views q × IsKnown u q) → (q : Position) → IsAmong u.known q → InTree l words' views' q × IsKnown u q
  known_else j u ne here b q m = dite (dec_le u.count 0)
      (λ none.
      let e : u ≡ spent = r.sizes.dead j u here (omega arith) in
      let nothing : places q u.known ≡ 0 = ap (λ (z : View). places q z.known) e in
      let some_one : 0 < places q u.known = m in absurd (omega arith))
      (λ alive. let c : InTree l words views q × IsKnown u q = b q m in (to_tree q (else_near j u ne here (omega arith) q c.1) c.0, c.1))

  known_cut : KnownPart f l words' views'
  known_cut = each_set (λ u. (q : Position) → IsAmong u.known q → InTree l words views q × IsKnown u q) (λ u. (q : Position) → IsAmong u.known q → InTree l words' views' q × IsKnown u q) views id v w at
      (λ q m. let a : (q ≡ child → ⊥) × IsAmong v.known q = was v.known q m in let c : InTree l words views q × IsKnown v q = r.known id v at q a.1 in (to_tree q a.0 c.0, c.1))
      (λ j u ne here b. known_else j u ne here b) r.known

  lawful : Lawful f n l words' views'
  lawful = together f n l words words' views id v w r at live same refl refl refl tags_kept (length_kept words (entry_place f n frame number) 0) frames_cut positions_cut root_cut parents_cut
      entries_cut books_cut paths_cut known_cut

  tells : UnlinkTells f n v (entry_of f n words frame number)
  tells =
      let mine : IsAmong v.tables child = own f n l good words views r id v at live frame number may in
      let c : (h : ℕ) × IsLinkedAt n words views h child × (entry_of f n words frame number ≡ f.pointer p.level (frame_address f h)) =
      pointer_at f n l words views good r frame p number frame_at may.within may.bare.high (child_is_there f n l good words views r id v at live frame number may) in
      let level : p.level ≡ child.level + 1 = (let high = may.bare.high in omega arith) in
      record {
        child = record { frame = g; position = child };
        last = may.last;
        a_frame = g_at.is_linked.within;
        was_pointer = c.2 ∙ (λ k. f.pointer (level k) (frame_address f (one_frame f n l words views good r c.0 g child c.1 g_at k)));
        own = mine;
        fewer = one_lost child v.tables (r.books id v at live).in_order mine;
      }

-- A store of zero over a table keeps the rule, and what it found tells.
pub unlink_keeps : (f : Layout) (n l : ℕ) → IsLayout f → (frame number : ℕ) → Keeps f n l (unlink frame number)
unlink_keeps f n l good frame number words views id v r at live may = (
  subst (λ (o : Option Node). Lawful f n l (slice_set words (entry_place f n frame number) 0) (set views id (unlinked o v))) (sym may.last)
      (lawful f n l good words views r id v at live frame number may),
  tells f n l good words views r id v at live frame number may,
)
