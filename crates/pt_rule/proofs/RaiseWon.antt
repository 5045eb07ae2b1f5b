-- A raise that was won: the prepared frame is linked over the old top, which its entry 0 names, and is the root.
use Rattle.std.proofs.Common.{◌≡◌, ◌≢◌, ◌⊎◌, inl, inr, ℕ, true, false, ◌+◌, ◌-◌, ◌*◌, ◌%◌, ◌^◌, ◌<◌, ◌≤◌, List, [], ◌∷◌, set, sym, refl, ap, ◌∙◌, subst, arith, ⊎_elim, ne_eqb}
use Rattle.std.specs.Prelude.{IsTrue, map, nat_le, nat_lt, ◌&&◌, ◌==◌, slice_index, slice_set, None, Some}
use Rattle.std.proofs.lemmas.Bool.{and_parts, and_from, eqb-true, or_cases, or_left, or_right, le-leb, leb-true, lt-ltb, false≢true}
use Rattle.std.proofs.lemmas.Nat.{pow_pos}
use Rattle.std.proofs.Math.Nat.{zero-div, zero-mod}
use mathlib.Core.Option.{some}
use mathlib.Core.Logic.{dite}
use native.Mathlib.Decide.{ℕ_discrete, dec_le}
use lib.ListN.{get_elem?}
use Rattle.atomic_table.proofs.Lists.{set_here}
use Rattle.pt_model.specs.declared.position.Position.{Position}
use Rattle.pt_model.specs.Layout.{Layout, pages_of_entry, pages_of_table}
use Rattle.pt_model.specs.Tables.{IsPosition, child_at, end_of_table, is_same, is_spine, levels_between, parent_of, spine_position, starting_top}
use Rattle.pt_model.specs.Words.{entry_of, frame_address, placed_word, root_frame, root_level, root_word, tag}
use Rattle.pt_format.specs.Laws.{IsLayout}
use Rattle.pt_view.specs.declared.view.View.{View}
use Rattle.pt_view.specs.declared.view.Prepared.{Prepared}
use Rattle.pt_model.specs.Sets.{IsAmong}
use Rattle.pt_view.specs.Views.{SameRange}
use Rattle.pt_view.specs.Calls.{meets_span}
use Rattle.pt_rule.specs.Totals.{total, bridge_in, has_bridge, has_piece, has_table, has_word}
use Rattle.pt_rule.specs.Linked.{IsLinked, IsLinkedAt}
use Rattle.pt_rule.specs.Lawful.{Lawful, BooksPart, EntriesPart, FramesPart, HasBridge, IsBridged, IsOwnPiece, IsOwnTable, ParentsPart, PathsPart, RootPart, has_child, slot_of}
use Rattle.pt_rule.specs.Kinds.{over_top, with_spine}
use Rattle.pt_model.proofs.Tops.{table_mono}
use Rattle.pt_model.proofs.Places.{entry_after_root, length_kept, root_same, tag_after_root}
use Rattle.pt_rule.proofs.TotalsKept.{at_inside, each_set, total_same}
use Rattle.pt_model.proofs.Positions.{among_append, among_levels, is_same_self, same_cases, same_position}
use Rattle.pt_view.proofs.Members.{all_map}
use Rattle.pt_rule.proofs.PartsKept.{together, InTree, books_set, known_set}
use Rattle.pt_rule.proofs.TagFacts.{IsPreparedBy, prepared_by}
use Rattle.pt_rule.proofs.TreeFacts.{level_low, linked_there, no_words_of, one_frame, piece_home, prepared_tag}
use Rattle.pt_rule.proofs.FindsKept.{piece_kept, table_kept}
use Rattle.pt_rule.proofs.RootKept.{spine_is}
use Rattle.pt_rule.proofs.NewTable as linking
use Rattle.pt_rule.proofs.NewTable.{LinksNew}
use Rattle.pt_rule.proofs.BridgeKept.{bridge_here, bridge_low, bridge_none, bridge_total}

-- the parent of a spine position is the next one, at its entry 0
spine_parent : (f : Layout) (level : ℕ) → parent_of f (spine_position level) ≡ spine_position (level + 1)
spine_parent f level =
    let pages : ℕ = pages_of_table f (level + 1) in
    let none : 0 * pages ≡ 0 = omega arith in
    same_position (parent_of f (spine_position level)) (spine_position (level + 1)) refl (ap (λ (k : ℕ). k * pages) (zero-div pages) ∙ none)

spine_slot : (f : Layout) (level : ℕ) → slot_of f (spine_position level) ≡ 0
spine_slot f level = ap (λ (k : ℕ). k % 2 ^ f.index) (zero-div (pages_of_table f level)) ∙ zero-mod (2 ^ f.index)

spine_child : (f : Layout) (level : ℕ) → child_at f (spine_position (level + 1)) 0 ≡ spine_position level
spine_child f level =
    let e : level + 1 - 1 ≡ level = omega arith in
    let none : 0 + 0 * pages_of_entry f (level + 1) ≡ 0 = omega arith in
    same_position (child_at f (spine_position (level + 1)) 0) (spine_position level) e none

-- What is known where a view prepares a frame over the old top, which is the root.
module _ (f : Layout) (n l : ℕ) (good : IsLayout f) (words : List ℕ) (views : List View) (id : ℕ) (v : View) (r : Lawful f n l words views)
    (at : get_elem? views id ≡ some v) (live : 0 < v.count) (g old level : ℕ) (prepared : v.prepared ≡ Some (over_top g level (Some old))) where
  abbrev x : Prepared
  x = over_top g level (Some old)

  abbrev child : Position
  child = spine_position (level + 1)

  by : IsPreparedBy n words views id v g
  by = prepared_by f n words views r.frames id v x at prepared

  -- the tag of the frame names a position
  x_tag : IsPosition f child × (tag words g ≡ placed_word child)
  x_tag = prepared_tag f good n words views r.frames id v x at prepared

  pub legal : level + 1 < f.levels
  legal = x_tag.0.a_level

  -- the old top is linked at its level
  pub old_linked : IsLinkedAt n words views old (spine_position level)
  old_linked =
      let b : HasBridge f n words views v.levels child (Some old) = subst (IsBridged f n words views v.levels) prepared (r.frames.bridges id v at) in
      let e : level + 1 ≡ b.0 + 1 = ap (λ (p : Position). p.level) b.1 in let same : b.0 ≡ level = omega arith in
      subst (λ (k : ℕ). IsLinkedAt n words views old (spine_position k)) same b.2

  pub old_low : level ≤ root_level words
  old_low = level_low f n l words views good r (spine_position level) (linked_there f n l words views good r old (spine_position level) old_linked)

  -- where the root isn't the old top, its level is higher
  pub higher : slice_index words 0 ≢ root_word old level → level < root_level words
  higher other = dite (ℕ_discrete (root_level words) level)
      (λ e. absurd (other
      (let same : root_frame words ≡ old = one_frame f n l words views good r (root_frame words) old (spine_position level) (subst (λ (k : ℕ). IsLinkedAt n words views (root_frame words) (spine_position k)) e r.root.is_linked) old_linked in
      omega (arith, same, e))))
      (λ ne. let low = old_low in omega arith)

  module _ (found : slice_index words 0 ≡ root_word old level) where
    abbrev word : ℕ
    word = root_word g (level + 1)

    abbrev words' : List ℕ
    words' = slice_set words 0 word

    abbrev w : View
    w = record v {
      top = level + 1;
      prepared = None;
      path = record { frame = g; position = child } ∷ [];
      known = with_spine v.levels (level + 1) v.known;
    }

    abbrev views' : List View
    views' = set views id w

    child_low : level + 1 < 8
    child_low = let a = legal in let b = good.levels_high in omega arith

    was_level : root_level words ≡ level
    was_level = let low = child_low in omega (arith, found, low)

    was_frame : root_frame words ≡ old
    was_frame = let low = child_low in omega (arith, found, low)

    -- the spine starts at the old top or under it
    start_low : starting_top l ≤ level
    start_low =
        let levels : v.levels ≡ l = (r.sizes.live id v at live).1 in
        let book = r.books id v at live in let low = book.top_low in let most = r.root.greatest id v at in
        let same : starting_top v.levels ≡ starting_top l = ap starting_top levels in let is = was_level in omega arith

    not_there : InTree l words views child → ⊥
    not_there t = let h = level_low f n l words views good r child t in let e = was_level in omega arith

    not_old : level + 1 ≡ level → ⊥
    not_old e = omega arith

    -- The words after.

    tags_kept : (h : ℕ) → h < n → tag words' h ≡ tag words h
    tags_kept h lt = tag_after_root words word h

    root_now : slice_index words' 0 ≡ word
    root_now = root_same f n words word r.sizes.words_are

    level_now : root_level words' ≡ level + 1
    level_now = let low = child_low in let e = root_now in omega (arith, e, low)

    frame_now : root_frame words' ≡ g
    frame_now = let low = child_low in let e = root_now in omega (arith, e, low)

    entry_kept : (h i : ℕ) → entry_of f n words' h i ≡ entry_of f n words h i
    entry_kept h i = entry_after_root f n words word h i

    -- The frames that are linked.

    link : LinksNew n words words' views views' g child
    link = linking.links good words' id r at prepared w.top w.tables w.known w.path tags_kept

    -- The tree.

    tables_kept : (q : Position) → total (has_table q) views' ≡ total (has_table q) views
    tables_kept q = total_same (has_table q) views id v w at refl

    to_tree : (q : Position) → InTree l words views q → InTree l words' views' q
    to_tree q t = ⊎_elim
        (λ (s : (is_spine l q && nat_le q.level (root_level words)) ≡ true).
        let b : (is_spine l q ≡ true) × (nat_le q.level (root_level words) ≡ true) = and_parts (is_spine l q) _ s in
        let up = leb-true q.level (root_level words) b.1 in let was = was_level in let now = level_now in
        or_left (is_spine l q && nat_le q.level (root_level words')) _ (and_from (is_spine l q) _ b.0 (le-leb q.level (root_level words') (omega arith))))
        (λ (t : nat_lt 0 (total (has_table q) views) ≡ true).
        or_right (is_spine l q && nat_le q.level (root_level words')) _ (ap (λ (k : ℕ). nat_lt 0 k) (tables_kept q) ∙ t))
        (or_cases (is_spine l q && nat_le q.level (root_level words)) _ t)

    tree_child : InTree l words' views' child
    tree_child = let now = level_now in
        or_left (is_spine l child && nat_le child.level (root_level words')) _
        (and_from (is_spine l child) _ (spine_is l (level + 1) (let low = start_low in omega arith)) (le-leb child.level (root_level words') (omega arith)))

    back_tree : (q : Position) → InTree l words' views' q → (q ≡ child) ⊎ InTree l words views q
    back_tree q t = ⊎_elim
        (λ (s : (is_spine l q && nat_le q.level (root_level words')) ≡ true).
        let b : (is_spine l q ≡ true) × (nat_le q.level (root_level words') ≡ true) = and_parts (is_spine l q) _ s in
        let up = leb-true q.level (root_level words') b.1 in let was = was_level in let now = level_now in
        let c : (nat_le (starting_top l) q.level ≡ true) × ((q.base == 0) ≡ true) = and_parts (nat_le (starting_top l) q.level) _ b.0 in
        dite (ℕ_discrete q.level (level + 1))
        (λ e. inl (same_position q child e (eqb-true q.base 0 c.1)))
        (λ ne. inr (or_left (is_spine l q && nat_le q.level (root_level words)) _ (and_from (is_spine l q) _ b.0 (le-leb q.level (root_level words) (omega arith))))))
        (λ (t : nat_lt 0 (total (has_table q) views') ≡ true).
        inr (or_right (is_spine l q && nat_le q.level (root_level words)) _ (ap (λ (k : ℕ). nat_lt 0 k) (sym (tables_kept q)) ∙ t)))
        (or_cases (is_spine l q && nat_le q.level (root_level words')) _ t)

    -- The parts.

    -- the new top has the old one's pointer at its entry 0, and no other word
    g_entry : (i : ℕ) → i < 2 ^ f.index → entry_of f n words' g i ≡ bridge_in f g i (Some x)
    g_entry i small = entry_kept g i ∙ r.frames.cleared g i by.within link.unlinked small ∙ bridge_total f n words views r.frames id v x at prepared i

    bridges_kept : (h i : ℕ) → h ≢ g → total (has_bridge f h i) views' ≡ total (has_bridge f h i) views
    bridges_kept h i ne = total_same (has_bridge f h i) views id v w at (sym (ap (bridge_in f h i) prepared ∙ bridge_none f h i (Some x) (ne_eqb g h (λ e. ne (sym e)))))

    frames_won : FramesPart f n words' views'
    frames_won = linking.frames_won good words' id r at prepared w.top w.tables w.known w.path tags_kept
        (λ h i lt unlinked small.
        let ne : h ≢ g = (λ e. unlinked (subst (IsLinked n words' views') (sym e) link.here.is_linked)) in
        entry_kept h i ∙ r.frames.cleared h i lt (λ b. unlinked (link.to h b)) small ∙ sym (bridges_kept h i ne))

    root_won : RootPart n words' views'
    root_won = record {
      is_linked = subst (λ (s : ℕ × ℕ). IsLinkedAt n words' views' s.0 (spine_position s.1)) (λ k. (sym frame_now k, sym level_now k)) link.here;
      greatest = each_set (λ u. u.top ≤ root_level words) (λ u. u.top ≤ root_level words') views id v w at
          (let now = level_now in omega arith) (λ j u ne here b. let was = was_level in let now = level_now in omega arith) r.root.greatest;
      reached = (id, w, set_here views id w (at_inside views id v at), live, sym level_now);
    }

    -- the old root is now a child
    old_place : (q : Position) → q ≢ spine_position (root_level words') → (q ≡ spine_position level) ⊎ (q ≢ spine_position (root_level words))
    old_place q ne = ⊎_elim (λ (e : q ≡ spine_position level). inl e)
        (λ (other : is_same q (spine_position level) ≡ false). inr (λ e. false≢true (sym other ∙ ap (is_same q) (ap spine_position (sym was_level) ∙ sym e) ∙ is_same_self q q refl)))
        (same_cases q (spine_position level))

    parents_won : ParentsPart f n l words' views'
    parents_won = record {
      closed = λ q t ne. ⊎_elim
          (λ (e : q ≡ child). absurd (ne (e ∙ ap spine_position (sym level_now))))
          (λ (was : InTree l words views q). ⊎_elim
          (λ (top : q ≡ spine_position level). subst (InTree l words' views') (sym (ap (parent_of f) top ∙ spine_parent f level)) tree_child)
          (λ (under : q ≢ spine_position (root_level words)). to_tree (parent_of f q) (r.parents.closed q was under)) (old_place q ne))
          (back_tree q t);
      named = λ y h q b ne c. ⊎_elim
          (λ (new : (h ≡ g) × (q ≡ child)). absurd (ne (new.1 ∙ ap spine_position (sym level_now))))
          (λ (was : IsLinkedAt n words views h q). ⊎_elim
          (λ (top : q ≡ spine_position level). top_named y h q was top c)
          (λ (under : q ≢ spine_position (root_level words)). old_named y h q was under c) (old_place q ne))
          (link.back_at h q b);
    }
      where
        -- the pointer to the old top stands at entry 0 of the new one
        top_named : (y h : ℕ) (q : Position) → IsLinkedAt n words views h q → q ≡ spine_position level → IsLinkedAt n words' views' y (parent_of f q) →
            entry_of f n words' y (slot_of f q) ≡ f.pointer (q.level + 1) (frame_address f h)
        top_named y h q b top c =
            let here : IsLinkedAt n words' views' y child = subst (IsLinkedAt n words' views' y) (ap (parent_of f) top ∙ spine_parent f level) c in
            let is_g : y ≡ g = ⊎_elim (λ (new : (y ≡ g) × (child ≡ child)). new.0)
            (λ (was : IsLinkedAt n words views y child). absurd (not_there (linked_there f n l words views good r y child was))) (link.back_at y child here) in
            let is_old : h ≡ old = one_frame f n l words views good r h old (spine_position level) (subst (IsLinkedAt n words views h) top b) old_linked in
            (λ k. entry_of f n words' (is_g k) (slot_of f (top k))) ∙ ap (entry_of f n words' g) (spine_slot f level)
            ∙ g_entry 0 (pow_pos f.index) ∙ bridge_here f x ∙ (λ k. f.pointer ((sym top k).level + 1) (frame_address f (sym is_old k)))

        old_named : (y h : ℕ) (q : Position) → IsLinkedAt n words views h q → q ≢ spine_position (root_level words) → IsLinkedAt n words' views' y (parent_of f q) →
            entry_of f n words' y (slot_of f q) ≡ f.pointer (q.level + 1) (frame_address f h)
        old_named y h q b ne c =
            let up : InTree l words views (parent_of f q) = r.parents.closed q (linked_there f n l words views good r h q b) ne in
            ⊎_elim
            (λ (new : (y ≡ g) × (parent_of f q ≡ child)). absurd (not_there (subst (InTree l words views) new.1 up)))
            (λ (was : IsLinkedAt n words views y (parent_of f q)). entry_kept y (slot_of f q) ∙ r.parents.named y h q b ne was)
            (link.back_at y (parent_of f q) c)

    no_piece_in : (i : ℕ) → total (has_piece f child i) views ≡ 0
    no_piece_in = linking.no_piece_in good words' id r at prepared w.top w.tables w.known w.path tags_kept not_there tree_child to_tree back_tree

    -- the tree has no more over an entry than before, but for the new top, over which no table is
    no_piece_over : (q : Position) (i : ℕ) → 0 < q.level → child_at f q i ≡ child → total (has_piece f q i) views ≡ 0
    no_piece_over q i above same = dite (dec_le (total (has_piece f q i) views) 0) (λ none. omega arith)
        (λ some_one.
        let low = level_low f n l words views good r q (piece_home f n l words views good r q i (omega arith)).0 in
        let e : q.level - 1 ≡ level + 1 = ap (λ (p : Position). p.level) same in let was = was_level in absurd (omega arith))

    entries_won : EntriesPart f n l words' views'
    entries_won = linking.entries_won good words' id r at prepared w.top w.tables w.known w.path tags_kept not_there tree_child to_tree back_tree no_piece_over
        (λ h i q b small childless. ⊎_elim
        (λ (new : (h ≡ g) × (q ≡ child)).
        let high : 0 < i = dite (ℕ_discrete i 0) (λ z. absurd (false≢true (sym childless ∙ (λ k. has_child f l words' views' (new.1 k) (z k)) ∙ has_old))) (λ ne. omega arith) in
        (λ k. entry_of f n words' (new.0 k) i) ∙ g_entry i small ∙ bridge_low f g i x (λ z. omega arith)
        ∙ sym (linking.words_kept good words' id r at prepared w.top w.tables w.known w.path tags_kept q i ∙ ap (λ (y : Position). total (has_word f y i) views) new.1 ∙ no_words_of f child i views (no_piece_in i)))
        (λ (was : IsLinkedAt n words views h q). linking.words_still good words' id r at prepared w.top w.tables w.known w.path tags_kept h i q to_tree (entry_kept h i) was small childless)
        (link.back_at h q b))
      where
        -- the old top is the child at entry 0
        has_old : has_child f l words' views' child 0 ≡ true
        has_old = and_from (nat_lt 0 (level + 1)) _ (lt-ltb 0 (level + 1) (omega arith))
            (to_tree (child_at f child 0) (subst (InTree l words views) (sym (spine_child f level)) (linked_there f n l words views good r old (spine_position level) old_linked)))

    range_kept : SameRange v w
    range_kept = record { frames = refl; levels = refl; first = refl; count = refl }

    levels_are : v.levels ≡ l
    levels_are = (r.sizes.live id v at live).1

    start_here : starting_top v.levels ≤ level
    start_here = subst (λ (k : ℕ). starting_top k ≤ level) (sym levels_are) start_low

    top_more : v.top ≤ level
    top_more = let most = r.root.greatest id v at in let was = was_level in omega arith

    wider : pages_of_table f v.top ≤ pages_of_table f (level + 1)
    wider = let more = top_more in table_mono f v.top (level + 1) (omega arith)

    books_won : BooksPart f views'
    books_won = books_set f views id v w at
        (λ some_page.
        let book = r.books id v at live in let more = top_more in let start = start_here in record {
          pieces = all_map (IsOwnPiece f v) (IsOwnPiece f w) v.pieces (λ y b. piece_kept f y v w range_kept (omega arith) (λ q c. c) wider b) book.pieces;
          tables = all_map (IsOwnTable f v) (IsOwnTable f w) v.tables (λ q b. table_kept f q v w range_kept b) book.tables;
          in_order = book.in_order;
          pieces_in_order = book.pieces_in_order;
          top_low = omega arith;
          top_high = legal;
        }) r.books

    on_spine : IsTrue (is_spine v.levels child)
    on_spine = let start = start_here in spine_is v.levels (level + 1) (omega arith)

    paths_won : PathsPart f n words' views'
    paths_won = linking.paths_won good words' id r at prepared w.top w.tables w.known w.path tags_kept (record { nodes = (record { at = link.here; near = inl on_spine }, tt); begins = on_spine; descends = tt })

    -- the spine up to the new top is of the tree
    spine_known : (p : Position) → IsAmong w.known p → InTree l words' views' p × (IsTrue (is_spine w.levels p) ⊎ IsTrue (meets_span w p.base (end_of_table f p)))
    spine_known p a = ⊎_elim
        (λ (new : IsAmong (map spine_position (levels_between (starting_top v.levels) (level + 1))) p).
        let t : (k : ℕ) × (starting_top v.levels ≤ k) × (k < starting_top v.levels + (level + 1 + 1 - starting_top v.levels)) × (p ≡ spine_position k) =
        among_levels spine_position (level + 1 + 1 - starting_top v.levels) (starting_top v.levels) p new in
        let from = t.1 in let to = t.2 in let start = start_here in (
          subst (InTree l words' views') (sym t.3)
              (let now = level_now in or_left (is_spine l (spine_position t.0) && nat_le t.0 (root_level words')) _
              (and_from (is_spine l (spine_position t.0)) _ (subst (λ (k : ℕ). IsTrue (is_spine k (spine_position t.0))) levels_are (spine_is v.levels t.0 from)) (le-leb t.0 (root_level words') (omega arith)))),
          inl (subst (λ (q : Position). IsTrue (is_spine v.levels q)) (sym t.3) (spine_is v.levels t.0 from)),
        ))
        (λ (was : IsAmong v.known p). let c = r.known id v at p was in (to_tree p c.0, c.1))
        (among_append p (map spine_position (levels_between (starting_top v.levels) (level + 1))) v.known a)

    pub raise_won : Lawful f n l words' views'
    raise_won = together f n l words words' views id v w r at live range_kept refl refl refl tags_kept (length_kept words 0 word) frames_won (linking.positions_won good words' id r at prepared w.top w.tables w.known w.path tags_kept not_there tree_child to_tree back_tree) root_won parents_won entries_won books_won paths_won
        (known_set f l words words' views id v w at to_tree spine_known r.known)
