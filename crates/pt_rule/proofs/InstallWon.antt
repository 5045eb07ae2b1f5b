-- An install that was won: the prepared frame is linked at the child of a zero entry, which is then its pointer.
use Rattle.std.proofs.Common.{◌≡◌, ◌≢◌, ◌⊎◌, inl, inr, ℕ, Bool, true, false, ◌+◌, ◌-◌, ◌%◌, ◌^◌, ◌<◌, List, set, sym, refl, ap, ◌∙◌, subst, arith, ⊎_elim}
use Rattle.std.specs.Prelude.{IsTrue, nat_le, nat_lt, ◌&&◌, ◌||◌, ◌==◌, if◌then◌else◌, slice_index, slice_set, Option, None, Some}
use Rattle.std.proofs.lemmas.Bool.{and_from, or_left, or_right, le-leb, lt-ltb, false≢true, false_from_ne_true}
use mathlib.Core.Option.{some}
use mathlib.Core.Logic.{dite}
use native.Mathlib.Decide.{dec_le}
use lib.ListN.{get_elem?}
use Rattle.atomic_table.proofs.Lists.{set_here}
use Rattle.pt_model.specs.declared.position.Position.{Position}
use Rattle.pt_model.specs.Layout.{Layout}
use Rattle.pt_model.specs.Tables.{IsPosition, child_at, end_of_table, is_same, is_spine, parent_of, spine_position}
use Rattle.pt_model.specs.Words.{entry_of, entry_place, frame_address, placed_at, root_frame, root_level, tag}
use Rattle.pt_format.specs.Words.{IsTableLevel, IsTableAddress}
use Rattle.pt_format.specs.Laws.{IsLayout, WordsDiffer}
use Rattle.pt_view.specs.declared.view.View.{View}
use Rattle.pt_view.specs.declared.view.Prepared.{Prepared}
use Rattle.pt_model.specs.Sets.{places, IsAmong}
use Rattle.pt_view.specs.Views.{SameRange}
use Rattle.pt_view.specs.Calls.{meets_span, with_table}
use Rattle.pt_rule.specs.Totals.{total, bridge_in, bridge_pointer, has_bridge, has_piece, has_table, has_word, is_prepared, prepares}
use Rattle.pt_rule.specs.Tags.{is_placed}
use Rattle.pt_rule.specs.Linked.{IsLinked, IsLinkedAt, is_in_tree}
use Rattle.pt_rule.specs.Lawful.{Lawful, BooksPart, EntriesPart, FramesPart, IsOnPath, IsOwnPiece, IsOwnTable, ParentsPart, PathsPart, RootPart, has_child, slot_of}
use Rattle.pt_model.proofs.Places.{entry_else, entry_same, length_kept, root_after_entry, tag_after_entry}
use Rattle.pt_rule.proofs.TotalsKept.{at_inside, total_at, total_only, total_same, total_two}
use Rattle.pt_model.proofs.Positions.{among_cases, bit_le, bit_true, is_same_self, same_cases}
use Rattle.pt_view.proofs.Members.{all_map}
use Rattle.pt_rule.proofs.PartsKept.{together, InTree, root_moved, prepared_within, prepares_here, books_set, known_set}
use Rattle.pt_rule.proofs.PositionFacts.{child_of_parent, parent_of_child, slot_below, slot_of_child}
use Rattle.pt_rule.proofs.PieceFacts.{word_some}
use Rattle.pt_rule.proofs.TreeFacts.{an_empty, a_piece, a_child, entry_is, is_position, linked_there, level_low, no_words_of, one_frame, piece_home, prepared_tag, table_there, there_position}
use Rattle.pt_rule.proofs.TablesAdded.{with_all, with_cases, with_kept, with_new, with_order}
use Rattle.pt_rule.proofs.FindsKept.{piece_kept, table_kept, tree_found}
use Rattle.pt_rule.proofs.NewTable as linking
use Rattle.pt_rule.proofs.NewTable.{LinksNew}
use Rattle.pt_rule.proofs.LookKept.{StandsAt, child_meets, entered, path_more, pointer_facts}

-- a frame that a view doesn't prepare has no bridge of it
bridge_none : (f : Layout) (g i : ℕ) (o : Option Prepared) → is_prepared g o ≡ false → bridge_in f g i o ≡ 0
bridge_none f g i None e = refl
bridge_none f g i (Some x) e = ap (λ (b : Bool). if b && (i == 0) then bridge_pointer f x.position.level x.bridge else 0) e

no_bridge : (f : Layout) (h i g : ℕ) (p : Position) → bridge_in f h i (Some (record { frame = g; position = p; bridge = None })) ≡ 0
no_bridge f h i g p = either ((g == h) && (i == 0))
  where
    either : (b : Bool) → (let z : ℕ = if b then 0 else 0 in z) ≡ 0
    either true = refl
    either false = refl

-- What is known where an entry of a view's path is zero and the view prepares a frame for the child there.
module _ (f : Layout) (n l : ℕ) (good : IsLayout f) (d : WordsDiffer f) (words : List ℕ) (views : List View) (id : ℕ) (v : View) (r : Lawful f n l words views)
    (at : get_elem? views id ≡ some v) (live : 0 < v.count) (frame number : ℕ) (p : Position) (s : StandsAt f n words views v frame number p) (high : 0 < p.level)
    (g : ℕ) (prepared : v.prepared ≡ Some (record { frame = g; position = child_at f p number; bridge = None })) (empty : entry_of f n words frame number ≡ 0) where
  abbrev child : Position
  child = child_at f p number

  abbrev word : ℕ
  word = f.pointer p.level (frame_address f g)

  abbrev words' : List ℕ
  words' = slice_set words (entry_place f n frame number) word

  abbrev w : View
  w = record (entered f v g number p (with_table v.levels v.tables child)) { prepared = None }

  abbrev views' : List View
  views' = set views id w

  frame_in : frame < n
  frame_in = s.linked.is_linked.within

  place : IsPosition f p
  place = (is_position f n l words views good r frame p s.linked).0

  -- The frame, its tag, and the entry before.

  g_in : g < n
  g_in = prepared_within f n words views id v (record { frame = g; position = child; bridge = None }) r.frames at prepared

  g_once : total (prepares g) views ≡ 1
  g_once =
      let mine = prepares_here views id v (record { frame = g; position = child; bridge = None }) prepared in
      let most = total_at (prepares g) views id v at in let few = r.frames.prepared g g_in in let bit = bit_le (is_placed (tag words g)) in omega arith

  g_mine : prepares g v ≡ 1
  g_mine = prepares_here views id v (record { frame = g; position = child; bridge = None }) prepared

  nothing_there : (total (has_piece f p number) views ≡ 0) × (has_child f l words views p number ≡ false)
  nothing_there = elim (entry_is f n l words views good r frame p number s.linked s.within) [
    | an_empty z none childless ↦ (none, childless)
    | a_piece one is ↦ absurd (word_some f good one.view one.piece one.own d (sym is ∙ empty))
    | a_child h at_child above is ↦
        let facts : IsTableLevel f p.level × IsTableAddress f (frame_address f h) = pointer_facts f n l good words views r frame p s.linked high h at_child.is_linked.within in
        absurd (d.pointer_some p.level (frame_address f h) facts.0 facts.1 (sym is ∙ empty))
  ]

  not_there : InTree l words views child → ⊥
  not_there t = false≢true (sym nothing_there.1 ∙ and_from (nat_lt 0 p.level) _ (lt-ltb 0 p.level high) t)

  levels_are : v.levels ≡ l
  levels_are = (r.sizes.live id v at live).1

  pub won_off : is_spine v.levels child ≡ false
  won_off = false_from_ne_true (is_spine v.levels child) (λ e. not_there
      (or_left (is_spine l child && nat_le child.level (root_level words)) _
      (and_from (is_spine l child) _ (subst (λ (k : ℕ). is_spine k child ≡ true) levels_are e)
      (le-leb child.level (root_level words) (let low = level_low f n l words views good r p (linked_there f n l words views good r frame p s.linked) in omega arith)))))

  -- The words after.

  tags_kept : (h : ℕ) → h < n → tag words' h ≡ tag words h
  tags_kept h lt = tag_after_entry f n words frame number word h lt

  root_kept : slice_index words' 0 ≡ slice_index words 0
  root_kept = root_after_entry f n words frame number word

  level_kept : root_level words' ≡ root_level words
  level_kept = ap (λ (x : ℕ). x % 8) root_kept

  entry_there : entry_of f n words' frame number ≡ word
  entry_there = entry_same f n words frame number word r.sizes.words_are frame_in s.within

  entry_kept : (h i : ℕ) → i < 2 ^ f.index → (h ≡ frame → i ≡ number → ⊥) → entry_of f n words' h i ≡ entry_of f n words h i
  entry_kept h i small other = entry_else f n words frame number word h i s.within small other

  -- The frames that are linked.

  link : LinksNew n words words' views views' g child
  link = linking.links good words' id r at prepared w.top w.tables w.known w.path tags_kept

  -- The tree.

  tree_root : (q : Position) → is_in_tree l words' views' q ≡ is_in_tree l words views' q
  tree_root q = ap (λ (k : ℕ). (is_spine l q && nat_le q.level (k % 8)) || nat_lt 0 (total (has_table q) views')) root_kept

  tree_else : (q : Position) → (q ≡ child → ⊥) → is_in_tree l words' views' q ≡ is_in_tree l words views q
  tree_else q ne = tree_root q ∙ tree_found l words views id v w at q (λ b. with_kept v.levels v.tables child q b)
      (λ b. ⊎_elim (λ (old : IsAmong v.tables q). table_there f n l words views good r id v at q old) (λ (e : q ≡ child). absurd (ne e)) (with_cases v.levels v.tables child q b))

  tree_child : InTree l words' views' child
  tree_child = or_right (is_spine l child && nat_le child.level (root_level words')) _
      (let mine : 0 < places child w.tables = with_new v.levels v.tables child won_off in
      let most = total_at (has_table child) views' id w (set_here views id w (at_inside views id v at)) in lt-ltb 0 (total (has_table child) views') (omega arith))

  cases_child : (q : Position) → (q ≡ child) ⊎ (q ≡ child → ⊥)
  cases_child q = ⊎_elim (λ (e : q ≡ child). inl e) (λ (ne : is_same q child ≡ false). inr (λ e. false≢true (sym ne ∙ ap (is_same q) (sym e) ∙ is_same_self q q refl))) (same_cases q child)

  to_tree : (q : Position) → InTree l words views q → InTree l words' views' q
  to_tree q t = ⊎_elim (λ (e : q ≡ child). subst (InTree l words' views') (sym e) tree_child) (λ (ne : q ≡ child → ⊥). tree_else q ne ∙ t) (cases_child q)

  back_tree : (q : Position) → InTree l words' views' q → (q ≡ child) ⊎ InTree l words views q
  back_tree q t = ⊎_elim (λ (e : q ≡ child). inl e) (λ (ne : q ≡ child → ⊥). inr (sym (tree_else q ne) ∙ t)) (cases_child q)

  -- The parts.

  -- no view has a bridge in the frame, and its entries are zero
  bridges_kept : (h i : ℕ) → total (has_bridge f h i) views' ≡ total (has_bridge f h i) views
  bridges_kept h i = total_same (has_bridge f h i) views id v w at (sym (ap (bridge_in f h i) prepared ∙ no_bridge f h i g child))

  g_cleared : (i : ℕ) → i < 2 ^ f.index → entry_of f n words g i ≡ 0
  g_cleared i small =
      r.frames.cleared g i g_in link.unlinked small
      ∙ total_only (has_bridge f g i) views id v at
      (λ j u ne e. bridge_none f g i u.prepared
      (false_from_ne_true (is_prepared g u.prepared) (λ yes. let one = bit_true _ yes in let two = total_two (prepares g) views j id u v ne e at in omega (arith, one, two, g_once, g_mine))))
      ∙ ap (bridge_in f g i) prepared ∙ no_bridge f g i g child

  g_other : g ≢ frame
  g_other e = link.unlinked (subst (IsLinked n words views) (sym e) s.linked.is_linked)

  frames_won : FramesPart f n words' views'
  frames_won = linking.frames_won good words' id r at prepared w.top w.tables w.known w.path tags_kept
      (λ h i lt unlinked small.
      entry_kept h i small (λ e _. unlinked (subst (IsLinked n words' views') (sym e) (link.to frame s.linked.is_linked)))
      ∙ r.frames.cleared h i lt (λ b. unlinked (link.to h b)) small ∙ sym (bridges_kept h i))

  root_won : RootPart n words' views'
  root_won = root_moved n l words words' views id v w at (link.to_at (root_frame words) (spine_position (root_level words))) root_kept refl (omega arith) (r.root.greatest id v at) r.root

  under_place : parent_of f child ≡ p
  under_place = parent_of_child f p number high s.within place.aligned

  parents_won : ParentsPart f n l words' views'
  parents_won = record {
    closed = λ q t ne. ⊎_elim
        (λ (e : q ≡ child). to_tree (parent_of f q) (subst (InTree l words views) (sym under_place ∙ ap (parent_of f) (sym e)) (linked_there f n l words views good r frame p s.linked)))
        (λ (old : InTree l words views q). to_tree (parent_of f q) (r.parents.closed q old (still q ne)))
        (back_tree q t);
    named = λ x h q b ne c. ⊎_elim
        (λ (new : (h ≡ g) × (q ≡ child)). new_named x h q new.0 new.1 c)
        (λ (old : IsLinkedAt n words views h q). old_named x h q old (still q ne) c)
        (link.back_at h q b);
  }
    where
      still : (q : Position) → q ≢ spine_position (root_level words') → q ≢ spine_position (root_level words)
      still q ne e = ne (e ∙ ap spine_position (sym level_kept))

      -- the pointer to the new table stands at the entry
      new_named : (x h : ℕ) (q : Position) → h ≡ g → q ≡ child → IsLinkedAt n words' views' x (parent_of f q) → entry_of f n words' x (slot_of f q) ≡ f.pointer (q.level + 1) (frame_address f h)
      new_named x h q is_g is_child c =
          let here : IsLinkedAt n words' views' x p = subst (IsLinkedAt n words' views' x) (ap (parent_of f) is_child ∙ under_place) c in
          let is_frame : x ≡ frame = ⊎_elim
          (λ (new : (x ≡ g) × (p ≡ child)). absurd (let e : p.level ≡ p.level - 1 = ap (λ (y : Position). y.level) new.1 in omega arith))
          (λ (old : IsLinkedAt n words views x p). one_frame f n l words views good r x frame p old s.linked) (link.back_at x p here) in
          let low : q.level ≡ p.level - 1 = ap (λ (y : Position). y.level) is_child in
          let level : p.level ≡ q.level + 1 = omega arith in
          (λ k. entry_of f n words' (is_frame k) (slot_of f (is_child k))) ∙ ap (entry_of f n words' frame) (slot_of_child f p number high s.within place.aligned)
          ∙ entry_there ∙ (λ k. f.pointer (level k) (frame_address f (sym is_g k)))

      -- the others' pointers are at other entries
      old_named : (x h : ℕ) (q : Position) → IsLinkedAt n words views h q → q ≢ spine_position (root_level words) → IsLinkedAt n words' views' x (parent_of f q) →
          entry_of f n words' x (slot_of f q) ≡ f.pointer (q.level + 1) (frame_address f h)
      old_named x h q b ne c =
          let there = linked_there f n l words views good r h q b in
          let up : InTree l words views (parent_of f q) = r.parents.closed q there ne in
          let aligned = (there_position f n l words views good r q there).aligned in
          ⊎_elim
          (λ (new : (x ≡ g) × (parent_of f q ≡ child)). absurd (not_there (subst (InTree l words views) new.1 up)))
          (λ (old : IsLinkedAt n words views x (parent_of f q)).
          entry_kept x (slot_of f q) (slot_below f q aligned)
          (λ is_frame is_number.
          let is_p : parent_of f q ≡ p = sym old.at ∙ ap (λ (k : ℕ). placed_at (tag words k)) is_frame ∙ s.linked.at in
          not_there (subst (InTree l words views) (sym (child_of_parent f q aligned) ∙ (λ k. child_at f (is_p k) (is_number k))) there))
          ∙ r.parents.named x h q b ne old)
          (link.back_at x (parent_of f q) c)

  -- no piece stands at an entry over the new table, nor in it
  no_piece_over : (q : Position) (i : ℕ) → 0 < q.level → child_at f q i ≡ child → total (has_piece f q i) views ≡ 0
  no_piece_over q i above same = dite (dec_le (total (has_piece f q i) views) 0) (λ none. omega arith)
      (λ some_one.
      let home : InTree l words views q × (i < 2 ^ f.index) = piece_home f n l words views good r q i (omega arith) in
      let aligned = (there_position f n l words views good r q home.0).aligned in
      let is_p : q ≡ p = sym (parent_of_child f q i above home.1 aligned) ∙ ap (parent_of f) same ∙ under_place in
      let is_number : i ≡ number = sym (slot_of_child f q i above home.1 aligned) ∙ ap (slot_of f) same ∙ slot_of_child f p number high s.within place.aligned in
      (λ k. total (has_piece f (is_p k) (is_number k)) views) ∙ nothing_there.0)

  no_piece_in : (i : ℕ) → total (has_piece f child i) views ≡ 0
  no_piece_in = linking.no_piece_in good words' id r at prepared w.top w.tables w.known w.path tags_kept not_there tree_child to_tree back_tree

  entries_won : EntriesPart f n l words' views'
  entries_won = linking.entries_won good words' id r at prepared w.top w.tables w.known w.path tags_kept not_there tree_child to_tree back_tree no_piece_over
      (λ h i q b small childless. ⊎_elim
      (λ (new : (h ≡ g) × (q ≡ child)).
      (λ k. entry_of f n words' (new.0 k) i) ∙ entry_kept g i small (λ e _. g_other e) ∙ g_cleared i small
      ∙ sym (linking.words_kept good words' id r at prepared w.top w.tables w.known w.path tags_kept q i ∙ ap (λ (y : Position). total (has_word f y i) views) new.1 ∙ no_words_of f child i views (no_piece_in i)))
      (λ (old : IsLinkedAt n words views h q).
      linking.words_still good words' id r at prepared w.top w.tables w.known w.path tags_kept h i q to_tree
      (entry_kept h i small
      (λ is_frame is_number.
      let is_p : q ≡ p = sym old.at ∙ ap (λ (k : ℕ). placed_at (tag words k)) is_frame ∙ s.linked.at in
      let yes : has_child f l words' views' p number ≡ true = and_from (nat_lt 0 p.level) _ (lt-ltb 0 p.level high) tree_child in
      false≢true (sym childless ∙ (λ k. has_child f l words' views' (is_p k) (is_number k)) ∙ yes))) old small childless)
      (link.back_at h q b))

  range_kept : SameRange v w
  range_kept = record { frames = refl; levels = refl; first = refl; count = refl }

  meets : IsTrue (meets_span v child.base (end_of_table f child))
  meets = child_meets f n l good words views r v frame number p s high

  -- the tag of the frame named a position, which is the child
  child_position : IsPosition f child
  child_position = (prepared_tag f good n words views r.frames id v (record { frame = g; position = child; bridge = None }) at prepared).0

  books_won : BooksPart f views'
  books_won = books_set f views id v w at
      (λ some_page.
      let book = r.books id v at live in record {
        pieces = all_map (IsOwnPiece f v) (IsOwnPiece f w) v.pieces (λ x b. piece_kept f x v w range_kept (omega arith) (λ q c. with_kept v.levels v.tables child q c) (omega arith) b) book.pieces;
        tables = with_all v.levels v.tables child (IsOwnTable f w) (all_map (IsOwnTable f v) (IsOwnTable f w) v.tables (λ q b. table_kept f q v w range_kept b) book.tables)
            (λ e. record { a_position = child_position; off_spine = e; meets = meets });
        in_order = with_order v.levels v.tables child book.in_order;
        pieces_in_order = book.pieces_in_order;
        top_low = book.top_low;
        top_high = book.top_high;
      }) r.books

  paths_won : PathsPart f n words' views'
  paths_won = linking.paths_won good words' id r at prepared w.top w.tables w.known w.path tags_kept
      (let old = r.paths id v at in
      path_more f n words' views' w v.path (record { frame = frame; position = p }) (record { frame = g; position = child }) s.last refl
      (all_map (IsOnPath f n words views v) (IsOnPath f n words' views' w) v.path (λ x b. record { at = link.to_at x.frame x.position b.at; near = b.near }) old.nodes)
      old.begins old.descends (record { at = link.here; near = inr meets }) (record { number = number; within = s.within; high = high; is = refl }))

  pub install_won : Lawful f n l words' views'
  install_won = together f n l words words' views id v w r at live range_kept refl refl refl tags_kept (length_kept words (entry_place f n frame number) word) frames_won (linking.positions_won good words' id r at prepared w.top w.tables w.known w.path tags_kept not_there tree_child to_tree back_tree) root_won parents_won entries_won books_won paths_won
      (known_set f l words words' views id v w at to_tree
      (λ q b. ⊎_elim
      (λ (e : q ≡ child). (subst (InTree l words' views') (sym e) tree_child, inr (subst (λ (y : Position). IsTrue (meets_span v y.base (end_of_table f y))) (sym e) meets)))
      (λ (old : IsAmong v.known q). let c = r.known id v at q old in (to_tree q c.0, c.1))
      (among_cases q child v.known b)) r.known)
