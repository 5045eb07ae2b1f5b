-- Every linked frame of words at rest is reached, so that an image of them has no stray entry, and is good.
use Rattle.std.proofs.Common.{◌≡◌, ◌≢◌, inl, inr, ⊎_elim, ℕ, zero, suc, true, false, ◌+◌, ◌-◌, ◌*◌, ◌/◌, ◌%◌, ◌^◌, ◌<◌, ◌≤◌, List, [], ◌∷◌, ◌++◌, refl, sym, ap, ◌∙◌, subst, arith}
use Rattle.std.specs.Prelude.{IsTrue, Option, Some, slice_index}
use Rattle.std.proofs.lemmas.Bool.{cases_Bool, false≢true}
use mathlib.Core.Logic.{dite}
use native.Mathlib.Decide.{ℕ_discrete}
use Rattle.pt_model.specs.declared.block.Block.{Block}
use Rattle.pt_model.specs.declared.position.Position.{Position}
use Rattle.pt_model.specs.Layout.{Layout, pages_of_table}
use Rattle.pt_model.specs.Tables.{child_at, is_same, parent_of, spine_position}
use Rattle.pt_model.specs.Words.{placed_at, placed_word, tag}
use Rattle.pt_model.proofs.Positions.{is_same_self, same_cases, same_position}
use Rattle.pt_model.proofs.Quotients.{whole}
use Rattle.pt_format.specs.Laws.{IsLayout, WordsDiffer}
use Rattle.pt_format.specs.Words.{IsTableLevel}
use Rattle.pt_view.specs.declared.view.View.{View}
use Rattle.pt_view.specs.declared.view.Prepared.{Prepared}
use Rattle.pt_view.specs.Calls.{entry_first}
use Rattle.pt_view.proofs.Entries.{child_is}
use Rattle.pt_rule.specs.Lawful.{slot_of}
use Rattle.pt_rule.specs.Linked.{IsLinkedAt, is_in_tree}
use Rattle.pt_rule.specs.Tags.{IsTag, free, held, placed, held_word, is_placed}
use Rattle.pt_rule.specs.Totals.{bridge_in, is_prepared}
use Rattle.pt_model.specs.Sets.{one_if}
use Rattle.pt_rule.proofs.HolderFacts.{placed_back}
use Rattle.pt_rule.proofs.TagFacts.{held_is, held_unplaced}
use Rattle.pt_image.specs.Books.{IsVisited, RestsAlone}
use Rattle.pt_image.specs.Bytes.{entry_at, root_in}
use Rattle.pt_image.specs.Order.{Visit, visits}
use Rattle.pt_image.specs.Faults.{IsGoodImage, IsNamed, IsReached, IsStray, all_visits, target}
use Rattle.pt_image.specs.Visits.{HasImage}
use Rattle.pt_image.proofs.Firsts.{own, own_table, visits_append, visits_none, visits_one}
use Rattle.pt_image.proofs.Pointing.{pointed_some}
use Rattle.pt_image.proofs.Reaching as reaching
use Rattle.pt_image.proofs.Resting.{has_root, position, root_at}
use Rattle.pt_image.proofs.RestingGood.{all_good, named_at}

visited_left : (xs ys : List Visit) (w : Visit) → IsVisited xs w → IsVisited (xs ++ ys) w
visited_left [] ys w a = absurd a
visited_left (x ∷ xs) ys w (inl here) = inl here
visited_left (x ∷ xs) ys w (inr more) = inr (visited_left xs ys w more)

visited_right : (xs ys : List Visit) (w : Visit) → IsVisited ys w → IsVisited (xs ++ ys) w
visited_right [] ys w a = a
visited_right (x ∷ xs) ys w a = inr (visited_right xs ys w a)

-- what an entry of a table visits is among what the table does
has_own : (f : Layout) (n : ℕ) (image : List ℕ) (level frame base i count j : ℕ) → i ≤ j → j < i + count → (w : Visit) → IsVisited (own f n image level frame base j) w →
    IsVisited (visits f n image level frame base i count) w
has_own f n image level frame base i zero j low lt w m = absurd (omega arith)
has_own f n image level frame base i (suc count) j low lt w m =
    let more : suc count ≡ count + 1 = omega arith in
    let xs : List Visit = visits f n image level frame base i count in
    let ys : List Visit = visits f n image level frame base (i + count) 1 in
    let is : visits f n image level frame base i (suc count) ≡ xs ++ ys = ap (visits f n image level frame base i) more ∙ visits_append f n image level frame base i count 1 in
    subst (λ (zs : List Visit). IsVisited zs w) (sym is)
    (dite (ℕ_discrete j (i + count))
    (λ e. visited_right xs ys w (subst (λ (zs : List Visit). IsVisited zs w) (ap (own f n image level frame base) e ∙ sym (visits_one f n image level frame base (i + count))) m))
    (λ ne. visited_left xs ys w (has_own f n image level frame base i count j low (omega arith) w m)))

-- the child at the entry over a table is the table
pub child_of_parent : (f : Layout) (p : Position) → p.base % pages_of_table f p.level ≡ 0 → child_at f (parent_of f p) (slot_of f p) ≡ p
child_of_parent f p aligned =
    let back : p.level + 1 - 1 ≡ p.level = omega arith in
    child_is f p.base (p.level + 1) (omega arith)
    ∙ same_position _ p back (ap (λ (k : ℕ). p.base / pages_of_table f k * pages_of_table f k) back ∙ sym (whole p.base (f.index * (p.level + 1)) aligned))

module _ (f : Layout) (good : IsLayout f) (differ : WordsDiffer f) (n l : ℕ) (image words : List ℕ) (v : View) (blocks : List Block)
    (r : RestsAlone f n l words v blocks) (has : HasImage f n image words) where
  abbrev At : (frame : ℕ) → Position → Type 0
  At frame p = IsLinkedAt n words (v ∷ []) frame p

  abbrev root : Position
  root = spine_position (root_in image % 8)

  abbrev visit : (frame : ℕ) → Position → (number : ℕ) → Visit
  visit frame p number = record { frame = frame; position = p; number = number }

  tag_word : (word : ℕ) → IsTag f word → IsTrue (is_placed word) → word ≡ placed_word (placed_at word)
  tag_word word (free e) is = absurd (false≢true (sym (ap is_placed e) ∙ is))
  tag_word word (held next e) is = absurd (false≢true (sym (held_unplaced (held_word next) (held_is next)) ∙ sym (ap is_placed e) ∙ is))
  tag_word word (placed p a e) is =
      e ∙ ap placed_word (sym (ap placed_at e ∙ placed_back p (let x = a.a_level in let y = good.levels_high in omega arith)))

  -- one frame is linked at a position
  pub one_frame : (g h : ℕ) (p : Position) → At g p → At h p → g ≡ h
  one_frame g h p a b = r.lawful.positions.distinct g h a.is_linked b.is_linked
      (tag_word (tag words g) (r.lawful.frames.tags g a.is_linked.within) a.is_linked.placed ∙ ap placed_word (a.at ∙ sym b.at)
      ∙ sym (tag_word (tag words h) (r.lawful.frames.tags h b.is_linked.within) b.is_linked.placed))

  -- a table but the root's has a table above it, whose entry over it points to its frame
  pub record HasParent (h : ℕ) (p : Position) : Type 0 where
    pub frame : ℕ
    pub linked : At frame (parent_of f p)
    pub points : target f n l image (visit frame (parent_of f p) (slot_of f p)) ≡ Some h

  pub has_parent : (h : ℕ) (p : Position) → At h p → is_same p root ≡ false → HasParent h p
  has_parent h p a apart =
      let ne : p ≢ root = (λ e. false≢true (sym apart ∙ ap (is_same p) (sym e) ∙ is_same_self p p refl)) in
      let root_is : spine_position (slice_index words 0 % 8) ≡ root = ap (λ (w : ℕ). spine_position (w % 8)) has.root in
      let there : IsTrue (is_in_tree l words (v ∷ []) p) = subst (λ (q : Position). IsTrue (is_in_tree l words (v ∷ []) q)) a.at (r.lawful.positions.in_tree h a.is_linked) in
      let up = r.lawful.parents.closed p there (λ e. ne (e ∙ root_is)) in
      let g : (frame : ℕ) × At frame (parent_of f p) = r.lawful.positions.all (parent_of f p) up in
      let high : IsTableLevel f (p.level + 1) = record { above = omega arith; below = (position f good n l image words v blocks r has g.0 (parent_of f p) g.1).a_level } in
      record {
        frame = g.0;
        linked = g.1;
        points = pointed_some f differ (p.level + 1) n (entry_at f image g.0 (slot_of f p)) h high r.lawful.sizes.limit a.is_linked.within
            (named_at f good differ n l image words v blocks r has g.0 h p a ne g.1);
      }

  abbrev at : (level base : ℕ) → Position
  at level base = record { level = level; base = base }

  -- the entries of the table to which a visited entry points are visited
  abbrev Closed : (level frame base i count : ℕ) → Type 0
  Closed level frame base i count = (w : Visit) (child : ℕ) → IsVisited (visits f n image level frame base i count) w → target f n l image w ≡ Some child →
      (j : ℕ) → j < 2 ^ f.index → IsVisited (visits f n image level frame base i count) (visit child (child_at f w.position w.number) j)

  abbrev ClosedBelow : (level : ℕ) → Type 0
  ClosedBelow level = (child first : ℕ) → 0 < level → At child (at (level - 1) first) → Closed (level - 1) child first 0 (2 ^ f.index)

  abbrev ClosedOwn : (level frame base i : ℕ) → Type 0
  ClosedOwn level frame base i = (w : Visit) (child : ℕ) → IsVisited (own f n image level frame base i) w → target f n l image w ≡ Some child →
      (j : ℕ) → j < 2 ^ f.index → IsVisited (own f n image level frame base i) (visit child (child_at f w.position w.number) j)

  -- the entry itself points to a table
  closed_here : (level frame base i child : ℕ) → At frame (at level base) → i < 2 ^ f.index → target f n l image (visit frame (at level base) i) ≡ Some child → (j : ℕ) → j < 2 ^ f.index →
      IsVisited (own f n image level frame base i) (visit child (child_at f (at level base) i) j)
  closed_here level frame base i child a small points j lt =
      let to = reaching.target_linked f good differ n l image words v blocks r has (visit frame (at level base) i) child (record { linked = a; small = small }) points in
      let is = own_table f n image level frame base i child (let k = to.1.above in omega arith) points in
      subst (λ (zs : List Visit). IsVisited zs (visit child (child_at f (at level base) i) j)) (sym is)
      (inr (has_own f n image (level - 1) child (entry_first f (at level base) i) 0 (2 ^ f.index) j (omega arith) (omega arith) (visit child (child_at f (at level base) i) j) (inl refl)))

  closed_own : (level frame base i : ℕ) → At frame (at level base) → i < 2 ^ f.index → ClosedBelow level → ClosedOwn level frame base i
  closed_own level frame base i a small below w child m points j lt =
      let u : Visit = visit frame (at level base) i in
      let head : u ≡ w → IsVisited (own f n image level frame base i) (visit child (child_at f w.position w.number) j) =
      (λ e. subst (λ (x : Visit). IsVisited (own f n image level frame base i) (visit child (child_at f x.position x.number) j)) e
      (closed_here level frame base i child a small (subst (λ (x : Visit). target f n l image x ≡ Some child) (sym e) points) j lt)) in
      elim (reaching.owns f good differ n l image words v blocks r has level frame base i a small) [
        | reaching.alone is ↦ ⊎_elim head (λ x. absurd x) (subst (λ (zs : List Visit). IsVisited zs w) is m)
        | reaching.table other linked high word is ↦ ⊎_elim head
            (λ deep. subst (λ (zs : List Visit). IsVisited zs (visit child (child_at f w.position w.number) j)) (sym is)
            (inr (below other (entry_first f (at level base) i) (let k = high.above in omega arith) linked w child deep points j lt)))
            (subst (λ (zs : List Visit). IsVisited zs w) is m)
      ]

  closed_count : (level frame base i count : ℕ) → At frame (at level base) → i + count ≤ 2 ^ f.index → ClosedBelow level → Closed level frame base i count
  closed_count level frame base i zero a fits below w child m points j lt = absurd (subst (λ (zs : List Visit). IsVisited zs w) (visits_none f n image level frame base i) m)
  closed_count level frame base i (suc count) a fits below w child m points j lt =
      let more : suc count ≡ count + 1 = omega arith in
      let xs : List Visit = visits f n image level frame base i count in
      let ys : List Visit = visits f n image level frame base (i + count) 1 in
      let is : visits f n image level frame base i (suc count) ≡ xs ++ ys = ap (visits f n image level frame base i) more ∙ visits_append f n image level frame base i count 1 in
      let one = visits_one f n image level frame base (i + count) in
      let to : Visit = visit child (child_at f w.position w.number) j in
      subst (λ (zs : List Visit). IsVisited zs to) (sym is)
      (⊎_elim
      (λ old. visited_left xs ys to (closed_count level frame base i count a (omega arith) below w child old points j lt))
      (λ new. visited_right xs ys to (subst (λ (zs : List Visit). IsVisited zs to) (sym one)
      (closed_own level frame base (i + count) a (omega arith) below w child (subst (λ (zs : List Visit). IsVisited zs w) one new) points j lt)))
      (reaching.visited_parts xs ys w (subst (λ (zs : List Visit). IsVisited zs w) is m)))

  closed_tables : (tables level frame base : ℕ) → level < tables → At frame (at level base) → Closed level frame base 0 (2 ^ f.index)
  closed_tables zero level frame base lt a = absurd (omega arith)
  closed_tables (suc tables) level frame base lt a = closed_count level frame base 0 (2 ^ f.index) a (omega arith)
      (λ child first high b. closed_tables tables (level - 1) child first (omega arith) b)

  -- the entries of every linked frame are visited
  pub reaches : (tables frame : ℕ) (p : Position) → At frame p → f.levels ≤ p.level + tables → (i : ℕ) → i < 2 ^ f.index →
      IsVisited (all_visits f n l image) (visit frame p i)
  reaches zero frame p a far i lt = absurd (let x = (position f good n l image words v blocks r has frame p a).a_level in omega arith)
  reaches (suc tables) frame p a far i lt = ⊎_elim
      (λ (e : p ≡ root).
      let top = root_at f good n l image words v blocks r has in
      let same : root_in image / 8 ≡ frame = one_frame (root_in image / 8) frame root top (subst (At frame) e a) in
      subst (IsVisited (all_visits f n l image)) (λ k. visit (same k) (sym e k) i)
      (has_own f n image (root_in image % 8) (root_in image / 8) 0 0 (2 ^ f.index) i (omega arith) (omega arith) (visit (root_in image / 8) root i) (inl refl)))
      (λ (apart : is_same p root ≡ false).
      let up : HasParent frame p = has_parent frame p a apart in
      let above = reaches tables up.frame (parent_of f p) up.linked (omega arith) (slot_of f p) (reaching.slot_small f p) in
      let child = child_of_parent f p (position f good n l image words v blocks r has frame p a).aligned in
      subst (λ (q : Position). IsVisited (all_visits f n l image) (visit frame q i)) child
      (closed_tables (root_in image % 8 + 1) (root_in image % 8) (root_in image / 8) 0 (omega arith) (root_at f good n l image words v blocks r has)
      (visit up.frame (parent_of f p) (slot_of f p)) frame above up.points i lt))
      (same_cases p root)

  named_in : (vs : List Visit) (w : Visit) (child : ℕ) → IsVisited vs w → target f n l image w ≡ Some child → IsNamed f n l image vs child
  named_in [] w child m points = absurd m
  named_in (x ∷ xs) w child (inl e) points = inl (subst (λ (u : Visit). target f n l image u ≡ Some child) (sym e) points)
  named_in (x ∷ xs) w child (inr more) points = inr (named_in xs w child more points)

  -- every linked frame is reached
  pub reached : (frame : ℕ) (p : Position) → At frame p → IsReached f n l image (all_visits f n l image) frame
  reached frame p a = ⊎_elim
      (λ (e : p ≡ root). inl (one_frame (root_in image / 8) frame root (root_at f good n l image words v blocks r has) (subst (At frame) e a)))
      (λ (apart : is_same p root ≡ false).
      let up : HasParent frame p = has_parent frame p a apart in
      inr (named_in (all_visits f n l image) (visit up.frame (parent_of f p) (slot_of f p)) frame
      (reaches f.levels up.frame (parent_of f p) up.linked (omega arith) (slot_of f p) (reaching.slot_small f p)) up.points))
      (same_cases p root)

  no_stray : (frame index : ℕ) → ¬ IsStray f n l image frame index
  no_stray frame index s = ⊎_elim
      (λ (yes : is_placed (tag words frame) ≡ true).
      s.free (reached frame (placed_at (tag words frame)) (record {
        is_linked = record { within = s.a_frame; placed = yes; unprepared = ap (λ (o : Option Prepared). one_if (is_prepared frame o) + 0) r.rest.prepared };
        at = refl;
      })))
      (λ (no : is_placed (tag words frame) ≡ false).
      let cleared = r.lawful.frames.cleared frame index s.a_frame (λ a. false≢true (sym no ∙ a.placed)) s.an_entry in
      let none : bridge_in f frame index v.prepared + 0 ≡ 0 = ap (λ (o : Option Prepared). bridge_in f frame index o + 0) r.rest.prepared in
      s.some (sym (has.entries frame s.a_frame index s.an_entry) ∙ cleared ∙ none))
      (cases_Bool (is_placed (tag words frame)))

  pub good_image : IsGoodImage f n l image
  good_image = record { root = has_root f good n l image words v blocks r has; entries = all_good f good differ n l image words v blocks r has; no_stray = no_stray }
