-- A whole draft is sound: the tables that lie on the spine of a space that started lower are its spine.
use Rattle.std.proofs.Common.{◌≡◌, ◌≢◌, ◌⊎◌, inl, inr, ⊎_elim, ℕ, Bool, true, false, ◌+◌, ◌-◌, ◌<◌, ◌≤◌, List, [], ◌∷◌, refl, sym, ap, ◌∙◌, subst, arith}
use Rattle.std.specs.Prelude.{IsTrue, not, filter, map, nat_le, nat_lt, ◌==◌, ◌&&◌}
use Rattle.std.specs.List.{AllByRecursion}
use Rattle.std.proofs.lemmas.Bool.{and_from, and_parts, cases_Bool, false≢true, le-leb, leb-true, lt-ltb, ltb-true, or_cases, or_left, or_right}
use Rattle.std.proofs.lemmas.Nat.{pow_pos}
use mathlib.Core.Logic.{dite}
use native.Mathlib.Decide.{ℕ_discrete, dec_le}
use Rattle.pt_model.specs.declared.block.Block.{Block}
use Rattle.pt_model.specs.declared.position.Position.{Position}
use Rattle.pt_model.specs.Layout.{Layout, end_of, input_pages, level_of_size, pages_of_table}
use Rattle.pt_model.specs.Sets.{IsAmong}
use Rattle.pt_model.specs.Tables.{end_of_table, is_spine, least_top, levels_between, needed, position_over, spine_position, starting_top}
use Rattle.pt_model.specs.Words.{root_level, tag}
use Rattle.pt_model.proofs.Positions.{all_among, among_all, among_append, among_filtered, among_left, among_levels, among_passes, levels_among, sorted_filter}
use Rattle.pt_model.proofs.Tops.{above_top, reaches_top, top_low}
use Rattle.pt_view.specs.declared.view.View.{View}
use Rattle.pt_view.specs.declared.view.Piece.{Piece}
use Rattle.pt_view.specs.Calls.{meets_span}
use Rattle.pt_view.specs.Lists.{IsIn}
use Rattle.pt_view.specs.Pieces.{all_pieces, table_of}
use Rattle.pt_view.specs.Views.{spent}
use Rattle.pt_view.proofs.Members.{all_map}
use Rattle.pt_rule.specs.Totals.{total, has_table}
use Rattle.pt_rule.specs.Tags.{Chained, IsEnd}
use Rattle.pt_rule.specs.Linked.{IsLinked, IsLinkedAt, is_in_tree}
use Rattle.pt_rule.specs.Lawful.{Lawful, HasBook, HasPath, IsBridged, IsOwnPiece, IsOwnTable, IsPreparedAt}
use Rattle.pt_rule.proofs.TablesAdded.{spine_back}
use Rattle.pt_image.specs.Drafts.{HasSpine, IsDraft}
use Rattle.pt_image.proofs.Begun.{only}
use Rattle.pt_space.specs.Saved.{IsSound}

same_bool : (a b : Bool) → (a ≡ true → b ≡ true) → (b ≡ true → a ≡ true) → a ≡ b
same_bool a b to from = ⊎_elim
    (λ (yes : a ≡ true). yes ∙ sym (to yes))
    (λ (no : a ≡ false). ⊎_elim (λ (yes : b ≡ true). absurd (false≢true (sym no ∙ from yes))) (λ (also : b ≡ false). no ∙ sym also) (cases_Bool b))
    (cases_Bool a)

spine_is : (levels k : ℕ) → starting_top levels ≤ k → is_spine levels (spine_position k) ≡ true
spine_is levels k le = and_from (nat_le (starting_top levels) k) _ (le-leb (starting_top levels) k le) refl

-- The draft, and the number of levels that the space started with.
module _ (f : Layout) (n l top : ℕ) (words : List ℕ) (v : View) (d : IsDraft f n (top + 1) words v) (top_is : v.top ≡ top)
    (start : f.start ≤ l) (some_level : 1 ≤ l) (low : l ≤ top + 1) (spine : HasSpine (starting_top l) (spine_position top) v) where
  r : Lawful f n (top + 1) words (v ∷ [])
  r = d.lawful

  root : root_level words ≡ top
  root =
      let x = r.root.reached in
      let most = only (λ u. u.top ≤ v.top) v (let same : v.top ≤ v.top = omega arith in same) x.0 x.1 x.2 in
      let least = r.root.greatest 0 v refl in let is = x.4 in omega arith

  live : 0 < v.count
  live = let some_page = pow_pos (f.input - f.granule) in let whole = d.whole in omega arith

  book : HasBook f v
  book = r.books 0 v refl live

  levels_are : v.levels ≡ top + 1
  levels_are = (r.sizes.live 0 v refl live).1

  abbrev lowered : View
  lowered = record v { levels = l; tables = filter (λ p. not (is_spine l p)) v.tables; path = []; busy = []; known = [] }

  abbrev before : List View
  before = v ∷ []

  abbrev views : List View
  views = lowered ∷ []

  -- a table on the lower spine is below the top
  on_spine : (p : Position) → IsAmong v.tables p → is_spine l p ≡ true → p.level < top
  on_spine p m there =
      let own = among_all (IsOwnTable f v) v.tables book.tables p m in
      let at = spine_back l p there in
      ⊎_elim
      (λ (less : nat_lt p.level top ≡ true). ltb-true p.level top less)
      (λ (not_less : nat_lt p.level top ≡ false). absurd (false≢true (sym own.off_spine ∙ subst (λ (k : ℕ). is_spine k p ≡ true) (sym levels_are)
      (and_from (nat_le (top + 1 - 1) p.level) _ ((let e : top + 1 - 1 ≡ top = omega arith in ap (λ (k : ℕ). nat_le k p.level) e) ∙ high p.level not_less) (ap (λ (q : Position). q.base == 0) at.1)))))
      (cases_Bool (nat_lt p.level top))
    where
      high : (k : ℕ) → nat_lt k top ≡ false → nat_le top k ≡ true
      high k over = ⊎_elim (λ (yes : nat_le top k ≡ true). yes)
          (λ (other : nat_le top k ≡ false). absurd (false≢true (sym over ∙ lt-ltb k top (dite (dec_le top k) (λ le. absurd (false≢true (sym other ∙ le-leb top k le))) (λ gt. omega arith)))))
          (cases_Bool (nat_le top k))

  among_lowered : (p : Position) → IsAmong v.tables p → is_spine l p ≡ false → IsAmong lowered.tables p
  among_lowered p m off = among_passes (λ q. not (is_spine l q)) v.tables p m (ap not off)

  lowered_among : (p : Position) → IsAmong lowered.tables p → IsAmong v.tables p × (is_spine l p ≡ false)
  lowered_among p m = let h = among_filtered (λ q. not (is_spine l q)) v.tables p m in
      (h.0, ⊎_elim (λ (yes : is_spine l p ≡ true). absurd (false≢true (ap not (sym yes) ∙ h.1))) (λ (no : is_spine l p ≡ false). no) (cases_Bool (is_spine l p)))

  -- the tree is the same
  tree_to : (p : Position) → is_in_tree (top + 1) words before p ≡ true → is_in_tree l words views p ≡ true
  tree_to p e = ⊎_elim
      (λ (s : (is_spine (top + 1) p && nat_le p.level (root_level words)) ≡ true).
      let both : (is_spine (top + 1) p ≡ true) × (nat_le p.level (root_level words) ≡ true) = and_parts (is_spine (top + 1) p) _ s in
      let at = spine_back (top + 1) p both.0 in
      or_left (is_spine l p && nat_le p.level (root_level words)) _
      (and_from (is_spine l p) _ (ap (is_spine l) at.1 ∙ spine_is l p.level (omega (arith, at.0))) both.1))
      (λ (t : nat_lt 0 (total (has_table p) before) ≡ true).
      let m : IsAmong v.tables p = (let a = ltb-true 0 (total (has_table p) before) t in omega arith) in
      ⊎_elim
      (λ (yes : is_spine l p ≡ true). or_left (is_spine l p && nat_le p.level (root_level words)) _
      (and_from (is_spine l p) _ yes (le-leb p.level (root_level words) (let b = on_spine p m yes in let d = root in omega arith))))
      (λ (no : is_spine l p ≡ false). or_right (is_spine l p && nat_le p.level (root_level words)) _
      (lt-ltb 0 (total (has_table p) views) (let b = among_lowered p m no in omega arith)))
      (cases_Bool (is_spine l p)))
      (or_cases (is_spine (top + 1) p && nat_le p.level (root_level words)) _ e)

  tree_from : (p : Position) → is_in_tree l words views p ≡ true → is_in_tree (top + 1) words before p ≡ true
  tree_from p e = ⊎_elim
      (λ (s : (is_spine l p && nat_le p.level (root_level words)) ≡ true).
      let both : (is_spine l p ≡ true) × (nat_le p.level (root_level words) ≡ true) = and_parts (is_spine l p) _ s in
      let at = spine_back l p both.0 in
      let high = leb-true p.level (root_level words) both.1 in
      let d = root in
      dite (ℕ_discrete p.level top)
      (λ is. or_left (is_spine (top + 1) p && nat_le p.level (root_level words)) _
      (and_from (is_spine (top + 1) p) _ (ap (is_spine (top + 1)) at.1 ∙ spine_is (top + 1) p.level (omega arith)) both.1))
      (λ ne. or_right (is_spine (top + 1) p && nat_le p.level (root_level words)) _
      (lt-ltb 0 (total (has_table p) before)
      (let m = subst (IsAmong v.tables) (sym at.1) (spine refl p.level at.0 (omega arith)) in omega arith))))
      (λ (t : nat_lt 0 (total (has_table p) views) ≡ true).
      let m : IsAmong lowered.tables p = (let a = ltb-true 0 (total (has_table p) views) t in omega arith) in
      or_right (is_spine (top + 1) p && nat_le p.level (root_level words)) _ (lt-ltb 0 (total (has_table p) before) (let b = (lowered_among p m).0 in omega arith)))
      (or_cases (is_spine l p && nat_le p.level (root_level words)) _ e)

  same_tree : (p : Position) → is_in_tree l words views p ≡ is_in_tree (top + 1) words before p
  same_tree p = same_bool (is_in_tree l words views p) (is_in_tree (top + 1) words before p) (tree_from p) (tree_to p)

  linked : (g : ℕ) → IsLinked n words views g → IsLinked n words before g
  linked g a = record { within = a.within; placed = a.placed; unprepared = a.unprepared }

  linked_back : (g : ℕ) → IsLinked n words before g → IsLinked n words views g
  linked_back g a = record { within = a.within; placed = a.placed; unprepared = a.unprepared }

  linked_at : (g : ℕ) (p : Position) → IsLinkedAt n words views g p → IsLinkedAt n words before g p
  linked_at g p a = record { is_linked = linked g a.is_linked; at = a.at }

  linked_at_back : (g : ℕ) (p : Position) → IsLinkedAt n words before g p → IsLinkedAt n words views g p
  linked_at_back g p a = record { is_linked = linked_back g a.is_linked; at = a.at }

  -- what a block needs
  has : (p : Position) → IsAmong v.tables p ⊎ (IsTrue (is_spine v.levels p) × (p.level ≤ v.top)) → IsAmong lowered.tables p ⊎ (IsTrue (is_spine l p) × (p.level ≤ v.top))
  has p (inl m) = ⊎_elim
      (λ (yes : is_spine l p ≡ true). inr (yes, (let b = on_spine p m yes in let t = r.root.greatest 0 v refl in let u = book.top_low in let k = levels_are in omega arith)))
      (λ (no : is_spine l p ≡ false). inl (among_lowered p m no))
      (cases_Bool (is_spine l p))
  has p (inr s) =
      let at = spine_back v.levels p s.0 in
      inr (ap (is_spine l) at.1 ∙ spine_is l p.level (let k = levels_are in let a = at.0 in omega arith), s.1)

  needs : (b : Block) → end_of b ≤ pages_of_table f v.top →
      AllByRecursion (λ p. IsAmong v.tables p ⊎ (IsTrue (is_spine v.levels p) × (p.level ≤ v.top))) (needed f v.levels b) →
      AllByRecursion (λ p. IsAmong lowered.tables p ⊎ (IsTrue (is_spine l p) × (p.level ≤ v.top))) (needed f l b)
  needs b under all =
      let end : ℕ = end_of b in
      let k = levels_are in
      let reach : least_top f v.levels end ≤ v.top = reaches_top f v.levels end v.top (let u = book.top_low in omega arith) under in
      let reach_low : least_top f l end ≤ v.top = reaches_top f l end v.top (let u = book.top_low in omega arith) under in
      let ends : end ≤ pages_of_table f (least_top f v.levels end) = above_top f v.levels end (least_top f v.levels end) (let h = book.top_high in omega arith) (omega arith) in
      let less : least_top f l end ≤ least_top f v.levels end = reaches_top f l end (least_top f v.levels end) (let t = top_low f v.levels end in omega arith) ends in
      all_among (λ p. IsAmong lowered.tables p ⊎ (IsTrue (is_spine l p) × (p.level ≤ v.top))) (needed f l b)
      (λ p m. ⊎_elim
      (λ over.
      let j = among_levels (position_over f b.first) (least_top f l end + 1 - level_of_size f b.log2) (level_of_size f b.log2) p over in
      has p (among_all (λ q. IsAmong v.tables q ⊎ (IsTrue (is_spine v.levels q) × (q.level ≤ v.top))) (needed f v.levels b) all p
      (among_left p (map (position_over f b.first) (levels_between (level_of_size f b.log2) (least_top f v.levels end))) (map spine_position (levels_between (starting_top v.levels) (least_top f v.levels end)))
      (subst (IsAmong (map (position_over f b.first) (levels_between (level_of_size f b.log2) (least_top f v.levels end)))) (sym j.3)
      (levels_among (position_over f b.first) (least_top f v.levels end + 1 - level_of_size f b.log2) (level_of_size f b.log2) j.0 j.1 (let a = j.2 in omega arith))))))
      (λ on.
      let j = among_levels spine_position (least_top f l end + 1 - starting_top l) (starting_top l) p on in
      let level = ap (λ (q : Position). q.level) j.3 in
      inr (ap (is_spine l) j.3 ∙ spine_is l j.0 j.1, (let a = j.2 in omega arith)))
      (among_append p (map (position_over f b.first) (levels_between (level_of_size f b.log2) (least_top f l end))) (map spine_position (levels_between (starting_top l) (least_top f l end))) m))

  own_piece : (x : Piece) → IsOwnPiece f v x → IsOwnPiece f lowered x
  own_piece x own = record {
    a_part = own.a_part;
    legal = own.legal;
    stated = own.stated;
    in_span = own.in_span;
    under_top = own.under_top;
    has_needed = needs x.block own.under_top own.has_needed;
  }

  own_table : (p : Position) → IsAmong lowered.tables p → IsOwnTable f lowered p
  own_table p m =
      let h = lowered_among p m in
      let own = among_all (IsOwnTable f v) v.tables book.tables p h.0 in
      record { a_position = own.a_position; off_spine = h.1; meets = own.meets }

  lawful : Lawful f n l words views
  lawful = record {
    spans = r.spans;
    frames = record {
      tags = r.frames.tags;
      held = r.frames.held;
      prepared = r.frames.prepared;
      none_held = r.frames.none_held;
      none_prepared = r.frames.none_prepared;
      at = only (λ u. IsPreparedAt words u.prepared) lowered (r.frames.at 0 v refl);
      bridges = only (λ u. IsBridged f n words views u.levels u.prepared) lowered (subst (IsBridged f n words views l) (sym d.none_prepared) tt);
      cleared = λ g i lt unlinked small. r.frames.cleared g i lt (λ a. unlinked (linked_back g a)) small;
    };
    positions = record {
      distinct = λ g h a b e. r.positions.distinct g h (linked g a) (linked h b) e;
      in_tree = λ g a. same_tree _ ∙ r.positions.in_tree g (linked g a);
      all = λ p e. let h = r.positions.all p (sym (same_tree p) ∙ e) in (h.0, linked_at_back h.0 p h.1);
    };
    root = record {
      is_linked = linked_at_back _ _ r.root.is_linked;
      greatest = only (λ u. u.top ≤ root_level words) lowered (r.root.greatest 0 v refl);
      reached = (0, lowered, refl, live, (let a = r.root.greatest 0 v refl in let b = book.top_low in let k = levels_are in let d = root in let t : v.top ≡ root_level words = omega arith in t));
    };
    parents = record {
      closed = λ p e ne. same_tree _ ∙ r.parents.closed p (sym (same_tree p) ∙ e) ne;
      named = λ g h p a ne b. r.parents.named g h p (linked_at h p a) ne (linked_at g _ b);
    };
    entries = record {
      words_are = λ g i p a small none. r.entries.words_are g i p (linked_at g p a) small (ap (λ (b : Bool). nat_lt 0 p.level && b) (sym (same_tree _)) ∙ none);
      apart = λ i p one. r.entries.apart i p (ap (λ (b : Bool). nat_lt 0 p.level && b) (sym (same_tree _)) ∙ one);
      once = r.entries.once;
      homes = only (λ u. AllByRecursion (λ x. IsTrue (is_in_tree l words views (table_of f x))) u.pieces) lowered
          (all_map (λ x. IsTrue (is_in_tree (top + 1) words before (table_of f x))) (λ x. IsTrue (is_in_tree l words views (table_of f x))) v.pieces (λ x e. same_tree _ ∙ e) (r.entries.homes 0 v refl));
    };
    books = only (λ u. 0 < u.count → HasBook f u) lowered (λ some_page. record {
      pieces = all_map (IsOwnPiece f v) (IsOwnPiece f lowered) v.pieces own_piece book.pieces;
      tables = all_among (IsOwnTable f lowered) lowered.tables own_table;
      in_order = sorted_filter (λ q. not (is_spine l q)) v.tables book.in_order;
      pieces_in_order = book.pieces_in_order;
      top_low = let b = book.top_low in let k = levels_are in omega arith;
      top_high = book.top_high;
    });
    paths = only (HasPath f n words views) lowered (record { nodes = tt; begins = tt; descends = tt });
    purses = record {
      chained = only (λ u. Chained words u.end u.purse) lowered (r.purses.chained 0 v refl);
      ends = only (λ u. IsEnd n u.end) lowered (r.purses.ends 0 v refl);
    };
    sizes = record {
      some_frame = r.sizes.some_frame;
      limit = r.sizes.limit;
      words_are = r.sizes.words_are;
      levels_low = start;
      levels_high = let h = r.sizes.levels_high in omega arith;
      live = only (λ u. 0 < u.count → (u.frames ≡ n) × (u.levels ≡ l)) lowered (λ _. ((r.sizes.live 0 v refl live).0, refl));
      dead = only (λ u. u.count ≡ 0 → u ≡ spent) lowered (λ z. absurd (let a = live in omega arith));
    };
    busy = only (λ u. u.count ≡ input_pages f → (h : ℕ) → h < n → IsIn u.busy h → tag words h ≢ 0) lowered (λ whole h lt a. absurd (omega (arith, a)));
    known = only (λ u. (p : Position) → IsAmong u.known p →
        IsTrue (is_in_tree l words views p) × (IsTrue (is_spine u.levels p) ⊎ IsTrue (meets_span u p.base (end_of_table f p)))) lowered (λ p a. absurd (omega (arith, a)));
  }

  pub draft_is_sound : (blocks : List Block) → v.pieces ≡ all_pieces f blocks → IsSound f n l words
  draft_is_sound blocks is = record {
    view = lowered;
    blocks = blocks;
    lawful = lawful;
    rest = record { path = refl; prepared = d.none_prepared; end = d.end; pieces = is };
    whole = d.whole;
    none_held = d.none_held;
  }
