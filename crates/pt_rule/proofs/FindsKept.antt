-- Steps that change no word, and of one view only its path, its tables among those of the tree, and what
-- it notes.
use Rattle.std.proofs.Common.{◌≡◌, ◌≢◌, ◌⊎◌, inl, inr, ℕ, Bool, true, false, ◌+◌, ◌<◌, ◌≤◌, List, set, sym, refl, ap, ap₂, ◌∙◌, subst, arith, ⊎_elim}
use Rattle.std.specs.Prelude.{IsTrue, ◌&&◌, nat_le, nat_lt, slice_index, slice_set, Option}
use Rattle.std.specs.List.{AllByRecursion}
use Rattle.std.proofs.lemmas.Bool.{or_cases, or_left, or_right, lt-ltb, ltb-true}
use Rattle.std.proofs.lemmas.List.{set-get_or}
use mathlib.Core.Option.{some, some-injective}
use mathlib.Core.Logic.{dite}
use native.Mathlib.Decide.{ℕ_discrete}
use lib.ListN.{get_elem?}
use Rattle.atomic_table.proofs.Lists.{at_set, set_here, set_else}
use Rattle.pt_model.specs.declared.position.Position.{Position}
use Rattle.pt_model.specs.Layout.{Layout, end_of, input_pages, pages_of_table}
use Rattle.pt_model.specs.Tables.{end_of_table, is_spine, needed, starting_top}
use Rattle.pt_model.specs.Words.{root_level, tag}
use Rattle.pt_view.specs.declared.view.View.{View}
use Rattle.pt_view.specs.declared.view.Piece.{Piece}
use Rattle.pt_view.specs.declared.view.Prepared.{Prepared}
use Rattle.pt_view.specs.declared.view.Node.{Node}
use Rattle.pt_view.specs.declared.view.Absence.{Absence}
use Rattle.pt_model.specs.Sets.{one_if, IsAmong, places, IsSorted}
use Rattle.pt_view.specs.Lists.{IsIn}
use Rattle.pt_view.specs.Calls.{meets_span}
use Rattle.pt_view.specs.Views.{SameRange}
use Rattle.pt_rule.specs.Totals.{total, prepares, has_table, is_prepared}
use Rattle.pt_rule.specs.Linked.{is_in_tree}
use Rattle.pt_rule.specs.Lawful.{Lawful, HasPath, IsOwnPiece, IsOwnTable, PiecesInOrder}
use Rattle.pt_rule.proofs.TotalsKept.{total_same, total_some, total_at, at_inside}
use Rattle.pt_view.proofs.Members.{all_map}
use Rattle.pt_rule.proofs.PartsKept.{SameLinks, links_same, SameTree, spans_set, frames_same, positions_same, root_same, parents_same, entries_same, books_set, paths_set, path_same, purses_same, sizes_same, busy_set, known_set}

pub same_bool : (a b : Bool) → (a ≡ true → b ≡ true) → (b ≡ true → a ≡ true) → a ≡ b
same_bool true b f g = sym (f refl)
same_bool false true f g = g refl
same_bool false false f g = refl

-- a book with more tables has its pieces still
pub piece_kept : (f : Layout) (x : Piece) (v w : View) → SameRange v w → v.top ≤ w.top → ((p : Position) → IsAmong v.tables p → IsAmong w.tables p) →
    pages_of_table f v.top ≤ pages_of_table f w.top → IsOwnPiece f v x → IsOwnPiece f w x
piece_kept f x v w range top tables wide h = record {
  a_part = h.a_part;
  legal = h.legal;
  stated = h.stated;
  in_span = ap₂ (λ (a b : ℕ). nat_le a x.block.first && nat_le (end_of x.block) (a + b)) range.first range.count ∙ h.in_span;
  under_top = let a = h.under_top in omega (arith, a, wide);
  has_needed = subst (λ (k : ℕ). AllByRecursion (λ p. IsAmong w.tables p ⊎ (IsTrue (is_spine k p) × (p.level ≤ w.top))) (needed f k x.block)) (sym range.levels)
      (all_map (λ p. IsAmong v.tables p ⊎ (IsTrue (is_spine v.levels p) × (p.level ≤ v.top))) (λ p. IsAmong w.tables p ⊎ (IsTrue (is_spine v.levels p) × (p.level ≤ w.top)))
      (needed f v.levels x.block)
      (λ p c. ⊎_elim (λ (a : IsAmong v.tables p). inl (tables p a)) (λ (b : IsTrue (is_spine v.levels p) × (p.level ≤ v.top)). inr (b.0, let c = b.1 in omega arith)) c) h.has_needed);
}

pub table_kept : (f : Layout) (p : Position) (v w : View) → SameRange v w → IsOwnTable f v p → IsOwnTable f w p
table_kept f p v w range h = record {
  a_position = h.a_position;
  off_spine = ap (λ (k : ℕ). is_spine k p) range.levels ∙ h.off_spine;
  meets = ap₂ (λ (a b : ℕ). nat_lt p.base (a + b) && nat_lt a (end_of_table f p)) range.first range.count ∙ h.meets;
}

pub same_range : (v : View) → SameRange v v
same_range v = record { frames = refl; levels = refl; first = refl; count = refl }

-- the view w has the pieces, the top, the purse and the prepared frame of v, the tables of v and maybe
-- others of the tree, and what it has met and its path are true
pub record Finds (f : Layout) (n l : ℕ) (words : List ℕ) (views : List View) (v w : View) : Type 0 where
  pub range : SameRange v w
  pub pieces : w.pieces ≡ v.pieces
  pub top : w.top ≡ v.top
  pub purse : w.purse ≡ v.purse
  pub end : w.end ≡ v.end
  pub prepared : w.prepared ≡ v.prepared
  pub busy : w.count ≡ input_pages f → (h : ℕ) → h < n → IsIn w.busy h → tag words h ≢ 0
  pub kept : (p : Position) → IsAmong v.tables p → IsAmong w.tables p
  pub found : (p : Position) → IsAmong w.tables p → IsTrue (is_in_tree l words views p)
  pub own : AllByRecursion (IsOwnTable f w) w.tables
  pub in_order : IsSorted w.tables
  pub path : HasPath f n words views w
  pub known : (p : Position) → IsAmong w.known p →
      IsTrue (is_in_tree l words views p) × (IsTrue (is_spine w.levels p) ⊎ IsTrue (meets_span w p.base (end_of_table f p)))

-- The tree, where a view gets tables of it.
module _ (l : ℕ) (words : List ℕ) (views : List View) (id : ℕ) (v w : View) (at : get_elem? views id ≡ some v) (p : Position) where
  abbrev views' : List View
  views' = set views id w

  abbrev spine : Bool
  spine = is_spine l p && nat_le p.level (root_level words)

  found_there : (IsAmong w.tables p → IsTrue (is_in_tree l words views p)) → ((j : ℕ) × (u : View) × (get_elem? views' j ≡ some u) × (0 < has_table p u)) → is_in_tree l words views p ≡ true
  found_there found (j, u, e, h) = ⊎_elim
      (λ (t : (j ≡ id) × (w ≡ u)). found (subst (λ (z : View). 0 < places p z.tables) (sym t.1) h))
      (λ (t : (j ≢ id) × (get_elem? views j ≡ some u)). let most = total_at (has_table p) views j u t.1 in or_right spine _ (lt-ltb 0 (total (has_table p) views) (omega arith)))
      (at_set views id j w u e)

  kept_there : (IsAmong v.tables p → IsAmong w.tables p) → ((j : ℕ) × (u : View) × (get_elem? views j ≡ some u) × (0 < has_table p u)) → is_in_tree l words views' p ≡ true
  kept_there kept (j, u, e, h) = dite (ℕ_discrete j id)
      (λ same.
      let is : u ≡ v = some-injective u v (sym e ∙ ap (get_elem? views) same ∙ at) in
      let more : 0 < places p w.tables = kept (subst (λ (z : View). 0 < places p z.tables) is h) in
      let most = total_at (has_table p) views' id w (set_here views id w (at_inside views id v at)) in
      or_right spine _ (lt-ltb 0 (total (has_table p) views') (omega arith)))
      (λ ne. let most = total_at (has_table p) views' j u (set_else views id j w ne ∙ e) in or_right spine _ (lt-ltb 0 (total (has_table p) views') (omega arith)))

  pub tree_found : (IsAmong v.tables p → IsAmong w.tables p) → (IsAmong w.tables p → IsTrue (is_in_tree l words views p)) →
      is_in_tree l words views' p ≡ is_in_tree l words views p
  tree_found kept found = same_bool (is_in_tree l words views' p) (is_in_tree l words views p)
      (λ e. ⊎_elim (λ (s : spine ≡ true). or_left spine _ s)
      (λ (t : nat_lt 0 (total (has_table p) views') ≡ true). found_there found (total_some (has_table p) views' (ltb-true 0 (total (has_table p) views') t))) (or_cases spine _ e))
      (λ e. ⊎_elim (λ (s : spine ≡ true). or_left spine _ s)
      (λ (t : nat_lt 0 (total (has_table p) views) ≡ true). kept_there kept (total_some (has_table p) views (ltb-true 0 (total (has_table p) views) t))) (or_cases spine _ e))

module _ (f : Layout) (n l : ℕ) where
  -- a view with other tables of the tree, another path, and other known positions and absences finds these
  pub finds_of : (words : List ℕ) (views : List View) (id : ℕ) (v : View) → Lawful f n l words views → get_elem? views id ≡ some v →
      (tables known : List Position) (path : List Node) (absent : List Absence) → (let w : View = record v { tables = tables; path = path; known = known; absent = absent } in
      ((p : Position) → IsAmong v.tables p → IsAmong tables p) → ((p : Position) → IsAmong tables p → IsTrue (is_in_tree l words views p)) →
      AllByRecursion (IsOwnTable f v) tables → IsSorted tables → HasPath f n words views w →
      ((p : Position) → IsAmong known p → IsTrue (is_in_tree l words views p) × (IsTrue (is_spine v.levels p) ⊎ IsTrue (meets_span v p.base (end_of_table f p)))) →
      Finds f n l words views v w)
  finds_of words views id v r at tables known path absent kept found own order way met =
      let w : View = record v { tables = tables; path = path; known = known; absent = absent } in
      let range : SameRange v w = record { frames = refl; levels = refl; first = refl; count = refl } in record {
        range = range;
        pieces = refl;
        top = refl;
        purse = refl;
        end = refl;
        prepared = refl;
        busy = r.busy id v at;
        kept = kept;
        found = found;
        own = all_map (IsOwnTable f v) (IsOwnTable f w) tables (λ q b. table_kept f q v w range b) own;
        in_order = order;
        path = way;
        known = met;
      }

  pub finds : (words : List ℕ) (views : List View) (id : ℕ) (v w : View) → Lawful f n l words views → get_elem? views id ≡ some v → 0 < v.count →
      Finds f n l words views v w → Lawful f n l words (set views id w)
  finds words views id v w r at live met =
      let views' : List View = set views id w in
      let links : SameLinks n words words views views' = links_same n words words views views' (λ h lt. refl)
      (λ h. total_same (prepares h) views id v w at (ap (λ (o : Option Prepared). one_if (is_prepared h o)) met.prepared)) in
      let tree : SameTree l words words views views' = record { root = refl; tree = λ p. tree_found l words views id v w at p (met.kept p) (met.found p) } in
      let most = r.root.greatest id v at in
      let top = met.top in
      let book = r.books id v at live in
      let range = met.range in
      record {
        spans = spans_set f views id v w at range r.spans;
        frames = frames_same f n words words views id v w at links (λ h lt. refl) range.levels met.purse met.prepared (λ h i lt un small. refl) r.frames;
        positions = positions_same f n l words words views views' links tree r.positions;
        root = root_same n l words words views id v w at links refl range.count (omega arith) (omega arith) r.root;
        parents = parents_same f n l words words views views' links tree (λ g h p a ne b. refl) r.parents;
        entries = entries_same f n l words words views id v w at links tree met.pieces (λ h i a small. refl) r.entries;
        books = books_set f views id v w at
            (λ some_page. record {
              pieces = subst (AllByRecursion (IsOwnPiece f w)) (sym met.pieces)
                  (all_map (IsOwnPiece f v) (IsOwnPiece f w) v.pieces
                  (λ x a. piece_kept f x v w range (omega arith) met.kept (let e : pages_of_table f w.top ≡ pages_of_table f v.top = ap (pages_of_table f) top in omega arith) a) book.pieces);
              tables = met.own;
              in_order = met.in_order;
              pieces_in_order = subst (PiecesInOrder f) (sym met.pieces) book.pieces_in_order;
              top_low = subst (λ (s : ℕ × ℕ). starting_top s.0 ≤ s.1) (λ i. (sym range.levels i, sym top i)) book.top_low;
              top_high = subst (λ (t : ℕ). t < f.levels) (sym top) book.top_high;
            }) r.books;
        paths = paths_set f n words words views id v w at links
            (path_same f n words words views views' w w links (record { frames = refl; levels = refl; first = refl; count = refl }) refl met.path) r.paths;
        purses = purses_same f n words words views id v w at (λ h lt. refl) met.purse met.end r.frames r.purses;
        sizes = sizes_same f n l words words views id v w at live range refl r.sizes;
        busy = busy_set f n words words views id v w at (λ h lt z. z) met.busy r.busy;
        known = known_set f l words words views id v w at (λ p e. tree.tree p ∙ e) (λ p a. let b = met.known p a in (tree.tree p ∙ b.0, b.1)) r.known;
      }

  -- the same, as a step that puts back the word that it found
  pub finds_at : (words : List ℕ) (views : List View) (id i : ℕ) (v w : View) → Lawful f n l words views → get_elem? views id ≡ some v → 0 < v.count →
      Finds f n l words views v w → Lawful f n l (slice_set words i (slice_index words i)) (set views id w)
  finds_at words views id i v w r at live met =
      subst (λ (ws : List ℕ). Lawful f n l ws (set views id w)) (sym (set-get_or words i 0)) (finds words views id v w r at live met)
