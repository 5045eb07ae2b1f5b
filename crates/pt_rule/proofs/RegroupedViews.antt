-- Other views of the same words, with the same pages, frames, tables and pieces together.
use Rattle.std.proofs.Common.{◌≡◌, ◌⊎◌, ℕ, Bool, ◌<◌, ◌≤◌, List, refl, ap, sym, ◌∙◌, subst}
use Rattle.std.specs.Prelude.{IsTrue, nat_le, nat_lt, ◌&&◌, ◌||◌}
use Rattle.std.specs.List.{AllByRecursion}
use mathlib.Core.Option.{some}
use lib.ListN.{get_elem?}
use Rattle.pt_model.specs.declared.position.Position.{Position}
use Rattle.pt_model.specs.Layout.{Layout}
use Rattle.pt_model.specs.Tables.{child_at, end_of_table, is_spine}
use Rattle.pt_model.specs.Words.{root_level, tag}
use Rattle.pt_view.specs.declared.view.View.{View}
use Rattle.pt_view.specs.declared.view.Piece.{Piece}
use Rattle.pt_model.specs.Sets.{IsAmong, one_if}
use Rattle.pt_view.specs.Pieces.{table_of}
use Rattle.pt_view.specs.Views.{spent}
use Rattle.pt_view.specs.Calls.{meets_span}
use Rattle.pt_rule.specs.Totals.{Each, total, covers, holds, prepares, has_bridge, has_piece, has_table, has_word}
use Rattle.pt_rule.specs.Tags.{is_placed}
use Rattle.pt_rule.specs.Linked.{is_in_tree}
use Rattle.pt_rule.specs.Lawful.{BooksPart, BusyPart, HasPath, IsBridged, IsPreparedAt, Lawful, PursesPart}
use Rattle.pt_view.proofs.Members.{all_map}
use Rattle.pt_rule.proofs.FindsKept.{same_range}
use Rattle.pt_rule.proofs.PartsKept.{SameLinks, SameTree, bridged_to, links_same, parents_same, path_same, positions_same}

-- the pages, frames, pieces and bridges of both are the same together, and a table stands in one where it stood
pub record Regrouped (f : Layout) (n l : ℕ) (words : List ℕ) (views views' : List View) : Type 0 where
  pub pages : (page : ℕ) → total (covers page) views' ≡ total (covers page) views
  pub held : (g : ℕ) → total (holds g) views' ≡ total (holds g) views
  pub prepared : (g : ℕ) → total (prepares g) views' ≡ total (prepares g) views
  pub bridge : (h i : ℕ) → total (has_bridge f h i) views' ≡ total (has_bridge f h i) views
  pub pieces : (i : ℕ) (p : Position) → total (has_piece f p i) views' ≡ total (has_piece f p i) views
  pub entries : (i : ℕ) (p : Position) → total (has_word f p i) views' ≡ total (has_word f p i) views
  pub tables : (p : Position) → nat_lt 0 (total (has_table p) views') ≡ nat_lt 0 (total (has_table p) views)
  pub at : Each views' (λ u. IsPreparedAt words u.prepared)
  pub bridged : Each views' (λ u. IsBridged f n words views u.levels u.prepared)
  pub greatest : Each views' (λ u. u.top ≤ root_level words)
  pub reached : (j : ℕ) × (u : View) × (get_elem? views' j ≡ some u) × (0 < u.count) × (u.top ≡ root_level words)
  pub homes : Each views' (λ u. AllByRecursion (λ x. IsTrue (is_in_tree l words views (table_of f x))) u.pieces)
  pub books : BooksPart f views'
  pub paths : Each views' (HasPath f n words views)
  pub purses : PursesPart n words views'
  pub live : Each views' (λ u. 0 < u.count → (u.frames ≡ n) × (u.levels ≡ l))
  pub dead : Each views' (λ u. u.count ≡ 0 → u ≡ spent)
  pub busy : BusyPart f n words views'
  pub known : Each views' (λ u. (p : Position) → IsAmong u.known p → IsTrue (is_in_tree l words views p) × (IsTrue (is_spine u.levels p) ⊎ IsTrue (meets_span u p.base (end_of_table f p))))

module _ (f : Layout) (n l : ℕ) (words : List ℕ) (views views' : List View) (r : Lawful f n l words views) (g : Regrouped f n l words views views') where
  links : SameLinks n words words views views'
  links = links_same n words words views views' (λ h lt. refl) g.prepared

  tree : SameTree l words words views views'
  tree = record { root = refl; tree = λ p. ap (λ (b : Bool). (is_spine l p && nat_le p.level (root_level words)) || b) (g.tables p) }

  in_tree : (p : Position) → IsTrue (is_in_tree l words views p) → IsTrue (is_in_tree l words views' p)
  in_tree p t = tree.tree p ∙ t

  pub regrouped : Lawful f n l words views'
  regrouped = record {
    spans = λ page. g.pages page ∙ r.spans page;
    frames = record {
      tags = r.frames.tags;
      held = λ h lt. g.held h ∙ r.frames.held h lt;
      prepared = λ h lt. subst (λ (t : ℕ). t ≤ one_if (is_placed (tag words h))) (sym (g.prepared h)) (r.frames.prepared h lt);
      none_held = λ h le. g.held h ∙ r.frames.none_held h le;
      none_prepared = λ h le. g.prepared h ∙ r.frames.none_prepared h le;
      at = g.at;
      bridges = λ j u e. bridged_to f n words words views views' links u.levels u.prepared (g.bridged j u e);
      cleared = λ h i lt unlinked small. r.frames.cleared h i lt (λ a. unlinked (links.to h a)) small ∙ sym (g.bridge h i);
    };
    positions = positions_same f n l words words views views' links tree r.positions;
    root = record {
      is_linked = record { is_linked = links.to _ r.root.is_linked.is_linked; at = r.root.is_linked.at };
      greatest = g.greatest;
      reached = g.reached;
    };
    parents = parents_same f n l words words views views' links tree (λ a b p c d e. refl) r.parents;
    entries = record {
      words_are = λ h i p a small none. r.entries.words_are h i p (record { is_linked = links.back h a.is_linked; at = a.at }) small
          (sym (ap (λ (b : Bool). nat_lt 0 p.level && b) (tree.tree (child_at f p i))) ∙ none) ∙ sym (g.entries i p);
      apart = λ i p one. g.pieces i p ∙ r.entries.apart i p (sym (ap (λ (b : Bool). nat_lt 0 p.level && b) (tree.tree (child_at f p i))) ∙ one);
      once = λ i p. subst (λ (t : ℕ). t ≤ 1) (sym (g.pieces i p)) (r.entries.once i p);
      homes = λ j u e. all_map (λ (x : Piece). IsTrue (is_in_tree l words views (table_of f x))) (λ x. IsTrue (is_in_tree l words views' (table_of f x))) u.pieces (λ x h. in_tree (table_of f x) h) (g.homes j u e);
    };
    books = g.books;
    paths = λ j u e. path_same f n words words views views' u u links (same_range u) refl (g.paths j u e);
    purses = g.purses;
    sizes = record {
      some_frame = r.sizes.some_frame;
      limit = r.sizes.limit;
      words_are = r.sizes.words_are;
      levels_low = r.sizes.levels_low;
      levels_high = r.sizes.levels_high;
      live = g.live;
      dead = g.dead;
    };
    busy = g.busy;
    known = λ j u e p a. let k = g.known j u e p a in (in_tree p k.0, k.1);
  }
