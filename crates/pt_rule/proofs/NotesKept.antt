-- Steps that change no word and of one view only its path and what it notes.
use Rattle.std.proofs.Common.{◌≡◌, ◌≢◌, ◌⊎◌, ℕ, ◌<◌, List, [], ◌∷◌, ◌++◌, set, sym, refl, subst}
use Rattle.std.specs.Prelude.{IsTrue, slice_index, slice_set}
use Rattle.std.specs.List.{AllByRecursion}
use mathlib.Core.Option.{some}
use lib.ListN.{get_elem?}
use Rattle.pt_model.specs.declared.position.Position.{Position}
use Rattle.pt_model.specs.Layout.{Layout, input_pages}
use Rattle.pt_model.specs.Tables.{end_of_table, is_spine}
use Rattle.pt_model.specs.Words.{tag}
use Rattle.pt_view.specs.declared.view.View.{View}
use Rattle.pt_view.specs.declared.view.Node.{Node}
use Rattle.pt_model.specs.Sets.{IsAmong, IsSorted}
use Rattle.pt_view.specs.Lists.{IsIn}
use Rattle.pt_view.specs.Calls.{meets_span}
use Rattle.pt_view.specs.Views.{SameRange, SameBook}
use Rattle.pt_rule.specs.Linked.{is_in_tree}
use Rattle.pt_rule.specs.Lawful.{Lawful, HasPath, IsOnPath, IsOwnTable, BeginsOnSpine, Descends}
use Rattle.pt_rule.proofs.TotalsKept.{own_in_tree}
use Rattle.pt_view.proofs.Members.{all_map}
use Rattle.pt_rule.proofs.PartsKept.{SameLinks, links_same, path_same}
use Rattle.pt_rule.proofs.FindsKept.{Finds, finds, finds_at, same_range, table_kept}

pub same_book : (v : View) → SameBook v v
same_book v = record { pieces = refl; tables = refl; top = refl }

pub links_refl : (n : ℕ) (words : List ℕ) (views : List View) → SameLinks n words words views views
links_refl n words views = links_same n words words views views (λ h lt. refl) (λ h. refl)

-- the view w has the book, the purse and the prepared frame of v, and what it has met and its path are true
pub record Notes (f : Layout) (n l : ℕ) (words : List ℕ) (views : List View) (v w : View) : Type 0 where
  pub range : SameRange v w
  pub book : SameBook v w
  pub purse : w.purse ≡ v.purse
  pub end : w.end ≡ v.end
  pub prepared : w.prepared ≡ v.prepared
  pub path : HasPath f n words views w
  pub busy : w.count ≡ input_pages f → (h : ℕ) → h < n → IsIn w.busy h → tag words h ≢ 0
  pub known : (p : Position) → IsAmong w.known p →
      IsTrue (is_in_tree l words views p) × (IsTrue (is_spine w.levels p) ⊎ IsTrue (meets_span w p.base (end_of_table f p)))

module _ (f : Layout) (n l : ℕ) where
  -- these are found, with the tables that the view had
  noted : (words : List ℕ) (views : List View) (id : ℕ) (v w : View) → Lawful f n l words views → get_elem? views id ≡ some v → 0 < v.count →
      Notes f n l words views v w → Finds f n l words views v w
  noted words views id v w r at live met =
      let book = r.books id v at live in
      let tables : w.tables ≡ v.tables = met.book.tables in record {
        range = met.range;
        pieces = met.book.pieces;
        top = met.book.top;
        purse = met.purse;
        end = met.end;
        prepared = met.prepared;
        busy = met.busy;
        kept = λ p. subst (λ (ps : List Position). IsAmong ps p) (sym tables);
        found = λ p a. own_in_tree l words views id v at p (subst (λ (ps : List Position). IsAmong ps p) tables a);
        own = subst (AllByRecursion (IsOwnTable f w)) (sym tables) (all_map (IsOwnTable f v) (IsOwnTable f w) v.tables (λ q b. table_kept f q v w met.range b) book.tables);
        in_order = subst IsSorted (sym tables) book.in_order;
        path = met.path;
        known = met.known;
      }

  pub notes : (words : List ℕ) (views : List View) (id : ℕ) (v w : View) → Lawful f n l words views → get_elem? views id ≡ some v → 0 < v.count →
      Notes f n l words views v w → Lawful f n l words (set views id w)
  notes words views id v w r at live met = finds f n l words views id v w r at live (noted words views id v w r at live met)

  -- the same, as a step that puts back the word that it found
  pub notes_at : (words : List ℕ) (views : List View) (id i : ℕ) (v w : View) → Lawful f n l words views → get_elem? views id ≡ some v → 0 < v.count →
      Notes f n l words views v w → Lawful f n l (slice_set words i (slice_index words i)) (set views id w)
  notes_at words views id i v w r at live met = finds_at f n l words views id i v w r at live (noted words views id v w r at live met)

  -- a view's own facts, as notes of itself
  pub notes_of : (words : List ℕ) (views : List View) (id : ℕ) (v : View) → Lawful f n l words views → get_elem? views id ≡ some v → Notes f n l words views v v
  notes_of words views id v r at = record {
    range = same_range v;
    book = same_book v;
    purse = refl;
    end = refl;
    prepared = refl;
    path = r.paths id v at;
    busy = r.busy id v at;
    known = r.known id v at;
  }

  -- a path's facts don't depend on what the view notes
  pub path_noted : (words : List ℕ) (views : List View) (v w : View) → SameRange v w → w.path ≡ v.path → HasPath f n words views v → HasPath f n words views w
  path_noted words views v w range path = path_same f n words words views views v w (links_refl n words views) range path

  -- the front of a path is a path
  pub path_front : (words : List ℕ) (views : List View) (v : View) (front rest : List Node) → v.path ≡ front ++ rest → HasPath f n words views v →
      HasPath f n words views (record v { path = front })
  path_front words views v front rest is h =
      let w : View = record v { path = front } in record {
        nodes = front_nodes front (subst (AllByRecursion (IsOnPath f n words views v)) is h.nodes);
        begins = front_begins front (subst (BeginsOnSpine v.levels) is h.begins);
        descends = front_descends front (subst (Descends f) is h.descends);
      }
    where
      front_nodes : (xs : List Node) → AllByRecursion (IsOnPath f n words views v) (xs ++ rest) → AllByRecursion (IsOnPath f n words views (record v { path = front })) xs
      front_nodes [] a = tt
      front_nodes (x ∷ xs) a = (record { at = a.0.at; near = a.0.near }, front_nodes xs a.1)

      front_begins : (xs : List Node) → BeginsOnSpine v.levels (xs ++ rest) → BeginsOnSpine v.levels xs
      front_begins [] a = tt
      front_begins (x ∷ xs) a = a

      front_descends : (xs : List Node) → Descends f (xs ++ rest) → Descends f xs
      front_descends [] a = tt
      front_descends (x ∷ []) a = tt
      front_descends (x ∷ y ∷ xs) a = (a.0, front_descends (y ∷ xs) a.1)
