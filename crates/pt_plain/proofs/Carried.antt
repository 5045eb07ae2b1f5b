-- What a step says of a view holds of one that agrees with it, over a holder of the whole space that tells no histories.
use Rattle.std.proofs.Common.{ℕ, Bool, ◌∙◌, ap, sym, List, ◌∷◌, ◌++◌, true, false}
use Rattle.std.specs.Prelude.{◌↔◌}
use Rattle.pt_model.specs.declared.position.Position.{Position}
use Rattle.pt_model.specs.Layout.{Layout}
use Rattle.pt_view.specs.declared.view.View.{View}
use Rattle.pt_view.specs.declared.holder.Seen.{Seen}
use Rattle.pt_view.specs.declared.holder.Seen.TheVariants.{Empty, Leaf, Entered}
use Rattle.pt_view.specs.declared.holder.Won.{Won}
use Rattle.pt_view.specs.declared.holder.Won.TheVariants.{Yes, Met}
use Rattle.pt_view.proofs.Stays.{book_on, purse_on, range_on}
use Rattle.pt_view.specs.Calls.{Grows, IsCleared, IsFreed, IsGrown, IsInstalled, IsPlaced, IsTaken, IsUnlinked, IsUnplaced, IsWritten, Looked, Prepares, Rooted, Takes, Went, zero, leaf, table}
use Rattle.pt_rule.specs.Meets.{Always, IsWhole}
use Rattle.pt_plain.proofs.ReadBack.{Agrees}

through : {A B C : Type 0} → (B ↔ A) → (C ↔ B) → (C ↔ A)
through b c = (λ h. b.0 (c.0 h), λ h. c.1 (b.1 h))

takes_on : (won : Bool) (frame : ℕ) (v u w : View) → Agrees u w → Takes won Always frame v u → Takes won ⊥ frame v w
takes_on true frame v u w a t = (a.same.purse.purse ∙ t.0, λ no. absurd no)
takes_on false frame v u w a t = (a.same.purse.purse ∙ t.0, λ no. absurd no)

prepares_on : (won : Won) (v u w : View) → Agrees u w → Prepares won v u → Prepares won v w
prepares_on Yes v u w a e = a.same.prepared ∙ e
prepares_on Met v u w a e = a.same.prepared ∙ e

grows_on : (f : Layout) (won : Won) (level : ℕ) (v u w : View) → Agrees u w → Grows f won level v u → Grows f won level v w
grows_on f Yes level v u w a g = record {
  prepared = a.same.prepared ∙ g.prepared;
  top = a.same.book.top ∙ g.top;
  path = (g.path.0, a.same.path ∙ g.path.1);
  known = λ p. through (g.known p) (a.known p);
  legal = g.legal;
}
grows_on f Met level v u w a g = record {
  prepared = a.same.prepared ∙ g.prepared;
  top = a.same.book.top ∙ g.top;
  path = a.same.path ∙ g.path;
  found = g.found;
  higher = g.higher;
  legal = g.legal;
  known = λ p. through (g.known p) (a.known p);
}

module _ {v u w : View} (a : Agrees u w) where
  pub placed_on : {p : Position} → IsPlaced Always v p u → IsPlaced ⊥ v p w
  placed_on r = record {
    range = range_on r.range a.same.range;
    book = book_on r.book a.same.book;
    path = a.same.path ∙ r.path;
    purse = (r.purse.0, r.purse.1 ∙ ap (λ (xs : List ℕ). r.purse.0 ∷ xs) (sym a.same.purse.purse), a.same.prepared ∙ r.purse.2);
    end = a.same.purse.end ∙ r.end;
    busy = λ x. through (r.busy x) (a.busy x);
    known = λ p. through (r.known p) (a.known p);
    told = λ no. absurd no;
  }

  pub unplaced_on : IsUnplaced Always v u → IsUnplaced ⊥ v w
  unplaced_on r = record {
    range = range_on r.range a.same.range;
    book = book_on r.book a.same.book;
    path = a.same.path ∙ r.path;
    purse = λ x e. a.same.purse.purse ∙ r.purse x e;
    none = a.same.prepared ∙ r.none;
    end = a.same.purse.end ∙ r.end;
    busy = λ x. through (r.busy x) (a.busy x);
    known = λ p. through (r.known p) (a.known p);
    told = λ no. absurd no;
  }

  pub taken_on : {frame : ℕ} {won : Bool} → IsTaken Always frame v won u → IsTaken ⊥ frame v won w
  taken_on {frame = frame} {won = won} r = record {
    range = range_on r.range a.same.range;
    book = book_on r.book a.same.book;
    path = a.same.path ∙ r.path;
    prepared = a.same.prepared ∙ r.prepared;
    end = a.same.purse.end ∙ r.end;
    takes = takes_on won frame v u w a r.takes;
    busy = λ x. through (r.busy x) (a.busy x);
    known = λ p. through (r.known p) (a.known p);
    told = λ no. absurd no;
  }

  pub freed_on : {frames : List ℕ} → IsFreed Always frames v u → IsFreed ⊥ frames v w
  freed_on {frames = frames} r = record {
    range = range_on r.range a.same.range;
    book = book_on r.book a.same.book;
    path = a.same.path ∙ r.path;
    prepared = a.same.prepared ∙ r.prepared;
    purse = r.purse ∙ ap (λ (xs : List ℕ). frames ++ xs) (sym a.same.purse.purse);
    end = a.same.purse.end ∙ r.end;
    busy = λ x. through (r.busy x) (a.busy x);
    known = λ p. through (r.known p) (a.known p);
    told = λ no. absurd no;
  }

module _ {f : Layout} {v u w : View} (a : Agrees u w) where
  pub rooted_on : {level : ℕ} → IsWhole f v → Rooted f Always (IsWhole f v) v level u → Rooted f ⊥ (Unit {0}) v level w
  rooted_on whole r = record {
    range = range_on r.range a.same.range;
    book = book_on r.book a.same.book;
    purse = purse_on r.purse a.same.purse;
    prepared = a.same.prepared ∙ r.prepared;
    path = (r.path.0, a.same.path ∙ r.path.1);
    busy = λ x. through (r.busy x) (a.busy x);
    known = λ p. through (r.known p) (a.known p);
    told = λ no. absurd no;
    legal = r.legal;
    reaches = r.reaches;
    over_tables = r.over_tables;
    over_known = r.over_known;
    exact = λ _. r.exact whole;
  }

  looked_on : {p : Position} {number : ℕ} (seen : Seen) → IsWhole f v → Looked f Always (IsWhole f v) v p number seen u → Looked f ⊥ (Unit {0}) v p number seen w
  looked_on Empty whole (zero x path known vacant told) = zero w (a.same.path ∙ path) (λ p. through (known p) (a.known p)) vacant (λ no. absurd no)
  looked_on (Leaf word) whole (leaf x word' piece path known told member at once is under) =
      leaf w word piece (a.same.path ∙ path) (λ p. through (known p) (a.known p)) (λ no. absurd no) member at once is under
  looked_on Entered whole (table x frame path known told high none owned) =
      table w frame (a.same.path ∙ path) (λ p. through (known p) (a.known p)) (λ no. absurd no) high none (λ _. owned whole)

  pub went_on : {number : ℕ} {seen : Seen} → IsWhole f v → Went f Always (IsWhole f v) number v seen u → Went f ⊥ (Unit {0}) number v seen w
  went_on {seen = seen} whole r = record {
    range = range_on r.range a.same.range;
    book = book_on r.book a.same.book;
    purse = purse_on r.purse a.same.purse;
    prepared = a.same.prepared ∙ r.prepared;
    busy = λ x. through (r.busy x) (a.busy x);
    looked = λ p entry. looked_on seen whole (r.looked p entry);
  }

  pub installed_on : {number : ℕ} {won : Won} → IsInstalled f Always number v won u → IsInstalled f ⊥ number v won w
  installed_on {won = won} r = record {
    range = range_on r.range a.same.range;
    pieces = a.same.book.pieces ∙ r.pieces;
    top = a.same.book.top ∙ r.top;
    purse = purse_on r.purse a.same.purse;
    prepares = prepares_on won v u w a r.prepares;
    busy = λ x. through (r.busy x) (a.busy x);
    tables = λ p entry. a.same.book.tables ∙ r.tables p entry;
    path = λ p entry. ((r.path p entry).0, a.same.path ∙ (r.path p entry).1);
    known = λ p entry q. through (r.known p entry q) (a.known q);
    told = λ no. absurd no;
  }

  pub written_on : {number word : ℕ} → IsWritten f Always number word v u → IsWritten f ⊥ number word v w
  written_on r = record {
    range = range_on r.range a.same.range;
    purse = purse_on r.purse a.same.purse;
    path = a.same.path ∙ r.path;
    prepared = a.same.prepared ∙ r.prepared;
    busy = λ x. through (r.busy x) (a.busy x);
    known = λ p. through (r.known p) (a.known p);
    tables = a.same.book.tables ∙ r.tables;
    pieces = λ y is put. a.same.book.pieces ∙ r.pieces y is put;
    top = λ y is put. a.same.book.top ∙ r.top y is put;
    stores = λ no. absurd no;
    told = λ no. absurd no;
  }

  pub cleared_on : {number : ℕ} → IsCleared f Always number v u → IsCleared f ⊥ number v w
  cleared_on r = record {
    range = range_on r.range a.same.range;
    purse = purse_on r.purse a.same.purse;
    path = a.same.path ∙ r.path;
    prepared = a.same.prepared ∙ r.prepared;
    busy = λ x. through (r.busy x) (a.busy x);
    known = λ p. through (r.known p) (a.known p);
    tables = a.same.book.tables ∙ r.tables;
    top = a.same.book.top ∙ r.top;
    pieces = λ p entry. a.same.book.pieces ∙ r.pieces p entry;
    stores = λ no. absurd no;
    told = λ no. absurd no;
  }

  pub unlinked_on : {number : ℕ} → IsUnlinked f Always number v u → IsUnlinked f ⊥ number v w
  unlinked_on r = record {
    range = range_on r.range a.same.range;
    pieces = a.same.book.pieces ∙ r.pieces;
    top = a.same.book.top ∙ r.top;
    path = a.same.path ∙ r.path;
    purse = (r.purse.0, a.same.purse.purse ∙ r.purse.1);
    end = a.same.purse.end ∙ r.end;
    prepared = a.same.prepared ∙ r.prepared;
    busy = λ x. through (r.busy x) (a.busy x);
    tables = λ p entry. a.same.book.tables ∙ r.tables p entry;
    known = λ p entry q. through (r.known p entry q) (a.known q);
    told = λ no. absurd no;
  }

  pub grown_on : {won : Won} → IsWhole f v → IsGrown f Always (IsWhole f v) v won u → IsGrown f ⊥ (Unit {0}) v won w
  grown_on {won = won} whole r = record {
    range = range_on r.range a.same.range;
    pieces = a.same.book.pieces ∙ r.pieces;
    tables = a.same.book.tables ∙ r.tables;
    purse = purse_on r.purse a.same.purse;
    busy = λ x. through (r.busy x) (a.busy x);
    grows = λ level root. grows_on f won level v u w a (r.grows level root);
    told = λ no. absurd no;
    wins = λ _. r.wins whole;
  }
