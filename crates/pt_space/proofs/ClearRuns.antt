-- A lease clears a run of entries: at each of them a piece stands and is cleared, or none does.
use Rattle.std.proofs.Common.{◌≡◌, ℕ, suc, ◌+◌, ◌<◌, ◌≤◌, List, [], ◌∷◌, ◌++◌, length, map, refl, ap, sym, ◌∙◌, subst, arith, append_assoc, length-append}
use Rattle.std.specs.Prelude.{Bool, if◌then◌else◌}
use Rattle.std.proofs.lemmas.Bool.{le-ltb}
use Rattle.std.proofs.lemmas.List.{append-nil, map-append}
use Rattle.pt_model.specs.declared.position.Position.{Position}
use Rattle.pt_model.specs.Layout.{Layout}
use Rattle.pt_model.specs.Sets.{SamePositions}
use Rattle.pt_model.specs.Tables.{child_at}
use Rattle.pt_view.specs.declared.view.View.{View}
use Rattle.pt_view.specs.declared.view.Piece.{Piece}
use Rattle.pt_view.specs.declared.view.Absence.TheVariants.{Zero}
use Rattle.pt_view.specs.declared.view.Change.{Change}
use Rattle.pt_view.specs.declared.view.Change.TheVariants.{Cleared}
use Rattle.pt_view.specs.declared.holder.Seen.TheVariants.{Empty, Leaf, Entered}
use Rattle.pt_view.specs.Lists.{SameFrames}
use Rattle.pt_view.specs.Pieces.{IsOneOf}
use Rattle.pt_view.specs.Views.{SameBook, SameHistory, SamePurse, SameRange}
use Rattle.pt_view.specs.Calls.{IsCleared, IsEntryAt, Looked, MayClear, MayDrop, MeetsEntry, Went, zero as looked_zero, leaf as looked_leaf, table as looked_table, drop_at, lowest, pieces_at}
use Rattle.pt_view.specs.Runs.{IsClearedRun, MayClearRun, drop_run, keep_at, keep_run}
use Rattle.pt_view.proofs.Stays.{purse_here, purse_on, range_here, range_on}
use Rattle.pt_rule.specs.Meets.{Always, IsWhole}
use Rattle.pt_rule.proofs.PieceRuns.{drop_no_run, drop_none, drop_run_more, inside_meets, keep_none, keep_one, keep_past}
use Rattle.pt_space.proofs.Nodes.{same_place}

-- What a look at an entry of a table of level 0 leaves: it makes no path and tells of nothing absent.
record Looks (v w : View) : Type 0 where
  pub range : SameRange v w
  pub book : SameBook v w
  pub purse : SamePurse v w
  pub path : w.path ≡ v.path
  pub prepared : w.prepared ≡ v.prepared
  pub busy : SameFrames v.busy w.busy
  pub known : SamePositions v.known w.known
  pub history : SameHistory v w

-- the one piece at an entry
record Stands (f : Layout) (p : Position) (number : ℕ) (v : View) : Type 0 where
  pub piece : Piece
  pub member : IsOneOf v.pieces piece
  pub here : pieces_at f p number (piece ∷ []) ≡ 1
  pub once : pieces_at f p number v.pieces ≡ 1

module _ {f : Layout} {alone : Type 0} {number : ℕ} {v w : View} {p : Position} (low : p.level ≡ 0) (entry : IsEntryAt f v p number) where
  looked_nothing : Went f Always alone number v Empty w → Looks v w × (pieces_at f p number v.pieces ≡ 0)
  looked_nothing went = by (went.looked p entry)
    where
      by : Looked f Always alone v p number Empty w → Looks v w × (pieces_at f p number v.pieces ≡ 0)
      by (looked_zero _ path known vacant told) = (
        record {
          range = went.range;
          book = went.book;
          purse = went.purse;
          path = path;
          prepared = went.prepared;
          busy = went.busy;
          known = known;
          history = record {
            taken = (told tt).0;
            absent = (told tt).1 ∙ ap (λ (b : Bool). v.absent ++ (if b then Zero (child_at f p number) ∷ [] else [])) (le-ltb 0 p.level (omega arith)) ∙ append-nil v.absent;
            stores = (told tt).2;
          };
        },
        vacant.no_piece,
      )

  looked_piece : {word : ℕ} → Went f Always alone number v (Leaf word) w → Looks v w × Stands f p number v
  looked_piece {word} went = by (went.looked p entry)
    where
      by : Looked f Always alone v p number (Leaf word) w → Looks v w × Stands f p number v
      by (looked_leaf _ _ piece path known told member here once is under) = (
        record {
          range = went.range;
          book = went.book;
          purse = went.purse;
          path = path;
          prepared = went.prepared;
          busy = went.busy;
          known = known;
          history = told tt;
        },
        record { piece = piece; member = member; here = here; once = once },
      )

  no_pointer : Went f Always alone number v Entered w → ⊥
  no_pointer went = by (went.looked p entry)
    where
      by : Looked f Always alone v p number Entered w → ⊥
      by (looked_table _ frame path known told high none owned) = absurd (omega arith)

pub cleared_nothing : {f : Layout} {first : ℕ} {v : View} → IsClearedRun f Always first 0 v 0 v
cleared_nothing {f} {first} {v} = record {
  range = range_here;
  purse = purse_here;
  path = refl;
  prepared = refl;
  busy = λ x. ((λ h. h), (λ h. h));
  known = λ p. ((λ h. h), (λ h. h));
  tables = refl;
  top = refl;
  pieces = λ p e. sym (drop_no_run f p first v.pieces);
  number = λ p e. refl;
  stores = λ t p e. sym (append-nil v.stores);
  told = λ t. (refl, refl);
}

module _ {f : Layout} {first count : ℕ} {v : View} (may : MayClearRun f v first count) {i cleared : ℕ} {w : View} (so_far : IsClearedRun f Always first i v cleared w) where
  abbrev p : Position
  p = may.position

  at_first : IsEntryAt f v p first
  at_first = subst (IsEntryAt f v p) (let e : first + 0 ≡ first = omega arith in e) (may.entry 0 may.some)

  pieces_are : w.pieces ≡ drop_run f p first i v.pieces
  pieces_are = so_far.pieces p at_first

  -- a look changes nothing
  looks_on : {u : View} → Looks w u → IsClearedRun f Always first i v cleared u
  looks_on k = record {
    range = range_on so_far.range k.range;
    purse = purse_on so_far.purse k.purse;
    path = k.path ∙ so_far.path;
    prepared = k.prepared ∙ so_far.prepared;
    busy = λ x. ((λ h. (so_far.busy x).0 ((k.busy x).0 h)), (λ h. (k.busy x).1 ((so_far.busy x).1 h)));
    known = λ q. ((λ h. (so_far.known q).0 ((k.known q).0 h)), (λ h. (k.known q).1 ((so_far.known q).1 h)));
    tables = k.book.tables ∙ so_far.tables;
    top = k.book.top ∙ so_far.top;
    pieces = λ q e. k.book.pieces ∙ so_far.pieces q e;
    number = so_far.number;
    stores = λ t q e. k.history.stores ∙ so_far.stores t q e;
    told = λ t. (k.history.taken ∙ (so_far.told t).0, k.history.absent ∙ (so_far.told t).1);
  }

  -- The next entry.
  module _ (less : i < count) where
    at_next : IsEntryAt f w p (first + i)
    at_next = let e = may.entry i less in record { node = e.node; is_lowest = ap lowest so_far.path ∙ e.is_lowest; at = e.at; within = e.within }

    pub meets : MeetsEntry f w (first + i)
    meets = record { position = p; entry = at_next; meets = inside_meets f v w p (first + i) so_far.range (may.inside i less) }

    -- those kept before the run's entries are cleared are those that stand there still
    kept_next : keep_at f p (first + i) w.pieces ≡ keep_at f p (first + i) v.pieces
    kept_next = ap (keep_at f p (first + i)) pieces_are ∙ keep_past f p first i (first + i) (let e : first + i ≤ first + i = omega arith in e) v.pieces

    -- one more entry, at which no piece stands
    skipped : pieces_at f p (first + i) w.pieces ≡ 0 → IsClearedRun f Always first (suc i) v cleared w
    skipped none = record {
      range = so_far.range;
      purse = so_far.purse;
      path = so_far.path;
      prepared = so_far.prepared;
      busy = so_far.busy;
      known = so_far.known;
      tables = so_far.tables;
      top = so_far.top;
      pieces = λ q e. subst (λ (r : Position). w.pieces ≡ drop_run f r first (suc i) v.pieces) (same_place at_first e) pieces;
      number = λ q e. subst (λ (r : Position). cleared ≡ length (keep_run f r first (suc i) v.pieces)) (same_place at_first e) (so_far.number p at_first ∙ ap length (sym kept));
      stores = λ t q e. subst (λ (r : Position). w.stores ≡ v.stores ++ map Cleared (keep_run f r first (suc i) v.pieces)) (same_place at_first e)
          (so_far.stores t p at_first ∙ ap (λ (xs : List Piece). v.stores ++ map Cleared xs) (sym kept));
      told = so_far.told;
    }
      where
        pieces : w.pieces ≡ drop_run f p first (suc i) v.pieces
        pieces = sym (drop_none f p (first + i) w.pieces none) ∙ ap (drop_at f p (first + i)) pieces_are ∙ sym (drop_run_more f p first i v.pieces)

        kept : keep_run f p first (suc i) v.pieces ≡ keep_run f p first i v.pieces
        kept = ap (λ (xs : List Piece). keep_run f p first i v.pieces ++ xs) (sym kept_next ∙ keep_none f p (first + i) w.pieces none) ∙ append-nil (keep_run f p first i v.pieces)

    may_drop : (s : Stands f p (first + i) w) → MayDrop f w (first + i) s.piece
    may_drop s = record { position = p; entry = at_next; member = s.member; here = s.here }

    -- one more entry, at which the piece is cleared
    went_on : Stands f p (first + i) w → {u : View} → IsCleared f Always (first + i) w u → IsClearedRun f Always first (suc i) v (suc cleared) u
    went_on s {u} one = record {
      range = range_on so_far.range one.range;
      purse = purse_on so_far.purse one.purse;
      path = one.path ∙ so_far.path;
      prepared = one.prepared ∙ so_far.prepared;
      busy = λ x. ((λ h. (so_far.busy x).0 ((one.busy x).0 h)), (λ h. (one.busy x).1 ((so_far.busy x).1 h)));
      known = λ q. ((λ h. (so_far.known q).0 ((one.known q).0 h)), (λ h. (one.known q).1 ((so_far.known q).1 h)));
      tables = one.tables ∙ so_far.tables;
      top = one.top ∙ so_far.top;
      pieces = λ q e. subst (λ (r : Position). u.pieces ≡ drop_run f r first (suc i) v.pieces) (same_place at_first e)
          (one.pieces p at_next ∙ ap (drop_at f p (first + i)) pieces_are ∙ sym (drop_run_more f p first i v.pieces));
      number = λ q e. subst (λ (r : Position). suc cleared ≡ length (keep_run f r first (suc i) v.pieces)) (same_place at_first e) number;
      stores = λ t q e. subst (λ (r : Position). u.stores ≡ v.stores ++ map Cleared (keep_run f r first (suc i) v.pieces)) (same_place at_first e) (stores t);
      told = λ t. ((one.told t).0 ∙ (so_far.told t).0, (one.told t).1 ∙ (so_far.told t).1);
    }
      where
        kept : keep_run f p first (suc i) v.pieces ≡ keep_run f p first i v.pieces ++ s.piece ∷ []
        kept = ap (λ (xs : List Piece). keep_run f p first i v.pieces ++ xs) (sym kept_next ∙ keep_one f p (first + i) w.pieces s.piece s.member s.here s.once)

        number : suc cleared ≡ length (keep_run f p first (suc i) v.pieces)
        number =
            let before = so_far.number p at_first in
            let more = length-append (keep_run f p first i v.pieces) (s.piece ∷ []) in
            let e : suc cleared ≡ length (keep_run f p first i v.pieces ++ s.piece ∷ []) = omega arith in e ∙ ap length (sym kept)

        stores : Always → u.stores ≡ v.stores ++ map Cleared (keep_run f p first (suc i) v.pieces)
        stores t =
            one.stores t s.piece (may_drop s) ∙ ap (λ (xs : List Change). xs ++ Cleared s.piece ∷ []) (so_far.stores t p at_first)
            ∙ append_assoc v.stores (map Cleared (keep_run f p first i v.pieces)) (Cleared s.piece ∷ [])
            ∙ ap (λ (xs : List Change). v.stores ++ xs) (sym (map-append Cleared (keep_run f p first i v.pieces) (s.piece ∷ [])) ∙ ap (map Cleared) (sym kept))

-- One turn of the call, by what its look found.
module _ {f : Layout} {first count : ℕ} {v : View} (may : MayClearRun f v first count) {i cleared : ℕ} {w : View} (so_far : IsClearedRun f Always first i v cleared w) (less : i < count) {u : View} where
  pub none_there : Went f Always (IsWhole f w) (first + i) w Empty u → IsClearedRun f Always first (suc i) v cleared u
  none_there went =
      let found = looked_nothing may.low (at_next may so_far less) went in
      skipped may (looks_on may so_far found.0) less (ap (pieces_at f may.position (first + i)) found.0.book.pieces ∙ found.1)

  stands_there : {word : ℕ} → Went f Always (IsWhole f w) (first + i) w (Leaf word) u → Stands f may.position (first + i) u
  stands_there went =
      let found = looked_piece may.low (at_next may so_far less) went in record {
        piece = found.1.piece;
        member = subst (λ (xs : List Piece). IsOneOf xs found.1.piece) (sym found.0.book.pieces) found.1.member;
        here = found.1.here;
        once = ap (pieces_at f may.position (first + i)) found.0.book.pieces ∙ found.1.once;
      }

  -- a look at a piece makes no path
  pub path_looked : {word : ℕ} → Went f Always (IsWhole f w) (first + i) w (Leaf word) u → u.path ≡ w.path
  path_looked went = (looked_piece may.low (at_next may so_far less) went).0.path

  pub may_clear : {word : ℕ} → Went f Always (IsWhole f w) (first + i) w (Leaf word) u → MayClear f u (first + i)
  may_clear went =
      let found = looked_piece may.low (at_next may so_far less) went in
      let s = stands_there went in
      (s.piece, may_drop may (looks_on may so_far found.0) less s)

  pub one_there : {word : ℕ} → Went f Always (IsWhole f w) (first + i) w (Leaf word) u → {u' : View} → IsCleared f Always (first + i) u u' → IsClearedRun f Always first (suc i) v (suc cleared) u'
  one_there went one =
      let found = looked_piece may.low (at_next may so_far less) went in
      went_on may (looks_on may so_far found.0) less (stands_there went) one

  pub none_deeper : Went f Always (IsWhole f w) (first + i) w Entered u → ⊥
  none_deeper went = no_pointer may.low (at_next may so_far less) went
