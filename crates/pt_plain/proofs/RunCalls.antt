-- The call that stores a run of entries: it is so many writes.
use Rattle.std.proofs.Common.{◌≡◌, ℕ, zero, suc, ◌+◌, ◌-◌, ◌*◌, ◌^◌, ◌<◌, ◌≤◌, List, [], ◌∷◌, ◌++◌, length, refl, ap, sym, ◌∙◌, subst, arith, length-set, max}
use Rattle.std.specs.Prelude.{slice_index, slice_set}
use Rattle.std.proofs.lemmas.List.Sums.{fold-append}
use Rattle.pt_model.specs.declared.position.Position.{Position}
use Rattle.pt_model.specs.Layout.{Layout, end_of}
use Rattle.pt_model.specs.Tables.{add_positions, least_top}
use Rattle.pt_model.specs.Words.{entry_place}
use Rattle.pt_view.specs.declared.view.View.{View}
use Rattle.pt_view.specs.declared.view.Piece.{Piece}
use Rattle.pt_model.specs.Sets.{IsAmong, SamePositions}
use Rattle.pt_view.specs.Lists.{SameFrames}
use Rattle.pt_view.specs.Pieces.{add_piece, add_pieces, pieces_by, word_of}
use Rattle.pt_view.specs.Views.{SamePurse, SameRange}
use Rattle.pt_view.specs.Calls.{ArePieces, IsWritten, IsWrittenRun, MayPut, MayWriteRun, lowest, off_spine, pieces_at, top_over}
use Rattle.pt_rule.proofs.PieceRuns.{added_more, elsewhere, none_added, pieces_more}
use Rattle.pt_plain.specs.Owner.{Fields, IsOwner, set_run, span_view, whole_view}
use Rattle.pt_plain.proofs.EntryCalls as entry
use Rattle.pt_plain.proofs.Laws.{Laws}
use Rattle.pt_plain.proofs.Owners.{Does, does, given, span_whole}
use Rattle.pt_view.proofs.Stays.{purse_here, purse_on, range_here, range_on}

-- What a number of writes leaves of a view, beside its pieces.
pub record Keeps (v w : View) : Type 0 where
  pub range : SameRange v w
  pub purse : SamePurse v w
  pub path : w.path ≡ v.path
  pub prepared : w.prepared ≡ v.prepared
  pub busy : SameFrames v.busy w.busy
  pub known : SamePositions v.known w.known
  pub tables : w.tables ≡ v.tables
  pub top : w.top ≡ v.top

pub keeps_here : (v : View) → Keeps v v
keeps_here v = record {
  range = range_here;
  purse = purse_here;
  path = refl;
  prepared = refl;
  busy = λ x. ((λ h. h), (λ h. h));
  known = λ p. ((λ h. h), (λ h. h));
  tables = refl;
  top = refl;
}

pub keeps_on : {u v w : View} → Keeps u v → Keeps v w → Keeps u w
keeps_on a b = record {
  range = range_on a.range b.range;
  purse = purse_on a.purse b.purse;
  path = b.path ∙ a.path;
  prepared = b.prepared ∙ a.prepared;
  busy = λ x. ((λ h. (a.busy x).0 ((b.busy x).0 h)), (λ h. (b.busy x).1 ((a.busy x).1 h)));
  known = λ p. ((λ h. (a.known p).0 ((b.known p).0 h)), (λ h. (b.known p).1 ((a.known p).1 h)));
  tables = b.tables ∙ a.tables;
  top = b.top ∙ a.top;
}

pub run_length : (words : List ℕ) (place count word step : ℕ) → length (set_run words place count word step) ≡ length words
run_length words place zero word step = refl
run_length words place (suc count) word step =
    length-set (set_run words place count word step) (place + count) (word + count * step) ∙ run_length words place count word step

-- a top that reaches over each block stays
top_stays : (f : Layout) (levels top : ℕ) (xs : List Piece) → top_over f levels top xs ≡ top → (x : Piece) → max top (least_top f levels (end_of x.block)) ≡ top →
    top_over f levels top (xs ++ x ∷ []) ≡ top
top_stays f levels top xs rest x reaches =
    fold-append (λ (t : ℕ) (y : Piece). max t (least_top f levels (end_of y.block))) top xs (x ∷ [])
    ∙ ap (λ (t : ℕ). max t (least_top f levels (end_of x.block))) rest ∙ reaches

module _ {f : Layout} (laws : Laws f) {o : Fields} (own : IsOwner f o) {first count word step : ℕ} (piece : ℕ → Piece) (are : ArePieces f (whole_view f o) first count word step piece) where
  abbrev v : View
  v = whole_view f o

  abbrev frame : ℕ
  frame = slice_index o.path o.level

  abbrev place : ℕ
  place = entry_place f o.frames frame first

  -- the fields after so many writes, and their view
  abbrev fields_to : ℕ → Fields
  fields_to i = record o { words = set_run o.words (entry_place f o.frames (slice_index o.path o.level) first) i word step }

  abbrev to : ℕ → View
  to i = whole_view f (record o { words = set_run o.words (entry_place f o.frames (slice_index o.path o.level) first) i word step })

  record Written (i : ℕ) : Type 0 where
    pub owner : IsOwner f (fields_to i)
    pub keeps : Keeps v (to i)
    pub pieces : (to i).pieces ≡ add_pieces f v.pieces (pieces_by piece i)
    pub top : top_over f v.levels v.top (pieces_by piece i) ≡ v.top

  -- no piece of those before stands at an entry
  none_before : (p : Position) (at i : ℕ) → i ≤ at → at < count → pieces_at f p (first + at) (add_pieces f v.pieces (pieces_by piece i)) ≡ pieces_at f p (first + at) v.pieces
  none_before p at i less within = none_added f p (first + at) v.pieces piece i
      (λ j before. let may = are.may j (omega arith) in elsewhere f may.position p (first + j) (first + at) (piece j) (λ e. omega arith) may.here)

  -- what may be put before the writes may be put after those before it
  may_after : (i : ℕ) → i < count → Written i → MayPut f (to i) (first + i) (piece i)
  unfolding whole_view
  may_after i less w =
      let may = are.may i less in
      let k = w.keeps in record {
        position = may.position;
        entry = record { node = may.entry.node; is_lowest = ap lowest k.path ∙ may.entry.is_lowest; at = may.entry.at; within = may.entry.within };
        inside = may.inside;
        no_piece = ap (λ (xs : List Piece). pieces_at f may.position (first + i) xs) w.pieces ∙ none_before may.position i i (let e : i ≤ i = omega arith in e) less ∙ may.no_piece;
        no_table = λ q h. may.no_table q (subst (λ (ps : List Position). IsAmong ps q) k.tables h);
        here = may.here;
        a_part = may.a_part;
        legal = may.legal;
        stated = may.stated;
        in_span = may.in_span;
      }

  begun : Written 0
  begun = record { owner = own; keeps = keeps_here v; pieces = refl; top = refl }

  module _ (i : ℕ) (less : i < count) (w : Written i) where
    may : MayPut f (to i) (first + i) (piece i)
    may = may_after i less w

    -- the words after the next write
    next_is : set_run o.words place (suc i) word step ≡ slice_set (set_run o.words place i word step) (entry_place f o.frames frame (first + i)) (word_of f (piece i))
    next_is =
        let at : entry_place f o.frames frame (first + i) ≡ place + i = omega arith in
        sym (λ j. slice_set (set_run o.words place i word step) (at j) (are.word_is i less j))

    step_does : Does f (fields_to i) (fields_to (suc i)) (λ v w. IsWritten f ⊥ (first + i) (word_of f (piece i)) v w × (w.tables ≡ v.tables) × (w.top ≡ v.top))
    step_does = entry.wrote laws w.owner (first + i) (piece i) (subst (λ (u : View). MayPut f u (first + i) (piece i)) (sym (span_whole w.owner)) may)
        (set_run o.words place (suc i) word step) next_is

    wrote : IsWritten f ⊥ (first + i) (word_of f (piece i)) (to i) (to (suc i)) × ((to (suc i)).tables ≡ (to i).tables) × ((to (suc i)).top ≡ (to i).top)
    wrote = subst (λ (t : View × View). IsWritten f ⊥ (first + i) (word_of f (piece i)) t.0 t.1 × (t.1.tables ≡ t.0.tables) × (t.1.top ≡ t.0.top))
        (λ j. (span_whole w.owner j, span_whole step_does.owner j)) step_does.says

    -- the top reaches over the block already
    reaches : max v.top (least_top f v.levels (end_of (piece i).block)) ≡ v.top
    reaches =
        let k = w.keeps in
        (λ j. max (sym k.top j) (least_top f (sym k.range.levels j) (end_of (piece i).block))) ∙ sym (wrote.0.top (piece i) refl may) ∙ wrote.2 ∙ k.top

    after : Written (suc i)
    after =
        let k = w.keeps in let r = wrote.0 in record {
          owner = step_does.owner;
          keeps = keeps_on k (record {
            range = r.range;
            purse = r.purse;
            path = r.path;
            prepared = r.prepared;
            busy = r.busy;
            known = r.known;
            tables = wrote.1;
            top = wrote.2;
          });
          pieces = r.pieces (piece i) refl may ∙ ap (λ (xs : List Piece). add_piece f xs (piece i)) w.pieces ∙ sym (added_more f v.pieces piece i);
          top = ap (top_over f v.levels v.top) (pieces_more piece i) ∙ top_stays f v.levels v.top (pieces_by piece i) w.top (piece i) reaches;
        }

  all_to : (i : ℕ) → i ≤ count → Written i
  all_to zero few = begun
  all_to (suc i) few = after i (omega arith) (all_to i (omega arith))

  abbrev all_of : Written count
  all_of = all_to count (let e : count ≤ count = omega arith in e)

  -- the tables of the path are the book's already
  path_tables : 0 < count → (to count).tables ≡ add_positions v.tables (off_spine v.levels v.path)
  path_tables some = all_of.keeps.tables ∙ sym (wrote 0 some begun).1 ∙ (wrote 0 some begun).0.tables

abbrev pub MayRun : {f : Layout} {o : Fields} → IsOwner f o → (first count word step : ℕ) → Type 0
MayRun {f} {o} own first count word step = MayWriteRun f (span_view f o) first count word step

abbrev pub Runs : {f : Layout} {o : Fields} → IsOwner f o → (first count word step : ℕ) → List ℕ → Type 0
Runs {f} {o} own first count word step words = Does f o (record o { words = words }) (λ v w. IsWrittenRun f ⊥ first count word step v w)

-- the call, whatever pieces its words are of
module _ {f : Layout} (laws : Laws f) {o : Fields} (own : IsOwner f o) {first count word step : ℕ} (asked : MayWriteRun f (span_view f o) first count word step) where
  asks : MayWriteRun f (whole_view f o) first count word step
  asks = given own (λ w. MayWriteRun f w first count word step) asked

  pub run_inside : first + count ≤ 2 ^ f.index
  run_inside = let some = asked.some in let low = (asked.are.may (count - 1) (omega arith)).entry.within in omega arith

  pub run_within : slice_index o.path o.level < o.frames
  run_within = entry.write_within laws own (first + 0) (asked.piece 0) (asked.are.may 0 asked.some)

  pub ran : (words : List ℕ) → words ≡ set_run o.words (entry_place f o.frames (slice_index o.path o.level) first) count word step →
      Runs own first count word step words
  ran words is = subst (λ (ws : List ℕ). Does f o (record o { words = ws }) (λ v w. IsWrittenRun f ⊥ first count word step v w)) (sym is)
      (let k = (all_of laws own asks.piece asks.are).keeps in
      does (λ v w. IsWrittenRun f ⊥ first count word step v w) own (all_of laws own asks.piece asks.are).owner (record {
        range = k.range;
        purse = k.purse;
        path = k.path;
        prepared = k.prepared;
        busy = k.busy;
        known = k.known;
        tables = path_tables laws own asks.piece asks.are asks.some;
        pieces = λ x a. (all_of laws own x a).pieces;
        top = λ x a. (all_of laws own x a).keeps.top ∙ sym (all_of laws own x a).top;
        stores = λ no. absurd no;
        told = λ no. absurd no;
      }))
