-- A lease writes a run of entries: it is so many writes.
use Rattle.std.proofs.Common.{◌≡◌, ◌⊎◌, inl, inr, ℕ, suc, ◌+◌, ◌*◌, ◌<◌, ◌≤◌, false, List, [], ◌∷◌, ◌++◌, length, map, refl, ap, sym, ◌∙◌, subst, arith, max, append_assoc}
use Rattle.std.specs.Prelude.{IsTrue, ◌&&◌, nat_le, take}
use Rattle.std.proofs.lemmas.Bool.{le-ltb}
use Rattle.std.proofs.lemmas.List.{append-nil, map-append}
use Rattle.std.proofs.lemmas.List.Sums.{fold-append}
use mathlib.Core.Option.{some}
use lib.ListN.{get_elem?}
use Rattle.pt_model.specs.declared.position.Position.{Position}
use Rattle.pt_model.specs.Layout.{Layout, end_of}
use Rattle.pt_model.specs.Sets.{IsAmong, IsSorted, SamePositions}
use Rattle.pt_model.specs.Tables.{add_positions, least_top}
use Rattle.pt_model.proofs.Positions.{adds_again, adds_cases, adds_new, among_cases, among_filtered, sorted_adds}
use Rattle.pt_format.specs.Laws.{IsLayout}
use Rattle.pt_view.specs.declared.view.View.{View}
use Rattle.pt_view.specs.declared.view.Node.{Node}
use Rattle.pt_view.specs.declared.view.Piece.{Piece}
use Rattle.pt_view.specs.declared.view.Change.{Change}
use Rattle.pt_view.specs.declared.view.Change.TheVariants.{Written}
use Rattle.pt_view.specs.Lists.{SameFrames}
use Rattle.pt_view.specs.Pieces.{add_piece, add_pieces, pieces_by}
use Rattle.pt_view.specs.Views.{SamePurse, SameRange}
use Rattle.pt_view.specs.Calls.{ArePieces, IsEntryAt, IsWritten, IsWrittenRun, MayPut, MayWrite, MayWriteRun, entry_end, entry_first, is_in_span, is_under, lowest, off_spine, pieces_at, top_over}
use Rattle.pt_view.proofs.Stays.{purse_here, purse_on, range_here, range_on}
use Rattle.pt_rule.specs.Meets.{Always}
use Rattle.pt_rule.proofs.PieceRuns.{added_more, elsewhere, none_added, pieces_more}
use Rattle.pt_space.specs.Standing.{Fields, Shows, cut_to}
use Rattle.pt_space.proofs.Nodes.{level_is}
use Rattle.pt_space.proofs.Showing.{take_at, take_length}

-- What the tables of a run's book owe to the path: they are in order, and no table of the path stands lower than its last one.
pub record PathDescends (f : Layout) (v : View) : Type 0 where
  pub in_order : IsSorted v.tables
  pub above : (p : Position) (number : ℕ) → IsEntryAt f v p number → (q : Position) → IsAmong (off_spine v.levels v.path) q → p.level ≤ q.level

-- a position of a path is that of a node
node_of : (xs : List Node) (q : Position) → IsAmong (map (λ (x : Node). x.position) xs) q → (i : ℕ) × (x : Node) × (i < length xs) × (get_elem? xs i ≡ some x) × (x.position ≡ q)
node_of [] q m = absurd (omega arith)
node_of (y ∷ ys) q m = elim (among_cases q y.position (map (λ (x : Node). x.position) ys) m) [
  | inl e ↦ (0, y, omega arith, refl, sym e)
  | inr later ↦ let r = node_of ys q later in (suc r.0, r.1, (let lt = r.2 in omega arith), r.3, r.4)
]

pub path_descends : {f : Layout} → IsLayout f → {n l : ℕ} {v : View} {o : Fields} → Shows f n l v o → PathDescends f (cut_to o.depth v)
path_descends {f} good {n} {l} {v} {o} s = record {
  in_order = s.holds.book.in_order;
  above = λ p number entry q among.
      let x = node_of (take o.depth v.path) q (among_filtered _ (map (λ (x : Node). x.position) (take o.depth v.path)) q among).0 in
      let long = take_length o.depth v.path s.deep in
      let within = x.2 in
      let sum = (s.nodes x.0 x.1 (omega arith) (take_at o.depth x.0 v.path x.1 (omega arith) x.3)).1 in
      let level = level_is good s entry in
      let same = ap (λ (r : Position). r.level) x.4 in omega arith;
}

-- so many entries of a run are written
pub record WrittenTo (f : Layout) (first count word step : ℕ) (i : ℕ) (v w : View) : Type 0 where
  pub range : SameRange v w
  pub purse : SamePurse v w
  pub path : w.path ≡ v.path
  pub prepared : w.prepared ≡ v.prepared
  pub busy : SameFrames v.busy w.busy
  pub known : SamePositions v.known w.known
  pub tables : (i ≡ 0) × (w.tables ≡ v.tables) ⊎ (w.tables ≡ add_positions v.tables (off_spine v.levels v.path))
  pub pieces : (piece : ℕ → Piece) → ArePieces f v first count word step piece → w.pieces ≡ add_pieces f v.pieces (pieces_by piece i)
  pub top : (piece : ℕ → Piece) → ArePieces f v first count word step piece → w.top ≡ top_over f v.levels v.top (pieces_by piece i)
  pub stores : (piece : ℕ → Piece) → ArePieces f v first count word step piece → w.stores ≡ v.stores ++ map Written (pieces_by piece i)
  pub told : (w.taken ≡ v.taken) × (w.absent ≡ v.absent)

pub written_none : {f : Layout} {first count word step : ℕ} {v : View} → WrittenTo f first count word step 0 v v
written_none {v = v} = record {
  range = range_here;
  purse = purse_here;
  path = refl;
  prepared = refl;
  busy = λ x. ((λ h. h), (λ h. h));
  known = λ p. ((λ h. h), (λ h. h));
  tables = inl (refl, refl);
  pieces = λ piece are. refl;
  top = λ piece are. refl;
  stores = λ piece are. sym (append-nil v.stores);
  told = (refl, refl);
}

module _ {f : Layout} {first count word step i : ℕ} {v w : View} (descends : PathDescends f v) (so_far : WrittenTo f first count word step i v w) (less : i < count) where
  -- a table after some writes is one of before, or one of the path
  none_under : (p : Position) (number : ℕ) → IsEntryAt f v p number → ((q : Position) → IsAmong v.tables q → is_under f p number q ≡ false) →
      (q : Position) → IsAmong w.tables q → is_under f p number q ≡ false
  none_under p number entry before q among = elim so_far.tables [
    | inl none ↦ before q (subst (λ (ps : List Position). IsAmong ps q) none.1 among)
    | inr path ↦ elim (adds_cases (off_spine v.levels v.path) v.tables q (subst (λ (ps : List Position). IsAmong ps q) path among)) [
      | inl old ↦ before q old
      | inr on_path ↦ (let high = descends.above p number entry q on_path in let low = le-ltb q.level p.level high in rw low refl)
    ]
  ]

  still_inside : (a b : ℕ) → IsTrue (is_in_span v a b) → IsTrue (is_in_span w a b)
  still_inside a b inside = subst (λ (s : ℕ × ℕ). IsTrue (nat_le s.0 a && nat_le b (s.0 + s.1))) (λ j. (sym so_far.range.first j, sym so_far.range.count j)) inside

  -- what may be put before the writes may be put after those before it
  may_put : (piece : ℕ → Piece) → ArePieces f v first count word step piece → MayPut f w (first + i) (piece i)
  may_put piece are =
      let may = are.may i less in record {
        position = may.position;
        entry = record { node = may.entry.node; is_lowest = ap lowest so_far.path ∙ may.entry.is_lowest; at = may.entry.at; within = may.entry.within };
        inside = still_inside (entry_first f may.position (first + i)) (entry_end f may.position (first + i)) may.inside;
        no_piece = ap (pieces_at f may.position (first + i)) (so_far.pieces piece are)
            ∙ none_added f may.position (first + i) v.pieces piece i (λ j before. let other = are.may j (omega arith) in elsewhere f other.position may.position (first + j) (first + i) (piece j) (λ e. omega arith) other.here)
            ∙ may.no_piece;
        no_table = none_under may.position (first + i) may.entry may.no_table;
        here = may.here;
        a_part = may.a_part;
        legal = may.legal;
        stated = may.stated;
        in_span = still_inside (piece i).block.first (end_of (piece i).block) may.in_span;
      }

  pub may_write : MayWriteRun f v first count word step → MayWrite f w (first + i) (word + i * step)
  may_write may = (may.piece i, sym (may.are.word_is i less), may_put may.piece may.are)

  -- one entry more
  pub written_more : {u : View} → IsWritten f Always (first + i) (word + i * step) w u → WrittenTo f first count word step (suc i) v u
  written_more {u} one = record {
    range = range_on so_far.range one.range;
    purse = purse_on so_far.purse one.purse;
    path = one.path ∙ so_far.path;
    prepared = one.prepared ∙ so_far.prepared;
    busy = λ x. ((λ h. (so_far.busy x).0 ((one.busy x).0 h)), (λ h. (one.busy x).1 ((so_far.busy x).1 h)));
    known = λ p. ((λ h. (so_far.known p).0 ((one.known p).0 h)), (λ h. (one.known p).1 ((so_far.known p).1 h)));
    tables = inr (one.tables ∙ ap (add_positions w.tables) off_path ∙ elim so_far.tables [
      | inl none ↦ ap (λ (ps : List Position). add_positions ps (off_spine v.levels v.path)) none.1
      | inr path ↦ (let s = sorted_adds (off_spine v.levels v.path) v.tables descends.in_order in
          ap (λ (ps : List Position). add_positions ps (off_spine v.levels v.path)) path
          ∙ adds_again (off_spine v.levels v.path) _ s (λ q m. adds_new (off_spine v.levels v.path) v.tables q m))
    ]);
    pieces = λ piece are. one.pieces (piece i) (sym (are.word_is i less)) (may_put piece are) ∙ ap (λ (xs : List Piece). add_piece f xs (piece i)) (so_far.pieces piece are) ∙ sym (added_more f v.pieces piece i);
    top = λ piece are. one.top (piece i) (sym (are.word_is i less)) (may_put piece are) ∙ (λ j. max (so_far.top piece are j) (least_top f (so_far.range.levels j) (end_of (piece i).block)))
        ∙ sym (top_more piece);
    stores = λ piece are. one.stores tt (piece i) (sym (are.word_is i less)) (may_put piece are) ∙ ap (λ (xs : List Change). xs ++ Written (piece i) ∷ []) (so_far.stores piece are)
        ∙ append_assoc v.stores (map Written (pieces_by piece i)) (Written (piece i) ∷ []) ∙ ap (λ (xs : List Change). v.stores ++ xs) (sym (stores_more piece));
    told = ((one.told tt).0 ∙ so_far.told.0, (one.told tt).1 ∙ so_far.told.1);
  }
    where
      off_path : off_spine w.levels w.path ≡ off_spine v.levels v.path
      off_path = λ j. off_spine (so_far.range.levels j) (so_far.path j)

      top_more : (piece : ℕ → Piece) → top_over f v.levels v.top (pieces_by piece (suc i)) ≡ max (top_over f v.levels v.top (pieces_by piece i)) (least_top f v.levels (end_of (piece i).block))
      top_more piece = ap (top_over f v.levels v.top) (pieces_more piece i) ∙ fold-append (λ (t : ℕ) (y : Piece). max t (least_top f v.levels (end_of y.block))) v.top (pieces_by piece i) (piece i ∷ [])

      stores_more : (piece : ℕ → Piece) → map Written (pieces_by piece (suc i)) ≡ map Written (pieces_by piece i) ++ Written (piece i) ∷ []
      stores_more piece = ap (map Written) (pieces_more piece i) ∙ map-append Written (pieces_by piece i) (piece i ∷ [])

-- the whole run
pub all_written : {f : Layout} {first count word step i : ℕ} {v w : View} → 0 < count → i ≡ count → WrittenTo f first count word step i v w → IsWrittenRun f Always first count word step v w
all_written {f} {first} {count} {word} {step} {i} {v} {w} some_entry is r = record {
  range = r.range;
  purse = r.purse;
  path = r.path;
  prepared = r.prepared;
  busy = r.busy;
  known = r.known;
  tables = elim r.tables [ inl none ↦ absurd (let z = none.0 in omega arith) | inr path ↦ path ];
  pieces = λ piece are. r.pieces piece are ∙ ap (λ (k : ℕ). add_pieces f v.pieces (pieces_by piece k)) is;
  top = λ piece are. r.top piece are ∙ ap (λ (k : ℕ). top_over f v.levels v.top (pieces_by piece k)) is;
  stores = λ t piece are. r.stores piece are ∙ ap (λ (k : ℕ). v.stores ++ map Written (pieces_by piece k)) is;
  told = λ t. r.told;
}
