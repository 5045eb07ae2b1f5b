-- The call that clears a run of entries: at each of them a piece stands, and is cleared, or none does.
use Rattle.std.proofs.Common.{◌≡◌, ℕ, zero, suc, Bool, ◌+◌, ◌-◌, ◌*◌, ◌^◌, ◌<◌, ◌≤◌, List, length, refl, ap, sym, ◌∙◌, subst, arith, length-append, eq-eqb}
use Rattle.std.specs.Prelude.{◌==◌, not, slice_index, slice_set}
use Rattle.std.proofs.lemmas.Bool.{ne_eqb}
use Rattle.std.proofs.lemmas.List.{set-get_or}
use Rattle.pt_model.specs.declared.position.Position.{Position}
use Rattle.pt_model.specs.Layout.{Layout}
use Rattle.pt_model.specs.Sets.{one_if}
use Rattle.pt_model.specs.Words.{entry_of, entry_place}
use Rattle.pt_view.specs.declared.view.View.{View}
use Rattle.pt_view.specs.Calls.{IsCleared, IsEntryAt, MayClear, MeetsEntry, drop_at, lowest, pieces_at}
use Rattle.pt_view.specs.Runs.{IsClearedRun, MayClearRun, drop_run, keep_at, keep_run}
use Rattle.pt_view.proofs.Stays.{range_here}
use Rattle.pt_rule.specs.Kinds.{EntryTells, zero as tells_zero, own as tells_own, pointer as tells_pointer, look}
use Rattle.pt_rule.proofs.PieceFacts.{word_some}
use Rattle.pt_rule.proofs.PieceRuns.{drop_no_run, drop_none, drop_run_more, inside_meets, keep_length}
use Rattle.pt_plain.specs.Owner.{Fields, IsOwner, nonzero_in, set_run, span_view, whole_view}
use Rattle.pt_plain.proofs.EntryCalls as entry
use Rattle.pt_plain.proofs.Laws.{Laws}
use Rattle.pt_plain.proofs.Owners.{Does, does, frame_within, given, lowest_in, place_is, span_whole}
use Rattle.pt_plain.proofs.RunCalls.{Keeps, keeps_here, keeps_on}
use Rattle.pt_plain.proofs.Steps.{told}

module _ {f : Layout} (laws : Laws f) {o : Fields} (own : IsOwner f o) {first count : ℕ} (asked : MayClearRun f (whole_view f o) first count) where
  abbrev v : View
  v = whole_view f o

  abbrev frame : ℕ
  frame = slice_index o.path o.level

  abbrev place : ℕ
  place = entry_place f o.frames frame first

  abbrev p : Position
  p = asked.position

  -- the fields after so many entries, and their view
  abbrev fields_to : ℕ → Fields
  fields_to i = record o { words = set_run o.words (entry_place f o.frames (slice_index o.path o.level) first) i 0 0 }

  abbrev to : ℕ → View
  to i = whole_view f (record o { words = set_run o.words (entry_place f o.frames (slice_index o.path o.level) first) i 0 0 })

  record Cleared (i : ℕ) : Type 0 where
    pub owner : IsOwner f (fields_to i)
    pub keeps : Keeps v (to i)
    pub pieces : (to i).pieces ≡ drop_run f p first i v.pieces

  begun : Cleared 0
  begun = record { owner = own; keeps = keeps_here v; pieces = sym (drop_no_run f p first v.pieces) }

  -- One entry more.
  module _ (i : ℕ) (less : i < count) (c : Cleared i) where
    abbrev words : List ℕ
    words = set_run o.words place i 0 0

    abbrev found : ℕ
    found = entry_of f o.frames words frame (first + i)

    at_entry : IsEntryAt f (to i) p (first + i)
    at_entry = let e = asked.entry i less in record { node = e.node; is_lowest = ap lowest c.keeps.path ∙ e.is_lowest; at = e.at; within = e.within }

    meets : MeetsEntry f (to i) (first + i)
    meets = record { position = p; entry = at_entry; meets = inside_meets f v (to i) p (first + i) c.keeps.range (asked.inside i less) }

    tells : EntryTells f o.frames (to i) p (first + i) found
    tells = told laws c.owner (look frame (first + i)) (lowest_in c.owner at_entry, meets) p at_entry

    -- the words after it
    next_is : set_run o.words place (suc i) 0 0 ≡ slice_set words (entry_place f o.frames frame (first + i)) 0
    next_is =
        let at : place + i ≡ entry_place f o.frames frame (first + i) = omega arith in
        let none : 0 + i * 0 ≡ 0 = omega arith in
        λ j. slice_set words (at j) (none j)

    record Goes (w : Fields) : Type 0 where
      pub owner : IsOwner f w
      pub keeps : Keeps (to i) (whole_view f w)
      pub pieces : (whole_view f w).pieces ≡ drop_at f p (first + i) (to i).pieces

    -- no piece stands there, and the words are the same
    stays : found ≡ 0 → pieces_at f p (first + i) (to i).pieces ≡ 0 → Goes (fields_to (suc i))
    stays empty none =
        let same : set_run o.words place (suc i) 0 0 ≡ words =
        next_is ∙ ap (slice_set words (entry_place f o.frames frame (first + i))) (sym empty) ∙ set-get_or words (entry_place f o.frames frame (first + i)) 0 in
        subst (λ (ws : List ℕ). Goes (record o { words = ws })) (sym same)
        (record { owner = c.owner; keeps = keeps_here (to i); pieces = sym (drop_none f p (first + i) (to i).pieces none) })

    -- the piece that stands there is cleared
    goes : MayClear f (to i) (first + i) → Goes (fields_to (suc i))
    goes may =
        let d : Does f (fields_to i) (fields_to (suc i)) (λ v w. IsCleared f ⊥ (first + i) v w) =
        entry.cleared laws c.owner (first + i) (subst (λ (w : View). MayClear f w (first + i)) (sym (span_whole c.owner)) may) (set_run o.words place (suc i) 0 0) next_is in
        let r : IsCleared f ⊥ (first + i) (to i) (to (suc i)) =
        subst (λ (t : View × View). IsCleared f ⊥ (first + i) t.0 t.1) (λ j. (span_whole c.owner j, span_whole d.owner j)) d.says in record {
          owner = d.owner;
          keeps = record { range = r.range; purse = r.purse; path = r.path; prepared = r.prepared; busy = r.busy; known = r.known; tables = r.tables; top = r.top };
          pieces = r.pieces p at_entry;
        }

    one : Goes (fields_to (suc i))
    one = elim tells [
      | tells_zero none vacant ↦ stays none vacant.no_piece
      | tells_own x member legal here once is under ↦ goes (x, record { position = p; entry = at_entry; member = member; here = here })
      | tells_pointer g within level is known none ↦ absurd (let high = level.above in let low = asked.low in omega arith)
    ]

    more : Cleared (suc i)
    more = record {
      owner = one.owner;
      keeps = keeps_on c.keeps one.keeps;
      pieces = one.pieces ∙ ap (drop_at f p (first + i)) c.pieces ∙ sym (drop_run_more f p first i v.pieces);
    }

  all_to : (i : ℕ) → i ≤ count → Cleared i
  all_to zero few = begun
  all_to (suc i) few = more i (omega arith) (all_to i (omega arith))

  abbrev all_of : Cleared count
  all_of = all_to count (let e : count ≤ count = omega arith in e)

  -- How many words aren't zero.

  counts : (i : ℕ) → i < count → length (keep_at f p (first + i) v.pieces) ≡ one_if (not (slice_index o.words (place + i) == 0))
  counts i less =
      let at : entry_place f o.frames frame (first + i) ≡ place + i = omega arith in
      let e : IsEntryAt f v p (first + i) = asked.entry i less in
      let meets : MeetsEntry f v (first + i) = record { position = p; entry = e; meets = inside_meets f v v p (first + i) range_here (asked.inside i less) } in
      keep_length f p (first + i) v.pieces
      ∙ by_word (told laws own (look frame (first + i)) (lowest_in own e, meets) p e)
      ∙ ap (λ (k : ℕ). one_if (not (slice_index o.words k == 0))) at
    where
      by_word : EntryTells f o.frames v p (first + i) (entry_of f o.frames o.words frame (first + i)) →
          pieces_at f p (first + i) v.pieces ≡ one_if (not (entry_of f o.frames o.words frame (first + i) == 0))
      by_word (tells_zero none vacant) = vacant.no_piece ∙ sym (ap (λ (b : Bool). one_if (not b)) (eq-eqb _ 0 none))
      by_word (tells_own x member legal here once is under) =
          once ∙ sym (ap (λ (b : Bool). one_if (not b)) (ne_eqb _ 0 (λ z. word_some f laws.layout v x legal laws.differ (sym is ∙ z))))
      by_word (tells_pointer g within level is known none) = absurd (let high = level.above in let low = asked.low in omega arith)

  pub number_is : (i : ℕ) → i ≤ count → length (keep_run f p first i v.pieces) ≡ nonzero_in o.words place i
  number_is zero few = refl
  number_is (suc i) few =
      let rest = number_is i (omega arith) in
      let one = counts i (omega arith) in
      length-append (keep_run f p first i v.pieces) (keep_at f p (first + i) v.pieces) ∙ omega arith

-- What the call does, and what is asked of the view before.
abbrev pub Asks : {f : Layout} {o : Fields} → IsOwner f o → (first count : ℕ) → Type 0
Asks {f} {o} own first count = MayClearRun f (span_view f o) first count

abbrev pub Clears : {f : Layout} {o : Fields} → IsOwner f o → (first count number : ℕ) → List ℕ → Type 0
Clears {f} {o} own first count number words = Does f o (record o { words = words }) (λ v w. IsClearedRun f ⊥ first count v number w)

module _ {f : Layout} (laws : Laws f) {o : Fields} (own : IsOwner f o) {first count : ℕ} (asked : MayClearRun f (span_view f o) first count) where
  asks : MayClearRun f (whole_view f o) first count
  asks = given own (λ w. MayClearRun f w first count) asked

  pub run_within : slice_index o.path o.level < o.frames
  run_within = frame_within own (asks.entry 0 asks.some)

  pub run_inside : first + count ≤ 2 ^ f.index
  run_inside = let some = asks.some in let low = (asks.entry (count - 1) (omega arith)).within in omega arith

  pub cleared : (words : List ℕ) (number : ℕ) → words ≡ set_run o.words (entry_place f o.frames (slice_index o.path o.level) first) count 0 0 →
      number ≡ nonzero_in o.words (entry_place f o.frames (slice_index o.path o.level) first) count → Clears own first count number words
  cleared words number is number_is' = subst (λ (ws : List ℕ). Does f o (record o { words = ws }) (λ v w. IsClearedRun f ⊥ first count v number w)) (sym is)
      (let all = all_of laws own asks in let k = all.keeps in
      does (λ v w. IsClearedRun f ⊥ first count v number w) own all.owner (record {
        range = k.range;
        purse = k.purse;
        path = k.path;
        prepared = k.prepared;
        busy = k.busy;
        known = k.known;
        tables = k.tables;
        top = k.top;
        pieces = λ p e. all.pieces ∙ ap (λ (q : Position). drop_run f q first count (whole_view f o).pieces) (place_is own (asks.entry 0 asks.some) ∙ sym (place_is own e));
        number = λ p e. number_is' ∙ sym (number_is laws own asks count (let e : count ≤ count = omega arith in e))
            ∙ ap (λ (q : Position). length (keep_run f q first count (whole_view f o).pieces)) (place_is own (asks.entry 0 asks.some) ∙ sym (place_is own e));
        stores = λ no. absurd no;
        told = λ no. absurd no;
      }))
