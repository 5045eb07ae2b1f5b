-- The look at a run of entries: where their words are zero, nothing stands under them.
use Rattle.std.proofs.Common.{◌≡◌, ℕ, Bool, ◌+◌, ◌-◌, ◌^◌, ◌<◌, ◌≤◌, refl, ap, sym, ◌∙◌, subst, arith}
use Rattle.std.specs.Prelude.{IsTrue, Some, slice_index}
use Rattle.pt_model.specs.declared.position.Position.{Position}
use Rattle.pt_model.specs.Layout.{Layout}
use Rattle.pt_model.specs.Words.{entry_of, entry_place}
use Rattle.pt_view.specs.declared.view.View.{View}
use Rattle.pt_view.specs.declared.view.Node.{Node}
use Rattle.pt_view.specs.declared.holder.Seen.TheVariants.{Empty}
use Rattle.pt_view.specs.Calls.{IsEntryAt, IsVacant, Looked, MeetsEntry, zero}
use Rattle.pt_view.specs.Runs.{LooksAtRun, MeetsRun}
use Rattle.pt_view.proofs.Loads.{loads_here}
use Rattle.pt_plain.specs.Owner.{Fields, IsOwner, IsZeroRun, span_view}
use Rattle.pt_plain.proofs.EntryCalls.{finds_zero}
use Rattle.pt_plain.proofs.Laws.{Laws}
use Rattle.pt_plain.proofs.Owners.{frame_within, given}

-- the path has one last table
same_place : {f : Layout} {v : View} {p q : Position} {n m : ℕ} → IsEntryAt f v p n → IsEntryAt f v q m → p ≡ q
same_place a b =
    let both : Some a.node ≡ Some b.node = sym a.is_lowest ∙ b.is_lowest in
    let node : a.node ≡ b.node = cc in
    sym a.at ∙ ap (λ (x : Node). x.position) node ∙ b.at

vacant_of : {f : Layout} {v w : View} {p : Position} {number : ℕ} → Looked f ⊥ (Unit {0}) v p number Empty w → IsVacant f v p number
vacant_of (zero w path known vacant told) = vacant

abbrev pub MayLook : {f : Layout} {o : Fields} → IsOwner f o → (first count : ℕ) → Type 0
MayLook {f} {o} own first count = MeetsRun f (span_view f o) first count

module _ {f : Layout} (laws : Laws f) {o : Fields} (own : IsOwner f o) {first count : ℕ} (asked : MeetsRun f (span_view f o) first count) where
  abbrev frame : ℕ
  frame = slice_index o.path o.level

  pub run_within : frame < o.frames
  run_within = let asks = given own (λ w. MeetsRun f w first count) asked in frame_within own (asks.entry 0 asks.some)

  pub run_inside : first + count ≤ 2 ^ f.index
  run_inside = let some = asked.some in let low = (asked.entry (count - 1) (omega arith)).within in omega arith

  -- an entry of the run is vacant
  vacant_at : (i : ℕ) → i < count → slice_index o.words (entry_place f o.frames frame first + i) ≡ 0 → IsVacant f (span_view f o) asked.position (first + i)
  vacant_at i less none =
      let meets : MeetsEntry f (span_view f o) (first + i) = record { position = asked.position; entry = asked.entry i less; meets = asked.meets i less } in
      let place : entry_place f o.frames frame (first + i) ≡ entry_place f o.frames frame first + i = omega arith in
      let word : entry_of f o.frames o.words frame (first + i) ≡ 0 = ap (slice_index o.words) place ∙ none in
      vacant_of ((finds_zero laws own (first + i) meets word).says.looked asked.position (asked.entry i less))

  pub looks : (empty : Bool) → (IsTrue empty → IsZeroRun o.words (entry_place f o.frames frame first) count) → LooksAtRun f ⊥ first count (span_view f o) empty (span_view f o)
  looks empty zeros = record {
    loads = loads_here;
    path = refl;
    vacant = λ yes p entry i less.
        subst (λ (q : Position). IsVacant f (span_view f o) q (first + i)) (same_place (asked.entry 0 asked.some) entry) (vacant_at i less (zeros yes i less));
  }
