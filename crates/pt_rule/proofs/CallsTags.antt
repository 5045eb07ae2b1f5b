-- Steps on tags are what a holder's calls of take, place, unplace and release say.
use Rattle.std.proofs.Common.{◌≡◌, ◌≢◌, ℕ, Bool, true, false, List, [], ◌∷◌, ◌++◌, refl, ap, sym, ◌∙◌, subst, ⊎_elim, arith}
use Rattle.std.specs.Prelude.{◌==◌, Some, None, if◌then◌else◌}
use Rattle.pt_model.specs.declared.position.Position.{Position}
use Rattle.pt_model.specs.Layout.{Layout}
use Rattle.pt_view.specs.declared.view.View.{View}
use Rattle.pt_view.specs.declared.view.Prepared.{Prepared}
use Rattle.pt_view.specs.Lists.{IsIn, AddsFrame, DropsFrames}
use Rattle.pt_view.specs.Calls.{IsFreed, IsPlaced, IsTaken, IsUnplaced, Takes}
use Rattle.pt_rule.proofs.CallsRooted.{same_frames, same_positions}
use Rattle.pt_rule.specs.Kinds.{after, free, place, rest_of, take, unplace, without}
use Rattle.pt_rule.proofs.FreeKept.{left_cases, stays_left}
use Rattle.pt_view.proofs.Members.{in_cases, in_here, in_more}

adds_frame : (xs : List ℕ) (frame : ℕ) → AddsFrame xs (frame ∷ xs) frame
adds_frame xs frame x = (
  λ h. in_cases x frame xs h,
  λ h. ⊎_elim (λ (e : x ≡ frame). subst (IsIn (frame ∷ xs)) (sym e) (in_here frame xs)) (λ (old : IsIn xs x). in_more x frame xs old) h,
)

drops_frame : (xs : List ℕ) (frame : ℕ) → DropsFrames xs (without frame xs) (frame ∷ [])
drops_frame xs frame x = (
  λ h. let left : (x ≢ frame) × IsIn xs x = left_cases frame x xs h in
      (λ gone. ⊎_elim left.0 (λ (none : IsIn [] x). omega arith) (in_cases x frame [] gone), left.1),
  λ h. stays_left frame x xs (λ e. h.0 (subst (IsIn (frame ∷ [])) (sym e) (in_here frame []))) h.1,
)

module _ (tells : Type 0) (v : View) where
  taken_as : (frame : ℕ) (won : Bool) (purse taken : List ℕ) → (let w : View = record v { purse = purse; busy = frame ∷ v.busy; taken = taken } in
      Takes won tells frame v w → IsTaken tells frame v won w)
  taken_as frame won purse taken takes = record {
    range = record { frames = refl; levels = refl; first = refl; count = refl };
    book = record { pieces = refl; tables = refl; top = refl };
    path = refl;
    prepared = refl;
    end = refl;
    takes = takes;
    busy = adds_frame v.busy frame;
    known = same_positions v.known;
    told = λ told. (refl, refl);
  }

  taken_by : (frame : ℕ) (won : Bool) →
      IsTaken tells frame v won (if won then record v { purse = frame ∷ v.purse; busy = frame ∷ v.busy } else record v { busy = frame ∷ v.busy; taken = v.taken ++ frame ∷ [] })
  taken_by frame true = taken_as frame true (frame ∷ v.purse) v.taken (refl, λ told. refl)
  taken_by frame false = taken_as frame false v.purse (v.taken ++ frame ∷ []) (refl, λ told. refl)

  -- a take is won where it found the frame free
  pub taken_is : (f : Layout) (frame found : ℕ) → IsTaken tells frame v (found == 0) (after f (take frame) found v)
  taken_is f frame found = taken_by frame (found == 0)

  pub placed_is : (f : Layout) (frame found : ℕ) (p : Position) (rest : List ℕ) → v.purse ≡ frame ∷ rest → IsPlaced tells v p (after f (place frame p) found v)
  placed_is f frame found p rest e = record {
    range = record { frames = refl; levels = refl; first = refl; count = refl };
    book = record { pieces = refl; tables = refl; top = refl };
    path = refl;
    purse = (frame, e ∙ ap (λ (xs : List ℕ). frame ∷ xs) (sym (ap rest_of e)), refl);
    end = refl;
    busy = same_frames v.busy;
    known = same_positions v.known;
    told = λ told. record { taken = refl; absent = refl; stores = refl };
  }

  pub unplaced_is : (f : Layout) (frame found : ℕ) (p : Position) → v.prepared ≡ Some (record { frame = frame; position = p; bridge = None }) →
      IsUnplaced tells v (after f (unplace frame) found v)
  unplaced_is f frame found p e = record {
    range = record { frames = refl; levels = refl; first = refl; count = refl };
    book = record { pieces = refl; tables = refl; top = refl };
    path = refl;
    purse = λ x is.
        let both : Some (record { frame = frame; position = p; bridge = None }) ≡ Some x = sym e ∙ is in
        let same : (let y : Prepared = record { frame = frame; position = p; bridge = None } in y) ≡ x = cc in
        ap (λ (y : Prepared). y.frame ∷ v.purse) same;
    none = refl;
    end = refl;
    busy = same_frames v.busy;
    known = same_positions v.known;
    told = λ told. record { taken = refl; absent = refl; stores = refl };
  }

  pub freed_is : (f : Layout) (frame found : ℕ) (rest : List ℕ) → v.purse ≡ frame ∷ rest → IsFreed tells (frame ∷ []) v (after f (free frame) found v)
  freed_is f frame found rest e = record {
    range = record { frames = refl; levels = refl; first = refl; count = refl };
    book = record { pieces = refl; tables = refl; top = refl };
    path = refl;
    prepared = refl;
    purse = e ∙ ap (λ (xs : List ℕ). frame ∷ xs) (sym (ap rest_of e));
    end = refl;
    busy = drops_frame v.busy frame;
    known = same_positions v.known;
    told = λ told. record { taken = refl; absent = refl; stores = refl };
  }
