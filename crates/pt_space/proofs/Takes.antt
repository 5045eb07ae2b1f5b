-- A lease takes a frame.
use Rattle.std.proofs.Common.{◌≡◌, ◌≢◌, ℕ, Bool, true, false, ◌+◌, ◌-◌, ◌<◌, ◌≤◌, ◌^◌, length, ap, sym, subst, arith, eq-eqb, ne_eqb, pow_mono}
use Rattle.std.specs.Prelude.{None, Some, ◌==◌}
use Rattle.pt_model.specs.Layout.{Layout}
use Rattle.pt_model.specs.Words.{frame_limit}
use Rattle.pt_format.specs.Laws.{IsLayout, WordsDiffer}
use Rattle.pt_format.specs.Manual.{StepsAgree}
use Rattle.pt_view.specs.declared.view.View.{View}
use Rattle.pt_view.specs.Calls.{FillsSpace, HasEveryFrame, IsTaken}
use Rattle.pt_rule.specs.Tags.{first_or}
use Rattle.pt_rule.specs.Kinds.{take as take_kind}
use Rattle.pt_rule.specs.Meets.{Always, IsWhole}
use Rattle.pt_space.specs.Standing.{Fields, Shows, Stepped, cut_to, none_aside}
use Rattle.pt_space.proofs.Showing.{cut_is, says, shows_purse, shows_same}

pub frames_few : (f : Layout) → IsLayout f → frame_limit f ≤ 2 ^ 15
frames_few f good = let bits : 27 - f.granule ≤ 15 = (let low = good.granule_low in omega arith) in pow_mono bits

module _ {f : Layout} (good : IsLayout f) (differ : WordsDiffer f) (agree : StepsAgree f) {n l : ℕ} {v w : View} {o : Fields} (s : Shows f n l v o)
    {frame found : ℕ} (within : frame < n) (t : Stepped f n l (take_kind frame) (cut_to o.depth v) found w) where
  abbrev cut : View
  cut = cut_to o.depth v

  said : IsTaken Always frame cut (found == 0) w
  said = says s good differ agree within t

  module _ (won : Bool) (is : (found == 0) ≡ won) where
    taken_as : IsTaken Always frame cut won w
    taken_as = subst (λ (b : Bool). IsTaken Always frame cut b w) is said

    taken_now : IsTaken Always frame cut won (cut_to o.depth w)
    taken_now = subst (IsTaken Always frame cut won) (sym (cut_is o.depth v w taken_as.path)) taken_as

  module _ (z : found ≡ 0) where
    pub taken_won : IsTaken Always frame cut true (cut_to o.depth w)
    taken_won = taken_now true (eq-eqb found 0 z)

    pub shows_won : Shows f n l w (record o { head = Some frame; held = o.held + 1 })
    shows_won = let r = taken_as true (eq-eqb found 0 z) in
        shows_purse s t.holds r.range r.end r.path r.prepared (ap (first_or None) r.takes.0) (let a = ap length r.takes.0 in let b = s.held in omega arith)

    -- a purse with room for one more
    pub room : o.held + 1 ≤ 2 ^ 15
    room = let limit = s.holds.limit in let a = t.tells z in let held = s.held in let b = frames_few f good in omega arith

  module _ (some : found ≢ 0) where
    pub taken_lost : IsTaken Always frame cut false (cut_to o.depth w)
    taken_lost = taken_now false (ne_eqb found 0 some)

    pub shows_lost : Shows f n l w o
    shows_lost = let r = taken_as false (ne_eqb found 0 some) in shows_same s t.holds r.range r.end r.path r.prepared r.takes.0

-- a lease of the whole space that met every frame
pub all_met : {f : Layout} {n l : ℕ} {v : View} {o : Fields} → Shows f n l v o → IsWhole f (cut_to o.depth v) → HasEveryFrame (cut_to o.depth v) → FillsSpace (cut_to o.depth v) none_aside
all_met s whole every = let a = (s.holds.counted whole).1 every in let b = s.holds.frames in omega arith
