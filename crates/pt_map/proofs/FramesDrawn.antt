-- What a draw for absent tables does, and want of frames after it.
use Rattle.std.proofs.Common.{◌≡◌, ℕ, ◌+◌, ◌<◌, ◌≤◌, [], ◌++◌, inl, inr, refl, ap, sym, ◌∙◌, arith, length-append}
use Rattle.std.specs.Prelude.{length, None}
use Rattle.pt_view.specs.declared.view.View.{View}
use Rattle.pt_view.specs.Calls.{held_count, prepared_count}
use Rattle.pt_view.specs.Views.{SameRange}
use Rattle.pt_sweep.specs.Draws.{Finds, Gains, SamePlace}
use Rattle.pt_sweep.proofs.Drawn.{keeps_here}
use Rattle.std.proofs.lemmas.List.{append-nil}
use Rattle.pt_map.specs.Requests.{Gathered, LacksFrames}

-- nothing is drawn
pub gathered_none : (tells : Type 0) (v : View) (absent : ℕ) → Gathered tells v v absent
gathered_none tells v absent = record {
  keeps = keeps_here;
  place = record { path = refl; prepared = refl; end = refl };
  busy = λ frame h. h;
  absences = λ t. refl;
  taken = λ t. ([], sym (append-nil v.taken));
  stores = λ t. refl;
  drawn = [];
  purse = refl;
  spared = omega arith;
}

module _ (tells alone : Type 0) (linked : ℕ) (v w : View) (absent held : ℕ) (more : held < absent) (held_is : held ≡ length w.purse) where
  -- all frames are too few
  pub too_many_absent : v.frames < absent → w.purse ≡ v.purse → LacksFrames tells alone linked v w absent held
  too_many_absent over purse = record {
    more = more;
    held_is = held_is;
    idle = λ more. purse;
    tried = λ t. inl over;
    all = λ a. inl over;
  }

  -- a draw fell short, of a count that isn't more than the frames
  pub fell_short : absent ≤ v.frames → (count result : ℕ) → absent ≤ length v.purse + count → Gains v.purse w.purse result → v.prepared ≡ None → SamePlace v w → SameRange v w →
      (tells → Finds v w (λ frame. (frame < v.frames) × (result < count))) → (alone → result < count → linked + held_count w ≡ w.frames) →
      LacksFrames tells alone linked v w absent held
  fell_short within count result wanted gains none place range told all =
      let longer : length w.purse ≡ length (gains.0 ++ v.purse) = ap length gains.1 in
      let both = length-append gains.0 v.purse in
      let got = gains.2 in
      let few : result < count = omega arith in
      let unprepared : prepared_count w.prepared ≡ 0 = ap prepared_count (place.prepared ∙ none) in
      record {
        more = more;
        held_is = held_is;
        idle = λ over. absurd (omega arith);
        tried = λ t. inr (let d = told t in record {
          drawn = d.got;
          lost = d.lost;
          purse = d.purse;
          taken = d.taken;
          each = λ frame less. inr (d.each frame (less, few));
        });
        all = λ a. inr (let sum = all a few in let frames = range.frames in omega arith);
      }
