-- What a draw of frames does.
use Rattle.std.specs.Prelude.{◌≡◌, ◌⊎◌, ℕ, ◌+◌, ◌<◌, ◌≤◌, List, [], ◌∷◌, ◌++◌, length}
use Rattle.pt_view.specs.declared.view.View.{View}
use Rattle.pt_model.specs.Sets.{SamePositions}
use Rattle.pt_view.specs.Lists.{IsIn}
use Rattle.pt_view.specs.Views.{SameRange, SameBook}

-- the frames that the draw took, in front of those that were there
abbrev pub Gains : (old new : List ℕ) → (count : ℕ) → Type 0
Gains old new count = (got : List ℕ) × (new ≡ got ++ old) × (length got ≡ count)

-- the numbers fall from the first to the last, and all are below a bound
abbrev pub FallBelow : (bound : ℕ) → List ℕ → Type 0
FallBelow bound [] = Unit {0}
FallBelow bound (x ∷ xs) = (x < bound) × FallBelow x xs

-- the numbers rise from the first to the last, from `least` on, and all are below a bound
abbrev pub RiseBelow : (least bound : ℕ) → List ℕ → Type 0
RiseBelow least bound [] = Unit {0}
RiseBelow least bound (x ∷ xs) = (least ≤ x) × (x < bound) × RiseBelow (x + 1) bound xs

-- the frames that the draw took fall in the purse: they were taken in rising order, each put in front
abbrev pub GainsInOrder : (frames : ℕ) → (old new : List ℕ) → Type 0
GainsInOrder frames old new = (got : List ℕ) × (new ≡ got ++ old) × FallBelow frames got

-- each frame below `upto`, and no other, was tried once, in rising order; `lost` has its last at the end
pub record IsTriedOnce (upto : ℕ) (got lost : List ℕ) : Type 0 where
  pub falls : FallBelow upto got
  pub rises : RiseBelow 0 upto lost
  pub either : (frame : ℕ) → frame < upto → IsIn got frame ⊎ IsIn lost frame
  pub apart : (frame : ℕ) → IsIn got frame → ¬ IsIn lost frame

-- the range, the book and the positions found linked stay
pub record KeepsBook (v w : View) : Type 0 where
  pub range : SameRange v w
  pub book : SameBook v w
  pub known : SamePositions v.known w.known

-- the path, the prepared frame and the end mark stay
pub record SamePlace (v w : View) : Type 0 where
  pub path : w.path ≡ v.path
  pub prepared : w.prepared ≡ v.prepared
  pub end : w.end ≡ v.end

-- takings change the purse, the frames found not free and what is told of those, and nothing else
pub record OnlyTakes (tells : Type 0) (v w : View) : Type 0 where
  pub keeps : KeepsBook v w
  pub place : SamePlace v w
  pub absent : tells → w.absent ≡ v.absent
  pub stores : tells → w.stores ≡ v.stores

-- each frame of a kind was taken, or was found not free and then told; all that were tried are those below `upto`
pub record Finds (old new : View) (IsTried : ℕ → Type 0) : Type 0 where
  pub got : List ℕ
  pub lost : List ℕ
  pub purse : new.purse ≡ got ++ old.purse
  pub taken : new.taken ≡ old.taken ++ lost
  pub each : (frame : ℕ) → IsTried frame → IsIn got frame ⊎ IsIn lost frame
  pub upto : ℕ
  pub within : upto ≤ old.frames
  pub reaches : (frame : ℕ) → IsTried frame → frame < upto
  pub once : IsTriedOnce upto got lost

-- where the draw fell short, each frame was
abbrev pub FindsAll : (old new : View) → (Short : Type 0) → Type 0
FindsAll old new Short = Finds old new (λ frame. (frame < old.frames) × Short)
