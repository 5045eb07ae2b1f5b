-- What the private functions of `needing` say.
use Rattle.std.specs.Prelude.{◌≡◌, ℕ, ◌+◌, ◌/◌, ◌^◌, ◌≤◌, ◌<◌, None, IsSome}
use Rattle.pt_model.specs.Layout.{Layout, input_pages, output_pages}
use Rattle.pt_model.specs.Pages.{page_under}
use Rattle.pt_model.specs.Book.{map_refusal, new_book}
use Rattle.pt_model.specs.Run.{Machine}

abbrev pub machine : Layout → (levels frames : ℕ) → Machine
machine f levels frames = record { layout = f; levels = levels; frames = frames }

-- the numbers of a map don't refuse it, and its pages are these
pub record IsAdmitted (f : Layout) (va pa len first count : ℕ) : Type 0 where
  pub admitted : (levels : ℕ) → map_refusal f (new_book f levels) va pa len ≡ None
  pub first_is : first ≡ page_under f va
  pub count_is : count ≡ len / 2 ^ f.granule
  pub some : 0 < count
  pub in_input : first + count ≤ input_pages f
  pub in_output : pa / 2 ^ f.granule + count ≤ output_pages f

-- the numbers of a map refuse it
abbrev pub IsRefused : Layout → (va pa len : ℕ) → Type 0
IsRefused f va pa len = (levels : ℕ) → IsSome (map_refusal f (new_book f levels) va pa len)
