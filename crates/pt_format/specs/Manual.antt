-- The manual's step and walk, over the words that a format writes.
use Rattle.std.specs.Prelude.{◌≡◌, ℕ, zero, suc, ◌+◌, ◌-◌, ◌*◌, ◌/◌, ◌%◌, ◌^◌, ◌<◌, ◌≤◌, List, Some, None}
use Rattle.pt_model.specs.declared.block.Prot.{Prot}
use Rattle.pt_model.specs.Layout.{Layout, Found, nothing, page, table, alien, Reached, nowhere, at_byte, strange, pages_of_entry, pages_of_table, input_pages, output_pages}
use Rattle.pt_model.specs.Pages.{page_at}
use Rattle.pt_model.specs.Words.{IsSpace, frames_in, entry, root_frame, root_level, frame_address}
use Rattle.pt_format.specs.Words.{MayBeLeaf, IsTableLevel, IsTableAddress, IsLeaf, IsUnder}

-- the manual's step at a word gives a page, for this input page
pub record GivesPage (f : Layout) (level word here : ℕ) (prot : Prot) : Type 0 where
  pub out : ℕ
  pub within : out < output_pages f
  pub step_is : f.step level word here ≡ page out prot

-- the output page of an input page under a leaf is that of the manual's step, wherever the page lies
abbrev pub IsOutput : Layout → (level word here out : ℕ) → Type 0
IsOutput f level word here out = (log2 : ℕ) (prot : Prot) → IsLeaf f level word log2 prot → f.step level word here ≡ page out prot

-- The words that a format writes mean to the manual's step what they say. A page under a leaf's own part of its block is that page of
-- the block; for any other page the step gives a page too.
pub record StepsAgree (f : Layout) : Type 0 where
  pub empty : (level here : ℕ) → level < f.levels → f.step level 0 here ≡ nothing
  pub pointer : (level address here : ℕ) → IsTableLevel f level → IsTableAddress f address →
      f.step level (f.pointer level address) here ≡ table address
  pub leaf : (level log2 out part first here : ℕ) (prot : Prot) → MayBeLeaf f level log2 out prot part →
      IsUnder f level log2 first part here →
      f.step level (f.leaf level log2 out prot part) here ≡ page (out + (here - first)) prot
  pub any_page : (level word log2 here : ℕ) (prot : Prot) → IsLeaf f level word log2 prot → here < input_pages f →
      GivesPage f level word here prot

-- a word that reads as empty, as a leaf, or as the pointer to one of n frames
pub data IsRead (f : Layout) (n level word : ℕ) : Type 0 where
  an_empty : word ≡ 0 → IsRead f n level word
  a_leaf : (log2 : ℕ) (prot : Prot) → IsLeaf f level word log2 prot → IsRead f n level word
  a_table : (frame : ℕ) → IsTableLevel f level → frame < n → IsTableAddress f (frame_address f frame) →
      word ≡ f.pointer level (frame_address f frame) → IsRead f n level word

-- the entry at which the walk to a page looks in a table
abbrev pub entry_for : Layout → List ℕ → (frame level here : ℕ) → ℕ
entry_for f words frame level here = entry f words frame (here / pages_of_entry f level % 2 ^ f.index)

-- where a step leads: `next` is the walk from a frame one level down
abbrev pub follow : Layout → (address : ℕ) → (ℕ → Reached) → Found → Reached
follow f address next nothing = nowhere
follow f address next (page out prot) = at_byte (out * 2 ^ f.granule + address % 2 ^ f.granule) prot
follow f address next (table t) = next ((t - 2 ^ 32) / 2 ^ f.granule)
follow f address next alien = strange

-- the root names one of the frames, and a level that a root can have
pub record IsRooted (f : Layout) (words : List ℕ) : Type 0 where
  pub space : IsSpace f words
  pub a_frame : root_frame words < frames_in f words
  pub high : f.start ≤ root_level words + 1
  pub low : root_level words < f.levels

-- the walk to a page by the layout's own steps, from a table that is so many levels high
abbrev pub by_steps : Layout → List ℕ → (address here tables frame : ℕ) → Reached
by_steps f words address here zero frame = strange
by_steps f words address here (suc level) frame =
    follow f address (by_steps f words address here level) (f.step level (entry_for f words frame level here) here)

-- this holds of the frame where the walk goes on, if it does
abbrev pub Onward : Layout → (ℕ → Type 0) → Found → Type 0
Onward f P nothing = Unit {0}
Onward f P (page out prot) = Unit {0}
Onward f P (table t) = P ((t - 2 ^ 32) / 2 ^ f.granule)
Onward f P alien = Unit {0}

-- every entry on the way is one that the format writes, or zero
abbrev pub OnWay : Layout → List ℕ → (here tables frame : ℕ) → Type 0
OnWay f words here zero frame = Unit {0}
OnWay f words here (suc level) frame =
    IsRead f (frames_in f words) level (entry_for f words frame level here)
    × Onward f (OnWay f words here level) (f.step level (entry_for f words frame level here) here)

-- an address has a page, which is under the root's table
pub record IsUnderRoot (f : Layout) (words : List ℕ) (address here : ℕ) : Type 0 where
  pub rooted : IsRooted f words
  pub small : address < 2 ^ 64
  pub at_page : page_at f address ≡ Some here
  pub under_root : here < pages_of_table f (root_level words)

-- the manual's walk is the walk by steps
pub record IsWalk (f : Layout) : Type 0 where
  pub no_page : (words : List ℕ) (address : ℕ) → IsRooted f words → address < 2 ^ 64 →
      page_at f address ≡ None → f.walk words address ≡ nowhere
  pub beyond : (words : List ℕ) (address here : ℕ) → IsRooted f words → address < 2 ^ 64 →
      page_at f address ≡ Some here → pages_of_table f (root_level words) ≤ here → f.walk words address ≡ nowhere
  pub walks : (words : List ℕ) (address here : ℕ) → IsUnderRoot f words address here →
      OnWay f words here (root_level words + 1) (root_frame words) →
      f.walk words address ≡ by_steps f words address here (root_level words + 1) (root_frame words)
