-- The script that is made of a number. Its body is a fork with a fork in each branch. Each of the four branches of these has
-- commands over pages of its own, which are drawn one after the other, in the order of the script.
use Rattle.std.specs.Prelude.{◌≡◌, ℕ, zero, suc, ◌+◌, ◌-◌, ◌*◌, ◌/◌, ◌%◌, ◌^◌, ◌==◌, min, if◌then◌else◌, List, [], ◌∷◌, ◌++◌, length}
use Rattle.pt_model.specs.declared.block.Prot.{Prot}
use Rattle.pt_model.specs.declared.block.Prot.TheVariants.{Read, ReadWrite}
use Rattle.pt_model.specs.declared.command.What.{What}
use Rattle.pt_model.specs.declared.command.What.TheVariants.{Map, Unmap, Lookup, Fork, With, End}
use Rattle.pt_model.specs.declared.command.Command.{Command}
use Rattle.pt_model.specs.declared.command.AskWhat.TheVariants.{Census}
use Rattle.pt_model.specs.declared.command.Ask.{Ask}
use Rattle.pt_model.specs.Layout.{Layout}
use Rattle.pt_laws.specs.Need.{need}
use Rattle.pt_script.specs.declared.whole.Script.{Script}
use Rattle.pt_script.specs.Lines.{levels_of, frame_limit}
use Rattle.pt_names.specs.Names.{layout_of}
use Rattle.pt_made.specs.Formats.{machine_in, name_at}
use Rattle.pt_made.specs.Draws.{next, next_four, drawn, behind}

-- The pages of the branches, which are counted from 0 on.

-- how many pages a branch has, and how many are before those of the first
abbrev pub region : Layout → ℕ
region f = 2 ^ (f.index + 2)

abbrev pub margin : Layout → ℕ
margin f = 2 ^ (f.index - 1)

-- the first page of a branch
abbrev pub first_of : Layout → (branch : ℕ) → ℕ
first_of f branch = branch * region f + margin f

-- how many commands a branch has
abbrev pub per_branch : Layout → ℕ
per_branch f = if f.granule == 12 then 1000 else (if f.granule == 14 then 250 else 60)

-- the bytes of so many pages, and the address at which a page of a branch begins
abbrev pub bytes : Layout → (pages : ℕ) → ℕ
bytes f pages = pages * 2 ^ f.granule

-- A command, by four draws. They give its kind, its first page, how many pages it has, and whither and how it maps.

-- a page of the branch
abbrev pub start_by : Layout → (branch second : ℕ) → ℕ
start_by f branch second = first_of f branch + second % region f

-- at most the pages under one table of the lowest level, and no page past the branch
abbrev pub count_by_draw : Layout → (branch start third : ℕ) → ℕ
count_by_draw f branch start third = min (1 + third % 2 ^ f.index) (first_of f (branch + 1) - start)

abbrev pub out_by : (start fourth : ℕ) → ℕ
out_by start fourth = start + 2 ^ 20 + fourth % 2

abbrev pub prot_by : (fourth : ℕ) → Prot
prot_by fourth = if fourth / 2 % 2 == 0 then ReadWrite else Read

-- two of four are maps, one is an unmap, and one a lookup
abbrev pub what_by : Layout → (kind start count fourth : ℕ) → What
what_by f kind start count fourth =
    if kind % 4 == 3 then Lookup (bytes f start) else
    (if kind % 4 == 2 then Unmap (bytes f start) (bytes f count) else
    Map (bytes f start) (bytes f (out_by start fourth)) (bytes f count) (prot_by fourth))

abbrev pub what_of_draws : Layout → (branch first second third fourth : ℕ) → What
what_of_draws f branch first second third fourth =
    what_by f first (start_by f branch second) (count_by_draw f branch (start_by f branch second) third) fourth

-- the command that is drawn from a state
abbrev pub drawn_command : Layout → (branch state : ℕ) → What
drawn_command f branch state =
    what_of_draws f branch (drawn (next state)) (drawn (next (next state))) (drawn (next (next (next state)))) (drawn (next_four state))

-- so many commands of a branch in turn
unfoldable pub drawn_commands : Layout → (branch count state : ℕ) → List What
drawn_commands f branch zero state = []
drawn_commands f branch (suc n) state = drawn_command f branch state ∷ drawn_commands f branch n (next_four state)

-- the state before the commands of a branch are drawn, where the first one's begin at this state
unfoldable pub state_before : Layout → (branch state : ℕ) → ℕ
state_before f zero state = state
state_before f (suc b) state = behind (per_branch f) (state_before f b state)

abbrev pub branch_of : Layout → (number branch : ℕ) → List What
branch_of f number branch = drawn_commands f branch (per_branch f) (state_before f branch number)

-- a fork at the first page of a branch, with what stands in its left and in its right branch
abbrev pub fork_at : Layout → (branch : ℕ) → (left right : List What) → List What
fork_at f branch left right = Fork (bytes f (first_of f branch)) ∷ left ++ (With ∷ right ++ (End ∷ []))

-- a fork of a branch and the next one
abbrev pub inner_fork : Layout → (number branch : ℕ) → List What
inner_fork f number branch = fork_at f (branch + 1) (branch_of f number branch) (branch_of f number (branch + 1))

abbrev pub whats : Layout → (number : ℕ) → List What
whats f number = fork_at f 2 (inner_fork f number 0) (inner_fork f number 2)

-- each with the number of its line
abbrev pub numbered : (line : ℕ) → List What → List Command
numbered line [] = []
numbered line (w ∷ ws) = record { line = line; what = w } ∷ numbered (line + 1) ws

-- the body begins in line 4, and the tail asks for the census in the line behind `close`
abbrev pub body_on : Layout → (number : ℕ) → List Command
body_on f number = numbered 4 (whats f number)

abbrev pub census_in : (line : ℕ) → List Ask
census_in line = record { line = line; what = Census } ∷ []

abbrev pub tail_behind : List Command → List Ask
tail_behind body = census_in (5 + length body)

-- The script of a number: it has all the frames that its format may have, and holds as many as its commands need.
pub record IsMade (number : ℕ) (s : Script) : Type 0 where
  pub format : s.format ≡ name_at number
  pub levels : s.levels ≡ levels_of s.format
  pub frames : s.frames ≡ frame_limit s.format
  pub hold : s.hold ≡ need (machine_in s) s.body
  pub body : s.body ≡ body_on (layout_of s.format) number
  pub tail : s.tail ≡ tail_behind s.body
