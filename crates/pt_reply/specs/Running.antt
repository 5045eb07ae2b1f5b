-- What each command does to a holder at rest, by the book machine.
use Rattle.std.specs.Prelude.{◌≡◌, ℕ, ◌==◌, false, Bool, All, List, [], ◌∷◌, ◌++◌, Some, length, take, if◌then◌else◌, Result, Ok, Err}
use Rattle.pt_model.specs.declared.block.Block.{Block}
use Rattle.pt_model.specs.declared.command.What.{What}
use Rattle.pt_model.specs.declared.command.What.TheVariants.{Map, Release}
use Rattle.pt_model.specs.declared.reply.Answer.{Answer}
use Rattle.pt_model.specs.declared.reply.MapAnswer.{MapAnswer}
use Rattle.pt_model.specs.declared.reply.MapAnswer.TheVariants as mapping
use Rattle.pt_model.specs.Layout.{Layout}
use Rattle.pt_model.specs.Book.{Book}
use Rattle.pt_model.specs.Cuts.{crosses, spanning}
use Rattle.pt_model.specs.Dumps.{blocks_inside, dump_limit}
use Rattle.pt_model.specs.Run.{Machine, answer_to, book_after, is_frames, lacks_frames}
use Rattle.pt_laws.specs.Covers.{Leaves, Stand}
use Rattle.pt_view.specs.declared.view.View.{View}
use Rattle.pt_view.specs.declared.view.Piece.{Piece}
use Rattle.pt_view.specs.Views.{IsAtRest, book_of}
use Rattle.pt_map.specs.declared.refused.MapRefused.{MapRefused}
use Rattle.pt_map.specs.declared.refused.MapRefused.TheVariants as refused
use Rattle.pt_walk.specs.declared.way.Way.{Way}
use Rattle.pt_walk.specs.RangeWalks.{left_of}
use Rattle.pt_reply.specs.Built.{machine}

-- the blocks whose first words are among these pieces: all blocks of a view at rest
abbrev pub blocks_of : List Piece → List Block
blocks_of [] = []
blocks_of (x ∷ xs) = if x.part == 0 then x.block ∷ blocks_of xs else blocks_of xs

abbrev pub book_in : View → Book
book_in v = book_of v (blocks_of v.pieces)

-- the machine of a holder: its frames, and the levels that its tree started with
abbrev pub machine_in : Layout → View → Machine
machine_in f v = machine f v.levels v.frames

-- the holder is at rest
abbrev pub IsReady : Layout → View → Type 0
IsReady f v = IsAtRest f v (blocks_of v.pieces)

-- the holder is ready again as the same machine, with the same book and the same purse
pub record RestsAsBefore (f : Layout) (v w : View) : Type 0 where
  pub ready : IsReady f w
  pub machine : machine_in f w ≡ machine_in f v
  pub book : book_in w ≡ book_in v
  pub purse : w.purse ≡ v.purse

-- whether the account of the whole book lacks frames for a command: a map alone needs some
abbrev pub lacks_for : Machine → Book → What → Bool
lacks_for m book (Map va pa len prot) = lacks_frames m book va pa len prot
lacks_for m book _ = false

-- What a command does to the holder: it is ready again as the same machine, and its answer and its book are those of the
-- book machine, where frames lack for it or don't.
pub record AnswersBy (f : Layout) (v w : View) (what : What) (lacks : Bool) (answer : Answer) : Type 0 where
  pub ready : IsReady f w
  pub machine : machine_in f w ≡ machine_in f v
  pub answers : answer_to (machine_in f v) (book_in v) lacks what ≡ Some answer
  pub book : book_in w ≡ book_after (machine_in f v) (book_in v) lacks what

-- where the account of the whole book says whether frames lack
abbrev pub AnswersAs : Layout → (v w : View) → What → Answer → Type 0
AnswersAs f v w what answer = AnswersBy f v w what (lacks_for (machine_in f v) (book_in v) what) answer

-- where a holder stands: its book, and how many frames its purse has
abbrev pub stand_in : View → Stand
stand_in v = record { book = book_in v; purse = length v.purse }

-- what a command leaves of the book and of the purse; of a release nothing is said
abbrev pub LeavesIn : Layout → (v w : View) → What → Answer → Type 0
LeavesIn f v w Release answer = Unit {0}
LeavesIn f v w what answer = Leaves (machine_in f v) what (stand_in v) (stand_in w) answer

-- Over a holder that may not be alone: frames lack where the answer says so, and the purse pays for no more than the map needs.
pub record AnswersInPart (f : Layout) (v w : View) (what : What) (answer : Answer) : Type 0 where
  pub by : AnswersBy f v w what (is_frames answer) answer
  pub leaves : LeavesIn f v w what answer

-- the answer to a map, by what it did
abbrev pub map_said : Result (Unit {0}) MapRefused → MapAnswer
map_said (Ok done) = mapping.Mapped
map_said (Err refused.Misaligned) = mapping.Misaligned
map_said (Err refused.OutsideLease) = mapping.Outside
map_said (Err refused.OutputRange) = mapping.Output
map_said (Err (refused.Occupied address)) = mapping.Occupied address
map_said (Err (refused.NoFrames absent held)) = mapping.Frames

-- Dumps.

-- no block of the holder is on both sides of a page
abbrev pub IsUncrossed : View → (page : ℕ) → Type 0
IsUncrossed v page = All (λ b. crosses page b ≡ false) (blocks_of v.pieces)

-- the blocks of the pages from `first` to before `last`
abbrev pub blocks_over : View → (first last : ℕ) → List Block
blocks_over v first last = blocks_inside (spanning (book_in v) first last)

-- one more block is listed behind lower ones: the lowest are then the same, whatever follows
abbrev pub ListsNext : (old : List Block) → Block → (new : List Block) → Type 0
ListsNext old block new = (left : List Block) → take dump_limit (new ++ left) ≡ take dump_limit (old ++ block ∷ left)

-- the blocks that are left of a walk
abbrev pub left_in : View → Way → List Block
left_in v w = left_of w (blocks_of v.pieces)
