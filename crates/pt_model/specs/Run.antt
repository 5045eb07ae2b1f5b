-- The run of a script by the book machine: what each command is answered, and where it leaves the run. There is one book of
-- the whole space, whose span is the present one, and the forks that are open. It is this project's own.
use Rattle.std.specs.Prelude.{ℕ, ◌/◌, ◌^◌, ◌&&◌, ◌==◌, Bool, true, false, List, [], ◌∷◌, ◌++◌, Option, Some, None, is_none, map, if◌then◌else◌}
use Rattle.std.specs.List.{list_any}
use Rattle.pt_model.specs.declared.block.Prot.{Prot}
use Rattle.pt_model.specs.declared.command.What.{What}
use Rattle.pt_model.specs.declared.command.What.TheVariants.{Map, Unmap, Lookup, Dump, Release, Fork, With, End}
use Rattle.pt_model.specs.declared.command.Command.{Command}
use Rattle.pt_model.specs.declared.command.AskWhat.{AskWhat}
use Rattle.pt_model.specs.declared.command.AskWhat.TheVariants.{Walk, Census}
use Rattle.pt_model.specs.declared.command.Ask.{Ask}
use Rattle.pt_model.specs.declared.reply.MapAnswer.{MapAnswer}
use Rattle.pt_model.specs.declared.reply.MapAnswer.TheVariants as mapping
use Rattle.pt_model.specs.declared.reply.UnmapAnswer.{UnmapAnswer}
use Rattle.pt_model.specs.declared.reply.UnmapAnswer.TheVariants as unmapping
use Rattle.pt_model.specs.declared.reply.LookupAnswer.{LookupAnswer}
use Rattle.pt_model.specs.declared.reply.LookupAnswer.TheVariants as looking
use Rattle.pt_model.specs.declared.reply.ForkAnswer.{ForkAnswer}
use Rattle.pt_model.specs.declared.reply.ForkAnswer.TheVariants as forking
use Rattle.pt_model.specs.declared.reply.Answer.{Answer}
use Rattle.pt_model.specs.declared.reply.Answer.TheVariants as answer
use Rattle.pt_model.specs.declared.reply.Reply.{Reply}
use Rattle.pt_model.specs.Layout.{Layout}
use Rattle.pt_model.specs.Pages.{page_under, page_at}
use Rattle.pt_model.specs.Book.{Book, span_end, new_book, MapRefusal, Misaligned, OutsideLease, OutputRange, Occupied, map_refusal, mapped, is_short, is_outside, translation}
use Rattle.pt_model.specs.Unmap as unmap
use Rattle.pt_model.specs.Unmap.{CutRefusal, CutsEntry, unmap_refusal, unmapped, pages_gone}
use Rattle.pt_model.specs.Cuts.{cut_refusal, spanning}
use Rattle.pt_model.specs.Dumps.{dumped, blocks_inside, census_of}

-- what a script runs on: a format, the levels that its tree starts with, and its frames
pub record Machine : Type 0 where
  pub layout : Layout
  pub levels : ℕ
  pub frames : ℕ

-- A fork that is open: it was refused, and nothing in it is answered; or the span from `first` to before `last` was cut.
pub data Opened : Type 0 where
  Refused : Opened
  Cut : (first at last : ℕ) → Opened

-- Where a run stands. The span of the book is the present one; its blocks, tables and top are those of the whole space.
-- The innermost open fork comes first.
pub record State : Type 0 where
  pub book : Book
  pub forks : List Opened

abbrev pub at_start : Book → State
at_start book = record { book = book; forks = [] }

-- whether the commands here are answered: no open fork was refused
abbrev pub is_running : List Opened → Bool
is_running [] = true
is_running (Refused ∷ forks) = false
is_running (Cut first at last ∷ forks) = is_running forks

abbrev pub is_in_fork : List Opened → Bool
is_in_fork [] = false
is_in_fork (o ∷ forks) = true

-- What decides that a map lacks frames: the account of the whole book, or a set of line numbers. In the run of a script the
-- account decides outside forks and a set inside them; over a part of the space a set decides everywhere.
pub data Decided : Type 0 where
  ByAccount : Decided
  InForks : (lines : ℕ → Bool) → Decided
  ByLines : (lines : ℕ → Bool) → Decided

abbrev pub lacks : Decided → (in_fork : Bool) → (line : ℕ) → (is_short : Bool) → Bool
lacks ByAccount in_fork line is_short = is_short
lacks (InForks lines) false line is_short = is_short
lacks (InForks lines) true line is_short = lines line
lacks (ByLines lines) in_fork line is_short = lines line

-- The answer of each command, by the book before it.

abbrev pub refused_answer : MapRefusal → MapAnswer
refused_answer Misaligned = mapping.Misaligned
refused_answer OutsideLease = mapping.Outside
refused_answer OutputRange = mapping.Output
refused_answer (Occupied address) = mapping.Occupied address

-- whether the account of a map of whole pages is short
abbrev pub lacks_frames : Machine → Book → (va pa len : ℕ) → Prot → Bool
lacks_frames m book va pa len prot =
    is_short m.layout m.levels m.frames book (page_under m.layout va) (len / 2 ^ m.layout.granule) (pa / 2 ^ m.layout.granule) prot

-- `lacking` is whether frames lack, where nothing else refuses the map
abbrev pub map_answer : Machine → Book → (lacking : Bool) → (va pa len : ℕ) → MapAnswer
map_answer m book lacking va pa len = elim (map_refusal m.layout book va pa len) [
  | Some refusal ↦ refused_answer refusal
  | None ↦ if lacking then mapping.Frames else mapping.Mapped
]

abbrev pub refused_unmap : CutRefusal → UnmapAnswer
refused_unmap unmap.Misaligned = unmapping.Misaligned
refused_unmap unmap.OutsideLease = unmapping.Outside
refused_unmap (CutsEntry block) = unmapping.Cuts block

abbrev pub unmap_answer : Machine → Book → (va len : ℕ) → UnmapAnswer
unmap_answer m book va len = elim (unmap_refusal m.layout book va len) [
  | Some refusal ↦ refused_unmap refusal
  | None ↦ unmapping.Unmapped (pages_gone book (page_under m.layout va) (len / 2 ^ m.layout.granule))
]

abbrev pub found_answer : Option (ℕ × Prot) → LookupAnswer
found_answer None = looking.Nothing
found_answer (Some t) = looking.Found t.0 t.1

abbrev pub lookup_answer : Machine → Book → (va : ℕ) → LookupAnswer
lookup_answer m book va =
    if is_outside m.layout book va then looking.Outside else found_answer (translation m.layout book va)

abbrev pub refused_fork : CutRefusal → ForkAnswer
refused_fork unmap.Misaligned = forking.Misaligned
refused_fork unmap.OutsideLease = forking.Outside
refused_fork (CutsEntry block) = forking.Cuts block

abbrev pub fork_answer : Machine → Book → (at : ℕ) → ForkAnswer
fork_answer m book at = elim (cut_refusal m.layout book at) [
  | Some refusal ↦ refused_fork refusal
  | None ↦ forking.Forked
]

-- whether a command lacks frames: a map alone may
abbrev pub is_lacking : Machine → Decided → State → (line : ℕ) → What → Bool
is_lacking m by s line (Map va pa len prot) = lacks by (is_in_fork s.forks) line (lacks_frames m s.book va pa len prot)
is_lacking m by s line _ = false

-- the answer of a command that is run; `with` and `end` have none
abbrev pub answer_to : Machine → Book → (lacking : Bool) → What → Option Answer
answer_to m book lacking (Map va pa len prot) = Some (answer.Map (map_answer m book lacking va pa len))
answer_to m book lacking (Unmap va len) = Some (answer.Unmap (unmap_answer m book va len))
answer_to m book lacking (Lookup va) = Some (answer.Lookup (lookup_answer m book va))
answer_to m book lacking Dump = Some (answer.Dump (dumped (blocks_inside book)))
answer_to m book lacking Release = Some answer.Release
answer_to m book lacking (Fork at) = Some (answer.Fork (fork_answer m book at))
answer_to m book lacking With = None
answer_to m book lacking End = None

abbrev pub answer_of : Machine → Decided → State → Command → Option Answer
answer_of m by s c = if is_running s.forks then answer_to m s.book (is_lacking m by s c.line c.what) c.what else None

-- Where each command leaves the run.

-- the book after a map that is answered so
abbrev pub after_map : MapAnswer → (new old : Book) → Book
after_map mapping.Mapped new old = new
after_map _ new old = old

-- the book after an unmap that is answered so
abbrev pub after_unmap : UnmapAnswer → (new old : Book) → Book
after_unmap (unmapping.Unmapped pages) new old = new
after_unmap _ new old = old

abbrev pub book_after : Machine → Book → (lacking : Bool) → What → Book
book_after m book lacking (Map va pa len prot) =
    after_map (map_answer m book lacking va pa len)
    (mapped m.layout m.levels book (page_under m.layout va) (len / 2 ^ m.layout.granule) (pa / 2 ^ m.layout.granule) prot)
    book
book_after m book lacking (Unmap va len) =
    after_unmap (unmap_answer m book va len)
    (unmapped m.layout book (page_under m.layout va) (len / 2 ^ m.layout.granule))
    book
book_after m book lacking _ = book

-- a fork that is run and isn't refused narrows the span to the pages before the cut
abbrev pub at_fork : Machine → State → (at : ℕ) → State
at_fork m s at =
    if is_running s.forks && is_none (cut_refusal m.layout s.book at)
    then record {
      book = spanning s.book s.book.first (page_under m.layout at);
      forks = Cut s.book.first (page_under m.layout at) (span_end s.book) ∷ s.forks;
    }
    else record s { forks = Refused ∷ s.forks }

-- `with` turns to the pages from the cut on, and `end` to the whole span again
abbrev pub at_with : Book → List Opened → State
at_with book (Cut first at last ∷ forks) = record { book = spanning book at last; forks = Cut first at last ∷ forks }
at_with book forks = record { book = book; forks = forks }

abbrev pub at_end : Book → List Opened → State
at_end book (Cut first at last ∷ forks) = record { book = spanning book first last; forks = forks }
at_end book (Refused ∷ forks) = record { book = book; forks = forks }
at_end book [] = record { book = book; forks = [] }

abbrev pub behind_what : Machine → Decided → State → (line : ℕ) → What → State
behind_what m by s line (Fork at) = at_fork m s at
behind_what m by s line With = at_with s.book s.forks
behind_what m by s line End = at_end s.book s.forks
behind_what m by s line what =
    if is_running s.forks then record s { book = book_after m s.book (is_lacking m by s line what) what } else s

abbrev pub behind : Machine → Decided → State → Command → State
behind m by s c = behind_what m by s c.line c.what

-- The replies to commands in turn, and where they leave the run.

-- the reply to a command, put before those that follow
abbrev pub reply_before : (line : ℕ) → Option Answer → List Reply → List Reply
reply_before line None replies = replies
reply_before line (Some a) replies = record { line = line; answer = a } ∷ replies

abbrev pub replies_from : Machine → Decided → State → List Command → List Reply
replies_from m by s [] = []
replies_from m by s (c ∷ cs) = reply_before c.line (answer_of m by s c) (replies_from m by (behind m by s c) cs)

abbrev pub state_after : Machine → Decided → State → List Command → State
state_after m by s [] = s
state_after m by s (c ∷ cs) = state_after m by (behind m by s c) cs

-- What is asked after `close`, by the last book.

abbrev pub walk_answer : Layout → Book → (va : ℕ) → Option (ℕ × Prot)
walk_answer f book va = elim (page_at f va) [
  | None ↦ None
  | Some page ↦ translation f book va
]

abbrev pub ask_answer : Machine → Book → AskWhat → Answer
ask_answer m book (Walk va) = answer.Walk (walk_answer m.layout book va)
ask_answer m book Census = answer.Census (census_of m.levels book)

abbrev pub ask_replies : Machine → Book → List Ask → List Reply
ask_replies m book asks = map (λ a. record { line = a.line; answer = ask_answer m book a.what }) asks

-- The run of a script on a new space.

abbrev pub new_start : Machine → State
new_start m = at_start (new_book m.layout m.levels)

-- the book that a script's body leaves
abbrev pub last_book : Machine → Decided → List Command → Book
last_book m by body = (state_after m by (new_start m) body).book

abbrev pub run_by : Machine → Decided → List Command → List Ask → List Reply
run_by m by body tail = replies_from m by (new_start m) body ++ ask_replies m (last_book m by body) tail

-- the run where the account decides outside forks, and inside them the lines that are refused for frames
abbrev pub run_of : Machine → List Command → List Ask → (lines : ℕ → Bool) → List Reply
run_of m body tail lines = run_by m (InForks lines) body tail

-- The lines whose reply is `map frames`.

abbrev pub is_frames : Answer → Bool
is_frames (answer.Map mapping.Frames) = true
is_frames _ = false

abbrev pub lacked_lines : List Reply → (line : ℕ) → Bool
lacked_lines replies line = list_any (λ r. (r.line == line) && is_frames r.answer) replies

-- those of them where the account decides everywhere, as over one owner
abbrev pub lines_of_one : Machine → List Command → (line : ℕ) → Bool
lines_of_one m body = lacked_lines (replies_from m ByAccount (new_start m) body)
