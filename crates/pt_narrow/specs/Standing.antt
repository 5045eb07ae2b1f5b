-- Where one owner of a whole space stands: in a span of it, in the parts of cuts.
use Rattle.std.specs.Prelude.{◌≡◌, ◌⊎◌, ℕ, ◌+◌, ◌<◌, nat_le, ◌&&◌, not, Bool, true, false, All, List, [], ◌∷◌, map, reverse, Option, Some, None, IsTrue, if◌then◌else◌}
use Rattle.pt_model.specs.declared.command.Command.{Command}
use Rattle.pt_model.specs.declared.command.What.{What}
use Rattle.pt_model.specs.declared.command.What.TheVariants.{Map, Unmap, Lookup}
use Rattle.pt_model.specs.declared.reply.MapAnswer.TheVariants as mapping
use Rattle.pt_model.specs.declared.reply.UnmapAnswer.TheVariants as unmapping
use Rattle.pt_model.specs.declared.reply.LookupAnswer.TheVariants as looking
use Rattle.pt_model.specs.declared.reply.Answer.{Answer}
use Rattle.pt_model.specs.declared.reply.Answer.TheVariants as answer
use Rattle.pt_model.specs.declared.reply.Reply.{Reply}
use Rattle.pt_model.specs.Layout.{Layout}
use Rattle.pt_model.specs.Pages.{is_whole, page_at, pages_at}
use Rattle.pt_model.specs.Book.{Book}
use Rattle.pt_model.specs.Cuts.{crosses}
use Rattle.pt_model.specs.Run.{ByAccount, Cut, Opened, answer_to, at_start, book_after, replies_from, state_after}
use Rattle.pt_plain.specs.Owner.{Owned}
use Rattle.pt_reply.specs.Running.{IsReady, book_in, machine_in}
use Rattle.pt_reply.specs.Telling.{has_small_blocks, IsTellable}
use Rattle.pt_forks.specs.Places.{Place, StaysIn, account_says}
use Rattle.pt_forks.specs.Running.{AreTold}
use Rattle.pt_narrow.specs.declared.narrowed.Narrowing.{Narrowing}

-- what callers see: the owner, its present span, and the cuts in whose parts it stands, the innermost first
pub record Stand : Type 0 where
  pub owned : Owned
  pub first : ℕ
  pub count : ℕ
  pub cuts : List Narrowing

-- what the fields of an owner say: its cuts are kept with the innermost last
abbrev pub stand_of : Owned → (first count : ℕ) → (cuts : List Narrowing) → Stand
stand_of owned first count cuts = record { owned = owned; first = first; count = count; cuts = reverse cuts }

-- the same blocks, tables and top, by another span
abbrev pub over_span : Book → (first count : ℕ) → Book
over_span book first count = record book { first = first; count = count }

abbrev pub opened_by : Narrowing → Opened
opened_by n = Cut n.first n.at (n.first + n.count)

-- where a run stands with it: the book is that of the whole space in the present span
abbrev pub place_of : Layout → Stand → Place
place_of f s = record {
  machine = machine_in f s.owned.view;
  book = over_span (book_in s.owned.view) s.first s.count;
  cuts = map opened_by s.cuts;
}

-- no block is on both sides of a page
abbrev pub LeavesApart : Book → (page : ℕ) → Type 0
LeavesApart book page = All (λ b. crosses page b ≡ false) book.blocks

-- a cut of a span: both sides have a page, and no block is on both
pub record IsCut (book : Book) (n : Narrowing) : Type 0 where
  pub above : n.first < n.at
  pub below : n.at < n.first + n.count
  pub apart : LeavesApart book n.at

-- the span is one side of a cut
abbrev pub IsSide : (first count : ℕ) → Narrowing → Type 0
IsSide first count n = ((first ≡ n.first) × (first + count ≡ n.at)) ⊎ ((first ≡ n.at) × (first + count ≡ n.first + n.count))

-- the span is the book's where there is no cut, and else one side of the innermost cut, of a span that stands so in the others
abbrev pub StandsIn : Book → (first count : ℕ) → List Narrowing → Type 0
StandsIn book first count [] = (first ≡ book.first) × (count ≡ book.count)
StandsIn book first count (n ∷ ns) = IsSide first count n × IsCut book n × StandsIn book n.first n.count ns

-- the owner is at rest, has nothing linked set aside, and stands in the cuts in a span that has a page
pub record IsStanding (f : Layout) (s : Stand) : Type 0 where
  pub ready : IsReady f s.owned.view
  pub aside : s.owned.aside.positions ≡ []
  pub small : IsTrue (has_small_blocks f)
  pub some : 0 < s.count
  pub stands : StandsIn (book_in s.owned.view) s.first s.count s.cuts

-- Commands that reach out of a span.

-- whether pages aren't all of a span
abbrev pub leaves : (first count : ℕ) → Option (ℕ × ℕ) → Bool
leaves first count None = false
leaves first count (Some range) = not (nat_le first range.0 && nat_le (range.0 + range.1) (first + count))

-- whether bytes are whole pages of the space that aren't all of a span
abbrev pub reaches_out : Layout → (first count va len : ℕ) → Bool
reaches_out f first count va len = leaves first count (pages_at f va len)

-- whether an address has no page of a span
abbrev pub has_outside : Layout → (first count va : ℕ) → Bool
has_outside f first count va = elim (page_at f va) [
  | None ↦ true
  | Some page ↦ not (nat_le first page && nat_le (page + 1) (first + count))
]

-- the answer to a command that reaches out of a span
abbrev pub outside_answer : Layout → (first count : ℕ) → What → Option Answer
outside_answer f first count (Map va pa len prot) =
    if is_whole f pa && reaches_out f first count va len then Some (answer.Map mapping.Outside) else None
outside_answer f first count (Unmap va len) = if reaches_out f first count va len then Some (answer.Unmap unmapping.Outside) else None
outside_answer f first count (Lookup va) = if has_outside f first count va then Some (answer.Lookup looking.Outside) else None
outside_answer f first count _ = None

-- What a command does to a place: the machine and the cuts stay, and its answer and the book are those of the book machine.
pub record Answers (p q : Place) (what : What) (a : Answer) : Type 0 where
  pub stays : StaysIn p q
  pub answers : answer_to p.machine p.book (account_says p what) what ≡ Some a
  pub book : q.book ≡ book_after p.machine p.book (account_says p what) what

-- A run of a body over one owner: it is at rest again as the same machine, with the machine's last book, and the replies are
-- the machine's; each has a text.
pub record HasRunOver (f : Layout) (old new : Owned) (commands : List Command) (told : List Reply) : Type 0 where
  pub ready : IsReady f new.view
  pub aside : new.aside.positions ≡ []
  pub machine : machine_in f new.view ≡ machine_in f old.view
  pub replies : told ≡ replies_from (machine_in f old.view) ByAccount (at_start (book_in old.view)) commands
  pub book : book_in new.view ≡ (state_after (machine_in f old.view) ByAccount (at_start (book_in old.view)) commands).book
  pub tellable : AreTold (IsTellable f) told
