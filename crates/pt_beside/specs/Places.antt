-- Where a part of a space stands, and what its calls leave of it.
use Rattle.std.specs.Prelude.{◌≡◌, ℕ, ◌+◌, ◌-◌, ◌≤◌, ◌==◌, min, Bool, true, false, Some, IsTrue}
use Rattle.pt_space.specs.Standing.{SpaceId}
use Rattle.pt_model.specs.declared.command.What.{What}
use Rattle.pt_model.specs.declared.command.What.TheVariants.{Release}
use Rattle.pt_model.specs.declared.reply.Answer.{Answer}
use Rattle.pt_model.specs.Layout.{is_size, input_pages}
use Rattle.pt_model.specs.Pages.{page_under}
use Rattle.pt_model.specs.Book.{Book, IsLawful, span_end}
use Rattle.pt_model.specs.Cuts.{part_of, joined}
use Rattle.pt_model.specs.Run.{Machine, ByAccount, is_lacking, at_start, answer_to, book_after}
use Rattle.pt_laws.specs.Need.{share_at}
use Rattle.pt_laws.specs.Covers.{Stand, Leaves}
use Rattle.pt_laws.specs.OneText.{is_call}

pub record Place : Type 0 where
  -- which space
  pub space : SpaceId
  pub machine : Machine
  pub book : Book
  -- how many frames its purse has
  pub purse : ℕ

abbrev pub stand : Place → Stand
stand p = record { book = p.book; purse = p.purse }

-- whether the span is the whole space
abbrev pub is_whole : Place → Bool
is_whole p = p.book.count == input_pages p.machine.layout

-- the same machine in the same space, with the same span
pub record StaysIn (old new : Place) : Type 0 where
  pub space : new.space ≡ old.space
  pub machine : new.machine ≡ old.machine
  pub first : new.book.first ≡ old.book.first
  pub count : new.book.count ≡ old.book.count

-- a part at rest has a lawful book
pub record IsSound (p : Place) : Type 0 where
  pub page : IsTrue (is_size p.machine.layout 0)
  pub lawful : IsLawful p.machine.layout p.machine.levels p.book

-- what may be asked of it: no line of a fork, and a `release` of the whole space alone
abbrev pub MayAsk : Place → What → Type 0
MayAsk p Release = is_whole p ≡ true
MayAsk p what = is_call what ≡ true

-- The answer and the book are the machine's, whether frames lack or don't. Over the whole space they lack where the account is
-- short; over a part the call leaves of the purse what a branch's call may.
pub record IsAnswered (p q : Place) (what : What) (a : Answer) : Type 0 where
  pub lacking : Bool
  pub answers : answer_to p.machine p.book lacking what ≡ Some a
  pub book : q.book ≡ book_after p.machine p.book lacking what
  pub account : is_whole p ≡ true → lacking ≡ is_lacking p.machine ByAccount (at_start p.book) 0 what
  pub leaves : is_whole p ≡ false → Leaves p.machine what (stand p) (stand q) a

-- The purse has so many frames, the old ones and those that were drawn. Over the whole space they are at least as many as
-- were asked for, or all that aren't linked.
pub record HasGathered (p q : Place) (count held : ℕ) : Type 0 where
  pub drawn : ℕ
  pub held_is : held ≡ drawn + p.purse
  pub is : q ≡ record p { purse = held }
  pub enough : is_whole p ≡ true → min count (share_at p.machine p.book) ≤ held

-- two parts, cut at an address, and so many frames of the purse with the left one
pub record IsSplit (p : Place) (at left_frames : ℕ) (left right : Place) : Type 0 where
  pub left_is : left ≡ record p { book = part_of p.machine.layout p.book p.book.first (page_under p.machine.layout at); purse = left_frames }
  pub right_is : right ≡ record p { book = part_of p.machine.layout p.book (page_under p.machine.layout at) (span_end p.book); purse = p.purse - left_frames }

-- neighbours in one space, the left one first
pub record AreBeside (left right : Place) : Type 0 where
  pub space : right.space ≡ left.space
  pub machine : right.machine ≡ left.machine
  pub meets : span_end left.book ≡ right.book.first

-- one part of two neighbours
abbrev pub both : (left right : Place) → Place
both left right = record left { book = joined left.book right.book; purse = left.purse + right.purse }
