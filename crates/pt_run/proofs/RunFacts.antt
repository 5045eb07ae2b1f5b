-- The run of a body on a new space, and what is asked behind it.
use Rattle.std.proofs.Common.{◌≡◌, ℕ, [], ◌∷◌, ◌++◌, List, sym, subst, ◌∙◌}
use Rattle.pt_model.specs.declared.command.Ask.{Ask}
use Rattle.pt_model.specs.declared.command.AskWhat.{AskWhat}
use Rattle.pt_model.specs.declared.command.AskWhat.TheVariants.{Walk, Census}
use Rattle.pt_model.specs.declared.command.Command.{Command}
use Rattle.pt_model.specs.declared.reply.Reply.{Reply}
use Rattle.pt_model.specs.Layout.{Layout}
use Rattle.pt_model.specs.Book.{Book, new_book}
use Rattle.pt_model.specs.Run.{Machine, ByAccount, ask_answer, ask_replies, at_start, last_book, replies_from, run_by, state_after}
use Rattle.pt_view.specs.Views.{book_of}
use Rattle.pt_plain.specs.Owner.{IsOpened, Owned}
use Rattle.pt_closed.specs.Closed.{IsClosed}
use Rattle.pt_reply.specs.Built.{machine}
use Rattle.pt_reply.specs.Running.{book_in, machine_in}
use Rattle.pt_reply.specs.Telling.{IsTellable}
use Rattle.pt_reply.proofs.RestBlocks.{blocks_are}
use Rattle.pt_forks.specs.Running.{AreTold}
use Rattle.pt_narrow.specs.Standing.{HasRunOver}
use Rattle.pt_names.specs.Names.{layout_of}
use Rattle.pt_script.specs.declared.whole.Script.{Script}
use Rattle.pt_run.specs.Scripted.{Closes, EndsOfOne, IsLastOfOne, IsRunOfOne}

-- Each reply has a text: where those of two lists have, and to what is asked.

pub told_both : (f : Layout) (rs ss : List Reply) → AreTold (IsTellable f) rs → AreTold (IsTellable f) ss → AreTold (IsTellable f) (rs ++ ss)
told_both f [] ss left right = right
told_both f (r ∷ rs) ss left right = (left.0, told_both f rs ss left.1 right)

told_one : (f : Layout) (m : Machine) (book : Book) (what : AskWhat) → IsTellable f (ask_answer m book what)
told_one f m book (Walk va) = tt
told_one f m book Census = tt

pub told_asks : (f : Layout) (m : Machine) (book : Book) (asks : List Ask) → AreTold (IsTellable f) (ask_replies m book asks)
told_asks f m book [] = tt
told_asks f m book (a ∷ asks) = (told_one f m book a.what, told_asks f m book asks)

module _ (f : Layout) (n l hold : ℕ) (o : Owned) (opened : IsOpened f n l hold o.view) (p : Owned) (commands : List Command) (replies : List Reply)
    (ran : HasRunOver f o p commands replies) where
  -- a new space has the new book, and its machine
  book_is : book_in o.view ≡ new_book f l
  book_is = λ i. record {
    first = opened.first i;
    count = opened.count i;
    blocks = blocks_are f o.view [] opened.rest i;
    tables = opened.tables i;
    top = opened.top i;
  }

  machine_is : machine_in f o.view ≡ machine f l n
  machine_is = λ i. machine f (opened.levels i) (opened.frames i)

  replies_are : replies ≡ replies_from (machine f l n) ByAccount (at_start (new_book f l)) commands
  replies_are = ran.replies ∙ (λ i. replies_from (machine_is i) ByAccount (at_start (book_is i)) commands)

  last_is : book_in p.view ≡ last_book (machine f l n) ByAccount commands
  last_is = ran.book ∙ (λ i. (state_after (machine_is i) ByAccount (at_start (book_is i)) commands).book)

  -- so a body leaves the words and the replies of its run
  pub ends_of_one : (words : List ℕ) → Closes (machine_in f p.view) (book_in p.view) words → EndsOfOne (machine f l n) commands words replies
  ends_of_one words closing = record {
    closes = subst (λ (m : Machine). Closes m (last_book (machine f l n) ByAccount commands) words) (ran.machine ∙ machine_is)
        (subst (λ (b : Book). Closes (machine_in f p.view) b words) last_is closing);
    are = replies_are;
    told = ran.tellable;
  }

-- What is asked of the words of a closed space is answered by its book, behind other replies.
module _ (f : Layout) (n l : ℕ) (book : Book) (words : List ℕ) (closing : Closes (machine f l n) book words) (replies : List Reply) (asks : List Ask)
    (all : List Reply) (asked : (c : IsClosed f n words) → all ≡ replies ++ ask_replies (machine f c.levels n) (book_of c.view c.blocks) asks) where
  pub asked_of_book : all ≡ replies ++ ask_replies (machine f l n) book asks
  asked_of_book = asked closing.closed ∙ (λ i. replies ++ ask_replies (machine f (closing.levels i) n) (closing.book_is i) asks)

  pub all_told : AreTold (IsTellable f) replies → AreTold (IsTellable f) all
  all_told told = subst (AreTold (IsTellable f)) (sym asked_of_book) (told_both f replies _ told (told_asks f (machine f l n) book asks))

-- the run of a script over one owner, by what its body leaves and what is asked behind it
pub run_of_one : (s : Script) (f : Layout) (words : List ℕ) (replies : List Reply) (asks : List Ask) (all : List Reply) → layout_of s.format ≡ f → asks ≡ s.tail →
    EndsOfOne (machine f s.levels s.frames) s.body words replies →
    ((c : IsClosed f s.frames words) → all ≡ replies ++ ask_replies (machine f c.levels s.frames) (book_of c.view c.blocks) asks) →
    IsRunOfOne s all
run_of_one s f words replies asks all name tails ends asked =
    let book = last_book (machine f s.levels s.frames) ByAccount s.body in
    let are = asked_of_book f s.frames s.levels book words ends.closes replies asks all asked
    ∙ (λ i. ends.are i ++ ask_replies (machine f s.levels s.frames) book asks) in
    record {
      are = are ∙ (λ i. run_by (machine (sym name i) s.levels s.frames) ByAccount s.body (tails i));
      told = subst (λ (h : Layout). AreTold (IsTellable h) all) (sym name) (all_told f s.frames s.levels book words ends.closes replies asks all asked ends.told);
    }

-- the words that a script's body leaves are those with the last book of the script's run
pub last_of_one : (s : Script) (f : Layout) (words : List ℕ) (replies : List Reply) → layout_of s.format ≡ f → EndsOfOne (machine f s.levels s.frames) s.body words replies →
    IsLastOfOne s words
last_of_one s f words replies name ends =
    subst (λ (h : Layout). Closes (machine h s.levels s.frames) (last_book (machine h s.levels s.frames) ByAccount s.body) words) (sym name) ends.closes
