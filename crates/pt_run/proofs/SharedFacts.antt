-- The run of a script's body on the whole of a shared space, new or of saved words, and what is asked behind it.
use Rattle.std.proofs.Common.{◌≡◌, ℕ, ◌+◌, ◌-◌, ◌≤◌, ◌<◌, List, [], ◌∷◌, ◌++◌, Bool, true, false, length, map, refl, ap, sym, subst, ◌∙◌, arith}
use Rattle.std.specs.Prelude.{◌==◌, not, IsTrue}
use Rattle.std.proofs.lemmas.Bool.{and_parts, eq-eqb, eqb-true}
use Rattle.std.proofs.lemmas.Nat.{pow_pos}
use Rattle.pt_model.specs.declared.command.Ask.{Ask}
use Rattle.pt_model.specs.declared.command.Command.{Command}
use Rattle.pt_model.specs.declared.reply.Reply.{Reply}
use Rattle.pt_model.specs.Layout.{Layout, input_pages}
use Rattle.pt_model.specs.declared.command.Name.{Name}
use Rattle.pt_model.specs.declared.command.Name.TheVariants.{AmdV1, VtdSs3, VtdSs4, VtdSs5, X86L4, X86L5, Vmsa4, Vmsa16, Vmsa64, Sv39, Sv48, Sv57}
use Rattle.pt_model.specs.Book.{Book, new_book}
use Rattle.pt_model.specs.Run.{Machine, State, InForks, ask_replies, at_start, lacked_lines, state_after}
use Rattle.pt_script.specs.declared.whole.Script.{Script}
use Rattle.pt_script.specs.Numbered.{count_on}
use Rattle.pt_script.specs.Scripts.{IsLegal}
use Rattle.pt_laws.specs.Lines.{CommandsRise, LinesFrom}
use Rattle.pt_laws.specs.Need.{IsUncovered}
use Rattle.pt_view.specs.declared.view.View.{View}
use Rattle.pt_view.specs.Views.{book_of}
use Rattle.pt_rule.specs.Lawful.{Lawful}
use Rattle.pt_rule.specs.Opening.{opening_view}
use Rattle.pt_closed.specs.Closed.{IsClosed}
use Rattle.pt_space.specs.Saved.{SavedWords, saved_view}
use Rattle.pt_space.specs.Standing.{Standing}
use Rattle.pt_forks.specs.Running.{AreTold}
use Rattle.pt_reply.specs.Built.{machine}
use Rattle.pt_reply.specs.Running.{IsReady, blocks_of, book_in, machine_in}
use Rattle.pt_reply.specs.Telling.{IsTellable, has_small_blocks}
use Rattle.pt_beside.specs.Places.{StaysIn, is_whole, stand}
use Rattle.pt_beside.specs.Running.{IsBodyIn, IsBodyOf, IsRun, IsWholeRun}
use Rattle.pt_shared.specs.Parts.{place_of}
use Rattle.pt_made.proofs.FewLines.{few_in_script}
use Rattle.pt_run.specs.Scripted.{Closes}
use Rattle.pt_names.specs.Names.{layout_of}
use Rattle.pt_run.specs.Shared.{AreForksLines, IsRunFrom, IsRunShared, run_begun, saved_book}
use Rattle.pt_run.proofs.ForksLines.{are_forks_lines}
use Rattle.pt_run.proofs.RunFacts.{all_told, asked_of_book}

-- The lines of a script's body rise.

from_on : (least first : ℕ) (cs : List Command) → least ≤ first → count_on first (map (λ c. c.line) cs) ≡ true → LinesFrom least cs
from_on least first [] h e = tt
from_on least first (c ∷ cs) h e =
    let p = and_parts (c.line == first) _ e in
    let same = eqb-true c.line first p.0 in
    (omega arith, from_on least (first + 1) cs (omega arith) p.1)

pub rises : (first : ℕ) (cs : List Command) → count_on first (map (λ c. c.line) cs) ≡ true → CommandsRise cs
rises first [] e = tt
rises first (c ∷ cs) e =
    let p = and_parts (c.line == first) _ e in
    let same = eqb-true c.line first p.0 in
    (from_on (c.line + 1) (first + 1) cs (omega arith) p.1, rises (first + 1) cs p.1)

pub script_body : (s : Script) → IsLegal s → IsBodyIn false s.body
script_body s legal = record {
  room = 16;
  is_body = legal.is_body;
  few_nested = omega arith;
  rises = rises 4 s.body legal.numbered;
  few = let few = few_in_script s legal in omega arith;
}

-- The words of a closed space, which has the one view.

pub closes : (f : Layout) (v : View) (n l : ℕ) (words : List ℕ) → IsReady f v → v.count ≡ input_pages f → Lawful f n l words (v ∷ []) →
    Closes (machine_in f v) (book_in v) words
closes f v n l words ready whole lawful =
    let pages : 0 < input_pages f = pow_pos (f.input - f.granule) in
    let live = lawful.sizes.live 0 v refl (omega arith) in
    record {
      closed = record {
        levels = v.levels;
        view = v;
        lawful = subst (λ (k : ℕ). Lawful f v.frames k words (v ∷ [])) (sym live.1) (subst (λ (k : ℕ). Lawful f k l words (v ∷ [])) (sym live.0) lawful);
        whole = whole;
        blocks = blocks_of v.pieces;
        rest = ready;
      };
      levels = refl;
      book_is = refl;
    }

-- What a run on a shared space of a format, begun with a book, comes to.
pub record IsSharedIn (f : Layout) (levels frames : ℕ) (book : Book) (body : List Command) (tail : List Ask) (replies : List Reply) : Type 0 where
  pub lines : ℕ → Bool
  pub are : replies ≡ run_begun (machine f levels frames) (InForks lines) book body tail
  pub printed : AreForksLines (machine f levels frames) (at_start book) body lines
  pub uncovered : (line : ℕ) → lines line ≡ true → IsUncovered (machine f levels frames) (InForks lines) (at_start book) body line
  pub told : AreTold (IsTellable f) replies

-- A place that is the whole space, as this machine.
module _ (f : Layout) (n l : ℕ) (p : Standing) (machine_was : machine_in f p.view ≡ machine f l n) (pages : p.view.count ≡ input_pages f) where
  whole_is : is_whole (place_of f p) ≡ true
  whole_is = eq-eqb p.view.count (input_pages f) pages

  pub whole_body : (s : Script) → IsLegal s → IsBodyOf (place_of f p) s.body
  whole_body s legal = subst (λ (t : Bool). IsBodyIn (not t) s.body) (sym whole_is) (script_body s legal)

  module _ (q : Standing) (body : List Command) (replies : List Reply) (rise : CommandsRise body) (stays : StaysIn (place_of f p) (place_of f q))
      (ran : IsRun (IsTellable f) (place_of f p) (place_of f q) body replies) where
    run : IsWholeRun (machine f l n) (stand (place_of f p)) (stand (place_of f q)) body replies
    run = subst (λ (m : Machine). IsWholeRun m (stand (place_of f p)) (stand (place_of f q)) body replies) machine_was (ran.whole whole_is)

    abbrev lines : ℕ → Bool
    lines = lacked_lines run.inside

    module _ (words : List ℕ) (closing : Closes (machine_in f q.view) (book_in q.view) words) (asks : List Ask) (all : List Reply)
        (asked : (c : IsClosed f n words) → all ≡ replies ++ ask_replies (machine f c.levels n) (book_of c.view c.blocks) asks) where
      so : Closes (machine f l n) (book_in q.view) words
      so = subst (λ (m : Machine). Closes m (book_in q.view) words) (stays.machine ∙ machine_was) closing

      last_is : book_in q.view ≡ (state_after (machine f l n) (InForks lines) (at_start (book_in p.view)) body).book
      last_is = ap (λ (s : State). s.book) (sym run.is_run.book_is)

      are : all ≡ run_begun (machine f l n) (InForks lines) (book_in p.view) body asks
      are =
          asked_of_book f n l (book_in q.view) words so replies asks all asked
          ∙ (λ i. run.is_run.replies_are i ++ ask_replies (machine f l n) (last_is i) asks)

      pub shared_in : IsSharedIn f l n (book_in p.view) body asks all
      shared_in = record {
        lines = lines;
        are = are;
        printed = are_forks_lines (machine f l n) body (stand (place_of f p)) (stand (place_of f q)) replies run.inside rise run.is_run.runs run.is_run.replies_are;
        uncovered = run.uncovered;
        told = all_told f n l (book_in q.view) words so replies asks all asked ran.told;
      }

-- which is the run of a script of that format, whose body and tail these are
pub run_from_is : (s : Script) (f : Layout) (book : Book) (body : List Command) (asks : List Ask) (all : List Reply) → layout_of s.format ≡ f → body ≡ s.body →
    asks ≡ s.tail → IsSharedIn f s.levels s.frames book body asks all → IsRunFrom s book all
run_from_is s f book body asks all name bodies tails r =
    let named = subst (λ (h : Layout). IsSharedIn h s.levels s.frames book body asks all) (sym name) r in
    let bodied = subst (λ (cs : List Command). IsSharedIn (layout_of s.format) s.levels s.frames book cs asks all) bodies named in
    let whole = subst (λ (xs : List Ask). IsSharedIn (layout_of s.format) s.levels s.frames book s.body xs all) tails bodied in
    record { lines = whole.lines; are = whole.are; printed = whole.printed; uncovered = whole.uncovered; told = whole.told }

-- A new space is at rest, and has the new book.

module _ (f : Layout) (n l hold : ℕ) (v : View) (opened : v ≡ opening_view f n l hold) where
  pub new_ready : IsReady f v
  new_ready = subst (IsReady f) (sym opened) (record { path = refl; prepared = refl; end = refl; pieces = refl })

  pub new_machine : machine_in f v ≡ machine f l n
  new_machine = ap (machine_in f) opened

  pub new_pages : v.count ≡ input_pages f
  new_pages = ap (λ (w : View). w.count) opened

  pub new_run : (s : Script) (all : List Reply) → layout_of s.format ≡ f → s.levels ≡ l → IsRunFrom s (book_in v) all → IsRunShared s all
  new_run s all name levels run =
      subst (λ (b : Book). IsRunFrom s b all) (ap book_in opened ∙ (λ i. new_book (sym name i) (sym levels i))) run

-- So has a space of saved words, with the book that they say.

module _ (f : Layout) (saved : SavedWords) (v : View) (says : v ≡ saved_view f saved.frames saved.levels 0 saved.words) where
  pub saved_machine : machine_in f v ≡ machine f saved.levels saved.frames
  unfolding saved_view
  saved_machine = ap (machine_in f) says

  pub saved_pages : v.count ≡ input_pages f
  unfolding saved_view
  saved_pages = ap (λ (w : View). w.count) says

  pub saved_run : (s : Script) (all : List Reply) → IsRunFrom s (book_in v) all → IsRunFrom s (saved_book f saved) all
  saved_run s all run = subst (λ (b : Book). IsRunFrom s b all) (ap book_in says) run

-- blocks of every format are smaller than its space
pub small_of : (name : Name) → IsTrue (has_small_blocks (layout_of name))
small_of AmdV1 = refl
small_of VtdSs3 = refl
small_of VtdSs4 = refl
small_of VtdSs5 = refl
small_of X86L4 = refl
small_of X86L5 = refl
small_of Vmsa4 = refl
small_of Vmsa16 = refl
small_of Vmsa64 = refl
small_of Sv39 = refl
small_of Sv48 = refl
small_of Sv57 = refl
