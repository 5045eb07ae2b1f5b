-- What each step of a run over one owner comes to.
use Rattle.std.proofs.Common.{◌≡◌, ◌≢◌, ℕ, ◌+◌, ◌-◌, ◌≤◌, ◌<◌, List, [], ◌∷◌, ◌++◌, Bool, true, false, length, take, drop, get_or, refl, ap, subst, sym, ◌∙◌, arith, Option, Some, None}
use Rattle.std.specs.Prelude.{find, if◌then◌else◌, nat_lt, ◌&&◌, not, option_map}
use Rattle.std.proofs.lemmas.Bool.{false≢true}
use Rattle.pt_model.specs.declared.block.Prot.TheVariants.{Read}
use Rattle.pt_model.specs.declared.command.What.{What}
use Rattle.pt_model.specs.declared.command.What.TheVariants.{Map, Unmap, Lookup, Dump, Release, Fork, With, End}
use Rattle.pt_model.specs.declared.command.Command.{Command}
use Rattle.pt_model.specs.declared.reply.Reply.{Reply}
use Rattle.pt_model.specs.declared.reply.Answer.{Answer}
use Rattle.pt_model.specs.declared.reply.Answer.TheVariants as answer
use Rattle.pt_model.specs.declared.reply.ForkAnswer.{ForkAnswer}
use Rattle.pt_model.specs.declared.reply.ForkAnswer.TheVariants as forking
use Rattle.pt_model.specs.Pages.{has_page, page_under, page_at, is_whole}
use Rattle.pt_model.specs.Book.{Book, span_end}
use Rattle.pt_model.specs.Unmap.{CutRefusal, CutsEntry, OutsideLease, Misaligned}
use Rattle.pt_model.specs.Cuts.{crosses, cut_refusal, spanning}
use Rattle.pt_model.specs.Run.{Machine, Opened, ByAccount, is_lacking, fork_answer, refused_fork, answer_to, book_after}
use Rattle.pt_script.specs.declared.line.Side.{Side}
use Rattle.pt_script.specs.declared.line.Side.TheVariants.{Left, Right}
use Rattle.pt_script.specs.declared.line.Line.{Line}
use Rattle.pt_script.specs.declared.line.Line.TheVariants as form
use Rattle.pt_script.specs.declared.line.Keyword.TheVariants as keyword
use Rattle.pt_script.specs.Lines.{command_line, keyword_of}
use Rattle.pt_script.specs.Grammar.{IsBody}
use Rattle.pt_script.specs.Numbered.{body_lines}
use Rattle.pt_script.proofs.BranchLemmas.{come_apart}
use Rattle.pt_laws.specs.Goes.{Goes, in_forks}
use Rattle.pt_laws.specs.OneText.{is_call}
use Rattle.pt_laws.proofs.ForkRuns.{goes_on, goes_plain, goes_past, goes_through}
use Rattle.pt_laws.proofs.Same.{cut_inside}
use Rattle.pt_forks.specs.Places.{Place, StaysIn, account_says}
use Rattle.pt_forks.specs.Running.{AreTold, IsOneBody, Comes, HasPassed, HasRun}
use Rattle.pt_forks.proofs.Bodies.{FrontFork}

abbrev pub none : Command
none = record { line = 0; what = Map 0 0 0 Read }

-- the account says the same in every fork and on every line
pub account_decides : (p : Place) (forks : List Opened) (line : ℕ) (what : What) → is_lacking p.machine ByAccount (in_forks p.book forks) line what ≡ account_says p what
account_decides p forks line (Map va pa len prot) = refl
account_decides p forks line (Unmap va len) = refl
account_decides p forks line (Lookup va) = refl
account_decides p forks line Dump = refl
account_decides p forks line Release = refl
account_decides p forks line (Fork at) = refl
account_decides p forks line With = refl
account_decides p forks line End = refl

pub no_fork : (what : What) → is_call what ≡ true → keyword_of (command_line what) ≢ keyword.Fork
no_fork (Map va pa len prot) p e = cc
no_fork (Unmap va len) p e = cc
no_fork (Lookup va) p e = cc
no_fork Dump p e = cc
no_fork Release p e = cc
no_fork (Fork at) p e = false≢true p
no_fork With p e = false≢true p
no_fork End p e = false≢true p

pub passed_plain : (p q : Place) (cs : List Command) (a : Answer) (old new : List Reply) → IsOneBody cs p.cuts → 0 < length cs →
    is_call (get_or cs 0 none).what ≡ true →
    answer_to p.machine p.book (account_says p (get_or cs 0 none).what) (get_or cs 0 none).what ≡ Some a →
    q.book ≡ book_after p.machine p.book (account_says p (get_or cs 0 none).what) (get_or cs 0 none).what →
    new ≡ old ++ record { line = (get_or cs 0 none).line; answer = a } ∷ [] → HasPassed p q cs old new 1
passed_plain p q [] a old new body some plain answered after put = absurd (omega arith)
passed_plain p q (c ∷ cs) a old new body some plain answered after put = record {
  some = omega arith;
  within = omega arith;
  comes = goes_plain p.machine ByAccount p.book q.book c cs a (account_says p c.what) old new (λ fs. account_decides p fs c.line c.what) plain
      answered after put;
  is_rest = record {
    inside = body.inside;
    room = body.room;
    is_body = come_apart.plain body.inside body.room (command_line c.what) (body_lines cs) body.is_body (no_fork c.what plain);
    few = body.few;
  };
}

-- no body begins with a `with` or an `end`
head_line : (inside : Bool) (room : ℕ) (ls : List Line) → IsBody inside room ls → (l : Line) (more : List Line) → ls ≡ l ∷ more → (l ≢ form.With) × (l ≢ form.End)
head_line _ _ _ (IsBody.nothing inside room) l more e = cc
head_line _ _ _ (IsBody.map inside room va pa len prot ls b) l more e = (λ w. cc, λ w. cc)
head_line _ _ _ (IsBody.unmap inside room va len ls b) l more e = (λ w. cc, λ w. cc)
head_line _ _ _ (IsBody.lookup inside room va ls b) l more e = (λ w. cc, λ w. cc)
head_line _ _ _ (IsBody.dump inside room ls b) l more e = (λ w. cc, λ w. cc)
head_line _ _ _ (IsBody.release room ls b) l more e = (λ w. cc, λ w. cc)
head_line _ _ _ (IsBody.fork inside room at left right ls x y b) l more e = (λ w. cc, λ w. cc)

is_call_from : (what : What) → ((at : ℕ) → what ≢ Fork at) → command_line what ≢ form.With → command_line what ≢ form.End → is_call what ≡ true
is_call_from (Map va pa len prot) f w e = refl
is_call_from (Unmap va len) f w e = refl
is_call_from (Lookup va) f w e = refl
is_call_from Dump f w e = refl
is_call_from Release f w e = refl
is_call_from (Fork at) f w e = absurd (f at refl)
is_call_from With f w e = absurd (w refl)
is_call_from End f w e = absurd (e refl)

pub first_plain : (cs : List Command) (cuts : List Opened) → IsOneBody cs cuts → 0 < length cs → ((at : ℕ) → (get_or cs 0 none).what ≢ Fork at) → is_call (get_or cs 0 none).what ≡ true
first_plain [] cuts body some f = absurd (omega arith)
first_plain (c ∷ cs) cuts body some f =
    let h = head_line body.inside body.room (body_lines (c ∷ cs)) body.is_body (command_line c.what) (body_lines cs) refl in
    is_call_from c.what f h.0 h.1

-- the first command where it is a fork
pub first_fork : (cs : List Command) (at : ℕ) → 0 < length cs → (get_or cs 0 none).what ≡ Fork at → (rest : List Command) × (cs ≡ record { line = (get_or cs 0 none).line; what = Fork at } ∷ rest)
first_fork [] at some e = absurd (omega arith)
first_fork (c ∷ cs) at some e = (cs, ap (λ (w : What). (let d : Command = record { line = c.line; what = w } in d) ∷ cs) e)

-- Forks.
admits : (o : Option CutRefusal) → elim o as (λ _. ForkAnswer) [ Some refusal ↦ refused_fork refusal | None ↦ forking.Forked ] ≡ forking.Forked → o ≡ None
admits None e = refl
admits (Some Misaligned) e = cc
admits (Some OutsideLease) e = cc
admits (Some (CutsEntry b)) e = cc

pub admitted : (m : Machine) (b : Book) (at : ℕ) → fork_answer m b at ≡ forking.Forked → cut_refusal m.layout b at ≡ None
admitted m b at e = admits (cut_refusal m.layout b at) e

pub refuses : (o : Option CutRefusal) → (elim o as (λ _. ForkAnswer) [ Some refusal ↦ refused_fork refusal | None ↦ forking.Forked ] ≡ forking.Forked → ⊥) → (a : CutRefusal) × (o ≡ Some a)
refuses None n = absurd (n refl)
refuses (Some a) n = (a, refl)

pub passed_refused : (p : Place) (cs : List Command) (line at k l : ℕ) (old new : List Reply) → FrontFork cs line at k l p.cuts →
    (fork_answer p.machine p.book at ≡ forking.Forked → ⊥) → new ≡ old ++ record { line = line; answer = answer.Fork (fork_answer p.machine p.book at) } ∷ [] →
    HasPassed p p cs old new (l + 1)
passed_refused p cs line at k l old new f n put =
    let r = refuses (cut_refusal p.machine.layout p.book at) n in
    record {
      some = omega arith;
      within = f.within;
      comes = subst (λ (ds : List Command). Goes p.machine ByAccount p.book p.book ds (drop (l + 1) cs) old new) (sym f.whole)
          (goes_past p.machine ByAccount p.book line at f.middle f.last (take (k - 1) (drop 1 cs)) (take (l - (k + 1)) (drop (k + 1) cs)) (drop (l + 1) cs) r.0 old new r.1
          f.left_closed f.right_closed put);
      is_rest = f.rest_body;
    }

-- a cut that was admitted is admitted again where no block crosses it
guarded : {X : Type 0} (b : Bool) (x : X) (o : Option X) → (if b then Some x else o) ≡ None → (b ≡ false) × (o ≡ None)
guarded true x o e = cc
guarded false x o e = (refl, e)

lets_through : {X : Type 0} (b : Bool) (x : X) (o : Option X) → b ≡ false → o ≡ None → (if b then Some x else o) ≡ None
lets_through true x o e h = cc
lets_through false x o e h = h

page_part : (b : Bool) (x r : ℕ) → (if b then Some x else None) ≡ Some r → r ≡ x
page_part true x r e = cc
page_part false x r e = cc

again_at : (b b' : Book) (o : Option ℕ) (page : ℕ) → ((r : ℕ) → o ≡ Some r → r ≡ page) → b'.first ≡ b.first → span_end b' ≡ span_end b → find (crosses page) b'.blocks ≡ None →
    elim o as (λ _. Option CutRefusal) [
      | None ↦ Some OutsideLease
      | Some page ↦ if not (nat_lt b.first page && nat_lt page (span_end b)) then Some OutsideLease else option_map CutsEntry (find (crosses page) b.blocks)
    ] ≡ None →
    elim o as (λ _. Option CutRefusal) [
      | None ↦ Some OutsideLease
      | Some page ↦ if not (nat_lt b'.first page && nat_lt page (span_end b')) then Some OutsideLease else option_map CutsEntry (find (crosses page) b'.blocks)
    ] ≡ None
again_at b b' None page is e z free h = cc
again_at b b' (Some r) page is e z free h =
    let g = guarded (not (nat_lt b.first r && nat_lt r (span_end b))) OutsideLease _ h in
    let same : r ≡ page = is r refl in
    let none : option_map CutsEntry (find (crosses r) b'.blocks) ≡ None = ap (λ (n : ℕ). option_map CutsEntry (find (crosses n) b'.blocks)) same ∙ ap (option_map CutsEntry) free in
    lets_through (not (nat_lt b'.first r && nat_lt r (span_end b'))) OutsideLease (option_map CutsEntry (find (crosses r) b'.blocks))
    (ap (λ (n : ℕ). not (nat_lt n r && nat_lt r (span_end b'))) e ∙ ap (λ (n : ℕ). not (nat_lt b.first r && nat_lt r n)) z ∙ g.0) none

pub again : (m : Machine) (b b' : Book) (at : ℕ) → b'.first ≡ b.first → span_end b' ≡ span_end b → find (crosses (page_under m.layout at)) b'.blocks ≡ None → cut_refusal m.layout b at ≡ None → cut_refusal m.layout b' at ≡ None
again m b b' at e z free h =
    let g = guarded (not (is_whole m.layout at)) Misaligned _ h in
    lets_through (not (is_whole m.layout at)) Misaligned _ g.0 (again_at b b' (page_at m.layout at) (page_under m.layout at) (λ r. page_part (has_page m.layout at) (page_under m.layout at) r) e z free g.1)

-- the span behind a branch
run_span : (p q : Place) (at : ℕ) (side : Side) (cs : List Command) (one two : List Reply) → p.book.first ≤ span_end p.book → HasRun p q at side cs one two →
    (q.book.first ≡ p.book.first) × (span_end q.book ≡ span_end p.book)
run_span p q at side cs one two order x = (ap (λ (y : Book). y.first) x.widened, ap (λ (y : Book). span_end y) x.widened ∙ omega arith)

run_uncut : (p q : Place) (at : ℕ) (side : Side) (cs : List Command) (one two : List Reply) → HasRun p q at side cs one two →
    find (crosses (page_under p.machine.layout at)) q.book.blocks ≡ None
run_uncut p q at side cs one two x = ap (λ (y : Book). find (crosses (page_under p.machine.layout at)) y.blocks) x.widened ∙ x.uncut

-- the cut is admitted again behind the first branch
pub again_after : (p q : Place) (at : ℕ) (side : Side) (cs : List Command) (one two : List Reply) → StaysIn p q →
    cut_refusal p.machine.layout p.book at ≡ None → HasRun p q at side cs one two → cut_refusal q.machine.layout q.book at ≡ None
again_after p q at side cs one two stays ok x =
    let i = cut_inside p.machine.layout p.book at ok in
    let low = i.0 in let high = i.1 in
    let span = run_span p q at side cs one two (omega arith) x in
    subst (λ (m : Machine). cut_refusal m.layout q.book at ≡ None) (sym stays.machine)
    (again p.machine p.book q.book at span.0 span.1 (run_uncut p q at side cs one two x) ok)

pub passed_admitted : (p q r : Place) (cs : List Command) (line at k l : ℕ) (old one two new : List Reply) → FrontFork cs line at k l p.cuts → StaysIn p q →
    cut_refusal p.machine.layout p.book at ≡ None → one ≡ old ++ record { line = line; answer = answer.Fork (fork_answer p.machine p.book at) } ∷ [] →
    HasRun p q at Left (take (k - 1) (drop 1 cs)) one two → HasRun q r at Right (take (l - (k + 1)) (drop (k + 1) cs)) two new →
    HasPassed p r cs old new (l + 1)
passed_admitted p q r cs line at k l old one two new f stays ok put x y =
    let i = cut_inside p.machine.layout p.book at ok in
    let low = i.0 in let high = i.1 in
    let span = run_span p q at Left (take (k - 1) (drop 1 cs)) one two (omega arith) x in
    let of_p : Goes p.machine ByAccount (spanning q.book (page_under p.machine.layout at) (span_end q.book)) y.inner (take (l - (k + 1)) (drop (k + 1) cs)) [] two new =
    subst (λ (m : Machine). Goes m ByAccount (spanning q.book (page_under m.layout at) (span_end q.book)) y.inner (take (l - (k + 1)) (drop (k + 1) cs)) [] two new)
    stays.machine y.goes in
    let right : Goes p.machine ByAccount (spanning x.inner (page_under p.machine.layout at) (span_end p.book)) y.inner (take (l - (k + 1)) (drop (k + 1) cs)) [] two new =
    subst (λ (z : Book). Goes p.machine ByAccount z y.inner (take (l - (k + 1)) (drop (k + 1) cs)) [] two new)
    (ap (λ (n : ℕ). spanning q.book (page_under p.machine.layout at) n) span.1 ∙ ap (λ (z : Book). spanning z (page_under p.machine.layout at) (span_end p.book)) x.widened) of_p in
    let end : r.book ≡ spanning y.inner p.book.first (span_end p.book) =
    y.widened ∙ ap (λ (n : ℕ). spanning y.inner n (span_end q.book)) span.0 ∙ ap (λ (n : ℕ). spanning y.inner p.book.first n) span.1 in
    record {
      some = omega arith;
      within = f.within;
      comes = subst (λ (z : Book). Goes p.machine ByAccount p.book z cs (drop (l + 1) cs) old new) (sym end)
          (subst (λ (ds : List Command). Goes p.machine ByAccount p.book (spanning y.inner p.book.first (span_end p.book)) ds (drop (l + 1) cs) old new) (sym f.whole)
          (goes_through p.machine ByAccount p.book x.inner y.inner line at f.middle f.last (take (k - 1) (drop 1 cs)) (take (l - (k + 1)) (drop (k + 1) cs)) (drop (l + 1) cs)
          old one two new ok put x.goes right));
      is_rest = f.rest_body;
    }

-- one stretch of commands after another
pub comes_on : (p q r : Place) (cs ds es : List Command) (old mid new : List Reply) → StaysIn p q → Comes p q cs ds old mid → Comes q r ds es mid new → Comes p r cs es old new
comes_on p q r cs ds es old mid new stays g h =
    goes_on p.machine ByAccount p.book q.book r.book cs ds es old mid new g
    (subst (λ (m : Machine). Goes m ByAccount q.book r.book ds es mid new) stays.machine h)

pub stays_on : (p q r : Place) → StaysIn p q → StaysIn q r → StaysIn p r
stays_on p q r s t = record { machine = t.machine ∙ s.machine; cuts = t.cuts ∙ s.cuts }

-- one told reply more
pub told_more : (IsTold : Answer → Type 0) (rs : List Reply) (r : Reply) → IsTold r.answer → AreTold IsTold rs → AreTold IsTold (rs ++ r ∷ [])
told_more IsTold [] r h told = (h, tt)
told_more IsTold (x ∷ rs) r h told = (told.0, told_more IsTold rs r h told.1)
