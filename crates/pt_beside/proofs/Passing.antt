-- What each step of a run comes to.
use Rattle.std.proofs.Common.{◌≡◌, ◌≢◌, ℕ, ◌+◌, ◌-◌, ◌/◌, ◌^◌, ◌≤◌, ◌<◌, List, [], ◌∷◌, ◌++◌, Bool, true, false, length, take, drop, get_or, refl, ap, subst, sym, ◌∙◌, arith, append_assoc, length-append, Option, Some, None}
use Rattle.std.specs.Prelude.{not, ◌==◌, if◌then◌else◌}
use Rattle.std.proofs.lemmas.Bool.{false≢true}
use Rattle.std.proofs.lemmas.List.{append-nil}
use Rattle.std.proofs.Math.Seq.{take-append_seam}
use Rattle.pt_model.specs.declared.command.What.{What}
use Rattle.pt_model.specs.declared.command.What.TheVariants.{Map, Unmap, Lookup, Dump, Release, Fork, With, End}
use Rattle.pt_model.specs.declared.command.Command.{Command}
use Rattle.pt_model.specs.declared.reply.MapAnswer.{MapAnswer}
use Rattle.pt_model.specs.declared.reply.MapAnswer.TheVariants as mapping
use Rattle.pt_model.specs.declared.reply.ForkAnswer.TheVariants as forking
use Rattle.pt_model.specs.declared.reply.Answer.{Answer}
use Rattle.pt_model.specs.declared.reply.Answer.TheVariants as answer
use Rattle.pt_model.specs.declared.reply.Reply.{Reply}
use Rattle.pt_model.specs.Layout.{input_pages}
use Rattle.pt_model.specs.Pages.{page_under}
use Rattle.pt_model.specs.Book as book
use Rattle.pt_model.specs.Book.{Book, MapRefusal, map_refusal, mapped}
use Rattle.pt_model.specs.Cuts.{cut_refusal}
use Rattle.pt_model.specs.Run.{Machine, Opened, Decided, ByLines, refused_answer, map_answer, after_map, is_frames, is_lacking, fork_answer, answer_to, book_after, replies_from}
use Rattle.pt_script.specs.declared.line.Line.TheVariants as form
use Rattle.pt_script.specs.Lines.{command_line}
use Rattle.pt_script.specs.Grammar.{IsBody}
use Rattle.pt_script.specs.Numbered.{body_lines}
use Rattle.pt_script.proofs.BranchLemmas.{come_apart}
use Rattle.pt_laws.specs.Goes.{Goes, in_forks}
use Rattle.pt_laws.specs.Need.{fork_lines}
use Rattle.pt_laws.specs.Covers.{SoFar}
use Rattle.pt_laws.specs.OneText.{is_call}
use Rattle.pt_laws.proofs.ForkRuns.{goes_nowhere, goes_plain, goes_past}
use Rattle.pt_laws.proofs.Beside.{one_then_other}
use Rattle.pt_laws.proofs.Purses.{fork_whole}
use Rattle.pt_laws.proofs.Loop.{each_keeps}
use Rattle.pt_forks.specs.Running.{IsOneBody}
use Rattle.pt_forks.proofs.Bodies.{ForkSlices, closed}
use Rattle.pt_forks.proofs.Passing.{none, no_fork, first_plain, refuses}
use Rattle.pt_beside.specs.Places.{Place, StaysIn, IsSound, MayAsk, IsAnswered, stand, is_whole}
use Rattle.pt_beside.specs.Running.{IsBodyIn, IsBodyOf, AreOf, KeepsOn, RanWhole, Ran, HasPassed}
use Rattle.pt_beside.proofs.Whole.{whole_nothing, whole_on, whole_call, whole_past}
use Rattle.pt_beside.proofs.Listing.{rise_drop, rise_take, length_drop, of_on, of_none, told_on, reads_left, reads_right}

pub whole_stays : (p q : Place) → StaysIn p q → is_whole q ≡ is_whole p
whole_stays p q s =
    ap (λ (n : ℕ). n == input_pages q.machine.layout) s.count ∙ ap (λ (m : Machine). p.book.count == input_pages m.layout) s.machine

pub stays_on : (p q r : Place) → StaysIn p q → StaysIn q r → StaysIn p r
stays_on p q r s t = record { space = t.space ∙ s.space; machine = t.machine ∙ s.machine; first = t.first ∙ s.first; count = t.count ∙ s.count }

-- One stretch of commands after another.

-- the replies that stood before
goes_more : (m : Machine) (by : Decided) (b b' : Book) (cs later : List Command) (old new : List Reply) →
    Goes m by b b' cs later [] new → Goes m by b b' cs later old (old ++ new)
goes_more m by b b' cs later old new g = record {
  replies = λ fs r. ap (λ (rs : List Reply). old ++ rs) (g.replies fs r) ∙ sym (append_assoc old new (replies_from m by (in_forks b' fs) later));
  state = g.state;
}

pub ran_nothing : (IsTold : Answer → Type 0) (p : Place) → Ran IsTold p p [] []
ran_nothing IsTold p = record {
  are_of = AreOf.nothing;
  told = tt;
  goes = λ lines h. goes_nowhere p.machine (ByLines lines) p.book [] [];
  keeps = λ part start done said h.
      subst (λ (ds : List Command). SoFar p.machine start ds (stand p) (said ++ [])) (sym (append-nil done))
      (subst (λ (rs : List Reply). SoFar p.machine start done (stand p) rs) (sym (append-nil said)) h);
  whole = λ whole. whole_nothing p.machine (stand p);
}

pub ran_on : (IsTold : Answer → Type 0) (p q r : Place) (xs ys : List Command) (rs qs : List Reply) → StaysIn p q →
    Ran IsTold p q xs rs → Ran IsTold q r ys qs → Ran IsTold p r (xs ++ ys) (rs ++ qs)
ran_on IsTold p q r xs ys rs qs stays g h = record {
  are_of = of_on xs ys rs qs g.are_of h.are_of;
  told = told_on IsTold rs qs g.told h.told;
  goes = λ lines reads.
      let later : Goes p.machine (ByLines lines) q.book r.book ys [] [] qs =
      subst (λ (m : Machine). Goes m (ByLines lines) q.book r.book ys [] [] qs) stays.machine (h.goes lines (reads_right lines rs qs reads)) in
      one_then_other p.machine (ByLines lines) p.book q.book r.book xs ys [] rs (rs ++ qs) (g.goes lines (reads_left lines rs qs reads))
      (goes_more p.machine (ByLines lines) q.book r.book ys [] rs qs later);
  keeps = λ part start done said so.
      let later : KeepsOn p.machine (stand q) (stand r) ys qs =
      subst (λ (m : Machine). KeepsOn m (stand q) (stand r) ys qs) stays.machine (h.keeps (whole_stays p q stays ∙ part)) in
      subst (λ (ds : List Command). SoFar p.machine start ds (stand r) (said ++ (rs ++ qs))) (append_assoc done xs ys)
      (subst (λ (zs : List Reply). SoFar p.machine start ((done ++ xs) ++ ys) (stand r) zs) (append_assoc said rs qs)
      (later start (done ++ xs) (said ++ rs) (g.keeps part start done said so)));
  whole = λ whole.
      whole_on p.machine xs ys (stand p) (stand q) (stand r) rs qs (g.whole whole)
      (subst (λ (m : Machine). RanWhole m (stand q) (stand r) ys qs) stays.machine (h.whole (whole_stays p q stays ∙ whole)));
}

-- a branch from its start
pub branch_ran : (IsTold : Answer → Type 0) (p q : Place) (cs : List Command) (rs : List Reply) → Ran IsTold p q cs rs → is_whole p ≡ false →
    SoFar p.machine p.purse cs (stand q) rs
branch_ran IsTold p q cs rs ran part =
    let start : SoFar p.machine p.purse [] (stand p) [] = record { by_need = omega arith; by_use = λ none. omega arith; lacks = tt } in
    ran.keeps part p.purse [] [] start

-- One call. A set that says of its line whether it was answered `map frames` decides as was decided.

module _ (m : Machine) (b : Book) where
  abbrev by_refusal : Bool → Option MapRefusal → MapAnswer
  by_refusal lacking o = elim o as (λ _. MapAnswer) [ Some refusal ↦ refused_answer refusal | None ↦ if lacking then mapping.Frames else mapping.Mapped ]

  again : (x : Bool) (o : Option MapRefusal) → by_refusal (is_frames (answer.Map (by_refusal x o))) o ≡ by_refusal x o
  again x (Some book.Misaligned) = refl
  again x (Some book.OutsideLease) = refl
  again x (Some book.OutputRange) = refl
  again x (Some (book.Occupied address)) = refl
  again true None = refl
  again false None = refl

  record Decides (b' : Book) (lines : ℕ → Bool) (line : ℕ) (what : What) (a : Answer) : Type 0 where
    pub lacking : Bool
    pub says : (forks : List Opened) → is_lacking m (ByLines lines) (in_forks b forks) line what ≡ lacking
    pub answers : answer_to m b lacking what ≡ Some a
    pub book : b' ≡ book_after m b lacking what

  decides : (b' : Book) (lines : ℕ → Bool) (line : ℕ) (what : What) (a : Answer) (x : Bool) → is_call what ≡ true → answer_to m b x what ≡ Some a →
      b' ≡ book_after m b x what → lines line ≡ is_frames a → Decides b' lines line what a
  decides b' lines line (Map va pa len prot) a x call e after h =
      let is : answer.Map (map_answer m b x va pa len) ≡ a = cc in
      let same : map_answer m b (lines line) va pa len ≡ map_answer m b x va pa len =
      ap (λ (t : Bool). map_answer m b t va pa len) (h ∙ ap is_frames (sym is)) ∙ again x (map_refusal m.layout b va pa len) in
      record {
        lacking = lines line;
        says = λ forks. refl;
        answers = ap (λ (t : MapAnswer). Some (answer.Map t)) same ∙ e;
        book = after ∙ sym (ap (λ (t : MapAnswer). after_map t (mapped m.layout m.levels b (page_under m.layout va) (len / 2 ^ m.layout.granule) (pa / 2 ^ m.layout.granule) prot) b) same);
      }
  decides b' lines line (Unmap va len) a x call e after h = record { lacking = false; says = λ forks. refl; answers = e; book = after }
  decides b' lines line (Lookup va) a x call e after h = record { lacking = false; says = λ forks. refl; answers = e; book = after }
  decides b' lines line Dump a x call e after h = record { lacking = false; says = λ forks. refl; answers = e; book = after }
  decides b' lines line Release a x call e after h = record { lacking = false; says = λ forks. refl; answers = e; book = after }
  decides b' lines line (Fork at) a x call e after h = absurd (false≢true call)
  decides b' lines line With a x call e after h = absurd (false≢true call)
  decides b' lines line End a x call e after h = absurd (false≢true call)

called : (IsTold : Answer → Type 0) (p q : Place) (c : Command) (a : Answer) → IsSound p → is_call c.what ≡ true → IsAnswered p q c.what a → IsTold a →
    Ran IsTold p q (c ∷ []) (record { line = c.line; answer = a } ∷ [])
called IsTold p q c a sound call is told = record {
  are_of = AreOf.answered c.line c.what a [] [] AreOf.nothing;
  told = (told, tt);
  goes = λ lines reads.
      let d : Decides p.machine p.book q.book lines c.line c.what a = decides p.machine p.book q.book lines c.line c.what a is.lacking call is.answers is.book reads.0 in
      goes_plain p.machine (ByLines lines) p.book q.book c [] a d.lacking [] (record { line = c.line; answer = a } ∷ []) d.says call d.answers d.book refl;
  keeps = λ part start done said so. (each_keeps p.machine sound.page).call start c.line done c.what (stand p) (stand q) a said so (is.leaves part);
  whole = λ whole. whole_call p.machine (stand p) (stand q) c a is.lacking call (is.account whole) is.answers is.book;
}

one_body : (inside : Bool) (cs : List Command) → IsBodyIn inside cs → IsOneBody cs []
one_body inside cs body = (let few = body.few_nested in record { inside = inside; room = body.room; is_body = body.is_body; few = omega arith })

pub first_call : (inside : Bool) (cs : List Command) → IsBodyIn inside cs → 0 < length cs → ((at : ℕ) → (get_or cs 0 none).what ≢ Fork at) → is_call (get_or cs 0 none).what ≡ true
first_call inside cs body some f = first_plain cs [] (one_body inside cs body) some f

not_false : (b : Bool) → not b ≡ false → b ≡ true
not_false true e = refl
not_false false e = cc

ask_from : (p : Place) (what : What) → is_call what ≡ true → (command_line what ≡ form.Release → is_whole p ≡ true) → MayAsk p what
ask_from p (Map va pa len prot) call h = call
ask_from p (Unmap va len) call h = call
ask_from p (Lookup va) call h = call
ask_from p Dump call h = call
ask_from p Release call h = h refl
ask_from p (Fork at) call h = call
ask_from p With call h = call
ask_from p End call h = call

pub may_ask : (p : Place) (cs : List Command) → IsBodyOf p cs → 0 < length cs → is_call (get_or cs 0 none).what ≡ true → MayAsk p (get_or cs 0 none).what
may_ask p [] body some call = absurd (omega arith)
may_ask p (c ∷ cs) body some call =
    ask_from p c.what call (λ e. not_false (is_whole p)
    (come_apart.release (not (is_whole p)) body.room (body_lines cs) (subst (λ l. IsBody (not (is_whole p)) body.room (l ∷ body_lines cs)) e body.is_body)))

pub passed_call : (IsTold : Answer → Type 0) (p q : Place) (cs : List Command) (a : Answer) (old new : List Reply) (count : ℕ) → IsSound p → IsBodyOf p cs → 0 < length cs →
    is_call (get_or cs 0 none).what ≡ true → IsAnswered p q (get_or cs 0 none).what a → IsTold a → count ≡ 1 →
    new ≡ old ++ record { line = (get_or cs 0 none).line; answer = a } ∷ [] → HasPassed IsTold p q cs old new count
passed_call IsTold p q [] a old new count sound body some call is told one put = absurd (omega arith)
passed_call IsTold p q (c ∷ cs) a old new count sound body some call is told one put =
    let few = body.few in
    subst (λ (n : ℕ). HasPassed IsTold p q (c ∷ cs) old new n) (sym one)
    (record {
      some = omega arith;
      within = omega arith;
      added = record { line = c.line; answer = a } ∷ [];
      put = put;
      ran = called IsTold p q c a sound call is told;
      rest = record {
        room = body.room;
        is_body = come_apart.plain (not (is_whole p)) body.room (command_line c.what) (body_lines cs) body.is_body (no_fork c.what call);
        few_nested = body.few_nested;
        rises = body.rises.1;
        few = omega arith;
      };
    })

-- A fork at the front.

module _ (cs : List Command) (line at k l : ℕ) (inside : Bool) (room : ℕ) (f : ForkSlices cs line at k l inside room) where
  abbrev pub left : List Command
  left = take (k - 1) (drop 1 cs)

  abbrev pub right : List Command
  right = take (l - (k + 1)) (drop (k + 1) cs)

  pub fork_long : length left + length right + 3 ≤ length cs
  fork_long = omega (
    arith,
    ap length f.whole,
    length-append left (record { line = f.middle; what = With } ∷ (right ++ (record { line = f.last; what = End } ∷ drop (l + 1) cs))),
    length-append right (record { line = f.last; what = End } ∷ drop (l + 1) cs),
  )

  pub fork_taken : take (l + 1) cs ≡ fork_lines line at f.middle f.last left right []
  fork_taken =
      let whole : cs ≡ fork_lines line at f.middle f.last left right [] ++ drop (l + 1) cs = f.whole ∙ sym (fork_whole line at f.middle f.last left right (drop (l + 1) cs)) in
      let within = f.within in
      let long : l + 1 ≡ length (fork_lines line at f.middle f.last left right []) =
      omega (arith, ap length whole, length-append (fork_lines line at f.middle f.last left right []) (drop (l + 1) cs), length_drop cs (l + 1)) in
      ap (λ (ds : List Command). take (l + 1) ds) whole ∙ ap (λ (n : ℕ). take n (fork_lines line at f.middle f.last left right [] ++ drop (l + 1) cs)) long
      ∙ take-append_seam (fork_lines line at f.middle f.last left right []) (drop (l + 1) cs)

  module _ (body : IsBodyIn inside cs) (same : body.room ≡ room) where
    pub left_body : IsBodyIn true left
    left_body =
        let less = f.room_is in let nested = body.few_nested in let few = body.few in let long = fork_long in
        record { room = f.less; is_body = f.left_body; few_nested = omega arith; rises = rise_take (drop 1 cs) (k - 1) (rise_drop cs 1 body.rises); few = omega arith }

    pub right_body : IsBodyIn true right
    right_body =
        let less = f.room_is in let nested = body.few_nested in let few = body.few in let long = fork_long in
        record { room = f.less; is_body = f.right_body; few_nested = omega arith; rises = rise_take (drop (k + 1) cs) (l - (k + 1)) (rise_drop cs (k + 1) body.rises); few = omega arith }

    pub rest_body : IsBodyIn inside (drop (l + 1) cs)
    rest_body =
        let nested = body.few_nested in let few = body.few in let long = length_drop cs (l + 1) in
        record { room = room; is_body = f.rest_body; few_nested = omega arith; rises = rise_drop cs (l + 1) body.rises; few = omega arith }

-- the fork's lines are run
pub passed_fork : (IsTold : Answer → Type 0) (p q : Place) (cs : List Command) (line at k l : ℕ) (old new added : List Reply) (body : IsBodyOf p cs) →
    (f : ForkSlices cs line at k l (not (is_whole p)) body.room) → new ≡ old ++ added →
    Ran IsTold p q (fork_lines line at f.middle f.last (take (k - 1) (drop 1 cs)) (take (l - (k + 1)) (drop (k + 1) cs)) []) added → HasPassed IsTold p q cs old new (l + 1)
passed_fork IsTold p q cs line at k l old new added body f put ran = record {
  some = omega arith;
  within = f.within;
  added = added;
  put = put;
  ran = subst (λ (ds : List Command). Ran IsTold p q ds added) (sym (fork_taken cs line at k l (not (is_whole p)) body.room f)) ran;
  rest = rest_body cs line at k l (not (is_whole p)) body.room f body refl;
}

pub ran_refused : (IsTold : Answer → Type 0) (p : Place) (line at middle last : ℕ) (left right : List Command) → IsSound p →
    (fork_answer p.machine p.book at ≡ forking.Forked → ⊥) → IsTold (answer.Fork (fork_answer p.machine p.book at)) →
    IsBodyIn true left → IsBodyIn true right →
    Ran IsTold p p (fork_lines line at middle last left right []) (record { line = line; answer = answer.Fork (fork_answer p.machine p.book at) } ∷ [])
ran_refused IsTold p line at middle last left right sound not_forked told one two =
    let r = refuses (cut_refusal p.machine.layout p.book at) not_forked in
    record {
      are_of = of_on (record { line = line; what = Fork at } ∷ []) (left ++ (record { line = middle; what = With } ∷ (right ++ (record { line = last; what = End } ∷ []))))
          (record { line = line; answer = answer.Fork (fork_answer p.machine p.book at) } ∷ []) []
          (AreOf.answered line (Fork at) (answer.Fork (fork_answer p.machine p.book at)) [] [] AreOf.nothing)
          (of_none (left ++ (record { line = middle; what = With } ∷ (right ++ (record { line = last; what = End } ∷ [])))));
      told = (told, tt);
      goes = λ lines reads.
          goes_past p.machine (ByLines lines) p.book line at middle last left right [] r.0 [] (record { line = line; answer = answer.Fork (fork_answer p.machine p.book at) } ∷ []) r.1
          (closed true one.room left one.is_body) (closed true two.room right two.is_body) refl;
      keeps = λ part start done said so.
          (each_keeps p.machine sound.page).past start line at middle last done left right (stand p) (stand p) (fork_answer p.machine p.book at) said so (record { book = refl; purse = refl });
      whole = λ whole.
          whole_past p.machine (stand p) line at middle last left right r.0 r.1 (closed true one.room left one.is_body) (closed true two.room right two.is_body);
    }
