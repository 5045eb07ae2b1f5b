-- Where no outermost fork is short, the run of one owner and the shared run are one.
use Rattle.std.proofs.Common.{◌≡◌, ℕ, ◌+◌, ◌-◌, ◌≤◌, List, [], ◌∷◌, ◌++◌, true, false, Bool, inl, inr, refl, ap, sym, subst, ◌∙◌, arith, append_assoc, Option, Some, None}
use Rattle.std.specs.Prelude.{IsTrue, ◌&&◌, ◌==◌, if◌then◌else◌}
use Rattle.std.proofs.lemmas.Bool.{cases_Bool, cases_lt, false≢true, and_right, or_from}
use Rattle.std.proofs.lemmas.List.FromFn.{length-range_with_len}
use Rattle.pt_model.specs.declared.command.What.{What}
use Rattle.pt_model.specs.declared.command.What.TheVariants.{Map, Unmap, Lookup, Dump, Release, Fork, With, End}
use Rattle.pt_model.specs.declared.command.Command.{Command}
use Rattle.pt_model.specs.declared.reply.MapAnswer.{MapAnswer}
use Rattle.pt_model.specs.declared.reply.MapAnswer.TheVariants as mapping
use Rattle.pt_model.specs.Layout.{is_size}
use Rattle.pt_model.specs.Tables.{starting_top}
use Rattle.pt_model.specs.Book as book
use Rattle.pt_model.specs.Book.{Book, MapRefusal, linked_count, map_refusal, new_book}
use Rattle.pt_model.specs.Run.{new_start, Machine, lacks_frames, refused_answer, Opened, State, ByAccount, InForks, at_start, is_running, map_answer, fork_answer, answer_of, behind_what, behind, reply_before, replies_from, state_after, ask_replies, is_frames, lacked_lines}
use Rattle.pt_model.specs.declared.reply.Answer.{Answer}
use Rattle.pt_model.specs.declared.reply.Answer.TheVariants as answer
use Rattle.pt_model.specs.declared.reply.Reply.{Reply}
use Rattle.pt_model.specs.Unmap.{CutRefusal}
use Rattle.pt_model.specs.Cuts.{cut_refusal}
use Rattle.pt_laws.specs.Need.{need, fork_lines, IsOutermost, IsUncovered, is_short_fork}
use Rattle.pt_laws.specs.Goes.{Goes}
use Rattle.pt_laws.specs.OneText
use Rattle.pt_laws.specs.OneText.{IsNested, HasNoShortFork, IsOneText, OneText, IsAmple, HoldIsAmple, SharedIsPlain}
use Rattle.pt_laws.proofs.ForkRuns.{replies_append, state_append, goes_past}
use Rattle.pt_laws.proofs.NeedRuns.{all_grows, fork_need, need_append, no_account_short, one_linked, uncapped, hold_is_enough}
use Rattle.pt_laws.specs.Lines.{Reads}
use Rattle.pt_laws.proofs.Reading.{account_as, read_alike}
use Rattle.pt_laws.proofs.Purses.{fork_whole}
use Rattle.pt_laws.proofs.Whole.{nested_closed, nested_ends, printed_uncovered}

-- Where the need fits in what isn't linked, no reply is `map frames`.

refused_calm : (r : MapRefusal) → is_frames (answer.Map (refused_answer r)) ≡ false
refused_calm book.Misaligned = refl
refused_calm book.OutsideLease = refl
refused_calm book.OutputRange = refl
refused_calm (book.Occupied address) = refl

answer_calm : (o : Option MapRefusal) (lacking : Bool) → (o ≡ None → lacking ≡ false) →
    is_frames (answer.Map (elim o as (λ _. MapAnswer) [ Some refusal ↦ refused_answer refusal | None ↦ if lacking then mapping.Frames else mapping.Mapped ])) ≡ false
answer_calm (Some r) lacking h = refused_calm r
answer_calm None lacking h = ap (λ (t : Bool). is_frames (answer.Map (if t then mapping.Frames else mapping.Mapped))) (h refl)

reads_before : (l : ℕ → Bool) → ((n : ℕ) → l n ≡ false) → (line : ℕ) (running : Bool) (a : Answer) (rest : List Reply) → is_frames a ≡ false → Reads l rest →
    Reads l (reply_before line (if running then Some a else None) rest)
reads_before l none line true a rest e h = (none line ∙ sym e, h)
reads_before l none line false a rest e h = h

reads_none : (l : ℕ → Bool) (line : ℕ) (running : Bool) (rest : List Reply) → Reads l rest → Reads l (reply_before line (if running then None else (let o : Option Answer = None in o)) rest)
reads_none l line true rest h = h
reads_none l line false rest h = h

module _ (m : Machine) (page : IsTrue (is_size m.layout 0)) (l : ℕ → Bool) (none : (n : ℕ) → l n ≡ false) where
  one_calm : (s : State) (line : ℕ) (what : What) (cs : List Command) (rest : List Reply) → starting_top m.levels ≤ s.book.top →
      linked_count m.levels s.book + need m (record { line = line; what = what } ∷ cs) ≤ m.frames → Reads l rest →
      Reads l (reply_before line (answer_of m ByAccount s (record { line = line; what = what })) rest)
  one_calm s line (Map va pa len prot) cs rest low fits h =
      reads_before l none line (is_running s.forks) (answer.Map (map_answer m s.book (lacks_frames m s.book va pa len prot) va pa len)) rest
      (answer_calm (map_refusal m.layout s.book va pa len) (lacks_frames m s.book va pa len prot)
      (λ admitted. no_account_short m ByAccount s (record { line = line; what = Map va pa len prot } ∷ cs) [] cs line va pa len prot page low fits refl admitted)) h
  one_calm s line (Unmap va len) cs rest low fits h = reads_before l none line (is_running s.forks) _ rest refl h
  one_calm s line (Lookup va) cs rest low fits h = reads_before l none line (is_running s.forks) _ rest refl h
  one_calm s line Dump cs rest low fits h = reads_before l none line (is_running s.forks) _ rest refl h
  one_calm s line Release cs rest low fits h = reads_before l none line (is_running s.forks) _ rest refl h
  one_calm s line (Fork at) cs rest low fits h = reads_before l none line (is_running s.forks) _ rest refl h
  one_calm s line With cs rest low fits h = reads_none l line (is_running s.forks) rest h
  one_calm s line End cs rest low fits h = reads_none l line (is_running s.forks) rest h

  pub calm : (cs : List Command) (s : State) → starting_top m.levels ≤ s.book.top → linked_count m.levels s.book + need m cs ≤ m.frames → Reads l (replies_from m ByAccount s cs)
  calm [] s low fits = tt
  calm (c ∷ cs) s low fits =
      let grown = all_grows m page ByAccount (c ∷ []) s low in
      let more = grown.linked in let some = one_linked m s.book low in
      let bare_is = uncapped m (c ∷ []) (omega arith) in
      one_calm s c.line c.what cs (replies_from m ByAccount (behind m ByAccount s c) cs) low fits
      (calm cs (behind m ByAccount s c) grown.top (omega (arith, more, bare_is)))

  -- Both runs, from a place outside forks on.

  record Alike (s : State) (cs : List Command) : Type 0 where
    pub replies : replies_from m (InForks l) s cs ≡ replies_from m ByAccount s cs
    pub state : state_after m (InForks l) s cs ≡ state_after m ByAccount s cs

  -- outside forks both are decided by the account
  outside_answer : (b : Book) (line : ℕ) (what : What) → answer_of m (InForks l) (at_start b) (record { line = line; what = what }) ≡ answer_of m ByAccount (at_start b) (record { line = line; what = what })
  outside_answer b line (Map va pa len prot) = refl
  outside_answer b line (Unmap va len) = refl
  outside_answer b line (Lookup va) = refl
  outside_answer b line Dump = refl
  outside_answer b line Release = refl
  outside_answer b line (Fork at) = refl
  outside_answer b line With = refl
  outside_answer b line End = refl

  outside_behind : (b : Book) (line : ℕ) (what : What) → behind_what m (InForks l) (at_start b) line what ≡ behind_what m ByAccount (at_start b) line what
  outside_behind b line (Map va pa len prot) = refl
  outside_behind b line (Unmap va len) = refl
  outside_behind b line (Lookup va) = refl
  outside_behind b line Dump = refl
  outside_behind b line Release = refl
  outside_behind b line (Fork at) = refl
  outside_behind b line With = refl
  outside_behind b line End = refl

  call_stays : (b : Book) (line : ℕ) (what : What) → OneText.is_call what ≡ true → (behind_what m (InForks l) (at_start b) line what).forks ≡ []
  call_stays b line (Map va pa len prot) e = refl
  call_stays b line (Unmap va len) e = refl
  call_stays b line (Lookup va) e = refl
  call_stays b line Dump e = refl
  call_stays b line Release e = refl
  call_stays b line (Fork at) e = absurd (false≢true e)
  call_stays b line With e = absurd (false≢true e)
  call_stays b line End e = absurd (false≢true e)

  -- a part that is alike, and what follows
  alike_append : (s t : State) (xs ys : List Command) → Alike s xs → state_after m (InForks l) s xs ≡ t → Alike t ys → Alike s (xs ++ ys)
  alike_append s t xs ys a e b =
      let f : state_after m ByAccount s xs ≡ t = sym a.state ∙ e in
      record {
        replies = replies_append m (InForks l) s xs ys
            ∙ ap (λ (rs : List Reply). rs ++ replies_from m (InForks l) (state_after m (InForks l) s xs) ys) a.replies
            ∙ ap (λ (x : State). replies_from m ByAccount s xs ++ replies_from m (InForks l) x ys) e
            ∙ ap (λ (rs : List Reply). replies_from m ByAccount s xs ++ rs) b.replies
            ∙ ap (λ (x : State). replies_from m ByAccount s xs ++ replies_from m ByAccount x ys) (sym f)
            ∙ sym (replies_append m ByAccount s xs ys);
        state = state_append m (InForks l) s xs ys
            ∙ ap (λ (x : State). state_after m (InForks l) x ys) e
            ∙ b.state
            ∙ ap (λ (x : State). state_after m ByAccount x ys) (sym f)
            ∙ sym (state_append m ByAccount s xs ys);
      }

  -- a refused fork
  past_alike : (b : Book) (line at middle last : ℕ) (left right : List Command) (a : CutRefusal) → cut_refusal m.layout b at ≡ Some a → IsNested left → IsNested right →
      Alike (at_start b) (fork_lines line at middle last left right []) × (state_after m (InForks l) (at_start b) (fork_lines line at middle last left right []) ≡ at_start b)
  past_alike b line at middle last left right a refused nl nr =
      let r : Reply = record { line = line; answer = answer.Fork (fork_answer m b at) } in
      let one : Goes m (InForks l) b b (fork_lines line at middle last left right []) [] [] (record { line = line; answer = answer.Fork (fork_answer m b at) } ∷ []) =
      goes_past m (InForks l) b line at middle last left right [] a [] (record { line = line; answer = answer.Fork (fork_answer m b at) } ∷ []) refused (nested_closed left nl) (nested_closed right nr) refl in
      let two : Goes m ByAccount b b (fork_lines line at middle last left right []) [] [] (record { line = line; answer = answer.Fork (fork_answer m b at) } ∷ []) =
      goes_past m ByAccount b line at middle last left right [] a [] (record { line = line; answer = answer.Fork (fork_answer m b at) } ∷ []) refused (nested_closed left nl) (nested_closed right nr) refl in
      (record { replies = one.replies [] refl ∙ sym (two.replies [] refl); state = one.state [] refl ∙ sym (two.state [] refl) }, one.state [] refl)

  -- a part whose need fits
  fits_alike : (s : State) (cs : List Command) → starting_top m.levels ≤ s.book.top → linked_count m.levels s.book + need m cs ≤ m.frames → Alike s cs
  fits_alike s cs low fits = let r = read_alike m ByAccount (InForks l) l (account_as l) cs s (calm cs s low fits) in record { replies = r.replies; state = r.state }

  at_book : (s : State) → s.forks ≡ [] → s ≡ at_start s.book
  at_book s e = ap (λ (fs : List Opened). let t : State = record { book = s.book; forks = fs } in t) e

  module _ (start : State) (low : starting_top m.levels ≤ start.book.top) (body : List Command) (long : HasNoShortFork m (InForks l) start body) where
    fits : (b : Book) (left right : List Command) (n : ℕ) → n ≡ need m left + need m right + 0 → ¬ is_short_fork m b left right → linked_count m.levels b + n ≤ m.frames
    fits b left right n sum h = elim (cases_lt m.frames (linked_count m.levels b + (need m left + need m right))) [ inl short ↦ absurd (h short) | inr long ↦ omega (arith, sum, long) ]

    through : (line at middle last : ℕ) (left right cs : List Command) → IsNested left → IsNested right → IsNested cs → (done : List Command) (b : Book) →
        body ≡ done ++ fork_lines line at middle last left right cs → state_after m (InForks l) start done ≡ at_start b → (o : Option CutRefusal) → cut_refusal m.layout b at ≡ o →
        Alike (at_start b) (fork_lines line at middle last left right [])
    through line at middle last left right cs nl nr n done b is e (Some a) refused = (past_alike b line at middle last left right a refused nl nr).0
    through line at middle last left right cs nl nr n done b is e None admitted =
        let outermost : IsOutermost m (InForks l) start body done left right cs line middle last at = record {
          whole = is;
          outside = ap (λ (x : State). x.forks) e;
          left_ends = nested_ends m (InForks l) left nl;
          right_ends = nested_ends m (InForks l) right nr;
          admitted = ap (λ (x : State). cut_refusal m.layout x.book at) e ∙ admitted;
        } in
        let not_short = subst (λ (x : State). ¬ is_short_fork m x.book left right) e (long done left right cs line middle last at outermost) in
        let top = subst (λ (x : State). starting_top m.levels ≤ x.book.top) e (all_grows m page (InForks l) done start low).top in
        let sum = fork_need m left right [] line at middle last in
        fits_alike (at_start b) (fork_lines line at middle last left right []) top (fits b left right (need m (fork_lines line at middle last left right [])) sum not_short)

    from : (cs : List Command) → IsNested cs → (done : List Command) (b : Book) → body ≡ done ++ cs → state_after m (InForks l) start done ≡ at_start b → Alike (at_start b) cs
    from _ OneText.nothing done b is e = record { replies = refl; state = refl }
    from _ (OneText.call c cs call n) done b is e =
        let t : State = behind m (InForks l) (at_start b) c in
        let here : behind m (InForks l) (at_start b) c ≡ at_start (behind m (InForks l) (at_start b) c).book = at_book (behind m (InForks l) (at_start b) c) (call_stays b c.line c.what call) in
        let first : Alike (at_start b) (c ∷ []) = record {
          replies = ap (λ (o : Option Answer). reply_before c.line o []) (outside_answer b c.line c.what);
          state = outside_behind b c.line c.what;
        } in
        alike_append (at_start b) (at_start (behind m (InForks l) (at_start b) c).book) (c ∷ []) cs first here
        (from cs n (done ++ c ∷ []) (behind m (InForks l) (at_start b) c).book (is ∙ sym (append_assoc done (c ∷ []) cs))
        (state_append m (InForks l) start done (c ∷ []) ∙ ap (λ (x : State). behind m (InForks l) x c) e ∙ here))
    from _ (OneText.fork line at middle last left right cs nl nr n) done b is e =
        let part : List Command = fork_lines line at middle last left right [] in
        let first = through line at middle last left right cs nl nr n done b is e (cut_refusal m.layout b at) refl in
        let nested : IsNested (fork_lines line at middle last left right []) = OneText.fork line at middle last left right [] nl nr OneText.nothing in
        let here : state_after m (InForks l) (at_start b) (fork_lines line at middle last left right []) ≡ at_start (state_after m (InForks l) (at_start b) (fork_lines line at middle last left right [])).book =
        at_book (state_after m (InForks l) (at_start b) (fork_lines line at middle last left right [])) (nested_ends m (InForks l) (fork_lines line at middle last left right []) nested (at_start b)) in
        let whole : done ++ fork_lines line at middle last left right cs ≡ (done ++ fork_lines line at middle last left right []) ++ cs =
        ap (λ (xs : List Command). done ++ xs) (sym (fork_whole line at middle last left right cs)) ∙ sym (append_assoc done (fork_lines line at middle last left right []) cs) in
        subst (λ (xs : List Command). Alike (at_start b) xs) (fork_whole line at middle last left right cs)
        (alike_append (at_start b) (at_start (state_after m (InForks l) (at_start b) (fork_lines line at middle last left right [])).book) (fork_lines line at middle last left right []) cs first here
        (from cs n (done ++ fork_lines line at middle last left right []) (state_after m (InForks l) (at_start b) (fork_lines line at middle last left right [])).book (is ∙ whole)
        (state_append m (InForks l) start done (fork_lines line at middle last left right []) ∙ ap (λ (x : State). state_after m (InForks l) x (fork_lines line at middle last left right [])) e ∙ here)))

-- No line of a set stands in an outermost fork that doesn't cover it.
none_uncovered : (m : Machine) (l : ℕ → Bool) (start : State) (body : List Command) (line : ℕ) → HasNoShortFork m (InForks l) start body → IsUncovered m (InForks l) start body line → ⊥
none_uncovered m l start body line long u =
    let b : Book = (state_after m (InForks l) start u.before).book in
    elim (cases_lt m.frames (linked_count m.levels (state_after m (InForks l) start u.before).book + (need m u.left + need m u.right))) [
      | inl short ↦ long u.before u.left u.right u.rest u.fork_line u.with_line u.end_line u.at u.is_fork short
      | inr room ↦
          let sum = need_append m u.upto (u.here ∷ []) in
          let all = need_append m u.upto (u.here ∷ u.past) in
          elim u.not_covered [
            | inl in_left ↦ let whole = ap (need m) in_left.0 in in_left.1 (inl (omega (arith, room, sum, all, whole)))
            | inr in_right ↦ let whole = ap (need m) in_right.0 in in_right.1 (inl (omega (arith, room, sum, all, whole)))
          ]
    ]

all_empty : (m : Machine) (l : ℕ → Bool) (start : State) (body : List Command) → HasNoShortFork m (InForks l) start body →
    ((line : ℕ) → l line ≡ true → IsUncovered m (InForks l) start body line) → (line : ℕ) → l line ≡ false
all_empty m l start body long each line = elim (cases_Bool (l line)) [
  | inl is ↦ absurd (none_uncovered m l start body line long (each line is))
  | inr isnt ↦ isnt
]

pub one_text : OneText
one_text m body tail l page nested long each =
    let none = all_empty m l (new_start m) body long each in
    let runs = from m page l none (new_start m) (omega arith) body long body nested [] (new_book m.layout m.levels) refl refl in
    record {
      empty = none;
      same = ap (λ (rs : List Reply). rs ++ ask_replies m (state_after m (InForks l) (new_start m) body).book tail) runs.replies
          ∙ ap (λ (x : State). replies_from m ByAccount (new_start m) body ++ ask_replies m x.book tail) runs.state;
    }

read_none : (l : ℕ → Bool) → ((n : ℕ) → l n ≡ false) → (rs : List Reply) (line : ℕ) → Reads l rs → lacked_lines rs line ≡ false
read_none l none [] line h = refl
read_none l none (r ∷ rs) line h =
    or_from ((r.line == line) && is_frames r.answer) _ (and_right (r.line == line) (is_frames r.answer) (sym h.0 ∙ none r.line)) (read_none l none rs line h.1)

pub hold_is_ample : HoldIsAmple
hold_is_ample m hold body tail l page nested less enough each =
    let not_short : HasNoShortFork m (InForks l) (new_start m) body =
    λ before left right rest line middle last at is. (hold_is_enough m hold body l page less enough).forks before left right rest line at middle last is.whole in
    let text = one_text m body tail l page nested not_short each in
    let one = length-range_with_len (starting_top m.levels) (starting_top m.levels + 1 - starting_top m.levels) in
    let runs = from m page l text.empty (new_start m) (omega arith) body not_short body nested [] (new_book m.layout m.levels) refl refl in
    record {
      one_text = text;
      no_frames = λ line. ap (λ (rs : List Reply). lacked_lines rs line) runs.replies
          ∙ read_none l text.empty (replies_from m ByAccount (new_start m) body) line (calm m page l text.empty body (new_start m) (omega arith) (omega arith));
    }

pub shared_is_plain : SharedIsPlain
shared_is_plain m hold body tail s' all inside page nested run long =
    one_text m body tail (lacked_lines inside) page nested long
    (printed_uncovered m (InForks (lacked_lines inside)) body (record { book = new_book m.layout m.levels; purse = hold }) s' all inside run)
