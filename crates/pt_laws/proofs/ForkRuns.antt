-- The run of a fork: its branches in turn, or nothing.
use Rattle.std.proofs.Common.{◌≡◌, ℕ, List, [], ◌∷◌, ◌++◌, Bool, true, false, refl, ap, sym, subst, ◌∙◌, arith, append_assoc, Option, Some, None, length}
use Rattle.std.specs.Prelude.{◌&&◌, is_none, if◌then◌else◌}
use Rattle.std.proofs.lemmas.List.{append-nil}
use Rattle.std.proofs.lemmas.Bool.{false≢true}
use Rattle.pt_model.specs.declared.command.What.{What}
use Rattle.pt_model.specs.declared.command.What.TheVariants.{Map, Unmap, Lookup, Dump, Release, Fork, With, End}
use Rattle.pt_model.specs.declared.command.Command.{Command}
use Rattle.pt_model.specs.Pages.{page_under}
use Rattle.pt_model.specs.Book.{Book, span_end}
use Rattle.pt_model.specs.Run.{Machine, Opened, Refused, Cut, State, is_running, Decided, is_lacking, fork_answer, answer_to, answer_of, book_after, at_fork, at_with, at_end, behind_what, behind, reply_before, replies_from, state_after}
use Rattle.pt_model.specs.declared.reply.Answer.{Answer}
use Rattle.pt_model.specs.declared.reply.Answer.TheVariants as answer
use Rattle.pt_model.specs.declared.reply.Reply.{Reply}
use Rattle.pt_model.specs.Unmap.{CutRefusal}
use Rattle.pt_model.specs.Cuts.{cut_refusal, spanning}
use Rattle.pt_laws.specs.Apart.{depth_behind, may_stand, AreClosed}
use Rattle.pt_laws.specs.Goes.{in_forks, Goes}
use Rattle.pt_laws.specs.Need.{fork_lines}
use Rattle.pt_laws.specs.OneText.{is_call}

before_append : (line : ℕ) (a : Option Answer) (xs ys : List Reply) → reply_before line a (xs ++ ys) ≡ reply_before line a xs ++ ys
before_append line None xs ys = refl
before_append line (Some a) xs ys = refl

pub replies_append : (m : Machine) (by : Decided) (s : State) (cs ds : List Command) →
    replies_from m by s (cs ++ ds) ≡ replies_from m by s cs ++ replies_from m by (state_after m by s cs) ds
replies_append m by s [] ds = refl
replies_append m by s (c ∷ cs) ds =
    ap (reply_before c.line (answer_of m by s c)) (replies_append m by (behind m by s c) cs ds)
    ∙ before_append c.line (answer_of m by s c) (replies_from m by (behind m by s c) cs) (replies_from m by (state_after m by (behind m by s c) cs) ds)

pub state_append : (m : Machine) (by : Decided) (s : State) (cs ds : List Command) →
    state_after m by s (cs ++ ds) ≡ state_after m by (state_after m by s cs) ds
state_append m by s [] ds = refl
state_append m by s (c ∷ cs) ds = state_append m by (behind m by s c) cs ds

-- Goes, from step to step.

pub goes_on : (m : Machine) (by : Decided) (b b' b'' : Book) (cs ds es : List Command) (old mid new : List Reply) →
    Goes m by b b' cs ds old mid → Goes m by b' b'' ds es mid new → Goes m by b b'' cs es old new
goes_on m by b b' b'' cs ds es old mid new g h = record {
  replies = λ fs r. g.replies fs r ∙ h.replies fs r;
  state = λ fs r. g.state fs r ∙ h.state fs r;
}

pub goes_nowhere : (m : Machine) (by : Decided) (b : Book) (cs : List Command) (old : List Reply) → Goes m by b b cs cs old old
goes_nowhere m by b cs old = record { replies = λ fs r. refl; state = λ fs r. refl }

-- One plain command. What decides of frames says the same in every fork.

plain_answer : (m : Machine) (by : Decided) (s : State) (line : ℕ) (what : What) (a : Answer) (rest : List Reply) → is_running s.forks ≡ true →
    answer_to m s.book (is_lacking m by s line what) what ≡ Some a →
    reply_before line (answer_of m by s (record { line = line; what = what })) rest ≡ record { line = line; answer = a } ∷ rest
plain_answer m by s line what a rest runs e =
    ap (λ (r : Bool). reply_before line (if r then answer_to m s.book (is_lacking m by s line what) what else None) rest) runs
    ∙ ap (λ (o : Option Answer). reply_before line o rest) e

plain_behind : (m : Machine) (by : Decided) (s : State) (line : ℕ) (what : What) → is_call what ≡ true → is_running s.forks ≡ true →
    behind_what m by s line what ≡ record s { book = book_after m s.book (is_lacking m by s line what) what }
plain_behind m by s line (Map va pa len prot) p runs = ap (λ (r : Bool). if r then record s { book = book_after m s.book (is_lacking m by s line (Map va pa len prot)) (Map va pa len prot) } else s) runs
plain_behind m by s line (Unmap va len) p runs = ap (λ (r : Bool). if r then record s { book = book_after m s.book (is_lacking m by s line (Unmap va len)) (Unmap va len) } else s) runs
plain_behind m by s line (Lookup va) p runs = ap (λ (r : Bool). if r then record s { book = s.book } else s) runs
plain_behind m by s line Dump p runs = ap (λ (r : Bool). if r then record s { book = s.book } else s) runs
plain_behind m by s line Release p runs = ap (λ (r : Bool). if r then record s { book = s.book } else s) runs
plain_behind m by s line (Fork at) p runs = absurd (false≢true p)
plain_behind m by s line With p runs = absurd (false≢true p)
plain_behind m by s line End p runs = absurd (false≢true p)

pub goes_plain : (m : Machine) (by : Decided) (b b' : Book) (c : Command) (cs : List Command) (a : Answer) (lacking : Bool) (old new : List Reply) →
    ((forks : List Opened) → is_lacking m by (in_forks b forks) c.line c.what ≡ lacking) → is_call c.what ≡ true →
    answer_to m b lacking c.what ≡ Some a → b' ≡ book_after m b lacking c.what → new ≡ old ++ record { line = c.line; answer = a } ∷ [] →
    Goes m by b b' (c ∷ cs) cs old new
goes_plain m by b b' c cs a lacking old new decides plain answered after put =
    let next : (fs : List Opened) → is_running fs ≡ true → behind m by (in_forks b fs) c ≡ in_forks b' fs =
    λ fs r. plain_behind m by (in_forks b fs) c.line c.what plain r
    ∙ ap (λ (l : Bool). in_forks (book_after m b l c.what) fs) (decides fs) ∙ ap (λ (x : Book). in_forks x fs) (sym after) in
    record {
      replies = λ fs r.
          ap (λ (rs : List Reply). old ++ rs)
          (plain_answer m by (in_forks b fs) c.line c.what a (replies_from m by (behind m by (in_forks b fs) c) cs) r
          (ap (λ (l : Bool). answer_to m b l c.what) (decides fs) ∙ answered)
          ∙ ap (λ (s : State). record { line = c.line; answer = a } ∷ replies_from m by s cs) (next fs r))
          ∙ sym (append_assoc old (record { line = c.line; answer = a } ∷ []) (replies_from m by (in_forks b' fs) cs))
          ∙ ap (λ (rs : List Reply). rs ++ replies_from m by (in_forks b' fs) cs) (sym put);
      state = λ fs r. ap (λ (s : State). state_after m by s cs) (next fs r);
    }

-- A fork that is refused: what stands in it is skipped.

abbrev AllRefused : List Opened → Type 0
AllRefused [] = Unit {0}
AllRefused (Refused ∷ fs) = AllRefused fs
AllRefused (Cut first at last ∷ fs) = ⊥

not_running : (tops fs : List Opened) → AllRefused tops → is_running (tops ++ Refused ∷ fs) ≡ false
not_running [] fs h = refl
not_running (Refused ∷ tops) fs h = refl
not_running (Cut first at last ∷ tops) fs h = absurd h

-- one command in a fork that is skipped
abbrev SkipsOne : Machine → Decided → Book → (tops fs : List Opened) → (line : ℕ) → What → Type 0
SkipsOne m by b tops fs line what =
    (tops' : List Opened) × AllRefused tops' × (length tops' ≡ depth_behind what (length tops)) × (behind_what m by (in_forks b (tops ++ Refused ∷ fs)) line what ≡ in_forks b (tops' ++ Refused ∷ fs))

skip_with : (b : Book) (tops fs : List Opened) → AllRefused tops → may_stand With (length tops) ≡ true → at_with b (tops ++ Refused ∷ fs) ≡ in_forks b (tops ++ Refused ∷ fs)
skip_with b [] fs h stands = absurd (false≢true stands)
skip_with b (Refused ∷ tops) fs h stands = refl
skip_with b (Cut first at last ∷ tops) fs h stands = absurd h

skip_one : (m : Machine) (by : Decided) (b : Book) (tops fs : List Opened) (line : ℕ) (what : What) → AllRefused tops → is_running (tops ++ Refused ∷ fs) ≡ false →
    may_stand what (length tops) ≡ true → SkipsOne m by b tops fs line what
skip_one m by b tops fs line (Map va pa len prot) h still stands =
    (tops, h, refl, ap (λ (r : Bool). if r then in_forks (book_after m b (is_lacking m by (in_forks b (tops ++ Refused ∷ fs)) line (Map va pa len prot)) (Map va pa len prot)) (tops ++ Refused ∷ fs) else in_forks b (tops ++ Refused ∷ fs)) still)
skip_one m by b tops fs line (Unmap va len) h still stands =
    (tops, h, refl, ap (λ (r : Bool). if r then in_forks (book_after m b (is_lacking m by (in_forks b (tops ++ Refused ∷ fs)) line (Unmap va len)) (Unmap va len)) (tops ++ Refused ∷ fs) else in_forks b (tops ++ Refused ∷ fs)) still)
skip_one m by b tops fs line (Lookup va) h still stands = (tops, h, refl, ap (λ (r : Bool). if r then in_forks b (tops ++ Refused ∷ fs) else in_forks b (tops ++ Refused ∷ fs)) still)
skip_one m by b tops fs line Dump h still stands = (tops, h, refl, ap (λ (r : Bool). if r then in_forks b (tops ++ Refused ∷ fs) else in_forks b (tops ++ Refused ∷ fs)) still)
skip_one m by b tops fs line Release h still stands = (tops, h, refl, ap (λ (r : Bool). if r then in_forks b (tops ++ Refused ∷ fs) else in_forks b (tops ++ Refused ∷ fs)) still)
skip_one m by b tops fs line (Fork at) h still stands =
    (Refused ∷ tops, h, refl, ap (λ (r : Bool). if r && is_none (cut_refusal m.layout b at) then in_forks (spanning b b.first (page_under m.layout at)) (Cut b.first (page_under m.layout at) (span_end b) ∷ (tops ++ Refused ∷ fs)) else in_forks b (Refused ∷ (tops ++ Refused ∷ fs))) still)
skip_one m by b tops fs line With h still stands = (tops, h, refl, skip_with b tops fs h stands)
skip_one m by b [] fs line End h still stands = absurd (false≢true stands)
skip_one m by b (Refused ∷ tops) fs line End h still stands = (tops, h, refl, refl)
skip_one m by b (Cut first at last ∷ tops) fs line End h still stands = absurd h

skips : (m : Machine) (by : Decided) (b : Book) (tops fs : List Opened) (cs : List Command) → AllRefused tops → AreClosed (length tops) cs →
    (replies_from m by (in_forks b (tops ++ Refused ∷ fs)) cs ≡ []) × (state_after m by (in_forks b (tops ++ Refused ∷ fs)) cs ≡ in_forks b (Refused ∷ fs))
skips m by b [] fs [] h closed = (refl, refl)
skips m by b (t ∷ tops) fs [] h closed = absurd (omega arith)
skips m by b tops fs (c ∷ cs) h closed =
    let still = not_running tops fs h in
    let next : (tops' : List Opened) × AllRefused tops' × (length tops' ≡ depth_behind c.what (length tops)) × (behind m by (in_forks b (tops ++ Refused ∷ fs)) c ≡ in_forks b (tops' ++ Refused ∷ fs)) =
    skip_one m by b tops fs c.line c.what h still closed.0 in
    let later = skips m by b next.0 fs cs next.1 (subst (λ (n : ℕ). AreClosed n cs) (sym next.2) closed.1) in (
      ap (λ (r : Bool). reply_before c.line (if r then answer_to m b (is_lacking m by (in_forks b (tops ++ Refused ∷ fs)) c.line c.what) c.what else None) (replies_from m by (behind m by (in_forks b (tops ++ Refused ∷ fs)) c) cs)) still
          ∙ ap (λ (s : State). replies_from m by s cs) next.3 ∙ later.0,
      ap (λ (s : State). state_after m by s cs) next.3 ∙ later.1,
    )

pub goes_past : (m : Machine) (by : Decided) (b : Book) (line at middle last : ℕ) (left right rest : List Command) (a : CutRefusal) (old new : List Reply) →
    cut_refusal m.layout b at ≡ Some a → AreClosed 0 left → AreClosed 0 right →
    new ≡ old ++ record { line = line; answer = answer.Fork (fork_answer m b at) } ∷ [] →
    Goes m by b b (fork_lines line at middle last left right rest) rest old new
goes_past m by b line at middle last left right rest a old new refused cl cr put =
    let fork : Reply = record { line = line; answer = answer.Fork (fork_answer m b at) } in
    let skipping : (fs : List Opened) → State = λ fs. in_forks b (Refused ∷ fs) in
    let opened : (fs : List Opened) → is_running fs ≡ true → at_fork m (in_forks b fs) at ≡ in_forks b (Refused ∷ fs) =
    λ fs r. ap (λ (t : Bool). if t && is_none (cut_refusal m.layout b at) then in_forks (spanning b b.first (page_under m.layout at)) (Cut b.first (page_under m.layout at) (span_end b) ∷ fs) else in_forks b (Refused ∷ fs)) r
    ∙ ap (λ (o : Option CutRefusal). if is_none o then in_forks (spanning b b.first (page_under m.layout at)) (Cut b.first (page_under m.layout at) (span_end b) ∷ fs) else in_forks b (Refused ∷ fs)) refused in
    let with_on : List Command = record { line = middle; what = With } ∷ (right ++ record { line = last; what = End } ∷ rest) in
    let end_on : List Command = record { line = last; what = End } ∷ rest in
    let silent : (fs : List Opened) → replies_from m by (in_forks b (Refused ∷ fs)) (left ++ record { line = middle; what = With } ∷ (right ++ record { line = last; what = End } ∷ rest)) ≡ replies_from m by (in_forks b fs) rest =
    λ fs.
    let l = skips m by b [] fs left tt cl in
    let r = skips m by b [] fs right tt cr in
    replies_append m by (in_forks b (Refused ∷ fs)) left (record { line = middle; what = With } ∷ (right ++ record { line = last; what = End } ∷ rest))
    ∙ ap (λ (rs : List Reply). rs ++ replies_from m by (state_after m by (in_forks b (Refused ∷ fs)) left) (record { line = middle; what = With } ∷ (right ++ record { line = last; what = End } ∷ rest))) l.0
    ∙ ap (λ (s : State). replies_from m by s (record { line = middle; what = With } ∷ (right ++ record { line = last; what = End } ∷ rest))) l.1
    ∙ replies_append m by (in_forks b (Refused ∷ fs)) right (record { line = last; what = End } ∷ rest)
    ∙ ap (λ (rs : List Reply). rs ++ replies_from m by (state_after m by (in_forks b (Refused ∷ fs)) right) (record { line = last; what = End } ∷ rest)) r.0
    ∙ ap (λ (s : State). replies_from m by s (record { line = last; what = End } ∷ rest)) r.1 in
    let unmoved : (fs : List Opened) → state_after m by (in_forks b (Refused ∷ fs)) (left ++ record { line = middle; what = With } ∷ (right ++ record { line = last; what = End } ∷ rest)) ≡ state_after m by (in_forks b fs) rest =
    λ fs.
    let l = skips m by b [] fs left tt cl in
    let r = skips m by b [] fs right tt cr in
    state_append m by (in_forks b (Refused ∷ fs)) left (record { line = middle; what = With } ∷ (right ++ record { line = last; what = End } ∷ rest))
    ∙ ap (λ (s : State). state_after m by s (record { line = middle; what = With } ∷ (right ++ record { line = last; what = End } ∷ rest))) l.1
    ∙ state_append m by (in_forks b (Refused ∷ fs)) right (record { line = last; what = End } ∷ rest)
    ∙ ap (λ (s : State). state_after m by s (record { line = last; what = End } ∷ rest)) r.1 in
    record {
      replies = λ fs r.
          ap (λ (t : Bool). old ++ reply_before line (if t then Some (answer.Fork (fork_answer m b at)) else None) (replies_from m by (at_fork m (in_forks b fs) at) (left ++ record { line = middle; what = With } ∷ (right ++ record { line = last; what = End } ∷ rest)))) r
          ∙ ap (λ (s : State). old ++ (record { line = line; answer = answer.Fork (fork_answer m b at) } ∷ replies_from m by s (left ++ record { line = middle; what = With } ∷ (right ++ record { line = last; what = End } ∷ rest)))) (opened fs r)
          ∙ ap (λ (rs : List Reply). old ++ (record { line = line; answer = answer.Fork (fork_answer m b at) } ∷ rs)) (silent fs)
          ∙ sym (append_assoc old (record { line = line; answer = answer.Fork (fork_answer m b at) } ∷ []) (replies_from m by (in_forks b fs) rest))
          ∙ ap (λ (rs : List Reply). rs ++ replies_from m by (in_forks b fs) rest) (sym put);
      state = λ fs r. ap (λ (s : State). state_after m by s (left ++ record { line = middle; what = With } ∷ (right ++ record { line = last; what = End } ∷ rest))) (opened fs r) ∙ unmoved fs;
    }

both_none : (r : Bool) → (if r then None else (let o : Option Answer = None in o)) ≡ None
both_none true = refl
both_none false = refl

-- `with` and `end` have no reply
pub no_reply_with : (m : Machine) (by : Decided) (s : State) (line : ℕ) (rest : List Command) →
    replies_from m by s (record { line = line; what = With } ∷ rest) ≡ replies_from m by (at_with s.book s.forks) rest
no_reply_with m by s line rest = ap (λ (o : Option Answer). reply_before line o (replies_from m by (at_with s.book s.forks) rest)) (both_none (is_running s.forks))

pub no_reply_end : (m : Machine) (by : Decided) (s : State) (line : ℕ) (rest : List Command) →
    replies_from m by s (record { line = line; what = End } ∷ rest) ≡ replies_from m by (at_end s.book s.forks) rest
no_reply_end m by s line rest = ap (λ (o : Option Answer). reply_before line o (replies_from m by (at_end s.book s.forks) rest)) (both_none (is_running s.forks))

-- A fork that is admitted: its branches in turn.
pub goes_through : (m : Machine) (by : Decided) (b bl br : Book) (line at middle last : ℕ) (left right rest : List Command) (old one two new : List Reply) →
    cut_refusal m.layout b at ≡ None →
    one ≡ old ++ record { line = line; answer = answer.Fork (fork_answer m b at) } ∷ [] →
    Goes m by (spanning b b.first (page_under m.layout at)) bl left [] one two →
    Goes m by (spanning bl (page_under m.layout at) (span_end b)) br right [] two new →
    Goes m by b (spanning br b.first (span_end b)) (fork_lines line at middle last left right rest) rest old new
goes_through m by b bl br line at middle last left right rest old one two new admitted put gl gr =
    let inner : (fs : List Opened) → List Opened = λ fs. Cut b.first (page_under m.layout at) (span_end b) ∷ fs in
    let opened : (fs : List Opened) → is_running fs ≡ true → at_fork m (in_forks b fs) at ≡ in_forks (spanning b b.first (page_under m.layout at)) (Cut b.first (page_under m.layout at) (span_end b) ∷ fs) =
    λ fs r. ap (λ (t : Bool). if t && is_none (cut_refusal m.layout b at) then in_forks (spanning b b.first (page_under m.layout at)) (Cut b.first (page_under m.layout at) (span_end b) ∷ fs) else in_forks b (Refused ∷ fs)) r
    ∙ ap (λ (o : Option CutRefusal). if is_none o then in_forks (spanning b b.first (page_under m.layout at)) (Cut b.first (page_under m.layout at) (span_end b) ∷ fs) else in_forks b (Refused ∷ fs)) admitted in
    let out : (fs : List Opened) → is_running fs ≡ true → one ++ replies_from m by (in_forks (spanning b b.first (page_under m.layout at)) (Cut b.first (page_under m.layout at) (span_end b) ∷ fs)) (left ++ record { line = middle; what = With } ∷ (right ++ record { line = last; what = End } ∷ rest))
    ≡ new ++ replies_from m by (in_forks (spanning br b.first (span_end b)) fs) rest =
    λ fs r.
    let a : List Reply = replies_from m by (in_forks (spanning b b.first (page_under m.layout at)) (Cut b.first (page_under m.layout at) (span_end b) ∷ fs)) left in
    let left_replies = gl.replies (Cut b.first (page_under m.layout at) (span_end b) ∷ fs) r in
    let left_state = gl.state (Cut b.first (page_under m.layout at) (span_end b) ∷ fs) r in
    let right_replies = gr.replies (Cut b.first (page_under m.layout at) (span_end b) ∷ fs) r in
    let right_state = gr.state (Cut b.first (page_under m.layout at) (span_end b) ∷ fs) r in
    ap (λ (rs : List Reply). one ++ rs) (replies_append m by (in_forks (spanning b b.first (page_under m.layout at)) (Cut b.first (page_under m.layout at) (span_end b) ∷ fs)) left (record { line = middle; what = With } ∷ (right ++ record { line = last; what = End } ∷ rest)))
    ∙ sym (append_assoc one (replies_from m by (in_forks (spanning b b.first (page_under m.layout at)) (Cut b.first (page_under m.layout at) (span_end b) ∷ fs)) left) _)
    ∙ ap (λ (s : State). (one ++ replies_from m by (in_forks (spanning b b.first (page_under m.layout at)) (Cut b.first (page_under m.layout at) (span_end b) ∷ fs)) left) ++ replies_from m by s (record { line = middle; what = With } ∷ (right ++ record { line = last; what = End } ∷ rest))) left_state
    ∙ ap (λ (rs : List Reply). (one ++ replies_from m by (in_forks (spanning b b.first (page_under m.layout at)) (Cut b.first (page_under m.layout at) (span_end b) ∷ fs)) left) ++ rs)
    (no_reply_with m by (in_forks bl (Cut b.first (page_under m.layout at) (span_end b) ∷ fs)) middle (right ++ record { line = last; what = End } ∷ rest))
    ∙ ap (λ (rs : List Reply). rs ++ replies_from m by (in_forks (spanning bl (page_under m.layout at) (span_end b)) (Cut b.first (page_under m.layout at) (span_end b) ∷ fs)) (right ++ record { line = last; what = End } ∷ rest)) (left_replies ∙ append-nil two)
    ∙ ap (λ (rs : List Reply). two ++ rs) (replies_append m by (in_forks (spanning bl (page_under m.layout at) (span_end b)) (Cut b.first (page_under m.layout at) (span_end b) ∷ fs)) right (record { line = last; what = End } ∷ rest))
    ∙ sym (append_assoc two (replies_from m by (in_forks (spanning bl (page_under m.layout at) (span_end b)) (Cut b.first (page_under m.layout at) (span_end b) ∷ fs)) right) _)
    ∙ ap (λ (s : State). (two ++ replies_from m by (in_forks (spanning bl (page_under m.layout at) (span_end b)) (Cut b.first (page_under m.layout at) (span_end b) ∷ fs)) right) ++ replies_from m by s (record { line = last; what = End } ∷ rest)) right_state
    ∙ ap (λ (rs : List Reply). (two ++ replies_from m by (in_forks (spanning bl (page_under m.layout at) (span_end b)) (Cut b.first (page_under m.layout at) (span_end b) ∷ fs)) right) ++ rs)
    (no_reply_end m by (in_forks br (Cut b.first (page_under m.layout at) (span_end b) ∷ fs)) last rest)
    ∙ ap (λ (rs : List Reply). rs ++ replies_from m by (in_forks (spanning br b.first (span_end b)) fs) rest) (right_replies ∙ append-nil new) in
    let at_last : (fs : List Opened) → is_running fs ≡ true → state_after m by (in_forks (spanning b b.first (page_under m.layout at)) (Cut b.first (page_under m.layout at) (span_end b) ∷ fs)) (left ++ record { line = middle; what = With } ∷ (right ++ record { line = last; what = End } ∷ rest))
    ≡ state_after m by (in_forks (spanning br b.first (span_end b)) fs) rest =
    λ fs r.
    state_append m by (in_forks (spanning b b.first (page_under m.layout at)) (Cut b.first (page_under m.layout at) (span_end b) ∷ fs)) left (record { line = middle; what = With } ∷ (right ++ record { line = last; what = End } ∷ rest))
    ∙ ap (λ (s : State). state_after m by s (record { line = middle; what = With } ∷ (right ++ record { line = last; what = End } ∷ rest))) (gl.state (Cut b.first (page_under m.layout at) (span_end b) ∷ fs) r)
    ∙ state_append m by (in_forks (spanning bl (page_under m.layout at) (span_end b)) (Cut b.first (page_under m.layout at) (span_end b) ∷ fs)) right (record { line = last; what = End } ∷ rest)
    ∙ ap (λ (s : State). state_after m by s (record { line = last; what = End } ∷ rest)) (gr.state (Cut b.first (page_under m.layout at) (span_end b) ∷ fs) r) in
    record {
      replies = λ fs r.
          ap (λ (t : Bool). old ++ reply_before line (if t then Some (answer.Fork (fork_answer m b at)) else None) (replies_from m by (at_fork m (in_forks b fs) at) (left ++ record { line = middle; what = With } ∷ (right ++ record { line = last; what = End } ∷ rest)))) r
          ∙ ap (λ (s : State). old ++ (record { line = line; answer = answer.Fork (fork_answer m b at) } ∷ replies_from m by s (left ++ record { line = middle; what = With } ∷ (right ++ record { line = last; what = End } ∷ rest)))) (opened fs r)
          ∙ sym (append_assoc old (record { line = line; answer = answer.Fork (fork_answer m b at) } ∷ []) _)
          ∙ ap (λ (rs : List Reply). rs ++ replies_from m by (in_forks (spanning b b.first (page_under m.layout at)) (Cut b.first (page_under m.layout at) (span_end b) ∷ fs)) (left ++ record { line = middle; what = With } ∷ (right ++ record { line = last; what = End } ∷ rest))) (sym put)
          ∙ out fs r;
      state = λ fs r. ap (λ (s : State). state_after m by s (left ++ record { line = middle; what = With } ∷ (right ++ record { line = last; what = End } ∷ rest))) (opened fs r) ∙ at_last fs r;
    }
