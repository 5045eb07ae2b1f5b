-- The lines that lack frames inside forks, by the places of their commands and by what is printed.
use Rattle.std.proofs.Common.{◌≡◌, ℕ, zero, suc, ◌+◌, ◌≤◌, ◌<◌, List, [], ◌∷◌, ◌++◌, Bool, true, false, Option, Some, None, inl, inr, length, refl, ap, sym, subst, ◌∙◌, arith, append_assoc}
use Rattle.std.specs.Prelude.{◌&&◌, ◌||◌, ◌==◌, is_none, if◌then◌else◌}
use Rattle.std.proofs.lemmas.Bool.{and_left, and_parts, eqb-true, false≢true, ne_eqb, or_cases, or_from, or_left, or_right}
use Rattle.pt_model.specs.declared.command.What.{What}
use Rattle.pt_model.specs.declared.command.What.TheVariants.{Map, Unmap, Lookup, Dump, Release, Fork, With, End}
use Rattle.pt_model.specs.declared.command.Command.{Command}
use Rattle.pt_model.specs.declared.reply.MapAnswer.{MapAnswer}
use Rattle.pt_model.specs.declared.reply.MapAnswer.TheVariants as mapping
use Rattle.pt_model.specs.declared.reply.Answer.{Answer}
use Rattle.pt_model.specs.declared.reply.Answer.TheVariants as answer
use Rattle.pt_model.specs.declared.reply.Reply.{Reply}
use Rattle.pt_model.specs.Book as book
use Rattle.pt_model.specs.Book.{Book, MapRefusal, map_refusal, span_end}
use Rattle.pt_model.specs.Cuts.{cut_refusal, spanning}
use Rattle.pt_model.specs.Pages.{page_under}
use Rattle.pt_model.specs.Run.{Machine, Opened, Refused, Cut, State, Decided, InForks, answer_of, at_end, at_fork, at_start, at_with, behind, behind_what, book_after, is_frames, is_in_fork, is_lacking, is_running, lacked_lines, lacks, lacks_frames, map_answer, refused_answer, replies_from, reply_before, state_after}
use Rattle.pt_laws.specs.Apart.{AreClosed, depth_behind, may_stand}
use Rattle.pt_laws.specs.Covers.{LackOnly, Stand, Wants}
use Rattle.pt_laws.specs.Lines.{CommandsRise, LinesFrom}
use Rattle.pt_laws.specs.Need.{fork_lines}
use Rattle.pt_laws.specs.OneText
use Rattle.pt_laws.specs.OneText.{IsNested, RunsWhole}
use Rattle.pt_laws.proofs.ForkRuns.{state_append}
use Rattle.pt_laws.proofs.Purses.{fork_whole, lack_append, lack_map}
use Rattle.pt_laws.proofs.Whole.{nested_closed, nested_ends}
use Rattle.pt_run.specs.Shared.{AreForksLines, IsForksLine}

-- Commands that close no fork from before them leave it open.

some_open : (fs : List Opened) → 0 < length fs → is_in_fork fs ≡ true
some_open [] h = absurd (omega arith)
some_open (o ∷ fs) h = refl

kept : (s : State) (b : Book) (r : Bool) → (if r then record s { book = b } else s).forks ≡ s.forks
kept s b true = refl
kept s b false = refl

one_more : (x y : State) (fs : List Opened) (o p : Opened) (t : Bool) → x.forks ≡ o ∷ fs → y.forks ≡ p ∷ fs → length (if t then x else y).forks ≡ suc (length fs)
one_more x y fs o p true e h = ap length e
one_more x y fs o p false e h = ap length h

fork_opens : (m : Machine) (s : State) (at : ℕ) → length (at_fork m s at).forks ≡ suc (length s.forks)
fork_opens m s at =
    one_more (record {
      book = spanning s.book s.book.first (page_under m.layout at);
      forks = Cut s.book.first (page_under m.layout at) (span_end s.book) ∷ s.forks;
    }) (record s { forks = Refused ∷ s.forks }) s.forks (Cut s.book.first (page_under m.layout at) (span_end s.book)) Refused
    (is_running s.forks && is_none (cut_refusal m.layout s.book at)) refl refl

with_keeps : (b : Book) (fs : List Opened) → (at_with b fs).forks ≡ fs
with_keeps b [] = refl
with_keeps b (Refused ∷ fs) = refl
with_keeps b (Cut first at last ∷ fs) = refl

one_less : (b : Book) (fs : List Opened) → length fs ≤ suc (length (at_end b fs).forks)
one_less b [] = omega arith
one_less b (Refused ∷ fs) = omega arith
one_less b (Cut first at last ∷ fs) = omega arith

module _ (m : Machine) (by : Decided) where
  deep : (line : ℕ) (what : What) (s : State) (depth : ℕ) → depth < length s.forks → may_stand what depth ≡ true →
      depth_behind what depth < length (behind_what m by s line what).forks
  deep line (Map va pa len prot) s depth less h =
      let e = ap length (kept s (book_after m s.book (is_lacking m by s line (Map va pa len prot)) (Map va pa len prot)) (is_running s.forks)) in omega arith
  deep line (Unmap va len) s depth less h = let e = ap length (kept s (book_after m s.book (is_lacking m by s line (Unmap va len)) (Unmap va len)) (is_running s.forks)) in omega arith
  deep line (Lookup va) s depth less h = let e = ap length (kept s s.book (is_running s.forks)) in omega arith
  deep line Dump s depth less h = let e = ap length (kept s s.book (is_running s.forks)) in omega arith
  deep line Release s depth less h = let e = ap length (kept s s.book (is_running s.forks)) in omega arith
  deep line (Fork at) s depth less h =
      let e = fork_opens m s at in omega arith
  deep line With s depth less h = let e = ap length (with_keeps s.book s.forks) in omega arith
  deep line End s zero less h = absurd (false≢true h)
  deep line End s (suc depth) less h = let e = one_less s.book s.forks in omega arith

  open_behind : (upto rest : List Command) (s : State) (depth : ℕ) → depth < length s.forks → AreClosed depth (upto ++ rest) →
      is_in_fork (state_after m by s upto).forks ≡ true
  open_behind [] rest s depth less h = some_open s.forks (omega arith)
  open_behind (c ∷ upto) rest s depth less h =
      open_behind upto rest (behind m by s c) (depth_behind c.what depth) (deep c.line c.what s depth less h.0) h.1

  open_in : (part upto past : List Command) (here : Command) (s : State) → IsNested part → part ≡ upto ++ here ∷ past → 0 < length s.forks →
      is_in_fork (state_after m by s upto).forks ≡ true
  open_in part upto past here s nested e some =
      open_behind upto (here ∷ past) s 0 some (subst (λ (cs : List Command). AreClosed 0 cs) e (nested_closed part nested))

-- A line of commands that stands in an open fork.
record IsInside (m : Machine) (by : Decided) (start : State) (cs : List Command) (line : ℕ) : Type 0 where
  pub before : List Command
  pub here : Command
  pub rest : List Command
  pub whole : cs ≡ before ++ here ∷ rest
  pub line_is : here.line ≡ line
  pub inside : is_in_fork (state_after m by start before).forks ≡ true

module _ (m : Machine) (by : Decided) where
  later : (part cs : List Command) (s s' : State) (line : ℕ) → state_after m by s part ≡ s' → IsInside m by s' cs line → IsInside m by s (part ++ cs) line
  later part cs s s' line e i = record {
    before = part ++ i.before;
    here = i.here;
    rest = i.rest;
    whole = ap (λ (xs : List Command). part ++ xs) i.whole ∙ sym (append_assoc part i.before (i.here ∷ i.rest));
    line_is = i.line_is;
    inside = ap (λ (t : State). is_in_fork t.forks) (state_append m by s part i.before ∙ ap (λ (t : State). state_after m by t i.before) e) ∙ i.inside;
  }

  opens : (s : State) (line at : ℕ) → 0 < length (behind_what m by s line (Fork at)).forks
  opens s line at = let e = fork_opens m s at in omega arith

  module _ (line at middle last : ℕ) (left right cs : List Command) (s : State) (nl : IsNested left) (nr : IsNested right) where
    abbrev opened : State
    opened = behind_what m by s line (Fork at)

    in_left : (n start : ℕ) → Wants m start left n → IsInside m by s (fork_lines line at middle last left right cs) n
    in_left n start w = record {
      before = record { line = line; what = Fork at } ∷ w.upto;
      here = w.here;
      rest = w.past ++ (record { line = middle; what = With } ∷ (right ++ (record { line = last; what = End } ∷ cs)));
      whole = ap (λ (xs : List Command). record { line = line; what = Fork at } ∷ xs)
          (ap (λ (xs : List Command). xs ++ (record { line = middle; what = With } ∷ (right ++ (record { line = last; what = End } ∷ cs)))) w.whole
          ∙ append_assoc w.upto (w.here ∷ w.past) (record { line = middle; what = With } ∷ (right ++ (record { line = last; what = End } ∷ cs))));
      line_is = w.line_is;
      inside = open_in m by left w.upto w.past w.here opened nl w.whole (opens s line at);
    }

    -- behind `with` the fork is still open
    abbrev turned : State
    turned = behind_what m by (state_after m by opened left) middle With

    still : 0 < length turned.forks
    still =
        let e = with_keeps (state_after m by opened left).book (state_after m by opened left).forks ∙ nested_ends m by left nl opened in
        subst (λ (fs : List Opened). 0 < length fs) (sym e) (opens s line at)

    in_right : (n start : ℕ) → Wants m start right n → IsInside m by s (fork_lines line at middle last left right cs) n
    in_right n start w = record {
      before = record { line = line; what = Fork at } ∷ (left ++ (record { line = middle; what = With } ∷ w.upto));
      here = w.here;
      rest = w.past ++ (record { line = last; what = End } ∷ cs);
      whole = ap (λ (xs : List Command). record { line = line; what = Fork at } ∷ xs)
          (ap (λ (xs : List Command). left ++ (record { line = middle; what = With } ∷ xs))
          (ap (λ (xs : List Command). xs ++ (record { line = last; what = End } ∷ cs)) w.whole ∙ append_assoc w.upto (w.here ∷ w.past) (record { line = last; what = End } ∷ cs))
          ∙ sym (append_assoc left (record { line = middle; what = With } ∷ w.upto) (w.here ∷ (w.past ++ (record { line = last; what = End } ∷ cs)))));
      line_is = w.line_is;
      inside = ap (λ (t : State). is_in_fork t.forks) (state_append m by opened left (record { line = middle; what = With } ∷ w.upto))
          ∙ open_in m by right w.upto w.past w.here turned nr w.whole still;
    }

  -- each reply inside forks that is `map frames` is to such a line
  places : (cs : List Command) (s s' : Stand) (all inside : List Reply) → RunsWhole m by cs s s' all inside → LackOnly (IsInside m by (at_start s.book) cs) inside
  places _ _ _ _ _ (OneText.nothing s) = tt
  places _ _ _ _ _ (OneText.call c cs s s' s'' r rs inside step run) =
      lack_map (IsInside m by (at_start s'.book) cs) (IsInside m by (at_start s.book) (c ∷ cs))
      (λ n i. later (c ∷ []) cs (at_start s.book) (at_start s'.book) n step i) inside (places cs s' s'' rs inside run)
  places _ _ _ _ _ (OneText.past line at middle last left right cs s s' s'' r rs inside step run) =
      lack_map (IsInside m by (at_start s'.book) cs) (IsInside m by (at_start s.book) (fork_lines line at middle last left right cs))
      (λ n i. subst (λ (xs : List Command). IsInside m by (at_start s.book) xs n) (fork_whole line at middle last left right cs)
      (later (fork_lines line at middle last left right []) cs (at_start s.book) (at_start s'.book) n step i)) inside (places cs s' s'' rs inside run)
  places _ _ _ _ _ (OneText.fork line at middle last left right cs s l t j s'' r ls ts rs inside nl nr admitted dealt one two step run) =
      let all = IsInside m by (at_start s.book) (fork_lines line at middle last left right cs) in
      lack_append all ls (ts ++ inside) (lack_map (Wants m l.purse left) all (λ n w. in_left line at middle last left right cs (at_start s.book) nl nr n l.purse w) ls one)
      (lack_append all ts inside (lack_map (Wants m t.purse right) all (λ n w. in_right line at middle last left right cs (at_start s.book) nl nr n t.purse w) ts two)
      (lack_map (IsInside m by (at_start j.book) cs) all
      (λ n i. subst (λ (xs : List Command). IsInside m by (at_start s.book) xs n) (fork_whole line at middle last left right cs)
      (later (fork_lines line at middle last left right []) cs (at_start s.book) (at_start j.book) n step i)) inside (places cs j s'' rs inside run)))

lacked_is : (IsOne : ℕ → Type 0) (rs : List Reply) (line : ℕ) → LackOnly IsOne rs → lacked_lines rs line ≡ true → IsOne line
lacked_is IsOne [] line h e = absurd (false≢true e)
lacked_is IsOne (r ∷ rs) line h e = elim (or_cases ((r.line == line) && is_frames r.answer) _ e) [
  | inl here ↦ (let p = and_parts (r.line == line) _ here in subst IsOne (eqb-true r.line line p.0) (h.0 p.1))
  | inr later ↦ lacked_is IsOne rs line h.1 later
]

-- The replies inside forks are among all.

abbrev Lacked : List Reply → ℕ → Type 0
Lacked rs line = lacked_lines rs line ≡ true

in_front : (xs ys : List Reply) (line : ℕ) → Lacked xs line → Lacked (xs ++ ys) line
in_front [] ys line e = absurd (false≢true e)
in_front (x ∷ xs) ys line e = elim (or_cases ((x.line == line) && is_frames x.answer) _ e) [
  | inl here ↦ or_left _ _ here
  | inr later ↦ or_right _ _ (in_front xs ys line later)
]

in_back : (xs ys : List Reply) (line : ℕ) → Lacked ys line → Lacked (xs ++ ys) line
in_back [] ys line e = e
in_back (x ∷ xs) ys line e = or_right _ _ (in_back xs ys line e)

-- what lacks in the second of two lists lacks in what that is among
among_more : (xs ys zs : List Reply) (line : ℕ) → (Lacked ys line → Lacked zs line) → Lacked (xs ++ ys) line → Lacked (xs ++ zs) line
among_more [] ys zs line h e = h e
among_more (x ∷ xs) ys zs line h e = elim (or_cases ((x.line == line) && is_frames x.answer) _ e) [
  | inl here ↦ or_left _ _ here
  | inr later ↦ or_right _ _ (among_more xs ys zs line h later)
]

among : (m : Machine) (by : Decided) (cs : List Command) (s s' : Stand) (all inside : List Reply) → RunsWhole m by cs s s' all inside →
    (line : ℕ) → Lacked inside line → Lacked all line
among m by _ _ _ _ _ (OneText.nothing s) line e = e
among m by _ _ _ _ _ (OneText.call c cs s s' s'' r rs inside step run) line e = or_right _ _ (among m by cs s' s'' rs inside run line e)
among m by _ _ _ _ _ (OneText.past n at middle last left right cs s s' s'' r rs inside step run) line e = or_right _ _ (among m by cs s' s'' rs inside run line e)
among m by _ _ _ _ _ (OneText.fork n at middle last left right cs s l t j s'' r ls ts rs inside nl nr admitted dealt one two step run) line e =
    or_right _ _ (among_more ls (ts ++ inside) (ts ++ rs) line (λ h. among_more ts inside rs line (λ i. among m by cs j s'' rs inside run line i) h) e)

-- What is printed at the line of a command is its answer, where lines rise.

abbrev shows_frames : Option Answer → Bool
shows_frames None = false
shows_frames (Some a) = is_frames a

before_is : (n : ℕ) (o : Option Answer) (rs : List Reply) (line : ℕ) → lacked_lines (reply_before n o rs) line ≡ ((n == line) && shows_frames o) || lacked_lines rs line
before_is n None rs line = ap (λ (t : Bool). t || lacked_lines rs line) (sym (none_of (n == line)))
  where
    none_of : (t : Bool) → (t && false) ≡ false
    none_of true = refl
    none_of false = refl
before_is n (Some a) rs line = refl

module _ (m : Machine) (by : Decided) where
  none_later : (line : ℕ) (cs : List Command) (s : State) → LinesFrom (line + 1) cs → lacked_lines (replies_from m by s cs) line ≡ false
  none_later line [] s h = refl
  none_later line (c ∷ cs) s h =
      before_is c.line (answer_of m by s c) (replies_from m by (behind m by s c) cs) line
      ∙ or_from _ _ (and_left (c.line == line) _ (ne_eqb c.line line (λ e. let x = h.0 in absurd (omega arith)))) (none_later line cs (behind m by s c) h.1)

  from_inside : (line : ℕ) (before rest : List Command) (here : Command) → LinesFrom line (before ++ here ∷ rest) → line ≤ here.line
  from_inside line [] rest here h = h.0
  from_inside line (c ∷ before) rest here h = from_inside line before rest here h.1

  own_answer : (before rest : List Command) (here : Command) (s : State) → CommandsRise (before ++ here ∷ rest) →
      Lacked (replies_from m by s (before ++ here ∷ rest)) here.line → shows_frames (answer_of m by (state_after m by s before) here) ≡ true
  own_answer [] rest here s rise e =
      elim (or_cases ((here.line == here.line) && shows_frames (answer_of m by s here)) (lacked_lines (replies_from m by (behind m by s here) rest) here.line)
      (sym (before_is here.line (answer_of m by s here) (replies_from m by (behind m by s here) rest) here.line) ∙ e)) [
        | inl own ↦ (and_parts (here.line == here.line) (shows_frames (answer_of m by s here)) own).1
        | inr other ↦ absurd (false≢true (sym (none_later here.line rest (behind m by s here) rise.0) ∙ other))
      ]
  own_answer (c ∷ before) rest here s rise e =
      elim (or_cases ((c.line == here.line) && shows_frames (answer_of m by s c)) (lacked_lines (replies_from m by (behind m by s c) (before ++ here ∷ rest)) here.line)
      (sym (before_is c.line (answer_of m by s c) (replies_from m by (behind m by s c) (before ++ here ∷ rest)) here.line) ∙ e)) [
        | inl own ↦ absurd (
            let x = from_inside (c.line + 1) before rest here rise.0 in
            let same = eqb-true c.line here.line (and_parts (c.line == here.line) (shows_frames (answer_of m by s c)) own).0 in
            omega arith)
        | inr other ↦ own_answer before rest here (behind m by s c) rise.1 other
      ]

-- A map inside a fork that is answered `map frames` is on a line of the set.

refused_no_frames : (r : MapRefusal) → is_frames (answer.Map (refused_answer r)) ≡ true → ⊥
refused_no_frames book.Misaligned e = false≢true e
refused_no_frames book.OutsideLease e = false≢true e
refused_no_frames book.OutputRange e = false≢true e
refused_no_frames (book.Occupied address) e = false≢true e

lacking_is : (lacking : Bool) → is_frames (answer.Map (if lacking then mapping.Frames else mapping.Mapped)) ≡ true → lacking ≡ true
lacking_is true e = refl
lacking_is false e = absurd (false≢true e)

map_lacking : (o : Option MapRefusal) (lacking : Bool) →
    is_frames (answer.Map (elim o as (λ _. MapAnswer) [ Some refusal ↦ refused_answer refusal | None ↦ if lacking then mapping.Frames else mapping.Mapped ])) ≡ true → lacking ≡ true
map_lacking (Some r) lacking e = absurd (refused_no_frames r e)
map_lacking None lacking e = lacking_is lacking e

if_shown : (running : Bool) (a : Answer) → shows_frames (if running then Some a else None) ≡ true → is_frames a ≡ true
if_shown true a e = e
if_shown false a e = absurd (false≢true e)

none_shown : (running : Bool) → shows_frames (if running then None else (let o : Option Answer = None in o)) ≡ true → ⊥
none_shown true e = false≢true e
none_shown false e = false≢true e

module _ (m : Machine) (lines : ℕ → Bool) where
  by_lines : (line : ℕ) (inside short : Bool) → inside ≡ true → lacks (InForks lines) inside line short ≡ true → lines line ≡ true
  by_lines line true short i e = e
  by_lines line false short i e = absurd (false≢true i)

  on_line : (line : ℕ) (what : What) (s : State) → is_in_fork s.forks ≡ true →
      shows_frames (answer_of m (InForks lines) s (record { line = line; what = what })) ≡ true → lines line ≡ true
  on_line line (Map va pa len prot) s i e =
      by_lines line (is_in_fork s.forks) (lacks_frames m s.book va pa len prot) i
      (map_lacking (map_refusal m.layout s.book va pa len) (lacks (InForks lines) (is_in_fork s.forks) line (lacks_frames m s.book va pa len prot))
      (if_shown (is_running s.forks) (answer.Map (map_answer m s.book (lacks (InForks lines) (is_in_fork s.forks) line (lacks_frames m s.book va pa len prot)) va pa len)) e))
  on_line line (Unmap va len) s i e = absurd (false≢true (if_shown (is_running s.forks) _ e))
  on_line line (Lookup va) s i e = absurd (false≢true (if_shown (is_running s.forks) _ e))
  on_line line Dump s i e = absurd (false≢true (if_shown (is_running s.forks) _ e))
  on_line line Release s i e = absurd (false≢true (if_shown (is_running s.forks) _ e))
  on_line line (Fork at) s i e = absurd (false≢true (if_shown (is_running s.forks) _ e))
  on_line line With s i e = absurd (none_shown (is_running s.forks) e)
  on_line line End s i e = absurd (none_shown (is_running s.forks) e)

  in_set : (start : State) (body : List Command) → CommandsRise body → (line : ℕ) → IsForksLine m start body lines line → lines line ≡ true
  in_set start body rise line f =
      let e = subst (λ (n : ℕ). Lacked (replies_from m (InForks lines) start body) n) (sym f.line_is) f.printed in
      let shown = own_answer m (InForks lines) f.before f.rest f.here start (subst (λ (cs : List Command). CommandsRise cs) f.whole rise)
      (subst (λ (cs : List Command). Lacked (replies_from m (InForks lines) start cs) f.here.line) f.whole e) in
      subst (λ (n : ℕ). lines n ≡ true) f.line_is (on_line f.here.line f.here.what (state_after m (InForks lines) start f.before) f.inside shown)

-- the lines that a whole run lacks inside forks are those that its replies show there
pub are_forks_lines : (m : Machine) (body : List Command) (s s' : Stand) (replies inside : List Reply) → CommandsRise body →
    RunsWhole m (InForks (lacked_lines inside)) body s s' replies inside →
    replies ≡ replies_from m (InForks (lacked_lines inside)) (at_start s.book) body → AreForksLines m (at_start s.book) body (lacked_lines inside)
are_forks_lines m body s s' replies inside rise run are = record {
  each = λ line e.
      let i = lacked_is (IsInside m (InForks (lacked_lines inside)) (at_start s.book) body) inside line (places m (InForks (lacked_lines inside)) body s s' replies inside run) e in
      record {
        before = i.before;
        here = i.here;
        rest = i.rest;
        whole = i.whole;
        line_is = i.line_is;
        inside = i.inside;
        printed = ap (λ (rs : List Reply). lacked_lines rs line) (sym are)
            ∙ among m (InForks (lacked_lines inside)) body s s' replies inside run line e;
      };
  all = in_set m (lacked_lines inside) (at_start s.book) body rise;
}
