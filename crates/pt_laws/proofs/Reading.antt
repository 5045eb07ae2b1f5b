-- The set of lines is read off the replies: a run is the one by the lines that it answers `map frames`.
use Rattle.std.proofs.Common.{◌≡◌, ℕ, ◌+◌, ◌/◌, ◌^◌, ◌<◌, List, [], ◌∷◌, Bool, true, false, refl, ap, sym, subst, ◌∙◌, arith, Option, Some, None}
use Rattle.std.specs.Prelude.{◌&&◌, ◌||◌, ◌==◌, if◌then◌else◌}
use Rattle.std.proofs.lemmas.Bool.{and_left, or_from, ne_eqb, eq-eqb}
use Rattle.pt_model.specs.declared.block.Prot.{Prot}
use Rattle.pt_model.specs.declared.command.What.{What}
use Rattle.pt_model.specs.declared.command.What.TheVariants.{Map, Unmap, Lookup, Dump, Release, Fork, With, End}
use Rattle.pt_model.specs.declared.command.Command.{Command}
use Rattle.pt_model.specs.declared.reply.MapAnswer.{MapAnswer}
use Rattle.pt_model.specs.declared.reply.MapAnswer.TheVariants as mapping
use Rattle.pt_model.specs.Pages.{page_under}
use Rattle.pt_model.specs.Book as book
use Rattle.pt_model.specs.Book.{Book, MapRefusal, map_refusal, mapped}
use Rattle.pt_model.specs.Run.{Machine, refused_answer, lacks_frames, after_map, State, Decided, ByAccount, InForks, ByLines, lacks, is_in_fork, is_running, is_lacking, map_answer, answer_of, book_after, behind, reply_before, replies_from, state_after, is_frames, lacked_lines}
use Rattle.pt_laws.specs.Lines.{LinesFrom, CommandsRise, Reads}
use Rattle.pt_model.specs.declared.reply.Answer.{Answer}
use Rattle.pt_model.specs.declared.reply.Answer.TheVariants as answer
use Rattle.pt_model.specs.declared.reply.Reply.{Reply}

-- where the set says of a line what decided, it decides so
abbrev pub DecidesAs : Decided → Decided → (ℕ → Bool) → Type 0
DecidesAs by by' l = (in_fork : Bool) (line : ℕ) (short : Bool) → l line ≡ lacks by in_fork line short → lacks by' in_fork line short ≡ lacks by in_fork line short

pub account_as : (l : ℕ → Bool) → DecidesAs ByAccount (InForks l) l
account_as l false line short e = refl
account_as l true line short e = e

pub forks_as : (k l : ℕ → Bool) → DecidesAs (InForks k) (InForks l) l
forks_as k l false line short e = refl
forks_as k l true line short e = e

pub lines_as : (k l : ℕ → Bool) → DecidesAs (ByLines k) (ByLines l) l
lines_as k l in_fork line short e = e

-- A map that nothing else refuses answers `map frames` where it lacks frames; another asks for none.
module _ (m : Machine) (b : Book) (va pa len : ℕ) (prot : Prot) (x y : Bool) where
  abbrev by_refusal : Bool → Option MapRefusal → MapAnswer
  by_refusal lacking o = elim o as (λ _. MapAnswer) [ Some refusal ↦ refused_answer refusal | None ↦ if lacking then mapping.Frames else mapping.Mapped ]

  shown : (l : Bool) → is_frames (answer.Map (if l then mapping.Frames else mapping.Mapped)) ≡ l
  shown true = refl
  shown false = refl

  told : (o : Option MapRefusal) → (is_frames (answer.Map (by_refusal x o)) ≡ x → y ≡ x) → by_refusal y o ≡ by_refusal x o
  told (Some book.Misaligned) h = refl
  told (Some book.OutsideLease) h = refl
  told (Some book.OutputRange) h = refl
  told (Some (book.Occupied address)) h = refl
  told None h = ap (λ (l : Bool). if l then mapping.Frames else mapping.Mapped) (h (shown x))

-- one command: its answer and its book are the same
module _ (m : Machine) (by by' : Decided) (l : ℕ → Bool) (as_by : DecidesAs by by' l) where
  map_same : (s : State) (line va pa len : ℕ) (prot : Prot) → l line ≡ is_frames (answer.Map (map_answer m s.book (is_lacking m by s line (Map va pa len prot)) va pa len)) →
      map_answer m s.book (is_lacking m by' s line (Map va pa len prot)) va pa len ≡ map_answer m s.book (is_lacking m by s line (Map va pa len prot)) va pa len
  map_same s line va pa len prot e =
      told m s.book va pa len prot (is_lacking m by s line (Map va pa len prot)) (is_lacking m by' s line (Map va pa len prot)) (map_refusal m.layout s.book va pa len)
      (λ h. as_by (is_in_fork s.forks) line (lacks_frames m s.book va pa len prot) (e ∙ h))

  record OneAlike (s : State) (c : Command) : Type 0 where
    pub answers : answer_of m by' s c ≡ answer_of m by s c
    pub leaves : behind m by' s c ≡ behind m by s c

  behind_one : (line : ℕ) (o : Option Answer) (rest : List Reply) → Reads l (reply_before line o rest) → Reads l rest
  behind_one line None rest h = h
  behind_one line (Some a) rest h = h.1

  map_alike : (s : State) (line va pa len : ℕ) (prot : Prot) (rest : List Reply) (r : Bool) → is_running s.forks ≡ r →
      Reads l (reply_before line (answer_of m by s (record { line = line; what = Map va pa len prot })) rest) → OneAlike s (record { line = line; what = Map va pa len prot }) × Reads l rest
  map_alike s line va pa len prot rest true e h =
      let read : Reads l (reply_before line (Some (answer.Map (map_answer m s.book (is_lacking m by s line (Map va pa len prot)) va pa len))) rest) =
      subst (λ (t : Bool). Reads l (reply_before line (if t then Some (answer.Map (map_answer m s.book (is_lacking m by s line (Map va pa len prot)) va pa len)) else None) rest)) e h in
      let same = map_same s line va pa len prot read.0 in (
        record {
          answers = ap (λ (a : MapAnswer). if is_running s.forks then Some (answer.Map a) else None) same;
          leaves = ap (λ (a : MapAnswer). if is_running s.forks then record s { book = after_map a (mapped m.layout m.levels s.book (page_under m.layout va) (len / 2 ^ m.layout.granule) (pa / 2 ^ m.layout.granule) prot) s.book } else s) same;
        },
        read.1,
      )
  map_alike s line va pa len prot rest false e h = (
    record {
      answers = ap (λ (t : Bool). if t then Some (answer.Map (map_answer m s.book (is_lacking m by' s line (Map va pa len prot)) va pa len)) else None) e
          ∙ sym (ap (λ (t : Bool). if t then Some (answer.Map (map_answer m s.book (is_lacking m by s line (Map va pa len prot)) va pa len)) else None) e);
      leaves = ap (λ (t : Bool). if t then record s { book = book_after m s.book (is_lacking m by' s line (Map va pa len prot)) (Map va pa len prot) } else s) e
          ∙ sym (ap (λ (t : Bool). if t then record s { book = book_after m s.book (is_lacking m by s line (Map va pa len prot)) (Map va pa len prot) } else s) e);
    },
    behind_one line _ rest h,
  )

  one_alike : (s : State) (line : ℕ) (what : What) (rest : List Reply) → Reads l (reply_before line (answer_of m by s (record { line = line; what = what })) rest) →
      OneAlike s (record { line = line; what = what }) × Reads l rest
  one_alike s line (Map va pa len prot) rest h = map_alike s line va pa len prot rest (is_running s.forks) refl h
  one_alike s line (Unmap va len) rest h = (record { answers = refl; leaves = refl }, behind_one line _ rest h)
  one_alike s line (Lookup va) rest h = (record { answers = refl; leaves = refl }, behind_one line _ rest h)
  one_alike s line Dump rest h = (record { answers = refl; leaves = refl }, behind_one line _ rest h)
  one_alike s line Release rest h = (record { answers = refl; leaves = refl }, behind_one line _ rest h)
  one_alike s line (Fork at) rest h = (record { answers = refl; leaves = refl }, behind_one line _ rest h)
  one_alike s line With rest h = (record { answers = refl; leaves = refl }, behind_one line _ rest h)
  one_alike s line End rest h = (record { answers = refl; leaves = refl }, behind_one line _ rest h)

  pub record ReadAlike (s : State) (cs : List Command) : Type 0 where
    pub replies : replies_from m by' s cs ≡ replies_from m by s cs
    pub state : state_after m by' s cs ≡ state_after m by s cs

  pub read_alike : (cs : List Command) (s : State) → Reads l (replies_from m by s cs) → ReadAlike s cs
  read_alike [] s h = record { replies = refl; state = refl }
  read_alike (c ∷ cs) s h =
      let one = one_alike s c.line c.what (replies_from m by (behind m by s c) cs) h in
      let here : OneAlike s c = one.0 in
      let later : ReadAlike (behind m by s c) cs = read_alike cs (behind m by s c) one.1 in
      record {
        replies = ap (λ (o : Option Answer). reply_before c.line o (replies_from m by' (behind m by' s c) cs)) here.answers
            ∙ ap (λ (t : State). reply_before c.line (answer_of m by s c) (replies_from m by' t cs)) here.leaves
            ∙ ap (λ (rs : List Reply). reply_before c.line (answer_of m by s c) rs) later.replies;
        state = ap (λ (t : State). state_after m by' t cs) here.leaves ∙ later.state;
      }

-- Replies whose lines rise: the set of lines that they answer `map frames` reads them.
abbrev pub LinesAfter : ℕ → List Reply → Type 0
LinesAfter line [] = Unit {0}
LinesAfter line (r ∷ rs) = (line < r.line) × LinesAfter line rs

abbrev pub RepliesRise : List Reply → Type 0
RepliesRise [] = Unit {0}
RepliesRise (r ∷ rs) = LinesAfter r.line rs × RepliesRise rs

none_before : (line : ℕ) (rs : List Reply) → LinesAfter line rs → lacked_lines rs line ≡ false
none_before line [] h = refl
none_before line (r ∷ rs) h =
    or_from _ _ (and_left (r.line == line) _ (ne_eqb r.line line (λ e. let x = h.0 in absurd (omega arith)))) (none_before line rs h.1)

reads_more : (l k : ℕ → Bool) (line : ℕ) (rs : List Reply) → LinesAfter line rs → ((n : ℕ) → line < n → k n ≡ l n) → Reads l rs → Reads k rs
reads_more l k line [] h same r = tt
reads_more l k line (x ∷ rs) h same r = (same x.line h.0 ∙ r.0, reads_more l k line rs h.1 same r.1)

or_false : (t : Bool) → (t || false) ≡ t
or_false true = refl
or_false false = refl

own_line : (r : Reply) (rs : List Reply) → LinesAfter r.line rs → lacked_lines (r ∷ rs) r.line ≡ is_frames r.answer
own_line r rs h =
    ap (λ (t : Bool). (t && is_frames r.answer) || lacked_lines rs r.line) (eq-eqb r.line r.line refl)
    ∙ ap (λ (t : Bool). is_frames r.answer || t) (none_before r.line rs h) ∙ or_false (is_frames r.answer)

pub reads_itself : (rs : List Reply) → RepliesRise rs → Reads (lacked_lines rs) rs
reads_itself [] h = tt
reads_itself (r ∷ rs) h = (
  own_line r rs h.0,
  reads_more (lacked_lines rs) (lacked_lines (r ∷ rs)) r.line rs h.0
      (λ n less. ap (λ (t : Bool). t || lacked_lines rs n) (and_left (r.line == n) (is_frames r.answer) (ne_eqb r.line n (λ e. absurd (omega arith))))) (reads_itself rs h.1),
)

-- The lines of replies rise where those of the commands do.
before_after : (n line : ℕ) (o : Option Answer) (rs : List Reply) → n < line → LinesAfter n rs → LinesAfter n (reply_before line o rs)
before_after n line None rs less h = h
before_after n line (Some a) rs less h = (less, h)

replies_after : (m : Machine) (by : Decided) (n : ℕ) (cs : List Command) (s : State) → LinesFrom (n + 1) cs → LinesAfter n (replies_from m by s cs)
replies_after m by n [] s h = tt
replies_after m by n (c ∷ cs) s h =
    before_after n c.line (answer_of m by s c) (replies_from m by (behind m by s c) cs) (let x = h.0 in omega arith) (replies_after m by n cs (behind m by s c) h.1)

before_rise : (line : ℕ) (o : Option Answer) (rs : List Reply) → LinesAfter line rs → RepliesRise rs → RepliesRise (reply_before line o rs)
before_rise line None rs h r = r
before_rise line (Some a) rs h r = (h, r)

pub replies_rise : (m : Machine) (by : Decided) (cs : List Command) (s : State) → CommandsRise cs → RepliesRise (replies_from m by s cs)
replies_rise m by [] s h = tt
replies_rise m by (c ∷ cs) s h =
    before_rise c.line (answer_of m by s c) (replies_from m by (behind m by s c) cs) (replies_after m by c.line cs (behind m by s c) h.0)
    (replies_rise m by cs (behind m by s c) h.1)

-- The run by the account is the run by the lines at which it is short, and a run by any lines is the one by those that it prints.
pub account_is_read : (m : Machine) (s : State) (cs : List Command) → CommandsRise cs →
    ReadAlike m ByAccount (InForks (lacked_lines (replies_from m ByAccount s cs))) (lacked_lines (replies_from m ByAccount s cs)) (account_as (lacked_lines (replies_from m ByAccount s cs))) s cs
account_is_read m s cs rise =
    read_alike m ByAccount _ _ (account_as (lacked_lines (replies_from m ByAccount s cs))) cs s (reads_itself (replies_from m ByAccount s cs) (replies_rise m ByAccount cs s rise))

pub lines_are_read : (m : Machine) (k : ℕ → Bool) (s : State) (cs : List Command) → CommandsRise cs →
    ReadAlike m (ByLines k) (ByLines (lacked_lines (replies_from m (ByLines k) s cs))) (lacked_lines (replies_from m (ByLines k) s cs)) (lines_as k (lacked_lines (replies_from m (ByLines k) s cs))) s cs
lines_are_read m k s cs rise =
    read_alike m (ByLines k) _ _ (lines_as k (lacked_lines (replies_from m (ByLines k) s cs))) cs s (reads_itself (replies_from m (ByLines k) s cs) (replies_rise m (ByLines k) cs s rise))
