-- Sets of lines that agree on the lines of commands decide the same; two sets become one at a line between.
use Rattle.std.proofs.Common.{◌≡◌, ℕ, ◌<◌, List, [], ◌∷◌, Bool, refl, ap, sym, ◌∙◌, None}
use Rattle.std.specs.Prelude.{nat_lt, if◌then◌else◌}
use Rattle.std.proofs.lemmas.Bool.{lt-ltb, le-ltb}
use Rattle.pt_model.specs.declared.command.What.{What}
use Rattle.pt_model.specs.declared.command.What.TheVariants.{Map, Unmap, Lookup, Dump, Release, Fork, With, End}
use Rattle.pt_model.specs.declared.command.Command.{Command}
use Rattle.pt_model.specs.Run.{Machine, State, ByLines, is_lacking, is_running, answer_to, answer_of, book_after, behind_what, behind, reply_before, replies_from, state_after}
use Rattle.pt_model.specs.declared.reply.Reply.{Reply}
use Rattle.pt_laws.specs.Lines.{LinesFrom}

abbrev pub AgreeOn : (a b : ℕ → Bool) → List Command → Type 0
AgreeOn a b [] = Unit {0}
AgreeOn a b (c ∷ cs) = (a c.line ≡ b c.line) × AgreeOn a b cs

lacks_alike : (m : Machine) (a b : ℕ → Bool) (s : State) (line : ℕ) (what : What) → a line ≡ b line → is_lacking m (ByLines a) s line what ≡ is_lacking m (ByLines b) s line what
lacks_alike m a b s line (Map va pa len prot) e = e
lacks_alike m a b s line (Unmap va len) e = refl
lacks_alike m a b s line (Lookup va) e = refl
lacks_alike m a b s line Dump e = refl
lacks_alike m a b s line Release e = refl
lacks_alike m a b s line (Fork at) e = refl
lacks_alike m a b s line With e = refl
lacks_alike m a b s line End e = refl

behind_alike : (m : Machine) (a b : ℕ → Bool) (s : State) (line : ℕ) (what : What) → a line ≡ b line → behind_what m (ByLines a) s line what ≡ behind_what m (ByLines b) s line what
behind_alike m a b s line (Map va pa len prot) e = ap (λ (l : Bool). if is_running s.forks then record s { book = book_after m s.book l (Map va pa len prot) } else s) e
behind_alike m a b s line (Unmap va len) e = refl
behind_alike m a b s line (Lookup va) e = refl
behind_alike m a b s line Dump e = refl
behind_alike m a b s line Release e = refl
behind_alike m a b s line (Fork at) e = refl
behind_alike m a b s line With e = refl
behind_alike m a b s line End e = refl

-- replies and state are the same by sets that agree on the lines
pub record RunsAlike (m : Machine) (a b : ℕ → Bool) (s : State) (cs : List Command) : Type 0 where
  pub replies : replies_from m (ByLines a) s cs ≡ replies_from m (ByLines b) s cs
  pub state : state_after m (ByLines a) s cs ≡ state_after m (ByLines b) s cs

pub runs_alike : (m : Machine) (a b : ℕ → Bool) (cs : List Command) (s : State) → AgreeOn a b cs → RunsAlike m a b s cs
runs_alike m a b [] s h = record { replies = refl; state = refl }
runs_alike m a b (c ∷ cs) s h =
    let next = behind_alike m a b s c.line c.what h.0 in
    let later : RunsAlike m a b (behind m (ByLines b) s c) cs = runs_alike m a b cs (behind m (ByLines b) s c) h.1 in
    record {
      replies = ap (λ (l : Bool). reply_before c.line (if is_running s.forks then answer_to m s.book l c.what else None) (replies_from m (ByLines a) (behind m (ByLines a) s c) cs)) (lacks_alike m a b s c.line c.what h.0)
          ∙ ap (λ (t : State). reply_before c.line (answer_of m (ByLines b) s c) (replies_from m (ByLines a) t cs)) next
          ∙ ap (λ (rs : List Reply). reply_before c.line (answer_of m (ByLines b) s c) rs) later.replies;
      state = ap (λ (t : State). state_after m (ByLines a) t cs) next ∙ later.state;
    }

-- one set of two: the first below a line, the second from it on
abbrev pub split_at : (line : ℕ) (a b : ℕ → Bool) → ℕ → Bool
split_at line a b n = if nat_lt n line then a n else b n

abbrev pub LinesBelow : ℕ → List Command → Type 0
LinesBelow line [] = Unit {0}
LinesBelow line (c ∷ cs) = (c.line < line) × LinesBelow line cs

pub agrees_below : (line : ℕ) (a b : ℕ → Bool) (cs : List Command) → LinesBelow line cs → AgreeOn a (split_at line a b) cs
agrees_below line a b [] h = tt
agrees_below line a b (c ∷ cs) h =
    (sym (ap (λ (t : Bool). if t then a c.line else b c.line) (lt-ltb c.line line h.0)), agrees_below line a b cs h.1)

pub agrees_from : (line : ℕ) (a b : ℕ → Bool) (cs : List Command) → LinesFrom line cs → AgreeOn b (split_at line a b) cs
agrees_from line a b [] h = tt
agrees_from line a b (c ∷ cs) h =
    (sym (ap (λ (t : Bool). if t then a c.line else b c.line) (le-ltb c.line line h.0)), agrees_from line a b cs h.1)
