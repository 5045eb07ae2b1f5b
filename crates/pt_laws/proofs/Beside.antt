-- Runs beside each other: two runs in turn by sets of lines of their own, and a fork whose branches ran on two parts.
use Rattle.std.proofs.Common.{◌≡◌, ℕ, List, [], ◌∷◌, ◌++◌, Bool, true, refl, ap, sym, ◌∙◌, append_assoc, Some, None}
use Rattle.std.specs.Prelude.{IsTrue, if◌then◌else◌}
use Rattle.std.proofs.lemmas.List.{append-nil}
use Rattle.pt_model.specs.declared.command.What.TheVariants.{With, End}
use Rattle.pt_model.specs.declared.command.Command.{Command}
use Rattle.pt_model.specs.Layout.{is_size}
use Rattle.pt_model.specs.Pages.{page_under}
use Rattle.pt_model.specs.Book.{Book, IsLawful, span_end}
use Rattle.pt_model.specs.Run.{Machine, Opened, State, Decided, ByLines, is_running, fork_answer, reply_before, replies_from, state_after}
use Rattle.pt_model.specs.declared.reply.Answer.TheVariants as answer
use Rattle.pt_model.specs.declared.reply.Reply.{Reply}
use Rattle.pt_model.specs.Cuts.{cut_refusal, part_of, joined}
use Rattle.pt_laws.specs.Apart.{AreClosed}
use Rattle.pt_laws.specs.Laws.{left_part, right_part, in_left, left_done, in_right, right_done, ComeTogether, DecidesByLines}
use Rattle.pt_laws.specs.Goes.{in_forks, Goes}
use Rattle.pt_laws.specs.Need.{fork_lines}
use Rattle.pt_laws.proofs.ForkRuns.{replies_append, state_append, no_reply_with, no_reply_end}
use Rattle.pt_laws.proofs.Halves.{branches_come_together}
use Rattle.pt_laws.specs.Lines.{LinesFrom}
use Rattle.pt_laws.proofs.Lines.{AgreeOn, runs_alike, split_at, LinesBelow, agrees_below, agrees_from}

-- a run is one by each set that agrees on its lines
pub by_others : (m : Machine) (a l : ℕ → Bool) (b b' : Book) (cs : List Command) (old new : List Reply) → AgreeOn a l cs →
    Goes m (ByLines a) b b' cs [] old new → Goes m (ByLines l) b b' cs [] old new
by_others m a l b b' cs old new agree g = record {
  replies = λ fs r. ap (λ (rs : List Reply). old ++ rs) (sym (runs_alike m a l cs (in_forks b fs) agree).replies) ∙ g.replies fs r;
  state = λ fs r. sym (runs_alike m a l cs (in_forks b fs) agree).state ∙ g.state fs r;
}

-- one run after another
pub one_then_other : (m : Machine) (by : Decided) (b b1 b2 : Book) (xs ys : List Command) (old mid new : List Reply) →
    Goes m by b b1 xs [] old mid → Goes m by b1 b2 ys [] mid new → Goes m by b b2 (xs ++ ys) [] old new
one_then_other m by b b1 b2 xs ys old mid new g h = record {
  replies = λ fs r.
      ap (λ (rs : List Reply). old ++ rs) (replies_append m by (in_forks b fs) xs ys
      ∙ ap (λ (s : State). replies_from m by (in_forks b fs) xs ++ replies_from m by s ys) (g.state fs r))
      ∙ sym (append_assoc old (replies_from m by (in_forks b fs) xs) (replies_from m by (in_forks b1 fs) ys))
      ∙ ap (λ (rs : List Reply). rs ++ replies_from m by (in_forks b1 fs) ys) (g.replies fs r ∙ append-nil mid) ∙ h.replies fs r;
  state = λ fs r. state_append m by (in_forks b fs) xs ys ∙ ap (λ (s : State). state_after m by s ys) (g.state fs r) ∙ h.state fs r;
}

-- two runs in turn, each by a set of its own, where a line stands between them
pub in_turn : (m : Machine) (a c : ℕ → Bool) (line : ℕ) (b b1 b2 : Book) (xs ys : List Command) (old mid new : List Reply) → LinesBelow line xs → LinesFrom line ys →
    Goes m (ByLines a) b b1 xs [] old mid → Goes m (ByLines c) b1 b2 ys [] mid new → Goes m (ByLines (split_at line a c)) b b2 (xs ++ ys) [] old new
in_turn m a c line b b1 b2 xs ys old mid new below from g h =
    one_then_other m (ByLines (split_at line a c)) b b1 b2 xs ys old mid new
    (by_others m a (split_at line a c) b b1 xs old mid (agrees_below line a c xs below) g)
    (by_others m c (split_at line a c) b1 b2 ys mid new (agrees_from line a c ys from) h)

-- a fork whose branches ran on two parts, in whatever order
pub beside : (m : Machine) (by : Decided) (l : ℕ → Bool) (b bl br : Book) (line at middle last : ℕ) (left right : List Command) (old one two : List Reply) →
    DecidesByLines by l → IsTrue (is_size m.layout 0) → IsLawful m.layout m.levels b → cut_refusal m.layout b at ≡ None → AreClosed 0 left → AreClosed 0 right →
    Goes m (ByLines l) (part_of m.layout b b.first (page_under m.layout at)) bl left [] [] one →
    Goes m (ByLines l) (part_of m.layout b (page_under m.layout at) (span_end b)) br right [] [] two →
    Goes m by b (joined bl br) (fork_lines line at middle last left right []) [] old (old ++ (record { line = line; answer = answer.Fork (fork_answer m b at) } ∷ (one ++ two)))
beside m by l b bl br line at middle last left right old one two decides page good admitted cl cr gl gr =
    let come : (fs : List Opened) → is_running fs ≡ true → ComeTogether m by l b fs at left right =
    λ fs r. branches_come_together m by l b fs at left right decides page good r admitted cl cr in
    let first : replies_from m (ByLines l) (left_part m b at) left ≡ one = gl.replies [] refl ∙ append-nil one in
    let second : replies_from m (ByLines l) (right_part m b at) right ≡ two = gr.replies [] refl ∙ append-nil two in
    let left_book : (state_after m (ByLines l) (left_part m b at) left).book ≡ bl = ap (λ (s : State). s.book) (gl.state [] refl) in
    let right_book : (state_after m (ByLines l) (right_part m b at) right).book ≡ br = ap (λ (s : State). s.book) (gr.state [] refl) in
    let inner : (fs : List Opened) → is_running fs ≡ true → replies_from m by (in_left m b fs at) (left ++ (record { line = middle; what = With } ∷ (right ++ (record { line = last; what = End } ∷ [])))) ≡ one ++ two =
    λ fs r.
    replies_append m by (in_left m b fs at) left (record { line = middle; what = With } ∷ (right ++ (record { line = last; what = End } ∷ [])))
    ∙ ap (λ (rs : List Reply). rs ++ replies_from m by (left_done m by b fs at left) (record { line = middle; what = With } ∷ (right ++ (record { line = last; what = End } ∷ [])))) ((come fs r).left_replies ∙ first)
    ∙ ap (λ (rs : List Reply). one ++ rs) (no_reply_with m by (left_done m by b fs at left) middle (right ++ (record { line = last; what = End } ∷ []))
    ∙ replies_append m by (in_right m by b fs at left) right (record { line = last; what = End } ∷ [])
    ∙ ap (λ (rs : List Reply). rs ++ replies_from m by (right_done m by b fs at left right) (record { line = last; what = End } ∷ [])) ((come fs r).right_replies ∙ second)
    ∙ ap (λ (rs : List Reply). two ++ rs) (no_reply_end m by (right_done m by b fs at left right) last []) ∙ append-nil two) in
    record {
      replies = λ fs r.
          ap (λ (t : Bool). old ++ reply_before line (if t then Some (answer.Fork (fork_answer m b at)) else None) (replies_from m by (in_left m b fs at) (left ++ (record { line = middle; what = With } ∷ (right ++ (record { line = last; what = End } ∷ [])))))) r
          ∙ ap (λ (rs : List Reply). old ++ (record { line = line; answer = answer.Fork (fork_answer m b at) } ∷ rs)) (inner fs r)
          ∙ sym (append-nil (old ++ (record { line = line; answer = answer.Fork (fork_answer m b at) } ∷ (one ++ two))));
      state = λ fs r.
          state_append m by (in_left m b fs at) left (record { line = middle; what = With } ∷ (right ++ (record { line = last; what = End } ∷ [])))
          ∙ state_append m by (in_right m by b fs at left) right (record { line = last; what = End } ∷ [])
          ∙ (come fs r).book
          ∙ ap (λ (x : Book). in_forks (joined x (state_after m (ByLines l) (right_part m b at) right).book) fs) left_book
          ∙ ap (λ (x : Book). in_forks (joined bl x) fs) right_book;
    }
