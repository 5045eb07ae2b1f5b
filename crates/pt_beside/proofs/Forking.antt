-- What the branches of a fork come to together.
use Rattle.std.proofs.Common.{◌≡◌, ℕ, ◌+◌, ◌-◌, List, [], ◌∷◌, ◌++◌, Bool, true, false, refl, ap, subst, sym, ◌∙◌, arith, None}
use Rattle.std.specs.Prelude.{min, ◌==◌}
use Rattle.std.proofs.lemmas.Bool.{ne_eqb}
use Rattle.std.proofs.lemmas.List.{append-nil}
use Rattle.pt_model.specs.declared.command.What.TheVariants.{Fork, With, End}
use Rattle.pt_model.specs.declared.command.Command.{Command}
use Rattle.pt_model.specs.declared.reply.Answer.{Answer}
use Rattle.pt_model.specs.declared.reply.Answer.TheVariants as answer
use Rattle.pt_model.specs.declared.reply.Reply.{Reply}
use Rattle.pt_model.specs.Layout.{input_pages}
use Rattle.pt_model.specs.Pages.{page_under}
use Rattle.pt_model.specs.Book.{Book, span_end}
use Rattle.pt_model.specs.Cuts.{cut_refusal, part_of}
use Rattle.pt_model.specs.Run.{Machine, Decided, ByLines, InForks, fork_answer}
use Rattle.pt_script.specs.Numbered.{body_lines}
use Rattle.pt_laws.specs.Goes.{Goes}
use Rattle.pt_laws.specs.Laws as laws
use Rattle.pt_laws.specs.Laws.{DecidesByLines, by_lines}
use Rattle.pt_laws.specs.OneText.{RunsWhole}
use Rattle.pt_laws.specs.Need.{need, fork_lines}
use Rattle.pt_laws.specs.Lines.{Reads}
use Rattle.pt_laws.specs.Covers.{SoFar, IsDealt}
use Rattle.pt_laws.proofs.Beside.{beside}
use Rattle.pt_laws.proofs.Loop.{each_keeps}
use Rattle.pt_laws.proofs.Same.{cut_inside}
use Rattle.pt_forks.proofs.Bodies.{body_nested, closed}
use Rattle.pt_beside.specs.Places.{Place, StaysIn, IsSound, HasGathered, IsSplit, AreBeside, both, stand, is_whole}
use Rattle.pt_beside.specs.Running.{IsBodyIn, AreOf, Ran, HasForked}
use Rattle.pt_beside.proofs.Passing.{branch_ran}
use Rattle.pt_beside.proofs.Listing.{of_on, of_none, told_on, reads_left, reads_right}

-- two parts of a part, whatever their purses have
pub record AreParts (p left right : Place) (at : ℕ) : Type 0 where
  pub left_space : left.space ≡ p.space
  pub left_machine : left.machine ≡ p.machine
  pub left_book : left.book ≡ part_of p.machine.layout p.book p.book.first (page_under p.machine.layout at)
  pub right_space : right.space ≡ p.space
  pub right_machine : right.machine ≡ p.machine
  pub right_book : right.book ≡ part_of p.machine.layout p.book (page_under p.machine.layout at) (span_end p.book)

pub parts : (p g left right : Place) (at count held frames : ℕ) → HasGathered p g count held → IsSplit g at frames left right → AreParts p left right at
parts p g left right at count held frames gathers splits = record {
  left_space = ap (λ (x : Place). x.space) splits.left_is ∙ ap (λ (x : Place). x.space) gathers.is;
  left_machine = ap (λ (x : Place). x.machine) splits.left_is ∙ ap (λ (x : Place). x.machine) gathers.is;
  left_book = ap (λ (x : Place). x.book) splits.left_is
      ∙ ap (λ (x : Place). part_of x.machine.layout x.book x.book.first (page_under x.machine.layout at)) gathers.is;
  right_space = ap (λ (x : Place). x.space) splits.right_is ∙ ap (λ (x : Place). x.space) gathers.is;
  right_machine = ap (λ (x : Place). x.machine) splits.right_is ∙ ap (λ (x : Place). x.machine) gathers.is;
  right_book = ap (λ (x : Place). x.book) splits.right_is
      ∙ ap (λ (x : Place). part_of x.machine.layout x.book (page_under x.machine.layout at) (span_end x.book)) gathers.is;
}

-- Where two parts lie.
module _ (p left right : Place) (at : ℕ) (sound : IsSound p) (ok : cut_refusal p.machine.layout p.book at ≡ None) (are : AreParts p left right at) where
  pub left_inside : is_whole left ≡ false
  left_inside =
      let i = cut_inside p.machine.layout p.book at ok in
      let low = i.0 in let high = i.1 in let space = sound.lawful.in_space in
      let count : left.book.count ≡ page_under p.machine.layout at - p.book.first = ap (λ (b : Book). b.count) are.left_book in
      ap (λ (m : Machine). left.book.count == input_pages m.layout) are.left_machine
      ∙ ne_eqb left.book.count (input_pages p.machine.layout) (λ e. absurd (omega arith))

  pub right_inside : is_whole right ≡ false
  right_inside =
      let i = cut_inside p.machine.layout p.book at ok in
      let low = i.0 in let high = i.1 in let space = sound.lawful.in_space in
      let count : right.book.count ≡ span_end p.book - page_under p.machine.layout at = ap (λ (b : Book). b.count) are.right_book in
      ap (λ (m : Machine). right.book.count == input_pages m.layout) are.right_machine
      ∙ ne_eqb right.book.count (input_pages p.machine.layout) (λ e. absurd (omega arith))

  module _ (left_end right_end : Place) (left_stays : StaysIn left left_end) (right_stays : StaysIn right right_end) where
    pub ends_meet : AreBeside left_end right_end
    ends_meet =
        let i = cut_inside p.machine.layout p.book at ok in
        let low = i.0 in let high = i.1 in
        let one = left_stays.first in let two = left_stays.count in let three = right_stays.first in
        let first : left.book.first ≡ p.book.first = ap (λ (b : Book). b.first) are.left_book in
        let count : left.book.count ≡ page_under p.machine.layout at - p.book.first = ap (λ (b : Book). b.count) are.left_book in
        let turn : right.book.first ≡ page_under p.machine.layout at = ap (λ (b : Book). b.first) are.right_book in
        record {
          space = right_stays.space ∙ are.right_space ∙ sym (left_stays.space ∙ are.left_space);
          machine = right_stays.machine ∙ are.right_machine ∙ sym (left_stays.machine ∙ are.left_machine);
          meets = omega arith;
        }

    pub both_stay : (q : Place) → q ≡ both left_end right_end → StaysIn p q
    both_stay q is =
        let i = cut_inside p.machine.layout p.book at ok in
        let low = i.0 in let high = i.1 in
        let one = left_stays.first in let two = left_stays.count in let three = right_stays.count in
        let first : left.book.first ≡ p.book.first = ap (λ (b : Book). b.first) are.left_book in
        let count : left.book.count ≡ page_under p.machine.layout at - p.book.first = ap (λ (b : Book). b.count) are.left_book in
        let rest : right.book.count ≡ span_end p.book - page_under p.machine.layout at = ap (λ (b : Book). b.count) are.right_book in
        let sum : q.book.count ≡ left_end.book.count + right_end.book.count = ap (λ (x : Place). x.book.count) is in
        record {
          space = ap (λ (x : Place). x.space) is ∙ left_stays.space ∙ are.left_space;
          machine = ap (λ (x : Place). x.machine) is ∙ left_stays.machine ∙ are.left_machine;
          first = ap (λ (x : Place). x.book.first) is ∙ one ∙ first;
          count = omega arith;
        }

-- the fork's lines, where it is admitted
pub ran_forked : (IsTold : Answer → Type 0) (p q : Place) (line at middle last : ℕ) (left right : List Command) (old new : List Reply) → IsSound p →
    cut_refusal p.machine.layout p.book at ≡ None → IsTold (answer.Fork (fork_answer p.machine p.book at)) →
    IsBodyIn true left → IsBodyIn true right → (h : HasForked IsTold p q at left right old new) →
    Ran IsTold p q (fork_lines line at middle last left right [])
    (record { line = line; answer = answer.Fork (fork_answer p.machine p.book at) } ∷ (h.left_replies ++ h.right_replies))
ran_forked IsTold p q line at middle last left right old new sound ok told left_body right_body h =
    let are = parts p h.gathered h.left_part h.right_part at (need p.machine left + need p.machine right) h.held (min (need p.machine left) h.held) h.gathers h.splits in
    let fork : Reply = record { line = line; answer = answer.Fork (fork_answer p.machine p.book at) } in
    let lines_of : AreOf (left ++ (record { line = middle; what = With } ∷ (right ++ (record { line = last; what = End } ∷ [])))) (h.left_replies ++ h.right_replies) =
    of_on left (record { line = middle; what = With } ∷ (right ++ (record { line = last; what = End } ∷ []))) h.left_replies h.right_replies h.left_ran.are_of
    (AreOf.silent (record { line = middle; what = With }) (right ++ (record { line = last; what = End } ∷ [])) h.right_replies
    (subst (λ (rs : List Reply). AreOf (right ++ (record { line = last; what = End } ∷ [])) rs) (append-nil h.right_replies)
    (of_on right (record { line = last; what = End } ∷ []) h.right_replies [] h.right_ran.are_of (of_none (record { line = last; what = End } ∷ []))))) in
    let through : (by : Decided) (lines : ℕ → Bool) → DecidesByLines by lines → Reads lines (h.left_replies ++ h.right_replies) →
    Goes p.machine by p.book q.book (fork_lines line at middle last left right []) [] [] (record { line = line; answer = answer.Fork (fork_answer p.machine p.book at) } ∷ (h.left_replies ++ h.right_replies)) =
    λ by lines decides reads.
    let one : Goes p.machine (ByLines lines) h.left_part.book h.left_end.book left [] [] h.left_replies =
    subst (λ (x : Machine). Goes x (ByLines lines) h.left_part.book h.left_end.book left [] [] h.left_replies) are.left_machine
    (h.left_ran.goes lines (reads_left lines h.left_replies h.right_replies reads)) in
    let two : Goes p.machine (ByLines lines) h.right_part.book h.right_end.book right [] [] h.right_replies =
    subst (λ (x : Machine). Goes x (ByLines lines) h.right_part.book h.right_end.book right [] [] h.right_replies) are.right_machine
    (h.right_ran.goes lines (reads_right lines h.left_replies h.right_replies reads)) in
    subst (λ (b : Book). Goes p.machine by p.book b (fork_lines line at middle last left right []) [] []
    (record { line = line; answer = answer.Fork (fork_answer p.machine p.book at) } ∷ (h.left_replies ++ h.right_replies)))
    (sym (ap (λ (x : Place). x.book) h.joins))
    (beside p.machine by lines p.book h.left_end.book h.right_end.book line at middle last left right [] h.left_replies h.right_replies decides
    sound.page sound.lawful ok (closed true left_body.room left left_body.is_body) (closed true right_body.room right right_body.is_body)
    (subst (λ (b : Book). Goes p.machine (ByLines lines) b h.left_end.book left [] [] h.left_replies) are.left_book one)
    (subst (λ (b : Book). Goes p.machine (ByLines lines) b h.right_end.book right [] [] h.right_replies) are.right_book two)) in
    let gathered : h.gathered.purse ≡ h.held = ap (λ (x : Place). x.purse) h.gathers.is in
    let left_purse : h.left_part.purse ≡ min (need p.machine left) h.held = ap (λ (x : Place). x.purse) h.splits.left_is in
    let right_purse : h.right_part.purse ≡ h.gathered.purse - min (need p.machine left) h.held = ap (λ (x : Place). x.purse) h.splits.right_is in
    let dealt : IsDealt p.machine left h.held (stand h.left_part) (stand h.right_part) = record { first = left_purse; second = omega arith } in
    let one : SoFar p.machine h.left_part.purse left (stand h.left_end) h.left_replies =
    subst (λ (x : Machine). SoFar x h.left_part.purse left (stand h.left_end) h.left_replies) are.left_machine
    (branch_ran IsTold h.left_part h.left_end left h.left_replies h.left_ran (left_inside p h.left_part h.right_part at sound ok are)) in
    let two : SoFar p.machine h.right_part.purse right (stand h.right_end) h.right_replies =
    subst (λ (x : Machine). SoFar x h.right_part.purse right (stand h.right_end) h.right_replies) are.right_machine
    (branch_ran IsTold h.right_part h.right_end right h.right_replies h.right_ran (right_inside p h.left_part h.right_part at sound ok are)) in
    record {
      are_of = AreOf.answered line (Fork at) (answer.Fork (fork_answer p.machine p.book at)) _ _ lines_of;
      told = (told, told_on IsTold h.left_replies h.right_replies h.left_ran.told h.right_ran.told);
      goes = λ lines reads. through (ByLines lines) lines (by_lines lines) reads.1;
      keeps = λ part start done said so.
          (each_keeps p.machine sound.page).fork start line at middle last h.gathers.drawn done left right (stand p) (stand h.left_part) (stand h.left_end)
          (stand h.right_part) (stand h.right_end) (stand q) (fork_answer p.machine p.book at) said h.left_replies h.right_replies so
          (subst (λ (n : ℕ). IsDealt p.machine left n (stand h.left_part) (stand h.right_part)) h.gathers.held_is dealt) one two (ap (λ (x : Place). x.purse) h.joins);
      whole = λ whole. record {
        inside = h.left_replies ++ h.right_replies;
        inside_of = AreOf.silent (record { line = line; what = Fork at }) _ _ lines_of;
        goes = λ lines reads.
            let g = through (InForks lines) lines (laws.in_forks lines) reads in
            record {
              runs = subst (λ (rs : List Reply). RunsWhole p.machine (InForks lines) (fork_lines line at middle last left right []) (stand p) (stand q)
                  (record { line = line; answer = answer.Fork (fork_answer p.machine p.book at) } ∷ (h.left_replies ++ rs)) (h.left_replies ++ rs)) (append-nil h.right_replies)
                  (RunsWhole.fork line at middle last left right [] (stand p) (stand h.left_part) (stand h.right_part) (stand q) (stand q) fork h.left_replies h.right_replies [] []
                  (body_nested true left_body.room (body_lines left) left_body.is_body left refl) (body_nested true right_body.room (body_lines right) right_body.is_body right refl) ok
                  (record { held = h.held; enough = h.gathers.enough whole; dealt = dealt }) one.lacks two.lacks (g.state [] refl) (RunsWhole.nothing (stand q)));
              replies_are = sym (g.replies [] refl ∙ append-nil (record { line = line; answer = answer.Fork (fork_answer p.machine p.book at) } ∷ (h.left_replies ++ h.right_replies)));
              book_is = g.state [] refl;
            };
      };
    }
