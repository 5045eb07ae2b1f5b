-- Lists of commands that rise, and replies to commands in their order.
use Rattle.std.proofs.Common.{◌≡◌, ℕ, zero, suc, ◌+◌, ◌-◌, ◌≤◌, List, [], ◌∷◌, ◌++◌, Bool, length, take, drop, refl, ap, sym, ◌∙◌, arith}
use Rattle.pt_model.specs.declared.command.Command.{Command}
use Rattle.pt_model.specs.declared.reply.Answer.{Answer}
use Rattle.pt_model.specs.declared.reply.Reply.{Reply}
use Rattle.pt_laws.specs.Lines.{LinesFrom, CommandsRise, Reads}
use Rattle.pt_laws.proofs.Reading.{LinesAfter, RepliesRise}
use Rattle.pt_forks.specs.Running.{AreTold}
use Rattle.pt_beside.specs.Running.{AreOf}

from_drop : (line : ℕ) (cs : List Command) (n : ℕ) → LinesFrom line cs → LinesFrom line (drop n cs)
from_drop line [] zero h = h
from_drop line [] (suc n) h = h
from_drop line (c ∷ cs) zero h = h
from_drop line (c ∷ cs) (suc n) h = from_drop line cs n h.1

from_take : (line : ℕ) (cs : List Command) (n : ℕ) → LinesFrom line cs → LinesFrom line (take n cs)
from_take line [] zero h = tt
from_take line [] (suc n) h = tt
from_take line (c ∷ cs) zero h = tt
from_take line (c ∷ cs) (suc n) h = (h.0, from_take line cs n h.1)

pub rise_drop : (cs : List Command) (n : ℕ) → CommandsRise cs → CommandsRise (drop n cs)
rise_drop [] zero h = h
rise_drop [] (suc n) h = h
rise_drop (c ∷ cs) zero h = h
rise_drop (c ∷ cs) (suc n) h = rise_drop cs n h.1

pub rise_take : (cs : List Command) (n : ℕ) → CommandsRise cs → CommandsRise (take n cs)
rise_take [] zero h = tt
rise_take [] (suc n) h = tt
rise_take (c ∷ cs) zero h = tt
rise_take (c ∷ cs) (suc n) h = (from_take (c.line + 1) cs n h.0, rise_take cs n h.1)

pub length_drop : (cs : List Command) (n : ℕ) → length (drop n cs) ≡ length cs - n
length_drop [] zero = omega arith
length_drop [] (suc n) = omega arith
length_drop (c ∷ cs) zero = omega arith
length_drop (c ∷ cs) (suc n) = length_drop cs n ∙ omega arith

pub length_take : (cs : List Command) (n : ℕ) → length (take n cs) ≤ length cs
length_take [] zero = omega arith
length_take [] (suc n) = omega arith
length_take (c ∷ cs) zero = omega arith
length_take (c ∷ cs) (suc n) = let h = length_take cs n in omega arith

take_none : (n : ℕ) → take n (let cs : List Command = [] in cs) ≡ []
take_none zero = refl
take_none (suc n) = refl

drop_none : (n : ℕ) → drop n (let cs : List Command = [] in cs) ≡ []
drop_none zero = refl
drop_none (suc n) = refl

-- what is taken on
pub take_on : (cs : List Command) (n k : ℕ) → take n cs ++ take k (drop n cs) ≡ take (n + k) cs
take_on [] n k =
    ap (λ (ds : List Command). ds ++ take k (drop n [])) (take_none n) ∙ ap (λ (ds : List Command). take k ds) (drop_none n) ∙ take_none k ∙ sym (take_none (n + k))
take_on (c ∷ cs) zero k = ap (λ (i : ℕ). take i (c ∷ cs)) (let e : k ≡ 0 + k = omega arith in e)
take_on (c ∷ cs) (suc n) k = ap (λ ds. c ∷ ds) (take_on cs n k) ∙ ap (λ (i : ℕ). take i (c ∷ cs)) (let e : suc (n + k) ≡ suc n + k = omega arith in e)

pub drop_on : (cs : List Command) (n k : ℕ) → drop k (drop n cs) ≡ drop (n + k) cs
drop_on [] n k = ap (λ (ds : List Command). drop k ds) (drop_none n) ∙ drop_none k ∙ sym (drop_none (n + k))
drop_on (c ∷ cs) zero k = ap (λ (i : ℕ). drop i (c ∷ cs)) (let e : k ≡ 0 + k = omega arith in e)
drop_on (c ∷ cs) (suc n) k = drop_on cs n k ∙ ap (λ (i : ℕ). drop i (c ∷ cs)) (let e : suc (n + k) ≡ suc n + k = omega arith in e)

pub take_all : (cs : List Command) (n : ℕ) → length cs ≤ n → take n cs ≡ cs
take_all [] zero h = refl
take_all [] (suc n) h = refl
take_all (c ∷ cs) zero h = absurd (omega arith)
take_all (c ∷ cs) (suc n) h = ap (λ ds. c ∷ ds) (take_all cs n (omega arith))

-- Replies to commands, one stretch after another.
pub of_on : (cs ds : List Command) (rs qs : List Reply) → AreOf cs rs → AreOf ds qs → AreOf (cs ++ ds) (rs ++ qs)
of_on _ ds _ qs AreOf.nothing k = k
of_on _ ds _ qs (AreOf.answered line what a cs rs h) k = AreOf.answered line what a (cs ++ ds) (rs ++ qs) (of_on cs ds rs qs h k)
of_on _ ds _ qs (AreOf.silent c cs rs h) k = AreOf.silent c (cs ++ ds) (rs ++ qs) (of_on cs ds rs qs h k)

pub of_none : (cs : List Command) → AreOf cs []
of_none [] = AreOf.nothing
of_none (c ∷ cs) = AreOf.silent c cs [] (of_none cs)

pub told_on : (IsTold : Answer → Type 0) (rs qs : List Reply) → AreTold IsTold rs → AreTold IsTold qs → AreTold IsTold (rs ++ qs)
told_on IsTold [] qs h k = k
told_on IsTold (r ∷ rs) qs h k = (h.0, told_on IsTold rs qs h.1 k)

pub reads_left : (lines : ℕ → Bool) (rs qs : List Reply) → Reads lines (rs ++ qs) → Reads lines rs
reads_left lines [] qs h = tt
reads_left lines (r ∷ rs) qs h = (h.0, reads_left lines rs qs h.1)

pub reads_right : (lines : ℕ → Bool) (rs qs : List Reply) → Reads lines (rs ++ qs) → Reads lines qs
reads_right lines [] qs h = h
reads_right lines (r ∷ rs) qs h = reads_right lines rs qs h.1

-- The lines of the replies rise where those of the commands do.
after : (n : ℕ) (cs : List Command) (rs : List Reply) → AreOf cs rs → LinesFrom (n + 1) cs → LinesAfter n rs
after n _ _ AreOf.nothing h = tt
after n _ _ (AreOf.answered line what a cs rs k) h = (let x = h.0 in omega arith, after n cs rs k h.1)
after n _ _ (AreOf.silent c cs rs k) h = after n cs rs k h.1

pub of_rise : (cs : List Command) (rs : List Reply) → AreOf cs rs → CommandsRise cs → RepliesRise rs
of_rise _ _ AreOf.nothing h = tt
of_rise _ _ (AreOf.answered line what a cs rs k) h = (after line cs rs k h.0, of_rise cs rs k h.1)
of_rise _ _ (AreOf.silent c cs rs k) h = of_rise cs rs k h.1
