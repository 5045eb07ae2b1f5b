-- The invariant of a loop over commands, step by step.
use Rattle.std.proofs.Common.{ℕ, ◌+◌, List, [], ◌∷◌, ◌++◌, refl, ap, ◌∙◌, arith, append_assoc}
use Rattle.std.proofs.lemmas.Bool.{false≢true}
use Rattle.pt_model.specs.declared.command.What.TheVariants.{With, End}
use Rattle.pt_model.specs.declared.command.Command.{Command}
use Rattle.pt_model.specs.Run.{Machine}
use Rattle.pt_model.specs.declared.reply.Answer.TheVariants as answer
use Rattle.pt_laws.specs.Need.{fork_lines}
use Rattle.pt_laws.specs.Covers.{Wants, EachKeepsSoFar}
use Rattle.pt_laws.proofs.NeedRuns.{need_append, fork_need}
use Rattle.pt_laws.proofs.Purses.{spends, keeps_use, lacks_short, lack_append, lack_map, in_left, in_right, has_fork, no_fork_front}

-- a line that wants frames does so in a longer list
longer : (m : Machine) (start : ℕ) (xs ys : List Command) (n : ℕ) → Wants m start xs n → Wants m start (xs ++ ys) n
longer m start xs ys n w = record {
  upto = w.upto;
  here = w.here;
  past = w.past ++ ys;
  whole = ap (λ (zs : List Command). zs ++ ys) w.whole ∙ append_assoc w.upto (w.here ∷ w.past) ys;
  line_is = w.line_is;
  by_need = w.by_need;
  by_use = w.by_use;
}

pub each_keeps : EachKeepsSoFar
each_keeps m page = record {
  start = λ s. record { by_need = omega arith; by_use = λ none. omega arith; lacks = tt };
  call = λ start line done what s s' a rs h leaves.
      let c : Command = record { line = line; what = what } in
      let sum = need_append m done (record { line = line; what = what } ∷ []) in
      let one = spends m page what s s' a leaves in let now = h.by_need in
      record {
        by_need = omega arith;
        by_use = λ none. keeps_use m page start done line what s s' a leaves (h.by_use (no_fork_front done (record { line = line; what = what } ∷ []) none));
        lacks = lack_append (Wants m start (done ++ record { line = line; what = what } ∷ [])) rs (record { line = line; answer = a } ∷ [])
            (lack_map (Wants m start done) (Wants m start (done ++ record { line = line; what = what } ∷ [])) (longer m start done (record { line = line; what = what } ∷ [])) rs h.lacks) (
              (λ e. let short = lacks_short m page start done line what s s' a leaves h.by_need h.by_use e in
                  record { upto = done; here = record { line = line; what = what }; past = []; whole = refl; line_is = refl; by_need = short.by_need; by_use = short.by_use }),
              tt,
            );
      };
  past = λ start line at middle last done left right s s' a rs h stays.
      let p = stays.purse in let now = h.by_need in
      let sum = need_append m done (fork_lines line at middle last left right []) in
      record {
        by_need = omega arith;
        by_use = λ none. absurd (has_fork done (left ++ (record { line = middle; what = With } ∷ (right ++ (record { line = last; what = End } ∷ [])))) line at none);
        lacks = lack_append (Wants m start (done ++ fork_lines line at middle last left right [])) rs (record { line = line; answer = answer.Fork a } ∷ [])
            (lack_map (Wants m start done) (Wants m start (done ++ fork_lines line at middle last left right [])) (longer m start done (fork_lines line at middle last left right [])) rs h.lacks)
            ((λ e. absurd (false≢true e)), tt);
      };
  fork = λ start line at middle last drawn done left right s l l' r r' j a rs ls ts h dealt one two joins.
      let now = h.by_need in let x = one.by_need in let y = two.by_need in let first = dealt.first in let second = dealt.second in
      let sum = need_append m done (fork_lines line at middle last left right []) in
      let forks = fork_need m left right [] line at middle last in
      record {
        by_need = omega arith;
        by_use = λ none. absurd (has_fork done (left ++ (record { line = middle; what = With } ∷ (right ++ (record { line = last; what = End } ∷ [])))) line at none);
        lacks = lack_append (Wants m start (done ++ fork_lines line at middle last left right [])) rs (record { line = line; answer = answer.Fork a } ∷ (ls ++ ts))
            (lack_map (Wants m start done) (Wants m start (done ++ fork_lines line at middle last left right [])) (longer m start done (fork_lines line at middle last left right [])) rs h.lacks) (
              (λ e. absurd (false≢true e)),
              lack_append (Wants m start (done ++ fork_lines line at middle last left right [])) ls ts
                  (lack_map (Wants m l.purse left) (Wants m start (done ++ fork_lines line at middle last left right [])) (in_left m start done s line at middle last left right [] (drawn + s.purse) l r h.by_need (omega arith) dealt) ls one.lacks)
                  (lack_map (Wants m r.purse right) (Wants m start (done ++ fork_lines line at middle last left right [])) (in_right m start done s line at middle last left right [] (drawn + s.purse) l r h.by_need (omega arith) dealt) ts two.lacks),
            );
      };
}
