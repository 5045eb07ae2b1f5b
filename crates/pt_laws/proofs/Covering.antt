-- An outermost fork: a map inside it lacks frames only where the fork doesn't cover its line.
use Rattle.std.proofs.Common.{ℕ, List, [], ◌∷◌, inl, inr, ap, ◌∙◌, arith}
use Rattle.pt_model.specs.declared.command.Command.{Command}
use Rattle.pt_model.specs.Book.{Book}
use Rattle.pt_model.specs.Run.{Machine}
use Rattle.pt_laws.specs.Need.{need}
use Rattle.pt_laws.specs.Covers.{Stand, IsDealtWhole, Wants, LeftUncovered, RightUncovered, ForksCover}
use Rattle.pt_laws.proofs.NeedRuns.{need_append}
use Rattle.pt_laws.proofs.Purses.{lack_map}

module _ (m : Machine) (b : Book) (left right : List Command) (l r : Stand) (dealt : IsDealtWhole m b left right l r) where
  left_uncovered : (n : ℕ) → Wants m l.purse left n → LeftUncovered m b left n
  left_uncovered n w =
      let first = dealt.dealt.first in let enough = dealt.enough in let by_need = w.by_need in
      let whole = ap (need m) w.whole ∙ need_append m w.upto (w.here ∷ w.past) in
      let short = need_append m w.upto (w.here ∷ []) in
      record {
        upto = w.upto;
        here = w.here;
        past = w.past;
        whole = w.whole;
        line_is = w.line_is;
        not_covered = λ c. elim c [
          | inl need_fits ↦ omega (arith, first, enough, by_need, whole, short, need_fits)
          | inr use_fits ↦ let by_use = w.by_use use_fits.0 in let fits = use_fits.1 in omega (arith, first, enough, by_use, fits)
        ];
      }

  right_uncovered : (n : ℕ) → Wants m r.purse right n → RightUncovered m b left right n
  right_uncovered n w =
      let first = dealt.dealt.first in let second = dealt.dealt.second in let enough = dealt.enough in let by_need = w.by_need in
      let whole = ap (need m) w.whole ∙ need_append m w.upto (w.here ∷ w.past) in
      let short = need_append m w.upto (w.here ∷ []) in
      record {
        upto = w.upto;
        here = w.here;
        past = w.past;
        whole = w.whole;
        line_is = w.line_is;
        not_covered = λ c. elim c [
          | inl need_fits ↦ omega (arith, first, second, enough, by_need, whole, short, need_fits)
          | inr use_fits ↦ let by_use = w.by_use use_fits.0 in let fits = use_fits.1 in omega (arith, first, second, enough, by_need, by_use, fits, whole, short)
        ];
      }

pub forks_cover : ForksCover
forks_cover m b left right l r ls rs dealt one two = (
  lack_map (Wants m l.purse left) (LeftUncovered m b left) (left_uncovered m b left right l r dealt) ls one,
  lack_map (Wants m r.purse right) (RightUncovered m b left right) (right_uncovered m b left right l r dealt) rs two,
)
