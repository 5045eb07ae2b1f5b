use Rattle.std.proofs.Common.{◌≡◌, false, ◌-◌, ◌+◌, ◌*◌}
use Rattle.pt_walk.specs.Walks.{IsFree}
use Rattle.pt_map.proofs.AbsentCounted.{HasGone}
use Rattle.pt_map.proofs.SurveyFinds.{OnlyLeft}
use Rattle.pt_view.specs.Views.{Stays}
use Rattle.pt_map.proofs.survey.+survey.Given as goal

abbrev pub decreases-survey_first : goal.decreases-survey_first
decreases-survey_first g l = 3 * l.level + 1

abbrev pub decreases-survey_under : goal.decreases-survey_under
decreases-survey_under g l = 3 * l.level

abbrev pub decreases-survey : goal.decreases-survey
decreases-survey g l = 3 * l.level + 2

abbrev pub invariant-survey-loop-rest : goal.invariant-survey-loop-rest
invariant-survey-loop-rest g l =
    record {
      stays : Stays g.H.Holder.space g.H.Holder.aside g.H.Holder.alone l.initial.holder l.holder;
      gone : HasGone g.F.Format.layout g.H.Holder.tells (g.H.Holder.alone l.initial.holder) (g.H.Holder.view l.initial.holder) (g.H.Holder.view l.holder) l.initial.rest l.rest l.level l.cap l.absent;
      only : l.over_tables ≡ false → OnlyLeft g.F.Format.layout (g.H.Holder.view l.initial.holder) l.initial.rest l.rest;
      free : IsFree g.F.Format.layout (g.H.Holder.view l.initial.holder) l.initial.rest.first l.rest.first;
    }

abbrev pub decreases-survey-loop-rest : goal.decreases-survey-loop-rest
decreases-survey-loop-rest g l = l.rest.end - l.rest.first
