-- The laws of the rule, as lemmas.
use Rattle.std.proofs.Common.{[], ◌∙◌}
use Rattle.atomic_table.proofs.Lists.{set_else}
use Rattle.pt_rule.specs.Cuts.{joined}
use Rattle.pt_rule.specs.Kinds.{retrace}
use Rattle.pt_rule.specs.Laws.{BooksAreLawful, FrontsKeep, JoinsKeep, NewIsLawful, SplitsKeep, StepsKeep, ViewsNote, ViewsHold, WholeIsAlone, WholeIsCounted}
use Rattle.pt_rule.specs.Meets.{GrowMeets, ReleaseMeets, StepsMeet, UnlinkMeets}
use Rattle.pt_rule.specs.Union.{WalkIsUnion}
use Rattle.pt_rule.specs.WholeView.{WholeIsRead}
use Rattle.pt_rule.specs.WholeCounts.{CensusIsRead, EntriesAreRead, PiecesAreAdded, ReadingsTell, TagsAreCounted}
use Rattle.pt_rule.proofs.AloneKept as whole
use Rattle.pt_rule.proofs.CallsMeet as calls
use Rattle.pt_rule.proofs.CountKept as frames
use Rattle.pt_rule.proofs.CutPaths as fronts
use Rattle.pt_rule.proofs.MayNote as noted
use Rattle.pt_rule.proofs.LiveViews as holding
use Rattle.pt_rule.proofs.JoinKept as parts
use Rattle.pt_rule.proofs.StepsKept as steps
use Rattle.pt_rule.proofs.OpeningKept as opening
use Rattle.pt_rule.proofs.ReadWhole as read
use Rattle.pt_rule.proofs.ReadEntries as entries
use Rattle.pt_rule.proofs.CensusRead as census
use Rattle.pt_rule.proofs.RestingBook as books
use Rattle.pt_rule.proofs.SplitKept as halves
use Rattle.pt_rule.proofs.WalkUnion as walk

pub new_is_lawful : NewIsLawful
new_is_lawful f n l hold words good limit room low high new = opening.opens f good n l hold words limit room low high new

pub steps_keep : StepsKeep
steps_keep = steps.kept

pub fronts_keep : FrontsKeep
fronts_keep f n l k keeps = fronts.keeps_cut f n l k keeps

pub steps_meet : StepsMeet
steps_meet = calls.steps_meet

pub unlink_meets : UnlinkMeets
unlink_meets = calls.unlink_meets

pub grow_meets : GrowMeets
grow_meets = calls.grow_meets

pub release_meets : ReleaseMeets
release_meets = calls.release_meets

pub views_note : ViewsNote
views_note = noted.views_note

pub views_hold : ViewsHold
views_hold f good n l words views id v r at live = holding.holds_of f good n l words views r id v at live

pub splits_keep : SplitsKeep
splits_keep f good n l words views id v at kept r here live may = halves.splits f good n l words views id v at kept r here live may

pub joins_keep : JoinsKeep
joins_keep f good n l words views id other v w r here apart there live live' may = parts.joins f good n l words views id other v w r here apart
    (set_else views id other (joined (retrace [] v) (retrace [] w)) apart ∙ there) live live' may

pub whole_is_alone : WholeIsAlone
whole_is_alone f n l words views id v r at span = (whole.alone f n l words views id v r at span, whole.only_live f n l words views id v r at span)

pub whole_is_counted : WholeIsCounted
whole_is_counted = frames.counted

pub whole_is_read : WholeIsRead
whole_is_read = read.whole_read

pub entries_are_read : EntriesAreRead
entries_are_read = entries.entries_are_read

pub pieces_are_added : PiecesAreAdded
pieces_are_added = entries.pieces_are_added

pub readings_tell : ReadingsTell
readings_tell = census.readings_tell

pub census_is_read : CensusIsRead
census_is_read = census.census_is_read

pub tags_are_counted : TagsAreCounted
tags_are_counted = frames.tags_are_counted

pub books_are_lawful : BooksAreLawful
books_are_lawful = books.resting

pub walk_is_union : WalkIsUnion
walk_is_union = walk.walk_is_union
