use Rattle.std.proofs.Common.{◌≡◌, ◌≢◌, ◌+◌, ◌*◌, ◌^◌, ◌-◌, ◌≤◌, length}
use Rattle.pt_image.specs.Bytes.{entry_at}
use Rattle.pt_image.specs.Checks.{CopiesTo, LeavesGood, VisitsTo}
use Rattle.pt_image.proofs.walk.+visit.Given as goal

abbrev pub decreases-visit : goal.decreases-visit
decreases-visit g l = 2 * l.table.level + 1

abbrev pub decreases-enter : goal.decreases-enter
decreases-enter g l = 2 * l.table.level

abbrev pub invariant-visit-loop-number : goal.invariant-visit-loop-number
invariant-visit-loop-number g l = record {
  within : l.number ≤ 2 ^ g.F.Format.layout.index;
  long : length l.words ≡ length l.fn.words;
  bridge : l.table.base ≡ 0 → l.header.levels ≤ l.table.level → entry_at g.F.Format.layout l.image l.table.frame 0 ≢ 0;
  copies : CopiesTo g.F.Format.layout l.header l.fn.words l.words l.table l.number;
  good : LeavesGood g.F.Format.layout l.header l.image l.fn.words l.words l.table 0 l.number;
  visits : VisitsTo g.F.Format.layout l.header l.image l.fn.words l.words l.table l.number;
}

abbrev pub decreases-visit-loop-number : goal.decreases-visit-loop-number
decreases-visit-loop-number g l = 2 ^ g.F.Format.layout.index - l.number
