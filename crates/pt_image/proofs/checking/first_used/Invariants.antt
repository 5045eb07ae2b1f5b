use Rattle.std.proofs.Common.{◌≡◌, ℕ, ◌<◌}
use Rattle.pt_image.specs.Bytes.{entry_at}
use Rattle.pt_image.proofs.checking.first_used.Given as goal

abbrev pub invariant-loop-index : goal.invariant-loop-index
invariant-loop-index g l = (i : ℕ) → i < l.index → entry_at g.F.Format.layout l.image l.frame i ≡ 0
