use Rattle.std.proofs.Common.{◌-◌, ◌<◌, arith}
use Rattle.std.proofs.lemmas.Nat.{one_shl}
use Rattle.std.proofs.lemmas.Bool.{ltb-true, lt-ltb, both_ways}
use Rattle.pt_format.proofs.Frames.{frame_of, frame_offset}
use Rattle.pt_format.proofs.frame_address.is_frame_address.Goals as goal

pub returns-then-is_aligned : goal.returns-then-is_aligned
returns-then-is_aligned c =
    let limit : 27 - c.args.granule < 64 = omega arith in
    rw (one_shl (27 - c.args.granule) 64 limit) (
      (λ test. frame_of c.args.granule c.args.address (omega arith) (c.is_aligned.ensures.0 c.if-is_aligned.true) (ltb-true _ _ test)),
      (λ f. lt-ltb _ _ (frame_offset c.args.granule c.args.address f).2),
    )

pub returns-else-is_aligned : goal.returns-else-is_aligned
returns-else-is_aligned c = (
  (λ test. absurd (both_ways c.is_aligned.result c.if-is_aligned.false test)),
  (λ f. c.is_aligned.ensures.1 (frame_offset c.args.granule c.args.address f).1),
)
