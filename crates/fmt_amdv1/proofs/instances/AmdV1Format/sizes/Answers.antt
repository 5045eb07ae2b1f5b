use Rattle.std.proofs.Common.{◌≡◌, ◌*◌, ◌%◌, ◌^◌, sym, subst, arith}
use Rattle.std.proofs.lemmas.Nat.{shl_whole}
use Rattle.pt_format.specs.Words.{HasSizes}
use Rattle.fmt_amdv1.specs.AmdWords.{layout}
use Rattle.fmt_amdv1.proofs.AmdCode.{high_mask, low_mask}
use Rattle.fmt_amdv1.proofs.instances.AmdV1Format.sizes.Goals as goal

pub returns-then-level-lt3 : goal.returns-then-level-lt3
returns-then-level-lt3 c =
    let low = c.if-level-lt3.true in
    let whole : 511 * 2 ^ (9 * c.args.level) % 2 ^ 64 ≡ 511 * 2 ^ (9 * c.args.level) =
    shl_whole 511 9 (9 * c.args.level) 64 (omega arith) (omega arith) in
    subst (HasSizes layout c.args.level) (sym whole) (low_mask c.args.level low)

pub returns-else-level-lt3 : goal.returns-else-level-lt3
returns-else-level-lt3 c = high_mask c.args.level c.if-level-lt3.false
