use Rattle.std.proofs.Common.{arith, ◌≢◌, ◌/◌, ◌^◌}
use Rattle.pt_tile.proofs.Least.{bit_below, none_above, least_set, least_first}
use Rattle.pt_tile.proofs.sizes.size_from.Goals as goal

pub returns-then-least-ge64 : goal.returns-then-least-ge64
returns-then-least-ge64 c = λ k set. omega (arith, bit_below c.args.sizes k (omega arith) set)

pub returns-then-above-eq0 : goal.returns-then-above-eq0
returns-then-above-eq0 c = λ k set. none_above c.args.sizes c.args.least k (omega arith) set

pub returns-else-above-eq0 : goal.returns-else-above-eq0
returns-else-above-eq0 c =
    let some : c.args.sizes / 2 ^ c.args.least ≢ 0 = λ e. omega arith in
    let set = least_set c.args.sizes c.args.least (omega arith) some in (
      set,
      omega arith,
      bit_below c.args.sizes _ (omega arith) set,
      λ k there from. least_first c.args.sizes c.args.least k (omega arith) some there from,
    )
