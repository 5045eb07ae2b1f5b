use Rattle.std.proofs.Common.{◌≡◌, ◌*◌, ◌%◌, ◌^◌, ◌<◌, arith}
use Rattle.std.proofs.lemmas.Nat.{one_shl, pow_pos}
use Rattle.fmt_amdv1.proofs.AmdCode.{leaf_few, output_is, within}
use Rattle.fmt_amdv1.proofs.instances.AmdV1Format.out_of.Goals as goal
use Rattle.fmt_amdv1.proofs.instances.AmdV1Format.out_of.Goals.{After-log2_in}

few : (c : After-log2_in) → c.log2_in.result < 27
few c = let l = c.requires.a_leaf in rw c.log2_in.ensures (leaf_few c.args.level c.args.word l.0 l.1 l.2)

pages_are : (c : After-log2_in) → 1 * 2 ^ c.log2_in.result % 2 ^ 64 ≡ 2 ^ c.log2_in.result
pages_are c = one_shl c.log2_in.result 64 (omega (arith, few c))

pub overflow_shl-pages : goal.overflow_shl-pages
overflow_shl-pages c = omega (arith, few (goal.at.overflow_shl-pages c).After-log2_in)

pub nonzero_rem-result : goal.nonzero_rem-result
nonzero_rem-result c = rw (pages_are (goal.at.nonzero_rem-result c).After-log2_in) (pow_pos c.log2_in.result)

pub nonzero_rem-result-2 : goal.nonzero_rem-result-2
nonzero_rem-result-2 c = rw (pages_are (goal.at.nonzero_rem-result-2 c).After-log2_in) (pow_pos c.log2_in.result)

pub returns-clause-page : goal.returns-clause-page
returns-clause-page c =
    rw (pages_are (goal.at.returns-clause-page c).After-log2_in, c.page_in-number.ensures.page)
    (output_is c.args.level c.args.word c.args.page c.log2_in.result c.log2_in.ensures)

pub returns-clause-within : goal.returns-clause-within
returns-clause-within c =
    rw (pages_are (goal.at.returns-clause-within c).After-log2_in)
    (within c.log2_in.result c.page_in-number.result c.args.page (omega (arith, few (goal.at.returns-clause-within c).After-log2_in)) c.page_in-number.ensures.within)
