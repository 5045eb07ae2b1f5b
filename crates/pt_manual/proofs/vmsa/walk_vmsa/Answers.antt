use Rattle.std.proofs.Common.{◌≡◌, ◌+◌, ◌-◌, ap, sym, ◌∙◌}
use Rattle.std.proofs.lemmas.Nat.{one_shl, pow_pos}
use Rattle.pt_model.specs.Words.{entry_in}
use Rattle.pt_manual.specs.VmsaWalk.{followed, index_bits, walk, walk_from}
use Rattle.pt_manual.proofs.VmsaFacts.{vmsa_next}
use Rattle.pt_manual.proofs.vmsa.walk_vmsa.Goals as goal
use Rattle.pt_manual.proofs.vmsa.walk_vmsa.Goals.{After-read_descriptor}

-- the walk, by the descriptor that was read
stepped : (c : After-read_descriptor) →
    followed c.args.granule c.args.words.now c.args.address c.loop-level.level
    (walk_from c.args.granule c.args.words.now c.args.address (4 - (c.loop-level.level + 1))) c.read_descriptor.result
    ≡ walk c.args.words.now c.args.granule c.args.address
stepped c =
    sym (vmsa_next c.args.granule c.args.words.now c.args.address c.loop-level.level c.loop-level.frame c.entry_at.result
    c.read_descriptor.result c.loop-level-test.true
    (c.entry_at.ensures ∙ ap (entry_in (index_bits c.args.granule) c.args.words.now c.loop-level.frame) c.index_at-number.ensures.index)
    c.read_descriptor.ensures.descriptor)
    ∙ c.loop-level.invariant.same_walk

pub returns-in-Invalid : goal.returns-in-Invalid
returns-in-Invalid c = rw c.in-Invalid.is at (stepped (goal.at.returns-in-Invalid c).After-read_descriptor)

pub returns-in-Reserved : goal.returns-in-Reserved
returns-in-Reserved c = rw c.in-Reserved.is at (stepped (goal.at.returns-in-Reserved c).After-read_descriptor)

pub nonzero_rem-out : goal.nonzero_rem-out
nonzero_rem-out c =
    let small = (c.read_descriptor.ensures.within _ c.in-Page.log2 _ c.in-Page.is).1 in
    rw (one_shl c.in-Page.log2 64 small) (pow_pos c.in-Page.log2)

pub returns-in-Page : goal.returns-in-Page
returns-in-Page c =
    let small = (c.read_descriptor.ensures.within _ c.in-Page.log2 _ c.in-Page.is).1 in
    rw (one_shl c.in-Page.log2 64 small) (rw c.in-Page.is at (stepped (goal.at.returns-in-Page c).After-read_descriptor))

pub returns-in_default : goal.returns-in_default
returns-in_default c =
    rw c.in_default.ensures at (rw c.in-Table.is at (stepped (goal.at.returns-in_default c).After-read_descriptor))

pub loop-level-preserved : goal.loop-level-preserved
loop-level-preserved c = record {
  a_frame = c.in-Some.ensures.2;
  same_walk =
      rw c.in-Some.ensures.1
      (rw c.in-Some.ensures.0 at (rw c.in-Table.is at (stepped (goal.at.loop-level-preserved c).After-read_descriptor)));
}
