use Rattle.std.proofs.Common.{◌≡◌, ◌+◌, ◌-◌, arith}
use Rattle.pt_model.specs.declared.block.Block.{Block}
use Rattle.pt_format.proofs.LeafPages.{leaf_page}
use Rattle.pt_walk.specs.RangeWalks.{IsBlockOf}
use Rattle.pt_walk.proofs.Leaves.{same_first, same_read, size_few}
use Rattle.pt_walk.proofs.block.block_of.Given.{Over}
use Rattle.pt_walk.proofs.block.block_of.Goals as goal
use Rattle.pt_walk.proofs.block.block_of.Goals.{After-out_of}

first_is : (g : Over) (c : After-out_of g) (b : Block) → IsBlockOf g.F.Format.layout c.args.level c.args.word c.args.page b → c.align_down-first.result ≡ b.first
first_is g c b is =
    let a = c.align_down-first.ensures in
    same_first g.F.Format.layout g.met.F.Format.lawful_layout g.met.F.Format.words_differ c.args.level c.args.word c.args.page b is c.align_down-first.result c.in-Leaf.log2
    (same_read g.F.Format.layout g.met.F.Format.lawful_layout g.met.F.Format.words_differ c.args.level c.args.word c.args.page b is c.in-Leaf.log2 c.in-Leaf.prot c.in-Leaf.ensures).0
    a.multiple a.at_most a.greatest

out_is : (g : Over) (c : After-out_of g) (b : Block) (is : IsBlockOf g.F.Format.layout c.args.level c.args.word c.args.page b) → c.out_of.result ≡ b.out + (c.args.page - b.first)
out_is g c b is = leaf_page g.met.F.Format.steps_agree c.out_of.ensures.page b.first b.log2 b.out is.part b.prot is.may is.word_is is.under

pub align_down-first-requires : goal.align_down-first-requires
align_down-first-requires g c =
    let b : Block = c.requires.some.0 in
    let is : IsBlockOf g.F.Format.layout c.args.level c.args.word c.args.page b = c.requires.some.1 in
    let e = (same_read g.F.Format.layout g.met.F.Format.lawful_layout g.met.F.Format.words_differ c.args.level c.args.word c.args.page b is c.in-Leaf.log2 c.in-Leaf.prot c.in-Leaf.ensures).0 in
    let few = size_few g.F.Format.layout g.met.F.Format.lawful_layout g.met.F.Format.words_differ c.args.level c.args.word c.args.page b is in
    omega arith

pub overflow_sub-result-2 : goal.overflow_sub-result-2
overflow_sub-result-2 g c =
    let b : Block = c.requires.some.0 in
    let is : IsBlockOf g.F.Format.layout c.args.level c.args.word c.args.page b = c.requires.some.1 in
    let first = first_is g (goal.at.overflow_sub-result-2 g c).After-out_of b is in
    let out = out_is g (goal.at.overflow_sub-result-2 g c).After-out_of b is in
    omega arith

pub returns : goal.returns
returns g c = λ b is.
    let here = (goal.at.returns g c).After-out_of in
    let read : (c.in-Leaf.log2 ≡ b.log2) × (c.in-Leaf.prot ≡ b.prot) = same_read g.F.Format.layout g.met.F.Format.lawful_layout g.met.F.Format.words_differ c.args.level c.args.word c.args.page b is c.in-Leaf.log2 c.in-Leaf.prot c.in-Leaf.ensures in
    let first : c.align_down-first.result ≡ b.first = first_is g here b is in
    let under = is.under.from in
    let out : c.out_of.result - (c.args.page - c.align_down-first.result) ≡ b.out = (let o = out_is g here b is in omega arith) in
    λ i. record { first = first i; log2 = read.0 i; out = out i; prot = read.1 i }
