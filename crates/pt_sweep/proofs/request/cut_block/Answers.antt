use Rattle.std.proofs.Common.{◌≡◌, ◌+◌, true, false, sym, refl, ◌∙◌, arith}
use Rattle.std.specs.Prelude.{Option, Some, None, is_some}
use Rattle.pt_model.specs.declared.block.Block.{Block}
use Rattle.pt_sweep.proofs.CutBlocks.{first_cut, last_cut}
use Rattle.pt_sweep.proofs.request.cut_block.Goals as goal

some_is : (o : Option Block) → is_some o ≡ true → (b : Block) × (o ≡ Some b)
some_is None e = absurd (let z : ⊥ = cc in z)
some_is (Some b) e = (b, refl)

none_is : (o : Option Block) → is_some o ≡ false → o ≡ None
none_is None e = refl
none_is (Some b) e = absurd (let z : ⊥ = cc in z)

pub returns-then-is_some-clause-cut : goal.returns-then-is_some-clause-cut
returns-then-is_some-clause-cut g c blocks rest =
    let one = some_is c.cut_over-low.result (sym c.is_some.ensures ∙ c.if-is_some.true) in
    one.1 ∙ sym (first_cut c.args.range.first (c.args.range.first + c.args.range.count) blocks (c.requires.lawful blocks rest).in_order one.0
    (sym (c.cut_over-low.ensures.cut blocks rest) ∙ one.1))

pub returns-clause-cut : goal.returns-clause-cut
returns-clause-cut g c blocks rest =
    let none = none_is c.cut_over-low.result (sym c.is_some.ensures ∙ c.if-is_some.false) in
    c.cut_over.ensures.cut blocks (c.cut_over-low.ensures.rest blocks rest)
    ∙ sym (last_cut c.args.range.first (c.args.range.first + c.args.range.count) blocks (let some = c.requires.some in omega arith) (sym (c.cut_over-low.ensures.cut blocks rest) ∙ none))
