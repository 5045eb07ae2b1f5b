use Rattle.std.proofs.Common.{◌≡◌, ◌⊎◌, ◌^◌, ◌<◌, ◌≤◌, true, sym, subst}
use Rattle.pt_model.specs.declared.block.Block.{Block}
use Rattle.pt_model.specs.Layout.{end_of}
use Rattle.pt_sweep.proofs.entry.is_block_cut.Goals as goal

pub reaches_out-requires : goal.reaches_out-requires
reaches_out-requires g c = subst (λ (b : Block). end_of b ≤ 2 ^ 52) (sym (c.block_of.ensures c.requires.some.0 c.requires.some.1)) c.requires.some.2

pub returns : goal.returns
returns g c b is =
    let same = c.block_of.ensures b is in
    subst (λ (x : Block). ((c.reaches_out.result ≡ true) → (x.first < c.args.first) ⊎ (c.args.end < end_of x)) × ((x.first < c.args.first) ⊎ (c.args.end < end_of x) → (c.reaches_out.result ≡ true))) same c.reaches_out.ensures
