use Rattle.std.proofs.Common.{◌%◌, ◌^◌}
use Rattle.std.proofs.lemmas.Nat.{one_shl, and_mask}
use Rattle.std.proofs.lemmas.Bool.{eqb-true, eq-eqb}
use Rattle.pt_tile.proofs.sizes.lie_alike.Goals as goal

pub returns : goal.returns
returns c =
    rw (one_shl c.args.log2 64 c.requires, and_mask c.args.page c.args.log2, and_mask c.args.other c.args.log2)
    (eqb-true (c.args.page % 2 ^ c.args.log2) (c.args.other % 2 ^ c.args.log2), eq-eqb (c.args.page % 2 ^ c.args.log2) (c.args.other % 2 ^ c.args.log2))
