use Rattle.pt_reply.proofs.BlockBytes.{begins_inside}
use Rattle.pt_reply.proofs.text.put_cut.Goals as goal

pub byte_of-requires : goal.byte_of-requires
byte_of-requires g c = begins_inside g.F.Format.layout c.args.block c.requires.block
