use Rattle.std.proofs.Common.{refl}
use Rattle.pt_reply.specs.Running.{blocks_of}
use Rattle.pt_run.proofs.one_owner.close.Goals as goal

pub returns : goal.returns
returns g c =
    let v = c.args.plain.view in
    record {
      closed = record {
        levels = v.levels;
        view = v;
        lawful = c.close.ensures.lawful;
        whole = c.close.ensures.whole;
        blocks = blocks_of v.pieces;
        rest = c.requires;
      };
      levels = refl;
      book_is = refl;
    }
