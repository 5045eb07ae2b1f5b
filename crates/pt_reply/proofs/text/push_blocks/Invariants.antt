use Rattle.std.proofs.Common.{◌≡◌, ◌++◌, drop}
use Rattle.pt_model.specs.Text.{block_lines}
use Rattle.pt_reply.proofs.text.push_blocks.Given as goal

-- the lines so far and those of the blocks that are left are the lines of all
abbrev pub invariant-loop-block : goal.invariant-loop-block
invariant-loop-block g l =
    l.out.items ++ block_lines g.F.Format.layout (drop l.block-index l.blocks) ≡ l.initial.out.items ++ block_lines g.F.Format.layout l.blocks
