use Rattle.std.proofs.Common.{length}
use Rattle.pt_script.proofs.ParseLemmas.{Parsed}
use Rattle.pt_script.proofs.parsing.parse.Given as goal

abbrev pub invariant-lines : goal.invariant-lines
invariant-lines l = let p = l.draft.progress in Parsed l.bytes p.stage p.forks.items p.commands p.dumps p.lines l.draft.commands.items l.draft.asks.items l.rest

abbrev pub decreases-lines : goal.decreases-lines
decreases-lines l = length l.rest
