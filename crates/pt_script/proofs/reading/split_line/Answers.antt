use Rattle.std.proofs.Common.{subst, sym, take}
use Rattle.pt_script.specs.Text.{HasNoLine}
use Rattle.pt_script.proofs.WordLemmas.{no_line_before}
use Rattle.pt_script.proofs.reading.split_line.Goals as goal

pub returns-then-end-bytes-clause-line : goal.returns-then-end-bytes-clause-line
returns-then-end-bytes-clause-line c = subst (λ k. HasNoLine (take k c.args.bytes.now)) (sym c.place_in-end.ensures.first) (no_line_before c.args.bytes.now)
