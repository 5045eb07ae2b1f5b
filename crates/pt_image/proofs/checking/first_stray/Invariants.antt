use Rattle.pt_image.specs.Visits.{HasNoStray}
use Rattle.pt_image.proofs.checking.first_stray.Given as goal

abbrev pub invariant-loop-frame : goal.invariant-loop-frame
invariant-loop-frame g l = HasNoStray g.F.Format.layout l.frame l.image l.words
