use Rattle.std.proofs.Common.{refl}
use Rattle.pt_view.proofs.Loads.{loads_here}
use Rattle.pt_sweep.proofs.entry.clear_from.Goals as goal

pub returns-in-Leaf-clause-clears : goal.returns-in-Leaf-clause-clears
returns-in-Leaf-clause-clears g c = (loads_here, refl)
