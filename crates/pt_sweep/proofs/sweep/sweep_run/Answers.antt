use Rattle.pt_sweep.proofs.SweptPieces.{may_run_at, run_clears}
use Rattle.pt_sweep.proofs.sweep.sweep_run.Goals as goal
use Rattle.std.proofs.Common.{refl, sym, subst, ℕ}
use Rattle.pt_sweep.specs.Sweeps.{SweepsBelow}

pub clear_run-requires : goal.clear_run-requires
clear_run-requires g c = may_run_at g.met.F.Format.lawful_layout c.requires.range c.requires.may c.entry_number-number.result _ c.entry_number-number.ensures.number refl

pub returns-clause-sweeps : goal.returns-clause-sweeps
returns-clause-sweeps g c =
    subst (λ (k : ℕ). SweepsBelow g.F.Format.layout g.H.Holder.tells (g.H.Holder.alone c.args.holder.now) c.args.first c.args.end 0 (g.H.Holder.view c.args.holder.now) (g.H.Holder.view c.clear_run.new.self) k)
    (sym c.from.ensures)
    (run_clears g.met.F.Format.lawful_layout c.requires.range c.requires.may c.entry_number-number.ensures.number refl c.clear_run.ensures.cleared)
