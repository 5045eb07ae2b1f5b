use Rattle.std.proofs.Common.{◌+◌, ◌∙◌, arith}
use Rattle.pt_model.specs.Book.{table_lies_in}
use Rattle.pt_sweep.specs.Empties.{UnlinksIn}
use Rattle.pt_sweep.specs.Sweeps.{begins_in}
use Rattle.pt_sweep.proofs.Apart.{free_begins, free_uncut}
use Rattle.pt_sweep.proofs.Sweeps.{only_unlinks}
use Rattle.pt_sweep.proofs.empty.clear_empty.Given.{Over}
use Rattle.pt_sweep.proofs.empty.clear_empty.Goals as goal
use Rattle.pt_sweep.proofs.empty.clear_empty.Goals.{After-sweep_span}

pub sweep_span-requires-clause-uncut : goal.sweep_span-requires-clause-uncut
sweep_span-requires-clause-uncut g c some x m =
    free_uncut g.F.Format.layout c.args.span.first (c.args.span.first + c.args.span.count) x (omega arith) (λ page low high has. c.requires.free page low high x m has)

unlinks : (g : Over) (c : After-sweep_span g) →
    UnlinksIn g.F.Format.layout g.H.Holder.tells (g.H.Holder.alone c.args.holder.now) c.args.span.first c.args.span.count (g.H.Holder.view c.args.holder.now) (g.H.Holder.view c.sweep_span.new.holder)
unlinks g c =
    let f = g.F.Format.layout in
    only_unlinks (table_lies_in f c.args.span.first (c.args.span.first + c.args.span.count)) (begins_in f c.args.span.first (c.args.span.first + c.args.span.count))
    (λ x m. free_begins f c.args.span.first (c.args.span.first + c.args.span.count) x (λ page low high has. c.requires.free page low high x m has)) c.sweep_span.ensures.sweeps

pub returns-clause-rest : goal.returns-clause-rest
returns-clause-rest g c blocks rest =
    let u = unlinks g c in
    record { path = u.path ∙ rest.path; prepared = u.prepared ∙ rest.prepared; end = u.end ∙ rest.end; pieces = u.pieces ∙ rest.pieces }

pub returns-clause-unlinks : goal.returns-clause-unlinks
returns-clause-unlinks g c = unlinks g c
