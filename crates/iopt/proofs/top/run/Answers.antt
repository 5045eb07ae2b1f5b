use Rattle.std.proofs.Common.{subst, Some}
use Rattle.pt_stream.specs.Rooms.{IsCutOff, IsPut}
use Rattle.iopt.specs.Words.{AskFor, AskToMake}
use Rattle.iopt.proofs.PutFacts.{put_made}
use Rattle.iopt.proofs.top.run.Goals as goal

pub returns-in-Some-Make-clause-cut_off : goal.returns-in-Some-Make-clause-cut_off
returns-in-Some-Make-clause-cut_off g c fails =
    put_made c.args.words.now c.in-Some-Make.number (g.S.Source.left c.args.source.now) (g.S.Source.left c.args.source.now)
    (IsCutOff (g.K.Sink.room c.args.sink.now) (g.K.Sink.held c.args.sink.now) (g.K.Sink.held c.run_made.new.sink)) (subst (λ t. AskFor c.args.words.now (Some t)) c.in-Some-Make.field-0-is c.in-Some-Make.ensures) (c.run_made.ensures.cut_off fails)

pub returns-in-Some-Make-clause-done : goal.returns-in-Some-Make-clause-done
returns-in-Some-Make-clause-done g c done =
    put_made c.args.words.now c.in-Some-Make.number (g.S.Source.left c.args.source.now) (g.S.Source.left c.args.source.now)
    (IsPut (g.K.Sink.room c.args.sink.now) (g.K.Sink.held c.args.sink.now) (g.K.Sink.held c.run_made.new.sink)) (subst (λ t. AskFor c.args.words.now (Some t)) c.in-Some-Make.field-0-is c.in-Some-Make.ensures) (c.run_made.ensures.done done)
