use Rattle.std.proofs.Common.{arith, length-drop, subst, sym, ap, ◌∙◌}
use Rattle.std.proofs.lemmas.List.{take_rest}
use Rattle.pt_stream.proofs.Pieces.{all_put, appended_fits, appended_next, cut_off, err_goal}
use Rattle.pt_stream.specs.Rooms.{IsFull, IsWithin}
use Rattle.pt_stream.proofs.whole.write_all.Goals as goal

pub pieces-preserved : goal.pieces-preserved
pieces-preserved g c =
    let put = rw (take_rest c.args.bytes.now c.pieces.done) at c.in_ok-done.ensures.bytes in
    let most = rw (take_rest c.args.bytes.now c.pieces.done) at c.in_ok-done.ensures.bound in
    let same = c.in_ok-done.ensures.room.same ∙ c.pieces.invariant.same in
    let appended = appended_next _ _ _ c.args.bytes.now c.pieces.done c.in_ok-done.field-0 c.pieces.invariant.appended put in
    record {
      within = omega (arith, most, length-drop c.pieces.done c.args.bytes.now);
      appended = appended;
      same = same;
      fits = appended_fits _ _ _ _ appended (subst (λ r. IsWithin r (g.K.Sink.held c.put.new.self)) same c.in_ok-done.ensures.room.within);
      later = omega (arith, c.in_ok-done.ensures.cause.later);
    }

pub returns-in_err-done-clause-part : goal.returns-in_err-done-clause-part
returns-in_err-done-clause-part g c =
    let same = c.in_err-done.ensures.room.same ∙ c.pieces.invariant.same in
    err_goal c.from_residual.result _
    (cut_off (g.K.Sink.room c.args.sink.now) (g.K.Sink.held c.args.sink.now) (g.K.Sink.held c.pieces.sink) (g.K.Sink.held c.put.new.self) c.args.bytes.now c.pieces.done
    c.pieces-test.true c.pieces.invariant.appended c.in_err-done.ensures.bytes
    (subst (λ r. IsFull r (g.K.Sink.held c.put.new.self)) same c.in_err-done.ensures.room.failed))

pub returns-in_err-done-clause-room : goal.returns-in_err-done-clause-room
returns-in_err-done-clause-room g c = c.in_err-done.ensures.room.same ∙ c.pieces.invariant.same

pub returns-clause-all : goal.returns-clause-all
returns-clause-all g c =
    all_put (g.K.Sink.room c.args.sink.now) (g.K.Sink.held c.args.sink.now) (g.K.Sink.held c.pieces.sink) c.args.bytes.now c.pieces.done
    (omega (arith, c.pieces-test.false)) c.pieces.invariant.appended c.pieces.invariant.fits

pub returns-clause-room : goal.returns-clause-room
returns-clause-room g c = c.pieces.invariant.same
