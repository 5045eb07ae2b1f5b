use Rattle.std.proofs.Common.{◌≡◌, ◌++◌, drop}
use Rattle.pt_model.specs.Run.{ask_replies}
use Rattle.pt_view.specs.Views.{book_of}
use Rattle.pt_closed.specs.Closed.{IsClosed}
use Rattle.pt_reply.specs.Built.{machine}
use Rattle.pt_run.proofs.asks.answer_asks.Given as goal

-- the replies so far and those to what is left to ask are the replies to all
abbrev pub invariant-loop-ask : goal.invariant-loop-ask
invariant-loop-ask g l =
    (closed : IsClosed g.F.Format.layout l.frames l.words) →
    l.replies.items ++ ask_replies (machine g.F.Format.layout closed.levels l.frames) (book_of closed.view closed.blocks) (drop l.ask-index l.asks)
    ≡ l.initial.replies.items ++ ask_replies (machine g.F.Format.layout closed.levels l.frames) (book_of closed.view closed.blocks) l.asks
