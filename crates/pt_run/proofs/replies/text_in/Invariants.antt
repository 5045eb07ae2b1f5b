use Rattle.std.proofs.Common.{◌≡◌, ◌++◌, drop}
use Rattle.pt_model.specs.Text.{replies_text}
use Rattle.pt_forks.specs.Running.{AreTold}
use Rattle.pt_reply.specs.Telling.{IsTellable}
use Rattle.pt_run.proofs.replies.text_in.Given as goal

-- the text so far and that of the replies that are left are the text of all
abbrev pub invariant-loop-reply : goal.invariant-loop-reply
invariant-loop-reply g l =
    record {
      told : AreTold (IsTellable g.F.Format.layout) (drop l.reply-index l.replies);
      text : l.text.items ++ replies_text g.F.Format.layout (drop l.reply-index l.replies) ≡ replies_text g.F.Format.layout l.replies;
    }
