use Rattle.iopt.proofs.PutFacts.{made_summary}
use Rattle.iopt.proofs.running.summary_of.Goals as goal

pub returns : goal.returns
returns g c =
    made_summary c.args.number c.in_ok-script.script c.in_ok-replies.replies c.all.result.now (λ v. v.items) c.summary_text.result
    c.made_scripts_lack_no_frames.ensures c.ample_run_is_plain.ensures c.in_ok-script.ensures c.in_ok-replies.ensures c.all.ensures c.summary_text.ensures
