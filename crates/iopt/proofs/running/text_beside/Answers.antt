use Rattle.iopt.proofs.running.text_beside.Goals as goal

pub reply_text-requires : goal.reply_text-requires
reply_text-requires g c = c.in_ok-replies.ensures.told
