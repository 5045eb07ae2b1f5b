use Rattle.iopt.proofs.running.text_in_turn.Goals as goal

pub reply_text-requires : goal.reply_text-requires
reply_text-requires c = c.in_ok-replies.ensures.told
