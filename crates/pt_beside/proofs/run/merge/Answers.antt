use Rattle.std.proofs.Common.{ap, ◌∙◌, ◌++◌, List, append_assoc}
use Rattle.pt_model.specs.declared.reply.Reply.{Reply}
use Rattle.pt_beside.proofs.run.merge.Goals as goal

pub returns : goal.returns
returns c = record {
  one = c.in_ok-left.left;
  two = c.in_ok-right.right;
  left_is = c.in_ok-left.was;
  right_is = c.in_ok-right.was;
  put = c.in_ok-append-2.ensures.items ∙ ap (λ (rs : List Reply). rs ++ c.in_ok-right.right.items) c.in_ok-append.ensures.items
      ∙ append_assoc c.args.replies.now.items c.in_ok-left.left.items c.in_ok-right.right.items;
}
