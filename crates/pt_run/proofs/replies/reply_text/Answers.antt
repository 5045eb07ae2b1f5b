use Rattle.std.proofs.Common.{◌≡◌, List, subst}
use Rattle.pt_model.specs.declared.command.Name.{Name}
use Rattle.pt_model.specs.declared.reply.Reply.{Reply}
use Rattle.pt_forks.specs.Running.{AreTold}
use Rattle.pt_reply.specs.Telling.{IsTellable}
use Rattle.pt_names.specs.Names.{layout_of}
use Rattle.pt_run.proofs.replies.reply_text.Goals as goal

-- what is told of the replies in a format is told of them by its name
told : (rs : List Reply) {name named : Name} → name ≡ named → AreTold (IsTellable (layout_of name)) rs → AreTold (IsTellable (layout_of named)) rs
told rs same = subst (λ (n : Name). AreTold (IsTellable (layout_of n)) rs) same

pub text_in-requires : goal.text_in-requires
text_in-requires c = told c.args.replies.now c.in-AmdV1.is c.requires

pub text_in-requires-in-VtdSs3 : goal.text_in-requires-in-VtdSs3
text_in-requires-in-VtdSs3 c = told c.args.replies.now c.in-VtdSs3.is c.requires

pub text_in-requires-in-VtdSs4 : goal.text_in-requires-in-VtdSs4
text_in-requires-in-VtdSs4 c = told c.args.replies.now c.in-VtdSs4.is c.requires

pub text_in-requires-in-VtdSs5 : goal.text_in-requires-in-VtdSs5
text_in-requires-in-VtdSs5 c = told c.args.replies.now c.in-VtdSs5.is c.requires

pub text_in-requires-in-X86L4 : goal.text_in-requires-in-X86L4
text_in-requires-in-X86L4 c = told c.args.replies.now c.in-X86L4.is c.requires

pub text_in-requires-in-X86L5 : goal.text_in-requires-in-X86L5
text_in-requires-in-X86L5 c = told c.args.replies.now c.in-X86L5.is c.requires

pub text_in-requires-in-Vmsa4 : goal.text_in-requires-in-Vmsa4
text_in-requires-in-Vmsa4 c = told c.args.replies.now c.in-Vmsa4.is c.requires

pub text_in-requires-in-Vmsa16 : goal.text_in-requires-in-Vmsa16
text_in-requires-in-Vmsa16 c = told c.args.replies.now c.in-Vmsa16.is c.requires

pub text_in-requires-in-Vmsa64 : goal.text_in-requires-in-Vmsa64
text_in-requires-in-Vmsa64 c = told c.args.replies.now c.in-Vmsa64.is c.requires

pub text_in-requires-in-Sv39 : goal.text_in-requires-in-Sv39
text_in-requires-in-Sv39 c = told c.args.replies.now c.in-Sv39.is c.requires

pub text_in-requires-in-Sv48 : goal.text_in-requires-in-Sv48
text_in-requires-in-Sv48 c = told c.args.replies.now c.in-Sv48.is c.requires

pub text_in-requires-in-Sv57 : goal.text_in-requires-in-Sv57
text_in-requires-in-Sv57 c = told c.args.replies.now c.in-Sv57.is c.requires
