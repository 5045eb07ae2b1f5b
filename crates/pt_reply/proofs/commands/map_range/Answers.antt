use Rattle.std.proofs.Common.{sym, subst}
use Rattle.pt_model.specs.declared.command.What.TheVariants.{Map}
use Rattle.pt_model.specs.declared.reply.Answer.TheVariants as answering
use Rattle.pt_model.specs.declared.reply.MapAnswer.{MapAnswer}
use Rattle.pt_reply.specs.Running.{AnswersAs, AnswersInPart, blocks_of}
use Rattle.pt_reply.proofs.MapFacts.{answers_alone, answers_in_part}
use Rattle.pt_reply.proofs.commands.map_range.Goals as goal

pub returns-clause-maps : goal.returns-clause-maps
returns-clause-maps g c =
    let f = g.F.Format.layout in
    let v = g.H.Holder.view c.args.holder.now in
    let w = g.H.Holder.view c.map.new.holder in
    subst (λ (a : MapAnswer). AnswersInPart f v w (Map c.args.va c.args.pa c.args.len c.args.prot) (answering.Map a)) (sym c.said.ensures)
    (answers_in_part f v w c.requires.ready c.args.va c.args.pa c.args.len c.args.prot (c.range-span.ensures.lawful (blocks_of v.pieces) c.requires.ready)
    g.H.Holder.tells c.map.result c.map.ensures.answered)

pub returns-clause-alone : goal.returns-clause-alone
returns-clause-alone g c alone none =
    let f = g.F.Format.layout in
    let v = g.H.Holder.view c.args.holder.now in
    let w = g.H.Holder.view c.map.new.holder in
    subst (λ (a : MapAnswer). AnswersAs f v w (Map c.args.va c.args.pa c.args.len c.args.prot) (answering.Map a)) (sym c.said.ensures)
    (answers_alone f v w c.requires.ready c.args.va c.args.pa c.args.len c.args.prot g.H.Holder.tells (g.H.Holder.aside c.args.holder.now) c.map.result none
    c.map.ensures.answered (c.map.ensures.accounted alone))
