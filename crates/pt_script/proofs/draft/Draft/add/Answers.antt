use Rattle.pt_script.proofs.DraftLemmas.{draft_behind}
use Rattle.pt_script.proofs.draft.Draft.add.Goals as goal

pub returns-clause-draft : goal.returns-clause-draft
returns-clause-draft c =
    let d = c.args.self.now in
    let p = d.progress in
    draft_behind p.stage p.forks.items p.lines c.args.line d.commands.items d.asks.items c.requires.draft c.requires.stands c.advance.new.self.stage c.number-number.result c.advance.new.self.lines
    c.keep_command.new.commands.items c.keep_ask.new.asks.items c.advance.ensures.stage c.number-number.ensures c.advance.ensures.lines c.in_ok-keep_command.ensures c.in_ok-keep_ask.ensures
