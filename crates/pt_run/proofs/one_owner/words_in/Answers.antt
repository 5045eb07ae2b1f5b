use Rattle.pt_run.proofs.RunFacts.{last_of_one}
use Rattle.pt_run.proofs.one_owner.words_in.Goals as goal

pub returns : goal.returns
returns g c =
    last_of_one c.args.script.now g.F.Format.layout c.in_ok-words.words.items c.in_ok-words.field-0-1.items c.requires.name c.in_ok-words.ensures
