use Rattle.space_cases.proofs.Lengths.{is_space}
use Rattle.space_cases.proofs.words.find.Goals as goal

pub returns : goal.returns
returns g c = is_space _ _ c.args.words.now c.requires
