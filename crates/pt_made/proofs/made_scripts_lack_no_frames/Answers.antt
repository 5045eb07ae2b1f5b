use Rattle.std.proofs.Common.{List, false, sym, subst, arith}
use Rattle.std.proofs.lemmas.Bool.{false≢true}
use Rattle.pt_model.specs.declared.command.Command.{Command}
use Rattle.pt_laws.specs.OneText.{IsNested}
use Rattle.pt_names.specs.Names.{layout_of}
use Rattle.pt_made.specs.Formats.{machine_in}
use Rattle.pt_made.proofs.Names.{numbers_of}
use Rattle.pt_made.proofs.Nested.{body_nested}
use Rattle.pt_made.proofs.made_scripts_lack_no_frames.Goals as goal

pub returns : goal.returns
returns c number s made =
    let legal = c.scripts_are_legal.ensures s in
    let hold = made.hold in
    c.hold_is_ample.ensures (machine_in s) s.hold s.body s.tail (λ line. false) (numbers_of s.format).pages
    (subst (λ (cs : List Command). IsNested cs) (sym made.body) (body_nested (layout_of s.format) number))
    legal.few_held (omega arith) (λ line e. absurd (false≢true e))
