use Rattle.std.proofs.Common.{rules, ℕ, List, [], ◌∷◌, refl, sym, subst}
use Rattle.std.specs.Prelude.{Option}
use Rattle.pt_rule.specs.Opening.{IsNew}
use Rattle.pt_plain.proofs.Laws.{Laws}
use Rattle.pt_plain.proofs.Opens.{Made, makes}
use Rattle.pt_plain.proofs.plain.Plain.make.Given.{Over}
use Rattle.pt_plain.proofs.plain.Plain.make.Goals as goal
use Rattle.pt_plain.proofs.plain.Plain.make.Goals.{After-first_frame}

module _ (g : Over) (c : After-first_frame g) where
  abbrev words : List ℕ
  words = c.in_ok-words.words.items

  abbrev path : List ℕ
  path = 0 ∷ (0 ∷ (0 ∷ (0 ∷ (0 ∷ (0 ∷ (0 ∷ (0 ∷ [])))))))

  abbrev laws : Laws g.F.Format.layout
  laws = let law = g.met.F.Format in record { layout = law.lawful_layout; differ = law.words_differ; agree = law.steps_agree }

  new : IsNew g.F.Format.layout c.args.frames c.args.levels c.args.hold words
  new = search rules

  made : Made g.F.Format.layout c.args.frames c.args.levels c.args.hold words c.first_frame.result path
  made = subst (λ (h : Option ℕ). Made g.F.Format.layout c.args.frames c.args.levels c.args.hold words h path) (sym c.first_frame.ensures)
      (makes laws new c.requires.few c.requires.hold c.requires.low c.requires.high path refl)

pub invariant_of-result : goal.invariant_of-result
invariant_of-result g c = (made g c).owner

pub returns-clause-words : goal.returns-clause-words
returns-clause-words g c = new g c

pub returns-clause-opened : goal.returns-clause-opened
returns-clause-opened g c = (made g c).opened

pub returns-clause-aside : goal.returns-clause-aside
returns-clause-aside g c = (made g c).aside
