use Rattle.std.proofs.Common.{◌≡◌, ℕ, ◌+◌, ◌%◌, refl, ap, sym, ◌∙◌, subst, arith}
use Rattle.std.specs.Prelude.{slice_index}
use Rattle.std.proofs.lemmas.List.{get_or_default}
use Rattle.pt_plain.specs.Owner.{Owned}
use Rattle.pt_plain.proofs.Laws.{Laws}
use Rattle.pt_plain.proofs.Owners.{kept_aside, seen}
use Rattle.pt_plain.proofs.PathCalls as path
use Rattle.pt_plain.proofs.holder.PlainHolder.root.Given.{Over}
use Rattle.pt_plain.proofs.holder.PlainHolder.root.Goals as goal
use Rattle.pt_plain.proofs.holder.PlainHolder.root.Goals.{After-index-root, After-root_frame}

laws : (g : Over) → Laws g.F.Format.layout
laws g = let law = g.met.F.Format in record { layout = law.lawful_layout; differ = law.words_differ; agree = law.steps_agree }

-- what was loaded is the root's word
loaded : (g : Over) (c : After-index-root g) → c.index-root.result.now ≡ slice_index c.self.inside.words.items 0
loaded g c =
    let long = c.self.invariant.lawful.sizes.words_are in
    c.index-root.ensures ∙ get_or_default c.self.inside.words.items 0 c.index-root.result.now 0 (omega arith)

pub root_level-level-requires : goal.root_level-level-requires
root_level-level-requires g e = λ fixed.
    let c = (goal.at.root_level-level-requires g e).After-index-root in
    subst (λ (z : ℕ). z % 8 + 1 ≡ g.F.Format.layout.levels) (sym (loaded g c)) (path.fixed_root (laws g).layout c.self.invariant fixed)

module _ (g : Over) (c : After-root_frame g) where
  call : path.RootedAt c.self.invariant c.root_frame.result c.root_level-level.result
  call = path.root (laws g) c.self.invariant (ap (λ (x : Owned). x.view.path) c.self.view_is ∙ c.requires) c.index-root.result.now c.root_frame.result c.root_level-level.result
      (loaded g (goal.at.After-root_frame g c).After-index-root) c.root_frame.ensures c.root_level-level.ensures

pub invariant_of-self : goal.invariant_of-self
invariant_of-self g c = (call g (goal.at.invariant_of-self g c).After-root_frame).owner

pub returns-clause-stays : goal.returns-clause-stays
returns-clause-stays g c = record { same_space = refl; same_aside = kept_aside (call g (goal.at.returns-clause-stays g c).After-root_frame) c.self.view_is; still_alone = λ a. a }

pub returns-clause-rooted : goal.returns-clause-rooted
returns-clause-rooted g c = seen (call g (goal.at.returns-clause-rooted g c).After-root_frame) c.self.view_is
