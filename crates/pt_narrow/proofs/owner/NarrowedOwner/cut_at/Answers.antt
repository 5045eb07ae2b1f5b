use Rattle.std.proofs.Common.{◌≡◌, List, ap, sym, ◌∙◌, subst}
use Rattle.std.specs.Prelude.{All}
use Rattle.pt_model.specs.declared.block.Block.{Block}
use Rattle.pt_model.specs.Layout.{IsLegalBlock}
use Rattle.pt_model.specs.Book.{Book}
use Rattle.pt_model.specs.Cuts.{cut_refusal}
use Rattle.pt_model.specs.Run.{fork_answer}
use Rattle.pt_reply.specs.Running.{blocks_of, book_in}
use Rattle.pt_reply.specs.Telling.{CutsLegalBlock}
use Rattle.pt_narrow.specs.Standing.{Stand, over_span, place_of}
use Rattle.pt_narrow.proofs.Forks.{fork_said, refused_legal}
use Rattle.pt_narrow.proofs.Reaching.{cut_inside_alike}
use Rattle.pt_narrow.proofs.Stands.{within}
use Rattle.pt_narrow.proofs.owner.NarrowedOwner.cut_at.Given.{Over}
use Rattle.pt_narrow.proofs.owner.NarrowedOwner.cut_at.Goals as goal
use Rattle.pt_narrow.proofs.owner.NarrowedOwner.cut_at.Goals.{Joined-cut_at, in-Ok, in-Err-cut_at}

pub returns-in-Err-clause-told : goal.returns-in-Err-clause-told
returns-in-Err-clause-told g c =
    let f = g.F.Format.layout in
    let o = c.self.inside in
    let b : Book = book_in o.plain.view in
    let good = c.range-whole.ensures.lawful (blocks_of o.plain.view.pieces) c.self.invariant.ready in
    subst (CutsLegalBlock f) (sym c.refused_fork.ensures)
    (refused_legal f (over_span b o.first o.count) c.args.at good.legal c.self.invariant.small c.in-Err.why
    (c.in-Err.ensures.refused (over_span b o.first o.count) (λ i. o.first) (λ i. o.count)))

module _ (g : Over) (c : Joined-cut_at g) where
  abbrev b : Book
  b = book_in c.self.inside.plain.view

  same : cut_refusal g.F.Format.layout (over_span b c.self.inside.first c.self.inside.count) c.args.at ≡ cut_refusal g.F.Format.layout b c.args.at
  same =
      let inside = within b c.self.inside.first c.self.inside.count _ c.self.invariant.stands in
      cut_inside_alike g.F.Format.layout b c.self.inside.first c.self.inside.count inside.0 inside.1 c.args.at c.in_default.field-0 c.in_default.ensures.found

  abbrev blocks : List Block
  blocks = blocks_of c.self.inside.plain.view.pieces

  legal : All (IsLegalBlock g.F.Format.layout) blocks
  legal = (c.range-whole.ensures.lawful blocks c.self.invariant.ready).legal

pub returns-clause-answers : goal.returns-clause-answers
returns-clause-answers g c =
    let f = g.F.Format.layout in
    subst (λ (x : Stand). c.match-cut_at.result ≡ fork_answer (place_of f x).machine (place_of f x).book c.args.at) c.self.view_is
    (elim c.match-cut_at.branch [
      | in-Ok w ↦ w.result-is ∙ ap fork_said (sym (same g c ∙ w.in-Ok.ensures.answered (blocks g c) c.self.invariant.ready))
      | in-Err-cut_at w ↦
          w.result-is ∙ w.refused_fork-in-Err-cut_at.ensures
          ∙ ap fork_said (sym (same g c ∙ w.in-Err-cut_at.ensures.answered (blocks g c) c.self.invariant.ready))
    ])

pub returns-clause-told : goal.returns-clause-told
returns-clause-told g c =
    let f = g.F.Format.layout in
    elim c.match-cut_at.branch [
      | in-Ok w ↦ subst (CutsLegalBlock f) (sym w.result-is) tt
      | in-Err-cut_at w ↦
          subst (CutsLegalBlock f) (sym (w.result-is ∙ w.refused_fork-in-Err-cut_at.ensures))
          (refused_legal f (b g c) c.args.at (legal g c) c.self.invariant.small w.in-Err-cut_at.why
          (w.in-Err-cut_at.ensures.answered (blocks g c) c.self.invariant.ready))
    ]
