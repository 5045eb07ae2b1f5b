use Rattle.std.proofs.Common.{sym, subst}
use Rattle.pt_model.specs.Book.{IsLawful}
use Rattle.pt_space.specs.Standing.{Standing}
use Rattle.pt_reply.specs.Running.{blocks_of, book_in}
use Rattle.pt_reply.specs.Telling.{CutsLegalBlock}
use Rattle.pt_shared.proofs.Places.{said_legal}
use Rattle.pt_shared.proofs.part.SharedPart.cut_at.Goals as goal

pub returns-clause-told : goal.returns-clause-told
returns-clause-told g c =
    let f = g.F.Format.layout in
    let s = c.lease-lease.result in
    let lawful = subst (λ (x : Standing). IsLawful f x.view.levels (book_in x.view)) (sym c.lease-lease.ensures.same)
    (subst (λ (x : Standing). IsLawful f x.view.levels (book_in x.view)) c.self.view_is c.self.invariant.lawful) in
    subst (CutsLegalBlock f) (sym c.said.ensures)
    (said_legal f (book_in s.view) c.args.at lawful.legal c.self.invariant.small c.cut_at-done.result
    (c.cut_at-done.ensures.answered (blocks_of s.view.pieces) c.lease-lease.ensures.ready))
