use Rattle.std.proofs.Common.{◌≡◌, ap, sym, subst, ◌∙◌}
use Rattle.pt_model.specs.Cuts.{joined}
use Rattle.pt_space.specs.Standing.{Standing}
use Rattle.pt_space.specs.Books.{RestsWith}
use Rattle.pt_reply.specs.Running.{book_in}
use Rattle.pt_reply.proofs.RestBlocks.{ready_at}
use Rattle.pt_beside.specs.Places.{both}
use Rattle.pt_shared.specs.Parts.{place_of}
use Rattle.pt_shared.proofs.Places.{both_place, rests_with}
use Rattle.pt_shared.proofs.part.SharedPart.join.Goals as goal

pub of-requires-clause-ready : goal.of-requires-clause-ready
of-requires-clause-ready g c =
    let f = g.F.Format.layout in
    let l = c.lease.result.view in let r = c.lease-2.result.view in
    let rests : RestsWith f c.in-Ok.both.view (joined (book_in l) (book_in r)) =
    c.in-Ok.ensures.books (book_in l) (book_in r) (rests_with f l c.lease.ensures.ready) (rests_with f r c.lease-2.ensures.ready) in
    ready_at f c.in-Ok.both.view rests.at_rest

pub returns-in-Ok : goal.returns-in-Ok
returns-in-Ok g c =
    let f = g.F.Format.layout in
    let l = c.lease.result in let r = c.lease-2.result in
    let rests : RestsWith f c.in-Ok.both.view (joined (book_in l.view) (book_in r.view)) =
    c.in-Ok.ensures.books (book_in l.view) (book_in r.view) (rests_with f l.view c.lease.ensures.ready) (rests_with f r.view c.lease-2.ensures.ready) in
    ap (place_of f) c.of.ensures ∙ both_place f l r c.in-Ok.both c.in-Ok.ensures.ok.0 c.in-Ok.ensures.ok.1 rests
    ∙ ap (λ (x : Standing). both (place_of f x) (place_of f r)) c.lease.ensures.same ∙ ap (λ (x : Standing). both (place_of f c.args.self) (place_of f x)) c.lease-2.ensures.same
