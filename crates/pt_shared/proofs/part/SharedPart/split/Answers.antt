use Rattle.std.proofs.Common.{◌≡◌, ℕ, ◌-◌, ◌≤◌, length, ap, sym, subst, ◌∙◌, None}
use Rattle.pt_model.specs.Book.{span_end}
use Rattle.pt_model.specs.Cuts.{cut_refusal, part_of}
use Rattle.pt_rule.specs.Cuts.{MaySplit}
use Rattle.pt_space.specs.Standing.{Standing}
use Rattle.pt_space.proofs.PartBooks.{may_split}
use Rattle.pt_reply.specs.Running.{book_in}
use Rattle.pt_reply.proofs.RestBlocks.{ready_at}
use Rattle.pt_beside.specs.Places.{IsSplit, Place}
use Rattle.pt_shared.specs.Parts.{place_of}
use Rattle.pt_shared.proofs.Places.{left_place, may_split_book, rests_with, right_place}
use Rattle.pt_shared.proofs.part.SharedPart.split.Goals as goal

pub split-left-requires : goal.split-left-requires
split-left-requires g c =
    let f = g.F.Format.layout in
    let s = c.lease.result in
    let ok = subst (λ (x : Standing). cut_refusal f (book_in x.view) c.args.at ≡ None) (sym c.lease.ensures.same) c.requires.admitted in
    let frames = subst (λ (x : Standing). c.args.left_frames ≤ length x.view.purse) (sym c.lease.ensures.same) c.requires.frames in
    subst (λ (page : ℕ). MaySplit f page c.args.left_frames s.view) (sym c.page_under.ensures.page)
    (may_split (book_in s.view) (rests_with f s.view c.lease.ensures.ready) (may_split_book f s.view c.args.at c.args.left_frames ok frames))

pub of-requires-clause-ready : goal.of-requires-clause-ready
of-requires-clause-ready g c =
    let f = g.F.Format.layout in
    let v = c.lease.result.view in
    ready_at f c.split-left.result.0.view (c.split-left.ensures.books.left_book (book_in v) (rests_with f v c.lease.ensures.ready)).at_rest

pub of-requires-2-clause-ready : goal.of-requires-2-clause-ready
of-requires-2-clause-ready g c =
    let f = g.F.Format.layout in
    let v = c.lease.result.view in
    ready_at f c.split-left.result.1.view (c.split-left.ensures.books.right_book (book_in v) (rests_with f v c.lease.ensures.ready)).at_rest

pub returns : goal.returns
returns g c =
    let f = g.F.Format.layout in
    let s = c.lease.result in
    let kept = c.args.left_frames in
    let parts = c.split-left.ensures in
    let books = parts.books in
    let rests = rests_with f s.view c.lease.ensures.ready in
    let frames = subst (λ (x : Standing). c.args.left_frames ≤ length x.view.purse) (sym c.lease.ensures.same) c.requires.frames in
    let left = left_place f s c.split-left.result.0 c.page_under.result kept parts.space.0 parts.left (books.left_book (book_in s.view) rests) frames in
    let right = right_place f s c.split-left.result.1 c.page_under.result kept parts.space.1 parts.right (books.right_book (book_in s.view) rests) in
    subst (λ (x : Standing). IsSplit (place_of f x) c.args.at kept (place_of f c.of.result) (place_of f c.of-2.result)) c.lease.ensures.same
    (record {
      left_is = ap (place_of f) c.of.ensures ∙ left
          ∙ ap (λ (page : ℕ). (let p : Place = record (place_of f s) { book = part_of f (book_in s.view) s.view.first page; purse = kept } in p)) c.page_under.ensures.page;
      right_is = ap (place_of f) c.of-2.ensures ∙ right
          ∙ ap (λ (page : ℕ). (let p : Place = record (place_of f s) { book = part_of f (book_in s.view) page (span_end (book_in s.view)); purse = length s.view.purse - kept } in p))
          c.page_under.ensures.page;
    })
