use Rattle.std.proofs.Common.{◌≡◌, arith}
use Rattle.pt_model.specs.Pages.{page_under}
use Rattle.pt_format.proofs.PageFacts.{under_small}
use Rattle.pt_book.proofs.Refusing.{page_is}
use Rattle.pt_book.proofs.list_book.ListBook.is_outside.Goals as goal

pub overflow_add-page : goal.overflow_add-page
overflow_add-page g c =
    let f = g.F.Format.layout in
    let page : c.in-Some.page ≡ page_under f c.args.address = page_is f c.args.address c.in-Some.page c.in-Some.ensures in
    omega (arith, page, under_small f c.args.address g.met.F.Format.lawful_layout)
