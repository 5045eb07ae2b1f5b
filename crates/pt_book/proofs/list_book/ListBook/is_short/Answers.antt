use Rattle.std.proofs.Common.{◌≡◌, ◌+◌, ◌/◌, ◌^◌, List, length, ap, ap₂, ◌∙◌}
use Rattle.std.specs.Prelude.{filter, nat_lt, not}
use Rattle.pt_model.specs.declared.position.Position.{Position}
use Rattle.pt_model.specs.Pages.{page_under}
use Rattle.pt_model.specs.Tiling.{tiling}
use Rattle.pt_model.specs.Tables.{all_needed}
use Rattle.pt_model.specs.Book.{is_linked}
use Rattle.pt_book.specs.Spaces.{Space}
use Rattle.pt_book.proofs.list_book.ListBook.is_short.Goals as goal

pub returns : goal.returns
returns g c =
    let f = g.F.Format.layout in
    let space = c.args.self.now in
    let new = tiling f c.args.prot (page_under f c.args.va) (c.args.pa / 2 ^ f.granule) (c.args.len / 2 ^ f.granule) in
    let levels : c.self.inside.levels ≡ space.levels = ap (λ (s : Space). s.levels) c.self.view_is in
    let needed : c.deref-2.result.now ≡ all_needed f space.levels new =
    c.deref-2.ensures.value ∙ c.in_ok-needed.ensures ∙ ap₂ (all_needed f) levels (c.deref.ensures.value ∙ c.in_ok-new.ensures.tiling) in
    ap₂ (λ m n. nat_lt m n) c.from.ensures
    (ap₂ (λ m n. m + n) c.linked_count-linked.ensures
    (c.count_missing.ensures ∙ ap (λ (ps : List Position). length (filter (λ p. not (is_linked space.levels space.book p)) ps)) needed))
