use Rattle.std.proofs.Common.{◌+◌, List, sym, subst, ◌∙◌}
use Rattle.std.specs.Prelude.{All}
use Rattle.std.proofs.lemmas.List.Elements.{All-filter, All-take}
use Rattle.pt_model.specs.declared.block.Block.{Block}
use Rattle.pt_model.specs.Layout.{IsLegalBlock}
use Rattle.pt_model.specs.Book.{lies_in}
use Rattle.pt_model.specs.Dumps.{dump_limit}
use Rattle.pt_book.proofs.list_book.ListBook.dump.Goals as goal

pub returns-clause-legal : goal.returns-clause-legal
returns-clause-legal g c =
    let s = c.self.inside in
    let legal = IsLegalBlock g.F.Format.layout in
    let inside = lies_in s.first (s.first + s.count) in
    let old : All legal c.deref.result.now = subst (λ (xs : List Block). All legal xs) (sym c.deref.ensures.value) c.self.invariant.1 in
    let within : All legal c.in_ok-inside.inside.items =
    subst (λ (xs : List Block). All legal xs) (sym c.in_ok-inside.ensures) (All-filter inside legal c.deref.result.now old) in
    subst (λ (xs : List Block). All legal xs) (sym (c.of.ensures ∙ c.truncate.ensures.items)) (All-take legal dump_limit c.in_ok-inside.inside.items within)
