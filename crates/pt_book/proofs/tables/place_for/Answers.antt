use Rattle.std.proofs.Common.{◌≡◌, ℕ, ◌-◌, true, get_or, sym, subst, arith}
use Rattle.pt_model.specs.Tables as tables
use Rattle.pt_book.proofs.PositionFacts.{add_first, add_between, add_known}
use Rattle.pt_book.proofs.tables.place_for.Goals as goal

pub returns-then-is_before : goal.returns-then-is_before
returns-then-is_before c = (
  omega arith,
  add_between c.args.list.now (c.loop-last.last - 1) _ c.loop-last.last c.args.position _ (omega arith) (omega arith) c.requires (omega arith) (sym c.if-is_before.ensures) (c.loop-last.invariant _),
)

pub returns-then-not-is_before : goal.returns-then-not-is_before
returns-then-not-is_before c =
    add_known c.args.list.now (c.loop-last.last - 1) c.args.position _ c.requires (omega arith) (sym c.if-is_before.ensures) (sym c.if-not-is_before.ensures)

pub returns : goal.returns
returns c =
    let xs = c.args.list.now in
    let p = c.args.position in
    let first : c.loop-last.last ≡ 0 = omega arith in (
      omega arith,
      add_first xs p p (λ h. subst (λ (k : ℕ). tables.is_before p (get_or xs k p) ≡ true) first (c.loop-last.invariant p (omega arith))),
    )
