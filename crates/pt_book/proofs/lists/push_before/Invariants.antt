use Rattle.std.proofs.Common.{◌≡◌, ◌++◌, drop}
use Rattle.std.specs.Prelude.{filter, nat_lt, not}
use Rattle.pt_book.proofs.lists.push_before.Given as goal

-- those pushed and those that pass among what is left are all that pass; and the rest lies in what is left
abbrev pub invariant-loop-next : goal.invariant-loop-next
invariant-loop-next l =
    (l.out.items ++ filter (λ n. nat_lt n.first l.page) (drop l.next l.blocks)
    ≡ l.initial.out.items ++ filter (λ n. nat_lt n.first l.page) (drop l.from l.blocks))
    × (filter (λ n. not (nat_lt n.first l.page)) (drop l.next l.blocks) ≡ filter (λ n. not (nat_lt n.first l.page)) (drop l.from l.blocks))
