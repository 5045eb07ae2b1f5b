use Rattle.std.proofs.Common.{◌≡◌, ◌+◌, ◌≤◌, length, drop}
use Rattle.std.specs.Prelude.{filter, not}
use Rattle.pt_model.specs.Book.{is_linked}
use Rattle.pt_book.proofs.list_book.ListBook.count_missing.Given as goal

-- those counted and those that are missing among what is left are all that are missing
abbrev pub invariant-loop-position : goal.invariant-loop-position
invariant-loop-position g l =
    (l.missing ≤ l.position-index)
    × (l.missing + length (filter (λ p. not (is_linked l.self.levels l.self.book p)) (drop l.position-index l.needed))
    ≡ length (filter (λ p. not (is_linked l.self.levels l.self.book p)) l.needed))
