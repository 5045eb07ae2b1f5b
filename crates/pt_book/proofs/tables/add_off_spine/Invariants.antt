use Rattle.std.proofs.Common.{◌≡◌, drop}
use Rattle.std.specs.Prelude.{filter, not}
use Rattle.pt_model.specs.Tables as tables
use Rattle.pt_model.specs.Sets.{IsSorted}
use Rattle.pt_book.proofs.tables.add_off_spine.Given as goal

-- the list with those that pass among what is left is the old one with all that pass
abbrev pub invariant-loop-position : goal.invariant-loop-position
invariant-loop-position l =
    IsSorted l.list.items
    × (tables.add_positions l.list.items (filter (λ p. not (tables.is_spine l.levels p)) (drop l.position-index l.needed))
    ≡ tables.add_positions l.initial.list.items (filter (λ p. not (tables.is_spine l.levels p)) l.needed))
