use Rattle.pt_tile.proofs.tables.tables_over.Goals as goal

pub whole_part-requires-clause-a_size : goal.whole_part-requires-clause-a_size
whole_part-requires-clause-a_size c = rw c.in-Some.is at c.requires.small
