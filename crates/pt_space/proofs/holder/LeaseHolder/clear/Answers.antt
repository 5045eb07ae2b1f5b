use Rattle.pt_space.proofs.holder.LeaseHolder.clear.Goals as goal

pub entry-frame-requires : goal.entry-frame-requires
entry-frame-requires g c = (c.requires.1.position, c.requires.1.entry)

pub clear_at-requires-clause-at : goal.clear_at-requires-clause-at
clear_at-requires-clause-at g c = record { lowest = c.entry-frame.ensures.lowest; a_frame = c.entry-frame.ensures.a_frame; place = c.entry-frame.ensures.place }
