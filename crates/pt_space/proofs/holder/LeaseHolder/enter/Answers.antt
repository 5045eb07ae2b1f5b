use Rattle.pt_space.proofs.holder.LeaseHolder.enter.Goals as goal

pub entry-frame-requires : goal.entry-frame-requires
entry-frame-requires g c = (c.requires.position, c.requires.entry)

pub enter_at-requires-clause-at : goal.enter_at-requires-clause-at
enter_at-requires-clause-at g c = record { lowest = c.entry-frame.ensures.lowest; a_frame = c.entry-frame.ensures.a_frame; place = c.entry-frame.ensures.place }
