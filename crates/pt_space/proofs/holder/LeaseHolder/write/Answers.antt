use Rattle.pt_space.proofs.holder.LeaseHolder.write.Goals as goal

pub entry-frame-requires : goal.entry-frame-requires
entry-frame-requires g c = (c.requires.2.position, c.requires.2.entry)

pub write_at-requires-clause-at : goal.write_at-requires-clause-at
write_at-requires-clause-at g c = record { lowest = c.entry-frame.ensures.lowest; a_frame = c.entry-frame.ensures.a_frame; place = c.entry-frame.ensures.place }
