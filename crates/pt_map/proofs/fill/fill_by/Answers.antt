use Rattle.pt_map.proofs.FilledParts.{may_inside, may_into, may_leave, room_into}
use Rattle.pt_map.proofs.FillTurns.{fills_entry, lacking_below}
use Rattle.pt_map.proofs.fill.fill_by.Goals as goal

-- The extent lies under one entry.

pub go_into-requires-clause-may : goal.go_into-requires-clause-may
go_into-requires-clause-may g c = may_into g.met.F.Format.lawful_layout c.requires.may.store (c.requires.one c.if-one.true).1

pub go_into-requires-clause-room : goal.go_into-requires-clause-room
go_into-requires-clause-room g c =
    (c.requires.may.lacking, room_into g.met.F.Format.lawful_layout c.requires.may.store (c.requires.one c.if-one.true).1 c.requires.may.lacking c.requires.may.room)

pub fill_lowest-requires : goal.fill_lowest-requires
fill_lowest-requires g c =
    let good = g.met.F.Format.lawful_layout in
    let entry = (c.requires.one c.if-one.true).1 in
    let lacking = lacking_below good c.requires.may entry c.go_into.ensures.deeper c.go_into.ensures.spends in
    record { store = may_inside good c.requires.may.store entry c.go_into.ensures.deeper; lacking = lacking.0; room = lacking.1 }

pub leave-requires : goal.leave-requires
leave-requires g c = may_leave g.met.F.Format.lawful_layout c.requires.may.store (c.requires.one c.if-one.true).1 c.go_into.ensures.deeper c.fill_lowest.ensures.fills.filled

pub returns-then-one-clause-fills : goal.returns-then-one-clause-fills
returns-then-one-clause-fills g c =
    fills_entry g.met.F.Format.lawful_layout c.requires.may (c.requires.one c.if-one.true).1 c.go_into.ensures.deeper c.go_into.ensures.spends c.leave.ensures.left c.fill_lowest.ensures.fills
