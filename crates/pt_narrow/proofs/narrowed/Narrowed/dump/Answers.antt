use Rattle.std.proofs.Common.{◌+◌}
use Rattle.pt_view.specs.declared.view.View.{View}
use Rattle.pt_reply.specs.Running.{blocks_of, book_in}
use Rattle.pt_narrow.specs.Standing.{LeavesApart}
use Rattle.pt_narrow.proofs.Stands.{ends_apart, lawful_ends, within}
use Rattle.pt_narrow.proofs.narrowed.Narrowed.dump.Given.{Over}
use Rattle.pt_narrow.proofs.narrowed.Narrowed.dump.Goals as goal
use Rattle.pt_narrow.proofs.narrowed.Narrowed.dump.Goals.{After-range-whole}

pub dump-requires-clause-span : goal.dump-requires-clause-span
dump-requires-clause-span g c =
    let o = c.self.inside in
    let inside = within (book_in o.plain.view) o.first o.count _ c.self.invariant.stands in
    record { from = inside.0; to = inside.1 }

apart : (g : Over) (c : After-range-whole g) →
    LeavesApart (book_in c.self.inside.plain.view) c.self.inside.first × LeavesApart (book_in c.self.inside.plain.view) (c.self.inside.first + c.self.inside.count)
apart g c =
    let o = c.self.inside in
    let v : View = o.plain.view in
    let ends = lawful_ends g.F.Format.layout v.levels (book_in v) (c.range-whole.ensures.lawful (blocks_of v.pieces) c.self.invariant.ready) in
    ends_apart (book_in v) o.first o.count _ ends.0 ends.1 c.self.invariant.stands

pub dump-requires-clause-from : goal.dump-requires-clause-from
dump-requires-clause-from g c = (apart g (goal.at.dump-requires-clause-from g c).After-range-whole).0

pub dump-requires-clause-to : goal.dump-requires-clause-to
dump-requires-clause-to g c = (apart g (goal.at.dump-requires-clause-to g c).After-range-whole).1
