use Rattle.std.proofs.Common.{arith}
use Rattle.pt_view.proofs.Stays.{stays_here, stays_on}
use Rattle.pt_space.proofs.Showing.{entries_few}
use Rattle.pt_space.proofs.Looks as looks
use Rattle.pt_space.specs.Standing.{IsEntryPlace}
use Rattle.pt_space.proofs.EntryPlaces.{first_entry, place_on}
use Rattle.pt_space.proofs.holder.LeaseHolder.empty_run.Goals as goal

pub loop-i-init : goal.loop-i-init
loop-i-init g c = record { stays = stays_here; looked = looks.looked_none }

pub entry-frame-requires : goal.entry-frame-requires
entry-frame-requires g c = (c.requires.position, first_entry (c.requires.entry 0 c.requires.some))

pub overflow_add-place : goal.overflow_add-place
overflow_add-place g c = let small = c.entry-frame.ensures.small in let fits = c.ranges.count.fits in let lt = c.loop-i-test.true in omega arith

pub enter_at-requires-clause-at : goal.enter_at-requires-clause-at
enter_at-requires-clause-at g c =
    let first : IsEntryPlace g.F.Format.layout c.args.self.now c.entry-frame.result.0 c.args.first c.entry-frame.result.1 =
    record { lowest = c.entry-frame.ensures.lowest; a_frame = c.entry-frame.ensures.a_frame; place = c.entry-frame.ensures.place } in
    place_on first c.loop-i.invariant.stays.same_space c.loop-i.invariant.looked.path c.loop-i.i

pub enter_at-requires-clause-meets : goal.enter_at-requires-clause-meets
enter_at-requires-clause-meets g c = let lt = c.loop-i-test.true in looks.meets c.requires c.loop-i.invariant.looked (omega arith)

pub overflow_add-first : goal.overflow_add-first
overflow_add-first g c =
    let lt = c.loop-i-test.true in
    let within = (c.requires.entry c.loop-i.i (omega arith)).within in
    let few = entries_few g.F.Format.layout g.met.F.Format.lawful_layout in omega arith

pub returns-in-Leaf-clause-looks : goal.returns-in-Leaf-clause-looks
returns-in-Leaf-clause-looks g c = let lt = c.loop-i-test.true in looks.found_leaf c.requires c.loop-i.invariant.looked (omega arith) c.in-Leaf.ensures.went

pub leave-requires : goal.leave-requires
leave-requires g c = let lt = c.loop-i-test.true in looks.some_path c.requires c.loop-i.invariant.looked (omega arith) c.in-Entered.ensures.went

pub returns-in-Entered-clause-looks : goal.returns-in-Entered-clause-looks
returns-in-Entered-clause-looks g c = let lt = c.loop-i-test.true in looks.found_table c.requires c.loop-i.invariant.looked (omega arith) c.in-Entered.ensures.went c.leave.ensures.left

pub loop-i-preserved : goal.loop-i-preserved
loop-i-preserved g c =
    let lt = c.loop-i-test.true in
    record {
      stays = stays_on c.loop-i.invariant.stays c.enter_at.ensures.stays;
      looked = looks.looked_more c.requires c.loop-i.invariant.looked (omega arith) c.in-Empty.ensures.went;
    }

pub returns-clause-looks : goal.returns-clause-looks
returns-clause-looks g c = let end = c.loop-i-test.false in looks.all_looked c.loop-i.invariant.looked (omega arith)
