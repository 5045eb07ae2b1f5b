use Rattle.std.proofs.Common.{rules, ◌≡◌, ℕ, suc, ◌+◌, ◌*◌, ◌%◌, ◌^◌, ◌<◌, arith, subst, sym}
use Rattle.pt_model.specs.Layout.{Layout}
use Rattle.pt_view.specs.declared.view.View.{View}
use Rattle.pt_view.specs.Calls.{IsWritten, MayWrite, MayWriteRun}
use Rattle.pt_view.proofs.Stays.{stays_here, stays_on}
use Rattle.pt_rule.specs.Meets.{Always}
use Rattle.pt_space.specs.Standing.{Standing}
use Rattle.pt_space.proofs.Showing.{entries_few}
use Rattle.pt_space.specs.Standing.{IsEntryPlace}
use Rattle.pt_space.proofs.EntryPlaces.{first_entry, place_on}
use Rattle.pt_space.proofs.WriteRuns as runs
use Rattle.pt_space.proofs.WriteRuns.{PathDescends, WrittenTo}
use Rattle.pt_space.proofs.holder.LeaseHolder.write_run.Given.{Over}
use Rattle.pt_space.proofs.holder.LeaseHolder.write_run.Goals as goal
use Rattle.pt_space.proofs.holder.LeaseHolder.write_run.Goals.{After-self}

descends : (g : Over) (c : After-self g) → PathDescends g.F.Format.layout c.args.self.now.view
descends g c = subst (λ (x : Standing). PathDescends g.F.Format.layout x.view) c.self.view_is (runs.path_descends g.met.F.Format.lawful_layout c.self.invariant.3)

-- the next word is that of the next entry
word_is : {f : Layout} {v : View} {first count word step i next : ℕ} → MayWriteRun f v first count word step → next ≡ (word + i * step) % 2 ^ 64 → i < count → next ≡ word + i * step
word_is {i = i} may is less = let fits = may.within i less in omega arith

pub loop-i-init : goal.loop-i-init
loop-i-init g c = record { stays = stays_here; written = runs.written_none; next_is = search rules }

pub overflow_add-first : goal.overflow_add-first
overflow_add-first g c =
    let lt = c.loop-i-test.true in
    let within = (c.requires.are.may c.loop-i.i (omega arith)).entry.within in
    let few = entries_few g.F.Format.layout g.met.F.Format.lawful_layout in omega arith

pub entry-frame-requires : goal.entry-frame-requires
entry-frame-requires g c = let may = c.requires.are.may 0 c.requires.some in (may.position, first_entry may.entry)

pub overflow_add-place : goal.overflow_add-place
overflow_add-place g c = let small = c.entry-frame.ensures.small in let fits = c.ranges.count.fits in let lt = c.loop-i-test.true in omega arith

pub write_at-requires-clause-at : goal.write_at-requires-clause-at
write_at-requires-clause-at g c =
    let first : IsEntryPlace g.F.Format.layout c.args.self.now c.entry-frame.result.0 c.args.first c.entry-frame.result.1 =
    record { lowest = c.entry-frame.ensures.lowest; a_frame = c.entry-frame.ensures.a_frame; place = c.entry-frame.ensures.place } in
    place_on first c.loop-i.invariant.stays.same_space c.loop-i.invariant.written.path c.loop-i.i

pub write_at-requires-clause-may : goal.write_at-requires-clause-may
write_at-requires-clause-may g c =
    let lt = c.loop-i-test.true in
    let all = descends g (goal.at.write_at-requires-clause-may g c).After-self in
    let may : MayWrite g.F.Format.layout c.loop-i.self.view (c.args.first + c.loop-i.i) (c.args.word + c.loop-i.i * c.args.step) = runs.may_write all c.loop-i.invariant.written (omega arith) c.requires in
    subst (MayWrite g.F.Format.layout c.loop-i.self.view (c.args.first + c.loop-i.i)) (sym (word_is c.requires c.loop-i.invariant.next_is (omega arith))) may

pub loop-i-preserved : goal.loop-i-preserved
loop-i-preserved g c =
    let lt = c.loop-i-test.true in
    let all = descends g (goal.at.loop-i-preserved g c).After-self in
    let one : IsWritten g.F.Format.layout Always (c.args.first + c.loop-i.i) (c.args.word + c.loop-i.i * c.args.step) c.loop-i.self.view c.write_at.new.self.view =
    subst (λ (word : ℕ). IsWritten g.F.Format.layout Always (c.args.first + c.loop-i.i) word c.loop-i.self.view c.write_at.new.self.view)
    (word_is c.requires c.loop-i.invariant.next_is (omega arith)) c.write_at.ensures.written in
    record {
      stays = stays_on c.loop-i.invariant.stays c.write_at.ensures.stays;
      written = subst (λ (k : ℕ). WrittenTo g.F.Format.layout c.args.first c.args.count c.args.word c.args.step k c.args.self.now.view c.write_at.new.self.view)
          (let e : suc c.loop-i.i ≡ c.loop-i.i + 1 = omega arith in e) (runs.written_more all c.loop-i.invariant.written (omega arith) one);
      next_is = search rules;
    }

pub returns-clause-written : goal.returns-clause-written
returns-clause-written g c = let end = c.loop-i-test.false in runs.all_written c.requires.some (omega arith) c.loop-i.invariant.written
