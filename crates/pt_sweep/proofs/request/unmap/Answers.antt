use Rattle.std.proofs.Common.{◌≡◌, ◌+◌, ℕ, List, sym, ◌∙◌}
use Rattle.std.specs.Prelude.{None, Some, find}
use Rattle.pt_model.specs.declared.block.Block.{Block}
use Rattle.pt_model.specs.Unmap.{is_cut}
use Rattle.pt_view.specs.Loads.{ByLoads}
use Rattle.pt_view.specs.Views.{IsAtRest}
use Rattle.pt_view.proofs.Loads.{loads_here, loads_on}
use Rattle.pt_sweep.specs.Unmaps.{CutsNoBlock, IsUnmapped}
use Rattle.pt_sweep.proofs.OneEntry.{none_went, some_went, still_rests}
use Rattle.pt_sweep.specs.Sweeps.{SweepsIn}
use Rattle.pt_sweep.proofs.Unmapped.{answers_ok, cuts_none, rests_after, taken_away}
use Rattle.pt_sweep.proofs.request.unmap.Given.{Over}
use Rattle.pt_sweep.proofs.request.unmap.Goals as goal
use Rattle.pt_sweep.proofs.request.unmap.Goals.{After-cut_block, After-unmap_one}

-- the look at one entry changed nothing
looked : (g : Over) (c : After-unmap_one g) → c.unmap_one.result ≡ None →
    ByLoads g.H.Holder.tells (g.H.Holder.view c.args.holder.now) (g.H.Holder.view c.unmap_one.new.holder) × ((g.H.Holder.view c.unmap_one.new.holder).path ≡ (g.H.Holder.view c.args.holder.now).path)
looked g c none = none_went g.F.Format.layout g.H.Holder.tells (g.H.Holder.alone c.args.holder.now) c.in_ok-range.range.first c.in_ok-range.range.count c.unmap_one.result none c.unmap_one.ensures.unmaps

-- the blocks that the range cuts
found : (g : Over) (c : After-cut_block g) (blocks : List Block) → IsAtRest g.F.Format.layout (g.H.Holder.view c.unmap_one.new.holder) blocks → c.cut_block.result ≡ None →
    find (is_cut c.in_ok-range.range.first (c.in_ok-range.range.first + c.in_ok-range.range.count)) blocks ≡ None
found g c blocks rest none = sym (c.cut_block.ensures.cut blocks rest) ∙ none

pub sweep_span-requires-clause-uncut : goal.sweep_span-requires-clause-uncut
sweep_span-requires-clause-uncut g c some =
    let blocks = c.requires.rest.0 in
    let at = goal.at.sweep_span-requires-clause-uncut g c in
    let rest = still_rests (looked g at.After-unmap_one c.in_default.is) c.requires.rest.1 in
    cuts_none g.met.F.Format.lawful_layout blocks c.in_ok-range.range.first c.in_ok-range.range.count
    (found g at.After-cut_block blocks rest c.in_default-cut_block.is) (c.cut_block.ensures.rest blocks rest)

pub returns-clause-rests : goal.returns-clause-rests
returns-clause-rests g c =
    let blocks = c.requires.rest.0 in
    let at = goal.at.returns-clause-rests g c in
    let rest = still_rests (looked g at.After-unmap_one c.in_default.is) c.requires.rest.1 in (
      _,
      rests_after g.met.F.Format.lawful_layout blocks c.in_ok-range.range.first c.in_ok-range.range.count
          (found g at.After-cut_block blocks rest c.in_default-cut_block.is) c.cut_block.ensures.stays.still_alone rest (c.cut_block.ensures.rest blocks rest)
          c.cut_block.ensures.walked c.sweep_span.ensures.sweeps,
    )

pub returns-clause-answered : goal.returns-clause-answered
returns-clause-answered g c blocks rest' =
    let f = g.F.Format.layout in
    let at = goal.at.returns-clause-answered g c in
    let asked = c.in_ok-range.ensures.asked in
    let k = looked g at.After-unmap_one c.in_default.is in
    let rest = still_rests k rest' in
    let none = found g at.After-cut_block blocks rest c.in_default-cut_block.is in
    let gone = taken_away g.met.F.Format.lawful_layout blocks c.in_ok-range.range.first c.in_ok-range.range.count none
    (λ a. c.cut_block.ensures.stays.still_alone (c.unmap_one.ensures.stays.still_alone a)) rest' (c.cut_block.ensures.rest blocks rest)
    (loads_on k.0 c.cut_block.ensures.walked) c.sweep_span.ensures.sweeps in
    answers_ok f g.H.Holder.tells (g.H.Holder.alone c.args.holder.now) (g.H.Holder.view c.args.holder.now) (g.H.Holder.view c.sweep_span.new.holder) blocks c.args.va c.args.len c.sweep_span.result _ _
    c.in_ok-range.range asked c.range.ensures.first c.range.ensures.count none gone

-- One entry had one block of all the range, or none.

went : (g : Over) (c : After-unmap_one g) (pages : ℕ) → c.unmap_one.result ≡ Some pages →
    CutsNoBlock g.F.Format.layout (g.H.Holder.view c.args.holder.now) c.in_ok-range.range.first (c.in_ok-range.range.first + c.in_ok-range.range.count)
    × SweepsIn g.F.Format.layout g.H.Holder.tells (g.H.Holder.alone c.args.holder.now) c.in_ok-range.range.first c.in_ok-range.range.count (g.H.Holder.view c.args.holder.now) (g.H.Holder.view c.unmap_one.new.holder) pages
went g c pages some =
    some_went g.F.Format.layout g.H.Holder.tells (g.H.Holder.alone c.args.holder.now) c.in_ok-range.range.first c.in_ok-range.range.count c.unmap_one.result some c.unmap_one.ensures.unmaps

pub returns-in-Some-clause-rests : goal.returns-in-Some-clause-rests
returns-in-Some-clause-rests g c =
    let blocks = c.requires.rest.0 in
    let rest = c.requires.rest.1 in
    let h = went g (goal.at.returns-in-Some-clause-rests g c).After-unmap_one c.in-Some.pages c.in-Some.is in
    let gone : IsUnmapped g.F.Format.layout g.H.Holder.tells (g.H.Holder.alone c.args.holder.now) (g.H.Holder.view c.args.holder.now) (g.H.Holder.view c.unmap_one.new.holder) blocks c.in_ok-range.range.first c.in_ok-range.range.count c.in-Some.pages =
    taken_away g.met.F.Format.lawful_layout blocks c.in_ok-range.range.first c.in_ok-range.range.count (h.0 blocks rest) (λ a. a) rest rest loads_here h.1 in
    (_, gone.rest)

pub returns-in-Some-clause-answered : goal.returns-in-Some-clause-answered
returns-in-Some-clause-answered g c blocks rest =
    let f = g.F.Format.layout in
    let h = went g (goal.at.returns-in-Some-clause-answered g c).After-unmap_one c.in-Some.pages c.in-Some.is in
    let none = h.0 blocks rest in
    answers_ok f g.H.Holder.tells (g.H.Holder.alone c.args.holder.now) (g.H.Holder.view c.args.holder.now) (g.H.Holder.view c.unmap_one.new.holder) blocks c.args.va c.args.len c.in-Some.pages _ _
    c.in_ok-range.range c.in_ok-range.ensures.asked c.range.ensures.first c.range.ensures.count none
    (taken_away g.met.F.Format.lawful_layout blocks c.in_ok-range.range.first c.in_ok-range.range.count none (λ a. a) rest rest loads_here h.1)
