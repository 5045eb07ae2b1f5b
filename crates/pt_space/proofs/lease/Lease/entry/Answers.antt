use Rattle.std.proofs.Common.{ℕ, ◌^◌, ◌<◌, ◌≤◌, ap, sym, subst, arith}
use Rattle.pt_model.specs.Words.{word_count}
use Rattle.pt_view.specs.Calls.{IsEntryAt}
use Rattle.pt_rule.specs.Kinds.{IsLowestIn}
use Rattle.pt_space.specs.Standing.{SpaceId, Standing, cut_to}
use Rattle.pt_space.proofs.Nodes as nodes
use Rattle.pt_space.proofs.EntryPlaces.{words_few}
use Rattle.pt_space.proofs.lease.Lease.entry.Goals as goal

pub entry_place-requires-clause-a_frame : goal.entry_place-requires-clause-a_frame
entry_place-requires-clause-a_frame g c =
    let o = c.self.inside in
    let at : IsEntryAt g.F.Format.layout (cut_to o.depth o.seat.me.0) c.requires.0 c.args.number = subst (λ (x : Standing). IsEntryAt g.F.Format.layout x.view c.requires.0 c.args.number) (sym c.self.view_is) c.requires.1 in
    let within = nodes.frame_within g.met.F.Format.lawful_layout c.self.invariant.3 at in
    let n = ap (λ (z : SpaceId). z.frames) c.space.view_is in let e = c.space.invariant.frames_are in omega arith

pub returns-clause-lowest : goal.returns-clause-lowest
returns-clause-lowest g c =
    let o = c.self.inside in
    let at : IsEntryAt g.F.Format.layout (cut_to o.depth o.seat.me.0) c.requires.0 c.args.number = subst (λ (x : Standing). IsEntryAt g.F.Format.layout x.view c.requires.0 c.args.number) (sym c.self.view_is) c.requires.1 in
    subst (λ (x : Standing). IsLowestIn x.view (nodes.frame g.met.F.Format.lawful_layout c.self.invariant.3 at)) c.self.view_is (nodes.lowest_in g.met.F.Format.lawful_layout c.self.invariant.3 at)

pub returns-clause-a_frame : goal.returns-clause-a_frame
returns-clause-a_frame g c =
    let o = c.self.inside in
    let at : IsEntryAt g.F.Format.layout (cut_to o.depth o.seat.me.0) c.requires.0 c.args.number = subst (λ (x : Standing). IsEntryAt g.F.Format.layout x.view c.requires.0 c.args.number) (sym c.self.view_is) c.requires.1 in
    subst (λ (x : Standing). nodes.frame g.met.F.Format.lawful_layout c.self.invariant.3 at < x.space.frames) c.self.view_is (nodes.frame_within g.met.F.Format.lawful_layout c.self.invariant.3 at)

pub returns-clause-small : goal.returns-clause-small
returns-clause-small g c =
    let f = g.F.Format.layout in
    let i = c.space.invariant in
    let few : word_count f c.space.inside.frames ≤ 2 ^ 32 =
    subst (λ (n : ℕ). word_count f n ≤ 2 ^ 32) i.frames_are (words_few f g.met.F.Format.lawful_layout c.space.inside.table.shared.key.frames i.few) in
    let within = c.entry_place.ensures.within in omega arith
