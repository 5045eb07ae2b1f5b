use Rattle.std.proofs.Common.{◌≡◌, ◌*◌, ◌/◌, ◌^◌, ◌<◌, subst, sym, arith, min, ◌%◌, ◌+◌, ℕ}
use Rattle.pt_model.specs.Layout.{pages_of_entry}
use Rattle.pt_model.specs.Tables.{IsPosition}
use Rattle.pt_walk.proofs.Cuts.{pages_few}
use Rattle.pt_map.proofs.LinkedTables.{deeper_met, deeper_won, down_is, may_install, next_is, next_legal, spends_met, spends_won}
use Rattle.pt_map.proofs.fill.link.Given.{Over}
use Rattle.pt_map.proofs.fill.link.Goals.{After-align_down}
use Rattle.pt_map.proofs.fill.link.Goals as goal

base_is : (g : Over) (c : After-align_down g) → c.align_down.result ≡ c.args.page / pages_of_entry g.F.Format.layout c.args.level * pages_of_entry g.F.Format.layout c.args.level
base_is g c =
    let f = g.F.Format.layout in
    let few : c.args.page < 2 ^ 52 = (let a = c.requires.may.a_page in omega (arith, pages_few f g.met.F.Format.lawful_layout)) in
    let bits : c.entry_bits.result ≡ min (f.index * c.args.level) 63 = c.entry_bits.ensures in
    down_is c.args.page (f.index * c.args.level) c.align_down.result few
    (subst (λ (k : ℕ). c.align_down.result % 2 ^ k ≡ 0) bits c.align_down.ensures.multiple) c.align_down.ensures.at_most
    (subst (λ (k : ℕ). c.args.page < c.align_down.result + 2 ^ k) bits c.align_down.ensures.greatest)

pub place-requires-clause-legal : goal.place-requires-clause-legal
place-requires-clause-legal g c =
    let f = g.F.Format.layout in
    let l = g.met.F.Format.lawful_layout in
    let v = g.H.Holder.view c.args.holder.now in
    subst (IsPosition f) (sym (next_is l c.requires.may c.align_down.result (base_is g (goal.at.place-requires-clause-legal g c).After-align_down)))
    (next_legal l c.requires.may)

pub install-requires : goal.install-requires
install-requires g c =
    may_install g.met.F.Format.lawful_layout c.requires.may c.align_down.result (base_is g (goal.at.install-requires g c).After-align_down) c.place.ensures.placed c.args.number c.requires.number

pub returns-in-Yes-clause-deeper : goal.returns-in-Yes-clause-deeper
returns-in-Yes-clause-deeper g c =
    deeper_won g.met.F.Format.lawful_layout c.requires.may c.align_down.result (base_is g (goal.at.returns-in-Yes-clause-deeper g c).After-align_down) c.place.ensures.placed c.requires.number c.install.ensures.installed c.in-Yes.is

pub returns-in-Yes-clause-spends : goal.returns-in-Yes-clause-spends
returns-in-Yes-clause-spends g c =
    spends_won g.met.F.Format.lawful_layout c.requires.may c.align_down.result (base_is g (goal.at.returns-in-Yes-clause-spends g c).After-align_down) c.place.ensures.placed c.requires.number c.install.ensures.installed

pub returns-in-Met-clause-deeper : goal.returns-in-Met-clause-deeper
returns-in-Met-clause-deeper g c =
    deeper_met g.met.F.Format.lawful_layout c.requires.may c.align_down.result (base_is g (goal.at.returns-in-Met-clause-deeper g c).After-align_down) c.place.ensures.placed c.requires.number c.install.ensures.installed c.in-Met.is c.unplace.ensures.unplaced

pub returns-in-Met-clause-spends : goal.returns-in-Met-clause-spends
returns-in-Met-clause-spends g c =
    spends_met g.met.F.Format.lawful_layout c.requires.may c.align_down.result (base_is g (goal.at.returns-in-Met-clause-spends g c).After-align_down) c.place.ensures.placed c.requires.number c.install.ensures.installed c.in-Met.is c.unplace.ensures.unplaced
