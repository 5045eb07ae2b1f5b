use Rattle.pt_map.proofs.LinkedTables.{deeper_entered, deeper_linked, entered, may_link, purse_some, spends_entered, spends_linked}
use Rattle.pt_view.proofs.Entries.{may_enter}
use Rattle.pt_map.proofs.fill.go_into.Goals as goal

pub enter-requires : goal.enter-requires
enter-requires g c = may_enter c.requires.may.over c.requires.may.in_span c.entry_number-number.result c.entry_number-number.ensures.number

pub link-requires-clause-may : goal.link-requires-clause-may
link-requires-clause-may g c =
    may_link g.met.F.Format.lawful_layout c.requires.may c.entry_number-number.ensures.number c.enter.ensures.went c.in-Empty.is

pub link-requires-clause-some : goal.link-requires-clause-some
link-requires-clause-some g c =
    purse_some g.met.F.Format.lawful_layout c.requires.may c.entry_number-number.ensures.number c.enter.ensures.went c.in-Empty.is
    c.requires.room.0 c.requires.room.1

pub returns-in-Empty-clause-deeper : goal.returns-in-Empty-clause-deeper
returns-in-Empty-clause-deeper g c =
    deeper_linked g.met.F.Format.lawful_layout c.requires.may c.entry_number-number.ensures.number c.enter.ensures.went c.in-Empty.is
    (g.H.Holder.view c.link.new.holder) c.link.ensures.deeper

pub returns-in-Empty-clause-spends : goal.returns-in-Empty-clause-spends
returns-in-Empty-clause-spends g c =
    spends_linked g.met.F.Format.lawful_layout c.requires.may c.entry_number-number.ensures.number c.enter.ensures.went c.in-Empty.is
    (g.H.Holder.view c.link.new.holder) c.link.ensures.spends

pub returns-in-Leaf : goal.returns-in-Leaf
returns-in-Leaf g c =
    let good = g.met.F.Format.lawful_layout in
    let n = c.entry_number-number in
    let went = c.enter.ensures.went in
    let is = entered good c.requires.may n.ensures.number went c.in-Leaf.is in
    record {
      stays = c.enter.ensures.stays;
      deeper = deeper_entered good c.requires.may n.ensures.number went is;
      spends = spends_entered good c.requires.may n.ensures.number went is;
    }
