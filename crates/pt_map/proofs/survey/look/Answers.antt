use Rattle.std.proofs.Common.{sym}
use Rattle.std.proofs.lemmas.Bool.{false≢true}
use Rattle.pt_map.proofs.ReplacedTables.{no_table_replaced}
use Rattle.pt_tile.specs.Extents.{tables_below}
use Rattle.pt_map.proofs.AbsentCounted.{nothing_counted}
use Rattle.pt_map.proofs.survey.look.Goals as goal

pub look_below-requires-clause-range : goal.look_below-requires-clause-range
look_below-requires-clause-range g c = c.requires.may.at.range

pub returns-in-Mapped-clause-surveyed : goal.returns-in-Mapped-clause-surveyed
returns-in-Mapped-clause-surveyed g c =
    record { walked = c.look_below.ensures.walked; path = c.look_below.ensures.path; finds = c.in-Mapped.ensures.under c.requires.may.clear }

pub returns-in-Tables-clause-surveyed : goal.returns-in-Tables-clause-surveyed
returns-in-Tables-clause-surveyed g c =
    let v = g.H.Holder.view c.args.holder.now in
    let w = g.H.Holder.view c.look_below.new.holder in
    record {
      walked = c.look_below.ensures.walked;
      path = c.look_below.ensures.path;
      finds = (
        c.in-Tables.ensures.under c.requires.may.clear,
        nothing_counted g.F.Format.layout g.H.Holder.tells (g.H.Holder.alone c.args.holder.now) v w (tables_below g.F.Format.layout c.args.extent c.args.level) c.args.cap c.look_below.ensures.walked c.requires.none,
        λ e. absurd (false≢true (sym e)),
      );
    }

pub returns-in-Nothing-clause-surveyed : goal.returns-in-Nothing-clause-surveyed
returns-in-Nothing-clause-surveyed g c =
    let v = g.H.Holder.view c.args.holder.now in
    let w = g.H.Holder.view c.look_below.new.holder in
    record {
      walked = c.look_below.ensures.walked;
      path = c.look_below.ensures.path;
      finds = (
        (c.in-Nothing.ensures.under c.requires.may.clear).0,
        nothing_counted g.F.Format.layout g.H.Holder.tells (g.H.Holder.alone c.args.holder.now) v w (tables_below g.F.Format.layout c.args.extent c.args.level) c.args.cap c.look_below.ensures.walked c.requires.none,
        λ e. no_table_replaced g.met.F.Format.lawful_layout c.requires.may.at (c.in-Nothing.ensures.under c.requires.may.clear).1,
      );
    }
