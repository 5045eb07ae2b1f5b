use Rattle.std.proofs.Common.{◌+◌, refl, arith}
use Rattle.std.proofs.lemmas.Bool.{le-leb, leb-true}
use Rattle.pt_model.proofs.Quotients.{wider_entry}
use Rattle.pt_walk.proofs.Cuts.{pages_few}
use Rattle.pt_walk.proofs.range.lies_under.Goals as goal

pub returns-then-whole : goal.returns-then-whole
returns-then-whole g c =
    let small = c.requires.whole c.if-whole.true in
    let wide = wider_entry g.F.Format.layout c.args.first (c.args.lowest + 1) c.args.level (let low = c.requires.lowest in omega arith) in
    (λ t. omega arith, λ le. refl)

pub returns : goal.returns
returns g c =
    let few = pages_few g.F.Format.layout g.met.F.Format.lawful_layout in
    let end = c.entry_end.ensures in
    let within = c.requires.in_space in
    (λ t. let le = leb-true c.args.end c.entry_end.result t in omega arith, λ le. le-leb c.args.end c.entry_end.result (omega arith))
