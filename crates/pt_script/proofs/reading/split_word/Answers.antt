use Rattle.std.proofs.Common.{arith}
use Rattle.pt_script.proofs.WordLemmas.{cut_at, uncut}
use Rattle.pt_script.proofs.reading.split_word.Goals as goal

pub returns-then-end-raw : goal.returns-then-end-raw
returns-then-end-raw c =
    let cut = cut_at c.args.raw.now c.place_in-end.result c.place_in-end.ensures.first c.if-end-raw.true in
    record { more = cut.more; two = cut.two; one = cut.one; first = cut.at_first; second = cut.at_second; third = cut.at_third }

pub returns-else-end-raw : goal.returns-else-end-raw
returns-else-end-raw c =
    let whole = uncut c.args.raw.now (omega (arith, c.place_in-end.ensures.first, c.if-end-raw.false)) in
    record { more = whole.more; two = whole.two; one = whole.one; first = whole.at_first; second = whole.at_second; third = whole.at_third }
