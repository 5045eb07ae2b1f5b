use Rattle.std.proofs.Common.{◌<◌, arith}
use Rattle.pt_num.proofs.Bits.{top_is_set, top_is_last, some_bit, exponent_below, power_fits}
use Rattle.pt_num.proofs.greatest_step.Goals as goal

pub bits_up_to-requires : goal.bits_up_to-requires
bits_up_to-requires c = omega (arith, exponent_below c.log2_floor-fitting.result c.args.left c.log2_floor-fitting.ensures.at_least (omega arith))

pub log2_floor-requires : goal.log2_floor-requires
log2_floor-requires c = some_bit c.bits_up_to.result 0 ((c.bits_up_to.ensures 0).1 (c.requires.page, omega arith))

pub returns-clause-below : goal.returns-clause-below
returns-clause-below c = exponent_below c.log2_floor.result c.bits_up_to.result c.log2_floor.ensures.at_least (omega arith)

pub returns-clause-greatest : goal.returns-clause-greatest
returns-clause-greatest c =
    let top = c.log2_floor.ensures in
    let set = top_is_set c.bits_up_to.result c.log2_floor.result top.at_least top.below in
    let kept = (c.bits_up_to.ensures c.log2_floor.result).0 set in
    let small : c.log2_floor-fitting.result < 64 =
    exponent_below c.log2_floor-fitting.result c.args.left c.log2_floor-fitting.ensures.at_least (omega arith) in
    let divides = (c.common_alignment-aligned.ensures c.log2_floor.result (omega (arith, kept.1))).0 (omega (arith, kept.1)) in
    record {
      step = record {
        a_size = kept.0;
        first_aligned = divides.0;
        out_aligned = divides.1;
        fits = (power_fits c.log2_floor.result c.log2_floor-fitting.result c.args.left c.log2_floor-fitting.ensures.at_least c.log2_floor-fitting.ensures.below).1 (omega (arith, kept.1));
      };
      greatest = λ k s.
          let fits = (power_fits k c.log2_floor-fitting.result c.args.left c.log2_floor-fitting.ensures.at_least c.log2_floor-fitting.ensures.below).0 s.fits in
          let aligned = (c.common_alignment-aligned.ensures k (omega (arith, fits))).1 (s.first_aligned, s.out_aligned) in
          top_is_last c.bits_up_to.result c.log2_floor.result k top.below ((c.bits_up_to.ensures k).1 (s.a_size, omega (arith, fits, aligned)));
    }
