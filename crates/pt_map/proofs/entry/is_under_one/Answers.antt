use Rattle.std.proofs.Common.{◌≡◌, ℕ, ◌-◌, ◌*◌, ◌%◌, ◌^◌, ◌≤◌, inl, inr, arith}
use Rattle.std.proofs.lemmas.Bool.{cases_lt, leb-true}
use Rattle.std.proofs.lemmas.Nat.{one_shl}
use Rattle.std.proofs.Math.Pow.{pow_mono}
use Rattle.pt_tile.proofs.FirstSizes.{size_greatest}
use Rattle.pt_tile.specs.Extents.{first_size}
use Rattle.pt_map.proofs.entry.is_under_one.Goals as goal

pub returns : goal.returns
returns g c = λ yes.
    let f = g.F.Format.layout in
    let x = c.args.extent in
    let bits : ℕ = c.entry_bits.result in
    let bits_are = c.entry_bits.ensures in
    let within = leb-true x.end c.entry_end.result yes in
    let end = c.entry_end.ensures in
    let fits : 2 ^ first_size f x ≤ x.end - x.first = (size_greatest g.met.F.Format.lawful_layout c.requires.extent).fits in
    let pages : 1 * 2 ^ c.entry_bits.result % 2 ^ 64 ≡ 2 ^ c.entry_bits.result = one_shl c.entry_bits.result 64 (omega arith) in
    let fewer = c.if-extent-entry_bits.false in
    record {
      one = omega arith;
      lower = elim (cases_lt (first_size f x) (f.index * c.args.level)) [
        | inl less ↦ less
        | inr more ↦ absurd (
            let up : c.entry_bits.result ≤ first_size f x = omega arith in
            let wide : 2 ^ c.entry_bits.result ≤ 2 ^ first_size f x = pow_mono up in omega (arith, wide, fits, pages, fewer))
      ];
    }
