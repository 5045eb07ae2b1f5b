use Rattle.std.proofs.Common.{◌≡◌, ◌+◌, ◌-◌, ◌*◌, ◌%◌, ◌^◌, ◌<◌, ◌≤◌, ap, ap₂, sym, ◌∙◌, arith}
use Rattle.std.specs.Prelude.{nat_le}
use Rattle.std.proofs.lemmas.Nat.{one_shl, pow_below}
use Rattle.pt_model.proofs.Tops.{power_mono}
use Rattle.pt_book.proofs.PositionFacts.{log2_small, lies_small, lies_before, lies_behind}
use Rattle.pt_book.proofs.tables.lies_in.Given.{Over}
use Rattle.pt_book.proofs.tables.lies_in.Goals as goal
use Rattle.pt_book.proofs.tables.lies_in.Goals.{After-from-3}

-- the log2 of the pages under the table
bits : (g : Over) (c : After-from-3 g) →
    c.from.result * (c.from-2.result + 1) ≡ g.F.Format.layout.index * (c.args.position.level + 1)
bits g c =
    ap₂ (λ a b. a * (b + 1)) (c.from.ensures ∙ c.INDEX.ensures ∙ sym g.met.F.Format.has_constants.index_is) c.from-2.ensures

small : (g : Over) (c : After-from-3 g) → c.args.block.log2 < 64
small g c = log2_small g.F.Format.layout g.met.F.Format.lawful_layout c.args.block c.requires

pub returns-then-log2-from : goal.returns-then-log2-from
returns-then-log2-from g c =
    let same = bits g (goal.at.returns-then-log2-from g c).After-from-3 in
    let log2 = g.F.Format.layout.index * (c.args.position.level + 1) in
    let more : 2 ^ c.args.block.log2 < 2 ^ log2 = pow_below c.args.block.log2 log2 (omega (arith, same)) in
    lies_small c.args.block.first c.args.position.base (2 ^ c.args.block.log2) (2 ^ log2) more

pub overflow_shl-room : goal.overflow_shl-room
overflow_shl-room g c = small g (goal.at.overflow_shl-room g c).After-from-3

pub overflow_shl-room-2 : goal.overflow_shl-room-2
overflow_shl-room-2 g c = omega (arith, small g (goal.at.overflow_shl-room-2 g c).After-from-3)

pub overflow_sub-room : goal.overflow_sub-room
overflow_sub-room g c =
    let log2 = c.from.result * (c.from-2.result + 1) in
    let few = small g (goal.at.overflow_sub-room g c).After-from-3 in
    let table : 1 * 2 ^ log2 % 2 ^ 64 ≡ 2 ^ log2 = one_shl log2 64 (omega (arith, few)) in
    let room : 1 * 2 ^ c.args.block.log2 % 2 ^ 64 ≡ 2 ^ c.args.block.log2 = one_shl c.args.block.log2 64 few in
    omega (arith, table, room, power_mono log2 c.args.block.log2 (omega arith))

pub returns-then-block-position : goal.returns-then-block-position
returns-then-block-position g c =
    let o = (goal.at.returns-then-block-position g c).After-from-3 in
    let log2 = g.F.Format.layout.index * (c.args.position.level + 1) in
    let few = small g o in
    let low : log2 ≤ c.args.block.log2 = omega (arith, bits g o) in
    let table : 1 * 2 ^ (c.from.result * (c.from-2.result + 1)) % 2 ^ 64 ≡ 2 ^ log2 =
    ap (λ k. 1 * 2 ^ k % 2 ^ 64) (bits g o) ∙ one_shl log2 64 (omega (arith, few)) in
    let room : 1 * 2 ^ c.args.block.log2 % 2 ^ 64 ≡ 2 ^ c.args.block.log2 = one_shl c.args.block.log2 64 few in
    ap₂ (λ a b. nat_le c.args.position.base (c.args.block.first + (a - b))) room table
    ∙ lies_behind c.args.block.first c.args.position.base (2 ^ c.args.block.log2) (2 ^ log2) (omega arith) (power_mono log2 c.args.block.log2 low)

pub returns-else-block-position : goal.returns-else-block-position
returns-else-block-position g c =
    lies_before c.args.block.first c.args.position.base (2 ^ c.args.block.log2) (2 ^ (g.F.Format.layout.index * (c.args.position.level + 1))) (omega arith)
