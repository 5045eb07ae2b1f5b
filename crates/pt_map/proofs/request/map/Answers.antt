use Rattle.std.proofs.Common.{◌≡◌, ℕ, ◌*◌, ◌/◌, ◌<◌, ap, sym, ◌∙◌, arith}
use Rattle.std.proofs.Math.Nat.{div_self}
use Rattle.std.proofs.lemmas.Nat.{div_below}
use Rattle.pt_map.proofs.OneBlock.{block_under}
use Rattle.pt_map.proofs.request.map.Goals as goal

-- a size below the index width is one of the lowest level
lowest : (index k : ℕ) → k < index → 0 ≡ k / index
lowest index k small = let below = div_below k index 1 (omega arith) (omega arith) in omega arith

-- the index width itself is one of the next
next : (index k : ℕ) → 0 < index → k ≡ index → 1 ≡ k / index
next index k some e = sym (ap (λ (n : ℕ). n / index) e ∙ div_self some)

pub map_extent-requires-then-is_block-2-clause-lowest : goal.map_extent-requires-then-is_block-2-clause-lowest
map_extent-requires-then-is_block-2-clause-lowest g c =
    let l = g.met.F.Format.lawful_layout in
    next g.F.Format.layout.index _ (omega (arith, l.index_is, l.granule_low)) (c.INDEX-then-is_block-2.ensures ∙ sym g.met.F.Format.has_constants.index_is)

pub map_extent-requires-then-is_block-2-clause-whole : goal.map_extent-requires-then-is_block-2-clause-whole
map_extent-requires-then-is_block-2-clause-whole g c = λ t.
    let f = g.F.Format.layout in
    let index = c.INDEX.ensures ∙ sym g.met.F.Format.has_constants.index_is in
    let one = c.is_block-2.ensures c.if-is_block-2.true in
    let times : f.index ≡ f.index * 1 = omega arith in
    block_under f g.met.F.Format.lawful_layout c.in_ok-extent.extent c.in_ok-extent.ensures.asked.inside.extent 1 c.INDEX.result one.0 (index ∙ times) one.1
