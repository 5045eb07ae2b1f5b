-- The address and the other bits of a word that is written.
use Rattle.std.proofs.Common.{◌≡◌, ℕ, zero, suc, ◌+◌, ◌*◌, ◌%◌, ◌^◌, ◌<◌, ap₂, arith, true}
use Rattle.std.proofs.lemmas.Bool.{eq-eqb}
use Rattle.pt_manual.specs.EntryBits.{address_of, bits_of, is_aligned}
use Rattle.pt_manual.specs.declared.step.Step.{Step}

-- an entry by its address and its bits, at a word of so much of both
pub entry_of : (entry : (address bits : ℕ) → Step) (out bits word : ℕ) → out < 2 ^ 40 → bits < 2 ^ 12 → word ≡ out * 2 ^ 12 + bits →
    entry (address_of word) (bits_of word) ≡ entry (out * 2 ^ 12) bits
entry_of entry out bits word within low is =
    let address : address_of word ≡ out * 2 ^ 12 = omega arith in
    let rest : bits_of word ≡ bits = omega (arith, address) in
    ap₂ entry address rest
