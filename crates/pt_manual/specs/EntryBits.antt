-- The bits of an entry of 64 bits that has an address in bits 51:12. A field of one bit is named by that bit in its place.
use Rattle.std.specs.Prelude.{ℕ, ◌+◌, ◌-◌, ◌*◌, ◌/◌, ◌%◌, ◌^◌, ◌==◌, ◌&&◌, Bool, bit_and}

-- bits 51:12 in place, and the other bits
abbrev pub address_of : ℕ → ℕ
address_of word = word / 2 ^ 12 % 2 ^ 40 * 2 ^ 12

abbrev pub bits_of : ℕ → ℕ
bits_of word = word - address_of word

-- all bits of `set` are 1
abbrev pub has : (set bits : ℕ) → Bool
has set bits = bit_and bits set == set

-- all bits of `set` are 1, those of `free` are either, and every other bit is 0
abbrev pub has_only : (set free bits : ℕ) → Bool
has_only set free bits = has set bits && (bit_and bits (set + free) == bits)

-- an address is a multiple of 2 ^ log2
abbrev pub is_aligned : (log2 address : ℕ) → Bool
is_aligned log2 address = address % 2 ^ log2 == 0
