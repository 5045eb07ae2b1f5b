-- The draws of numbers that look random: a linear congruential generator of 64 bits, of which the upper 31 bits are given.
use Rattle.std.specs.Prelude.{ℕ, zero, suc, ◌+◌, ◌*◌, ◌/◌, ◌%◌, ◌^◌}

-- the state behind one draw, and behind the four that a command takes
abbrev pub next : (state : ℕ) → ℕ
next state = (state * 6364136223846793005 + 1442695040888963407) % 2 ^ 64

abbrev pub next_four : (state : ℕ) → ℕ
next_four state = next (next (next (next state)))

-- what a draw gives, by the state that it leaves
abbrev pub drawn : (state : ℕ) → ℕ
drawn state = state / 2 ^ 33

-- the state behind so many commands
unfoldable pub behind : (commands state : ℕ) → ℕ
behind zero state = state
behind (suc n) state = behind n (next_four state)
