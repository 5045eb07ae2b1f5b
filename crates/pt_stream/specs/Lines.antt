-- Short lines of text.
use Rattle.std.specs.Prelude.{ℕ, ◌+◌, ◌≤◌, List, length}

-- the most bytes of a line
abbrev pub line_room : ℕ
line_room = 128

-- so many bytes more may be put into a line
abbrev pub HasRoom : (more : ℕ) (line : List ℕ) → Type 0
HasRoom more line = length line + more ≤ line_room

-- at most so many bytes were put into a line
abbrev pub GrowsBy : (most : ℕ) (before after : List ℕ) → Type 0
GrowsBy most before after = length after ≤ length before + most
