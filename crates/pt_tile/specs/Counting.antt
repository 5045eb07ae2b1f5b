-- What the private functions of `tables` count: positions by level, and tables of one size by the ends of a range. No
-- public contract speaks of these.
use Rattle.std.specs.Prelude.{◌≡◌, ℕ, zero, suc, ◌+◌, ◌-◌, ◌*◌, ◌/◌, ◌^◌, ◌<◌, ◌≤◌, ◌==◌, nat_lt, if◌then◌else◌, List, [], ◌∷◌, Option, Some, None, option_and_then, ◌⊎◌}
use Rattle.pt_model.specs.declared.position.Position.{Position}
use Rattle.pt_tile.specs.declared.tables.Part.{Part}

-- the positions of one level
abbrev pub at_level : ℕ → List Position → ℕ
at_level l [] = 0
at_level l (p ∷ ps) = (if p.level == l then 1 else 0) + at_level l ps

-- the positions of the levels below one
abbrev pub levels_below : ℕ → List Position → ℕ
levels_below zero ps = 0
levels_below (suc l) ps = levels_below l ps + at_level l ps

-- how many multiples of 2 ^ log2 are below a number
abbrev pub begun : (log2 n : ℕ) → ℕ
begun log2 zero = 0
begun log2 (suc n) = suc (n / 2 ^ log2)

-- the part of a range that aligned runs of 2 ^ log2 pages make up
abbrev pub whole_part : (log2 first end : ℕ) → Option Part
whole_part log2 first end =
    let from = begun log2 first * 2 ^ log2 in
    let to = end / 2 ^ log2 * 2 ^ log2 in
    if nat_lt from to then Some (record { first = from; end = to }) else None

-- the tables of 2 ^ log2 pages that meet a range
abbrev pub meeting : (log2 first end : ℕ) → ℕ
meeting log2 first end = begun log2 end - first / 2 ^ log2

-- those of them that no block of 2 ^ log2 pages or more takes up, where `larger` is the least size of such blocks
abbrev pub meeting_around : (log2 first end : ℕ) → Option Part → ℕ
meeting_around log2 first end None = meeting log2 first end
meeting_around log2 first end (Some part) = meeting log2 first part.first + meeting log2 part.end end

abbrev pub tables_over : (log2 first end : ℕ) → Option ℕ → ℕ
tables_over log2 first end larger = meeting_around log2 first end (option_and_then (λ size. whole_part size first end) larger)

-- whether the position of page 0 at a level is in the tree and does not lie over a range, as a number
abbrev pub IsApart : (levels level first table : ℕ) → ℕ → Type 0
IsApart levels level first table number =
    ((levels - 1 ≤ level) × (table ≤ first) × (number ≡ 1))
    ⊎ (((level < levels - 1) ⊎ (first < table)) × (number ≡ 0))
