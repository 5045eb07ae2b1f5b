-- What is drawn: maps, unmaps and lookups of few pages, none of which is past the branches.
use Rattle.std.proofs.Common.{◌≡◌, ℕ, zero, suc, ◌+◌, ◌%◌, ◌^◌, ◌<◌, ◌≤◌, Bool, true, false, List, [], ◌∷◌, arith}
use Rattle.std.specs.Prelude.{◌==◌, if◌then◌else◌}
use Rattle.std.proofs.lemmas.Nat.{mod_below, mul-le, pow_pos}
use Rattle.pt_model.specs.declared.block.Prot.{Prot}
use Rattle.pt_model.specs.declared.command.What.{What}
use Rattle.pt_model.specs.declared.command.What.TheVariants.{Map, Unmap, Lookup}
use Rattle.pt_model.specs.Layout.{Layout}
use Rattle.pt_format.specs.Laws.{IsLayout}
use Rattle.pt_made.specs.Draws.{next, next_four, drawn}
use Rattle.pt_made.specs.Made.{region, first_of, bytes, start_by, count_by_draw, out_by, prot_by, drawn_command, drawn_commands}
use Rattle.pt_made.proofs.Pages.{first_small}

-- the pages of a command: they end by a page, and are at most those under one of the lowest tables
pub record HasPages (f : Layout) (start count : ℕ) : Type 0 where
  pub few : count ≤ 2 ^ f.index
  pub ends : start + count ≤ first_of f 4

pub data IsCall (f : Layout) : What → Type 0 where
  map : (start count out : ℕ) (prot : Prot) → HasPages f start count → out < 2 ^ 21 → IsCall f (Map (bytes f start) (bytes f out) (bytes f count) prot)
  unmap : (start count : ℕ) → HasPages f start count → IsCall f (Unmap (bytes f start) (bytes f count))
  lookup : (start count : ℕ) → HasPages f start count → IsCall f (Lookup (bytes f start))

abbrev pub AreCalls : Layout → List What → Type 0
AreCalls f [] = Unit {0}
AreCalls f (w ∷ ws) = IsCall f w × AreCalls f ws

by_kind : (f : Layout) (x y : Bool) (start count out : ℕ) (prot : Prot) → HasPages f start count → out < 2 ^ 21 →
    IsCall f (if x then Lookup (bytes f start) else (if y then Unmap (bytes f start) (bytes f count) else Map (bytes f start) (bytes f out) (bytes f count) prot))
by_kind f true y start count out prot has low = lookup start count has
by_kind f false true start count out prot has low = unmap start count has
by_kind f false false start count out prot has low = map start count out prot has low

-- the pages that draws give lie in their branch
within_branch : (f : Layout) (branch second third : ℕ) → branch ≤ 3 →
    HasPages f (start_by f branch second) (count_by_draw f branch (start_by f branch second) third)
within_branch f branch second third low =
    let some : 0 < region f = pow_pos (f.index + 2) in
    let pages : 0 < 2 ^ f.index = pow_pos f.index in
    let in_region = mod_below second (region f) (pow_pos (f.index + 2)) in
    let in_table = mod_below third (2 ^ f.index) (pow_pos f.index) in
    let next_first : first_of f (branch + 1) ≡ first_of f branch + region f = omega arith in
    let last : first_of f (branch + 1) ≤ first_of f 4 = omega (arith, mul-le (branch + 1) (region f) 4 (region f) (omega arith) (omega arith)) in
    record { few = omega arith; ends = omega arith }

drawn_is_call : {f : Layout} → IsLayout f → (branch state : ℕ) → branch ≤ 3 → IsCall f (drawn_command f branch state)
drawn_is_call {f} good branch state low =
    let second : ℕ = drawn (next (next state)) in
    let third : ℕ = drawn (next (next (next state))) in
    let fourth : ℕ = drawn (next_four state) in
    let start : ℕ = start_by f branch second in
    let has = within_branch f branch second third low in
    let out_low : out_by start fourth < 2 ^ 21 = omega (arith, has.ends, first_small good 4 (omega arith), mod_below fourth 2 (omega arith)) in
    by_kind f (drawn (next state) % 4 == 3) (drawn (next state) % 4 == 2) start (count_by_draw f branch start third) (out_by start fourth) (prot_by fourth) has out_low

pub drawn_are_calls : {f : Layout} → IsLayout f → (branch count state : ℕ) → branch ≤ 3 → AreCalls f (drawn_commands f branch count state)
unfolding drawn_commands
drawn_are_calls good branch zero state low = tt
drawn_are_calls good branch (suc n) state low = (drawn_is_call good branch state low, drawn_are_calls good branch n (next_four state) low)
