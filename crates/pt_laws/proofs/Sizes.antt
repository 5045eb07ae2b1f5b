-- Lists of positions: how long they are, and what the blocks of a list need.
use Rattle.std.proofs.Common.{ℕ, ◌+◌, ◌≤◌, List, [], ◌∷◌, ◌⊎◌, Bool, arith, length}
use Rattle.std.specs.Prelude.{filter}
use Rattle.std.proofs.lemmas.List.Sums.{length-filter, count_by-le-length}
use Rattle.pt_model.specs.declared.position.Position.{Position}
use Rattle.pt_model.specs.Sets.{IsAmong, IsSorted}
use Rattle.pt_model.specs.declared.block.Block.{Block}
use Rattle.pt_model.specs.Layout.{Layout}
use Rattle.pt_model.specs.Tables.{add_position, add_positions, needed}
use Rattle.pt_model.proofs.Positions.{added_by, among_some, length_within, sorted_once}

-- what any block of a list needs
abbrev pub AnyOf : Layout → ℕ → List Block → Position → Type 0
AnyOf f l [] q = ⊥
AnyOf f l (b ∷ bs) q = IsAmong (needed f l b) q ⊎ AnyOf f l bs q

length_add : (ps : List Position) (q : Position) → length (add_position ps q) ≤ length ps + 1
length_add [] q = omega arith
length_add (r ∷ rs) q = added_by (λ xs. length xs ≤ length (r ∷ rs) + 1) r rs q (λ before. let more = length_add rs q in omega arith) (λ same. omega arith) (λ after. omega arith)

-- lists that are put together are no longer than both
pub length_adds : (qs ps : List Position) → length (add_positions ps qs) ≤ length ps + length qs
length_adds [] ps = omega arith
length_adds (q ∷ qs) ps = omega (arith, length_adds qs (add_position ps q), length_add ps q)

-- those of a list in order that are all among another are no more
pub length_members : (ys xs : List Position) → IsSorted xs → ((p : Position) → IsAmong xs p → IsAmong ys p) → length xs ≤ length ys
length_members ys xs s within = length_within xs ys (sorted_once xs s) within

pub length_filtered : (t : Position → Bool) (xs : List Position) → length (filter t xs) ≤ length xs
length_filtered t xs = omega (arith, length-filter t xs, count_by-le-length t xs)

pub some_among : (ps : List Position) (p : Position) → IsAmong ps p → 1 ≤ length ps
some_among ps p m = among_some p ps m
