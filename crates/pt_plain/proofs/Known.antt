-- The positions that an owner knows: its tables, and the spine up to its top.
use Rattle.std.proofs.Common.{◌≡◌, ◌⊎◌, inl, inr, ℕ, ◌+◌, ◌-◌, ◌<◌, ◌≤◌, List, refl, ap, sym, ◌∙◌, subst, arith, ⊎_elim}
use Rattle.std.specs.Prelude.{IsTrue, map, nat_le}
use Rattle.std.proofs.lemmas.Bool.{and_from, le-leb}
use Rattle.pt_model.specs.declared.position.Position.{Position}
use Rattle.pt_model.specs.Sets.{IsAmong}
use Rattle.pt_model.specs.Tables.{is_spine, levels_between, spine_position, starting_top}
use Rattle.pt_model.proofs.Positions.{among_append, among_left, among_levels, among_right, levels_among}
use Rattle.pt_rule.proofs.TablesAdded.{spine_back}
use Rattle.pt_plain.specs.Owner.{known_in}

pub known_table : (l : ℕ) (tables : List Position) (top : ℕ) (p : Position) → IsAmong tables p → IsAmong (known_in l tables top) p
known_table l tables top p h = among_left p tables (map spine_position (levels_between (starting_top l) top)) h

pub known_spine : (l : ℕ) (tables : List Position) (top : ℕ) (p : Position) → IsTrue (is_spine l p) → p.level ≤ top → IsAmong (known_in l tables top) p
known_spine l tables top p s up =
    let spine : List Position = map spine_position (levels_between (starting_top l) top) in
    let b : (starting_top l ≤ p.level) × (p ≡ spine_position p.level) = spine_back l p s in
    let low = b.0 in
    among_right p tables spine (subst (IsAmong spine) (sym b.1) (levels_among spine_position (top + 1 - starting_top l) (starting_top l) p.level low (omega arith)))

-- with other tables it knows no more than those, and what it knew
pub known_more : (l : ℕ) (old new : List Position) (top : ℕ) (p : Position) → IsAmong (known_in l new top) p → IsAmong new p ⊎ IsAmong (known_in l old top) p
known_more l old new top p h =
    let spine : List Position = map spine_position (levels_between (starting_top l) top) in
    ⊎_elim (λ (t : IsAmong new p). inl t) (λ (s : IsAmong spine p). inr (among_right p old spine s)) (among_append p new spine h)

-- what it knows is a table, or of the spine up to its top
pub known_cases : (l : ℕ) (tables : List Position) (top : ℕ) (p : Position) → IsAmong (known_in l tables top) p →
    IsAmong tables p ⊎ (IsTrue (is_spine l p) × (p.level ≤ top))
known_cases l tables top p h =
    let spine : List Position = map spine_position (levels_between (starting_top l) top) in
    ⊎_elim (λ (t : IsAmong tables p). inl t)
    (λ (s : IsAmong spine p).
    let k : (k : ℕ) × (starting_top l ≤ k) × (k < starting_top l + (top + 1 - starting_top l)) × (p ≡ spine_position k) =
    among_levels spine_position (top + 1 - starting_top l) (starting_top l) p s in
    let low = k.1 in let up = k.2 in
    let level : p.level ≡ k.0 = ap (λ (q : Position). q.level) k.3 in
    inr (ap (is_spine l) k.3 ∙ and_from (nat_le (starting_top l) k.0) _ (le-leb (starting_top l) k.0 low) refl, omega arith))
    (among_append p tables spine h)
