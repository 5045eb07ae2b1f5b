-- Paths: the frames of a path by level, and the nodes that they are.
use Rattle.std.proofs.Common.{◌≡◌, ◌≢◌, ℕ, zero, suc, ◌+◌, ◌<◌, ◌≤◌, List, [], ◌∷◌, ◌++◌, length, refl, ap, sym, ◌∙◌, arith, get_or-set_same, get_or-set_other}
use Rattle.std.specs.Prelude.{Some, slice_index, slice_set}
use Rattle.std.specs.List.{AllByRecursion}
use mathlib.Core.Logic.{dite}
use native.Mathlib.Decide.{ℕ_discrete}
use Rattle.pt_model.specs.declared.position.Position.{Position}
use Rattle.pt_model.specs.Words.{tag, placed_at}
use Rattle.pt_view.specs.declared.view.Node.{Node}
use Rattle.pt_view.specs.Calls.{lowest}
use Rattle.pt_view.proofs.Paths.{lowest_snoc}
use Rattle.pt_plain.specs.Owner.{node_at, nodes_down}

-- the nodes are in the path's frames, from the level under k on down
abbrev pub Follows : (path : List ℕ) → (k : ℕ) → List Node → Type 0
Follows path k [] = Unit {0}
Follows path zero (x ∷ xs) = ⊥
Follows path (suc k) (x ∷ xs) = (slice_index path k ≡ x.frame) × (x.position.level ≡ k) × Follows path k xs

-- each node is at the position that its frame's tag says
abbrev pub AreTagged : (words : List ℕ) → List Node → Type 0
AreTagged words xs = AllByRecursion (λ (x : Node). placed_at (tag words x.frame) ≡ x.position) xs

module _ (words path : List ℕ) where
  -- such nodes are those of the path's frames
  pub nodes_back : (level k : ℕ) (xs : List Node) → Follows path k xs → length xs + level ≡ k → AreTagged words xs → nodes_down words path level (length xs) ≡ xs
  nodes_back level k [] h e a = refl
  nodes_back level zero (x ∷ xs) h e a = absurd h
  nodes_back level (suc k) (x ∷ xs) h e a =
      let here : level + length xs ≡ k = omega arith in
      ap (λ (j : ℕ). node_at words path j ∷ nodes_down words path level (length xs)) here
      ∙ ap (λ (g : ℕ). let y : Node = record { frame = g; position = placed_at (tag words g) } in y ∷ nodes_down words path level (length xs)) h.0
      ∙ ap (λ (p : Position). let y : Node = record { frame = x.frame; position = p } in y ∷ nodes_down words path level (length xs)) a.0
      ∙ ap (λ (ys : List Node). x ∷ ys) (nodes_back level k xs h.2 (omega arith) a.1)

  -- the table of each of their levels is placed at that level
  pub levels_back : (level k : ℕ) (xs : List Node) → Follows path k xs → length xs + level ≡ k → AreTagged words xs →
      (at : ℕ) → level ≤ at → at < k → (node_at words path at).position.level ≡ at
  levels_back level k [] h e a at low up = absurd (omega arith)
  levels_back level zero (x ∷ xs) h e a at low up = absurd h
  levels_back level (suc k) (x ∷ xs) h e a at low up = dite (ℕ_discrete at k)
      (λ same. ap (λ (j : ℕ). (node_at words path j).position.level) same ∙ ap (λ (g : ℕ). (placed_at (tag words g)).level) h.0
      ∙ ap (λ (p : Position). p.level) a.0 ∙ h.1 ∙ sym same)
      (λ ne. levels_back level k xs h.2 (omega arith) a.1 at low (omega arith))

  -- the nodes of the path's frames follow them
  pub follows_down : (level count k : ℕ) → level + count ≡ k → ((at : ℕ) → level ≤ at → at < k → (node_at words path at).position.level ≡ at) →
      Follows path k (nodes_down words path level count)
  follows_down level zero k e a = tt
  follows_down level (suc count) zero e a = absurd (omega arith)
  follows_down level (suc count) (suc k) e a =
      let here : k ≡ level + count = omega arith in (
        ap (slice_index path) here,
        a (level + count) (omega arith) (omega arith) ∙ sym here,
        follows_down level count k (omega arith) (λ at low up. a at low (omega arith)),
      )

  pub nodes_length : (level count : ℕ) → length (nodes_down words path level count) ≡ count
  nodes_length level zero = refl
  nodes_length level (suc count) = ap suc (nodes_length level count)

-- one more node, below the others
pub follows_more : (path : List ℕ) (k j : ℕ) (xs : List Node) (x : Node) → Follows path k xs → length xs + suc j ≡ k → x.position.level ≡ j → j < length path →
    Follows (slice_set path j x.frame) k (xs ++ x ∷ [])
follows_more path zero j [] x h e level within = absurd (omega arith)
follows_more path (suc k) j [] x h e level within =
    let same : k ≡ j = omega arith in
    (ap (slice_index (slice_set path j x.frame)) same ∙ get_or-set_same path j x.frame 0 within, level ∙ sym same, tt)
follows_more path zero j (y ∷ ys) x h e level within = absurd h
follows_more path (suc k) j (y ∷ ys) x h e level within =
    let apart : k ≢ j = (λ z. omega arith) in
    (get_or-set_other path j k x.frame 0 apart ∙ h.0, h.1, follows_more path k j ys x h.2 (omega arith) level within)

-- the lowest node is the last
pub nodes_down_more : (words path : List ℕ) (level count : ℕ) → nodes_down words path level (suc count) ≡ nodes_down words path (level + 1) count ++ node_at words path level ∷ []
nodes_down_more words path level zero = let e : level + 0 ≡ level = omega arith in ap (λ (j : ℕ). node_at words path j ∷ []) e
nodes_down_more words path level (suc count) =
    let e : level + suc count ≡ level + 1 + count = omega arith in
    ap (λ (j : ℕ). node_at words path j ∷ nodes_down words path level (suc count)) e
    ∙ ap (λ (xs : List Node). node_at words path (level + 1 + count) ∷ xs) (nodes_down_more words path level count)

-- so it is the one of the path's level
pub nodes_lowest : (words path : List ℕ) (level count : ℕ) → lowest (nodes_down words path level (suc count)) ≡ Some (node_at words path level)
nodes_lowest words path level count = ap lowest (nodes_down_more words path level count) ∙ lowest_snoc (nodes_down words path (level + 1) count) (node_at words path level)
