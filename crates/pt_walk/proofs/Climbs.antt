-- Paths that lose their last nodes.
use Rattle.std.proofs.Common.{◌≡◌, ℕ, ◌+◌, ◌-◌, List, [], ◌∷◌, ◌++◌, ap, sym, ◌∙◌, add-one, arith}
use Rattle.std.specs.Prelude.{length}
use Rattle.pt_model.specs.Layout.{Layout}
use Rattle.pt_view.specs.declared.view.View.{View}
use Rattle.pt_view.specs.declared.view.Node.{Node}
use Rattle.pt_view.specs.Calls.{left}
use Rattle.pt_view.specs.Loads.{ByLoads}
use Rattle.pt_view.proofs.Loads.{loads_on, loads_path}
use Rattle.pt_view.proofs.Paths.{up, up_all}
use Rattle.pt_walk.specs.Walks.{WentDown}

pub up_more : (v : View) (n : ℕ) (path : List Node) {w z : View} → w ≡ record v { path = up n path } → z ≡ left w → z ≡ record v { path = up (n + 1) path }
up_more v n path e l = l ∙ ap left e ∙ ap (λ (k : ℕ). record v { path = up k path }) (sym (add-one n))

pub climbed : (v w : View) (n : ℕ) → w ≡ record v { path = up n v.path } → (front nodes : List Node) → v.path ≡ front ++ nodes → length nodes ≡ n → w ≡ record v { path = front }
climbed v w n e front nodes split many =
    e ∙ ap (λ (xs : List Node). record v { path = xs }) (ap (λ k. up k v.path) (sym many) ∙ ap (up (length nodes)) split ∙ up_all nodes front)

-- The way down from a table that is the path alone, and up again.
module _ {f : Layout} {v w z : View} {page level lower : ℕ} {x : Node} (root : v.path ≡ x ∷ []) (down : WentDown f v w page level lower)
    (climbs : (front nodes : List Node) → w.path ≡ front ++ nodes → length nodes ≡ level - lower + 1 → z ≡ record w { path = front }) where
  climbed_whole : z ≡ record w { path = [] }
  climbed_whole = climbs [] (x ∷ down.nodes) (down.path ∙ ap (λ (xs : List Node). xs ++ down.nodes) root) (let e = down.so_many in omega arith)

  pub whole_path : z.path ≡ []
  whole_path = ap (λ (y : View). y.path) climbed_whole

  pub whole_loads : {tells : Type 0} {u : View} → ByLoads tells u v → ByLoads tells v w → ByLoads tells u z
  whole_loads to_root deeper = loads_on to_root (loads_on deeper (loads_path [] climbed_whole))
