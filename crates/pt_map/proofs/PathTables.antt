-- The tables of a path over a page.
use Rattle.std.proofs.Common.{◌≡◌, ℕ, ◌+◌, ◌-◌, ◌<◌, ◌≤◌, List, [], ◌∷◌, ◌++◌, length, inl, inr, ap, sym, ◌∙◌, arith}
use Rattle.std.specs.Prelude.{map}
use Rattle.std.proofs.lemmas.Bool.{cases_eq}
use Rattle.pt_model.specs.declared.position.Position.{Position}
use Rattle.pt_model.specs.Layout.{Layout}
use Rattle.pt_model.specs.Tables.{position_over}
use Rattle.pt_model.proofs.Positions.{among_none, among_more, among_first, among_cases}
use Rattle.pt_view.specs.declared.view.Node.{Node}
use Rattle.pt_model.specs.Sets.{IsAmong}
use Rattle.pt_walk.specs.Walks.{IsWayDown}
use Rattle.pt_tile.specs.Extents.{from}

-- the positions of a path
abbrev pub positions : List Node → List Position
positions path = map (λ (x : Node). x.position) path

-- the tables of a way down to a level are those over the page from it on
pub way_tables : (f : Layout) (page n level : ℕ) (path : List Node) → IsWayDown f page n path → length path + level ≡ n → (p : Position) → IsAmong (positions path) p →
    (level ≤ p.level) × (p.level < n) × (position_over f page p.level ≡ p)
way_tables f page n level [] way depth p h = absurd (among_none p h)
way_tables f page n level (x ∷ xs) way depth p h = elim (among_cases p x.position (positions xs) h) [
  | inl e ↦
      let at : p.level ≡ n - 1 = ap (λ (q : Position). q.level) (e ∙ way.0) in
      (omega arith, omega arith, ap (position_over f page) at ∙ sym (e ∙ way.0))
  | inr later ↦ (let r = way_tables f page (n - 1) level xs way.1 (omega arith) p later in (r.0, (let s = r.1 in omega arith), r.2))
]

pub tables_way : (f : Layout) (page n level : ℕ) (path : List Node) → IsWayDown f page n path → length path + level ≡ n → (k : ℕ) → level ≤ k → k < n →
    IsAmong (positions path) (position_over f page k)
tables_way f page n level [] way depth k from to = absurd (omega arith)
tables_way f page n level (x ∷ xs) way depth k from to = elim (cases_eq k (n - 1)) [
  | inl last ↦ among_first (position_over f page k) x.position (positions xs) (sym (sym (ap (position_over f page) last ∙ sym way.0)))
  | inr more ↦ among_more (position_over f page k) x.position (positions xs) (tables_way f page (n - 1) level xs way.1 (omega arith) k from (omega arith))
]

-- a way to one page is one to another page under its last table
pub way_moves : (f : Layout) (page next n level : ℕ) (path : List Node) → ((k : ℕ) → level ≤ k → position_over f next k ≡ position_over f page k) → length path + level ≡ n →
    IsWayDown f page n path → IsWayDown f next n path
way_moves f page next n level [] same depth way = tt
way_moves f page next n level (x ∷ xs) same depth way = (
  way.0 ∙ sym (same (n - 1) (omega arith)),
  way_moves f page next (n - 1) level xs same (omega arith) way.1,
)

-- a way goes on
pub way_on : (f : Layout) (page n level : ℕ) (path : List Node) (x : Node) → length path + level ≡ n → x.position ≡ position_over f page (level - 1) →
    IsWayDown f page n path → IsWayDown f page n (path ++ x ∷ [])
way_on f page n level [] x depth at way = (at ∙ ap (λ (k : ℕ). position_over f page (k - 1)) (let e : level ≡ n = omega arith in e), tt)
way_on f page n level (y ∷ ys) x depth at way = (way.0, way_on f page (n - 1) level ys x (omega arith) at way.1)
