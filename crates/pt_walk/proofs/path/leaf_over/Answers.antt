use Rattle.std.proofs.Common.{◌≡◌, ℕ, ◌≤◌, [], subst, sym, ◌∙◌}
use Rattle.std.proofs.lemmas.Bool.{false≢true}
use Rattle.pt_view.specs.declared.view.View.{View}
use Rattle.pt_view.specs.Loads.{ByLoads}
use Rattle.pt_view.proofs.Loads.{root_loads}
use Rattle.pt_walk.specs.Walks.{IsStarting}
use Rattle.pt_walk.proofs.Climbs.{whole_loads, whole_path}
use Rattle.pt_walk.proofs.Descent.{asked_on, none_past, nowhere_on}
use Rattle.pt_walk.proofs.path.leaf_over.Given.{Over}
use Rattle.pt_walk.proofs.path.leaf_over.Goals as goal
use Rattle.pt_walk.proofs.path.leaf_over.Goals.{After-climb}

pub returns-then-not-is_under_spine-clause-found : goal.returns-then-not-is_under_spine-clause-found
returns-then-not-is_under_spine-clause-found g c =
    let f = g.F.Format.layout in
    let w : View = g.H.Holder.view c.root-level.new.self in
    let r = c.root-level.ensures.rooted in
    let start : IsStarting f w c.args.page c.root-level.result = record {
      below = r.legal;
      root = (subst (λ (t : ℕ). t ≤ c.root-level.result) (sym r.book.top) r.reaches, r.path.0, r.path.1);
      asked = asked_on r.range r.book c.requires.asked;
    } in
    nowhere_on f c.args.page r.book
    (none_past g.met.F.Format.lawful_layout start (λ under. false≢true (sym c.if-not-is_under_spine.true ∙ c.is_under_spine.ensures.1 under)))

path : (g : Over) (c : After-climb g) → (g.H.Holder.view c.climb.new.holder).path ≡ []
path g c = whole_path c.root-level.ensures.rooted.path.1 c.go_down-lowest.ensures.down c.climb.ensures.left

walked : (g : Over) (c : After-climb g) → ByLoads g.H.Holder.tells (g.H.Holder.view c.args.holder.now) (g.H.Holder.view c.climb.new.holder)
walked g c =
    whole_loads c.root-level.ensures.rooted.path.1 c.go_down-lowest.ensures.down c.climb.ensures.left
    (root_loads c.root-level.ensures.rooted) c.go_down-lowest.ensures.walked

pub returns-then-lowest-eq0-clause-walked : goal.returns-then-lowest-eq0-clause-walked
returns-then-lowest-eq0-clause-walked g c = walked g (goal.at.returns-then-lowest-eq0-clause-walked g c).After-climb

pub returns-then-lowest-eq0-clause-rest : goal.returns-then-lowest-eq0-clause-rest
returns-then-lowest-eq0-clause-rest g c = path g (goal.at.returns-then-lowest-eq0-clause-rest g c).After-climb

pub returns-else-lowest-eq0-clause-walked : goal.returns-else-lowest-eq0-clause-walked
returns-else-lowest-eq0-clause-walked g c = walked g (goal.at.returns-else-lowest-eq0-clause-walked g c).After-climb

pub returns-else-lowest-eq0-clause-rest : goal.returns-else-lowest-eq0-clause-rest
returns-else-lowest-eq0-clause-rest g c = path g (goal.at.returns-else-lowest-eq0-clause-rest g c).After-climb
