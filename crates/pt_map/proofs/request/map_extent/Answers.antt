use Rattle.std.proofs.Common.{◌≡◌, ℕ, ◌/◌, ◌<◌, ◌≤◌, ap, sym, ◌∙◌, subst, arith}
use Rattle.pt_model.specs.Layout.{pages_of_table}
use Rattle.pt_view.proofs.Loads.{root_loads}
use Rattle.pt_map.proofs.PastRoot.{input_few}
use Rattle.pt_tile.proofs.FirstSizes.{size_small}
use Rattle.pt_view.specs.Views.{linked_count}
use Rattle.pt_view.specs.declared.view.View.{View}
use Rattle.pt_walk.specs.declared.range.Met.{Met}
use Rattle.pt_walk.specs.Walks.{StopsAt}
use Rattle.pt_map.proofs.MapFromRoot.{Begun, Reached, clear_here, fixed_reach, low_size, may_map, owns_root, path_long, range_root, to_table}
use Rattle.pt_map.proofs.MapAnswers.{Done, accounts, answers, rests_after}
use Rattle.pt_map.proofs.request.map_extent.Given.{Over}
use Rattle.pt_map.proofs.request.map_extent.Goals.{else-GROWS-via-then-GROWS+else-extent-spine_end, else-GROWS-via-else-GROWS, After-descend-arg-1, After-climb, After-map_from, After-descend-stop}
use Rattle.pt_map.proofs.MapFromTable.{linked_walked}
use Rattle.pt_map.proofs.BeyondAnswers.{accounts_beyond, answers_beyond, may_beyond, rests_beyond}
use Rattle.pt_map.proofs.request.map_extent.Goals as goal

-- What is known at the root, at the table over all of the extent, and at the end.

begun : (g : Over) (c : After-descend-arg-1 g) → Begun g.F.Format.layout g.H.Holder.tells (g.H.Holder.alone c.args.holder.now) (g.H.Holder.view c.args.holder.now) (g.H.Holder.view c.root-root.new.self) c.args.extent c.root-root.result
begun g c = record {
  may = c.requires.may;
  reach = elim c.else-GROWS.branch [
    | else-GROWS-via-then-GROWS+else-extent-spine_end w ↦ (let e = w.spine_end.ensures in let within = w.if-extent-spine_end.false in omega arith)
    | else-GROWS-via-else-GROWS w ↦ fixed_reach g.met.F.Format.lawful_layout c.requires.may (g.met.F.Format.has_constants.grows_is ∙ sym c.GROWS.ensures ∙ w.if-GROWS.false) c.root-root.ensures.rooted
  ];
  rooted = c.root-root.ensures.rooted;
}

-- the level of an extent's first block
level_of : (lowest log2 size index : ℕ) → lowest ≡ log2 / index → log2 ≡ size → lowest ≡ size / index
level_of lowest log2 size index a b = a ∙ ap (λ (k : ℕ). k / index) b

reached : (g : Over) (c : After-descend-stop g) → Begun g.F.Format.layout g.H.Holder.tells (g.H.Holder.alone c.args.holder.now) (g.H.Holder.view c.args.holder.now) (g.H.Holder.view c.root-root.new.self) c.args.extent c.root-root.result → Reached g.F.Format.layout g.H.Holder.tells (g.H.Holder.alone c.args.holder.now) (g.H.Holder.view c.args.holder.now) (g.H.Holder.view c.root-root.new.self) (g.H.Holder.view c.descend-stop.new.holder) c.args.extent c.root-root.result c.descend-stop.result.level
reached g c b =
    let good = g.met.F.Format.lawful_layout in
    let e = c.descend-stop.ensures in
    let level = level_of c.args.lowest c.args.log2 _ _ c.requires.lowest c.requires.size in
    record {
      begun = b;
      walked = e.walked;
      range = e.range;
      down = e.down;
      low = subst (λ (n : ℕ). n ≤ c.descend-stop.result.level) level e.lowest;
      clear = e.clear (owns_root good b) (clear_here good b);
    }

done : (g : Over) (c : After-map_from g) → Reached g.F.Format.layout g.H.Holder.tells (g.H.Holder.alone c.args.holder.now) (g.H.Holder.view c.args.holder.now) (g.H.Holder.view c.root-root.new.self) (g.H.Holder.view c.descend-stop.new.holder) c.args.extent c.root-root.result c.descend-stop.result.level → Done g.F.Format.layout g.H.Holder.tells (g.H.Holder.alone c.args.holder.now) (g.H.Holder.alone c.descend-stop.new.holder) (g.H.Holder.view c.args.holder.now) (g.H.Holder.view c.root-root.new.self) (g.H.Holder.view c.descend-stop.new.holder) c.map_from.ensures.ends.between (g.H.Holder.view c.map_from.new.holder) c.args.extent c.root-root.result c.descend-stop.result.level (linked_count (g.H.Holder.view c.descend-stop.new.holder) (g.H.Holder.aside c.descend-stop.new.holder)) c.map_from.result
done g c r = record { reached = r; ends = c.map_from.ensures.ends.ends; left = c.map_from.ensures.ends.left }

pub descend-stop-requires-clause-range : goal.descend-stop-requires-clause-range
descend-stop-requires-clause-range g c =
    range_root g.met.F.Format.lawful_layout (begun g c)

pub descend-stop-requires-clause-lowest : goal.descend-stop-requires-clause-lowest
descend-stop-requires-clause-lowest g c =
    let level = level_of c.args.lowest c.args.log2 _ _ c.requires.lowest c.requires.size in
    subst (λ (n : ℕ). n ≤ c.root-root.result) (sym level) (low_size g.met.F.Format.lawful_layout (begun g c))

pub map_from-requires-clause-may : goal.map_from-requires-clause-may
map_from-requires-clause-may g c =
    let at = goal.at.map_from-requires-clause-may g c in may_map g.met.F.Format.lawful_layout (reached g at.After-descend-stop (begun g at.After-descend-arg-1))

pub map_from-requires-clause-leaf : goal.map_from-requires-clause-leaf
map_from-requires-clause-leaf g c = λ leaf.
    let f = g.F.Format.layout in
    let at = goal.at.map_from-requires-clause-leaf g c in
    let d : View = g.H.Holder.view c.descend-stop.new.holder in
    let level = c.descend-stop.result.level in
    subst (λ (m : Met). StopsAt f d c.args.extent.first c.args.extent.end c.args.lowest level m) leaf c.descend-stop.ensures.stops
    (may_map g.met.F.Format.lawful_layout (reached g at.After-descend-stop (begun g at.After-descend-arg-1))).owns

pub map_from-requires-clause-tables : goal.map_from-requires-clause-tables
map_from-requires-clause-tables g c =
    let at = goal.at.map_from-requires-clause-tables g c in
    let long = path_long g.met.F.Format.lawful_layout (reached g at.After-descend-stop (begun g at.After-descend-arg-1)) in omega arith

pub returns-clause-rests : goal.returns-clause-rests
returns-clause-rests g c = let at = goal.at.returns-clause-rests g c in rests_after g.met.F.Format.lawful_layout (done g at.After-map_from (reached g at.After-descend-stop (begun g at.After-descend-arg-1)))

pub returns-clause-answered : goal.returns-clause-answered
returns-clause-answered g c = let at = goal.at.returns-clause-answered g c in answers g.met.F.Format.lawful_layout (done g at.After-map_from (reached g at.After-descend-stop (begun g at.After-descend-arg-1)))

pub returns-clause-accounted : goal.returns-clause-accounted
returns-clause-accounted g c = λ a.
    let at = goal.at.returns-clause-accounted g c in
    let r = reached g at.After-descend-stop (begun g at.After-descend-arg-1) in
    let a_root = c.root-root.ensures.stays.still_alone a in
    accounts g.met.F.Format.lawful_layout (done g at.After-map_from r) (g.H.Holder.aside c.args.holder.now)
    (linked_walked (g.H.Holder.view c.args.holder.now) (g.H.Holder.view c.descend-stop.new.holder) (g.H.Holder.aside c.args.holder.now) (g.H.Holder.aside c.descend-stop.new.holder)
    (to_table g.met.F.Format.lawful_layout r) (c.descend-stop.ensures.stays.same_aside ∙ c.root-root.ensures.stays.same_aside))
    a (c.descend-stop.ensures.stays.still_alone a_root) (c.descend-stop.ensures.owned a_root)

pub map_from-requires-clause-small : goal.map_from-requires-clause-small
map_from-requires-clause-small g c =
    let small = size_small g.met.F.Format.lawful_layout c.requires.may.inside.extent in
    let is = c.requires.size in omega arith

pub descend-stop-requires-clause-whole : goal.descend-stop-requires-clause-whole
descend-stop-requires-clause-whole g c = c.requires.whole

-- The extent ends past the pages under the root.

pub map_beyond-mapped-requires : goal.map_beyond-mapped-requires
map_beyond-mapped-requires g c =
    let e = c.spine_end.ensures in let more = c.if-extent-spine_end.true in
    let input = c.requires.may.inside.extent.in_input in let few = input_few g.met.F.Format.lawful_layout in
    may_beyond g.met.F.Format.lawful_layout c.requires.may (omega arith) c.root-root.ensures.rooted

module _ (g : Over) (c : After-climb g) where
  past : pages_of_table g.F.Format.layout c.root-root.result < c.args.extent.end
  past =
      let e = c.spine_end.ensures in let more = c.if-extent-spine_end.true in
      let input = c.requires.may.inside.extent.in_input in let few = input_few g.met.F.Format.lawful_layout in omega arith

pub returns-then-extent-spine_end-clause-rests : goal.returns-then-extent-spine_end-clause-rests
returns-then-extent-spine_end-clause-rests g c =
    let at = (goal.at.returns-then-extent-spine_end-clause-rests g c).After-climb in
    rests_beyond g.met.F.Format.lawful_layout c.requires.may (past g at) c.root-root.ensures.rooted _ _ _ _ _ c.map_beyond-mapped.ensures.ends c.climb.ensures.left

pub returns-then-extent-spine_end-clause-answered : goal.returns-then-extent-spine_end-clause-answered
returns-then-extent-spine_end-clause-answered g c =
    let at = (goal.at.returns-then-extent-spine_end-clause-answered g c).After-climb in
    answers_beyond g.met.F.Format.lawful_layout c.requires.may (past g at) c.root-root.ensures.rooted _ _ _ _ _ c.map_beyond-mapped.ensures.ends c.climb.ensures.left

pub returns-then-extent-spine_end-clause-accounted : goal.returns-then-extent-spine_end-clause-accounted
returns-then-extent-spine_end-clause-accounted g c = λ a.
    let at = (goal.at.returns-then-extent-spine_end-clause-accounted g c).After-climb in
    let rooted = c.root-root.ensures.rooted in
    accounts_beyond g.met.F.Format.lawful_layout c.requires.may (past g at) rooted _ _ _ _ _ c.map_beyond-mapped.ensures.ends c.climb.ensures.left (g.H.Holder.aside c.args.holder.now)
    (linked_walked (g.H.Holder.view c.args.holder.now) (g.H.Holder.view c.root-root.new.self) (g.H.Holder.aside c.args.holder.now) (g.H.Holder.aside c.root-root.new.self) (root_loads rooted) c.root-root.ensures.stays.same_aside)
    a (c.root-root.ensures.stays.still_alone a)
