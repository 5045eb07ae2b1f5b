use Rattle.std.proofs.Common.{◌≡◌, ◌+◌, ◌-◌, ◌<◌, ◌≤◌, length, ap, ◌∙◌, arith}
use Rattle.std.specs.Prelude.{min}
use Rattle.pt_model.specs.Layout.{Layout, pages_of_table}
use Rattle.pt_model.specs.Tables.{all_needed}
use Rattle.pt_tile.specs.declared.extent.Extent.{Extent}
use Rattle.pt_tile.specs.Extents.{tiles, up_to}
use Rattle.pt_format.specs.Laws.{IsLayout}
use Rattle.pt_map.specs.Past.{past_root}
use Rattle.pt_map.proofs.PastRoot.{past_beyond, past_near, reach_is as reach_at}
use Rattle.pt_map.proofs.beyond.count_past.Given.{Over}
use Rattle.pt_map.proofs.beyond.count_past.Goals as goal
use Rattle.pt_map.proofs.beyond.count_past.Goals.{After-count_all, After-from, After-spine_end-reach}

good : (g : Over) → IsLayout g.F.Format.layout
good g = g.met.F.Format.lawful_layout

reach_is : (g : Over) (c : After-spine_end-reach g) → c.spine_end-reach.result ≡ pages_of_table g.F.Format.layout c.args.root
reach_is g c = reach_at (good g) c.requires.extent c.args.root c.spine_end-reach.ensures c.requires.past

-- Its first page is under the root.

module _ (g : Over) (c : After-count_all g) where
  abbrev f : Layout
  f = g.F.Format.layout

  abbrev at_reach : After-spine_end-reach g
  at_reach = (goal.at.After-count_all g c).After-spine_end-reach

  low : c.args.levels - 1 ≤ c.args.root
  low = let l = c.requires.low in omega arith

  before : c.args.extent.first < pages_of_table f c.args.root
  before = let here = reach_is g at_reach in let b = c.if-extent-reach.true in omega arith

  part_is : c.up_to.result ≡ up_to c.args.extent (pages_of_table f c.args.root)
  part_is =
      let here = reach_is g at_reach in let past = c.requires.past in
      let end : min c.spine_end-reach.result c.args.extent.end ≡ pages_of_table f c.args.root = omega arith in
      c.up_to.ensures ∙ ap (up_to c.args.extent) end

  under : c.count_all.result ≡ length (all_needed f c.args.levels (tiles f (up_to c.args.extent (pages_of_table f c.args.root))))
  under = c.count_all.ensures ∙ ap (λ (y : Extent). length (all_needed f c.args.levels (tiles f y))) part_is

  sum : length (past_root f c.args.levels c.args.root c.args.extent) + c.count_all.result ≡ c.count_all-all.result
  sum =
      let both = past_near (good g) c.requires.extent c.args.levels c.args.root c.requires.start low c.requires.past before in
      let part = under in let whole = c.count_all-all.ensures in omega arith

pub overflow_sub-result : goal.overflow_sub-result
overflow_sub-result g c = let both = sum g c in omega arith

pub returns-then-extent-reach : goal.returns-then-extent-reach
returns-then-extent-reach g c = let both = sum g (goal.at.returns-then-extent-reach g c).After-count_all in omega arith

-- It isn't.

module _ (g : Over) (c : After-from g) where
  spine : length (past_root g.F.Format.layout c.args.levels c.args.root c.args.extent) + c.from.result ≡ c.count_all-all.result
  spine =
      let l = c.requires.low in let start = c.requires.start in let some = (good g).start_low in
      let here = reach_is g (goal.at.After-from g c).After-spine_end-reach in let b = c.if-extent-reach.false in
      let both = past_beyond (good g) c.requires.extent c.args.levels c.args.root c.requires.start (omega arith) c.requires.past (omega arith) in
      let whole = c.count_all-all.ensures in let number = c.from.ensures in omega arith

pub overflow_sub-result-else-extent-reach : goal.overflow_sub-result-else-extent-reach
overflow_sub-result-else-extent-reach g c = let both = spine g c in omega arith

pub returns-else-extent-reach : goal.returns-else-extent-reach
returns-else-extent-reach g c = let both = spine g (goal.at.returns-else-extent-reach g c).After-from in omega arith
