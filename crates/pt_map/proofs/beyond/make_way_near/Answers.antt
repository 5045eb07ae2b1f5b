use Rattle.std.proofs.Common.{◌≡◌, ◌<◌, ap, sym, ◌∙◌, subst, arith}
use Rattle.std.specs.Prelude.{min}
use Rattle.pt_model.specs.Layout.{Layout, pages_of_table}
use Rattle.pt_format.specs.Laws.{IsLayout}
use Rattle.pt_tile.specs.declared.extent.Extent.{Extent}
use Rattle.pt_tile.specs.Extents.{tiles, up_to}
use Rattle.pt_map.specs.Replaced.{MayMakeWay, UnlinksReplaced, is_replaced}
use Rattle.pt_map.proofs.NearRoot.{made_far, made_near, may_make, near_replaced}
use Rattle.pt_map.proofs.PastRoot.{reach_is}
use Rattle.pt_map.proofs.beyond.make_way_near.Given.{Over}
use Rattle.pt_map.proofs.beyond.make_way_near.Goals as goal
use Rattle.pt_map.proofs.beyond.make_way_near.Goals.{After-up_to}

good : (g : Over) → IsLayout g.F.Format.layout
good g = g.met.F.Format.lawful_layout

module _ (g : Over) (c : After-up_to g) where
  abbrev f : Layout
  f = g.F.Format.layout

  within : c.args.extent.first < pages_of_table f c.args.root
  within = let e = reach_is (good g) c.requires.may.may.extent c.args.root c.spine_end-reach.ensures c.requires.may.may.past in let b = c.if-extent-reach.true in omega arith

  part_is : c.up_to.result ≡ up_to c.args.extent (pages_of_table f c.args.root)
  part_is =
      let e = reach_is (good g) c.requires.may.may.extent c.args.root c.spine_end-reach.ensures c.requires.may.may.past in let past = c.requires.may.may.past in
      let end : min c.spine_end-reach.result c.args.extent.end ≡ pages_of_table f c.args.root = omega arith in
      c.up_to.ensures ∙ ap (up_to c.args.extent) end

pub make_way-requires-clause-may : goal.make_way-requires-clause-may
make_way-requires-clause-may g c =
    subst (λ (y : Extent). MayMakeWay g.F.Format.layout (g.H.Holder.view c.args.holder.now) y c.args.root) (sym (part_is g c))
    (may_make (good g) c.requires.may.may (within g c) c.requires.may.free)

pub make_way-requires-clause-none : goal.make_way-requires-clause-none
make_way-requires-clause-none g c = λ e p m.
    ap (λ (y : Extent). is_replaced g.F.Format.layout (tiles g.F.Format.layout y) p) (part_is g c)
    ∙ sym (near_replaced (good g) c.requires.may.may (within g c) p (c.requires.may.may.over_tables p m)) ∙ c.requires.may.none e p m

pub returns-then-extent-reach-clause-unlinks : goal.returns-then-extent-reach-clause-unlinks
returns-then-extent-reach-clause-unlinks g c =
    let u = (goal.at.returns-then-extent-reach-clause-unlinks g c).After-up_to in
    made_near (good g) c.requires.may.may (within g u)
    (subst (λ (y : Extent). UnlinksReplaced g.F.Format.layout g.H.Holder.tells (g.H.Holder.alone c.args.holder.now) (tiles g.F.Format.layout y) (g.H.Holder.view c.args.holder.now) (g.H.Holder.view c.make_way.new.holder))
    (part_is g u) c.make_way.ensures.unlinks)

pub returns-else-extent-reach-clause-unlinks : goal.returns-else-extent-reach-clause-unlinks
returns-else-extent-reach-clause-unlinks g c =
    let e = reach_is (good g) c.requires.may.may.extent c.args.root c.spine_end-reach.ensures c.requires.may.may.past in let b = c.if-extent-reach.false in
    made_far (good g) c.requires.may.may (omega arith)
