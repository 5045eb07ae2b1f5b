use Rattle.std.proofs.Common.{◌^◌, ◌≤◌, List, ap, length, ◌∙◌, arith}
use Rattle.pt_model.specs.declared.block.Block.{Block}
use Rattle.pt_view.specs.declared.view.View.{View}
use Rattle.pt_view.specs.Views.{book_of}
use Rattle.pt_view.proofs.Loads.{loads_on}
use Rattle.pt_view.proofs.Stays.{stays_on}
use Rattle.pt_walk.specs.RangeWalks.{is_left, left_of, rested}
use Rattle.pt_reply.specs.Running.{blocks_of, left_in}
use Rattle.pt_reply.proofs.DumpFacts.{counts_on, dump_of, dumps_all, few_of_lawful, lists_on}
use Rattle.pt_reply.proofs.commands.list_blocks.Goals as goal

pub overflow_add-count : goal.overflow_add-count
overflow_add-count g c =
    let f = g.F.Format.layout in
    let v : View = g.H.Holder.view c.args.holder.now in
    let bs : List Block = blocks_of v.pieces in
    let few : length (left_in v c.args.walk.now) ≤ 2 ^ 52 =
    few_of_lawful f g.met.F.Format.lawful_layout v.levels (book_of (rested v) bs) (c.requires.walking.way.book.lawful bs c.requires.ready) (is_left c.args.walk.now.at c.args.walk.now.end) in
    let counted = c.loop-block.invariant.counted in
    omega arith

pub loop-block-preserved : goal.loop-block-preserved
loop-block-preserved g c =
    let v : View = g.H.Holder.view c.args.holder.now in
    let bs : List Block = blocks_of v.pieces in
    let i = c.loop-block.invariant in
    let e = c.in-Some.ensures in
    let comes = e.comes bs (i.rest bs c.requires.ready) in
    record {
      stays = stays_on i.stays e.stays;
      walked = loads_on i.walked e.walked;
      walking = e.walking;
      rest = λ blocks rest. e.rest blocks (i.rest blocks rest);
      counted = counts_on c.loop-block.count c.in-Some.block (left_of c.loop-block.walk bs) (left_of c.next.new.self bs) (left_in v c.args.walk.now) comes i.counted;
      few = c.in_ok-list_block.ensures.few;
      listed = lists_on c.loop-block.lowest.items c.list_block.new.lowest.items c.in-Some.block (left_of c.loop-block.walk bs) (left_of c.next.new.self bs) (left_in v c.args.walk.now)
          c.in_ok-list_block.ensures.next comes i.listed;
    }

pub returns-clause-listed : goal.returns-clause-listed
returns-clause-listed g c =
    let v : View = g.H.Holder.view c.args.holder.now in
    let bs : List Block = blocks_of v.pieces in
    let i = c.loop-block.invariant in
    let comes = c.in_default.ensures.comes bs (i.rest bs c.requires.ready) in
    ap (dump_of c.loop-block.count) c.of.ensures
    ∙ dumps_all c.loop-block.count c.loop-block.lowest.items (left_of c.loop-block.walk bs) (left_in v c.args.walk.now) comes.0 i.counted i.few i.listed
