use Rattle.std.proofs.Common.{◌≡◌, ◌+◌, ◌-◌, [], List, ap, subst, sym, ◌∙◌}
use Rattle.pt_model.specs.declared.block.Block.{Block}
use Rattle.pt_model.specs.Layout.{Layout}
use Rattle.pt_model.specs.Book.{IsLawful, lies_in}
use Rattle.pt_view.specs.declared.view.View.{View}
use Rattle.pt_view.specs.Views.{IsAtRest, book_of}
use Rattle.pt_view.proofs.Loads.{loads_on, loads_path}
use Rattle.pt_walk.specs.RangeWalks.{left_of, rested}
use Rattle.pt_reply.specs.Running.{blocks_of, blocks_over, left_in}
use Rattle.pt_reply.proofs.MapFacts.{looked}
use Rattle.pt_reply.proofs.DumpFacts.{dumps_listable, dumps_same, listable_blocks, met_are_over}
use Rattle.pt_reply.proofs.commands.dump.Given.{Over}
use Rattle.pt_reply.proofs.commands.dump.Goals as goal
use Rattle.pt_reply.proofs.commands.dump.Goals.{After-begin-walk}

-- the walk has the same blocks, and is at rest with them once it has left its path
module _ (g : Over) (c : After-begin-walk g) where
  abbrev f : Layout
  f = g.F.Format.layout

  abbrev v : View
  v = g.H.Holder.view c.args.holder.now

  abbrev w : View
  w = g.H.Holder.view c.begin-walk.new.holder

  abbrev blocks : List Block
  blocks = blocks_of v.pieces

  same_blocks : blocks_of w.pieces ≡ blocks
  same_blocks = ap blocks_of c.begin-walk.ensures.walked.book.pieces

  rests : IsAtRest f (rested w) blocks
  rests = c.begin-walk.ensures.rest blocks c.requires.ready

  ready : IsAtRest f (rested w) (blocks_of w.pieces)
  ready = subst (IsAtRest f (rested w)) (sym same_blocks) rests

  lawful : IsLawful f w.levels (book_of (rested w) blocks)
  lawful = c.begin-walk.ensures.walking.way.book.lawful blocks rests

  left_is : left_in w c.begin-walk.result ≡ blocks_over v c.args.span.first (c.args.span.first + c.args.span.count)
  left_is =
      ap (left_of c.begin-walk.result) same_blocks
      ∙ c.begin-walk.ensures.left blocks c.requires.ready c.requires.some
      ∙ met_are_over v c.args.span.first c.args.span.count c.requires.from c.requires.to

pub list_blocks-dump-requires-clause-ready : goal.list_blocks-dump-requires-clause-ready
list_blocks-dump-requires-clause-ready g c = ready g (goal.at.list_blocks-dump-requires-clause-ready g c).After-begin-walk

pub returns-clause-rests : goal.returns-clause-rests
returns-clause-rests g c =
    let here = (goal.at.returns-clause-rests g c).After-begin-walk in
    let walked = loads_on (loads_on c.begin-walk.ensures.walked c.list_blocks-dump.ensures.walked) (loads_path [] c.end.ensures.left) in
    looked (f g here) (v g here) (g.H.Holder.view c.end.new.holder) walked
    (subst (λ (x : View). IsAtRest (f g here) x (blocks g here)) (sym c.end.ensures.left) (c.list_blocks-dump.ensures.rest (blocks g here) (rests g here)))

pub returns-clause-dumps : goal.returns-clause-dumps
returns-clause-dumps g c =
    let here = (goal.at.returns-clause-dumps g c).After-begin-walk in
    dumps_same c.list_blocks-dump.result _ _ (left_is g here) c.list_blocks-dump.ensures.listed

pub returns-clause-listable : goal.returns-clause-listable
returns-clause-listable g c =
    let here = (goal.at.returns-clause-listable g c).After-begin-walk in
    dumps_listable (f g here) (lies_in c.args.span.first (c.args.span.first + (c.args.span.first + c.args.span.count - c.args.span.first))) (blocks g here)
    (listable_blocks (f g here) (w g here).levels (book_of (rested (w g here)) (blocks g here)) (lawful g here) c.requires.small)
    c.list_blocks-dump.result (dumps_same c.list_blocks-dump.result _ _ (left_is g here) c.list_blocks-dump.ensures.listed)
