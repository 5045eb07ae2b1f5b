use Rattle.std.proofs.Common.{ℕ, ◌-◌, ◌<◌, rules}
use Rattle.pt_view.proofs.Entries.{may_enter}
use Rattle.pt_view.proofs.Loads.{IsLoad, leaf_loads, load_leaf, load_none, loads_on, none_loads, table_high, table_loads}
use Rattle.pt_view.proofs.Stays.{stays_on}
use Rattle.pt_walk.specs.Walks.{HasNone, IsFound, IsGoing, leaf_in}
use Rattle.pt_walk.proofs.Descent.{empty_none, entered_going, found_on, leaf_found, leaf_is, leaf_nonzero, match_on, none_below}
use Rattle.pt_walk.proofs.Ranges.{down_here, down_more}
use Rattle.pt_walk.proofs.path.+go_down.Given.{Over}
use Rattle.pt_walk.proofs.path.+go_down.Goals as goal
use Rattle.pt_walk.proofs.path.+go_down.Goals.{After-enter}

-- the load of the entry on the way
load : (g : Over) (t : ℕ) (c : After-enter g t) → IsLoad g.F.Format.layout g.H.Holder.tells (g.H.Holder.alone c.args.holder.now) (g.H.Holder.view c.args.holder.now) c.args.page c.args.level c.enter.result (g.H.Holder.view c.enter.new.self)
load g t c = record {
  over = c.requires.going.over;
  inside = c.requires.going.asked.in_span;
  number = c.entry_number.result;
  is = c.entry_number.ensures.number;
  went = c.enter.ensures.went;
}

pub enter-requires : goal.enter-requires
enter-requires g t c = may_enter c.requires.going.over c.requires.going.asked.in_span c.entry_number.result c.entry_number.ensures.number

pub overflow_sub-level : goal.overflow_sub-level
overflow_sub-level g t c = table_high (load g t (goal.at.overflow_sub-level g t c).After-enter) c.in-Entered.is

pub go_down-requires : goal.go_down-requires
go_down-requires g t c κs within =
    let l = load g t (goal.at.go_down-requires g t c).After-enter in
    let go : IsGoing g.F.Format.layout (g.H.Holder.view c.enter.new.self) c.args.page (c.args.level - 1) = entered_going l c.in-Entered.is c.requires.going in
    let high : 0 < c.args.level = table_high l c.in-Entered.is in
    search (rules, go)

pub returns-in-Empty : goal.returns-in-Empty
returns-in-Empty g t c =
    let l = load g t (goal.at.returns-in-Empty g t c).After-enter in
    let owns = c.requires.going.asked.owns in
    record { stays = c.enter.ensures.stays; walked = none_loads l c.in-Empty.is; down = down_here c.requires.going.over (load_none l c.in-Empty.is).path; found = empty_none g.met.F.Format.lawful_layout owns l c.in-Empty.is }

pub returns-in-Leaf : goal.returns-in-Leaf
returns-in-Leaf g t c =
    let f = g.F.Format.layout in
    let v = g.H.Holder.view c.args.holder.now in
    let l = load g t (goal.at.returns-in-Leaf g t c).After-enter in
    let owns = c.requires.going.asked.owns in
    let found = leaf_is c.in-Leaf.word (HasNone f v c.args.page c.args.level) (λ word. IsFound f v c.args.page c.args.level word)
    (leaf_nonzero g.met.F.Format.lawful_layout owns l g.met.F.Format.words_differ c.in-Leaf.is) (leaf_found g.met.F.Format.lawful_layout owns l c.in-Leaf.is) in
    record { stays = c.enter.ensures.stays; walked = leaf_loads l c.in-Leaf.is; down = down_here c.requires.going.over (load_leaf l c.in-Leaf.is).path; found = found }

pub returns-in-Entered : goal.returns-in-Entered
returns-in-Entered g t c =
    let f = g.F.Format.layout in
    let v = g.H.Holder.view c.args.holder.now in
    let w = g.H.Holder.view c.enter.new.self in
    let l = load g t (goal.at.returns-in-Entered g t c).After-enter in
    let d = c.go_down.ensures in
    let found = match_on (leaf_in c.go_down.result.word) (HasNone f w c.args.page (c.args.level - 1)) (HasNone f v c.args.page c.args.level)
    (λ word. IsFound f w c.args.page c.go_down.result.level word) (λ word. IsFound f v c.args.page c.go_down.result.level word)
    (none_below g.met.F.Format.lawful_layout c.requires.going.asked.owns l c.in-Entered.is) (λ word. found_on c.enter.ensures.went.book) d.found in
    record { stays = stays_on c.enter.ensures.stays d.stays; walked = loads_on (table_loads l c.in-Entered.is) d.walked; down = down_more l c.in-Entered.is d.down; found = found }
