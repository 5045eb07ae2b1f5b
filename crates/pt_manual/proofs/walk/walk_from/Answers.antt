use Rattle.std.proofs.Common.{◌≡◌, ◌-◌, ◌^◌, ◌≤◌, true, arith, sym, ◌∙◌}
use Rattle.std.proofs.lemmas.Nat.{one_shl, mod_below, pow_pos}
use Rattle.std.proofs.Math.Pow.{pow_mono}
use Rattle.pt_manual.specs.NineBitWalk.{walk_from, followed}
use Rattle.pt_manual.proofs.WalkFacts.{walk_next}
use Rattle.pt_manual.proofs.walk.walk_from.Given as given
use Rattle.pt_manual.proofs.walk.walk_from.Goals as goal
use Rattle.pt_manual.proofs.walk.walk_from.Goals.{After-read_entry}

-- the walk, by the entry that was read
stepped : (g : given.Over) (c : After-read_entry g) →
    followed c.args.words.now c.args.address (g.E.Entries.manual.number (c.loop-level.level - 1)) c.loop-level.read c.loop-level.write
    (walk_from g.E.Entries.manual c.args.words.now c.args.address (c.loop-level.level - 1)) c.read_entry.result
    ≡ walk_from g.E.Entries.manual c.args.words.now c.args.address c.args.tables c.args.top true true
stepped g c =
    sym (walk_next g.E.Entries.manual c.args.words.now c.args.address c.loop-level.level c.loop-level.frame c.entry_at.result
    c.loop-level.read c.loop-level.write c.read_entry.result c.loop-level-test.true c.entry_at.ensures c.read_entry.ensures.step)
    ∙ c.loop-level.invariant.same_walk

pub returns-in-NotPresent : goal.returns-in-NotPresent
returns-in-NotPresent g c = rw c.in-NotPresent.is at (stepped g (goal.at.returns-in-NotPresent g c).After-read_entry)

pub returns-in-Reserved : goal.returns-in-Reserved
returns-in-Reserved g c = rw c.number_of-number.ensures (rw c.in-Reserved.is at (stepped g (goal.at.returns-in-Reserved g c).After-read_entry))

pub returns-in-Page : goal.returns-in-Page
returns-in-Page g c =
    let small = (c.read_entry.ensures.in_output _ c.in-Page.log2 _ _ c.in-Page.is).1 in
    c.page_for.ensures ∙ rw (c.number_of-number.ensures, one_shl c.in-Page.log2 64 small) (rw c.in-Page.is at (stepped g (goal.at.returns-in-Page g c).After-read_entry))

pub overflow_add-out : goal.overflow_add-out
overflow_add-out g c =
    let page = c.read_entry.ensures.in_output c.in-Page.page c.in-Page.log2 _ _ c.in-Page.is in
    let low : c.in-Page.log2 ≤ 63 = let p = page.1 in omega arith in
    let within = page.0 in
    let most : 2 ^ c.in-Page.log2 ≤ 2 ^ 63 = pow_mono low in
    let offset = mod_below c.args.address (2 ^ c.in-Page.log2) (pow_pos c.in-Page.log2) in
    rw (one_shl c.in-Page.log2 64 page.1) (omega arith)

pub returns-in_default : goal.returns-in_default
returns-in_default g c =
    rw c.number_of-number.ensures (rw c.in_default.ensures at (rw c.in-Next.is at (stepped g (goal.at.returns-in_default g c).After-read_entry)))

pub loop-level-preserved : goal.loop-level-preserved
loop-level-preserved g c = record {
  a_frame = c.in-Some.ensures.2;
  same_walk =
      rw c.in-Some.ensures.1
      (rw c.in-Some.ensures.0 at (rw c.in-Next.is at (stepped g (goal.at.loop-level-preserved g c).After-read_entry)));
}
