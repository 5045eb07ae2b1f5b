use Rattle.std.proofs.Common.{◌≡◌, ◌<◌, ◌+◌, sym, ap, ◌∙◌, subst, arith, length-set}
use Rattle.std.specs.Prelude.{◌==◌}
use prog.Atomic.{either}
use Rattle.pt_model.specs.Words.{entry_place, frame_named, word_count}
use Rattle.pt_format.specs.Words.{IsTableAddress}
use Rattle.pt_view.specs.declared.holder.Won.TheVariants.{Yes, Met}
use Rattle.pt_view.specs.Calls.{InstallFinds, IsInstalled, MayInstall}
use Rattle.pt_rule.specs.Kinds.{IsLowestIn}
use Rattle.pt_rule.specs.Meets.{Always, IsWhole}
use Rattle.pt_space.specs.Standing.{Standing, cut_to}
use Rattle.pt_space.proofs.Showing.{may_step}
use Rattle.pt_space.proofs.Nodes as nodes
use Rattle.pt_space.proofs.Installs as installs
use Rattle.pt_space.proofs.holder.LeaseHolder.install.Given.{Over}
use Rattle.pt_space.proofs.holder.LeaseHolder.install.Goals as goal
use Rattle.pt_space.proofs.holder.LeaseHolder.install.Goals.{After-entry-parent}

module _ (g : Over) (c : After-entry-parent g) where
  may : MayInstall g.F.Format.layout (cut_to c.self.inside.depth c.self.inside.seat.me.0) c.args.number
  may = subst (λ (x : Standing). MayInstall g.F.Format.layout x.view c.args.number) (sym c.self.view_is) c.requires

  low : IsLowestIn (cut_to c.self.inside.depth c.self.inside.seat.me.0) c.entry-parent.result.0
  low = subst (λ (x : Standing). IsLowestIn x.view c.entry-parent.result.0) (sym c.self.view_is) c.entry-parent.ensures.lowest

pub entry-parent-requires : goal.entry-parent-requires
entry-parent-requires g c = (c.requires.position, c.requires.entry)

pub frame_address-requires : goal.frame_address-requires
frame_address-requires g c =
    let law = g.met.F.Format in
    let d = (goal.at.frame_address-requires g c).After-entry-parent in
    installs.own_within law.lawful_layout law.words_differ law.steps_agree c.self.invariant.3 (may g d) (low g d) c.in-Some.frame c.in-Some.is

pub table_word-word-requires-clause-above : goal.table_word-word-requires-clause-above
table_word-word-requires-clause-above g c =
    let law = g.met.F.Format in
    let d = (goal.at.table_word-word-requires-clause-above g c).After-entry-parent in
    installs.table_level law.lawful_layout law.words_differ law.steps_agree c.self.invariant.3 (may g d) (low g d) c.in-Some.frame c.in-Some.is

pub exchange-found-requires-clause-may : goal.exchange-found-requires-clause-may
exchange-found-requires-clause-may g c =
    let law = g.met.F.Format in
    let f = g.F.Format.layout in
    let d = (goal.at.exchange-found-requires-clause-may g c).After-entry-parent in
    let same = c.entry-parent.ensures in
    may_step c.self.invariant.3 (low g d, may g d) c.entry-parent.result.1 (subst (λ (x : Standing). entry_place f x.space.frames c.entry-parent.result.0 c.args.number ≡ c.entry-parent.result.1) (sym c.self.view_is) same.place)
    (subst (λ (x : Standing). c.entry-parent.result.1 < word_count f x.space.frames) (sym c.self.view_is) same.within) (λ n. either (n == 0) c.table_word-word.result n)
    (λ n. installs.puts law.lawful_layout law.words_differ law.steps_agree c.self.invariant.3 (may g d) (low g d) c.in-Some.frame c.in-Some.is c.table_word-word.result n (c.table_word-word.ensures ∙ ap (f.pointer c.self.inside.level) c.frame_address.ensures.address))

pub address_of-requires : goal.address_of-requires
address_of-requires g c =
    let law = g.met.F.Format in
    let d = (goal.at.address_of-requires g c).After-entry-parent in
    record { a_pointer = installs.met_pointer law.lawful_layout law.words_differ law.steps_agree c.self.invariant.3 (may g d) (low g d) c.in-Some.frame c.in-Some.is c.exchange-found.ensures.stepped c.if-found-ne0.true }

pub frame_named-requires : goal.frame_named-requires
frame_named-requires g c =
    let law = g.met.F.Format in
    let d = (goal.at.frame_named-requires g c).After-entry-parent in
    let read = installs.met_pointer law.lawful_layout law.words_differ law.steps_agree c.self.invariant.3 (may g d) (low g d) c.in-Some.frame c.in-Some.is c.exchange-found.ensures.stepped c.if-found-ne0.true in
    subst (IsTableAddress g.F.Format.layout) (sym (c.address_of.ensures read.0 read.1)) read.1.a_frame

pub bounds-self-inside-depth : goal.bounds-self-inside-depth
bounds-self-inside-depth g c =
    let d = (goal.at.bounds-self-inside-depth g c).After-entry-parent in
    let six = nodes.six g.met.F.Format.lawful_layout c.self.invariant.3 (may g d).entry in
    let long = c.self.invariant.2 in omega arith

pub overflow_add-self : goal.overflow_add-self
overflow_add-self g c =
    let d = (goal.at.overflow_add-self g c).After-entry-parent in
    let six = nodes.six g.met.F.Format.lawful_layout c.self.invariant.3 (may g d).entry in omega arith

pub invariant_of-self : goal.invariant_of-self
invariant_of-self g c =
    let law = g.met.F.Format in
    let f = g.F.Format.layout in
    let d = (goal.at.invariant_of-self g c).After-entry-parent in
    let o = c.self.inside in
    let seat = c.exchange-found.ensures.seat in
    let read = installs.met_pointer law.lawful_layout law.words_differ law.steps_agree c.self.invariant.3 (may g d) (low g d) c.in-Some.frame c.in-Some.is c.exchange-found.ensures.stepped c.if-found-ne0.true in (
      seat.0 ∙ c.self.invariant.0,
      seat.2 ∙ c.self.invariant.1,
      length-set o.path o.depth c.frame_named.result ∙ c.self.invariant.2,
      installs.shows_met law.lawful_layout law.words_differ law.steps_agree c.self.invariant.3 (may g d) (low g d) c.in-Some.frame c.in-Some.is c.exchange-found.ensures.stepped c.if-found-ne0.true read.1 c.self.invariant.2 c.frame_named.result
          (c.frame_named.ensures ∙ ap (frame_named f) (c.address_of.ensures read.0 read.1)),
    )

pub returns-then-found-ne0-clause-installed : goal.returns-then-found-ne0-clause-installed
returns-then-found-ne0-clause-installed g c =
    let law = g.met.F.Format in
    let f = g.F.Format.layout in
    let d = (goal.at.returns-then-found-ne0-clause-installed g c).After-entry-parent in
    let read = installs.met_pointer law.lawful_layout law.words_differ law.steps_agree c.self.invariant.3 (may g d) (low g d) c.in-Some.frame c.in-Some.is c.exchange-found.ensures.stepped c.if-found-ne0.true in
    subst (λ (x : Standing). IsInstalled f Always c.args.number x.view Met (cut_to (c.self.inside.depth + 1) c.exchange-found.new.seat.me.0)) c.self.view_is
    (installs.installed_met law.lawful_layout law.words_differ law.steps_agree c.self.invariant.3 (may g d) (low g d) c.in-Some.frame c.in-Some.is c.exchange-found.ensures.stepped c.if-found-ne0.true read.1)

pub returns-then-found-ne0-clause-found : goal.returns-then-found-ne0-clause-found
returns-then-found-ne0-clause-found g c =
    let law = g.met.F.Format in
    let f = g.F.Format.layout in
    let d = (goal.at.returns-then-found-ne0-clause-found g c).After-entry-parent in
    subst (λ (x : Standing). InstallFinds f (IsWhole f x.view) c.args.number x.view Met) c.self.view_is
    (installs.found_met law.lawful_layout law.words_differ law.steps_agree c.self.invariant.3 (may g d) (low g d) c.in-Some.frame c.in-Some.is c.exchange-found.ensures.stepped c.if-found-ne0.true)

pub invariant_of-self-2 : goal.invariant_of-self-2
invariant_of-self-2 g c =
    let law = g.met.F.Format in
    let d = (goal.at.invariant_of-self-2 g c).After-entry-parent in
    let o = c.self.inside in
    let seat = c.exchange-found.ensures.seat in (
      seat.0 ∙ c.self.invariant.0,
      seat.2 ∙ c.self.invariant.1,
      length-set o.path o.depth c.in-Some.frame ∙ c.self.invariant.2,
      installs.shows_won law.lawful_layout law.words_differ law.steps_agree c.self.invariant.3 (may g d) (low g d) c.in-Some.frame c.in-Some.is c.exchange-found.ensures.stepped c.if-found-ne0.false c.self.invariant.2,
    )

pub returns-clause-installed : goal.returns-clause-installed
returns-clause-installed g c =
    let law = g.met.F.Format in
    let f = g.F.Format.layout in
    let d = (goal.at.returns-clause-installed g c).After-entry-parent in
    subst (λ (x : Standing). IsInstalled f Always c.args.number x.view Yes (cut_to (c.self.inside.depth + 1) c.exchange-found.new.seat.me.0)) c.self.view_is
    (installs.installed_won law.lawful_layout law.words_differ law.steps_agree c.self.invariant.3 (may g d) (low g d) c.in-Some.frame c.in-Some.is c.exchange-found.ensures.stepped c.if-found-ne0.false)

pub returns-clause-found : goal.returns-clause-found
returns-clause-found g c =
    let law = g.met.F.Format in
    let f = g.F.Format.layout in
    let d = (goal.at.returns-clause-found g c).After-entry-parent in
    subst (λ (x : Standing). InstallFinds f (IsWhole f x.view) c.args.number x.view Yes) c.self.view_is
    (installs.found_won law.lawful_layout law.words_differ law.steps_agree c.self.invariant.3 (may g d) (low g d) c.in-Some.frame c.in-Some.is c.exchange-found.ensures.stepped c.if-found-ne0.false)

pub overflow_sub-self : goal.overflow_sub-self
overflow_sub-self g c =
    let law = g.met.F.Format in
    let d = (goal.at.overflow_sub-self g c).After-entry-parent in
    installs.high law.lawful_layout law.words_differ law.steps_agree c.self.invariant.3 (may g d) (low g d) c.in-Some.frame c.in-Some.is

pub overflow_sub-self-2 : goal.overflow_sub-self-2
overflow_sub-self-2 g c =
    let law = g.met.F.Format in
    let d = (goal.at.overflow_sub-self-2 g c).After-entry-parent in
    installs.high law.lawful_layout law.words_differ law.steps_agree c.self.invariant.3 (may g d) (low g d) c.in-Some.frame c.in-Some.is

pub bounds-self-inside-depth-2 : goal.bounds-self-inside-depth-2
bounds-self-inside-depth-2 g c =
    let law = g.met.F.Format in
    let d = (goal.at.bounds-self-inside-depth-2 g c).After-entry-parent in
    let six = nodes.six law.lawful_layout c.self.invariant.3 (may g d).entry in let high = installs.high law.lawful_layout law.words_differ law.steps_agree c.self.invariant.3 (may g d) (low g d) c.in-Some.frame c.in-Some.is in let long = c.self.invariant.2 in omega arith

pub overflow_add-self-2 : goal.overflow_add-self-2
overflow_add-self-2 g c =
    let law = g.met.F.Format in
    let d = (goal.at.overflow_add-self-2 g c).After-entry-parent in
    let six = nodes.six law.lawful_layout c.self.invariant.3 (may g d).entry in omega arith
