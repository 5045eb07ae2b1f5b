use Rattle.std.proofs.Common.{◌≡◌, ◌+◌, ℕ, ap, ◌∙◌, sym, subst, arith, length-set, refl}
use Rattle.std.proofs.lemmas.Bool.{false≢true}
use Rattle.pt_model.specs.declared.block.Prot.{Prot}
use Rattle.pt_model.specs.Layout.{Layout}
use Rattle.pt_model.specs.Words.{frame_named}
use Rattle.pt_format.specs.Words.{IsLeaf, IsPointer}
use Rattle.pt_view.specs.declared.holder.Seen.TheVariants.{Empty, Leaf, Entered}
use Rattle.pt_view.specs.Calls.{MeetsEntry, Went}
use Rattle.pt_rule.specs.Meets.{Always, IsWhole}
use Rattle.pt_space.specs.Standing.{Standing, cut_to}
use Rattle.pt_space.proofs.Showing.{may_step}
use Rattle.pt_space.proofs.Nodes as nodes
use Rattle.pt_space.proofs.EntryPlaces.{lowest_at, place_at, within_at}
use Rattle.pt_space.proofs.Enters as enters
use Rattle.pt_space.proofs.lease.Lease.enter_at.Goals as goal

-- what may be looked at, by the fields
may : {f : Layout} {s t : Standing} {number : ℕ} → s ≡ t → MeetsEntry f t.view number → MeetsEntry f s.view number
may {f} {number = number} is meets = subst (λ (x : Standing). MeetsEntry f x.view number) (sym is) meets

pub load-word-requires-clause-may : goal.load-word-requires-clause-may
load-word-requires-clause-may g c =
    may_step c.self.invariant.3 (lowest_at c.self.view_is c.requires.at, may c.self.view_is c.requires.meets) c.args.place (place_at c.self.view_is c.requires.at)
    (within_at c.self.view_is c.requires.at c.requires.meets.entry.within) (λ n. n) (λ n. refl)

pub invariant_of-self : goal.invariant_of-self
invariant_of-self g c =
    let law = g.met.F.Format in
    let seat = c.load-word.ensures.seat in (
      seat.0 ∙ c.self.invariant.0,
      seat.2 ∙ c.self.invariant.1,
      c.self.invariant.2,
      enters.shows_empty law.lawful_layout law.words_differ law.steps_agree c.self.invariant.3 (may c.self.view_is c.requires.meets) (lowest_at c.self.view_is c.requires.at) c.load-word.ensures.stepped c.if-word-eq0.true,
    )

pub returns-then-word-eq0-clause-went : goal.returns-then-word-eq0-clause-went
returns-then-word-eq0-clause-went g c =
    let law = g.met.F.Format in
    let f = g.F.Format.layout in
    subst (λ (x : Standing). Went f Always (IsWhole f x.view) c.args.number x.view Empty (cut_to c.self.inside.depth c.load-word.new.seat.me.0)) c.self.view_is
    (enters.went_empty law.lawful_layout law.words_differ law.steps_agree c.self.invariant.3 (may c.self.view_is c.requires.meets) (lowest_at c.self.view_is c.requires.at) c.load-word.ensures.stepped c.if-word-eq0.true)

pub is_leaf-requires-clause-below : goal.is_leaf-requires-clause-below
is_leaf-requires-clause-below g c =
    nodes.level_below g.met.F.Format.lawful_layout c.self.invariant.3 (may c.self.view_is c.requires.meets).entry

pub is_leaf-requires-clause-written : goal.is_leaf-requires-clause-written
is_leaf-requires-clause-written g c =
    let law = g.met.F.Format in
    enters.written law.lawful_layout law.words_differ law.steps_agree c.self.invariant.3 (may c.self.view_is c.requires.meets) (lowest_at c.self.view_is c.requires.at) c.load-word.ensures.stepped c.if-word-eq0.false

pub invariant_of-self-then-is_leaf : goal.invariant_of-self-then-is_leaf
invariant_of-self-then-is_leaf g c =
    let law = g.met.F.Format in
    let seat = c.load-word.ensures.seat in
    let leaf : (log2 : ℕ) × (prot : Prot) × IsLeaf g.F.Format.layout c.self.inside.level c.load-word.result log2 prot = c.is_leaf.ensures.leaf c.if-is_leaf.true in (
      seat.0 ∙ c.self.invariant.0,
      seat.2 ∙ c.self.invariant.1,
      c.self.invariant.2,
      enters.shows_leaf law.lawful_layout law.words_differ law.steps_agree c.self.invariant.3 (may c.self.view_is c.requires.meets) (lowest_at c.self.view_is c.requires.at) c.load-word.ensures.stepped leaf.0 leaf.1 leaf.2,
    )

pub returns-then-is_leaf-clause-went : goal.returns-then-is_leaf-clause-went
returns-then-is_leaf-clause-went g c =
    let law = g.met.F.Format in
    let f = g.F.Format.layout in
    let leaf : (log2 : ℕ) × (prot : Prot) × IsLeaf f c.self.inside.level c.load-word.result log2 prot = c.is_leaf.ensures.leaf c.if-is_leaf.true in
    subst (λ (x : Standing). Went f Always (IsWhole f x.view) c.args.number x.view (Leaf c.load-word.result) (cut_to c.self.inside.depth c.load-word.new.seat.me.0)) c.self.view_is
    (enters.went_leaf law.lawful_layout law.words_differ law.steps_agree c.self.invariant.3 (may c.self.view_is c.requires.meets) (lowest_at c.self.view_is c.requires.at) c.load-word.ensures.stepped leaf.0 leaf.1 leaf.2)

pub bounds-self-inside-depth : goal.bounds-self-inside-depth
bounds-self-inside-depth g c =
    let six = nodes.six g.met.F.Format.lawful_layout c.self.invariant.3 (may c.self.view_is c.requires.meets).entry in
    let long = c.self.invariant.2 in omega arith

pub overflow_add-self : goal.overflow_add-self
overflow_add-self g c =
    let six = nodes.six g.met.F.Format.lawful_layout c.self.invariant.3 (may c.self.view_is c.requires.meets).entry in omega arith

pub invariant_of-self-2 : goal.invariant_of-self-2
invariant_of-self-2 g c =
    let law = g.met.F.Format in
    let f = g.F.Format.layout in
    let o = c.self.inside in
    let seat = c.load-word.ensures.seat in
    let pointer : (address : ℕ) × IsPointer f o.level c.load-word.result address = c.is_leaf.ensures.pointer (λ yes. false≢true (sym c.if-is_leaf.false ∙ yes)) in (
      seat.0 ∙ c.self.invariant.0,
      seat.2 ∙ c.self.invariant.1,
      length-set o.path o.depth c.frame_named.result ∙ c.self.invariant.2,
      enters.shows_entered law.lawful_layout law.words_differ law.steps_agree c.self.invariant.3 (may c.self.view_is c.requires.meets) (lowest_at c.self.view_is c.requires.at) c.load-word.ensures.stepped pointer.0 pointer.1 c.self.invariant.2 c.frame_named.result
          (c.frame_named.ensures ∙ ap (frame_named f) (c.address_of.ensures pointer.0 pointer.1)),
    )

pub returns-clause-went : goal.returns-clause-went
returns-clause-went g c =
    let law = g.met.F.Format in
    let f = g.F.Format.layout in
    let pointer : (address : ℕ) × IsPointer f c.self.inside.level c.load-word.result address = c.is_leaf.ensures.pointer (λ yes. false≢true (sym c.if-is_leaf.false ∙ yes)) in
    subst (λ (x : Standing). Went f Always (IsWhole f x.view) c.args.number x.view Entered (cut_to (c.self.inside.depth + 1) c.load-word.new.seat.me.0)) c.self.view_is
    (enters.went_entered law.lawful_layout law.words_differ law.steps_agree c.self.invariant.3 (may c.self.view_is c.requires.meets) (lowest_at c.self.view_is c.requires.at) c.load-word.ensures.stepped pointer.0 pointer.1)
