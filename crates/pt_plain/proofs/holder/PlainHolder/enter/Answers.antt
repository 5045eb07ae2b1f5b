use Rattle.std.proofs.Common.{◌≡◌, ℕ, List, refl, ap, sym, ◌∙◌, subst}
use Rattle.std.specs.Prelude.{slice_index}
use Rattle.std.proofs.lemmas.Bool.{false≢true}
use Rattle.pt_model.specs.Words.{entry_of, frame_named}
use Rattle.pt_format.specs.Words.{IsLeaf, IsPointer, IsWritten}
use Rattle.pt_view.specs.declared.holder.Seen.TheVariants.{Empty, Leaf}
use Rattle.pt_view.specs.Calls.{MeetsEntry, Went}
use Rattle.pt_plain.specs.Owner.{Owned}
use Rattle.pt_plain.proofs.EntryCalls as entry
use Rattle.pt_plain.proofs.Laws.{Laws}
use Rattle.pt_plain.proofs.Owners.{kept_aside, seen}
use Rattle.pt_plain.proofs.holder.PlainHolder.enter.Given.{Over}
use Rattle.pt_plain.proofs.holder.PlainHolder.enter.Goals as goal
use Rattle.pt_plain.proofs.holder.PlainHolder.enter.Goals.{After-deref, Else-word-eq0, After-frame_named}

laws : (g : Over) → Laws g.F.Format.layout
laws g = let law = g.met.F.Format in record { layout = law.lawful_layout; differ = law.words_differ; agree = law.steps_agree }

may : (g : Over) (c : After-deref g) → entry.MayEnter c.self.invariant c.args.number
may g c = subst (λ (x : Owned). MeetsEntry g.F.Format.layout x.view c.args.number) (sym c.self.view_is) c.requires

pub entry-word-requires-clause-a_frame : goal.entry-word-requires-clause-a_frame
entry-word-requires-clause-a_frame g c = entry.within (laws g) c.self.invariant c.args.number (may g c)

pub returns-then-word-eq0-clause-went : goal.returns-then-word-eq0-clause-went
returns-then-word-eq0-clause-went g c =
    let d = (goal.at.returns-then-word-eq0-clause-went g c).After-deref in
    let zero : entry.word_at c.self.invariant c.args.number ≡ 0 =
    sym (c.entry-word.ensures ∙ ap (λ (ws : List ℕ). let o = c.self.inside in entry_of g.F.Format.layout o.frames ws (slice_index o.path o.level) c.args.number) c.deref.ensures.value) ∙ c.if-word-eq0.true in
    subst (λ (x : Owned). Went g.F.Format.layout ⊥ (Unit {0}) c.args.number x.view Empty x.view) c.self.view_is
    (entry.finds_zero (laws g) c.self.invariant c.args.number (may g d) zero).says

-- the word that was loaded is the entry's
loaded : (g : Over) (c : Else-word-eq0 g) → c.entry-word.result ≡ entry.word_at c.self.invariant c.args.number
loaded g c = c.entry-word.ensures ∙ ap (λ (ws : List ℕ). let o = c.self.inside in entry_of g.F.Format.layout o.frames ws (slice_index o.path o.level) c.args.number) c.deref.ensures.value

pub is_leaf-requires-clause-below : goal.is_leaf-requires-clause-below
is_leaf-requires-clause-below g c = entry.below (laws g) c.self.invariant c.args.number (may g (goal.at.is_leaf-requires-clause-below g c).After-deref)

pub is_leaf-requires-clause-written : goal.is_leaf-requires-clause-written
is_leaf-requires-clause-written g c = subst (IsWritten g.F.Format.layout c.self.inside.level) (sym (loaded g c))
    (entry.written (laws g) c.self.invariant c.args.number (may g (goal.at.is_leaf-requires-clause-written g c).After-deref) (λ z. c.if-word-eq0.false (loaded g c ∙ z)))

pub returns-then-is_leaf-clause-went : goal.returns-then-is_leaf-clause-went
returns-then-is_leaf-clause-went g c =
    let e = (goal.at.returns-then-is_leaf-clause-went g c).Else-word-eq0 in
    let d = (goal.at.Else-word-eq0 g e).After-deref in
    let f = g.F.Format.layout in
    let leaf = c.is_leaf.ensures.leaf c.if-is_leaf.true in
    subst (λ (t : Owned × ℕ). Went f ⊥ (Unit {0}) c.args.number t.0.view (Leaf t.1) t.0.view) (λ i. (c.self.view_is i, sym (loaded g e) i))
    (entry.finds_leaf (laws g) c.self.invariant c.args.number (may g d) leaf.0 leaf.1
    (subst (λ (word : ℕ). IsLeaf f c.self.inside.level word leaf.0 leaf.1) (loaded g e) leaf.2)).says

-- A pointer was found.
module _ (g : Over) (c : After-frame_named g) where
  abbrev before : Else-word-eq0 g
  before = (goal.at.After-frame_named g c).Else-word-eq0

  pointer : (address : ℕ) × IsPointer g.F.Format.layout c.self.inside.level c.entry-word.result address
  pointer = c.is_leaf.ensures.pointer (λ yes. false≢true (sym c.if-is_leaf.false ∙ yes))

  call : entry.Enters c.self.invariant c.args.number c.frame_named.result
  call = entry.finds_table (laws g) c.self.invariant c.args.number (may g (goal.at.Else-word-eq0 g before).After-deref) pointer.0 c.frame_named.result
      (subst (λ (word : ℕ). IsPointer g.F.Format.layout c.self.inside.level word pointer.0) (loaded g before) pointer.1)
      (sym (c.frame_named.ensures ∙ ap (frame_named g.F.Format.layout) (c.address_of.ensures pointer.0 pointer.1)))

pub invariant_of-self : goal.invariant_of-self
invariant_of-self g c = (call g (goal.at.invariant_of-self g c).After-frame_named).owner

pub returns-clause-stays : goal.returns-clause-stays
returns-clause-stays g c = record { same_space = refl; same_aside = kept_aside (call g (goal.at.returns-clause-stays g c).After-frame_named) c.self.view_is; still_alone = λ a. a }

pub returns-clause-went : goal.returns-clause-went
returns-clause-went g c = seen (call g (goal.at.returns-clause-went g c).After-frame_named) c.self.view_is
