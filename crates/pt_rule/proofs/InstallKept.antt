-- An install keeps the rule: it links the prepared frame under a zero entry, or goes into the table that
-- another linked there.
use Rattle.std.proofs.Common.{◌≡◌, ◌≢◌, ℕ, Bool, ◌<◌, List, set, sym, ap, ◌∙◌, subst, arith, eq-eqb, ne_eqb}
use Rattle.std.specs.Prelude.{if◌then◌else◌, slice_set, Option, None, Some}
use mathlib.Core.Option.{some}
use lib.ListN.{get_elem?}
use Rattle.pt_model.specs.declared.position.Position.{Position}
use Rattle.pt_model.specs.Layout.{Layout}
use Rattle.pt_model.specs.Tables.{child_at}
use Rattle.pt_model.specs.Words.{entry_of, entry_place, frame_address}
use Rattle.pt_format.specs.Laws.{IsLayout, WordsDiffer}
use Rattle.pt_format.specs.Manual.{StepsAgree}
use Rattle.pt_view.specs.declared.view.View.{View}
use Rattle.pt_view.specs.declared.view.Node.{Node}
use Rattle.pt_view.specs.declared.view.Prepared.{Prepared}
use Rattle.pt_view.specs.Calls.{lowest, pieces_at, with_table, MayInstall}
use Rattle.pt_rule.specs.Lawful.{Lawful}
use Rattle.pt_rule.specs.Kinds.{InstallTells, Keeps, zero as tells_zero, pointer as tells_pointer, deeper, first_page, frame_of, install, installed, level_at, named_by, pointer_to, put, with_child}
use Rattle.pt_rule.proofs.TreeFacts.{IsEntry, an_empty, a_piece, a_child, entry_is, linked_there, own_view, whole_tree}
use Rattle.pt_rule.proofs.LookKept.{StandsAt, entered, entry_position, pointer_facts, stands_at, vacant_at}
use Rattle.pt_rule.proofs.InstallMet.{install_met}
use Rattle.pt_rule.proofs.InstallWon.{install_won, won_off}

-- What an install puts, and makes of the view, where it found zero.

put_won : (f : Layout) (v : View) (x : Node) (number found : ℕ) (prepared : Prepared) → lowest v.path ≡ Some x → v.prepared ≡ Some prepared → found ≡ 0 →
    put f (install x.frame number) v found ≡ f.pointer x.position.level (frame_address f prepared.frame)
put_won f v x number found prepared e is z =
    ap (λ (c : Bool). if c then pointer_to f (level_at (lowest v.path)) v.prepared else found) (eq-eqb found 0 z)
    ∙ (λ k. pointer_to f (level_at (e k)) (is k))

put_met : (f : Layout) (v : View) (frame number found : ℕ) → found ≢ 0 → put f (install frame number) v found ≡ found
put_met f v frame number found nonzero =
    ap (λ (c : Bool). if c then pointer_to f (level_at (lowest v.path)) v.prepared else found) (ne_eqb found 0 nonzero)

pub installed_won : (f : Layout) (v : View) (x : Node) (number found : ℕ) (prepared : Prepared) → lowest v.path ≡ Some x → v.prepared ≡ Some prepared → found ≡ 0 →
    installed f number found v ≡ record (entered f v prepared.frame number x.position (with_table v.levels v.tables (child_at f x.position number))) { prepared = None }
installed_won f v x number found prepared e is z =
    let met : View = deeper f (named_by f (f.step (level_at (lowest v.path)) found (first_page f number (lowest v.path)))) number (lowest v.path) (with_child f number (lowest v.path) v) in
    let won : (o : Option Node) (b : Option Prepared) → View = λ o b. record (deeper f (frame_of b) number o (with_child f number o v)) { prepared = None } in
    ap (λ (c : Bool). if c then won (lowest v.path) v.prepared else met) (eq-eqb found 0 z) ∙ (λ k. won (e k) (is k))

module _ (f : Layout) (n l : ℕ) (good : IsLayout f) (d : WordsDiffer f) (a : StepsAgree f) where
  -- what an install gives
  abbrev Installs : (words : List ℕ) → List View → (id : ℕ) → View → (frame number : ℕ) → Position → Type 0
  Installs words views id v frame number p =
      let found = entry_of f n words frame number in
      Lawful f n l (slice_set words (entry_place f n frame number) (put f (install frame number) v found)) (set views id (installed f number found v)) × InstallTells f n v p number found

  installs : (words : List ℕ) (views : List View) (id : ℕ) (v : View) (r : Lawful f n l words views) → get_elem? views id ≡ some v → 0 < v.count →
      (frame number : ℕ) (p : Position) → StandsAt f n words views v frame number p → 0 < p.level → (g : ℕ) → v.prepared ≡ Some (record { frame = g; position = child_at f p number; bridge = None }) →
      pieces_at f p number v.pieces ≡ 0 → IsEntry f n l words views p number (entry_of f n words frame number) → Installs words views id v frame number p
  installs words views id v r at live frame number p s high g prepared no_piece entry =
      let x : Node = record { frame = frame; position = p } in
      let ready : Prepared = record { frame = g; position = child_at f p number; bridge = None } in
      let found : ℕ = entry_of f n words frame number in
      let place : ℕ = entry_place f n frame number in
      elim entry [
        | an_empty z none childless ↦ (
          subst (λ (t : ℕ × View). Lawful f n l (slice_set words place t.0) (set views id t.1))
              (λ k. (sym (put_won f v x number found ready s.last prepared z) k, sym (installed_won f v x number found ready s.last prepared z) k))
              (install_won f n l good d words views id v r at live frame number p s high g prepared z),
          tells_zero z (vacant_at f n l good d a words views id v r at live frame number p s.linked none childless) (won_off f n l good d words views id v r at live frame number p s high g prepared z),
        )
        | a_piece one word ↦
            let mine : one.view ≡ v = own_view f n l words views good r p number one id v at live s.meets in
            absurd (let e : pieces_at f p number v.pieces ≡ 1 = subst (λ (u : View). pieces_at f p number u.pieces ≡ 1) mine one.alone in omega arith)
        | a_child h child above word ↦
            let met : (found ≢ 0) × Lawful f n l (slice_set words place found) (set views id (installed f number found v)) =
            install_met f n l good d a words views id v r at live frame number p s high h child word in (
              subst (λ (t : ℕ). Lawful f n l (slice_set words place t) (set views id (installed f number found v))) (sym (put_met f v frame number found met.0)) met.1,
              tells_pointer h child.is_linked.within (pointer_facts f n l good words views r frame p s.linked high h child.is_linked.within).0 word
                  (λ all. whole_tree f n l words views good r id v at live all (child_at f p number) (linked_there f n l words views good r h (child_at f p number) child)),
            )
      ]

  pub install_kept : (frame number : ℕ) → Keeps f n l (install frame number)
  install_kept frame number words views id v r at live may =
      let p : Position = may.0.0 in
      let x : Node = record { frame = frame; position = p } in
      let last : lowest v.path ≡ Some x = may.0.1 in
      let ask : MayInstall f v number = may.1 in
      let s : StandsAt f n words views v frame number p = stands_at f n l words views id v r at frame number p last ask.position ask.entry ask.meets in
      let same : ask.position ≡ p = entry_position f v x number last ask.position ask.entry in
      let g : Installs words views id v frame number p =
      installs words views id v r at live frame number p s (subst (λ (z : Position). 0 < z.level) same ask.high) ask.frame
      (ask.prepared ∙ ap (λ (z : Position). Some (record { frame = ask.frame; position = child_at f z number; bridge = None })) same)
      (subst (λ (z : Position). pieces_at f z number v.pieces ≡ 0) same ask.no_piece)
      (entry_is f n l words views good r frame p number s.linked s.within) in
      (g.0, λ q entry. subst (λ (z : Position). InstallTells f n v z number (entry_of f n words frame number)) (sym (entry_position f v x number last q entry)) g.1)
