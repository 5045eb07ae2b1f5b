-- An install that met another's table: the path goes into it, and it is a table of the book.
use Rattle.std.proofs.Common.{◌≡◌, ◌≢◌, ℕ, Bool, false, ◌<◌, List, set, sym, ap, ◌∙◌, subst, ⊎_elim, ne_eqb}
use Rattle.std.specs.Prelude.{IsTrue, ◌==◌, if◌then◌else◌, slice_set, Option, None, Some}
use mathlib.Core.Option.{some}
use lib.ListN.{get_elem?}
use Rattle.pt_model.specs.declared.position.Position.{Position}
use Rattle.pt_model.specs.Layout.{Layout, Found, table}
use Rattle.pt_model.specs.Tables.{child_at}
use Rattle.pt_model.specs.Words.{entry_of, entry_place, frame_address}
use Rattle.pt_format.specs.Words.{IsTableLevel, IsTableAddress}
use Rattle.pt_format.specs.Laws.{IsLayout, WordsDiffer}
use Rattle.pt_format.specs.Manual.{StepsAgree}
use Rattle.pt_view.specs.declared.view.View.{View}
use Rattle.pt_view.specs.declared.view.Node.{Node}
use Rattle.pt_model.specs.Sets.{IsAmong}
use Rattle.pt_view.specs.Calls.{entry_first, lowest, with_table}
use Rattle.pt_rule.specs.Linked.{IsLinkedAt, is_in_tree}
use Rattle.pt_rule.specs.Lawful.{Lawful, IsOwnTable}
use Rattle.pt_rule.specs.Kinds.{deeper, first_page, frame_of, installed, level_at, named_by, with_child}
use Rattle.pt_rule.proofs.TreeFacts.{there_position, linked_there, table_there, frame_back}
use Rattle.pt_rule.proofs.TablesAdded.{with_kept, with_cases, with_all, with_order}
use Rattle.pt_rule.proofs.FindsKept.{finds_at}
use Rattle.pt_rule.proofs.LookKept.{StandsAt, entered, enters, child_meets, pointer_facts}

-- what an install makes of the view, where it found a pointer
pub installed_met : (f : Layout) (v : View) (x : Node) (number found h : ℕ) → lowest v.path ≡ Some x → found ≢ 0 →
    f.step x.position.level found (entry_first f x.position number) ≡ table (frame_address f h) →
    installed f number found v ≡ entered f v h number x.position (with_table v.levels v.tables (child_at f x.position number))
installed_met f v x number found h e nonzero is =
    let b : (found == 0) ≡ false = ne_eqb found 0 nonzero in
    let won : View = record (deeper f (frame_of v.prepared) number (lowest v.path) (with_child f number (lowest v.path) v)) { prepared = None } in
    let met : Option Node → View = λ o. deeper f (named_by f (f.step (level_at o) found (first_page f number o))) number o (with_child f number o v) in
    ap (λ (c : Bool). if c then won else met (lowest v.path)) b ∙ ap met e
    ∙ ap (λ (s : Found). deeper f (named_by f s) number (Some x) (with_child f number (Some x) v)) is
    ∙ ap (λ (k : ℕ). entered f v k number x.position (with_table v.levels v.tables (child_at f x.position number))) (frame_back f h)

module _ (f : Layout) (n l : ℕ) (good : IsLayout f) (d : WordsDiffer f) (a : StepsAgree f) where
  pub install_met : (words : List ℕ) (views : List View) (id : ℕ) (v : View) → Lawful f n l words views → get_elem? views id ≡ some v → 0 < v.count →
      (frame number : ℕ) (p : Position) → StandsAt f n words views v frame number p → 0 < p.level → (h : ℕ) → IsLinkedAt n words views h (child_at f p number) →
      entry_of f n words frame number ≡ f.pointer p.level (frame_address f h) →
      (entry_of f n words frame number ≢ 0)
      × Lawful f n l (slice_set words (entry_place f n frame number) (entry_of f n words frame number)) (set views id (installed f number (entry_of f n words frame number) v))
  install_met words views id v r at live frame number p s high h child word =
      let x : Node = record { frame = frame; position = p } in
      let found : ℕ = entry_of f n words frame number in
      let place : ℕ = entry_place f n frame number in
      let facts : IsTableLevel f p.level × IsTableAddress f (frame_address f h) = pointer_facts f n l good words views r frame p s.linked high h child.is_linked.within in
      let nonzero : found ≢ 0 = (λ z. d.pointer_some p.level (frame_address f h) facts.0 facts.1 (sym word ∙ z)) in
      let step : f.step p.level found (entry_first f p number) ≡ table (frame_address f h) =
      ap (λ (k : ℕ). f.step p.level k (entry_first f p number)) word ∙ a.pointer p.level (frame_address f h) (entry_first f p number) facts.0 facts.1 in
      let q : Position = child_at f p number in
      let there = linked_there f n l words views good r h q child in
      let tables : List Position = with_table v.levels v.tables q in
      let book = r.books id v at live in (
        nonzero,
        subst (λ (w : View). Lawful f n l (slice_set words place found) (set views id w)) (sym (installed_met f v x number found h s.last nonzero step))
            (finds_at f n l words views id place v (entered f v h number p tables) r at live
            (enters f n l good words views id v r at live frame number p s high h child tables
            (λ y b. with_kept v.levels v.tables q y b)
            (λ y b. ⊎_elim (λ (old : IsAmong v.tables y). table_there f n l words views good r id v at y old)
            (λ (e : y ≡ q). subst (λ (z : Position). IsTrue (is_in_tree l words views z)) (sym e) there) (with_cases v.levels v.tables q y b))
            (with_all v.levels v.tables q (IsOwnTable f v) book.tables
            (λ off. record { a_position = there_position f n l words views good r q there; off_spine = off; meets = child_meets f n l good words views r v frame number p s high }))
            (with_order v.levels v.tables q book.in_order))),
      )
