-- A mapped page is cleared and its table unlinked, which gives the words of a new space; and tables and pieces that
-- may not be taken away.
use Rattle.std.proofs.Common.{◌≡◌, ◌⊎◌, inl, inr, ℕ, ◌<◌, false, [], ◌∷◌, sym, refl, ap, ◌∙◌, subst, ⊎_elim, arith, Some, None}
use Rattle.std.specs.Prelude.{◌==◌}
use Rattle.std.proofs.lemmas.Bool.{eq-eqb, false≢true}
use Rattle.pt_model.specs.declared.position.Position.{Position}
use Rattle.pt_model.specs.Tables.{child_at}
use Rattle.pt_view.specs.declared.view.Absence.TheVariants.{Zero, Top}
use Rattle.pt_view.specs.declared.view.Change.TheVariants.{Written, Cleared}
use Rattle.pt_model.specs.Sets.{IsAmong}
use Rattle.pt_view.specs.Calls.{IsBare, MayDrop, MayUnlink, left}
use Rattle.pt_rule.specs.Kinds.{MayCut, look, clear, unlink, unplace}
use Rattle.pt_model.proofs.Positions.{among_cases, among_here}
use Rattle.pt_view.proofs.Pieces.{one_here}
use Rattle.pt_rule.proofs.LookKept.{entry_position}
use Rattle.pt_rule.proofs.StateMapped.{small, at, mapped_page, new_view, new_words}
use Rattle.pt_rule.proofs.StateShared.{right}
use Rattle.pt_rule.proofs.StateSteps.{State, step, down, mapped}

differ : (a b : ℕ) → (a == b) ≡ false → a ≡ b → ⊥
differ a b n e = false≢true (sym n ∙ eq-eqb a b e)

-- The page is cleared.

abbrev cleared : State
cleared = step (clear 1 1 mapped_page) mapped

pub cleared_words : cleared.0 ≡ down.0
cleared_words = refl

pub cleared_view : cleared.1 ≡ record mapped.1 { pieces = []; stores = Written mapped_page ∷ Cleared mapped_page ∷ [] }
cleared_view = refl

pub may_drop : MayDrop small mapped.1 1 mapped_page
may_drop = record { position = at 0 4; entry = record { node = record { frame = 1; position = at 0 4 }; is_lowest = refl; at = refl; within = omega arith }; member = inl refl; here = refl }

-- The table is left, and unlinked. Between the two stores it is prepared.

abbrev above_it : State
above_it = (cleared.0, left cleared.1)

abbrev inside : State
inside = step (look 0 1) above_it

abbrev prepared : State
prepared = step (unlink 0 1) inside

pub prepared_frame : prepared.1.prepared ≡ Some (record { frame = 1; position = at 0 4; bridge = None })
prepared_frame = refl

abbrev unlinked : State
unlinked = step (unplace 1) prepared

pub unlinked_words : unlinked.0 ≡ new_words
unlinked_words = refl

pub unlinked_view : unlinked.1 ≡ record new_view {
  path = record { frame = 0; position = at 1 0 } ∷ [];
  known = at 1 0 ∷ [];
  absent = Top 1 ∷ Zero (at 0 4) ∷ [];
  stores = Written mapped_page ∷ Cleared mapped_page ∷ [];
}
unlinked_view = refl

bare : IsBare small (record new_view { tables = at 0 4 ∷ [] }) (at 1 0) 1
bare = record {
  high = omega arith;
  off_spine = refl;
  inside = refl;
  no_piece = λ x m. absurd m;
  no_table = λ q m u. ⊎_elim (λ (e : q ≡ at 0 4). e) (λ (none : IsAmong [] q). absurd (omega arith)) (among_cases q (at 0 4) [] m);
}

pub may_unlink : MayUnlink small above_it.1 1
may_unlink =
    let b = bare in record {
      position = at 1 0;
      entry = record { node = record { frame = 0; position = at 1 0 }; is_lowest = refl; at = refl; within = omega arith };
      bare = record { high = b.high; off_spine = b.off_spine; inside = b.inside; no_piece = b.no_piece; no_table = b.no_table };
      linked = inr (among_here (at 0 4) []);
      none = refl;
    }

pub may_cut : MayCut small inside.1 0 1
may_cut =
    let b = bare in record {
      position = at 1 0;
      child = 1;
      over = refl;
      last = refl;
      within = omega arith;
      bare = record { high = b.high; off_spine = b.off_spine; inside = b.inside; no_piece = b.no_piece; no_table = b.no_table };
      none = refl;
    }

-- What may not be cleared: a page that isn't the view's, and one at another entry.

pub not_own : ¬ MayDrop small cleared.1 1 mapped_page
not_own may = may.member

pub not_here : ¬ MayDrop small mapped.1 2 mapped_page
not_here may = differ 1 2 refl (one_here small may.position 2 mapped_page may.here).1

-- What may not be unlinked: a table with a page, one of the spine, one outside the span or partly so, and one with
-- a table under it.

pub has_page : ¬ IsBare small mapped.1 (at 1 0) 1
has_page b = false≢true (sym (b.no_piece mapped_page (inl refl)))

pub of_spine : ¬ IsBare small (record new_view { top = 2 }) (at 2 0) 0
of_spine b = false≢true (sym b.off_spine)

pub outside : ¬ IsBare small right (at 1 0) 1
outside b = false≢true b.inside

pub partly_inside : ¬ IsBare small (record right { first = 6; count = 58 }) (at 1 0) 1
partly_inside b = false≢true b.inside

pub has_table : ¬ IsBare small (record new_view { top = 2; tables = at 0 20 ∷ at 1 16 ∷ [] }) (at 2 0) 1
has_table b =
    let e : at 0 20 ≡ at 1 16 = b.no_table (at 0 20) (among_here (at 0 20) (at 1 16 ∷ [])) refl in
    differ 0 1 refl (ap (λ (q : Position). q.level) e)

-- Nor a child that wasn't found linked, nor any while a frame is prepared.

not_linked_at : (q : Position) → q ≡ at 1 0 → IsAmong (at 1 0 ∷ []) (child_at small q 1) ⊎ IsAmong [] (child_at small q 1) → ⊥
not_linked_at q e h =
    ⊎_elim (λ (m : IsAmong (at 1 0 ∷ []) (at 0 4)). let none : 0 < 0 = m in omega arith) (λ (m : IsAmong [] (at 0 4)). let none : 0 < 0 = m in omega arith)
    (subst (λ (z : Position). IsAmong (at 1 0 ∷ []) (child_at small z 1) ⊎ IsAmong [] (child_at small z 1)) e h)

pub not_linked : ¬ MayUnlink small unlinked.1 1
not_linked may = not_linked_at may.position (entry_position small unlinked.1 (record { frame = 0; position = at 1 0 }) 1 refl may.position may.entry) may.linked

pub still_prepared : ¬ MayUnlink small prepared.1 1
still_prepared may = let e = may.none in cc
