-- The law of the exchange of the root: won, the prepared frame is the new top; lost, another holder raised the root.
use Rattle.std.proofs.Common.{◌≡◌, ◌≢◌, inl, ℕ, Bool, ◌+◌, ◌-◌, ◌%◌, ◌<◌, ◌≤◌, List, [], ◌∷◌, set, sym, refl, ap, subst, arith, ⊎_elim, eq-eqb, ne_eqb}
use Rattle.std.specs.Prelude.{IsTrue, if◌then◌else◌, map, slice_index, slice_set, None, Some}
use mathlib.Core.Option.{some}
use mathlib.Core.Logic.{dite}
use native.Mathlib.Decide.{ℕ_discrete}
use lib.ListN.{get_elem?}
use Rattle.pt_model.specs.declared.position.Position.{Position}
use Rattle.pt_model.specs.Layout.{Layout}
use Rattle.pt_model.specs.Tables.{is_spine, levels_between, spine_position, starting_top}
use Rattle.pt_model.specs.Words.{root_level, root_word}
use Rattle.pt_format.specs.Laws.{IsLayout}
use Rattle.pt_view.specs.declared.view.View.{View}
use Rattle.pt_model.specs.Sets.{IsAmong}
use Rattle.pt_rule.specs.Linked.{is_in_tree}
use Rattle.pt_rule.specs.Lawful.{Lawful}
use Rattle.pt_rule.specs.Kinds.{Keeps, RaiseTells, raise, raised, over_top, with_spine, put}
use Rattle.pt_rule.proofs.TreeFacts.{spine_there}
use Rattle.pt_rule.proofs.NotesKept.{notes_at}
use Rattle.pt_rule.proofs.RootKept.{root_tells, spine_is}
use Rattle.pt_model.proofs.Positions.{among_append, among_levels}
use Rattle.pt_rule.proofs.RaiseWon.{higher, legal, raise_won}

-- What a raise puts, and makes of the view, where it found the old top's word and where it found another.

pub raised_won : (frame old level found : ℕ) (v : View) → found ≡ root_word old level →
    raised frame old level found v
    ≡ record v { top = level + 1; prepared = None; path = record { frame = frame; position = spine_position (level + 1) } ∷ []; known = with_spine v.levels (level + 1) v.known }
raised_won frame old level found v e = ap (λ (c : Bool). if c then won else lost) (eq-eqb found (root_word old level) e)
  where
    won : View
    won = record v { top = level + 1; prepared = None; path = record { frame = frame; position = spine_position (level + 1) } ∷ []; known = with_spine v.levels (level + 1) v.known }

    lost : View
    lost = record v { path = []; known = with_spine v.levels (found % 8) v.known }

pub raised_lost : (frame old level found : ℕ) (v : View) → found ≢ root_word old level →
    raised frame old level found v ≡ record v { path = []; known = with_spine v.levels (found % 8) v.known }
raised_lost frame old level found v ne = ap (λ (c : Bool). if c then won else lost) (ne_eqb found (root_word old level) ne)
  where
    won : View
    won = record v { top = level + 1; prepared = None; path = record { frame = frame; position = spine_position (level + 1) } ∷ []; known = with_spine v.levels (level + 1) v.known }

    lost : View
    lost = record v { path = []; known = with_spine v.levels (found % 8) v.known }

pub put_won : (f : Layout) (v : View) (frame old level found : ℕ) → found ≡ root_word old level → put f (raise frame old level) v found ≡ root_word frame (level + 1)
put_won f v frame old level found e = ap (λ (c : Bool). if c then root_word frame (level + 1) else found) (eq-eqb found (root_word old level) e)

pub put_lost : (f : Layout) (v : View) (frame old level found : ℕ) → found ≢ root_word old level → put f (raise frame old level) v found ≡ found
put_lost f v frame old level found ne = ap (λ (c : Bool). if c then root_word frame (level + 1) else found) (ne_eqb found (root_word old level) ne)

module _ (f : Layout) (n l : ℕ) (good : IsLayout f) where
  -- a view whose path is cut whole, and that knows the spine up to the root
  raise_lost : (words : List ℕ) (views : List View) (id : ℕ) (v : View) → Lawful f n l words views → get_elem? views id ≡ some v → 0 < v.count →
      Lawful f n l (slice_set words 0 (slice_index words 0)) (set views id (record v { path = []; known = with_spine v.levels (root_level words) v.known }))
  raise_lost words views id v r at live =
      notes_at f n l words views id 0 v (record v { path = []; known = with_spine v.levels (root_level words) v.known }) r at live (record {
        range = record { frames = refl; levels = refl; first = refl; count = refl };
        book = record { pieces = refl; tables = refl; top = refl };
        purse = refl;
        end = refl;
        prepared = refl;
        path = record { nodes = tt; begins = tt; descends = tt };
        busy = r.busy id v at;
        known = λ p a. ⊎_elim
            (λ (new : IsAmong (map spine_position (levels_between (starting_top v.levels) (root_level words))) p).
            let t : (level : ℕ) × (starting_top v.levels ≤ level) × (level < starting_top v.levels + (root_level words + 1 - starting_top v.levels)) × (p ≡ spine_position level) =
            among_levels spine_position (root_level words + 1 - starting_top v.levels) (starting_top v.levels) p new in
            let from = t.1 in let to = t.2 in (
              subst (λ (q : Position). IsTrue (is_in_tree l words views q)) (sym t.3)
                  (spine_there f n l words views good r t.0 (subst (λ (k : ℕ). starting_top k ≤ t.0) (r.sizes.live id v at live).1 from) (omega arith)),
              inl (subst (λ (q : Position). IsTrue (is_spine v.levels q)) (sym t.3) (spine_is v.levels t.0 from)),
            ))
            (λ (was : IsAmong v.known p). r.known id v at p was)
            (among_append p (map spine_position (levels_between (starting_top v.levels) (root_level words))) v.known a);
      })

  raise_tells : (words : List ℕ) (views : List View) (id : ℕ) (v : View) → Lawful f n l words views → get_elem? views id ≡ some v → 0 < v.count →
      (frame old level : ℕ) → v.prepared ≡ Some (over_top frame level (Some old)) → RaiseTells f n v old level (slice_index words 0)
  raise_tells words views id v r at live frame old level is =
      let up = legal f n l good words views id v r at live frame old level is in record {
        root = root_tells f n l good words views id v r at live;
        won = λ e. let high = good.levels_high in omega (arith, e, up, high);
        lost = higher f n l good words views id v r at live frame old level is;
        legal = up;
      }

  pub raise_kept : (frame old level : ℕ) → Keeps f n l (raise frame old level)
  raise_kept frame old level words views id v r at live may =
      let found : ℕ = slice_index words 0 in
      let tells = raise_tells words views id v r at live frame old level may in
      dite (ℕ_discrete found (root_word old level))
      (λ e. (
        subst (λ (t : ℕ × View). Lawful f n l (slice_set words 0 t.0) (set views id t.1))
            (λ k. (sym (put_won f v frame old level found e) k, sym (raised_won frame old level found v e) k))
            (raise_won f n l good words views id v r at live frame old level may e),
        tells,
      ))
      (λ ne. (
        subst (λ (t : ℕ × View). Lawful f n l (slice_set words 0 t.0) (set views id t.1))
            (λ k. (sym (put_lost f v frame old level found ne) k, sym (raised_lost frame old level found v ne) k))
            (raise_lost words views id v r at live),
        tells,
      ))
