-- The law of an exchange of a tag from free to held.
use Rattle.std.proofs.Common.{◌≡◌, ◌≢◌, ℕ, Bool, true, false, ◌+◌, ◌<◌, ◌≤◌, List, [], ◌∷◌, ◌++◌, length, set, sym, refl, ap, ◌∙◌, subst, ⊎_elim, arith}
use Rattle.std.specs.Prelude.{slice_index, slice_set, Option, if◌then◌else◌, ◌==◌}
use Rattle.std.proofs.lemmas.Bool.Decides.{eqb_tells}
use mathlib.Core.Option.{some}
use mathlib.Core.Logic.{dite}
use native.Mathlib.Decide.{ℕ_discrete}
use lib.ListN.{get_elem?}
use Rattle.pt_model.specs.Layout.{Layout}
use Rattle.pt_model.specs.Words.{tag}
use Rattle.pt_view.specs.declared.view.View.{View}
use Rattle.pt_model.specs.Sets.{one_if}
use Rattle.pt_view.specs.Lists.{times, IsIn}
use Rattle.pt_rule.specs.Totals.{total, holds}
use Rattle.pt_rule.specs.Tags.{held, Chained, first_or, held_word, is_held, is_placed}
use Rattle.pt_rule.specs.Lawful.{Lawful}
use Rattle.pt_rule.specs.Kinds.{Keeps, take}
use Rattle.pt_model.proofs.Places.{tag_same}
use Rattle.pt_rule.proofs.TotalsKept.{total_at, each_set}
use Rattle.pt_model.proofs.Positions.{bit_le, bit_true}
use Rattle.pt_view.proofs.Members.{in_cases, times_else, times_here}
use Rattle.pt_rule.proofs.PartsKept.{SameLinks, chained_else, busy_set}
use Rattle.pt_rule.proofs.TagFacts.{IsNowhere, held_is, held_unplaced, held_some, held_nonzero, tag_still, unplaced_unlinked, free_nowhere}
use Rattle.pt_rule.proofs.NotesKept.{notes_at, path_noted}
use Rattle.pt_rule.proofs.TagWritten.{owed_unprepared, tag_links, tag_kept}
use Rattle.pt_rule.proofs.FewFrames.{distinct_few}

module _ (f : Layout) (n l : ℕ) where
  -- the frame was free: it is the first of the purse
  won : (words : List ℕ) (views : List View) (id : ℕ) (v : View) (g : ℕ) → Lawful f n l words views → get_elem? views id ≡ some v → 0 < v.count → g < n → tag words g ≡ 0 →
      Lawful f n l (slice_set words (1 + g) (held_word (first_or v.end v.purse))) (set views id (record v { purse = g ∷ v.purse; busy = g ∷ v.busy }))
  won words views id v g r at live within free =
      let next : Option ℕ = first_or v.end v.purse in
      let x : ℕ = held_word next in
      let w : View = record v { purse = g ∷ v.purse; busy = g ∷ v.busy } in
      let words' : List ℕ = slice_set words (1 + g) x in
      let views' : List View = set views id w in
      let here : tag words' g ≡ x = tag_same f n words g x r.sizes.words_are within in
      let nowhere : IsNowhere views g = free_nowhere f n words views r.frames g within free in
      let before = unplaced_unlinked n words views g (ap is_placed free) in
      let is_now : is_held (tag words' g) ≡ true = ap is_held here ∙ held_is next in
      let after = unplaced_unlinked n words' views' g (held_unplaced (tag words' g) is_now) in
      let links : SameLinks n words words' views views' = tag_links f n l words views id v w g x at before after (λ h ne. refl) in
      tag_kept f n l words views id v w g x r at live within (record { range = record { frames = refl; levels = refl; first = refl; count = refl }; book = record { pieces = refl; tables = refl; top = refl }; path = refl; known = refl }) before after
      (owed_unprepared f n l words views id v (g ∷ v.purse) (g ∷ v.busy) v.end g x r at nowhere.unprepared links (held next refl) (let a : one_if (is_held (tag words g)) ≡ 0 = ap (λ (t : ℕ). one_if (is_held t)) free in let b = bit_true (is_held x) (held_is next) in let c = times_here g v.purse in omega arith)
      (λ h ne. times_else h g v.purse (λ e. ne (sym e))))
      (each_set (λ u. Chained words u.end u.purse) (λ u. Chained words' u.end u.purse) views id v w at
      (here, chained_else words g x v.end v.purse (nowhere.unheld id v at) (r.purses.chained id v at)) (λ j u ne there h. chained_else words g x u.end u.purse (nowhere.unheld j u there) h) r.purses.chained) (r.purses.ends id v at)
      (busy_set f n words words' views id v w at (λ h lt some. tag_still words g x h here (held_nonzero next) some)
      (λ whole h lt a. ⊎_elim (λ (e : h ≡ g). subst (λ (z : ℕ). tag words' z ≢ 0) (sym e) (held_some (tag words' g) is_now))
      (λ (rest : IsIn v.busy h). tag_still words g x h here (held_nonzero next) (r.busy id v at whole h lt rest)) (in_cases h g v.busy a)) r.busy)

  -- a purse has less than n frames where a frame is free
  purse_room : (words : List ℕ) (views : List View) (id : ℕ) (v : View) (g : ℕ) → Lawful f n l words views → get_elem? views id ≡ some v → g < n → tag words g ≡ 0 → length v.purse < n
  purse_room words views id v g r at within free =
      let nowhere : IsNowhere views g = free_nowhere f n words views r.frames g within free in
      let none = nowhere.unheld id v at in
      let few : length (g ∷ v.purse) ≤ n = distinct_few n (g ∷ v.purse)
      (λ h lt. dite (ℕ_discrete h g) (λ e. subst (λ (z : ℕ). times z (g ∷ v.purse) ≤ 1) (sym e) (let t = times_here g v.purse in omega arith))
      (λ ne. let t = times_else h g v.purse (λ e. ne (sym e)) in let a : times h v.purse ≤ total (holds h) views = total_at (holds h) views id v at in let b = r.frames.held h lt in let c = bit_le (is_held (tag words h)) in omega arith))
      (λ h le. let t = times_else h g v.purse (λ e. omega arith) in let a : times h v.purse ≤ total (holds h) views = total_at (holds h) views id v at in let b = r.frames.none_held h le in omega arith) in
      omega arith

  -- the frame wasn't free: it is met, and nothing else changes
  lost : (words : List ℕ) (views : List View) (id : ℕ) (v : View) (g : ℕ) → Lawful f n l words views → get_elem? views id ≡ some v → 0 < v.count → tag words g ≢ 0 →
      Lawful f n l (slice_set words (1 + g) (slice_index words (1 + g))) (set views id (record v { busy = g ∷ v.busy; taken = v.taken ++ g ∷ [] }))
  lost words views id v g r at live occupied =
      let w : View = record v { busy = g ∷ v.busy; taken = v.taken ++ g ∷ [] } in
      notes_at f n l words views id (1 + g) v w r at live (record {
        range = record { frames = refl; levels = refl; first = refl; count = refl };
        book = record { pieces = refl; tables = refl; top = refl };
        purse = refl;
        end = refl;
        prepared = refl;
        path = path_noted f n l words views v w (record { frames = refl; levels = refl; first = refl; count = refl }) refl (r.paths id v at);
        busy = λ whole h lt a. ⊎_elim (λ (e : h ≡ g). subst (λ (z : ℕ). tag words z ≢ 0) (sym e) occupied) (λ (rest : IsIn v.busy h). r.busy id v at whole h lt rest) (in_cases h g v.busy a);
        known = r.known id v at;
      })

  pub take_kept : (g : ℕ) → Keeps f n l (take g)
  take_kept g words views id v r at live may =
      let found : ℕ = tag words g in
      let F : Bool → Type 0 = λ b. Lawful f n l (slice_set words (1 + g) (if b then held_word (first_or v.end v.purse) else found))
      (set views id (if b then record v { purse = g ∷ v.purse; busy = g ∷ v.busy } else record v { busy = g ∷ v.busy; taken = v.taken ++ g ∷ [] })) in (
        ⊎_elim (λ (e : ((found == 0) ≡ true) × (found ≡ 0)). subst F (sym e.0) (won words views id v g r at live may e.1))
            (λ (e : ((found == 0) ≡ false) × (found ≢ 0)). subst F (sym e.0) (lost words views id v g r at live e.1)) (eqb_tells found 0),
        λ free. purse_room words views id v g r at may free,
      )
