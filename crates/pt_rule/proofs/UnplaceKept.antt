-- The law of a store that puts the prepared frame back into the purse.
use Rattle.std.proofs.Common.{◌≡◌, ℕ, true, ◌+◌, List, ◌∷◌, set, sym, refl, ap, ◌∙◌, arith, ne_eqb}
use Rattle.std.specs.Prelude.{slice_set, Option, None, Some, ◌==◌, ◌&&◌}
use Rattle.pt_model.specs.Layout.{Layout}
use Rattle.pt_model.specs.Words.{tag}
use Rattle.pt_view.specs.declared.view.View.{View}
use Rattle.pt_view.specs.declared.view.Prepared.{Prepared}
use Rattle.pt_model.specs.Sets.{one_if}
use Rattle.pt_rule.specs.Totals.{bridge_in, is_prepared}
use Rattle.pt_rule.specs.Tags.{held, Chained, first_or, held_word, is_held}
use Rattle.pt_rule.specs.Kinds.{Keeps, unplace}
use Rattle.pt_model.proofs.Places.{tag_same}
use Rattle.pt_rule.proofs.TotalsKept.{each_set}
use Rattle.pt_model.proofs.Positions.{bit_false, bit_true}
use Rattle.pt_view.proofs.Members.{times_else, times_here}
use Rattle.pt_rule.proofs.PartsKept.{chained_else, busy_set}
use Rattle.pt_rule.proofs.TagFacts.{IsPreparedBy, prepared_by, held_is, held_unplaced, held_nonzero, placed_unheld, tag_still, unplaced_unlinked, prepared_unlinked, no_bridge}
use Rattle.pt_rule.proofs.TagWritten.{tag_kept}

module _ (f : Layout) (n l : ℕ) where
  pub unplace_kept : (g : ℕ) → Keeps f n l (unplace g)
  unplace_kept g words views id v r at live may =
      let y : Prepared = record { frame = g; position = may.0; bridge = None } in
      let is : v.prepared ≡ Some y = may.1 in
      let next : Option ℕ = first_or v.end v.purse in
      let x : ℕ = held_word next in
      let w : View = record v { purse = g ∷ v.purse; prepared = None } in
      let words' : List ℕ = slice_set words (1 + g) x in
      let views' : List View = set views id w in
      let by : IsPreparedBy n words views id v g = prepared_by f n words views r.frames id v y at is in
      let here : tag words' g ≡ x = tag_same f n words g x r.sizes.words_are by.within in
      let is_now : is_held (tag words' g) ≡ true = ap is_held here ∙ held_is next in (
        tag_kept f n l words views id v w g x r at live by.within
            (record { range = record { frames = refl; levels = refl; first = refl; count = refl }; book = record { pieces = refl; tables = refl; top = refl }; path = refl; known = refl })
            (prepared_unlinked n words views g by.somewhere) (unplaced_unlinked n words' views' g (held_unplaced (tag words' g) is_now))
            (record {
              a_tag = held next refl;
              held_here = let a = bit_false (is_held (tag words g)) (placed_unheld (tag words g) by.placed) in let b = bit_true (is_held x) (held_is next) in let c = times_here g v.purse in omega arith;
              held_else = λ h ne. times_else h g v.purse (λ e. ne (sym e));
              prepared_here = omega arith;
              prepared_else = λ h ne. sym (ap (λ (o : Option Prepared). one_if (is_prepared h o)) is ∙ bit_false (g == h) (ne_eqb g h (λ e. ne (sym e))));
              unprepared = by.others;
              at = tt;
              bridged = tt;
              bridge = λ h i. sym (ap (bridge_in f h i) is ∙ no_bridge ((g == h) && (i == 0)));
            })
            (each_set (λ u. Chained words u.end u.purse) (λ u. Chained words' u.end u.purse) views id v w at
            (here, chained_else words g x v.end v.purse (by.unheld id v at) (r.purses.chained id v at))
            (λ j u ne there h. chained_else words g x u.end u.purse (by.unheld j u there) h) r.purses.chained) (r.purses.ends id v at)
            (busy_set f n words words' views id v w at (λ h lt a. tag_still words g x h here (held_nonzero next) a)
            (λ whole h lt a. tag_still words g x h here (held_nonzero next) (r.busy id v at whole h lt a)) r.busy),
        tt,
      )
