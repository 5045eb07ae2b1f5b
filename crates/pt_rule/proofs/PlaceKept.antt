-- The law of a store that prepares the first frame of a purse for a position.
use Rattle.std.proofs.Common.{◌≡◌, ℕ, ◌+◌, ◌<◌, List, ◌∷◌, set, sym, refl, ap, ◌∙◌, subst, arith, eq-eqb, ne_eqb}
use Rattle.std.specs.Prelude.{slice_set, Option, None, Some, ◌==◌, ◌&&◌}
use Rattle.atomic_table.proofs.Lists.{set_here}
use Rattle.pt_model.specs.declared.position.Position.{Position}
use Rattle.pt_model.specs.Layout.{Layout}
use Rattle.pt_model.specs.Words.{tag, placed_at, placed_word}
use Rattle.pt_format.specs.Laws.{IsLayout}
use Rattle.pt_view.specs.declared.view.View.{View}
use Rattle.pt_view.specs.declared.view.Prepared.{Prepared}
use Rattle.pt_model.specs.Sets.{one_if}
use Rattle.pt_view.specs.Lists.{times, IsIn}
use Rattle.pt_rule.specs.Totals.{total, prepares, bridge_in, is_prepared}
use Rattle.pt_rule.specs.Tags.{placed, Chained, is_held, is_placed}
use Rattle.pt_rule.specs.Kinds.{Keeps, place, rest_of}
use Rattle.pt_model.proofs.Places.{tag_same}
use Rattle.pt_rule.proofs.TotalsKept.{total_at, at_inside, each_set}
use Rattle.pt_model.proofs.Positions.{bit_false, bit_true}
use Rattle.pt_view.proofs.Members.{in_here, times_else, times_here}
use Rattle.pt_rule.proofs.PartsKept.{chained_else, busy_set}
use Rattle.pt_rule.proofs.TagFacts.{IsHeldBy, held_by, held_unplaced, placed_is, placed_unheld, placed_some, tag_still, unplaced_unlinked, prepared_unlinked, no_bridge}
use Rattle.pt_rule.proofs.TagWritten.{tag_kept}
use Rattle.pt_rule.proofs.TreeFacts.{placed_back}

module _ (f : Layout) (n l : ℕ) (good : IsLayout f) where
  pub place_kept : (g : ℕ) (p : Position) → Keeps f n l (place g p)
  place_kept g p words views id v r at live may =
      let rest : List ℕ = may.0.0 in
      let is : v.purse ≡ g ∷ rest = may.0.1 in
      let x : ℕ = placed_word p in
      let y : Prepared = record { frame = g; position = p; bridge = None } in
      let w : View = record v { purse = rest_of v.purse; prepared = Some y } in
      let words' : List ℕ = slice_set words (1 + g) x in
      let views' : List View = set views id w in
      let by : IsHeldBy n words views id v g = held_by f n words views r.frames id v g at (subst (λ ps. IsIn ps g) (sym is) (in_here g rest)) in
      let here : tag words' g ≡ x = tag_same f n words g x r.sizes.words_are by.within in
      let tail : w.purse ≡ rest = ap rest_of is in
      let mine : times g v.purse ≡ 1 + times g rest = ap (times g) is ∙ times_here g rest in
      let mine_now : times g w.purse ≡ times g rest = ap (times g) tail in
      let once = by.once in
      let none_left : times g rest ≡ 0 = omega arith in
      let bare : (h : ℕ) → prepares h v ≡ 0 = λ h. ap (λ (o : Option Prepared). one_if (is_prepared h o)) may.1 in
      let one : prepares g w ≡ 1 = bit_true (g == g) (eq-eqb g g refl) in
      let chain : Chained words v.end (g ∷ rest) = subst (Chained words v.end) is (r.purses.chained id v at) in
      let somewhere : 0 < total (prepares g) views' = let most = total_at (prepares g) views' id w (set_here views id w (at_inside views id v at)) in omega arith in (
        tag_kept f n l words views id v w g x r at live by.within
            (record { range = record { frames = refl; levels = refl; first = refl; count = refl }; book = record { pieces = refl; tables = refl; top = refl }; path = refl; known = refl })
            (unplaced_unlinked n words views g (held_unplaced (tag words g) by.held)) (prepared_unlinked n words' views' g somewhere)
            (record {
              a_tag = placed p may.2 refl;
              held_here = let a = bit_true (is_held (tag words g)) by.held in let b = bit_false (is_held x) (placed_unheld x (placed_is p)) in omega arith;
              held_else = λ h ne. ap (times h) tail ∙ sym (ap (times h) is ∙ times_else h g rest (λ e. ne (sym e)));
              prepared_here = let a = bit_true (is_placed x) (placed_is p) in omega arith;
              prepared_else = λ h ne. bit_false (g == h) (ne_eqb g h (λ e. ne (sym e))) ∙ sym (bare h);
              unprepared = λ j u ne there. by.unprepared j u there;
              at = ap placed_at here ∙ placed_back p (let low = may.2.a_level in let high = good.levels_high in omega arith);
              bridged = tt;
              bridge = λ h i. no_bridge ((g == h) && (i == 0)) ∙ sym (ap (bridge_in f h i) may.1);
            })
            (each_set (λ u. Chained words u.end u.purse) (λ u. Chained words' u.end u.purse) views id v w at
            (subst (Chained words' v.end) (sym tail) (chained_else words g x v.end rest none_left chain.1))
            (λ j u ne there h. chained_else words g x u.end u.purse (by.others j u ne there) h) r.purses.chained) (r.purses.ends id v at)
            (busy_set f n words words' views id v w at (λ h lt a. tag_still words g x h here (placed_some x (placed_is p)) a)
            (λ whole h lt a. tag_still words g x h here (placed_some x (placed_is p)) (r.busy id v at whole h lt a)) r.busy),
        tt,
      )
