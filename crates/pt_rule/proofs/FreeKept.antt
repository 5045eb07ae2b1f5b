-- The law of a store that frees the first frame of a purse.
use Rattle.std.proofs.Common.{◌≡◌, ◌≢◌, ℕ, Bool, true, false, ◌+◌, ◌<◌, List, [], ◌∷◌, set, sym, refl, ap, ◌∙◌, subst, ⊎_elim, arith}
use Rattle.std.specs.Prelude.{slice_set, not, ◌==◌, if◌then◌else◌}
use Rattle.std.proofs.lemmas.Bool.Decides.{eqb_tells}
use Rattle.pt_model.specs.Layout.{Layout, input_pages}
use Rattle.pt_model.specs.Words.{tag}
use Rattle.pt_view.specs.declared.view.View.{View}
use Rattle.pt_view.specs.Lists.{times, IsIn}
use Rattle.pt_rule.specs.Tags.{IsTag, Chained, is_held, is_placed}
use Rattle.pt_rule.specs.Kinds.{Keeps, free, rest_of, without}
use Rattle.pt_model.proofs.Places.{tag_same, tag_else}
use Rattle.pt_rule.proofs.TotalsKept.{each_set}
use Rattle.pt_model.proofs.Positions.{bit_true}
use Rattle.pt_view.proofs.Members.{in_cases, in_here, in_more, times_else, times_here}
use Rattle.pt_rule.proofs.PartsKept.{SameLinks, chained_else}
use Rattle.pt_rule.proofs.TagFacts.{IsHeldBy, held_by, held_unplaced, unplaced_unlinked}
use Rattle.pt_rule.proofs.TagWritten.{owed_unprepared, tag_links, tag_kept}
use Rattle.pt_rule.proofs.SpansFacts.{whole_only}

-- what is left of a list without a number
pub left_cases : (g h : ℕ) (xs : List ℕ) → IsIn (without g xs) h → (h ≢ g) × IsIn xs h
left_cases g h [] a = absurd (omega arith)
left_cases g h (x ∷ xs) a =
    let F : Bool → Type 0 = λ b. IsIn (if not b then x ∷ without g xs else without g xs) h in
    ⊎_elim (λ (e : ((x == g) ≡ true) × (x ≡ g)). let rest : (h ≢ g) × IsIn xs h = left_cases g h xs (subst F e.0 a) in (rest.0, in_more h x xs rest.1))
    (λ (e : ((x == g) ≡ false) × (x ≢ g)).
    ⊎_elim (λ (same : h ≡ x). ((λ d. e.1 (sym same ∙ d)), subst (IsIn (x ∷ xs)) (sym same) (in_here x xs)))
    (λ (more : IsIn (without g xs) h). let rest : (h ≢ g) × IsIn xs h = left_cases g h xs more in (rest.0, in_more h x xs rest.1))
    (in_cases h x (without g xs) (subst F e.0 a))) (eqb_tells x g)

pub stays_left : (g h : ℕ) (xs : List ℕ) → h ≢ g → IsIn xs h → IsIn (without g xs) h
stays_left g h [] ne a = absurd (omega arith)
stays_left g h (x ∷ xs) ne a =
    let F : Bool → Type 0 = λ b. IsIn (if not b then x ∷ without g xs else without g xs) h in
    ⊎_elim (λ (e : ((x == g) ≡ true) × (x ≡ g)). subst F (sym e.0) (⊎_elim (λ (same : h ≡ x). absurd (ne (same ∙ e.1))) (λ (more : IsIn xs h). stays_left g h xs ne more) (in_cases h x xs a)))
    (λ (e : ((x == g) ≡ false) × (x ≢ g)). subst F (sym e.0) (⊎_elim (λ (same : h ≡ x). subst (IsIn (x ∷ without g xs)) (sym same) (in_here x (without g xs)))
    (λ (more : IsIn xs h). in_more h x (without g xs) (stays_left g h xs ne more)) (in_cases h x xs a)))
    (eqb_tells x g)

module _ (f : Layout) (n l : ℕ) where
  pub free_kept : (g : ℕ) → Keeps f n l (free g)
  free_kept g words views id v r at live may =
      let rest : List ℕ = may.0 in
      let is : v.purse ≡ g ∷ rest = may.1 in
      let w : View = record v { purse = rest_of v.purse; busy = without g v.busy } in
      let words' : List ℕ = slice_set words (1 + g) 0 in
      let views' : List View = set views id w in
      let by : IsHeldBy n words views id v g = held_by f n words views r.frames id v g at (subst (λ ps. IsIn ps g) (sym is) (in_here g rest)) in
      let here : tag words' g ≡ 0 = tag_same f n words g 0 r.sizes.words_are by.within in
      let tail : w.purse ≡ rest = ap rest_of is in
      let mine : times g v.purse ≡ 1 + times g rest = ap (times g) is ∙ times_here g rest in
      let mine_now : times g w.purse ≡ times g rest = ap (times g) tail in
      let once = by.once in
      let none_left : times g rest ≡ 0 = omega arith in
      let chain : Chained words v.end (g ∷ rest) = subst (Chained words v.end) is (r.purses.chained id v at) in
      let before = unplaced_unlinked n words views g (held_unplaced (tag words g) by.held) in
      let after = unplaced_unlinked n words' views' g (ap is_placed here) in
      let links : SameLinks n words words' views views' = tag_links f n l words views id v w g 0 at before after (λ h ne. refl) in (
        tag_kept f n l words views id v w g 0 r at live by.within
            (record { range = record { frames = refl; levels = refl; first = refl; count = refl }; book = record { pieces = refl; tables = refl; top = refl }; path = refl; known = refl })
            before after
            (owed_unprepared f n l words views id v (rest_of v.purse) (without g v.busy) v.end g 0 r at by.unprepared links (IsTag.free refl) (let a = bit_true (is_held (tag words g)) by.held in omega arith)
            (λ h ne. ap (times h) tail ∙ sym (ap (times h) is ∙ times_else h g rest (λ e. ne (sym e)))))
            (each_set (λ u. Chained words u.end u.purse) (λ u. Chained words' u.end u.purse) views id v w at
            (subst (Chained words' v.end) (sym tail) (chained_else words g 0 v.end rest none_left chain.1))
            (λ j u ne there h. chained_else words g 0 u.end u.purse (by.others j u ne there) h) r.purses.chained) (r.purses.ends id v at)
            (each_set (λ u. u.count ≡ input_pages f → (h : ℕ) → h < n → IsIn u.busy h → tag words h ≢ 0) (λ u. u.count ≡ input_pages f → (h : ℕ) → h < n → IsIn u.busy h → tag words' h ≢ 0)
            views id v w at
            (λ whole h lt a. let left : (h ≢ g) × IsIn v.busy h = left_cases g h v.busy a in λ z. r.busy id v at whole h lt left.1 (sym (tag_else words g 0 h left.0) ∙ z))
            (λ j u ne there h whole. absurd (let none = whole_only f views r.spans j id u v (λ e. ne (sym e)) there whole at in omega arith)) r.busy),
        tt,
      )
