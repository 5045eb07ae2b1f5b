-- The law of a store of a new end mark, and of a load of a tag of the purse.
use Rattle.std.proofs.Common.{◌≡◌, ◌≢◌, ℕ, Bool, true, false, ◌+◌, ◌<◌, List, [], ◌∷◌, ◌++◌, set, sym, refl, ap, ◌∙◌, subst, ⊎_elim, arith}
use Rattle.std.specs.Prelude.{slice_set, Option, if◌then◌else◌, ◌==◌}
use Rattle.std.proofs.lemmas.Bool.Decides.{eqb_tells}
use Rattle.std.proofs.lemmas.List.{set-get_or}
use Rattle.atomic_table.proofs.Lists.{set_again}
use Rattle.pt_model.specs.Layout.{Layout}
use Rattle.pt_model.specs.Words.{tag}
use Rattle.pt_view.specs.declared.view.View.{View}
use Rattle.pt_view.specs.Lists.{times, IsIn}
use Rattle.pt_rule.specs.Tags.{held, Chained, first_or, held_word, is_held}
use Rattle.pt_rule.specs.Lawful.{Lawful}
use Rattle.pt_rule.specs.Kinds.{Keeps, mark, look_tag, follows}
use Rattle.pt_model.proofs.Places.{tag_same, tag_else}
use Rattle.pt_rule.proofs.TotalsKept.{each_set}
use Rattle.pt_model.proofs.Positions.{bit_true}
use Rattle.pt_view.proofs.Members.{in_cases, times_append, times_here}
use Rattle.pt_rule.proofs.PartsKept.{SameLinks, chained_else, busy_set}
use Rattle.pt_rule.proofs.TagFacts.{IsHeldBy, held_by, held_is, held_unplaced, held_nonzero, tag_still, unplaced_unlinked}
use Rattle.pt_rule.proofs.TagWritten.{owed_unprepared, tag_links, tag_kept}

not_here : (g x : ℕ) (xs : List ℕ) → times g (x ∷ xs) ≡ 0 → x ≢ g
not_here g x xs none e = let t = times_here g xs in let z : times g (g ∷ xs) ≡ 0 = subst (λ (y : ℕ). times g (y ∷ xs) ≡ 0) e none in omega arith

rest_not : (g x : ℕ) (xs : List ℕ) → times g (x ∷ xs) ≡ 0 → times g xs ≡ 0
rest_not g x xs none = let all : times g (x ∷ xs) ≡ 0 = none in omega arith

-- a chain whose last frame's tag names another end mark
chained_mark : (words : List ℕ) (g : ℕ) (end new : Option ℕ) (front : List ℕ) → (let words' : List ℕ = slice_set words (1 + g) (held_word new) in
    times g front ≡ 0 → tag words' g ≡ held_word new → Chained words end (front ++ g ∷ []) → Chained words' new (front ++ g ∷ []))
chained_mark words g end new [] none here h = (here, tt)
chained_mark words g end new (x ∷ []) none here h = (tag_else words g (held_word new) x (not_here g x [] none) ∙ h.0, (here, tt))
chained_mark words g end new (x ∷ y ∷ ys) none here h =
    (tag_else words g (held_word new) x (not_here g x (y ∷ ys) none) ∙ h.0, chained_mark words g end new (y ∷ ys) (rest_not g x (y ∷ ys) none) here h.1)

module _ (f : Layout) (n l : ℕ) where
  pub mark_kept : (g : ℕ) (end : Option ℕ) → Keeps f n l (mark g end)
  mark_kept g end words views id v r at live may =
      let front : List ℕ = may.0.0 in
      let is : v.purse ≡ front ++ g ∷ [] = may.0.1 in
      let x : ℕ = held_word end in
      let w : View = record v { end = end } in
      let words' : List ℕ = slice_set words (1 + g) x in
      let views' : List View = set views id w in
      let last : times g v.purse ≡ times g front + 1 = ap (times g) is ∙ times_append g front (g ∷ []) ∙ ap (λ (k : ℕ). times g front + k) (times_here g []) in
      let by : IsHeldBy n words views id v g = held_by f n words views r.frames id v g at (let some : 0 < times g v.purse = omega arith in some) in
      let once = by.once in
      let here : tag words' g ≡ x = tag_same f n words g x r.sizes.words_are by.within in
      let is_now : is_held (tag words' g) ≡ true = ap is_held here ∙ held_is end in
      let before = unplaced_unlinked n words views g (held_unplaced (tag words g) by.held) in
      let after = unplaced_unlinked n words' views' g (held_unplaced (tag words' g) is_now) in
      let links : SameLinks n words words' views views' = tag_links f n l words views id v w g x at before after (λ h ne. refl) in (
        tag_kept f n l words views id v w g x r at live by.within
            (record { range = record { frames = refl; levels = refl; first = refl; count = refl }; book = record { pieces = refl; tables = refl; top = refl }; path = refl; known = refl })
            before after
            (owed_unprepared f n l words views id v v.purse v.busy end g x r at by.unprepared links (held end refl) (let a = bit_true (is_held (tag words g)) by.held in let b = bit_true (is_held x) (held_is end) in omega arith)
            (λ h ne. refl))
            (each_set (λ u. Chained words u.end u.purse) (λ u. Chained words' u.end u.purse) views id v w at
            (subst (Chained words' end) (sym is) (chained_mark words g v.end end front (omega arith) here (subst (Chained words v.end) is (r.purses.chained id v at))))
            (λ j u ne there h. chained_else words g x u.end u.purse (by.others j u ne there) h) r.purses.chained) may.1
            (busy_set f n words words' views id v w at (λ h lt a. tag_still words g x h here (held_nonzero end) a)
            (λ whole h lt a. tag_still words g x h here (held_nonzero end) (r.busy id v at whole h lt a)) r.busy),
        tt,
      )

  -- the tag of a frame of a chain names the frame that follows it
  chained_follows : (words : List ℕ) (g : ℕ) (end : Option ℕ) (xs : List ℕ) → IsIn xs g → Chained words end xs → tag words g ≡ held_word (follows g end xs)
  chained_follows words g end [] a h = absurd (omega arith)
  chained_follows words g end (x ∷ xs) a h =
      let F : Bool → Type 0 = λ b. tag words g ≡ held_word (if b then first_or end xs else follows g end xs) in
      ⊎_elim (λ (e : ((x == g) ≡ true) × (x ≡ g)). subst F (sym e.0) (subst (λ (z : ℕ). tag words z ≡ held_word (first_or end xs)) e.1 h.0))
      (λ (e : ((x == g) ≡ false) × (x ≢ g)). subst F (sym e.0)
      (⊎_elim (λ (same : g ≡ x). absurd (e.1 (sym same))) (λ (rest : IsIn xs g). chained_follows words g end xs rest h.1) (in_cases g x xs a))) (eqb_tells x g)

  pub look_tag_kept : (g : ℕ) → Keeps f n l (look_tag g)
  look_tag_kept g words views id v r at live may = (
    subst (λ (t : List ℕ × List View). Lawful f n l t.0 t.1) (λ i. (sym (set-get_or words (1 + g) 0) i, sym (set_again views id v at) i)) r,
    chained_follows words g v.end v.purse may (r.purses.chained id v at),
  )
