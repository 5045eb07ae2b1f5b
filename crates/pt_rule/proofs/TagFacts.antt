-- What a frame's tag says of the views: a free frame is nowhere, a held one stands in one purse, and a
-- prepared one at one view.
use Rattle.std.proofs.Common.{◌≡◌, ◌≢◌, ℕ, Bool, true, false, ◌+◌, ◌*◌, ◌%◌, ◌<◌, ◌≤◌, List, sym, refl, ap, ◌∙◌, subst, arith}
use Rattle.std.specs.Prelude.{◌==◌, slice_set, Option, None, Some, if◌then◌else◌}
use Rattle.std.proofs.lemmas.Bool.{eqb-true, false≢true}
use mathlib.Core.Option.{some}
use mathlib.Core.Logic.{dite}
use native.Mathlib.Decide.{ℕ_discrete}
use lib.ListN.{get_elem?}
use Rattle.pt_model.specs.declared.position.Position.{Position}
use Rattle.pt_model.specs.Layout.{Layout}
use Rattle.pt_model.specs.Words.{tag, placed_word}
use Rattle.pt_view.specs.declared.view.View.{View}
use Rattle.pt_view.specs.declared.view.Prepared.{Prepared}
use Rattle.pt_model.specs.Sets.{one_if}
use Rattle.pt_view.specs.Lists.{times, IsIn}
use Rattle.pt_rule.specs.Totals.{total, holds, prepares}
use Rattle.pt_rule.specs.Tags.{held_word, is_held, is_placed}
use Rattle.pt_rule.specs.Linked.{IsLinked}
use Rattle.pt_rule.specs.Lawful.{FramesPart}
use Rattle.pt_model.proofs.Places.{tag_else}
use Rattle.pt_rule.proofs.TotalsKept.{total_at, total_two}
use Rattle.pt_model.proofs.Positions.{bit_false, bit_le, true_bit}
use Rattle.pt_rule.proofs.PartsKept.{prepares_here, prepared_within, purse_within}

-- The three kinds of tags.

pub held_is : (o : Option ℕ) → is_held (held_word o) ≡ true
held_is None = refl
held_is (Some k) = let e : (1 + 4 * (k + 1)) % 4 ≡ 1 = omega arith in ap (λ (z : ℕ). z == 1) e

pub held_unplaced : (t : ℕ) → is_held t ≡ true → is_placed t ≡ false
held_unplaced t h = let e : t % 4 ≡ 1 = eqb-true (t % 4) 1 h in ap (λ (z : ℕ). z == 2) e

pub placed_is : (p : Position) → is_placed (placed_word p) ≡ true
placed_is p = let e : (2 + 4 * p.level + 32 * p.base) % 4 ≡ 2 = omega arith in ap (λ (z : ℕ). z == 2) e

pub placed_unheld : (t : ℕ) → is_placed t ≡ true → is_held t ≡ false
placed_unheld t h = let e : t % 4 ≡ 2 = eqb-true (t % 4) 2 h in ap (λ (z : ℕ). z == 1) e

pub held_some : (t : ℕ) → is_held t ≡ true → t ≢ 0
held_some t h e = false≢true (sym (ap is_held e) ∙ h)

pub placed_some : (t : ℕ) → is_placed t ≡ true → t ≢ 0
placed_some t h e = false≢true (sym (ap is_placed e) ∙ h)

pub held_nonzero : (o : Option ℕ) → held_word o ≢ 0
held_nonzero o = held_some (held_word o) (held_is o)

-- a tag isn't 0 after a write that isn't 0
pub tag_still : (words : List ℕ) (g x h : ℕ) → tag (slice_set words (1 + g) x) g ≡ x → x ≢ 0 → tag words h ≢ 0 → tag (slice_set words (1 + g) x) h ≢ 0
tag_still words g x h here nonzero old = dite (ℕ_discrete h g)
    (λ e. subst (λ (z : ℕ). tag (slice_set words (1 + g) x) z ≢ 0) (sym e) (λ z. nonzero (sym here ∙ z))) (λ ne z. old (sym (tag_else words g x h ne) ∙ z))

-- the entry that no bridge fills
pub no_bridge : (b : Bool) → (let k : ℕ = if b then 0 else 0 in k ≡ 0)
no_bridge true = refl
no_bridge false = refl

pub unplaced_unlinked : (n : ℕ) (words : List ℕ) (views : List View) (g : ℕ) → is_placed (tag words g) ≡ false → ¬ IsLinked n words views g
unplaced_unlinked n words views g h a = false≢true (sym h ∙ a.placed)

pub prepared_unlinked : (n : ℕ) (words : List ℕ) (views : List View) (g : ℕ) → 0 < total (prepares g) views → ¬ IsLinked n words views g
prepared_unlinked n words views g h a = let none = a.unprepared in omega arith

-- a frame that is in no purse and prepared by no view
pub record IsNowhere (views : List View) (g : ℕ) : Type 0 where
  pub unheld : (j : ℕ) (u : View) → get_elem? views j ≡ some u → times g u.purse ≡ 0
  pub unprepared : (j : ℕ) (u : View) → get_elem? views j ≡ some u → prepares g u ≡ 0

-- a frame of the purse of view `id`
pub record IsHeldBy (n : ℕ) (words : List ℕ) (views : List View) (id : ℕ) (v : View) (g : ℕ) : Type 0 where
  pub within : g < n
  pub held : is_held (tag words g) ≡ true
  pub once : times g v.purse ≡ 1
  pub others : (j : ℕ) (u : View) → j ≢ id → get_elem? views j ≡ some u → times g u.purse ≡ 0
  pub unprepared : (j : ℕ) (u : View) → get_elem? views j ≡ some u → prepares g u ≡ 0

-- a frame that view `id` prepares
pub record IsPreparedBy (n : ℕ) (words : List ℕ) (views : List View) (id : ℕ) (v : View) (g : ℕ) : Type 0 where
  pub within : g < n
  pub placed : is_placed (tag words g) ≡ true
  pub one : prepares g v ≡ 1
  pub somewhere : 0 < total (prepares g) views
  pub unheld : (j : ℕ) (u : View) → get_elem? views j ≡ some u → times g u.purse ≡ 0
  pub others : (j : ℕ) (u : View) → j ≢ id → get_elem? views j ≡ some u → prepares g u ≡ 0

-- a count over the views that is at most one where a test says so, and isn't zero at view `id`: the test says so, and
-- no other view counts
pub record IsAlone (count : View → ℕ) (views : List View) (id : ℕ) (v : View) (test : Bool) : Type 0 where
  pub tells : test ≡ true
  pub once : count v ≡ 1
  pub somewhere : 0 < total count views
  pub others : (j : ℕ) (u : View) → j ≢ id → get_elem? views j ≡ some u → count u ≡ 0

alone_at : (count : View → ℕ) (views : List View) (id : ℕ) (v : View) (test : Bool) → get_elem? views id ≡ some v → total count views ≤ one_if test → 0 < count v →
    IsAlone count views id v test
alone_at count views id v test at all here =
    let most = total_at count views id v at in
    let bit = bit_le test in record {
      tells = true_bit test (omega arith);
      once = omega arith;
      somewhere = omega arith;
      others = λ j u ne there. let two = total_two count views j id u v ne there at in omega arith;
    }

module _ (f : Layout) (n : ℕ) (words : List ℕ) (views : List View) (part : FramesPart f n words views) where
  -- where the tag isn't held, no purse has the frame, and where it isn't placed, no view prepares it
  pub unheld : (g : ℕ) → g < n → is_held (tag words g) ≡ false → (j : ℕ) (u : View) → get_elem? views j ≡ some u → times g u.purse ≡ 0
  unheld g within free j u at = let most : times g u.purse ≤ total (holds g) views = total_at (holds g) views j u at in
      let all = part.held g within in let bit = bit_false (is_held (tag words g)) free in omega arith

  pub unprepared : (g : ℕ) → g < n → is_placed (tag words g) ≡ false → (j : ℕ) (u : View) → get_elem? views j ≡ some u → prepares g u ≡ 0
  unprepared g within free j u at = let most = total_at (prepares g) views j u at in let all = part.prepared g within in let bit = bit_false (is_placed (tag words g)) free in omega arith

  pub free_nowhere : (g : ℕ) → g < n → tag words g ≡ 0 → IsNowhere views g
  free_nowhere g within free = record { unheld = unheld g within (ap is_held free); unprepared = unprepared g within (ap is_placed free) }

  pub held_by : (id : ℕ) (v : View) (g : ℕ) → get_elem? views id ≡ some v → IsIn v.purse g → IsHeldBy n words views id v g
  held_by id v g at a =
      let within = purse_within f n words views id v g part at a in
      let equal = part.held g within in
      let one : IsAlone (holds g) views id v (is_held (tag words g)) = alone_at (holds g) views id v (is_held (tag words g)) at (omega arith) a in
      record {
        within = within;
        held = one.tells;
        once = one.once;
        others = one.others;
        unprepared = unprepared g within (held_unplaced (tag words g) one.tells);
      }

  pub prepared_by : (id : ℕ) (v : View) (x : Prepared) → get_elem? views id ≡ some v → v.prepared ≡ Some x → IsPreparedBy n words views id v x.frame
  prepared_by id v x at e =
      let g : ℕ = x.frame in
      let within = prepared_within f n words views id v x part at e in
      let here = prepares_here views id v x e in
      let one : IsAlone (prepares g) views id v (is_placed (tag words g)) = alone_at (prepares g) views id v (is_placed (tag words g)) at (part.prepared g within) (omega arith) in
      record {
        within = within;
        placed = one.tells;
        one = one.once;
        somewhere = one.somewhere;
        unheld = unheld g within (placed_unheld (tag words g) one.tells);
        others = one.others;
      }
