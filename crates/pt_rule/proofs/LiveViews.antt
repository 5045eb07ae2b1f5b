-- What holds of a live view wherever the rule does.
use Rattle.std.proofs.Common.{◌≡◌, ℕ, zero, suc, Bool, true, false, ◌+◌, ◌-◌, ◌<◌, ◌≤◌, List, [], ◌∷◌, length, refl, ap, sym, set, ◌∙◌, subst, arith, eq-eqb}
use Rattle.std.specs.Prelude.{Option, None, Some, ◌==◌}
use Rattle.std.specs.List.{AllByRecursion}
use mathlib.Core.Option.{some, some-injective, some-ne-none}
use mathlib.Core.Logic.{dite}
use native.Mathlib.Decide.{dec_le}
use lib.ListN.{get_elem?}
use Rattle.atomic_table.proofs.Lists.{set_here}
use Rattle.pt_model.specs.Layout.{Layout}
use Rattle.pt_model.specs.Words.{tag}
use Rattle.pt_format.specs.Laws.{IsLayout}
use Rattle.pt_view.specs.declared.view.View.{View}
use Rattle.pt_view.specs.declared.view.Node.{Node}
use Rattle.pt_view.specs.declared.view.Prepared.{Prepared}
use Rattle.pt_model.specs.Sets.{one_if}
use Rattle.pt_view.specs.Lists.{IsIn, times}
use Rattle.pt_view.specs.Calls.{held_count, prepared_count}
use Rattle.pt_rule.specs.Totals.{total, holds, prepares, is_prepared}
use Rattle.pt_rule.specs.Tags.{is_held, is_placed}
use Rattle.pt_rule.specs.Lawful.{Lawful, IsOnPath}
use Rattle.pt_rule.specs.Kinds.{retrace}
use Rattle.pt_rule.proofs.TotalsKept.{total_at, at_inside}
use Rattle.pt_model.proofs.Positions.{bit_le, bit_true}
use Rattle.pt_rule.proofs.FewFrames.{distinct_few}
use Rattle.pt_rule.proofs.TreeFacts.{is_position, prepared_tag}
use Rattle.pt_rule.proofs.TagFacts.{held_unplaced}
use Rattle.pt_rule.proofs.SpansFacts.{page_within}
use Rattle.pt_rule.proofs.CountKept.{counted}
use Rattle.pt_rule.proofs.RestingBook.{resting}
use Rattle.pt_rule.proofs.CutPaths.{cuts}
use Rattle.pt_rule.specs.Holds.{Holds}

pub all_at : {X : Type 0} (P : X → Type 0) (xs : List X) (i : ℕ) (x : X) → AllByRecursion P xs → get_elem? xs i ≡ some x → P x
all_at P [] i x h e = absurd (some-ne-none x (sym e))
all_at P (y ∷ ys) zero x h e = subst P (some-injective y x e) h.0
all_at P (y ∷ ys) (suc i) x h e = all_at P ys i x h.1 e

-- the frames that a view holds or prepares
abbrev used : List ℕ → Option Prepared → List ℕ
used purse None = purse
used purse (Some x) = x.frame ∷ purse

used_times : (g : ℕ) (purse : List ℕ) (o : Option Prepared) → times g (used purse o) ≡ times g purse + one_if (is_prepared g o)
used_times g purse None = omega arith
used_times g purse (Some x) = omega arith

used_length : (purse : List ℕ) (o : Option Prepared) → length (used purse o) ≡ length purse + prepared_count o
used_length purse None = omega arith
used_length purse (Some x) = omega arith

one_of : (held placed : Bool) → (held ≡ true → placed ≡ false) → one_if held + one_if placed ≤ 1
one_of true placed h = let e = ap one_if (h refl) in omega arith
one_of false placed h = let e = bit_le placed in omega arith

module _ (f : Layout) (good : IsLayout f) (n l : ℕ) (words : List ℕ) (views : List View) (r : Lawful f n l words views) (id : ℕ) (v : View) (at : get_elem? views id ≡ some v) (live : 0 < v.count) where
  purse_in : (x : ℕ) → IsIn v.purse x → x < n
  purse_in x h = dite (dec_le n x)
      (λ le. absurd (let some_one : 0 < times x v.purse = h in let a : times x v.purse ≤ total (holds x) views = total_at (holds x) views id v at in let b = r.frames.none_held x le in omega arith))
      (λ ne. omega arith)

  prepared_in : (x : Prepared) → v.prepared ≡ Some x → x.frame < n
  prepared_in x e = dite (dec_le n x.frame)
      (λ le. absurd (let one : prepares x.frame v ≡ 1 = ap (λ (o : Option Prepared). one_if (is_prepared x.frame o)) e ∙ bit_true (x.frame == x.frame) (eq-eqb x.frame x.frame refl) in
      let a = total_at (prepares x.frame) views id v at in let b = r.frames.none_prepared x.frame le in omega arith))
      (λ ne. omega arith)

  few_held : held_count v ≤ n
  few_held =
      let once : (g : ℕ) → g < n → times g (used v.purse v.prepared) ≤ 1 =
      (λ g lt. let t = used_times g v.purse v.prepared in let a : times g v.purse ≤ total (holds g) views = total_at (holds g) views id v at in
      let b : one_if (is_prepared g v.prepared) ≤ total (prepares g) views = total_at (prepares g) views id v at in
      let c = r.frames.held g lt in let d = r.frames.prepared g lt in
      let o = one_of (is_held (tag words g)) (is_placed (tag words g)) (held_unplaced (tag words g)) in omega arith) in
      let none : (g : ℕ) → n ≤ g → times g (used v.purse v.prepared) ≡ 0 =
      (λ g le. let t = used_times g v.purse v.prepared in let a : times g v.purse ≤ total (holds g) views = total_at (holds g) views id v at in
      let b : one_if (is_prepared g v.prepared) ≤ total (prepares g) views = total_at (prepares g) views id v at in
      let c = r.frames.none_held g le in let d = r.frames.none_prepared g le in omega arith) in
      let a = distinct_few n (used v.purse v.prepared) once none in let b = used_length v.purse v.prepared in omega arith

  nodes_in : (i : ℕ) (x : Node) → get_elem? v.path i ≡ some x → (x.frame < n) × (x.position.level < f.levels)
  nodes_in i x e =
      let on : IsOnPath f n words views v x = all_at (IsOnPath f n words views v) v.path i x (r.paths id v at).nodes e in
      (on.at.is_linked.within, (is_position f n l words views good r x.frame x.position on.at).0.a_level)

  pub holds_of : Holds f n l v
  holds_of = record {
    frames = (r.sizes.live id v at live).0;
    levels = (r.sizes.live id v at live).1;
    some_frame = r.sizes.some_frame;
    limit = r.sizes.limit;
    low = r.sizes.levels_low;
    high = r.sizes.levels_high;
    live = live;
    in_space = let last = page_within f views r.spans id v (v.first + v.count - 1) at (omega arith) (omega arith) in omega arith;
    purse_within = purse_in;
    once = λ x. dite (dec_le n x)
        (λ le. let a : times x v.purse ≤ total (holds x) views = total_at (holds x) views id v at in let b = r.frames.none_held x le in omega arith)
        (λ ne. let a : times x v.purse ≤ total (holds x) views = total_at (holds x) views id v at in let b = r.frames.held x (omega arith) in let c = bit_le (is_held (tag words x)) in omega arith);
    prepared_within = prepared_in;
    prepared_legal = λ x e. (prepared_tag f good n words views r.frames id v x at e).0;
    few = few_held;
    path_within = nodes_in;
    counted = λ whole. counted f good n l words views id v r at whole;
    book = r.books id v at live;
    lawful = resting f good n l words (set views id (retrace [] v)) id (retrace [] v) (cuts f n l words views id v [] v.path r at live refl) (set_here views id (retrace [] v) (at_inside views id v at)) live;
  }
