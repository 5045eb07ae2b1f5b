-- What the parts of a view show.
use Rattle.std.proofs.Common.{◌≡◌, ℕ, zero, suc, ◌-◌, ◌<◌, ◌≤◌, List, [], ◌∷◌, length, take, drop, refl, sym, ap, ◌∙◌, subst, arith}
use Rattle.std.specs.Prelude.{None, Some, Option}
use Rattle.pt_model.specs.Layout.{Layout}
use Rattle.pt_view.specs.declared.view.View.{View}
use Rattle.pt_view.specs.Lists.{IsIn}
use Rattle.pt_rule.specs.Tags.{IsEnd, first_or}
use Rattle.pt_view.proofs.Members.{in_here}
use Rattle.pt_rule.specs.Kinds.{retrace}
use Rattle.pt_rule.specs.WholeView.{prepared_frame}
use Rattle.pt_rule.specs.Holds.{Holds}
use Rattle.pt_space.specs.Standing.{Shows, cut_to}

pub shows_part : {f : Layout} {n l : ℕ} {w : View} → Holds f n l w → {first count : ℕ} {head : Option ℕ} {held : ℕ} {path : List ℕ} → w.first ≡ first → w.count ≡ count → w.end ≡ None → first_or None w.purse ≡ head → length w.purse ≡ held → w.prepared ≡ None →
    Shows f n l w (record { first = first; count = count; head = head; held = held; path = path; depth = 0; level = 0; prepared = None })
shows_part holds first count end head held none = record {
  holds = holds;
  first = first;
  count = count;
  end = end;
  head = head;
  held = held;
  prepared = ap prepared_frame none;
  unbridged = λ x is. absurd (let both : None ≡ Some x = sym none ∙ is in let q : ⊥ = cc in q);
  deep = omega arith;
  nodes = λ i x lt at. absurd (omega arith);
}

-- a view whose path is empty at a depth has none there
pub at_rest : (d : ℕ) (v : View) → take d v.path ≡ [] → cut_to d v ≡ retrace [] v
at_rest d v e i = record v { path = e i }

pub head_taken : (xs : List ℕ) (k : ℕ) (h r : Option ℕ) → first_or None xs ≡ h → k ≤ length xs → (0 < k → r ≡ h) → (k ≡ 0 → r ≡ None) → first_or None (take k xs) ≡ r
head_taken xs zero h r e le some none = none_first xs ∙ sym (none refl)
  where
    none_first : (ys : List ℕ) → first_or None (take zero ys) ≡ None
    none_first [] = refl
    none_first (y ∷ ys) = refl
head_taken [] (suc k) h r e le some none = absurd (omega arith)
head_taken (x ∷ xs) (suc k) h r e le some none = e ∙ sym (some (omega arith))

pub drop_length : (xs : List ℕ) (k : ℕ) → length (drop k xs) ≡ length xs - k
drop_length xs zero = omega arith
drop_length [] (suc k) = omega arith
drop_length (x ∷ xs) (suc k) = let r = drop_length xs k in omega arith

-- an end mark that is another purse's first frame, or none
pub head_end : (n : ℕ) (xs : List ℕ) → ((x : ℕ) → IsIn xs x → x < n) → IsEnd n (first_or None xs)
head_end n [] h = tt
head_end n (x ∷ xs) h = h x (in_here x xs)

pub kept_end : (n k : ℕ) (h r : Option ℕ) → IsEnd n h → (0 < k → r ≡ h) → (k ≡ 0 → r ≡ None) → IsEnd n r
kept_end n zero h r e some none = subst (IsEnd n) (sym (none refl)) tt
kept_end n (suc k) h r e some none = subst (IsEnd n) (sym (some (omega arith))) e
