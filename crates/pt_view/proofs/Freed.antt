-- Frames that are freed, some after others, and all of a purse.
use Rattle.std.proofs.Common.{◌≡◌, ◌⊎◌, ℕ, ◌<◌, List, [], ◌∷◌, ◌++◌, length, inl, inr, refl, ap, sym, ◌∙◌, subst, arith, append_assoc, length-append, ⊎_elim}
use Rattle.std.proofs.lemmas.List.{append-nil}
use mathlib.Core.Logic.{dite}
use native.Mathlib.Decide.{dec_le}
use Rattle.pt_view.specs.declared.view.View.{View}
use Rattle.pt_view.specs.Lists.{DropsFrames, IsIn, times}
use Rattle.pt_view.specs.Calls.{IsFreed, IsReleased}
use Rattle.pt_view.proofs.Members.{in_left, in_right, times_append}
use Rattle.pt_view.proofs.Stays.{book_here, book_on, history_on, range_here, range_on}

-- a frame of two lists put together is one of either
in_either : (xs ys : List ℕ) (x : ℕ) → IsIn (xs ++ ys) x → IsIn xs x ⊎ IsIn ys x
in_either xs ys x h = dite (dec_le 1 (times x xs)) (λ some. inl (omega arith)) (λ none. inr (let e = times_append x xs ys in let all : 0 < times x (xs ++ ys) = h in omega arith))

-- some are dropped, and then others
drops_on : (xs ys old mid new : List ℕ) → DropsFrames old mid xs → DropsFrames mid new ys → DropsFrames old new (xs ++ ys)
drops_on xs ys old mid new a b x = (
  λ (h : IsIn new x).
      let second : (¬ IsIn ys x) × IsIn mid x = (b x).0 h in
      let first : (¬ IsIn xs x) × IsIn old x = (a x).0 second.1 in
      (λ (gone : IsIn (xs ++ ys) x). ⊎_elim first.0 second.0 (in_either xs ys x gone), first.1),
  λ (h : (¬ IsIn (xs ++ ys) x) × IsIn old x).
      (b x).1 (λ (gone : IsIn ys x). h.0 (in_right x xs ys gone), (a x).1 (λ (gone : IsIn xs x). h.0 (in_left x xs ys gone), h.1)),
)

no_items : (xs : List ℕ) → length xs ≡ 0 → xs ≡ []
no_items [] e = refl
no_items (x ∷ xs) e = absurd (omega arith)

module _ {tells : Type 0} where
  -- none is
  pub freed_none : (v : View) → IsFreed tells [] v v
  freed_none v = record {
    range = range_here;
    book = book_here;
    path = refl;
    prepared = refl;
    purse = refl;
    end = refl;
    busy = λ x. (λ h. (λ none. omega arith, h), λ h. h.1);
    known = λ p. (λ h. h, λ h. h);
    told = λ told. record { taken = refl; absent = refl; stores = refl };
  }

  -- some, and then others
  pub freed_on : {xs ys : List ℕ} {u v w : View} → IsFreed tells xs u v → IsFreed tells ys v w → IsFreed tells (xs ++ ys) u w
  freed_on {xs} {ys} {u} {v} {w} a b = record {
    range = range_on a.range b.range;
    book = book_on a.book b.book;
    path = b.path ∙ a.path;
    prepared = b.prepared ∙ a.prepared;
    purse = a.purse ∙ ap (λ (zs : List ℕ). xs ++ zs) b.purse ∙ sym (append_assoc xs ys w.purse);
    end = b.end ∙ a.end;
    busy = drops_on xs ys u.busy v.busy w.busy a.busy b.busy;
    known = λ p. (λ h. (a.known p).0 ((b.known p).0 h), λ h. (b.known p).1 ((a.known p).1 h));
    told = λ told. history_on (a.told told) (b.told told);
  }

  -- as many as the purse has: it is empty then
  pub released : {xs : List ℕ} {v w : View} → IsFreed tells xs v w → length xs ≡ length v.purse → IsReleased tells v w
  released {xs} {v} {w} a all =
      let none : w.purse ≡ [] = no_items w.purse (let e = ap length a.purse in let l = length-append xs w.purse in omega arith) in
      let every : xs ≡ v.purse = sym (append-nil xs) ∙ ap (λ (zs : List ℕ). xs ++ zs) (sym none) ∙ sym a.purse in
      record { freed = subst (λ (zs : List ℕ). IsFreed tells zs v w) every a; none = none }
