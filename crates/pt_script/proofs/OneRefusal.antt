-- A text has one refusal.
use Rattle.std.proofs.Common.{◌≡◌, ℕ, suc, ◌+◌, List, [], ◌∷◌, ◌++◌, length, Some, refl, ap, subst, sym, ◌∙◌, append_assoc}
use Rattle.std.specs.Prelude.{IsTrue, ◌&&◌}
use Rattle.pt_model.specs.Numbers.{decimal, hexadecimal, HasOneNumber}
use Rattle.pt_script.specs.declared.line.Keyword.{Keyword}
use Rattle.pt_script.specs.declared.line.Line.{Line}
use Rattle.pt_script.specs.declared.error.Reason.{Reason}
use Rattle.pt_script.specs.declared.error.Reason.TheVariants.{Ended, Word, Shape, Argument, Limit, After}
use Rattle.pt_script.specs.Grammar.{Place, State, start, may_stand, is_within, moved, after}
use Rattle.pt_script.specs.Lines.{keyword_of, text_of, is_stated}
use Rattle.pt_script.specs.Text.{script_text, HasNoLine, HasShape, Begins, Refuses, IsRefused, StopsAt, all_stated, IsBadAt}
use Rattle.pt_script.proofs.Steps.{same_some, both, tested}
use Rattle.pt_script.proofs.WordLemmas.{no_feed}
use Rattle.pt_script.proofs.OneText.{same_front, keyword_injective, text_injective}
use Rattle.pt_script.proofs.Refused.{first_is, same_keyword, shape_is, not_refused, no_feed_in, has_line, taken_first, over_takes}

same_begin : (place : Place) (raw : List ℕ) (k m : Keyword) → Begins place raw k → Begins place raw m → k ≡ m
same_begin place raw k m a b = keyword_injective k m (sym a.first ∙ b.first)

same_shape : (place : Place) (raw : List ℕ) (k m : Keyword) → Begins place raw k → Begins place raw m → HasShape m raw → HasShape k raw
same_shape place raw k m a b h = subst (λ j. HasShape j raw) (sym (same_begin place raw k m a b)) h

module _ (d : HasOneNumber decimal) (x : HasOneNumber hexadecimal) where
  one_reason : (s : State) (raw : List ℕ) (r q : Reason) → Refuses s raw r → Refuses s raw q → r ≡ q
  one_reason s raw Word Word a b = refl
  one_reason s raw Shape Shape a b = refl
  one_reason s raw Argument Argument a b = refl
  one_reason s raw Limit Limit a b = refl
  one_reason s raw Word Shape a (k, begins, n) = absurd (a k begins)
  one_reason s raw Word Argument a (k, begins, h, none) = absurd (a k begins)
  one_reason s raw Word Limit a (l, e, stated, stands, out) = absurd (a (keyword_of l) (record { first = first_is raw l stated e; stands = stands }))
  one_reason s raw Shape Word (k, begins, n) b = absurd (b k begins)
  one_reason s raw Argument Word (k, begins, h, none) b = absurd (b k begins)
  one_reason s raw Limit Word (l, e, stated, stands, out) b = absurd (b (keyword_of l) (record { first = first_is raw l stated e; stands = stands }))
  one_reason s raw Shape Argument (k, a, n) (m, b, h, none) = absurd (n (same_shape s.place raw k m a b h))
  one_reason s raw Argument Shape (m, b, h, none) (k, a, n) = absurd (n (same_shape s.place raw k m a b h))
  one_reason s raw Shape Limit (k, a, n) (l, e, stated, stands, out) = absurd (n (shape_is s.place raw k l stated a e))
  one_reason s raw Limit Shape (l, e, stated, stands, out) (k, a, n) = absurd (n (shape_is s.place raw k l stated a e))
  one_reason s raw Argument Limit (k, a, h, none) (l, e, stated, stands, out) = absurd (none l stated (sym (same_keyword s.place raw k l stated a e)) e)
  one_reason s raw Limit Argument (l, e, stated, stands, out) (k, a, h, none) = absurd (none l stated (sym (same_keyword s.place raw k l stated a e)) e)
  one_reason s raw Ended q a b = absurd a
  one_reason s raw After q a b = absurd a
  one_reason s raw r Ended a b = absurd b
  one_reason s raw r After a b = absurd b

  one_refused : (s : State) (rest : List ℕ) (r q : Reason) → IsRefused s rest r → IsRefused s rest q → r ≡ q
  one_refused s rest r q a b =
      let f = same_front a.raw b.raw a.more b.more (no_feed_in a.raw a.one_line) (no_feed_in b.raw b.one_line) (sym a.cut ∙ b.cut) in
      one_reason s a.raw r q a.refused (subst (λ t. Refuses s t q) (sym f.0) b.refused)

  no_ended : (s : State) (rest : List ℕ) (q : Reason) → HasNoLine rest → IsRefused s rest q → ⊥
  no_ended s rest q h a = has_line a.raw a.more (subst HasNoLine a.cut h)

  one_stop : (s : State) (rest : List ℕ) (r q : Reason) → StopsAt s rest r → StopsAt s rest q → r ≡ q
  one_stop s rest After After a b = refl
  one_stop s rest After q a b = absurd (b.0 a.0)
  one_stop s rest r After a b = absurd (a.0 b.0)
  one_stop s rest Ended Ended a b = refl
  one_stop s rest Ended q a b = absurd (no_ended s rest q a.1 b.1)
  one_stop s rest r Ended a b = absurd (no_ended s rest r b.1 a.1)
  one_stop s rest r q a b = one_refused s rest r q a.1 b.1

  line_taken : (s : State) (rest : List ℕ) (r : Reason) (m : Line) (tail : List ℕ) → IsRefused s rest r → IsTrue (is_stated m) → IsTrue (may_stand (keyword_of m) s.place) → IsTrue (is_within m s) → rest ≡ text_of m ++ 10 ∷ tail → ⊥
  line_taken s rest r m tail a stated stands within e =
      let f = same_front a.raw (text_of m) a.more tail (no_feed_in a.raw a.one_line) (no_feed m stated) (sym a.cut ∙ e) in
      not_refused d x s a.raw r m a.refused f.0 stated stands within

  -- where it stops no line is taken
  no_line_taken : (s : State) (rest : List ℕ) (r : Reason) (m : Line) (tail : List ℕ) → StopsAt s rest r → IsTrue (is_stated m) → IsTrue (may_stand (keyword_of m) s.place) → IsTrue (is_within m s) → rest ≡ text_of m ++ 10 ∷ tail → ⊥
  no_line_taken s rest After m tail t stated stands within e = over_takes m s t.0 stands
  no_line_taken s rest Ended m tail t stated stands within e = has_line (text_of m) tail (subst HasNoLine e t.1)
  no_line_taken s rest r m tail t stated stands within e = line_taken s rest r m tail t.1 stated stands within e

  one_front : (ls bs : List Line) (from p q : State) (ra rb : List ℕ) (r u : Reason) → IsTrue (all_stated ls) → IsTrue (all_stated bs) → after from ls ≡ Some p → after from bs ≡ Some q
      → StopsAt p ra r → StopsAt q rb u → script_text ls ++ ra ≡ script_text bs ++ rb → (length ls ≡ length bs) × (r ≡ u)
  one_front [] [] from p q ra rb r u h k a b s t e =
      let places : q ≡ p = sym (same_some from q b) ∙ same_some from p a in
      (refl, one_stop p ra r u s (subst (λ z. StopsAt z ra u) places (subst (λ y. StopsAt q y u) (sym e) t)))
  one_front [] (m ∷ bs) from p q ra rb r u h k a b s t e =
      let f = taken_first m bs from q b in
      let stated = (both (is_stated m) (all_stated bs) k).0 in
      absurd (no_line_taken from ra r m (script_text bs ++ rb) (subst (λ z. StopsAt z ra r) (sym (same_some from p a)) s) stated f.stands f.within (e ∙ append_assoc (text_of m) (10 ∷ script_text bs) rb))
  one_front (l ∷ ls) [] from p q ra rb r u h k a b s t e =
      let f = taken_first l ls from p a in
      let stated = (both (is_stated l) (all_stated ls) h).0 in
      absurd (no_line_taken from rb u l (script_text ls ++ ra) (subst (λ z. StopsAt z rb u) (sym (same_some from q b)) t) stated f.stands f.within (sym e ∙ append_assoc (text_of l) (10 ∷ script_text ls) ra))
  one_front (l ∷ ls) (m ∷ bs) from p q ra rb r u h k a b s t e =
      let h2 = both (is_stated l) (all_stated ls) h in
      let k2 = both (is_stated m) (all_stated bs) k in
      let f = same_front (text_of l) (text_of m) (script_text ls ++ ra) (script_text bs ++ rb) (no_feed l h2.0) (no_feed m k2.0)
      (sym (append_assoc (text_of l) (10 ∷ script_text ls) ra) ∙ e ∙ append_assoc (text_of m) (10 ∷ script_text bs) rb) in
      let same : l ≡ m = text_injective d x l m h2.0 k2.0 f.0 in
      let a2 = tested (may_stand (keyword_of l) from.place && is_within l from) (moved l from) (λ z. after z ls) p a in
      let b2 = tested (may_stand (keyword_of m) from.place && is_within m from) (moved m from) (λ z. after z bs) q b in
      let b3 : after (moved l from) bs ≡ Some q = ap (λ y. after (moved y from) bs) same ∙ b2.1 in
      let more = one_front ls bs (moved l from) p q ra rb r u h2.1 k2.1 a2.1 b3 s t f.1 in
      (ap (λ n. suc n) more.0, more.1)

  pub one_refusal_only : (text : List ℕ) (i j : ℕ) (r u : Reason) → IsBadAt text i r → IsBadAt text j u → (i ≡ j) × (r ≡ u)
  one_refusal_only text i j r u a b =
      let f = one_front a.lines b.lines start a.state b.state a.rest b.rest r u a.stated b.stated a.reached b.reached a.stops b.stops (sym a.front ∙ b.front) in
      (a.place ∙ ap (λ n. n + 1) f.0 ∙ sym b.place, f.1)
