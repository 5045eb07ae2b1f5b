-- A text that is refused is that of no script.
use Rattle.std.proofs.Common.{◌≡◌, ◌≢◌, ℕ, suc, ◌+◌, ◌≤◌, Bool, true, false, List, [], ◌∷◌, ◌++◌, length, ◌==◌, Some, refl, ap, subst, sym, ◌∙◌, arith, cond, not, get_or, append_assoc, length-append}
use Rattle.std.specs.Prelude.{option_and_then, IsTrue, ◌&&◌, codes}
use Rattle.std.specs.List.{position_or_len}
use borrow.Author.Tests.{eq-eqb}
use Rattle.pt_model.specs.Numbers.{decimal, hexadecimal, HasOneNumber}
use Rattle.pt_model.specs.declared.command.Name.{Name}
use Rattle.pt_model.specs.declared.command.Name.TheVariants.{AmdV1, VtdSs3, VtdSs4, VtdSs5, X86L4, X86L5, Vmsa4, Vmsa16, Vmsa64, Sv39, Sv48, Sv57}
use Rattle.pt_script.specs.declared.line.Keyword.{Keyword}
use Rattle.pt_script.specs.declared.line.Line.{Line}
use Rattle.pt_script.specs.declared.line.Line.TheVariants as form
use Rattle.pt_script.specs.declared.error.Reason.{Reason}
use Rattle.pt_script.specs.declared.error.Reason.TheVariants as reasons
use Rattle.pt_script.specs.Grammar.{Place, Over, State, start, may_stand, is_within, moved, after, is_taken}
use Rattle.pt_script.specs.Lines.{name_text, keyword_of, keyword_text, operands, format_operands, text_of, is_stated}
use Rattle.pt_script.specs.Text.{script_text, words, word, HasNoLine, HasShape, HasFormatShape, Begins, Refuses, IsRefused, StopsAt, all_stated, IsBadAt}
use Rattle.pt_script.specs.Numbered.{is_lawful}
use Rattle.pt_script.proofs.Steps.{never, same_some, both, tested, after-append}
use Rattle.pt_script.proofs.Productions.{over_stops, taken_is}
use Rattle.pt_script.proofs.WordLemmas.{NoFeed, no_feed, words_of_text}
use Rattle.pt_script.proofs.OneText.{same_front, nonempty, keyword_injective, text_injective}

-- The lines of the front are those of the script.
pub record Follows (front ls : List Line) (rest : List ℕ) : Type 0 where
  pub more : List Line
  pub whole : ls ≡ front ++ more
  pub same : rest ≡ script_text more
  pub stated : IsTrue (all_stated more)

follows : HasOneNumber decimal → HasOneNumber hexadecimal → (front ls : List Line) (rest : List ℕ) → IsTrue (all_stated front) → IsTrue (all_stated ls) → script_text front ++ rest ≡ script_text ls → Follows front ls rest
follows d x [] ls rest h k e = record { more = ls; whole = refl; same = e; stated = k }
follows d x (f ∷ front) [] rest h k e = absurd (nonempty (text_of f) (script_text front ++ rest) (sym (sym (append_assoc (text_of f) (10 ∷ script_text front) rest) ∙ e)))
follows d x (f ∷ front) (l ∷ ls) rest h k e =
    let a = both (is_stated f) (all_stated front) h in
    let b = both (is_stated l) (all_stated ls) k in
    let s = same_front (text_of f) (text_of l) (script_text front ++ rest) (script_text ls) (no_feed f a.0) (no_feed l b.0) (sym (append_assoc (text_of f) (10 ∷ script_text front) rest) ∙ e) in
    let r = follows d x front ls rest a.1 b.1 s.1 in
    let first : f ≡ l = text_injective d x f l a.0 b.0 s.0 in
    record { more = r.more; whole = (λ i. sym first i ∷ r.whole i); same = r.same; stated = r.stated }

-- A line has the first word and the shape of its form.
pub first_of : (l : Line) → IsTrue (is_stated l) → word 0 (text_of l) ≡ keyword_text (keyword_of l)
first_of l h = ap (λ ws. get_or ws 0 []) (words_of_text l h)

fixed_shape : (raw w : List ℕ) → words raw ≡ codes "format" ∷ w ∷ [] → w ≢ codes "amdv1" → HasFormatShape raw
fixed_shape raw w e n =
    let second : word 1 raw ≡ w = ap (λ ws. get_or ws 1 []) e in
    record { growing = λ a. absurd (n (sym second ∙ a)); levels = λ a. absurd (n (sym second ∙ a)); fixed = λ a. ap length e }

format_shape : (name : Name) (levels : ℕ) (raw : List ℕ) → words raw ≡ codes "format" ∷ format_operands name levels → HasFormatShape raw
format_shape AmdV1 levels raw e =
    record { growing = λ a. ap length e; levels = λ a. ap (λ ws. get_or ws 2 []) e; fixed = λ a. absurd (a (ap (λ ws. get_or ws 1 []) e)) }
format_shape VtdSs3 levels raw e = fixed_shape raw (name_text VtdSs3) e (λ f. omega (arith, ap (λ t. get_or t 0 0) f))
format_shape VtdSs4 levels raw e = fixed_shape raw (name_text VtdSs4) e (λ f. omega (arith, ap (λ t. get_or t 0 0) f))
format_shape VtdSs5 levels raw e = fixed_shape raw (name_text VtdSs5) e (λ f. omega (arith, ap (λ t. get_or t 0 0) f))
format_shape X86L4 levels raw e = fixed_shape raw (name_text X86L4) e (λ f. omega (arith, ap (λ t. get_or t 0 0) f))
format_shape X86L5 levels raw e = fixed_shape raw (name_text X86L5) e (λ f. omega (arith, ap (λ t. get_or t 0 0) f))
format_shape Vmsa4 levels raw e = fixed_shape raw (name_text Vmsa4) e (λ f. omega (arith, ap (λ t. get_or t 0 0) f))
format_shape Vmsa16 levels raw e = fixed_shape raw (name_text Vmsa16) e (λ f. omega (arith, ap (λ t. get_or t 0 0) f))
format_shape Vmsa64 levels raw e = fixed_shape raw (name_text Vmsa64) e (λ f. omega (arith, ap (λ t. get_or t 0 0) f))
format_shape Sv39 levels raw e = fixed_shape raw (name_text Sv39) e (λ f. omega (arith, ap (λ t. get_or t 0 0) f))
format_shape Sv48 levels raw e = fixed_shape raw (name_text Sv48) e (λ f. omega (arith, ap (λ t. get_or t 0 0) f))
format_shape Sv57 levels raw e = fixed_shape raw (name_text Sv57) e (λ f. omega (arith, ap (λ t. get_or t 0 0) f))

shape_by : (l : Line) (raw : List ℕ) → words raw ≡ keyword_text (keyword_of l) ∷ operands l → HasShape (keyword_of l) raw
shape_by (form.Format name levels) raw e = format_shape name levels raw e
shape_by (form.Frames frames) raw e = ap length e
shape_by (form.Hold hold) raw e = ap length e
shape_by (form.Map va pa len prot) raw e = ap length e
shape_by (form.Unmap va len) raw e = ap length e
shape_by (form.Lookup va) raw e = ap length e
shape_by form.Dump raw e = ap length e
shape_by form.Release raw e = ap length e
shape_by (form.Fork at) raw e = ap length e
shape_by form.With raw e = ap length e
shape_by form.End raw e = ap length e
shape_by form.Close raw e = ap length e
shape_by (form.Walk va) raw e = ap length e
shape_by form.Census raw e = ap length e

pub shape_of : (l : Line) → IsTrue (is_stated l) → HasShape (keyword_of l) (text_of l)
shape_of l h = shape_by l (text_of l) (words_of_text l h)

pub first_is : (raw : List ℕ) (l : Line) → IsTrue (is_stated l) → raw ≡ text_of l → word 0 raw ≡ keyword_text (keyword_of l)
first_is raw l h e = ap (word 0) e ∙ first_of l h

pub same_keyword : (place : Place) (raw : List ℕ) (k : Keyword) (l : Line) → IsTrue (is_stated l) → Begins place raw k → raw ≡ text_of l → k ≡ keyword_of l
same_keyword place raw k l h m e = keyword_injective k (keyword_of l) (sym m.first ∙ first_is raw l h e)

pub shape_is : (place : Place) (raw : List ℕ) (k : Keyword) (l : Line) → IsTrue (is_stated l) → Begins place raw k → raw ≡ text_of l → HasShape k raw
shape_is place raw k l h m e = subst (λ j. HasShape j raw) (sym (same_keyword place raw k l h m e)) (subst (HasShape (keyword_of l)) (sym e) (shape_of l h))

pub not_refused : HasOneNumber decimal → HasOneNumber hexadecimal → (s : State) (raw : List ℕ) (reason : Reason) (l : Line) → Refuses s raw reason → raw ≡ text_of l → IsTrue (is_stated l)
    → IsTrue (may_stand (keyword_of l) s.place) → IsTrue (is_within l s) → ⊥
not_refused d x s raw reasons.Word l r e h stands within = r (keyword_of l) (record { first = first_is raw l h e; stands = stands })
not_refused d x s raw reasons.Shape l (k, begins, none) e h stands within = none (shape_is s.place raw k l h begins e)
not_refused d x s raw reasons.Argument l (k, begins, shape, none) e h stands within = none l h (sym (same_keyword s.place raw k l h begins e)) e
not_refused d x s raw reasons.Limit l (m, spelled, stated, may, out) e h stands within =
    let same : l ≡ m = text_injective d x l m h stated (sym e ∙ spelled) in
    out (subst (λ n. IsTrue (is_within n s)) same within)
not_refused d x s raw reasons.Ended l r e h stands within = r
not_refused d x s raw reasons.After l r e h stands within = r

-- A line feed is found.
feed_step : (b : Bool) (p n : ℕ) → p ≤ n → cond (not b) (1 + p) 0 ≤ n + 1
feed_step true p n h = omega arith
feed_step false p n h = omega arith

feed_found : (a b : List ℕ) → position_or_len (λ c. c == 10) (a ++ 10 ∷ b) ≤ length a
feed_found [] b = omega arith
feed_found (c ∷ a) b = omega (arith, feed_step (c == 10) (position_or_len (λ c. c == 10) (a ++ 10 ∷ b)) (length a) (feed_found a b))

pub has_line : (a b : List ℕ) → HasNoLine (a ++ 10 ∷ b) → ⊥
has_line a b h = omega (arith, h, feed_found a b, length-append a (10 ∷ b))

no_feed_step : (c : ℕ) (cs : List ℕ) (b : Bool) → (c == 10) ≡ b → cond (not b) (1 + position_or_len (λ x. x == 10) cs) 0 ≡ suc (length cs) → (HasNoLine cs → NoFeed cs) → NoFeed (c ∷ cs)
no_feed_step c cs true t e more = absurd (omega arith)
no_feed_step c cs false t e more = ((λ same. never (sym t ∙ eq-eqb c 10 same)), more (omega arith))

pub no_feed_in : (raw : List ℕ) → HasNoLine raw → NoFeed raw
no_feed_in [] h = tt
no_feed_in (c ∷ cs) h = no_feed_step c cs (c == 10) refl h (no_feed_in cs)

-- a line that was taken
pub record TakenFirst (m : Line) (s : State) : Type 0 where
  pub stands : IsTrue (may_stand (keyword_of m) s.place)
  pub within : IsTrue (is_within m s)

pub taken_first : (m : Line) (ms : List Line) (s t : State) → after s (m ∷ ms) ≡ Some t → TakenFirst m s
taken_first m ms s t e =
    let h = tested (may_stand (keyword_of m) s.place && is_within m s) (moved m s) (λ q. after q ms) t e in
    let b = both (may_stand (keyword_of m) s.place) (is_within m s) h.0 in
    record { stands = b.0; within = b.1 }

pub over_takes : (m : Line) (s : State) → s.place ≡ Over → IsTrue (may_stand (keyword_of m) s.place) → ⊥
over_takes m s e h = never (sym (over_stops m) ∙ ap (may_stand (keyword_of m)) (sym e) ∙ h)

at_end : (s t : State) → after s [] ≡ Some t → t.place ≡ Over → s.place ≡ Over
at_end s t a o = ap (λ q. q.place) (same_some s t a) ∙ o

in_line : HasOneNumber decimal → HasOneNumber hexadecimal → (s t : State) (rest : List ℕ) (reason : Reason) → s.place ≢ Over → IsRefused s rest reason
    → (ms : List Line) → IsTrue (all_stated ms) → after s ms ≡ Some t → t.place ≡ Over → rest ≡ script_text ms → ⊥
in_line d x s t rest reason inside r [] h a o e = inside (at_end s t a o)
in_line d x s t rest reason inside r (m ∷ ms) h a o e =
    let b = both (is_stated m) (all_stated ms) h in
    let f = same_front r.raw (text_of m) r.more (script_text ms) (no_feed_in r.raw r.one_line) (no_feed m b.0) (sym r.cut ∙ e) in
    let k = taken_first m ms s t a in
    not_refused d x s r.raw reason m r.refused f.0 b.0 k.stands k.within

stops_none : HasOneNumber decimal → HasOneNumber hexadecimal → (s t : State) (rest : List ℕ) (reason : Reason) → StopsAt s rest reason
    → (ms : List Line) → IsTrue (all_stated ms) → after s ms ≡ Some t → t.place ≡ Over → rest ≡ script_text ms → ⊥
stops_none d x s t rest reasons.After p [] h a o e = omega (arith, p.1, ap length e)
stops_none d x s t rest reasons.After p (m ∷ ms) h a o e = over_takes m s p.0 (taken_first m ms s t a).stands
stops_none d x s t rest reasons.Ended p [] h a o e = p.0 (at_end s t a o)
stops_none d x s t rest reasons.Ended p (m ∷ ms) h a o e = has_line (text_of m) (script_text ms) (subst HasNoLine e p.1)
stops_none d x s t rest reasons.Word p ms h a o e = in_line d x s t rest reasons.Word p.0 p.1 ms h a o e
stops_none d x s t rest reasons.Shape p ms h a o e = in_line d x s t rest reasons.Shape p.0 p.1 ms h a o e
stops_none d x s t rest reasons.Argument p ms h a o e = in_line d x s t rest reasons.Argument p.0 p.1 ms h a o e
stops_none d x s t rest reasons.Limit p ms h a o e = in_line d x s t rest reasons.Limit p.0 p.1 ms h a o e

pub bad_is_none : HasOneNumber decimal → HasOneNumber hexadecimal → (text : List ℕ) (number : ℕ) (reason : Reason) → IsBadAt text number reason
    → (ls : List Line) → IsTrue (is_lawful ls) → text ≢ script_text ls
bad_is_none d x text number reason b ls h e =
    let l = both (all_stated ls) (is_taken ls) h in
    let t = taken_is ls l.1 in
    let f = follows d x b.lines ls b.rest b.stated l.0 (sym b.front ∙ e) in
    let rest : after b.state f.more ≡ Some t.0 =
    ap (option_and_then (λ q. after q f.more)) (sym b.reached) ∙ sym (after-append b.lines f.more start) ∙ ap (after start) (sym f.whole) ∙ t.1 in
    stops_none d x b.state t.0 b.rest reason b.stops f.more f.stated rest t.2 f.same
