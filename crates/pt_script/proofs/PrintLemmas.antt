-- Printing a script by parts, and scripts of one text.
use Rattle.std.proofs.Common.{◌≡◌, ◌≢◌, ℕ, ◌+◌, Bool, true, List, [], ◌∷◌, ◌++◌, ◌==◌, length, map, refl, ap, subst, sym, ◌∙◌, append_assoc}
use Rattle.std.specs.Prelude.{IsTrue}
use borrow.Author.Tests.{eqb-true}
use Rattle.std.proofs.Math.Bool.{Bool-set}
use Rattle.pt_model.specs.Numbers.{decimal, hexadecimal, HasOneNumber}
use Rattle.pt_model.specs.declared.command.Name.{Name}
use Rattle.pt_model.specs.declared.command.What.{What}
use Rattle.pt_model.specs.declared.command.What.TheVariants as what
use Rattle.pt_model.specs.declared.command.Command.{Command}
use Rattle.pt_model.specs.declared.command.AskWhat.{AskWhat}
use Rattle.pt_model.specs.declared.command.AskWhat.TheVariants as asked
use Rattle.pt_model.specs.declared.command.Ask.{Ask}
use Rattle.pt_script.specs.declared.line.Line.{Line}
use Rattle.pt_script.specs.declared.line.Line.TheVariants as form
use Rattle.pt_script.specs.declared.whole.Script.{Script}
use Rattle.pt_script.specs.Lines.{command_line, ask_line}
use Rattle.pt_script.specs.Grammar.{is_taken}
use Rattle.pt_script.specs.Text.{script_text, all_stated}
use Rattle.pt_script.specs.Numbered.{body_lines, tail_lines, lines_of, is_lawful, count_on, has_numbers, has_ask_numbers}
use Rattle.pt_script.specs.Scripts.{lines_in, text_in}
use Rattle.pt_script.proofs.Steps.{both}
use Rattle.pt_script.proofs.ParseLemmas.{script_text-append}
use Rattle.pt_script.proofs.OneText.{script_injective}

pushed : (a b : List Line) (o p : List ℕ) → o ≡ script_text a → p ≡ o ++ script_text b → p ≡ script_text (a ++ b)
pushed a b o p e f = f ∙ ap (λ x. x ++ script_text b) e ∙ sym (script_text-append a b)

pub printed : (format : Name) (levels frames hold : ℕ) (body cs : List Command) (tail qs : List Ask) (o0 o1 o2 o3 o4 o5 : List ℕ) → o0 ≡ [] → o1 ≡ o0 ++ script_text (form.Format format levels ∷ form.Frames frames ∷ form.Hold hold ∷ [])
    → cs ≡ body → o2 ≡ o1 ++ script_text (body_lines cs) → o3 ≡ o2 ++ script_text (form.Close ∷ []) → qs ≡ tail → o4 ≡ o3 ++ script_text (tail_lines qs) → o5 ≡ o4 ++ script_text (form.End ∷ [])
    → o5 ≡ script_text (lines_of format levels frames hold body tail)
printed format levels frames hold body cs tail qs o0 o1 o2 o3 o4 o5 e0 e1 f e2 e3 g e4 e5 =
    let header = form.Format format levels ∷ form.Frames frames ∷ form.Hold hold ∷ [] in
    let a = pushed [] header o0 o1 e0 e1 in
    let b = pushed header (body_lines body) o1 o2 a (e2 ∙ ap (λ x. o1 ++ script_text (body_lines x)) f) in
    let c = pushed (header ++ body_lines body) (form.Close ∷ []) o2 o3 b e3 in
    let d = pushed ((header ++ body_lines body) ++ form.Close ∷ []) (tail_lines tail) o3 o4 c (e4 ∙ ap (λ x. o3 ++ script_text (tail_lines x)) g) in
    let e = pushed (((header ++ body_lines body) ++ form.Close ∷ []) ++ tail_lines tail) (form.End ∷ []) o4 o5 d e5 in
    e ∙ ap (λ x. script_text (x ++ form.End ∷ [])) (append_assoc (header ++ body_lines body) (form.Close ∷ []) (tail_lines tail))

-- A command and an ask have one line each.
pub not_close : (w : What) → command_line w ≢ form.Close
not_close (what.Map va pa len prot) e = cc
not_close (what.Unmap va len) e = cc
not_close (what.Lookup va) e = cc
not_close what.Dump e = cc
not_close what.Release e = cc
not_close (what.Fork at) e = cc
not_close what.With e = cc
not_close what.End e = cc

not_end : (w : AskWhat) → ask_line w ≢ form.End
not_end (asked.Walk va) e = cc
not_end asked.Census e = cc

command_injective : (w v : What) → command_line w ≡ command_line v → w ≡ v
command_injective (what.Map va pa len prot) (what.Map vb pb lem prou) e =
    let a : va ≡ vb = cc in
    let b : pa ≡ pb = cc in
    let c : len ≡ lem = cc in
    let d : prot ≡ prou = cc in
    (λ i. what.Map (a i) (b i) (c i) (d i))
command_injective (what.Unmap va len) (what.Unmap vb lem) e =
    let a : va ≡ vb = cc in
    let c : len ≡ lem = cc in
    (λ i. what.Unmap (a i) (c i))
command_injective (what.Lookup va) (what.Lookup vb) e = let a : va ≡ vb = cc in ap what.Lookup a
command_injective what.Dump what.Dump e = refl
command_injective what.Release what.Release e = refl
command_injective (what.Fork va) (what.Fork vb) e = let a : va ≡ vb = cc in ap what.Fork a
command_injective what.With what.With e = refl
command_injective what.End what.End e = refl
command_injective w v e = let f : command_line w ≡ command_line v = e in cc

ask_injective : (w v : AskWhat) → ask_line w ≡ ask_line v → w ≡ v
ask_injective (asked.Walk va) (asked.Walk vb) e = let a : va ≡ vb = cc in ap asked.Walk a
ask_injective asked.Census asked.Census e = refl
ask_injective w v e = let f : ask_line w ≡ ask_line v = e in cc

pub head_same : (x y : Line) (xs ys : List Line) → x ∷ xs ≡ y ∷ ys → (x ≡ y) × (xs ≡ ys)
head_same x y xs ys e = (cc, cc)

bodies : (b c : List Command) (r q : List Line) (first : ℕ) → body_lines b ++ form.Close ∷ r ≡ body_lines c ++ form.Close ∷ q → count_on first (map (λ x. x.line) b) ≡ true → count_on first (map (λ x. x.line) c) ≡ true
    → (b ≡ c) × (r ≡ q)
bodies [] [] r q first e h k = (refl, (head_same form.Close form.Close r q e).1)
bodies [] (y ∷ c) r q first e h k = absurd (not_close y.what (sym (head_same form.Close (command_line y.what) r (body_lines c ++ form.Close ∷ q) e).0))
bodies (x ∷ b) [] r q first e h k = absurd (not_close x.what (head_same (command_line x.what) form.Close (body_lines b ++ form.Close ∷ r) q e).0)
bodies (x ∷ b) (y ∷ c) r q first e h k =
    let s = head_same (command_line x.what) (command_line y.what) (body_lines b ++ form.Close ∷ r) (body_lines c ++ form.Close ∷ q) e in
    let h2 = both (x.line == first) (count_on (first + 1) (map (λ z. z.line) b)) h in
    let k2 = both (y.line == first) (count_on (first + 1) (map (λ z. z.line) c)) k in
    let more = bodies b c r q (first + 1) s.1 h2.1 k2.1 in
    let line : x.line ≡ y.line = eqb-true x.line first h2.0 ∙ sym (eqb-true y.line first k2.0) in
    let w : x.what ≡ y.what = command_injective x.what y.what s.0 in
    let same : x ≡ y = λ i. record { line = line i; what = w i } in
    ((λ i. same i ∷ more.0 i), more.1)

tails : (b c : List Ask) (first : ℕ) → tail_lines b ++ form.End ∷ [] ≡ tail_lines c ++ form.End ∷ [] → count_on first (map (λ x. x.line) b) ≡ true → count_on first (map (λ x. x.line) c) ≡ true → b ≡ c
tails [] [] first e h k = refl
tails [] (y ∷ c) first e h k = absurd (not_end y.what (sym (head_same form.End (ask_line y.what) [] (tail_lines c ++ form.End ∷ []) e).0))
tails (x ∷ b) [] first e h k = absurd (not_end x.what (head_same (ask_line x.what) form.End (tail_lines b ++ form.End ∷ []) [] e).0)
tails (x ∷ b) (y ∷ c) first e h k =
    let s = head_same (ask_line x.what) (ask_line y.what) (tail_lines b ++ form.End ∷ []) (tail_lines c ++ form.End ∷ []) e in
    let h2 = both (x.line == first) (count_on (first + 1) (map (λ z. z.line) b)) h in
    let k2 = both (y.line == first) (count_on (first + 1) (map (λ z. z.line) c)) k in
    let more = tails b c (first + 1) s.1 h2.1 k2.1 in
    let line : x.line ≡ y.line = eqb-true x.line first h2.0 ∙ sym (eqb-true y.line first k2.0) in
    let w : x.what ≡ y.what = ask_injective x.what y.what s.0 in
    let same : x ≡ y = λ i. record { line = line i; what = w i } in
    (λ i. same i ∷ more i)

-- The fields of a script.
abbrev Fields : Type 0
Fields = Name × ℕ × ℕ × ℕ × List Command × List Ask

abbrev lawful : Fields → Type 0
lawful x = IsTrue (is_lawful (lines_of x.0 x.1 x.2 x.3 x.4 x.5))

abbrev numbered : Fields → Type 0
numbered x = IsTrue (has_numbers x.4)

abbrev tail_numbered : Fields → Type 0
tail_numbered x = IsTrue (has_ask_numbers x.4 x.5)

abbrev made : (x : Fields) → lawful x → numbered x → tail_numbered x → Script
made x p q r = record { format = x.0; levels = x.1; frames = x.2; hold = x.3; body = x.4; tail = x.5; lawful = p; numbered = q; tail_numbered = r }

true_prop : (b : Bool) → IsProp (IsTrue b)
true_prop b = hlevel (Bool-set)

abbrev fields_of : Script → Fields
fields_of s = (s.format, s.levels, s.frames, s.hold, s.body, s.tail)

same_made : (s t : Script) → fields_of s ≡ fields_of t → s ≡ t
same_made s t e =
    let P : Fields → Type 0 = λ x. (p : lawful x) (q : numbered x) (r : tail_numbered x) → s ≡ made x p q r in
    subst P e (λ p q r. λ i. made (fields_of s) (true_prop _ s.lawful p i) (true_prop _ s.numbered q i) (true_prop _ s.tail_numbered r i)) t.lawful t.numbered t.tail_numbered

pub header_same : (x1 x2 x3 y1 y2 y3 : Line) (xs ys : List Line) → x1 ∷ x2 ∷ x3 ∷ xs ≡ y1 ∷ y2 ∷ y3 ∷ ys → (x1 ≡ y1) × (x2 ≡ y2) × (x3 ≡ y3) × (xs ≡ ys)
header_same x1 x2 x3 y1 y2 y3 xs ys e = (cc, cc, cc, cc)

regrouped : (body : List Command) (tail : List Ask) → body_lines body ++ form.Close ∷ tail_lines tail ++ form.End ∷ [] ≡ body_lines body ++ form.Close ∷ (tail_lines tail ++ form.End ∷ [])
regrouped body tail = append_assoc (body_lines body) (form.Close ∷ tail_lines tail) (form.End ∷ [])

pub one_script : HasOneNumber decimal → HasOneNumber hexadecimal → (s t : Script) → text_in s ≡ text_in t → s ≡ t
one_script d x s t e =
    let a = both (all_stated (lines_in s)) (is_taken (lines_in s)) s.lawful in
    let b = both (all_stated (lines_in t)) (is_taken (lines_in t)) t.lawful in
    let same = script_injective d x (lines_in s) (lines_in t) a.0 b.0 e in
    let h = header_same _ _ _ _ _ _ _ _ same in
    let format : s.format ≡ t.format = let f : form.Format s.format s.levels ≡ form.Format t.format t.levels = h.0 in cc in
    let levels : s.levels ≡ t.levels = let f : form.Format s.format s.levels ≡ form.Format t.format t.levels = h.0 in cc in
    let frames : s.frames ≡ t.frames = let f : form.Frames s.frames ≡ form.Frames t.frames = h.1 in cc in
    let hold : s.hold ≡ t.hold = let f : form.Hold s.hold ≡ form.Hold t.hold = h.2 in cc in
    let rest = bodies s.body t.body (tail_lines s.tail ++ form.End ∷ []) (tail_lines t.tail ++ form.End ∷ []) 4 (sym (regrouped s.body s.tail) ∙ h.3 ∙ regrouped t.body t.tail) s.numbered t.numbered in
    let numbers : IsTrue (has_ask_numbers s.body t.tail) = subst (λ b. IsTrue (has_ask_numbers b t.tail)) (sym rest.0) t.tail_numbered in
    let tail = tails s.tail t.tail (5 + length s.body) rest.1 s.tail_numbered numbers in
    same_made s t (λ i. (format i, levels i, frames i, hold i, rest.0 i, tail i))
