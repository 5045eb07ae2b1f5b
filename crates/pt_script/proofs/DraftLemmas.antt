-- A draft behind one more line.
use Rattle.std.proofs.Common.{◌≡◌, ℕ, ◌+◌, true, List, [], ◌∷◌, ◌++◌, length, map, ◌==◌, refl, ap, subst, sym, ◌∙◌, arith, length-append}
use Rattle.std.specs.Prelude.{IsTrue}
use borrow.Author.Tests.{eq-eqb}
use Rattle.pt_model.specs.declared.command.What.{What}
use Rattle.pt_model.specs.declared.command.What.TheVariants as what
use Rattle.pt_model.specs.declared.command.Command.{Command}
use Rattle.pt_model.specs.declared.command.AskWhat.{AskWhat}
use Rattle.pt_model.specs.declared.command.AskWhat.TheVariants as asked
use Rattle.pt_model.specs.declared.command.Ask.{Ask}
use Rattle.pt_script.specs.declared.line.Side.{Side}
use Rattle.pt_script.specs.declared.line.Line.{Line}
use Rattle.pt_script.specs.declared.line.Line.TheVariants as form
use Rattle.pt_script.specs.declared.stage.Header.{Header}
use Rattle.pt_script.specs.declared.stage.Stage.{Stage}
use Rattle.pt_script.specs.declared.stage.Stage.TheVariants.{Format, Frames, Hold, Body, Tail, Over}
use Rattle.pt_script.specs.Lines.{keyword_of, command_line, ask_line}
use Rattle.pt_script.specs.Grammar.{may_stand}
use Rattle.pt_script.specs.Progress.{place_of, stage_behind}
use Rattle.pt_script.specs.Numbered.{body_lines, tail_lines, count_on, has_ask_numbers}
use Rattle.pt_script.specs.Draft.{lines_at, IsDraft, commands_behind, asks_behind}
use Rattle.pt_script.proofs.Steps.{never, and_true, both}
use Rattle.pt_script.proofs.Productions.{over_stops}

map-push : {A B : Type 0} (f : A → B) (xs : List A) (x : A) → map f (xs ++ x ∷ []) ≡ map f xs ++ f x ∷ []
map-push f [] x = refl
map-push f (y ∷ xs) x = ap (λ r. f y ∷ r) (map-push f xs x)

length_map : {A B : Type 0} (f : A → B) (xs : List A) → length (map f xs) ≡ length xs
length_map f [] = refl
length_map f (x ∷ xs) = omega (arith, length_map f xs)

count_on-push : (first : ℕ) (ns : List ℕ) (n : ℕ) → count_on first ns ≡ true → n ≡ first + length ns → count_on first (ns ++ n ∷ []) ≡ true
count_on-push first [] n h e = and_true (n == first) true (eq-eqb n first (omega arith)) refl
count_on-push first (m ∷ ns) n h e =
    let b = both (m == first) (count_on (first + 1) ns) h in
    and_true (m == first) (count_on (first + 1) (ns ++ n ∷ [])) b.0 (count_on-push (first + 1) ns n b.1 (omega arith))

abbrev body_length : Header → List Command → ℕ
body_length h cs = length (form.Format h.format h.levels ∷ form.Frames h.frames ∷ form.Hold h.hold ∷ body_lines cs)

body_length_is : (h : Header) (cs : List Command) → body_length h cs ≡ 3 + length cs
body_length_is h cs = omega (arith, length_map (λ c. command_line c.what) cs)

abbrev tail_length : Header → List Command → List Ask → ℕ
tail_length h cs qs = length (form.Format h.format h.levels ∷ form.Frames h.frames ∷ form.Hold h.hold ∷ body_lines cs ++ form.Close ∷ tail_lines qs)

tail_length_is : (h : Header) (cs : List Command) (qs : List Ask) → tail_length h cs qs ≡ 4 + length cs + length qs
tail_length_is h cs qs =
    omega (arith, length-append (body_lines cs) (form.Close ∷ tail_lines qs), length_map (λ c. command_line c.what) cs, length_map (λ a. ask_line a.what) qs)

over_length_is : (h : Header) (cs : List Command) (qs : List Ask) → length (lines_at (Over h) cs qs) ≡ 5 + length cs + length qs
over_length_is h cs qs =
    omega (arith, length-append (form.Format h.format h.levels ∷ form.Frames h.frames ∷ form.Hold h.hold ∷ body_lines cs ++ form.Close ∷ tail_lines qs) (form.End ∷ []), tail_length_is h cs qs)

no_asks_numbered : (cs : List Command) (qs : List Ask) → qs ≡ [] → IsTrue (has_ask_numbers cs qs)
no_asks_numbered cs [] e = refl
no_asks_numbered cs (q ∷ qs) e = absurd cc

body_more : (h : Header) (lines : ℕ) (cs : List Command) (qs : List Ask) (w : What) → IsDraft (Body h) lines cs qs
    → IsDraft (Body h) (lines + 1) (cs ++ record { line = lines + 1; what = w } ∷ []) qs
body_more h lines cs qs w d =
    let cs2 = cs ++ record { line = lines + 1; what = w } ∷ [] in
    let none : qs ≡ [] = d.no_asks refl in
    record {
      number = omega (arith, d.number, body_length_is h cs, body_length_is h cs2, length-append cs (record { line = lines + 1; what = w } ∷ []));
      numbered = ap (count_on 4) (map-push (λ c. c.line) cs (record { line = lines + 1; what = w }))
          ∙ count_on-push 4 (map (λ c. c.line) cs) (lines + 1) d.numbered (omega (arith, d.number, body_length_is h cs, length_map (λ c. c.line) cs));
      asked = no_asks_numbered cs2 qs none;
      no_commands = λ e. absurd (never e);
      no_asks = λ e. none;
    }

tail_more : (h : Header) (lines : ℕ) (cs : List Command) (qs : List Ask) (w : AskWhat) → IsDraft (Tail h) lines cs qs
    → IsDraft (Tail h) (lines + 1) cs (qs ++ record { line = lines + 1; what = w } ∷ [])
tail_more h lines cs qs w d =
    let qs2 = qs ++ record { line = lines + 1; what = w } ∷ [] in
    record {
      number = omega (arith, d.number, tail_length_is h cs qs, tail_length_is h cs qs2, length-append qs (record { line = lines + 1; what = w } ∷ []));
      numbered = d.numbered;
      asked = ap (count_on (5 + length cs)) (map-push (λ a. a.line) qs (record { line = lines + 1; what = w }))
          ∙ count_on-push (5 + length cs) (map (λ a. a.line) qs) (lines + 1) d.asked (omega (arith, d.number, tail_length_is h cs qs, length_map (λ a. a.line) qs));
      no_commands = λ e. absurd (never e);
      no_asks = λ e. absurd (never (sym e));
    }

empty : {A : Type 0} (xs : List A) → xs ≡ [] → length xs ≡ 0
empty xs e = ap length e

pub draft_more : (stage : Stage) (forks : List Side) (lines : ℕ) (l : Line) (cs : List Command) (qs : List Ask) → IsDraft stage lines cs qs → IsTrue (may_stand (keyword_of l) (place_of stage forks))
    → IsDraft (stage_behind l stage) (lines + 1) (commands_behind stage (lines + 1) l cs) (asks_behind stage (lines + 1) l qs)
draft_more Format forks lines (form.Format name levels) cs qs d e =
    record { number = omega (arith, d.number); numbered = d.numbered; asked = d.asked; no_commands = λ f. d.no_commands refl; no_asks = λ f. d.no_asks refl }
draft_more (Frames format levels) forks lines (form.Frames frames) cs qs d e =
    record { number = omega (arith, d.number); numbered = d.numbered; asked = d.asked; no_commands = λ f. d.no_commands refl; no_asks = λ f. d.no_asks refl }
draft_more (Hold format levels frames) forks lines (form.Hold hold) cs qs d e =
    let h : Header = record { format = format; levels = levels; frames = frames; hold = hold } in
    record {
      number = omega (arith, d.number, body_length_is h cs, empty cs (d.no_commands refl));
      numbered = d.numbered;
      asked = d.asked;
      no_commands = λ f. absurd (never f);
      no_asks = λ f. d.no_asks refl;
    }
draft_more (Body h) forks lines (form.Map va pa len prot) cs qs d e = body_more h lines cs qs (what.Map va pa len prot) d
draft_more (Body h) forks lines (form.Unmap va len) cs qs d e = body_more h lines cs qs (what.Unmap va len) d
draft_more (Body h) forks lines (form.Lookup va) cs qs d e = body_more h lines cs qs (what.Lookup va) d
draft_more (Body h) forks lines form.Dump cs qs d e = body_more h lines cs qs what.Dump d
draft_more (Body h) forks lines form.Release cs qs d e = body_more h lines cs qs what.Release d
draft_more (Body h) forks lines (form.Fork at) cs qs d e = body_more h lines cs qs (what.Fork at) d
draft_more (Body h) forks lines form.With cs qs d e = body_more h lines cs qs what.With d
draft_more (Body h) forks lines form.End cs qs d e = body_more h lines cs qs what.End d
draft_more (Body h) forks lines form.Close cs qs d e =
    record {
      number = omega (arith, d.number, body_length_is h cs, tail_length_is h cs qs, empty qs (d.no_asks refl));
      numbered = d.numbered;
      asked = d.asked;
      no_commands = λ f. absurd (never f);
      no_asks = λ f. absurd (never (sym f));
    }
draft_more (Tail h) forks lines (form.Walk va) cs qs d e = tail_more h lines cs qs (asked.Walk va) d
draft_more (Tail h) forks lines form.Census cs qs d e = tail_more h lines cs qs asked.Census d
draft_more (Tail h) forks lines form.End cs qs d e =
    record {
      number = omega (arith, d.number, tail_length_is h cs qs, over_length_is h cs qs);
      numbered = d.numbered;
      asked = d.asked;
      no_commands = λ f. absurd (never f);
      no_asks = λ f. absurd (never (sym f));
    }
draft_more (Over h) forks lines l cs qs d e = absurd (never (sym (over_stops l) ∙ e))
draft_more stage forks lines l cs qs d e = absurd (never e)

pub draft_behind : (stage : Stage) (forks : List Side) (lines : ℕ) (l : Line) (cs : List Command) (qs : List Ask) → IsDraft stage lines cs qs → IsTrue (may_stand (keyword_of l) (place_of stage forks))
    → (stage2 : Stage) (number lines2 : ℕ) (cs2 : List Command) (qs2 : List Ask) → stage2 ≡ stage_behind l stage → number ≡ lines + 1 → lines2 ≡ lines + 1
    → cs2 ≡ commands_behind stage number l cs → qs2 ≡ asks_behind stage number l qs → IsDraft stage2 lines2 cs2 qs2
draft_behind stage forks lines l cs qs d e stage2 number lines2 cs2 qs2 s n m f g =
    let more = draft_more stage forks lines l cs qs d e in
    let a = subst (λ t. IsDraft t (lines + 1) (commands_behind stage (lines + 1) l cs) (asks_behind stage (lines + 1) l qs)) (sym s) more in
    let b = subst (λ k. IsDraft stage2 (lines + 1) (commands_behind stage k l cs) (asks_behind stage k l qs)) (sym n) a in
    let c = subst (λ k. IsDraft stage2 k (commands_behind stage number l cs) (asks_behind stage number l qs)) (sym m) b in
    let h = subst (λ x. IsDraft stage2 lines2 x (asks_behind stage number l qs)) (sym f) c in
    subst (λ x. IsDraft stage2 lines2 cs2 x) (sym g) h
