-- The lines read so far, and what is left of the text.
use Rattle.std.proofs.Common.{◌≡◌, ℕ, List, [], ◌∷◌, ◌++◌, Some, None, refl, ap, subst, sym, ◌∙◌, cond, append_assoc}
use Rattle.std.specs.Prelude.{option_and_then, IsTrue}
use Rattle.std.proofs.lemmas.List.Folds.{list_all-append}
use Rattle.pt_model.specs.declared.command.Command.{Command}
use Rattle.pt_model.specs.declared.command.Ask.{Ask}
use Rattle.pt_script.specs.declared.line.Side.{Side}
use Rattle.pt_script.specs.declared.line.Line.{Line}
use Rattle.pt_script.specs.declared.stage.Stage.{Stage}
use Rattle.pt_script.specs.Lines.{keyword_of, text_of, is_stated}
use Rattle.pt_script.specs.Grammar.{State, start, may_stand, is_within, moved, next, after}
use Rattle.pt_script.specs.Text.{script_text, all_stated}
use Rattle.pt_script.specs.Progress.{state_of}
use Rattle.pt_script.specs.Draft.{lines_at, IsDraft}
use Rattle.pt_script.proofs.Steps.{and_true, after-append}

pub script_text-append : (ls ms : List Line) → script_text (ls ++ ms) ≡ script_text ls ++ script_text ms
script_text-append [] ms = refl
script_text-append (l ∷ ls) ms = ap (λ r. text_of l ++ 10 ∷ r) (script_text-append ls ms) ∙ sym (append_assoc (text_of l) (10 ∷ script_text ls) (script_text ms))

-- the text, cut behind the lines that were read
pub record Read (text : List ℕ) (lines : List Line) (rest : List ℕ) (s : State) : Type 0 where
  pub front : text ≡ script_text lines ++ rest
  pub stated : IsTrue (all_stated lines)
  pub reached : after start lines ≡ Some s

pub record Parsed (text : List ℕ) (stage : Stage) (forks : List Side) (commands dumps lines : ℕ) (cs : List Command) (qs : List Ask) (rest : List ℕ) : Type 0 where
  pub read : Read text (lines_at stage cs qs) rest (state_of stage forks commands dumps)
  pub draft : IsDraft stage lines cs qs

takes_line : (l : Line) (s : State) → IsTrue (may_stand (keyword_of l) s.place) → IsTrue (is_within l s) → next l s ≡ Some (moved l s)
takes_line l s a b = ap (λ t. cond t (Some (moved l s)) None) (and_true _ _ a b)

pub read_more : (text : List ℕ) (lines : List Line) (rest more : List ℕ) (s : State) (l : Line) → Read text lines rest s → rest ≡ text_of l ++ 10 ∷ more
    → IsTrue (is_stated l) → IsTrue (may_stand (keyword_of l) s.place) → IsTrue (is_within l s) → Read text (lines ++ l ∷ []) more (moved l s)
read_more text lines rest more s l p cut stated stands within = record {
  front = p.front ∙ ap (λ r. script_text lines ++ r) cut
      ∙ sym (ap (λ r. r ++ more) (script_text-append lines (l ∷ [])) ∙ append_assoc (script_text lines) (script_text (l ∷ [])) more ∙ ap (λ r. script_text lines ++ r) (append_assoc (text_of l) (10 ∷ []) more));
  stated = list_all-append is_stated lines (l ∷ []) ∙ and_true _ _ p.stated (and_true _ _ stated refl);
  reached = after-append lines (l ∷ []) start ∙ ap (option_and_then (λ q. after q (l ∷ []))) p.reached
      ∙ ap (option_and_then (λ q. after q [])) (takes_line l s stands within);
}

pub read_is : (text : List ℕ) (ls ms : List Line) (rest : List ℕ) (s t : State) → Read text ls rest s → ls ≡ ms → s ≡ t → Read text ms rest t
read_is text ls ms rest s t r e f = subst (λ x. Read text ms rest x) f (subst (λ x. Read text x rest s) e r)
