-- The parts that a made script is put together of make a script, and the made one.
use Rattle.std.proofs.Common.{◌≡◌, ℕ, ◌+◌, ◌-◌, ◌^◌, ◌<◌, ◌≤◌, true, List, length, refl, ap, subst, sym, ◌∙◌, arith}
use Rattle.std.specs.Prelude.{IsTrue, ◌==◌}
use Rattle.std.proofs.lemmas.Bool.{and_from, eq-eqb}
use Rattle.std.proofs.lemmas.Nat.{pow_pos}
use Rattle.std.proofs.Math.Pow.{pow_mono}
use Rattle.pt_model.specs.declared.command.Name.{Name}
use Rattle.pt_model.specs.declared.command.Command.{Command}
use Rattle.pt_model.specs.declared.command.Ask.{Ask}
use Rattle.pt_model.specs.Layout.{Layout}
use Rattle.pt_format.specs.Laws.{IsLayout}
use Rattle.pt_script.specs.Lines.{levels_of, frame_limit, are_stated_levels}
use Rattle.pt_script.specs.Grammar.{IsTheGrammar}
use Rattle.pt_script.specs.Numbered.{lines_of, is_lawful, has_numbers, has_ask_numbers}
use Rattle.pt_laws.specs.Need.{need}
use Rattle.pt_names.specs.Names.{layout_of}
use Rattle.pt_made.specs.Formats.{machine_of}
use Rattle.pt_made.specs.Needing.{machine}
use Rattle.pt_made.specs.Made.{whats, body_on, tail_behind}
use Rattle.pt_made.proofs.Names.{numbers_of}
use Rattle.pt_made.proofs.Lawful.{made_is_lawful, numbers_count_on}
use Rattle.pt_made.proofs.Bound.{made_need}

pub record IsGenerated (number : ℕ) (name : Name) (levels frames hold : ℕ) (body : List Command) (tail : List Ask) : Type 0 where
  pub lawful : IsTrue (is_lawful (lines_of name levels frames hold body tail))
  pub numbered : IsTrue (has_numbers body)
  pub tail_numbered : IsTrue (has_ask_numbers body tail)
  pub levels_are : levels ≡ levels_of name
  pub frames_are : frames ≡ frame_limit name
  pub hold_is : hold ≡ need (machine_of name levels frames) body
  pub body_is : body ≡ body_on (layout_of name) number

module _ {f : Layout} (good : IsLayout f) (number : ℕ) (name : Name) (layout : layout_of name ≡ f) (levels frames hold : ℕ) (body : List Command) (tail : List Ask)
    (start : levels ≡ f.start) (limit : frames ≡ 2 ^ (27 - f.granule)) (held : hold ≡ need (machine f levels frames) body)
    (body_made : body ≡ body_on f number) (tail_made : tail ≡ tail_behind body) where
  levels_are : levels ≡ levels_of name
  levels_are = start ∙ ap (λ (g : Layout). g.start) (sym layout) ∙ sym (numbers_of name).levels

  frames_are : frames ≡ frame_limit name
  frames_are = limit ∙ ap (λ (g : Layout). 2 ^ (27 - g.granule)) (sym layout) ∙ sym (numbers_of name).frames

  levels_low : 3 ≤ levels
  levels_low = let low = good.start_low in omega arith

  levels_high : levels ≤ 6
  levels_high = let a = good.start_high in let b = good.levels_high in omega arith

  pub hold_below : hold < frames
  hold_below =
      omega (arith, made_need (machine f levels frames) good levels_low levels_high number, ap (λ (cs : List Command). need (machine f levels frames) cs) body_made)

  pub frames_few : frames ≤ 2 ^ 27
  frames_few = let less : 27 - f.granule ≤ 27 = omega arith in let more : 2 ^ (27 - f.granule) ≤ 2 ^ 27 = pow_mono less in omega arith

  lawful_body : IsTheGrammar → IsTrue (is_lawful (lines_of name levels frames hold (body_on f number) (tail_behind (body_on f number))))
  lawful_body grammar =
      made_is_lawful good number name levels frames hold
      (subst (λ (n : ℕ). are_stated_levels name n ≡ true) (sym levels_are) (numbers_of name).stated)
      (λ e. levels_low) (λ e. levels_high) (omega (arith, pow_pos (27 - f.granule))) (omega (arith, frames_are)) (omega (arith, frames_few)) hold_below grammar

  pub generated : IsTheGrammar → IsGenerated number name levels frames hold body tail
  generated grammar = record {
    lawful = subst (λ (cs : List Command). IsTrue (is_lawful (lines_of name levels frames hold cs tail))) (sym body_made)
        (subst (λ (asks : List Ask). IsTrue (is_lawful (lines_of name levels frames hold (body_on f number) asks)))
        (sym (tail_made ∙ ap tail_behind body_made)) (lawful_body grammar));
    numbered = subst (λ (cs : List Command). IsTrue (has_numbers cs)) (sym body_made) (numbers_count_on 4 (whats f number));
    tail_numbered = subst (λ (asks : List Ask). IsTrue (has_ask_numbers body asks)) (sym tail_made)
        (and_from (5 + length body == 5 + length body) true (eq-eqb (5 + length body) (5 + length body) refl) refl);
    levels_are = levels_are;
    frames_are = frames_are;
    hold_is = held ∙ ap (λ (g : Layout). need (machine g levels frames) body) (sym layout);
    body_is = body_made ∙ ap (λ (g : Layout). body_on g number) (sym layout);
  }
