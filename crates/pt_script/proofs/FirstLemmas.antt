-- The lines before a bad line begin a script.
use Rattle.std.proofs.Common.{◌≡◌, ℕ, List, ◌∷◌, ◌++◌, refl, sym, ◌∙◌}
use Rattle.std.proofs.lemmas.List.Folds.{list_all-append}
use Rattle.pt_model.specs.Numbers.{decimal, hexadecimal, HasOneNumber}
use Rattle.pt_script.specs.declared.error.Reason.{Reason}
use Rattle.pt_script.specs.declared.error.Reason.TheVariants as reasons
use Rattle.pt_script.specs.Grammar.{Over, State, is_taken}
use Rattle.pt_script.specs.Lines.{is_stated}
use Rattle.pt_script.specs.Text.{script_text, all_stated, IsBadAt, IsRefused, StopsAt}
use Rattle.pt_script.specs.First.{IsFirst}
use Rattle.pt_script.proofs.Steps.{and_true}
use Rattle.pt_script.proofs.Productions.{begun, is_taken_by}
use Rattle.pt_script.proofs.Refused.{bad_is_none}

stops_with : (s : State) (rest : List ℕ) (reason : Reason) → StopsAt s rest reason → (r : IsRefused s rest reason) (tail : List ℕ) → StopsAt s (r.raw ++ 10 ∷ tail) reason
stops_with s rest reasons.Word p r tail = (p.0, record { raw = r.raw; more = tail; cut = refl; one_line = r.one_line; refused = r.refused })
stops_with s rest reasons.Shape p r tail = (p.0, record { raw = r.raw; more = tail; cut = refl; one_line = r.one_line; refused = r.refused })
stops_with s rest reasons.Argument p r tail = (p.0, record { raw = r.raw; more = tail; cut = refl; one_line = r.one_line; refused = r.refused })
stops_with s rest reasons.Limit p r tail = (p.0, record { raw = r.raw; more = tail; cut = refl; one_line = r.one_line; refused = r.refused })
stops_with s rest reasons.After p r tail = absurd r.refused
stops_with s rest reasons.Ended p r tail = absurd r.refused

stops_over : (s : State) (rest : List ℕ) (reason : Reason) → StopsAt s rest reason → reason ≡ reasons.After → s.place ≡ Over
stops_over s rest reasons.After p e = p.0
stops_over s rest reasons.Word p e = cc
stops_over s rest reasons.Shape p e = cc
stops_over s rest reasons.Argument p e = cc
stops_over s rest reasons.Limit p e = cc
stops_over s rest reasons.Ended p e = cc

pub is_first : HasOneNumber decimal → HasOneNumber hexadecimal → (text : List ℕ) (number : ℕ) (reason : Reason) (b : IsBadAt text number reason) → IsFirst text number reason b
is_first d x text number reason b =
    let more = begun b.lines b.state b.reached in
    record {
      begins = (more.0, and_true (all_stated (b.lines ++ more.0)) (is_taken (b.lines ++ more.0)) (list_all-append is_stated b.lines more.0 ∙ and_true (all_stated b.lines) (all_stated more.0) b.stated more.2) more.1);
      refused = λ r tail ls h e.
          let moved : IsBadAt (script_text b.lines ++ (r.raw ++ 10 ∷ tail)) number reason =
          record { lines = b.lines; rest = r.raw ++ 10 ∷ tail; state = b.state; front = refl; place = b.place; stated = b.stated; reached = b.reached; stops = stops_with b.state b.rest reason b.stops r tail } in
          bad_is_none d x (script_text b.lines ++ (r.raw ++ 10 ∷ tail)) number reason moved ls h (sym e);
      over = λ e. and_true (all_stated b.lines) (is_taken b.lines) b.stated (is_taken_by b.lines b.state b.reached (stops_over b.state b.rest reason b.stops e));
    }
