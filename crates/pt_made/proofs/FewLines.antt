-- How many lines a body has: at most three for each command, since a fork has two more.
use Rattle.std.proofs.Common.{◌≡◌, ℕ, suc, ◌+◌, ◌*◌, ◌≤◌, Bool, true, false, List, [], ◌∷◌, ◌++◌, length, cond, arith, ap, refl, length-append}
use Rattle.std.specs.Prelude.{count_by}
use Rattle.std.proofs.lemmas.List.{length-map}
use Rattle.pt_script.specs.declared.line.Line.{Line}
use Rattle.pt_script.specs.declared.line.Line.TheVariants as form
use Rattle.pt_script.specs.declared.whole.Script.{Script}
use Rattle.pt_script.specs.Lines.{command_line, is_command}
use Rattle.pt_script.specs.Grammar.{IsBody}
use Rattle.pt_script.specs.Numbered.{body_lines, tail_lines}
use Rattle.pt_script.specs.Scripts.{IsLegal}
use Rattle.pt_script.proofs.Steps.{count_by-append}

one_more : (l : Line) (ls : List Line) → is_command l ≡ true → count_by is_command (l ∷ ls) ≡ 1 + count_by is_command ls
one_more l ls h = omega (arith, count_by-append is_command (l ∷ []) ls, ap (λ (t : Bool). cond t (let one : ℕ = 1 in one) 0) h)

few_lines : (inside : Bool) (room : ℕ) (ls : List Line) → IsBody inside room ls → length ls ≤ 3 * count_by is_command ls
few_lines _ _ _ (IsBody.nothing inside room) = omega arith
few_lines _ _ _ (IsBody.map inside room va pa len prot ls b) = omega (arith, one_more (form.Map va pa len prot) ls refl, few_lines inside room ls b)
few_lines _ _ _ (IsBody.unmap inside room va len ls b) = omega (arith, one_more (form.Unmap va len) ls refl, few_lines inside room ls b)
few_lines _ _ _ (IsBody.lookup inside room va ls b) = omega (arith, one_more (form.Lookup va) ls refl, few_lines inside room ls b)
few_lines _ _ _ (IsBody.dump inside room ls b) = omega (arith, one_more form.Dump ls refl, few_lines inside room ls b)
few_lines _ _ _ (IsBody.release room ls b) = omega (arith, one_more form.Release ls refl, few_lines false room ls b)
few_lines _ _ _ (IsBody.fork inside room at left right ls l r b) =
    omega (
      arith,
      few_lines true room left l,
      few_lines true room right r,
      few_lines inside (suc room) ls b,
      one_more (form.Fork at) left refl,
      length-append ((form.Fork at ∷ left) ++ (form.With ∷ right)) (form.End ∷ ls),
      length-append (form.Fork at ∷ left) (form.With ∷ right),
      count_by-append is_command ((form.Fork at ∷ left) ++ (form.With ∷ right)) (form.End ∷ ls),
      count_by-append is_command (form.Fork at ∷ left) (form.With ∷ right),
      count_by-append is_command (form.With ∷ []) right,
      count_by-append is_command (form.End ∷ []) ls,
    )

pub few_in_script : (s : Script) → IsLegal s → length s.body ≤ 196608
few_in_script s legal =
    let header : List Line = form.Format s.format s.levels ∷ form.Frames s.frames ∷ form.Hold s.hold ∷ [] in
    let body : List Line = body_lines s.body in
    omega (
      arith,
      few_lines false 16 (body_lines s.body) legal.is_body,
      legal.few_commands,
      length-map s.body (λ c. command_line c.what),
      count_by-append is_command ((header ++ body_lines s.body) ++ (form.Close ∷ tail_lines s.tail)) (form.End ∷ []),
      count_by-append is_command (header ++ body_lines s.body) (form.Close ∷ tail_lines s.tail),
      count_by-append is_command header (body_lines s.body),
    )
