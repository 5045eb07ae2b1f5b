-- What the fields of a script keep.
use Rattle.std.proofs.Common.{◌≡◌, ◌≢◌, ℕ, suc, ◌≤◌, Bool, true, false, List, [], ◌∷◌, ◌++◌, refl, subst, sym, ◌∙◌, arith, append_assoc}
use borrow.Author.Tests.{eqb-true}
use Rattle.pt_model.specs.declared.command.Name.{Name}
use Rattle.pt_model.specs.declared.command.Name.TheVariants.{AmdV1, VtdSs3, VtdSs4, VtdSs5, X86L4, X86L5, Vmsa4, Vmsa16, Vmsa64, Sv39, Sv48, Sv57}
use Rattle.pt_model.specs.declared.command.Command.{Command}
use Rattle.pt_script.specs.declared.line.Line.{Line}
use Rattle.pt_script.specs.declared.line.Line.TheVariants as form
use Rattle.pt_script.specs.declared.whole.Script.{Script}
use Rattle.pt_script.specs.Lines.{levels_of, frame_limit, command_line, are_stated_levels}
use Rattle.pt_script.specs.Grammar.{IsBody, is_taken}
use Rattle.pt_script.specs.Text.{all_stated}
use Rattle.pt_script.specs.Numbered.{body_lines, tail_lines}
use Rattle.pt_script.specs.Scripts.{lines_in, IsLegal}
use Rattle.pt_script.proofs.Steps.{both}
use Rattle.pt_script.proofs.Productions.{made}
use Rattle.pt_script.proofs.PrintLemmas.{not_close, head_same, header_same}

fixed : (name : Name) (levels : ℕ) → are_stated_levels name levels ≡ true → name ≢ AmdV1 → levels ≡ levels_of name
fixed AmdV1 levels h n = absurd (n refl)
fixed VtdSs3 levels h n = eqb-true levels _ h
fixed VtdSs4 levels h n = eqb-true levels _ h
fixed VtdSs5 levels h n = eqb-true levels _ h
fixed X86L4 levels h n = eqb-true levels _ h
fixed X86L5 levels h n = eqb-true levels _ h
fixed Vmsa4 levels h n = eqb-true levels _ h
fixed Vmsa16 levels h n = eqb-true levels _ h
fixed Vmsa64 levels h n = eqb-true levels _ h
fixed Sv39 levels h n = eqb-true levels _ h
fixed Sv48 levels h n = eqb-true levels _ h
fixed Sv57 levels h n = eqb-true levels _ h

-- No `close` stands in a body.
abbrev NoClose : List Line → Type 0
NoClose [] = Unit {0}
NoClose (l ∷ ls) = (l ≢ form.Close) × NoClose ls

closed_by : (xs ys : List Line) → NoClose xs → NoClose ys → NoClose (xs ++ ys)
closed_by [] ys n m = m
closed_by (x ∷ xs) ys n m = (n.0, closed_by xs ys n.1 m)

no_close : (inside : Bool) (room : ℕ) (ls : List Line) → IsBody inside room ls → NoClose ls
no_close _ _ _ (IsBody.nothing inside room) = tt
no_close _ _ _ (IsBody.map inside room va pa len prot ls b) = ((λ e. cc), no_close inside room ls b)
no_close _ _ _ (IsBody.unmap inside room va len ls b) = ((λ e. cc), no_close inside room ls b)
no_close _ _ _ (IsBody.lookup inside room va ls b) = ((λ e. cc), no_close inside room ls b)
no_close _ _ _ (IsBody.dump inside room ls b) = ((λ e. cc), no_close inside room ls b)
no_close _ _ _ (IsBody.release room ls b) = ((λ e. cc), no_close false room ls b)
no_close _ _ _ (IsBody.fork inside room at left right ls l r b) =
    let end : NoClose (form.End ∷ ls) = ((λ e. cc), no_close inside (suc room) ls b) in
    let middle : NoClose (form.With ∷ right) = ((λ e. cc), no_close true room right r) in
    ((λ e. cc), closed_by (left ++ form.With ∷ right) (form.End ∷ ls) (closed_by left (form.With ∷ right) (no_close true room left l) middle) end)

same_body : (b : List Command) (x r q : List Line) → NoClose x → body_lines b ++ form.Close ∷ r ≡ x ++ form.Close ∷ q → body_lines b ≡ x
same_body [] [] r q n e = refl
same_body [] (y ∷ x) r q n e = absurd (n.0 (sym (head_same form.Close y r (x ++ form.Close ∷ q) e).0))
same_body (c ∷ b) [] r q n e = absurd (not_close c.what (head_same (command_line c.what) form.Close (body_lines b ++ form.Close ∷ r) q e).0)
same_body (c ∷ b) (y ∷ x) r q n e =
    let h = head_same (command_line c.what) y (body_lines b ++ form.Close ∷ r) (x ++ form.Close ∷ q) e in
    let more = same_body b x r q n.1 h.1 in
    let first = h.0 in
    (λ i. first i ∷ more i)

pub legal_script : (s : Script) → IsLegal s
legal_script s =
    let a = both (all_stated (lines_in s)) (is_taken (lines_in s)) s.lawful in
    let g = made (lines_in s) a.1 in
    let h = header_same _ _ _ _ _ _ _ _ g.whole in
    let format : s.format ≡ g.format = let f : form.Format s.format s.levels ≡ form.Format g.format g.levels = h.0 in cc in
    let levels : s.levels ≡ g.levels = let f : form.Format s.format s.levels ≡ form.Format g.format g.levels = h.0 in cc in
    let frames : s.frames ≡ g.frames = let f : form.Frames s.frames ≡ form.Frames g.frames = h.1 in cc in
    let hold : s.hold ≡ g.hold = let f : form.Hold s.hold ≡ form.Hold g.hold = h.2 in cc in
    let lines = sym (append_assoc (body_lines s.body) (form.Close ∷ tail_lines s.tail) (form.End ∷ [])) ∙ h.3 ∙ append_assoc g.body (form.Close ∷ g.tail) (form.End ∷ []) in
    let body = same_body s.body g.body (tail_lines s.tail ++ form.End ∷ []) (g.tail ++ form.End ∷ []) (no_close false 16 g.body g.is_body) lines in
    let first = (both (are_stated_levels s.format s.levels) _ a.0).0 in
    record {
      some_levels = λ e. omega (arith, g.some_levels (sym format ∙ e), levels);
      few_levels = λ e. omega (arith, g.few_levels (sym format ∙ e), levels);
      fixed_levels = fixed s.format s.levels first;
      some_frames = omega (arith, g.some_frames, frames);
      few_frames = subst (λ n. n ≤ frame_limit s.format) (sym frames) (subst (λ f. g.frames ≤ frame_limit f) (sym format) g.few_frames);
      few_held = omega (arith, g.few_held, frames, hold);
      is_body = subst (IsBody false 16) (sym body) g.is_body;
      few_commands = g.few_commands;
      few_dumps = g.few_dumps;
      numbered = s.numbered;
      tail_numbered = s.tail_numbered;
    }
