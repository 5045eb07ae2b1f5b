-- The text of a script.
use Rattle.std.specs.Prelude.{◌≡◌, ◌≢◌, ℕ, ◌≤◌, ◌<◌, false, List, IsTrue, count_by}
use Rattle.pt_model.specs.declared.command.Name.TheVariants.{AmdV1}
use Rattle.pt_script.specs.declared.whole.Script.{Script}
use Rattle.pt_script.specs.declared.line.Line.{Line}
use Rattle.pt_script.specs.Lines.{levels_of, frame_limit, is_command, is_dump}
use Rattle.pt_script.specs.Grammar.{IsBody}
use Rattle.pt_script.specs.Numbered.{body_lines, lines_of, has_numbers, has_ask_numbers}
use Rattle.pt_script.specs.Text.{script_text}

-- the lines of a script, from `format` to the last `end`
abbrev pub lines_in : Script → List Line
lines_in s = lines_of s.format s.levels s.frames s.hold s.body s.tail

abbrev pub text_in : Script → List ℕ
text_in s = script_text (lines_in s)

-- What the type of scripts keeps, by the fields.
pub record IsLegal (s : Script) : Type 0 where
  pub some_levels : s.format ≡ AmdV1 → 3 ≤ s.levels
  pub few_levels : s.format ≡ AmdV1 → s.levels ≤ 6
  pub fixed_levels : s.format ≢ AmdV1 → s.levels ≡ levels_of s.format
  pub some_frames : 1 ≤ s.frames
  pub few_frames : s.frames ≤ frame_limit s.format
  pub few_held : s.hold < s.frames
  pub is_body : IsBody false 16 (body_lines s.body)
  pub few_commands : count_by is_command (lines_in s) ≤ 65536
  pub few_dumps : count_by is_dump (lines_in s) ≤ 256
  pub numbered : IsTrue (has_numbers s.body)
  pub tail_numbered : IsTrue (has_ask_numbers s.body s.tail)
