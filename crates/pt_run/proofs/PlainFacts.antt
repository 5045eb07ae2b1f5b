-- Where the run on a shared space is that over one owner.
use Rattle.std.proofs.Common.{◌≡◌, ℕ, List, [], ◌∷◌, ◌++◌, false, refl, ap, ◌∙◌}
use Rattle.std.specs.Prelude.{◌==◌, ◌&&◌}
use Rattle.std.proofs.lemmas.Bool.{and_right, or_from, or_parts}
use Rattle.pt_model.specs.declared.command.Ask.{Ask}
use Rattle.pt_model.specs.declared.command.AskWhat.{AskWhat}
use Rattle.pt_model.specs.declared.command.AskWhat.TheVariants.{Walk, Census}
use Rattle.pt_model.specs.declared.reply.Reply.{Reply}
use Rattle.pt_model.specs.Book.{Book}
use Rattle.pt_model.specs.Run.{Machine, InForks, ask_answer, ask_replies, is_frames, lacked_lines, last_book, new_start, replies_from}
use Rattle.pt_script.specs.declared.whole.Script.{Script}
use Rattle.pt_script.specs.Numbered.{body_lines}
use Rattle.pt_script.specs.Scripts.{IsLegal}
use Rattle.pt_laws.specs.OneText.{IsNested, IsOneText}
use Rattle.pt_forks.proofs.Bodies.{body_nested}
use Rattle.pt_made.specs.Formats.{machine_in}
use Rattle.pt_run.specs.Shared.{IsPlainToo, IsRunShared}

pub nested_body : (s : Script) → IsLegal s → IsNested s.body
nested_body s legal = body_nested false 16 (body_lines s.body) legal.is_body s.body refl

pub plain_too : (s : Script) (replies : List Reply) (run : IsRunShared s replies) → IsOneText (machine_in s) s.body s.tail run.lines →
    IsPlainToo s run.lines replies
plain_too s replies run one = record { empty = one.empty; plain = record { are = run.are ∙ one.same; told = run.told } }

-- What is asked never lacks frames.

calm_one : (m : Machine) (book : Book) (what : AskWhat) → is_frames (ask_answer m book what) ≡ false
calm_one m book (Walk va) = refl
calm_one m book Census = refl

calm_asks : (m : Machine) (book : Book) (asks : List Ask) (line : ℕ) → lacked_lines (ask_replies m book asks) line ≡ false
calm_asks m book [] line = refl
calm_asks m book (a ∷ asks) line = or_from _ _ (and_right (a.line == line) _ (calm_one m book a.what)) (calm_asks m book asks line)

calm_both : (xs ys : List Reply) (line : ℕ) → lacked_lines xs line ≡ false → lacked_lines ys line ≡ false → lacked_lines (xs ++ ys) line ≡ false
calm_both [] ys line e h = h
calm_both (x ∷ xs) ys line e h = let p = or_parts ((x.line == line) && is_frames x.answer) _ e in or_from _ _ p.0 (calm_both xs ys line p.1 h)

pub no_frames : (s : Script) (replies : List Reply) (run : IsRunShared s replies) →
    ((line : ℕ) → lacked_lines (replies_from (machine_in s) (InForks run.lines) (new_start (machine_in s)) s.body) line ≡ false) →
    (line : ℕ) → lacked_lines replies line ≡ false
no_frames s replies run none line =
    ap (λ (rs : List Reply). lacked_lines rs line) run.are
    ∙ calm_both _ _ line (none line) (calm_asks (machine_in s) (last_book (machine_in s) (InForks run.lines) s.body) s.tail line)
