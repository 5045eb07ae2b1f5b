-- The summary of the replies to a made script: five lines.
use Rattle.std.specs.Prelude.{ℕ, ◌+◌, Bool, true, false, List, [], ◌∷◌, ◌++◌, length, codes}
use Rattle.std.specs.List.{count_by}
use Rattle.pt_model.specs.Numbers.{decimal}
use Rattle.pt_model.specs.Text.{census_text}
use Rattle.pt_model.specs.declared.reply.MapAnswer.TheVariants as mapping
use Rattle.pt_model.specs.declared.reply.UnmapAnswer.TheVariants as unmapping
use Rattle.pt_model.specs.declared.reply.LookupAnswer.TheVariants as looking
use Rattle.pt_model.specs.declared.reply.Answer.{Answer}
use Rattle.pt_model.specs.declared.reply.Answer.TheVariants as answer
use Rattle.pt_model.specs.declared.reply.Reply.{Reply}
use Rattle.pt_script.specs.declared.whole.Script.{Script}
use Rattle.pt_script.specs.Lines.{name_text}
use Rattle.pt_script.specs.Scripts.{lines_in}
use Rattle.pt_made.specs.declared.summary.Counted.{Counted}
use Rattle.pt_made.specs.declared.summary.Counted.TheVariants.{Mapped, Occupied, Unmapped, Cut, Found, Nothing}

-- whether an answer is one of a kind that is counted
abbrev pub is_counted : Counted → Answer → Bool
is_counted Mapped (answer.Map mapping.Mapped) = true
is_counted Occupied (answer.Map (mapping.Occupied address)) = true
is_counted Unmapped (answer.Unmap (unmapping.Unmapped pages)) = true
is_counted Cut (answer.Unmap (unmapping.Cuts block)) = true
is_counted Found (answer.Lookup (looking.Found out prot)) = true
is_counted Nothing (answer.Lookup looking.Nothing) = true
is_counted _ _ = false

abbrev pub count_of : Counted → List Reply → ℕ
count_of kind replies = count_by (λ r. is_counted kind r.answer) replies

-- the pages that an unmap removed, and those that all of them did
abbrev pub pages_of : Answer → ℕ
pages_of (answer.Unmap (unmapping.Unmapped pages)) = pages
pages_of _ = 0

abbrev pub pages_unmapped : List Reply → ℕ
pages_unmapped [] = 0
pages_unmapped (r ∷ rs) = pages_of r.answer + pages_unmapped rs

-- the census that was asked for, without the number of its line
abbrev pub census_line : Answer → List ℕ
census_line (answer.Census c) = census_text c ++ codes "\n"
census_line _ = []

abbrev pub census_lines : List Reply → List ℕ
census_lines [] = []
census_lines (r ∷ rs) = census_line r.answer ++ census_lines rs

abbrev pub head_line : (number : ℕ) → Script → List ℕ
head_line number s =
    codes "made " ++ decimal number ++ codes " format " ++ name_text s.format
    ++ codes " lines " ++ decimal (length (lines_in s)) ++ codes "\n"

abbrev pub maps_line : List Reply → List ℕ
maps_line replies =
    codes "maps ok " ++ decimal (count_of Mapped replies) ++ codes " occupied " ++ decimal (count_of Occupied replies) ++ codes "\n"

abbrev pub unmaps_line : List Reply → List ℕ
unmaps_line replies =
    codes "unmaps ok " ++ decimal (count_of Unmapped replies) ++ codes " cuts " ++ decimal (count_of Cut replies)
    ++ codes " pages " ++ decimal (pages_unmapped replies) ++ codes "\n"

abbrev pub lookups_line : List Reply → List ℕ
lookups_line replies =
    codes "lookups found " ++ decimal (count_of Found replies) ++ codes " none " ++ decimal (count_of Nothing replies) ++ codes "\n"

abbrev pub summary : (number : ℕ) → Script → List Reply → List ℕ
summary number s replies =
    head_line number s ++ (maps_line replies ++ (unmaps_line replies ++ (lookups_line replies ++ census_lines replies)))
