-- How a run of the program ends: the exit status, and the line on standard error.
use Rattle.std.specs.Prelude.{ℕ, List, [], ◌++◌, codes}
use Rattle.pt_model.specs.Numbers.{decimal}
use Rattle.pt_script.specs.declared.error.Reason.{Reason}
use Rattle.pt_script.specs.declared.error.Reason.TheVariants.{Ended, Word, Shape, Argument, Limit, After}
use Rattle.iopt.specs.declared.status.Status.{Status}
use Rattle.iopt.specs.declared.status.Status.TheVariants.{Done, Usage, Refused, TooLong, ReadFault, WriteFault, Memory, Image, Differs}
use Rattle.pt_image.specs.declared.fault.ImageFault.{ImageFault}
use Rattle.pt_image.specs.declared.fault.ImageFault.TheVariants.{Truncated, Header, Root, Entry, Stray}

abbrev pub exit_code : Status → ℕ
exit_code Done = 0
exit_code Usage = 2
exit_code (Refused line reason) = 3
exit_code TooLong = 3
exit_code ReadFault = 4
exit_code WriteFault = 5
exit_code Memory = 6
exit_code (Image fault) = 3
exit_code (Differs line) = 3

abbrev pub reason_text : Reason → List ℕ
reason_text Ended = codes "ended"
reason_text Word = codes "word"
reason_text Shape = codes "shape"
reason_text Argument = codes "argument"
reason_text Limit = codes "limit"
reason_text After = codes "after"

abbrev pub fault_text : ImageFault → List ℕ
fault_text (Truncated have want) = codes "truncated"
fault_text (Header offset) = codes "header"
fault_text Root = codes "root"
fault_text (Entry level base index fault) = codes "entry"
fault_text (Stray frame index) = codes "stray"

abbrev pub status_line : Status → List ℕ
status_line Done = []
status_line Usage = codes "bad words"
status_line (Refused line reason) = codes "refused at line " ++ decimal line ++ codes ": " ++ reason_text reason
status_line TooLong = codes "input too long"
status_line ReadFault = codes "read fault"
status_line WriteFault = codes "write fault"
status_line Memory = codes "out of memory"
status_line (Image fault) = codes "bad image: " ++ fault_text fault
status_line (Differs line) = codes "script differs at line " ++ decimal line
