-- The texts of scripts, and where a text stops being one.
use Rattle.std.specs.Prelude.{◌≡◌, ◌≢◌, ℕ, ◌+◌, ◌<◌, Bool, List, [], ◌∷◌, ◌++◌, length, Some, ◌==◌, codes, IsTrue, get_or}
use Rattle.std.specs.List.{slice_split, position_or_len, list_all}
use Rattle.pt_script.specs.declared.line.Keyword.{Keyword}
use Rattle.pt_script.specs.declared.line.Keyword.TheVariants.{Format, Frames, Hold, Map, Unmap, Lookup, Fork, Walk}
use Rattle.pt_script.specs.declared.line.Line.{Line}
use Rattle.pt_script.specs.declared.error.Reason.{Reason}
use Rattle.pt_script.specs.declared.error.Reason.TheVariants.{Ended, Word, Shape, Argument, Limit, After}
use Rattle.pt_script.specs.declared.error.ScriptError.{ScriptError}
use Rattle.pt_script.specs.declared.error.ScriptError.TheVariants.{Bad, Memory}
use Rattle.pt_script.specs.Lines.{keyword_of, keyword_text, text_of, is_stated}
use Rattle.pt_script.specs.Grammar.{Place, Over, State, start, may_stand, is_within, after}

-- each line ends with one line feed
abbrev pub script_text : List Line → List ℕ
script_text [] = []
script_text (l ∷ ls) = text_of l ++ 10 ∷ script_text ls

-- the pieces of a line between single spaces
abbrev pub words : List ℕ → List (List ℕ)
words raw = slice_split (λ b. b == 32) raw

-- word number `i` of a line, counted from 0, or nothing
abbrev pub word : ℕ → List ℕ → List ℕ
word i raw = get_or (words raw) i []

-- no line ends in these bytes
abbrev pub HasNoLine : List ℕ → Type 0
HasNoLine bytes = position_or_len (λ b. b == 10) bytes ≡ length bytes

-- The shape of a line: how many words it has.

abbrev pub words_of : Keyword → ℕ
words_of Frames = 2
words_of Hold = 2
words_of Map = 5
words_of Unmap = 3
words_of Lookup = 2
words_of Fork = 2
words_of Walk = 2
words_of _ = 1

-- a format line has four words, the third `levels`, where the second is `amdv1`, and otherwise two
pub record HasFormatShape (raw : List ℕ) : Type 0 where
  pub growing : word 1 raw ≡ codes "amdv1" → length (words raw) ≡ 4
  pub levels : word 1 raw ≡ codes "amdv1" → word 2 raw ≡ codes "levels"
  pub fixed : word 1 raw ≢ codes "amdv1" → length (words raw) ≡ 2

-- the same of what follows the first word
pub record IsFormatRest (rest : List ℕ) : Type 0 where
  pub growing : word 0 rest ≡ codes "amdv1" → length (words rest) ≡ 3
  pub levels : word 0 rest ≡ codes "amdv1" → word 1 rest ≡ codes "levels"
  pub fixed : word 0 rest ≢ codes "amdv1" → length (words rest) ≡ 1

abbrev pub HasShape : Keyword → List ℕ → Type 0
HasShape Format raw = HasFormatShape raw
HasShape keyword raw = length (words raw) ≡ words_of keyword

-- Reasons.

-- the first word is this one, and may stand at the place
pub record Begins (place : Place) (raw : List ℕ) (keyword : Keyword) : Type 0 where
  pub first : word 0 raw ≡ keyword_text keyword
  pub stands : IsTrue (may_stand keyword place)

-- why no script has this line behind the lines before it
abbrev pub Refuses : State → (raw : List ℕ) → Reason → Type 0
Refuses s raw Word = (k : Keyword) → ¬ Begins s.place raw k
Refuses s raw Shape = (k : Keyword) × Begins s.place raw k × ¬ HasShape k raw
Refuses s raw Argument = (k : Keyword) × Begins s.place raw k × HasShape k raw × ((l : Line) → IsTrue (is_stated l) → keyword_of l ≡ k → raw ≢ text_of l)
Refuses s raw Limit = (l : Line) × (raw ≡ text_of l) × IsTrue (is_stated l) × IsTrue (may_stand (keyword_of l) s.place) × ¬ IsTrue (is_within l s)
Refuses s raw _ = ⊥

-- the bytes begin with a line, and that line is refused
pub record IsRefused (s : State) (bytes : List ℕ) (reason : Reason) : Type 0 where
  pub raw : List ℕ
  pub more : List ℕ
  pub cut : bytes ≡ raw ++ 10 ∷ more
  pub one_line : HasNoLine raw
  pub refused : Refuses s raw reason

-- why no script goes on with these bytes
abbrev pub StopsAt : State → (bytes : List ℕ) → Reason → Type 0
StopsAt s bytes After = (s.place ≡ Over) × (0 < length bytes)
StopsAt s bytes Ended = (s.place ≢ Over) × HasNoLine bytes
StopsAt s bytes reason = (s.place ≢ Over) × IsRefused s bytes reason

abbrev pub all_stated : List Line → Bool
all_stated ls = list_all is_stated ls

-- The lines before this one are taken, and at this one the text stops, for this reason.
pub record IsBadAt (text : List ℕ) (number : ℕ) (reason : Reason) : Type 0 where
  pub lines : List Line
  pub rest : List ℕ
  pub state : State
  pub front : text ≡ script_text lines ++ rest
  pub place : number ≡ length lines + 1
  pub stated : IsTrue (all_stated lines)
  pub reached : after start lines ≡ Some state
  pub stops : StopsAt state rest reason

abbrev pub IsErrorOf : (text : List ℕ) → ScriptError → Type 0
IsErrorOf text Memory = Unit {0}
IsErrorOf text (Bad number reason) = IsBadAt text number reason
