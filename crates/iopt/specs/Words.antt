-- The command lines that the program accepts: `run`, `run --plain`, `save`, `resume`, and `make` with a number below 2 ^ 64.
use Rattle.std.specs.Prelude.{◌≡◌, ◌⊎◌, ℕ, ◌<◌, ◌^◌, List, [], ◌∷◌, Option, None, Some, codes}
use Rattle.pt_model.specs.Numbers.{decimal}
use Rattle.iopt.specs.declared.words.Product.{Product}
use Rattle.iopt.specs.declared.words.Product.TheVariants.{Beside, InTurn, Image}
use Rattle.iopt.specs.declared.words.Task.{Task}
use Rattle.iopt.specs.declared.words.Task.TheVariants.{Run, Make, Resume}

-- the words that ask that a script be read, and that this be put for it
abbrev pub run_words : Product → List (List ℕ)
run_words Beside = codes "run" ∷ []
run_words InTurn = codes "run" ∷ codes "--plain" ∷ []
run_words Image = codes "save" ∷ []

-- the words ask that a script be read, and that this be put for it
abbrev pub AskToRunBy : List (List ℕ) → Product → Type 0
AskToRunBy words product = words ≡ run_words product

-- the words ask that a script be read
abbrev pub AskToRun : List (List ℕ) → Type 0
AskToRun words = (product : Product) × AskToRunBy words product

-- the words ask that an image be read, and a script behind it
abbrev pub AskToResume : List (List ℕ) → Type 0
AskToResume words = words ≡ codes "resume" ∷ []

-- the words ask that the script of a number be made and run
pub record AskToMake (words : List (List ℕ)) (number : ℕ) : Type 0 where
  pub fits : number < 2 ^ 64
  pub words_are : words ≡ codes "make" ∷ decimal number ∷ []

-- the words ask that something be read
abbrev pub AskToRead : List (List ℕ) → Type 0
AskToRead words = AskToRun words ⊎ AskToResume words

abbrev pub IsAccepted : List (List ℕ) → Type 0
IsAccepted words = AskToRead words ⊎ ((number : ℕ) × AskToMake words number)

-- what the words ask for, if anything
abbrev pub AskFor : List (List ℕ) → Option Task → Type 0
AskFor words None = ¬ IsAccepted words
AskFor words (Some (Run product)) = AskToRunBy words product
AskFor words (Some (Make number)) = AskToMake words number
AskFor words (Some Resume) = AskToResume words
