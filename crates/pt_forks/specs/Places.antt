-- Where an owner of a whole space stands in a run.
use Rattle.std.specs.Prelude.{◌≡◌, ℕ, Bool, List, [], ◌∷◌, find, None}
use Rattle.pt_model.specs.declared.command.What.{What}
use Rattle.pt_model.specs.Pages.{page_under}
use Rattle.pt_model.specs.Book.{Book, span_end}
use Rattle.pt_model.specs.Cuts.{crosses, spanning}
use Rattle.pt_model.specs.Run.{Machine, Opened, Cut, ByAccount, is_lacking}
use Rattle.pt_laws.specs.Goes.{in_forks}
use Rattle.pt_script.specs.declared.line.Side.{Side}
use Rattle.pt_script.specs.declared.line.Side.TheVariants.{Left, Right}

pub record Place : Type 0 where
  pub machine : Machine
  -- its span is the present one; its blocks, tables and top are those of the whole space
  pub book : Book
  -- the cuts in whose parts the owner stands, the innermost first
  pub cuts : List Opened

-- the same machine in the same cuts
pub record StaysIn (old new : Place) : Type 0 where
  pub machine : new.machine ≡ old.machine
  pub cuts : new.cuts ≡ old.cuts

-- whether the account of the whole book is short
abbrev pub account_says : Place → What → Bool
account_says p what = is_lacking p.machine ByAccount (in_forks p.book []) 0 what

abbrev pub side_book : Place → (at : ℕ) → Side → Book
side_book p at Left = spanning p.book p.book.first (page_under p.machine.layout at)
side_book p at Right = spanning p.book (page_under p.machine.layout at) (span_end p.book)

abbrev pub cut_by : Place → (at : ℕ) → Opened
cut_by p at = Cut p.book.first (page_under p.machine.layout at) (span_end p.book)

-- in a part of the span, which is cut at an address
abbrev pub narrowed : Place → (at : ℕ) → Side → Place
narrowed p at side = record p { book = side_book p at side; cuts = cut_by p at ∷ p.cuts }

-- out of the innermost cut, which no block crosses
abbrev pub IsWidened : (old new : Place) → Type 0
IsWidened old new = elim old.cuts as (λ _. Type 0) [
  | Cut first at last ∷ cuts ↦
      (new ≡ record old { book = spanning old.book first last; cuts = cuts }) × (find (crosses at) old.book.blocks ≡ None)
  | other ↦ Unit {0}
]
