-- The books of a lease at rest, of the parts that it is split into, and of two that are joined: those of the book machine.
use Rattle.std.specs.Prelude.{◌≡◌, ℕ, ◌<◌, ◌≤◌, length, All, false}
use Rattle.pt_model.specs.Layout.{Layout}
use Rattle.pt_model.specs.Book.{Book, span_end}
use Rattle.pt_model.specs.Cuts.{crosses, joined, part_of}
use Rattle.pt_view.specs.declared.view.View.{View}
use Rattle.pt_view.specs.Views.{IsAtRest, book_of}

-- a view is at rest, and this is its book
pub record RestsWith (f : Layout) (v : View) (book : Book) : Type 0 where
  pub at_rest : IsAtRest f v book.blocks
  pub is : book_of v book.blocks ≡ book

-- when a view with this book may be split at a page: both sides have a page, no block is on both, and the purse has the frames
pub record MaySplitBook (at kept : ℕ) (v : View) (book : Book) : Type 0 where
  pub low : book.first < at
  pub high : at < span_end book
  pub uncrossed : All (λ b. crosses at b ≡ false) book.blocks
  pub frames : kept ≤ length v.purse

-- each of two views rests with its part of the book that the view which was split rested with
pub record SplitsBook (f : Layout) (at : ℕ) (v left right : View) : Type 0 where
  pub left_book : (book : Book) → RestsWith f v book → RestsWith f left (part_of f book book.first at)
  pub right_book : (book : Book) → RestsWith f v book → RestsWith f right (part_of f book at (span_end book))

-- one view rests with the book of the two that rested side by side
abbrev pub JoinsBooks : Layout → (left right both : View) → Type 0
JoinsBooks f left right both = (low high : Book) → RestsWith f left low → RestsWith f right high → RestsWith f both (joined low high)
