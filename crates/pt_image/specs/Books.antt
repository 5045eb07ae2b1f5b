-- The book of an image: what its visited entries say. The image is of n frames, and its space started with l levels.
use Rattle.std.specs.Prelude.{◌≡◌, ◌⊎◌, ◌↔◌, ℕ, ◌%◌, ◌≤◌, false, List, [], ◌∷◌, Some, AllPairs, Contains, IsTrue}
use Rattle.pt_model.specs.declared.block.Block.{Block}
use Rattle.pt_model.specs.declared.position.Position.{Position}
use Rattle.pt_model.specs.Book.{Book}
use Rattle.pt_model.specs.Layout.{Layout, end_of, input_pages}
use Rattle.pt_model.specs.Tables.{child_at, is_before, is_spine}
use Rattle.pt_format.specs.Laws.{IsLayout, WordsDiffer}
use Rattle.pt_format.specs.Manual.{StepsAgree}
use Rattle.pt_view.specs.declared.view.View.{View}
use Rattle.pt_view.specs.Views.{IsAtRest, book_of}
use Rattle.pt_rule.specs.Lawful.{Lawful}
use Rattle.pt_image.specs.Bytes.{root_in}
use Rattle.pt_image.specs.Faults.{HasBlockAt, IsGoodImage, all_visits, target}
use Rattle.pt_image.specs.Order.{Visit}
use Rattle.pt_image.specs.Visits.{HasImage}

-- an entry is one of those that are visited
abbrev pub IsVisited : List Visit → Visit → Type 0
IsVisited [] v = ⊥
IsVisited (u ∷ us) v = (u ≡ v) ⊎ IsVisited us v

module _ (f : Layout) (n l : ℕ) (image : List ℕ) where
  -- the block begins at a visited entry
  pub record BeginsBlock (b : Block) : Type 0 where
    pub entry : Visit
    pub visited : IsVisited (all_visits f n l image) entry
    pub has : HasBlockAt f image entry.frame entry.position entry.number b

  -- a visited entry points to a table at the position, which isn't of the spine
  pub record HasTable (p : Position) : Type 0 where
    pub entry : Visit
    pub visited : IsVisited (all_visits f n l image) entry
    pub frame : ℕ
    pub points : target f n l image entry ≡ Some frame
    pub at : child_at f entry.position entry.number ≡ p
    pub off_spine : is_spine l p ≡ false

  -- The book is the image's: of the whole space, with the blocks that begin at its entries and the positions of its tables that
  -- aren't of the spine, in order, and the root's level as top.
  pub record IsImageBook (book : Book) : Type 0 where
    pub first_is : book.first ≡ 0
    pub count_is : book.count ≡ input_pages f
    pub blocks_are : (b : Block) → Contains book.blocks b ↔ BeginsBlock b
    pub blocks_in_order : AllPairs (λ b c. end_of b ≤ c.first) book.blocks
    pub tables_are : (p : Position) → Contains book.tables p ↔ HasTable p
    pub tables_in_order : AllPairs (λ p q. IsTrue (is_before p q)) book.tables
    pub top_is : book.top ≡ root_in image % 8

-- the rule holds of the words with this one view, which is of the whole space and at rest with these blocks
pub record RestsAlone (f : Layout) (n l : ℕ) (words : List ℕ) (v : View) (blocks : List Block) : Type 0 where
  pub lawful : Lawful f n l words (v ∷ [])
  pub whole : v.count ≡ input_pages f
  pub rest : IsAtRest f v blocks

-- the book that the words say is the image's
abbrev pub SaysImageBook : Layout → (n l : ℕ) → (image words : List ℕ) → Type 0
SaysImageBook f n l image words =
    (v : View) (blocks : List Block) → RestsAlone f n l words v blocks → IsImageBook f n l image (book_of v blocks)

-- an image of such words is good
abbrev pub RestingImageIsGood : Type 0
RestingImageIsGood =
    (f : Layout) → IsLayout f → WordsDiffer f → (n l : ℕ) (image words : List ℕ) (v : View) (blocks : List Block) →
    RestsAlone f n l words v blocks → HasImage f n image words → IsGoodImage f n l image

-- and the book that they say is the image's
abbrev pub RestingBookIsImages : Type 0
RestingBookIsImages =
    (f : Layout) → IsLayout f → WordsDiffer f → StepsAgree f → (n l : ℕ) (image words : List ℕ) → HasImage f n image words →
    SaysImageBook f n l image words
