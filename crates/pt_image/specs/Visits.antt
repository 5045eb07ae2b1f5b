-- The words have the image's root and its entries, and what a visit of a table does towards it.
use Rattle.std.specs.Prelude.{◌≡◌, ◌≢◌, ℕ, ◌^◌, ◌<◌, ◌≤◌, List, slice_index}
use Rattle.pt_model.specs.Layout.{Layout}
use Rattle.pt_model.specs.Words.{entry_of, tag}
use Rattle.pt_image.specs.Bytes.{entry_at, root_in}

-- the entries of a frame are those that the image has of it
abbrev pub HasFrame : Layout → (n : ℕ) → (image words : List ℕ) → (frame : ℕ) → Type 0
HasFrame f n image words frame = (i : ℕ) → i < 2 ^ f.index → entry_of f n words frame i ≡ entry_at f image frame i

-- the root and the entries of all n frames are those of the image
pub record HasImage (f : Layout) (n : ℕ) (image words : List ℕ) : Type 0 where
  pub root : slice_index words 0 ≡ root_in image
  pub entries : (frame : ℕ) → frame < n → HasFrame f n image words frame

-- the entries of free frames are zero
abbrev pub AreCleared : Layout → (n : ℕ) → (words : List ℕ) → Type 0
AreCleared f n words = (frame i : ℕ) → frame < n → i < 2 ^ f.index → tag words frame ≡ 0 → entry_of f n words frame i ≡ 0

-- the image's entries of the frames that are free in the words are zero
abbrev pub HasNoStray : Layout → (n : ℕ) → (image words : List ℕ) → Type 0
HasNoStray f n image words = (frame i : ℕ) → frame < n → i < 2 ^ f.index → tag words frame ≡ 0 → entry_at f image frame i ≡ 0

-- the table in frame g has no entry yet
pub record IsUnvisited (f : Layout) (n : ℕ) (words : List ℕ) (g : ℕ) : Type 0 where
  pub tagged : tag words g ≢ 0
  pub bare : (i : ℕ) → i < 2 ^ f.index → entry_of f n words g i ≡ 0
  pub cleared : AreCleared f n words

-- the table in frame g has the image's entries before entry `number`, and so have the tables that were linked since all of theirs
pub record IsVisited (f : Layout) (n : ℕ) (image words words' : List ℕ) (g number : ℕ) : Type 0 where
  pub root : slice_index words' 0 ≡ slice_index words 0
  pub tagged : tag words' g ≢ 0
  pub own : (i : ℕ) → i < number → entry_of f n words' g i ≡ entry_at f image g i
  pub bare : (i : ℕ) → number ≤ i → i < 2 ^ f.index → entry_of f n words' g i ≡ 0
  pub cleared : AreCleared f n words'
  pub added : (frame : ℕ) → frame < n → tag words frame ≡ 0 → tag words' frame ≢ 0 → HasFrame f n image words' frame

-- what a visit of the table in frame g, up to before entry `number`, does to words in which it wasn't visited
abbrev pub Visits : Layout → (n : ℕ) → (image words words' : List ℕ) → (g number : ℕ) → Type 0
Visits f n image words words' g number = IsUnvisited f n words g → IsVisited f n image words words' g number
