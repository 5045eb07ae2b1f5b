-- What the checker keeps while it copies: words that meet the rule with one view of the whole space, and the entry at which the
-- copy stands. The space is taken to have started at its root's level, so that every table but the root's is one of the view.
use Rattle.std.specs.Prelude.{◌≡◌, ◌≢◌, ◌⊎◌, ℕ, zero, suc, ◌+◌, ◌^◌, ◌<◌, ◌≤◌, List, [], ◌∷◌, None, Some, length, slice_index, slice_set}
use Rattle.std.specs.List.{AllByRecursion}
use Rattle.pt_model.specs.declared.block.Block.{Block}
use Rattle.pt_model.specs.declared.position.Position.{Position}
use Rattle.pt_model.specs.Layout.{Layout, input_pages}
use Rattle.pt_model.specs.Sets.{IsAmong}
use Rattle.pt_model.specs.Tables.{IsPosition, child_at, spine_position, starting_top}
use Rattle.pt_model.specs.Words.{entry_of, entry_place, frame_address, placed_word, root_word, tag, word_count}
use Rattle.pt_view.specs.declared.view.View.{View}
use Rattle.pt_view.specs.declared.view.Piece.{Piece}
use Rattle.pt_view.specs.Pieces.{all_pieces, first_of, word_of}
use Rattle.pt_view.specs.Calls.{entry_first, lowest}
use Rattle.pt_rule.specs.Lawful.{Lawful}

-- the words meet the rule with a view of the whole space, which holds and prepares no frame
pub record IsDraft (f : Layout) (n l : ℕ) (words : List ℕ) (v : View) : Type 0 where
  pub lawful : Lawful f n l words (v ∷ [])
  pub whole : v.count ≡ input_pages f
  pub none_held : v.purse ≡ []
  pub end : v.end ≡ None
  pub none_prepared : v.prepared ≡ None

-- the root's table is the only one, in frame r at the starting top, and all entries are zero
pub record IsBegun (f : Layout) (n l r : ℕ) (words : List ℕ) : Type 0 where
  pub long : length words ≡ word_count f n
  pub root : slice_index words 0 ≡ root_word r (starting_top l)
  pub top : tag words r ≡ placed_word (spine_position (starting_top l))
  pub free : (frame : ℕ) → frame ≢ r → frame < n → tag words frame ≡ 0
  pub cleared : (frame number : ℕ) → frame < n → number < 2 ^ f.index → entry_of f n words frame number ≡ 0

-- the words with a free frame linked at an entry
abbrev pub linked_words : Layout → (n : ℕ) → List ℕ → (g number : ℕ) → Position → (c : ℕ) → List ℕ
linked_words f n words g number p c =
    slice_set (slice_set words (1 + c) (placed_word (child_at f p number))) (entry_place f n g number) (f.pointer p.level (frame_address f c))

abbrev pub part_of : Block → (part : ℕ) → Piece
part_of b part = record { block = b; part = part }

-- the words with the first k words of a block put from an entry on
abbrev pub group_words : Layout → (n : ℕ) → List ℕ → (g number : ℕ) → Block → (k : ℕ) → List ℕ
group_words f n words g number b zero = words
group_words f n words g number b (suc k) =
    slice_set (group_words f n words g number b k) (entry_place f n g (number + k)) (word_of f (part_of b k))

-- The copy is in the table in frame g, at position p, before its entry `number`: the pieces are those of the blocks, all before
-- that entry, and so are the tables, but for those that it lies in.
pub record Stands (f : Layout) (n l : ℕ) (words : List ℕ) (v : View) (blocks : List Block) (g number : ℕ) (p : Position) : Type 0 where
  pub draft : IsDraft f n l words v
  pub pieces : v.pieces ≡ all_pieces f blocks
  pub here : lowest v.path ≡ Some (record { frame = g; position = p })
  pub position : IsPosition f p
  pub low : p.level ≤ starting_top l
  pub top : v.top ≡ starting_top l
  pub some : number ≤ 2 ^ f.index
  pub zero_from : (i : ℕ) → number ≤ i → i < 2 ^ f.index → entry_of f n words g i ≡ 0
  pub behind : AllByRecursion (λ y. first_of f y < entry_first f p number) v.pieces
  pub tables : (q : Position) → IsAmong v.tables q → (q.base ≤ entry_first f p number) × (q.level < p.level → q.base < entry_first f p number)

-- the spine positions from a level on and below a table at page 0 are among the tables
abbrev pub HasSpine : (low : ℕ) → Position → View → Type 0
HasSpine low p v = p.base ≡ 0 → (k : ℕ) → low ≤ k → k < p.level → IsAmong v.tables (spine_position k)

-- the copy has come to the entry, in the same table, and the tables that it put are under that one
pub record Reaches (f : Layout) (n l low : ℕ) (words : List ℕ) (v : View) (g number : ℕ) (p : Position) : Type 0 where
  pub view : View
  pub blocks : List Block
  pub stands : Stands f n l words view blocks g number p
  pub path : view.path ≡ v.path
  pub tables : (q : Position) → IsAmong view.tables q → IsAmong v.tables q ⊎ (q.level < p.level)
  pub kept : (q : Position) → IsAmong v.tables q → IsAmong view.tables q
  pub spine : 0 < number → HasSpine low p view

-- What a copy of a table does to the words, whatever the view is: from before its first entry to before entry `number`. Tags
-- that aren't zero stay, and so do the entries of their frames, but for this table's.
pub record Copies (f : Layout) (n low : ℕ) (words words' : List ℕ) (g number : ℕ) (p : Position) : Type 0 where
  pub goes : (l : ℕ) (v : View) (blocks : List Block) → Stands f n l words v blocks g 0 p → Reaches f n l low words' v g number p
  pub tags : (h : ℕ) → h < n → tag words h ≢ 0 → tag words' h ≡ tag words h
  pub entries : (h i : ℕ) → h < n → i < 2 ^ f.index → tag words h ≢ 0 → h ≢ g → entry_of f n words' h i ≡ entry_of f n words h i
