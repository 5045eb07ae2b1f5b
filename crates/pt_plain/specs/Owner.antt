-- What the words of one owner, and the few fields beside them, say: the rule's view of the whole space, the holder's
-- view of its span, and what is set aside.
use Rattle.std.specs.Prelude.{◌≡◌, ℕ, zero, suc, ◌+◌, ◌-◌, ◌*◌, ◌/◌, ◌<◌, ◌≤◌, ◌==◌, List, [], ◌∷◌, ◌++◌, length, map, filter, not, ◌&&◌, Option, Some, None, slice_index, slice_set, if◌then◌else◌}
use Rattle.pt_model.specs.declared.position.Position.{Position}
use Rattle.pt_model.specs.Layout.{Layout, input_pages}
use Rattle.pt_model.specs.Sets.{one_if}
use Rattle.pt_model.specs.Tables.{levels_between, spine_position, starting_top}
use Rattle.pt_model.specs.Words.{tag, placed_at, root_level}
use Rattle.pt_view.specs.declared.view.View.{View}
use Rattle.pt_view.specs.declared.view.Node.{Node}
use Rattle.pt_view.specs.declared.view.Prepared.{Prepared}
use Rattle.pt_model.specs.Book.{lies_in}
use Rattle.pt_view.specs.declared.view.Piece.{Piece}
use Rattle.pt_view.specs.Views.{Aside, IsAtRest}
use Rattle.pt_view.specs.Calls.{HasFramesBelow}
use Rattle.pt_rule.specs.Cuts.{is_near, table_in}
use Rattle.pt_rule.specs.Tags.{first_or}
use Rattle.pt_rule.specs.Lawful.{Lawful}
use Rattle.pt_rule.specs.Opening.{counting}
use Rattle.pt_rule.specs.WholeView.{tables_in, pieces_in}

-- The fields of an owner: the words, the frames of the space and the levels that it started with; the span; the first
-- of the frames held, and their number; the frame of the table of each level of the path, down to `level`; the frame
-- that is about to be linked; a number below which no frame is free. Until a holder is narrowed the span is the whole space.
pub record Fields : Type 0 where
  pub words : List ℕ
  pub frames : ℕ
  pub levels : ℕ
  pub first : ℕ
  pub count : ℕ
  pub head : Option ℕ
  pub held : ℕ
  pub path : List ℕ
  pub level : ℕ
  pub prepared : Option ℕ
  pub taken_below : ℕ

-- the fields of an owner that spans the whole space
abbrev pub whole_fields : Layout → (words : List ℕ) → (frames levels : ℕ) → (head : Option ℕ) → (held : ℕ) →
    (path : List ℕ) → (level : ℕ) → (prepared : Option ℕ) → (taken_below : ℕ) → Fields
whole_fields f words frames levels head held path level prepared taken_below = record {
  words = words;
  frames = frames;
  levels = levels;
  first = 0;
  count = input_pages f;
  head = head;
  held = held;
  path = path;
  level = level;
  prepared = prepared;
  taken_below = taken_below;
}

-- what callers see: the words, the holder's view of its span, and what is set aside outside it
pub record Owned : Type 0 where
  pub words : List ℕ
  pub view : View
  pub aside : Aside

-- words of which `count` from a place on are set: the first to `word`, each next one to `step` more
abbrev pub set_run : (words : List ℕ) → (place count word step : ℕ) → List ℕ
set_run words place zero word step = words
set_run words place (suc count) word step = slice_set (set_run words place count word step) (place + count) (word + count * step)

-- so many words from a place on are all zero
abbrev pub IsZeroRun : (words : List ℕ) → (place count : ℕ) → Type 0
IsZeroRun words place count = (i : ℕ) → i < count → slice_index words (place + i) ≡ 0

-- how many of so many words from a place on aren't zero
abbrev pub nonzero_in : (words : List ℕ) → (place count : ℕ) → ℕ
nonzero_in words place zero = 0
nonzero_in words place (suc count) = nonzero_in words place count + one_if (not (slice_index words (place + count) == 0))

-- the frame that a held frame's tag names as the next one of its purse
abbrev pub next_named : (word : ℕ) → Option ℕ
next_named word = if word == 1 then None else Some (word / 4 - 1)

-- so many frames of a purse, from its first one, by their tags
abbrev pub chain_of : (words : List ℕ) → (head : Option ℕ) → (count : ℕ) → List ℕ
chain_of words head zero = []
chain_of words None (suc count) = []
chain_of words (Some frame) (suc count) = frame ∷ chain_of words (next_named (tag words frame)) count

-- the path's table of a level: its frame, and the position that its tag says
abbrev pub node_at : (words path : List ℕ) → (level : ℕ) → Node
node_at words path level =
    record { frame = slice_index path level; position = placed_at (tag words (slice_index path level)) }

-- so many tables of a path, down to the one of the level `low`
abbrev pub nodes_down : (words path : List ℕ) → (low count : ℕ) → List Node
nodes_down words path low zero = []
nodes_down words path low (suc count) = node_at words path (low + count) ∷ nodes_down words path low count

-- a prepared frame, at the position that its tag says
abbrev pub prepared_at : (words : List ℕ) → Option ℕ → Option Prepared
prepared_at words None = None
prepared_at words (Some frame) = Some (record { frame = frame; position = placed_at (tag words frame); bridge = None })

-- the frames below n that aren't free
abbrev pub busy_in : (words : List ℕ) → (n : ℕ) → List ℕ
busy_in words zero = []
busy_in words (suc frame) = if tag words frame == 0 then busy_in words frame else frame ∷ busy_in words frame

-- the number below which no frame is free, where it was so below `number`, and this frame is found not free or taken
abbrev pub taken_upto : (number frame : ℕ) → ℕ
taken_upto number frame = if frame == number then frame + 1 else number

-- the positions of the tree: its tables, and the spine up to its top
abbrev pub known_in : (l : ℕ) → (tables : List Position) → (top : ℕ) → List Position
known_in l tables top = tables ++ map spine_position (levels_between (starting_top l) top)

-- The rule's view of one owner, which spans the whole space.
unfoldable pub whole_view : Layout → Fields → View
whole_view f o = record {
  frames = o.frames;
  levels = o.levels;
  first = 0;
  count = input_pages f;
  pieces = pieces_in f o.frames o.prepared o.words o.frames;
  tables = tables_in o.levels o.prepared o.words o.frames;
  top = root_level o.words;
  purse = chain_of o.words o.head o.held;
  end = None;
  path = nodes_down o.words o.path o.level (root_level o.words + 1 - o.level);
  prepared = prepared_at o.words o.prepared;
  busy = busy_in o.words o.frames;
  known = known_in o.levels (tables_in o.levels o.prepared o.words o.frames) (root_level o.words);
  taken = [];
  absent = [];
  stores = [];
}

-- the part of a view in a span: its pieces there, the tables that meet it, and what is known there or of the spine
abbrev pub part_in : Layout → (first count : ℕ) → View → View
part_in f first count v = record v {
  first = first;
  count = count;
  pieces = filter (λ x. lies_in first (first + count) x.block) v.pieces;
  tables = filter (table_in f first (first + count)) v.tables;
  known = filter (is_near f v.levels first (first + count)) v.known;
}

-- what of it is outside: the blocks, and the tables that don't meet the span
abbrev pub outside : Layout → (first count : ℕ) → View → Aside
outside f first count v = record {
  blocks = map (λ (x : Piece). x.block) (filter (λ x. (x.part == 0) && not (lies_in first (first + count) x.block)) v.pieces);
  positions = filter (λ p. not (table_in f first (first + count) p)) v.tables;
}

-- the holder's view, and what it has set aside
abbrev pub span_view : Layout → Fields → View
span_view f o = part_in f o.first o.count (whole_view f o)

abbrev pub aside_of : Layout → Fields → Aside
aside_of f o = outside f o.first o.count (whole_view f o)

abbrev pub owned : Layout → Fields → Owned
owned f o = record { words = o.words; view = span_view f o; aside = aside_of f o }

-- the span is the whole space
pub record HasWholeSpan (f : Layout) (first count : ℕ) : Type 0 where
  pub first_is : first ≡ 0
  pub count_is : count ≡ input_pages f

-- What holds of the fields: the words meet the rule with the view of the whole space, which the span is, the purse is
-- all of the chain, the table of each level of the path is placed at that level, and the frames below a number aren't free.
pub record IsOwner (f : Layout) (o : Fields) : Type 0 where
  pub lawful : Lawful f o.frames o.levels o.words (whole_view f o ∷ [])
  pub span : HasWholeSpan f o.first o.count
  pub first_is : first_or None (chain_of o.words o.head o.held) ≡ o.head
  pub held_is : length (chain_of o.words o.head o.held) ≡ o.held
  pub low : o.level ≤ root_level o.words + 1
  pub levels_are : (at : ℕ) → o.level ≤ at → at ≤ root_level o.words → (node_at o.words o.path at).position.level ≡ at
  pub eight : length o.path ≡ 8
  pub taken : HasFramesBelow (whole_view f o) o.taken_below

-- nothing is set aside
abbrev pub none_aside : Aside
none_aside = record { blocks = []; positions = [] }

-- a view of a new space: it is at rest, has no blocks and no tables, and the frames from 1 on are in its purse
pub record IsOpened (f : Layout) (n l hold : ℕ) (v : View) : Type 0 where
  pub frames : v.frames ≡ n
  pub levels : v.levels ≡ l
  pub first : v.first ≡ 0
  pub count : v.count ≡ input_pages f
  pub rest : IsAtRest f v []
  pub tables : v.tables ≡ []
  pub top : v.top ≡ starting_top l
  pub purse : v.purse ≡ counting 1 hold
