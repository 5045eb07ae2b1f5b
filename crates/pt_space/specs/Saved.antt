-- Words that nobody shares, and the one view of the whole space that they say.
use Rattle.std.specs.Prelude.{◌≡◌, ℕ, List, [], ◌∷◌, None}
use Rattle.pt_model.specs.declared.block.Block.{Block}
use Rattle.pt_model.specs.Layout.{Layout, input_pages}
use Rattle.pt_model.specs.Words.{root_level}
use Rattle.pt_view.specs.declared.view.View.{View}
use Rattle.pt_view.specs.Views.{IsAtRest}
use Rattle.pt_rule.specs.Lawful.{Lawful}
use Rattle.pt_rule.specs.Opening.{counting}
use Rattle.pt_rule.specs.WholeView.{pieces_in, tables_in}

-- what callers see of saved words
pub record SavedWords : Type 0 where
  pub words : List ℕ
  pub frames : ℕ
  pub levels : ℕ

-- the view at rest that the words say, with the frames 1 to `hold` in its purse
unfoldable pub saved_view : Layout → (n l hold : ℕ) → (words : List ℕ) → View
saved_view f n l hold words = record {
  frames = n;
  levels = l;
  first = 0;
  count = input_pages f;
  pieces = pieces_in f n None words n;
  tables = tables_in l None words n;
  top = root_level words;
  purse = counting 1 hold;
  end = None;
  path = [];
  prepared = None;
  busy = [];
  known = [];
  taken = [];
  absent = [];
  stores = [];
}

-- the words meet the rule with the view that they say
abbrev pub SaysItsView : Layout → (n l hold : ℕ) → (words : List ℕ) → Type 0
SaysItsView f n l hold words = Lawful f n l words (saved_view f n l hold words ∷ [])

-- the words meet the rule with one view of the whole space, at rest, with no frame in its purse
pub record IsSound (f : Layout) (n l : ℕ) (words : List ℕ) : Type 0 where
  pub view : View
  pub blocks : List Block
  pub lawful : Lawful f n l words (view ∷ [])
  pub rest : IsAtRest f view blocks
  pub whole : view.count ≡ input_pages f
  pub none_held : view.purse ≡ []
