-- What holds of a live view wherever the rule holds, whatever the words and the other views are.
use Rattle.std.specs.Prelude.{◌≡◌, ℕ, ◌+◌, ◌<◌, ◌≤◌, List, [], Some}
use mathlib.Core.Option.{some}
use lib.ListN.{get_elem?}
use Rattle.pt_model.specs.declared.block.Block.{Block}
use Rattle.pt_model.specs.Layout.{Layout, input_pages}
use Rattle.pt_model.specs.Book.{IsLawful}
use Rattle.pt_model.specs.Tables.{IsPosition}
use Rattle.pt_model.specs.Words.{frame_limit}
use Rattle.pt_view.specs.declared.view.View.{View}
use Rattle.pt_view.specs.declared.view.Node.{Node}
use Rattle.pt_view.specs.declared.view.Prepared.{Prepared}
use Rattle.pt_view.specs.Lists.{IsIn, times}
use Rattle.pt_view.specs.Views.{IsAtRest, book_of, linked_of}
use Rattle.pt_view.specs.Calls.{held_count, HasEveryFrame}
use Rattle.pt_rule.specs.Lawful.{HasBook}
use Rattle.pt_rule.specs.Kinds.{retrace}

pub record Holds (f : Layout) (n l : ℕ) (v : View) : Type 0 where
  pub frames : v.frames ≡ n
  pub levels : v.levels ≡ l
  pub some_frame : 1 ≤ n
  pub limit : n ≤ frame_limit f
  pub low : f.start ≤ l
  pub high : l ≤ f.levels
  pub live : 0 < v.count
  pub in_space : v.first + v.count ≤ input_pages f
  pub purse_within : (x : ℕ) → IsIn v.purse x → x < n
  pub once : (x : ℕ) → times x v.purse ≤ 1
  pub prepared_within : (x : Prepared) → v.prepared ≡ Some x → x.frame < n
  pub prepared_legal : (x : Prepared) → v.prepared ≡ Some x → IsPosition f x.position
  pub few : held_count v ≤ n
  pub path_within : (i : ℕ) (x : Node) → get_elem? v.path i ≡ some x → (x.frame < n) × (x.position.level < f.levels)
  pub counted : v.count ≡ input_pages f → (linked_of v + held_count v ≤ n) × (HasEveryFrame v → linked_of v + held_count v ≡ n)
  pub book : HasBook f v
  pub lawful : (blocks : List Block) → IsAtRest f (retrace [] v) blocks → IsLawful f v.levels (book_of v blocks)
