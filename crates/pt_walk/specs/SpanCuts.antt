-- Whether a span may be cut in two at an address, by the book of a view at rest.
use Rattle.std.specs.Prelude.{◌≡◌, ℕ, ◌+◌, ◌<◌, List, find, option_map, Option, Some, None, Result, Ok, Err}
use Rattle.pt_model.specs.declared.block.Block.{Block}
use Rattle.pt_model.specs.Layout.{Layout}
use Rattle.pt_model.specs.Pages.{page_at}
use Rattle.pt_model.specs.Book.{Book}
use Rattle.pt_model.specs.Cuts.{crosses, cut_refusal}
use Rattle.pt_model.specs.Unmap.{CutRefusal, Misaligned, OutsideLease, CutsEntry}
use Rattle.pt_view.specs.declared.view.View.{View}
use Rattle.pt_view.specs.Views.{IsAtRest, book_of}
use Rattle.pt_walk.specs.declared.cut.CutRefused.{CutRefused}
use Rattle.pt_walk.specs.declared.cut.CutRefused.TheVariants as refused

-- the refusal of the book machine that an answer is
abbrev pub refusal_of : CutRefused → CutRefusal
refusal_of refused.Misaligned = Misaligned
refusal_of refused.OutsideLease = OutsideLease
refusal_of (refused.CutsEntry block) = CutsEntry block

-- the page of an address, behind the first one of a span: only a block on both sides is in the way of a cut there
pub record IsCutPage (f : Layout) (first count at page : ℕ) : Type 0 where
  pub is : page_at f at ≡ Some page
  pub above : first < page
  pub below : page < first + count
  pub refusal : (book : Book) → book.first ≡ first → book.count ≡ count →
      cut_refusal f book at ≡ option_map CutsEntry (find (crosses page) book.blocks)

-- a cut of a span there is refused, whatever its blocks are
abbrev pub RefusesCut : Layout → (first count at : ℕ) → CutRefused → Type 0
RefusesCut f first count at why =
    (book : Book) → book.first ≡ first → book.count ≡ count → cut_refusal f book at ≡ Some (refusal_of why)

-- the refusal that an answer names, if it is one
abbrev pub refusal_in : {T : Type 0} → Result T CutRefused → Option CutRefusal
refusal_in (Ok answer) = None
refusal_in (Err why) = Some (refusal_of why)

-- the book machine refuses a cut of the span of a view at rest just so
abbrev pub AnswersCut : {T : Type 0} → Layout → View → (at : ℕ) → Result T CutRefused → Type 0
AnswersCut f v at answer = (blocks : List Block) → IsAtRest f v blocks → cut_refusal f (book_of v blocks) at ≡ refusal_in answer
