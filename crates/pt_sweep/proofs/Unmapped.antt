-- A range that was taken away, by the blocks of a view at rest.
use Rattle.std.proofs.Common.{◌≡◌, ℕ, ◌+◌, ◌/◌, ◌^◌, false, List, ◌++◌, ap, sym, subst, ◌∙◌}
use Rattle.std.specs.Prelude.{not, filter, find, map, Contains, None, option_map}
use Rattle.pt_model.specs.declared.block.Block.{Block}
use Rattle.pt_model.specs.declared.position.Position.{Position}
use Rattle.pt_model.specs.Layout.{Layout}
use Rattle.pt_model.specs.Book.{table_lies_in}
use Rattle.pt_model.specs.Pages.{page_under}
use Rattle.pt_model.specs.Unmap.{CutsEntry, is_cut, unmap_refusal}
use Rattle.pt_num.specs.declared.Span.{Span}
use Rattle.pt_format.specs.Laws.{IsLayout}
use Rattle.pt_view.specs.declared.view.View.{View}
use Rattle.pt_view.specs.declared.view.Piece.{Piece}
use Rattle.pt_view.specs.declared.view.Change.{Change}
use Rattle.pt_view.specs.declared.view.Change.TheVariants.{Cleared}
use Rattle.pt_view.specs.Pieces.{IsOneOf, all_pieces}
use Rattle.pt_view.specs.Loads.{ByLoads}
use Rattle.pt_view.specs.Views.{IsAtRest, book_of}
use Rattle.pt_view.proofs.Loads.{absences_on}
use Rattle.pt_view.proofs.Stays.{range_on}
use Rattle.pt_sweep.specs.Sweeps.{CutsNone, SweepsIn, begins_in, pages_under}
use Rattle.pt_sweep.specs.Unmaps.{IsRange, IsUnmapped, book_without, blocks_gone}
use Rattle.pt_sweep.proofs.GoneTables.{frees_behind}
use Rattle.pt_sweep.proofs.BlockPieces.{blocks_go, blocks_pages, blocks_stay, blocks_uncut}
use Rattle.pt_sweep.proofs.CutBlocks.{found_none}

module _ {f : Layout} (good : IsLayout f) (blocks : List Block) (first count : ℕ) (none : find (is_cut first (first + count)) blocks ≡ None) where
  uncut : (b : Block) → Contains blocks b → is_cut first (first + count) b ≡ false
  uncut b h = found_none (is_cut first (first + count)) blocks none b h

  -- it cuts no piece
  pub cuts_none : {v : View} → IsAtRest f v blocks → CutsNone f v first (first + count)
  cuts_none rest x m = blocks_uncut f good first (first + count) blocks uncut x (subst (λ (xs : List Piece). IsOneOf xs x) rest.pieces m)

  module _ {tells alone alone' : Type 0} {v w y : View} {many : ℕ} (still : alone → alone') (rest : IsAtRest f v blocks) (there : IsAtRest f w blocks) (k : ByLoads tells v w)
      (s : SweepsIn f tells alone' first count w y many) where
    pub rests_after : IsAtRest f y (book_without f v blocks first count).blocks
    rests_after = record {
      path = s.path ∙ there.path;
      prepared = s.prepared ∙ there.prepared;
      end = s.end ∙ there.end;
      pieces = s.pieces ∙ ap (filter (λ x. not (begins_in f first (first + count) x))) there.pieces ∙ blocks_stay f good first (first + count) blocks uncut;
    }

    go : filter (begins_in f first (first + count)) w.pieces ≡ all_pieces f (blocks_gone blocks first count)
    go = ap (filter (begins_in f first (first + count))) there.pieces ∙ blocks_go f good first (first + count) blocks uncut

    pub taken_away : IsUnmapped f tells alone v y blocks first count many
    taken_away = record {
      range = range_on k.range s.range;
      rest = rests_after;
      tables = s.tables ∙ ap (filter (λ (q : Position). not (table_lies_in f first (first + count) q))) k.book.tables;
      top = s.top ∙ k.book.top;
      pages = s.pages ∙ ap (pages_under f) go ∙ blocks_pages f good (blocks_gone blocks first count);
      purse = (s.purse.0, s.purse.1 ∙ ap (λ (xs : List ℕ). s.purse.0 ++ xs) k.purse.purse);
      frees = frees_behind k still s.frees;
      busy = λ x. ((λ h. (k.busy x).0 ((s.busy x).0 h)), (λ h. (s.busy x).1 ((k.busy x).1 h)));
      known = λ q m stays. s.known q (k.known q m) stays;
      taken = λ t. s.taken t ∙ k.taken t;
      absent = λ t. absences_on (k.absent t) (s.absent t);
      stores = λ t. s.stores t ∙ ap (λ (xs : List Change). xs ++ map Cleared (filter (begins_in f first (first + count)) w.pieces)) (k.stores t)
          ∙ ap (λ (xs : List Piece). v.stores ++ map Cleared xs) go;
    }

-- what an unmap of the range of a request answers
pub answers_ok : (f : Layout) (tells alone : Type 0) (v w : View) (blocks : List Block) (va len many first count : ℕ) (range : Span) → IsRange f first count va len range → first ≡ v.first → count ≡ v.count →
    find (is_cut range.first (range.first + range.count)) blocks ≡ None → IsUnmapped f tells alone v w blocks range.first range.count many →
    (unmap_refusal f (book_of v blocks) va len ≡ None) × IsUnmapped f tells alone v w blocks (page_under f va) (len / 2 ^ f.granule) many
answers_ok f tells alone v w blocks va len many first count range asked at long none gone = (
  asked.refusal (book_of v blocks) (sym at) (sym long) ∙ ap (option_map CutsEntry) none,
  subst (λ (k : ℕ). IsUnmapped f tells alone v w blocks k (len / 2 ^ f.granule) many) asked.at.0 (subst (λ (k : ℕ). IsUnmapped f tells alone v w blocks range.first k many) asked.at.1 gone),
)
