-- A fork's cut, by a part of the span: why it is refused, and that a block it names is legal.
use Rattle.std.proofs.Common.{◌≡◌, ℕ, Option, Some, None, sym}
use Rattle.std.specs.Prelude.{All, IsTrue, ◌&&◌, find, nat_lt, not, option_map, if◌then◌else◌}
use Rattle.pt_model.specs.declared.block.Block.{Block}
use Rattle.pt_model.specs.declared.reply.ForkAnswer.{ForkAnswer}
use Rattle.pt_model.specs.declared.reply.ForkAnswer.TheVariants as forking
use Rattle.pt_model.specs.Layout.{Layout, IsLegalBlock}
use Rattle.pt_model.specs.Pages.{is_whole, page_at, page_under}
use Rattle.pt_model.specs.Book.{Book, span_end}
use Rattle.pt_model.specs.Unmap.{CutRefusal, OutsideLease, CutsEntry}
use Rattle.pt_model.specs.Cuts.{crosses, cut_refusal}
use Rattle.pt_model.specs.Run.{refused_fork}
use Rattle.pt_book.proofs.ListFacts.{found_is}
use Rattle.pt_laws.proofs.Same.{cut_free, cut_inside}
use Rattle.pt_walk.specs.declared.cut.CutRefused.{CutRefused}
use Rattle.pt_walk.specs.declared.cut.CutRefused.TheVariants as refused
use Rattle.pt_walk.specs.SpanCuts.{refusal_of}
use Rattle.pt_reply.specs.Telling.{has_small_blocks, CutsLegalBlock}
use Rattle.pt_reply.proofs.UnmapFacts.{after_first, after_inside}
use Rattle.pt_narrow.specs.Standing.{IsCut}
use Rattle.pt_narrow.proofs.Apart.{none_found}

abbrev pub fork_said : Option CutRefusal → ForkAnswer
fork_said o = elim o [ Some refusal ↦ refused_fork refusal | None ↦ forking.Forked ]

-- A block that is named is one of the book.

at_page : (book : Book) (o : Option ℕ) (b : Block) →
    elim o [
      | None ↦ Some OutsideLease
      | Some page ↦ if not (nat_lt book.first page && nat_lt page (span_end book)) then Some OutsideLease else option_map CutsEntry (find (crosses page) book.blocks)
    ]
    ≡ Some (CutsEntry b) → (page : ℕ) × (find (crosses page) book.blocks ≡ Some b)
at_page book None b e = absurd (let w : ⊥ = cc in w)
at_page book (Some page) b e = (page, after_inside (nat_lt book.first page && nat_lt page (span_end book)) (find (crosses page) book.blocks) b e)

named_is_legal : (f : Layout) (book : Book) (at : ℕ) (b : Block) → All (IsLegalBlock f) book.blocks → cut_refusal f book at ≡ Some (CutsEntry b) → IsLegalBlock f b
named_is_legal f book at b all e =
    let found = at_page book (page_at f at) b (after_first (is_whole f at) b _ e) in
    (found_is (IsLegalBlock f) (crosses found.0) book.blocks b all (sym found.1)).0

-- so it can be told
pub refused_legal : (f : Layout) (book : Book) (at : ℕ) → All (IsLegalBlock f) book.blocks → IsTrue (has_small_blocks f) → (why : CutRefused) →
    cut_refusal f book at ≡ Some (refusal_of why) → CutsLegalBlock f (refused_fork (refusal_of why))
refused_legal f book at all small refused.Misaligned e = tt
refused_legal f book at all small refused.OutsideLease e = tt
refused_legal f book at all small (refused.CutsEntry b) e = record { legal = named_is_legal f book at b all e; small = small }

-- a span that can be cut is cut there
pub is_cut : (f : Layout) (book : Book) (at : ℕ) → cut_refusal f book at ≡ None →
    IsCut book (record { first = book.first; count = book.count; at = page_under f at })
is_cut f book at e = record {
  above = (cut_inside f book at e).0;
  below = (cut_inside f book at e).1;
  apart = none_found (page_under f at) book.blocks (cut_free f book at e);
}
