-- What the taking away of a range answers, by the book machine.
use Rattle.std.proofs.Common.{◌≡◌, ℕ, ◌+◌, ◌/◌, ◌^◌, Bool, true, false, Option, Some, None, refl, ap, sym, ◌∙◌, subst, arith, length, length-append}
use Rattle.std.specs.Prelude.{All, filter, not, option_map, if◌then◌else◌}
use Rattle.std.proofs.lemmas.List.Filters.{length-filter_both}
use Rattle.pt_model.specs.declared.block.Block.{Block}
use Rattle.pt_model.specs.declared.reply.UnmapAnswer.{UnmapAnswer}
use Rattle.pt_model.specs.declared.reply.UnmapAnswer.TheVariants as unmapping
use Rattle.pt_model.specs.Layout.{Layout, IsLegalBlock}
use Rattle.pt_model.specs.Pages.{page_under, range_at}
use Rattle.pt_model.specs.declared.position.Position.{Position}
use Rattle.pt_model.specs.Book.{Book, is_inside, table_lies_in}
use Rattle.pt_model.specs.Unmap.{CutRefusal, Misaligned, OutsideLease, CutsEntry, is_cut, lowest_cut, pages_gone, unmap_refusal, unmapped}
use Rattle.pt_model.specs.Run.{after_unmap, refused_unmap, unmap_answer}
use Rattle.pt_laws.specs.Covers.{Leaves}
use Rattle.pt_laws.specs.Covers as covers
use Rattle.pt_book.proofs.ListFacts.{found_is}
use Rattle.pt_view.specs.declared.view.View.{View}
use Rattle.pt_view.specs.Views.{IsAtRest, SameRange}
use Rattle.pt_sweep.specs.Unmaps.{IsUnmapped}
use Rattle.pt_reply.specs.Built.{machine}
use Rattle.pt_reply.specs.Running.{IsReady, AnswersAs, blocks_of, book_in, machine_in, stand_in}
use Rattle.pt_model.specs.declared.command.What.TheVariants.{Unmap}
use Rattle.pt_model.specs.declared.reply.Answer.TheVariants as answering
use Rattle.pt_reply.proofs.RestBlocks.{blocks_are}

-- A block that is named as cut is one of the book.

pub after_first : (t : Bool) (b : Block) (rest : Option CutRefusal) → (if not t then Some Misaligned else rest) ≡ Some (CutsEntry b) → rest ≡ Some (CutsEntry b)
after_first true b rest e = e
after_first false b rest e = absurd (let w : ⊥ = cc in w)

pub after_inside : (t : Bool) (cut : Option Block) (b : Block) → (if not t then Some OutsideLease else option_map CutsEntry cut) ≡ Some (CutsEntry b) → cut ≡ Some b
after_inside true None b e = absurd (let w : ⊥ = cc in w)
after_inside true (Some c) b e = cc
after_inside false cut b e = absurd (let w : ⊥ = cc in w)

in_range : (book : Book) (range : Option (ℕ × ℕ)) (b : Block) →
    elim range [
      | None ↦ Some OutsideLease
      | Some range ↦ if not (is_inside book range.0 (range.0 + range.1)) then Some OutsideLease else option_map CutsEntry (lowest_cut book range.0 (range.0 + range.1))
    ]
    ≡ Some (CutsEntry b) → (first : ℕ) × (last : ℕ) × (lowest_cut book first last ≡ Some b)
in_range book None b e = absurd (let w : ⊥ = cc in w)
in_range book (Some range) b e =
    (range.0, range.0 + range.1, after_inside (is_inside book range.0 (range.0 + range.1)) (lowest_cut book range.0 (range.0 + range.1)) b e)

pub cut_is_legal : (f : Layout) (book : Book) (va len : ℕ) (b : Block) → All (IsLegalBlock f) book.blocks → unmap_refusal f book va len ≡ Some (CutsEntry b) → IsLegalBlock f b
cut_is_legal f book va len b all e =
    let cut = in_range book (range_at f va len) b (after_first _ b _ e) in
    (found_is (IsLegalBlock f) (is_cut cut.0 cut.1) book.blocks b all (sym cut.2)).0

-- The answer to an unmap and the book after it.
module _ (f : Layout) (v w : View) (ready : IsReady f v) (va len : ℕ) where
  abbrev first : ℕ
  first = page_under f va

  abbrev count : ℕ
  count = len / 2 ^ f.granule

  abbrev refusal : Option CutRefusal
  refusal = unmap_refusal f (book_in v) va len

  abbrev after_it : Book
  after_it = unmapped f (book_in v) first count

  answer_by : (o : Option CutRefusal) → refusal ≡ o →
      unmap_answer (machine_in f v) (book_in v) va len
      ≡ elim o [ Some r ↦ refused_unmap r | None ↦ unmapping.Unmapped (pages_gone (book_in v) first count) ]
  answer_by o e = λ i. elim (e i) [ Some r ↦ refused_unmap r | None ↦ unmapping.Unmapped (pages_gone (book_in v) first count) ]

  same_machine : SameRange v w → machine_in f w ≡ machine_in f v
  same_machine range = λ i. machine f (range.levels i) (range.frames i)

  -- a frame came for each table that went
  pub leaves_gone : (tells alone : Type 0) (pages : ℕ) → IsUnmapped f tells alone v w (blocks_of v.pieces) first count pages →
      Leaves (machine_in f v) (Unmap va len) (stand_in v) (stand_in w) (answering.Unmap (unmapping.Unmapped pages))
  leaves_gone tells alone pages done =
      let lies : Position → Bool = λ p. table_lies_in f first (first + count) p in
      let each = done.frees.each in
      let parts = length-filter_both lies (λ p. not (lies p)) (λ p. refl) v.tables in
      let left : length w.tables ≡ length (filter (λ p. not (lies p)) v.tables) = ap length done.tables in
      let came = ap length done.purse.1 in
      let sum = length-append done.purse.0 v.purse in
      let now : blocks_of w.pieces ≡ after_it.blocks = blocks_are f w after_it.blocks done.rest in
      covers.unmap va len (stand_in v) (stand_in w) (unmapping.Unmapped pages) (record {
        book = λ i. record { first = done.range.first i; count = done.range.count i; blocks = now i; tables = done.tables i; top = done.top i };
        unlinked = length done.purse.0;
        purse = omega arith;
        freed = omega arith;
      })

  -- the range went
  pub unmaps : (tells alone : Type 0) (pages : ℕ) → refusal ≡ None → IsUnmapped f tells alone v w (blocks_of v.pieces) first count pages →
      AnswersAs f v w (Unmap va len) (answering.Unmap (unmapping.Unmapped pages))
  unmaps tells alone pages e done =
      let is : unmap_answer (machine_in f v) (book_in v) va len ≡ unmapping.Unmapped (pages_gone (book_in v) first count) = answer_by None e in
      let now : blocks_of w.pieces ≡ after_it.blocks = blocks_are f w after_it.blocks done.rest in
      record {
        ready = subst (IsAtRest f w) (sym now) done.rest;
        machine = same_machine done.range;
        answers = ap (λ (a : UnmapAnswer). Some (answering.Unmap a)) (is ∙ ap unmapping.Unmapped (sym done.pages));
        book = (λ i. record { first = done.range.first i; count = done.range.count i; blocks = now i; tables = done.tables i; top = done.top i })
            ∙ ap (λ (x : UnmapAnswer). after_unmap x after_it (book_in v)) (sym is);
      }
