-- Places of views that keep their ranges and books, and of the parts of a view.
use Rattle.std.proofs.Common.{◌≡◌, ℕ, ◌+◌, ◌-◌, ◌*◌, ◌^◌, ◌≤◌, ◌<◌, List, [], ◌∷◌, ◌++◌, Bool, true, false, inl, inr, Option, Some, None, length, take, drop, refl, ap, subst, sym, ◌∙◌, arith}
use Rattle.std.specs.Prelude.{All, IsTrue, Result, Ok, Err, min, find, ◌&&◌, nat_lt, not, option_map, if◌then◌else◌}
use Rattle.std.proofs.lemmas.Bool.{cases_Bool, cases_lt}
use Rattle.std.proofs.lemmas.List.{length-append, length-take-le}
use Rattle.std.proofs.lemmas.List.Elements.{All-cons}
use Rattle.pt_model.specs.declared.block.Block.{Block}
use Rattle.pt_model.specs.declared.position.Position.{Position}
use Rattle.pt_model.specs.declared.command.Command.{Command}
use Rattle.pt_model.specs.declared.reply.ForkAnswer.{ForkAnswer}
use Rattle.pt_model.specs.declared.reply.ForkAnswer.TheVariants as forking
use Rattle.pt_model.specs.Layout.{Layout, IsLegalBlock}
use Rattle.pt_model.specs.Pages.{is_whole, page_at, page_under}
use Rattle.pt_model.specs.Book.{Book, span_end}
use Rattle.pt_model.specs.Cuts.{crosses, cut_refusal, part_of, joined}
use Rattle.pt_model.specs.Unmap.{CutRefusal, CutsEntry, OutsideLease}
use Rattle.pt_model.specs.Run.{Machine, fork_answer, refused_fork}
use Rattle.pt_laws.specs.Need.{need, need_of_one, share_at}
use Rattle.pt_laws.proofs.Same.{cut_free, cut_inside}
use Rattle.pt_view.specs.declared.view.View.{View}
use Rattle.pt_view.specs.declared.view.Piece.{Piece}
use Rattle.pt_view.specs.declared.view.Prepared.{Prepared}
use Rattle.pt_view.specs.Views.{IsAtRest, KeepsRest, SameBook, SameRange, book_of, linked_of}
use Rattle.pt_view.specs.Calls.{held_count, prepared_count}
use Rattle.pt_walk.specs.declared.cut.CutRefused.{CutRefused}
use Rattle.pt_walk.specs.declared.cut.CutRefused.TheVariants as refused
use Rattle.pt_walk.specs.SpanCuts.{refusal_in}
use Rattle.pt_sweep.specs.Draws.{Gains}
use Rattle.pt_space.specs.Standing.{SpaceId, Standing}
use Rattle.pt_space.specs.Books.{MaySplitBook, RestsWith}
use Rattle.pt_space.proofs.Parts.{drop_length}
use Rattle.pt_rule.specs.Cuts as cuts
use Rattle.pt_reply.specs.Built.{machine}
use Rattle.pt_reply.specs.Running.{IsReady, blocks_of, book_in, machine_in}
use Rattle.pt_book.proofs.ListFacts.{found_is}
use Rattle.pt_reply.specs.Telling.{CutsLegalBlock, has_small_blocks}
use Rattle.pt_reply.proofs.UnmapFacts.{after_first, after_inside}
use Rattle.pt_reply.proofs.RestBlocks.{blocks_are, ready_at}
use Rattle.pt_beside.specs.Places.{Place, both}
use Rattle.pt_shared.specs.Parts.{place_of, fork_said}

-- a place by the parts of a view
abbrev placed : Layout → SpaceId → (levels frames first count : ℕ) → List Piece → List Position → (top purse : ℕ) → Place
placed f id levels frames first count pieces tables top purse = record {
  space = id;
  machine = machine f levels frames;
  book = record { first = first; count = count; blocks = blocks_of pieces; tables = tables; top = top };
  purse = purse;
}

-- one that keeps its range and book: the place is the same but for its purse
pub same_but_purse : (f : Layout) (s t : Standing) → t.space ≡ s.space → SameRange s.view t.view → SameBook s.view t.view →
    place_of f t ≡ record (place_of f s) { purse = length t.view.purse }
same_but_purse f s t space range book =
    ap (λ (x : SpaceId). placed f x t.view.levels t.view.frames t.view.first t.view.count t.view.pieces t.view.tables t.view.top (length t.view.purse)) space
    ∙ ap (λ (x : ℕ). placed f s.space x t.view.frames t.view.first t.view.count t.view.pieces t.view.tables t.view.top (length t.view.purse)) range.levels
    ∙ ap (λ (x : ℕ). placed f s.space s.view.levels x t.view.first t.view.count t.view.pieces t.view.tables t.view.top (length t.view.purse)) range.frames
    ∙ ap (λ (x : ℕ). placed f s.space s.view.levels s.view.frames x t.view.count t.view.pieces t.view.tables t.view.top (length t.view.purse)) range.first
    ∙ ap (λ (x : ℕ). placed f s.space s.view.levels s.view.frames s.view.first x t.view.pieces t.view.tables t.view.top (length t.view.purse)) range.count
    ∙ ap (λ (x : List Piece). placed f s.space s.view.levels s.view.frames s.view.first s.view.count x t.view.tables t.view.top (length t.view.purse)) book.pieces
    ∙ ap (λ (x : List Position). placed f s.space s.view.levels s.view.frames s.view.first s.view.count s.view.pieces x t.view.top (length t.view.purse)) book.tables
    ∙ ap (λ (x : ℕ). placed f s.space s.view.levels s.view.frames s.view.first s.view.count s.view.pieces s.view.tables x (length t.view.purse)) book.top

pub same_place : (f : Layout) (s t : Standing) → t.space ≡ s.space → SameRange s.view t.view → SameBook s.view t.view → t.view.purse ≡ s.view.purse →
    place_of f t ≡ place_of f s
same_place f s t space range book purse =
    same_but_purse f s t space range book ∙ ap (λ (xs : List ℕ). (let p : Place = record (place_of f s) { purse = length xs } in p)) purse

-- one that is at rest stays so
pub still_ready : (f : Layout) (v w : View) → IsReady f v → KeepsRest f v w → IsReady f w
still_ready f v w ready keeps = ready_at f w (keeps (blocks_of v.pieces) ready)

-- The answer to a fork.
pub said_is : (m : Machine) (b : Book) (at : ℕ) (done : Result (Unit {0}) CutRefused) → cut_refusal m.layout b at ≡ refusal_in done → fork_said done ≡ fork_answer m b at
said_is m b at (Ok u) e = sym (ap (λ (o : Option CutRefusal). elim o as (λ _. ForkAnswer) [ Some refusal ↦ refused_fork refusal | None ↦ forking.Forked ]) e)
said_is m b at (Err refused.Misaligned) e = sym (ap (λ (o : Option CutRefusal). elim o as (λ _. ForkAnswer) [ Some refusal ↦ refused_fork refusal | None ↦ forking.Forked ]) e)
said_is m b at (Err refused.OutsideLease) e = sym (ap (λ (o : Option CutRefusal). elim o as (λ _. ForkAnswer) [ Some refusal ↦ refused_fork refusal | None ↦ forking.Forked ]) e)
said_is m b at (Err (refused.CutsEntry block)) e = sym (ap (λ (o : Option CutRefusal). elim o as (λ _. ForkAnswer) [ Some refusal ↦ refused_fork refusal | None ↦ forking.Forked ]) e)

-- The need of commands.
pub need_few : (m : Machine) (cs : List Command) → m.frames < 2 ^ 32 → need m cs ≤ length cs * 2 ^ 32
need_few m [] few = omega arith
need_few m (c ∷ cs) few = let h = need_few m cs few in let one : need_of_one m c.what ≤ m.frames + 1 = omega arith in omega arith

-- A draw. Where the view is the whole space it gathers what was asked for, or all that isn't linked.
pub drawn : (f : Layout) (v w : View) (count asked result : ℕ) → asked ≡ min (count - length v.purse) v.frames →
    w.frames ≡ v.frames → w.prepared ≡ None → Gains v.purse w.purse result → linked_of w ≡ linked_of v →
    (result < asked → linked_of w + held_count w ≡ w.frames) →
    min count (v.frames - linked_of v) ≤ length w.purse
drawn f v w count asked result is frames none gains linked all =
    let lengths = ap (λ (xs : List ℕ). length xs) gains.1 in
    let one = length-append gains.0 v.purse in
    let got = gains.2 in
    let held : prepared_count w.prepared ≡ 0 = ap (λ (o : Option Prepared). prepared_count o) none in
    elim (cases_lt result asked) [
      | inl fell ↦ let sum = all fell in omega arith
      | inr full ↦ omega arith
    ]

-- A split.

none_found : (page : ℕ) (bs : List Block) → find (crosses page) bs ≡ None → All (λ b. crosses page b ≡ false) bs
none_found page [] e = λ k d h. absurd (omega arith)
none_found page (b ∷ bs) e = elim (cases_Bool (crosses page b)) [
  | inl on ↦ absurd (let some : Some b ≡ None = rw on at e in let w : ⊥ = cc in w)
  | inr off ↦ All-cons (λ b. crosses page b ≡ false) b bs off (none_found page bs (rw off at e))
]

pub rests_with : (f : Layout) (v : View) → IsReady f v → RestsWith f v (book_in v)
rests_with f v ready = record { at_rest = ready; is = refl }

pub may_split_book : (f : Layout) (v : View) (at kept : ℕ) → cut_refusal f (book_in v) at ≡ None → kept ≤ length v.purse → MaySplitBook (page_under f at) kept v (book_in v)
may_split_book f v at kept ok frames = record {
  low = (cut_inside f (book_in v) at ok).0;
  high = (cut_inside f (book_in v) at ok).1;
  uncrossed = none_found (page_under f at) (book_in v).blocks (cut_free f (book_in v) at ok);
  frames = frames;
}

-- a view that rests with a book has it
pub book_is : (f : Layout) (v : View) (b : Book) → RestsWith f v b → book_in v ≡ b
book_is f v b rests = ap (λ (bs : List Block). book_of v bs) (blocks_are f v b.blocks rests.at_rest) ∙ rests.is

-- The parts of a split, and two parts that are joined.

pub left_place : (f : Layout) (s l : Standing) (at kept : ℕ) → l.space ≡ s.space → l.view ≡ cuts.marked None (cuts.left_part f at kept s.view) →
    RestsWith f l.view (part_of f (book_in s.view) s.view.first at) → kept ≤ length s.view.purse →
    place_of f l ≡ record (place_of f s) { book = part_of f (book_in s.view) s.view.first at; purse = kept }
left_place f s l at kept space view rests frames i = record {
  space = space i;
  machine = ap (machine_in f) view i;
  book = book_is f l.view (part_of f (book_in s.view) s.view.first at) rests i;
  purse = (ap (λ (v : View). length v.purse) view ∙ length-take-le kept s.view.purse frames) i;
}

pub right_place : (f : Layout) (s r : Standing) (at kept : ℕ) → r.space ≡ s.space → r.view ≡ cuts.right_part f at kept s.view →
    RestsWith f r.view (part_of f (book_in s.view) at (span_end (book_in s.view))) →
    place_of f r ≡ record (place_of f s) { book = part_of f (book_in s.view) at (span_end (book_in s.view)); purse = length s.view.purse - kept }
right_place f s r at kept space view rests i = record {
  space = space i;
  machine = ap (machine_in f) view i;
  book = book_is f r.view (part_of f (book_in s.view) at (span_end (book_in s.view))) rests i;
  purse = (ap (λ (v : View). length v.purse) view ∙ drop_length s.view.purse kept) i;
}

pub both_place : (f : Layout) (l r b : Standing) → b.space ≡ l.space → b.view ≡ cuts.joined l.view r.view →
    RestsWith f b.view (joined (book_in l.view) (book_in r.view)) → place_of f b ≡ both (place_of f l) (place_of f r)
both_place f l r b space view rests i = record {
  space = space i;
  machine = ap (machine_in f) view i;
  book = book_is f b.view (joined (book_in l.view) (book_in r.view)) rests i;
  purse = (ap (λ (v : View). length v.purse) view ∙ length-append l.view.purse r.view.purse) i;
}

-- A block that the answer to a fork names is one of the book, and can be told.

at_page : (book : Book) (o : Option ℕ) (b : Block) →
    elim o [
      | None ↦ Some OutsideLease
      | Some page ↦ if not (nat_lt book.first page && nat_lt page (span_end book)) then Some OutsideLease else option_map CutsEntry (find (crosses page) book.blocks)
    ]
    ≡ Some (CutsEntry b) → (page : ℕ) × (find (crosses page) book.blocks ≡ Some b)
at_page book None b e = absurd (let w : ⊥ = cc in w)
at_page book (Some page) b e = (page, after_inside (nat_lt book.first page && nat_lt page (span_end book)) (find (crosses page) book.blocks) b e)

named_is_legal : (f : Layout) (book : Book) (at : ℕ) (b : Block) → All (IsLegalBlock f) book.blocks → cut_refusal f book at ≡ Some (CutsEntry b) → IsLegalBlock f b
named_is_legal f book at b all e =
    let found = at_page book (page_at f at) b (after_first (is_whole f at) b _ e) in
    (found_is (IsLegalBlock f) (crosses found.0) book.blocks b all (sym found.1)).0

pub said_legal : (f : Layout) (book : Book) (at : ℕ) → All (IsLegalBlock f) book.blocks → IsTrue (has_small_blocks f) → (done : Result (Unit {0}) CutRefused) →
    cut_refusal f book at ≡ refusal_in done → CutsLegalBlock f (fork_said done)
said_legal f book at all small (Ok u) e = tt
said_legal f book at all small (Err refused.Misaligned) e = tt
said_legal f book at all small (Err refused.OutsideLease) e = tt
said_legal f book at all small (Err (refused.CutsEntry b)) e = record { legal = named_is_legal f book at b all e; small = small }
