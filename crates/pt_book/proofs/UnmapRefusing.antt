-- Why the taking away of a range is refused, stage by stage, and what an allowed one has.
use Rattle.std.proofs.Common.{◌≡◌, ℕ, ◌+◌, ◌-◌, ◌/◌, ◌^◌, ◌≤◌, Bool, true, false, Option, Some, None, refl, ap, ap₂, ◌∙◌}
use Rattle.std.specs.Prelude.{nat_le, nat_lt, ◌&&◌, ◌==◌, not, option_map, if◌then◌else◌}
use Rattle.std.proofs.lemmas.Bool.{and_parts, leb-true}
use Rattle.pt_num.specs.declared.Span.{Span}
use Rattle.pt_model.specs.declared.block.Block.{Block}
use Rattle.pt_model.specs.Layout.{Layout}
use Rattle.pt_model.specs.Pages.{page_under, has_page, is_whole, range_at}
use Rattle.pt_model.specs.Book.{Book, is_inside}
use Rattle.pt_model.specs.Unmap.{CutRefusal, Misaligned, OutsideLease, CutsEntry, lowest_cut, unmap_refusal}
use Rattle.pt_format.specs.Ranges.{span_of}
use Rattle.pt_book.proofs.Refusing.{run, span_is}

-- the last tests, and all that follow the first one
abbrev pub answer_by : (inside : Bool) → Option Block → Option CutRefusal
answer_by inside cut = if not inside then Some OutsideLease else option_map CutsEntry cut

abbrev pub stages : Book → Option (ℕ × ℕ) → Option CutRefusal
stages book range = elim range [
  | None ↦ Some OutsideLease
  | Some range ↦ answer_by (is_inside book range.0 (range.0 + range.1)) (lowest_cut book range.0 (range.0 + range.1))
]

abbrev pub whole : Layout → (va len : ℕ) → Bool
whole f va len = is_whole f va && (is_whole f len && nat_lt 0 len)

-- what is left to test once the range is known
pub refusal_is : (f : Layout) (book : Book) (va len : ℕ) (s : Span) → whole f va len ≡ true →
    Some s ≡ option_map span_of (range_at f va len) →
    unmap_refusal f book va len ≡ answer_by (is_inside book s.first (s.first + s.count)) (lowest_cut book s.first (s.first + s.count))
refusal_is f book va len s w e =
    ap (λ (t : Bool). if not t then Some Misaligned else stages book (range_at f va len)) w
    ∙ ap (stages book) (span_is f va len s e).0

-- by whether the range is of the span, and what it cuts
pub answer_is : (f : Layout) (book : Book) (va len : ℕ) (s : Span) (inside : Bool) (cut : Option Block) → whole f va len ≡ true →
    Some s ≡ option_map span_of (range_at f va len) →
    is_inside book s.first (s.first + s.count) ≡ inside → lowest_cut book s.first (s.first + s.count) ≡ cut →
    unmap_refusal f book va len ≡ answer_by inside cut
answer_is f book va len s inside cut w e i c = refusal_is f book va len s w e ∙ ap₂ answer_by i c

not_refused : (t : Bool) (r : CutRefusal) (rest : Option CutRefusal) → (if not t then Some r else rest) ≡ None → (t ≡ true) × (rest ≡ None)
not_refused true r rest e = (refl, e)
not_refused false r rest e = absurd (let w : ⊥ = cc in w)

inside_if : (book : Book) (t : Bool) (a n : ℕ) → stages book (if t then Some (run a n) else None) ≡ None → a + n ≤ book.first + book.count
inside_if book true a n e =
    let inside = (not_refused (is_inside book a (a + n)) OutsideLease _ e).0 in
    leb-true (a + n) (book.first + book.count) (and_parts (nat_le book.first a) (nat_le (a + n) (book.first + book.count)) inside).1
inside_if book false a n e = absurd (let w : ⊥ = cc in w)

-- the pages of an allowed range are of the span of the book
pub allowed_range : (f : Layout) (book : Book) (va len : ℕ) → unmap_refusal f book va len ≡ None →
    page_under f va + len / 2 ^ f.granule ≤ book.first + book.count
allowed_range f book va len e =
    inside_if book (has_page f va && (has_page f (va + len - 1) && (nat_le (va + len) (2 ^ 64)
    && (page_under f va + len / 2 ^ f.granule == page_under f (va + len - 1) + 1)))) (page_under f va) (len / 2 ^ f.granule)
    (not_refused (whole f va len) Misaligned _ e).1
