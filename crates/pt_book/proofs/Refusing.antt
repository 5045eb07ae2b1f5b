-- Why a map is refused, stage by stage, and what an allowed map has.
use Rattle.std.proofs.Common.{◌≡◌, ℕ, ◌+◌, ◌-◌, ◌*◌, ◌/◌, ◌%◌, ◌^◌, ◌<◌, ◌≤◌, Bool, true, false, inl, inr, List, [], Option, Some, None, refl, ap, ap₂, sym, ◌∙◌, arith}
use Rattle.std.specs.Prelude.{nat_le, nat_lt, ◌&&◌, ◌==◌, not, find, max, option_map, if◌then◌else◌}
use Rattle.std.proofs.lemmas.Nat.{shr_split, pow-add, mul-le, pow_pos}
use Rattle.std.proofs.lemmas.Bool.{and_parts, leb-true, ltb-false, eqb-true, cases_lt}
use Rattle.std.proofs.Math.Pow.{pow_mono}
use Rattle.pt_num.specs.declared.Span.{Span}
use Rattle.pt_model.specs.declared.block.Block.{Block}
use Rattle.pt_model.specs.Layout.{Layout, output_pages}
use Rattle.pt_model.specs.Pages.{page_at, page_under, has_page, byte_at, is_whole, range_at}
use Rattle.pt_model.specs.Tables.{starting_top}
use Rattle.pt_model.specs.Book.{Book, MapRefusal, Misaligned, OutsideLease, OutputRange, Occupied, is_inside, meets, lowest_mapped, map_refusal}
use Rattle.pt_format.specs.Ranges.{span_of}
use Rattle.pt_format.specs.Laws.{IsLayout}
use Rattle.pt_format.proofs.PageFacts.{count_small, under_small}

some_if : (t : Bool) (x y : ℕ) → Some y ≡ (if t then Some x else None) → y ≡ x
some_if true x y e = cc
some_if false x y e = absurd (let w : ⊥ = cc in w)

pub page_is : (f : Layout) (address page : ℕ) → Some page ≡ page_at f address → page ≡ page_under f address
page_is f address page e = some_if (has_page f address) (page_under f address) page e

abbrev pub run : ℕ → ℕ → ℕ × ℕ
run a n = (a, n)

span_if : (t : Bool) (a n : ℕ) (s : Span) → Some s ≡ option_map span_of (if t then Some (run a n) else None) →
    ((if t then Some (run a n) else None) ≡ Some (run s.first s.count)) × (s.first ≡ a) × (s.count ≡ n)
span_if true a n s e =
    let same : s ≡ span_of (run a n) = cc in
    let first : s.first ≡ a = ap (λ (x : Span). x.first) same in
    let count : s.count ≡ n = ap (λ (x : Span). x.count) same in
    (sym (ap₂ (λ (x y : ℕ). Some (run x y)) first count), first, count)
span_if false a n s e = absurd (let w : ⊥ = cc in w)

-- the span of a range that has one
pub span_is : (f : Layout) (va len : ℕ) (s : Span) → Some s ≡ option_map span_of (range_at f va len) →
    (range_at f va len ≡ Some (run s.first s.count)) × (s.first ≡ page_under f va) × (s.count ≡ len / 2 ^ f.granule)
span_is f va len s e =
    span_if (has_page f va && (has_page f (va + len - 1) && (nat_le (va + len) (2 ^ 64)
    && (page_under f va + len / 2 ^ f.granule == page_under f (va + len - 1) + 1)))) (page_under f va) (len / 2 ^ f.granule) s e

-- its end is a number of 64 bits
pub end_small : {f : Layout} → IsLayout f → (va len : ℕ) (s : Span) → len < 2 ^ 64 → Some s ≡ option_map span_of (range_at f va len) →
    s.first + s.count < 2 ^ 64
end_small {f} l va len s fits e =
    let span = span_is f va len s e in
    omega (arith, span.1, span.2, under_small f va l, count_small f len l fits)

-- a book with no tables
abbrev pub plain_book : Layout → (first count : ℕ) → List Block → Book
plain_book f first count blocks = record {
  first = first;
  count = count;
  blocks = blocks;
  tables = [];
  top = starting_top f.levels;
}

-- the last tests, and all that follow the first one
abbrev pub answer_by : Layout → (inside past : Bool) → (lowest : Option ℕ) → Option MapRefusal
answer_by f inside past lowest =
    if not inside then Some OutsideLease else (
    if past then Some OutputRange else
    option_map (λ page. Occupied (byte_at f page)) lowest)

abbrev pub stages : Layout → Book → (pa len : ℕ) → Option (ℕ × ℕ) → Option MapRefusal
stages f book pa len range = elim range [
  | None ↦ Some OutsideLease
  | Some range ↦
      answer_by f (is_inside book range.0 (range.0 + range.1)) (nat_lt (2 ^ f.output) (pa + len))
      (lowest_mapped book range.0 (range.0 + range.1))
]

-- what is left to test once the range is known
abbrev pub left_to_test : Layout → Book → (pa len : ℕ) → Span → Option MapRefusal
left_to_test f book pa len s =
    answer_by f (is_inside book s.first (s.first + s.count)) (nat_lt (2 ^ f.output) (pa + len))
    (lowest_mapped book s.first (s.first + s.count))

pub refusal_is : (f : Layout) (book : Book) (va pa len : ℕ) (s : Span) →
    ((is_whole f va && is_whole f pa) && (is_whole f len && nat_lt 0 len)) ≡ true →
    Some s ≡ option_map span_of (range_at f va len) →
    map_refusal f book va pa len ≡ left_to_test f book pa len s
refusal_is f book va pa len s whole e =
    ap (λ (w : Bool). if not w then Some Misaligned else stages f book pa len (range_at f va len)) whole
    ∙ ap (stages f book pa len) (span_is f va len s e).0

pub outside_is : (f : Layout) (book : Book) (pa len : ℕ) (s : Span) → is_inside book s.first (s.first + s.count) ≡ false →
    left_to_test f book pa len s ≡ Some OutsideLease
outside_is f book pa len s inside =
    ap (λ (t : Bool). answer_by f t (nat_lt (2 ^ f.output) (pa + len)) (lowest_mapped book s.first (s.first + s.count))) inside

pub output_is : (f : Layout) (book : Book) (pa len : ℕ) (s : Span) → is_inside book s.first (s.first + s.count) ≡ true →
    nat_lt (2 ^ f.output) (pa + len) ≡ true → left_to_test f book pa len s ≡ Some OutputRange
output_is f book pa len s inside past =
    ap₂ (λ (t p : Bool). answer_by f t p (lowest_mapped book s.first (s.first + s.count))) inside past

pub free_is : (f : Layout) (book : Book) (pa len : ℕ) (s : Span) → is_inside book s.first (s.first + s.count) ≡ true →
    nat_lt (2 ^ f.output) (pa + len) ≡ false → find (meets s.first (s.first + s.count)) book.blocks ≡ None →
    left_to_test f book pa len s ≡ None
free_is f book pa len s inside past none =
    ap₂ (λ (t p : Bool). answer_by f t p (lowest_mapped book s.first (s.first + s.count))) inside past
    ∙ ap (λ (o : Option Block). answer_by f true false (option_map (λ b. max s.first b.first) o)) none

pub occupied_is : (f : Layout) (book : Book) (pa len : ℕ) (s : Span) (b : Block) → is_inside book s.first (s.first + s.count) ≡ true →
    nat_lt (2 ^ f.output) (pa + len) ≡ false → find (meets s.first (s.first + s.count)) book.blocks ≡ Some b →
    left_to_test f book pa len s ≡ Some (Occupied (byte_at f (max s.first b.first)))
occupied_is f book pa len s b inside past some =
    ap₂ (λ (t p : Bool). answer_by f t p (lowest_mapped book s.first (s.first + s.count))) inside past
    ∙ ap (λ (o : Option Block). answer_by f true false (option_map (λ b. max s.first b.first) o)) some

-- What an allowed map has.

not_refused : (t : Bool) (r : MapRefusal) (rest : Option MapRefusal) → (if not t then Some r else rest) ≡ None → (t ≡ true) × (rest ≡ None)
not_refused true r rest e = (refl, e)
not_refused false r rest e = absurd (let w : ⊥ = cc in w)

not_past : (t : Bool) (r : MapRefusal) (rest : Option MapRefusal) → (if t then Some r else rest) ≡ None → t ≡ false
not_past true r rest e = absurd (let w : ⊥ = cc in w)
not_past false r rest e = refl

-- what the stages after the first one say of a range
after_whole : (f : Layout) (book : Book) (pa len : ℕ) (range : Option (ℕ × ℕ)) → stages f book pa len range ≡ None →
    nat_lt (2 ^ f.output) (pa + len) ≡ false
after_whole f book pa len None e = absurd (let w : ⊥ = cc in w)
after_whole f book pa len (Some range) e =
    not_past (nat_lt (2 ^ f.output) (pa + len)) OutputRange
    (option_map (λ page. Occupied (byte_at f page)) (lowest_mapped book range.0 (range.0 + range.1)))
    (not_refused (is_inside book range.0 (range.0 + range.1)) OutsideLease _ e).1

inside_if : (f : Layout) (book : Book) (pa len : ℕ) (t : Bool) (a n : ℕ) →
    stages f book pa len (if t then Some (run a n) else None) ≡ None → a + n ≤ book.first + book.count
inside_if f book pa len true a n e =
    let inside = (not_refused (is_inside book a (a + n)) OutsideLease _ e).0 in
    leb-true (a + n) (book.first + book.count) (and_parts (nat_le book.first a) (nat_le (a + n) (book.first + book.count)) inside).1
inside_if f book pa len false a n e = absurd (let w : ⊥ = cc in w)

-- the pages of an allowed map are of the span of the book
pub allowed_input : (f : Layout) (book : Book) (va pa len : ℕ) → map_refusal f book va pa len ≡ None →
    page_under f va + len / 2 ^ f.granule ≤ book.first + book.count
allowed_input f book va pa len e =
    inside_if f book pa len (has_page f va && (has_page f (va + len - 1) && (nat_le (va + len) (2 ^ 64)
    && (page_under f va + len / 2 ^ f.granule == page_under f (va + len - 1) + 1)))) (page_under f va) (len / 2 ^ f.granule)
    (not_refused ((is_whole f va && is_whole f pa) && (is_whole f len && nat_lt 0 len)) Misaligned _ e).1

-- the output pages of an allowed map are of the format
pub allowed_output : (f : Layout) → IsLayout f → (book : Book) (va pa len : ℕ) → map_refusal f book va pa len ≡ None →
    pa / 2 ^ f.granule + len / 2 ^ f.granule ≤ output_pages f
allowed_output f l book va pa len e =
    let stages = not_refused ((is_whole f va && is_whole f pa) && (is_whole f len && nat_lt 0 len)) Misaligned _ e in
    let parts = and_parts (is_whole f va && is_whole f pa) (is_whole f len && nat_lt 0 len) stages.0 in
    let first = and_parts (is_whole f va) (is_whole f pa) parts.0 in
    let last = and_parts (is_whole f len) (nat_lt 0 len) parts.1 in
    let whole_pa : pa % 2 ^ f.granule ≡ 0 = eqb-true (pa % 2 ^ f.granule) 0 first.1 in
    let whole_len : len % 2 ^ f.granule ≡ 0 = eqb-true (len % 2 ^ f.granule) 0 last.0 in
    let past = after_whole f book pa len (range_at f va len) stages.1 in
    let ends : pa + len ≤ 2 ^ f.output = ltb-false (2 ^ f.output) (pa + len) past in
    let bits : f.output - f.granule + f.granule ≡ f.output = omega (arith, l.output_low, l.granule_high) in
    let power : 2 ^ f.output ≡ 2 ^ (f.output - f.granule) * 2 ^ f.granule = ap (λ j. 2 ^ j) (sym bits) ∙ pow-add 2 (f.output - f.granule) f.granule in
    elim (cases_lt (2 ^ (f.output - f.granule)) (pa / 2 ^ f.granule + len / 2 ^ f.granule)) [
      | inl more ↦
          let product : (2 ^ (f.output - f.granule) + 1) * 2 ^ f.granule ≤ (pa / 2 ^ f.granule + len / 2 ^ f.granule) * 2 ^ f.granule =
          mul-le (2 ^ (f.output - f.granule) + 1) (2 ^ f.granule) (pa / 2 ^ f.granule + len / 2 ^ f.granule) (2 ^ f.granule) (omega arith) (omega arith) in
          absurd (omega (arith, product, shr_split pa f.granule, shr_split len f.granule, whole_pa, whole_len, ends, power, pow_pos f.granule))
      | inr low ↦ low
    ]

-- the bytes up to the end of an output page of the format
pub byte_fits : (f : Layout) → IsLayout f → (out : ℕ) → out < output_pages f → out * 2 ^ f.granule + 2 ^ f.granule ≤ 2 ^ 56
byte_fits f l out below =
    let sum : f.output - f.granule + f.granule ≡ f.output = omega (arith, l.output_low, l.granule_high) in
    let power : 2 ^ f.output ≡ 2 ^ (f.output - f.granule) * 2 ^ f.granule = ap (λ j. 2 ^ j) (sym sum) ∙ pow-add 2 (f.output - f.granule) f.granule in
    let wide : 2 ^ f.output ≤ 2 ^ 56 = pow_mono l.output_high in
    let more : (out + 1) * 2 ^ f.granule ≤ 2 ^ (f.output - f.granule) * 2 ^ f.granule = mul-le (out + 1) (2 ^ f.granule) (2 ^ (f.output - f.granule)) (2 ^ f.granule) (omega arith) (omega arith) in
    omega (arith, wide, power, more)
