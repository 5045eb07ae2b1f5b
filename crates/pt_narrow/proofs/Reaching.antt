-- Requests by a part of a book's span: those that reach out of it are refused, and the others are refused as by the book.
use Rattle.std.proofs.Common.{◌≡◌, ◌⊎◌, inl, inr, ℕ, ◌+◌, ◌-◌, ◌^◌, ◌<◌, ◌≤◌, Bool, true, false, Option, Some, None, refl, ap, sym, ◌∙◌, arith}
use Rattle.std.specs.Prelude.{nat_le, nat_lt, ◌&&◌, not, find, option_map, if◌then◌else◌}
use Rattle.std.proofs.lemmas.Bool.{and_from, and_parts, and_right, cases_lt, false≢true, leb-true, le-leb, le-ltb, lt-leb, lt-ltb, not-false}
use Rattle.pt_num.specs.declared.Span.{Span}
use Rattle.pt_format.specs.Ranges.{span_of}
use Rattle.pt_model.specs.declared.block.Block.{Block}
use Rattle.pt_model.specs.Layout.{Layout}
use Rattle.pt_model.specs.Pages.{byte_at, is_whole, page_at, range_at}
use Rattle.pt_model.specs.Book as book
use Rattle.pt_model.specs.Book.{Book, MapRefusal, is_inside, is_outside, lowest_mapped, map_refusal, span_end}
use Rattle.pt_model.specs.Unmap.{CutRefusal, Misaligned, OutsideLease, CutsEntry, lowest_cut, unmap_refusal}
use Rattle.pt_model.specs.Cuts.{crosses, cut_refusal}
use Rattle.pt_walk.specs.SpanCuts.{IsCutPage}
use Rattle.pt_narrow.specs.Standing.{has_outside, leaves, over_span, reaches_out}

-- The test of pages against a span, as numbers.

pub paged : (o : Option (ℕ × ℕ)) (range : Span) → Some range ≡ option_map span_of o → o ≡ Some (range.first, range.count)
paged None range e = absurd (let w : ⊥ = cc in w)
paged (Some r) range e =
    let same : range ≡ span_of r = cc in
    ap (λ (x : Span). Some (x.first, x.count)) (sym same)

abbrev is_left : (first count low number : ℕ) → Bool
is_left first count low number = not (nat_le first low && nat_le (low + number) (first + count))

pub left_out : (first count low number : ℕ) → (low < first) ⊎ (first + count < low + number) → is_left first count low number ≡ true
left_out first count low number (inl before) = let no : nat_le first low ≡ false = lt-leb first low before in rw no refl
left_out first count low number (inr behind) =
    let no : nat_le (low + number) (first + count) ≡ false = lt-leb (low + number) (first + count) behind in
    ap not (and_right (nat_le first low) (nat_le (low + number) (first + count)) no)

pub left_by_end : (first count low number : ℕ) → first ≤ low → low - first ≤ count → nat_lt (count - (low - first)) number ≡ is_left first count low number
left_by_end first count low number from room = elim (cases_lt (count - (low - first)) number) [
  | inl more ↦ lt-ltb (count - (low - first)) number more ∙ sym (left_out first count low number (inr (omega arith)))
  | inr few ↦
      let yes : (nat_le first low && nat_le (low + number) (first + count)) ≡ true =
      and_from (nat_le first low) _ (le-leb first low from) (le-leb (low + number) (first + count) (omega arith)) in
      le-ltb (count - (low - first)) number few ∙ sym (ap not yes)
]

module _ (f : Layout) (b : Book) (first count : ℕ) (from : b.first ≤ first) (to : first + count ≤ span_end b) where
  abbrev part : Book
  part = over_span b first count

  inside_both : (low high : ℕ) → is_inside part low high ≡ true → is_inside b low high ≡ true
  inside_both low high e =
      let h = and_parts (nat_le first low) _ e in
      let x = leb-true first low h.0 in
      let y = leb-true high (first + count) h.1 in
      and_from (nat_le b.first low) _ (le-leb b.first low (omega arith)) (le-leb high (span_end b) (omega arith))

  -- Maps.

  abbrev map_rest : Book → (pa len : ℕ) → Option (ℕ × ℕ) → Option MapRefusal
  map_rest x pa len o = elim o [
    | None ↦ Some book.OutsideLease
    | Some range ↦
        if not (is_inside x range.0 (range.0 + range.1)) then Some book.OutsideLease else (
        if nat_lt (2 ^ f.output) (pa + len) then Some book.OutputRange else
        option_map (λ page. book.Occupied (byte_at f page)) (lowest_mapped x range.0 (range.0 + range.1)))
  ]

  abbrev map_by : Book → (pa len : ℕ) → (wva wpa wlen : Bool) → Option (ℕ × ℕ) → Option MapRefusal
  map_by x pa len wva wpa wlen o = if not ((wva && wpa) && wlen) then Some book.Misaligned else map_rest x pa len o

  abbrev is_out : (wva wlen : Bool) → Option (ℕ × ℕ) → Bool
  is_out wva wlen o = leaves first count (if wva && wlen then o else None)

  map_in : (pa len : ℕ) (wva wpa wlen : Bool) (o : Option (ℕ × ℕ)) → (wpa && is_out wva wlen o) ≡ false →
      map_by part pa len wva wpa wlen o ≡ map_by b pa len wva wpa wlen o
  map_in pa len false wpa wlen o e = refl
  map_in pa len true false wlen o e = refl
  map_in pa len true true false o e = refl
  map_in pa len true true true None e = refl
  map_in pa len true true true (Some r) e =
      let here : is_inside part r.0 (r.0 + r.1) ≡ true = not-false (is_inside part r.0 (r.0 + r.1)) e in
      let there : is_inside b r.0 (r.0 + r.1) ≡ true = inside_both r.0 (r.0 + r.1) here in
      rw (here, there) refl

  map_out : (pa len : ℕ) (wva wpa wlen : Bool) (o : Option (ℕ × ℕ)) → (wpa && is_out wva wlen o) ≡ true →
      map_by part pa len wva wpa wlen o ≡ Some book.OutsideLease
  map_out pa len wva false wlen o e = absurd (false≢true e)
  map_out pa len false true wlen o e = absurd (false≢true e)
  map_out pa len true true false o e = absurd (false≢true e)
  map_out pa len true true true None e = refl
  map_out pa len true true true (Some r) e = rw e refl

  pub map_inside_alike : (va pa len : ℕ) → (is_whole f pa && reaches_out f first count va len) ≡ false →
      map_refusal f part va pa len ≡ map_refusal f b va pa len
  map_inside_alike va pa len = map_in pa len (is_whole f va) (is_whole f pa) (is_whole f len && nat_lt 0 len) (range_at f va len)

  pub map_outside : (va pa len : ℕ) → (is_whole f pa && reaches_out f first count va len) ≡ true →
      map_refusal f part va pa len ≡ Some book.OutsideLease
  map_outside va pa len = map_out pa len (is_whole f va) (is_whole f pa) (is_whole f len && nat_lt 0 len) (range_at f va len)

  -- Unmaps.

  abbrev unmap_rest : Book → Option (ℕ × ℕ) → Option CutRefusal
  unmap_rest x o = elim o [
    | None ↦ Some OutsideLease
    | Some range ↦
        if not (is_inside x range.0 (range.0 + range.1)) then Some OutsideLease else
        option_map CutsEntry (lowest_cut x range.0 (range.0 + range.1))
  ]

  abbrev unmap_by : Book → (wva wlen : Bool) → Option (ℕ × ℕ) → Option CutRefusal
  unmap_by x wva wlen o = if not (wva && wlen) then Some Misaligned else unmap_rest x o

  unmap_in : (wva wlen : Bool) (o : Option (ℕ × ℕ)) → is_out wva wlen o ≡ false → unmap_by part wva wlen o ≡ unmap_by b wva wlen o
  unmap_in false wlen o e = refl
  unmap_in true false o e = refl
  unmap_in true true None e = refl
  unmap_in true true (Some r) e =
      let here : is_inside part r.0 (r.0 + r.1) ≡ true = not-false (is_inside part r.0 (r.0 + r.1)) e in
      let there : is_inside b r.0 (r.0 + r.1) ≡ true = inside_both r.0 (r.0 + r.1) here in
      rw (here, there) refl

  unmap_out : (wva wlen : Bool) (o : Option (ℕ × ℕ)) → is_out wva wlen o ≡ true → unmap_by part wva wlen o ≡ Some OutsideLease
  unmap_out false wlen o e = absurd (false≢true e)
  unmap_out true false o e = absurd (false≢true e)
  unmap_out true true None e = refl
  unmap_out true true (Some r) e = rw e refl

  pub unmap_inside_alike : (va len : ℕ) → reaches_out f first count va len ≡ false → unmap_refusal f part va len ≡ unmap_refusal f b va len
  unmap_inside_alike va len = unmap_in (is_whole f va) (is_whole f len && nat_lt 0 len) (range_at f va len)

  pub unmap_outside : (va len : ℕ) → reaches_out f first count va len ≡ true → unmap_refusal f part va len ≡ Some OutsideLease
  unmap_outside va len = unmap_out (is_whole f va) (is_whole f len && nat_lt 0 len) (range_at f va len)

  -- Lookups.

  page_in : (o : Option ℕ) → elim o [ None ↦ true | Some page ↦ not (nat_le first page && nat_le (page + 1) (first + count)) ] ≡ false →
      elim o [ None ↦ true | Some page ↦ not (is_inside b page (page + 1)) ] ≡ false
  page_in None e = e
  page_in (Some page) e = ap not (inside_both page (page + 1) (not-false (is_inside part page (page + 1)) e))

  pub found_inside : (va : ℕ) → has_outside f first count va ≡ false → is_outside f b va ≡ false
  found_inside va = page_in (page_at f va)

  -- Cuts.

  whole_by : (w : Bool) (rest : Option CutRefusal) (o : Option Block) →
      (if not w then Some Misaligned else rest) ≡ option_map CutsEntry o → w ≡ true
  whole_by true rest o e = refl
  whole_by false rest None e = absurd (let w : ⊥ = cc in w)
  whole_by false rest (Some x) e = absurd (let w : ⊥ = cc in w)

  pub cut_inside_alike : (at page : ℕ) → IsCutPage f first count at page → cut_refusal f part at ≡ cut_refusal f b at
  cut_inside_alike at page is =
      let said : cut_refusal f part at ≡ option_map CutsEntry (find (crosses page) b.blocks) = is.refusal part refl refl in
      let whole : is_whole f at ≡ true = whole_by (is_whole f at) _ _ said in
      let above = is.above in
      let below = is.below in
      let paged : page_at f at ≡ Some page = is.is in
      let yes : (nat_lt b.first page && nat_lt page (span_end b)) ≡ true =
      and_from (nat_lt b.first page) _ (lt-ltb b.first page (omega arith)) (lt-ltb page (span_end b) (omega arith)) in
      let there : cut_refusal f b at ≡ option_map CutsEntry (find (crosses page) b.blocks) = rw (whole, paged, yes) refl in
      said ∙ sym there
