-- A book beside others answers as the book of the whole does.
use Rattle.std.proofs.Common.{◌≡◌, ℕ, ◌+◌, ◌-◌, ◌*◌, ◌/◌, ◌%◌, ◌^◌, ◌<◌, ◌≤◌, List, Bool, true, false, inl, inr, refl, ap, sym, subst, ◌∙◌, arith, Option, Some, None}
use Rattle.std.specs.Prelude.{find, not, nat_lt, nat_le, ◌&&◌, option_map, max, if◌then◌else◌}
use Rattle.std.proofs.lemmas.Bool.{cases_Bool, leb-true, ltb-true, and_parts, true≢false, not-false}
use Rattle.pt_model.specs.declared.block.Block.{Block}
use Rattle.pt_model.specs.declared.block.Prot.{Prot}
use Rattle.pt_model.specs.declared.position.Position.{Position}
use Rattle.pt_model.specs.Layout.{Layout}
use Rattle.pt_model.specs.Pages.{has_page, page_at, page_under, range_at, is_whole, byte_at}
use Rattle.pt_model.specs.Book as book
use Rattle.pt_model.specs.Book.{Book, MapRefusal, span_end, is_inside, meets, lies_in, lowest_mapped, map_refusal, mapped, add_blocks, table_lies_in, value_at, translation, is_outside}
use Rattle.pt_model.specs.Run.{found_answer}
use Rattle.pt_model.specs.declared.reply.LookupAnswer.TheVariants as looking
use Rattle.pt_model.specs.Unmap.{CutRefusal, Misaligned, OutsideLease, CutsEntry, is_cut, unmap_refusal, pages_gone, pages_in}
use Rattle.pt_model.specs.Cuts.{crosses, cut_refusal}
use Rattle.pt_model.specs.Dumps.{blocks_inside}
use Rattle.pt_laws.specs.Apart.{Rest, lifted}
use Rattle.pt_laws.proofs.Between.{find_between, passes_between, meets_apart, cut_apart, crosses_apart, lies_apart}

-- A guard that lets through.
guarded : {X : Type 0} (b : Bool) (x : X) (o : Option X) → (if b then Some x else o) ≡ None → (b ≡ false) × (o ≡ None)
guarded true x o e = cc
guarded false x o e = (refl, e)

range_parts : (b : Bool) (x y : ℕ) (r : ℕ × ℕ) → (if b then Some (x, y) else None) ≡ Some r → (x ≡ r.0) × (y ≡ r.1)
range_parts true x y r e = (cc, cc)
range_parts false x y r e = cc

inside_parts : (b : Book) (first last : ℕ) → is_inside b first last ≡ true → (b.first ≤ first) × (last ≤ span_end b)
inside_parts b first last e =
    let h = and_parts (nat_le b.first first) _ e in (leb-true b.first first h.0, leb-true last (span_end b) h.1)

-- where no refusal comes, the range is inside
unmap_in : (f : Layout) (b : Book) (o : Option (ℕ × ℕ)) →
    elim o as (λ _. Option CutRefusal) [
      | None ↦ Some OutsideLease
      | Some range ↦ if not (is_inside b range.0 (range.0 + range.1)) then Some OutsideLease else option_map CutsEntry (find (is_cut range.0 (range.0 + range.1)) b.blocks)
    ] ≡ None →
    (r : ℕ × ℕ) × (o ≡ Some r) × (is_inside b r.0 (r.0 + r.1) ≡ true)
unmap_in f b None e = cc
unmap_in f b (Some r) e = (r, refl, not-false (is_inside b r.0 (r.0 + r.1)) (guarded (not (is_inside b r.0 (r.0 + r.1))) OutsideLease _ e).0)

pub unmap_inside : (f : Layout) (b : Book) (va len : ℕ) → unmap_refusal f b va len ≡ None →
    (b.first ≤ page_under f va) × (page_under f va + len / 2 ^ f.granule ≤ span_end b)
unmap_inside f b va len e =
    let g = guarded (not (is_whole f va && (is_whole f len && nat_lt 0 len))) Misaligned _ e in
    let r : (r : ℕ × ℕ) × (range_at f va len ≡ Some r) × (is_inside b r.0 (r.0 + r.1) ≡ true) = unmap_in f b (range_at f va len) g.1 in
    let p = range_parts _ (page_under f va) (len / 2 ^ f.granule) r.0 r.1 in
    let i = inside_parts b r.0.0 (r.0.0 + r.0.1) r.2 in
    let x = p.0 in let y = p.1 in let z = i.0 in let w = i.1 in
    (omega arith, omega arith)

map_in : (f : Layout) (b : Book) (pa len : ℕ) (o : Option (ℕ × ℕ)) →
    elim o as (λ _. Option MapRefusal) [
      | None ↦ Some book.OutsideLease
      | Some range ↦
          if not (is_inside b range.0 (range.0 + range.1)) then Some book.OutsideLease else (
          if nat_lt (2 ^ f.output) (pa + len) then Some book.OutputRange else
          option_map (λ page. book.Occupied (byte_at f page)) (lowest_mapped b range.0 (range.0 + range.1)))
    ] ≡ None →
    (r : ℕ × ℕ) × (o ≡ Some r) × (is_inside b r.0 (r.0 + r.1) ≡ true)
map_in f b pa len None e = cc
map_in f b pa len (Some r) e = (r, refl, not-false (is_inside b r.0 (r.0 + r.1)) (guarded (not (is_inside b r.0 (r.0 + r.1))) book.OutsideLease _ e).0)

pub map_inside : (f : Layout) (b : Book) (va pa len : ℕ) → map_refusal f b va pa len ≡ None →
    (b.first ≤ page_under f va) × (page_under f va + len / 2 ^ f.granule ≤ span_end b)
map_inside f b va pa len e =
    let g = guarded (not ((is_whole f va && is_whole f pa) && (is_whole f len && nat_lt 0 len))) book.Misaligned _ e in
    let r : (r : ℕ × ℕ) × (range_at f va len ≡ Some r) × (is_inside b r.0 (r.0 + r.1) ≡ true) = map_in f b pa len (range_at f va len) g.1 in
    let p = range_parts _ (page_under f va) (len / 2 ^ f.granule) r.0 r.1 in
    let i = inside_parts b r.0.0 (r.0.0 + r.0.1) r.2 in
    let x = p.0 in let y = p.1 in let z = i.0 in let w = i.1 in
    (omega arith, omega arith)

cut_in : (f : Layout) (b : Book) (o : Option ℕ) →
    elim o as (λ _. Option CutRefusal) [
      | None ↦ Some OutsideLease
      | Some page ↦ if not (nat_lt b.first page && nat_lt page (span_end b)) then Some OutsideLease else option_map CutsEntry (find (crosses page) b.blocks)
    ] ≡ None →
    (r : ℕ) × (o ≡ Some r) × ((nat_lt b.first r && nat_lt r (span_end b)) ≡ true)
cut_in f b None e = cc
cut_in f b (Some r) e = (r, refl, not-false (nat_lt b.first r && nat_lt r (span_end b)) (guarded (not (nat_lt b.first r && nat_lt r (span_end b))) OutsideLease _ e).0)

page_part : (b : Bool) (x r : ℕ) → (if b then Some x else None) ≡ Some r → x ≡ r
page_part true x r e = cc
page_part false x r e = cc

pub cut_inside : (f : Layout) (b : Book) (at : ℕ) → cut_refusal f b at ≡ None →
    (b.first < page_under f at) × (page_under f at < span_end b)
cut_inside f b at e =
    let g = guarded (not (is_whole f at)) Misaligned _ e in
    let r : (r : ℕ) × (page_at f at ≡ Some r) × ((nat_lt b.first r && nat_lt r (span_end b)) ≡ true) = cut_in f b (page_at f at) g.1 in
    let p = page_part (has_page f at) (page_under f at) r.0 r.1 in
    let h = and_parts (nat_lt b.first r.0) _ r.2 in
    let x = ltb-true b.first r.0 h.0 in let y = ltb-true r.0 (span_end b) h.1 in
    (omega arith, omega arith)

page_inside : (p : Book) (has : Bool) (page : ℕ) →
    elim (if has then Some page else None) as (λ _. Bool) [ None ↦ true | Some q ↦ not (is_inside p q (q + 1)) ] ≡ false →
    is_inside p page (page + 1) ≡ true
page_inside p true page e = not-false (is_inside p page (page + 1)) e
page_inside p false page e = absurd (true≢false e)

found_none : (o : Option Block) → option_map CutsEntry o ≡ None → o ≡ None
found_none None e = refl
found_none (Some b) e = cc

free_at : (f : Layout) (b : Book) (o : Option ℕ) (page : ℕ) → o ≡ Some page →
    elim o as (λ _. Option CutRefusal) [
      | None ↦ Some OutsideLease
      | Some page ↦ if not (nat_lt b.first page && nat_lt page (span_end b)) then Some OutsideLease else option_map CutsEntry (find (crosses page) b.blocks)
    ] ≡ None → find (crosses page) b.blocks ≡ None
free_at f b None page e h = cc
free_at f b (Some r) page e h =
    let same : r ≡ page = cc in
    found_none _ (subst (λ (n : ℕ). option_map CutsEntry (find (crosses n) b.blocks) ≡ None) same (guarded (not (nat_lt b.first r && nat_lt r (span_end b))) OutsideLease _ h).1)

-- where a cut is admitted, no block crosses it
pub cut_free : (f : Layout) (b : Book) (at : ℕ) → cut_refusal f b at ≡ None → find (crosses (page_under f at)) b.blocks ≡ None
cut_free f b at e =
    let g = guarded (not (is_whole f at)) Misaligned _ e in
    let r : (r : ℕ) × (page_at f at ≡ Some r) × ((nat_lt b.first r && nat_lt r (span_end b)) ≡ true) = cut_in f b (page_at f at) g.1 in
    let p = page_part (has_page f at) (page_under f at) r.0 r.1 in
    free_at f b (page_at f at) (page_under f at) (r.1 ∙ ap Some (sym p)) g.1

module _ (f : Layout) (lo hi : ℕ) (rest : Rest f lo hi) (tables : List Position) (top : ℕ) (p : Book) (low : lo ≤ p.first) (high : span_end p ≤ hi) where
  abbrev whole : Book
  whole = lifted rest.front rest.back tables top p

  -- Refusals.

  map_ranged : (pa len : ℕ) (o : Option (ℕ × ℕ)) →
      elim o as (λ _. Option MapRefusal) [
        | None ↦ Some book.OutsideLease
        | Some range ↦
            if not (is_inside whole range.0 (range.0 + range.1)) then Some book.OutsideLease else (
            if nat_lt (2 ^ f.output) (pa + len) then Some book.OutputRange else
            option_map (λ page. book.Occupied (byte_at f page)) (lowest_mapped whole range.0 (range.0 + range.1)))
      ]
      ≡ elim o as (λ _. Option MapRefusal) [
        | None ↦ Some book.OutsideLease
        | Some range ↦
            if not (is_inside p range.0 (range.0 + range.1)) then Some book.OutsideLease else (
            if nat_lt (2 ^ f.output) (pa + len) then Some book.OutputRange else
            option_map (λ page. book.Occupied (byte_at f page)) (lowest_mapped p range.0 (range.0 + range.1)))
      ]
  map_ranged pa len None = refl
  map_ranged pa len (Some r) = elim (cases_Bool (is_inside p r.0 (r.0 + r.1))) [
    | inl e ↦
        let i = inside_parts p r.0 (r.0 + r.1) e in
        let x = i.0 in let y = i.1 in
        let found : find (meets r.0 (r.0 + r.1)) whole.blocks ≡ find (meets r.0 (r.0 + r.1)) p.blocks =
        find_between lo hi (meets r.0 (r.0 + r.1)) (meets_apart lo hi r.0 (r.0 + r.1) (omega arith) (omega arith)) rest.front p.blocks rest.back rest.front_ends rest.back_begins in
        ap (λ (o : Option Block). if not (is_inside p r.0 (r.0 + r.1)) then Some book.OutsideLease else (
        if nat_lt (2 ^ f.output) (pa + len) then Some book.OutputRange else
        option_map (λ page. book.Occupied (byte_at f page)) (option_map (λ b. max r.0 b.first) o))) found
    | inr e ↦ rw e refl
  ]

  pub map_same : (va pa len : ℕ) → map_refusal f whole va pa len ≡ map_refusal f p va pa len
  map_same va pa len =
      ap (λ (o : Option MapRefusal). if not ((is_whole f va && is_whole f pa) && (is_whole f len && nat_lt 0 len)) then Some book.Misaligned else o)
      (map_ranged pa len (range_at f va len))

  unmap_ranged : (o : Option (ℕ × ℕ)) →
      elim o as (λ _. Option CutRefusal) [
        | None ↦ Some OutsideLease
        | Some range ↦ if not (is_inside whole range.0 (range.0 + range.1)) then Some OutsideLease else option_map CutsEntry (find (is_cut range.0 (range.0 + range.1)) whole.blocks)
      ]
      ≡ elim o as (λ _. Option CutRefusal) [
        | None ↦ Some OutsideLease
        | Some range ↦ if not (is_inside p range.0 (range.0 + range.1)) then Some OutsideLease else option_map CutsEntry (find (is_cut range.0 (range.0 + range.1)) p.blocks)
      ]
  unmap_ranged None = refl
  unmap_ranged (Some r) = elim (cases_Bool (is_inside p r.0 (r.0 + r.1))) [
    | inl e ↦
        let i = inside_parts p r.0 (r.0 + r.1) e in
        let x = i.0 in let y = i.1 in
        let found : find (is_cut r.0 (r.0 + r.1)) whole.blocks ≡ find (is_cut r.0 (r.0 + r.1)) p.blocks =
        find_between lo hi (is_cut r.0 (r.0 + r.1)) (cut_apart lo hi r.0 (r.0 + r.1) (omega arith) (omega arith)) rest.front p.blocks rest.back rest.front_ends rest.back_begins in
        ap (λ (o : Option Block). if not (is_inside p r.0 (r.0 + r.1)) then Some OutsideLease else option_map CutsEntry o) found
    | inr e ↦ rw e refl
  ]

  pub unmap_same : (va len : ℕ) → unmap_refusal f whole va len ≡ unmap_refusal f p va len
  unmap_same va len =
      ap (λ (o : Option CutRefusal). if not (is_whole f va && (is_whole f len && nat_lt 0 len)) then Some Misaligned else o)
      (unmap_ranged (range_at f va len))

  cut_ranged : (o : Option ℕ) →
      elim o as (λ _. Option CutRefusal) [
        | None ↦ Some OutsideLease
        | Some page ↦ if not (nat_lt whole.first page && nat_lt page (span_end whole)) then Some OutsideLease else option_map CutsEntry (find (crosses page) whole.blocks)
      ]
      ≡ elim o as (λ _. Option CutRefusal) [
        | None ↦ Some OutsideLease
        | Some page ↦ if not (nat_lt p.first page && nat_lt page (span_end p)) then Some OutsideLease else option_map CutsEntry (find (crosses page) p.blocks)
      ]
  cut_ranged None = refl
  cut_ranged (Some r) = elim (cases_Bool (nat_lt p.first r && nat_lt r (span_end p))) [
    | inl e ↦
        let h = and_parts (nat_lt p.first r) _ e in
        let x = ltb-true p.first r h.0 in let y = ltb-true r (span_end p) h.1 in
        let found : find (crosses r) whole.blocks ≡ find (crosses r) p.blocks =
        find_between lo hi (crosses r) (crosses_apart lo hi r (omega arith) (omega arith)) rest.front p.blocks rest.back rest.front_ends rest.back_begins in
        ap (λ (o : Option Block). if not (nat_lt p.first r && nat_lt r (span_end p)) then Some OutsideLease else option_map CutsEntry o) found
    | inr e ↦ rw e refl
  ]

  pub cut_same : (at : ℕ) → cut_refusal f whole at ≡ cut_refusal f p at
  cut_same at = ap (λ (o : Option CutRefusal). if not (is_whole f at) then Some Misaligned else o) (cut_ranged (page_at f at))

  -- Lookups and dumps.

  found_same : (page : ℕ) → is_inside p page (page + 1) ≡ true → value_at whole page ≡ value_at p page
  found_same page e =
      let i = inside_parts p page (page + 1) e in
      let x = i.0 in let y = i.1 in
      ap (option_map (λ (b : Block). (b.out + (page - b.first), b.prot)))
      (find_between lo hi (meets page (page + 1)) (meets_apart lo hi page (page + 1) (omega arith) (omega arith)) rest.front p.blocks rest.back rest.front_ends rest.back_begins)

  translated : (address : ℕ) → is_outside f p address ≡ false → translation f whole address ≡ translation f p address
  translated address e =
      ap (option_map (λ (t : ℕ × Prot). (t.0 * 2 ^ f.granule + address % 2 ^ f.granule, t.1)))
      (found_same (page_under f address) (page_inside p (has_page f address) (page_under f address) e))

  pub lookup_same : (va : ℕ) →
      (if is_outside f whole va then looking.Outside else found_answer (translation f whole va))
      ≡ (if is_outside f p va then looking.Outside else found_answer (translation f p va))
  lookup_same va = elim (cases_Bool (is_outside f p va)) [
    | inl e ↦ rw e refl
    | inr e ↦ ap (λ (t : Option (ℕ × Prot)). if is_outside f p va then looking.Outside else found_answer t) (translated va e)
  ]

  pub dump_same : blocks_inside whole ≡ blocks_inside p
  dump_same =
      passes_between lo hi (lies_in p.first (span_end p)) (lies_apart lo hi p.first (span_end p) low high) rest.front p.blocks rest.back rest.front_ends rest.back_begins

  pub pages_same : (first count : ℕ) → p.first ≤ first → first + count ≤ span_end p → pages_gone whole first count ≡ pages_gone p first count
  pages_same first count i j =
      ap pages_in
      (passes_between lo hi (lies_in first (first + count)) (lies_apart lo hi first (first + count) (omega arith) (omega arith)) rest.front p.blocks rest.back rest.front_ends rest.back_begins)
