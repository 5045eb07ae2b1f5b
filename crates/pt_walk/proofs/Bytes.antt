-- Addresses: the page of one, the bytes of output pages, and what a book translates one to.
use Rattle.std.proofs.Common.{◌≡◌, ℕ, ◌+◌, ◌-◌, ◌*◌, ◌%◌, ◌^◌, ◌<◌, ◌≤◌, Bool, true, false, inl, inr, refl, ap, ap₂, sym, ◌∙◌, arith}
use Rattle.std.specs.Prelude.{nat_le, not, Option, Some, None, option_map, if◌then◌else◌}
use Rattle.std.proofs.lemmas.Bool.{and_parts, leb-true, cases_Bool}
use Rattle.std.proofs.lemmas.Nat.{shl_whole, pow-add, mul-le}
use Rattle.std.proofs.Math.Pow.{pow_mono}
use Rattle.pt_model.specs.declared.block.Prot.{Prot}
use Rattle.pt_model.specs.Layout.{Layout, output_pages}
use Rattle.pt_model.specs.Pages.{has_page, page_at, page_under}
use Rattle.pt_model.specs.Book.{Book, is_inside, is_outside, translation, value_at}
use Rattle.pt_format.specs.Laws.{IsLayout}
use Rattle.pt_walk.specs.Walks.{IsPageIn}

pub out_bytes : (f : Layout) → IsLayout f → (out bits : ℕ) → bits ≡ f.granule → out < output_pages f →
    (out * 2 ^ bits % 2 ^ 64 ≡ out * 2 ^ f.granule) × (out * 2 ^ f.granule + 2 ^ f.granule ≤ 2 ^ 56)
out_bytes f l out bits e below =
    let sum : f.output - f.granule + f.granule ≡ f.output = omega (arith, l.output_low, l.granule_high) in
    let power : 2 ^ f.output ≡ 2 ^ (f.output - f.granule) * 2 ^ f.granule = ap (λ j. 2 ^ j) (sym sum) ∙ pow-add 2 (f.output - f.granule) f.granule in
    let wide : 2 ^ f.output ≤ 2 ^ 56 = pow_mono l.output_high in
    let more : (out + 1) * 2 ^ f.granule ≤ 2 ^ (f.output - f.granule) * 2 ^ f.granule = mul-le (out + 1) (2 ^ f.granule) (2 ^ (f.output - f.granule)) (2 ^ f.granule) (omega arith) (omega arith) in (
      ap (λ k. out * 2 ^ k % 2 ^ 64) e ∙ shl_whole out (f.output - f.granule) f.granule 64 below (omega (arith, sum, l.output_high)),
      omega (arith, wide, power, more),
    )

pub byte_made : (f : Layout) → IsLayout f → (out bits mask address : ℕ) → bits ≡ f.granule → mask ≡ address % 2 ^ f.granule →
    out < output_pages f → out * 2 ^ bits % 2 ^ 64 + mask ≡ out * 2 ^ f.granule + address % 2 ^ f.granule
byte_made f l out bits mask address e m below = ap₂ (λ a b. a + b) (out_bytes f l out bits e below).0 m

some_page : (b : Bool) (q page : ℕ) → (if b then Some q else None) ≡ Some page → q ≡ page
some_page true q page e = cc
some_page false q page e = absurd (let w : ⊥ = cc in w)

pub page_is : (f : Layout) (address page : ℕ) → page_at f address ≡ Some page → page_under f address ≡ page
page_is f address page e = some_page (has_page f address) (page_under f address) page e

-- an address with no page in the span is outside
pub outside_is : (f : Layout) (book : Book) (address : ℕ) → ((page : ℕ) → ¬ IsPageIn f book.first book.count address page) → is_outside f book address ≡ true
outside_is f book address none = by_page (page_at f address) refl
  where
    by_page : (o : Option ℕ) → page_at f address ≡ o → (elim o [ None ↦ true | Some page ↦ not (is_inside book page (page + 1)) ]) ≡ true
    by_page None e = refl
    by_page (Some page) e = elim (cases_Bool (is_inside book page (page + 1))) [
      | inl t ↦ absurd (
          let p : (nat_le book.first page ≡ true) × (nat_le (page + 1) (book.first + book.count) ≡ true) = and_parts (nat_le book.first page) _ t in
          let low = leb-true book.first page p.0 in
          let high = leb-true (page + 1) (book.first + book.count) p.1 in
          none page (e, low, omega arith))
      | inr z ↦ ap not z
    ]

pub translation_is : (f : Layout) (book : Book) (address page : ℕ) (to : Option (ℕ × Prot)) → page_at f address ≡ Some page → value_at book page ≡ to →
    translation f book address ≡ option_map (λ t. (t.0 * 2 ^ f.granule + address % 2 ^ f.granule, t.1)) to
translation_is f book address page to at value =
    ap (λ (q : ℕ). option_map (λ (t : ℕ × Prot). (t.0 * 2 ^ f.granule + address % 2 ^ f.granule, t.1)) (value_at book q)) (page_is f address page at)
    ∙ ap (option_map (λ (t : ℕ × Prot). (t.0 * 2 ^ f.granule + address % 2 ^ f.granule, t.1))) value
