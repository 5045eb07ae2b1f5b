-- The words of VMSAv8-64 tables, to the manual and to code.
use Rattle.std.proofs.Common.{◌≡◌, ℕ, zero, suc, ◌+◌, ◌-◌, ◌*◌, ◌/◌, ◌%◌, ◌^◌, ◌<◌, refl, ap, ap₂, sym, ◌∙◌, arith, true, false, Bool}
use Rattle.std.specs.Prelude.{IsTrue, nat_lt, ◌==◌}
use Rattle.std.proofs.lemmas.Bool.{lt-ltb, ne_eqb}
use Rattle.pt_model.specs.declared.block.Prot.{Prot}
use Rattle.pt_model.specs.declared.block.Prot.TheVariants.{Read, ReadWrite}
use Rattle.pt_model.specs.Layout.{is_common}
use Rattle.pt_format.proofs.Permissions.{of_common}
use Rattle.pt_manual.specs.EntryBits.{is_aligned}
use Rattle.pt_manual.specs.VmsaWalk.{IsGranule, address_in, descriptor_at, descriptor_by, entry_log2, has_blocks, index_bits, others_in}
use Rattle.pt_manual.specs.declared.descriptor.Descriptor.TheVariants.{Invalid, Table, Page}
use Rattle.fmt_nine_bit.proofs.BlockFacts.{aligned_bytes}
use Rattle.fmt_vmsa.specs.VmsaWords.{IsEntry, IsPointerOf, entry_size, has_leaves, in_group, of_leaf}
use Rattle.fmt_vmsa.specs.Granules.{by_granule, by_level, room}

-- what is set in a leaf above the lowest level
pub upper_leaf : (level : ℕ) (prot : Prot) → 0 < level → of_leaf level prot ≡ of_leaf 1 prot
upper_leaf level prot some = let no : (level == 0) ≡ false = ne_eqb _ _ (λ e. omega arith) in rw no refl

pub leaf_small : (level : ℕ) (prot : Prot) → IsTrue (is_common prot) → of_leaf level prot < 2 ^ 12
leaf_small zero = of_common (λ prot. of_leaf 0 prot < 2 ^ 12) (omega arith) (omega arith)
leaf_small (suc level) =
    of_common (λ prot. of_leaf (suc level) prot < 2 ^ 12) (rw (upper_leaf (suc level) Read (omega arith)) (omega arith))
    (rw (upper_leaf (suc level) ReadWrite (omega arith)) (omega arith))

in_group_is : (contiguous : Bool) → in_group contiguous % 2 ^ 52 ≡ 0
in_group_is true = refl
in_group_is false = refl

-- Own pages, attributes below them, and Contiguous.
module _ {granule : ℕ} (is : IsGranule granule) (own low : ℕ) (within : own < 2 ^ (48 - granule)) (small : low < 2 ^ 12) where
  pub page_of : (contiguous : Bool) → (own * 2 ^ granule + (low + in_group contiguous)) % 2 ^ 48 / 2 ^ granule ≡ own
  page_of contiguous =
      let mark = in_group_is contiguous in
      by_granule (λ g. own < 2 ^ (48 - g) → (own * 2 ^ g + (low + in_group contiguous)) % 2 ^ 48 / 2 ^ g ≡ own)
      (λ w. omega arith) (λ w. omega arith) (λ w. omega arith) is within

  pub address_of : (contiguous : Bool) → address_in granule (own * 2 ^ granule + (low + in_group contiguous)) ≡ own * 2 ^ granule
  address_of contiguous = ap (λ n. n * 2 ^ granule) (page_of contiguous)

  pub others_of : (contiguous : Bool) → others_in granule (own * 2 ^ granule + (low + in_group contiguous)) ≡ low + in_group contiguous
  others_of contiguous = let address = address_of contiguous in omega (arith, address)

  pub low_of : (contiguous : Bool) → (own * 2 ^ granule + (low + in_group contiguous)) % 2 ^ 12 ≡ low
  low_of contiguous =
      let mark = in_group_is contiguous in
      by_granule (λ g. (own * 2 ^ g + (low + in_group contiguous)) % 2 ^ 12 ≡ low) (omega arith) (omega arith) (omega arith) is

  pub group_of : (contiguous : Bool) → (own * 2 ^ granule + (low + in_group contiguous)) / 2 ^ 52 * 2 ^ 52 ≡ in_group contiguous
  group_of contiguous =
      let mark = in_group_is contiguous in
      by_granule (λ g. own < 2 ^ (48 - g) → (own * 2 ^ g + (low + in_group contiguous)) / 2 ^ 52 * 2 ^ 52 ≡ in_group contiguous)
      (λ w. omega arith) (λ w. omega arith) (λ w. omega arith) is within

-- the size of what is under an entry, by the manual's level
entry_bytes : (granule level : ℕ) → level < 4 → entry_log2 granule (3 - level) ≡ granule + entry_size granule level
entry_bytes granule level low =
    let back : 3 - (3 - level) ≡ level = omega arith in
    ap (λ n. granule + index_bits granule * n) back

-- the descriptor of each form
page_form : (granule address : ℕ) (prot : Prot) → IsTrue (is_common prot) → (contiguous : Bool) →
    descriptor_by granule 3 address (of_leaf 0 prot + in_group contiguous) ≡ Page address (entry_log2 granule 3) prot
page_form granule address Read stated true = refl
page_form granule address Read stated false = refl
page_form granule address ReadWrite stated true = refl
page_form granule address ReadWrite stated false = refl

block_form : (granule level address : ℕ) (prot : Prot) → IsTrue (is_common prot) → (contiguous : Bool) →
    has_blocks granule level ≡ true → is_aligned (entry_log2 granule level) address ≡ true →
    descriptor_by granule level address (of_leaf 1 prot + in_group contiguous) ≡ Page address (entry_log2 granule level) prot
block_form granule level address Read stated true blocks aligned = rw (blocks, aligned) refl
block_form granule level address Read stated false blocks aligned = rw (blocks, aligned) refl
block_form granule level address ReadWrite stated true blocks aligned = rw (blocks, aligned) refl
block_form granule level address ReadWrite stated false blocks aligned = rw (blocks, aligned) refl

blocks_above : {granule : ℕ} → IsGranule granule → (level : ℕ) → IsTrue (has_leaves granule level) → 0 < level →
    has_blocks granule (3 - level) ≡ true
blocks_above = by_level (λ g l. 0 < l → has_blocks g (3 - l) ≡ true) (λ some. absurd (omega arith)) (λ some. refl) (λ some. refl)
    (λ some. absurd (omega arith)) (λ some. refl) (λ some. absurd (omega arith)) (λ some. refl)

leaf_form : {granule : ℕ} → IsGranule granule → (level own : ℕ) (prot : Prot) (contiguous : Bool) → IsTrue (has_leaves granule level) →
    own % 2 ^ entry_size granule level ≡ 0 → IsTrue (is_common prot) →
    descriptor_by granule (3 - level) (own * 2 ^ granule) (of_leaf level prot + in_group contiguous)
    ≡ Page (own * 2 ^ granule) (entry_log2 granule (3 - level)) prot
leaf_form {granule} is zero own prot contiguous leaves aligned stated = page_form granule (own * 2 ^ granule) prot stated contiguous
leaf_form {granule} is (suc level) own prot contiguous leaves aligned stated =
    let low = (room is (suc level) leaves).low in
    ap (λ n. descriptor_by granule (3 - suc level) (own * 2 ^ granule) (n + in_group contiguous)) (upper_leaf (suc level) prot (omega arith))
    ∙ block_form granule (3 - suc level) (own * 2 ^ granule) prot stated contiguous (blocks_above is (suc level) leaves (omega arith))
    (ap (λ k. is_aligned k (own * 2 ^ granule)) (entry_bytes granule (suc level) (omega arith))
    ∙ aligned_bytes granule (entry_size granule (suc level)) own aligned)

-- a frame's address as pages
frame_page : {granule : ℕ} → IsGranule granule → (frame : ℕ) → frame < 2 ^ (27 - granule) →
    (2 ^ 32 + frame * 2 ^ granule ≡ (2 ^ (32 - granule) + frame) * 2 ^ granule) × (2 ^ (32 - granule) + frame < 2 ^ (48 - granule))
frame_page is frame =
    by_granule
    (λ g. frame < 2 ^ (27 - g) → (2 ^ 32 + frame * 2 ^ g ≡ (2 ^ (32 - g) + frame) * 2 ^ g) × (2 ^ (32 - g) + frame < 2 ^ (48 - g)))
    (λ f. (omega arith, omega arith)) (λ f. (omega arith, omega arith)) (λ f. (omega arith, omega arith)) is

-- the manual gives an entry's own pages
pub entry_descriptor : {granule : ℕ} → IsGranule granule → {level own word : ℕ} {prot : Prot} {contiguous : Bool} →
    IsEntry granule level own word prot contiguous →
    descriptor_at granule (3 - level) word ≡ Page (own * 2 ^ granule) (granule + entry_size granule level) prot
entry_descriptor {granule} is {level} {own} {word} {prot} {contiguous} x =
    let small = leaf_small level prot x.stated in
    let low = (room is level x.at_leaves).low in
    ap (descriptor_at granule (3 - level)) x.word_is
    ∙ ap₂ (descriptor_by granule (3 - level)) (address_of is own (of_leaf level prot) x.within small contiguous)
    (others_of is own (of_leaf level prot) x.within small contiguous)
    ∙ leaf_form is level own prot contiguous x.at_leaves x.aligned x.stated
    ∙ ap (λ k. Page (own * 2 ^ granule) k prot) (entry_bytes granule level (omega arith))

pub pointer_descriptor : {granule : ℕ} → IsGranule granule → {level word address : ℕ} → IsPointerOf granule level word address →
    descriptor_at granule (3 - level) word ≡ Table address
pointer_descriptor {granule} is {level} {word} {address} p =
    let parts = frame_page is p.a_frame.frame p.a_frame.in_limit in
    let page : ℕ = 2 ^ (32 - granule) + p.a_frame.frame in
    let address_is : address ≡ page * 2 ^ granule = p.a_frame.address_is ∙ parts.0 in
    let word_is : word ≡ page * 2 ^ granule + (3 + in_group false) = omega (arith, p.word_is, address_is) in
    let some = p.above in
    let upper : nat_lt (3 - level) 3 ≡ true = lt-ltb _ _ (omega arith) in
    ap (descriptor_at granule (3 - level)) word_is
    ∙ ap₂ (descriptor_by granule (3 - level)) (address_of is page 3 parts.1 (omega arith) false)
    (others_of is page 3 parts.1 (omega arith) false)
    ∙ rw upper (ap Table (sym address_is))

pub empty_descriptor : {granule : ℕ} → IsGranule granule → (level : ℕ) → descriptor_at granule level 0 ≡ Invalid
empty_descriptor is level = by_granule (λ g. descriptor_at g level 0 ≡ Invalid) refl refl refl is
