-- The sizes of VMSAv8-64 tables, by level: an entry, and a contiguous group.
use Rattle.std.proofs.Common.{◌≡◌, ℕ, ◌+◌, ◌-◌, ◌*◌, ◌/◌, ◌%◌, ◌^◌, ◌<◌, ◌≤◌, ◌⊎◌, inl, inr, refl, ap, ap₂, subst, sym, ◌∙◌, arith, true, false, Bool}
use Rattle.std.specs.Prelude.{IsTrue, ◌==◌, not, if◌then◌else◌}
use Rattle.std.proofs.lemmas.Grind.{common_steps}
use Rattle.std.proofs.lemmas.Nat.{mul-le, pow-add, pow_pos}
use Rattle.pt_model.specs.declared.block.Prot.{Prot}
use Rattle.pt_model.specs.Layout.{is_size, level_of_size}
use Rattle.pt_format.specs.Words.{MayBeLeaf, IsLeaf}
use Rattle.pt_manual.specs.VmsaWalk.{IsGranule}
use Rattle.pt_model.proofs.Quotients.{whole}
use Rattle.fmt_nine_bit.proofs.BlockFacts.{multiple, room_above}
use Rattle.fmt_vmsa.specs.VmsaWords.{IsEntry, entry_size, entry_word, group_log2, has_leaves, layout, leaf, size_of}
use Rattle.fmt_vmsa.specs.Granules.{by_granule, by_level, lesser, part_of, room}

-- a size of a level is that of an entry or of a group
pub record IsSizeOf (granule level log2 : ℕ) : Type 0 where
  pub leaves : IsTrue (has_leaves granule level)
  pub size_is : log2 ≡ size_of granule level (not (log2 == entry_size granule level))

in_12 : (log2 : ℕ) → IsTrue (is_size (layout 12) log2) →
    (log2 ≡ 0) ⊎ ((log2 ≡ 4) ⊎ ((log2 ≡ 9) ⊎ ((log2 ≡ 13) ⊎ ((log2 ≡ 18) ⊎ (log2 ≡ 22)))))
in_12 log2 size = grind (arith, common_steps)

in_14 : (log2 : ℕ) → IsTrue (is_size (layout 14) log2) → (log2 ≡ 0) ⊎ ((log2 ≡ 7) ⊎ ((log2 ≡ 11) ⊎ (log2 ≡ 16)))
in_14 log2 size = grind (arith, common_steps)

in_16 : (log2 : ℕ) → IsTrue (is_size (layout 16) log2) → (log2 ≡ 0) ⊎ ((log2 ≡ 5) ⊎ ((log2 ≡ 13) ⊎ (log2 ≡ 18)))
in_16 log2 size = grind (arith, common_steps)

abbrev Has : (granule log2 : ℕ) → Type 0
Has granule log2 = IsSizeOf granule (level_of_size (layout granule) log2) log2

sized : (granule log2 : ℕ) → IsTrue (has_leaves granule (level_of_size (layout granule) log2)) →
    log2 ≡ size_of granule (level_of_size (layout granule) log2) (not (log2 == entry_size granule (level_of_size (layout granule) log2))) →
    Has granule log2
sized granule log2 leaves size_is = record { leaves = leaves; size_is = size_is }

pub is_size_of : {granule : ℕ} → IsGranule granule → (log2 : ℕ) → IsTrue (is_size (layout granule) log2) → Has granule log2
is_size_of is log2 = by_granule (λ g. IsTrue (is_size (layout g) log2) → Has g log2)
    (λ size. elim (in_12 log2 size) [
      | inl e ↦ subst (Has 12) (sym e) (sized 12 0 refl refl)
      | inr (inl e) ↦ subst (Has 12) (sym e) (sized 12 4 refl refl)
      | inr (inr (inl e)) ↦ subst (Has 12) (sym e) (sized 12 9 refl refl)
      | inr (inr (inr (inl e))) ↦ subst (Has 12) (sym e) (sized 12 13 refl refl)
      | inr (inr (inr (inr (inl e)))) ↦ subst (Has 12) (sym e) (sized 12 18 refl refl)
      | inr (inr (inr (inr (inr e)))) ↦ subst (Has 12) (sym e) (sized 12 22 refl refl)
    ])
    (λ size. elim (in_14 log2 size) [
      | inl e ↦ subst (Has 14) (sym e) (sized 14 0 refl refl)
      | inr (inl e) ↦ subst (Has 14) (sym e) (sized 14 7 refl refl)
      | inr (inr (inl e)) ↦ subst (Has 14) (sym e) (sized 14 11 refl refl)
      | inr (inr (inr e)) ↦ subst (Has 14) (sym e) (sized 14 16 refl refl)
    ])
    (λ size. elim (in_16 log2 size) [
      | inl e ↦ subst (Has 16) (sym e) (sized 16 0 refl refl)
      | inr (inl e) ↦ subst (Has 16) (sym e) (sized 16 5 refl refl)
      | inr (inr (inl e)) ↦ subst (Has 16) (sym e) (sized 16 13 refl refl)
      | inr (inr (inr e)) ↦ subst (Has 16) (sym e) (sized 16 18 refl refl)
    ])
    is

-- and those of an entry and of a group are sizes
pub record AreSizes (granule level : ℕ) (contiguous : Bool) : Type 0 where
  pub a_size : IsTrue (is_size (layout granule) (size_of granule level contiguous))
  pub at_level : level_of_size (layout granule) (size_of granule level contiguous) ≡ level
  pub by_size : not (size_of granule level contiguous == entry_size granule level) ≡ contiguous

known : (granule level : ℕ) (contiguous : Bool) → IsTrue (is_size (layout granule) (size_of granule level contiguous)) →
    level_of_size (layout granule) (size_of granule level contiguous) ≡ level →
    not (size_of granule level contiguous == entry_size granule level) ≡ contiguous → AreSizes granule level contiguous
known granule level contiguous a_size at_level by_size = record { a_size = a_size; at_level = at_level; by_size = by_size }

pub are_sizes : {granule : ℕ} → IsGranule granule → (level : ℕ) (contiguous : Bool) → IsTrue (has_leaves granule level) →
    AreSizes granule level contiguous
are_sizes is level true = by_level (λ g l. AreSizes g l true) (known 12 0 true refl refl refl) (known 12 1 true refl refl refl)
    (known 12 2 true refl refl refl) (known 14 0 true refl refl refl) (known 14 1 true refl refl refl) (known 16 0 true refl refl refl)
    (known 16 1 true refl refl refl) is level
are_sizes is level false = by_level (λ g l. AreSizes g l false) (known 12 0 false refl refl refl) (known 12 1 false refl refl refl)
    (known 12 2 false refl refl refl) (known 14 0 false refl refl refl) (known 14 1 false refl refl refl) (known 16 0 false refl refl refl)
    (known 16 1 false refl refl refl) is level

-- The entry of a leaf that may be written.
module _ {granule : ℕ} (is : IsGranule granule) {level log2 out part : ℕ} {prot : Prot}
    (may : MayBeLeaf (layout granule) level log2 out prot part) where
  pub leaf_size : IsSizeOf granule level log2
  leaf_size = subst (λ l. IsSizeOf granule l log2) may.at_level (is_size_of is log2 may.a_size)

  pub at_least : entry_size granule level ≤ log2
  at_least = let s = leaf_size.size_is in omega arith

  -- a part is within its block
  in_block : (part + 1) * 2 ^ entry_size granule level ≤ 2 ^ log2
  in_block =
      let low = at_least in
      let few = may.a_part in
      let product : (part + 1) * 2 ^ entry_size granule level ≤ 2 ^ (log2 - entry_size granule level) * 2 ^ entry_size granule level =
      mul-le (part + 1) (2 ^ entry_size granule level) (2 ^ (log2 - entry_size granule level)) (2 ^ entry_size granule level)
      (omega arith) (omega arith) in
      let is' : log2 ≡ log2 - entry_size granule level + entry_size granule level = omega arith in
      let both : 2 ^ log2 ≡ 2 ^ (log2 - entry_size granule level) * 2 ^ entry_size granule level =
      ap (λ (m : ℕ). 2 ^ m) is' ∙ pow-add 2 (log2 - entry_size granule level) (entry_size granule level) in
      omega arith

  pub entry_aligned : (n : ℕ) → n % 2 ^ log2 ≡ 0 → (n + part * 2 ^ entry_size granule level) % 2 ^ entry_size granule level ≡ 0
  entry_aligned n aligned =
      let low = at_least in
      let split : log2 ≡ entry_size granule level + (log2 - entry_size granule level) = omega arith in
      let begins : n % 2 ^ entry_size granule level ≡ 0 =
      lesser n (entry_size granule level) (log2 - entry_size granule level) (subst (λ k. n % 2 ^ k ≡ 0) split aligned) in
      let own = whole n (entry_size granule level) begins in
      let sum : n + part * 2 ^ entry_size granule level ≡ (n / 2 ^ entry_size granule level + part) * 2 ^ entry_size granule level =
      omega arith in
      ap (λ m. m % 2 ^ entry_size granule level) sum ∙ multiple (n / 2 ^ entry_size granule level + part) (entry_size granule level)

  pub entry_of : (word : ℕ) → word ≡ leaf granule level log2 out prot part →
      IsEntry granule level (out + part * 2 ^ entry_size granule level) word prot (not (log2 == entry_size granule level))
  entry_of word word_is = record {
    at_leaves = leaf_size.leaves;
    within = let most = may.within in let b = in_block in let p = pow_pos (entry_size granule level) in omega arith;
    aligned = entry_aligned out may.aligned;
    stated = may.stated;
    word_is = word_is;
  }

-- an entry is that of a leaf
pub leaf_of : {granule : ℕ} → IsGranule granule → {level own word : ℕ} {prot : Prot} {contiguous : Bool} →
    IsEntry granule level own word prot contiguous → IsLeaf (layout granule) level word (size_of granule level contiguous) prot
leaf_of {granule} is {level} {own} {word} {prot} {contiguous} x =
    let sizes = are_sizes is level contiguous x.at_leaves in
    let place = room is level x.at_leaves in
    let p = part_of own (entry_size granule level) (more contiguous) x.aligned in
    let less = p.less in let within = x.within in let few = most contiguous in let fits = place.fits in
    let bits : size_of granule level contiguous - entry_size granule level ≡ more contiguous = omega arith in
    record {
      out = p.out;
      part = p.part;
      may = record {
        below = place.below;
        a_size = sizes.a_size;
        at_level = sizes.at_level;
        aligned = p.aligned;
        within = room_above p.out (size_of granule level contiguous) (48 - granule) (omega arith) (omega arith) p.aligned;
        stated = x.stated;
        a_part = subst (λ k. p.part < 2 ^ k) (sym bits) p.few;
      };
      word_is = x.word_is ∙ ap₂ (λ o c. entry_word granule level o prot c) (sym p.own_is) (sym sizes.by_size);
    }
  where
    more : Bool → ℕ
    more c = if c then group_log2 granule level else 0

    most : (c : Bool) → size_of granule level c ≤ entry_size granule level + group_log2 granule level
    most true = omega arith
    most false = omega arith
