-- The laws of VMSAv8-64 tables, for each granule.
use Rattle.std.proofs.Common.{◌≡◌, ℕ, ◌+◌, ◌-◌, ◌*◌, ◌/◌, ◌%◌, ◌^◌, ◌<◌, ◌≤◌, refl, ap, ap₂, sym, ◌∙◌, arith, true, false, Bool}
use Rattle.std.specs.Prelude.{IsTrue}
use Rattle.std.proofs.lemmas.Nat.{mod_below, pow_pos, shl-shr}
use Rattle.pt_model.specs.declared.block.Prot.{Prot}
use Rattle.pt_model.specs.Layout.{is_size, level_of_size, page}
use Rattle.pt_format.specs.Words.{MayBeLeaf, IsPointer, IsTableAddress}
use Rattle.pt_format.specs.Laws.{HasConstants, IsLayout, WordsDiffer}
use Rattle.pt_format.specs.FourKibLaws.{layout_of}
use Rattle.pt_format.specs.Manual.{StepsAgree}
use Rattle.pt_manual.specs.VmsaWalk.{BLOCK, IsGranule, descriptor_at, index_bits}
use Rattle.fmt_nine_bit.proofs.BlockFacts.{place, room_above}
use Rattle.fmt_nine_bit.proofs.PermissionFacts.{one_permission}
use Rattle.fmt_vmsa.specs.VmsaWords.{IsEntry, IsPointerOf, entry_size, found, in_group, layout, leaf, levels_of, of_leaf, pointer, size_of}
use Rattle.fmt_vmsa.specs.Granules.{by_granule, few_levels, granule_range, room}
use Rattle.fmt_vmsa.specs.VmsaFacts.{empty_descriptor, entry_descriptor, group_of, leaf_small, low_of, pointer_descriptor}
use Rattle.fmt_vmsa.specs.VmsaSizes.{entry_aligned, entry_of, is_size_of, leaf_size}

pub has_constants : (granule levels : ℕ) → levels_of granule ≡ levels →
    HasConstants (layout granule) granule (index_bits granule) 48 48 levels levels false false
has_constants granule levels are = record {
  granule_is = refl;
  index_is = refl;
  input_is = refl;
  output_is = refl;
  start_is = are;
  levels_is = are;
  grows_is = refl;
  signed_is = refl;
}

pub lawful_layout : {granule : ℕ} → IsGranule granule → IsLayout (layout granule)
lawful_layout {granule} is =
    let range = granule_range is in let counts = few_levels is in
    let low = range.0 in let high = range.1 in let some = counts.0 in let few = counts.1 in
    let levels : ℕ = levels_of granule in
    layout_of (layout granule) granule (index_bits granule) 48 48 levels levels false false (has_constants granule levels refl)
    low high (omega arith) some (omega arith) (omega arith) (λ e. refl) (omega arith) (omega arith) (omega arith)
    (by_granule (λ g. 48 ≤ g + (g - 3) * levels_of g) (omega arith) (omega arith) (omega arith) is) (omega arith) (omega arith)
    (by_granule (λ g. IsTrue (is_size (layout g) 0)) refl refl refl is)
    (λ k size. (room is (level_of_size (layout granule) k) (is_size_of is k size).leaves).below) refl refl

-- bit 52 tells whether an entry is of a group
one_group : (c d : Bool) → in_group c ≡ in_group d → c ≡ d
one_group true true e = refl
one_group true false e = absurd (omega arith)
one_group false true e = absurd (omega arith)
one_group false false e = refl

module _ {granule : ℕ} (is : IsGranule granule) where
  -- what an entry ends in
  entry_low : {level own word : ℕ} {prot : Prot} {contiguous : Bool} → IsEntry granule level own word prot contiguous →
      word % 2 ^ 12 ≡ of_leaf level prot
  entry_low {level} {own} {word} {prot} {contiguous} x =
      ap (λ n. n % 2 ^ 12) x.word_is ∙ low_of is own (of_leaf level prot) x.within (leaf_small level prot x.stated) contiguous

  entry_group : {level own word : ℕ} {prot : Prot} {contiguous : Bool} → IsEntry granule level own word prot contiguous →
      word / 2 ^ 52 * 2 ^ 52 ≡ in_group contiguous
  entry_group {level} {own} {word} {prot} {contiguous} x =
      ap (λ n. n / 2 ^ 52 * 2 ^ 52) x.word_is ∙ group_of is own (of_leaf level prot) x.within (leaf_small level prot x.stated) contiguous

  pub pointer_low : (address : ℕ) → IsTableAddress (layout granule) address → pointer address % 2 ^ 12 ≡ 3
  pointer_low address at =
      ap (λ n. pointer n % 2 ^ 12) at.address_is
      ∙ by_granule (λ g. pointer (2 ^ 32 + at.frame * 2 ^ g) % 2 ^ 12 ≡ 3) (omega arith) (omega arith) (omega arith) is

  some_leaf : {level log2 out part : ℕ} {prot : Prot} → MayBeLeaf (layout granule) level log2 out prot part →
      BLOCK ≤ leaf granule level log2 out prot part % 2 ^ 12
  some_leaf {level} {log2} {out} {part} {prot} may = let low = entry_low (entry_of is may _ refl) in omega arith

  pub words_differ : WordsDiffer (layout granule)
  words_differ = record {
    leaf_some = λ level log2 out part prot may e. let some = some_leaf may in omega (arith, ap (λ n. n % 2 ^ 12) e);
    pointer_some = λ level address at frame e. omega arith;
    apart = λ level log2 out part address prot may at frame e.
        let some = some_leaf may in let low = pointer_low address frame in omega (arith, ap (λ n. n % 2 ^ 12) e);
    one_address = λ level a b at fa fb e. omega arith;
    one_size = λ level j k out out' part part' p q may may' e.
        let x = entry_of is may (leaf granule level j out p part) refl in
        let x' = entry_of is may' (leaf granule level j out p part) e in
        let group = one_group _ _ (sym (entry_group x) ∙ entry_group x') in (
          (leaf_size is may).size_is ∙ ap (size_of granule level) group ∙ sym (leaf_size is may').size_is,
          one_permission (of_leaf level) (λ e. omega arith) p q may.stated may'.stated (sym (entry_low x) ∙ entry_low x'),
        );
  }

  -- the page that the manual's step finds at an entry
  pub entry_found : {level own word : ℕ} {prot : Prot} {contiguous : Bool} → IsEntry granule level own word prot contiguous →
      (here : ℕ) → found granule here (descriptor_at granule (3 - level) word) ≡ page (own + here % 2 ^ entry_size granule level) prot
  entry_found {level} {own} {word} {prot} x here =
      let bits : granule + entry_size granule level - granule ≡ entry_size granule level = omega arith in
      ap (found granule here) (entry_descriptor is x)
      ∙ ap₂ (λ o k. page (o + here % 2 ^ k) prot) (shl-shr own granule) bits

  pub entry_within : {level own word : ℕ} {prot : Prot} {contiguous : Bool} → IsEntry granule level own word prot contiguous →
      (here : ℕ) → own + here % 2 ^ entry_size granule level < 2 ^ (48 - granule)
  entry_within {level} {own} x here =
      let fits = (room is level x.at_leaves).fits in
      let most = room_above own (entry_size granule level) (48 - granule) (omega arith) x.within x.aligned in
      let offset = mod_below here (2 ^ entry_size granule level) (pow_pos (entry_size granule level)) in
      omega arith

  pub pointer_of : {level word address : ℕ} → IsPointer (layout granule) level word address → IsPointerOf granule level word address
  pointer_of p = record { above = p.at_level.above; below = p.at_level.below; a_frame = p.a_frame; word_is = p.word_is }

  pub steps_agree : StepsAgree (layout granule)
  steps_agree = record {
    empty = λ level here low. ap (found granule here) (empty_descriptor is (3 - level));
    pointer = λ level address here at frame.
        ap (found granule here) (pointer_descriptor is (pointer_of (record { at_level = at; a_frame = frame; word_is = refl })));
    leaf = λ level log2 out part first here prot may under.
        entry_found (entry_of is may (leaf granule level log2 out prot part) refl) here
        ∙ ap (λ n. page n prot)
        (let from = under.from in
        let to = under.to in
        let aligned = entry_aligned is may first under.aligned in
        let begins = place (2 ^ entry_size granule level) (first + part * 2 ^ entry_size granule level) here aligned from (omega arith) in
        omega arith);
    any_page = λ level word log2 here prot l within.
        let x = entry_of is l.may word l.word_is in
        record {
          out = l.out + l.part * 2 ^ entry_size granule level + here % 2 ^ entry_size granule level;
          within = entry_within x here;
          step_is = entry_found x here;
        };
  }
