-- The manual's walk is the walk by steps, over the words of VMSAv8-64 tables.
use Rattle.std.proofs.Common.{◌≡◌, ℕ, zero, suc, ◌+◌, ◌-◌, ◌*◌, ◌/◌, ◌%◌, ◌^◌, ◌<◌, ◌≤◌, refl, ap, ap₂, sym, subst, ◌∙◌, arith, List, Some, true, false}
use Rattle.std.specs.Prelude.{nat_le, nat_lt, ◌&&◌, ◌==◌}
use Rattle.std.proofs.lemmas.Bool.{eq-eqb, and_from, le-leb, lt-ltb, lt-leb, ltb-true, ltb-false}
use Rattle.std.proofs.lemmas.Nat.{shl-shr, shr-shr}
use native.Mathlib.Nat.{mod-eq_of_lt}
use Rattle.pt_model.specs.Layout.{at_byte, Reached}
use Rattle.pt_model.specs.Pages.{page_at}
use Rattle.pt_model.specs.Words.{frames_in, root_frame, root_level, entry}
use Rattle.pt_format.specs.Manual.{IsWalk, IsRooted, IsRead, OnWay, Onward, an_empty, a_leaf, a_table, by_steps, follow, entry_for}
use Rattle.pt_manual.specs.NineBitWalk.{names_frame}
use Rattle.pt_manual.specs.VmsaWalk.{IsGranule, descriptor_at, followed, index_at, index_bits, start_level, walk, walk_from}
use Rattle.pt_manual.specs.declared.descriptor.Descriptor.TheVariants.{Invalid, Table, Page}
use Rattle.fmt_nine_bit.specs.OverPages.{reached}
use Rattle.fmt_nine_bit.proofs.NineBitWalks.{onward_all, picked, unpicked}
use Rattle.fmt_nine_bit.proofs.BlockFacts.{multiple}
use Rattle.fmt_vmsa.specs.VmsaWords.{entry_size, found, layout, levels_of}
use Rattle.fmt_vmsa.specs.Granules.{by_granule, few_levels, two_digits}
use Rattle.fmt_vmsa.specs.VmsaFacts.{empty_descriptor, entry_descriptor, pointer_descriptor}
use Rattle.fmt_vmsa.specs.VmsaSizes.{entry_of}
use Rattle.fmt_vmsa.specs.VmsaLaws.{pointer_of}

-- the index at which both look
one_index : (granule level address : ℕ) → level < 4 →
    index_at granule (3 - level) address ≡ address / 2 ^ granule / 2 ^ entry_size granule level % 2 ^ index_bits granule
one_index granule level address low =
    let back : 3 - (3 - level) ≡ level = omega arith in
    ap (λ n. address / 2 ^ (granule + index_bits granule * n) % 2 ^ index_bits granule) back
    ∙ ap (λ n. n % 2 ^ index_bits granule) (sym (shr-shr address granule (entry_size granule level)))

-- the byte at which both end
one_byte : (granule k own address : ℕ) →
    own * 2 ^ granule + address % 2 ^ (granule + k) ≡ (own + address / 2 ^ granule % 2 ^ k) * 2 ^ granule + address % 2 ^ granule
one_byte granule k own address =
    let low = two_digits address granule k in
    omega arith

module _ {granule : ℕ} (is : IsGranule granule) where
  named : (words : List ℕ) (frame : ℕ) → frame < frames_in (layout granule) words →
      names_frame granule words (2 ^ 32 + frame * 2 ^ granule) ≡ true
  named words frame low =
      let less : 2 ^ 32 + frame * 2 ^ granule - 2 ^ 32 ≡ frame * 2 ^ granule = omega arith in
      let begins : (2 ^ 32 + frame * 2 ^ granule - 2 ^ 32) / 2 ^ granule ≡ frame = ap (λ n. n / 2 ^ granule) less ∙ shl-shr frame granule in
      let whole : ((2 ^ 32 + frame * 2 ^ granule - 2 ^ 32) % 2 ^ granule == 0) ≡ true =
      eq-eqb _ _ (ap (λ n. n % 2 ^ granule) less ∙ multiple frame granule) in
      let high : nat_le (2 ^ 32) (2 ^ 32 + frame * 2 ^ granule) ≡ true = le-leb _ _ (omega arith) in
      rw (high, whole, begins) (lt-ltb _ _ low)

  -- what both make of one word, where they agree from the next frame on
  on_word : (words : List ℕ) (address here level e : ℕ) (next : ℕ → Reached) → here ≡ address / 2 ^ granule →
      IsRead (layout granule) (frames_in (layout granule) words) level e →
      Onward (layout granule) (λ frame. reached (walk_from granule words address level frame) ≡ next frame)
      (found granule here (descriptor_at granule (3 - level) e)) →
      reached (followed granule words address (3 - level) (walk_from granule words address level) (descriptor_at granule (3 - level) e))
      ≡ follow (layout granule) address next (found granule here (descriptor_at granule (3 - level) e))
  on_word words address here level e next here_is (an_empty z) onward =
      let none : descriptor_at granule (3 - level) e ≡ Invalid =
      ap (descriptor_at granule (3 - level)) z ∙ empty_descriptor is (3 - level) in
      rw none refl
  on_word words address here level e next here_is (a_leaf log2 prot l) onward =
      let own : ℕ = l.out + l.part * 2 ^ entry_size granule level in
      let said : descriptor_at granule (3 - level) e ≡ Page (own * 2 ^ granule) (granule + entry_size granule level) prot =
      entry_descriptor is (entry_of is l.may e l.word_is) in
      let bits : granule + entry_size granule level - granule ≡ entry_size granule level = omega arith in
      ap (λ s. reached (followed granule words address (3 - level) (walk_from granule words address level) s)) said
      ∙ ap (λ n. at_byte n prot) (one_byte granule (entry_size granule level) own address)
      ∙ ap (λ h. at_byte ((own + h % 2 ^ entry_size granule level) * 2 ^ granule + address % 2 ^ granule) prot) (sym here_is)
      ∙ ap₂ (λ o k. at_byte ((o + here % 2 ^ k) * 2 ^ granule + address % 2 ^ granule) prot) (sym (shl-shr own granule)) (sym bits)
      ∙ ap (λ s. follow (layout granule) address next (found granule here s)) (sym said)
  on_word words address here level e next here_is (a_table frame at low fa z) onward =
      let said : descriptor_at granule (3 - level) e ≡ Table (2 ^ 32 + frame * 2 ^ granule) =
      pointer_descriptor is (pointer_of is (record { at_level = at; a_frame = fa; word_is = z })) in
      let names = named words frame low in
      let rest : reached (walk_from granule words address level ((2 ^ 32 + frame * 2 ^ granule - 2 ^ 32) / 2 ^ granule))
      ≡ next ((2 ^ 32 + frame * 2 ^ granule - 2 ^ 32) / 2 ^ granule) =
      subst (λ s. Onward (layout granule) (λ h. reached (walk_from granule words address level h) ≡ next h) (found granule here s)) said onward in
      ap (λ s. reached (followed granule words address (3 - level) (walk_from granule words address level) s)) said
      ∙ rw names rest ∙ ap (λ s. follow (layout granule) address next (found granule here s)) (sym said)

  -- the walk from a table is the walk by steps
  walks_from : (words : List ℕ) (address here : ℕ) → here ≡ address / 2 ^ granule → (tables frame : ℕ) → tables ≤ 4 →
      OnWay (layout granule) words here tables frame →
      reached (walk_from granule words address tables frame) ≡ by_steps (layout granule) words address here tables frame
  walks_from words address here here_is zero frame few way = refl
  walks_from words address here here_is (suc level) frame few way =
      let same : entry (layout granule) words frame (index_at granule (3 - level) address) ≡ entry_for (layout granule) words frame level here =
      ap (λ k. entry (layout granule) words frame k)
      (one_index granule level address (omega arith) ∙ ap (λ k. k / 2 ^ entry_size granule level % 2 ^ index_bits granule) (sym here_is)) in
      ap (λ k. reached (followed granule words address (3 - level) (walk_from granule words address level) (descriptor_at granule (3 - level) k))) same
      ∙ on_word words address here level (entry_for (layout granule) words frame level here)
      (by_steps (layout granule) words address here level) here_is way.0
      (onward_all (layout granule) (λ frame' way'. walks_from words address here here_is level frame' (omega arith) way')
      (found granule here (descriptor_at granule (3 - level) (entry_for (layout granule) words frame level here))) way.1)

  rooted : (words : List ℕ) → IsRooted (layout granule) words →
      (nat_lt (root_frame words) (frames_in (layout granule) words) && (root_level words + start_level granule == 3)) ≡ true
  rooted words r =
      let a = r.a_frame in let b = r.high in let c = r.low in let few = few_levels is in
      let level : root_level words + start_level granule ≡ 3 = omega arith in
      and_from (nat_lt (root_frame words) (frames_in (layout granule) words)) (root_level words + start_level granule == 3)
      (lt-ltb _ _ a) (eq-eqb _ _ level)

  near : (address here : ℕ) → page_at (layout granule) address ≡ Some here → (address < 2 ^ 48) × (here ≡ address / 2 ^ granule)
  near address here e =
      let p = picked (nat_lt address (2 ^ 48)) (address % 2 ^ 48 / 2 ^ granule) here e in
      let low : address < 2 ^ 48 = ltb-true _ _ p.0 in
      (low, sym p.1 ∙ ap (λ n. n / 2 ^ granule) (mod-eq_of_lt low))

  pub is_walk : IsWalk (layout granule)
  is_walk = record {
    no_page = λ words address r small e.
        let far : nat_lt address (2 ^ 48) ≡ false = unpicked _ _ e in
        let past : nat_le (2 ^ 48) address ≡ true = le-leb _ _ (let f = ltb-false _ _ far in omega arith) in
        rw (rooted words r, past) refl;
    beyond = λ words address here r small e out. absurd
        (let n = near address here e in
        let level : root_level words + 1 ≡ levels_of granule = let a = r.high in let b = r.low in omega arith in
        let far : 2 ^ (index_bits granule * levels_of granule) ≤ here = subst (λ k. 2 ^ (index_bits granule * k) ≤ here) level out in
        let close = n.0 in
        by_granule (λ g. here ≡ address / 2 ^ g → 2 ^ (index_bits g * levels_of g) ≤ here → ⊥)
        (λ at beyond. omega arith) (λ at beyond. omega arith) (λ at beyond. omega arith) is n.1 far);
    walks = λ words address here under way.
        let r = under.rooted in
        let n = near address here under.at_page in
        let past : nat_le (2 ^ 48) address ≡ false = lt-leb _ _ n.0 in
        let level : root_level words + 1 ≡ levels_of granule = let a = r.high in let b = r.low in omega arith in
        let begins : reached (walk words granule address) ≡ reached (walk_from granule words address (levels_of granule) (root_frame words)) =
        rw (rooted words r, past) refl in
        begins ∙ ap (λ k. reached (walk_from granule words address k (root_frame words))) (sym level)
        ∙ walks_from words address here n.1 (root_level words + 1) (root_frame words) (let few = few_levels is in omega arith) way;
  }
