-- The laws of words that state the two permissions that every format states, whose manual reads an entry by its address and its
-- other bits and numbers the lowest table 1.
use Rattle.std.proofs.Common.{◌≡◌, ℕ, zero, suc, ◌+◌, ◌*◌, ◌%◌, ◌^◌, ◌<◌, refl, ◌∙◌, arith, true, Bool, List, subst}
use Rattle.std.specs.Prelude.{IsTrue, nat_le, nat_lt, ◌&&◌, if◌then◌else◌}
use Rattle.std.proofs.lemmas.Bool.{and_parts, leb-true, ltb-true}
use Rattle.pt_model.specs.declared.block.Prot.{Prot}
use Rattle.pt_model.specs.declared.block.Prot.TheVariants.{Read, ReadWrite}
use Rattle.pt_model.specs.Layout.{is_common, may_read, may_write}
use Rattle.pt_format.specs.FourKib.{AreBits, AreRead, AreTables, layout, size_bit, tables}
use Rattle.pt_format.specs.FourKibLaws.{size_small}
use Rattle.pt_format.proofs.Permissions.{of_common}
use Rattle.pt_format.specs.Manual.{IsWalk}
use Rattle.pt_manual.specs.EntryBits.{is_aligned}
use Rattle.pt_manual.specs.NineBitWalk.{walk_by}
use Rattle.pt_manual.specs.declared.step.Step.TheVariants.{NotPresent, Page, Next, Reserved}
use Rattle.pt_manual.specs.declared.walked.Walked.{Walked}
use Rattle.fmt_nine_bit.specs.OverPages.{reached}
use Rattle.fmt_nine_bit.specs.ManualEntries.{ReadsWritten}
use Rattle.fmt_nine_bit.specs.CommonWords.{CommonWords, entries_of, manual_of, tables_of}
use Rattle.fmt_nine_bit.proofs.BlockFacts.{aligned_bytes}
use Rattle.fmt_nine_bit.proofs.EntryFacts.{entry_of}
use Rattle.fmt_nine_bit.proofs.PermissionFacts.{one_permission}
use Rattle.fmt_nine_bit.proofs.NineBitWalks as Walks

-- what is written below the address
pub record AreCommon (w : CommonWords) : Type 0 where
  pub read_some : 0 < w.of_leaf Read
  pub more : w.of_leaf Read < w.of_leaf ReadWrite
  pub few : w.of_leaf ReadWrite < 2 ^ 7
  pub pointer_few : w.of_pointer < 2 ^ 7

-- what the manual says of a page of 2 ^ log2 bytes in a table of its `level`, where the page has its alignment
abbrev pub IsPageForm : CommonWords → (level log2 bits address : ℕ) → Prot → Type 0
IsPageForm w level log2 bits address prot =
    w.entry level address bits ≡ (if is_aligned log2 address then Page address log2 (may_read prot) (may_write prot) else Reserved)

-- what the manual says of a page of each size
pub record ArePages (w : CommonWords) (prot : Prot) (address : ℕ) : Type 0 where
  pub small : w.entry 1 address (w.of_leaf prot + 0) ≡ Page address 12 (may_read prot) (may_write prot)
  pub large : IsPageForm w 2 21 (w.of_leaf prot + 2 ^ 7) address prot
  pub largest : IsPageForm w 3 30 (w.of_leaf prot + 2 ^ 7) address prot

-- so many levels, and bits of an input address, are those of a format
abbrev pub fits : CommonWords → (levels : ℕ) → Bool
fits w levels = (nat_le 3 levels && nat_le levels 5) && (nat_lt 12 (w.input levels) && nat_le (w.input levels) (12 + 9 * levels))

-- the manual's walk by its steps
abbrev pub stepwise : CommonWords → (levels : ℕ) → List ℕ → (address : ℕ) → Walked
stepwise w levels words address = walk_by (manual_of w) words levels (w.input levels) levels address

-- and what it says of each form that is written
pub record HasForms (w : CommonWords) : Type 0 where
  pub common : AreCommon w
  pub empty : (level : ℕ) → w.entry (level + 1) 0 0 ≡ NotPresent
  pub pages : (address : ℕ) → ArePages w Read address × ArePages w ReadWrite address
  pub pointer : (level address : ℕ) → 0 < level → w.entry (level + 1) address w.of_pointer ≡ Next address true true

module _ {w : CommonWords} (forms : HasForms w) where
  leaf_small : (prot : Prot) → IsTrue (is_common prot) → w.of_leaf prot < 2 ^ 7
  leaf_small =
      let a = forms.common.more in let b = forms.common.few in of_common (λ prot. w.of_leaf prot < 2 ^ 7) (omega arith) (omega arith)

  pub are_bits : AreBits (entries_of w)
  are_bits = record {
    states_read = refl;
    states_both = refl;
    leaf_low = leaf_small;
    leaf_some = let a = forms.common.read_some in let b = forms.common.more in
        of_common (λ prot. w.of_leaf prot ≡ 0 → ⊥) (λ e. omega arith) (λ e. omega arith);
    one_permission = let more = forms.common.more in one_permission w.of_leaf (λ e. omega arith);
    pointer_low = forms.common.pointer_few;
  }

  a_page : (level out : ℕ) (prot : Prot) → level < 3 → out % 2 ^ (9 * level) ≡ 0 → IsTrue (is_common prot) →
      w.entry (level + 1) (out * 2 ^ 12) (w.of_leaf prot + size_bit level) ≡ Page (out * 2 ^ 12) (12 + 9 * level) (may_read prot) (may_write prot)
  a_page level out prot low aligned stated = at level low (aligned_bytes 12 (9 * level) out aligned)
    where
      said : ArePages w prot (out * 2 ^ 12)
      said = of_common (λ p. ArePages w p (out * 2 ^ 12)) (forms.pages (out * 2 ^ 12)).0 (forms.pages (out * 2 ^ 12)).1 prot stated

      at : (level : ℕ) → level < 3 → is_aligned (12 + 9 * level) (out * 2 ^ 12) ≡ true →
          w.entry (level + 1) (out * 2 ^ 12) (w.of_leaf prot + size_bit level) ≡ Page (out * 2 ^ 12) (12 + 9 * level) (may_read prot) (may_write prot)
      at zero low aligned = said.small
      at (suc zero) low aligned = said.large ∙ rw aligned refl
      at (suc (suc zero)) low aligned = said.largest ∙ rw aligned refl
      at (suc (suc (suc more))) low aligned = absurd (omega arith)

  pub reads_written : ReadsWritten (manual_of w) (entries_of w)
  reads_written = record {
    empty = forms.empty;
    leaf_is = λ level word out prot leaf.
        entry_of (w.entry (level + 1)) out (w.of_leaf prot + size_bit level) word leaf.in_output
        (omega (arith, leaf_small prot leaf.stated, size_small level)) leaf.word_is
        ∙ a_page level out prot leaf.low_level leaf.aligned leaf.stated;
    pointer_is = λ level word address pointer.
        let frame = pointer.a_frame.frame in
        let whole : address ≡ (2 ^ 20 + frame) * 2 ^ 12 = omega (arith, pointer.a_frame.address_is) in
        entry_of (w.entry (level + 1)) (2 ^ 20 + frame) w.of_pointer word (let few = pointer.a_frame.in_limit in omega arith)
        (let few = forms.common.pointer_few in omega arith) (omega (arith, pointer.word_is, whole))
        ∙ rw whole (forms.pointer level ((2 ^ 20 + frame) * 2 ^ 12) pointer.above);
  }

  pub are_read : AreRead (entries_of w)
  are_read = Walks.are_read (manual_of w) is_common w.of_leaf w.of_pointer reads_written

  pub are_tables : (levels : ℕ) → fits w levels ≡ true → stepwise w levels ≡ (λ words address. w.walk words levels address) →
      AreTables (tables_of w levels)
  are_tables levels good by_steps =
      let parts = and_parts _ _ good in
      let counts = and_parts _ _ parts.0 in
      let bits = and_parts _ _ parts.1 in
      let few = leb-true (w.input levels) (12 + 9 * levels) bits.1 in
      record {
        bits = are_bits;
        read = are_read;
        levels_low = leb-true 3 levels counts.0;
        levels_high = leb-true levels 5 counts.1;
        input_low = ltb-true 12 (w.input levels) bits.0;
        input_high = few;
        is_walk = subst (λ walk. IsWalk (layout (tables (entries_of w) levels (w.input levels) (λ words address. reached (walk words address)))))
            by_steps
            (Walks.is_walk (manual_of w) is_common w.of_leaf w.of_pointer reads_written levels (w.input levels) levels few);
      }
