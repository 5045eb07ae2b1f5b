-- The laws of formats, for tables of 512 entries over pages of 4 KiB.
use Rattle.std.proofs.Common.{◌≡◌, ◌≢◌, ℕ, zero, suc, ◌+◌, ◌-◌, ◌*◌, ◌%◌, ◌^◌, ◌<◌, ◌≤◌, refl, ap, ◌∙◌, arith, false, ap₂, sym, Bool}
use Rattle.std.specs.Prelude.{IsTrue}
use Rattle.std.proofs.lemmas.Nat.{pow_pos}
use Rattle.std.proofs.lemmas.Grind.{common_steps}
use Rattle.pt_model.specs.declared.block.Prot.{Prot}
use Rattle.pt_model.specs.declared.block.Prot.TheVariants.{Read, ReadWrite}
use Rattle.pt_model.specs.Layout.{Layout, is_size, level_of_size, page}
use Rattle.pt_format.specs.Words.{MayBeLeaf, IsUnder}
use Rattle.pt_format.specs.Laws.{HasConstants, IsLayout, WordsDiffer}
use Rattle.pt_format.specs.Manual.{StepsAgree}
use Rattle.pt_format.specs.FourKib.{Entries, Tables, AreBits, AreTables, IsLeafOf, layout, leaf, pointer, size_bit}

pub has_constants : (t : Tables) → HasConstants (layout t) 12 9 t.input 52 t.levels t.levels false false
has_constants t =
    record { granule_is = refl; index_is = refl; input_is = refl; output_is = refl; start_is = refl; levels_is = refl; grows_is = refl; signed_is = refl }

-- the one size of a level
pub size_of_level : (t : Tables) (level k : ℕ) → IsTrue (is_size (layout t) k) → level_of_size (layout t) k ≡ level →
    (9 * level ≡ k) × (level < 3)
size_of_level t level k size at = (grind (arith, common_steps), grind (arith, common_steps))

-- a layout by its constants, its sizes and its permissions
pub layout_of : (f : Layout) (granule index input output start levels : ℕ) (grows signed : Bool) →
    HasConstants f granule index input output start levels grows signed →
    12 ≤ granule → granule ≤ 16 → index + 3 ≡ granule → 3 ≤ start → start ≤ levels → levels ≤ 6 → (grows ≡ false → start ≡ levels) →
    granule < input → input ≤ 64 → input ≤ granule + 52 → input ≤ granule + index * levels → 48 ≤ output → output ≤ 56 →
    IsTrue (is_size f 0) → ((k : ℕ) → IsTrue (is_size f k) → level_of_size f k < f.start) → IsTrue (f.states Read) → IsTrue (f.states ReadWrite) →
    IsLayout f
layout_of f granule index input output start levels grows signed c granule_low granule_high index_by start_low start_high levels_high fixed
    input_low input_high pages_high has_levels output_low output_high pages sizes read both =
    let granule_is = c.granule_is in let index_is = c.index_is in let input_is = c.input_is in let output_is = c.output_is in
    let start_is = c.start_is in let levels_are = c.levels_is in
    let room : f.index * f.levels ≡ index * levels = ap₂ (λ a b. a * b) index_is levels_are in
    record {
      granule_low = omega arith;
      granule_high = omega arith;
      index_is = omega arith;
      start_low = omega arith;
      start_high = omega arith;
      fixed = λ e. start_is ∙ fixed (sym c.grows_is ∙ e) ∙ sym levels_are;
      levels_high = omega arith;
      input_low = omega arith;
      input_high = omega arith;
      pages_high = omega arith;
      has_levels = omega arith;
      output_low = omega arith;
      output_high = omega arith;
      has_pages = pages;
      sizes_low = sizes;
      states_read = read;
      states_both = both;
    }

-- tables of 512 entries over pages of 4 KiB, of so many levels, are a layout where their sizes and permissions are
pub fixed_layout : (f : Layout) (input output levels : ℕ) → HasConstants f 12 9 input output levels levels false false →
    3 ≤ levels → levels ≤ 5 → 12 < input → input ≤ 12 + 9 * levels → 48 ≤ output → output ≤ 56 →
    IsTrue (is_size f 0) → ((k : ℕ) → IsTrue (is_size f k) → level_of_size f k < f.start) → IsTrue (f.states Read) → IsTrue (f.states ReadWrite) →
    IsLayout f
fixed_layout f input output levels c low high some few =
    layout_of f 12 9 input output levels levels false false c (omega arith) (omega arith) (omega arith) low (omega arith) (omega arith)
    (λ e. refl) some (omega arith) (omega arith) few

pub lawful_layout : {t : Tables} → AreTables t → IsLayout (layout t)
lawful_layout {t} good =
    let low = good.levels_low in
    fixed_layout (layout t) t.input 52 t.levels (has_constants t) low good.levels_high good.input_low good.input_high (omega arith) (omega arith)
    refl (λ k size. grind (arith, common_steps)) good.bits.states_read good.bits.states_both

pub size_small : (level : ℕ) → size_bit level ≤ 2 ^ 7
size_small zero = omega arith
size_small (suc level) = omega arith

-- a leaf above the lowest level and a pointer differ in bit 7
apart_by_size : (e : Entries) → AreBits e → (level out address frame : ℕ) (prot : Prot) → IsTrue (e.states prot) →
    1 ≤ level → address ≡ 2 ^ 32 + frame * 2 ^ 12 → leaf e level out prot ≢ pointer e address
apart_by_size e bits zero out address frame prot stated above is = absurd (omega arith)
apart_by_size e bits (suc level) out address frame prot stated above is = λ same.
    omega (arith, bits.leaf_low prot stated, bits.pointer_low)

pub words_differ : {t : Tables} → AreTables t → WordsDiffer (layout t)
words_differ {t} good = record {
  leaf_some = λ level log2 out part prot may. (λ e. let some = good.bits.leaf_some prot may.stated in omega arith);
  pointer_some = λ level address at frame. (λ e. let is = frame.address_is in omega arith);
  apart = λ level log2 out part address prot may at frame.
      apart_by_size t.entries good.bits level out address frame.frame prot may.stated at.above frame.address_is;
  one_address = λ level a b at fa fb e. omega arith;
  one_size = λ level j k out out' part part' p q may may' e. (
    let s = size_of_level t level j may.a_size may.at_level in
        let s' = size_of_level t level k may'.a_size may'.at_level in
        omega (arith, s.0, s'.0),
    good.bits.one_permission p q may.stated may'.stated
        (let l = good.bits.leaf_low p may.stated in let l' = good.bits.leaf_low q may'.stated in
        omega (arith, size_small level)),
  );
}

-- a lawful leaf is one of these words
pub leaf_of_may : {t : Tables} {level log2 out part : ℕ} {prot : Prot} → (word : ℕ) → MayBeLeaf (layout t) level log2 out prot part →
    word ≡ leaf t.entries level out prot → IsLeafOf t.entries level word out prot
leaf_of_may {t} {level} {log2} word may e =
    let s = size_of_level t level log2 may.a_size may.at_level in
    record {
      low_level = s.1;
      in_output = omega (arith, pow_pos log2, may.within);
      aligned = rw s.0 may.aligned;
      stated = may.stated;
      word_is = e;
    }

-- the place of a page in its block
place_in_block : (t : Tables) (level log2 out part first here : ℕ) (prot : Prot) → MayBeLeaf (layout t) level log2 out prot part →
    IsUnder (layout t) level log2 first part here → here % 2 ^ (9 * level) ≡ here - first
place_in_block t level log2 out part first here prot may under =
    let aligned = under.aligned in let from = under.from in let to = under.to in
    grind (arith, common_steps)

pub page_within : (level out here : ℕ) → level < 3 → out < 2 ^ 40 → out % 2 ^ (9 * level) ≡ 0 → out + here % 2 ^ (9 * level) < 2 ^ 40
page_within zero out here low within aligned = omega arith
page_within (suc zero) out here low within aligned = omega arith
page_within (suc (suc zero)) out here low within aligned = omega arith
page_within (suc (suc (suc more))) out here low within aligned = absurd (omega arith)

pub steps_agree : {t : Tables} → AreTables t → StepsAgree (layout t)
steps_agree {t} good = record {
  empty = λ level here low. good.read.empty level here;
  pointer = λ level address here at frame.
      good.read.pointer_is level (pointer t.entries address) address here (record { above = at.above; a_frame = frame; word_is = refl });
  leaf = λ level log2 out part first here prot may under.
      good.read.leaf_is level (leaf t.entries level out prot) out here prot (leaf_of_may (leaf t.entries level out prot) may refl)
      ∙ ap (λ (n : ℕ). page (out + n) prot) (place_in_block t level log2 out part first here prot may under);
  any_page = λ level word log2 here prot l within.
      let of = leaf_of_may word l.may l.word_is in
      record {
        out = l.out + here % 2 ^ (9 * level);
        within = page_within level l.out here of.low_level of.in_output of.aligned;
        step_is = good.read.leaf_is level word l.out here prot of;
      };
}
