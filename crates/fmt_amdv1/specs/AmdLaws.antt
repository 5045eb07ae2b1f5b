-- The laws of AMD tables.
use Rattle.std.proofs.Common.{◌≡◌, ℕ, ◌+◌, ◌*◌, ◌/◌, ◌%◌, ◌^◌, ◌<◌, ◌≤◌, refl, ap, sym, ◌∙◌, arith, List, true, false}
use Rattle.std.specs.Prelude.{nat_le, nat_lt}
use Rattle.std.proofs.lemmas.Bool.{le-leb, lt-ltb}
use Rattle.std.proofs.lemmas.Nat.{mod_below, pow-add, pow_pos}
use Rattle.pt_model.specs.declared.block.Prot.{Prot}
use Rattle.pt_model.specs.Layout.{level_of_size, page}
use Rattle.pt_model.specs.Words.{root_frame}
use Rattle.pt_format.specs.Words.{MayBeLeaf, IsTableAddress, IsTableLevel}
use Rattle.pt_format.specs.Laws.{HasConstants, IsLayout, WordsDiffer}
use Rattle.pt_format.specs.FourKibLaws.{layout_of}
use Rattle.pt_format.specs.Manual.{IsRooted, IsWalk, StepsAgree}
use Rattle.pt_manual.specs.AmdWalk.{manual, mode, next_level}
use Rattle.pt_manual.proofs.AmdFacts.{rooted, walk_is}
use Rattle.fmt_nine_bit.specs.OverPages.{found, reached, step_by}
use Rattle.fmt_nine_bit.specs.ManualLayout.{IsReadBy}
use Rattle.fmt_nine_bit.proofs.BlockFacts.{in_block}
use Rattle.fmt_nine_bit.proofs.NineBitWalks.{near, page_found, page_given, unpicked, walks_from}
use Rattle.fmt_nine_bit.proofs.PermissionFacts.{one_permission}
use Rattle.fmt_amdv1.specs.AmdWords.{IsLeafOf, IsPointerOf, bits_of, layout, leaf, pointer, words}
use Rattle.fmt_amdv1.specs.Sizes.{size_of}
use Rattle.fmt_amdv1.specs.AmdFacts.{by_code, by_default, form_of, leaf_log2, leaf_parts, leaf_step, pointer_parts, pointer_step}

pub has_constants : HasConstants layout 12 9 64 52 3 6 true false
has_constants =
    record { granule_is = refl; index_is = refl; input_is = refl; output_is = refl; start_is = refl; levels_is = refl; grows_is = refl; signed_is = refl }

pub lawful_layout : IsLayout layout
lawful_layout =
    layout_of layout 12 9 64 52 3 6 true false has_constants (omega arith) (omega arith) refl (omega arith) (omega arith) (omega arith)
    (λ e. absurd (let w : ⊥ = cc in w)) (omega arith) (omega arith) (omega arith) (omega arith) (omega arith) (omega arith)
    refl (λ k size. (size_of (level_of_size layout k) k size refl).low_level) refl refl

-- a leaf and a pointer as this format has them
pub leaf_of : {level log2 out part : ℕ} {prot : Prot} → MayBeLeaf layout level log2 out prot part → (word : ℕ) → word ≡ leaf level log2 out prot →
    IsLeafOf level log2 out word prot
leaf_of {level} {log2} may word is =
    record { a_size = size_of level log2 may.a_size may.at_level; aligned = may.aligned; within = may.within; stated = may.stated; word_is = is }

pub pointer_of : {level address : ℕ} → IsTableLevel layout level → IsTableAddress layout address → (word : ℕ) → word ≡ pointer level address →
    IsPointerOf level word address
pointer_of at frame word is = record { above = at.above; below = at.below; a_frame = frame; word_is = is }

-- the next level of a leaf is that of no pointer
pub leaf_next : {level log2 out word : ℕ} {prot : Prot} → IsLeafOf level log2 out word prot → (next_level word + 1) % 8 ≤ 1
leaf_next {level} {log2} {out} x = elim (form_of level log2 out) [
  | by_default same number next ↦ omega (arith, (leaf_parts x).next_is, next)
  | by_code other number next ↦ omega (arith, (leaf_parts x).next_is, next)
]

pub pointer_next : {level word address : ℕ} → IsPointerOf level word address → 1 < (next_level word + 1) % 8
pointer_next p = omega (arith, (pointer_parts p).next_is, p.above, p.below)

pub words_differ : WordsDiffer layout
words_differ = record {
  leaf_some = λ level log2 out part prot may e. omega arith;
  pointer_some = λ level address at frame e. omega arith;
  apart = λ level log2 out part address prot may at frame e.
      let l = leaf_next (leaf_of may (leaf level log2 out prot) refl) in
      let p = pointer_next (pointer_of at frame (leaf level log2 out prot) e) in
      omega arith;
  one_address = λ level a b at frame frame' e.
      let p = (pointer_parts (pointer_of at frame (pointer level a) refl)).number_is in
      let q = (pointer_parts (pointer_of at frame' (pointer level a) e)).number_is in
      let pages : a / 2 ^ 12 ≡ b / 2 ^ 12 = sym p ∙ q in
      omega (arith, pages, frame.address_is, frame'.address_is);
  one_size = λ level j k out out' part part' p q may may' e.
      let x = leaf_of may (leaf level j out p) refl in
      let y = leaf_of may' (leaf level j out p) e in
      (sym (leaf_log2 x) ∙ leaf_log2 y, one_permission bits_of (λ e. omega arith) p q x.stated y.stated (sym (leaf_parts x).others_are ∙ (leaf_parts y).others_are));
}

-- the page that the manual's step finds at a leaf
pub leaf_found : {level log2 out word : ℕ} {prot : Prot} (here : ℕ) → IsLeafOf level log2 out word prot →
    step_by manual level word here ≡ page (out + here % 2 ^ log2) prot
leaf_found {level} {log2} {out} {word} {prot} here x =
    page_found manual level word here out log2 prot (leaf_step x)

pub steps_agree : StepsAgree layout
steps_agree = record {
  empty = λ level here low. refl;
  pointer = λ level address here at frame. ap (found here) (pointer_step (pointer_of at frame (pointer level address) refl));
  leaf = λ level log2 out part first here prot may under.
      leaf_found here (leaf_of may (leaf level log2 out prot) refl) ∙ ap (λ (n : ℕ). page (out + n) prot) (in_block (size_of level log2 may.a_size may.at_level).from may under);
  any_page = λ level word log2 here prot l within.
      record {
        out = l.out + here % 2 ^ log2;
        within = let low = mod_below here (2 ^ log2) (pow_pos log2) in let most = l.may.within in omega arith;
        step_is = leaf_found here (leaf_of l.may word l.word_is);
      };
}

is_read_by : IsReadBy manual layout
is_read_by = record {
  empty = λ level. refl;
  leaf_is = λ level word log2 prot l. page_given manual level word l.out log2 prot (leaf_step (leaf_of l.may word l.word_is));
  pointer_is = λ level word address p. pointer_step (pointer_of p.at_level p.a_frame word p.word_is);
}

pub is_walk : IsWalk layout
is_walk = record {
  no_page = λ words address r small e. absurd
      (let far : nat_lt address (2 ^ 64) ≡ false = unpicked _ _ e in
      let close : nat_lt address (2 ^ 64) ≡ true = lt-ltb _ _ small in
      let w : ⊥ = cc in w);
  beyond = λ words address here r small e out.
      let n = near is_read_by address here e in
      let wide : 2 ^ (12 + 9 * mode words) ≡ 2 ^ 12 * 2 ^ (9 * mode words) = pow-add 2 12 (9 * mode words) in
      let at = n.1 in
      let past : nat_le (2 ^ (12 + 9 * mode words)) address ≡ true = le-leb _ _ (omega arith) in
      rw (rooted words r.a_frame r.high (high words r), past) refl;
  walks = λ words address here under way.
      let r = under.rooted in
      let n = near is_read_by address here under.at_page in
      let wide : 2 ^ (12 + 9 * mode words) ≡ 2 ^ 12 * 2 ^ (9 * mode words) = pow-add 2 12 (9 * mode words) in
      let at = n.1 in let below = under.under_root in
      ap reached (walk_is words address r.a_frame r.high (high words r) (omega arith))
      ∙ walks_from is_read_by words address here n.1 (mode words) (root_frame words) way;
}
  where
    high : (words : List ℕ) → IsRooted layout words → mode words ≤ 6
    high words r = let low = r.low in omega arith
