-- The laws of RISC-V tables, for each number of levels.
use Rattle.std.proofs.Common.{◌≡◌, ℕ, ◌+◌, ◌-◌, ◌*◌, ◌%◌, ◌^◌, ◌<◌, ◌≤◌, refl, ap, ap₂, subst, sym, ◌∙◌, arith, false}
use Rattle.std.specs.Prelude.{IsTrue}
use Rattle.std.proofs.lemmas.Nat.{mod_below, pow_pos}
use Rattle.pt_model.specs.declared.block.Prot.{Prot}
use Rattle.pt_model.specs.Layout.{is_common, is_size, level_of_size, may_read, may_write, page}
use Rattle.pt_format.specs.Words.{MayBeLeaf}
use Rattle.pt_format.specs.Laws.{HasConstants, IsLayout, WordsDiffer}
use Rattle.pt_format.specs.FourKibLaws.{fixed_layout}
use Rattle.pt_format.specs.Manual.{IsWalk, StepsAgree}
use Rattle.pt_format.proofs.Permissions.{of_common}
use Rattle.pt_manual.specs.RiscvWalk.{manual, step_at}
use Rattle.pt_manual.specs.declared.step.Step.TheVariants.{Page}
use Rattle.fmt_nine_bit.specs.OverPages.{found, step_by}
use Rattle.fmt_nine_bit.specs.ManualLayout.{IsReadBy}
use Rattle.fmt_nine_bit.proofs.BlockFacts.{in_block}
use Rattle.fmt_nine_bit.proofs.NineBitWalks.{page_found, page_given, walk_by_steps}
use Rattle.fmt_nine_bit.proofs.PermissionFacts.{one_permission}
use Rattle.fmt_riscv.specs.RiscvWords.{AreLevels, IsSingle, IsSixteen, three, four, five, leaf, layout, of_leaf, pointer, words}
use Rattle.fmt_riscv.specs.Sizes.{IsSizeOf, an_entry, of_sixteen, size_of}
use Rattle.fmt_riscv.specs.RiscvFacts.{leaf_of_entry, leaf_small, not_four, pointer_step, single_step, sixteen_step}

pub has_constants : (levels : ℕ) → HasConstants (layout levels) 12 9 (11 + 9 * levels) 56 levels levels false false
has_constants levels =
    record { granule_is = refl; index_is = refl; input_is = refl; output_is = refl; start_is = refl; levels_is = refl; grows_is = refl; signed_is = refl }

pub few : {levels : ℕ} → AreLevels levels → (3 ≤ levels) × (levels ≤ 5)
few (three e) = (omega arith, omega arith)
few (four e) = (omega arith, omega arith)
few (five e) = (omega arith, omega arith)

pub lawful_layout : (levels : ℕ) → AreLevels levels → IsLayout (layout levels)
lawful_layout levels are =
    let low = (few are).0 in
    fixed_layout (layout levels) (11 + 9 * levels) 56 levels (has_constants levels) low (few are).1 (omega arith) (omega arith) (omega arith) (omega arith)
    (has_page are) (λ k size. (size_of levels (level_of_size (layout levels) k) k are size refl).1) refl refl
  where
    has_page : AreLevels levels → IsTrue (is_size (layout levels) 0)
    has_page (three e) = subst (λ n. IsTrue (is_size (layout n) 0)) (sym e) refl
    has_page (four e) = subst (λ n. IsTrue (is_size (layout n) 0)) (sym e) refl
    has_page (five e) = subst (λ n. IsTrue (is_size (layout n) 0)) (sym e) refl

leaf_some : (prot : Prot) → IsTrue (is_common prot) → 2 ≤ of_leaf prot
leaf_some = of_common (λ prot. 2 ≤ of_leaf prot) (omega arith) (omega arith)

-- a leaf as its size makes it
pub data IsLeafWord (level log2 out word : ℕ) (prot : Prot) : Type 0 where
  a_single : log2 ≡ 9 * level → IsSingle level out word prot → IsLeafWord level log2 out word prot
  a_sixteen : level ≡ 0 → log2 ≡ 4 → IsSixteen out word prot → IsLeafWord level log2 out word prot

pub leaf_word : {levels : ℕ} → AreLevels levels → (level log2 out part word : ℕ) (prot : Prot) → MayBeLeaf (layout levels) level log2 out prot part →
    word ≡ leaf log2 out prot → IsLeafWord level log2 out word prot × (level < levels)
leaf_word {levels} are level log2 out part word prot may is =
    let s = size_of levels level log2 are may.a_size may.at_level in (
      elim s.0 [
        | an_entry e ↦
            a_single e (record {
              within = omega (arith, pow_pos log2, may.within);
              aligned = subst (λ k. out % 2 ^ k ≡ 0) e may.aligned;
              stated = may.stated;
              word_is = is ∙ leaf_of_entry log2 out prot (λ four. not_four level (sym e ∙ four));
            })
        | of_sixteen z e ↦
            a_sixteen z e (record {
              within = subst (λ k. out + 2 ^ k ≤ 2 ^ 44) e may.within;
              aligned = subst (λ k. out % 2 ^ k ≡ 0) e may.aligned;
              stated = may.stated;
              word_is = is ∙ ap (λ k. leaf k out prot) e;
            })
      ],
      s.1,
    )

pub words_differ : (levels : ℕ) → AreLevels levels → WordsDiffer (layout levels)
words_differ levels are = record {
  leaf_some = λ level log2 out part prot may e.
      let some = leaf_some prot may.stated in
      elim (leaf_word are level log2 out part (leaf log2 out prot) prot may refl).0 [
        | a_single s x ↦ omega (arith, x.word_is, e)
        | a_sixteen z s x ↦ omega (arith, x.word_is, e)
      ];
  pointer_some = λ level address at frame e. omega arith;
  apart = λ level log2 out part address prot may at frame e.
      let some = leaf_some prot may.stated in let small = leaf_small prot may.stated in
      elim (leaf_word are level log2 out part (leaf log2 out prot) prot may refl).0 [
        | a_single s x ↦ omega (arith, x.word_is, e)
        | a_sixteen z s x ↦ omega (arith, x.word_is, e)
      ];
  one_address = λ level a b at fa fb e.
      let x = fa.address_is in let y = fb.address_is in omega arith;
  one_size = λ level j k out out' part part' p q may may' e.
      let small = leaf_small p may.stated in let small' = leaf_small q may'.stated in
      elim (leaf_word are level j out part (leaf j out p) p may refl).0 [
        | a_single s x ↦
            elim (leaf_word are level k out' part' (leaf k out' q) q may' refl).0 [
              | a_single s' x' ↦ (omega (arith, s, s'), one_permission of_leaf (λ e. omega arith) p q may.stated may'.stated (omega (arith, x.within, x'.within, x.word_is, x'.word_is, e)))
              | a_sixteen z' s' x' ↦ absurd (omega (arith, x.within, x'.within, x.word_is, x'.word_is, e))
            ]
        | a_sixteen z s x ↦
            elim (leaf_word are level k out' part' (leaf k out' q) q may' refl).0 [
              | a_single s' x' ↦ absurd (omega (arith, x.within, x'.within, x.word_is, x'.word_is, e))
              | a_sixteen z' s' x' ↦ (omega (arith, s, s'), one_permission of_leaf (λ e. omega arith) p q may.stated may'.stated (omega (arith, x.within, x'.within, x.word_is, x'.word_is, e)))
            ]
      ];
}

-- the manual gives a leaf's page, of its size
pub gives_leaf : {levels : ℕ} → AreLevels levels → (level log2 out part word : ℕ) (prot : Prot) → MayBeLeaf (layout levels) level log2 out prot part →
    word ≡ leaf log2 out prot → step_at level word ≡ Page (out * 2 ^ 12) (12 + log2) (may_read prot) (may_write prot)
gives_leaf {levels} are level log2 out part word prot may is =
    let w = leaf_word are level log2 out part word prot may is in
    let low : level < 5 = omega (arith, w.1, (few are).1) in
    elim w.0 [
      | a_single s x ↦
          ap (step_at level) x.word_is ∙ single_step level out prot low x.within x.aligned may.stated
          ∙ ap (λ k. Page (out * 2 ^ 12) (12 + k) (may_read prot) (may_write prot)) (sym s)
      | a_sixteen z s x ↦
          ap₂ step_at z x.word_is ∙ sixteen_step out prot x.within x.aligned may.stated
          ∙ ap (λ k. Page (out * 2 ^ 12) (12 + k) (may_read prot) (may_write prot)) (sym s)
    ]

at_least : {level log2 : ℕ} → IsSizeOf level log2 → 9 * level ≤ log2
at_least (an_entry e) = omega arith
at_least (of_sixteen z e) = omega arith

-- the page that the manual's step finds at a leaf
pub leaf_found : {levels : ℕ} → AreLevels levels → (level log2 out part word here : ℕ) (prot : Prot) → MayBeLeaf (layout levels) level log2 out prot part →
    word ≡ leaf log2 out prot → step_by manual level word here ≡ page (out + here % 2 ^ log2) prot
leaf_found {levels} are level log2 out part word here prot may is =
    page_found manual level word here out log2 prot (gives_leaf are level log2 out part word prot may is)

pub steps_agree : (levels : ℕ) → AreLevels levels → StepsAgree (layout levels)
steps_agree levels are = record {
  empty = λ level here low. refl;
  pointer = λ level address here at frame.
      ap (found here) (pointer_step level (pointer address) address (record { above = at.above; a_frame = frame; word_is = refl }));
  leaf = λ level log2 out part first here prot may under.
      leaf_found are level log2 out part (leaf log2 out prot) here prot may refl
      ∙ ap (λ (n : ℕ). page (out + n) prot) (in_block (at_least (size_of levels level log2 are may.a_size may.at_level).0) may under);
  any_page = λ level word log2 here prot l within.
      record {
        out = l.out + here % 2 ^ log2;
        within = let low = mod_below here (2 ^ log2) (pow_pos log2) in let most = l.may.within in omega arith;
        step_is = leaf_found are level log2 l.out l.part word here prot l.may l.word_is;
      };
}

is_read_by : (levels : ℕ) → AreLevels levels → IsReadBy manual (layout levels)
is_read_by levels are = record {
  empty = λ level. refl;
  leaf_is = λ level word log2 prot l.
      page_given manual level word l.out log2 prot (gives_leaf are level log2 l.out l.part word prot l.may l.word_is);
  pointer_is = λ level word address p.
      pointer_step level word address (record { above = p.at_level.above; a_frame = p.a_frame; word_is = p.word_is });
}

pub is_walk : (levels : ℕ) → AreLevels levels → IsWalk (layout levels)
is_walk levels are =
    walk_by_steps (words levels) manual levels (11 + 9 * levels) (levels - 1) (omega arith) (is_read_by levels are)
