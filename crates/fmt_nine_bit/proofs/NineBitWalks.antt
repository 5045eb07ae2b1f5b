-- A manual's step and walk over the words of tables of 512 entries over pages of 4 KiB.
use Rattle.std.proofs.Common.{◌≡◌, ℕ, zero, suc, ◌+◌, ◌-◌, ◌*◌, ◌/◌, ◌%◌, ◌^◌, ◌<◌, ◌≤◌, refl, ap, sym, subst, ◌∙◌, arith, [], ◌∷◌, List, Some, None, Bool, true, false}
use Rattle.std.specs.Prelude.{nat_le, nat_lt, ◌&&◌, ◌==◌, if◌then◌else◌}
use Rattle.std.proofs.lemmas.Bool.{eq-eqb, and_from, le-leb, lt-ltb, lt-leb, ltb-true, ltb-false}
use Rattle.std.proofs.lemmas.Nat.{mod_below, mod-mul-add, pow-add, pow_pos, shr_split}
use Rattle.std.proofs.Math.Pow.{pow_mono}
use native.Mathlib.Nat.{div-div-eq-div-mul, mod-eq_of_lt}
use Rattle.pt_model.specs.declared.block.Prot.{Prot}
use Rattle.pt_model.specs.declared.block.Prot.TheVariants.{Read, ReadWrite}
use Rattle.pt_model.specs.Layout.{Layout, Found, nothing, page, table, alien, at_byte, Reached, may_read, may_write}
use Rattle.pt_model.specs.Pages.{page_at}
use Rattle.pt_model.specs.Words.{frames_in, root_frame, root_level, entry}
use Rattle.pt_format.specs.Manual.{IsWalk, IsRooted, IsRead, OnWay, Onward, an_empty, a_leaf, a_table, by_steps, follow, entry_for}
use Rattle.pt_format.specs.FourKib.{AreRead, layout, leaf, pointer, tables}
use Rattle.pt_format.specs.FourKibLaws.{leaf_of_may}
use Rattle.pt_manual.specs.declared.step.Step.TheVariants.{NotPresent, Page, Next}
use Rattle.pt_manual.specs.Granting.{allowed, granted}
use Rattle.pt_manual.specs.NineBitWalk.{Manual, names_frame, walk_by, walk_from, followed, page_as}
use Rattle.fmt_nine_bit.specs.OverPages.{reached, found, found_page, step_by}
use Rattle.fmt_nine_bit.specs.ManualLayout.{GivesPageOf, IsReadBy, Trees, Words, layout_by, layout_of}
use Rattle.fmt_nine_bit.specs.ManualEntries.{ReadsWritten, entries_by}

-- what a leaf says is what is granted
granted_is : (prot : Prot) → allowed (may_read prot) (may_write prot) ≡ granted prot
granted_is Read = refl
granted_is ReadWrite = refl

-- the page that a step finds where the manual gives a leaf's
pub page_found : (m : Manual) (level word here out log2 : ℕ) (prot : Prot) →
    m.step (m.number level) word ≡ Page (out * 2 ^ 12) (12 + log2) (may_read prot) (may_write prot) →
    step_by m level word here ≡ page (out + here % 2 ^ log2) prot
page_found m level word here out log2 prot step_is =
    let bits : 12 + log2 - 12 ≡ log2 = omega arith in
    let out_is : out * 2 ^ 12 / 2 ^ 12 + here % 2 ^ (12 + log2 - 12) ≡ out + here % 2 ^ log2 = rw bits (omega arith) in
    ap (found here) step_is
    ∙ ap (λ n. found_page n (allowed (may_read prot) (may_write prot))) out_is
    ∙ ap (found_page (out + here % 2 ^ log2)) (granted_is prot)

-- and that it gives one of whole pages
pub page_given : (m : Manual) (level word out log2 : ℕ) (prot : Prot) →
    m.step (m.number level) word ≡ Page (out * 2 ^ 12) (12 + log2) (may_read prot) (may_write prot) → GivesPageOf m level word prot
page_given m level word out log2 prot step_is =
    record { address = out * 2 ^ 12; log2 = 12 + log2; whole = omega arith; wide = omega arith; step_is = step_is }

pub picked : (b : Bool) (x here : ℕ) → (if b then Some x else None) ≡ Some here → (b ≡ true) × (x ≡ here)
picked true x here e = (refl, (let w : x ≡ here = cc in w))
picked false x here e = absurd (let w : ⊥ = cc in w)

pub unpicked : (b : Bool) (x : ℕ) → (if b then Some x else None) ≡ None → b ≡ false
unpicked true x e = absurd (let w : ⊥ = cc in w)
unpicked false x e = refl

-- the entry at which both look
one_entry : (address level : ℕ) → address / 2 ^ (12 + 9 * level) % 2 ^ 9 ≡ address / 2 ^ 12 / 2 ^ (9 * level) % 2 ^ 9
one_entry address level =
    ap (λ n. n % 2 ^ 9) (ap (λ n. address / n) (pow-add 2 12 (9 * level)) ∙ sym (div-div-eq-div-mul address (2 ^ 12) (2 ^ (9 * level))))

-- the byte at which both end
low_bytes : (k n : ℕ) → n % 2 ^ (12 + k) ≡ n / 2 ^ 12 % 2 ^ k * 2 ^ 12 + n % 2 ^ 12
low_bytes k n =
    let above : ℕ = n / 2 ^ 12 / 2 ^ k in
    let wide : 2 ^ (12 + k) ≡ 2 ^ 12 * 2 ^ k = pow-add 2 12 k in
    let few : n / 2 ^ 12 % 2 ^ k < 2 ^ k = mod_below (n / 2 ^ 12) (2 ^ k) (pow_pos k) in
    let low : n / 2 ^ 12 % 2 ^ k * 2 ^ 12 + n % 2 ^ 12 < 2 ^ 12 * 2 ^ k = omega arith in
    let pages = shr_split (n / 2 ^ 12) k in
    let bytes = shr_split n 12 in
    let more : n / 2 ^ 12 / 2 ^ k * 2 ^ k * 2 ^ 12 ≡ n / 2 ^ 12 / 2 ^ k * (2 ^ 12 * 2 ^ k) = omega arith in
    let is : n ≡ n / 2 ^ 12 / 2 ^ k * (2 ^ 12 * 2 ^ k) + (n / 2 ^ 12 % 2 ^ k * 2 ^ 12 + n % 2 ^ 12) = omega arith in
    ap (λ w. n % w) wide ∙ ap (λ x. x % (2 ^ 12 * 2 ^ k)) is
    ∙ mod-mul-add (n / 2 ^ 12 / 2 ^ k) (2 ^ 12 * 2 ^ k) (n / 2 ^ 12 % 2 ^ k * 2 ^ 12 + n % 2 ^ 12) low

bytes : (log2 base address : ℕ) → 12 ≤ log2 → base % 2 ^ 12 ≡ 0 →
    base + address % 2 ^ log2 ≡ (base / 2 ^ 12 + address / 2 ^ 12 % 2 ^ (log2 - 12)) * 2 ^ 12 + address % 2 ^ 12
bytes log2 base address wide whole =
    let is : log2 ≡ 12 + (log2 - 12) = omega arith in
    let low = low_bytes (log2 - 12) address in
    ap (λ k. base + address % 2 ^ k) is ∙ omega (arith, low)

-- what holds on the way holds on it by what follows from it
pub onward_all : (f : Layout) {P Q : ℕ → Type 0} → ((frame : ℕ) → P frame → Q frame) → (found : Found) → Onward f P found → Onward f Q found
onward_all f all nothing on = tt
onward_all f all (page out prot) on = tt
onward_all f all (table t) on = all ((t - 2 ^ 32) / 2 ^ f.granule) on
onward_all f all alien on = tt

named : (frame frames : ℕ) → frame < frames →
    (nat_le (2 ^ 32) (2 ^ 32 + frame * 2 ^ 12) && (((2 ^ 32 + frame * 2 ^ 12 - 2 ^ 32) % 2 ^ 12 == 0) && nat_lt ((2 ^ 32 + frame * 2 ^ 12 - 2 ^ 32) / 2 ^ 12) frames)) ≡ true
named frame frames low =
    let is : (2 ^ 32 + frame * 2 ^ 12 - 2 ^ 32) / 2 ^ 12 ≡ frame = omega arith in
    let whole : ((2 ^ 32 + frame * 2 ^ 12 - 2 ^ 32) % 2 ^ 12 == 0) ≡ true = eq-eqb _ _ (omega arith) in
    let high : nat_le (2 ^ 32) (2 ^ 32 + frame * 2 ^ 12) ≡ true = le-leb _ _ (omega arith) in
    rw (high, whole, is) (lt-ltb _ _ low)

module _ {w : Words} {m : Manual} {t : Trees} (reads : IsReadBy m (layout_of w m t)) where
  abbrev format : Layout
  format = layout_of w m t

  -- what both make of one word, where they agree from the next frame on
  on_word : (words : List ℕ) (address here level e : ℕ) (next : ℕ → Reached) → here ≡ address / 2 ^ 12 →
      IsRead format (frames_in format words) level e →
      Onward format (λ frame. reached (walk_from m words address level frame true true) ≡ next frame) (step_by m level e here) →
      reached (followed words address (m.number level) true true (walk_from m words address level) (m.step (m.number level) e))
      ≡ follow format address next (step_by m level e here)
  on_word words address here level e next is (an_empty z) onward =
      let none : m.step (m.number level) e ≡ NotPresent = ap (m.step (m.number level)) z ∙ reads.empty level in
      rw none refl
  on_word words address here level e next is (a_leaf log2 prot l) onward =
      let p = reads.leaf_is level e log2 prot l in
      let step : m.step (m.number level) e ≡ Page p.address p.log2 (may_read prot) (may_write prot) = p.step_is in
      let stepped : step_by m level e here ≡ page (p.address / 2 ^ 12 + here % 2 ^ (p.log2 - 12)) prot =
      ap (found here) step ∙ ap (found_page (p.address / 2 ^ 12 + here % 2 ^ (p.log2 - 12))) (granted_is prot) in
      ap (λ s. reached (followed words address (m.number level) true true (walk_from m words address level) s)) step
      ∙ ap (λ g. reached (page_as (m.number level) (p.address + address % 2 ^ p.log2) g)) (granted_is prot)
      ∙ ap (λ n. at_byte n prot) (bytes p.log2 p.address address p.wide p.whole)
      ∙ ap (λ h. at_byte ((p.address / 2 ^ 12 + h % 2 ^ (p.log2 - 12)) * 2 ^ 12 + address % 2 ^ 12) prot) (sym is)
      ∙ ap (follow format address next) (sym stepped)
  on_word words address here level e next is (a_table frame at low fa z) onward =
      let said : m.step (m.number level) e ≡ Next (2 ^ 32 + frame * 2 ^ 12) true true =
      reads.pointer_is level e (2 ^ 32 + frame * 2 ^ 12) (record { at_level = at; a_frame = fa; word_is = z }) in
      let stepped : step_by m level e here ≡ table (2 ^ 32 + frame * 2 ^ 12) = ap (found here) said in
      let names : names_frame 12 words (2 ^ 32 + frame * 2 ^ 12) ≡ true = named frame _ low in
      let rest : reached (walk_from m words address level ((2 ^ 32 + frame * 2 ^ 12 - 2 ^ 32) / 2 ^ 12) true true)
      ≡ next ((2 ^ 32 + frame * 2 ^ 12 - 2 ^ 32) / 2 ^ 12) =
      subst (Onward format (λ h. reached (walk_from m words address level h true true) ≡ next h)) stepped onward in
      ap (λ s. reached (followed words address (m.number level) true true (walk_from m words address level) s)) said
      ∙ rw names rest ∙ ap (follow format address next) (sym stepped)

  -- the walk from a table is the walk by steps
  pub walks_from : (words : List ℕ) (address here : ℕ) → here ≡ address / 2 ^ 12 → (tables frame : ℕ) → OnWay format words here tables frame →
      reached (walk_from m words address tables frame true true) ≡ by_steps format words address here tables frame
  walks_from words address here is zero frame way = refl
  walks_from words address here is (suc level) frame way =
      let same : entry format words frame (address / 2 ^ (12 + 9 * level) % 2 ^ 9) ≡ entry_for format words frame level here =
      ap (λ k. entry format words frame k) (one_entry address level ∙ ap (λ k. k / 2 ^ (9 * level) % 2 ^ 9) (sym is)) in
      ap (λ k. reached (followed words address (m.number level) true true (walk_from m words address level) (m.step (m.number level) k))) same
      ∙ on_word words address here level (entry_for format words frame level here) (by_steps format words address here level) is way.0
      (onward_all format (walks_from words address here is level) (step_by m level (entry_for format words frame level here) here) way.1)

  -- an address that has a page is one of the input's
  pub near : (address here : ℕ) → page_at format address ≡ Some here → (address < 2 ^ t.input) × (here ≡ address / 2 ^ 12)
  near address here e =
      let p = picked (nat_lt address (2 ^ t.input)) (address % 2 ^ t.input / 2 ^ 12) here e in
      let low : address < 2 ^ t.input = ltb-true _ _ p.0 in
      (low, sym p.1 ∙ ap (λ n. n / 2 ^ 12) (mod-eq_of_lt low))

-- tables of a fixed number of levels
module _ (w : Words) (m : Manual) (levels input bad_root : ℕ) (few : input ≤ 12 + 9 * levels)
    (reads : IsReadBy m (layout_by w m levels input bad_root)) where
  abbrev fixed : Layout
  fixed = layout_by w m levels input bad_root

  rooted : (words : List ℕ) → IsRooted fixed words → (nat_lt (root_frame words) (frames_in fixed words) && (root_level words + 1 == levels)) ≡ true
  rooted words r =
      let a = r.a_frame in let b = r.high in let c = r.low in
      let is : root_level words + 1 ≡ levels = omega arith in
      and_from (nat_lt (root_frame words) (frames_in fixed words)) (root_level words + 1 == levels) (lt-ltb _ _ a) (eq-eqb _ _ is)

  pub walk_by_steps : IsWalk fixed
  walk_by_steps = record {
    no_page = λ words address r small e.
        let far : nat_lt address (2 ^ input) ≡ false = unpicked _ _ e in
        let past : nat_le (2 ^ input) address ≡ true = le-leb _ _ (let f = ltb-false _ _ far in omega arith) in
        rw (rooted words r, past) refl;
    beyond = λ words address here r small e out. absurd
        (let n = near reads address here e in
        let is : root_level words + 1 ≡ levels = let a = r.high in let b = r.low in omega arith in
        let wide : 2 ^ (12 + 9 * levels) ≡ 2 ^ 12 * 2 ^ (9 * levels) = pow-add 2 12 (9 * levels) in
        let most : 2 ^ input ≤ 2 ^ (12 + 9 * levels) = pow_mono few in
        let far : 2 ^ (9 * levels) ≤ here = subst (λ k. 2 ^ (9 * k) ≤ here) is out in
        let close = n.0 in let at = n.1 in omega arith);
    walks = λ words address here under way.
        let r = under.rooted in
        let n = near reads address here under.at_page in
        let past : nat_le (2 ^ input) address ≡ false = lt-leb _ _ n.0 in
        let is : root_level words + 1 ≡ levels = let a = r.high in let b = r.low in omega arith in
        let begins : reached (walk_by m words levels input bad_root address) ≡ reached (walk_from m words address levels (root_frame words) true true) =
        rw (rooted words r, past) refl in
        begins ∙ ap (λ k. reached (walk_from m words address k (root_frame words) true true)) (sym is)
        ∙ walks_from reads words address here n.1 (root_level words + 1) (root_frame words) way;
  }

-- Tables whose entries have the address in one field.
module _ (m : Manual) (states : Prot → Bool) (of_leaf : Prot → ℕ) (of_pointer : ℕ)
    (reads : ReadsWritten m (entries_by m states of_leaf of_pointer)) where
  pub are_read : AreRead (entries_by m states of_leaf of_pointer)
  are_read = record {
    empty = λ level here. ap (found here) (reads.empty level);
    leaf_is = λ level word out here prot leaf.
        page_found m level word here out (9 * level) prot (reads.leaf_is level word out prot leaf);
    pointer_is = λ level word address here pointer. ap (found here) (reads.pointer_is level word address pointer);
  }

  pub is_walk : (levels input bad_root : ℕ) → input ≤ 12 + 9 * levels →
      IsWalk (layout (tables (entries_by m states of_leaf of_pointer) levels input (λ words address. reached (walk_by m words levels input bad_root address))))
  is_walk levels input bad_root few =
      walk_by_steps
      (record {
        output = 52;
        sizes = 0 ∷ 9 ∷ 18 ∷ [];
        states = states;
        pointer = λ level address. pointer (entries_by m states of_leaf of_pointer) address;
        leaf = λ level log2 out prot part. leaf (entries_by m states of_leaf of_pointer) level out prot;
      })
      m levels input bad_root few
      (record {
        empty = reads.empty;
        leaf_is = λ level word log2 prot l.
            page_given m level word l.out (9 * level) prot
            (reads.leaf_is level word l.out prot (leaf_of_may {t = tables (entries_by m states of_leaf of_pointer) levels input (λ words address. reached (walk_by m words levels input bad_root address))} word l.may l.word_is));
        pointer_is = λ level word address p. reads.pointer_is level word address (record { above = p.at_level.above; a_frame = p.a_frame; word_is = p.word_is });
      })
