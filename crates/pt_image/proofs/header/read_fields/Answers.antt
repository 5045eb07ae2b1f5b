use Rattle.std.proofs.Common.{◌≡◌, ℕ, ◌+◌, ◌-◌, ◌*◌, ◌%◌, ◌^◌, Bool, true, false, not, List, length, length-drop, refl, sym, ap, ◌∙◌, arith, drop, take}
use Rattle.std.specs.Prelude.{Some, None, slice_index, nat_eq}
use Rattle.std.specs.Cmp.Lexicographic.{pointwise}
use Rattle.std.proofs.Math.Seq.{take-length}
use Rattle.std.proofs.lemmas.Bool.{false≢true}
use Rattle.std.proofs.lemmas.Bool.Decides.{Decides-eqb}
use Rattle.std.proofs.lemmas.List.{get_or-drop}
use Rattle.std.proofs.lemmas.Nat.{one_shl}
use Rattle.std.proofs.lemmas.Slice.Eq.{slice_eq-Decides}
use Rattle.byteorder.specs.Endian.{little_number}
use Rattle.pt_model.specs.Words.{frame_limit}
use Rattle.pt_names.specs.Names.{layout_of}
use Rattle.pt_image.specs.Bytes.{number_at}
use Rattle.pt_image.specs.Headers.{AreLevels, IsMarked, name_at, no_mark, no_format, no_levels, no_frames}
use Rattle.pt_image.proofs.header.read_fields.Goals as goal
use Rattle.pt_image.proofs.header.read_fields.Goals.{then-levels-start_of-via-then-levels-start_of, then-levels-start_of-via-else-levels-start_of+then-levels-levels_of, then-frames-eq0-via-then-frames-eq0, then-frames-eq0-via-else-frames-eq0+then-frames-granule}

byte_at : (offset : ℕ) (image : List ℕ) → number_at offset 1 image ≡ slice_index image offset
unfolding number_at
byte_at offset image =
    let a = get_or-drop offset image 0 0 in
    let b = ap (λ (k : ℕ). slice_index image k) (let z : offset + 0 ≡ offset = omega arith in z) in omega arith

frames_at : (image : List ℕ) → number_at 10 4 image ≡ little_number 4 (drop 10 image)
unfolding number_at
frames_at image = refl

rest_is : (image : List ℕ) → take (length image - 10) (drop 10 image) ≡ drop 10 image
rest_is image = ap (λ (k : ℕ). take k (drop 10 image)) (sym (length-drop 10 image)) ∙ take-length (drop 10 image)

-- what the comparison of the first bytes answers
differ_of : (b r : Bool) → r ≡ not b → r ≡ false → b ≡ true
differ_of true r e z = refl
differ_of false r e z = absurd (false≢true (sym z ∙ e))

mark_is : (xs ys : List ℕ) (r : Bool) → r ≡ not (pointwise nat_eq xs ys) → r ≡ false → xs ≡ ys
mark_is xs ys r e z = (slice_eq-Decides Decides-eqb xs ys (pointwise nat_eq xs ys) refl).0 (differ_of (pointwise nat_eq xs ys) r e z)

mark_is_not : (xs ys : List ℕ) (r : Bool) → r ≡ not (pointwise nat_eq xs ys) → r ≡ true → ¬ (xs ≡ ys)
mark_is_not xs ys r e z same =
    let equal : pointwise nat_eq xs ys ≡ true = (slice_eq-Decides Decides-eqb xs ys (pointwise nat_eq xs ys) refl).1 same in
    false≢true (sym (ap not equal) ∙ sym e ∙ z)

pub returns-then-ne-clause-bad : goal.returns-then-ne-clause-bad
returns-then-ne-clause-bad c = no_mark (λ m. mark_is_not (take 8 c.args.bytes.now) c.as_slice.result.now c.ne.result c.ne.ensures c.if-ne.true (m ∙ sym c.as_slice.ensures))

pub returns-in_default-clause-bad : goal.returns-in_default-clause-bad
returns-in_default-clause-bad c =
    let marked : IsMarked c.args.bytes.now = mark_is (take 8 c.args.bytes.now) c.as_slice.result.now c.ne.result c.ne.ensures c.if-ne.false ∙ c.as_slice.ensures in
    let none : name_at (number_at 8 1 c.args.bytes.now) ≡ None = ap name_at (byte_at 8 c.args.bytes.now) ∙ sym c.name_of.ensures ∙ c.in_default.is in
    no_format marked none

pub returns-then-levels-start_of-clause-bad : goal.returns-then-levels-start_of-clause-bad
returns-then-levels-start_of-clause-bad c =
    let marked : IsMarked c.args.bytes.now = mark_is (take 8 c.args.bytes.now) c.as_slice.result.now c.ne.result c.ne.ensures c.if-ne.false ∙ c.as_slice.ensures in
    let known : name_at (number_at 8 1 c.args.bytes.now) ≡ Some c.in-Some.name = ap name_at (byte_at 8 c.args.bytes.now) ∙ sym c.name_of.ensures ∙ c.in-Some.is in
    let levels : c.from-levels.result ≡ number_at 9 1 c.args.bytes.now = c.from-levels.ensures ∙ sym (byte_at 9 c.args.bytes.now) in
    no_levels marked c.in-Some.name known (λ a. elim c.then-levels-start_of.branch [
      | then-levels-start_of-via-then-levels-start_of w ↦ let low = a.low in let over = w.if-levels-start_of.true in let start = c.start_of.ensures in omega arith
      | then-levels-start_of-via-else-levels-start_of+then-levels-levels_of w ↦ let high = a.high in let over = w.if-levels-levels_of.true in let most = w.levels_of.ensures in omega arith
    ])

pub returns-then-frames-eq0-clause-bad : goal.returns-then-frames-eq0-clause-bad
returns-then-frames-eq0-clause-bad c =
    let marked : IsMarked c.args.bytes.now = mark_is (take 8 c.args.bytes.now) c.as_slice.result.now c.ne.result c.ne.ensures c.if-ne.false ∙ c.as_slice.ensures in
    let known : name_at (number_at 8 1 c.args.bytes.now) ≡ Some c.in-Some.name = ap name_at (byte_at 8 c.args.bytes.now) ∙ sym c.name_of.ensures ∙ c.in-Some.is in
    let level : c.from-levels.result ≡ number_at 9 1 c.args.bytes.now = c.from-levels.ensures ∙ sym (byte_at 9 c.args.bytes.now) in
    let levels : AreLevels (layout_of c.in-Some.name) (number_at 9 1 c.args.bytes.now) = record {
      low = let over = c.if-levels-start_of.false in let start = c.start_of.ensures in omega arith;
      high = let over = c.if-levels-levels_of.false in let most = c.levels_of.ensures in omega arith;
    } in
    let frames : c.read_u32-frames.result ≡ number_at 10 4 c.args.bytes.now = c.read_u32-frames.ensures
    ∙ ap (λ (xs : List ℕ). little_number 4 xs) (rest_is c.args.bytes.now) ∙ sym (frames_at c.args.bytes.now) in
    let limit : (1 * 2 ^ (27 - c.granule_of-granule.result)) % 4294967296 ≡ frame_limit (layout_of c.in-Some.name) =
    one_shl (27 - c.granule_of-granule.result) 32 (omega arith) ∙ ap (λ (k : ℕ). 2 ^ (27 - k)) c.granule_of-granule.ensures in
    no_frames marked c.in-Some.name known levels (λ a. elim c.then-frames-eq0.branch [
      | then-frames-eq0-via-then-frames-eq0 w ↦ let some = a.some in let none = w.if-frames-eq0.true in omega arith
      | then-frames-eq0-via-else-frames-eq0+then-frames-granule w ↦ let few = a.few in let over = w.if-frames-granule.true in omega arith
    ])
