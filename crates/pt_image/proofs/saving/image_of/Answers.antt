use Rattle.std.proofs.Common.{◌≡◌, ◌+◌, ◌-◌, ◌≤◌, length, ℕ, List, ◌++◌, get_or, sym, ap, ◌∙◌, subst, arith, length-drop, take, drop}
use Rattle.std.specs.Prelude.{flat_map, slice_index}
use Rattle.std.proofs.Math.Seq.{take-length}
use Rattle.std.proofs.lemmas.List.{flat_map_more, take_all, take_more}
use Rattle.byteorder.specs.Endian.{little_bytes}
use Rattle.pt_image.specs.Bytes.{head_bytes}
use Rattle.pt_image.specs.Headers.{ReadsBack}
use Rattle.pt_image.specs.Visits.{HasImage}
use Rattle.pt_image.proofs.SavedBytes.{image_fields, image_has}
use Rattle.pt_image.proofs.saving.image_of.Goals as goal

-- the words from a place on
abbrev behind : (at : ℕ) → List ℕ → List ℕ
behind at words = take (length words - at) (drop at words)

behind_is : (at : ℕ) (words : List ℕ) → behind at words ≡ drop at words
behind_is at words = ap (λ (k : ℕ). take k (drop at words)) (sym (length-drop at words)) ∙ take-length (drop at words)

pub loop-word-init : goal.loop-word-init
loop-word-init c = c.in_ok-image.ensures

pub loop-word-preserved : goal.loop-word-preserved
loop-word-preserved c =
    let head : List ℕ = head_bytes c.args.number c.args.levels c.args.frames (slice_index c.args.words.now 0) in
    let words : List ℕ = behind (1 + c.args.frames) c.args.words.now in
    let i : ℕ = c.loop-word.word-index in
    c.in_ok-extend_from_slice.ensures.items ∙ ap (λ xs. xs ++ c.to_le_bytes.result) c.loop-word.invariant
    ∙ ap (λ ys. (head ++ flat_map (little_bytes 8) (take i words)) ++ ys) c.to_le_bytes.ensures
    ∙ flat_map_more (little_bytes 8) head (take i words) (get_or words i 0)
    ∙ ap (λ xs. head ++ flat_map (little_bytes 8) xs) (sym (take_more words i 0 c.loop-word-test.true))

-- the bytes at the end of the loop
bytes_are : (head words : List ℕ) (at i : ℕ) (items : List ℕ) → length (behind at words) ≤ i → items ≡ head ++ flat_map (little_bytes 8) (take i (behind at words)) → items ≡ head ++ flat_map (little_bytes 8) (drop at words)
bytes_are head words at i items past is = is ∙ ap (λ xs. head ++ flat_map (little_bytes 8) xs) (take_all i (behind at words) past ∙ behind_is at words)

pub returns-clause-bytes : goal.returns-clause-bytes
returns-clause-bytes c =
    bytes_are (head_bytes c.args.number c.args.levels c.args.frames (slice_index c.args.words.now 0)) c.args.words.now (1 + c.args.frames) c.loop-word.word-index c.loop-word.image.items
    c.loop-word-test.false c.loop-word.invariant

pub returns-clause-fields : goal.returns-clause-fields
returns-clause-fields c =
    let is = bytes_are (head_bytes c.args.number c.args.levels c.args.frames (slice_index c.args.words.now 0)) c.args.words.now (1 + c.args.frames) c.loop-word.word-index c.loop-word.image.items
    c.loop-word-test.false c.loop-word.invariant in
    subst (ReadsBack c.args.number c.args.levels c.args.frames) (sym is)
    (λ name known levels frames. image_fields c.args.number c.args.levels c.args.frames c.args.words.now name c.ranges.frames.fits known levels frames)

pub returns-clause-words : goal.returns-clause-words
returns-clause-words c f long =
    let is = bytes_are (head_bytes c.args.number c.args.levels c.args.frames (slice_index c.args.words.now 0)) c.args.words.now (1 + c.args.frames) c.loop-word.word-index c.loop-word.image.items
    c.loop-word-test.false c.loop-word.invariant in
    subst (λ (image : List ℕ). HasImage f c.args.frames image c.args.words.now) (sym is)
    (image_has f c.args.number c.args.levels c.args.frames c.args.words.now long (λ i. let fits = c.type_inv.words i in omega arith))
