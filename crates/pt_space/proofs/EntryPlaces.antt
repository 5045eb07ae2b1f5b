-- The places of entries of a lease's last table.
use Rattle.std.proofs.Common.{◌≡◌, ℕ, ◌+◌, ◌-◌, ◌*◌, ◌^◌, ◌<◌, ◌≤◌, sym, ap, ◌∙◌, subst, arith, pow_mono}
use Rattle.std.proofs.lemmas.Nat.{mul-le}
use Rattle.pt_model.specs.declared.position.Position.{Position}
use Rattle.pt_model.specs.Layout.{Layout}
use Rattle.pt_model.specs.Words.{entry_place, frame_limit, word_count}
use Rattle.pt_model.proofs.Places.{entry_within}
use Rattle.pt_format.specs.Laws.{IsLayout}
use Rattle.pt_view.specs.declared.view.View.{View}
use Rattle.pt_view.specs.Calls.{IsEntryAt, lowest}
use Rattle.pt_rule.specs.Kinds.{IsLowestIn}
use Rattle.pt_space.specs.Standing.{IsEntryPlace, SpaceId, Standing}

-- a space has at most 2 ^ 32 words
pub words_few : (f : Layout) → IsLayout f → (n : ℕ) → n ≤ frame_limit f → word_count f n ≤ 2 ^ 32
words_few f good n few =
    let low = good.granule_low in
    let high = good.granule_high in
    let index = good.index_is in
    let frame_bits : 27 - f.granule ≤ 15 = omega arith in
    let entry_bits : f.index ≤ 13 = omega arith in
    let frames : 2 ^ (27 - f.granule) ≤ 2 ^ 15 = pow_mono frame_bits in
    let entries : 2 ^ f.index ≤ 2 ^ 13 = pow_mono entry_bits in
    let all : n * 2 ^ f.index ≤ 2 ^ 15 * 2 ^ 13 = mul-le n (2 ^ f.index) (2 ^ 15) (2 ^ 13) (omega arith) entries in omega arith

-- what a holder's value says is so of the one that its fields show
pub lowest_at : {f : Layout} {s t : Standing} {frame number word : ℕ} → s ≡ t → IsEntryPlace f t frame number word → IsLowestIn s.view frame
lowest_at {frame = frame} is at = subst (λ (x : Standing). IsLowestIn x.view frame) (sym is) at.lowest

pub place_at : {f : Layout} {s t : Standing} {frame number word : ℕ} → s ≡ t → IsEntryPlace f t frame number word → entry_place f s.space.frames frame number ≡ word
place_at {f} {frame = frame} {number = number} {word = word} is at = subst (λ (x : Standing). entry_place f x.space.frames frame number ≡ word) (sym is) at.place

pub within_at : {f : Layout} {s t : Standing} {frame number word : ℕ} → s ≡ t → IsEntryPlace f t frame number word → number < 2 ^ f.index → word < word_count f s.space.frames
within_at {f} {s} {t} {frame} {number} {word} is at in_table =
    subst (λ (x : Standing). word < word_count f x.space.frames) (sym is)
    (subst (λ (place : ℕ). place < word_count f t.space.frames) at.place (entry_within f t.space.frames frame number at.a_frame in_table))

-- the entry of a run that is so many on stands so many words on
pub place_on : {f : Layout} {s t : Standing} {frame first word : ℕ} → IsEntryPlace f s frame first word → t.space ≡ s.space → t.view.path ≡ s.view.path → (i : ℕ) →
    IsEntryPlace f t frame (first + i) (word + i)
place_on {f} {s} {t} {frame} {first} {word} at space path i = record {
  lowest = (at.lowest.0, ap lowest path ∙ at.lowest.1);
  a_frame = subst (λ (z : SpaceId). frame < z.frames) (sym space) at.a_frame;
  place = ap (λ (z : SpaceId). entry_place f z.frames frame (first + i)) space ∙ (let e = at.place in omega arith);
}

-- a word that is an entry's is a small number
pub place_few : (f : Layout) → IsLayout f → {s : Standing} {frame number word : ℕ} → s.space.frames ≤ frame_limit f → IsEntryPlace f s frame number word → number < 2 ^ f.index → word < 2 ^ 32
place_few f good {s} {frame} {number} few at in_table =
    let all = words_few f good s.space.frames few in
    let within = entry_within f s.space.frames frame number at.a_frame in_table in
    let place = at.place in omega arith

-- the first entry of a run
pub first_entry : {f : Layout} {v : View} {p : Position} {first : ℕ} → IsEntryAt f v p (first + 0) → IsEntryAt f v p first
first_entry {f} {v} {p} {first} = subst (IsEntryAt f v p) (let e : first + 0 ≡ first = omega arith in e)
