-- Pages that no block is on both sides of, and what a command leaves of them.
use Rattle.std.proofs.Common.{◌≡◌, ◌⊎◌, ℕ, suc, ◌+◌, ◌/◌, ◌^◌, ◌≤◌, Bool, true, false, inl, inr, List, [], ◌∷◌, Option, Some, None, refl, arith}
use Rattle.std.specs.Prelude.{All, IsTrue, find, if◌then◌else◌}
use Rattle.std.proofs.lemmas.Bool.{cases_Bool}
use Rattle.std.proofs.lemmas.List.Elements.{All-cons, All-filter}
use Rattle.pt_model.specs.declared.block.Block.{Block}
use Rattle.pt_model.specs.declared.block.Prot.{Prot}
use Rattle.pt_model.specs.declared.command.What.{What}
use Rattle.pt_model.specs.declared.command.What.TheVariants.{Map, Unmap, Lookup, Dump, Release, Fork, With, End}
use Rattle.pt_model.specs.declared.reply.MapAnswer.TheVariants as mapping
use Rattle.pt_model.specs.declared.reply.UnmapAnswer.{UnmapAnswer}
use Rattle.pt_model.specs.declared.reply.UnmapAnswer.TheVariants as unmapping
use Rattle.pt_model.specs.Layout.{is_size}
use Rattle.pt_model.specs.Pages.{page_under}
use Rattle.pt_model.specs.Tiling.{tiling}
use Rattle.pt_model.specs.Book.{Book, MapRefusal, Misaligned, OutsideLease, OutputRange, Occupied, span_end, map_refusal, mapped}
use Rattle.pt_model.specs.Unmap.{unmapped}
use Rattle.pt_model.specs.Cuts.{crosses}
use Rattle.pt_model.specs.Run.{Machine, after_map, after_unmap, book_after, refused_answer, unmap_answer}
use Rattle.pt_laws.specs.Apart.{LieIn}
use Rattle.pt_laws.proofs.Between.{crosses_apart, tiles_lie}
use Rattle.pt_laws.proofs.Same.{map_inside}
use Rattle.pt_book.proofs.ListFacts.{all_added}
use Rattle.pt_narrow.specs.Standing.{LeavesApart}

-- a search for a block on both sides finds none exactly where none is
pub found_none : (page : ℕ) (bs : List Block) → All (λ b. crosses page b ≡ false) bs → find (crosses page) bs ≡ None
found_none page [] all = refl
found_none page (b ∷ bs) all =
    let here : crosses page b ≡ false = all 0 b (omega arith) in
    rw here (found_none page bs (λ k d h. all (suc k) d (omega arith)))

pub none_found : (page : ℕ) (bs : List Block) → find (crosses page) bs ≡ None → All (λ b. crosses page b ≡ false) bs
none_found page [] e = λ k d h. absurd (omega arith)
none_found page (b ∷ bs) e = elim (cases_Bool (crosses page b)) [
  | inl on ↦ absurd (let some : Some b ≡ None = rw on at e in let w : ⊥ = cc in w)
  | inr off ↦ All-cons (λ b. crosses page b ≡ false) b bs off (none_found page bs (rw off at e))
]

-- blocks that lie in pages aren't on both sides of one at their ends or outside
pub apart_outside : (page lo hi : ℕ) (bs : List Block) → LieIn lo hi bs → (page ≤ lo) ⊎ (hi ≤ page) → All (λ b. crosses page b ≡ false) bs
apart_outside page lo hi [] l out = λ k d h. absurd (omega arith)
apart_outside page lo hi (b ∷ bs) l out =
    All-cons (λ b. crosses page b ≡ false) b bs
    (elim out [
      | inl before ↦ let low = l.0 in (crosses_apart page page page (omega arith) (omega arith)).behind b (omega arith)
      | inr behind ↦ let high = l.2 in (crosses_apart page page page (omega arith) (omega arith)).before b (omega arith)
    ])
    (apart_outside page lo hi bs l.3 out)

-- A command leaves the pages at the ends of its span and outside apart, and keeps the span.
module _ (m : Machine) (b : Book) where
  module _ (size : IsTrue (is_size m.layout 0)) (page : ℕ) (out : (page ≤ b.first) ⊎ (span_end b ≤ page)) (apart : LeavesApart b page) where
    map_apart : (va pa len : ℕ) (prot : Prot) (lacking : Bool) (o : Option MapRefusal) → map_refusal m.layout b va pa len ≡ o →
        LeavesApart
        (after_map
        (elim o [ Some refusal ↦ refused_answer refusal | None ↦ if lacking then mapping.Frames else mapping.Mapped ])
        (mapped m.layout m.levels b (page_under m.layout va) (len / 2 ^ m.layout.granule) (pa / 2 ^ m.layout.granule) prot)
        b)
        page
    map_apart va pa len prot lacking (Some Misaligned) e = apart
    map_apart va pa len prot lacking (Some OutsideLease) e = apart
    map_apart va pa len prot lacking (Some OutputRange) e = apart
    map_apart va pa len prot lacking (Some (Occupied address)) e = apart
    map_apart va pa len prot true None e = apart
    map_apart va pa len prot false None e =
        let first = page_under m.layout va in
        let count = len / 2 ^ m.layout.granule in
        let new = tiling m.layout prot first (pa / 2 ^ m.layout.granule) count in
        let inside = map_inside m.layout b va pa len e in
        let from = inside.0 in
        let to = inside.1 in
        let lie : LieIn first (first + count) new = tiles_lie m.layout prot count first (pa / 2 ^ m.layout.granule) count (first + count) size refl in
        all_added (λ b. crosses page b ≡ false) b.blocks new apart
        (apart_outside page first (first + count) new lie (elim out [ inl before ↦ inl (omega arith) | inr behind ↦ inr (omega arith) ]))

    unmap_apart : (first count : ℕ) (a : UnmapAnswer) → LeavesApart (after_unmap a (unmapped m.layout b first count) b) page
    unmap_apart first count (unmapping.Unmapped pages) = All-filter _ (λ b. crosses page b ≡ false) b.blocks apart
    unmap_apart first count unmapping.Misaligned = apart
    unmap_apart first count unmapping.Outside = apart
    unmap_apart first count (unmapping.Cuts block) = apart

    pub apart_after : (lacking : Bool) (what : What) → LeavesApart (book_after m b lacking what) page
    apart_after lacking (Map va pa len prot) = map_apart va pa len prot lacking (map_refusal m.layout b va pa len) refl
    apart_after lacking (Unmap va len) = unmap_apart (page_under m.layout va) (len / 2 ^ m.layout.granule) (unmap_answer m b va len)
    apart_after lacking (Lookup va) = apart
    apart_after lacking Dump = apart
    apart_after lacking Release = apart
    apart_after lacking (Fork at) = apart
    apart_after lacking With = apart
    apart_after lacking End = apart
