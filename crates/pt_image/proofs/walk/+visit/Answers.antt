use Rattle.std.proofs.Common.{rules, refl, inl, ◌++◌, ◌≡◌, ◌≢◌, ℕ, ◌+◌, ◌-◌, ◌*◌, ◌/◌, ◌%◌, ◌^◌, ◌<◌, ◌≤◌, List, length, sym, ap, ◌∙◌, subst, arith, pow_mono, length-set}
use Rattle.std.proofs.lemmas.Nat.{one_shl, pow_pos}
use Rattle.std.proofs.lemmas.Result.{err_from_is_err_and}
use mathlib.Core.Logic.{dite}
use native.Mathlib.Decide.{dec_le}
use Rattle.pt_model.specs.declared.position.Position.{Position}
use Rattle.pt_model.specs.Layout.{input_pages, level_of_size, pages_of_table}
use Rattle.pt_model.specs.Tables.{IsPosition, child_at, starting_top}
use Rattle.pt_model.specs.Words.{entry_place, frame_address, frame_named, tag, word_count}
use Rattle.pt_format.specs.Reading.{IsAlien}
use Rattle.pt_format.specs.Words.{IsLeaf, IsPointer}
use Rattle.pt_view.specs.Calls.{entry_first}
use Rattle.pt_view.specs.Pieces.{words_of}
use Rattle.pt_image.specs.Bytes.{entry_at}
use Rattle.pt_image.specs.Checks.{CopiesTo, GoesOn, IsCopied, IsEntryIn, IsTableIn, LeavesGood, RefusesFor, Sees, VisitsTo, position_of, visits_of}
use Rattle.pt_image.specs.Drafts.{Copies, group_words, linked_words}
use Rattle.pt_image.specs.Faults.{HasBlockAt, IsOfSpine, NamesFirstBad}
use Rattle.pt_image.specs.Visits.{Visits}
use Rattle.pt_image.specs.declared.fault.EntryFault.TheVariants.{Outside, Alien, Pointer, Shared, Group, Spine}
use Rattle.pt_image.specs.declared.fault.ImageFault.TheVariants.{Entry}
use Rattle.pt_image.proofs.Copying.{IsNoBridge, copy_copies, copy_enters, copy_passes, linked_tag}
use Rattle.pt_image.proofs.Entries.{child_aligned}
use Rattle.pt_image.proofs.Groups.{fits}
use Rattle.pt_image.proofs.Judging.{bad_here, bad_whole, leaves_begin, leaves_block, leaves_more, leaves_table, leaves_zero, refuses_table, visit_at}
use Rattle.pt_image.proofs.Numbers.{entry_high, entry_low, entry_place_at}
use Rattle.pt_image.proofs.OneBlock.{in_none}
use Rattle.pt_image.proofs.Pointing.{names_none, names_some}
use Rattle.pt_image.proofs.Visiting.{address_back, child_is_tagged, now_tag, visit_copies, visit_entered, visit_passes}
use Rattle.pt_image.proofs.walk.+visit.Goals as goal
use Rattle.pt_image.proofs.walk.+visit.Goals.{visit-then-word-ne0+else-from-last+in_ok-done, visit-else-word-ne0}

pub enter-visit-requires : goal.enter-visit-requires
enter-visit-requires g t c κs within =
    let f = g.F.Format.layout in
    let p : Position = position_of c.args.table in
    let child : ℕ = c.frame_named-child.result in
    let high : 0 < c.args.table.level = (let a = c.in-Table.ensures.at_level.above in omega arith) in
    let linked : c.link.new.words ≡ linked_words f c.args.header.now.frames c.args.words.now c.args.table.frame c.args.entry.number p child = c.link.ensures in
    let long : length c.link.new.words ≡ word_count f c.args.header.now.frames =
    ap length linked ∙ length-set _ (entry_place f c.args.header.now.frames c.args.table.frame c.args.entry.number) _ ∙ length-set c.args.words.now (1 + child) _ ∙ c.requires.words in
    let few : child < c.args.header.now.frames = (let a = c.if-child-header.false in omega arith) in
    let at : IsPosition f (record { level = c.args.table.level - 1; base = c.args.entry.first }) = record {
      a_level = let a = c.requires.table.at.a_level in omega arith;
      a_page = c.requires.entry.inside;
      aligned = subst (λ (b : ℕ). b % pages_of_table f (c.args.table.level - 1) ≡ 0) (sym c.requires.entry.first_is) (child_aligned f p c.args.entry.number high c.requires.table.at.aligned);
    } in
    let table : IsTableIn f c.args.header.now (record { frame = child; level = c.args.table.level - 1; base = c.args.entry.first }) = record { a_frame = few; at = at } in
    search (rules, high, long, table)

pub enter-returns-in_ok-visit-in-Table-clause-goes_on : goal.enter-returns-in_ok-visit-in-Table-clause-goes_on
enter-returns-in_ok-visit-in-Table-clause-goes_on g t c =
    let f = g.F.Format.layout in
    let law = g.met.F.Format in
    let n : ℕ = c.args.header.now.frames in
    let low : ℕ = starting_top c.args.header.now.levels in
    let p : Position = position_of c.args.table in
    let child : ℕ = c.frame_named-child.result in
    let high : 0 < c.args.table.level = (let a = c.in-Table.ensures.at_level.above in omega arith) in
    let few : child < n = (let a = c.if-child-header.false in omega arith) in
    let free : tag c.args.words.now child ≡ 0 = (let a = c.if-words-child-ne0.false in omega arith) in
    let linked : c.link.new.words ≡ linked_words f n c.args.words.now c.args.table.frame c.args.entry.number p child = c.link.ensures in
    let inside : entry_first f p c.args.entry.number < input_pages f = subst (λ (b : ℕ). b < input_pages f) c.requires.entry.first_is c.requires.entry.inside in
    let inner : Copies f n low (linked_words f n c.args.words.now c.args.table.frame c.args.entry.number p child) c.visit.new.words child (2 ^ f.index) (child_at f p c.args.entry.number) =
    subst (λ (z : List ℕ × ℕ). Copies f n low z.0 c.visit.new.words child (2 ^ f.index) (record { level = c.args.table.level - 1; base = z.1 }))
    (λ j. (linked j, c.requires.entry.first_is j)) c.in_ok-visit-in-Table.ensures.copies in
    let address = address_back f c.in-Table.address c.in-Table.ensures.a_frame in
    let pointer : entry_at f c.args.image.now c.args.table.frame c.args.entry.number ≡ f.pointer p.level (frame_address f child) =
    sym c.requires.entry.word_is ∙ c.in-Table.ensures.word_is ∙ ap (f.pointer p.level) (address ∙ ap (frame_address f) (sym c.frame_named-child.ensures)) in
    record {
      some = omega arith;
      fits = let b = c.requires.entry.below in omega arith;
      copies = λ before w. copy_enters law.lawful_layout law.words_differ law.steps_agree child w c.requires.entry.below high inside few free inner;
      visits = λ before v start. visit_entered child p v c.requires.entry.below few c.requires.table.a_frame c.requires.words free pointer inner.tags inner.entries
          (subst (λ (ws : List ℕ). Visits f n c.args.image.now ws c.visit.new.words child (2 ^ f.index)) linked c.in_ok-visit-in-Table.ensures.visits) start;
    }

pub enter-returns-in-Some-clause-goes_on : goal.enter-returns-in-Some-clause-goes_on
enter-returns-in-Some-clause-goes_on g t c =
    let f = g.F.Format.layout in
    let law = g.met.F.Format in
    let n : ℕ = c.args.header.now.frames in
    let low : ℕ = starting_top c.args.header.now.levels in
    let p : Position = position_of c.args.table in
    let number : ℕ = c.args.entry.number in
    let k : IsCopied f n c.args.image.now c.args.words.now c.copy_block.new.words c.args.table c.args.entry c.in-Some.count = c.in-Some.ensures.copied in
    let first = k.first_is ∙ c.requires.entry.first_is in
    let few : number + words_of f k.block ≤ 2 ^ f.index = fits f law.lawful_layout number p c.requires.table.at.aligned c.requires.entry.below k.block k.level_is first k.legal k.stated in
    let count = k.count_is in
    let no_bridge : IsNoBridge low p number = λ zero base.
    (let a = law.lawful_layout.sizes_low k.block.log2 k.legal.a_size in let b = k.level_is in let d = c.requires.header.low in omega arith) in
    let same : group_words f n c.args.words.now c.args.table.frame number k.block (words_of f k.block) ≡ c.copy_block.new.words =
    ap (group_words f n c.args.words.now c.args.table.frame number k.block) count ∙ sym k.words_are in
    record {
      some = let a = pow_pos (k.block.log2 - f.index * level_of_size f k.block.log2) in omega arith;
      fits = omega arith;
      copies = λ before w. subst (λ (z : List ℕ × ℕ). Copies f n low before z.0 c.args.table.frame (number + z.1) p) (λ j. (same j, count j))
          (copy_copies w c.requires.entry.below law.lawful_layout law.words_differ law.steps_agree k.block no_bridge k.level_is first c.requires.table.at.aligned k.legal k.stated);
      visits = λ before v. subst (λ (ws : List ℕ). Visits f n c.args.image.now before ws c.args.table.frame (number + c.in-Some.count)) (sym k.words_are)
          (visit_copies v k.block c.in-Some.count c.requires.words c.requires.table.a_frame (omega arith) k.image_has);
    }

pub visit-enter-requires : goal.visit-enter-requires
visit-enter-requires g t c κs within =
    let f = g.F.Format.layout in
    let law = g.met.F.Format in
    let p : Position = position_of c.args.table in
    let constants = law.has_constants in
    let input : c.INPUT.result ≡ f.input = c.INPUT.ensures ∙ sym constants.input_is in
    let granule : c.GRANULE.result ≡ f.granule = c.GRANULE.ensures ∙ sym constants.granule_is in
    let bits : c.INPUT.result - c.GRANULE.result ≡ f.input - f.granule = omega arith in
    let short : c.INPUT.result - c.GRANULE.result < 64 = (let a = law.lawful_layout.pages_high in omega arith) in
    let pages : (1 * 2 ^ (c.INPUT.result - c.GRANULE.result)) % 18446744073709551616 ≡ input_pages f = one_shl (c.INPUT.result - c.GRANULE.result) 64 short ∙ ap (λ b. 2 ^ b) bits in
    let same : c.from.result ≡ c.loop-number.number = search rules in
    let inside : c.loop-number.number ≤ (input_pages f - 1 - c.args.table.base) / 2 ^ c.entry_bits-bits.result =
    subst (λ (m : ℕ). c.loop-number.number ≤ (m - 1 - c.args.table.base) / 2 ^ c.entry_bits-bits.result) pages (let a = c.if-from-last.false in omega arith) in
    let bits_few : f.input - f.granule ≤ 52 = (let a = law.lawful_layout.pages_high in omega arith) in
    let few : input_pages f ≤ 2 ^ 52 = pow_mono bits_few in
    let first : c.args.table.base + c.loop-number.number * 2 ^ c.entry_bits-bits.result % 2 ^ 64 ≡ entry_first f p c.loop-number.number =
    entry_place_at (f.index * c.args.table.level) c.loop-number.number c.args.table.base (input_pages f) c.entry_bits-bits.result inside c.requires.table.at.a_page few c.entry_bits-bits.ensures in
    let low : entry_first f p c.loop-number.number < input_pages f =
    entry_low (f.index * c.args.table.level) c.loop-number.number c.args.table.base (input_pages f) c.entry_bits-bits.result inside c.requires.table.at.a_page few c.entry_bits-bits.ensures in
    let below : c.loop-number.number < 2 ^ f.index = search rules in
    let from : c.from-then-word-ne0.result ≡ c.loop-number.number = search rules in
    let at : ℕ = c.args.table.base + c.from-then-word-ne0.result * 2 ^ c.entry_bits-bits.result % 18446744073709551616 in
    let first_is : at ≡ entry_first f p c.loop-number.number = ap (λ k. c.args.table.base + k * 2 ^ c.entry_bits-bits.result % 18446744073709551616) from ∙ first in
    let some : c.read_entry-word.result ≢ 0 = search rules in
    let entry : IsEntryIn f c.args.header.now c.args.image.now c.args.table (record { number = c.loop-number.number; first = at; word = c.read_entry-word.result }) = record {
      below = below;
      first_is = first_is;
      inside = subst (λ (m : ℕ). m < input_pages f) (sym first_is) low;
      word_is = c.read_entry-word.ensures;
      some = some;
    } in
    search (rules, entry)

pub visit-loop-number-preserved : goal.visit-loop-number-preserved
visit-loop-number-preserved g t c =
    let f = g.F.Format.layout in
    let p : Position = position_of c.args.table in
    let h = c.args.header.now in
    let number : ℕ = c.loop-number.number in
    elim c.if-word-ne0.branch [
      | visit-then-word-ne0+else-from-last+in_ok-done w ↦
          let go : GoesOn f h c.args.image.now c.loop-number.words w.enter.new.words c.args.table number c.if-word-ne0.done =
          subst (λ (k : ℕ). GoesOn f h c.args.image.now c.loop-number.words w.enter.new.words c.args.table number k) (sym w.done-is) w.in_ok-done.ensures.goes_on in
          record {
            within = go.fits;
            long = ap length w.words-is ∙ w.enter.ensures.long ∙ c.loop-number.invariant.long;
            bridge = c.loop-number.invariant.bridge;
            copies = subst (λ (ws : List ℕ). CopiesTo f h c.args.words.now ws c.args.table (number + c.if-word-ne0.done)) (sym w.words-is) (go.copies c.args.words.now c.loop-number.invariant.copies);
            good = subst (λ (z : List ℕ × ℕ). LeavesGood f h c.args.image.now c.args.words.now z.0 c.args.table 0 (number + z.1)) (λ j. (sym w.words-is j, sym w.done-is j))
                (leaves_more f h c.args.image.now c.args.table c.args.words.now c.loop-number.words w.enter.new.words number w.in_ok-done.done c.loop-number.invariant.good w.in_ok-done.ensures.good);
            visits = subst (λ (ws : List ℕ). VisitsTo f h c.args.image.now c.args.words.now ws c.args.table (number + c.if-word-ne0.done)) (sym w.words-is) (go.visits c.args.words.now c.loop-number.invariant.visits);
          }
      | visit-else-word-ne0 w ↦
          let below : number < 2 ^ f.index = search rules in
          let no_bridge : IsNoBridge (starting_top h.levels) p number = λ zero base. dite (dec_le h.levels c.args.table.level)
          (λ high. absurd (c.loop-number.invariant.bridge base high (subst (λ (i : ℕ). entry_at f c.args.image.now c.args.table.frame i ≡ 0) zero (sym c.read_entry-word.ensures ∙ w.if-word-ne0.false))))
          (λ under. omega arith) in
          let no_bridge_here : ¬ IsOfSpine f h.frames h.levels c.args.image.now (visit_at f h c.args.image.now c.args.table number) =
          (λ x. let a = x.above in let b = no_bridge x.first x.at_page_0 in omega arith) in
          record {
            within = (let one = w.done-is in omega arith);
            long = ap length w.words-is ∙ c.loop-number.invariant.long;
            bridge = c.loop-number.invariant.bridge;
            copies = subst (λ (z : List ℕ × ℕ). CopiesTo f h c.args.words.now z.0 c.args.table (number + z.1)) (λ j. (sym w.words-is j, sym w.done-is j))
                (copy_passes c.loop-number.invariant.copies below no_bridge);
            good = subst (λ (z : List ℕ × ℕ). LeavesGood f h c.args.image.now c.args.words.now z.0 c.args.table 0 (number + z.1)) (λ j. (sym w.words-is j, sym w.done-is j))
                (leaves_more f h c.args.image.now c.args.table c.args.words.now c.loop-number.words c.loop-number.words number 1 c.loop-number.invariant.good
                (leaves_zero f h c.args.image.now c.args.table g.met.F.Format.lawful_layout g.met.F.Format.words_differ c.requires.header.few c.loop-number.words number
                c.requires.table.at.a_level (sym c.read_entry-word.ensures ∙ w.if-word-ne0.false) (λ x. no_bridge_here x)));
            visits = subst (λ (z : List ℕ × ℕ). VisitsTo f h c.args.image.now c.args.words.now z.0 c.args.table (number + z.1)) (λ j. (sym w.words-is j, sym w.done-is j))
                (visit_passes c.loop-number.invariant.visits below (sym c.read_entry-word.ensures ∙ w.if-word-ne0.false));
          }
    ]

pub visit-returns-clause-copies : goal.visit-returns-clause-copies
visit-returns-clause-copies g t c =
    let f = g.F.Format.layout in
    let end : c.loop-number.number ≡ 2 ^ f.index = search rules in
    subst (λ (k : ℕ). CopiesTo f c.args.header.now c.args.words.now c.loop-number.words c.args.table k) end c.loop-number.invariant.copies

pub visit-returns-clause-visits : goal.visit-returns-clause-visits
visit-returns-clause-visits g t c =
    let f = g.F.Format.layout in
    let end : c.loop-number.number ≡ 2 ^ f.index = search rules in
    subst (λ (k : ℕ). VisitsTo f c.args.header.now c.args.image.now c.args.words.now c.loop-number.words c.args.table k) end c.loop-number.invariant.visits

pub enter-returns-in-Alien-clause-bad : goal.enter-returns-in-Alien-clause-bad
enter-returns-in-Alien-clause-bad g t c before s =
    let f = g.F.Format.layout in
    let law = g.met.F.Format in
    let h = c.args.header.now in
    let image = c.args.image.now in
    let table = c.args.table in
    let number : ℕ = c.args.entry.number in
    let inside : entry_first f (position_of table) number < input_pages f = subst (λ (b : ℕ). b < input_pages f) c.requires.entry.first_is c.requires.entry.inside in
    subst (NamesFirstBad f h.frames h.levels image before (visits_of f h image table number 1)) (sym c.fault.ensures)
    (bad_here f h image table before number Alien (inside, subst (IsAlien f table.level) c.requires.entry.word_is c.in-Alien.ensures))

pub enter-returns-then-child-header-clause-bad : goal.enter-returns-then-child-header-clause-bad
enter-returns-then-child-header-clause-bad g t c before s =
    let f = g.F.Format.layout in
    let law = g.met.F.Format in
    let h = c.args.header.now in
    let image = c.args.image.now in
    let table = c.args.table in
    let number : ℕ = c.args.entry.number in
    let inside : entry_first f (position_of table) number < input_pages f = subst (λ (b : ℕ). b < input_pages f) c.requires.entry.first_is c.requires.entry.inside in
    let pointer : IsPointer f table.level (entry_at f image table.frame number) c.in-Table.address =
    subst (λ (w : ℕ). IsPointer f table.level w c.in-Table.address) c.requires.entry.word_is c.in-Table.ensures in
    let over : h.frames ≤ frame_named f c.in-Table.address = subst (λ (k : ℕ). h.frames ≤ k) c.frame_named-child.ensures c.if-child-header.true in
    subst (NamesFirstBad f h.frames h.levels image before (visits_of f h image table number 1)) (sym c.fault-then-child-header.ensures)
    (bad_here f h image table before number Pointer (
      inside,
      c.in-Table.address,
      pointer,
      names_none f law.words_differ table.level h.frames (entry_at f image table.frame number) c.in-Table.address c.requires.header.few pointer over,
    ))

pub enter-returns-then-words-child-ne0-clause-bad : goal.enter-returns-then-words-child-ne0-clause-bad
enter-returns-then-words-child-ne0-clause-bad g t c before s =
    let f = g.F.Format.layout in
    let law = g.met.F.Format in
    let h = c.args.header.now in
    let image = c.args.image.now in
    let table = c.args.table in
    let number : ℕ = c.args.entry.number in
    let inside : entry_first f (position_of table) number < input_pages f = subst (λ (b : ℕ). b < input_pages f) c.requires.entry.first_is c.requires.entry.inside in
    let pointer : IsPointer f table.level (entry_at f image table.frame number) c.in-Table.address =
    subst (λ (w : ℕ). IsPointer f table.level w c.in-Table.address) c.requires.entry.word_is c.in-Table.ensures in
    let names = names_some f law.words_differ table.level h.frames (entry_at f image table.frame number) c.in-Table.address c.frame_named-child.result c.requires.header.few pointer
    c.frame_named-child.ensures c.if-child-header.false in
    subst (NamesFirstBad f h.frames h.levels image before (visits_of f h image table number 1)) (sym c.fault-then-words-child-ne0.ensures)
    (bad_here f h image table before number Shared (
      inside,
      c.frame_named-child.result,
      names.1,
      s.tagged c.frame_named-child.result c.if-child-header.false c.if-words-child-ne0.true,
    ))

pub enter-returns-in-None-clause-bad : goal.enter-returns-in-None-clause-bad
enter-returns-in-None-clause-bad g t c before s =
    let f = g.F.Format.layout in
    let law = g.met.F.Format in
    let h = c.args.header.now in
    let image = c.args.image.now in
    let table = c.args.table in
    let number : ℕ = c.args.entry.number in
    let inside : entry_first f (position_of table) number < input_pages f = subst (λ (b : ℕ). b < input_pages f) c.requires.entry.first_is c.requires.entry.inside in
    let leaf : IsLeaf f table.level (entry_at f image table.frame number) c.in-Leaf.log2 c.in-Leaf.prot =
    subst (λ (w : ℕ). IsLeaf f table.level w c.in-Leaf.log2 c.in-Leaf.prot) c.requires.entry.word_is c.in-Leaf.ensures in
    subst (NamesFirstBad f h.frames h.levels image before (visits_of f h image table number 1)) (sym c.fault-in-None.ensures)
    (bad_here f h image table before number Group (
      inside,
      c.in-Leaf.log2,
      c.in-Leaf.prot,
      leaf,
      in_none f image table.frame (position_of table) number c.in-None.ensures.lacks s.ends,
    ))

pub enter-returns-in-Some-clause-good : goal.enter-returns-in-Some-clause-good
enter-returns-in-Some-clause-good g t c =
    let f = g.F.Format.layout in
    let law = g.met.F.Format in
    let h = c.args.header.now in
    let image = c.args.image.now in
    let table = c.args.table in
    let number : ℕ = c.args.entry.number in
    let k : IsCopied f h.frames image c.args.words.now c.copy_block.new.words table c.args.entry c.in-Some.count = c.in-Some.ensures.copied in
    let has : HasBlockAt f image table.frame (position_of table) number k.block = record {
      legal = k.legal;
      stated = k.stated;
      level_is = k.level_is;
      first_is = k.first_is ∙ c.requires.entry.first_is;
      words = λ part lt. k.image_has part (let e = k.count_is in omega arith);
    } in
    leaves_block f h image table law.lawful_layout law.words_differ c.requires.header.few law.steps_agree c.args.words.now c.copy_block.new.words number c.in-Some.count k.block
    c.requires.header.low has k.count_is
    (λ frame lt. ap (λ (ws : List ℕ). tag ws frame) k.words_are ∙ now_tag f h.frames c.args.words.now table.frame number k.block c.in-Some.count frame lt)

pub enter-returns-in_err-visit-in-Table-clause-bad : goal.enter-returns-in_err-visit-in-Table-clause-bad
enter-returns-in_err-visit-in-Table-clause-bad g t c =
    let f = g.F.Format.layout in
    let law = g.met.F.Format in
    let h = c.args.header.now in
    let image = c.args.image.now in
    let table = c.args.table in
    let number : ℕ = c.args.entry.number in
    let inside : entry_first f (position_of table) number < input_pages f = subst (λ (b : ℕ). b < input_pages f) c.requires.entry.first_is c.requires.entry.inside in
    let pointer : IsPointer f table.level (entry_at f image table.frame number) c.in-Table.address =
    subst (λ (w : ℕ). IsPointer f table.level w c.in-Table.address) c.requires.entry.word_is c.in-Table.ensures in
    let child : ℕ = c.frame_named-child.result in
    let few : child < h.frames = c.if-child-header.false in
    let names = names_some f law.words_differ table.level h.frames (entry_at f image table.frame number) c.in-Table.address child c.requires.header.few pointer
    c.frame_named-child.ensures few in
    let free : tag c.args.words.now child ≡ 0 = (let a = c.if-words-child-ne0.false in omega arith) in
    let linked : c.link.new.words ≡ linked_words f h.frames c.args.words.now table.frame number (position_of table) child = c.link.ensures in
    let p = err_from_is_err_and c.from_residual.result c.from_residual.ensures.1 in
    let inner : RefusesFor f h image (linked_words f h.frames c.args.words.now table.frame number (position_of table) child)
    (record { frame = child; level = table.level - 1; base = entry_first f (position_of table) number }) 0 (2 ^ f.index) c.in_err-visit-in-Table.field-0.0 =
    subst (λ (z : List ℕ × ℕ). RefusesFor f h image z.0 (record { frame = child; level = table.level - 1; base = z.1 }) 0 (2 ^ f.index) c.in_err-visit-in-Table.field-0.0)
    (λ j. (linked j, c.requires.entry.first_is j)) c.in_err-visit-in-Table.ensures.bad in
    rw (p.1, p.2)
    (refuses_table f h image table law.lawful_layout law.words_differ c.requires.header.few c.args.words.now
    (linked_words f h.frames c.args.words.now table.frame number (position_of table) child) number child inside pointer.at_level few names.0 names.1 free
    (child_is_tagged f h.frames c.args.words.now table.frame number child (position_of table) few c.requires.words)
    (linked_tag f h.frames c.args.words.now table.frame number child (position_of table) c.requires.entry.below few) c.in_err-visit-in-Table.field-0.0 inner)

pub enter-returns-in_ok-visit-in-Table-clause-good : goal.enter-returns-in_ok-visit-in-Table-clause-good
enter-returns-in_ok-visit-in-Table-clause-good g t c =
    let f = g.F.Format.layout in
    let law = g.met.F.Format in
    let h = c.args.header.now in
    let image = c.args.image.now in
    let table = c.args.table in
    let number : ℕ = c.args.entry.number in
    let inside : entry_first f (position_of table) number < input_pages f = subst (λ (b : ℕ). b < input_pages f) c.requires.entry.first_is c.requires.entry.inside in
    let pointer : IsPointer f table.level (entry_at f image table.frame number) c.in-Table.address =
    subst (λ (w : ℕ). IsPointer f table.level w c.in-Table.address) c.requires.entry.word_is c.in-Table.ensures in
    let child : ℕ = c.frame_named-child.result in
    let few : child < h.frames = c.if-child-header.false in
    let names = names_some f law.words_differ table.level h.frames (entry_at f image table.frame number) c.in-Table.address child c.requires.header.few pointer
    c.frame_named-child.ensures few in
    let free : tag c.args.words.now child ≡ 0 = (let a = c.if-words-child-ne0.false in omega arith) in
    let linked : c.link.new.words ≡ linked_words f h.frames c.args.words.now table.frame number (position_of table) child = c.link.ensures in
    let inner : LeavesGood f h image (linked_words f h.frames c.args.words.now table.frame number (position_of table) child) c.visit.new.words
    (record { frame = child; level = table.level - 1; base = entry_first f (position_of table) number }) 0 (2 ^ f.index) =
    subst (λ (z : List ℕ × ℕ). LeavesGood f h image z.0 c.visit.new.words (record { frame = child; level = table.level - 1; base = z.1 }) 0 (2 ^ f.index))
    (λ j. (linked j, c.requires.entry.first_is j)) c.in_ok-visit-in-Table.ensures.good in
    leaves_table f h image table law.lawful_layout law.words_differ c.requires.header.few c.args.words.now
    (linked_words f h.frames c.args.words.now table.frame number (position_of table) child) number child inside pointer.at_level few names.0 names.1 free
    (child_is_tagged f h.frames c.args.words.now table.frame number child (position_of table) few c.requires.words)
    (linked_tag f h.frames c.args.words.now table.frame number child (position_of table) c.requires.entry.below few) c.visit.new.words inner

pub visit-returns-then-read_entry-eq0-clause-bad : goal.visit-returns-then-read_entry-eq0-clause-bad
visit-returns-then-read_entry-eq0-clause-bad g t c before s =
    let f = g.F.Format.layout in
    let h = c.args.header.now in
    let image = c.args.image.now in
    let table = c.args.table in
    let bridge = c.is_bridge.ensures.0 c.if-is_bridge.true in
    let least = g.met.F.Format.lawful_layout.start_low in
    let low = c.requires.header.low in
    let above : starting_top h.levels < table.level = (let a = bridge.1 in omega arith) in
    let of_spine : IsOfSpine f h.frames h.levels image (visit_at f h image table 0) = record { first = refl; at_page_0 = bridge.0; above = above } in
    let none : entry_at f image table.frame 0 ≡ 0 = sym c.read_entry.ensures ∙ c.if-read_entry-eq0.true in
    subst (NamesFirstBad f h.frames h.levels image before (visits_of f h image table 0 (2 ^ f.index))) (sym c.fault.ensures)
    (bad_whole f h image table before 0 (Entry table.level table.base 0 Spine) (pow_pos f.index) (leaves_begin f h image table c.args.words.now before s).good
    (bad_here f h image table (before ++ visits_of f h image table 0 0) 0 Spine (of_spine, inl none)))

pub visit-loop-number-init : goal.visit-loop-number-init
visit-loop-number-init g t c =
    let good = leaves_begin g.F.Format.layout c.args.header.now c.args.image.now c.args.table c.args.words.now in search (rules, good)

pub visit-returns-then-from-last-clause-bad : goal.visit-returns-then-from-last-clause-bad
visit-returns-then-from-last-clause-bad g t c before s =
    let f = g.F.Format.layout in
    let law = g.met.F.Format in
    let h = c.args.header.now in
    let image = c.args.image.now in
    let table = c.args.table in
    let number : ℕ = c.loop-number.number in
    let constants = law.has_constants in
    let input : c.INPUT.result ≡ f.input = c.INPUT.ensures ∙ sym constants.input_is in
    let granule : c.GRANULE.result ≡ f.granule = c.GRANULE.ensures ∙ sym constants.granule_is in
    let bits : c.INPUT.result - c.GRANULE.result ≡ f.input - f.granule = omega arith in
    let short : c.INPUT.result - c.GRANULE.result < 64 = (let a = law.lawful_layout.pages_high in omega arith) in
    let pages : (1 * 2 ^ (c.INPUT.result - c.GRANULE.result)) % 18446744073709551616 ≡ input_pages f = one_shl (c.INPUT.result - c.GRANULE.result) 64 short ∙ ap (λ b. 2 ^ b) bits in
    let from : c.from.result ≡ number = search rules in
    let over : (input_pages f - 1 - table.base) / 2 ^ c.entry_bits-bits.result < number =
    subst (λ (m : ℕ). (m - 1 - table.base) / 2 ^ c.entry_bits-bits.result < number) pages (let a = c.if-from-last.true in omega arith) in
    let bits_few : f.input - f.granule ≤ 52 = (let a = law.lawful_layout.pages_high in omega arith) in
    let few : input_pages f ≤ 2 ^ 52 = pow_mono bits_few in
    let past : input_pages f ≤ entry_first f (position_of table) number =
    entry_high (f.index * table.level) number table.base (input_pages f) c.entry_bits-bits.result over c.requires.table.at.a_page few c.entry_bits-bits.ensures in
    let below : number < 2 ^ f.index = search rules in
    let some : entry_at f image table.frame number ≢ 0 = (λ e. c.if-word-ne0.true (c.read_entry-word.ensures ∙ e)) in
    subst (NamesFirstBad f h.frames h.levels image before (visits_of f h image table 0 (2 ^ f.index))) (sym c.fault-then-from-last.ensures)
    (bad_whole f h image table before number (Entry table.level table.base number Outside) below (c.loop-number.invariant.good before s).good
    (bad_here f h image table (before ++ visits_of f h image table 0 number) number Outside (some, past)))

pub visit-returns-in_err-done-clause-bad : goal.visit-returns-in_err-done-clause-bad
visit-returns-in_err-done-clause-bad g t c =
    let f = g.F.Format.layout in
    let h = c.args.header.now in
    let image = c.args.image.now in
    let table = c.args.table in
    let number : ℕ = c.loop-number.number in
    let p = err_from_is_err_and c.from_residual.result c.from_residual.ensures.1 in
    let below : number < 2 ^ f.index = search rules in
    let from : 0 + number ≡ number = omega arith in
    let refuses : RefusesFor f h image c.args.words.now table 0 (2 ^ f.index) c.in_err-done.field-0.0 =
    (λ before s.
    let x = c.loop-number.invariant.good before s in
    bad_whole f h image table before number c.in_err-done.field-0.0 below x.good
    (c.in_err-done.ensures.bad (before ++ visits_of f h image table 0 number)
    (subst (Sees f h image c.loop-number.words (before ++ visits_of f h image table 0 number) table) from x.sees))) in
    rw (p.1, p.2) refuses

pub visit-returns-clause-good : goal.visit-returns-clause-good
visit-returns-clause-good g t c =
    let f = g.F.Format.layout in
    let end : c.loop-number.number ≡ 2 ^ f.index = search rules in
    subst (λ (k : ℕ). LeavesGood f c.args.header.now c.args.image.now c.args.words.now c.loop-number.words c.args.table 0 k) end c.loop-number.invariant.good
