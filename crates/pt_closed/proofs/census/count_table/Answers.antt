use Rattle.std.proofs.Common.{◌≡◌, ℕ, suc, ◌+◌, ◌^◌, ◌<◌, ◌≤◌, refl, sym, ◌∙◌, ap, subst, arith}
use Rattle.std.specs.Prelude.{Option}
use Rattle.pt_model.specs.Words.{entry_of, placed_at, tag}
use Rattle.pt_view.specs.declared.view.Piece.{Piece}
use Rattle.pt_rule.specs.WholeView.{piece_in}
use Rattle.pt_rule.specs.WholeCounts.{added_in_frame, counts_block, counts_pages}
use Rattle.pt_closed.specs.Closed.{IsToldBy}
use Rattle.pt_closed.proofs.Sums.{Laws, entries_few, linked_is, told_by}
use Rattle.pt_closed.proofs.census.count_table.Given.{Over}
use Rattle.pt_closed.proofs.census.count_table.Goals as goal
use Rattle.pt_closed.proofs.census.count_table.Goals.{After-entry-word, After-count_entry-one}

laws : (g : Over) → Laws g.F.Format.layout
laws g = let law = g.met.F.Format in record { layout = law.lawful_layout; differ = law.words_differ; agree = law.steps_agree }

pub loop-number-init : goal.loop-number-init
loop-number-init g c = record { blocks = refl; pages = refl }

-- the piece that is read at the entry, if any
abbrev found : (g : Over) (c : After-entry-word g) → Option Piece
found g c =
    let f = g.F.Format.layout in
    piece_in f (placed_at (tag c.args.words.now c.args.frame)) c.loop-number.number (entry_of f c.args.frames c.args.words.now c.args.frame c.loop-number.number)

told : (g : Over) (c : After-entry-word g) → IsToldBy g.F.Format.layout c.args.level c.loop-number.number c.entry-word.result (found g c)
told g c =
    let f = g.F.Format.layout in
    let small : c.loop-number.number < 2 ^ f.index = (let below = c.loop-number-test.true in let end = c.table_len-number-end.ensures in omega arith) in
    subst (λ (t : ℕ × ℕ). IsToldBy f t.0 c.loop-number.number t.1 (found g c)) (λ i. (sym c.requires.level i, sym c.entry-word.ensures i))
    (told_by (laws g) c.requires.closed c.args.frame c.loop-number.number c.requires.a_frame small (linked_is f c.args.frames c.args.words.now c.args.frame c.requires.linked))

pub count_entry-one-requires-clause-told : goal.count_entry-one-requires-clause-told
count_entry-one-requires-clause-told g c = (found g c, told g c)

-- what is counted up to the next entry
next_blocks : (g : Over) (c : After-count_entry-one g) →
    c.loop-number.blocks + c.count_entry-one.result.blocks ≡ added_in_frame g.F.Format.layout c.args.frames c.args.words.now counts_block c.args.frame (c.loop-number.number + 1)
next_blocks g c =
    let f = g.F.Format.layout in
    let at = (goal.at.After-count_entry-one g c).After-entry-word in
    let here = (c.count_entry-one.ensures (found g at) (told g at)).blocks in
    let before = c.loop-number.invariant.blocks in
    let sum : c.loop-number.blocks + c.count_entry-one.result.blocks ≡ added_in_frame f c.args.frames c.args.words.now counts_block c.args.frame (suc c.loop-number.number) = omega arith in
    sum ∙ ap (added_in_frame f c.args.frames c.args.words.now counts_block c.args.frame) (let e : suc c.loop-number.number ≡ c.loop-number.number + 1 = omega arith in e)

next_pages : (g : Over) (c : After-count_entry-one g) →
    c.loop-number.pages + c.count_entry-one.result.pages ≡ added_in_frame g.F.Format.layout c.args.frames c.args.words.now (counts_pages g.F.Format.layout) c.args.frame (c.loop-number.number + 1)
next_pages g c =
    let f = g.F.Format.layout in
    let at = (goal.at.After-count_entry-one g c).After-entry-word in
    let here = (c.count_entry-one.ensures (found g at) (told g at)).pages in
    let before = c.loop-number.invariant.pages in
    let sum : c.loop-number.pages + c.count_entry-one.result.pages ≡ added_in_frame f c.args.frames c.args.words.now (counts_pages f) c.args.frame (suc c.loop-number.number) = omega arith in
    sum ∙ ap (added_in_frame f c.args.frames c.args.words.now (counts_pages f) c.args.frame) (let e : suc c.loop-number.number ≡ c.loop-number.number + 1 = omega arith in e)

few : (g : Over) (c : After-count_entry-one g) → (c.loop-number.pages + c.count_entry-one.result.pages < 2 ^ 64) × (c.loop-number.blocks + c.count_entry-one.result.blocks < 2 ^ 64)
few g c =
    let f = g.F.Format.layout in
    let small : c.loop-number.number + 1 ≤ 2 ^ f.index = (let below = c.loop-number-test.true in let end = c.table_len-number-end.ensures in omega arith) in
    let most = entries_few (laws g) c.requires.closed c.args.frame (c.loop-number.number + 1) c.requires.a_frame (linked_is f c.args.frames c.args.words.now c.args.frame c.requires.linked) small in
    let a = next_pages g c in let b = next_blocks g c in let p = most.0 in let q = most.1 in (omega arith, omega arith)

pub overflow_add-blocks : goal.overflow_add-blocks
overflow_add-blocks g c = let most = (few g (goal.at.overflow_add-blocks g c).After-count_entry-one).1 in omega arith

pub overflow_add-pages : goal.overflow_add-pages
overflow_add-pages g c = let most = (few g (goal.at.overflow_add-pages g c).After-count_entry-one).0 in omega arith

pub loop-number-preserved : goal.loop-number-preserved
loop-number-preserved g c =
    let at = (goal.at.loop-number-preserved g c).After-count_entry-one in
    record { blocks = next_blocks g at; pages = next_pages g at }

pub returns-clause-blocks : goal.returns-clause-blocks
returns-clause-blocks g c =
    let f = g.F.Format.layout in
    let end : c.loop-number.number ≡ 2 ^ f.index = (let last = c.loop-number-test.false in let most = c.loop-number.auto.number-end in let e = c.table_len-number-end.ensures in omega arith) in
    c.loop-number.invariant.blocks ∙ ap (added_in_frame f c.args.frames c.args.words.now counts_block c.args.frame) end

pub returns-clause-pages : goal.returns-clause-pages
returns-clause-pages g c =
    let f = g.F.Format.layout in
    let end : c.loop-number.number ≡ 2 ^ f.index = (let last = c.loop-number-test.false in let most = c.loop-number.auto.number-end in let e = c.table_len-number-end.ensures in omega arith) in
    c.loop-number.invariant.pages ∙ ap (added_in_frame f c.args.frames c.args.words.now (counts_pages f) c.args.frame) end
