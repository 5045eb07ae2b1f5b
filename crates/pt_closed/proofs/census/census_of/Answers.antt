use Rattle.std.proofs.Common.{◌≡◌, suc, true, None, ◌+◌, ◌%◌, ◌^◌, ◌≤◌, sym, ap, ◌∙◌, arith}
use Rattle.std.proofs.lemmas.Bool.{eq-eqb, ne_eqb}
use Rattle.pt_model.specs.Words.{tag}
use Rattle.pt_rule.specs.WholeView.{is_linked_in}
use Rattle.pt_rule.specs.WholeCounts.{added_in, counts_block, counts_pages, linked_frames_in}
use Rattle.pt_closed.proofs.Sums.{Laws, census_is, frames_few, linked_adds, linked_few, linked_is, no_table, other_adds, table_adds, unlinked_is}
use Rattle.pt_closed.proofs.census.census_of.Given.{Over}
use Rattle.pt_closed.proofs.census.census_of.Goals as goal
use Rattle.pt_closed.proofs.census.census_of.Goals.{After-count_table-held, then-tag-eq2, else-tag-eq2}

laws : (g : Over) → Laws g.F.Format.layout
laws g = let law = g.met.F.Format in record { layout = law.lawful_layout; differ = law.words_differ; agree = law.steps_agree }

-- a frame whose tag says so is linked
linked : (g : Over) (c : After-count_table-held g) → is_linked_in None c.args.words.now c.loop-frame.frame ≡ true
linked g c =
    linked_is g.F.Format.layout c.args.frames c.args.words.now c.loop-frame.frame (eq-eqb (tag c.args.words.now c.loop-frame.frame % 4) 2 c.if-tag-eq2.true)

-- the counts are few with this frame's
few : (g : Over) (c : After-count_table-held g) →
    (c.loop-frame.pages + c.count_table-held.result.pages ≤ 2 ^ 52) × (c.loop-frame.blocks + c.count_table-held.result.blocks ≤ 2 ^ 52)
few g c =
    let f = g.F.Format.layout in
    let words = c.args.words.now in
    let most = frames_few (laws g) c.requires (suc c.loop-frame.frame) (let less = c.loop-frame-test.true in omega arith) in
    let p = linked_adds f c.args.frames words (counts_pages f) c.loop-frame.frame (linked g c) in
    let b = linked_adds f c.args.frames words counts_block c.loop-frame.frame (linked g c) in
    let inv = c.loop-frame.invariant in
    let here = c.count_table-held.ensures in
    let a1 = inv.pages in let a2 = inv.blocks in let b1 = here.pages in let b2 = here.blocks in let m1 = most.0 in let m2 = most.1 in
    (omega arith, omega arith)

pub overflow_add-tables : goal.overflow_add-tables
overflow_add-tables g c =
    let most = linked_few g.F.Format.layout c.args.frames c.args.words.now c.loop-frame.frame in
    let inv = c.loop-frame.invariant.tables in let less = c.loop-frame-test.true in let fits = c.ranges.frames.fits in omega arith

pub overflow_add-blocks : goal.overflow_add-blocks
overflow_add-blocks g c = let most = (few g (goal.at.overflow_add-blocks g c).After-count_table-held).1 in omega arith

pub overflow_add-pages : goal.overflow_add-pages
overflow_add-pages g c = let most = (few g (goal.at.overflow_add-pages g c).After-count_table-held).0 in omega arith

pub loop-frame-preserved : goal.loop-frame-preserved
loop-frame-preserved g c =
    let f = g.F.Format.layout in
    let words = c.args.words.now in
    let n = c.args.frames in
    let frame = c.loop-frame.frame in
    let inv = c.loop-frame.invariant in
    let a1 = inv.tables in let a2 = inv.blocks in let a3 = inv.pages in
    let next : suc frame ≡ frame + 1 = omega arith in
    elim c.if-tag-eq2.branch [
      | then-tag-eq2 w ↦
          let is = linked_is f n words frame (eq-eqb (tag words frame % 4) 2 w.if-tag-eq2.true) in
          let here = w.count_table-held.ensures in
          let t = w.tables-is in let b = w.blocks-is in let p = w.pages-is in
          let b' = here.blocks in let p' = here.pages in
          let t1 = table_adds f n words frame is in
          let b1 = linked_adds f n words counts_block frame is in
          let p1 = linked_adds f n words (counts_pages f) frame is in
          let tables : c.if-tag-eq2.tables ≡ linked_frames_in None words (suc frame) = omega arith in
          let blocks : c.if-tag-eq2.blocks ≡ added_in f n None words counts_block (suc frame) = omega arith in
          let pages : c.if-tag-eq2.pages ≡ added_in f n None words (counts_pages f) (suc frame) = omega arith in
          record {
            tables = tables ∙ ap (linked_frames_in None words) next;
            blocks = blocks ∙ ap (added_in f n None words counts_block) next;
            pages = pages ∙ ap (added_in f n None words (counts_pages f)) next;
          }
      | else-tag-eq2 w ↦
          let is = unlinked_is f n words frame (ne_eqb (tag words frame % 4) 2 w.if-tag-eq2.false) in
          record {
            tables = w.tables-is ∙ a1 ∙ sym (no_table f n words frame is) ∙ ap (linked_frames_in None words) next;
            blocks = w.blocks-is ∙ a2 ∙ sym (other_adds f n words counts_block frame is) ∙ ap (added_in f n None words counts_block) next;
            pages = w.pages-is ∙ a3 ∙ sym (other_adds f n words (counts_pages f) frame is) ∙ ap (added_in f n None words (counts_pages f)) next;
          }
    ]

pub returns : goal.returns
returns g c closed =
    let f = g.F.Format.layout in
    let words = c.args.words.now in
    let n = c.args.frames in
    let inv = c.loop-frame.invariant in
    let end : c.loop-frame.frame ≡ n = (let last = c.loop-frame-test.false in let most = c.loop-frame.auto.frame-end in omega arith) in
    census_is (laws g) closed c.loop-frame.tables c.loop-frame.blocks c.loop-frame.pages
    (inv.tables ∙ ap (linked_frames_in None words) end)
    (inv.blocks ∙ ap (added_in f n None words counts_block) end)
    (inv.pages ∙ ap (added_in f n None words (counts_pages f)) end)
