use Rattle.std.proofs.Common.{rules, ◌≡◌, ◌+◌, length, sym, ap, ◌∙◌, arith, slice_set}
use mathlib.Core.Logic.{dite}
use native.Mathlib.Decide.{ℕ_discrete}
use Rattle.pt_view.specs.Pieces.{word_of}
use Rattle.pt_image.specs.Bytes.{entry_at}
use Rattle.pt_image.specs.Drafts.{group_words, part_of}
use Rattle.pt_image.proofs.block.copy_words.Goals as goal

pub loop-part-preserved : goal.loop-part-preserved
loop-part-preserved g c =
    let f = g.F.Format.layout in
    let part = c.loop-part.part in
    let same : c.from.result ≡ part = search rules in
    let own : c.leaf_word-own.result ≡ word_of f (part_of c.args.block part) = c.leaf_word-own.ensures ∙ (λ i. f.leaf (sym c.requires.level i) c.args.block.log2 c.args.block.out c.args.block.prot (same i)) in
    let here : entry_at f c.args.image.now c.args.table.frame (c.args.number + part) ≡ word_of f (part_of c.args.block part) =
    sym c.read_entry.ensures ∙ c.if-read_entry-own.false ∙ own in
    let long : length (slice_set c.loop-part.words c.entry_place.result c.leaf_word-own.result) ≡ length c.args.words.now = search rules in
    let copied : slice_set c.loop-part.words c.entry_place.result c.leaf_word-own.result ≡ group_words f c.args.header.now.frames c.args.words.now c.args.table.frame c.args.number c.args.block (part + 1) = search rules in
    record {
      long = long;
      copied = copied;
      has = λ k less. dite (ℕ_discrete k part)
          (λ e. ap (λ x. entry_at f c.args.image.now c.args.table.frame (c.args.number + x)) e ∙ here ∙ ap (λ x. word_of f (part_of c.args.block x)) (sym e))
          (λ ne. c.loop-part.invariant.has k (omega arith));
    }
