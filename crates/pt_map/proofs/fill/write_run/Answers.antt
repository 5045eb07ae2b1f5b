use Rattle.std.proofs.Common.{◌≡◌, ℕ, ◌-◌, ◌*◌, ◌%◌, ◌^◌, ◌≤◌, ap, sym, ◌∙◌, subst, arith}
use Rattle.std.proofs.Math.Pow.{pow_mono}
use Rattle.pt_view.specs.declared.view.View.{View}
use Rattle.pt_view.specs.Calls.{IsWrittenRun, MayWriteRun}
use Rattle.pt_map.proofs.RunEntries.{entries_few, first_leaf, may_run_words, run_filled}
use Rattle.pt_map.proofs.fill.write_run.Given.{Over}
use Rattle.pt_map.proofs.fill.write_run.Goals.{After-INDEX}
use Rattle.pt_map.proofs.fill.write_run.Goals as goal

-- the log2 of the entries of a block, as the code makes it
bits_are : (g : Over) (c : After-INDEX g) → c.args.block.log2 - c.INDEX.result * c.args.level ≡ c.args.block.log2 - g.F.Format.layout.index * c.args.level
bits_are g c = ap (λ (k : ℕ). c.args.block.log2 - k * c.args.level) (c.INDEX.ensures ∙ sym g.met.F.Format.has_constants.index_is)

index_few : (g : Over) → 2 ^ g.F.Format.layout.index ≤ 2 ^ 13
index_few g = let l = g.met.F.Format.lawful_layout in pow_mono (let h : g.F.Format.layout.index ≤ 13 = omega (arith, l.index_is, l.granule_high) in h)

-- the count of the entries
all_are : (g : Over) (c : After-INDEX g) →
    c.args.run.blocks * 2 ^ (c.args.block.log2 - c.INDEX.result * c.args.level) % 2 ^ 64 ≡ c.args.run.blocks * 2 ^ (c.args.block.log2 - g.F.Format.layout.index * c.args.level)
all_are g c =
    let f = g.F.Format.layout in
    let few = entries_few g.met.F.Format.lawful_layout c.requires.may in
    let index = index_few g in
    ap (λ (k : ℕ). c.args.run.blocks * 2 ^ k % 2 ^ 64) (bits_are g c)
    ∙ (let e : c.args.run.blocks * 2 ^ (c.args.block.log2 - f.index * c.args.level) % 2 ^ 64 ≡ c.args.run.blocks * 2 ^ (c.args.block.log2 - f.index * c.args.level) = omega arith in e)

pub overflow_cast-run : goal.overflow_cast-run
overflow_cast-run g c =
    let f = g.F.Format.layout in
    let few = entries_few g.met.F.Format.lawful_layout c.requires.may in
    omega (arith, few, index_few g, all_are g (goal.at.overflow_cast-run g c).After-INDEX)

pub leaf_word-word-requires : goal.leaf_word-word-requires
leaf_word-word-requires g c =
    first_leaf g.met.F.Format.lawful_layout c.requires.may

pub write_run-requires : goal.write_run-requires
write_run-requires g c =
    let f = g.F.Format.layout in
    let v : View = g.H.Holder.view c.args.holder.now in
    let b = (goal.at.write_run-requires g c).After-INDEX in
    subst (λ (n : ℕ). MayWriteRun f v c.entry_number.result n c.leaf_word-word.result c.args.run.step) (sym (all_are g b))
    (may_run_words g.met.F.Format.lawful_layout c.requires.may
    c.entry_number.result c.leaf_word-word.result c.args.run.step c.entry_number.ensures.number c.leaf_word-word.ensures c.requires.words.goes c.requires.words.within)

pub returns-clause-stored : goal.returns-clause-stored
returns-clause-stored g c =
    let f = g.F.Format.layout in
    let good = g.met.F.Format.lawful_layout in
    let v : View = g.H.Holder.view c.args.holder.now in
    let w : View = g.H.Holder.view c.write_run.new.self in
    let all = all_are g (goal.at.returns-clause-stored g c).After-INDEX in
    record {
      purse = c.write_run.ensures.written.purse.purse;
      filled = run_filled good c.requires.may c.entry_number.result c.leaf_word-word.result c.args.run.step c.entry_number.ensures.number c.leaf_word-word.ensures c.requires.words.goes
          (subst (λ (n : ℕ). IsWrittenRun f g.H.Holder.tells c.entry_number.result n c.leaf_word-word.result c.args.run.step v w) all c.write_run.ensures.written);
    }
