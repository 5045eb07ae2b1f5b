use Rattle.std.proofs.Common.{◌≡◌, ℕ, ◌+◌, ◌-◌, ◌*◌, ◌/◌, ◌%◌, ◌^◌, ◌<◌, ap, sym, ◌∙◌, subst, arith}
use Rattle.pt_model.specs.Layout.{Layout}
use Rattle.pt_model.specs.declared.block.Block.{Block}
use Rattle.pt_view.specs.declared.view.View.{View}
use Rattle.pt_view.specs.Calls.{ArePieces, IsWrittenRun}
use Rattle.pt_map.proofs.RunEntries.{are_pieces, first_leaf, may_write_one, piece_in, run_filled, written_one}
use Rattle.pt_map.proofs.fill.write_entry.Goals as goal

-- a block of one entry is of one word
one_word : (f : Layout) (b : Block) (level : ℕ) → b.log2 ≡ f.index * level → 2 ^ (b.log2 - f.index * level) ≡ 1
one_word f b level e = ap (λ (k : ℕ). 2 ^ k) (let none : b.log2 - f.index * level ≡ 0 = omega arith in none)

-- and this goes by any step
one_goes : (f : Layout) (b : Block) (level m : ℕ) → m ≡ 1 → (e : ℕ) → e < 1 * m → f.leaf level b.log2 (b.out + e / m * 2 ^ b.log2) b.prot (e % m) ≡ f.leaf level b.log2 b.out b.prot 0 + e * 0
one_goes f b level m one e less =
    let none : e ≡ 0 = omega arith in
    let out : b.out + e / m * 2 ^ b.log2 ≡ b.out = (λ i. b.out + none i / one i * 2 ^ b.log2) ∙ (let z : b.out + 0 * 2 ^ b.log2 ≡ b.out = omega arith in z) in
    let part : e % m ≡ 0 = (λ i. none i % one i) in
    (λ i. f.leaf level b.log2 (out i) b.prot (part i)) ∙ (let z : f.leaf level b.log2 b.out b.prot 0 ≡ f.leaf level b.log2 b.out b.prot 0 + e * 0 = omega arith in z)

pub leaf_word-word-requires : goal.leaf_word-word-requires
leaf_word-word-requires g c = first_leaf g.met.F.Format.lawful_layout c.requires.may

pub write-requires : goal.write-requires
write-requires g c =
    let f = g.F.Format.layout in
    let v : View = g.H.Holder.view c.args.holder.now in
    let m = one_word f c.args.block c.args.level c.requires.one in
    let many : 1 * 2 ^ (c.args.block.log2 - f.index * c.args.level) ≡ 1 = omega arith in
    may_write_one (subst (λ (n : ℕ). ArePieces f v c.entry_number.result n c.leaf_word-word.result 0 (piece_in c.args.block (2 ^ (c.args.block.log2 - f.index * c.args.level)))) many
    (are_pieces g.met.F.Format.lawful_layout c.requires.may c.entry_number.result c.leaf_word-word.result 0 c.entry_number.ensures.number c.leaf_word-word.ensures (one_goes f c.args.block c.args.level _ m)))

pub returns-clause-stored : goal.returns-clause-stored
returns-clause-stored g c =
    let f = g.F.Format.layout in
    let v : View = g.H.Holder.view c.args.holder.now in
    let w : View = g.H.Holder.view c.write.new.self in
    let m = one_word f c.args.block c.args.level c.requires.one in
    let many : 1 * 2 ^ (c.args.block.log2 - f.index * c.args.level) ≡ 1 = omega arith in
    record {
      purse = c.write.ensures.written.purse.purse;
      filled = run_filled g.met.F.Format.lawful_layout c.requires.may c.entry_number.result c.leaf_word-word.result 0 c.entry_number.ensures.number c.leaf_word-word.ensures
          (one_goes f c.args.block c.args.level _ m)
          (subst (λ (n : ℕ). IsWrittenRun f g.H.Holder.tells c.entry_number.result n c.leaf_word-word.result 0 v w) (sym many) (written_one c.write.ensures.written));
    }
