use Rattle.std.proofs.Common.{◌≡◌, ◌≢◌, ℕ, Bool, ◌-◌, ◌*◌, ◌%◌, ◌^◌, ◌<◌, ◌≤◌, sym, ap, ◌∙◌, arith}
use Rattle.std.specs.Prelude.{◌==◌}
use Rattle.std.proofs.Math.Pow.{pow_mono}
use Rattle.std.proofs.lemmas.Bool.{eq-eqb, false≢true, ne_eqb}
use Rattle.pt_model.specs.Layout.{pages_of_entry}
use Rattle.pt_model.specs.Sets.{one_if}
use Rattle.pt_format.specs.declared.read.Read.TheVariants.{Leaf}
use Rattle.pt_format.specs.Words.{IsLeaf, words_in}
use Rattle.pt_rule.specs.WholeCounts.{counts_block, counts_pages, if_any}
use Rattle.pt_closed.proofs.Sums.{leaf_small}
use Rattle.pt_closed.proofs.census.count_entry.Given.{Over}
use Rattle.pt_closed.proofs.census.count_entry.Goals as goal
use Rattle.pt_closed.proofs.census.count_entry.Goals.{Joined-begins, then-begins, else-begins}

leaf : (g : Over) (c : Joined-begins g) → IsLeaf g.F.Format.layout c.args.level c.args.word c.in-Leaf.log2 c.in-Leaf.prot
leaf g c = c.in-Leaf.ensures

-- the bits of an entry of the level
under : (g : Over) (c : Joined-begins g) → c.INDEX.result * c.args.level ≡ g.F.Format.layout.index * c.args.level
under g c = ap (λ (k : ℕ). k * c.args.level) (c.INDEX.ensures ∙ sym g.met.F.Format.has_constants.index_is)

small : (g : Over) (c : Joined-begins g) → (c.INDEX.result * c.args.level ≤ c.in-Leaf.log2) × (c.in-Leaf.log2 < 64)
small g c = let s = leaf_small g.met.F.Format.lawful_layout (leaf g c) in let u = under g c in let low = s.0 in (omega arith, s.1)

pub overflow_shl-result : goal.overflow_shl-result
overflow_shl-result g c = let s = small g c in let low = s.0 in let few = s.1 in omega arith

-- a block begins at the entry where its number is a multiple of the block's words
begins : (g : Over) (c : Joined-begins g) → c.if-begins.result ≡ one_if (c.args.number % words_in g.F.Format.layout c.args.level c.in-Leaf.log2 == 0)
begins g c =
    let words : ℕ = words_in g.F.Format.layout c.args.level c.in-Leaf.log2 in
    let rest : c.from.result % 2 ^ (c.in-Leaf.log2 - c.INDEX.result * c.args.level) ≡ c.args.number % words = (λ i. c.from.ensures i % 2 ^ (c.in-Leaf.log2 - under g c i)) in
    elim c.if-begins.branch [
      | then-begins w ↦
          let none : c.args.number % words ≡ 0 = sym rest ∙ c.is_aligned-begins.ensures.0 w.if-begins.true in
          w.result-is ∙ sym (ap (λ (t : Bool). one_if t) (eq-eqb (c.args.number % words) 0 none))
      | else-begins w ↦
          let some : c.args.number % words ≢ 0 = (λ z. false≢true (sym w.if-begins.false ∙ c.is_aligned-begins.ensures.1 (rest ∙ z))) in
          w.result-is ∙ sym (ap (λ (t : Bool). one_if t) (ne_eqb (c.args.number % words) 0 some))
    ]

pub returns : goal.returns
returns g c found told =
    let f = g.F.Format.layout in
    let t = told (Leaf c.in-Leaf.log2 c.in-Leaf.prot) (leaf g c) in
    let s = small g c in
    let bits : c.INDEX.result * c.args.level ≤ 63 = (let low = s.0 in let few = s.1 in omega arith) in
    let most : 2 ^ (c.INDEX.result * c.args.level) ≤ 2 ^ 63 = pow_mono bits in
    let whole : 1 * 2 ^ (c.INDEX.result * c.args.level) % 18446744073709551616 ≡ 2 ^ (c.INDEX.result * c.args.level) = omega arith in
    record {
      blocks = begins g c ∙ sym (ap (λ (b : Bool). one_if b) t.3) ∙ sym (ap (if_any counts_block) t.1);
      pages = whole ∙ ap (λ (k : ℕ). 2 ^ k) (under g c) ∙ ap (pages_of_entry f) (sym t.2) ∙ sym (ap (if_any (counts_pages f)) t.1);
    }
