use Rattle.std.proofs.Common.{◌≡◌, ◌-◌, ◌+◌, ◌*◌, ◌/◌, ◌%◌, ◌^◌, ◌≤◌, ℕ, ap, sym, subst, ◌∙◌, arith}
use Rattle.std.specs.Prelude.{IsBitSet, not}
use Rattle.std.proofs.lemmas.Bool.{eq-eqb, false≢true, ne_eqb}
use Rattle.std.proofs.lemmas.Nat.{one_shl}
use Rattle.pt_model.specs.Layout.{pages_of_entry}
use Rattle.pt_walk.specs.RangeWalks.{IsBlockOf}
use Rattle.pt_sweep.proofs.OneEntry.{one_size, page_alone}
use Rattle.pt_sweep.proofs.entry.is_cut.Goals as goal

pub returns-then-sizes-pages : goal.returns-then-sizes-pages
returns-then-sizes-pages g c b is =
    let pages : 1 * 2 ^ c.entry_bits.result % 2 ^ 64 ≡ 2 ^ c.entry_bits.result = one_shl c.entry_bits.result 64 (let e = c.entry_bits.ensures in omega arith) in
    let set : IsBitSet (2 ^ c.entry_bits.result) b.log2 = subst (λ (n : ℕ). IsBitSet n b.log2) (c.if-sizes-pages.true ∙ pages) ((c.sizes.ensures b.log2).1 (is.may.a_size, is.may.at_level)) in
    let h = one_size g.met.F.Format.lawful_layout c.args.level c.args.word c.args.first c.args.end c.entry_bits.result b is c.entry_bits.ensures set c.requires.a_page c.requires.one in (
      λ t. h.1 (λ same. false≢true (sym (ap not (eq-eqb (c.args.end - c.args.first) (1 * 2 ^ c.entry_bits.result % 2 ^ 64) (same ∙ sym pages))) ∙ t)),
      λ out. ap not (ne_eqb (c.args.end - c.args.first) (1 * 2 ^ c.entry_bits.result % 2 ^ 64) (λ same. h.0 (same ∙ pages) out)),
    )

pub is_page-requires-clause-some : goal.is_page-requires-clause-some
is_page-requires-clause-some g c =
    (c.requires.some.0, subst (λ (l : ℕ). IsBlockOf g.F.Format.layout l c.args.word c.args.first c.requires.some.0) c.if-level-eq0.true c.requires.some.1)

pub returns-then-is_page : goal.returns-then-is_page
returns-then-is_page g c b is =
    let f = g.F.Format.layout in
    let here = subst (λ (l : ℕ). IsBlockOf f l c.args.word c.args.first b) c.if-level-eq0.true is in
    let one = subst (λ (l : ℕ). c.args.end ≤ (c.args.first / pages_of_entry f l + 1) * pages_of_entry f l) c.if-level-eq0.true c.requires.one in
    page_alone f b (c.is_page.ensures c.if-is_page.true b here) here c.requires.a_page one
