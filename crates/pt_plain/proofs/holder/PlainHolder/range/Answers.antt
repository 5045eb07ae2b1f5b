use Rattle.std.proofs.Common.{◌≡◌, List, ◌-◌, ◌^◌, ◌<◌, ◌≤◌, refl, ap, sym, ◌∙◌, subst, arith}
use Rattle.std.proofs.lemmas.Nat.{one_shl}
use Rattle.pt_model.specs.declared.block.Block.{Block}
use Rattle.pt_model.specs.Book.{IsLawful}
use Rattle.pt_view.specs.declared.view.View.{View}
use Rattle.pt_view.specs.Views.{IsAtRest, book_of}
use Rattle.pt_rule.proofs.Laws.{books_are_lawful}
use Rattle.pt_plain.specs.Owner.{Owned}
use Rattle.pt_plain.proofs.Owners.{live, shown, span_whole}
use Rattle.pt_plain.proofs.holder.PlainHolder.range.Goals as goal

pub returns-clause-count : goal.returns-clause-count
returns-clause-count g c =
    let f = g.F.Format.layout in
    let law = g.met.F.Format.lawful_layout in
    let constants = g.met.F.Format.has_constants in
    let input : c.INPUT.result ≡ f.input = c.INPUT.ensures ∙ sym constants.input_is in
    let granule : c.GRANULE.result ≡ f.granule = c.GRANULE.ensures ∙ sym constants.granule_is in
    let bits : c.INPUT.result - c.GRANULE.result ≡ f.input - f.granule = omega arith in
    let few : c.INPUT.result - c.GRANULE.result < 64 = (let a = law.pages_high in omega arith) in
    one_shl (c.INPUT.result - c.GRANULE.result) 64 few ∙ ap (λ b. 2 ^ b) bits ∙ ap (λ (x : Owned). x.view.count) c.self.view_is

pub returns-clause-first : goal.returns-clause-first
returns-clause-first g c = ap (λ (x : Owned). x.view.first) c.self.view_is

pub returns-clause-levels : goal.returns-clause-levels
returns-clause-levels g c =
    let low = c.self.invariant.lawful.sizes.levels_low in
    let e = ap (λ (v : View). v.levels) (span_whole c.self.invariant) ∙ (shown g.F.Format.layout _).levels_are in
    subst (λ (x : Owned). g.F.Format.layout.start ≤ x.view.levels) c.self.view_is (omega arith)

pub returns-clause-lawful : goal.returns-clause-lawful
returns-clause-lawful g c =
    let o = c.self.inside in
    let f = g.F.Format.layout in
    let own = c.self.invariant in
    subst (λ (x : Owned). (blocks : List Block) → IsAtRest f x.view blocks → IsLawful f x.view.levels (book_of x.view blocks)) c.self.view_is
    (subst (λ (v : View). (blocks : List Block) → IsAtRest f v blocks → IsLawful f v.levels (book_of v blocks)) (sym (span_whole own))
    (books_are_lawful f g.met.F.Format.lawful_layout o.frames o.levels o.words.items _ 0 _ own.lawful refl (live f _)))
