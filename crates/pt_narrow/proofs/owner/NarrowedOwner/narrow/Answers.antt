use Rattle.std.proofs.Common.{◌≡◌, ℕ, ◌-◌, [], ◌∷◌, inl, inr, reverse, refl, ap, sym, ◌∙◌, subst, arith}
use Rattle.std.specs.Prelude.{None}
use Rattle.std.proofs.lemmas.List.{reverse-append}
use Rattle.pt_model.specs.Cuts.{cut_refusal}
use Rattle.pt_narrow.specs.declared.narrowed.Narrowing.{Narrowing}
use Rattle.pt_narrow.specs.Standing.{IsCut, Stand, place_of, stand_of}
use Rattle.pt_narrow.proofs.Forks.{is_cut}
use Rattle.pt_narrow.proofs.Stands.{stands_inside}
use Rattle.pt_narrow.proofs.owner.NarrowedOwner.narrow.Given.{Over}
use Rattle.pt_narrow.proofs.owner.NarrowedOwner.narrow.Goals as goal
use Rattle.pt_narrow.proofs.owner.NarrowedOwner.narrow.Goals.{After-push}

-- the span is cut there, and the cut is the innermost one
module _ (g : Over) (c : After-push g) where
  abbrev s : Stand
  s = stand_of c.self.inside.plain c.self.inside.first c.self.inside.count c.self.inside.cuts.items

  abbrev cut_at : (page : ℕ) → Narrowing
  cut_at page = record { first = s.first; count = s.count; at = page }

  admitted : cut_refusal g.F.Format.layout (place_of g.F.Format.layout s).book c.args.at ≡ None
  admitted =
      subst (λ (x : Stand). cut_refusal g.F.Format.layout (place_of g.F.Format.layout x).book c.args.at ≡ None) (sym c.self.view_is)
      c.requires.admitted

  cut : IsCut (place_of g.F.Format.layout s).book (cut_at c.page_under-page.result)
  cut =
      subst (λ page. IsCut (place_of g.F.Format.layout s).book (cut_at page)) (sym c.page_under-page.ensures.page)
      (is_cut g.F.Format.layout (place_of g.F.Format.layout s).book c.args.at admitted)

  innermost : reverse c.push.new.self.items ≡ cut_at c.page_under-page.result ∷ s.cuts
  innermost = ap reverse c.push.ensures.items ∙ reverse-append c.self.inside.cuts.items (cut_at c.page_under-page.result ∷ [])

pub invariant_of-self : goal.invariant_of-self
invariant_of-self g e =
    let c = (goal.at.invariant_of-self g e).After-push in
    let o = s g c in
    let page = c.page_under-page.result in
    let above = (cut g c).above in
    stands_inside g.F.Format.layout o c.self.invariant (cut_at g c page) o.first (page - o.first) (reverse c.push.new.self.items) refl refl
    (innermost g c) (cut g c) (inl (refl, omega arith))

pub invariant_of-self-in-Right : goal.invariant_of-self-in-Right
invariant_of-self-in-Right g e =
    let c = (goal.at.invariant_of-self-in-Right g e).After-push in
    let o = s g c in
    let page = c.page_under-page.result in
    let above = (cut g c).above in
    let below = (cut g c).below in
    stands_inside g.F.Format.layout o c.self.invariant (cut_at g c page) page (o.count - (page - o.first)) (reverse c.push.new.self.items) refl
    refl (innermost g c) (cut g c) (inr (refl, omega arith))
