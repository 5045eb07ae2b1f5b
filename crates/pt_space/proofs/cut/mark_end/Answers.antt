use Rattle.std.proofs.Common.{◌≡◌, [], ◌∷◌, refl, ap, sym, ◌∙◌, subst, arith}
use Rattle.pt_view.specs.declared.view.View.{View}
use Rattle.pt_view.specs.Lists.{IsIn, times}
use Rattle.pt_rule.specs.Tags.{IsEnd, held_word}
use Rattle.pt_rule.specs.Kinds.{retrace}
use Rattle.pt_view.proofs.Members.{times_append, times_here}
use Rattle.pt_rule.specs.Cuts.{marked}
use Rattle.pt_space.specs.Cuts.{named_in}
use Rattle.pt_space.proofs.Marks.{last_splits, named_back, no_last}
use Rattle.pt_space.proofs.cut.mark_end.Goals as goal

pub store-requires-clause-may : goal.store-requires-clause-may
store-requires-clause-may g c =
    let v : View = c.args.seat.now.me.0 in
    let s = c.requires.holds in
    let cut = last_splits v.purse c.in-Some.frame (c.requires.last ∙ c.in-Some.is) in
    let same : named_in c.held_word.result ≡ c.args.end = ap named_in c.held_word.ensures ∙ named_back c.args.end in
    let mine : IsIn v.purse c.in-Some.frame = (let a = ap (times c.in-Some.frame) cut.1 ∙ times_append c.in-Some.frame cut.0 (c.in-Some.frame ∷ []) in let b = times_here c.in-Some.frame [] in omega arith) in
    record {
      frames = s.frames;
      levels = s.levels;
      live = s.live;
      goes_on = (v.path, refl);
      may = (cut, subst (IsEnd c.args.space.now.frames) (sym same) c.requires.end);
      place = refl;
      within = let a = s.purse_within c.in-Some.frame mine in omega arith;
      puts_is = λ found. ap held_word same ∙ sym c.held_word.ensures;
    }

pub returns-in-Some-clause-view : goal.returns-in-Some-clause-view
returns-in-Some-clause-view g c =
    let v : View = c.args.seat.now.me.0 in
    let same : named_in c.held_word.result ≡ c.args.end = ap named_in c.held_word.ensures ∙ named_back c.args.end in
    ap (retrace []) c.store.ensures.stepped.1.is ∙ (λ i. marked (same i) (retrace [] v))

pub returns-in_default-clause-view : goal.returns-in_default-clause-view
returns-in_default-clause-view g c =
    let v : View = c.args.seat.now.me.0 in
    let e = c.requires.none (no_last v.purse (c.requires.last ∙ c.in_default.is)) in
    λ i. marked (e i) (retrace [] v)
