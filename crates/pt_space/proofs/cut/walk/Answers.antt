use Rattle.std.proofs.Common.{◌≡◌, ℕ, suc, ◌≤◌, ◌^◌, List, [], take, drop, refl, sym, ap, ◌∙◌, arith, add-one}
use Rattle.std.specs.Prelude.{None, Option}
use Rattle.pt_view.specs.declared.view.View.{View}
use Rattle.pt_rule.specs.Tags.{first_or, held_word}
use Rattle.pt_rule.specs.Kinds.{retrace}
use Rattle.pt_space.specs.Cuts.{last_of}
use Rattle.pt_space.proofs.Takes.{frames_few}
use Rattle.pt_space.proofs.Marks.{at_in, drop_within, follows_at, last_more, next_end, some_more}
use Rattle.pt_space.proofs.cut.walk.Goals as goal

pub unreachable-requires : goal.unreachable-requires
unreachable-requires g c = let a = c.loop-i-test.true in let b = c.requires.count in some_more c.args.seat.now.me.0.purse c.loop-i.i (omega arith) (c.loop-i.invariant.next ∙ c.in_default.is)

pub load-tag-requires-clause-may : goal.load-tag-requires-clause-may
load-tag-requires-clause-may g c =
    let s = c.loop-i.invariant.holds in
    let same = ap (λ (u : View). u.purse) c.loop-i.invariant.view in
    let mine = at_in c.loop-i.seat.me.0.purse c.loop-i.i c.in-Some.frame (ap (λ xs. first_or None (drop c.loop-i.i xs)) same ∙ c.loop-i.invariant.next ∙ c.in-Some.is) in
    record {
      frames = s.frames;
      levels = s.levels;
      live = s.live;
      goes_on = (c.loop-i.seat.me.0.path, refl);
      may = mine;
      place = refl;
      within = let a = s.purse_within c.in-Some.frame mine in omega arith;
      puts_is = λ n. refl;
    }

pub next_in-next-requires : goal.next_in-next-requires
next_in-next-requires g c =
    let s = c.loop-i.invariant.holds in
    let w : View = c.loop-i.seat.me.0 in
    let same = ap (λ (u : View). u.purse) c.loop-i.invariant.view in
    let here = ap (λ xs. first_or None (drop c.loop-i.i xs)) same ∙ c.loop-i.invariant.next ∙ c.in-Some.is in
    let none : w.end ≡ None = ap (λ (u : View). u.end) c.loop-i.invariant.view ∙ c.requires.end in
    let few : c.args.space.now.frames ≤ 2 ^ 32 = (let a = s.limit in let b = frames_few g.F.Format.layout g.met.F.Format.lawful_layout in omega arith) in (
      first_or None (drop (suc c.loop-i.i) w.purse),
      c.load-tag.ensures.stepped.tells ∙ ap held_word (follows_at w.purse c.loop-i.i c.in-Some.frame w.end s.once here ∙ ap (λ (o : Option ℕ). first_or o (drop (suc c.loop-i.i) w.purse)) none),
      next_end c.args.space.now.frames (drop (suc c.loop-i.i) w.purse) few (λ x m. s.purse_within x (drop_within w.purse (suc c.loop-i.i) x m)),
    )

pub loop-i-init : goal.loop-i-init
loop-i-init g c = record { table = refl; id = refl; slots = refl; view = refl; holds = c.requires.holds; last = refl; next = c.requires.head }

pub loop-i-preserved : goal.loop-i-preserved
loop-i-preserved g c =
    let s = c.loop-i.invariant.holds in
    let w : View = c.loop-i.seat.me.0 in
    let xs : List ℕ = c.args.seat.now.me.0.purse in
    let same : w.purse ≡ xs = ap (λ (u : View). u.purse) c.loop-i.invariant.view in
    let first = c.loop-i.invariant.next ∙ c.in-Some.is in
    let here = ap (λ ys. first_or None (drop c.loop-i.i ys)) same ∙ first in
    let none : w.end ≡ None = ap (λ (u : View). u.end) c.loop-i.invariant.view ∙ c.requires.end in
    let named : c.load-tag.result ≡ held_word (first_or None (drop (suc c.loop-i.i) w.purse)) = c.load-tag.ensures.stepped.tells
    ∙ ap held_word (follows_at w.purse c.loop-i.i c.in-Some.frame w.end s.once here ∙ ap (λ (o : Option ℕ). first_or o (drop (suc c.loop-i.i) w.purse)) none) in
    let seat = c.load-tag.ensures.seat in record {
      table = seat.0 ∙ c.loop-i.invariant.table;
      id = seat.1 ∙ c.loop-i.invariant.id;
      slots = seat.2 ∙ c.loop-i.invariant.slots;
      view = ap (retrace []) c.load-tag.ensures.stepped.is ∙ c.loop-i.invariant.view;
      holds = c.load-tag.ensures.stepped.holds;
      last = ap (λ k. last_of (take k xs)) (add-one c.loop-i.i) ∙ last_more xs c.loop-i.i c.in-Some.frame first;
      next = ap (λ k. first_or None (drop k xs)) (add-one c.loop-i.i) ∙ ap (λ ys. first_or None (drop (suc c.loop-i.i) ys)) (sym same) ∙ sym (c.next_in-next.ensures _ named);
    }
