use Rattle.std.proofs.Common.{◌≡◌, ℕ, ◌-◌, ◌<◌, refl, ap, sym, ◌∙◌, subst, arith}
use Rattle.std.specs.Prelude.{length}
use Rattle.pt_view.specs.declared.view.View.{View}
use Rattle.pt_view.specs.Views.{linked_count}
use Rattle.pt_map.specs.Requests.{Gathered, IsLackOf}
use Rattle.pt_map.specs.declared.refused.MapRefused.TheVariants.{NoFrames}
use Rattle.pt_map.proofs.FramesDrawn.{fell_short, gathered_none, too_many_absent}
use Rattle.pt_map.proofs.request.gather.Goals.{then-absent-from, else-absent-from}
use Rattle.pt_map.proofs.MapFromTable.{linked_same}
use Rattle.pt_map.proofs.request.gather.Goals as goal

pub returns-then-absent-from-2-clause-gathers : goal.returns-then-absent-from-2-clause-gathers
returns-then-absent-from-2-clause-gathers g c =
    let v : View = g.H.Holder.view c.args.holder.now in
    let alone : Type 0 = g.H.Holder.alone c.args.holder.now in
    let linked : ℕ = linked_count v (g.H.Holder.aside c.args.holder.now) in
    let more : c.purse-held.result < c.args.absent = (let a = c.if-absent-from-2.true in let b = c.from-2.ensures in omega arith) in
    let P : View → Type 0 = λ z. c.purse-held.result ≡ length z.purse →
    Gathered g.H.Holder.tells v z c.args.absent × IsLackOf g.H.Holder.tells alone linked v z c.args.absent (NoFrames c.args.absent c.purse-held.result) in
    elim c.if-absent-from.branch [
      | then-absent-from w ↦
          (let d = w.draw.ensures in
          let held = c.purse.ensures.count in
          let from = c.from-held.ensures in
          let z : View = g.H.Holder.view w.draw.new.holder in
          let same : linked_count z (g.H.Holder.aside w.draw.new.holder) ≡ linked = linked_same v z (g.H.Holder.aside w.draw.new.holder) d.only.keeps.range d.only.keeps.book ∙ ap (linked_count v) d.stays.same_aside in
          let few : c.args.absent - c.from-held.result ≡ c.args.absent - length v.purse = omega arith in
          let spared = d.most in
          subst (λ h. P (g.H.Holder.view h)) (sym w.holder-is)
          (λ is. (
            record { keeps = d.only.keeps; place = d.only.place; busy = d.busy; absences = d.only.absent; taken = λ t. ((d.told t).lost, (d.told t).taken); stores = d.only.stores; drawn = d.purse.0; purse = d.purse.1; spared = (let many = d.purse.2 in omega arith) },
            (
              refl,
              fell_short g.H.Holder.tells alone linked v z c.args.absent c.purse-held.result more is
                  (let a = w.if-absent-from.true in let b = c.from.ensures in let d = c.frames.ensures.count in omega arith)
                  (c.args.absent - c.from-held.result) w.draw.result (omega arith) d.purse c.requires d.only.place d.only.keeps.range d.told (λ a few. let s = d.all a few in omega arith),
            ),
          )) c.purse-held.ensures.count)
      | else-absent-from w ↦
          subst (λ h. P (g.H.Holder.view h)) (sym w.holder-is)
          (λ is. (
            gathered_none g.H.Holder.tells v c.args.absent,
            (
              refl,
              too_many_absent g.H.Holder.tells alone linked v v c.args.absent c.purse-held.result more is
                  (let a = w.if-absent-from.false in let b = c.from.ensures in let d = c.frames.ensures.count in omega arith) refl,
            ),
          )) c.purse-held.ensures.count
    ]
