use Rattle.std.proofs.Common.{rules, ◌≡◌, sym, subst}
use Rattle.std.specs.Prelude.{None, take}
use Rattle.pt_rule.specs.Cuts.{left_part, marked, right_part}
use Rattle.pt_space.specs.Books.{SplitsBook}
use Rattle.pt_space.specs.Standing.{Standing, cut_to}
use Rattle.pt_view.specs.declared.view.View.{View}
use Rattle.pt_space.proofs.PartBooks.{OwnsPieces, owns_pieces, splits_book}
use Rattle.pt_space.proofs.lease.Lease.split.Goals as goal

pub returns-clause-books : goal.returns-clause-books
returns-clause-books g c =
    let f = g.F.Format.layout in
    let left : cut_to 0 c.mark_end.new.seat.me.0 ≡ marked None (left_part f c.args.at c.args.left_frames c.args.self.view) = search rules in
    let right : cut_to 0 c.glance-2.new.seat.me.0 ≡ right_part f c.args.at c.args.left_frames c.args.self.view = search rules in
    let owns : OwnsPieces f c.args.self.view = subst (λ (x : Standing). OwnsPieces f x.view) c.self.view_is (owns_pieces c.self.invariant.3.holds (take c.self.inside.depth c.self.inside.seat.me.0.path)) in
    subst (λ (t : View × View). SplitsBook f c.args.at c.args.self.view t.0 t.1) (λ i. (sym left i, sym right i)) (splits_book g.met.F.Format.lawful_layout owns c.requires)
