-- A path that is cut is a path still, so a law holds for a holder that has only the front of its seat's path.
use Rattle.std.proofs.Common.{◌≡◌, ℕ, ◌<◌, List, ◌++◌, set, refl, subst}
use Rattle.std.specs.Prelude.{slice_index, slice_set}
use mathlib.Core.Option.{some}
use lib.ListN.{get_elem?}
use Rattle.atomic_table.proofs.Lists.{set_here}
use Rattle.pt_model.specs.Layout.{Layout}
use Rattle.pt_view.specs.declared.view.View.{View}
use Rattle.pt_view.specs.declared.view.Node.{Node}
use Rattle.pt_rule.specs.Lawful.{Lawful}
use Rattle.pt_rule.specs.Kinds.{Kind, Keeps, KeepsCut, retrace, place_of, put, after}
use Rattle.pt_rule.proofs.TotalsKept.{at_inside, set_set}
use Rattle.pt_rule.proofs.NotesKept.{notes, path_front}

module _ (f : Layout) (n l : ℕ) where
  pub cuts : (words : List ℕ) (views : List View) (id : ℕ) (v : View) (path rest : List Node) → Lawful f n l words views → get_elem? views id ≡ some v → 0 < v.count →
      v.path ≡ path ++ rest → Lawful f n l words (set views id (retrace path v))
  cuts words views id v path rest r at live is = notes f n l words views id v (retrace path v) r at live (record {
    range = record { frames = refl; levels = refl; first = refl; count = refl };
    book = record { pieces = refl; tables = refl; top = refl };
    purse = refl;
    end = refl;
    prepared = refl;
    path = path_front f n l words views v path rest is (r.paths id v at);
    busy = r.busy id v at;
    known = r.known id v at;
  })

  pub keeps_cut : (k : Kind) → Keeps f n l k → KeepsCut f n l k
  keeps_cut k law words views id v path rest r at live is may =
      let w : View = retrace path v in
      let found : ℕ = slice_index words (place_of f n k) in
      let kept = law words (set views id w) id w (cuts words views id v path rest r at live is) (set_here views id w (at_inside views id v at)) live may in
      (subst (Lawful f n l (slice_set words (place_of f n k) (put f k w found))) (set_set views id w (after f k found w)) kept.0, kept.1)
