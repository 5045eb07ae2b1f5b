-- What a view has met may be anything that is true.
use Rattle.std.proofs.Common.{refl}
use Rattle.pt_view.specs.declared.view.View.{View}
use Rattle.pt_rule.specs.Laws.{ViewsNote}
use Rattle.pt_rule.proofs.NotesKept.{notes, path_front, path_noted}

pub views_note : ViewsNote
views_note f n l words views id v w r at live h = notes f n l words views id v w r at live (record {
  range = h.range;
  book = h.book;
  purse = h.purse.purse;
  end = h.purse.end;
  prepared = h.prepared;
  path = path_noted f n l words views (let front : View = record v { path = w.path } in front) w
      (record { frames = h.range.frames; levels = h.range.levels; first = h.range.first; count = h.range.count }) refl
      (path_front f n l words views v w.path h.rest h.path (r.paths id v at));
  busy = h.busy;
  known = h.known;
})
