-- A lease stores a word of a block, and zero over one.
use Rattle.std.proofs.Common.{ℕ, sym, subst}
use Rattle.pt_model.specs.Layout.{Layout}
use Rattle.pt_format.specs.Laws.{IsLayout, WordsDiffer}
use Rattle.pt_format.specs.Manual.{StepsAgree}
use Rattle.pt_view.specs.declared.view.View.{View}
use Rattle.pt_view.specs.Calls.{IsCleared, IsWritten}
use Rattle.pt_rule.specs.Kinds.{clear, write}
use Rattle.pt_rule.specs.Meets.{Always}
use Rattle.pt_space.specs.Standing.{Fields, Shows, SteppedAbout, cut_to}
use Rattle.pt_space.proofs.Showing.{cut_is, says, shows_same}

module _ {f : Layout} (good : IsLayout f) (differ : WordsDiffer f) (agree : StepsAgree f) {n l : ℕ} {v : View} {o : Fields} (s : Shows f n l v o) where
  abbrev cut : View
  cut = cut_to o.depth v

  module _ {w : View} {number frame word : ℕ} (t : SteppedAbout f n l (write frame number) (cut_to o.depth v) word w) where
    written_as : IsWritten f Always number word cut w
    written_as = subst (λ (x : ℕ). IsWritten f Always number x cut w) t.puts (says s good differ agree t.may t.stepped)

    pub written : IsWritten f Always number word cut (cut_to o.depth w)
    written = subst (IsWritten f Always number word cut) (sym (cut_is o.depth v w written_as.path)) written_as

    pub shows_written : Shows f n l w o
    shows_written = let r = written_as in shows_same s t.stepped.holds r.range r.purse.end r.path r.prepared r.purse.purse

  module _ {w : View} {number frame word : ℕ} (t : SteppedAbout f n l (clear frame number) (cut_to o.depth v) word w) where
    cleared_as : IsCleared f Always number cut w
    cleared_as = says s good differ agree t.may t.stepped

    pub cleared : IsCleared f Always number cut (cut_to o.depth w)
    cleared = subst (IsCleared f Always number cut) (sym (cut_is o.depth v w cleared_as.path)) cleared_as

    pub shows_cleared : Shows f n l w o
    shows_cleared = let r = cleared_as in shows_same s t.stepped.holds r.range r.purse.end r.path r.prepared r.purse.purse
