-- The laws of all kinds of step as lemmas that other crates cite, also of a step of a holder that has only the front of
-- its seat's path.
use Rattle.std.specs.Prelude.{ℕ}
use Rattle.pt_model.specs.Layout.{Layout}
use Rattle.pt_format.specs.Laws.{IsLayout, WordsDiffer}
use Rattle.pt_format.specs.Manual.{StepsAgree}
use Rattle.pt_rule.specs.Kinds.{Kind, Keeps, KeepsCut, take, place, unplace, free, mark, look_tag, load_root, look, install, write, clear, unlink, bridge, unbridge, raise}
use Rattle.pt_rule.proofs.TakeKept.{take_kept}
use Rattle.pt_rule.proofs.PlaceKept.{place_kept}
use Rattle.pt_rule.proofs.UnplaceKept.{unplace_kept}
use Rattle.pt_rule.proofs.FreeKept.{free_kept}
use Rattle.pt_rule.proofs.MarkKept.{mark_kept, look_tag_kept}
use Rattle.pt_rule.proofs.RootKept.{root_loaded}
use Rattle.pt_rule.proofs.LookKept.{looked}
use Rattle.pt_rule.proofs.InstallKept.{install_kept}
use Rattle.pt_rule.proofs.WriteKept.{write_keeps}
use Rattle.pt_rule.proofs.ClearKept.{clear_keeps}
use Rattle.pt_rule.proofs.UnlinkKept.{unlink_keeps}
use Rattle.pt_rule.proofs.RaiseKept.{raise_kept}
use Rattle.pt_rule.proofs.BridgeKept.{bridge_kept, unbridge_kept}
use Rattle.pt_rule.proofs.CutPaths.{keeps_cut}

pub kept : (f : Layout) → IsLayout f → WordsDiffer f → StepsAgree f → (n l : ℕ) (k : Kind) → Keeps f n l k
kept f good d a n l (take frame) = take_kept f n l frame
kept f good d a n l (place frame p) = place_kept f n l good frame p
kept f good d a n l (unplace frame) = unplace_kept f n l frame
kept f good d a n l (free frame) = free_kept f n l frame
kept f good d a n l (mark frame end) = mark_kept f n l frame end
kept f good d a n l (look_tag frame) = look_tag_kept f n l frame
kept f good d a n l load_root = root_loaded f n l good
kept f good d a n l (look frame number) = looked f n l good d a frame number
kept f good d a n l (install frame number) = install_kept f n l good d a frame number
kept f good d a n l (write frame number x) = write_keeps f n l good frame number x
kept f good d a n l (clear frame number x) = clear_keeps f n l good frame number x
kept f good d a n l (unlink frame number) = unlink_keeps f n l good frame number
kept f good d a n l (bridge frame old level) = bridge_kept f n l frame old level
kept f good d a n l (unbridge frame level) = unbridge_kept f n l frame level
kept f good d a n l (raise frame old level) = raise_kept f n l good frame old level

pub kept_cut : (f : Layout) → IsLayout f → WordsDiffer f → StepsAgree f → (n l : ℕ) (k : Kind) → KeepsCut f n l k
kept_cut f good d a n l k = keeps_cut f n l k (kept f good d a n l k)
