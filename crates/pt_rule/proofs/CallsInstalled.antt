-- What an install tells meets the clauses of a holder's call, whether it was won or met another's table.
use Rattle.std.proofs.Common.{◌≡◌, ◌≢◌, ℕ, ◌<◌, ◌≤◌, List, [], ◌∷◌, ◌++◌, sym, refl, ap, ◌∙◌, subst, arith}
use Rattle.std.specs.Prelude.{if◌then◌else◌, ◌==◌, None, Option, Some}
use Rattle.pt_model.specs.declared.position.Position.{Position}
use Rattle.pt_model.specs.Layout.{Layout, table}
use Rattle.pt_model.specs.Tables.{child_at}
use Rattle.pt_model.specs.Words.{frame_address, frame_limit}
use Rattle.pt_format.specs.Words.{IsTableAddress}
use Rattle.pt_format.specs.Laws.{WordsDiffer}
use Rattle.pt_format.specs.Manual.{StepsAgree}
use Rattle.pt_view.specs.declared.view.View.{View}
use Rattle.pt_view.specs.declared.view.Node.{Node}
use Rattle.pt_view.specs.declared.view.Prepared.{Prepared}
use Rattle.pt_view.specs.declared.holder.Won.{Won}
use Rattle.pt_view.specs.declared.holder.Won.TheVariants.{Yes, Met}
use Rattle.pt_model.specs.Sets.{AddsPositions}
use Rattle.pt_view.specs.Calls.{IsEntryAt, IsInstalled, MayInstall, Prepares, entry_first, lowest, with_table}
use Rattle.pt_rule.specs.Kinds.{InstallTells, zero as tells_zero, pointer, install, installed, level_at, pointer_to, put}
use Rattle.pt_rule.proofs.TreeFacts.{is_address}
use Rattle.pt_rule.proofs.LookKept.{entered, entry_position}
use Rattle.pt_rule.proofs.InstallMet.{installed_met}
use Rattle.pt_rule.proofs.InstallKept.{installed_won}
use Rattle.pt_rule.proofs.CallsRooted.{one_more, same_frames}

-- what an install puts: the prepared frame's pointer where it found zero, and what it found elsewhere
pub install_puts : (f : Layout) (v : View) (x : Node) (number found : ℕ) (prepared : Prepared) → lowest v.path ≡ Some x → v.prepared ≡ Some prepared →
    put f (install x.frame number) v found ≡ (if found == 0 then f.pointer x.position.level (frame_address f prepared.frame) else found)
install_puts f v x number found prepared e is = λ i. if found == 0 then pointer_to f (level_at (e i)) (is i) else found

module _ (f : Layout) (tells : Type 0) (v : View) (number found : ℕ) (may : MayInstall f v number) where
  abbrev node : Node
  node = may.entry.node

  abbrev place : Position
  place = node.position

  one_place : (p : Position) → IsEntryAt f v p number → place ≡ p
  one_place p entry = sym (entry_position f v node number may.entry.is_lowest p entry)

  abbrev with_child_at : Position → List Position
  with_child_at p = with_table v.levels v.tables (child_at f p number)

  -- what an install keeps, whether it was won or met another's table
  installed_as : (frame : ℕ) (won : Won) (prepared : Option Prepared) → (let w : View = record (entered f v frame number place (with_child_at place)) { prepared = prepared } in
      Prepares won v w → IsInstalled f tells number v won w)
  installed_as frame won prepared prepares = record {
    range = record { frames = refl; levels = refl; first = refl; count = refl };
    pieces = refl;
    top = refl;
    purse = record { purse = refl; end = refl };
    prepares = prepares;
    busy = same_frames v.busy;
    tables = λ p entry. ap with_child_at (one_place p entry);
    path = λ p entry. (frame, ap (λ (q : Position). v.path ++ record { frame = frame; position = child_at f q number } ∷ []) (one_place p entry));
    known = λ p entry. subst (λ (q : Position). AddsPositions v.known (child_at f place number ∷ v.known) (λ c. c ≡ child_at f q number)) (one_place p entry) (one_more (child_at f place number) v.known);
    told = λ _. record { taken = refl; absent = refl; stores = refl };
  }

  -- zero was found: the prepared frame is linked
  pub won_view : found ≡ 0 → installed f number found v ≡ record (entered f v may.frame number place (with_child_at place)) { prepared = None }
  won_view z = installed_won f v node number found (record { frame = may.frame; position = child_at f may.position number; bridge = None }) may.entry.is_lowest may.prepared z

  pub installed_yes : found ≡ 0 → IsInstalled f tells number v Yes (installed f number found v)
  installed_yes z = subst (IsInstalled f tells number v Yes) (sym (won_view z)) (installed_as may.frame Yes None refl)

  -- a pointer was found: the path goes into the table that it names
  module _ (n : ℕ) (d : WordsDiffer f) (a : StepsAgree f) (few : n ≤ frame_limit f) (told : (p : Position) → IsEntryAt f v p number → InstallTells f n v p number found) (nonzero : found ≢ 0) where
    here : IsEntryAt f v place number
    here = record { node = node; is_lowest = may.entry.is_lowest; at = refl; within = may.entry.within }

    pub installed_no : (frame : ℕ) × (frame < n) × (found ≡ f.pointer place.level (frame_address f frame))
        × (installed f number found v ≡ entered f v frame number place (with_child_at place)) × IsInstalled f tells number v Met (installed f number found v)
    installed_no = elim (told place here) [
      | tells_zero none vacant off ↦ absurd (nonzero none)
      | pointer frame within level is owned ↦
          let address : IsTableAddress f (frame_address f frame) = is_address f frame (omega arith) in
          let step : f.step place.level found (entry_first f place number) ≡ table (frame_address f frame) =
          ap (λ (k : ℕ). f.step place.level k (entry_first f place number)) is ∙ a.pointer place.level (frame_address f frame) (entry_first f place number) level address in
          let goes : installed f number found v ≡ entered f v frame number place (with_child_at place) = installed_met f v node number found frame may.entry.is_lowest nonzero step in (
            frame,
            within,
            is,
            goes,
            subst (IsInstalled f tells number v Met) (sym goes) (installed_as frame Met v.prepared refl),
          )
    ]
