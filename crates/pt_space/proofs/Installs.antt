-- A lease links its prepared frame at an entry.
use Rattle.std.proofs.Common.{◌≡◌, ◌≢◌, ℕ, ◌+◌, ◌-◌, ◌<◌, length, ap, sym, ◌∙◌, subst, arith}
use Rattle.std.specs.Prelude.{None, Some, slice_set, ◌==◌, if◌then◌else◌}
use prog.Atomic.{either}
use Rattle.pt_model.specs.Layout.{Layout}
use Rattle.pt_model.specs.Tables.{child_at}
use Rattle.pt_model.specs.Words.{frame_address, frame_limit, frame_named}
use Rattle.pt_format.specs.Words.{IsPointer, IsTableLevel}
use Rattle.pt_format.specs.Laws.{IsLayout, WordsDiffer}
use Rattle.pt_format.specs.Manual.{StepsAgree}
use Rattle.pt_view.specs.declared.view.View.{View}
use Rattle.pt_view.specs.declared.holder.Won.TheVariants.{Yes, Met}
use Rattle.pt_view.specs.Calls.{InstallFinds, IsInstalled, MayInstall, lowest}
use Rattle.pt_rule.specs.Kinds.{IsLowestIn, frame_of, install, level_at, pointer_to, put}
use Rattle.pt_rule.specs.WholeView.{prepared_frame}
use Rattle.pt_rule.specs.Meets.{Always, GoesInto, Installs, IsWhole}
use Rattle.pt_space.specs.Standing.{Fields, Shows, Stepped, cut_to}
use Rattle.pt_space.proofs.Showing.{puts_if, says}
use Rattle.pt_space.proofs.Nodes as nodes

module _ {f : Layout} (good : IsLayout f) (differ : WordsDiffer f) (agree : StepsAgree f) {n l : ℕ} {v : View} {o : Fields} (s : Shows f n l v o)
    {number frame : ℕ} (may : MayInstall f (cut_to o.depth v) number) (low : IsLowestIn (cut_to o.depth v) frame) (own : ℕ) (own_is : o.prepared ≡ Some own) where
  abbrev cut : View
  cut = cut_to o.depth v

  level_is : may.position.level ≡ o.level
  level_is = nodes.level_is good s may.entry

  pub high : 0 < o.level
  high = let a = may.high in let b = level_is in omega arith

  pub table_level : IsTableLevel f o.level
  table_level = record { above = high; below = nodes.level_below good s may.entry }

  -- the prepared frame is the lease's
  frame_is : may.frame ≡ own
  frame_is = one _ _ (sym (ap prepared_frame may.prepared) ∙ s.prepared ∙ own_is)
    where
      one : (x y : ℕ) → Some x ≡ Some y → x ≡ y
      one x y q = let same : x ≡ y = cc in same

  pub own_within : own < frame_limit f
  own_within = let a = s.holds.prepared_within (record { frame = may.frame; position = child_at f may.position number; bridge = None }) may.prepared in let b = frame_is in let m = s.holds.limit in omega arith

  -- what the exchange puts
  pub puts : (word found : ℕ) → word ≡ f.pointer o.level (frame_address f own) → put f (install frame number) cut found ≡ either (found == 0) word found
  puts word found is =
      (λ i. if found == 0 then pointer_to f (level_at (lowest_is i)) (may.prepared i) else found)
      ∙ puts_if (found == 0) (f.pointer may.position.level (frame_address f may.frame)) found
      ∙ ap (λ (x : ℕ). either (found == 0) x found) ((λ i. f.pointer (level_is i) (frame_address f (frame_is i))) ∙ sym is)
    where
      lowest_is : lowest cut.path ≡ Some (record { frame = may.entry.node.frame; position = may.position })
      lowest_is = may.entry.is_lowest ∙ (λ i. Some (record { frame = may.entry.node.frame; position = may.entry.at i }))

  module _ {w : View} {found : ℕ} (t : Stepped f n l (install frame number) cut found w) where
    said : Installs f may.position number cut found w
    said = says s good differ agree (low, may) t may.position may.entry

    module _ (z : found ≡ 0) where
      pub shows_won : length o.path ≡ 8 → Shows f n l w (record o { path = slice_set o.path o.depth own; depth = o.depth + 1; level = o.level - 1; prepared = None })
      shows_won eight =
          let r = said.won z in
          nodes.shows_deeper good s may.entry w _ r.1 t.holds r.0.range r.0.purse (ap prepared_frame r.0.prepares)
          (λ x e. absurd (let both : None ≡ Some x = sym r.0.prepares ∙ e in let q : ⊥ = cc in q)) high eight own (ap frame_of may.prepared ∙ frame_is)

      pub installed_won : IsInstalled f Always number cut Yes (cut_to (o.depth + 1) w)
      installed_won = let r = said.won z in subst (IsInstalled f Always number cut Yes) (sym (nodes.deeper_is good s may.entry w _ r.1)) r.0

      pub found_won : InstallFinds f (IsWhole f cut) number cut Yes
      found_won = said.vacant z

    module _ (nonzero : found ≢ 0) where
      pub met_pointer : (address : ℕ) × IsPointer f o.level found address
      met_pointer = let p = said.some nonzero in (p.0, subst (λ (j : ℕ). IsPointer f j found p.0) level_is p.1)

      module _ {address : ℕ} (read : IsPointer f o.level found address) where
        goes : GoesInto f may.position number (frame_named f address) cut w
        goes = said.pointer address (subst (λ (j : ℕ). IsPointer f j found address) (sym level_is) read)

        pub shows_met : length o.path ≡ 8 → (x : ℕ) → x ≡ frame_named f address → Shows f n l w (record o { path = slice_set o.path o.depth x; depth = o.depth + 1; level = o.level - 1 })
        shows_met eight x is =
            let r = said.met nonzero in
            nodes.shows_deeper good s may.entry w _ goes t.holds r.range r.purse (ap prepared_frame r.prepares ∙ s.prepared) (λ y e. s.unbridged y (sym r.prepares ∙ e)) high eight x (sym is)

        pub installed_met : IsInstalled f Always number cut Met (cut_to (o.depth + 1) w)
        installed_met = subst (IsInstalled f Always number cut Met) (sym (nodes.deeper_is good s may.entry w _ goes)) (said.met nonzero)

      pub found_met : InstallFinds f (IsWhole f cut) number cut Met
      found_met = said.known nonzero
