-- The copy stands before the first entry of the root's table.
use Rattle.std.proofs.Common.{◌≡◌, ℕ, ◌-◌, ◌/◌, ◌%◌, ◌<◌, ◌≤◌, List, [], ◌∷◌, refl, subst, arith}
use Rattle.std.proofs.lemmas.List.{set-get_or}
use Rattle.std.proofs.lemmas.Nat.{pow_pos}
use Rattle.std.specs.Prelude.{Some, slice_index}
use Rattle.std.proofs.Math.Nat.{zero-mod}
use Rattle.pt_model.specs.Layout.{Layout, pages_of_table}
use Rattle.pt_model.specs.Tables.{spine_position, starting_top}
use Rattle.pt_model.specs.Words.{frame_limit}
use Rattle.pt_format.specs.Laws.{IsLayout, WordsDiffer}
use Rattle.pt_format.specs.Manual.{StepsAgree}
use Rattle.pt_view.specs.declared.view.View.{View}
use Rattle.pt_rule.specs.Lawful.{Lawful}
use Rattle.pt_rule.specs.Opening.{opening_view}
use Rattle.pt_rule.specs.Kinds.{after, load_root}
use Rattle.pt_rule.proofs.Laws.{steps_keep}
use Rattle.pt_image.specs.Drafts.{IsBegun, Stands}
use Rattle.pt_image.proofs.Begun.{begins}

pub starts : (f : Layout) → IsLayout f → WordsDiffer f → StepsAgree f → (n l r : ℕ) (words : List ℕ) → n ≤ frame_limit f → r < n → f.start ≤ l → l ≤ f.levels →
    IsBegun f n l r words → (v : View) × Stands f n l words v [] r 0 (spine_position (starting_top l))
starts f good differ agree n l r words limit room low high new =
    let u : View = opening_view f n l 0 in
    let t : ℕ = starting_top l in
    let found : ℕ = slice_index words 0 in
    let v : View = after f load_root found u in
    let d = begins f good n l r words limit room low high new in
    let law = steps_keep f good differ agree n l load_root words (u ∷ []) 0 u d.lawful refl (pow_pos (f.input - f.granule)) refl in
    let small : t < 8 = (let a = good.levels_high in omega arith) in
    let frame : found / 8 ≡ r = (let e = new.root in omega arith) in
    let level : found % 8 ≡ t = (let e = new.root in omega arith) in (
      v,
      record {
        draft = record {
          lawful = subst (λ (ws : List ℕ). Lawful f n l ws (v ∷ [])) (set-get_or words 0 0) law.0;
          whole = refl;
          none_held = refl;
          end = refl;
          none_prepared = refl;
        };
        pieces = refl;
        here = λ i. Some (record { frame = frame i; position = spine_position (level i) });
        position = record { a_level = let a = good.start_low in omega arith; a_page = pow_pos (f.input - f.granule); aligned = zero-mod (pages_of_table f t) };
        low = omega arith;
        top = refl;
        some = omega arith;
        zero_from = λ i le lt. new.cleared r i room lt;
        behind = tt;
        tables = λ q a. absurd (omega (arith, a));
      },
    )
