-- A step of a seat keeps the rule, whatever the words and the other views are.
use Rattle.std.proofs.Common.{◌≡◌, ℕ, Bool, true, false, ◌<◌, List, [], ◌∷◌, ◌++◌, refl, sym, ◌∙◌, subst, set}
use Rattle.std.specs.Prelude.{Option, None, Some, ◌==◌, slice_index, slice_set, if◌then◌else◌, nat_lt}
use mathlib.Core.Option.{some}
use lib.ListN.{get_elem?}
use Rattle.atomic_table.proofs.Lists.{set_here}
use Rattle.pt_model.specs.Layout.{Layout, Found, nothing, page, table, alien}
use Rattle.pt_model.specs.Tables.{child_at}
use Rattle.pt_model.specs.Words.{root_word}
use Rattle.pt_format.specs.Laws.{IsLayout, WordsDiffer}
use Rattle.pt_format.specs.Manual.{StepsAgree}
use Rattle.pt_view.specs.declared.view.View.{View}
use Rattle.pt_view.specs.declared.view.Node.{Node}
use Rattle.pt_view.specs.declared.view.Absence.TheVariants.{Zero}
use Rattle.pt_view.specs.Calls.{lowest}
use Rattle.pt_rule.specs.Lawful.{Lawful}
use Rattle.pt_rule.specs.Kinds.{Kind, after, place_of, retrace, take, place, unplace, free, mark, look_tag, load_root, look, install, write, clear, unlink, bridge, unbridge, raise, met_zero, met_word, deeper, with_child, frame_of, level_at, first_page, unlinked}
use Rattle.pt_rule.proofs.HolderFacts.{stands_inside}
use Rattle.pt_rule.proofs.Laws.{fronts_keep, steps_keep, views_hold}
use Rattle.pt_space.specs.Standing.{MayStep, Stepped}

deeper_count : (f : Layout) (frame number : ℕ) (o : Option Node) (v : View) → (deeper f frame number o v).count ≡ v.count
deeper_count f frame number None v = refl
deeper_count f frame number (Some x) v = refl

child_count : (f : Layout) (number : ℕ) (o : Option Node) (v : View) → (with_child f number o v).count ≡ v.count
child_count f number None v = refl
child_count f number (Some x) v = refl

unlinked_count : (o : Option Node) (v : View) → (unlinked o v).count ≡ v.count
unlinked_count None v = refl
unlinked_count (Some x) v = refl

zero_count : (f : Layout) (number : ℕ) (o : Option Node) (v : View) → (met_zero f number o v).count ≡ v.count
zero_count f number None v = refl
zero_count f number (Some x) v = bit (nat_lt 0 x.position.level)
  where
    bit : (b : Bool) → (if b then record v { absent = v.absent ++ Zero (child_at f x.position number) ∷ [] } else v).count ≡ v.count
    bit true = refl
    bit false = refl

word_count_of : (f : Layout) (number : ℕ) (w : Found) (v : View) → (met_word f number w v).count ≡ v.count
word_count_of f number nothing v = refl
word_count_of f number (page out prot) v = refl
word_count_of f number (table address) v = deeper_count f _ number (lowest v.path) v
word_count_of f number alien v = refl

bit_count : (b : Bool) (u w : View) (c : ℕ) → u.count ≡ c → w.count ≡ c → (if b then u else w).count ≡ c
bit_count true u w c x y = x
bit_count false u w c x y = y

-- no step changes the pages of a span
after_count : (f : Layout) (k : Kind) (found : ℕ) (v : View) → (after f k found v).count ≡ v.count
after_count f (take frame) found v = bit_count (found == 0) _ _ v.count refl refl
after_count f (place frame p) found v = refl
after_count f (unplace frame) found v = refl
after_count f (free frame) found v = refl
after_count f (mark frame end) found v = refl
after_count f (look_tag frame) found v = refl
after_count f load_root found v = refl
after_count f (look frame number) found v = bit_count (found == 0) _ _ v.count (zero_count f number (lowest v.path) v)
    (word_count_of f number (f.step (level_at (lowest v.path)) found (first_page f number (lowest v.path))) v)
after_count f (install frame number) found v = bit_count (found == 0) _ _ v.count
    (deeper_count f (frame_of v.prepared) number (lowest v.path) (with_child f number (lowest v.path) v) ∙ child_count f number (lowest v.path) v)
    (deeper_count f _ number (lowest v.path) (with_child f number (lowest v.path) v) ∙ child_count f number (lowest v.path) v)
after_count f (write frame number x) found v = refl
after_count f (clear frame number x) found v = refl
after_count f (unlink frame number) found v = unlinked_count (lowest v.path) v
after_count f (bridge frame old level) found v = refl
after_count f (unbridge frame level) found v = refl
after_count f (raise frame old level) found v = bit_count (found == root_word old level) _ _ v.count refl refl

module _ {f : Layout} (good : IsLayout f) (differ : WordsDiffer f) (agree : StepsAgree f) where
  pub steps : {n l : ℕ} {k : Kind} {path : List Node} {v : View} {i : ℕ} {g : ℕ → ℕ} → MayStep f n l k path v i g →
      (words : List ℕ) (views : List View) (id : ℕ) → Lawful f n l words views → get_elem? views id ≡ some v →
      (let found = slice_index words i in
      let w = after f k found (retrace path v) in
      Lawful f n l (slice_set words i (g found)) (slice_set views id w) × Stepped f n l k (retrace path v) found w)
  steps {n} {l} {k} {path} {v} {i} {g} may words views id r at =
      let cut : View = retrace path v in
      let found : ℕ = slice_index words (place_of f n k) in
      let w : View = after f k found cut in
      let keeps = fronts_keep f n l k (steps_keep f good differ agree n l k) words views id v path may.goes_on.0 r at may.live may.goes_on.1 may.may in
      let lawful : Lawful f n l (slice_set words (place_of f n k) (g found)) (set views id w) =
      subst (λ (x : ℕ). Lawful f n l (slice_set words (place_of f n k) x) (set views id w)) (may.puts_is found) keeps.0 in
      subst
      (λ (j : ℕ). Lawful f n l (slice_set words j (g (slice_index words j))) (slice_set views id (after f k (slice_index words j) cut)) × Stepped f n l k cut (slice_index words j) (after f k (slice_index words j) cut))
      may.place (
        lawful,
        record {
          is = refl;
          tells = keeps.1;
          holds = views_hold f good n l _ (set views id w) id w lawful (set_here views id w (stands_inside views id v at)) (subst (λ (c : ℕ). 0 < c) (sym (after_count f k found cut)) may.live);
        },
      )
