-- The fields of a lease show the view of its seat, before a step and after it.
use Rattle.std.proofs.Common.{◌≡◌, ℕ, zero, suc, Bool, true, false, ◌<◌, ◌≤◌, List, [], ◌∷◌, ◌++◌, length, take, drop, refl, ap, sym, ◌∙◌, arith, subst, pow_mono, ◌-◌, ◌^◌}
use Rattle.std.specs.Prelude.{Option, None, if◌then◌else◌}
use Rattle.std.proofs.lemmas.List.{append-nil}
use prog.Atomic.{either}
use mathlib.Core.Option.{some, some-ne-none}
use lib.ListN.{get_elem?}
use Rattle.pt_model.specs.Layout.{Layout, input_pages}
use Rattle.pt_model.specs.Words.{word_count}
use Rattle.pt_format.specs.Laws.{IsLayout, WordsDiffer}
use Rattle.pt_format.specs.Manual.{StepsAgree}
use Rattle.pt_view.specs.declared.view.View.{View}
use Rattle.pt_view.specs.declared.view.Node.{Node}
use Rattle.pt_view.specs.Views.{SameRange}
use Rattle.pt_rule.specs.Tags.{first_or}
use Rattle.pt_rule.specs.Holds.{Holds}
use Rattle.pt_rule.specs.Kinds.{Kind, May, place_of, put}
use Rattle.pt_rule.specs.Meets.{Says}
use Rattle.pt_rule.specs.WholeView.{prepared_frame}
use Rattle.pt_rule.proofs.Laws.{steps_meet}
use Rattle.pt_space.specs.Standing.{Fields, MayStep, Shows, Stepped, cut_to}

pub taken_again : {A : Type 0} → (d : ℕ) (xs : List A) → take d (take d xs) ≡ take d xs
taken_again zero xs = refl
taken_again (suc d) [] = refl
taken_again (suc d) (x ∷ xs) = ap (λ ys. x ∷ ys) (taken_again d xs)

pub take_drop : {A : Type 0} → (d : ℕ) (xs : List A) → xs ≡ take d xs ++ drop d xs
take_drop zero xs = refl
take_drop (suc d) [] = refl
take_drop (suc d) (x ∷ xs) = ap (λ ys. x ∷ ys) (take_drop d xs)

pub take_at : {A : Type 0} → (d i : ℕ) (xs : List A) (x : A) → i < d → get_elem? (take d xs) i ≡ some x → get_elem? xs i ≡ some x
take_at zero i xs x lt e = absurd (omega arith)
take_at (suc d) i [] x lt e = absurd (some-ne-none x (sym e))
take_at (suc d) zero (y ∷ ys) x lt e = e
take_at (suc d) (suc i) (y ∷ ys) x lt e = take_at d i ys x (omega arith) e

pub take_length : {A : Type 0} → (d : ℕ) (xs : List A) → d ≤ length xs → length (take d xs) ≡ d
take_length zero xs le = refl
take_length (suc d) [] le = absurd (omega arith)
take_length (suc d) (x ∷ xs) le = ap suc (take_length d xs (omega arith))

taken_whole : {A : Type 0} → (xs : List A) → take (length xs) xs ≡ xs
taken_whole [] = refl
taken_whole (x ∷ xs) = ap (λ ys. x ∷ ys) (taken_whole xs)

-- a view whose path is cut to a depth is cut to that depth
pub cut_is : (d : ℕ) (v w : View) → w.path ≡ take d v.path → cut_to d w ≡ w
cut_is d v w e = let p : take d w.path ≡ w.path = ap (take d) e ∙ taken_again d v.path ∙ sym e in λ i. record w { path = p i }

-- a view cut to the length of its path is the view
pub whole_path : (v : View) (d : ℕ) → length v.path ≡ d → cut_to d v ≡ v
whole_path v d is = λ i. record v { path = (ap (λ (j : ℕ). take j v.path) (sym is) ∙ taken_whole v.path) i }

-- what an exchange puts
pub puts_if : (b : Bool) (x y : ℕ) → (if b then x else y) ≡ either b x y
puts_if true x y = refl
puts_if false x y = refl

module _ {f : Layout} {n l : ℕ} {v : View} {o : Fields} (s : Shows f n l v o) where
  -- the first step of a call
  pub may_step : {k : Kind} → May f n k (cut_to o.depth v) → (word : ℕ) → place_of f n k ≡ word → word < word_count f n →
      (puts : ℕ → ℕ) → ((found : ℕ) → put f k (cut_to o.depth v) found ≡ puts found) → MayStep f n l k (take o.depth v.path) v word puts
  may_step may word place within puts puts_is = record {
    frames = s.holds.frames;
    levels = s.holds.levels;
    live = s.holds.live;
    goes_on = (drop o.depth v.path, take_drop o.depth v.path);
    may = may;
    place = place;
    within = within;
    puts_is = puts_is;
  }

  -- a step of the call it makes says what the call does
  pub says : IsLayout f → WordsDiffer f → StepsAgree f → {k : Kind} {found : ℕ} {w : View} → May f n k (cut_to o.depth v) → Stepped f n l k (cut_to o.depth v) found w → Says f k (cut_to o.depth v) found w
  says good differ agree {k} {found} {w} may t = subst (Says f k (cut_to o.depth v) found) (sym t.is) (steps_meet f good differ agree n s.holds.limit (cut_to o.depth v) k found may t.tells)

  -- after a step that keeps the range and the end mark
  module _ {w : View} (holds : Holds f n l w) (range : SameRange (cut_to o.depth v) w) (end : w.end ≡ v.end) where
    -- and the path and the prepared frame
    pub shows_purse : {head : Option ℕ} {held : ℕ} → w.path ≡ take o.depth v.path → w.prepared ≡ v.prepared → first_or None w.purse ≡ head → length w.purse ≡ held →
        Shows f n l w (record o { head = head; held = held })
    shows_purse path prepared head held = record {
      holds = holds;
      first = range.first ∙ s.first;
      count = range.count ∙ s.count;
      end = end ∙ s.end;
      head = head;
      held = held;
      prepared = ap prepared_frame prepared ∙ s.prepared;
      unbridged = λ x is. s.unbridged x (sym prepared ∙ is);
      deep = let a = ap length path in let b = take_length o.depth v.path s.deep in omega arith;
      nodes = λ i x lt at. s.nodes i x lt (take_at o.depth i v.path x lt (ap (λ (xs : List Node). get_elem? xs i) (sym path) ∙ at));
    }

    -- and the purse
    pub shows_same : w.path ≡ take o.depth v.path → w.prepared ≡ v.prepared → w.purse ≡ v.purse → Shows f n l w o
    shows_same path prepared purse = shows_purse path prepared (ap (first_or None) purse ∙ s.head) (ap length purse ∙ s.held)

-- A later step of a call: its path is the seat's.
pub may_next : {f : Layout} {n l : ℕ} {w : View} {k : Kind} → Holds f n l w → May f n k w → (word : ℕ) → place_of f n k ≡ word → word < word_count f n →
    (puts : ℕ → ℕ) → ((found : ℕ) → put f k w found ≡ puts found) → MayStep f n l k w.path w word puts
may_next {w = w} holds may word place within puts puts_is = record {
  frames = holds.frames;
  levels = holds.levels;
  live = holds.live;
  goes_on = ([], sym (append-nil w.path));
  may = may;
  place = place;
  within = within;
  puts_is = puts_is;
}

-- a space has at most 2 ^ 52 pages
pub pages_few : (f : Layout) → IsLayout f → input_pages f ≤ 2 ^ 52
pages_few f good = let bits : f.input - f.granule ≤ 52 = (let a = good.pages_high in omega arith) in pow_mono bits

-- a table has at most 2 ^ 31 entries
pub entries_few : (f : Layout) → IsLayout f → 2 ^ f.index ≤ 2 ^ 31
entries_few f good = let bits : f.index ≤ 31 = (let a = good.index_is in let b = good.granule_high in omega arith) in pow_mono bits
