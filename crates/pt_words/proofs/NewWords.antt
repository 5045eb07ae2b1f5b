-- The words of a new space, and its purse.
use Rattle.std.proofs.Common.{◌≡◌, ℕ, zero, suc, ◌+◌, ◌*◌, ◌<◌, ◌≤◌, List, length, refl, ap, sym, ◌∙◌, subst, arith, get_or-set_same, get_or-set_other, length-set}
use Rattle.std.specs.Prelude.{None, Some, slice_index, slice_set}
use Rattle.pt_model.specs.Layout.{Layout}
use Rattle.pt_model.specs.Tables.{spine_position, starting_top}
use Rattle.pt_model.specs.Words.{entry_place, placed_word, tag, word_count}
use Rattle.pt_model.proofs.Places.{entry_within, tag_else}
use mathlib.Core.Logic.{dite}
use native.Mathlib.Decide.{ℕ_discrete}
use Rattle.pt_format.specs.Laws.{IsLayout}
use Rattle.pt_rule.specs.Tags.{held_word}
use Rattle.pt_rule.specs.Opening.{IsNew, counting}
use Rattle.pt_words.specs.Chains.{IsChain, IsKept, NamesNext}

-- a new purse has so many frames
pub counting_length : (from count : ℕ) → length (counting from count) ≡ count
counting_length from zero = refl
counting_length from (suc count) = ap suc (counting_length (from + 1) count)

-- one frame more names the next
pub names_more : (words : List ℕ) (frame : ℕ) → NamesNext words frame → 1 + frame < length words → NamesNext (slice_set words (1 + frame) (held_word (Some (frame + 1)))) (frame + 1)
names_more words frame h within g low up = dite (ℕ_discrete g frame)
    (λ e. subst (λ (k : ℕ). tag (slice_set words (1 + frame) (held_word (Some (frame + 1)))) k ≡ held_word (Some (k + 1))) (sym e) (get_or-set_same words (1 + frame) (held_word (Some (frame + 1))) 0 within))
    (λ ne. tag_else words frame (held_word (Some (frame + 1))) g ne ∙ h g low (omega arith))

-- one word more is another
pub kept_more : (old words : List ℕ) (frame word : ℕ) → IsKept old words (frame + 1) → 1 ≤ frame → IsKept old (slice_set words (1 + frame) word) (frame + 2)
kept_more old words frame word k some = record {
  long = length-set words (1 + frame) word ∙ k.long;
  before = λ at lt. get_or-set_other words (1 + frame) at word 0 (λ e. omega arith) ∙ k.before at lt;
  after = λ at le. get_or-set_other words (1 + frame) at word 0 (λ e. omega arith) ∙ k.after at (omega arith);
}

-- the last frame names none
pub names_none : (words : List ℕ) (hold : ℕ) → NamesNext words hold → 1 + hold < length words → IsChain (slice_set words (1 + hold) (held_word None)) hold
names_none words hold h within = record {
  held = λ g low up. tag_else words hold (held_word None) g (λ e. omega arith) ∙ h g low up;
  last = λ some. get_or-set_same words (1 + hold) (held_word None) 0 within;
}

module _ (f : Layout) (good : IsLayout f) (n l hold : ℕ) (zeros words : List ℕ) (room : hold < n) (low : f.start ≤ l) (high : l ≤ f.levels)
    (long : length zeros ≡ word_count f n) (zero_all : (at : ℕ) → at < word_count f n → slice_index zeros at ≡ 0) where
  abbrev top : ℕ
  top = starting_top l

  -- the words before the purse is chained
  abbrev pub begun : (root first : ℕ) → List ℕ
  begun root first = slice_set (slice_set zeros 0 root) 1 first

  module _ (root first : ℕ) (root_is : root ≡ top) (first_is : first ≡ placed_word (spine_position top)) (chain : IsChain words hold) (kept : IsKept (begun root first) words (hold + 2)) where
    long_begun : length (begun root first) ≡ word_count f n
    long_begun = length-set (slice_set zeros 0 root) 1 first ∙ length-set zeros 0 root ∙ long

    zero_at : (at : ℕ) → hold + 2 ≤ at → at < word_count f n → slice_index words at ≡ 0
    zero_at at le lt =
        kept.after at le ∙ get_or-set_other (slice_set zeros 0 root) 1 at first 0 (λ e. omega arith) ∙ get_or-set_other zeros 0 at root 0 (λ e. omega arith) ∙ zero_all at lt

    pub new_words : IsNew f n l hold words
    new_words = record {
      long = kept.long ∙ long_begun;
      root = kept.before 0 (omega arith) ∙ get_or-set_other (slice_set zeros 0 root) 1 0 first 0 (λ e. omega arith) ∙ get_or-set_same zeros 0 root 0 (omega arith)
          ∙ root_is ∙ (let e : top ≡ 0 * 8 + top = omega arith in e);
      top = kept.before 1 (omega arith) ∙ get_or-set_same (slice_set zeros 0 root) 1 first 0 (let e = length-set zeros 0 root in omega arith) ∙ first_is;
      held = chain.held;
      last = chain.last;
      free = λ frame le lt. zero_at (1 + frame) (omega arith) (omega arith);
      cleared = λ frame number lt small. zero_at (entry_place f n frame number) (omega arith) (entry_within f n frame number lt small);
    }
