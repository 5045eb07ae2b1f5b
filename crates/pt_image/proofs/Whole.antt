-- From the walk of the root's table to the whole image: it is good, or it has the fault and none before it.
use Rattle.std.proofs.Common.{◌≡◌, ◌≢◌, inl, ⊎_elim, ℕ, ◌+◌, ◌^◌, ◌<◌, ◌≤◌, List, [], sym, ap, ◌∙◌, subst, arith}
use mathlib.Core.Logic.{dite}
use native.Mathlib.Decide.{ℕ_discrete, dec_le}
use Rattle.pt_model.specs.Layout.{Layout}
use Rattle.pt_model.specs.Tables.{spine_position, starting_top}
use Rattle.pt_model.specs.Words.{placed_word, tag}
use Rattle.pt_image.specs.Checks.{FindsGood, IsRootTable, LeavesGood, NamesFirstUsed, RefusesFor, Sees, position_of, visits_of}
use Rattle.pt_image.specs.Drafts.{IsBegun}
use Rattle.pt_image.specs.Order.{Visit, visits}
use Rattle.pt_image.specs.Faults.{AreGood, HasRoot, IsFirstStray, IsGoodImage, IsReached, IsRefusedFor, IsStray, NamesFirstBad, all_visits}
use Rattle.pt_image.specs.Visits.{HasNoStray}
use Rattle.pt_image.specs.declared.fault.ImageFault.{ImageFault}
use Rattle.pt_image.specs.declared.fault.ImageFault.TheVariants.{Truncated, Header, Root, Entry, Stray}
use Rattle.pt_image.specs.declared.header as header
use Rattle.pt_image.specs.declared.table.Table.{Table}
use Rattle.pt_image.proofs.OneBlock.{ends_begin}

module _ (f : Layout) (h : header.Header.Header) (image : List ℕ) (t : Table) (root : IsRootTable f h image t) where
  abbrev all : List Visit
  all = all_visits f h.frames h.levels image

  has_root : HasRoot f h.frames h.levels image
  has_root = record {
    a_frame = subst (λ (k : ℕ). k < h.frames) (sym root.frame_is) root.a_frame;
    low = subst (λ (k : ℕ). h.levels ≤ k + 1) (sym root.level_is) root.low;
    high = subst (λ (k : ℕ). k < f.levels) (sym root.level_is) root.high;
  }

  all_is : visits_of f h image t 0 (2 ^ f.index) ≡ all
  all_is i = visits f h.frames image (sym root.level_is i) (sym root.frame_is i) (root.base_is i) 0 (2 ^ f.index)

  found : (x : ImageFault) → NamesFirstBad f h.frames h.levels image [] all x → IsRefusedFor f h.frames h.levels image x
  found (Truncated have want) r = absurd r
  found (Header offset) r = absurd r
  found Root r = absurd r
  found (Entry level base index e) r = (has_root, r)
  found (Stray frame index) r = absurd r

  module _ (words : List ℕ) (begun : IsBegun f h.frames (t.level + 1) t.frame words) where
    sees : Sees f h image words [] t 0
    sees = record {
      tagged = λ frame lt some. dite (ℕ_discrete frame t.frame) (λ e. inl (root.frame_is ∙ sym e)) (λ ne. absurd (some (begun.free frame ne lt)));
      reached = λ frame lt r e. ⊎_elim
          (λ at. let z : placed_word (spine_position (starting_top (t.level + 1))) ≡ 0 = sym begun.top ∙ ap (tag words) (sym root.frame_is ∙ at) ∙ e in omega arith)
          (λ x. x) r;
      ends = ends_begin f image t.frame (position_of t);
    }

    -- the first bad entry of the root's table is that of the image
    pub refused_entry : (x : ImageFault) → RefusesFor f h image words t 0 (2 ^ f.index) x → IsRefusedFor f h.frames h.levels image x
    refused_entry x r = found x (subst (λ (vs : List Visit). NamesFirstBad f h.frames h.levels image [] vs x) all_is (r [] sees))

    module _ (words' : List ℕ) (leaves : LeavesGood f h image words words' t 0 (2 ^ f.index)) where
      finds : FindsGood f h image words' [] t 0 (2 ^ f.index)
      finds = leaves [] sees

      entries : AreGood f h.frames h.levels image [] all
      entries = subst (AreGood f h.frames h.levels image []) all_is finds.good

      tagged : (frame : ℕ) → frame < h.frames → tag words' frame ≢ 0 → IsReached f h.frames h.levels image all frame
      tagged frame lt some = subst (λ (vs : List Visit). IsReached f h.frames h.levels image vs frame) all_is (finds.sees.tagged frame lt some)

      free : (frame : ℕ) → frame < h.frames → tag words' frame ≡ 0 → ¬ IsReached f h.frames h.levels image all frame
      free frame lt none r = finds.sees.reached frame lt (subst (λ (vs : List Visit). IsReached f h.frames h.levels image vs frame) (sym all_is) r) none

      untagged : (frame index : ℕ) → IsStray f h.frames h.levels image frame index → tag words' frame ≡ 0
      untagged frame index x = dite (ℕ_discrete (tag words' frame) 0) (λ e. e) (λ ne. absurd (x.free (tagged frame x.a_frame ne)))

      pub good_image : HasNoStray f h.frames image words' → IsGoodImage f h.frames h.levels image
      good_image none = record {
        root = has_root;
        entries = entries;
        no_stray = λ frame index x. x.some (none frame index x.a_frame x.an_entry (untagged frame index x));
      }

      first_stray : (frame index : ℕ) → NamesFirstUsed f h.frames image words' (Stray frame index) → IsFirstStray f h.frames h.levels image frame index
      first_stray frame index x = record {
        here = record { a_frame = x.0; an_entry = x.2.below; free = free frame x.0 x.1; some = x.2.some };
        frame_least = λ g i y. dite (dec_le frame g) (λ le. le) (λ less. absurd (y.some (x.3 g i (omega arith) y.an_entry (untagged g i y))));
        index_least = λ i y. dite (dec_le index i) (λ le. le) (λ less. absurd (y.some (x.2.least i (omega arith))));
      }

      pub refused_stray : (x : ImageFault) → NamesFirstUsed f h.frames image words' x → IsRefusedFor f h.frames h.levels image x
      refused_stray (Truncated have want) r = absurd r
      refused_stray (Header offset) r = absurd r
      refused_stray Root r = absurd r
      refused_stray (Entry level base index e) r = absurd r
      refused_stray (Stray frame index) r = (has_root, entries, first_stray frame index r)
