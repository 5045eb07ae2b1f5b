-- A lease loads an entry.
use Rattle.std.proofs.Common.{◌≡◌, ◌≢◌, ℕ, ◌+◌, ◌-◌, ◌<◌, length, ap, sym, ◌∙◌, subst}
use Rattle.std.specs.Prelude.{slice_set}
use Rattle.pt_model.specs.declared.position.Position.{Position}
use Rattle.pt_model.specs.declared.block.Prot.{Prot}
use Rattle.pt_model.specs.Layout.{Layout}
use Rattle.pt_model.specs.Words.{frame_named}
use Rattle.pt_format.specs.Words.{IsLeaf, IsPointer, IsWritten}
use Rattle.pt_format.specs.Laws.{IsLayout, WordsDiffer}
use Rattle.pt_format.specs.Manual.{StepsAgree}
use Rattle.pt_view.specs.declared.view.View.{View}
use Rattle.pt_view.specs.declared.holder.Seen.{Seen}
use Rattle.pt_view.specs.declared.holder.Seen.TheVariants.{Empty, Leaf, Entered}
use Rattle.pt_view.specs.Calls.{Looked, MeetsEntry, Went, zero as looked_zero, leaf as looked_leaf}
use Rattle.pt_rule.specs.Kinds.{IsLowestIn, look}
use Rattle.pt_rule.specs.WholeView.{prepared_frame}
use Rattle.pt_rule.specs.Meets.{Always, Enters, IsWhole}
use Rattle.pt_space.specs.Standing.{Fields, Shows, Stepped, cut_to}
use Rattle.pt_space.proofs.Showing.{cut_is, says, shows_same}
use Rattle.pt_space.proofs.Nodes as nodes

empty_path : (f : Layout) (tells alone : Type 0) (v w : View) (p : Position) (number : ℕ) → Looked f tells alone v p number Empty w → w.path ≡ v.path
empty_path f tells alone v w p number (looked_zero u path known vacant told) = path

leaf_path : (f : Layout) (tells alone : Type 0) (v w : View) (p : Position) (number word : ℕ) → Looked f tells alone v p number (Leaf word) w → w.path ≡ v.path
leaf_path f tells alone v w p number word (looked_leaf u word' piece path known told member here once is under) = path

module _ {f : Layout} (good : IsLayout f) (differ : WordsDiffer f) (agree : StepsAgree f) {n l : ℕ} {v w : View} {o : Fields} (s : Shows f n l v o)
    {number frame found : ℕ} (may : MeetsEntry f (cut_to o.depth v) number) (low : IsLowestIn (cut_to o.depth v) frame) (t : Stepped f n l (look frame number) (cut_to o.depth v) found w) where
  abbrev cut : View
  cut = cut_to o.depth v

  abbrev Goes : Seen → View → Type 0
  Goes seen u = Went f Always (IsWhole f cut) number cut seen u

  said : Enters f may.position number cut found w
  said = says s good differ agree (low, may) t may.position may.entry

  level_is : may.position.level ≡ o.level
  level_is = nodes.level_is good s may.entry

  -- a word that isn't zero is one of the format's
  pub written : found ≢ 0 → IsWritten f o.level found
  written some = subst (λ (j : ℕ). IsWritten f j found) level_is (said.some some)

  -- it went into no table
  module _ {seen : Seen} (went : Goes seen w) (path : w.path ≡ cut.path) where
    stays : Shows f n l w o
    stays = shows_same s t.holds went.range went.purse.end path went.prepared went.purse.purse

    stays_now : Goes seen (cut_to o.depth w)
    stays_now = subst (Goes seen) (sym (cut_is o.depth v w path)) went

  module _ (z : found ≡ 0) where
    empty : w.path ≡ cut.path
    empty = empty_path f Always (IsWhole f cut) cut w may.position number ((said.zero z).looked may.position may.entry)

    pub shows_empty : Shows f n l w o
    shows_empty = stays (said.zero z) empty

    pub went_empty : Goes Empty (cut_to o.depth w)
    went_empty = stays_now (said.zero z) empty

  module _ (log2 : ℕ) (prot : Prot) (read : IsLeaf f o.level found log2 prot) where
    word : Goes (Leaf found) w
    word = said.leaf log2 prot (subst (λ (j : ℕ). IsLeaf f j found log2 prot) (sym level_is) read)

    leaf : w.path ≡ cut.path
    leaf = leaf_path f Always (IsWhole f cut) cut w may.position number found (word.looked may.position may.entry)

    pub shows_leaf : Shows f n l w o
    shows_leaf = stays word leaf

    pub went_leaf : Goes (Leaf found) (cut_to o.depth w)
    went_leaf = stays_now word leaf

  module _ (address : ℕ) (read : IsPointer f o.level found address) where
    pointer : IsPointer f may.position.level found address
    pointer = subst (λ (j : ℕ). IsPointer f j found address) (sym level_is) read

    pub high : 0 < o.level
    high = read.at_level.above

    pub shows_entered : length o.path ≡ 8 → (x : ℕ) → x ≡ frame_named f address → Shows f n l w (record o { path = slice_set o.path o.depth x; depth = o.depth + 1; level = o.level - 1 })
    shows_entered eight x is =
        let went = said.pointer address pointer in
        nodes.shows_deeper good s may.entry w _ went.1 t.holds went.0.range went.0.purse (ap prepared_frame went.0.prepared ∙ s.prepared) (λ y e. s.unbridged y (sym went.0.prepared ∙ e)) high eight x (sym is)

    pub went_entered : Goes Entered (cut_to (o.depth + 1) w)
    went_entered = let went = said.pointer address pointer in subst (Goes Entered) (sym (nodes.deeper_is good s may.entry w _ went.1)) went.0
