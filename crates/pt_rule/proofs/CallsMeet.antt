-- The law of calls, kind by kind.
use Rattle.std.proofs.Common.{◌≡◌, ◌≢◌, ℕ, ◌≤◌, List, [], ◌∷◌, ◌++◌, length, length-append, refl, ap, sym, ◌∙◌, subst, arith}
use Rattle.std.specs.Prelude.{Option}
use Rattle.pt_model.specs.declared.position.Position.{Position}
use Rattle.pt_model.specs.Layout.{Layout}
use Rattle.pt_model.specs.Tables.{child_at}
use Rattle.pt_model.specs.Words.{frame_address, frame_limit, frame_named}
use Rattle.pt_format.specs.Words.{IsPointer, IsWritten, MayBeLeaf, a_leaf, a_pointer}
use Rattle.pt_format.specs.Laws.{IsLayout, WordsDiffer}
use Rattle.pt_format.specs.Manual.{StepsAgree}
use Rattle.pt_view.specs.declared.view.View.{View}
use Rattle.pt_view.specs.declared.view.Prepared.{Prepared}
use Rattle.pt_view.specs.declared.holder.Won.TheVariants.{Yes, Met}
use Rattle.pt_view.specs.Pieces.{level_of}
use Rattle.pt_view.specs.Calls.{InstallFinds, IsEntryAt, IsFreed, IsGrown, IsUnlinked, MayInstall, MeetsEntry}
use Rattle.pt_rule.specs.Kinds.{EntryTells, InstallTells, May, rest_of, zero as tells_zero, own, pointer, after, frame_of, installed, met, take, place, unplace, free, mark, look_tag, load_root, look, install, write, clear, unlink, bridge, unbridge, raise}
use Rattle.pt_rule.specs.Kinds.{MayCut}
use Rattle.pt_rule.specs.Meets.{Enters, GoesInto, GrowMeets, Installs, ReleaseMeets, Releases, StepsMeet, Always, IsWhole, UnlinkMeets, in_child, out_of_child}
use Rattle.pt_view.proofs.Freed.{freed_none, freed_on, released}
use Rattle.pt_view.proofs.Members.{in_here}
use Rattle.pt_view.specs.Lists.{IsIn}
use Rattle.pt_rule.proofs.PieceFacts.{may_be_leaf}
use Rattle.pt_rule.proofs.TreeFacts.{frame_back, is_address, level_of_piece}
use Rattle.pt_rule.proofs.LookKept.{entry_position}
use Rattle.pt_rule.proofs.CallsRooted.{rooted}
use Rattle.pt_rule.proofs.CallsTags.{freed_is, placed_is, taken_is, unplaced_is}
use Rattle.pt_rule.proofs.CallsWent.{went_empty, went_entered, went_leaf}
use Rattle.pt_rule.proofs.CallsInstalled.{installed_no, installed_yes, won_view}
use Rattle.pt_rule.proofs.CallsWritten.{written_is}
use Rattle.pt_rule.proofs.CallsCleared.{cleared_is}
use Rattle.pt_rule.proofs.CallsUnlinked as calls
use Rattle.pt_rule.proofs.CallsGrown as growth

module _ (f : Layout) (good : IsLayout f) (d : WordsDiffer f) (a : StepsAgree f) (n : ℕ) (few : n ≤ frame_limit f) (v : View) where
  -- A load of an entry.
  module _ (number found : ℕ) (may : MeetsEntry f v number) (told : (p : Position) → IsEntryAt f v p number → EntryTells f n v p number found) where
    abbrev spot : Position
    spot = may.entry.node.position

    here : IsEntryAt f v spot number
    here = record { node = may.entry.node; is_lowest = may.entry.is_lowest; at = refl; within = may.entry.within }

    -- a word that isn't zero is one of the format's
    some : found ≢ 0 → IsWritten f spot.level found
    some nonzero = elim (told spot here) [
      | tells_zero none vacant ↦ absurd (nonzero none)
      | own x member legal at_it alone_there is under ↦
          let same : spot.level ≡ level_of f x = level_of_piece f spot number x at_it in
          a_leaf x.block.log2 x.block.prot (record {
            out = x.block.out;
            part = x.part;
            may = subst (λ (k : ℕ). MayBeLeaf f k x.block.log2 x.block.out x.block.prot x.part) (sym same) (may_be_leaf f good v x legal);
            word_is = is ∙ ap (λ (k : ℕ). f.leaf k x.block.log2 x.block.out x.block.prot x.part) (sym same);
          })
      | pointer child below table_level is owned none ↦
          a_pointer (frame_address f child) (record { at_level = table_level; a_frame = is_address f child (omega arith); word_is = is })
    ]

    enters_here : Enters f spot number v found (met f number found v)
    enters_here = record {
      zero = went_empty f n good d a few Always (IsWhole f v) v (λ e. e) number found may told;
      some = some;
      leaf = λ log2 prot read. (went_leaf f n good d a few Always (IsWhole f v) v (λ e. e) number found may told log2 prot read).1;
      pointer = λ address read.
          let w = went_entered f n good d a few Always (IsWhole f v) v (λ e. e) number found may told address read in (
            w.4,
            ap (λ (u : View). u.path) w.3 ∙ ap (λ (g : ℕ). v.path ++ record { frame = g; position = child_at f spot number } ∷ []) (sym w.2),
          );
    }

    enters : (p : Position) → IsEntryAt f v p number → Enters f p number v found (met f number found v)
    enters p entry = subst (λ (q : Position). Enters f q number v found (met f number found v))
        (sym (entry_position f v may.entry.node number may.entry.is_lowest p entry)) enters_here

  -- An exchange of an entry.
  module _ (number found : ℕ) (may : MayInstall f v number) (told : (p : Position) → IsEntryAt f v p number → InstallTells f n v p number found) where
    abbrev at : Position
    at = may.entry.node.position

    there : IsEntryAt f v at number
    there = record { node = may.entry.node; is_lowest = may.entry.is_lowest; at = refl; within = may.entry.within }

    vacant : found ≡ 0 → InstallFinds f (IsWhole f v) number v Yes
    vacant z p entry = elim (told p entry) [
      | tells_zero none bare off ↦ (bare, off)
      | pointer frame within level is owned ↦ absurd (d.pointer_some p.level (frame_address f frame) level (is_address f frame (omega arith)) (sym is ∙ z))
    ]

    known : found ≢ 0 → InstallFinds f (IsWhole f v) number v Met
    known nonzero one p entry = elim (told p entry) [
      | tells_zero none bare off ↦ absurd (nonzero none)
      | pointer frame within level is owned ↦ owned one
    ]

    won_path : found ≡ 0 → GoesInto f at number (frame_of v.prepared) v (installed f number found v)
    won_path z =
        ap (λ (u : View). u.path) (won_view f Always v number found may z)
        ∙ ap (λ (o : Option Prepared). v.path ++ record { frame = frame_of o; position = child_at f at number } ∷ []) (sym may.prepared)

    module _ (nonzero : found ≢ 0) where
      met_is : (child : ℕ) × IsPointer f at.level found (frame_address f child) × GoesInto f at number child v (installed f number found v)
      met_is = elim (told at there) [
        | tells_zero none bare off ↦ absurd (nonzero none)
        | pointer frame within level is owned ↦
            let m = installed_no f Always v number found may n d a few told nonzero in (
              m.0,
              record { at_level = level; a_frame = is_address f m.0 (let lt = m.1 in omega arith); word_is = m.2 },
              ap (λ (u : View). u.path) m.3,
            )
      ]

      met_path : (address : ℕ) → IsPointer f at.level found address → GoesInto f at number (frame_named f address) v (installed f number found v)
      met_path address read =
          let m = met_is in
          let named : frame_named f address ≡ m.0 =
          ap (frame_named f) (d.one_address at.level address (frame_address f m.0) read.at_level read.a_frame m.1.a_frame (sym read.word_is ∙ m.1.word_is)) ∙ frame_back f m.0 in
          m.2 ∙ ap (λ (g : ℕ). v.path ++ record { frame = g; position = child_at f at number } ∷ []) (sym named)

    installs_here : Installs f at number v found (installed f number found v)
    installs_here = record {
      won = λ z. (installed_yes f Always v number found may z, won_path z);
      vacant = vacant;
      met = λ nonzero. (installed_no f Always v number found may n d a few told nonzero).4;
      known = known;
      some = λ nonzero. (frame_address f (met_is nonzero).0, (met_is nonzero).1);
      pointer = λ address read. met_path (λ z. d.pointer_some at.level address read.at_level read.a_frame (sym read.word_is ∙ z)) address read;
    }

    installs : (p : Position) → IsEntryAt f v p number → Installs f p number v found (installed f number found v)
    installs p entry = subst (λ (q : Position). Installs f q number v found (installed f number found v))
        (sym (entry_position f v may.entry.node number may.entry.is_lowest p entry)) installs_here

pub steps_meet : StepsMeet
steps_meet f good d a n few v (take frame) found may told = taken_is Always v f frame found
steps_meet f good d a n few v (place frame p) found may told = placed_is Always v f frame found p may.0.0 may.0.1
steps_meet f good d a n few v (unplace frame) found may told = unplaced_is Always v f frame found may.0 may.1
steps_meet f good d a n few v (free frame) found may told = freed_is Always v f frame found may.0 may.1
steps_meet f good d a n few v (mark frame end) found may told = tt
steps_meet f good d a n few v (look_tag frame) found may told = tt
steps_meet f good d a n few v load_root found may told = rooted f n Always (IsWhole f v) v found (λ e. e) told
steps_meet f good d a n few v (look frame number) found may told = enters f good d a n few v number found may.1 told
steps_meet f good d a n few v (install frame number) found may told = installs f good d a n few v number found may.1 told
steps_meet f good d a n few v (write frame number x) found may told = written_is f good d a v number Always x may.1
steps_meet f good d a n few v (clear frame number x) found may told = cleared_is f v number found x may.1 told Always
steps_meet f good d a n few v (unlink frame number) found may told = tt
steps_meet f good d a n few v (bridge frame old level) found may told = tt
steps_meet f good d a n few v (unbridge frame level) found may told = tt
steps_meet f good d a n few v (raise frame old level) found may told = tt

pub unlink_meets : UnlinkMeets
unlink_meets f good d a n few v frame number down may = (
  (down, calls.meets_entry f n good d a few v number may),
  λ found told.
      let child : ℕ = calls.frame_found f n good d a few v number may found told in
      let inside : View = calls.inside f n good d a few v number may child in
      let goes : in_child f frame number found v ≡ inside = calls.goes_inside f n good d a few v number may found told in
      let cut : View = calls.cut f n good d a few v number may child in
      let leaves : (zeroed : ℕ) → out_of_child f frame number found zeroed v ≡ cut =
      (λ zeroed. ap (λ (u : View). after f (unlink frame number) zeroed u) goes ∙ calls.cut_is f n good d a few v number may child frame zeroed) in
      record {
        child = child;
        pointer = λ p entry. calls.is_pointer f n good d a few v number may found told p entry;
        may_unlink = subst (λ (u : View). MayCut f u frame number) (sym goes) (calls.may_cut f n good d a few v number may child frame down);
        may_unplace = λ zeroed. subst (λ (u : View). May f n (unplace child) u) (sym (leaves zeroed)) (calls.may_unplace f n good d a few v number may child);
        unlinked = λ zeroed last. subst (λ (u : View). IsUnlinked f Always number v (after f (unplace child) last u)) (sym (leaves zeroed))
            (calls.unlinked_is f n good d a few v number may child Always last);
      },
)

pub grow_meets : GrowMeets
grow_meets f n v may = (
  growth.may_bridge f n v may,
  λ old. record {
    may_raise = growth.may_raise f n v may;
    won = λ found told e. subst (IsGrown f Always (IsWhole f v) v Yes) (sym (growth.topped_is f n v may found e)) (growth.grown f n v may Always (IsWhole f v) (λ e. e) found told e);
    may_unbridge = λ found ne. growth.may_unbridge f n v may found ne;
    lost = λ found last told ne. subst (IsGrown f Always (IsWhole f v) v Met) (sym (growth.outgrown_is f n v may found last ne)) (growth.not_grown f n v may Always (IsWhole f v) (λ e. e) found told ne);
  },
)

-- some frames of the purse are freed, and these are next
freed_rest : (f : Layout) (n : ℕ) (old : View) (gone frames : List ℕ) (v : View) → IsFreed Always gone old v → v.purse ≡ frames → Releases f n old frames v
freed_rest f n old gone [] v freed is = released freed (let e = ap length freed.purse in let none = ap length is in let l = length-append gone v.purse in omega arith)
freed_rest f n old gone (frame ∷ frames) v freed is = (
  subst (λ (xs : List ℕ). IsIn xs frame) (sym is) (in_here frame frames),
  (frames, is),
  λ found. freed_rest f n old (gone ++ frame ∷ []) frames (after f (free frame) found v) (freed_on freed (freed_is Always v f frame found frames is)) (ap rest_of is),
)

pub release_meets : ReleaseMeets
release_meets f n v = freed_rest f n v [] v.purse v (freed_none v) refl
