-- A table at an entry of the root's table whose pages are all a lease's own: how it is linked, and how it is unlinked.
use Rattle.std.proofs.Common.{◌≡◌, ℕ, ◌+◌, ◌-◌, ◌*◌, ◌%◌, ◌^◌, ◌<◌, ◌≤◌, Bool, true, false, List, [], ◌∷◌, ◌++◌, length, inr, refl, ap, sym, ◌∙◌, subst, arith}
use Rattle.std.specs.Prelude.{◌==◌, Some, None, if◌then◌else◌, nat_le, nat_lt}
use Rattle.std.proofs.lemmas.Bool.{and_from, and_right, le-leb, lt-ltb, ne_eqb}
use Rattle.std.proofs.lemmas.Nat.{mod-mul-add, mul-le}
use Rattle.pt_model.specs.declared.position.Position.{Position}
use Rattle.pt_model.specs.Layout.{Layout, input_pages, pages_of_entry, pages_of_table}
use Rattle.pt_model.specs.Sets.{IsAmong}
use Rattle.pt_model.specs.Tables.{IsPosition, add_position, child_at, is_spine, spine_position, starting_top}
use Rattle.pt_model.proofs.Positions.{among_here, among_one}
use Rattle.pt_model.proofs.Quotients.{entry_is_table, entry_some}
use Rattle.pt_view.specs.declared.view.View.{View}
use Rattle.pt_view.specs.declared.view.Node.{Node}
use Rattle.pt_view.specs.declared.view.Piece.{Piece}
use Rattle.pt_view.specs.declared.holder.Won.{Won}
use Rattle.pt_view.specs.Calls.{IsEntryAt, IsInstalled, IsPlaced, IsUnlinked, MayInstall, MayUnlink, entry_end, entry_first, lowest, pieces_at, span_end, with_table}
use Rattle.pt_view.specs.Pieces.{IsOneOf}
use Rattle.pt_view.specs.Views.{SameRange}
use Rattle.pt_view.proofs.Stays.{range_on}
use Rattle.space_cases.specs.declared.racer.Goal.{Goal}
use Rattle.space_cases.specs.declared.racer.Goal.TheVariants.{Link, Raise, Unlink}
use Rattle.space_cases.specs.Owned.{HasTableAt, IsOwnEntry}
use Rattle.space_cases.specs.Racing.{IsRooted, IsTried, root_at}
use Rattle.space_cases.specs.Stages.{MayGoTo}
use Rattle.space_cases.proofs.Tries.{told}

-- What stays.

pub own_stays : (f : Layout) (level number : ℕ) (v w : View) → SameRange v w → IsOwnEntry f level number v → IsOwnEntry f level number w
own_stays f level number v w range own = record {
  high = own.high;
  some = own.some;
  within = own.within;
  low = subst (λ (n : ℕ). n ≤ number * pages_of_entry f level) (sym range.first) own.low;
  end = subst (λ (n : ℕ). number * pages_of_entry f level + pages_of_entry f level ≤ n) (λ i. sym range.first i + sym range.count i) own.end;
}

pub table_stays : (f : Layout) (level number : ℕ) (v w : View) → SameRange v w → w.tables ≡ v.tables → HasTableAt f level number v → HasTableAt f level number w
table_stays f level number v w range same has = record { own = own_stays f level number v w range has.own; tables = same ∙ has.tables }

pub goes_on : (f : Layout) (goal : Goal) (v w : View) → SameRange v w → w.tables ≡ v.tables → MayGoTo f goal v → MayGoTo f goal w
goes_on f (Link spare) v w range same may = tt
goes_on f Raise v w range same may = tt
goes_on f (Unlink level number) v w range same may = table_stays f level number v w range same may

-- The child at the entry.

-- it is off the spine
spine_off : (f : Layout) (levels level number : ℕ) → 0 < number → is_spine levels (child_at f (spine_position level) number) ≡ false
spine_off f levels level number some =
    let pages = pages_of_entry f level in
    let one : 0 < pages = entry_some f level in
    let more : 1 * pages ≤ number * pages = mul-le 1 pages number pages (omega arith) (omega arith) in
    and_right (nat_le (starting_top levels) (level - 1)) (0 + number * pages == 0) (ne_eqb (0 + number * pages) 0 (λ zero. omega arith))

pub own_position : (f : Layout) (level number base : ℕ) (v : View) → IsOwnEntry f level number v → level < f.levels → number * pages_of_entry f level ≡ base →
    v.first + v.count ≤ input_pages f → IsPosition f (record { level = level - 1; base = base })
own_position f level number base v own legal at within =
    let some : 0 < pages_of_entry f level = entry_some f level in
    let end = own.end in
    let high = own.high in
    let here : base ≡ number * pages_of_entry f level + 0 = omega arith in record {
      a_level = omega arith;
      a_page = omega arith;
      aligned = (λ i. here i % sym (entry_is_table f level high) i) ∙ mod-mul-add number (pages_of_entry f level) 0 some;
    }

-- Its link.

entry_at : (f : Layout) (v : View) (level number frame : ℕ) → v.path ≡ root_at frame level ∷ [] → number < 2 ^ f.index → IsEntryAt f v (spine_position level) number
entry_at f v level number frame path within = record { node = root_at frame level; is_lowest = ap lowest path; at = refl; within = within }

pub may_link_own : (f : Layout) (level number base : ℕ) (tells : Type 0) (v w : View) → IsRooted f level v → IsOwnEntry f level number v →
    number * pages_of_entry f level ≡ base → IsPlaced tells v (record { level = level - 1; base = base }) w → MayInstall f w number
may_link_own f level number base tells v w rooted own at placed =
    let p = spine_position level in
    let there = own_stays f level number v w placed.range own in
    let low = there.low in
    let end = there.end in
    let some : 0 < pages_of_entry f level = entry_some f level in
    let here : base ≡ 0 + number * pages_of_entry f level = omega arith in record {
      position = p;
      entry = entry_at f w level number rooted.root.frame (placed.path ∙ rooted.root.path) own.within;
      meets = and_from (nat_lt (entry_first f p number) (span_end w)) (nat_lt w.first (entry_end f p number))
          (lt-ltb (entry_first f p number) (span_end w) (omega arith)) (lt-ltb w.first (entry_end f p number) (omega arith));
      high = own.high;
      frame = placed.purse.0;
      prepared = placed.purse.2 ∙ (λ i. Some (record { frame = placed.purse.0; position = record { level = level - 1; base = here i }; bridge = None }));
      no_piece = ap (pieces_at f p number) (placed.book.pieces ∙ rooted.root.blank.pieces);
    }

pub tried_own : (f : Layout) (level number base : ℕ) (tells told_too : Type 0) (v w x : View) (won : Won) → IsRooted f level v → IsOwnEntry f level number v →
    IsPlaced tells v (record { level = level - 1; base = base }) w → IsInstalled f told_too number w won x → IsTried won 2 x
tried_own f level number base tells told_too v w x won rooted own placed installed =
    let p = spine_position level in
    let path = placed.path ∙ rooted.root.path in
    let went = installed.path p (entry_at f w level number rooted.root.frame path own.within) in record {
      blank = record {
        pieces = installed.pieces ∙ placed.book.pieces ∙ rooted.root.blank.pieces;
        end = installed.purse.end ∙ placed.end ∙ rooted.root.blank.end;
      };
      depth_is = ap length (went.1 ∙ ap (λ (xs : List Node). xs ++ record { frame = went.0; position = child_at f p number } ∷ []) path);
      told = told w x placed.purse.0 (record { level = level - 1; base = base }) won placed.purse.2 installed.prepares;
    }

pub linked_own : (f : Layout) (level number base : ℕ) (tells told_too : Type 0) (v w x : View) (won : Won) → IsRooted f level v → IsOwnEntry f level number v →
    v.tables ≡ [] → IsPlaced tells v (record { level = level - 1; base = base }) w → IsInstalled f told_too number w won x → HasTableAt f level number x
linked_own f level number base tells told_too v w x won rooted own none placed installed =
    let p = spine_position level in
    let child = child_at f p number in
    let path = placed.path ∙ rooted.root.path in record {
      own = own_stays f level number v x (range_on placed.range installed.range) own;
      tables = installed.tables p (entry_at f w level number rooted.root.frame path own.within)
          ∙ ap (λ (ts : List Position). with_table w.levels ts child) (placed.book.tables ∙ none)
          ∙ ap (λ (b : Bool). if b then [] else child ∷ []) (spine_off f w.levels level number own.some);
    }

-- Its unlink.

pub may_unlink : (f : Layout) (level number : ℕ) (v : View) → IsRooted f level v → HasTableAt f level number v → MayUnlink f v number
may_unlink f level number v rooted has =
    let p = spine_position level in
    let child = child_at f p number in
    let low = has.own.low in
    let end = has.own.end in record {
      position = p;
      entry = entry_at f v level number rooted.root.frame rooted.root.path has.own.within;
      bare = record {
        high = has.own.high;
        off_spine = spine_off f v.levels level number has.own.some;
        inside = and_from (nat_le v.first (entry_first f p number)) (nat_le (entry_end f p number) (span_end v))
            (le-leb v.first (entry_first f p number) (omega arith)) (le-leb (entry_end f p number) (span_end v) (omega arith));
        no_piece = λ x one. absurd (subst (λ (xs : List Piece). IsOneOf xs x) rooted.root.blank.pieces one);
        no_table = λ q among under. among_one q child (subst (λ (ts : List Position). IsAmong ts q) has.tables among);
      };
      linked = inr (subst (λ (ts : List Position). IsAmong ts child) (sym has.tables) (among_here child []));
      none = rooted.prepared;
    }

pub unlinked : (f : Layout) (level number : ℕ) (tells : Type 0) (v w : View) → IsRooted f level v → IsUnlinked f tells number v w → IsRooted f level w
unlinked f level number tells v w rooted gone = record {
  root = record {
    blank = record { pieces = gone.pieces ∙ rooted.root.blank.pieces; end = gone.end ∙ rooted.root.blank.end };
    frame = rooted.root.frame;
    path = gone.path ∙ rooted.root.path;
    legal = rooted.root.legal;
    reaches = subst (λ (top : ℕ). top ≤ level) (sym gone.top) rooted.root.reaches;
  };
  prepared = gone.prepared;
}
