-- What each load on the way down to a page tells of the pieces that have the page.
use Rattle.std.proofs.Common.{◌≡◌, ◌≢◌, ℕ, ◌-◌, ◌<◌, ◌≤◌, List, inl, inr, true, refl, ap, sym, ◌∙◌, subst, arith, ⊎_elim}
use Rattle.std.specs.Prelude.{IsTrue, Bool, MatchOption, None, Option, Some, ◌==◌, nat_le, if◌then◌else◌}
use Rattle.std.proofs.lemmas.Bool.{and_parts, eqb-true, leb-true, false≢true, ne_eqb}
use mathlib.Core.Logic.{dite}
use native.Mathlib.Decide.{ℕ_discrete}
use Rattle.pt_model.specs.declared.position.Position.{Position}
use Rattle.pt_model.specs.Layout.{Layout, end_of, pages_of_table}
use Rattle.pt_model.specs.Sets.{IsAmong}
use Rattle.pt_model.specs.Tables.{is_spine, position_over, spine_position, starting_top}
use Rattle.pt_model.proofs.Positions.{same_position}
use Rattle.pt_model.proofs.Quotients.{root_over}
use Rattle.pt_model.proofs.Tops.{table_mono}
use Rattle.pt_format.specs.Laws.{IsLayout, WordsDiffer}
use Rattle.pt_view.specs.declared.view.View.{View}
use Rattle.pt_view.specs.declared.view.Piece.{Piece}
use Rattle.pt_view.specs.declared.holder.Seen.{Seen}
use Rattle.pt_view.specs.declared.holder.Seen.TheVariants.{Empty, Leaf, Entered}
use Rattle.pt_view.specs.Pieces.{IsLegalPiece, IsOneOf, IsUnderPiece, entry_number, level_of, table_of}
use Rattle.pt_view.specs.Views.{SameBook, SameRange}
use Rattle.pt_view.specs.Calls.{HasNoTableUnder, IsVacant, is_under, lowest, pieces_at}
use Rattle.pt_view.proofs.Pieces.{counted, has_page_here, page_in_block, stands_here, table_under, word_some}
use Rattle.pt_view.proofs.Loads.{IsLoad, load_leaf, load_none, load_table, table_over}
use Rattle.pt_walk.specs.Walks.{HasNone, HasNowhere, IsFound, IsAsked, IsGoing, IsStarting, IsOwn, OwnsAll, leaf_in}

-- What views of one book have in common.

pub owns_on : (f : Layout) {v w : View} → SameRange v w → SameBook v w → OwnsAll f v → OwnsAll f w
owns_on f {v} {w} r b owns = λ x member.
    let o : IsOwn f v x = owns x (subst (λ (xs : List Piece). IsOneOf xs x) b.pieces member) in
    record {
      a_part = o.a_part;
      legal = o.legal;
      stated = o.stated;
      under_top = subst (λ (t : ℕ). end_of x.block ≤ pages_of_table f t) (sym b.top) o.under_top;
      low = subst (λ (t : ℕ). level_of f x ≤ t) (sym b.top) o.low;
      in_table = ⊎_elim (λ a. inl (subst (λ (ts : List Position). IsAmong ts (table_of f x)) (sym b.tables) a))
          (λ s. inr (subst (λ (k : ℕ). IsTrue (is_spine k (table_of f x))) (sym r.levels) s)) o.in_table;
    }

pub asked_on : {f : Layout} {v w : View} {page : ℕ} → SameRange v w → SameBook v w → IsAsked f v page → IsAsked f w page
asked_on {f} r b a = record {
  a_page = a.a_page;
  in_span = (let e = r.first in let low = a.in_span.0 in omega arith, let e = r.first in let k = r.count in let high = a.in_span.1 in omega arith);
  owns = owns_on f r b a.owns;
}

pub found_on : {f : Layout} {v w : View} {page level word : ℕ} → SameBook v w → IsFound f w page level word → IsFound f v page level word
found_on b h = record {
  piece = h.piece;
  own = subst (λ (xs : List Piece). IsOneOf xs h.piece) b.pieces h.own;
  has_page = h.has_page;
  level_is = h.level_is;
  word_is = h.word_is;
}

pub nowhere_on : (f : Layout) {v w : View} (page : ℕ) → SameBook v w → HasNowhere f w page → HasNowhere f v page
nowhere_on f page b h = λ x member has. h x (subst (λ (xs : List Piece). IsOneOf xs x) (sym b.pieces) member) has

pub match_on : {A : Type 0} (o : Option A) (P Q : Type 0) (R S : A → Type 0) → (P → Q) → ((x : A) → R x → S x) → MatchOption o P R → MatchOption o Q S
match_on None P Q R S a b h = a h
match_on (Some x) P Q R S a b h = b x h

-- a word that isn't zero is a leaf, and zero is none
pub leaf_is : (word : ℕ) (P : Type 0) (R : ℕ → Type 0) → word ≢ 0 → R word → MatchOption (leaf_in word) P R
leaf_is word P R some h = subst (λ (b : Bool). MatchOption (if b then None else Some word) P R) (sym (ne_eqb word 0 some)) h

pub own_piece : {f : Layout} {v : View} {x : Piece} → IsOwn f v x → IsLegalPiece f x
own_piece o = record { a_part = o.a_part; legal = o.legal; stated = o.stated }

-- The entry over a page.
module _ {f : Layout} (good : IsLayout f) {v : View} {page level : ℕ} (owns : OwnsAll f v) where
  -- a piece that has the page isn't in the table where none stands at the entry
  none_here : (x : Piece) → IsOneOf v.pieces x → IsUnderPiece f x page → pieces_at f (position_over f page level) (entry_number f level page) v.pieces ≡ 0 → level_of f x ≡ level → ⊥
  none_here x member has none same =
      let c = counted f (position_over f page level) (entry_number f level page) v.pieces x member (stands_here good (own_piece (owns x member)) has level same) in omega arith

  none_under : (x : Piece) → IsOneOf v.pieces x → IsUnderPiece f x page → HasNoTableUnder f v (position_over f page level) (entry_number f level page) → level_of f x < level → ⊥
  none_under x member has none low =
      let o : IsOwn f v x = owns x member in
      let under : is_under f (position_over f page level) (entry_number f level page) (table_of f x) ≡ true = table_under good (own_piece o) has level low in
      ⊎_elim
      (λ (among : IsAmong v.tables (table_of f x)). false≢true (sym (none.no_table (table_of f x) among) ∙ under))
      (λ (spine : IsTrue (is_spine v.levels (table_of f x))).
      let b : (nat_le (starting_top v.levels) (level_of f x) ≡ true) × (((table_of f x).base == 0) ≡ true) = and_parts (nat_le (starting_top v.levels) (level_of f x)) _ spine in
      let is : table_of f x ≡ spine_position (level_of f x) = same_position (table_of f x) (spine_position (level_of f x)) refl (eqb-true (table_of f x).base 0 b.1) in
      false≢true (sym (none.no_spine (level_of f x) (leb-true (starting_top v.levels) (level_of f x) b.0) o.low)
      ∙ ap (λ (q : Position). is_under f (position_over f page level) (entry_number f level page) q) (sym is) ∙ under))
      o.in_table

  -- nothing stands there
  pub vacant_none : IsVacant f v (position_over f page level) (entry_number f level page) → HasNone f v page level
  vacant_none vacant = λ x member has low.
      dite (ℕ_discrete (level_of f x) level) (λ same. none_here x member has vacant.no_piece same) (λ ne. none_under x member has (record { no_table = vacant.no_table; none_known = vacant.none_known; no_spine = vacant.no_spine }) (omega arith))

-- Its load.
module _ {f : Layout} (good : IsLayout f) {tells alone : Type 0} {v : View} {page level : ℕ} {seen : Seen} {w : View} (owns : OwnsAll f v) (l : IsLoad f tells alone v page level seen w) where
  pub empty_none : seen ≡ Empty → HasNone f v page level
  empty_none e = vacant_none good owns (load_none l e).vacant

  -- no piece that has the page stands below a leaf
  pub leaf_none : {word : ℕ} → seen ≡ Leaf word → (x : Piece) → IsOneOf v.pieces x → IsUnderPiece f x page → level_of f x < level → ⊥
  leaf_none e x member has low = none_under good owns x member has (load_leaf l e).none_under low

  pub leaf_found : {word : ℕ} → seen ≡ Leaf word → IsFound f v page level word
  leaf_found e =
      let h = load_leaf l e in
      let here : (level ≡ level_of f h.piece) × IsUnderPiece f h.piece page = has_page_here good (own_piece (owns h.piece h.member)) page level h.here in
      record { piece = h.piece; own = h.member; has_page = here.1; level_is = here.0; word_is = h.word_is }

  -- a leaf's word isn't zero
  pub leaf_nonzero : WordsDiffer f → {word : ℕ} → seen ≡ Leaf word → word ≢ 0
  leaf_nonzero differ e none = let h = load_leaf l e in word_some good (own_piece (owns h.piece h.member)) differ (sym h.word_is ∙ none)

  -- no piece that has the page stands in the table itself
  pub entered_none : seen ≡ Entered → (x : Piece) → IsOneOf v.pieces x → IsUnderPiece f x page → level_of f x ≡ level → ⊥
  entered_none e x member has same = none_here good owns x member has (load_table l e).none same

  pub none_below : seen ≡ Entered → HasNone f w page (level - 1) → HasNone f v page level
  none_below e h = λ x member has low.
      dite (ℕ_discrete (level_of f x) level) (entered_none e x member has)
      (λ ne. h x (subst (λ (xs : List Piece). IsOneOf xs x) (sym l.went.book.pieces) member) has (omega arith))

pub entered_going : {f : Layout} {tells alone : Type 0} {v : View} {page level : ℕ} {seen : Seen} {w : View} → IsLoad f tells alone v page level seen w → seen ≡ Entered →
    IsGoing f v page level → IsGoing f w page (level - 1)
entered_going l e go = record {
  below = let b = go.below in omega arith;
  over = table_over l e;
  asked = asked_on l.went.range l.went.book go.asked;
}

-- The way begins at the root.
module _ {f : Layout} (good : IsLayout f) {v : View} {page level : ℕ} (start : IsStarting f v page level) where
  pub going_root : page < pages_of_table f level → IsGoing f v page level
  going_root under = record {
    below = start.below;
    over = record {
      frame = start.root.1;
      is = ap lowest start.root.2 ∙ ap (λ (q : Position). Some (record { frame = start.root.1; position = q })) (root_over f page level under);
    };
    asked = start.asked;
  }

  pub none_past : ¬ (page < pages_of_table f level) → HasNowhere f v page
  none_past past = λ x member has.
      let o : IsOwn f v x = start.asked.owns x member in
      let under = o.under_top in
      let inside = page_in_block good (own_piece o) has in
      let wide = table_mono f v.top level start.root.0 in
      past (omega arith)

  pub none_all : HasNone f v page level → HasNowhere f v page
  none_all none = λ x member has. none x member has (let o = (start.asked.owns x member).low in let top = start.root.0 in omega arith)
