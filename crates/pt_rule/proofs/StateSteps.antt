-- The kinds of step at small states: one holder maps a page of a new space, and tries and frees frames.
use Rattle.std.proofs.Common.{◌≡◌, ℕ, false, List, [], ◌∷◌, sym, refl, subst, ⊎_elim, arith, Some, None}
use Rattle.std.specs.Prelude.{slice_index, slice_set}
use Rattle.pt_model.specs.declared.position.Position.{Position}
use Rattle.pt_view.specs.declared.view.View.{View}
use Rattle.pt_view.specs.declared.view.Absence.TheVariants.{Zero, Top}
use Rattle.pt_view.specs.declared.view.Change.TheVariants.{Written}
use Rattle.pt_model.specs.Sets.{IsAmong}
use Rattle.pt_view.specs.Calls.{MayPut, MayInstall, is_under}
use Rattle.pt_rule.specs.Kinds.{Kind, take, place, unplace, free, mark, load_root, look, install, write, place_of, put, after}
use Rattle.pt_model.proofs.Positions.{among_cases}
use Rattle.pt_rule.proofs.StateMapped.{small, at, zeros, mapped_page, mapped_words, mapped_view, new_view, new_words}

abbrev pub State : Type 0
State = List ℕ × View

-- the state after a step, and after some
abbrev pub step : Kind → State → State
step k s =
    let here = place_of small 4 k in
    let found = slice_index s.0 here in
    (slice_set s.0 here (put small k s.1 found), after small k found s.1)

abbrev pub steps : List Kind → State → State
steps [] s = s
steps (k ∷ ks) s = steps ks (step k s)

-- the way down to the table of page 5, which is linked on the way
abbrev pub way_down : List Kind
way_down = load_root ∷ look 0 1 ∷ place 1 (at 0 4) ∷ install 0 1 ∷ look 1 1 ∷ []

abbrev pub down : State
down = steps way_down (new_words, new_view)

abbrev pub mapped : State
mapped = step (write 1 1 mapped_page) down

pub mapped_words_are : mapped.0 ≡ 1 ∷ 6 ∷ 130 ∷ 17 ∷ 1 ∷ (0 ∷ 4294971395 ∷ 0 ∷ 0 ∷ (0 ∷ 36865 ∷ 0 ∷ 0 ∷ zeros 8))
mapped_words_are = refl

pub mapped_view_is : mapped.1 ≡ record new_view {
  pieces = mapped_page ∷ [];
  tables = at 0 4 ∷ [];
  purse = 2 ∷ 3 ∷ [];
  path = record { frame = 0; position = at 1 0 } ∷ record { frame = 1; position = at 0 4 } ∷ [];
  known = at 0 4 ∷ at 1 0 ∷ [];
  absent = Top 1 ∷ Zero (at 0 4) ∷ [];
  stores = Written mapped_page ∷ [];
}
mapped_view_is = refl

-- its steps may be made
pub may_install : MayInstall small (steps (load_root ∷ look 0 1 ∷ place 1 (at 0 4) ∷ []) (new_words, new_view)).1 1
may_install = record {
  position = at 1 0;
  entry = record { node = record { frame = 0; position = at 1 0 }; is_lowest = refl; at = refl; within = omega arith };
  meets = refl;
  high = omega arith;
  frame = 1;
  prepared = refl;
  no_piece = refl;
}

pub may_write : MayPut small down.1 1 mapped_page
may_write = record {
  position = at 0 4;
  entry = record { node = record { frame = 1; position = at 0 4 }; is_lowest = refl; at = refl; within = omega arith };
  inside = refl;
  no_piece = refl;
  no_table = λ q a. ⊎_elim (λ (e : q ≡ at 0 4). subst (λ (z : Position). is_under small (at 0 4) 1 z ≡ false) (sym e) refl) (λ (none : IsAmong [] q). absurd (omega arith)) (among_cases q (at 0 4) [] a);
  here = refl;
  a_part = omega arith;
  legal = record { a_size = refl; first_aligned = refl; out_aligned = refl; in_input = omega arith; in_output = omega arith };
  stated = refl;
  in_span = refl;
}

-- A load of the piece's word changes nothing, and one of the pointer goes into the table.
pub own_leaf : step (look 1 1) mapped ≡ mapped
own_leaf = refl

pub goes_down : (step (look 0 1) (step load_root (mapped_words, record mapped_view { path = [] }))).1.path ≡ mapped_view.path
goes_down = refl

-- An install that meets another's table goes into it, and the frame stays prepared.
abbrev pub met : State
met = steps (place 2 (at 0 4) ∷ install 0 1 ∷ []) (mapped_words, record mapped_view { tables = []; path = record { frame = 0; position = at 1 0 } ∷ [] })

pub met_words : slice_index met.0 6 ≡ 4294971395
met_words = refl

pub met_path : met.1.path ≡ mapped_view.path
met_path = refl

pub met_prepared : met.1.prepared ≡ Some (record { frame = 2; position = at 0 4; bridge = None })
met_prepared = refl

pub met_tables : met.1.tables ≡ at 0 4 ∷ []
met_tables = refl

-- A take of a frame that isn't free, a free, and a take that is won.
pub taken : (step (take 2) mapped).1 ≡ record mapped.1 { busy = 2 ∷ []; taken = 2 ∷ [] }
taken = refl

pub taken_words : (step (take 2) mapped).0 ≡ mapped.0
taken_words = refl

pub freed : steps (take 2 ∷ free 2 ∷ []) mapped ≡ (slice_set mapped.0 3 0, record mapped.1 { purse = 3 ∷ []; taken = 2 ∷ [] })
freed = refl

pub won : steps (free 2 ∷ take 2 ∷ []) mapped ≡ (mapped.0, record mapped.1 { busy = 2 ∷ [] })
won = refl

-- A frame that is prepared and put back, and an end mark.
pub put_back : steps (place 2 (at 0 8) ∷ unplace 2 ∷ []) mapped ≡ mapped
put_back = refl

pub marked : steps (mark 3 (Some 1) ∷ []) mapped ≡ (slice_set mapped.0 4 9, record mapped.1 { end = Some 1 })
marked = refl
