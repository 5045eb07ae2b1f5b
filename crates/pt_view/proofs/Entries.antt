-- The entries and tables over a page.
use Rattle.std.proofs.Common.{◌≡◌, ℕ, ◌+◌, ◌-◌, ◌*◌, ◌/◌, ◌^◌, ◌<◌, ◌≤◌, refl, ap, sym, ◌∙◌, subst, arith}
use Rattle.std.specs.Prelude.{IsTrue, nat_lt}
use Rattle.std.proofs.lemmas.Bool.{and_from, lt-ltb}
use Rattle.std.proofs.lemmas.Nat.{shr_split, pow_pos, mod_below}
use Rattle.pt_model.specs.declared.position.Position.{Position}
use Rattle.pt_model.specs.Layout.{Layout, pages_of_entry, pages_of_table}
use Rattle.pt_model.specs.Tables.{child_at, end_of_table, position_over}
use Rattle.pt_model.proofs.Positions.{same_position}
use Rattle.pt_model.proofs.Quotients.{base_lemma, entry_is_table, over_from, quotient, table_is_entries}
use Rattle.pt_view.specs.declared.view.View.{View}
use Rattle.pt_view.specs.Pieces.{entry_number}
use Rattle.pt_view.specs.Loads.{IsInSpan, IsOver}
use Rattle.pt_view.specs.Calls.{IsEntryAt, MeetsEntry, entry_end, entry_first, meets_span}

module _ (f : Layout) (page level : ℕ) where
  abbrev pub place : Position
  place = position_over f page level

  abbrev pub number : ℕ
  number = entry_number f level page

  -- the first page under the entry
  pub entry_first_is : entry_first f place number ≡ page / pages_of_entry f level * pages_of_entry f level
  entry_first_is = base_lemma (page / pages_of_table f level) (pages_of_table f level) (pages_of_entry f level) (2 ^ f.index) number (page / pages_of_entry f level)
      (table_is_entries f level) (ap (λ y. y * 2 ^ f.index + number) (sym (quotient f page level)) ∙ shr_split (page / pages_of_entry f level) f.index)

  pub from_first : entry_first f place number ≤ page
  from_first = let e = entry_first_is in let s = shr_split page (f.index * level) in omega arith

  pub to_end : page < entry_end f place number
  to_end = let e = entry_first_is in let s = shr_split page (f.index * level) in let m = mod_below page (pages_of_entry f level) (pow_pos (f.index * level)) in omega arith

  pub number_within : number < 2 ^ f.index
  number_within = mod_below (page / pages_of_entry f level) (2 ^ f.index) (pow_pos f.index)

  pub child_is : 0 < level → child_at f place number ≡ position_over f page (level - 1)
  child_is high = same_position (child_at f place number) (position_over f page (level - 1)) refl
      (entry_first_is ∙ ap (λ x. page / x * x) (entry_is_table f level high))

-- the span has a page under the entry
pub entry_meets : (f : Layout) (v : View) (page level : ℕ) → IsInSpan v page →
    IsTrue (meets_span v (entry_first f (position_over f page level) (entry_number f level page)) (entry_end f (position_over f page level) (entry_number f level page)))
entry_meets f v page level h =
    let low = h.0 in let high = h.1 in let a = from_first f page level in let b = to_end f page level in
    and_from (nat_lt (entry_first f (position_over f page level) (entry_number f level page)) (v.first + v.count)) _ (lt-ltb _ _ (omega arith))
    (lt-ltb v.first (entry_end f (position_over f page level) (entry_number f level page)) (omega arith))

-- The entry over a page is one of the path's last table, and may be loaded.
module _ {f : Layout} {v : View} {page level : ℕ} (over : IsOver f v page level) where
  pub at_entry : IsEntryAt f v (position_over f page level) (entry_number f level page)
  at_entry = record {
    node = record { frame = over.frame; position = position_over f page level };
    is_lowest = over.is;
    at = refl;
    within = number_within f page level;
  }

  pub may_enter : IsInSpan v page → (n : ℕ) → n ≡ entry_number f level page → MeetsEntry f v n
  may_enter inside n is =
      subst (MeetsEntry f v) (sym is) (record { position = position_over f page level; entry = at_entry; meets = entry_meets f v page level inside })

-- a page under a table has that one over it
pub over_page : {f : Layout} {v : View} {first level : ℕ} → IsOver f v first level → (page : ℕ) → first ≤ page → page < end_of_table f (position_over f first level) → IsOver f v page level
over_page {f} {v} {first} {level} over page low high = record {
  frame = over.frame;
  is = rw (over_from f first page level low high) over.is;
}
