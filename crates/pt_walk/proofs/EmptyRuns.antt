-- Entries in a row of one table under which nothing stands: no piece has a page there, and no table begins there.
use Rattle.std.proofs.Common.{◌≡◌, ℕ, ◌+◌, ◌-◌, ◌*◌, ◌/◌, ◌^◌, ◌<◌, ◌≤◌, refl, ap, sym, ◌∙◌, subst, arith}
use Rattle.std.specs.Prelude.{IsTrue, true, ◌&&◌, nat_le, nat_lt}
use Rattle.std.proofs.lemmas.Bool.{and_from, false≢true, le-leb, lt-ltb}
use Rattle.std.proofs.lemmas.Nat.{shr_split, mul-le, le-div}
use Rattle.std.proofs.Math.Nat.{div-mul-le_self}
use Rattle.pt_model.specs.declared.position.Position.{Position}
use Rattle.pt_model.specs.Layout.{Layout, pages_of_entry, pages_of_table}
use Rattle.pt_model.specs.Tables.{position_over}
use Rattle.pt_model.proofs.Quotients.{entry_some, over_from, quotient, same_quotient}
use Rattle.pt_format.specs.Laws.{IsLayout}
use Rattle.pt_view.specs.declared.view.View.{View}
use Rattle.pt_view.specs.Pieces.{entry_number}
use Rattle.pt_view.specs.Calls.{IsVacant, entry_end, entry_first, is_under, meets_span}
use Rattle.pt_view.specs.Runs.{MeetsRun}
use Rattle.pt_view.proofs.Entries.{from_first, number_within, to_end}
use Rattle.pt_walk.specs.Walks.{FindsUnder, IsClear, IsOverRange, OwnsAll}
use Rattle.pt_walk.specs.declared.range.Under.TheVariants.{Nothing}
use Rattle.pt_walk.proofs.Descent.{vacant_none}

-- the entries of one table are numbered in the order of their pages
number_mono : (f : Layout) (level a b : ℕ) → a ≤ b → b / pages_of_table f level ≡ a / pages_of_table f level → entry_number f level a ≤ entry_number f level b
number_mono f level a b le same =
    let pages : ℕ = pages_of_entry f level in
    let sa = shr_split (a / pages_of_entry f level) f.index in
    let sb = shr_split (b / pages_of_entry f level) f.index in
    let q : b / pages_of_entry f level / 2 ^ f.index ≡ a / pages_of_entry f level / 2 ^ f.index = quotient f b level ∙ same ∙ sym (quotient f a level) in
    let part : b / pages_of_entry f level / 2 ^ f.index * 2 ^ f.index ≡ a / pages_of_entry f level / 2 ^ f.index * 2 ^ f.index = ap (λ x. x * 2 ^ f.index) q in
    let down = div-mul-le_self a (pages_of_entry f level) in
    let up : a / pages_of_entry f level ≤ b / pages_of_entry f level = le-div (a / pages_of_entry f level) b (pages_of_entry f level) (entry_some f level) (omega arith) in
    omega (arith, sa, sb, part, up)

module _ {f : Layout} {v : View} {first end level : ℕ} (r : IsOverRange f v first end level) where
  -- the pages of the range have the table of the first one over them
  one_table : (page : ℕ) → first ≤ page → page < end → page / pages_of_table f level ≡ first / pages_of_table f level
  one_table page low high = same_quotient first page (f.index * (level + 1)) low (let u = r.under in omega arith)

  pub after_first : (page : ℕ) → first ≤ page → page < end → entry_number f level first ≤ entry_number f level page
  after_first page low high = number_mono f level first page low (one_table page low high)

  before_last : (page : ℕ) → first ≤ page → page < end → entry_number f level page ≤ entry_number f level (end - 1)
  before_last page low high =
      number_mono f level page (end - 1) (omega arith) (one_table (end - 1) (omega arith) (omega arith) ∙ sym (one_table page low high))

  pub last_after : entry_number f level first ≤ entry_number f level (end - 1)
  last_after = let some = r.some in after_first (end - 1) (omega arith) (omega arith)

  abbrev place : Position
  place = position_over f first level

  module _ {number count : ℕ} (number_is : number ≡ entry_number f level first) (to_last : number + count ≡ entry_number f level (end - 1) + 1) where
    -- the entries over the range may be looked at
    run_in : (i : ℕ) → i < count → IsTrue (meets_span v (entry_first f place (number + i)) (entry_end f place (number + i)))
    run_in i less =
        let pages : ℕ = pages_of_entry f level in
        let some = r.some in let from = r.from in let to = r.to in
        let over : position_over f (end - 1) level ≡ place = over_from f first (end - 1) level (omega arith) (let u = r.under in omega arith) in
        let base : (position_over f (end - 1) level).base ≡ place.base = ap (λ (p : Position). p.base) over in
        let last = from_first f (end - 1) level in
        let here = to_end f first level in
        let at : number * pages_of_entry f level ≡ entry_number f level first * pages_of_entry f level = ap (λ (n : ℕ). n * pages_of_entry f level) number_is in
        let low : number * pages_of_entry f level ≤ (number + i) * pages_of_entry f level = mul-le number (pages_of_entry f level) (number + i) (pages_of_entry f level) (omega arith) (omega arith) in
        let high : (number + i) * pages_of_entry f level ≤ entry_number f level (end - 1) * pages_of_entry f level =
        mul-le (number + i) (pages_of_entry f level) (entry_number f level (end - 1)) (pages_of_entry f level) (omega arith) (omega arith) in
        and_from (nat_lt (entry_first f place (number + i)) (v.first + v.count)) _
        (lt-ltb (entry_first f place (number + i)) (v.first + v.count) (omega (arith, last, high, base, to, some)))
        (lt-ltb v.first (entry_end f place (number + i)) (omega (arith, here, at, low, from)))

    pub run_meets : MeetsRun f v number count
    run_meets = record {
      some = let a = last_after in omega arith;
      position = place;
      entry = λ i less. record {
        node = record { frame = r.over.frame; position = place };
        is_lowest = r.over.is;
        at = refl;
        within = let w = number_within f (end - 1) level in omega arith;
      };
      meets = run_in;
    }

    module _ (vacant : (i : ℕ) → i < count → IsVacant f v place (number + i)) where
      -- the entry over a page of the range is one of them
      vacant_over : (page : ℕ) → first ≤ page → page < end → IsVacant f v (position_over f page level) (entry_number f level page)
      vacant_over page low high =
          let k : ℕ = entry_number f level page in
          let above = after_first page low high in
          let below = before_last page low high in
          let over : place ≡ position_over f page level = sym (over_from f first page level low (let u = r.under in omega arith)) in
          let nth : number + (entry_number f level page - number) ≡ entry_number f level page = omega arith in
          subst (λ (t : Position × ℕ). IsVacant f v t.0 t.1) (λ j. (over j, nth j)) (vacant (entry_number f level page - number) (omega arith))

      pub run_nothing : IsLayout f → OwnsAll f v → IsClear f v first end level → FindsUnder f v first end level Nothing
      run_nothing good owns clear = (
        (λ page low high x member has. vacant_none good owns (vacant_over page low high) x member has (clear page low high x member has)),
        (λ q m low from to.
            let p : Position = position_over f q.base level in
            let number' : ℕ = entry_number f level q.base in
            let under : is_under f p number' q ≡ true =
            and_from (nat_lt q.level level && nat_le (entry_first f p number') q.base) _
            (and_from (nat_lt q.level level) _ (lt-ltb q.level level low) (le-leb (entry_first f p number') q.base (from_first f q.base level)))
            (lt-ltb q.base (entry_end f p number') (to_end f q.base level)) in
            false≢true (sym ((vacant_over q.base from to).no_table q m) ∙ under)),
      )
