-- Entries of a table in order, and the child at one.
use Rattle.std.proofs.Common.{◌≡◌, ℕ, ◌+◌, ◌-◌, ◌*◌, ◌/◌, ◌%◌, ◌<◌, ◌≤◌, ◌^◌, sym, ap, ◌∙◌, refl, arith}
use Rattle.std.proofs.lemmas.Nat.{mod-mul-add}
use Rattle.pt_model.specs.declared.position.Position.{Position}
use Rattle.pt_model.specs.Layout.{Layout, pages_of_entry, pages_of_table}
use Rattle.pt_model.specs.Tables.{child_at}
use Rattle.pt_model.proofs.Quotients.{base_lemma, entry_is_table, entry_some, table_is_entries, whole}
use Rattle.pt_view.specs.Calls.{entry_first}

pub next_first : (f : Layout) (p : Position) (i : ℕ) → entry_first f p (i + 1) ≡ entry_first f p i + pages_of_entry f p.level
next_first f p i = let e : ℕ = pages_of_entry f p.level in let z : (i + 1) * e ≡ i * e + e = omega arith in omega arith

pub later_first : (f : Layout) (p : Position) (i j : ℕ) → i ≤ j → entry_first f p i ≤ entry_first f p j
later_first f p i j le =
    let e : ℕ = pages_of_entry f p.level in
    let m : ℕ = j - i in
    let z : (i + m) * e ≡ i * e + m * e = omega arith in let k : i + m ≡ j = omega arith in let w : (i + m) * e ≡ j * e = ap (λ x. x * e) k in omega arith

-- an entry of a table begins at a multiple of its pages
pub entry_multiple : (f : Layout) (p : Position) (i : ℕ) → p.base % pages_of_table f p.level ≡ 0 →
    entry_first f p i ≡ (p.base / pages_of_table f p.level * 2 ^ f.index + i) * pages_of_entry f p.level
entry_multiple f p i aligned =
    let m : ℕ = p.base / pages_of_table f p.level in
    ap (λ x. x + i * pages_of_entry f p.level) (whole p.base (f.index * (p.level + 1)) aligned)
    ∙ base_lemma m (pages_of_table f p.level) (pages_of_entry f p.level) (2 ^ f.index) i (m * 2 ^ f.index + i) (table_is_entries f p.level) refl

pub child_aligned : (f : Layout) (p : Position) (i : ℕ) → 0 < p.level → p.base % pages_of_table f p.level ≡ 0 →
    (child_at f p i).base % pages_of_table f (p.level - 1) ≡ 0
child_aligned f p i high aligned =
    let m : ℕ = p.base / pages_of_table f p.level * 2 ^ f.index + i in
    let e : ℕ = pages_of_entry f p.level in
    ap (λ x. entry_first f p i % x) (sym (entry_is_table f p.level high)) ∙ ap (λ x. x % e) (entry_multiple f p i aligned)
    ∙ (let z : m * e ≡ m * e + 0 = omega arith in ap (λ x. x % e) z) ∙ mod-mul-add m e 0 (entry_some f p.level)

-- the child's last entry ends where the entry does
pub child_end : (f : Layout) (p : Position) (i : ℕ) → 0 < p.level → entry_first f (child_at f p i) (2 ^ f.index) ≡ entry_first f p (i + 1)
child_end f p i high =
    let a = table_is_entries f (p.level - 1) in
    let b = entry_is_table f p.level high in
    let next = next_first f p i in
    let flip : 2 ^ f.index * pages_of_entry f (p.level - 1) ≡ pages_of_entry f (p.level - 1) * 2 ^ f.index = omega arith in omega arith
