-- What the walk of the words of a closed space answers.
use Rattle.std.proofs.Common.{◌≡◌, ℕ, ◌+◌, ◌-◌, ◌*◌, ◌/◌, ◌^◌, ◌<◌, List, Option, None, Some, length, refl, ap, sym, subst, ◌∙◌, arith}
use Rattle.std.proofs.lemmas.Nat.{div-mul-add}
use Rattle.pt_model.specs.declared.block.Prot.{Prot}
use Rattle.pt_model.specs.declared.command.Name.{Name}
use Rattle.pt_model.specs.Layout.{Layout, Reached, nowhere, at_byte, strange}
use Rattle.pt_model.specs.Words.{IsSpace, frames_in}
use Rattle.pt_model.specs.Run.{walk_answer}
use Rattle.pt_format.specs.Laws.{IsLayout}
use Rattle.pt_format.specs.Manual.{IsWalk, StepsAgree}
use Rattle.pt_view.specs.Views.{book_of}
use Rattle.pt_closed.specs.Closed.{IsClosed, reached}
use Rattle.pt_closed.proofs.WalkOfBook.{walk_is_book}
use Rattle.pt_names.specs.Names.{layout_of}

-- the words of a closed space are those of a space
pub is_space : (f : Layout) (n : ℕ) (words : List ℕ) → IsClosed f n words → IsSpace f words
is_space f n words closed =
    let e = closed.lawful.sizes.words_are in
    let some = closed.lawful.sizes.some_frame in
    let whole : length words ≡ 1 + n * (2 ^ f.index + 1) = omega arith in
    let behind : length words - 1 ≡ n * (2 ^ f.index + 1) + 0 = omega arith in
    let frames : frames_in f words ≡ n = ap (λ (x : ℕ). x / (2 ^ f.index + 1)) behind ∙ div-mul-add n (2 ^ f.index + 1) 0 (omega arith) in
    record {
      whole = subst (λ (k : ℕ). length words ≡ 1 + k * (2 ^ f.index + 1)) (sym frames) whole;
      some = omega arith;
    }

-- What is reached tells what is answered.

never_strange : (o : Option (ℕ × Prot)) → strange ≡ reached o → ⊥
never_strange None e = cc
never_strange (Some to) e = cc

page_is : (o : Option (ℕ × Prot)) (out : ℕ) (prot : Prot) → at_byte out prot ≡ reached o → Some (out, prot) ≡ o
page_is None out prot e = absurd (away out prot e)
  where
    away : (out : ℕ) (prot : Prot) → at_byte out prot ≡ nowhere → ⊥
    away out prot e = cc
page_is (Some to) out prot e = ap Some (λ i. (ap byte_in e i, ap prot_in e i))
  where
    byte_in : Reached → ℕ
    byte_in (at_byte byte p) = byte
    byte_in other = 0

    prot_in : Reached → Prot
    prot_in (at_byte byte p) = p
    prot_in other = prot

none_is : (o : Option (ℕ × Prot)) → nowhere ≡ reached o → None ≡ o
none_is None e = refl
none_is (Some to) e = absurd (away to.0 to.1 e)
  where
    away : (out : ℕ) (prot : Prot) → nowhere ≡ at_byte out prot → ⊥
    away out prot e = cc

module _ (f : Layout) (good : IsLayout f) (agree : StepsAgree f) (walk : IsWalk f) (name : Name) (same : layout_of name ≡ f)
    (n : ℕ) (words : List ℕ) (closed : IsClosed f n words) (va : ℕ) (fits : va < 2 ^ 64) where
  abbrev answer : Option (ℕ × Prot)
  answer = walk_answer f (book_of closed.view closed.blocks) va

  -- the manual's walk by the format's name is that of the book
  by_name : (layout_of name).walk words va ≡ reached answer
  by_name = ap (λ (g : Layout). g.walk words va) same ∙ walk_is_book f good agree walk n words closed va fits

  pub not_strange : strange ≡ (layout_of name).walk words va → ⊥
  not_strange e = never_strange answer (e ∙ by_name)

  pub page_found : (out : ℕ) (prot : Prot) → at_byte out prot ≡ (layout_of name).walk words va → Some (out, prot) ≡ answer
  page_found out prot e = page_is answer out prot (e ∙ by_name)

  pub none_found : nowhere ≡ (layout_of name).walk words va → None ≡ answer
  none_found e = none_is answer (e ∙ by_name)
