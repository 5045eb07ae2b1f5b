-- No two scripts have one text.
use Rattle.std.proofs.Common.{◌≡◌, ℕ, ◌^◌, true, List, [], ◌∷◌, ◌++◌, ◌==◌, nat_lt, refl, ap, subst, sym, ◌∙◌, arith, drop, get_or}
use Rattle.std.specs.Prelude.{IsTrue, ◌&&◌}
use borrow.Author.Tests.{eqb-true}
use Rattle.pt_model.specs.Numbers.{decimal, hexadecimal, HasOneNumber}
use Rattle.pt_model.specs.Text.{prot_text}
use Rattle.pt_model.specs.declared.block.Prot.{Prot}
use Rattle.pt_model.specs.declared.block.Prot.TheVariants.{Read, ReadWrite}
use Rattle.pt_model.specs.declared.command.Name.{Name}
use Rattle.pt_model.specs.declared.command.Name.TheVariants.{AmdV1, VtdSs3, VtdSs4, VtdSs5, X86L4, X86L5, Vmsa4, Vmsa16, Vmsa64, Sv39, Sv48, Sv57}
use Rattle.pt_script.specs.declared.line.Keyword.{Keyword}
use Rattle.pt_script.specs.declared.line.Keyword.TheVariants.{Format, Frames, Hold, Map, Unmap, Lookup, Dump, Release, Fork, With, End, Close, Walk, Census}
use Rattle.pt_script.specs.declared.line.Line.{Line}
use Rattle.pt_script.specs.declared.line.Line.TheVariants as form
use Rattle.pt_script.specs.Lines.{name_text, keyword_text, keyword_of, operands, format_operands, text_of, is_stated, are_stated_levels}
use Rattle.pt_script.specs.Text.{script_text, words, all_stated}
use Rattle.pt_script.proofs.Steps.{both, less}
use Rattle.pt_script.proofs.WordLemmas.{NoFeed, format_name, no_feed, words_of_text}

pub same_front : (a b r q : List ℕ) → NoFeed a → NoFeed b → a ++ 10 ∷ r ≡ b ++ 10 ∷ q → (a ≡ b) × (r ≡ q)
same_front [] [] r q n m e = (refl, cc)
same_front [] (y ∷ b) r q n m e = let h : y ≡ 10 = cc in absurd (m.0 h)
same_front (x ∷ a) [] r q n m e = let h : x ≡ 10 = cc in absurd (n.0 h)
same_front (x ∷ a) (y ∷ b) r q n m e =
    let rest = same_front a b r q n.1 m.1 (ap (drop 1) e) in
    let head : x ≡ y = cc in
    ((λ i. head i ∷ rest.0 i), rest.1)

pub nonempty : (a b : List ℕ) → [] ≡ a ++ 10 ∷ b → ⊥
nonempty [] b e = cc
nonempty (x ∷ a) b e = cc

pub keyword_injective : (k m : Keyword) → keyword_text k ≡ keyword_text m → k ≡ m
keyword_injective Format Format e = refl
keyword_injective Frames Frames e = refl
keyword_injective Hold Hold e = refl
keyword_injective Map Map e = refl
keyword_injective Unmap Unmap e = refl
keyword_injective Lookup Lookup e = refl
keyword_injective Dump Dump e = refl
keyword_injective Release Release e = refl
keyword_injective Fork Fork e = refl
keyword_injective With With e = refl
keyword_injective End End e = refl
keyword_injective Close Close e = refl
keyword_injective Walk Walk e = refl
keyword_injective Census Census e = refl
keyword_injective k m e = absurd (omega (arith, ap (λ t. get_or t 0 0) e, ap (λ t. get_or t 1 0) e, ap (λ t. get_or t 3 0) e))

pub name_injective : (k m : Name) → name_text k ≡ name_text m → k ≡ m
name_injective AmdV1 AmdV1 e = refl
name_injective VtdSs3 VtdSs3 e = refl
name_injective VtdSs4 VtdSs4 e = refl
name_injective VtdSs5 VtdSs5 e = refl
name_injective X86L4 X86L4 e = refl
name_injective X86L5 X86L5 e = refl
name_injective Vmsa4 Vmsa4 e = refl
name_injective Vmsa16 Vmsa16 e = refl
name_injective Vmsa64 Vmsa64 e = refl
name_injective Sv39 Sv39 e = refl
name_injective Sv48 Sv48 e = refl
name_injective Sv57 Sv57 e = refl
name_injective k m e = absurd (omega (arith, ap (λ t. get_or t 0 0) e, ap (λ t. get_or t 1 0) e, ap (λ t. get_or t 2 0) e, ap (λ t. get_or t 4 0) e, ap (λ t. get_or t 5 0) e))

prot_injective : (p q : Prot) → prot_text p ≡ prot_text q → p ≡ q
prot_injective Read Read e = refl
prot_injective ReadWrite ReadWrite e = refl
prot_injective Read ReadWrite e = absurd (omega (arith, ap (λ t. get_or t 1 0) e))
prot_injective ReadWrite Read e = absurd (omega (arith, ap (λ t. get_or t 1 0) e))

fixed_levels : (a b n : ℕ) → (a == n) ≡ true → (b == n) ≡ true → a ≡ b
fixed_levels a b n h k = eqb-true a n h ∙ sym (eqb-true b n k)

module _ (d : HasOneNumber decimal) (x : HasOneNumber hexadecimal) where
  format_levels : (name : Name) (a b : ℕ) → are_stated_levels name a ≡ true → are_stated_levels name b ≡ true → format_operands name a ≡ format_operands name b → a ≡ b
  format_levels AmdV1 a b h k e = d.same a b (less _ _ h) (less _ _ k) (ap (λ ws. get_or ws 2 []) e)
  format_levels VtdSs3 a b h k e = fixed_levels a b _ h k
  format_levels VtdSs4 a b h k e = fixed_levels a b _ h k
  format_levels VtdSs5 a b h k e = fixed_levels a b _ h k
  format_levels X86L4 a b h k e = fixed_levels a b _ h k
  format_levels X86L5 a b h k e = fixed_levels a b _ h k
  format_levels Vmsa4 a b h k e = fixed_levels a b _ h k
  format_levels Vmsa16 a b h k e = fixed_levels a b _ h k
  format_levels Vmsa64 a b h k e = fixed_levels a b _ h k
  format_levels Sv39 a b h k e = fixed_levels a b _ h k
  format_levels Sv48 a b h k e = fixed_levels a b _ h k
  format_levels Sv57 a b h k e = fixed_levels a b _ h k

  format_injective : (n m : Name) (a b : ℕ) → are_stated_levels n a ≡ true → are_stated_levels m b ≡ true → format_operands n a ≡ format_operands m b → form.Format n a ≡ form.Format m b
  format_injective n m a b h k e =
      let names : n ≡ m = name_injective n m (sym (format_name n a) ∙ ap (λ ws. get_or ws 0 []) e ∙ format_name m b) in
      let k2 : are_stated_levels n b ≡ true = subst (λ q. are_stated_levels q b ≡ true) (sym names) k in
      let e2 : format_operands n a ≡ format_operands n b = e ∙ ap (λ q. format_operands q b) (sym names) in
      let same : a ≡ b = format_levels n a b h k2 e2 in
      (λ i. form.Format (names i) (same i))

  hex_same : (i : ℕ) (a b : ℕ) (u v : List (List ℕ)) → nat_lt a (2 ^ 64) ≡ true → nat_lt b (2 ^ 64) ≡ true → get_or u i [] ≡ hexadecimal a → get_or v i [] ≡ hexadecimal b → u ≡ v → a ≡ b
  hex_same i a b u v h k f g e = x.same a b (less _ _ h) (less _ _ k) (sym f ∙ ap (λ ws. get_or ws i []) e ∙ g)

  decimal_same : (a b : ℕ) (u v : List (List ℕ)) → nat_lt a (2 ^ 64) ≡ true → nat_lt b (2 ^ 64) ≡ true → get_or u 0 [] ≡ decimal a → get_or v 0 [] ≡ decimal b → u ≡ v → a ≡ b
  decimal_same a b u v h k f g e = d.same a b (less _ _ h) (less _ _ k) (sym f ∙ ap (λ ws. get_or ws 0 []) e ∙ g)

  pub line_injective : (l m : Line) → IsTrue (is_stated l) → IsTrue (is_stated m) → keyword_of l ≡ keyword_of m → operands l ≡ operands m → l ≡ m
  line_injective (form.Format n a) (form.Format m b) h k q e = format_injective n m a b h k e
  line_injective (form.Frames a) (form.Frames b) h k q e = ap form.Frames (decimal_same a b _ _ h k refl refl e)
  line_injective (form.Hold a) (form.Hold b) h k q e = ap form.Hold (decimal_same a b _ _ h k refl refl e)
  line_injective (form.Map va pa len prot) (form.Map vb pb lem prou) h k q e =
      let h2 = both (nat_lt va (2 ^ 64) && nat_lt pa (2 ^ 64)) (nat_lt len (2 ^ 64)) h in
      let h1 = both (nat_lt va (2 ^ 64)) (nat_lt pa (2 ^ 64)) h2.0 in
      let k2 = both (nat_lt vb (2 ^ 64) && nat_lt pb (2 ^ 64)) (nat_lt lem (2 ^ 64)) k in
      let k1 = both (nat_lt vb (2 ^ 64)) (nat_lt pb (2 ^ 64)) k2.0 in
      let a : va ≡ vb = hex_same 0 va vb (operands (form.Map va pa len prot)) (operands (form.Map vb pb lem prou)) h1.0 k1.0 refl refl e in
      let b : pa ≡ pb = hex_same 1 pa pb (operands (form.Map va pa len prot)) (operands (form.Map vb pb lem prou)) h1.1 k1.1 refl refl e in
      let c : len ≡ lem = hex_same 2 len lem (operands (form.Map va pa len prot)) (operands (form.Map vb pb lem prou)) h2.1 k2.1 refl refl e in
      let p : prot ≡ prou = prot_injective prot prou (ap (λ ws. get_or ws 3 []) e) in
      (λ i. form.Map (a i) (b i) (c i) (p i))
  line_injective (form.Unmap va len) (form.Unmap vb lem) h k q e =
      let h1 = both (nat_lt va (2 ^ 64)) (nat_lt len (2 ^ 64)) h in
      let k1 = both (nat_lt vb (2 ^ 64)) (nat_lt lem (2 ^ 64)) k in
      let a : va ≡ vb = hex_same 0 va vb (operands (form.Unmap va len)) (operands (form.Unmap vb lem)) h1.0 k1.0 refl refl e in
      let c : len ≡ lem = hex_same 1 len lem (operands (form.Unmap va len)) (operands (form.Unmap vb lem)) h1.1 k1.1 refl refl e in
      (λ i. form.Unmap (a i) (c i))
  line_injective (form.Lookup a) (form.Lookup b) h k q e = ap form.Lookup (hex_same 0 a b _ _ h k refl refl e)
  line_injective form.Dump form.Dump h k q e = refl
  line_injective form.Release form.Release h k q e = refl
  line_injective (form.Fork a) (form.Fork b) h k q e = ap form.Fork (hex_same 0 a b _ _ h k refl refl e)
  line_injective form.With form.With h k q e = refl
  line_injective form.End form.End h k q e = refl
  line_injective form.Close form.Close h k q e = refl
  line_injective (form.Walk a) (form.Walk b) h k q e = ap form.Walk (hex_same 0 a b _ _ h k refl refl e)
  line_injective form.Census form.Census h k q e = refl
  line_injective l m h k q e = let f : keyword_of l ≡ keyword_of m = q in cc

  pub text_injective : (l m : Line) → IsTrue (is_stated l) → IsTrue (is_stated m) → text_of l ≡ text_of m → l ≡ m
  text_injective l m h k e =
      let same : keyword_text (keyword_of l) ∷ operands l ≡ keyword_text (keyword_of m) ∷ operands m = sym (words_of_text l h) ∙ ap words e ∙ words_of_text m k in
      line_injective l m h k (keyword_injective (keyword_of l) (keyword_of m) (ap (λ ws. get_or ws 0 []) same)) (ap (drop 1) same)

  pub script_injective : (ls ms : List Line) → IsTrue (all_stated ls) → IsTrue (all_stated ms) → script_text ls ≡ script_text ms → ls ≡ ms
  script_injective [] [] h k e = refl
  script_injective [] (m ∷ ms) h k e = absurd (nonempty (text_of m) (script_text ms) e)
  script_injective (l ∷ ls) [] h k e = absurd (nonempty (text_of l) (script_text ls) (sym e))
  script_injective (l ∷ ls) (m ∷ ms) h k e =
      let a = both (is_stated l) (all_stated ls) h in
      let b = both (is_stated m) (all_stated ms) k in
      let f = same_front (text_of l) (text_of m) (script_text ls) (script_text ms) (no_feed l a.0) (no_feed m b.0) e in
      let first : l ≡ m = text_injective l m a.0 b.0 f.0 in
      let rest : ls ≡ ms = script_injective ls ms a.1 b.1 f.1 in
      (λ i. first i ∷ rest i)
