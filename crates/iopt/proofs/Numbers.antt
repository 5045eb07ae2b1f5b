-- The number of a format in an image, and its layout.
use Rattle.std.proofs.Common.{◌≡◌, ℕ, zero, suc, ◌≤◌, Option, None, Some, refl, ap, sym, ◌∙◌, arith}
use Rattle.pt_model.specs.declared.command.Name.{Name}
use Rattle.pt_model.specs.declared.command.Name.TheVariants.{AmdV1, VtdSs3, VtdSs4, VtdSs5, X86L4, X86L5, Vmsa4, Vmsa16, Vmsa64, Sv39, Sv48, Sv57}
use Rattle.pt_names.specs.Names.{layout_of}
use Rattle.pt_image.specs.Headers.{name_at}
use Rattle.pt_image.specs.declared.header.Header.{Header}
use Rattle.iopt.specs.Resumed.{IsOfFormat}

abbrev number : Name → ℕ
number AmdV1 = 0
number VtdSs3 = 1
number VtdSs4 = 2
number VtdSs5 = 3
number X86L4 = 4
number X86L5 = 5
number Vmsa4 = 6
number Vmsa16 = 7
number Vmsa64 = 8
number Sv39 = 9
number Sv48 = 10
number Sv57 = 11

abbrev number_or : Option Name → ℕ
number_or None = 0
number_or (Some name) = number name

none_known : (name : Name) → None ≡ Some name → ⊥
none_known name e = cc

abbrev name_or : Option Name → Name
name_or None = AmdV1
name_or (Some name) = name

number_is : (n : ℕ) (name : Name) → name_at n ≡ Some name → n ≡ number name
number_is zero name e = ap number_or e
number_is (suc zero) name e = ap number_or e
number_is (suc (suc zero)) name e = ap number_or e
number_is (suc (suc (suc zero))) name e = ap number_or e
number_is (suc (suc (suc (suc zero)))) name e = ap number_or e
number_is (suc (suc (suc (suc (suc zero))))) name e = ap number_or e
number_is (suc (suc (suc (suc (suc (suc zero)))))) name e = ap number_or e
number_is (suc (suc (suc (suc (suc (suc (suc zero))))))) name e = ap number_or e
number_is (suc (suc (suc (suc (suc (suc (suc (suc zero)))))))) name e = ap number_or e
number_is (suc (suc (suc (suc (suc (suc (suc (suc (suc zero))))))))) name e = ap number_or e
number_is (suc (suc (suc (suc (suc (suc (suc (suc (suc (suc zero)))))))))) name e = ap number_or e
number_is (suc (suc (suc (suc (suc (suc (suc (suc (suc (suc (suc zero))))))))))) name e = ap number_or e
number_is (suc (suc (suc (suc (suc (suc (suc (suc (suc (suc (suc (suc n)))))))))))) name e = absurd (none_known name e)

-- two numbers of one format are one
pub one_number_of : (m n : ℕ) (name : Name) → name_at m ≡ Some name → name_at n ≡ Some name → m ≡ n
one_number_of m n name a b = number_is m name a ∙ sym (number_is n name b)

-- a header with the number of a format is of its layout
pub of_named : (h : Header) (named : Name) → name_at h.number ≡ Some named → IsOfFormat (layout_of named) h
of_named h named is = λ name a. ap layout_of (ap name_or (sym a ∙ is))

pub is_known : (h : Header) (name : Name) → name_at h.number ≡ Some name → name_at h.number ≡ None → ⊥
is_known h name a none = none_known name (sym none ∙ a)
