use Rattle.std.proofs.Common.{◌≡◌, ◌∷◌, [], refl, Some, None, true, false, ◌+◌, ◌-◌, ◌^◌}
use Rattle.pt_model.specs.Layout.{Layout, nowhere, nothing}
use Rattle.pt_model.specs.Pages.{page_at, byte_at, range_at}
use Rattle.pt_model.specs.Book.{new_book, map_refusal, MapRefusal}

abbrev pub x86_4 : Layout
x86_4 = record { granule = 12; index = 9; input = 48; output = 52; start = 4; levels = 4; grows = false; signed = true; sizes = 0 ∷ 9 ∷ 18 ∷ []; states = λ p. true; pointer = λ l a. a + 0x27; leaf = λ l k o p n. 0; step = λ l w p. nothing; walk = λ ws a. nowhere }

pub upper_page : page_at x86_4 0xffff800000000abc ≡ Some (2 ^ 35)
upper_page = refl

pub gap : page_at x86_4 0x800000000000 ≡ None
gap = refl

pub back : byte_at x86_4 (2 ^ 35) ≡ 0xffff800000000000
back = refl

pub into_the_gap : range_at x86_4 0x7ffffffff000 0x2000 ≡ None
into_the_gap = refl

pub to_the_end : range_at x86_4 0xfffffffffffff000 0x1000 ≡ Some (2 ^ 36 - 1, 1)
to_the_end = refl

pub past_the_end : range_at x86_4 0xfffffffffffff000 0x2000 ≡ None
past_the_end = refl

pub over_all : range_at x86_4 0 0xfffffffffffff000 ≡ None
over_all = refl

pub outside : map_refusal x86_4 (new_book x86_4 3) 0x7ffffffff000 0x1000 0x2000 ≡ Some MapRefusal.OutsideLease
outside = refl
