-- Reading digits from the first to the last.
use Rattle.std.proofs.Common.{◌≡◌, ◌≢◌, ℕ, zero, suc, ◌+◌, ◌*◌, ◌/◌, ◌%◌, ◌^◌, ◌<◌, ◌≤◌, ◌⊎◌, List, [], ◌∷◌, ◌++◌, length, take, false, refl, ap, subst, sym, ◌∙◌, arith, inl, inr, get_or, append_assoc}
use Rattle.std.specs.Fmt.{digits, digits_onto, digit_glyph}
use Rattle.std.specs.Bool.{⊤}
use Rattle.std.specs.Char.{digit_value}
use Rattle.std.specs.Str.Parse.{digits_value}
use Rattle.std.proofs.Math.Nat.{pow-zero}
use Rattle.std.proofs.Math.Arith.{digits_div, digits_mod}
use Rattle.std.proofs.lemmas.Str.Parse.{digits_value-take-le}
use Rattle.std.proofs.lemmas.Int.Digits.{digits_value_more}
use Rattle.std.specs.Prelude.{Option, None, IfNone}
use Rattle.std.proofs.lemmas.List.{take_more}
use Rattle.std.proofs.lemmas.Bool.Decides.{nat_tests}
use Rattle.pt_stream.proofs.Spelling.{IsBase, onto_last, onto_more, onto_nil, room_next, digits_numeral}

cases : (q : ℕ) → (q ≡ 0) ⊎ (q ≢ 0)
cases zero = inl refl
cases (suc q) = inr (λ e. absurd (omega (arith, e)))

either : {A B C : Type 0} → A ⊎ B → (A → C) → (B → C) → C
either (inl x) f g = f x
either (inr y) f g = g y

abbrev pub IsGlyph : ℕ → ℕ → Type 0
IsGlyph base c = (d : ℕ) × (d < base) × (c ≡ digit_glyph false d)

abbrev pub AllGlyphs : ℕ → List ℕ → Type 0
AllGlyphs base [] = ⊤
AllGlyphs base (c ∷ cs) = IsGlyph base c × AllGlyphs base cs

some_base : (base : ℕ) → IsBase base → 0 < base
some_base base (inl e) = omega (arith, e)
some_base base (inr e) = omega (arith, e)

glyph_of : (base n : ℕ) → IsBase base → IsGlyph base (digit_glyph false (n % base))
glyph_of base n (inl e) = (n % base, subst (λ b. n % b < b) (sym e) (omega arith), refl)
glyph_of base n (inr e) = (n % base, subst (λ b. n % b < b) (sym e) (omega arith), refl)

glyphs_onto : (k base n : ℕ) (acc : List ℕ) → IsBase base → AllGlyphs base acc → AllGlyphs base (digits_onto k base false n acc)
glyphs_onto zero base n acc b g = g
glyphs_onto (suc k) base n acc b g = either (cases (n / base))
    (λ e. subst (AllGlyphs base) (sym (onto_last k base n acc e)) (glyph_of base n b, g))
    (λ e. subst (AllGlyphs base) (sym (onto_more k base n acc e)) (glyphs_onto k base (n / base) (digit_glyph false (n % base) ∷ acc) b (glyph_of base n b, g)))

pub glyphs : (base n : ℕ) → IsBase base → AllGlyphs base (digits base false n)
glyphs base n b = subst (AllGlyphs base) (onto_nil base n) (glyphs_onto 64 base n [] b tt)

pub glyph_at : (base : ℕ) (cs : List ℕ) (i : ℕ) → AllGlyphs base cs → i < length cs → IsGlyph base (get_or cs i 0)
glyph_at base [] i g h = absurd (omega (arith, h))
glyph_at base (c ∷ cs) zero g h = g.0
glyph_at base (c ∷ cs) (suc i) g h = glyph_at base cs i g.1 (omega (arith, h))

-- what is written in front of other text
pub onto_append : (k base n : ℕ) (acc : List ℕ) → digits_onto k base false n acc ≡ digits_onto k base false n [] ++ acc
onto_append zero base n acc = refl
onto_append (suc k) base n acc =
    let g = digit_glyph false (n % base) in
    either (cases (n / base))
    (λ e. onto_last k base n acc e ∙ sym (ap (λ l. l ++ acc) (onto_last k base n [] e)))
    (λ e. onto_more k base n acc e ∙ onto_append k base (n / base) (g ∷ acc)
    ∙ sym (append_assoc (digits_onto k base false (n / base) []) (g ∷ []) acc)
    ∙ ap (λ l. l ++ acc) (sym (onto_append k base (n / base) (g ∷ [])))
    ∙ sym (ap (λ l. l ++ acc) (onto_more k base n [] e)))

below_one : (q base : ℕ) → q < base ^ 0 → q ≡ 0
below_one q base h = omega (arith, pow-zero base, h)

-- a number of k digits needs no more than k steps
fuel : (k base n : ℕ) (acc : List ℕ) → IsBase base → n < base ^ suc k → digits_onto (suc (suc k)) base false n acc ≡ digits_onto (suc k) base false n acc
fuel zero base n acc b h = either (cases (n / base))
    (λ e. onto_last 1 base n acc e ∙ sym (onto_last 0 base n acc e))
    (λ e. absurd (e (below_one (n / base) base (room_next base n 0 b h))))
fuel (suc k) base n acc b h = either (cases (n / base))
    (λ e. onto_last (suc (suc k)) base n acc e ∙ sym (onto_last (suc k) base n acc e))
    (λ e. onto_more (suc (suc k)) base n acc e ∙ fuel k base (n / base) (digit_glyph false (n % base) ∷ acc) b (room_next base n (suc k) b h) ∙ sym (onto_more (suc k) base n acc e))

fits : (base n : ℕ) → IsBase base → n < 2 ^ 64 → n < base ^ 63
fits base n (inl e) h = let f : n < 10 ^ 63 = omega arith in subst (λ b. n < b ^ 63) (sym e) f
fits base n (inr e) h = let f : n < 16 ^ 63 = omega arith in subst (λ b. n < b ^ 63) (sym e) f

-- one digit more
pub digits_more : (base v d : ℕ) → IsBase base → v < 2 ^ 64 → 0 < v → d < base → digits base false (v * base + d) ≡ digits base false v ++ (digit_glyph false d ∷ [])
digits_more base v d b h some small =
    let n = v * base + d in
    let q : n / base ≡ v = digits_div v small in
    let r : n % base ≡ d = digits_mod v small in
    sym (onto_nil base n) ∙ onto_more 63 base n [] (λ e. absurd (omega (arith, sym q ∙ e, some)))
    ∙ ap (λ x. digits_onto 63 base false x (digit_glyph false (n % base) ∷ [])) q
    ∙ ap (λ x. digits_onto 63 base false v (digit_glyph false x ∷ [])) r
    ∙ onto_append 63 base v (digit_glyph false d ∷ [])
    ∙ ap (λ l. l ++ (digit_glyph false d ∷ [])) (sym (fuel 62 base v [] b (fits base v b h)) ∙ onto_nil base v)

one_digit : (base n : ℕ) → IsBase base → n / base ≡ 0 → n % base ≡ n
one_digit base n (inl e) q = let f : n / 10 ≡ 0 = subst (λ b. n / b ≡ 0) e q in let g : n % 10 ≡ n = omega (arith, f) in subst (λ b. n % b ≡ n) (sym e) g
one_digit base n (inr e) q = let f : n / 16 ≡ 0 = subst (λ b. n / b ≡ 0) e q in let g : n % 16 ≡ n = omega (arith, f) in subst (λ b. n % b ≡ n) (sym e) g

no_more : (base d : ℕ) → IsBase base → d < base → d / base ≡ 0
no_more base d (inl e) h = let f : d < 10 = subst (λ b. d < b) e h in let g : d / 10 ≡ 0 = omega (arith, f) in subst (λ b. d / b ≡ 0) (sym e) g
no_more base d (inr e) h = let f : d < 16 = subst (λ b. d < b) e h in let g : d / 16 ≡ 0 = omega (arith, f) in subst (λ b. d / b ≡ 0) (sym e) g

-- a number of one digit
pub digits_one : (base d : ℕ) → IsBase base → d < base → digits base false d ≡ digit_glyph false d ∷ []
digits_one base d b small =
    let q : d / base ≡ 0 = no_more base d b small in
    let r : d % base ≡ d = one_digit base d b q in
    sym (onto_nil base d) ∙ onto_last 63 base d [] q ∙ ap (λ x. digit_glyph false x ∷ []) r

-- a zero in front stands alone
glyph_zero : (d : ℕ) → digit_glyph false d ≡ 48 → d ≡ 0
glyph_zero d e = grind (arith, nat_tests)

lead : (k base n : ℕ) (acc : List ℕ) → IsBase base → n < base ^ suc k → get_or (digits_onto (suc k) base false n acc) 0 0 ≡ 48 → n ≡ 0
lead zero base n acc b h z = either (cases (n / base))
    (λ e. sym (one_digit base n b e) ∙ glyph_zero (n % base) (sym (ap (λ l. get_or l 0 0) (onto_last 0 base n acc e)) ∙ z))
    (λ e. absurd (e (below_one (n / base) base (room_next base n 0 b h))))
lead (suc k) base n acc b h z = either (cases (n / base))
    (λ e. sym (one_digit base n b e) ∙ glyph_zero (n % base) (sym (ap (λ l. get_or l 0 0) (onto_last (suc k) base n acc e)) ∙ z))
    (λ e. absurd (e (lead k base (n / base) (digit_glyph false (n % base) ∷ acc) b (room_next base n (suc k) b h) (sym (ap (λ l. get_or l 0 0) (onto_more (suc k) base n acc e)) ∙ z))))

fits64 : (base n : ℕ) → IsBase base → n < 2 ^ 64 → n < base ^ 64
fits64 base n (inl e) h = let f : n < 10 ^ 64 = omega arith in subst (λ b. n < b ^ 64) (sym e) f
fits64 base n (inr e) h = let f : n < 16 ^ 64 = omega arith in subst (λ b. n < b ^ 64) (sym e) f

pub zero_alone : (base n : ℕ) (text : List ℕ) → IsBase base → n < 2 ^ 64 → text ≡ digits base false n → get_or text 0 0 ≡ 48 → length text ≡ 1
zero_alone base n text b h e z =
    let none : n ≡ 0 = lead 63 base n [] b (fits64 base n b h) (ap (λ l. get_or l 0 0) (onto_nil base n ∙ sym e) ∙ z) in
    ap length (e ∙ ap (digits base false) none ∙ digits_one base 0 b (some_base base b))

-- the digits so far are of no greater number
pub below : (base d : ℕ) → IsBase base → d < base → d < 16
below base d (inl e) h = omega (arith, e, h)
below base d (inr e) h = omega (arith, e, h)

glyph_value : (base d : ℕ) → IsBase base → d < base → digit_value (digit_glyph false d) ≡ d
glyph_value base d b h = let few : d < 16 = below base d b h in grind (arith, nat_tests)

pub front_is_less : (base n v d at : ℕ) (text : List ℕ) → IsBase base → n < 2 ^ 64 → v < 2 ^ 64 → text ≡ digits base false n → at < length text → take at text ≡ digits base false v → d < base → get_or text at 0 ≡ digit_glyph false d → v * base + d < 2 ^ 64
front_is_less base n v d at text b h k e within read small is =
    let whole : digits_value base text ≡ n = ap (digits_value base) e ∙ (digits_numeral base n b h).1 in
    let front : digits_value base (take at text) ≡ v = ap (digits_value base) read ∙ (digits_numeral base v b k).1 in
    let last : digit_value (get_or text at 0) ≡ d = ap digit_value is ∙ glyph_value base d b small in
    let more : digits_value base (take (at + 1) text) ≡ v * base + d = digits_value_more base text at within ∙ ap (λ x. x * base + digit_value (get_or text at 0)) front ∙ ap (λ x. v * base + x) last in
    let less : digits_value base (take (at + 1) text) ≤ digits_value base text = digits_value-take-le base text (at + 1) (some_base base b) in
    omega (arith, whole, more, less, h)

pub not_empty : (base n : ℕ) (text : List ℕ) → IsBase base → n < 2 ^ 64 → text ≡ digits base false n → 0 < length text
not_empty base n text b h e = subst (λ l. 0 < length l) (sym e) (digits_numeral base n b h).0.0

-- each byte of a spelling is a glyph
pub glyph_in : (base n at : ℕ) (text : List ℕ) → IsBase base → text ≡ digits base false n → at < length text → IsGlyph base (get_or text at 0)
glyph_in base n at text b e h = glyph_at base text at (subst (AllGlyphs base) (sym e) (glyphs base n b)) h

pub no_spelling : (base n at : ℕ) (text : List ℕ) → IsBase base → at < length text → ((d : ℕ) → d < base → get_or text at 0 ≢ digit_glyph false d) → text ≢ digits base false n
no_spelling base n at text b h none e = let g = glyph_in base n at text b e h in none g.0 g.1 g.2

pub take_one : (text : List ℕ) → 0 < length text → take 1 text ≡ get_or text 0 0 ∷ []
take_one [] h = absurd (omega (arith, h))
take_one (c ∷ cs) h = refl

pub first_read : (base d : ℕ) (text : List ℕ) → IsBase base → 0 < length text → d < base → get_or text 0 0 ≡ digit_glyph false d → take 1 text ≡ digits base false d
first_read base d text b some small is = take_one text some ∙ ap (λ c. c ∷ []) is ∙ sym (digits_one base d b small)

pub next_read : (base v d at : ℕ) (text : List ℕ) → IsBase base → v < 2 ^ 64 → 0 < v → at < length text → take at text ≡ digits base false v → d < base → get_or text at 0 ≡ digit_glyph false d → take (at + 1) text ≡ digits base false (v * base + d)
next_read base v d at text b h some within read small is =
    take_more text at 0 within ∙ ap (λ l. l ++ (get_or text at 0 ∷ [])) read ∙ ap (λ c. digits base false v ++ (c ∷ [])) is ∙ sym (digits_more base v d b h some small)

pub more_is_some : (base v d : ℕ) → IsBase base → 0 < v → 0 < v * base + d
more_is_some base v d (inl e) some = subst (λ b. 0 < v * b + d) (sym e) (omega (arith, some))
more_is_some base v d (inr e) some = subst (λ b. 0 < v * b + d) (sym e) (omega (arith, some))

pub none_goal : (r : Option ℕ) (X : Type 0) → r ≡ None → X → IfNone r X
none_goal r X e x = subst (λ o. IfNone o X) (sym e) x

pub part_below : (a d : ℕ) → a + d < 2 ^ 64 → a < 2 ^ 64
part_below a d h = omega (arith, h)
