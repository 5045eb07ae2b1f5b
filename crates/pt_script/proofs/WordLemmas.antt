-- Lines as lists of words.
use Rattle.std.proofs.Common.{◌≡◌, ◌≢◌, ℕ, suc, ◌+◌, ◌-◌, ◌^◌, ◌≤◌, ◌<◌, Bool, true, false, List, [], ◌∷◌, ◌++◌, length, take, drop, ◌==◌, nat_lt, refl, ap, subst, sym, ◌∙◌, arith, cond, not, get_or, length-drop}
use Rattle.std.specs.Prelude.{◌&&◌, IsTrue, Option, Some, None, IfSome, IfNone}
use Rattle.std.proofs.lemmas.List.{take_all}
use Rattle.std.proofs.lemmas.List.Splits.{slice_split_first, length-slice_split, join_with_byte-slice_split}
use Rattle.std.specs.List.{position_or_len, onto_first, list_all, join_with_byte}
use Rattle.std.specs.Fmt.{digits, decimal}
use Rattle.std.specs.Char.{digit_value}
use Rattle.std.specs.Str.Parse.{AllDigits}
use Rattle.std.proofs.lemmas.Fmt.{digits_is_IsNumeral}
use Rattle.std.proofs.lemmas.Bool.Decides.{nat_tests}
use borrow.Author.Tests.{ne_eqb, eq-eqb}
use Rattle.pt_model.specs.Numbers.{hexadecimal}
use Rattle.pt_model.specs.Text.{prot_text}
use Rattle.pt_model.specs.declared.block.Prot.{Prot}
use Rattle.pt_model.specs.declared.block.Prot.TheVariants.{Read, ReadWrite}
use Rattle.pt_model.specs.declared.command.Name.{Name}
use Rattle.pt_model.specs.declared.command.Name.TheVariants.{AmdV1, VtdSs3, VtdSs4, VtdSs5, X86L4, X86L5, Vmsa4, Vmsa16, Vmsa64, Sv39, Sv48, Sv57}
use Rattle.pt_script.specs.declared.line.Keyword.{Keyword}
use Rattle.pt_script.specs.declared.line.Keyword.TheVariants.{Format, Frames, Hold, Map, Unmap, Lookup, Dump, Release, Fork, With, End, Close, Walk, Census}
use Rattle.pt_script.specs.declared.line.Line.{Line}
use Rattle.pt_script.specs.declared.line.Line.TheVariants as form
use Rattle.pt_script.specs.Lines.{keyword_of, keyword_text, operands, format_operands, text_of, name_text, is_stated, are_stated_levels}
use Rattle.pt_script.specs.Text.{words, word, HasNoLine}
use Rattle.pt_script.proofs.Steps.{never, both, and_true, less}

not_less : (a b : ℕ) → nat_lt a b ≡ false → b ≤ a
not_less a b e = grind (arith, nat_tests)

abbrev feed_in : List ℕ → ℕ
feed_in bytes = position_or_len (λ b. b == 10) bytes

before_step : (x : ℕ) (xs : List ℕ) (b : Bool) → b ≡ (x == 10) → HasNoLine (take (feed_in xs) xs) → HasNoLine (take (cond (not b) (1 + feed_in xs) 0) (x ∷ xs))
before_step x xs true t h = refl
before_step x xs false t h =
    let next : 1 + feed_in xs ≡ suc (feed_in xs) = omega arith in
    subst (λ k. HasNoLine (take k (x ∷ xs))) (sym next)
    (ap (λ c. cond (not c) (1 + feed_in (take (feed_in xs) xs)) 0) (sym t) ∙ omega (arith, h))

pub no_line_before : (bytes : List ℕ) → HasNoLine (take (feed_in bytes) bytes)
no_line_before [] = refl
no_line_before (x ∷ xs) = before_step x xs (x == 10) refl (no_line_before xs)

abbrev space_in : List ℕ → ℕ
space_in raw = position_or_len (λ b. b == 32) raw

-- a line with a space
pub more_words : (raw : List ℕ) (end : ℕ) → end ≡ space_in raw → end < length raw → words raw ≡ take end raw ∷ words (drop (end + 1) raw)
more_words raw end e h =
    slice_split_first (λ b. b == 32) raw 0 (subst (λ k. k < length raw) e h) ∙ (λ i. take (sym e i) raw ∷ words (drop (sym e i + 1) raw))

no_space_step : (x : ℕ) (xs : List ℕ) (b : Bool) → suc (length xs) ≤ cond (not b) (1 + space_in xs) 0 → (length xs ≤ space_in xs → words xs ≡ xs ∷ []) → cond b ([] ∷ words xs) (onto_first x (words xs)) ≡ (x ∷ xs) ∷ []
no_space_step x xs true h more = absurd (omega arith)
no_space_step x xs false h more = ap (onto_first x) (more (omega arith))

-- a line with no space
pub one_word_whole : (raw : List ℕ) → length raw ≤ space_in raw → words raw ≡ raw ∷ []
one_word_whole [] h = refl
one_word_whole (x ∷ xs) h = no_space_step x xs (x == 32) h (one_word_whole xs)

pub some_words : (xs : List ℕ) → 0 < length (words xs)
some_words xs = omega (arith, length-slice_split (λ b. b == 32) xs)

one_word_step : (raw : List ℕ) (b : Bool) → nat_lt (space_in raw) (length raw) ≡ b → length (words raw) ≡ 1 → words raw ≡ raw ∷ []
one_word_step raw true t one =
    let within : space_in raw < length raw = less _ _ t in
    absurd (omega (arith, ap length (more_words raw (space_in raw) refl within), some_words (drop (space_in raw + 1) raw)))
one_word_step raw false t one = one_word_whole raw (not_less _ _ t)

pub one_word : (raw : List ℕ) → length (words raw) ≡ 1 → words raw ≡ raw ∷ []
one_word raw one = one_word_step raw (nat_lt (space_in raw) (length raw)) refl one

-- The words of a line that is cut at its first space.
pub record Cut (raw first rest : List ℕ) : Type 0 where
  pub more : length (words raw) ≢ 1 → words raw ≡ first ∷ words rest
  pub two : length (words raw) ≡ 2 → words raw ≡ first ∷ rest ∷ []
  pub one : length (words raw) ≡ 1 → words raw ≡ first ∷ []
  pub at_first : word 0 raw ≡ first
  pub at_second : word 1 raw ≡ word 0 rest
  pub at_third : word 2 raw ≡ word 1 rest

pub cut_at : (raw : List ℕ) (end : ℕ) → end ≡ space_in raw → end < length raw → Cut raw (take end raw) (take (length raw - (end + 1)) (drop (end + 1) raw))
cut_at raw end e h =
    let rest = take (length raw - (end + 1)) (drop (end + 1) raw) in
    let whole : rest ≡ drop (end + 1) raw = take_all (length raw - (end + 1)) (drop (end + 1) raw) (omega (arith, length-drop (end + 1) raw)) in
    let cut : words raw ≡ take end raw ∷ words rest = more_words raw end e h ∙ ap (λ r. take end raw ∷ words r) (sym whole) in
    record {
      more = λ n. cut;
      two = λ n. cut ∙ ap (λ ws. take end raw ∷ ws) (one_word rest (omega (arith, n, ap length cut)));
      one = λ n. absurd (omega (arith, n, ap length cut, some_words rest));
      at_first = ap (λ ws. get_or ws 0 []) cut;
      at_second = ap (λ ws. get_or ws 1 []) cut;
      at_third = ap (λ ws. get_or ws 2 []) cut;
    }

pub uncut : (raw : List ℕ) → length raw ≤ space_in raw → Cut raw raw []
uncut raw h =
    let whole = one_word_whole raw h in
    record {
      more = λ n. absurd (n (ap length whole));
      two = λ n. absurd (omega (arith, n, ap length whole));
      one = λ n. whole;
      at_first = ap (λ ws. get_or ws 0 []) whole;
      at_second = ap (λ ws. get_or ws 1 []) whole;
      at_third = ap (λ ws. get_or ws 2 []) whole;
    }

-- Words in which neither a space nor a line feed stands.
abbrev pub is_plain_byte : ℕ → Bool
is_plain_byte x = not (x == 32) && not (x == 10)

abbrev pub is_plain : List ℕ → Bool
is_plain xs = list_all is_plain_byte xs

fails : (b : Bool) → not b ≡ true → b ≡ false
fails true e = absurd (never (sym (sym e)))
fails false e = refl

not_space : (x : ℕ) (xs : List ℕ) → is_plain (x ∷ xs) ≡ true → (x == 32) ≡ false
not_space x xs h = fails (x == 32) (both (not (x == 32)) (not (x == 10)) (both (is_plain_byte x) (is_plain xs) h).0).0

not_feed : (x : ℕ) (xs : List ℕ) → is_plain (x ∷ xs) ≡ true → (x == 10) ≡ false
not_feed x xs h = fails (x == 10) (both (not (x == 32)) (not (x == 10)) (both (is_plain_byte x) (is_plain xs) h).0).1

plain_rest : (x : ℕ) (xs : List ℕ) → is_plain (x ∷ xs) ≡ true → is_plain xs ≡ true
plain_rest x xs h = (both (is_plain_byte x) (is_plain xs) h).1

words_before : (w rest : List ℕ) → is_plain w ≡ true → words (w ++ 32 ∷ rest) ≡ w ∷ words rest
words_before [] rest h = refl
words_before (x ∷ w) rest h =
    ap (λ b. cond b ([] ∷ words (w ++ 32 ∷ rest)) (onto_first x (words (w ++ 32 ∷ rest)))) (not_space x w h)
    ∙ ap (onto_first x) (words_before w rest (plain_rest x w h))

words_alone : (w : List ℕ) → is_plain w ≡ true → words w ≡ w ∷ []
words_alone [] h = refl
words_alone (x ∷ w) h = ap (λ b. cond b ([] ∷ words w) (onto_first x (words w))) (not_space x w h) ∙ ap (onto_first x) (words_alone w (plain_rest x w h))

abbrev pub are_plain : List (List ℕ) → Bool
are_plain ws = list_all is_plain ws

pub words_joined : (w : List ℕ) (ws : List (List ℕ)) → are_plain (w ∷ ws) ≡ true → words (join_with_byte 32 (w ∷ ws)) ≡ w ∷ ws
words_joined w [] h = words_alone w (both (is_plain w) (are_plain []) h).0
words_joined w (v ∷ ws) h =
    let b = both (is_plain w) (are_plain (v ∷ ws)) h in
    words_before w (join_with_byte 32 (v ∷ ws)) b.0 ∙ ap (λ r. w ∷ r) (words_joined v ws b.1)

-- no line feed stands in it
abbrev pub NoFeed : List ℕ → Type 0
NoFeed [] = Unit {0}
NoFeed (x ∷ xs) = (x ≢ 10) × NoFeed xs

unfed : (x : ℕ) → (x == 10) ≡ false → x ≢ 10
unfed x e same = never (sym e ∙ eq-eqb x 10 same)

fed_before : (w rest : List ℕ) → is_plain w ≡ true → NoFeed rest → NoFeed (w ++ 32 ∷ rest)
fed_before [] rest h n = ((λ e. omega arith), n)
fed_before (x ∷ w) rest h n = (unfed x (not_feed x w h), fed_before w rest (plain_rest x w h) n)

fed_alone : (w : List ℕ) → is_plain w ≡ true → NoFeed w
fed_alone [] h = tt
fed_alone (x ∷ w) h = (unfed x (not_feed x w h), fed_alone w (plain_rest x w h))

pub fed_joined : (w : List ℕ) (ws : List (List ℕ)) → are_plain (w ∷ ws) ≡ true → NoFeed (join_with_byte 32 (w ∷ ws))
fed_joined w [] h = fed_alone w (both (is_plain w) (are_plain []) h).0
fed_joined w (v ∷ ws) h =
    let b = both (is_plain w) (are_plain (v ∷ ws)) h in
    fed_before w (join_with_byte 32 (v ∷ ws)) b.0 (fed_joined v ws b.1)

-- Numbers are plain.
not_equal : (c d : ℕ) → c ≢ d → not (c == d) ≡ true
not_equal c d h = ap not (ne_eqb c d h)

digit_plain : (base c : ℕ) → base ≤ 16 → digit_value c < base → is_plain_byte c ≡ true
digit_plain base c h d =
    and_true _ _ (not_equal c 32 (λ e. let v : digit_value 32 < base = subst (λ x. digit_value x < base) e d in omega arith))
    (not_equal c 10 (λ e. let v : digit_value 10 < base = subst (λ x. digit_value x < base) e d in omega arith))

digits_plain : (base : ℕ) (ds : List ℕ) → base ≤ 16 → AllDigits base ds → is_plain ds ≡ true
digits_plain base [] h d = refl
digits_plain base (c ∷ cs) h d = and_true _ _ (digit_plain base c h d.0) (digits_plain base cs h d.1)

decimal_plain : (n : ℕ) → n < 2 ^ 64 → is_plain (decimal n) ≡ true
decimal_plain n h = digits_plain 10 (decimal n) (omega arith) (digits_is_IsNumeral 10 false (omega arith) (omega arith) n (omega arith)).0.1

hex_plain : (n : ℕ) → n < 2 ^ 64 → is_plain (hexadecimal n) ≡ true
hex_plain n h = digits_plain 16 (digits 16 false n) (omega arith) (digits_is_IsNumeral 16 false (omega arith) (omega arith) n (omega arith)).0.1

hex_stated : (n : ℕ) → nat_lt n (2 ^ 64) ≡ true → is_plain (hexadecimal n) ≡ true
hex_stated n h = hex_plain n (less _ _ h)

decimal_stated : (n : ℕ) → nat_lt n (2 ^ 64) ≡ true → is_plain (decimal n) ≡ true
decimal_stated n h = decimal_plain n (less _ _ h)

prot_plain : (prot : Prot) → is_plain (prot_text prot) ≡ true
prot_plain Read = refl
prot_plain ReadWrite = refl

format_plain : (name : Name) (levels : ℕ) → are_stated_levels name levels ≡ true → are_plain (format_operands name levels) ≡ true
format_plain AmdV1 levels h = and_true _ _ (decimal_stated levels h) refl
format_plain VtdSs3 levels h = refl
format_plain VtdSs4 levels h = refl
format_plain VtdSs5 levels h = refl
format_plain X86L4 levels h = refl
format_plain X86L5 levels h = refl
format_plain Vmsa4 levels h = refl
format_plain Vmsa16 levels h = refl
format_plain Vmsa64 levels h = refl
format_plain Sv39 levels h = refl
format_plain Sv48 levels h = refl
format_plain Sv57 levels h = refl

operands_plain : (l : Line) → IsTrue (is_stated l) → are_plain (operands l) ≡ true
operands_plain (form.Format name levels) h = format_plain name levels h
operands_plain (form.Frames frames) h = and_true _ _ (decimal_stated frames h) refl
operands_plain (form.Hold hold) h = and_true _ _ (decimal_stated hold h) refl
operands_plain (form.Map va pa len prot) h =
    let b = both (nat_lt va (2 ^ 64) && nat_lt pa (2 ^ 64)) (nat_lt len (2 ^ 64)) h in
    let a = both (nat_lt va (2 ^ 64)) (nat_lt pa (2 ^ 64)) b.0 in
    and_true _ _ (hex_stated va a.0) (and_true _ _ (hex_stated pa a.1) (and_true _ _ (hex_stated len b.1) (and_true _ _ (prot_plain prot) refl)))
operands_plain (form.Unmap va len) h =
    let b = both (nat_lt va (2 ^ 64)) (nat_lt len (2 ^ 64)) h in
    and_true _ _ (hex_stated va b.0) (and_true _ _ (hex_stated len b.1) refl)
operands_plain (form.Lookup va) h = and_true _ _ (hex_stated va h) refl
operands_plain form.Dump h = refl
operands_plain form.Release h = refl
operands_plain (form.Fork at) h = and_true _ _ (hex_stated at h) refl
operands_plain form.With h = refl
operands_plain form.End h = refl
operands_plain form.Close h = refl
operands_plain (form.Walk va) h = and_true _ _ (hex_stated va h) refl
operands_plain form.Census h = refl

keyword_plain : (k : Keyword) → is_plain (keyword_text k) ≡ true
keyword_plain Format = refl
keyword_plain Frames = refl
keyword_plain Hold = refl
keyword_plain Map = refl
keyword_plain Unmap = refl
keyword_plain Lookup = refl
keyword_plain Dump = refl
keyword_plain Release = refl
keyword_plain Fork = refl
keyword_plain With = refl
keyword_plain End = refl
keyword_plain Close = refl
keyword_plain Walk = refl
keyword_plain Census = refl

line_plain : (l : Line) → IsTrue (is_stated l) → are_plain (keyword_text (keyword_of l) ∷ operands l) ≡ true
line_plain l h = and_true _ _ (keyword_plain (keyword_of l)) (operands_plain l h)

-- the words of a line's text are the line's words
pub words_of_text : (l : Line) → IsTrue (is_stated l) → words (text_of l) ≡ keyword_text (keyword_of l) ∷ operands l
words_of_text l h = words_joined (keyword_text (keyword_of l)) (operands l) (line_plain l h)

pub no_feed : (l : Line) → IsTrue (is_stated l) → NoFeed (text_of l)
no_feed l h = fed_joined (keyword_text (keyword_of l)) (operands l) (line_plain l h)

-- a line with a line's words has its text
pub spelled : (raw : List ℕ) (k : Keyword) (l : Line) → words raw ≡ keyword_text k ∷ operands l → keyword_of l ≡ k → raw ≡ text_of l
spelled raw k l e f =
    sym (join_with_byte-slice_split 32 raw) ∙ ap (join_with_byte 32) e ∙ ap (λ m. join_with_byte 32 (keyword_text m ∷ operands l)) (sym f)

pub unspelled : (raw : List ℕ) (k : Keyword) → ((l : Line) → IsTrue (is_stated l) → keyword_of l ≡ k → words raw ≢ keyword_text k ∷ operands l)
    → (l : Line) → IsTrue (is_stated l) → keyword_of l ≡ k → raw ≢ text_of l
unspelled raw k none l h f e = none l h f (ap words e ∙ words_of_text l h ∙ ap (λ m. keyword_text m ∷ operands l) f)

-- the first operand of a format line
pub format_name : (name : Name) (levels : ℕ) → get_or (format_operands name levels) 0 [] ≡ name_text name
format_name AmdV1 levels = refl
format_name VtdSs3 levels = refl
format_name VtdSs4 levels = refl
format_name VtdSs5 levels = refl
format_name X86L4 levels = refl
format_name X86L5 levels = refl
format_name Vmsa4 levels = refl
format_name Vmsa16 levels = refl
format_name Vmsa64 levels = refl
format_name Sv39 levels = refl
format_name Sv48 levels = refl
format_name Sv57 levels = refl

-- no format has this name
pub no_format : (rest w : List ℕ) → word 0 rest ≡ w → ((name : Name) → w ≢ name_text name) → (l : Line) → keyword_of l ≡ Format → words rest ≢ operands l
no_format rest w first none (form.Format name levels) k e =
    none name (sym first ∙ ap (λ ws. get_or ws 0 []) e ∙ format_name name levels)
no_format rest w first none l k e = let f : keyword_of l ≡ Format = k in cc

pub some_spelled : (raw : List ℕ) (k : Keyword) (o : Option Line) → IfSome o (λ l. words raw ≡ keyword_text k ∷ operands l) → IfSome o (λ l. keyword_of l ≡ k) → IfSome o (λ l. raw ≡ text_of l)
some_spelled raw k None e f = e
some_spelled raw k (Some l) e f = spelled raw k l e f

pub none_unspelled : (raw : List ℕ) (k : Keyword) (o : Option Line) → IfNone o ((l : Line) → IsTrue (is_stated l) → keyword_of l ≡ k → words raw ≢ keyword_text k ∷ operands l)
    → IfNone o ((l : Line) → IsTrue (is_stated l) → keyword_of l ≡ k → raw ≢ text_of l)
none_unspelled raw k None n = unspelled raw k n
none_unspelled raw k (Some l) n = n
