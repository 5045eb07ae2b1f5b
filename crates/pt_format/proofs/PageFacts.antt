-- Pages of addresses and of ranges.
use Rattle.std.proofs.Common.{◌≡◌, ℕ, ◌+◌, ◌-◌, ◌*◌, ◌/◌, ◌%◌, ◌^◌, ◌<◌, ◌≤◌, ◌∙◌, Bool, ap, sym, subst, refl, arith, true, Some, None}
use Rattle.std.specs.Prelude.{nat_le, ◌==◌, if◌then◌else◌}
use Rattle.std.proofs.lemmas.Nat.{shr_below, shl_below, shl_whole, pow_pos, mod_below}
use Rattle.std.proofs.lemmas.Bool.{le-leb, eq-eqb}
use Rattle.std.proofs.Math.Pow.{pow_mono}
use Rattle.pt_model.specs.Layout.{Layout, input_pages}
use Rattle.pt_model.specs.Pages.{has_page, page_under, range_at}
use Rattle.pt_format.specs.Laws.{IsLayout}

-- the page that an address names is one of the space
pub under_within : (f : Layout) (address : ℕ) → f.granule < f.input → page_under f address < input_pages f
under_within f address low =
    let whole : f.input - f.granule + f.granule ≡ f.input = omega arith in
    shr_below (address % 2 ^ f.input) (f.input - f.granule) f.granule
    (rw whole (mod_below address (2 ^ f.input) (pow_pos f.input)))

pub pages_small : (f : Layout) → IsLayout f → input_pages f ≤ 2 ^ 52
pages_small f l = let high = l.pages_high in let small : f.input - f.granule ≤ 52 = omega arith in pow_mono small

pub under_small : (f : Layout) (address : ℕ) → IsLayout f → page_under f address < 2 ^ 52
under_small f address l = omega (arith, under_within f address l.input_low, pages_small f l)

-- the pages of so many bytes
pub count_small : (f : Layout) (len : ℕ) → IsLayout f → len < 2 ^ 64 → len / 2 ^ f.granule < 2 ^ 52
count_small f len l fits =
    let low = l.granule_low in
    let wide : 64 ≤ 52 + f.granule = omega arith in
    let more : 2 ^ 64 ≤ 2 ^ (52 + f.granule) = pow_mono wide in
    let within : len < 2 ^ (52 + f.granule) = omega arith in
    shr_below len 52 f.granule within

-- the bytes before a page of the space
pub page_start : (f : Layout) (page : ℕ) → IsLayout f → page < input_pages f → page * 2 ^ f.granule < 2 ^ f.input
page_start f page l within =
    let low = l.input_low in
    let whole : f.input - f.granule + f.granule ≡ f.input = omega arith in
    subst (λ n. page * 2 ^ f.granule < 2 ^ n) whole (shl_below page (f.input - f.granule) f.granule within)

pub start_fits : (f : Layout) (page : ℕ) → IsLayout f → page < input_pages f → page * 2 ^ f.granule % 2 ^ 64 ≡ page * 2 ^ f.granule
start_fits f page l within =
    let low = l.input_low in
    let high = l.input_high in
    let whole : f.input - f.granule + f.granule ≤ 64 = omega arith in
    shl_whole page (f.input - f.granule) f.granule 64 within whole

abbrev pub run : (first count : ℕ) → ℕ × ℕ
run first count = (first, count)

-- the range, where the first byte and the last one have pages: it is one where these have so many between them
pub range_tested : (f : Layout) (va len last : ℕ) (t : Bool) → 0 < len → last ≡ va + len - 1 → last < 2 ^ 64 → has_page f va ≡ true →
    has_page f last ≡ true → (page_under f va + len / 2 ^ f.granule == page_under f last + 1) ≡ t →
    range_at f va len ≡ (if t then Some (run (page_under f va) (len / 2 ^ f.granule)) else None)
range_tested f va len last t some is fits a b d =
    let within : nat_le (va + len) (2 ^ 64) ≡ true = le-leb _ _ (omega arith) in
    let end : has_page f (va + len - 1) ≡ true = ap (has_page f) (sym is) ∙ b in
    let runs : (page_under f va + len / 2 ^ f.granule == page_under f (va + len - 1) + 1) ≡ t =
    ap (λ (n : ℕ). page_under f va + len / 2 ^ f.granule == page_under f n + 1) (sym is) ∙ d in
    rw (a, end, within, runs) refl

pub range_some : (f : Layout) (va len : ℕ) → has_page f va ≡ true → has_page f (va + len - 1) ≡ true → va + len ≤ 2 ^ 64 →
    page_under f va + len / 2 ^ f.granule ≡ page_under f (va + len - 1) + 1 →
    range_at f va len ≡ Some (page_under f va, len / 2 ^ f.granule)
range_some f va len a b c d =
    let within : nat_le (va + len) (2 ^ 64) ≡ true = le-leb _ _ c in
    let runs : (page_under f va + len / 2 ^ f.granule == page_under f (va + len - 1) + 1) ≡ true = eq-eqb _ _ d in
    rw (a, b, within, runs) refl
