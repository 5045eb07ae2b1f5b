-- Addresses as pages. Addresses and lengths are in bytes. The space is the addresses of `input` bits from 0 on, or,
-- where it is signed, the lower and the upper half of canonical addresses.
use Rattle.std.specs.Prelude.{◌≡◌, ◌↔◌, ℕ, ◌+◌, ◌-◌, ◌*◌, ◌/◌, ◌%◌, ◌^◌, ◌<◌, ◌≤◌, nat_le, nat_lt, ◌&&◌, ◌||◌, ◌==◌, IsTrue, Bool, if◌then◌else◌, Option, Some, None}
use Rattle.pt_model.specs.Layout.{Layout}

-- whether an address has a page
abbrev pub has_page : Layout → ℕ → Bool
has_page f address =
    if f.signed
    then nat_lt address (2 ^ (f.input - 1)) || nat_le (2 ^ 64 - 2 ^ (f.input - 1)) address
    else nat_lt address (2 ^ f.input)

-- the page that the low bits of an address name: its page, where it has one
abbrev pub page_under : Layout → ℕ → ℕ
page_under f address = address % 2 ^ f.input / 2 ^ f.granule

abbrev pub page_at : Layout → ℕ → Option ℕ
page_at f address = if has_page f address then Some (page_under f address) else None

-- the byte at which a page begins
abbrev pub byte_at : Layout → ℕ → ℕ
byte_at f page =
    page * 2 ^ f.granule + (if f.signed && nat_le (2 ^ (f.input - 1)) (page * 2 ^ f.granule) then 2 ^ 64 - 2 ^ f.input else 0)

-- whether a number of bytes is a number of whole pages
abbrev pub is_whole : Layout → ℕ → Bool
is_whole f bytes = bytes % 2 ^ f.granule == 0

-- The pages of the bytes of a range of whole pages, where each byte has one: it is tested at the first byte and at the
-- last one, which have so many pages between them. `RangesAreBytes` below says that no byte between is forgotten.
abbrev pub range_at : Layout → (va len : ℕ) → Option (ℕ × ℕ)
range_at f va len =
    if has_page f va && (has_page f (va + len - 1) && (nat_le (va + len) (2 ^ 64)
    && (page_under f va + len / 2 ^ f.granule == page_under f (va + len - 1) + 1)))
    then Some (page_under f va, len / 2 ^ f.granule) else None

-- the pages of a range of bytes: none where it isn't of whole pages, is empty, or has a byte with no page
abbrev pub pages_at : Layout → (va len : ℕ) → Option (ℕ × ℕ)
pages_at f va len = if is_whole f va && (is_whole f len && nat_lt 0 len) then range_at f va len else None

-- each byte of a range has a page: those of the first 2 ^ granule bytes have page p, and so on
abbrev pub HasPages : Layout → (va len p : ℕ) → Type 0
HasPages f va len p = (i : ℕ) → i < len → page_at f (va + i) ≡ Some (p + i / 2 ^ f.granule)

-- a range of whole pages has the run of pages that its bytes have, and a run where each of its bytes has a page of it
abbrev pub RangesAreBytes : Type 0
RangesAreBytes =
    (f : Layout) (va len p n : ℕ) →
    f.granule < f.input → f.input ≤ 64 →
    va < 2 ^ 64 → IsTrue (is_whole f va) → IsTrue (is_whole f len) → 0 < len →
    (range_at f va len ≡ Some (p, n)) ↔ ((n ≡ len / 2 ^ f.granule) × HasPages f va len p)
