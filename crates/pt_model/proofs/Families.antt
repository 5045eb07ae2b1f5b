-- The words of further families of formats as data, at numbers: the shape of a layout holds them too.
use Rattle.std.proofs.Common.{◌≡◌, refl, true, false, Bool, ℕ, zero, suc, ◌+◌, ◌*◌, ◌-◌, ◌/◌, ◌%◌, ◌^◌}
use Rattle.std.specs.Prelude.{◌==◌, ◌&&◌, ◌||◌, not, nat_le, nat_lt, if◌then◌else◌}
use Rattle.pt_model.specs.declared.block.Prot.{Prot}
use Rattle.pt_model.specs.declared.block.Prot.TheVariants.{Read, ReadWrite}
use Rattle.pt_model.specs.Layout.{Found, nothing, page, table, alien}

abbrev pub w_bit : ℕ → Prot → ℕ
w_bit n Read = 0
w_bit n ReadWrite = n

abbrev pub granted : ℕ → (read write : Bool) → Found
granted out true true = page out ReadWrite
granted out true false = page out Read
granted out false true = alien
granted out false false = nothing

abbrev pub bit : ℕ → ℕ → Bool
bit k word = word / 2 ^ k % 2 == 1

-- how many ones a number ends in
abbrev pub ones : ℕ → ℕ → ℕ
ones zero n = 0
ones (suc fuel) n = elim (n % 2 == 1) [ true ↦ 1 + ones fuel (n / 2) | false ↦ 0 ]

abbrev pub amd_leaf : ℕ → ℕ → ℕ → Prot → ℕ → ℕ
amd_leaf level k out prot part =
    out * 2 ^ 12 + (if k == 9 * level then 0 else 2 ^ (11 + k) - 2 ^ 12 + 7 * 2 ^ 9) + 1 + 2 ^ 61 + w_bit (2 ^ 62) prot

abbrev pub amd_pointer : ℕ → ℕ → ℕ
amd_pointer level t = t + 1 + level * 2 ^ 9 + 2 ^ 61 + 2 ^ 62

abbrev pub amd_step : ℕ → ℕ → ℕ → Found
amd_step level word here =
    let field = word / 2 ^ 12 % 2 ^ 40 in
    let n = word / 2 ^ 9 % 8 in
    let k = ones 40 field + 1 in
    if not (bit 0 word) then nothing else (
    if not (field * 2 ^ 12 + n * 2 ^ 9 + 1 + (word / 2 ^ 61 % 4) * 2 ^ 61 == word) then alien else (
    if n == 0 && nat_lt level 3 then (if field % 2 ^ (9 * level) == 0 then granted (field + here % 2 ^ (9 * level)) (bit 61 word) (bit 62 word) else alien) else (
    if n == level then table (field * 2 ^ 12) else (
    if (n == 7) && (nat_lt level 3 && (nat_lt (9 * level) k && nat_le k (8 + 9 * level)))
    then granted (field / 2 ^ k * 2 ^ k + here % 2 ^ k) (bit 61 word) (bit 62 word) else alien))))

pub amd_eight_pages : amd_leaf 0 3 0x108 ReadWrite 0 ≡ 0x600000000010be01
amd_eight_pages = refl

pub amd_one_page : amd_leaf 0 0 1 Read 0 ≡ 0x2000000000001001
amd_one_page = refl

pub amd_page : amd_step 0 (amd_leaf 0 3 0x108 ReadWrite 0) 0xd ≡ page 0x10d ReadWrite
amd_page = refl

pub amd_default : amd_step 2 (amd_leaf 2 18 0x40000 Read 0) 0x12345 ≡ page 0x52345 Read
amd_default = refl

pub amd_great : amd_step 2 (amd_leaf 2 26 0x4000000 Read 0) 0x4012345 ≡ page 0x4012345 Read
amd_great = refl

pub amd_table : amd_step 5 (amd_pointer 5 0x100003000) 7 ≡ table 0x100003000
amd_table = refl

pub amd_written : amd_step 0 0x4000000000002001 5 ≡ alien
amd_written = refl

-- vmsa at a granule: the words of a group have own addresses
abbrev pub into_field : ℕ → ℕ → ℕ
into_field granule a = if granule == 16 then a % 2 ^ 48 + 2 ^ 12 * (a / 2 ^ 48) else a

abbrev pub out_of_field : ℕ → ℕ → ℕ
out_of_field granule word =
    word / 2 ^ granule % 2 ^ (48 - granule) * 2 ^ granule + (if granule == 16 then word / 2 ^ 12 % 2 ^ 4 * 2 ^ 48 else 0)

abbrev pub vmsa_leaf : (granule index level k out : ℕ) → Prot → ℕ → ℕ
vmsa_leaf granule index level k out prot part =
    into_field granule ((out + part * 2 ^ (index * level)) * 2 ^ granule) + (0xfc3 - w_bit 0x80 prot) - (if level == 0 then 0 else 2)
    + (if k == index * level then 0 else 2 ^ 52)

abbrev pub vmsa_step : (granule index : ℕ) → ℕ → ℕ → ℕ → Found
vmsa_step granule index level word here =
    let a = out_of_field granule word in
    let low = into_field granule a in
    let attributes = word % 2 ^ 52 - low in
    if not (bit 0 word) then nothing else (
    if (word == low + 3) && nat_lt 0 level then table a else (
    let kind = (if level == 0 then 0 else 2) in
    if ((word / 2 ^ 53 == 0) && nat_lt level 3) && ((a % 2 ^ (granule + index * level) == 0) && ((attributes + kind == 0xfc3) || (attributes + kind == 0xf43)))
    then page (a / 2 ^ granule + here % 2 ^ (index * level)) (if bit 7 word then Read else ReadWrite) else alien))

pub vmsa_first_of_sixteen : vmsa_leaf 12 9 0 4 0x80010 ReadWrite 0 ≡ 0x10000080010f43
vmsa_first_of_sixteen = refl

pub vmsa_last_of_sixteen : vmsa_leaf 12 9 0 4 0x80010 ReadWrite 15 ≡ 0x1000008001ff43
vmsa_last_of_sixteen = refl

pub vmsa_last_of_a_group : vmsa_leaf 14 11 0 7 128 Read 127 ≡ 0x100000003fcfc3
vmsa_last_of_a_group = refl

pub vmsa_wide_output : vmsa_leaf 16 13 0 0 0xf00000001 ReadWrite 0 ≡ 0x1ff43
vmsa_wide_output = refl

pub part_page : vmsa_step 12 9 1 (vmsa_leaf 12 9 1 13 0x40000 Read 5) (0x2000 + 5 * 512 + 77) ≡ page (0x40000 + 5 * 512 + 77) Read
part_page = refl

pub wide_page : vmsa_step 16 13 0 (vmsa_leaf 16 13 0 5 0xf00000020 ReadWrite 3) 3 ≡ page 0xf00000023 ReadWrite
wide_page = refl

pub vmsa_table : vmsa_step 16 13 2 (into_field 16 0x100030000 + 3) 3 ≡ table 0x100030000
vmsa_table = refl

abbrev pub riscv_leaf : ℕ → ℕ → ℕ → Prot → ℕ → ℕ
riscv_leaf level k out prot part = (if k == 9 * level then out * 2 ^ 10 else (out + 8) * 2 ^ 10 + 2 ^ 63) + 0xd3 + w_bit 4 prot

abbrev pub riscv_step : ℕ → ℕ → ℕ → Found
riscv_step level word here =
    let ppn = word / 2 ^ 10 % 2 ^ 44 in
    let low = word % 2 ^ 10 in
    let n = word / 2 ^ 63 in
    if not (bit 0 word) then nothing else (
    if not (n * 2 ^ 63 + ppn * 2 ^ 10 + low == word) then alien else (
    if (word == ppn * 2 ^ 10 + 1) && nat_lt 0 level then table (ppn * 2 ^ 12) else (
    if not ((low == 0xd3) || (low == 0xd7)) then alien else (
    let prot = (if bit 2 word then ReadWrite else Read) in
    if (n == 0) && (ppn % 2 ^ (9 * level) == 0) then page (ppn + here % 2 ^ (9 * level)) prot else (
    if (n == 1) && ((level == 0) && (ppn % 16 == 8)) then page (ppn - 8 + here % 16) prot else alien)))))

pub riscv_sixteen_pages : riscv_leaf 0 4 0x80010 ReadWrite 7 ≡ 0x80000000200060d7
riscv_sixteen_pages = refl

pub riscv_page : riscv_step 0 (riscv_leaf 0 4 0x80010 ReadWrite 7) 0x1f ≡ page 0x8001f ReadWrite
riscv_page = refl

pub riscv_high : riscv_step 2 (riscv_leaf 2 18 0x80000 ReadWrite 0) 0x40001 ≡ page 0x80001 ReadWrite
riscv_high = refl

pub riscv_table : riscv_step 1 (0x100003000 / 2 ^ 12 * 2 ^ 10 + 1) 9 ≡ table 0x100003000
riscv_table = refl
