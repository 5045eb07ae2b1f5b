-- The pages under the parts of a block, and multiples of powers of two.
use Rattle.std.proofs.Common.{◌≡◌, ℕ, ◌+◌, ◌-◌, ◌*◌, ◌/◌, ◌%◌, ◌^◌, ◌<◌, ◌≤◌, ap, sym, subst, ◌∙◌, arith, true}
use Rattle.std.proofs.lemmas.Bool.{eq-eqb}
use Rattle.std.proofs.lemmas.Nat.{mod-mul-add, mod_low, mul-le, pow-add, pow_pos, shr_below}
use Rattle.std.proofs.Math.Nat.{div-add-mod}
use Rattle.pt_model.specs.declared.block.Prot.{Prot}
use Rattle.pt_model.specs.Layout.{Layout}
use Rattle.pt_model.proofs.Quotients.{whole}
use Rattle.pt_format.specs.Words.{IsUnder, MayBeLeaf}
use Rattle.pt_manual.specs.EntryBits.{is_aligned}

-- the place of a page in its block
pub place : (m first here : ℕ) → first % m ≡ 0 → first ≤ here → here < first + m → here % m ≡ here - first
place m first here aligned from to =
    let whole = div-add-mod first m in
    let less : here - first < m = omega arith in
    let is : here ≡ first / m * m + (here - first) = omega (arith, whole) in
    ap (λ n. n % m) is ∙ mod-mul-add (first / m) m (here - first) less

-- the parts of a block lie in it
part_room : (log2 entry part : ℕ) → entry ≤ log2 → part < 2 ^ (log2 - entry) → (part + 1) * 2 ^ entry ≤ 2 ^ log2
part_room log2 entry part from low =
    let split : log2 - entry + entry ≡ log2 = omega arith in
    let wide : 2 ^ log2 ≡ 2 ^ (log2 - entry) * 2 ^ entry = ap (λ (k : ℕ). 2 ^ k) (sym split) ∙ pow-add 2 (log2 - entry) entry in
    let most = mul-le (part + 1) (2 ^ entry) (2 ^ (log2 - entry)) (2 ^ entry) (omega arith) (omega arith) in
    omega (arith, wide, most)

pub in_block : {f : Layout} {level log2 out part first here : ℕ} {prot : Prot} → f.index * level ≤ log2 → MayBeLeaf f level log2 out prot part →
    IsUnder f level log2 first part here → here % 2 ^ log2 ≡ here - first
in_block {f} {level} {log2} {out} {part} {first} {here} from may under =
    let room = part_room log2 (f.index * level) part from may.a_part in
    let low = under.from in let high = under.to in
    place (2 ^ log2) first here under.aligned (omega arith) (omega arith)

-- Multiples of a power of two.

pub multiple : (q k : ℕ) → q * 2 ^ k % 2 ^ k ≡ 0
multiple q k =
    let split : q * 2 ^ k ≡ q * 2 ^ k + 0 = omega arith in
    ap (λ n. n % 2 ^ k) split ∙ mod_low q k 0 (pow_pos k)

-- what is below a greater power has room up to it
pub room_above : (n k most : ℕ) → k ≤ most → n < 2 ^ most → n % 2 ^ k ≡ 0 → n + 2 ^ k ≤ 2 ^ most
room_above n k most less low aligned =
    let is : most ≡ most - k + k = omega arith in
    let few : n / 2 ^ k < 2 ^ (most - k) = shr_below n (most - k) k (subst (λ m. n < 2 ^ m) is low) in
    let product : (n / 2 ^ k + 1) * 2 ^ k ≤ 2 ^ (most - k) * 2 ^ k =
    mul-le (n / 2 ^ k + 1) (2 ^ k) (2 ^ (most - k)) (2 ^ k) (omega arith) (omega arith) in
    let high : 2 ^ most ≡ 2 ^ (most - k) * 2 ^ k = ap (λ (m : ℕ). 2 ^ m) is ∙ pow-add 2 (most - k) k in
    let own = whole n k aligned in
    omega arith

-- pages that are aligned are bytes that are
pub aligned_bytes : (granule k n : ℕ) → n % 2 ^ k ≡ 0 → is_aligned (granule + k) (n * 2 ^ granule) ≡ true
aligned_bytes granule k n aligned =
    let own = whole n k aligned in
    let both : 2 ^ (granule + k) ≡ 2 ^ granule * 2 ^ k = pow-add 2 granule k in
    let product : n * 2 ^ granule ≡ n / 2 ^ k * 2 ^ (granule + k) =
    ap (λ m. m * 2 ^ granule) own
    ∙ (let s : n / 2 ^ k * 2 ^ k * 2 ^ granule ≡ n / 2 ^ k * (2 ^ granule * 2 ^ k) = omega arith in s)
    ∙ ap (λ w. n / 2 ^ k * w) (sym both) in
    eq-eqb _ _ (ap (λ m. m % 2 ^ (granule + k)) product ∙ multiple (n / 2 ^ k) (granule + k))
