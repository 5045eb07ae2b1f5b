use Rattle.std.proofs.Common.{◌≡◌, ◌≢◌, ◌+◌, ◌-◌, ◌*◌, ◌/◌, ◌%◌, ◌^◌, ◌≤◌, ◌<◌, ℕ, arith, ap, ◌∙◌}
use Rattle.std.specs.Prelude.{IsTrue, None, Some, min}
use Rattle.std.proofs.lemmas.Nat.{one_shl}
use Rattle.pt_num.proofs.Bits.{exponent_below}
use Rattle.pt_model.specs.Layout.{Layout, is_size, input_pages, output_pages}
use Rattle.pt_model.specs.Tiling.{greatest_size}
use Rattle.pt_tile.specs.Sizes.{IsLarger}
use Rattle.pt_tile.proofs.TileFacts.{greatest_at}
use Rattle.pt_tile.proofs.RunFacts.{IsCut, run_some, fitting_some, fewer_fit, next_up, none_up, cut_is}
use Rattle.pt_tile.proofs.runs.run_length.Given.{Over}
use Rattle.pt_tile.proofs.runs.run_length.Goals as goal
use Rattle.pt_tile.proofs.runs.run_length.Goals.{After-min}

-- the first size is below the bits of a number
small : (g : Layout) (first out left k : ℕ) → IsTrue (is_size g 0) → left ≢ 0 → left < 2 ^ 64 →
    first + left ≤ input_pages g → out + left ≤ output_pages g → k ≡ greatest_size g first out left → k < 64
small g first out left k z some fits hi ho e = exponent_below k left (greatest_at g first out left k z some hi ho e).fits fits

pub overflow_shr-fitting : goal.overflow_shr-fitting
overflow_shr-fitting g c =
    small g.F.Format.layout c.args.first c.args.out c.args.left c.args.log2 g.met.F.Format.lawful_layout.has_pages
    c.requires.some (omega arith) c.requires.in_input c.requires.in_output c.requires.first

pub overflow_add-log2 : goal.overflow_add-log2
overflow_add-log2 g c =
    let few : c.args.log2 < 64 = small g.F.Format.layout c.args.first c.args.out c.args.left c.args.log2 g.met.F.Format.lawful_layout.has_pages
    c.requires.some (omega arith) c.requires.in_input c.requires.in_output c.requires.first in
    omega arith

pub returns-in-None-clause-some : goal.returns-in-None-clause-some
returns-in-None-clause-some g c =
    let top = greatest_at g.F.Format.layout c.args.first c.args.out c.args.left c.args.log2 g.met.F.Format.lawful_layout.has_pages
    c.requires.some c.requires.in_input c.requires.in_output c.requires.first in
    fitting_some c.args.log2 c.args.left top.fits

pub returns-in-None-clause-run : goal.returns-in-None-clause-run
returns-in-None-clause-run g c = λ prot.
    let pages = g.met.F.Format.lawful_layout.has_pages in
    let top = greatest_at g.F.Format.layout c.args.first c.args.out c.args.left c.args.log2 pages
    c.requires.some c.requires.in_input c.requires.in_output c.requires.first in
    let fits : c.args.left / 2 ^ c.args.log2 * 2 ^ c.args.log2 ≤ c.args.left = fewer_fit c.args.log2 c.args.left (c.args.left / 2 ^ c.args.log2) (omega arith) in
    run_some g.F.Format.layout prot pages c.args.log2 (c.args.first + c.args.left) (c.args.left / 2 ^ c.args.log2) c.args.first c.args.out c.args.left
    c.requires.in_input c.requires.in_output top
    (none_up g.F.Format.layout c.args.log2 c.args.first c.args.out (c.args.first + c.args.left) None c.in-None.ensures.least tt) (fitting_some c.args.log2 c.args.left top.fits) fits (omega arith)

-- the number of blocks with the shift as a power
by_power : (k first left size down count : ℕ) → size < 64 →
    count ≡ min (left / 2 ^ k) ((down + 1 * 2 ^ size % 2 ^ 64 - first) / 2 ^ k) → count ≡ min (left / 2 ^ k) ((down + 2 ^ size - first) / 2 ^ k)
by_power k first left size down count few e =
    e ∙ ap (λ (p : ℕ). min (left / 2 ^ k) ((down + p - first) / 2 ^ k)) (one_shl size 64 few)

cut : (g : Layout) (first out left k size down count : ℕ) → IsTrue (is_size g 0) → left ≢ 0 →
    first + left ≤ input_pages g → out + left ≤ output_pages g → k ≡ greatest_size g first out left →
    IsLarger g (k + 1) first out (Some size) → size < 64 → down % 2 ^ size ≡ 0 → down ≤ first → first < down + 2 ^ size →
    count ≡ min (left / 2 ^ k) ((down + 1 * 2 ^ size % 2 ^ 64 - first) / 2 ^ k) → IsCut g k first out left (down + 2 ^ size) count
cut g first out left k size down count z some hi ho e l few aligned low next is =
    cut_is g k first out left size (down + 2 ^ size) count (greatest_at g first out left k z some hi ho e) l
    (next_up first size down aligned low) next (by_power k first left size down count few is)

-- the run is cut where the first larger size may begin
is_cut : (g : Over) (c : After-min g) → IsCut g.F.Format.layout c.args.log2 c.args.first c.args.out c.args.left (c.align_down.result + 2 ^ c.in-Some.size) c.min.result
is_cut g c =
    cut g.F.Format.layout c.args.first c.args.out c.args.left c.args.log2 c.in-Some.size c.align_down.result c.min.result
    g.met.F.Format.lawful_layout.has_pages c.requires.some c.requires.in_input c.requires.in_output c.requires.first
    c.in-Some.ensures.least c.in-Some.ensures.small c.align_down.ensures.multiple c.align_down.ensures.at_most c.align_down.ensures.greatest
    c.min.ensures

pub returns-in-Some-clause-some : goal.returns-in-Some-clause-some
returns-in-Some-clause-some g c = (is_cut g (goal.at.returns-in-Some-clause-some g c).After-min).some

pub returns-in-Some-clause-run : goal.returns-in-Some-clause-run
returns-in-Some-clause-run g c = λ prot.
    let pages = g.met.F.Format.lawful_layout.has_pages in
    let top = greatest_at g.F.Format.layout c.args.first c.args.out c.args.left c.args.log2 pages
    c.requires.some c.requires.in_input c.requires.in_output c.requires.first in
    let is = is_cut g (goal.at.returns-in-Some-clause-run g c).After-min in
    run_some g.F.Format.layout prot pages c.args.log2 (c.align_down.result + 2 ^ c.in-Some.size) c.min.result
    c.args.first c.args.out c.args.left c.requires.in_input c.requires.in_output top
    (none_up g.F.Format.layout c.args.log2 c.args.first c.args.out (c.align_down.result + 2 ^ c.in-Some.size) (Some c.in-Some.size) c.in-Some.ensures.least
    (next_up c.args.first c.in-Some.size c.align_down.result c.align_down.ensures.multiple c.align_down.ensures.at_most)) is.some is.fits is.before

pub returns-in-Some-clause-ends : goal.returns-in-Some-clause-ends
returns-in-Some-clause-ends g c = (is_cut g (goal.at.returns-in-Some-clause-ends g c).After-min).ends
