use Rattle.std.proofs.Common.{ap, ◌∙◌, sym, Some}
use Rattle.pt_model.proofs.RangeBytes.{bytes_of_range, range_of_bytes}
use Rattle.pt_model.proofs.ranges_are_bytes.Goals as goal

pub returns : goal.returns
returns c = λ f va len p n low high fits whole_va whole_len some. (
  bytes_of_range f va len low high fits whole_va whole_len some p n,
  (λ both. range_of_bytes f va len low high fits whole_va whole_len some p both.1 ∙ ap (λ m. Some (p, m)) (sym both.0)),
)
