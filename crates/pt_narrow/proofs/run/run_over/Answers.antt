use Rattle.std.proofs.Common.{List, map, ap, ◌∙◌}
use Rattle.pt_narrow.specs.declared.narrowed.Narrowing.{Narrowing}
use Rattle.pt_narrow.specs.Standing.{opened_by}
use Rattle.pt_narrow.proofs.Ran.{none_cut}
use Rattle.pt_narrow.proofs.run.run_over.Goals as goal

pub into_plain-requires : goal.into_plain-requires
into_plain-requires g c = record {
  uncut = none_cut c.run_part.new.owner.cuts
      (c.in_ok-run_part.ensures.stays.cuts ∙ ap (λ (ns : List Narrowing). map opened_by ns) c.new-owner.ensures.uncut);
}
