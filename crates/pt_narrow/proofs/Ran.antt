-- A run that is over stands in no cut.
use Rattle.std.proofs.Common.{◌≡◌, List, [], ◌∷◌, map, refl}
use Rattle.pt_narrow.specs.declared.narrowed.Narrowing.{Narrowing}
use Rattle.pt_narrow.specs.Standing.{opened_by}

pub none_cut : (ns : List Narrowing) → map opened_by ns ≡ [] → ns ≡ []
none_cut [] e = refl
none_cut (n ∷ ns) e = absurd (let w : ⊥ = cc in w)
