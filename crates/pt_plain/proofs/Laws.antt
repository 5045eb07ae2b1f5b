-- The laws of a format, as one fact.
use Rattle.pt_model.specs.Layout.{Layout}
use Rattle.pt_format.specs.Laws.{IsLayout, WordsDiffer}
use Rattle.pt_format.specs.Manual.{StepsAgree}

pub record Laws (f : Layout) : Type 0 where
  pub layout : IsLayout f
  pub differ : WordsDiffer f
  pub agree : StepsAgree f
