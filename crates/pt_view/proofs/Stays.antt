-- What no call changes, over one call after the other, and the parts of a view that stay.
use Rattle.std.proofs.Common.{refl, sym, ◌∙◌}
use Rattle.pt_view.specs.declared.view.View.{View}
use Rattle.pt_view.specs.Views.{Aside, SameBook, SameHistory, SamePurse, SameRange, Stays}

module _ {X S : Type 0} {space : X → S} {aside : X → Aside} {alone : X → Type 0} where
  pub stays_here : {x : X} → Stays space aside alone x x
  stays_here = record { same_space = refl; same_aside = refl; still_alone = λ a. a }

  pub stays_on : {x y z : X} → Stays space aside alone x y → Stays space aside alone y z → Stays space aside alone x z
  stays_on a b = record { same_space = b.same_space ∙ a.same_space; same_aside = b.same_aside ∙ a.same_aside; still_alone = λ h. b.still_alone (a.still_alone h) }

pub range_here : {v : View} → SameRange v v
range_here = record { frames = refl; levels = refl; first = refl; count = refl }

pub range_on : {u v w : View} → SameRange u v → SameRange v w → SameRange u w
range_on a b = record { frames = b.frames ∙ a.frames; levels = b.levels ∙ a.levels; first = b.first ∙ a.first; count = b.count ∙ a.count }

pub book_here : {v : View} → SameBook v v
book_here = record { pieces = refl; tables = refl; top = refl }

pub book_on : {u v w : View} → SameBook u v → SameBook v w → SameBook u w
book_on a b = record { pieces = b.pieces ∙ a.pieces; tables = b.tables ∙ a.tables; top = b.top ∙ a.top }

pub book_back : {v w : View} → SameBook v w → SameBook w v
book_back a = record { pieces = sym a.pieces; tables = sym a.tables; top = sym a.top }

pub purse_here : {v : View} → SamePurse v v
purse_here = record { purse = refl; end = refl }

pub purse_on : {u v w : View} → SamePurse u v → SamePurse v w → SamePurse u w
purse_on a b = record { purse = b.purse ∙ a.purse; end = b.end ∙ a.end }

pub history_on : {u v w : View} → SameHistory u v → SameHistory v w → SameHistory u w
history_on a b = record { taken = b.taken ∙ a.taken; absent = b.absent ∙ a.absent; stores = b.stores ∙ a.stores }
