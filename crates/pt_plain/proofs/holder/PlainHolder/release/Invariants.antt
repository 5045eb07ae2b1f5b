use Rattle.std.proofs.Common.{◌≡◌, ℕ, List, length}
use Rattle.pt_view.specs.Calls.{IsFreed}
use Rattle.pt_plain.proofs.holder.PlainHolder.release.Given as goal

abbrev pub invariant-loop : goal.invariant-loop
invariant-loop g l = record {
  frames : List ℕ;
  count : length frames ≡ l.counter;
  freed : IsFreed ⊥ frames l.initial.self.view l.self.view;
  aside : l.self.aside ≡ l.initial.self.aside;
}
