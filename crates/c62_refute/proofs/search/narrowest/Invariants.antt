use Rattle.std.proofs.Common.{◌≡◌, ◌<◌}
use Rattle.std.specs.Prelude.{⊤, MatchOption}
use Rattle.c62_refute.proofs.search.narrowest.Given as goal

abbrev pub invariant-loop-window : goal.invariant-loop-window
invariant-loop-window l = record {
  here : l.i ≡ l.window-index;
  best : MatchOption l.best ⊤ (λ i. i < l.window-index);
}
