use Rattle.std.proofs.Common.{◌≡◌, ℕ, ◌<◌, length, Some}
use Rattle.std.specs.Prelude.{pos}
use Rattle.c62_raised.specs.Chain.{lead_in}
use Rattle.c62_raised.proofs.lead.at_once.Given as goal

abbrev pub invariant-loop-j : goal.invariant-loop-j
invariant-loop-j l = record {
  long : length l.leads.items ≡ l._j;
  each : (k : ℕ) → k < l._j → lead_in l.leads.items k ≡ Some (pos 0);
}
