use Rattle.std.proofs.Common.{◌≡◌, ◌≤◌, ◌<◌, ℕ, length, get_or}
use Rattle.c62_pipeline.specs.declared.chosen.Choice.{Choice}
use Rattle.c62_pipeline.specs.Chosen.{given_up}
use Rattle.c62_pipeline.proofs.written.give_all_up.Given as goal

abbrev pub invariant-loop-choice : goal.invariant-loop-choice
invariant-loop-choice l = record {
  same : length l.choices ≡ length l.initial.choices;
  before : (k : ℕ) (d : Choice) → k < l.choice-index
      → get_or l.choices k d ≡ given_up (get_or l.initial.choices k d);
  behind : (k : ℕ) (d : Choice) → l.choice-index ≤ k → get_or l.choices k d ≡ get_or l.initial.choices k d;
}
