use Rattle.std.proofs.Common.{◌≡◌, ◌≤◌, length}
use Rattle.c62_adopt_spell.specs.Local.{longest}
use Rattle.c62_adopt_spell.proofs.local.longest_run.Given as goal

abbrev pub invariant-loop-rest : goal.invariant-loop-rest
invariant-loop-rest l = record {
  so_far : longest l.most l.run l.rest ≡ longest 0 0 l.text;
  small : l.most ≤ 32;
  run : l.run ≤ 32;
}

abbrev pub decreases-loop-rest : goal.decreases-loop-rest
decreases-loop-rest l = length l.rest
