-- The latest cycles of a schedule.
use Rattle.std.proofs.Common.{arith, ◌≡◌, ℕ, ◌+◌, ◌<◌, ◌≤◌, ℤ, List, length, Some}
use Rattle.std.proofs.lemmas.Int.{ints}
use Rattle.c62_insn.specs.declared.insn.Insn.{Insn}
use Rattle.c62_depend.specs.Plan.{IsPlan}
use Rattle.c62_depend.specs.Latency.{latency}
use Rattle.c62_depend.specs.Height.{height}
use Rattle.c62_depend.proofs.Rules.{height_is}
use Rattle.c62_bound.proofs.Paths.{height_ends}
use Rattle.c62_why.specs.Laws.{SlackIsExact}

pub slack_exact : (block : List Insn) (cycles : ℕ) → SlackIsExact block cycles
slack_exact block cycles plan enough = record {
  kept = λ i j needs is. (
      let short = plan.short i j needs is in
      let before : i < j = short.before in
      let inside : j < length block = short.within in
      let above = (height_is block i (omega (arith, before, inside))).above j needs is in
      omega (arith, ints, above, enough i (omega (arith, before, inside)), enough j inside));
  ends = λ j inside. (
      let delay = (height_is block j inside).delay in
      omega (arith, delay, enough j inside));
  last = λ set j s seated inside at. (
      let ends = height_ends block set cycles plan seated j s inside at in
      omega (arith, ends));
}
