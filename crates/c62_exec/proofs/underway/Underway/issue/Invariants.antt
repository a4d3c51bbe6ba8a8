use Rattle.std.proofs.Common.{◌≡◌, ◌≤◌, length}
use Rattle.c62_serial.specs.State.{line_capacity}
use Rattle.c62_exec.specs.declared.taken.Taken.TheVariants.{Nothing}
use Rattle.c62_exec.specs.Step.{Fit, issuing, issue_all}
use Rattle.c62_exec.proofs.underway.Underway.issue.Given as goal

abbrev pub invariant-loop-rest : goal.invariant-loop-rest
invariant-loop-rest l = record {
  issued : issue_all l.cycle (issuing l.self.pipe l.state.machine l.taken) l.rest ≡ issue_all l.cycle
      (issuing l.fn.self.pipe l.fn.state.machine Nothing) l.insns;
  fit : Fit l.cycle l.rest l.self.pipe l.state.machine;
  room : length l.rest ≤ l.state.room;
  turns : l.self.turns ≡ l.fn.self.turns;
  capacity : line_capacity l.state ≡ line_capacity l.fn.state;
}

abbrev pub decreases-loop-rest : goal.decreases-loop-rest
decreases-loop-rest l = length l.rest
