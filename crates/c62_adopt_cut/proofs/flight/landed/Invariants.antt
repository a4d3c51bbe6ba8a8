use Rattle.std.proofs.Common.{◌≡◌, ◌<◌, ◌^◌, drop, max}
use Rattle.std.specs.Prelude.{map}
use Rattle.c62_adopt_cut.specs.Drafted.{issue_of}
use Rattle.c62_adopt_cut.specs.Flight.{landed}
use Rattle.c62_adopt_cut.proofs.flight.landed.Given as goal

abbrev pub invariant-loop-issue : goal.invariant-loop-issue
invariant-loop-issue l = record {
  so_far : max l.last (landed l.start (map issue_of (drop l.issue-index l.issues))) ≡ landed l.start
      (map issue_of l.issues);
  small : l.last < 2 ^ 34;
}
