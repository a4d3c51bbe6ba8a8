use Rattle.std.proofs.Common.{◌-◌, ◌<◌, ◌≤◌, length, map, take}
use Rattle.c62_adopt_cut.specs.Drafted.{issue_of, draft_of}
use Rattle.c62_adopt.specs.Judged.{KeepRules, BreakFirst}
use Rattle.c62_adopt.proofs.breach.breach_in.Given as goal

abbrev pub invariant-loop-keep : goal.invariant-loop-keep
invariant-loop-keep l = record {
  order : l.keep < l.breaks;
  within : l.breaks ≤ length l.fn.draft.issues.items;
  kept : KeepRules (map draft_of l.drafts) (map issue_of (take l.keep l.fn.draft.issues.items));
  broken : BreakFirst (map draft_of l.drafts) (map issue_of (take l.breaks l.fn.draft.issues.items)) l.rule;
}

abbrev pub decreases-loop-keep : goal.decreases-loop-keep
decreases-loop-keep l = l.breaks - l.keep
