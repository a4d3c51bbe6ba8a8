use Rattle.std.proofs.Common.{◌≡◌, Some}
use Rattle.std.specs.List.{find}
use Rattle.c62_adopt_cut.specs.declared.draft.Issue.{Issue as IssueRead}
use Rattle.c62_adopt_cut.specs.Drafted.{issue_of}
use Rattle.c62_adopt_cut.specs.Flight.{branches}
use Rattle.c62_adopt_cut.proofs.DraftLemmas.{over_at}
use Rattle.c62_adopt_cut.proofs.flight.over_in.Goals as goal

pub returns-in-Some : goal.returns-in-Some
returns-in-Some c =
    let found : Some c.in-Some.branch.now ≡ find (λ (issue : IssueRead). branches (issue_of issue))
    c.args.draft.now.issues.items =
    rw c.deref.ensures.value at (rw c.in-Some.is at c.first_branch.ensures) in
    let over = over_at c.args.next c.args.draft.now c.in-Some.branch.now found in
    let behind = c.cycle_behind.ensures.cycle in
    let least = c.min.ensures in
    cc
