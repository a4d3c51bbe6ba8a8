use Rattle.std.proofs.Common.{◌≡◌, ◌++◌, drop, map}
use Rattle.std.specs.List.{filter}
use Rattle.c62_adopt_cut.specs.declared.draft.Issue.{Issue}
use Rattle.c62_explain_packets.specs.Sharing.{shares}
use Rattle.c62_explain_packets.proofs.sharing.lines_sharing.Given as goal

abbrev pub invariant-loop-other : goal.invariant-loop-other
invariant-loop-other l =
    l.lines.items ++ map (λ (other : Issue). other.line)
    (filter (shares l.resource l.issue) (drop l.other-index l.issues))
    ≡ map (λ (other : Issue). other.line) (filter (shares l.resource l.issue) l.issues)
