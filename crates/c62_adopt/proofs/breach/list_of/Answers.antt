use Rattle.std.proofs.Common.{sym, subst}
use Rattle.std.specs.Prelude.{All}
use Rattle.c62_adopt_cut.specs.declared.draft.Issue.{Issue as IssueRead}
use Rattle.c62_adopt_cut.specs.Drafted.{issue_of}
use Rattle.c62_adopt.specs.Judged.{MayStand}
use Rattle.c62_adopt.proofs.Placing.{fine_stand}
use Rattle.c62_adopt.proofs.breach.list_of.Goals as goal

pub judged-requires-clause-stand : goal.judged-requires-clause-stand
judged-requires-clause-stand c =
    subst (All (λ (issue : IssueRead). MayStand (issue_of issue))) (sym c.deref.ensures.value)
    (fine_stand c.args.isa c.args.draft.now c.requires.fine)
