use Rattle.std.proofs.Common.{map, take}
use Rattle.std.specs.List.{AllZip}
use Rattle.c62_adopt_cut.specs.Drafted.{draft_of}
use Rattle.c62_adopt.specs.Judged.{AreLawful}
use Rattle.c62_adopt.proofs.breach.lists_of.Given as goal

abbrev pub invariant-loop-draft : goal.invariant-loop-draft
invariant-loop-draft l = AllZip (λ draft list. AreLawful (map draft_of l.drafts) (draft_of draft).issues list.items)
    (take l.draft-index l.drafts) l.lists.items
