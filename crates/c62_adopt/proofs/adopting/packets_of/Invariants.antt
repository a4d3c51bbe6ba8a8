use Rattle.std.proofs.Common.{map, take, drop}
use Rattle.std.specs.List.{AllZip}
use Rattle.std.specs.Vec.Iter.{into_iter_items}
use Rattle.c62_adopt_cut.specs.Drafted.{draft_of}
use Rattle.c62_adopt.specs.Blocks.{IsBlockOf}
use Rattle.c62_adopt.specs.Judged.{AreLawful}
use Rattle.c62_adopt.proofs.adopting.packets_of.Given as goal

abbrev pub invariant-loop-draft : goal.invariant-loop-draft
invariant-loop-draft l = record {
  made : AllZip (λ draft. IsBlockOf (map draft_of l.drafts) (draft_of draft)) (take l.draft-index l.drafts) l.packets;
  left : AllZip (λ draft list. AreLawful (map draft_of l.drafts) (draft_of draft).issues list.items)
      (drop l.draft-index l.drafts) (into_iter_items l.rest);
}
