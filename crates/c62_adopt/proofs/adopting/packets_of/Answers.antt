use Rattle.std.proofs.Common.{arith, ◌≡◌, ◌+◌, List, map, take, drop, take_all, sym, subst}
use Rattle.std.specs.List.{AllZip}
use Rattle.std.specs.Prelude.{Vec}
use Rattle.std.specs.declared.alloc.Global.{Global}
use Rattle.std.specs.Vec.Iter.{into_iter_items}
use Rattle.c62_packet.specs.Packed.{Packed}
use Rattle.c62_packet.specs.declared.placed.Placed.{Placed}
use Rattle.c62_adopt_cut.specs.declared.draft.Draft.{Draft as DraftRead}
use Rattle.c62_adopt_cut.specs.Drafted.{draft_of}
use Rattle.c62_adopt.specs.Blocks.{IsBlockOf}
use Rattle.c62_adopt.specs.Judged.{AreLawful}
use Rattle.c62_adopt.specs.Packing.{IsSound}
use Rattle.c62_adopt.proofs.BlockLemmas.{is_packet_block, is_block_of}
use Rattle.c62_adopt.proofs.PacketsLemmas.{zip_few, zip_more, zip_next, zip_map}
use Rattle.c62_adopt.proofs.adopting.packets_of.Goals as goal

abbrev ListsFrom : List DraftRead → List DraftRead → List (Vec Placed Global) → Type 0
ListsFrom whole = AllZip (λ draft list. AreLawful (map draft_of whole) (draft_of draft).issues list.items)

abbrev IsMade : List DraftRead → DraftRead → Packed → Type 0
IsMade whole draft = IsBlockOf (map draft_of whole) (draft_of draft)

pub of_lawful-block-requires : goal.of_lawful-block-requires
of_lawful-block-requires c =
    let drafts : List DraftRead = c.args.drafts.now in
    let draft = c.draft-item.result in
    let next = zip_next (λ (d : DraftRead) (list : Vec Placed Global). AreLawful (map draft_of drafts)
    (draft_of d).issues list.items) drafts (into_iter_items c.next.new.self) c.loop-draft.draft-index draft
    c.in-Some.list c.loop-draft-test.true c.draft-item.is
    (subst (ListsFrom drafts (drop c.loop-draft.draft-index drafts)) c.in-Some.ensures.items
    c.loop-draft.invariant.left) in
    is_packet_block c.args.isa (map draft_of drafts) (draft_of draft) c.in-Some.list.items next.0
    (subst (λ (d : DraftRead). IsSound c.args.isa (map draft_of drafts) (draft_of d)) (sym c.draft-item.is)
    (c.requires.sound c.loop-draft.draft-index draft c.loop-draft-test.true)) c.copied_label.result

pub put-requires : goal.put-requires
put-requires c =
    let few = zip_few (IsMade c.args.drafts.now) c.args.drafts.now c.loop-draft.packets c.loop-draft.draft-index
    c.loop-draft-test.true c.loop-draft.invariant.made in
    omega (arith, few, c.requires.few)

pub loop-draft-preserved : goal.loop-draft-preserved
loop-draft-preserved c =
    let drafts : List DraftRead = c.args.drafts.now in
    let draft = c.draft-item.result in
    let k = c.loop-draft.draft-index in
    let next = zip_next (λ (d : DraftRead) (list : Vec Placed Global). AreLawful (map draft_of drafts)
    (draft_of d).issues list.items) drafts (into_iter_items c.next.new.self) k draft c.in-Some.list
    c.loop-draft-test.true c.draft-item.is
    (subst (ListsFrom drafts (drop k drafts)) c.in-Some.ensures.items c.loop-draft.invariant.left) in
    let sound : IsSound c.args.isa (map draft_of drafts) (draft_of draft) =
    subst (λ (d : DraftRead). IsSound c.args.isa (map draft_of drafts) (draft_of d)) (sym c.draft-item.is)
    (c.requires.sound k draft c.loop-draft-test.true) in
    let block : IsMade drafts draft c.of_lawful-block.result =
    is_block_of c.args.isa (map draft_of drafts)
    (draft_of draft) c.in-Some.list.items next.0 sound c.of_lawful-block.result
    c.copied_label.result c.copied_label.ensures c.of_lawful-block.ensures in
    record {
      made = subst (AllZip (IsMade drafts) (take (k + 1) drafts)) (sym c.in_ok-put.ensures)
          (zip_more (IsMade drafts) drafts c.loop-draft.packets k draft c.of_lawful-block.result c.loop-draft-test.true
          c.draft-item.is c.loop-draft.invariant.made block);
      left = next.1;
    }

pub returns : goal.returns
returns c =
    let drafts : List DraftRead = c.args.drafts.now in
    let whole : take c.loop-draft.draft-index drafts ≡ drafts = take_all c.loop-draft.draft-index drafts
    c.loop-draft-test.false in
    zip_map (IsBlockOf (map draft_of drafts)) draft_of drafts c.loop-draft.packets
    (subst (λ (ds : List DraftRead). AllZip (IsMade drafts) ds c.loop-draft.packets) whole c.loop-draft.invariant.made)
