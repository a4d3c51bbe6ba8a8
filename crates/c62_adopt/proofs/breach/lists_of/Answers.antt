use Rattle.std.proofs.Common.{◌≡◌, ◌+◌, List, map, take, take_all, sym, subst}
use Rattle.std.specs.List.{AllZip}
use Rattle.std.specs.Prelude.{Vec}
use Rattle.std.specs.declared.alloc.Global.{Global}
use Rattle.c62_packet.specs.declared.placed.Placed.{Placed}
use Rattle.c62_adopt_cut.specs.declared.draft.Draft.{Draft as DraftRead}
use Rattle.c62_adopt_cut.specs.Drafted.{draft_of}
use Rattle.c62_adopt.specs.Judged.{AreLawful}
use Rattle.c62_adopt.proofs.Breaches.{first_breach_at}
use Rattle.c62_adopt.proofs.PacketsLemmas.{all_keep, zip_more}
use Rattle.c62_adopt.proofs.breach.lists_of.Goals as goal

abbrev IsListed : List DraftRead → DraftRead → Vec Placed Global → Type 0
IsListed whole draft list = AreLawful (map draft_of whole) (draft_of draft).issues list.items

pub returns-in-Err : goal.returns-in-Err
returns-in-Err c =
    let drafts : List DraftRead = c.args.drafts.now in
    let k = c.loop-draft.draft-index in
    let kept = all_keep (map draft_of drafts) (take k drafts) c.loop-draft.lists.items c.loop-draft.invariant in
    first_breach_at drafts k c.draft-item.result c.in-Err.breach.0 c.in-Err.breach.1 c.loop-draft-test.true
    c.draft-item.is kept (rw c.in-Err.is at c.in_ok-list.ensures)

pub returns : goal.returns
returns c =
    let drafts : List DraftRead = c.args.drafts.now in
    let whole : take c.loop-draft.draft-index drafts ≡ drafts = take_all c.loop-draft.draft-index drafts
    c.loop-draft-test.false in
    subst (λ (ds : List DraftRead). AllZip (IsListed drafts) ds c.loop-draft.lists.items) whole c.loop-draft.invariant

pub loop-draft-preserved : goal.loop-draft-preserved
loop-draft-preserved c =
    let drafts : List DraftRead = c.args.drafts.now in
    let k = c.loop-draft.draft-index in
    let here : IsListed drafts c.draft-item.result c.in-Ok.list = rw c.in-Ok.is at c.in_ok-list.ensures in
    subst (AllZip (IsListed drafts) (take (k + 1) drafts)) (sym c.in_ok-push-in-Ok.ensures.items)
    (zip_more (IsListed drafts) drafts c.loop-draft.lists.items k c.draft-item.result c.in-Ok.list
    c.loop-draft-test.true c.draft-item.is c.loop-draft.invariant here)
