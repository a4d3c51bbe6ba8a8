use Rattle.std.proofs.Common.{refl}
use Rattle.c62_explain_packets.specs.Remarks.{Read, Unread}
use Rattle.c62_explain_packets.proofs.remarks.listing_remarks.Goals as goal

pub returns-in-Ok : goal.returns-in-Ok
returns-in-Ok c = Read refl c.in-Ok.field-0 c.in-Ok.ensures.read refl c.new.ensures.items c.new-in-Ok.ensures.items

pub returns : goal.returns
returns c =
    Unread refl c.in-Err.fault c.in_default.not-Memory c.in-Err.ensures.read c.in_ok-found.found c.in_ok-found.ensures
    c.in_ok-placed_as.ensures c.in_ok-all_placed.ensures c.new-2.ensures.items
