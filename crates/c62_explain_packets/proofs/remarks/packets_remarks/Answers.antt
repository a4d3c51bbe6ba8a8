use Rattle.std.proofs.Common.{refl}
use Rattle.c62_explain_packets.specs.Remarks.{Adopted, Refused}
use Rattle.c62_explain_packets.proofs.RemarkLemmas.{has_room}
use Rattle.c62_explain_packets.proofs.remarks.packets_remarks.Goals as goal

pub returns-in-Ok : goal.returns-in-Ok
returns-in-Ok c = Adopted refl c.in-Ok.field-0.packets c.in-Ok.field-0.added c.in-Ok.ensures.adopted refl
    c.new.ensures.items c.in_ok-reads_of-in-Ok.ensures

pub returns : goal.returns
returns c = Refused refl c.in-Err.fault (has_room _ _ c.in-Some.ensures) c.in-Err.ensures.adopted
    c.in_ok-placed.field-0 refl (rw c.in_ok-placed.ensures.same c.in-Some.ensures) c.in_ok-placed.ensures.there
    c.in_ok-all_placed.ensures c.new-2.ensures.items
