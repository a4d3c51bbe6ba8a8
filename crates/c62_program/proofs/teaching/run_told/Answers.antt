use Rattle.c62_program.proofs.Taught.{bytes_told, nothing_told}
use Rattle.c62_program.proofs.teaching.run_told.Goals as goal

pub returns-in-Unknown-clause-ok : goal.returns-in-Unknown-clause-ok
returns-in-Unknown-clause-ok g c =
    nothing_told c.args.isa _ _ _ _ _ _ _ _ _ c.is_explained-explained.ensures c.in_ok-plain.ensures
    (rw c.in-Unknown.is at (rw c.deref.ensures.value at c.in_ok-more.ensures))
    (rw c.deref-in-Unknown-2.ensures.value at (rw c.deref-in-Unknown.ensures.value at c.run_nothing.ensures))

pub returns-clause-ok : goal.returns-clause-ok
returns-clause-ok g c =
    rw c.status.ensures (bytes_told c.args.isa _ _ _ _ _ _ _ c.in_ok-bytes-in-Known.bytes.items
    c.in_ok-told-in-Known.told.refused.items c.in_ok-told-in-Known.told.apart.lines.items
    c.in_ok-told-in-Known.told.faulted.items c.in_ok-told-in-Known.told.apart.meets c.run_on-status.ensures.0 _ _ _ _
    c.is_explained-explained.ensures c.in_ok-plain.ensures c.names_of.ensures.text c.names_of.ensures.listing
    (rw c.in-Known.is at (rw c.deref.ensures.value at c.in_ok-more.ensures)) c.in_ok-bytes-in-Known.ensures.ok
    (rw c.deref-in-Known.ensures.value at c.in_ok-told-in-Known.ensures)
    (rw c.deref-in-Known-2.ensures.value at (rw c.deref-in-Known-3.ensures.value at c.run_on-status.ensures.1)))
