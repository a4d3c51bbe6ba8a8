use Rattle.std.proofs.Common.{ℕ, ◌<◌, ◌∙◌, List, subst, sym}
use Rattle.std.specs.Prelude.{All}
use Rattle.c62_op.specs.declared.register.Reg.{Reg}
use Rattle.c62_packet.proofs.TakenLemmas.{writes_near}
use Rattle.c62_packet.proofs.rules.landing_beside.Goals as goal

pub is_met-requires-clause-near : goal.is_met-requires-clause-near
is_met-requires-clause-near c =
    let all = subst (λ (writes : List (Reg × ℕ)). All (λ (write : Reg × ℕ). write.1 < 5) writes)
    (sym (c.as_slice-write-items.ensures.value ∙ c.writes-writes.ensures))
    (writes_near c.args.placed.now.insn) in
    subst (λ (write : Reg × ℕ). write.1 < 5) (sym c.write-item.is)
    (all c.loop-write.write-index c.write-item.result c.loop-write-test.true)
