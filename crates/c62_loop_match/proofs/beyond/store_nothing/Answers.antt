use Rattle.std.proofs.Common.{rules, false, ◌≡◌, ◌∙◌, sym}
use Rattle.c62_op.specs.Shape.{is_store}
use Rattle.c62_insn.specs.Insn.{op_of}
use Rattle.c62_read.specs.declared.block.SerialInsn.{SerialInsn}
use Rattle.c62_loop_match.proofs.Starts.{more}
use Rattle.c62_loop_match.proofs.beyond.store_nothing.Goals as goal

pub loop-entry-preserved : goal.loop-entry-preserved
loop-entry-preserved c =
    more (λ (e : SerialInsn). is_store (op_of e.insn) ≡ false) c.args.past.now c.loop-entry.entry-index
    c.entry-item.result (search rules) c.entry-item.is (sym c.stores.ensures ∙ c.if-stores.false) c.loop-entry.invariant
