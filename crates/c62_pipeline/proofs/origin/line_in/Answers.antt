use Rattle.std.proofs.Common.{rules, ℕ, List, ◌<◌, ◌≤◌, length, subst}
use Rattle.c62_read.specs.declared.block.SerialInsn.{SerialInsn}
use Rattle.c62_pipeline.specs.Lined.{StandsIn}
use Rattle.c62_pipeline.proofs.Lining.{none_in_line, without_next}
use Rattle.c62_pipeline.proofs.origin.line_in.Goals as goal

pub loop-number-preserved : goal.loop-number-preserved
loop-number-preserved c =
    let blocks = c.args.blocks.now in
    let insn = c.args.insn.now in
    let inside : c.loop-number.number < length blocks = search rules in
    without_next blocks insn c.loop-number.number c.index-blocks-number.result c.loop-number.invariant inside
    c.index-blocks-number.is
    (subst (λ (entries : List SerialInsn). (line : ℕ) → StandsIn entries insn line → ⊥)
    c.insns-in-loop-number.ensures.same c.in_default-2.ensures)

pub returns-2 : goal.returns-2
returns-2 c =
    let end : length c.args.blocks.now ≤ c.loop-number.number = search rules in
    none_in_line c.args.blocks.now c.args.insn.now c.loop-number.number c.loop-number.invariant end
