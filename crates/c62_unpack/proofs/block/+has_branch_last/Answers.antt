use Rattle.std.proofs.Common.{List, ◌∙◌, sym, ap}
use Rattle.std.proofs.lemmas.List.{take_rest}
use Rattle.c62_op.specs.Shape.{is_branch}
use Rattle.c62_read.specs.declared.block.SerialInsn.{SerialInsn}
use Rattle.c62_read.specs.Block.{branch_last, operations}
use Rattle.c62_unpack.proofs.Unpacking.{alone, onward, weaker}
use Rattle.c62_unpack.proofs.block.+has_branch_last.Goals as goal

pub returns-in-len1 : goal.returns-in-len1
returns-in-len1 t c = alone c.args.entries.now c.in-len1.len_at_least c.in-len1.len_below

pub returns-then-not-is_branch : goal.returns-then-not-is_branch
returns-then-not-is_branch t c =
    weaker c.has_branch_last.result _ _
    (λ e. onward c.args.entries.now c.first-item.result c.first-item.is (ap is_branch (sym c.op.ensures)
    ∙ (sym c.is_branch.ensures ∙ c.if-not-is_branch.true))
    (ap (λ (xs : List SerialInsn). branch_last (operations xs)) (sym (take_rest c.args.entries.now 1)) ∙ e))
    c.has_branch_last.ensures
