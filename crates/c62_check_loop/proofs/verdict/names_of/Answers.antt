use Rattle.c62_check_loop.proofs.Naming.{named_loaded, named_unloaded}
use Rattle.c62_check_loop.proofs.verdict.names_of.Goals as goal

pub returns-in-Access : goal.returns-in-Access
returns-in-Access c =
    named_loaded c.args.insn.now c.new-uses.result c.operands.result c.in-Access.register c.in-Access.base
    c.in-Access.form c.in-Access.offset c.with.result c.new-uses.ensures c.operands.ensures c.in-Access.is
    c.with.ensures

pub returns-in_default : goal.returns-in_default
returns-in_default c =
    named_unloaded c.args.insn.now c.new-uses.result c.operands.result c.new-uses.ensures c.operands.ensures
    c.in_default.not-Access
