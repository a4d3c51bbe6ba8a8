use Rattle.std.proofs.lemmas.Bool.{false≢true}
use Rattle.c62_insn.proofs.AimLemmas.{aimed}
use Rattle.c62_insn.proofs.insn.Insn.aimed.Goals as goal

pub unreachable-requires : goal.unreachable-requires
unreachable-requires c = false≢true
    (c.in_default-new.ensures.made.1 (aimed c.args.self c.in-Block.field-0 c.args.number c.in-Block.is))
