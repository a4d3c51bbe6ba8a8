use Rattle.std.proofs.Common.{◌≡◌, ◌++◌, drop, map}
use Rattle.std.specs.List.{filter}
use Rattle.c62_insn.specs.Insn.{register_writes}
use Rattle.c62_explain_packets.specs.Early.{is_early, read_early}
use Rattle.c62_explain_packets.proofs.early.push_early_by.Given as goal

abbrev pub invariant-loop-write : goal.invariant-loop-write
invariant-loop-write l =
    l.early.items ++ map (read_early l.reader l.writer)
    (filter (is_early l.reader l.writer) (drop l.write-index (register_writes l.writer.insn)))
    ≡ l.fn.early.items ++ map (read_early l.reader l.writer)
    (filter (is_early l.reader l.writer) (register_writes l.writer.insn))
