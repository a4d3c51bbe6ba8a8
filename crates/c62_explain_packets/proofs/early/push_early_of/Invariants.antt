use Rattle.std.proofs.Common.{◌≡◌, ◌++◌, drop}
use Rattle.std.specs.List.{flat_map}
use Rattle.c62_explain_packets.specs.Early.{early_by}
use Rattle.c62_explain_packets.proofs.early.push_early_of.Given as goal

abbrev pub invariant-loop-writer : goal.invariant-loop-writer
invariant-loop-writer l =
    l.early.items ++ flat_map (early_by l.reader) (drop l.writer-index l.issues) ≡ l.fn.early.items ++ flat_map
    (early_by l.reader) l.issues
