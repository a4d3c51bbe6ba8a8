use Rattle.std.proofs.Common.{◌≡◌, ◌++◌, drop}
use Rattle.std.specs.List.{flat_map}
use Rattle.c62_explain_packets.specs.Early.{early_of}
use Rattle.c62_explain_packets.proofs.early.early_reads.Given as goal

abbrev pub invariant-loop-reader : goal.invariant-loop-reader
invariant-loop-reader l =
    l.early.items ++ flat_map (early_of l.issues) (drop l.reader-index l.issues) ≡ flat_map (early_of l.issues) l.issues
