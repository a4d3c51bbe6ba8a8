use Rattle.std.proofs.Common.{◌≡◌, ◌++◌, drop, map}
use Rattle.c62_files.specs.Words.{texts}
use Rattle.c62_files.specs.Writing.{text_output}
use Rattle.c62_dumping.specs.Cut.{files_of}
use Rattle.c62_dumping.proofs.cutting.files_of.Given as goal

abbrev pub invariant-loop-name : goal.invariant-loop-name
invariant-loop-name l =
    map text_output l.files.items ++ files_of (texts (drop l.name-index l.names)) l.counts l.rest ≡ files_of
    (texts l.names) l.fn.counts l.fn.bytes
