use Rattle.std.proofs.Common.{◌≡◌, ◌++◌, drop, map}
use Rattle.std.specs.Prelude.{string_bytes}
use Rattle.c62_files.specs.Words.{Plain, text_piece}
use Rattle.c62_program.proofs.tracing.plain_pieces.Given as goal

abbrev pub invariant-loop-word : goal.invariant-loop-word
invariant-loop-word l =
    map text_piece l.pieces.items ++ map Plain (map string_bytes (drop l.word-index l.words))
    ≡ map Plain (map string_bytes l.words)
