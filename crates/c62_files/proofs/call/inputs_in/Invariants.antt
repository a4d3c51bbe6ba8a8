use Rattle.std.proofs.Common.{◌≡◌, ◌++◌, map, take}
use Rattle.std.specs.List.{flat_map}
use Rattle.c62_files.specs.Words.{input_in, text_piece, texts}
use Rattle.c62_files.proofs.call.inputs_in.Given as goal

abbrev pub invariant-loop-piece : goal.invariant-loop-piece
invariant-loop-piece l = texts l.names.items ≡ texts l.initial.names.items ++ flat_map input_in
    (map text_piece (take l.piece-index l.pieces))
