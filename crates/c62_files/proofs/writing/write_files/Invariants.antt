use Rattle.std.proofs.Common.{drop, map}
use Rattle.c62_files.specs.Writing.{text_output}
use Rattle.c62_files.proofs.WrittenFiles.{IsBegunOnWay, IsOnWay, IsStopOnWay}
use Rattle.c62_files.proofs.writing.write_files.Given as goal

abbrev pub invariant-loop-file : goal.invariant-loop-file
invariant-loop-file g l =
    IsOnWay (g.F.Folder.holds l.fn.folder) (map text_output l.files) (g.F.Folder.holds l.folder)
    (map text_output (drop l.file-index l.files))
    × IsBegunOnWay (g.F.Folder.holds l.fn.folder) (map text_output l.files) (g.F.Folder.holds l.folder)
    (map text_output (drop l.file-index l.files))
    × IsStopOnWay (g.F.Folder.holds l.fn.folder) (map text_output l.files) (g.F.Folder.holds l.folder)
    (map text_output (drop l.file-index l.files))
