-- What is told of a text once all its lines are read.
use Rattle.std.proofs.Common.{◌≡◌, ℕ, ◌≤◌, List, length}
use Rattle.std.specs.Prelude.{Result, Ok, Err, MatchResult}
use Rattle.c62_rows.specs.declared.fault.RowsFault.{RowsFault}
use Rattle.c62_rows.specs.declared.text.RowsText.{RowsText}
use Rattle.c62_rows.specs.Reading.{Reading, all_rows, closed}
use Rattle.c62_rows.specs.Text.{IsReading, Refuses}
use Rattle.c62_rows.specs.Told.{LosesTarget, ReadsAs}
use Rattle.c62_rows.specs.Collected.{Collects}
use Rattle.c62_rows.specs.Sound.{IsSound}
use Rattle.c62_rows.proofs.FinishLemmas.{finished_as, loses}
use Rattle.c62_adopt_cut.specs.declared.text.TheConstants.{MOST_BYTES}
use Rattle.c62_op.specs.declared.set.InstructionSet.{InstructionSet}

pub finish_told : (isa : InstructionSet) (text : List ℕ) (old mid : Reading) (result : Result RowsText RowsFault)
    → IsReading isa text old
    → IsSound old
    → length (all_rows old) ≤ MOST_BYTES → mid ≡ closed old
    → MatchResult result (Collects mid) (LosesTarget mid.targets mid.labels)
    → MatchResult result (ReadsAs isa text) (Refuses isa text)
finish_told isa text old mid (Ok read) reads sound few there is =
    finished_as isa text old mid read reads sound few there is
finish_told isa text old mid (Err fault) reads sound few there lost = loses isa text old mid fault reads there lost
