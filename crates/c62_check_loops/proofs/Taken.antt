-- What is taken from what is told of loops.
use Rattle.std.proofs.Common.{◌≡◌, ℕ, ◌+◌, ◌<◌, ◌++◌, List, [], ◌∷◌, length, Option, Some, None, sym, ◌∙◌}
use Rattle.std.specs.Prelude.{slice_get}
use Rattle.c62_read.specs.Block.{Serial}
use Rattle.c62_flight.specs.Text.{Text}
use Rattle.c62_check_loop.specs.declared.verdict.LoopVerdict.{LoopVerdict}
use Rattle.c62_check_loops.specs.declared.verdict.Loops.{Loops}
use Rattle.c62_check_loops.specs.Covered.{loop_in}
use Rattle.c62_check_loops.specs.Settled.{AreTaken, IsTaken}
use Rattle.c62_check_loops.specs.Verdicts.{AreLoopVerdicts, AreLoopsOf}
use Rattle.c62_check_loops.proofs.Loops.{loop_next, loop_told, none_told}

module _ (blocks : List Serial) (loops : Loops) where
  pub none_taken : (number : ℕ) → IsTaken blocks loops number None
  none_taken number = record { holds = λ packets are. tt }

  pub loop_taken : (number : ℕ) (told : Option LoopVerdict) (verdict : LoopVerdict)
      → told ≡ loop_in (slice_get loops.verdicts.items number) → told ≡ Some verdict
      → number < length blocks → IsTaken blocks loops number (Some verdict)
  loop_taken number told verdict found is within = record {
    holds = λ packets are.
        loop_told loops.promise blocks packets (length blocks) loops.verdicts.items number verdict are within
        (sym is ∙ found);
  }

  pub none_yet : AreTaken blocks loops 0 []
  none_yet = record { hold = λ packets are. none_told loops.promise blocks packets }

  pub taken_next : (count : ℕ) (verdicts : List (Option LoopVerdict)) (verdict : Option LoopVerdict)
      → AreTaken blocks loops count verdicts → IsTaken blocks loops count verdict
      → AreTaken blocks loops (count + 1) (verdicts ++ verdict ∷ [])
  taken_next count verdicts verdict taken one = record {
    hold = λ packets are.
        loop_next loops.promise blocks packets count verdicts verdict (taken.hold packets are) (one.holds packets are);
  }
