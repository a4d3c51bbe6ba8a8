-- What is told of each block of a text (docs/CHECK.md, "All loops of a text").
use Rattle.std.specs.Prelude.{◌≡◌, ℕ, ◌+◌, ◌&&◌, Bool, true, false, List, [], ◌∷◌, length, slice_get, Option, Some, None}
use Rattle.clap.specs.Words.{Text as Name}
use Rattle.c62_read.specs.Block.{Serial}
use Rattle.c62_flight.specs.Text.{Text}
use Rattle.c62_loop_match.specs.declared.promise.Promise.{Promise}
use Rattle.c62_loop_match.specs.Promise.{promises}
use Rattle.c62_check_loop.specs.declared.verdict.LoopVerdict.{LoopVerdict}
use Rattle.c62_check_loop.specs.declared.verdict.LoopVerdict.TheVariants.{Same, SameBut}
use Rattle.c62_check_loop.specs.Told.{IsTold}
use Rattle.c62_check_rest.specs.Starts.{Starts}
use Rattle.c62_check_rest.specs.Told.{IsRest, is_same as is_same_rest}
use Rattle.c62_check_loops.specs.declared.verdict.Loops.{Loops}
use Rattle.c62_check_loops.specs.declared.verdict.BlockVerdict.{BlockVerdict}
use Rattle.c62_check_loops.specs.declared.verdict.BlockVerdict.TheVariants.{Loop, Within, Rest}
use Rattle.c62_check_loops.specs.Covered.{is_told, is_told_with_loop}
use Rattle.c62_check_loops.specs.Constant.{constant_at}
use Rattle.c62_check_loops.specs.Granted.{is_enough}
use Rattle.c62_check_loops.specs.Lines.{label_in}
use Rattle.c62_check_loops.specs.Reading.{is_unread}

-- what is told of a block as a loop holds, if anything is
abbrev pub IsLoopTold : Promise → List Serial → Text → ℕ → Option LoopVerdict → Type 0
IsLoopTold promise blocks packets number None = Unit {0}
IsLoopTold promise blocks packets number (Some verdict) = IsTold (promises promise) blocks number packets (Some verdict)

-- so it is of each of so many first blocks
pub record AreLoopVerdicts (promise : Promise) (blocks : List Serial) (packets : Text) (count : ℕ) (verdicts : List (Option LoopVerdict)) : Type 0 where
  pub counted : length verdicts ≡ count
  pub each : (number : ℕ) (verdict : Option LoopVerdict) → slice_get verdicts number ≡ Some verdict → IsLoopTold promise blocks packets number verdict

abbrev pub AreLoopsOf : List Serial → Text → Loops → Type 0
AreLoopsOf blocks packets loops = AreLoopVerdicts loops.promise blocks packets (length blocks) loops.verdicts.items

-- what is told of a block holds, where this is told of blocks as loops, and they are entered at these rows
abbrev pub IsBlockTold : Promise → List (Option LoopVerdict) → Starts → List Serial → Text → ℕ → BlockVerdict → Type 0
IsBlockTold promise told starts blocks packets number (Loop verdict) =
    (is_told told number ≡ true) × IsTold (promises promise) blocks number packets (Some verdict)
IsBlockTold promise told starts blocks packets number Within =
    (is_told told number ≡ false) × (is_told_with_loop blocks told number ≡ true)
IsBlockTold promise told starts blocks packets number (Rest verdict) =
    (is_told told number ≡ false)
    × ((block : Serial) × (slice_get blocks number ≡ Some block) × IsRest starts packets number block verdict)

-- so it is of each of so many first blocks
pub record AreVerdicts (promise : Promise) (told : List (Option LoopVerdict)) (starts : Starts) (blocks : List Serial) (packets : Text) (count : ℕ) (verdicts : List BlockVerdict) : Type 0 where
  pub counted : length verdicts ≡ count
  pub each : (number : ℕ) (verdict : BlockVerdict) → slice_get verdicts number ≡ Some verdict → IsBlockTold promise told starts blocks packets number verdict

-- ---- the same

-- it is the same, or told with a loop
abbrev pub is_same : BlockVerdict → Bool
is_same (Loop (Same trips cycles first last)) = true
is_same (Loop (SameBut trips cycles first last but)) = true
is_same (Loop verdict) = false
is_same Within = true
is_same (Rest verdict) = is_same_rest verdict

-- it isn't the same but for registers alone
abbrev pub is_plain : BlockVerdict → Bool
is_plain (Loop (SameBut trips cycles first last but)) = false
is_plain (Loop verdict) = true
is_plain Within = true
is_plain (Rest verdict) = true

-- a loop of this label, whose counter the text sets to this constant or to none, is the same with the trips that are sure
abbrev pub is_good_loop : List (Name × ℕ) → Option Name → Option ℕ → LoopVerdict → Bool
is_good_loop all (Some label) constant (Same trips cycles first last) = is_enough all label constant trips
is_good_loop all (Some label) constant (SameBut trips cycles first last but) = is_enough all label constant trips
is_good_loop all label constant verdict = false

-- The block of this number is the same, as a loop with those trips of which nothing in the text reads what it leaves otherwise, or is told with a
-- loop.
abbrev pub is_good : List (Name × ℕ) → List Serial → ℕ → BlockVerdict → Bool
is_good all blocks number (Loop verdict) =
    is_good_loop all (label_in (slice_get blocks number)) (constant_at blocks number) verdict && is_unread blocks number verdict
is_good all blocks number Within = true
is_good all blocks number (Rest verdict) = is_same_rest verdict

-- so it is of the blocks from this number on
abbrev pub are_good : List (Name × ℕ) → List Serial → ℕ → List BlockVerdict → Bool
are_good all blocks number [] = true
are_good all blocks number (verdict ∷ verdicts) = is_good all blocks number verdict && are_good all blocks (number + 1) verdicts
