-- What is told on standard error (README.md, "Command line").
use Rattle.std.specs.Prelude.{◌≡◌, ◌==◌, ℕ, List, [], ◌++◌, take, Option, Some, None, Result, Ok, Err, codes, decimal, if◌then◌else◌}
use Rattle.std.specs.List.{flat_map}
use Rattle.std.specs.Io.KnownBytes.{Appends, Keeps}
use denote.Ref.{Bor}
use Rattle.c62_line.specs.declared.fault.Cause.{Cause}
use Rattle.c62_line.specs.Fault.{fault_text}
use Rattle.c62_listing_reader.specs.declared.fault.ListFault.{ListFault}
use Rattle.c62_listing_reader.specs.FaultText.{list_fault_text}
use Rattle.c62_adopt.specs.declared.fault.AdoptFault.{AdoptFault}
use Rattle.c62_adopt.specs.FaultText.{adopt_fault_text}
use Rattle.c62_rows.specs.declared.fault.RowsFault.{RowsFault}
use Rattle.c62_rows.specs.FaultText.{fault_text as rows_fault_text}
use Rattle.c62_command.specs.declared.command.Exclusion.{Exclusion}
use Rattle.c62_command.specs.declared.command.Exclusion.TheVariants as excluded
use Rattle.c62_command.specs.declared.promise.BadPromise.{BadPromise}
use Rattle.c62_command.specs.declared.promise.BadPromise.TheVariants as promise
use Rattle.c62_answer.specs.declared.failure.Failure.{Failure}
use Rattle.c62_answer.specs.declared.failure.Failure.TheVariants as failure
use Rattle.c62_op.specs.Name.{register_name}
use Rattle.c62_adopt_late.specs.declared.late.Late.{Late}
use Rattle.c62_answer.specs.declared.outcome.Added.{Added}
use Rattle.c62_answer.specs.declared.outcome.Outcome.{Outcome}
use Rattle.c62_answer.specs.declared.outcome.Outcome.TheVariants.{Drained, Looped}

-- ---- the lines

abbrev pub fault_message : ℕ → Cause → List ℕ
fault_message line fault = fault_text line fault ++ codes "\n"

abbrev pub list_message : ListFault → List ℕ
list_message fault = list_fault_text fault ++ codes "\n"

abbrev pub adopt_message : AdoptFault → List ℕ
adopt_message fault = adopt_fault_text fault ++ codes "\n"

abbrev pub rows_message : RowsFault → List ℕ
rows_message fault = rows_fault_text fault ++ codes "\n"

-- what is told of the text of a check, and of its listing, or packets in the place of one
abbrev pub of_text : List ℕ → List ℕ
of_text message = codes "text " ++ message

abbrev pub of_listing : List ℕ → List ℕ
of_listing message = codes "listing " ++ message

-- what is told of a check without a line `---`
abbrev pub no_listing : List ℕ
no_listing = codes "text line 0: NoListing\n"

-- `setting K: bad`
abbrev pub setting_message : ℕ → List ℕ
setting_message number = codes "setting " ++ decimal number ++ codes ": bad\n"

-- `trips K: bad`
abbrev pub trips_message : (number : ℕ) → (what : List ℕ) → List ℕ
trips_message number what = codes "trips " ++ decimal number ++ codes ": " ++ what ++ codes "\n"

abbrev pub no_loop : ℕ → List ℕ
no_loop number = trips_message number (codes "no loop")

abbrev pub promise_message : BadPromise → List ℕ
promise_message (promise.Trips number) = trips_message number (codes "bad")
promise_message promise.Apart = codes "apart: bad\n"

abbrev pub exclusion_message : Exclusion → List ℕ
exclusion_message excluded.Page = codes "error: --html goes with neither --json nor --summary\n"
exclusion_message excluded.Blocks = codes "error: --blocks limits no run with --pipeline: --cycles does\n"

-- what is told of a failure; clap's own text is left open
abbrev pub message_of : Failure → Option (List ℕ)
message_of (failure.Unread fault) = Some (fault_message fault.line fault.cause)
message_of (failure.Unlisted fault) = Some (list_message fault)
message_of (failure.Unadopted fault) = Some (adopt_message fault)
message_of (failure.Unflown fault) = Some (rows_message fault)
message_of (failure.TextPart fault) = Some (of_text (fault_message fault.line fault.cause))
message_of (failure.ListingPart fault) = Some (of_listing (list_message fault))
message_of (failure.PacketsPart fault) = Some (of_listing (adopt_message fault))
message_of (failure.RowsPart fault) = Some (of_listing (rows_message fault))
message_of failure.NoListing = Some no_listing
message_of (failure.NoLoop number) = Some (no_loop number)
message_of (failure.Words error) = None
message_of (failure.Setting number) = Some (setting_message number)
message_of (failure.Promise bad) = Some (promise_message bad)
message_of (failure.Excluded exclusion) = Some (exclusion_message exclusion)
message_of failure.Memory = Some (codes "memory\n")
message_of failure.Input = Some (codes "input\n")
message_of failure.Output = Some (codes "output\n")

abbrev pub added_word : ℕ → List ℕ
added_word cycles = if cycles == 1 then codes " cycle added" else codes " cycles added"

abbrev pub cycles_added : ℕ → List ℕ
cycles_added cycles = decimal cycles ++ added_word cycles

-- the register that is read too early, and the line that writes it
abbrev pub late_message : Option Late → List ℕ
late_message None = []
late_message (Some late) = codes "; " ++ register_name late.reg ++ codes " was read below line " ++ decimal late.line ++ codes " before it landed"

-- what was added to drain a text; nothing where no cycles were
abbrev pub drained_message : Added → List ℕ
drained_message added = if added.cycles == 0 then [] else cycles_added added.cycles ++ late_message added.late ++ codes "\n"

-- pieces one behind the other
abbrev pub joined : List (Bor (List ℕ)) → List ℕ
joined pieces = flat_map (λ piece. piece.now) pieces

-- ---- what the error stream got

-- the text, or a front of it
abbrev pub IsFront : List ℕ → List ℕ → Type 0
IsFront front text = (count : ℕ) × (front ≡ take count text)

-- what a text does to the bytes of a stream
abbrev pub Telling : Type 1
Telling = Option (List ℕ) → Option (List ℕ) → List ℕ → Type 0

-- The text was written, or the front of it that a stream took before it took no more.
abbrev pub Tells : Telling
Tells old new text = (count : ℕ) × Appends old new (take count text)

-- all of a text was written where the stream took all that it was offered, and else a front
abbrev pub told_of : {E : Type 0} → Result (Unit {0}) E → Telling
told_of (Ok _) = Appends
told_of (Err _) = Tells

-- one of these texts was told
pub record TellsOf (Told : Telling) (IsText : List ℕ → Type 0) (old new : Option (List ℕ)) : Type 0 where
  pub text : List ℕ
  pub is : IsText text
  pub told : Told old new text

-- Of a text that was drained it was told what was added, and of pipelined loops what is to be told of these. Else nothing was.
abbrev pub TellsOutcome : Telling → Outcome → Option (List ℕ) → Option (List ℕ) → Type 0
TellsOutcome Told (Drained added) old new = Told old new (drained_message added)
TellsOutcome Told (Looped told breach) old new = Told old new told.items
TellsOutcome Told _ old new = Keeps old new

-- so it was told on a stream that held nothing
abbrev pub IsToldOf : Outcome → List ℕ → Type 0
IsToldOf (Drained added) errors = IsFront errors (drained_message added)
IsToldOf (Looped told breach) errors = IsFront errors told.items
IsToldOf _ errors = errors ≡ []
