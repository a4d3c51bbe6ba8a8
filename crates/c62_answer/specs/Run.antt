-- What the program does to its streams.
use Rattle.std.specs.Prelude.{◌≡◌, ◌≢◌, ◌⊎◌, ℕ, ◌+◌, ◌<◌, ◌≤◌, Bool, true, false, List, [], ◌∷◌, ◌++◌, length, take, fold, codes, Option, Some, None, Result, IfSome, Ok, Err}
use Rattle.std.specs.List.{flat_map}
use Rattle.std.specs.Io.KnownBytes.{Appends, Consumes, Keeps}
use Rattle.std.specs.Option.{IsSomeAnd}
use Rattle.clap.specs.Words.{Text}
use Rattle.c62_answer.specs.declared.failure.Failure.{Failure}
use Rattle.c62_answer.specs.declared.failure.Failure.TheVariants.{Unread, Unlisted, Unadopted, Unflown, TextPart, ListingPart, PacketsPart, RowsPart, NoListing, NoLoop, Words, Setting, Promise, Excluded, Memory, Input, Output}
use Rattle.c62_answer.specs.declared.outcome.Added.{Added}
use Rattle.c62_answer.specs.declared.outcome.Outcome.{Outcome}
use Rattle.c62_answer.specs.declared.outcome.Outcome.TheVariants.{Done, Drained, NotSame, Breached, Looped}
use Rattle.c62_answer.specs.declared.outcome.Breach.{Breach}
use Rattle.c62_answer.specs.declared.outcome.Breach.TheVariants as breach
use Rattle.c62_answer.specs.declared.outcome.Reply.{Reply}
use Rattle.c62_command.specs.declared.command.CommandError.{CommandError}
use Rattle.c62_command.specs.declared.command.CommandError.TheVariants as command
use Rattle.c62_command.specs.declared.command.Exclusion.{Exclusion}
use Rattle.c62_command.specs.declared.promise.BadPromise.{BadPromise}
use Rattle.c62_command.specs.declared.setting.Setting.{Setting as Given}
use Rattle.c62_command.specs.declared.setting.Setting.TheVariants as given
use Rattle.c62_command.specs.declared.command.Course.{Course}
use Rattle.c62_command.specs.declared.flight.FlightCourse.{FlightCourse}
use Rattle.c62_command.specs.declared.command.Packing.{Packing}
use Rattle.c62_command.specs.declared.command.Showing.{Showing}
use Rattle.c62_command.specs.declared.command.Form.{Form}
use Rattle.c62_command.specs.declared.command.Form.TheVariants.{Listed, Written}
use Rattle.c62_line.specs.declared.fault.Cause.TheVariants.{Memory as OutOfStore}
use Rattle.c62_line.specs.declared.fault.ReadFault.{ReadFault}
use Rattle.c62_read.specs.Block.{Serial}
use Rattle.c62_read.specs.Program.{Name, most_bytes}
use Rattle.c62_serial.specs.State.{Machine, IsSound, IsZero, with_word, with_base}
use Rattle.c62_serial.specs.Memory.{with_bytes}
use Rattle.c62_serial.specs.declared.chain.Chain.{Chain}
use Rattle.c62_serial.specs.declared.chain.End.{End}
use Rattle.c62_serial.specs.declared.chain.End.TheVariants.{Limit}
use Rattle.c62_serial.specs.Chain.{RunsProgram}
use Rattle.c62_packet.specs.Packed.{Packed}
use Rattle.c62_pipe.specs.Chain.{RunsPackets}
use Rattle.c62_listing.specs.Listing.{listing}
use Rattle.c62_listing_reader.specs.declared.fault.ListFault.{ListFault}
use Rattle.c62_listing_reader.specs.declared.fault.ListFault.TheVariants.{Memory as NoStore}
use Rattle.c62_listing_reader.specs.Faults.{most_bytes as most_listing_bytes}
use Rattle.c62_adopt_cut.specs.Text.{most_bytes as most_packets_bytes}
use Rattle.c62_adopt.specs.declared.fault.AdoptFault.{AdoptFault}
use Rattle.c62_adopt.specs.declared.fault.AdoptFault.TheVariants.{Memory as NoRoom}
use Rattle.c62_adopt.specs.Answer.{IsAdopted, IsCoded, code_cut, code_in, code_read}
use Rattle.c62_adopt_late.specs.declared.late.Late.{Late}
use Rattle.c62_adopt_late.specs.Late.{first_late}
use Rattle.c62_flight.specs.Text.{Text as FlightText}
use Rattle.c62_flight.specs.Flight.{Flies}
use Rattle.c62_flight.specs.declared.stop.Stop.{Stop}
use Rattle.c62_flight.specs.declared.stop.Stop.TheVariants as flight
use Rattle.c62_rows.specs.declared.fault.RowsFault.{RowsFault}
use Rattle.c62_rows.specs.declared.fault.RowsFault.TheVariants.{Memory as NoPlace}
use Rattle.c62_rows.specs.Text.{IsText, IsTextFrom}
use Rattle.c62_exec.specs.declared.tally.Count.{Count}
use Rattle.c62_exec.specs.Counts.{CountsFlight}
use Rattle.c62_rows.specs.Rows.{text_of}
use Rattle.c62_rows.specs.declared.text.RowsText.{RowsText}
use Rattle.c62_reach.specs.Taken.{IsTaken}
use Rattle.c62_show.specs.declared.shown.Shown.{Shown}
use Rattle.c62_answer.specs.Bounds.{AreBounded}
use Rattle.c62_answer.specs.Drawing.{drawing}
use Rattle.c62_answer.specs.Schedule.{AreScheduled, AreShown}
use Rattle.c62_answer.specs.Standing.{IsShownListing, IsShownPackets}
use Rattle.c62_report.specs.Report.{serial_report, packet_report}
use Rattle.c62_report.specs.Flight.{flight_report}
use Rattle.c62_profile.specs.declared.tally.Tally.{Tally}
use Rattle.c62_profile.specs.Visits.{CountsPackets, CountsProgram}
use Rattle.c62_profile.specs.Table.{packet_table, serial_table}
use Rattle.c62_profile.specs.Flights.{flight_table}
use Rattle.c62_json_lines.specs.Lines.{lines_document}
use Rattle.c62_json_loops.specs.Judged.{IsLoopsDocument}
use Rattle.c62_json_report.specs.Runs.{serial_members, packet_members, flight_members}
use Rattle.c62_json.specs.Document.{document}
use Rattle.c62_json_packets.specs.Packets.{blocks_member}
use Rattle.c62_json_check.specs.Checked.{IsCheckDocument}
use Rattle.c62_json_show.specs.Shown.{blocks_member as shown_members}
use Rattle.c62_json_adopt.specs.declared.adopted.Drained.{Drained as DrainedTold}
use Rattle.c62_json_adopt.specs.Adopted.{adopted_members}
use Rattle.c62_command.specs.CommandLine.{Ask, Listing, Picture, ListingPicture, PacketsPicture, SerialReport, PacketReport, StandingReport, FlightReport, Adoption, Reaching, Document, Verdicts, LoopVerdicts, LoopListing, LoopPicture, LoopReport, IsRefusal, IsUnknown, HasBadSetting, HasBadPromise, HasExclusion, asked}
use Rattle.c62_answer.specs.Message.{adopt_message, fault_message, list_message, rows_message, no_listing, no_loop, of_listing, of_text, promise_message, setting_message, exclusion_message, IsFront, IsToldOf, Telling, Tells, TellsOf, TellsOutcome}
use Rattle.c62_answer.specs.Texts.{SaysProgram, SaysPackets, SaysNoPackets, IsNoProgram, IsNoListing, IsNoPackets, IsNoFlight, IsUnreached}
use Rattle.c62_answer.specs.Check.{IsCheck, IsNoCheck}
use Rattle.c62_answer.specs.LoopCheck.{IsFlying, IsLoopCheck, IsNoLoopCheck}
use Rattle.c62_answer.specs.Looped.{IsLooped, IsLoopListing, IsLoopPicture, IsUnlooped, IsUnread, told_lines}
use Rattle.c62_faulted.specs.declared.fault.Fault.{Fault}
use Rattle.c62_faulted.specs.Sentence.{fault_text}
use Rattle.c62_faulted_packets.specs.Flight.{FindsFlightFaults}
use Rattle.c62_pipeline.specs.Lined.{AreLined}
use Rattle.c62_op.specs.declared.register.Reg.{Reg}
use Rattle.c62_pipeline.specs.declared.written.Pipelining.{Pipelining}
use Rattle.c62_printing.specs.Printing.{prints}
use Rattle.c62_printing.specs.Dumping.{dumps}
use Rattle.c62_op.specs.declared.set.InstructionSet.{InstructionSet}

abbrev pub status_of : Failure → ℕ
status_of (Unread _) = 1
status_of (Unlisted _) = 1
status_of (Unadopted _) = 1
status_of (Unflown _) = 1
status_of (TextPart _) = 1
status_of (ListingPart _) = 1
status_of (PacketsPart _) = 1
status_of (RowsPart _) = 1
status_of NoListing = 1
status_of (NoLoop _) = 1
status_of (Words _) = 2
status_of (Setting _) = 2
status_of (Promise _) = 2
status_of (Excluded _) = 2
status_of Memory = 3
status_of Input = 4
status_of Output = 4

-- the status where it is done
abbrev pub status_done : Outcome → ℕ
status_done Done = 0
status_done (Drained _) = 0
status_done NotSame = 5
status_done (Breached breach.Limit) = 6
status_done (Breached breach.Fault) = 7
status_done (Looped told None) = 0
status_done (Looped told (Some breach.Limit)) = 6
status_done (Looped told (Some breach.Fault)) = 7

-- what a strict run has that it doesn't take
abbrev pub breach_of : Outcome → Option Breach
breach_of (Breached breach) = Some breach
breach_of (Looped told breach) = breach
breach_of _ = None

-- how a strict run ends that ended by its limit or not, and in which these lines faulted
abbrev pub outcome_strict : (limited : Bool) → (faults : List ℕ) → Outcome
outcome_strict limited (line ∷ faults) = Breached breach.Fault
outcome_strict true [] = Breached breach.Limit
outcome_strict false [] = Done

abbrev pub outcome_run : (strict limited : Bool) → (faults : List ℕ) → Outcome
outcome_run false limited faults = Done
outcome_run true limited faults = outcome_strict limited faults

-- a chain ended by its limit
abbrev pub is_limit : End → Bool
is_limit Limit = true
is_limit _ = false

-- and so did a run of packets in flight
abbrev pub is_flight_limit : Stop → Bool
is_flight_limit flight.Limit = true
is_flight_limit _ = false

-- what a fault of reading is
abbrev pub IsReadFailure : ReadFault → Failure → Type 0
IsReadFailure fault f = ((fault.cause ≡ OutOfStore) × (f ≡ Memory)) ⊎ ((fault.cause ≢ OutOfStore) × (f ≡ Unread fault))

-- what a fault of reading a listing is
abbrev pub IsListFailure : ListFault → Failure → Type 0
IsListFailure fault f = ((fault ≡ NoStore) × (f ≡ Memory)) ⊎ ((fault ≢ NoStore) × (f ≡ Unlisted fault))

-- what a fault of a text of packets is
abbrev pub IsAdoptFailure : AdoptFault → Failure → Type 0
IsAdoptFailure fault f = ((fault ≡ NoRoom) × (f ≡ Memory)) ⊎ ((fault ≢ NoRoom) × (f ≡ Unadopted fault))

-- what a fault of a text that is to run with everything in flight is
abbrev pub IsRowsFailure : RowsFault → Failure → Type 0
IsRowsFailure fault f = ((fault ≡ NoPlace) × (f ≡ Memory)) ⊎ ((fault ≢ NoPlace) × (f ≡ Unflown fault))

-- what a fault of the text of a check is, and one of its listing, or of packets in the place of one
abbrev pub IsTextFailure : ReadFault → Failure → Type 0
IsTextFailure fault f = ((fault.cause ≡ OutOfStore) × (f ≡ Memory)) ⊎ ((fault.cause ≢ OutOfStore) × (f ≡ TextPart fault))

abbrev pub IsListingFailure : ListFault → Failure → Type 0
IsListingFailure fault f = ((fault ≡ NoStore) × (f ≡ Memory)) ⊎ ((fault ≢ NoStore) × (f ≡ ListingPart fault))

abbrev pub IsPacketsFailure : AdoptFault → Failure → Type 0
IsPacketsFailure fault f = ((fault ≡ NoRoom) × (f ≡ Memory)) ⊎ ((fault ≢ NoRoom) × (f ≡ PacketsPart fault))

-- what a fault of the packets in flight of a check is
abbrev pub IsRowsPartFailure : RowsFault → Failure → Type 0
IsRowsPartFailure fault f = ((fault ≡ NoPlace) × (f ≡ Memory)) ⊎ ((fault ≢ NoPlace) × (f ≡ RowsPart fault))

-- what an error of the command line is
abbrev pub IsCommandFailure : CommandError → Failure → Type 0
IsCommandFailure (command.Words error) f = f ≡ Words error
IsCommandFailure (command.Setting k) f = f ≡ Setting k
IsCommandFailure (command.Promise bad) f = f ≡ Promise bad
IsCommandFailure (command.Excluded exclusion) f = f ≡ Excluded exclusion
IsCommandFailure command.Memory f = f ≡ Memory

-- at most n known bytes were taken
abbrev pub TakesAtMost : ℕ → Option (List ℕ) → Option (List ℕ) → Type 0
TakesAtMost n old new = (bytes : List ℕ) × Consumes old new bytes × (length bytes ≤ n)

-- the text is what known bytes begin with, as far as one byte past a limit
abbrev pub BeginsAll : ℕ → Option (List ℕ) → List ℕ → Type 0
BeginsAll limit all text = IfSome all (λ bytes. text ≡ take (limit + 1) bytes)

-- the most bytes of a text of packets in this form
abbrev pub most_of : Form → ℕ
most_of Listed = most_listing_bytes
most_of Written = most_packets_bytes

-- the most bytes that may be given: of a listing, of packets as they are written, of a text and one of these with the longest line
-- `---` between them, or of serial text
abbrev pub limit_of : Ask → ℕ
limit_of (ListingPicture showing) = most_listing_bytes
limit_of (PacketsPicture showing) = most_packets_bytes
limit_of (StandingReport form course settings) = most_of form
limit_of (FlightReport course from settings) = most_packets_bytes
limit_of (Adoption drain) = most_packets_bytes
limit_of (Reaching name ask) = most_packets_bytes
limit_of (Document ask) = limit_of ask
limit_of (Verdicts form) = most_bytes + 5 + most_of form
limit_of (LoopVerdicts trips apart) = most_bytes + 5 + most_packets_bytes
limit_of _ = most_bytes

-- where the words ask for something, no more is taken than one byte past the limit of that
abbrev pub TakesAsked : List Text → Option (List ℕ) → Option (List ℕ) → Type 0
TakesAsked words old new = (ask : Ask) → asked words ≡ Some ask → TakesAtMost (limit_of ask + 1) old new

-- ---- answers

-- the text says a program, and this is the listing of its blocks, packed so
pub record IsPackedText (isa : InstructionSet) (packing : Packing) (text answer : List ℕ) : Type 0 where
  pub program : List Serial
  pub says : SaysProgram isa text program
  pub packets : List Packed
  pub packed : AreScheduled packing program packets
  pub listed : answer ≡ listing packets

-- The text says a program, and this is the picture of its blocks, packed so. What its heads tell of shorter schedules is true.
pub record IsShownText (isa : InstructionSet) (showing : Showing) (text answer : List ℕ) : Type 0 where
  pub program : List Serial
  pub says : SaysProgram isa text program
  pub shown : List Shown
  pub packed : AreShown showing program shown
  pub bounded : AreBounded program shown
  pub drawn : answer ≡ drawing showing text shown

-- the machine after a setting
abbrev pub with_setting : Machine → Given → Machine
with_setting machine (given.Register reg value) = with_word reg value machine
with_setting machine (given.Byte place value) = with_bytes place 1 value machine
with_setting machine (given.Half place value) = with_bytes place 2 value machine
with_setting machine (given.Word place value) = with_bytes place 4 value machine
with_setting machine (given.Base base) = with_base base machine
with_setting machine (given.Print print) = machine
with_setting machine (given.Dump dump) = machine

-- the machine after these settings, in their order
abbrev pub with_settings : List Given → Machine → Machine
with_settings settings machine = fold with_setting machine settings

-- all zeros, and then these settings
pub record IsOpening (settings : List Given) (opening : Machine) : Type 0 where
  pub zeros : Machine
  pub zero : IsZero zeros
  pub set : opening ≡ with_settings settings zeros
  pub sound : IsSound opening

-- where it is asked for, the table of a program's serial run
abbrev pub TellsSerial : (profile : Bool) → List Serial → Machine → ℕ → Chain → Machine → List ℕ → Type 0
TellsSerial false program opening limit chain final table = table ≡ []
TellsSerial true program opening limit chain final table =
    (tally : Tally) × CountsProgram program opening limit chain final tally × (table ≡ serial_table program tally)

-- and that of a run of packets
abbrev pub TellsPackets : (profile : Bool) → List Packed → Machine → ℕ → Chain → Machine → List ℕ → Type 0
TellsPackets false packets opening limit chain final table = table ≡ []
TellsPackets true packets opening limit chain final table =
    (tally : Tally) × CountsPackets packets opening limit chain final tally × (table ≡ packet_table packets tally)

-- The report of a program's serial run, from zeros with these settings, with memory that they print below it, the table of its
-- blocks where that is asked for, and the bytes that they write to files.
pub record IsReport (program : List Serial) (settings : List Given) (course : Course) (outcome : Outcome) (answer : List ℕ) : Type 0 where
  pub opening : Machine
  pub begin : IsOpening settings opening
  pub chain : Chain
  pub final : Machine
  pub run : RunsProgram program opening course.blocks chain final
  pub table : List ℕ
  pub told : TellsSerial course.profile program opening course.blocks chain final table
  pub report : answer ≡ serial_report chain final ++ prints final settings ++ table ++ dumps final settings
  pub ends : outcome ≡ outcome_run course.strict (is_limit chain.stop) final.faults

-- The report of such a run of packets.
pub record IsPacketReport (packets : List Packed) (settings : List Given) (course : Course) (outcome : Outcome) (answer : List ℕ) : Type 0 where
  pub opening : Machine
  pub begin : IsOpening settings opening
  pub chain : Chain
  pub cycles : ℕ
  pub final : Machine
  pub run : RunsPackets packets opening course.blocks chain cycles final
  pub table : List ℕ
  pub told : TellsPackets course.profile packets opening course.blocks chain final table
  pub report : answer ≡ packet_report chain cycles final ++ prints final settings ++ table ++ dumps final settings
  pub ends : outcome ≡ outcome_run course.strict (is_limit chain.stop) final.faults

-- The same, where the packets run as this program does: without its line of cycles it is the report of the serial run.
pub record IsSameReport (program : List Serial) (packets : List Packed) (settings : List Given) (course : Course) (outcome : Outcome) (answer : List ℕ) : Type 0 where
  pub reported : IsPacketReport packets settings course outcome answer
  pub serial : RunsProgram program reported.opening course.blocks reported.chain reported.final

-- the text says a program, of whose serial run this is the report
pub record IsSerialReport (isa : InstructionSet) (settings : List Given) (course : Course) (outcome : Outcome) (text answer : List ℕ) : Type 0 where
  pub program : List Serial
  pub says : SaysProgram isa text program
  pub reported : IsReport program settings course outcome answer

-- the text says a program, and this is the report of a run of its blocks, packed so
pub record IsRunReport (isa : InstructionSet) (packing : Packing) (settings : List Given) (course : Course) (outcome : Outcome) (text answer : List ℕ) : Type 0 where
  pub program : List Serial
  pub says : SaysProgram isa text program
  pub packets : List Packed
  pub packed : AreScheduled packing program packets
  pub reported : IsSameReport program packets settings course outcome answer

-- the text, of this form, says packets, of the run of which as they stand this is the report
pub record IsStandingReport (isa : InstructionSet) (form : Form) (settings : List Given) (course : Course) (outcome : Outcome) (text answer : List ℕ) : Type 0 where
  pub packets : List Packed
  pub read : SaysPackets isa form text packets
  pub reported : IsPacketReport packets settings course outcome answer

-- where it is asked for, the table of a run with everything in flight, of a text with these labels
abbrev pub TellsFlight : (profile : Bool) → FlightText → List (Name × ℕ) → ℕ → ℕ → Machine → Stop → ℕ → Machine → List ℕ → Type 0
TellsFlight false flying labels first most opening stop cycles final table = table ≡ []
TellsFlight true flying labels first most opening stop cycles final table =
    (counts : List Count) × CountsFlight flying first most opening stop cycles final counts × (table ≡ flight_table labels counts cycles)

-- The report of a run of a text of packets with these labels from this row on, on this course, from zeros with these settings, with
-- memory that they print below it, the table of its rows where that is asked for, and the bytes that they write to files.
pub record IsFlown (flying : FlightText) (labels : List (Name × ℕ)) (first : ℕ) (settings : List Given) (course : FlightCourse) (outcome : Outcome) (answer : List ℕ) : Type 0 where
  pub opening : Machine
  pub begin : IsOpening settings opening
  pub stop : Stop
  pub cycles : ℕ
  pub final : Machine
  pub flies : Flies flying first course.cycles opening stop cycles final
  pub table : List ℕ
  pub told : TellsFlight course.profile flying labels first course.cycles opening stop cycles final table
  pub report : answer ≡ flight_report stop cycles final ++ prints final settings ++ table ++ dumps final settings
  pub ends : outcome ≡ outcome_run course.strict (is_flight_limit stop) final.faults

-- the text's code is one of packets, and this is the report of its run with everything in flight
pub record IsFlightReport (isa : InstructionSet) (course : FlightCourse) (from : Option Text) (settings : List Given) (outcome : Outcome) (text answer : List ℕ) : Type 0 where
  pub flying : FlightText
  pub first : ℕ
  pub coded : IsCoded isa text
  pub begins : IsTextFrom isa (code_in (code_read isa text)) from flying first
  pub labels : List (Name × ℕ)
  pub named : IsText isa (code_in (code_read isa text)) flying labels
  pub flown : IsFlown flying labels first settings course outcome answer

-- ---- accesses that fault

-- Of a run from zeros with these settings that finds its faults so: a line for each line's first fault.
pub record TellsRunBy (Finds : Machine → List Fault → Type 0) (settings : List Given) (more : List ℕ) : Type 0 where
  pub opening : Machine
  pub begin : IsOpening settings opening
  pub faults : List Fault
  pub found : Finds opening faults
  pub told : more ≡ flat_map (fault_text opening.base) faults

-- so it is of a run of a text of packets in flight, from this row on
abbrev pub TellsFlightFaults : FlightText → (first : ℕ) → List Given → FlightCourse → (more : List ℕ) → Type 0
TellsFlightFaults flying first settings course more =
    TellsRunBy (λ opening faults. FindsFlightFaults flying first course.cycles opening faults) settings more

-- of a strict run this is told, and of another nothing
abbrev pub TellsIf : (strict : Bool) → Type 0 → (more : List ℕ) → Type 0
TellsIf false Told more = more ≡ []
TellsIf true Told more = Told

-- ---- runs of packets whose loops are pipelined

-- what is told beside such a run: of the loops, and where it is strict of the accesses that fault
pub record IsToldBeside (verbose : Bool) (program : List Serial) (written : Pipelining) (flying : FlightText) (first : ℕ) (course : FlightCourse) (settings : List Given) (told : List ℕ) : Type 0 where
  pub accesses : List ℕ
  pub tells : TellsIf course.strict (TellsFlightFaults flying first settings course accesses) accesses
  pub all : told ≡ told_lines verbose program written ++ accesses

-- Packets are written of the text whose loops are pipelined where so much is promised, and this is the report of their run with everything in
-- flight, in which their instructions stand in the lines of the text; and this is told beside it, and the run has this that a strict one doesn't
-- take.
pub record IsLoopReport (isa : InstructionSet) (verbose : Bool) (packing : Packing) (trips : List (Text × ℕ)) (apart : List Reg) (course : FlightCourse) (settings : List Given) (told : List ℕ) (has : Option Breach) (text answer : List ℕ) : Type 0 where
  pub program : List Serial
  pub written : Pipelining
  pub looped : IsLooped isa packing trips apart text program written
  pub read : FlightText
  pub first : ℕ
  pub begins : IsTextFrom isa written.text.items None read first
  pub flying : FlightText
  pub lined : AreLined program read flying
  pub beside : IsToldBeside verbose program written flying first course settings told
  pub outcome : Outcome
  pub flown : IsFlown flying begins.labels first settings course outcome answer
  pub ends : has ≡ breach_of outcome

-- the text is adopted as packets, with so many cycles added to drain it, and this is their listing
pub record IsAdoptedText (isa : InstructionSet) (drain : Bool) (added : ℕ) (text answer : List ℕ) : Type 0 where
  pub packets : List Packed
  pub adopted : IsAdopted isa drain text packets added
  pub listed : answer ≡ listing packets

-- so it is with these cycles, and this is the first register that the text reads below a block before what lands in it there
pub record IsDrainedText (isa : InstructionSet) (added : Added) (text answer : List ℕ) : Type 0 where
  pub adopted : IsAdoptedText isa true added.cycles text answer
  pub late : added.late ≡ first_late (code_cut isa text)

abbrev pub added_of : ℕ → Option Late → Added
added_of cycles late = record { cycles = cycles; late = late }

-- how an adoption ends, where this was added
abbrev pub outcome_adopted : Bool → Added → Outcome
outcome_adopted true added = Drained added
outcome_adopted false added = Done

-- how a check ends where all is the same, or not
abbrev pub outcome_of : Bool → Outcome
outcome_of true = Done
outcome_of false = NotSame

-- What answers a text as text: its listing or its picture, the report of a run, or what a check tells, or such an answer to what is taken of it. A
-- text is drained only where that is asked for, only of a check not all may be the same, and only a strict run may end otherwise than done.
abbrev pub IsTextAnswer : InstructionSet → Ask → Outcome → List ℕ → List ℕ → Type 0
IsTextAnswer isa (Listing packing) Done text answer = IsPackedText isa packing text answer
IsTextAnswer isa (Picture showing) Done text answer = IsShownText isa showing text answer
IsTextAnswer isa (ListingPicture showing) Done text answer = IsShownListing isa showing text answer
IsTextAnswer isa (PacketsPicture showing) Done text answer = IsShownPackets isa showing text answer
IsTextAnswer isa (SerialReport course settings apart) outcome text answer = IsSerialReport isa settings course outcome text answer
IsTextAnswer isa (PacketReport packing course settings) outcome text answer = IsRunReport isa packing settings course outcome text answer
IsTextAnswer isa (StandingReport form course settings) outcome text answer = IsStandingReport isa form settings course outcome text answer
IsTextAnswer isa (FlightReport course from settings) outcome text answer = IsFlightReport isa course from settings outcome text answer
IsTextAnswer isa (Adoption false) Done text answer = IsAdoptedText isa false 0 text answer
IsTextAnswer isa (Adoption true) (Drained added) text answer = IsDrainedText isa added text answer
IsTextAnswer isa (Reaching name ask) outcome text answer = (taken : List ℕ) × IsTaken isa name text taken × IsTextAnswer isa ask outcome taken answer
IsTextAnswer isa (Verdicts form) Done text answer = IsCheck isa form text true answer
IsTextAnswer isa (Verdicts form) NotSame text answer = IsCheck isa form text false answer
IsTextAnswer isa (LoopVerdicts trips apart) Done text answer = IsLoopCheck isa trips apart text true answer
IsTextAnswer isa (LoopVerdicts trips apart) NotSame text answer = IsLoopCheck isa trips apart text false answer
IsTextAnswer isa (LoopListing verbose packing trips apart) (Looped told None) text answer = IsLoopListing isa verbose packing trips apart told.items text answer
IsTextAnswer isa (LoopPicture drawing packing trips apart) Done text answer = IsLoopPicture isa drawing packing trips apart text answer
IsTextAnswer isa (LoopReport verbose packing trips apart course settings) (Looped told has) text answer =
    IsLoopReport isa verbose packing trips apart course settings told.items has text answer
IsTextAnswer isa _ _ text answer = ⊥

-- ---- documents

abbrev pub serial_document : List Serial → Chain → Machine → List Given → Option Tally → List ℕ
serial_document program chain final settings counted = document (codes "serial") (serial_members program chain final settings counted)

abbrev pub packet_document : (command : List ℕ) → List Packed → Chain → ℕ → Machine → List Given → Option Tally → List ℕ
packet_document command packets chain cycles final settings counted =
    document command (packet_members packets chain cycles final settings counted)

abbrev pub flight_document : (command : List ℕ) → List (Name × ℕ) → Stop → ℕ → Machine → List Given → Option (List Count) → List ℕ
flight_document command labels stop cycles final settings counted =
    document command (flight_members labels stop cycles final settings counted)

-- what was counted of a run, where that is asked for
abbrev pub IsCounted : {T : Type 0} → (profile : Bool) → (Counts : T → Type 0) → Option T → Type 0
IsCounted false Counts counted = counted ≡ None
IsCounted true Counts counted = IsSomeAnd counted Counts

-- The document of a run, with what was counted of it where that is asked for, and behind it the bytes that go to files.
pub record IsRunDocument {T : Type 0} (profile : Bool) (Counts : T → Type 0) (told : Option T → List ℕ) (files answer : List ℕ) : Type 0 where
  pub counted : Option T
  pub is : IsCounted profile Counts counted
  pub document : answer ≡ told counted ++ files

-- what a report tells of a serial run
abbrev pub IsSerialDocument : (program : List Serial) (settings : List Given) (course : Course) (outcome : Outcome) (report : List ℕ)
    → IsReport program settings course outcome report → (answer : List ℕ) → Type 0
IsSerialDocument program settings course outcome report is answer =
    IsRunDocument course.profile (CountsProgram program is.opening course.blocks is.chain is.final)
    (serial_document program is.chain is.final settings) (dumps is.final settings) answer

-- of a run of packets, by a command
abbrev pub IsPacketDocument : (command : List ℕ) (packets : List Packed) (settings : List Given) (course : Course) (outcome : Outcome) (report : List ℕ)
    → IsPacketReport packets settings course outcome report → (answer : List ℕ) → Type 0
IsPacketDocument command packets settings course outcome report is answer =
    IsRunDocument course.profile (CountsPackets packets is.opening course.blocks is.chain is.final)
    (packet_document command packets is.chain is.cycles is.final settings) (dumps is.final settings) answer

-- and of a run with everything in flight, of a text with these labels
abbrev pub IsFlightDocument : (command : List ℕ) (flying : FlightText) (labels : List (Name × ℕ)) (first : ℕ) (settings : List Given)
    (course : FlightCourse) (outcome : Outcome) (report : List ℕ)
    → IsFlown flying labels first settings course outcome report → (answer : List ℕ) → Type 0
IsFlightDocument command flying labels first settings course outcome report is answer =
    IsRunDocument course.profile (CountsFlight flying first course.cycles is.opening is.stop is.cycles is.final)
    (flight_document command labels is.stop is.cycles is.final settings) (dumps is.final settings) answer

-- This is the document of a report of a serial run.
abbrev pub TellsOfRun : List Serial → List Given → Course → Outcome → (answer : List ℕ) → Type 0
TellsOfRun program settings course outcome answer =
    (report : List ℕ) × (is : IsReport program settings course outcome report) × IsSerialDocument program settings course outcome report is answer

-- of one of a run of packets
abbrev pub TellsOfPackets : (command : List ℕ) → List Packed → List Given → Course → Outcome → (answer : List ℕ) → Type 0
TellsOfPackets command packets settings course outcome answer =
    (report : List ℕ) × (is : IsPacketReport packets settings course outcome report)
    × IsPacketDocument command packets settings course outcome report is answer

-- and of one of a run with everything in flight
abbrev pub TellsOfFlight : (command : List ℕ) → FlightText → List (Name × ℕ) → (first : ℕ) → List Given → FlightCourse → Outcome → (answer : List ℕ) → Type 0
TellsOfFlight command flying labels first settings course outcome answer =
    (report : List ℕ) × (is : IsFlown flying labels first settings course outcome report)
    × IsFlightDocument command flying labels first settings course outcome report is answer

-- what was added to drain a text, as a document tells it
abbrev pub drained_of : Added → DrainedTold
drained_of added = record { cycles = added.cycles; late = added.late }

-- where that was asked for
abbrev pub drained_told : (drain : Bool) → Added → Option DrainedTold
drained_told false added = None
drained_told true added = Some (drained_of added)

-- The document of an answer (docs/JSON.md). It tells what the text of the same answer tells: both are of one record. Of packets in flight
-- that aren't run it has the lines of the text.
abbrev pub Documents : (isa : InstructionSet) (ask : Ask) (outcome : Outcome) (text told : List ℕ) → IsTextAnswer isa ask outcome text told → (answer : List ℕ) → Type 0
Documents isa (Listing packing) Done text told is answer = answer ≡ document (codes "pack") (blocks_member is.packets)
Documents isa (Picture showing) Done text told is answer = answer ≡ document (codes "show") (shown_members showing.summary is.shown)
Documents isa (ListingPicture showing) Done text told is answer = answer ≡ document (codes "show") (shown_members showing.summary is.drawn.shown)
Documents isa (PacketsPicture showing) Done text told is answer = answer ≡ document (codes "show") (shown_members showing.summary is.drawn.shown)
Documents isa (SerialReport course settings apart) outcome text told is answer =
    IsSerialDocument is.program settings course outcome told is.reported answer
Documents isa (PacketReport packing course settings) outcome text told is answer =
    IsPacketDocument (codes "run") is.packets settings course outcome told is.reported.reported answer
Documents isa (StandingReport form course settings) outcome text told is answer =
    IsPacketDocument (codes "sim") is.packets settings course outcome told is.reported answer
Documents isa (FlightReport course from settings) outcome text told is answer =
    IsFlightDocument (codes "exec") is.flying is.labels is.first settings course outcome told is.flown answer
Documents isa (Adoption false) Done text told is answer = answer ≡ document (codes "adopt") (adopted_members None is.packets)
Documents isa (Adoption true) (Drained added) text told is answer = answer ≡ document (codes "adopt") (adopted_members (Some (drained_of added)) is.adopted.packets)
Documents isa (Reaching name ask) outcome text told is answer = Documents isa ask outcome is.0 told is.2 answer
Documents isa (Verdicts form) Done text told is answer = IsCheckDocument is.program is.packets answer true
Documents isa (Verdicts form) NotSame text told is answer = IsCheckDocument is.program is.packets answer false
Documents isa (LoopVerdicts trips apart) Done text told is answer = IsLoopsDocument trips apart is.program is.packets answer true is.plain
Documents isa (LoopVerdicts trips apart) NotSame text told is answer = IsLoopsDocument trips apart is.program is.packets answer false is.plain
Documents isa (LoopListing verbose packing trips apart) outcome text told is answer = answer ≡ lines_document (codes "pack") told
Documents isa (LoopPicture drawing packing trips apart) outcome text told is answer = answer ≡ lines_document (codes "show") told
Documents isa (LoopReport verbose packing trips apart course settings) (Looped lines has) text told is answer =
    IsFlightDocument (codes "run") is.flying is.begins.labels is.first settings course is.outcome told is.flown answer
Documents isa _ _ text told is answer = ⊥

-- What answers a text: that text, or its document.
abbrev pub IsAnswer : InstructionSet → Ask → Outcome → List ℕ → List ℕ → Type 0
IsAnswer isa (Document ask) outcome text answer =
    (told : List ℕ) × (is : IsTextAnswer isa ask outcome text told) × Documents isa ask outcome text told is answer
IsAnswer isa (Reaching name ask) outcome text answer = (taken : List ℕ) × IsTaken isa name text taken × IsAnswer isa ask outcome taken answer
IsAnswer isa ask outcome text answer = IsTextAnswer isa ask outcome text answer

-- ---- refusals

-- the text says nothing that could be answered, and the message tells its fault
abbrev pub IsRefusedText : InstructionSet → Ask → List ℕ → List ℕ → Type 0
IsRefusedText isa (ListingPicture showing) text message = IsNoListing isa text message
IsRefusedText isa (PacketsPicture showing) text message = IsNoPackets isa false text message
IsRefusedText isa (StandingReport form course settings) text message = SaysNoPackets isa form text message
IsRefusedText isa (FlightReport course from settings) text message = IsNoFlight isa from text message
IsRefusedText isa (Adoption drain) text message = IsNoPackets isa drain text message
IsRefusedText isa (Reaching name ask) text message = IsUnreached isa name text message ⊎ ((taken : List ℕ) × IsTaken isa name text taken × IsRefusedText isa ask taken message)
IsRefusedText isa (Document ask) text message = IsRefusedText isa ask text message
IsRefusedText isa (Verdicts form) text message = IsNoCheck isa form text message
IsRefusedText isa (LoopVerdicts trips apart) text message = IsNoLoopCheck isa trips text message
IsRefusedText isa (LoopListing verbose packing trips apart) text message = IsUnlooped isa trips text message
IsRefusedText isa (LoopPicture drawing packing trips apart) text message = IsUnlooped isa trips text message
IsRefusedText isa (LoopReport verbose packing trips apart course settings) text message =
    IsUnlooped isa trips text message ⊎ IsUnread isa packing trips apart text message
IsRefusedText isa _ text message = IsNoProgram isa text message

-- ---- streams

-- What was asked for was done: the answer to a text was written, which is the known one, where one is known.
pub record Does (isa : InstructionSet) (ask : Ask) (outcome : Outcome) (known old new : Option (List ℕ)) : Type 0 where
  pub text : List ℕ
  pub same : IfSome known (λ bytes. bytes ≡ text)
  pub answer : List ℕ
  pub is : IsAnswer isa ask outcome text answer
  pub written : Appends old new answer

-- What was asked for was not done as the output took no more: what was written is a front of the answer.
pub record BreaksOff (isa : InstructionSet) (ask : Ask) (known old new : Option (List ℕ)) : Type 0 where
  pub text : List ℕ
  pub same : IfSome known (λ bytes. bytes ≡ text)
  pub outcome : Outcome
  pub answer : List ℕ
  pub is : IsAnswer isa ask outcome text answer
  pub written : Tells old new answer

-- the words ask for something, and that was done
abbrev pub IsDone : InstructionSet → List Text → Outcome → Option (List ℕ) → Option (List ℕ) → Option (List ℕ) → Type 0
IsDone isa words outcome text old new = IsSomeAnd (asked words) (λ ask. Does isa ask outcome text old new)

-- the text is refused, where it is known, and the message tells its fault
abbrev pub IsRefused : InstructionSet → Ask → Option (List ℕ) → List ℕ → Type 0
IsRefused isa ask text message = IfSome text (λ bytes. IsRefusedText isa ask bytes message)

-- what is asked for is asked of a text that is refused, and the message tells its fault
abbrev pub AsksInVain : InstructionSet → Option Ask → Option (List ℕ) → List ℕ → Type 0
AsksInVain isa asked text message = IsSomeAnd asked (λ ask. IsRefused isa ask text message)

-- a setting is bad, and the message tells its number
abbrev pub IsBadSetting : List Text → List ℕ → Type 0
IsBadSetting words message = (k : ℕ) × HasBadSetting words k × (message ≡ setting_message k)

-- a promise is bad, and the message tells which
abbrev pub IsBadPromise : List Text → List ℕ → Type 0
IsBadPromise words message = (bad : BadPromise) × HasBadPromise words bad × (message ≡ promise_message bad)

-- options exclude each other, and the message tells which
abbrev pub IsExclusion : List Text → List ℕ → Type 0
IsExclusion words message = (exclusion : Exclusion) × HasExclusion words exclusion × (message ≡ exclusion_message exclusion)

abbrev pub IsBadWord : List Text → List ℕ → Type 0
IsBadWord words message = IsBadSetting words message ⊎ IsBadPromise words message ⊎ IsExclusion words message

-- The words ask for nothing: clap doesn't take them, options exclude each other, or a setting or a promise is bad, and that is told.
abbrev pub AsksNothing : Telling → List Text → Option (List ℕ) → Option (List ℕ) → Type 0
AsksNothing Told words old new = IsUnknown words ⊎ TellsOf Told (IsBadWord words) old new

-- the failure is an error of the command line that says why the words ask for nothing
abbrev pub Blames : Failure → List Text → Type 0
Blames failure words = (error : CommandError) × IsCommandFailure error failure × IsRefusal error words

-- the program that a text says, or its fault, unless memory ran out
abbrev pub GivesProgram : InstructionSet → List ℕ → Result (List Serial) Failure → Type 0
GivesProgram isa text (Ok program) = SaysProgram isa text program
GivesProgram isa text (Err (Unread fault)) = IsNoProgram isa text (fault_message fault.line fault.cause)
GivesProgram isa text (Err Memory) = Unit {0}
GivesProgram isa text (Err _) = ⊥

-- the packets that a text of this form says, or its fault, unless memory ran out
abbrev pub GivesPackets : InstructionSet → Form → List ℕ → Result (List Packed) Failure → Type 0
GivesPackets isa form text (Ok packets) = SaysPackets isa form text packets
GivesPackets isa form text (Err (Unlisted fault)) = SaysNoPackets isa form text (list_message fault)
GivesPackets isa form text (Err (Unadopted fault)) = SaysNoPackets isa form text (adopt_message fault)
GivesPackets isa form text (Err Memory) = Unit {0}
GivesPackets isa form text (Err _) = ⊥

-- the program that the text of a check says, or its fault, unless memory ran out
abbrev pub GivesTextPart : InstructionSet → List ℕ → Result (List Serial) Failure → Type 0
GivesTextPart isa text (Ok program) = SaysProgram isa text program
GivesTextPart isa text (Err (TextPart fault)) = IsNoProgram isa text (fault_message fault.line fault.cause)
GivesTextPart isa text (Err Memory) = Unit {0}
GivesTextPart isa text (Err _) = ⊥

-- the packets that are to be checked, in this form, or their fault, unless memory ran out
abbrev pub GivesPacketsPart : InstructionSet → Form → List ℕ → Result (List Packed) Failure → Type 0
GivesPacketsPart isa form text (Ok packets) = SaysPackets isa form text packets
GivesPacketsPart isa form text (Err (ListingPart fault)) = SaysNoPackets isa form text (list_message fault)
GivesPacketsPart isa form text (Err (PacketsPart fault)) = SaysNoPackets isa form text (adopt_message fault)
GivesPacketsPart isa form text (Err Memory) = Unit {0}
GivesPacketsPart isa form text (Err _) = ⊥

-- the rows of the packets that are to be checked in flight, or their fault, unless memory ran out
abbrev pub GivesRowsPart : InstructionSet → List ℕ → Result RowsText Failure → Type 0
GivesRowsPart isa text (Ok read) = IsFlying isa text (text_of read.rows)
GivesRowsPart isa text (Err (PacketsPart fault)) = IsNoFlight isa None text (adopt_message fault)
GivesRowsPart isa text (Err (RowsPart fault)) = IsNoFlight isa None text (rows_message fault)
GivesRowsPart isa text (Err Memory) = Unit {0}
GivesRowsPart isa text (Err _) = ⊥

-- a text says no program of which these labels are loops', unless memory ran out
abbrev pub RefusesLooped : InstructionSet → List (Text × ℕ) → List ℕ → Failure → Type 0
RefusesLooped isa trips text (Unread fault) = IsUnlooped isa trips text (fault_message fault.line fault.cause)
RefusesLooped isa trips text (NoLoop number) = IsUnlooped isa trips text (no_loop number)
RefusesLooped isa trips text Memory = Unit {0}
RefusesLooped isa trips text _ = ⊥

-- nothing is taken of a text from the label of this name on, as no line has it, unless memory ran out
abbrev pub TakesNothing : InstructionSet → (name text : List ℕ) → Failure → Type 0
TakesNothing isa name text (Unflown fault) = IsUnreached isa name text (rows_message fault)
TakesNothing isa name text Memory = Unit {0}
TakesNothing isa name text _ = ⊥

-- the answer to a text, or its fault, unless memory ran out
abbrev pub Gives : InstructionSet → Ask → List ℕ → Result Reply Failure → Type 0
Gives isa ask text (Ok reply) = IsAnswer isa ask reply.outcome text reply.text.items
Gives isa ask text (Err (Unread fault)) = IsRefusedText isa ask text (fault_message fault.line fault.cause)
Gives isa ask text (Err (Unlisted fault)) = IsRefusedText isa ask text (list_message fault)
Gives isa ask text (Err (Unadopted fault)) = IsRefusedText isa ask text (adopt_message fault)
Gives isa ask text (Err (Unflown fault)) = IsRefusedText isa ask text (rows_message fault)
Gives isa ask text (Err (TextPart fault)) = IsRefusedText isa ask text (of_text (fault_message fault.line fault.cause))
Gives isa ask text (Err (ListingPart fault)) = IsRefusedText isa ask text (of_listing (list_message fault))
Gives isa ask text (Err (PacketsPart fault)) = IsRefusedText isa ask text (of_listing (adopt_message fault))
Gives isa ask text (Err (RowsPart fault)) = IsRefusedText isa ask text (of_listing (rows_message fault))
Gives isa ask text (Err NoListing) = IsRefusedText isa ask text no_listing
Gives isa ask text (Err (NoLoop number)) = IsRefusedText isa ask text (no_loop number)
Gives isa ask text (Err Memory) = Unit {0}
Gives isa ask text (Err _) = ⊥

-- Why what is asked for was not done. Where the output failed, a front of the answer was written.
abbrev pub Fails : InstructionSet → Ask → Option (List ℕ) → Option (List ℕ) → Option (List ℕ) → Failure → Type 0
Fails isa ask text old new (Unread fault) = IsRefused isa ask text (fault_message fault.line fault.cause) × Keeps old new
Fails isa ask text old new (Unlisted fault) = IsRefused isa ask text (list_message fault) × Keeps old new
Fails isa ask text old new (Unadopted fault) = IsRefused isa ask text (adopt_message fault) × Keeps old new
Fails isa ask text old new (Unflown fault) = IsRefused isa ask text (rows_message fault) × Keeps old new
Fails isa ask text old new (TextPart fault) = IsRefused isa ask text (of_text (fault_message fault.line fault.cause)) × Keeps old new
Fails isa ask text old new (ListingPart fault) = IsRefused isa ask text (of_listing (list_message fault)) × Keeps old new
Fails isa ask text old new (PacketsPart fault) = IsRefused isa ask text (of_listing (adopt_message fault)) × Keeps old new
Fails isa ask text old new (RowsPart fault) = IsRefused isa ask text (of_listing (rows_message fault)) × Keeps old new
Fails isa ask text old new NoListing = IsRefused isa ask text no_listing × Keeps old new
Fails isa ask text old new (NoLoop number) = IsRefused isa ask text (no_loop number) × Keeps old new
Fails isa ask text old new Memory = Keeps old new
Fails isa ask text old new Input = Keeps old new
Fails isa ask text old new Output = BreaksOff isa ask text old new
Fails isa ask text old new _ = ⊥

-- Why a run failed: the words ask for nothing, or what they ask for was not done.
abbrev pub HasFailed : InstructionSet → List Text → Option (List ℕ) → Option (List ℕ) → Option (List ℕ) → Failure → Type 0
HasFailed isa words text old new f = (Blames f words × Keeps old new) ⊎ IsSomeAnd (asked words) (λ ask. Fails isa ask text old new f)

-- ---- a whole run

-- What a run has to do with: the bytes that its reader still gives, and those that its output and its error stream hold,
-- where they tell them.
pub record Streams : Type 0 where
  pub input : Option (List ℕ)
  pub output : Option (List ℕ)
  pub errors : Option (List ℕ)

abbrev pub streams : Option (List ℕ) → Option (List ℕ) → Option (List ℕ) → Streams
streams input output errors = record { input = input; output = output; errors = errors }

-- How a run ends that is done: what the words ask for was written, and told is only how many cycles were added where a text
-- was drained.
pub record Ends (isa : InstructionSet) (Told : Telling) (words : List Text) (old new : Streams) (status : ℕ) : Type 0 where
  pub outcome : Outcome
  pub ends : status ≡ status_done outcome
  pub done : IsDone isa words outcome old.input old.output new.output
  pub told : TellsOutcome Told outcome old.errors new.errors

-- What a run on these words does to its streams, and the status that it ends with, where what is told is told so (README.md,
-- "Command line").
pub record IsRunBy (isa : InstructionSet) (Told : Telling) (words : List Text) (old new : Streams) (status : ℕ) : Type 0 where
  pub known : status ≤ 7
  -- What the words ask for was written. On 5 that is what a check tells, and some block or loop isn't the same. On 6 and 7 it is the report
  -- of a strict run, which ended by its limit or in which an access faulted.
  pub done : (status ≡ 0) ⊎ (5 ≤ status) → Ends isa Told words old new status
  -- The text is refused, and its fault is told.
  pub refused : status ≡ 1 → TellsOf Told (AsksInVain isa (asked words) old.input) old.errors new.errors
  -- The words are refused. Words, settings and promises are judged first: where they ask for nothing, nothing is read.
  pub blamed : status ≡ 2 → AsksNothing Told words old.errors new.errors
  pub judged : asked words ≡ None → (status ≡ 2) ⊎ (status ≡ 3)
  pub unread : asked words ≡ None → Keeps old.input new.input
  -- Memory ran out, or a stream failed. Where that was the output, a front of the answer is written.
  pub memory : status ≡ 3 → Told old.errors new.errors (codes "memory\n")
  pub stream : status ≡ 4 → Told old.errors new.errors (codes "input\n") ⊎ Told old.errors new.errors (codes "output\n")
  pub broken : status ≡ 4 → Keeps old.output new.output ⊎ IsSomeAnd (asked words) (λ ask. BreaksOff isa ask old.input old.output new.output)
  -- Nothing is written but an answer, and one byte past the limit of a text is the last that is read.
  pub quiet : 0 < status → status < 4 → Keeps old.output new.output
  pub most : TakesAsked words old.input new.input

-- the same, where what is told is told whole, or the front of it that the stream took
abbrev pub IsRun : InstructionSet → List Text → Streams → Streams → ℕ → Type 0
IsRun isa words old new status = IsRunBy isa Tells words old new status

-- the output is a front of an answer to these bytes
pub record BeginsAnswer (isa : InstructionSet) (ask : Ask) (input output : List ℕ) : Type 0 where
  pub outcome : Outcome
  pub answer : List ℕ
  pub is : IsAnswer isa ask outcome input answer
  pub front : IsFront output answer

-- how a run ends that is done, on these bytes
pub record EndsOnBytes (isa : InstructionSet) (words : List Text) (input output errors : List ℕ) (status : ℕ) : Type 0 where
  pub outcome : Outcome
  pub ends : status ≡ status_done outcome
  pub done : IsSomeAnd (asked words) (λ ask. IsAnswer isa ask outcome input output)
  pub told : IsToldOf outcome errors

-- what a run does to these bytes, which wrote these to its output and its error stream
pub record IsRunOnBytes (isa : InstructionSet) (words : List Text) (input output errors : List ℕ) (status : ℕ) : Type 0 where
  pub known : status ≤ 7
  pub done : (status ≡ 0) ⊎ (5 ≤ status) → EndsOnBytes isa words input output errors status
  pub refused : status ≡ 1 → (message : List ℕ) × IsSomeAnd (asked words) (λ ask. IsRefusedText isa ask input message) × IsFront errors message
  pub blamed : status ≡ 2 → IsUnknown words ⊎ ((message : List ℕ) × IsBadWord words message × IsFront errors message)
  pub judged : asked words ≡ None → (status ≡ 2) ⊎ (status ≡ 3)
  pub memory : status ≡ 3 → IsFront errors (codes "memory\n")
  pub stream : status ≡ 4 → IsFront errors (codes "input\n") ⊎ IsFront errors (codes "output\n")
  pub broken : status ≡ 4 → (output ≡ []) ⊎ IsSomeAnd (asked words) (λ ask. BeginsAnswer isa ask input output)
  pub quiet : 0 < status → status < 4 → output ≡ []
