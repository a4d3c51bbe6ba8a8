-- What answers a text, from what each step gave.
use Rattle.std.proofs.Common.{◌≡◌, ◌∙◌, ℕ, Bool, true, false, List, Option, Ok, Err, ap, sym, refl, subst, inl, inr}
use Rattle.c62_read.specs.Block.{Serial}
use Rattle.c62_read.specs.Program.{Name}
use Rattle.c62_packet.specs.Packed.{Packed}
use Rattle.c62_listing.specs.Listing.{listing}
use Rattle.c62_adopt.specs.declared.fault.AdoptFault.{AdoptFault}
use Rattle.c62_adopt.specs.Answer.{IsAdopted, LacksCode, Refuses, code_cut, code_read}
use Rattle.c62_adopt_late.specs.declared.late.Late.{Late}
use Rattle.c62_adopt_late.specs.Late.{first_late}
use Rattle.c62_adopt.proofs.CodeLemmas.{coded_by}
use Rattle.c62_adopt.specs.Laws.{DrainsNothing}
use Rattle.clap.specs.Words.{Text}
use Rattle.c62_rows.specs.declared.fault.RowsFault.{RowsFault}
use Rattle.c62_rows.specs.declared.text.Begun.{Begun}
use Rattle.c62_rows.specs.Rows.{text_of}
use Rattle.c62_rows.specs.Text.{IsText, IsTextFrom, RefusesFrom}
use Rattle.c62_rows.specs.Told.{BeginsAs}
use Rattle.c62_command.specs.declared.setting.Setting.{Setting}
use Rattle.c62_command.specs.declared.command.Course.{Course}
use Rattle.c62_command.specs.declared.flight.FlightCourse.{FlightCourse}
use Rattle.c62_command.specs.declared.command.Packing.{Packing}
use Rattle.c62_answer.specs.declared.outcome.Outcome.{Outcome}
use Rattle.c62_answer.specs.declared.failure.Failure.{Failure}
use Rattle.c62_answer.specs.declared.failure.Failure.TheVariants as failures
use Rattle.c62_answer.specs.Message.{fault_message}
use Rattle.c62_command.specs.CommandLine.{Adoption, Ask, FlightReport}
use Rattle.c62_answer.specs.Schedule.{AreScheduled}
use Rattle.c62_answer.specs.Texts.{IsNoProgram}
use Rattle.c62_answer.specs.Run.{Gives, GivesProgram, IsAdoptFailure, IsRowsFailure, IsAnswer, IsFlightReport, IsFlown}
use Rattle.c62_answer.specs.Run.{IsPacketReport, IsRefusedText, IsSameReport, added_of, outcome_adopted}
use Rattle.c62_answer.proofs.Schedules.{runs_serially}
use Rattle.c62_op.specs.declared.set.InstructionSet.{InstructionSet}

module _ (isa : InstructionSet) (ask : Ask) (text : List ℕ) where
  -- where no program was read, that is the answer
  pub no_program : ((message : List ℕ) → IsNoProgram isa text message → IsRefusedText isa ask text message)
      → (f : Failure)
      → GivesProgram isa text (Err f) → Gives isa ask text (Err f)
  no_program same (failures.Unread fault) gives = same (fault_message fault.line fault.cause) gives
  no_program same (failures.Unlisted fault) gives = absurd gives
  no_program same (failures.Unadopted fault) gives = absurd gives
  no_program same (failures.Unflown fault) gives = absurd gives
  no_program same (failures.TextPart fault) gives = absurd gives
  no_program same (failures.ListingPart fault) gives = absurd gives
  no_program same (failures.PacketsPart fault) gives = absurd gives
  no_program same failures.NoListing gives = absurd gives
  no_program same (failures.RowsPart fault) gives = absurd gives
  no_program same (failures.NoLoop k) gives = absurd gives
  no_program same (failures.Promise bad) gives = absurd gives
  no_program same (failures.Excluded exclusion) gives = absurd gives
  no_program same (failures.Words e) gives = absurd gives
  no_program same (failures.Setting k) gives = absurd gives
  no_program same failures.Memory gives = tt
  no_program same failures.Input gives = absurd gives
  no_program same failures.Output gives = absurd gives

-- the packets of a program run as it does
pub same_report : (packing : Packing) (program : List Serial) (packets : List Packed) (settings : List Setting)
    (course : Course) (outcome : Outcome) (answer : List ℕ)
    → AreScheduled packing program packets → IsPacketReport packets settings course outcome answer
    → IsSameReport program packets settings course outcome answer
same_report packing program packets settings course outcome answer all reported = record {
  reported = reported;
  serial = runs_serially packing program packets reported.opening reported.final course.blocks reported.cycles
      reported.chain all reported.begin.sound reported.run;
}

-- ---- packets that are adopted

-- where a text makes no packets, that is the answer
pub no_adoption : (isa : InstructionSet) (drain : Bool) (text : List ℕ) (fault : AdoptFault) (f : Failure)
    → IsAdoptFailure fault f
    → Refuses isa drain text fault
    → Gives isa (Adoption drain) text (Err f)
no_adoption isa drain text fault f (inl memory) refused = rw (memory.1) tt
no_adoption isa drain text fault f (inr known) refused = rw (known.1)
    (record { fault = fault; known = known.0; refused = refused; told = refl })

-- where it does, this is
pub adopted_text : (isa : InstructionSet) (drain : Bool) (text answer : List ℕ) (packets : List Packed) (added : ℕ)
    (late : Option Late)
    → DrainsNothing isa text packets
    → IsAdopted isa drain text packets added → late ≡ first_late (code_cut isa text) → answer ≡ listing packets
    → IsAnswer isa (Adoption drain) (outcome_adopted drain (added_of added late)) text answer
adopted_text isa true text answer packets added late lacks is first listed =
    record { adopted = record { packets = packets; adopted = is; listed = listed }; late = first }
adopted_text isa false text answer packets added late lacks is first listed =
    record {
      packets = packets;
      adopted = subst (IsAdopted isa false text packets) (lacks added is).0 is;
      listed =
          listed;
    }

-- ---- packets in flight

-- where a text makes no rows, or none has the label with which a run is to begin, that is the answer
pub no_flight : (isa : InstructionSet) (course : FlightCourse) (from : Option Text) (settings : List Setting)
    (text code : List ℕ)
    (fault : RowsFault) (f : Failure)
    → code_read isa text ≡ Ok code → IsRowsFailure fault f → RefusesFrom isa code from fault
    → Gives isa (FlightReport course from settings) text (Err f)
no_flight isa course from settings text code fault f is (inl memory) refused = rw (memory.1) tt
no_flight isa course from settings text code fault f is (inr known) refused =
    let same = coded_by isa text code is in
    rw (known.1) (inr (record {
      coded = is ∙ ap Ok (sym same);
      fault = fault;
      known = known.0;
      refused = subst (λ (c : List ℕ). RefusesFrom isa c from fault) (sym same) refused;
      told = refl;
    }))

-- where it has no code
pub uncoded_flight : (isa : InstructionSet) (course : FlightCourse) (from : Option Text) (settings : List Setting)
    (text : List ℕ)
    (fault : AdoptFault) (f : Failure)
    → IsAdoptFailure fault f → LacksCode isa text fault → Gives isa (FlightReport course from settings) text (Err f)
uncoded_flight isa course from settings text fault f (inl memory) lacks = rw (memory.1) tt
uncoded_flight isa course from settings text fault f (inr known) lacks =
    rw (known.1) (inl (record { fault = fault; known = known.0; lacks = lacks; told = refl }))

-- where it does, this is
unfoldable pub flight_text : (isa : InstructionSet) (course : FlightCourse) (named from : Option Text)
    (settings : List Setting)
    (outcome : Outcome)
    (text code answer : List ℕ) (begun : Begun) → named ≡ from
    → code_read isa text ≡ Ok code → BeginsAs isa code named begun
    → IsFlown (text_of begun.rows) begun.labels.entries begun.first settings course outcome answer
    → IsFlightReport isa course from settings outcome text answer
flight_text isa course named from settings outcome text code answer begun same is begins flown =
    let own = coded_by isa text code is in
    let start = subst (λ (o : Option Text). IsTextFrom isa code o (text_of begun.rows) begun.first) same begins.is_text
    in
    record {
      flying = text_of begun.rows;
      first = begun.first;
      coded = is ∙ ap Ok (sym own);
      begins = subst (λ (c : List ℕ). IsTextFrom isa c from (text_of begun.rows) begun.first) (sym own) start;
      labels = begun.labels.entries;
      named = subst (λ (c : List ℕ). IsText isa c (text_of begun.rows) begun.labels.entries) (sym own)
          (subst (λ (labels : List (Name × ℕ)). IsText isa code (text_of begun.rows) labels) (sym begins.named)
          begins.is_text.is_text);
      flown = flown;
    }

-- the name stands in the words
pub no_flight_named : (isa : InstructionSet) (course : FlightCourse) (named from : Option Text)
    (settings : List Setting) (text code : List ℕ)
    (fault : RowsFault) (f : Failure) → named ≡ from
    → code_read isa text ≡ Ok code → IsRowsFailure fault f → RefusesFrom isa code named fault
    → Gives isa (FlightReport course from settings) text (Err f)
no_flight_named isa course named from settings text code fault f same own is refused =
    no_flight isa course from settings text code fault f own is
    (subst (λ (o : Option Text). RefusesFrom isa code o fault) same refused)
