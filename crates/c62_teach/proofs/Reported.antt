-- The accesses that are told are of the lines that a report names.
use Rattle.std.proofs.Common.{◌≡◌, ◌∙◌, ◌⊎◌, inl, inr, ℕ, ◌<◌, ◌≤◌, List, [], ◌∷◌, length, refl, sym, ap, subst}
use Rattle.std.specs.Prelude.{◌↔◌, All, Contains, IsTrue, slice_index, true}
use Rattle.std.specs.List.{flat_map}
use Rattle.std.proofs.lemmas.Bool.{cases_lt}
use Rattle.std.proofs.lemmas.List.{get_or_past}
use Rattle.c62_read.specs.Block.{Serial}
use Rattle.c62_read.specs.Program.{Name}
use Rattle.c62_serial.specs.declared.chain.Chain.{Chain}
use Rattle.c62_serial.specs.State.{IsSound, IsZero, Machine, index_of}
use Rattle.c62_serial.specs.Chain.{RunsProgram}
use Rattle.c62_serial.proofs.MachineLemmas.{same_machine}
use Rattle.c62_packet.specs.Packed.{Packed}
use Rattle.c62_pipe.specs.Chain.{RunsPackets}
use Rattle.c62_flight.specs.Text.{Text as FlightText}
use Rattle.c62_flight.specs.Flight.{Flies}
use Rattle.c62_faulted.specs.declared.fault.Fault.{Fault}
use Rattle.c62_faulted.specs.Faulted.{has_line}
use Rattle.c62_faulted.specs.Sentence.{fault_text}
use Rattle.c62_faulted.proofs.LineLemmas.{tells_lines}
use Rattle.c62_faulted_packets.proofs.Lines.{tells_flight_lines, tells_packet_lines}
use Rattle.c62_command.specs.declared.command.Course.{Course}
use Rattle.c62_command.specs.declared.flight.FlightCourse.{FlightCourse}
use Rattle.c62_command.specs.declared.setting.Setting.{Setting}
use Rattle.c62_command.specs.declared.setting.Setting.TheVariants.{Base, Byte, Dump, Half, Print, Register, Word}
use Rattle.c62_answer.specs.declared.outcome.Outcome.{Outcome}
use Rattle.c62_answer.specs.Run.{IsFlown, IsOpening, IsPacketReport, with_setting, with_settings}
use Rattle.c62_answer.specs.Texts.{IsNoProgram, SaysProgram}
use Rattle.c62_answer.proofs.OneText.{one_program}
use Rattle.c62_answer.specs.Run.{TellsFlightFaults, TellsIf, TellsRunBy}
use Rattle.c62_teach.specs.Faulted.{TellsPackets, TellsProgram, TellsReported, TellsRun, TellsStrict}
use Rattle.c62_op.specs.declared.set.InstructionSet.{InstructionSet}

-- ---- one opening

zero_at : (xs : List ℕ) (k : ℕ) → All (λ x. x ≡ 0) xs → slice_index xs k ≡ 0
zero_at xs k zeros = either (cases_lt k (length xs))
  where
    either : (k < length xs) ⊎ (length xs ≤ k) → slice_index xs k ≡ 0
    either (inl inside) = zeros k 0 inside
    either (inr past) = get_or_past xs k 0 past

one_zero : (one other : Machine) → IsZero one → IsZero other → one ≡ other
one_zero one other zero zero' = same_machine one other zero.sound zero'.sound (record {
  base = zero.base ∙ sym zero'.base;
  words = λ reg.
      zero_at one.registers (index_of reg) zero.words ∙ sym (zero_at other.registers (index_of reg) zero'.words);
  bytes = λ address h. zero_at one.memory address zero.bytes ∙ sym (zero_at other.memory address zero'.bytes);
  faults = λ line. rw (zero.faults, zero'.faults) (λ c. c, λ c. c);
})

pub one_opening : (settings : List Setting) (one other : Machine) → IsOpening settings one → IsOpening settings other
    → one ≡ other
one_opening settings one other begin begin' =
    begin.set ∙ ap (λ (machine : Machine). with_settings settings machine)
    (one_zero begin.zeros begin'.zeros begin.zero begin'.zero)
    ∙ sym begin'.set

setting_keeps : (machine : Machine) (setting : Setting) → (with_setting machine setting).faults ≡ machine.faults
setting_keeps machine (Register reg value) = refl
setting_keeps machine (Byte address value) = refl
setting_keeps machine (Half address value) = refl
setting_keeps machine (Word address value) = refl
setting_keeps machine (Print print) = refl
setting_keeps machine (Dump dump) = refl
setting_keeps machine (Base base) = refl

settings_keep : (settings : List Setting) (machine : Machine) → (with_settings settings machine).faults ≡ machine.faults
settings_keep [] machine = refl
settings_keep (setting ∷ settings) machine =
    settings_keep settings (with_setting machine setting) ∙ setting_keeps machine setting

none_faulted : (settings : List Setting) (opening : Machine) → IsOpening settings opening → opening.faults ≡ []
none_faulted settings opening begin =
    ap (λ (machine : Machine). machine.faults) begin.set ∙ settings_keep settings begin.zeros ∙ begin.zero.faults

-- ---- the lines

-- where the faults that are found have the lines that a run leaves
told_by : (Finds : Machine → List Fault → Type 0) (settings : List Setting) (more : List ℕ) (opening final : Machine)
    → (tells : TellsRunBy Finds settings more) → IsOpening settings opening
    → (IsSound tells.opening → tells.opening.faults ≡ [] → tells.opening ≡ opening
    → (line : ℕ) → IsTrue (has_line line tells.faults) ↔ Contains final.faults line)
    → TellsReported opening.base more final
told_by Finds settings more opening final tells begin lines =
    let same : tells.opening ≡ opening = one_opening settings tells.opening opening tells.begin begin in
    record {
      faults = tells.faults;
      told = tells.told ∙ ap (λ (machine : Machine). flat_map (fault_text machine.base) tells.faults) same;
      lines = lines tells.begin.sound (none_faulted settings tells.opening tells.begin) same;
    }

pub told_lines : (program : List Serial) (settings : List Setting) (course : Course) (more : List ℕ)
    (opening final : Machine) (chain : Chain)
    → TellsRun program settings course more → IsOpening settings opening
    → RunsProgram program opening course.blocks chain final → TellsReported opening.base more final
told_lines program settings course more opening final chain tells begin runs =
    told_by _ settings more opening final tells begin (λ sound none same.
    tells_lines program tells.opening course.blocks tells.faults chain final sound none tells.found
    (subst (λ (machine : Machine). RunsProgram program machine course.blocks chain final) (sym same) runs))

is_program : (isa : InstructionSet) (text : List ℕ) (program : List Serial) (message : List ℕ)
    → SaysProgram isa text program
    → IsNoProgram isa text message → ⊥
is_program isa text program message says none = rw says at none

-- behind a strict run of a text stands what is told of the program that it says
pub strict_lines : (isa : InstructionSet) (program : List Serial) (settings : List Setting) (course : Course)
    (text more : List ℕ)
    (opening final : Machine) (chain : Chain)
    → course.strict ≡ true → TellsStrict isa settings course text more → SaysProgram isa text program
    → IsOpening settings opening → RunsProgram program opening course.blocks chain final
    → TellsReported opening.base more final
strict_lines isa program settings course text more opening final chain strict tells says begin runs =
    either (subst (λ b. TellsIf b (TellsProgram isa settings course text more) more) strict tells)
  where
    either : TellsProgram isa settings course text more → TellsReported opening.base more final
    either (inl (other, is, told)) =
        told_lines program settings course more opening final chain
        (subst (λ p. TellsRun p settings course more) (one_program isa text other program is says) told) begin runs
    either (inr (message, none, nothing)) = absurd (is_program isa text program message says none)

pub packet_lines : (packets : List Packed) (settings : List Setting) (course : Course) (outcome : Outcome)
    (answer more : List ℕ)
    → TellsPackets packets settings course more → (report : IsPacketReport packets settings course outcome answer)
    → TellsReported report.opening.base more report.final
packet_lines packets settings course outcome answer more tells report =
    told_by _ settings more report.opening report.final tells report.begin (λ sound none same.
    tells_packet_lines packets tells.opening course.blocks tells.faults report.chain report.cycles report.final sound
    none tells.found
    (subst (λ (machine : Machine). RunsPackets packets machine course.blocks report.chain report.cycles report.final)
    (sym same) report.run))

pub flight_lines : (flying : FlightText) (labels : List (Name × ℕ)) (first : ℕ) (settings : List Setting)
    (course : FlightCourse) (outcome : Outcome) (answer more : List ℕ)
    → TellsFlightFaults flying first settings course more
    → (report : IsFlown flying labels first settings course outcome answer)
    → TellsReported report.opening.base more report.final
flight_lines flying labels first settings course outcome answer more tells report =
    told_by _ settings more report.opening report.final tells report.begin (λ sound none same.
    tells_flight_lines flying first course.cycles tells.opening tells.faults report.stop report.cycles report.final none
    tells.found
    (subst (λ (machine : Machine). Flies flying first course.cycles machine report.stop report.cycles report.final)
    (sym same) report.flies))
