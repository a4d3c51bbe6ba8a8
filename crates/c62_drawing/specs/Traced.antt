-- What a stream gets of the trace or the waveform of a run from zeros with settings (docs/TRACE.md, docs/WAVE.md).
use Rattle.std.specs.Prelude.{◌≡◌, ◌⊎◌, ℕ, ◌+◌, Bool, List, map, Option, Some, None, Ok, Err, option_map}
use Rattle.clap.specs.Words.{Text}
use Rattle.c62_read.specs.Program.{Name}
use Rattle.c62_serial.specs.declared.chain.Chain.{Chain}
use Rattle.c62_serial.specs.State.{Machine}
use Rattle.c62_packet.specs.Packed.{Packed}
use Rattle.c62_packet.specs.Packets.{labels_of}
use Rattle.c62_flight.specs.declared.stop.Stop.{Stop}
use Rattle.c62_flight.specs.Text.{Text as FlightText}
use Rattle.c62_rows.specs.declared.text.Begun.{Begun}
use Rattle.c62_rows.specs.Rows.{text_of}
use Rattle.c62_command.specs.declared.setting.Setting.{Setting}
use Rattle.c62_command.specs.declared.command.Form.{Form}
use Rattle.c62_command.specs.declared.command.Request.{Request}
use Rattle.c62_command.specs.declared.command.Request.TheVariants.{Sim, Exec}
use Rattle.c62_command.specs.declared.command.Course.{Course}
use Rattle.c62_command.specs.declared.flight.FlightCourse.{FlightCourse}
use Rattle.c62_answer.specs.Run.{IsOpening}
use Rattle.c62_answer.specs.Texts.{SaysNoPackets, SaysPackets}
use Rattle.c62_trace.specs.declared.view.Window.{Window}
use Rattle.c62_trace.specs.declared.view.View.{View}
use Rattle.c62_trace.specs.Event.{Entry}
use Rattle.c62_trace.specs.Line.{trace_lines}
use Rattle.c62_trace.specs.Stream.{Sent, IsTold}
use Rattle.c62_traced.specs.Names.{name_at}
use Rattle.c62_traced.specs.Chain.{IsChainLog}
use Rattle.c62_traced.specs.Flight.{IsFlightLog}
use Rattle.c62_wave.specs.Wave.{wave_of}
use Rattle.c62_drawing.specs.declared.draw.Drawn.{Drawn}
use Rattle.c62_drawing.specs.declared.draw.Drawn.TheVariants.{Trace, Wave}
use Rattle.c62_drawing.specs.declared.run.Traced.{Traced}
use Rattle.c62_drawing.specs.declared.run.Traced.TheVariants.{Nothing, Whole, Cut}
use Rattle.c62_drawing.specs.Found.{FindsFlight}
use Rattle.c62_op.specs.declared.set.InstructionSet.{InstructionSet}

-- A stream got the lines of these events that a window shows, with the names of what branches go to, and by their addresses: all of
-- them, or a front where it refused what follows.
pub record GetsTrace (window : Window) (names : List (Option Name)) (base : ℕ) (log : List Entry) (whole : Sent) (old new : Option (List ℕ)) : Type 0 where
  pub view : View
  pub shown : view.window ≡ window
  pub named : view.names.items ≡ names
  pub from : view.base ≡ base
  pub told : IsTold whole old new (trace_lines view log)

-- what a stream gets of a run of so many cycles from this machine on: its trace or its waveform
abbrev pub Gets : Drawn → Window → List (Option Name) → (opening : Machine) → (cycles : ℕ) → List Entry → (whole : Sent) → (old new : Option (List ℕ)) → Type 0
Gets Trace window names opening cycles log whole old new = GetsTrace window names opening.base log whole old new
Gets Wave window names opening cycles log whole old new = IsTold whole old new (wave_of window opening.base opening.registers log cycles)

-- Packets as they stand run so on this course, and a stream got what is drawn of it.
pub record DrawsPackets (drawn : Drawn) (window : Window) (packets : List Packed) (course : Course) (settings : List Setting) (whole : Sent) (old new : Option (List ℕ)) : Type 0 where
  pub opening : Machine
  pub begin : IsOpening settings opening
  pub chain : Chain
  pub cycles : ℕ
  pub final : Machine
  pub log : List Entry
  pub runs : IsChainLog packets opening course.blocks chain cycles final log
  pub gets : Gets drawn window (labels_of packets) opening cycles log whole old new

-- A text of packets flies so from a row on, and a stream got what is drawn of it, up to the last landing.
pub record DrawsFlight (drawn : Drawn) (window : Window) (text : FlightText) (labels : List (Name × ℕ)) (first : ℕ) (course : FlightCourse) (settings : List Setting) (whole : Sent) (old new : Option (List ℕ)) : Type 0 where
  pub opening : Machine
  pub begin : IsOpening settings opening
  pub stop : Stop
  pub cycles : ℕ
  pub final : Machine
  pub log : List Entry
  pub runs : IsFlightLog text first course.cycles opening stop cycles final log
  pub gets : Gets drawn window (map (name_at labels) text.aims) opening (cycles + 4) log whole old new

-- ---- texts

-- all was taken, or a front of it
abbrev pub of_whole : Sent → Traced
of_whole (Ok _) = Whole
of_whole (Err refused) = Cut refused

-- the text says packets of this form, whose run is drawn, or it is refused, and nothing is written
abbrev pub DrawsStanding : InstructionSet → Drawn → Window → Form → Course → List Setting → (text : List ℕ) → Traced → (old new : Option (List ℕ)) → Type 0
DrawsStanding isa drawn window form course settings text traced old new =
    ((packets : List Packed) × SaysPackets isa form text packets
    × (whole : Sent) × (traced ≡ of_whole whole) × DrawsPackets drawn window packets course settings whole old new)
    ⊎ ((message : List ℕ) × SaysNoPackets isa form text message × (traced ≡ Nothing) × (new ≡ old))

-- so it is with a text of packets in flight
abbrev pub DrawsFlying : InstructionSet → Drawn → Window → (alone : Bool) → (from : Option Text) → FlightCourse → List Setting → (text : List ℕ) → Traced → (old new : Option (List ℕ)) → Type 0
DrawsFlying isa drawn window alone from course settings text traced old new =
    ((begun : Begun) × FindsFlight isa alone from text (Some begun)
    × (whole : Sent) × (traced ≡ of_whole whole)
    × DrawsFlight drawn window (text_of begun.rows) begun.labels.entries begun.first course settings whole old new)
    ⊎ (FindsFlight isa alone from text None × (traced ≡ Nothing) × (new ≡ old))

-- What a stream gets of the run that is asked for: what is drawn of a run of packets, and of others nothing.
abbrev pub DrawsRequest : InstructionSet → Drawn → Window → Request → (text : List ℕ) → Traced → (old new : Option (List ℕ)) → Type 0
DrawsRequest isa drawn window (Sim form start) text traced old new =
    DrawsStanding isa drawn window form start.course start.settings.items text traced old new
DrawsRequest isa drawn window (Exec start) text traced old new =
    DrawsFlying isa drawn window start.alone (option_map (λ name. name.items) start.from) start.course start.settings.items text traced old new
DrawsRequest isa drawn window request text traced old new = (traced ≡ Nothing) × (new ≡ old)
