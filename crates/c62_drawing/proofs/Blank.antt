-- What a run is drawn of on a blank sheet is there, and a sheet that was blank has it.
use Rattle.std.proofs.Common.{◌≡◌, ◌∙◌, Bool, Ok, Err, inl, inr, ℕ, List, [], ◌++◌, take, Option, Some, None}
use Rattle.std.proofs.Common.{ap, refl, sym}
use Rattle.std.specs.Prelude.{option_map}
use Rattle.std.specs.Io.KnownBytes.{Appends}
use Rattle.clap.specs.Words.{Text}
use Rattle.c62_read.specs.Program.{Name}
use Rattle.c62_serial.specs.State.{Machine}
use Rattle.c62_packet.specs.Packed.{Packed}
use Rattle.c62_packet.specs.Packets.{labels_of}
use Rattle.c62_flight.specs.Text.{Text as FlightText}
use Rattle.c62_command.specs.declared.setting.Setting.{Setting}
use Rattle.c62_command.specs.declared.command.Course.{Course}
use Rattle.c62_command.specs.declared.command.Form.{Form}
use Rattle.c62_command.specs.declared.command.Request.{Request}
use Rattle.c62_command.specs.declared.command.Request.TheVariants as request
use Rattle.c62_command.specs.declared.flight.FlightCourse.{FlightCourse}
use Rattle.c62_trace.specs.declared.view.Window.{Window}
use Rattle.c62_trace.specs.Event.{Entry}
use Rattle.c62_trace.specs.Stream.{Sent, IsTold}
use Rattle.c62_drawing.specs.declared.draw.Drawn.{Drawn}
use Rattle.c62_drawing.specs.declared.draw.Drawn.TheVariants.{Trace, Wave}
use Rattle.c62_drawing.specs.declared.run.Traced.{Traced}
use Rattle.c62_drawing.specs.Traced.{DrawsFlight, DrawsFlying, DrawsPackets, DrawsRequest, DrawsStanding, Gets}
use Rattle.c62_op.specs.declared.set.InstructionSet.{InstructionSet}

-- so much is drawn on a blank sheet, and a sheet that was blank has it
abbrev pub OnBlank : (Option (List ℕ) → Option (List ℕ) → Type 0) → (old new : Option (List ℕ)) → Type 0
OnBlank Draws old new = (bytes : List ℕ) × Draws (Some []) (Some bytes) × (old ≡ Some [] → new ≡ Some bytes)

appended : (old new : Option (List ℕ)) (bytes : List ℕ) → Appends old new bytes → old ≡ Some [] → new ≡ Some bytes
appended None new bytes appends blank = absurd (some_none [] (sym blank))
  where
    some_none : (held : List ℕ) → Some held ≡ None → ⊥
    some_none held e = cc
appended (Some xs) None bytes appends blank = absurd appends
appended (Some xs) (Some ys) bytes appends blank =
    let none : xs ≡ [] = cc in
    ap (λ (v : List ℕ). Some v) (appends ∙ ap (λ (v : List ℕ). v ++ bytes) none)

told_blank : (whole : Sent) (old new : Option (List ℕ)) (text : List ℕ) → IsTold whole old new text
    → OnBlank (λ o n. IsTold whole o n text) old new
told_blank (Ok done) old new text told = (text, refl, appended old new text told)
told_blank (Err refused) old new text told = (take told.0 text, (told.0, refl), appended old new (take told.0 text) told.1)

gets_blank : (drawn : Drawn) (window : Window) (names : List (Option Name)) (opening : Machine) (cycles : ℕ)
    (log : List Entry) (whole : Sent) (old new : Option (List ℕ))
    → Gets drawn window names opening cycles log whole old new
    → OnBlank (Gets drawn window names opening cycles log whole) old new
gets_blank Trace window names opening cycles log whole old new gets =
    let blank = told_blank whole old new _ gets.told in (
      blank.0,
      record {
        view = gets.view;
        shown = gets.shown;
        named = gets.named;
        from = gets.from;
        told = blank.1;
      },
      blank.2,
    )
gets_blank Wave window names opening cycles log whole old new gets = told_blank whole old new _ gets

packets_blank : (drawn : Drawn) (window : Window) (packets : List Packed) (course : Course) (settings : List Setting)
    (whole : Sent) (old new : Option (List ℕ))
    → DrawsPackets drawn window packets course settings whole old new
    → OnBlank (DrawsPackets drawn window packets course settings whole) old new
packets_blank drawn window packets course settings whole old new d =
    let blank = gets_blank drawn window (labels_of packets) d.opening d.cycles d.log whole old new d.gets in (
      blank.0,
      record {
        opening = d.opening;
        begin = d.begin;
        chain = d.chain;
        cycles = d.cycles;
        final = d.final;
        log = d.log;
        runs = d.runs;
        gets = blank.1;
      },
      blank.2,
    )

flight_blank : (drawn : Drawn) (window : Window) (text : FlightText) (labels : List (Name × ℕ)) (first : ℕ)
    (course : FlightCourse) (settings : List Setting) (whole : Sent) (old new : Option (List ℕ))
    → DrawsFlight drawn window text labels first course settings whole old new
    → OnBlank (DrawsFlight drawn window text labels first course settings whole) old new
flight_blank drawn window text labels first course settings whole old new d =
    let blank = gets_blank drawn window _ d.opening _ d.log whole old new d.gets in (
      blank.0,
      record {
        opening = d.opening;
        begin = d.begin;
        stop = d.stop;
        cycles = d.cycles;
        final = d.final;
        log = d.log;
        runs = d.runs;
        gets = blank.1;
      },
      blank.2,
    )

standing_blank : (isa : InstructionSet) (drawn : Drawn) (window : Window) (form : Form) (course : Course)
    (settings : List Setting)
    (text : List ℕ) (traced : Traced) (old new : Option (List ℕ))
    → DrawsStanding isa drawn window form course settings text traced old new
    → OnBlank (DrawsStanding isa drawn window form course settings text traced) old new
standing_blank isa drawn window form course settings text traced old new (inl d) =
    let blank = packets_blank drawn window d.0 course settings d.2 old new d.4 in
    (blank.0, inl (d.0, d.1, d.2, d.3, blank.1), blank.2)
standing_blank isa drawn window form course settings text traced old new (inr d) =
    ([], inr (d.0, d.1, d.2, refl), λ blank. d.3 ∙ blank)

flying_blank : (isa : InstructionSet) (drawn : Drawn) (window : Window) (alone : Bool) (from : Option Text)
    (course : FlightCourse)
    (settings : List Setting) (text : List ℕ) (traced : Traced) (old new : Option (List ℕ))
    → DrawsFlying isa drawn window alone from course settings text traced old new
    → OnBlank (DrawsFlying isa drawn window alone from course settings text traced) old new
flying_blank isa drawn window alone from course settings text traced old new (inl d) =
    let blank = flight_blank drawn window _ d.0.labels.entries d.0.first course settings d.2 old new d.4 in
    (blank.0, inl (d.0, d.1, d.2, d.3, blank.1), blank.2)
flying_blank isa drawn window alone from course settings text traced old new (inr d) =
    ([], inr (d.0, d.1, refl), λ blank. d.2 ∙ blank)

pub request_blank : (isa : InstructionSet) (drawn : Drawn) (window : Window) (asked : Request) (text : List ℕ)
    (traced : Traced)
    (old new : Option (List ℕ)) → DrawsRequest isa drawn window asked text traced old new
    → OnBlank (DrawsRequest isa drawn window asked text traced) old new
request_blank isa drawn window (request.Sim form start) text traced old new d =
    standing_blank isa drawn window form start.course start.settings.items text traced old new d
request_blank isa drawn window (request.Exec start) text traced old new d =
    flying_blank isa drawn window start.alone
    (option_map (λ name. name.items) start.from) start.course start.settings.items
    text traced old new d
request_blank isa drawn window (request.Pack packing) text traced old new d = ([], (d.0, refl), λ blank. d.1 ∙ blank)
request_blank isa drawn window (request.Show showing) text traced old new d = ([], (d.0, refl), λ blank. d.1 ∙ blank)
request_blank isa drawn window (request.ShowListing showing) text traced old new d =
    ([], (d.0, refl), λ blank. d.1 ∙ blank)
request_blank isa drawn window (request.ShowPackets showing) text traced old new d =
    ([], (d.0, refl), λ blank. d.1 ∙ blank)
request_blank isa drawn window (request.Run packing start) text traced old new d =
    ([], (d.0, refl), λ blank. d.1 ∙ blank)
request_blank isa drawn window (request.Serial start bases) text traced old new d =
    ([], (d.0, refl), λ blank. d.1 ∙ blank)
request_blank isa drawn window (request.Adopt adopting) text traced old new d = ([], (d.0, refl), λ blank. d.1 ∙ blank)
request_blank isa drawn window (request.Check form) text traced old new d = ([], (d.0, refl), λ blank. d.1 ∙ blank)
request_blank isa drawn window (request.CheckLoops promises) text traced old new d =
    ([], (d.0, refl), λ blank. d.1 ∙ blank)
request_blank isa drawn window (request.PackLoops looping) text traced old new d =
    ([], (d.0, refl), λ blank. d.1 ∙ blank)
request_blank isa drawn window (request.ShowLoops looping drawing) text traced old new d =
    ([], (d.0, refl), λ blank. d.1 ∙ blank)
request_blank isa drawn window (request.RunLoops looping flight) text traced old new d =
    ([], (d.0, refl), λ blank. d.1 ∙ blank)
