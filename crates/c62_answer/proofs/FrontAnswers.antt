-- What answers that which is read of an input, at most one byte past the limit, answers all of it.
use Rattle.std.proofs.Common.{◌≡◌, ◌∙◌, ℕ, ◌+◌, true, false, List, take, None, ap, arith, refl, subst, sym}
use Rattle.c62_read.specs.Program.{most_bytes, program_in}
use Rattle.c62_listing_reader.specs.Faults.{drafts_in as listed_in, most_bytes as most_listing_bytes}
use Rattle.c62_adopt.specs.Answer.{code_read}
use Rattle.c62_adopt.proofs.CodeLemmas.{adopted_same}
use Rattle.c62_adopt_cut.specs.Text.{most_bytes as most_packets_bytes}
use Rattle.c62_reach.proofs.Front.{taken_all}
use Rattle.c62_command.specs.CommandLine.{Adoption, Ask, Document, FlightReport, Listing, ListingPicture, LoopListing}
use Rattle.c62_command.specs.CommandLine.{LoopPicture, LoopReport, LoopVerdicts, PacketReport, PacketsPicture, Picture}
use Rattle.c62_command.specs.CommandLine.{Reaching, SerialReport, StandingReport, Verdicts}
use Rattle.c62_command.specs.declared.command.Form.TheVariants.{Listed, Written}
use Rattle.c62_answer.specs.declared.outcome.Outcome.{Outcome}
use Rattle.c62_answer.specs.declared.outcome.Outcome.TheVariants.{Done, Drained, NotSame, Looped}
use Rattle.c62_answer.specs.Run.{Documents, IsAnswer, IsTextAnswer, limit_of}
use Rattle.c62_answer.proofs.Checks.{check_all, most_parted}
use Rattle.c62_answer.proofs.LoopChecks.{loop_check_all}
use Rattle.c62_answer.proofs.Flights.{flight_all}
use Rattle.c62_answer.proofs.Fronts.{adopted_all, code_all, drained_all, listed_all, looped_all}
use Rattle.c62_answer.proofs.Fronts.{program_all}
use Rattle.c62_answer.proofs.TooLong.{read_same}
use Rattle.c62_answer.proofs.Whole.{whole_listing, whole_packets, whole_program}
use Rattle.c62_answer.specs.Drawing.{drawing as drawn_so, loop_drawing}
use Rattle.c62_answer.specs.Standing.{IsDrawn}
use Rattle.c62_command.specs.declared.command.Showing.{Showing}
use Rattle.c62_packet.specs.Packed.{Packed}
use Rattle.c62_op.specs.declared.set.InstructionSet.{InstructionSet}

-- as much of an input as is read under a limit
abbrev front : ℕ → List ℕ → List ℕ
front most all = take (most + 1) all

program_front : (isa : InstructionSet) (all : List ℕ) → program_in isa all ≡ program_in isa (front most_bytes all)
program_front isa all = sym (program_all isa all (front most_bytes all) refl)

listed_front : (isa : InstructionSet) (all : List ℕ) → listed_in isa (front most_listing_bytes all) ≡ listed_in isa all
listed_front isa all = listed_all isa all (front most_listing_bytes all) refl

code_front : (isa : InstructionSet) (all : List ℕ) → code_read isa (front most_packets_bytes all) ≡ code_read isa all
code_front isa all = code_all isa all (front most_packets_bytes all) refl

-- what is drawn of packets beside a text is so beside the same text
unfoldable drawn_all : {text other : List ℕ} (showing : Showing) (packets : List Packed) (answer : List ℕ)
    → text ≡ other → IsDrawn showing packets text answer → IsDrawn showing packets other answer
drawn_all showing packets answer same is = record {
  shown = is.shown;
  standing = is.standing;
  drawn = is.drawn ∙ ap (λ (text : List ℕ). drawn_so showing text is.shown) same;
}

-- the text that answers what was read answers all
unfoldable answered_text : (isa : InstructionSet) (ask : Ask) (outcome : Outcome) (all answer : List ℕ)
    → IsTextAnswer isa ask outcome (front (limit_of ask) all) answer
    → IsTextAnswer isa ask outcome all answer
answered_text isa (Listing packing) Done all answer is = record {
  program = is.program;
  says = program_front isa all ∙ is.says;
  packets = is.packets;
  packed = is.packed;
  listed = is.listed;
}
answered_text isa (Picture showing) Done all answer is = record {
  program = is.program;
  says = program_front isa all ∙ is.says;
  shown = is.shown;
  packed = is.packed;
  bounded = is.bounded;
  drawn = is.drawn ∙ ap (λ (text : List ℕ). drawn_so showing text is.shown)
      (whole_program isa all is.program is.says);
}
answered_text isa (ListingPicture showing) Done all answer is = record {
  packets = is.packets;
  read = read_same isa (front most_listing_bytes all) all is.packets (listed_front isa all) is.read;
  drawn = drawn_all showing is.packets answer (whole_listing isa all is.packets is.read) is.drawn;
}
answered_text isa (PacketsPicture showing) Done all answer is = record {
  packets = is.packets;
  adopted = adopted_same isa false (front most_packets_bytes all) all is.packets 0 (code_front isa all) is.adopted;
  drawn = drawn_all showing is.packets answer (whole_packets isa all is.packets is.adopted) is.drawn;
}
answered_text isa (SerialReport course settings apart) outcome all answer is = record {
  program = is.program;
  says = program_front isa all ∙ is.says;
  reported = is.reported;
}
answered_text isa (PacketReport packing course settings) outcome all answer is = record {
  program = is.program;
  says = program_front isa all ∙ is.says;
  packets = is.packets;
  packed = is.packed;
  reported = is.reported;
}
answered_text isa (StandingReport Listed course settings) outcome all answer is = record {
  packets = is.packets;
  read = read_same isa (front most_listing_bytes all) all is.packets (listed_front isa all) is.read;
  reported = is.reported;
}
answered_text isa (StandingReport Written course settings) outcome all answer is = record {
  packets = is.packets;
  read = adopted_same isa false (front most_packets_bytes all) all is.packets 0 (code_front isa all) is.read;
  reported = is.reported;
}
answered_text isa (FlightReport course from settings) outcome all answer is =
    flight_all isa course from settings outcome all (front most_packets_bytes all) answer refl is
answered_text isa (Adoption false) Done all answer is =
    adopted_all isa false 0 all (front most_packets_bytes all) answer refl is
answered_text isa (Adoption true) (Drained added) all answer is =
    drained_all isa added all (front most_packets_bytes all) answer refl is
answered_text isa (Reaching name ask) outcome all answer is =
    (is.0, taken_all isa name all (front most_packets_bytes all) is.0 refl is.1, is.2)
answered_text isa (Verdicts Listed) Done all answer is =
    check_all isa all (most_parted + 1) (omega arith) Listed true answer is
answered_text isa (Verdicts Listed) NotSame all answer is =
    check_all isa all (most_parted + 1) (omega arith) Listed false answer is
answered_text isa (Verdicts Written) Done all answer is =
    check_all isa all (most_parted + 1) (omega arith) Written true answer
    is
answered_text isa (Verdicts Written) NotSame all answer is =
    check_all isa all (most_parted + 1) (omega arith) Written false answer is
answered_text isa (LoopVerdicts trips apart) Done all answer is =
    loop_check_all isa all (most_parted + 1) (omega arith) trips apart true answer is
answered_text isa (LoopVerdicts trips apart) NotSame all answer is =
    loop_check_all isa all (most_parted + 1) (omega arith) trips apart false answer is
answered_text isa (LoopListing verbose packing trips apart) (Looped told None) all answer is = record {
  program = is.program;
  written = is.written;
  looped = looped_all isa packing trips apart all (front most_bytes all) is.program is.written refl is.looped;
  lines = is.lines;
  listed = is.listed;
}
answered_text isa (LoopPicture drawing packing trips apart) Done all answer is = record {
  program = is.program;
  written = is.written;
  looped = looped_all isa packing trips apart all (front most_bytes all) is.program is.written refl is.looped;
  drawn = is.drawn ∙ ap (λ (text : List ℕ). loop_drawing drawing text is.program is.written)
      (whole_program isa all is.program is.looped.says);
}
answered_text isa (LoopReport verbose packing trips apart course settings) (Looped told has) all answer is = record {
  program = is.program;
  written = is.written;
  looped = looped_all isa packing trips apart all (front most_bytes all) is.program is.written refl is.looped;
  read = is.read;
  first = is.first;
  begins = is.begins;
  flying = is.flying;
  lined = is.lined;
  beside = is.beside;
  outcome = is.outcome;
  flown = is.flown;
  ends = is.ends;
}
answered_text isa _ _ all answer is = absurd is

-- and so does its document
documented : (isa : InstructionSet) (ask : Ask) (outcome : Outcome) (all told answer : List ℕ)
    (is : IsTextAnswer isa ask outcome (front (limit_of ask) all) told)
    → Documents isa ask outcome (front (limit_of ask) all) told is answer
    → Documents isa ask outcome all told (answered_text isa ask outcome all told is) answer
unfolding answered_text drawn_all adopted_all drained_all flight_all check_all loop_check_all
documented isa (Listing packing) Done all told answer is document = document
documented isa (Picture showing) Done all told answer is document = document
documented isa (ListingPicture showing) Done all told answer is document = document
documented isa (PacketsPicture showing) Done all told answer is document = document
documented isa (SerialReport course settings apart) outcome all told answer is document = document
documented isa (PacketReport packing course settings) outcome all told answer is document = document
documented isa (StandingReport Listed course settings) outcome all told answer is document = document
documented isa (StandingReport Written course settings) outcome all told answer is document = document
documented isa (FlightReport course from settings) outcome all told answer is document = document
documented isa (Adoption false) Done all told answer is document = document
documented isa (Adoption true) (Drained added) all told answer is document = document
documented isa (Reaching name ask) outcome all told answer is document = document
documented isa (Verdicts Listed) Done all told answer is document = document
documented isa (Verdicts Listed) NotSame all told answer is document = document
documented isa (Verdicts Written) Done all told answer is document = document
documented isa (Verdicts Written) NotSame all told answer is document = document
documented isa (LoopVerdicts trips apart) Done all told answer is document = document
documented isa (LoopVerdicts trips apart) NotSame all told answer is document = document
documented isa (LoopListing verbose packing trips apart) outcome all told answer is document = document
documented isa (LoopPicture drawing packing trips apart) outcome all told answer is document = document
documented isa (LoopReport verbose packing trips apart course settings) (Looped lines has) all told answer is document =
    document
documented isa _ _ all told answer is document = absurd document

-- the same, of what was read as far as the limit
plain : (isa : InstructionSet) (ask : Ask) (outcome : Outcome) (all text answer : List ℕ)
    → text ≡ take (limit_of ask + 1) all
    → IsTextAnswer isa ask outcome text answer → IsTextAnswer isa ask outcome all answer
plain isa ask outcome all text answer read is =
    answered_text isa ask outcome all answer (subst (λ (t : List ℕ). IsTextAnswer isa ask outcome t answer) read is)

-- the answer to what was read is the answer to all
pub answered : (isa : InstructionSet) (ask : Ask) (outcome : Outcome) (all text answer : List ℕ)
    → text ≡ take (limit_of ask + 1) all
    → IsAnswer isa ask outcome text answer → IsAnswer isa ask outcome all answer
answered isa (Document ask) outcome all text answer read is =
    let moved = subst (λ (t : List ℕ). IsAnswer isa (Document ask) outcome t answer) read is in (
      moved.0,
      answered_text isa ask outcome all moved.0 moved.1,
      documented isa ask outcome all moved.0 answer moved.1
          moved.2,
    )
answered isa (Reaching name ask) outcome all text answer read is =
    (is.0, taken_all isa name all text is.0 read is.1, is.2)
answered isa (Listing packing) outcome all text answer read is =
    plain isa (Listing packing) outcome all text answer read is
answered isa (Picture showing) outcome all text answer read is =
    plain isa (Picture showing) outcome all text answer read is
answered isa (ListingPicture showing) outcome all text answer read is =
    plain isa (ListingPicture showing) outcome all text answer read is
answered isa (PacketsPicture showing) outcome all text answer read is =
    plain isa (PacketsPicture showing) outcome all text answer read is
answered isa (SerialReport course settings apart) outcome all text answer read is =
    plain isa (SerialReport course settings apart) outcome all text answer read is
answered isa (PacketReport packing course settings) outcome all text answer read is =
    plain isa (PacketReport packing course settings) outcome all text answer read is
answered isa (StandingReport form course settings) outcome all text answer read is =
    plain isa (StandingReport form course settings) outcome all text answer read is
answered isa (FlightReport course from settings) outcome all text answer read is =
    plain isa (FlightReport course from settings) outcome all text answer read is
answered isa (Adoption drain) outcome all text answer read is =
    plain isa (Adoption drain) outcome all text answer read is
answered isa (Verdicts form) outcome all text answer read is = plain isa (Verdicts form) outcome all text answer read is
answered isa (LoopVerdicts trips apart) outcome all text answer read is =
    plain isa (LoopVerdicts trips apart) outcome all text answer read is
answered isa (LoopListing verbose packing trips apart) outcome all text answer read is =
    plain isa (LoopListing verbose packing trips apart) outcome all text answer read is
answered isa (LoopPicture drawing packing trips apart) outcome all text answer read is =
    plain isa (LoopPicture drawing packing trips apart) outcome all text answer read is
answered isa (LoopReport verbose packing trips apart course settings) outcome all text answer read is =
    plain isa (LoopReport verbose packing trips apart course settings) outcome all text answer read is
