-- What is read of an input, at most one byte past the limit, tells as much as all of it.
use Rattle.std.proofs.Common.{◌≡◌, ℕ, ◌+◌, true, false, List, length, take, Option, Some, None, Result, sym, ap, subst}
use Rattle.std.proofs.Common.{◌∙◌, arith, inl, inr}
use Rattle.std.specs.Prelude.{Bool, IfSome, IsErrAnd}
use Rattle.std.proofs.lemmas.Bool.{cases_lt}
use Rattle.std.proofs.lemmas.List.{take_all, length-take}
use Rattle.c62_read.specs.Program.{BlockParts, Refusal, program_in}
use Rattle.c62_listing_reader.specs.Faults.{drafts_in as listed_in}
use Rattle.c62_adopt.specs.Answer.{code_in, code_read}
use Rattle.c62_adopt_code.specs.Code.{Refusal as CodeRefusal}
use Rattle.c62_adopt_cut.specs.Text.{text_cut}
use Rattle.c62_adopt_late.specs.Late.{first_late}
use Rattle.c62_answer.specs.declared.outcome.Added.{Added}
use Rattle.c62_adopt.proofs.CodeLemmas.{adopted_same, code_read-take, refuses_same as packets_refused}
use Rattle.c62_answer.specs.Message.{fault_message}
use Rattle.c62_answer.specs.Run.{IsAdoptedText, IsDrainedText, IsRefused, IsRefusedText}
use Rattle.c62_answer.specs.Run.{limit_of}
use Rattle.c62_reach.proofs.Front.{lacks_all, taken_all}
use Rattle.c62_answer.proofs.Flights.{no_flight_all}
use Rattle.c62_command.specs.CommandLine.{Adoption, Ask, FlightReport, Listing, ListingPicture, PacketReport}
use Rattle.c62_command.specs.CommandLine.{PacketsPicture, Picture, Reaching, SerialReport, StandingReport, Verdicts}
use Rattle.c62_command.specs.CommandLine.{Document, LoopListing, LoopPicture, LoopReport, LoopVerdicts}
use Rattle.c62_command.specs.declared.command.Packing.{Packing}
use Rattle.c62_pipeline.specs.declared.written.Pipelining.{Pipelining}
use Rattle.c62_read.specs.Block.{Serial}
use Rattle.c62_answer.specs.Looped.{IsLooped, IsUnlooped}
use Rattle.c62_command.specs.declared.command.Form.{Form}
use Rattle.c62_command.specs.declared.command.Form.TheVariants.{Listed, Written}
use Rattle.clap.specs.Words.{Text}
use Rattle.c62_answer.specs.Texts.{IsNoListing, IsNoPackets, IsNoProgram}
use Rattle.c62_op.specs.declared.register.Reg.{Reg}
use Rattle.c62_answer.specs.Check.{IsNoCheck}
use Rattle.c62_answer.specs.LoopCheck.{IsNoLoopCheck}
use Rattle.c62_answer.proofs.LoopChecks.{no_loop_check_all}
use Rattle.c62_answer.proofs.Checks.{most_parted}
use Rattle.c62_answer.proofs.Checks.{no_check_all}
use Rattle.c62_answer.proofs.TooLong.{refuses_same, too_long, too_long_listing}
use Rattle.c62_read.specs.Program.{most_bytes}
use Rattle.c62_listing_reader.specs.Faults.{most_bytes as most_listing_bytes}
use Rattle.c62_adopt_cut.specs.Text.{most_bytes as most_packets_bytes}
use Rattle.c62_op.specs.declared.set.InstructionSet.{InstructionSet}

pub program_in-take : (isa : InstructionSet) (all : List ℕ)
    → program_in isa (take (most_bytes + 1) all) ≡ program_in isa all
program_in-take isa all =
    elim (cases_lt most_bytes (length all)) [
      | inl long ↦ too_long isa (take (most_bytes + 1) all) (omega (arith, length-take (most_bytes + 1) all))
          ∙ sym (too_long isa all long)
      | inr short ↦ ap (program_in isa) (take_all (most_bytes + 1) all (omega arith))
    ]

pub listed_in-take : (isa : InstructionSet) (all : List ℕ)
    → listed_in isa (take (most_listing_bytes + 1) all) ≡ listed_in isa all
listed_in-take isa all =
    elim (cases_lt most_listing_bytes (length all)) [
      | inl long ↦
          too_long_listing isa (take (most_listing_bytes + 1) all)
          (omega (arith, length-take (most_listing_bytes + 1) all))
          ∙ sym (too_long_listing isa all long)
      | inr short ↦ ap (listed_in isa) (take_all (most_listing_bytes + 1) all (omega arith))
    ]

-- what a part that tells enough says is what all says
pub program_all : (isa : InstructionSet) (all text : List ℕ) → text ≡ take (most_bytes + 1) all
    → program_in isa text ≡ program_in isa all
program_all isa all text read = ap (program_in isa) read ∙ program_in-take isa all

pub listed_all : (isa : InstructionSet) (all text : List ℕ) → text ≡ take (most_listing_bytes + 1) all
    → listed_in isa text ≡ listed_in isa all
listed_all isa all text read = ap (listed_in isa) read ∙ listed_in-take isa all

pub code_all : (isa : InstructionSet) (all text : List ℕ) → text ≡ take (most_packets_bytes + 1) all
    → code_read isa text ≡ code_read isa all
code_all isa all text read = ap (code_read isa) read ∙ code_read-take isa all

unfoldable pub adopted_all : (isa : InstructionSet) (drain : Bool) (added : ℕ) (all text answer : List ℕ)
    → text ≡ take (most_packets_bytes + 1) all
    → IsAdoptedText isa drain added text answer → IsAdoptedText isa drain added all answer
adopted_all isa drain added all text answer read is = record {
  packets = is.packets;
  adopted = adopted_same isa drain text all is.packets added (code_all isa all text read) is.adopted;
  listed = is.listed;
}

unfoldable pub drained_all : (isa : InstructionSet) (added : Added) (all text answer : List ℕ)
    → text ≡ take (most_packets_bytes + 1) all
    → IsDrainedText isa added text answer
    → IsDrainedText isa added all answer
drained_all isa added all text answer read is = record {
  adopted = adopted_all isa true added.cycles all text answer read is.adopted;
  late = is.late ∙ ap (λ (code : Result (List ℕ) CodeRefusal). first_late (text_cut isa (code_in code)))
      (code_all isa all text read);
}

no_packets_all : (isa : InstructionSet) (drain : Bool) (all text message : List ℕ)
    → text ≡ take (most_packets_bytes + 1) all
    → IsNoPackets isa drain text message
    → IsNoPackets isa drain all message
no_packets_all isa drain all text message read is = record {
  fault = is.fault;
  known = is.known;
  refused = packets_refused isa drain text all is.fault (code_all isa all text read) is.refused;
  told = is.told;
}

-- a listing and packets as they are written may be as long
unchecked_all : (isa : InstructionSet) (form : Form) (all text message : List ℕ)
    → text ≡ take (limit_of (Verdicts form) + 1) all
    → IsNoCheck isa form text message → IsNoCheck isa form all message
unchecked_all isa Listed all text message read is = no_check_all isa all (most_parted + 1) (omega arith) Listed message
    (subst (λ (xs : List ℕ). IsNoCheck isa Listed xs message) read is)
unchecked_all isa Written all text message read is =
    no_check_all isa all (most_parted + 1) (omega arith) Written message
    (subst (λ (xs : List ℕ). IsNoCheck isa Written xs message) read is)

loops_unchecked_all : (isa : InstructionSet) (trips : List (Text × ℕ)) (all text message : List ℕ)
    → text ≡ take (most_parted + 1) all
    → IsNoLoopCheck isa trips text message → IsNoLoopCheck isa trips all message
loops_unchecked_all isa trips all text message read is =
    no_loop_check_all isa all (most_parted + 1) (omega arith) trips message
    (subst (λ (xs : List ℕ). IsNoLoopCheck isa trips xs message) read is)

pub looped_all : (isa : InstructionSet) (packing : Packing) (trips : List (Text × ℕ)) (apart : List Reg)
    (all text : List ℕ)
    (program : List Serial) (written : Pipelining)
    → text ≡ take (most_bytes + 1) all → IsLooped isa packing trips apart text program written
    → IsLooped isa packing trips apart all program written
looped_all isa packing trips apart all text program written read is = record {
  says = sym (program_all isa all text read) ∙ is.says;
  named = is.named;
  own = is.own;
  packed = is.packed;
  is = is.is;
}

no_program_all : (isa : InstructionSet) (all text message : List ℕ) → text ≡ take (most_bytes + 1) all
    → IsNoProgram isa text message
    → IsNoProgram isa all message
no_program_all isa all text message read is =
    subst (λ (p : Result (List BlockParts) Refusal). IsErrAnd p (λ fault. message ≡ fault_message fault.0 fault.1))
    (program_all isa all text read) is

no_listing_all : (isa : InstructionSet) (all text message : List ℕ) → text ≡ take (most_listing_bytes + 1) all
    → IsNoListing isa text message
    → IsNoListing isa all message
no_listing_all isa all text message read is = record {
  fault = is.fault;
  known = is.known;
  refused = refuses_same isa text all is.fault (listed_all isa all text read) is.refused;
  told = is.told;
}

unlooped_all : (isa : InstructionSet) (trips : List (Text × ℕ)) (all text message : List ℕ)
    → text ≡ take (most_bytes + 1) all
    → IsUnlooped isa trips text message → IsUnlooped isa trips all message
unlooped_all isa trips all text message read (inl none) = inl (no_program_all isa all text message read none)
unlooped_all isa trips all text message read (inr is) = inr (record {
  program = is.program;
  says = sym (program_all isa all text read) ∙ is.says;
  number = is.number;
  first = is.first;
  told = is.told;
})

refused_all : (isa : InstructionSet) (ask : Ask) (all text message : List ℕ) → text ≡ take (limit_of ask + 1) all
    → IsRefusedText isa ask text message → IsRefusedText isa ask all message
refused_all isa (Listing packing) all text message read is = no_program_all isa all text message read is
refused_all isa (Picture showing) all text message read is = no_program_all isa all text message read is
refused_all isa (SerialReport course settings apart) all text message read is =
    no_program_all isa all text message read is
refused_all isa (PacketReport packing course settings) all text message read is =
    no_program_all isa all text message read is
refused_all isa (StandingReport Listed course settings) all text message read is =
    no_listing_all isa all text message read is
refused_all isa (StandingReport Written course settings) all text message read is =
    no_packets_all isa false all text message
    read is
refused_all isa (ListingPicture showing) all text message read is = no_listing_all isa all text message read is
refused_all isa (PacketsPicture showing) all text message read is = no_packets_all isa false all text message read is
refused_all isa (FlightReport course from settings) all text message read is =
    no_flight_all isa from all text message read is
refused_all isa (Adoption drain) all text message read is = no_packets_all isa drain all text message read is
refused_all isa (Document ask) all text message read is = refused_all isa ask all text message read is
refused_all isa (Reaching name ask) all text message read (inl none) = inl
    (record { lacks = lacks_all isa name all text read none.lacks; told = none.told })
refused_all isa (Reaching name ask) all text message read (inr is) = inr
    (is.0, taken_all isa name all text is.0 read is.1, is.2)
refused_all isa (Verdicts form) all text message read is = unchecked_all isa form all text message read is
refused_all isa (LoopVerdicts trips apart) all text message read is =
    loops_unchecked_all isa trips all text message read is
refused_all isa (LoopListing verbose packing trips apart) all text message read is =
    unlooped_all isa trips all text message read is
refused_all isa (LoopPicture drawing packing trips apart) all text message read is =
    unlooped_all isa trips all text message read is
refused_all isa (LoopReport verbose packing trips apart course settings) all text message read (inl is) =
    inl (unlooped_all isa trips all text message read is)
refused_all isa (LoopReport verbose packing trips apart course settings) all text message read (inr is) = inr (record {
  program = is.program;
  written = is.written;
  looped = looped_all isa packing trips apart all text is.program is.written read is.looped;
  fault = is.fault;
  known = is.known;
  refused = is.refused;
  told = is.told;
})

pub refused : (isa : InstructionSet) (ask : Ask) (known : Option (List ℕ)) (text message : List ℕ)
    → IfSome known (λ all. text ≡ take (limit_of ask + 1) all) → IsRefusedText isa ask text message
    → IsRefused isa ask known message
refused isa ask None text message read is = tt
refused isa ask (Some all) text message read is = refused_all isa ask all text message read is
