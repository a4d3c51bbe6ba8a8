-- Texts that are too long, and texts of which the same is told.
use Rattle.std.proofs.Common.{◌≡◌, ◌∙◌, ℕ, ◌<◌, ◌≤◌, List, length, map, Result, Ok, Err, refl, sym, inl, inr}
use Rattle.std.proofs.lemmas.Bool.{cases_lt, lt-ltb}
use Rattle.c62_line.specs.declared.fault.Cause.TheVariants.{TextTooLong}
use Rattle.c62_read.specs.Block.{Serial}
use Rattle.c62_read.specs.Program.{BlockParts, Refusal, block_parts, drafts_in, program_in}
use Rattle.c62_listing_reader.specs.Faults.{IsRead, drafts_in as listed_in}
use Rattle.c62_listing_reader.specs.declared.fault.ListFault.{ListFault}
use Rattle.c62_listing_reader.specs.declared.fault.ListFault.TheVariants as listed
use Rattle.c62_listing_reader.specs.declared.fault.LineFault.TheVariants.{Read}
use Rattle.c62_listing_reader.specs.Reading.{Refuses}
use Rattle.c62_packet.specs.Packed.{Packed}
use Rattle.c62_answer.specs.Texts.{SaysProgram}
use Rattle.c62_read.specs.Program.{most_bytes}
use Rattle.c62_listing_reader.specs.Faults.{most_bytes as most_listing_bytes}
use Rattle.c62_op.specs.declared.set.InstructionSet.{InstructionSet}

pub too_long : (isa : InstructionSet) (text : List ℕ) → most_bytes < length text
    → program_in isa text ≡ Err (0, TextTooLong)
unfolding program_in drafts_in
too_long isa text long = rw (lt-ltb most_bytes (length text) long) refl

pub too_long_listing : (isa : InstructionSet) (text : List ℕ) → most_listing_bytes < length text
    → listed_in isa text ≡ Err (0, Read TextTooLong)
too_long_listing isa text long = rw (lt-ltb most_listing_bytes (length text) long) refl

-- a text that says a program is none of these
pub short_said : (isa : InstructionSet) (text : List ℕ) (program : List Serial) → SaysProgram isa text program
    → length text ≤ most_bytes
short_said isa text program says =
    elim (cases_lt most_bytes (length text)) [
      | inl long ↦
          let both : ◌≡◌ {A = Result (List BlockParts) Refusal} (Ok (map block_parts program)) (Err (0, TextTooLong)) =
          sym says ∙ too_long isa text long in
          absurd cc
      | inr short ↦ short
    ]

-- what is told of a text is told of one that says the same
pub refuses_same : (isa : InstructionSet) (text other : List ℕ) (fault : ListFault)
    → listed_in isa text ≡ listed_in isa other → Refuses isa text fault
    → Refuses isa other fault
refuses_same isa text other (listed.Read fault) same is = sym same ∙ is
refuses_same isa text other (listed.Shape line) same is = sym same ∙ is
refuses_same isa text other (listed.TwoBranches number) same is = record {
  drafts = is.drafts;
  said = sym same
      ∙ is.said;
  block = is.block;
}
refuses_same isa text other (listed.NotDrained number) same is = record {
  drafts = is.drafts;
  said = sym same
      ∙ is.said;
  block = is.block;
}
refuses_same isa text other (listed.Unlawful number cycle rule) same is = record {
  drafts = is.drafts;
  said = sym same
      ∙ is.said;
  block = is.block;
}
refuses_same isa text other listed.Memory same is = tt

pub read_same : (isa : InstructionSet) (text other : List ℕ) (packets : List Packed)
    → listed_in isa text ≡ listed_in isa other → IsRead isa text packets
    → IsRead isa other packets
read_same isa text other packets same is = record {
  drafts = is.drafts;
  said = sym same
      ∙ is.said;
  blocks = is.blocks;
  are_blocks = is.are_blocks;
}
