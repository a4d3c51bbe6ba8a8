-- A text that is answered is read whole: it isn't longer than its limit.
use Rattle.std.proofs.Common.{◌≡◌, ◌∙◌, ℕ, ◌+◌, ◌<◌, ◌≤◌, false, List, length, take, None, Option, Result, Ok, Err}
use Rattle.std.proofs.Common.{arith, inl, inr, refl, ap, sym}
use Rattle.std.proofs.lemmas.Bool.{cases_lt, lt-ltb}
use Rattle.std.proofs.lemmas.List.{take_all, length-take}
use Rattle.c62_read.specs.Block.{Serial}
use Rattle.c62_read.specs.Program.{most_bytes}
use Rattle.c62_packet.specs.Packed.{Packed}
use Rattle.c62_listing_reader.specs.Said.{Drafts}
use Rattle.c62_listing_reader.specs.Faults.{IsRead, Refusal, most_bytes as most_listing_bytes}
use Rattle.c62_listing_reader.specs.declared.fault.LineFault.TheVariants.{Read}
use Rattle.c62_line.specs.declared.fault.Cause.TheVariants.{TextTooLong}
use Rattle.c62_adopt_cut.specs.Text.{Cut, most_bytes as most_packets_bytes, text_cut, too_long}
use Rattle.c62_adopt.specs.Answer.{IsAdopted, code_in}
use Rattle.c62_adopt.proofs.CodeLemmas.{long_read}
use Rattle.c62_answer.specs.Texts.{SaysProgram}
use Rattle.c62_answer.proofs.TooLong.{short_said, too_long_listing}
use Rattle.c62_op.specs.declared.set.InstructionSet.{InstructionSet}

-- what is read up to one byte past a limit, and is no longer than that, is all
short_front : (most : ℕ) (all : List ℕ) → length (take (most + 1) all) ≤ most → take (most + 1) all ≡ all
short_front most all short =
    elim (cases_lt most (length all)) [
      | inl long ↦ absurd (omega (arith, length-take (most + 1) all))
      | inr few ↦ take_all (most + 1) all (omega arith)
    ]

pub whole_program : (isa : InstructionSet) (all : List ℕ) (program : List Serial)
    → SaysProgram isa (take (most_bytes + 1) all) program
    → take (most_bytes + 1) all ≡ all
whole_program isa all program says =
    short_front most_bytes all (short_said isa (take (most_bytes + 1) all) program says)

short_listing : (isa : InstructionSet) (text : List ℕ) (packets : List Packed) → IsRead isa text packets
    → length text ≤ most_listing_bytes
short_listing isa text packets is =
    elim (cases_lt most_listing_bytes (length text)) [
      | inl long ↦
          let both : ◌≡◌ {A = Result Drafts Refusal} (Ok is.drafts) (Err (0, Read TextTooLong)) =
          sym is.said ∙ too_long_listing isa text long in
          absurd cc
      | inr short ↦ short
    ]

pub whole_listing : (isa : InstructionSet) (all : List ℕ) (packets : List Packed)
    → IsRead isa (take (most_listing_bytes + 1) all) packets
    → take (most_listing_bytes + 1) all ≡ all
whole_listing isa all packets is =
    short_front most_listing_bytes all (short_listing isa (take (most_listing_bytes + 1) all) packets is)

long_cut : (isa : InstructionSet) (text : List ℕ) → most_packets_bytes < length text → text_cut isa text ≡ too_long
unfolding text_cut
long_cut isa text long = rw (lt-ltb most_packets_bytes (length text) long) refl

short_packets : (isa : InstructionSet) (text : List ℕ) (packets : List Packed) → IsAdopted isa false text packets 0
    → length text ≤ most_packets_bytes
short_packets isa text packets is =
    elim (cases_lt most_packets_bytes (length text)) [
      | inl long ↦
          let cut = ap (text_cut isa) (ap code_in (long_read isa text long))
          ∙ long_cut isa (take (most_packets_bytes + 1) text)
          (omega (arith, length-take (most_packets_bytes + 1) text)) in
          let both : too_long.fault ≡ None = ap (λ (c : Cut). c.fault) (sym cut) ∙ is.read.cut.whole in
          absurd cc
      | inr short ↦ short
    ]

pub whole_packets : (isa : InstructionSet) (all : List ℕ) (packets : List Packed)
    → IsAdopted isa false (take (most_packets_bytes + 1) all) packets 0 → take (most_packets_bytes + 1) all ≡ all
whole_packets isa all packets is =
    short_front most_packets_bytes all (short_packets isa (take (most_packets_bytes + 1) all) packets is)
