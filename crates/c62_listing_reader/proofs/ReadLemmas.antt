-- Reading line by line, and what it says of a text.
use Rattle.c62_listing_reader.proofs.Common.{refl, arith, ◌≡◌, ℕ, ◌+◌, ◌≤◌, List, [], ◌∷◌, length, false, ◌∙◌, subst}
use Rattle.c62_listing_reader.proofs.Common.{nat_lt, Result, Ok, Err}
use Rattle.c62_listing_reader.proofs.Common.{MatchResult, All, map, nat_tests, Name, Packed, IsPacketBlock, Above}
use Rattle.c62_listing_reader.proofs.Common.{Start, LineFault, ListFault, Line}
use Rattle.c62_listing_reader.proofs.Common.{lines_in, Said, Draft, Drafts, no_drafts, all_drafts, with_said}
use Rattle.c62_listing_reader.proofs.Common.{above_next, names_in, labels_of, aim_by}
use Rattle.c62_listing_reader.proofs.Common.{Refusal, line_says, contents, drafts_in, draft_of, IsRead, Refuses}
use Rattle.c62_listing_reader.specs.declared.fault.ListFault.TheVariants.{Read, Unlawful, NotDrained, TwoBranches}
use Rattle.c62_listing_reader.specs.declared.fault.ListFault.TheVariants.{Shape, Memory}
use Rattle.c62_listing_reader.specs.Faults.{read_lines}
use Rattle.c62_listing_reader.specs.Reading.{RefusesBlocks}
use Rattle.c62_listing_reader.specs.declared.reader.TheConstants.{MOST_BYTES}
use Rattle.c62_op.specs.declared.set.InstructionSet.{InstructionSet}

pub goes_on : (isa : InstructionSet) (labels : List Name) (aim : Name
    → ℕ) (number : ℕ) (line : Line) (below lines : List Line) (drafts : Drafts) (above : Above)
    (said : Said) → lines ≡ line ∷ below → line_says isa labels drafts above line below ≡ Ok said
    → read_lines isa labels aim (number + 1) (with_said aim number said drafts) (above_next said.front said.says) below
    ≡ read_lines isa labels aim number drafts above lines
unfolding read_lines
goes_on isa labels aim number line below lines drafts above said e says = rw (e, says) refl

pub stops : (isa : InstructionSet) (labels : List Name) (aim : Name
    → ℕ) (number : ℕ) (line : Line) (below lines : List Line) (drafts : Drafts) (above : Above)
    (fault : LineFault) → lines ≡ line ∷ below → line_says isa labels drafts above line below ≡ Err fault
    → read_lines isa labels aim number drafts above lines ≡ Err (number, fault)
unfolding read_lines
stops isa labels aim number line below lines drafts above fault e says = rw (e, says) refl

pub is_done : (isa : InstructionSet) (labels : List Name) (aim : Name → ℕ) (number : ℕ) (lines : List Line)
    (drafts : Drafts) (above : Above)
    → lines ≡ []
    → read_lines isa labels aim number drafts above lines ≡ Ok drafts
unfolding read_lines
is_done isa labels aim number lines drafts above e = rw e refl

-- the answer for a text that is not too long is that of its lines
pub of_lines : (isa : InstructionSet) (text : List ℕ) (says : Result Drafts Refusal) → length text ≤ MOST_BYTES
    → read_lines isa (labels_of (names_in 0 (contents text))) (aim_by (names_in 0 (contents text))) 1 no_drafts Start
    (lines_in text) ≡ says
    → drafts_in isa text ≡ says
of_lines isa text says short read =
    let test : nat_lt MOST_BYTES (length text) ≡ false = grind (arith, nat_tests) in
    rw test read

pub blocks_refused : (isa : InstructionSet) (text : List ℕ) (drafts : Drafts) (fault : ListFault)
    → drafts_in isa text ≡ Ok drafts
    → RefusesBlocks (all_drafts drafts) fault
    → Refuses isa text fault
blocks_refused isa text drafts (Read fault) said h = absurd h
blocks_refused isa text drafts (Shape line) said h = absurd h
blocks_refused isa text drafts Memory said h = tt
blocks_refused isa text drafts (Unlawful number cycle rule) said h = record { drafts = drafts; said = said; block = h }
blocks_refused isa text drafts (NotDrained number) said h = record { drafts = drafts; said = said; block = h }
blocks_refused isa text drafts (TwoBranches number) said h = record { drafts = drafts; said = said; block = h }

-- the answer for a text whose lines have no fault is that of its blocks
pub of_blocks : (isa : InstructionSet) (text : List ℕ) (drafts : Drafts) (done : List Draft)
    (r : Result (List Packed) ListFault)
    → drafts_in isa text ≡ Ok drafts
    → done ≡ all_drafts drafts
    → MatchResult r (λ packets. (map draft_of packets ≡ done)
    × All IsPacketBlock packets) (λ fault. RefusesBlocks done fault)
    → MatchResult r (λ packets. IsRead isa text packets) (λ fault. Refuses isa text fault)
of_blocks isa text drafts done (Ok packets) said e h = record {
  drafts = drafts;
  said = said;
  blocks = h.0
      ∙ e;
  are_blocks = h.1;
}
of_blocks isa text drafts done (Err fault) said e h = blocks_refused isa text drafts fault said
    (subst (λ (ds : List Draft). RefusesBlocks ds fault) e h)
