-- What is read of one text is one list of packets.
use Rattle.c62_listing_reader.proofs.Common.{arith, ◌≡◌, ℕ, List, [], ◌∷◌, map, Some, refl, sym, ap, ◌∙◌, All, Result}
use Rattle.c62_listing_reader.proofs.Common.{Ok, All-tail, Insn, unit_of}
use Rattle.c62_listing_reader.proofs.Common.{parts_of, Placed, Packed, StandAsWritten, IsPacketBlock, part_of, Drafts}
use Rattle.c62_listing_reader.proofs.Common.{all_drafts, Refusal, draft_of}
use Rattle.c62_listing_reader.proofs.Common.{IsRead}
use Rattle.c62_insn.proofs.SameLemmas.{same_parts}
use Rattle.c62_op.specs.declared.set.InstructionSet.{InstructionSet}

pub same_insn : (a b : Insn) → parts_of a ≡ parts_of b → a ≡ b
same_insn a b e = grind (arith, same_parts a b)

same_position : (p q : Placed) → unit_of p.insn ≡ Some p.unit → unit_of q.insn ≡ Some q.unit → part_of p ≡ part_of q
    → p ≡ q
same_position p q first other e = grind (arith, same_insn p.insn q.insn)

pub same_positions : (placed other : List Placed) → StandAsWritten placed → StandAsWritten other
    → map part_of placed ≡ map part_of other → placed ≡ other
same_positions [] [] first last e = refl
same_positions [] (q ∷ other) first last e = absurd cc
same_positions (p ∷ placed) [] first last e = absurd cc
same_positions (p ∷ placed) (q ∷ other) first last e =
    let rest = same_positions placed other (All-tail (λ (r : Placed). unit_of r.insn ≡ Some r.unit) p placed first)
    (All-tail (λ (r : Placed). unit_of r.insn ≡ Some r.unit) q other last) in
    grind (arith, same_position p q (first 0 p (omega arith)) (last 0 q (omega arith)), rest)

same_block : (block other : Packed) → IsPacketBlock block → IsPacketBlock other → draft_of block ≡ draft_of other
    → block ≡ other
same_block block other first last e = grind
    (arith, same_positions block.placed other.placed first.as_written last.as_written)

same_blocks : (packets others : List Packed) → All IsPacketBlock packets → All IsPacketBlock others
    → map draft_of packets ≡ map draft_of others
    → packets ≡ others
same_blocks [] [] first last e = refl
same_blocks [] (other ∷ others) first last e = absurd cc
same_blocks (block ∷ packets) [] first last e = absurd cc
same_blocks (block ∷ packets) (other ∷ others) first last e =
    let rest = same_blocks packets others (All-tail IsPacketBlock block packets first)
    (All-tail IsPacketBlock other others last) in
    grind (arith, same_block block other (first 0 block (omega arith)) (last 0 other (omega arith)), rest)

pub one_reading : (isa : InstructionSet) (text : List ℕ) (packets others : List Packed) → IsRead isa text packets
    → IsRead isa text others
    → packets ≡ others
one_reading isa text packets others first last =
    let both : ◌≡◌ {A = Result Drafts Refusal} (Ok first.drafts) (Ok last.drafts) = sym first.said ∙ last.said in
    let same : first.drafts ≡ last.drafts = cc in
    same_blocks packets others first.are_blocks last.are_blocks (first.blocks ∙ ap all_drafts same ∙ sym last.blocks)
