-- The blocks of a listing are adopted as its packets, but for the lines of their instructions.
use Rattle.c62_adopt_back.proofs.Common.{arith, ◌≡◌, ℕ, ◌+◌, List, [], ◌∷◌, map, Some, refl, ap, All, All-tail}
use Rattle.c62_adopt_back.proofs.Common.{AllByRecursion, AllZip, Name}
use Rattle.c62_adopt_back.proofs.Common.{operands_of, unit_of, Placed, Packed, IsPacketBlock, Draft, Issue}
use Rattle.std.proofs.lemmas.List.Sorted.{IsPermutation-refl}
use Rattle.c62_packet.specs.Alike.{AreAlike}
use Rattle.c62_listing_reader.specs.Said.{Draft as ReadDraft}
use Rattle.c62_listing_reader.specs.Faults.{draft_of}
use Rattle.c62_listing_reader.proofs.AlikeLemmas.{made}
use Rattle.c62_listing_reader.proofs.LeadingLines.{key_of, unlined}
use Rattle.c62_listing_reader.proofs.BlocksLemmas.{AllLike}
use Rattle.c62_adopt.specs.Blocks.{IsBlockOf, part_in}
use Rattle.c62_adopt_back.proofs.Blocks.{IsIssueOf}
use Rattle.c62_adopt_back.proofs.Targets.{IsAimed}
use Rattle.c62_adopt_back.proofs.Walk.{AreRead}

-- its unit is written, and its branch goes to a block of these
pub record IsPlacedIn (name : ℕ → Name) (whole : List Draft) (p : Placed) : Type 0 where
  pub written : unit_of p.insn ≡ Some p.unit
  pub aimed : IsAimed name whole (operands_of p.insn)

part_so : (name : ℕ → Name) (whole : List Draft) (issue : Issue) (p : Placed) → IsIssueOf name issue p
    → IsPlacedIn name whole p
    → unlined (part_in whole issue) ≡ key_of p
part_so name whole issue p is placed = grind (arith, is.parts, is.target, is.cycle, placed.written, placed.aimed.aimed)

parts_so : (name : ℕ → Name) (whole : List Draft) (issues : List Issue) (placed : List Placed)
    → AllZip (IsIssueOf name) issues placed
    → AllByRecursion (IsPlacedIn name whole) placed
    → map unlined (map (part_in whole) issues) ≡ map key_of placed
parts_so name whole [] [] are placed = refl
parts_so name whole [] (p ∷ others) are placed = absurd are
parts_so name whole (issue ∷ issues) [] are placed = absurd are
parts_so name whole (issue ∷ issues) (p ∷ others) are placed =
    rw (part_so name whole issue p are.0 placed.0, parts_so name whole issues others are.1 placed.1) refl

-- ---- blocks as the reader of listings has them

read_as : List Draft → Draft → Packed → ReadDraft
read_as whole draft block = record
    { label = draft.label; cycles = block.cycles; placed = map (part_in whole) draft.issues }

all_read_as : List Draft → List Draft → List Packed → List ReadDraft
all_read_as whole (draft ∷ drafts) (block ∷ blocks) = read_as whole draft block ∷ all_read_as whole drafts blocks
all_read_as whole _ _ = []

abbrev pub ArePlacedIn : (ℕ → Name) → List Draft → Packed → Type 0
ArePlacedIn name whole block = AllByRecursion (IsPlacedIn name whole) block.placed

like_so : (name : ℕ → Name) (whole : List Draft) (start end : ℕ) (drafts : List Draft) (blocks : List Packed)
    → AreRead name start end drafts blocks
    → AllByRecursion (ArePlacedIn name whole) blocks
    → AllLike (all_read_as whole drafts blocks) blocks
unfolding AreRead AllLike all_read_as read_as
like_so name whole start end [] [] are placed = tt
like_so name whole start end [] (block ∷ blocks) are placed = absurd are
like_so name whole start end (draft ∷ drafts) [] are placed = absurd are
like_so name whole start end (draft ∷ drafts) (block ∷ blocks) are placed = (
  record {
    label = are.0.label_is;
    cycles = refl;
    placed = parts_so name whole draft.issues block.placed are.0.issues placed.0;
  },
  like_so name whole (start + block.cycles) end drafts blocks are.1 placed.1,
)

block_so : (whole : List Draft) (draft : Draft) (block other : Packed) → draft_of other ≡ read_as whole draft block
    → IsPacketBlock other
    → IsBlockOf whole draft other
unfolding read_as
block_so whole draft block other same is = record {
  label = ap (λ (d : ReadDraft). d.label) same;
  placed = other.placed;
  stand = record { parts = ap (λ (d : ReadDraft). d.placed) same; units = is.as_written };
  listed = IsPermutation-refl other.placed;
  is_block = is;
}

blocks_so : (name : ℕ → Name) (whole : List Draft) (start end : ℕ) (drafts : List Draft) (blocks others : List Packed)
    → AreRead name start end drafts blocks → map draft_of others ≡ all_read_as whole drafts blocks
    → All IsPacketBlock others
    → AllZip (IsBlockOf whole) drafts others
unfolding AreRead all_read_as
blocks_so name whole start end [] blocks [] are same is = tt
blocks_so name whole start end [] blocks (other ∷ others) are same is = absurd cc
blocks_so name whole start end (draft ∷ drafts) [] others are same is = absurd are
blocks_so name whole start end (draft ∷ drafts) (block ∷ blocks) [] are same is = absurd cc
blocks_so name whole start end (draft ∷ drafts) (block ∷ blocks) (other ∷ others) are same is =
    let first : draft_of other ≡ read_as whole draft block = cc in
    let rest : map draft_of others ≡ all_read_as whole drafts blocks = cc in (
      block_so whole draft block other first (is 0 other (omega arith)),
      blocks_so name whole (start + block.cycles) end drafts blocks others are.1 rest
          (All-tail IsPacketBlock other others is),
    )

-- ---- what is adopted

pub record AreTaken (whole : List Draft) (drafts : List Draft) (packets : List Packed) : Type 0 where
  pub others : List Packed
  pub blocks : AllZip (IsBlockOf whole) drafts others
  pub alike : AreAlike packets others

pub taken : (name : ℕ → Name) (whole : List Draft) (start end : ℕ) (drafts : List Draft) (packets : List Packed)
    → AreRead name start end drafts packets → AllByRecursion (ArePlacedIn name whole) packets
    → All IsPacketBlock packets
    → AreTaken whole drafts packets
taken name whole start end drafts packets are placed is =
    let made_of = made (all_read_as whole drafts packets) packets
    (like_so name whole start end drafts packets are placed) is in
    record {
      others = made_of.others;
      blocks = blocks_so name whole start end drafts packets made_of.others are made_of.same made_of.are_blocks;
      alike = made_of.alike;
    }
