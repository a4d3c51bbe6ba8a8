-- Packets as they are written and their listings (docs/ADOPT.md, "What holds").
use Rattle.std.specs.Prelude.{◌≡◌, ◌⊎◌, ℕ, Bool, true, false, List}
use Rattle.c62_packet.specs.Packed.{Packed}
use Rattle.c62_packet.specs.Alike.{AreAlike}
use Rattle.c62_listing.specs.Listing.{listing}
use Rattle.c62_listing_reader.specs.Faults.{IsRead}
use Rattle.c62_listing_reader.specs.Laws.{AreShown}
use Rattle.c62_adopt.specs.declared.fault.AdoptFault.{AdoptFault}
use Rattle.c62_adopt.specs.declared.fault.AdoptFault.TheVariants.{Memory}
use Rattle.c62_adopt.specs.Answer.{IsAdopted, Refuses}
use Rattle.c62_op.specs.declared.set.InstructionSet.{InstructionSet}

-- ---- what is adopted is read back

-- the listing of what is adopted is read as these packets, but for lines
pub record IsReadBack (isa : InstructionSet) (packets : List Packed) : Type 0 where
  pub shown : AreShown isa packets
  pub others : List Packed
  pub read : IsRead isa (listing packets) others
  pub alike : AreAlike packets others

abbrev pub AdoptsListings : InstructionSet → Bool → List ℕ → Type 0
AdoptsListings isa drain text = (packets : List Packed) (added : ℕ) → IsAdopted isa drain text packets added → IsReadBack isa packets

-- ---- one answer

-- a text is adopted in one way
abbrev pub HasOneAdoption : InstructionSet → Bool → List ℕ → Type 0
HasOneAdoption isa drain text =
    (packets others : List Packed) (added more : ℕ) → IsAdopted isa drain text packets added → IsAdopted isa drain text others more
    → (packets ≡ others) × (added ≡ more)

-- and refused in one way, where memory does not run out
abbrev pub HasOneRefusal : InstructionSet → Bool → List ℕ → Type 0
HasOneRefusal isa drain text =
    (fault other : AdoptFault) → Refuses isa drain text fault → Refuses isa drain text other → (fault ≡ other) ⊎ ((fault ≡ Memory) ⊎ (other ≡ Memory))

-- what is adopted is not refused but for memory, and nothing is adopted or refused in two ways
pub record HasOneAnswer (isa : InstructionSet) (drain : Bool) (text : List ℕ) : Type 0 where
  pub adoption : HasOneAdoption isa drain text
  pub refusal : (packets : List Packed) (added : ℕ) (fault : AdoptFault) → IsAdopted isa drain text packets added → Refuses isa drain text fault → fault ≡ Memory
  pub one_refusal : HasOneRefusal isa drain text

-- where a text is adopted as it stands, it is drained without a cycle more
abbrev pub DrainsNothing : InstructionSet → List ℕ → List Packed → Type 0
DrainsNothing isa text packets = (added : ℕ) → IsAdopted isa false text packets added → (added ≡ 0) × IsAdopted isa true text packets 0
