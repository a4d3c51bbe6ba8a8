-- How many cycles a text of packets takes, and its listing (docs/ADOPT.md, "Blocks" and "Cycles that lack").
use Rattle.std.specs.Prelude.{◌≡◌, ℕ, ◌+◌, ◌-◌, ◌≤◌, Bool, List, [], ◌∷◌}
use Rattle.c62_packet.specs.Packed.{Packed}
use Rattle.c62_adopt_cut.specs.Blocks.{Draft}
use Rattle.c62_adopt_cut.specs.Flight.{next_drained, next_start}
use Rattle.c62_adopt.specs.Answer.{IsAdopted, code_cut}
use Rattle.c62_op.specs.declared.set.InstructionSet.{InstructionSet}

-- the cycles of all these packets, which are those of their listing
abbrev pub cycles_listed : List Packed → ℕ
cycles_listed [] = 0
cycles_listed (block ∷ packets) = block.cycles + cycles_listed packets

-- the cycles of the text from where a block begins to where the next one does, or the text's end in this cycle: with the cycles
-- that were added before these
abbrev pub span : Bool → ℕ → Draft → ℕ
span drain next draft = next_drained drain next draft - draft.start

-- how many of them no listing has: those behind what each block's packets take
abbrev pub left_out : Bool → ℕ → List Draft → List Packed → ℕ
left_out drain end (draft ∷ drafts) (block ∷ packets) = (span drain (next_start end drafts) draft - block.cycles) + left_out drain end drafts packets
left_out drain end _ _ = 0

-- each block's packets have room in its cycles of the text
abbrev pub HaveRoom : Bool → ℕ → List Draft → List Packed → Type 0
HaveRoom drain end (draft ∷ drafts) (block ∷ packets) =
    (draft.start + block.cycles ≤ next_drained drain (next_start end drafts) draft) × HaveRoom drain end drafts packets
HaveRoom drain end _ _ = Unit {0}

-- Each block's packets have room in its cycles. All cycles of the text, and those that were added, are those before its first
-- block, those of the listing, and those that were left out. In the last nothing is issued or in flight, as the packets' cycles are
-- all until they have landed or their branch has taken effect.
pub record AreAccounted (isa : InstructionSet) (drain : Bool) (text : List ℕ) (packets : List Packed) (added : ℕ) : Type 0 where
  pub room : HaveRoom drain (code_cut isa text).cycles (code_cut isa text).drafts packets
  pub sum : (code_cut isa text).cycles + added ≡ next_start (code_cut isa text).cycles (code_cut isa text).drafts
      + (cycles_listed packets + left_out drain (code_cut isa text).cycles (code_cut isa text).drafts packets)

-- so it is of all that is adopted
abbrev pub AccountsForCycles : InstructionSet → Bool → List ℕ → Type 0
AccountsForCycles isa drain text = (packets : List Packed) (added : ℕ) → IsAdopted isa drain text packets added → AreAccounted isa drain text packets added
