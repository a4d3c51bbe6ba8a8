-- The first line that breaks a packet rule with those above it (docs/ADOPT.md, "Faults of a text").
use Rattle.std.specs.Prelude.{◌≡◌, ℕ, List, [], ◌∷◌, ◌++◌, All}
use Rattle.c62_rules.specs.PacketRules.{KeepsPacketRules}
use Rattle.c62_packet.specs.declared.placed.Placed.{Placed}
use Rattle.c62_packet.specs.declared.fault.PacketRule.{PacketRule}
use Rattle.c62_packet.specs.Packed.{issued}
use Rattle.c62_packet.specs.Fault.{IsFirstBroken}
use Rattle.c62_adopt_cut.specs.Blocks.{Draft}
use Rattle.c62_adopt.specs.Blocks.{AreOf}

-- the instructions of a block keep the packet rules
pub record KeepsRules (drafts : List Draft) (draft : Draft) : Type 0 where
  pub placed : List Placed
  pub stand : AreOf drafts draft.issues placed
  pub kept : KeepsPacketRules (issued placed)

-- The instruction of this line breaks this rule with those of its block above it, which keep all rules.
pub record IsBreachIn (drafts : List Draft) (line : ℕ) (rule : PacketRule) (draft : Draft) : Type 0 where
  pub above : List Placed
  pub next : Placed
  pub below : List Placed
  pub stand : AreOf drafts draft.issues (above ++ next ∷ below)
  pub at_line : next.line ≡ line
  pub kept : KeepsPacketRules (issued above)
  pub cycle : ℕ
  pub broken : IsFirstBroken cycle rule (above ++ next ∷ [])

-- so does one of a text, and the blocks above its own keep the rules
pub record IsFirstBreach (drafts : List Draft) (line : ℕ) (rule : PacketRule) : Type 0 where
  pub front : List Draft
  pub draft : Draft
  pub behind : List Draft
  pub whole : drafts ≡ front ++ draft ∷ behind
  pub kept : All (KeepsRules drafts) front
  pub breach : IsBreachIn drafts line rule draft
