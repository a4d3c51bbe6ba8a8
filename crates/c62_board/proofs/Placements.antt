-- Where a ready number may be placed.
use Rattle.std.proofs.Common.{◌*◌, ◌<◌, ℕ, List, length, IsTrue}
use Rattle.c62_insn.specs.declared.insn.Insn.{Insn}
use Rattle.c62_rules.specs.PacketRules.{KeepsPacketRules}
use Rattle.c62_depend.specs.Side.{stands_on}
use Rattle.c62_sheet.specs.declared.entry.Spot.{Spot}
use Rattle.c62_sheet.specs.Lawful.{Spots, placed, issues, IsLawful}
use Rattle.c62_sheet.specs.Least.{IsReady, IsAfter}
use Rattle.c62_sheet.proofs.Used.{insn_at}
use Rattle.c62_sheet.proofs.Placing.{lawful_from_fits}

-- a ready number may stand where its delays are over and the packet rules are kept
pub lawful_placed : (block : List Insn) (set : Spots) (i : ℕ) (s : Spot) → IsLawful block set → i < length block
    → IsReady block set i
    → IsTrue (stands_on block i s.unit) → s.cycle < 5 * length block → IsAfter block set i s.cycle
    → KeepsPacketRules (issues block (placed set i s))
    → IsLawful block (placed set i s)
lawful_placed block set i s lawful within ready stands low after rules =
    let insn = insn_at block i within in
    lawful_from_fits block set i s insn.0 lawful insn.1 within ready.free ready.founded after low
    (record { stands = stands; keeps = rules.enough s.cycle })
