-- Laws of pictures.
use Rattle.std.specs.Prelude.{◌≡◌, ℕ, ◌<◌, ◌≤◌, false, List, ◌++◌, find, Some, IfSome, option_map, slice_get}
use Rattle.c62_read.specs.Block.{Serial}
use Rattle.c62_depend.specs.Plan.{insns_of, IsPlan}
use Rattle.c62_sheet.specs.Lawful.{Spots, IsLawful}
use Rattle.c62_sheet.specs.Least.{IsComplete}
use Rattle.c62_sheet.specs.Counts.{set_length}
use Rattle.c62_packet.specs.declared.placed.Placed.{Placed}
use Rattle.c62_packet.specs.Packed.{Packed, IsInListingOrder, IsPacketBlock}
use Rattle.c62_bound.specs.Length.{IsLeastLength}
use Rattle.c62_raised.specs.Raised.{IsRaisedLength}
use Rattle.c62_raised.specs.Laws.{IsSeatedAcross}
use Rattle.c62_show.specs.declared.limits.Limits.{Limits}
use Rattle.c62_show.specs.declared.shown.Shown.{Shown}
use Rattle.c62_show.specs.Limits.{AreLimits, least_of}
use Rattle.c62_show.specs.Head.{verdict, none_is_shorter}
use Rattle.c62_grid.specs.declared.widths.Widths.{Widths}
use Rattle.c62_grid.specs.Grid.{cells, cycle_row, insn_cell, is_issued, is_on, next_issue, packet}
use Rattle.c62_show.specs.Picture.{block_text, picture, widths_of}
use Rattle.c62_show.specs.Summary.{head_text}
use Rattle.c62_grid.specs.Words.{line}

-- So many cycles are at least the bound that is told of a block, and where its head says that no schedule is shorter, at least as
-- many as the block has.
pub record IsNoShorter (shown : Shown) (cycles : ℕ) : Type 0 where
  pub bound : IfSome shown.limits (λ limits. least_of limits ≤ cycles)
  pub none : verdict shown.packets.cycles (option_map least_of shown.limits) ≡ none_is_shorter → shown.packets.cycles ≤ cycles

-- this holds of all in which each instruction has a cycle and a unit that takes it, on whichever side, and no two go over one
-- cross path in a cycle: so of all packets that `check` calls the same as the block
abbrev pub HeadIsTrue : Serial → Shown → Type 0
HeadIsTrue block shown =
    (set : Spots) (cycles : ℕ) → IsPacketBlock shown.packets → IfSome shown.limits (AreLimits block) → IsPlan (insns_of block) → IsSeatedAcross (insns_of block) set cycles
    → IsNoShorter shown cycles

-- and of every lawful schedule that places all
abbrev pub HeadIsTrueOfSchedules : Serial → Shown → Type 0
HeadIsTrueOfSchedules block shown =
    (set : Spots) → IsPacketBlock shown.packets → IfSome shown.limits (AreLimits block) → IsPlan (insns_of block) → IsLawful (insns_of block) set
    → IsComplete (insns_of block) set → IsNoShorter shown (set_length (insns_of block) set)

-- the bound that is told of a block is at least its raised bound, and so its least length, and is that where no search tells more
pub record IsRaisedBound (block : Serial) (limits : Limits) : Type 0 where
  pub raised : IsRaisedLength (insns_of block) limits.raised
  pub more : limits.raised ≤ least_of limits
  pub plain : limits.searched ≡ 0 → least_of limits ≡ limits.raised
  pub least : (least : ℕ) → IsLeastLength (insns_of block) least → least ≤ least_of limits

abbrev pub BoundIsRaised : Serial → Limits → Type 0
BoundIsRaised block limits = AreLimits block limits → IsRaisedBound block limits

-- from a cycle in which nothing is issued, nothing is issued before the next cycle of which the row tells
abbrev pub IsIdleUntil : List Placed → ℕ → ℕ → Type 0
IsIdleUntil placed cycles cycle =
    (k : ℕ) → IsInListingOrder placed → is_issued placed cycle ≡ false → cycle ≤ k → k < next_issue placed cycles cycle → is_issued placed k ≡ false

-- each instruction of a packet block is what the cell of its cycle and unit has
abbrev pub AreAllShown : Packed → Type 0
AreAllShown block =
    (k : ℕ) (p : Placed) → IsPacketBlock block → slice_get block.placed k ≡ Some p → find (is_on p.unit) (packet block.placed p.cycle) ≡ Some p

-- a text has a part
pub record HasPart (text part : List ℕ) : Type 0 where
  pub before : List ℕ
  pub behind : List ℕ
  pub split : text ≡ before ++ (part ++ behind)

-- An instruction's row is printed, and in its cells that of the instruction: its line, the mark where that is on the path, and its
-- mnemonic.
pub record IsPrinted (shown : List Shown) (each : Shown) (p : Placed) : Type 0 where
  pub row : HasPart (picture shown) (line (cycle_row (widths_of shown) each.critical.items each.packets.placed p.cycle))
  pub cell : HasPart (cells (widths_of shown) each.critical.items (packet each.packets.placed p.cycle)) (insn_cell (widths_of shown) each.critical.items p)

-- so is that of each instruction of the blocks
abbrev pub AreAllPrinted : List Shown → Type 0
AreAllPrinted shown =
    (number k : ℕ) (each : Shown) (p : Placed) → slice_get shown number ≡ Some each → IsPacketBlock each.packets → slice_get each.packets.placed k ≡ Some p
    → IsPrinted shown each p

-- a text begins with a part
pub record BeginsWith (text part : List ℕ) : Type 0 where
  pub rest : List ℕ
  pub split : text ≡ part ++ rest

-- in a picture a block begins with its head, as it stands alone
abbrev pub IsHeaded : Widths → ℕ → Shown → Type 0
IsHeaded widths number shown = BeginsWith (block_text widths number shown) (head_text number shown)
