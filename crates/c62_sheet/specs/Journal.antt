-- Changes of a set of placements, and which are legal (docs/SCHEDULING.md, "Journal").
use Rattle.std.specs.Prelude.{ℕ, ◌<◌, List, [], ◌∷◌, length, IsSome}
use Rattle.c62_insn.specs.declared.insn.Insn.{Insn}
use Rattle.c62_sheet.specs.declared.entry.Entry.{Entry}
use Rattle.c62_sheet.specs.declared.entry.Entry.TheVariants.{Place, Withdraw}
use Rattle.c62_sheet.specs.declared.entry.Spot.{Spot}
use Rattle.c62_sheet.specs.Lawful.{Spots, spot_at, placed, withdrawn}
use Rattle.c62_sheet.specs.Least.{IsReady, IsLeast, IsLast}

-- the set that an entry leaves
abbrev pub after : Spots → Entry → Spots
after set (Place i s who) = placed set i s
after set (Withdraw i who) = withdrawn set i

-- the set that entries leave, one after another
abbrev pub replayed : Spots → List Entry → Spots
replayed set [] = set
replayed set (entry ∷ entries) = replayed (after set entry) entries

-- a ready number goes to its least spot
pub record PermitsPlace (block : List Insn) (set : Spots) (i : ℕ) (s : Spot) : Type 0 where
  pub within : i < length block
  pub ready : IsReady block set i
  pub least : IsLeast block set i s

-- a placed number on which no placed one depends is taken out
pub record PermitsWithdraw (block : List Insn) (set : Spots) (i : ℕ) : Type 0 where
  pub within : i < length block
  pub taken : IsSome (spot_at set i)
  pub last : IsLast block set i

-- the entry is legal in the set
abbrev pub Permits : List Insn → Spots → Entry → Type 0
Permits block set (Place i s who) = PermitsPlace block set i s
Permits block set (Withdraw i who) = PermitsWithdraw block set i

-- each entry is legal in the set that the ones before it leave
abbrev pub IsLegal : List Insn → Spots → List Entry → Type 0
IsLegal block set [] = Unit {0}
IsLegal block set (entry ∷ entries) = Permits block set entry × IsLegal block (after set entry) entries
