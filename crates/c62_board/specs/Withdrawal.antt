-- What is withdrawn with a number (docs/SCHEDULING.md, "Withdrawing").
use Rattle.std.specs.Prelude.{◌≡◌, ◌⊎◌, ℕ, zero, suc, ◌+◌, ◌≤◌, ◌++◌, Bool, false, Option, None, List, [], ◌∷◌, length, slice_index_or, if◌then◌else◌, IsSome, Vec, vec_len, vec_capacity}
use Rattle.std.specs.declared.alloc.Global.{Global}
use Rattle.c62_insn.specs.declared.insn.Insn.{Insn}
use Rattle.c62_sheet.specs.declared.entry.Entry.{Entry}
use Rattle.c62_sheet.specs.declared.entry.Entry.TheVariants.{Withdraw}
use Rattle.c62_sheet.specs.declared.entry.Spot.{Spot}
use Rattle.c62_sheet.specs.declared.entry.Who.{Who}
use Rattle.c62_depend.specs.Plan.{insns_of}
use Rattle.c62_sheet.specs.Lawful.{Spots, spot_at, Placements}
use Rattle.c62_sheet.specs.Journal.{replayed, IsLegal}
use Rattle.c62_sheet.specs.Chain.{Leads, Marks}

-- j goes with i: it is placed, and a chain of dependences leads to it from i
pub record GoesWith (block : List Insn) (set : Spots) (i j : ℕ) : Type 0 where
  pub taken : IsSome (spot_at set j)
  pub led : Leads block i j

-- marked are the numbers that go with i, and no others
abbrev pub MarksGoing : List Insn → Spots → ℕ → List Bool → Type 0
MarksGoing block set i marks = Marks block (GoesWith block set i) marks

-- the entries withdraw each number below n that goes with i and no other, highest first
abbrev pub WithdrawsBelow : List Insn → Spots → ℕ → Who → ℕ → List Entry → Type 0
WithdrawsBelow block set i who zero entries = entries ≡ []
WithdrawsBelow block set i who (suc j) entries =
    (GoesWith block set i j × ((rest : List Entry) × (entries ≡ Withdraw j who ∷ rest) × WithdrawsBelow block set i who j rest))
    ⊎ ((GoesWith block set i j → ⊥) × WithdrawsBelow block set i who j entries)

-- the entries withdraw exactly i and the placed numbers to which a chain of dependences leads from it, highest first
abbrev pub Withdraws : List Insn → Spots → ℕ → Who → List Entry → Type 0
Withdraws block set i who entries = WithdrawsBelow block set i who (length block) entries

-- the withdrawals of the marked numbers below n, highest first
abbrev pub withdrawals : List Bool → Who → ℕ → List Entry
withdrawals marks who zero = []
withdrawals marks who (suc n) = if slice_index_or marks n false then Withdraw n who ∷ withdrawals marks who n else withdrawals marks who n

-- how many numbers below n are marked
abbrev pub marked_below : List Bool → ℕ → ℕ
marked_below marks zero = 0
marked_below marks (suc n) = marked_below marks n + (if slice_index_or marks n false then 1 else 0)

-- the spot of a number, where it is not marked
abbrev pub left_at : List Bool → Spots → ℕ → Option Spot
left_at marks set k = if slice_index_or marks k false then None else spot_at set k

-- the journal has room for the withdrawals of the marked numbers below n
abbrev pub HasRoomForMarked : Vec Entry Global → List Bool → ℕ → Type 0
HasRoomForMarked journal marks n = vec_len journal + marked_below marks n ≤ vec_capacity journal

-- what goes with i was taken out, which legal withdrawals do too
pub record IsLeft (block : List Insn) (old : Spots) (i : ℕ) (who : Who) (new : Spots) : Type 0 where
  pub entries : List Entry
  pub withdraws : Withdraws block old i who entries
  pub legal : IsLegal block old entries
  pub spots : new ≡ replayed old entries

-- what goes with i was taken out of the sheet, and written to the journal, which had the room
pub record TakesOut (old : Placements) (journal : Vec Entry Global) (i : ℕ) (who : Who) (new : Placements) (longer : Vec Entry Global) : Type 0 where
  pub entries : List Entry
  pub withdraws : Withdraws (insns_of old.plan) old.spots i who entries
  pub legal : IsLegal (insns_of old.plan) old.spots entries
  pub plan : new.plan ≡ old.plan
  pub spots : new.spots ≡ replayed old.spots entries
  pub journal_is : longer.items ≡ journal.items ++ entries
  pub room : vec_capacity journal ≤ vec_capacity longer
