-- What is found on the way to raised heights.
use Rattle.std.specs.Prelude.{◌≡◌, ◌⊎◌, ℕ, ◌+◌, ◌<◌, ◌≤◌, max, nat_eq, ℤ, pos, negsuc, ◌+ℤ◌, ◌≤ℤ◌, Bool, List, Option, Some, None, MatchOption, IsTrue, IfSome, if◌then◌else◌, option_map, slice_index}
use Rattle.c62_insn.specs.declared.insn.Insn.{Insn}
use Rattle.c62_depend.specs.Height.{raised}
use Rattle.c62_depend.specs.declared.links.Link.{Link}
use Rattle.c62_raised.specs.declared.room.Room.{Room}
use Rattle.c62_raised.specs.declared.crowd.Crowd.{Crowd}
use Rattle.c62_raised.specs.declared.crowd.Pass.{Pass}
use Rattle.c62_raised.specs.Chain.{IsLongest, lead_in}
use Rattle.c62_raised.specs.Crowd.{IsCrowdOf, cycles_of}

-- how many cycles number k comes behind number i: itself none
abbrev pub begun : List (Option ℤ) → ℕ → ℕ → Option ℤ
begun leads i k = if nat_eq k i then Some (pos 0) else lead_in leads k

-- so many cycles, and a latency more
abbrev pub behind_by : ℤ → Option ℤ → Option ℤ
behind_by latency before = option_map (λ cycles. cycles +ℤ latency) before

-- by the dependence that a link names
abbrev pub through : List (Option ℤ) → ℕ → Link → Option ℤ
through leads i link = behind_by link.latency (begun leads i link.number)

-- no chain is longer
abbrev pub IsSmall : Option ℤ → Type 0
IsSmall before = IfSome before (λ cycles. (negsuc 1279 ≤ℤ cycles) × (cycles ≤ℤ pos 1280))

-- of the first numbers
abbrev pub AreLongestBelow : List Insn → ℕ → ℕ → List (Option ℤ) → Type 0
AreLongestBelow block i n leads = (j : ℕ) → j < n → IsLongest block i j (lead_in leads j)

-- no chain is longer, and no height is greater
abbrev pub AreSmall : List (Option ℤ) → Type 0
AreSmall leads = (j : ℕ) → IsSmall (lead_in leads j)

abbrev pub AreLow : ℕ → List ℕ → Type 0
AreLow most heights = (j : ℕ) → slice_index heights j ≤ most

-- what one number makes of so many cycles
pub record IsWithOne (before : Option ℤ) (height old new : ℕ) : Type 0 where
  pub least : old ≤ new
  pub covers : (cycles : ℤ) → before ≡ Some cycles → raised cycles height ≤ new
  pub attained : (new ≡ old) ⊎ ((cycles : ℤ) × (before ≡ Some cycles) × (new ≡ raised cycles height))

-- and all numbers that come behind
pub record IsWithOnes (height : ℕ → ℕ) (lead : ℕ → Option ℤ) (delay cycles : ℕ) : Type 0 where
  pub own : delay ≤ cycles
  pub ones : (j : ℕ) (before : ℤ) → lead j ≡ Some before → raised before (height j) ≤ cycles
  pub attained : (cycles ≡ delay) ⊎ ((j : ℕ) × (before : ℤ) × (lead j ≡ Some before) × (cycles ≡ raised before (height j)))

-- so many cycles cover the crowds for a room
abbrev pub CoversCrowds : List Insn → (ℕ → ℕ) → (ℕ → Option ℤ) → Room → ℕ → Type 0
CoversCrowds block height lead room cycles = (last : ℕ) (crowd : Crowd) → IsCrowdOf block height lead room last crowd → cycles_of crowd ≤ cycles

-- ---- a pass over the numbers in falling order of their heights

-- how many a crowd has: none where there is none
abbrev pub count_of : Option Crowd → ℕ
count_of None = 0
count_of (Some crowd) = crowd.count

-- a crowd with one more, whose height is the new tail
pub record IsJoined (held : Option Crowd) (room : Room) (lead : ℤ) (tail : ℕ) (new : Crowd) : Type 0 where
  pub is_room : new.room ≡ room
  pub is_tail : new.tail ≡ tail
  pub is_count : new.count ≡ count_of held + 1
  pub least : new.lead ≤ℤ lead
  pub below : IfSome held (λ crowd. new.lead ≤ℤ crowd.lead)
  pub attained : (new.lead ≡ lead) ⊎ MatchOption held ⊥ (λ crowd. new.lead ≡ crowd.lead)

-- the greater of so many cycles, and those of a crowd
abbrev pub closed : Option Crowd → ℕ → ℕ
closed None most = most
closed (Some crowd) most = max most (cycles_of crowd)

-- this, where the tail is another one than the crowd's
abbrev pub closed_before : Option Crowd → ℕ → ℕ → ℕ
closed_before None tail most = most
closed_before (Some crowd) tail most = if nat_eq crowd.tail tail then most else max most (cycles_of crowd)

-- with a number that waits for the room and comes so many cycles behind
pub record IsWithMember (room : Room) (lead : ℤ) (height : ℕ) (old new : Pass) : Type 0 where
  pub closed : new.most ≡ closed_before old.held height old.most
  pub held : (crowd : Crowd) × (new.held ≡ Some crowd) × IsJoined old.held room lead height crowd

-- with a number, if it waits for the room and comes behind
abbrev pub IsWithNumber : Room → Bool → Option ℤ → ℕ → Pass → Pass → Type 0
IsWithNumber room waits lead height old new =
    ((cycles : ℤ) × IsTrue waits × (lead ≡ Some cycles) × IsWithMember room cycles height old new)
    ⊎ ((IsTrue waits → lead ≡ None) × (new ≡ old))
