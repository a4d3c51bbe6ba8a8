-- What an instruction lacks in the cycle before its own (docs/SHOW.md, "Why not earlier"; docs/MACHINE.md, "Packet rules").
use Rattle.std.specs.Prelude.{◌≡◌, ℕ, ◌+◌, ◌-◌, ◌≤◌, ◌<◌, ◌==◌, nat_lt, Bool, ◌||◌, List, [], ◌∷◌, ◌++◌, All, slice_get, take, find, count_by, Option, Some, None, MatchOption, if◌then◌else◌}
use Rattle.std.specs.List.{list_any}
use Rattle.c62_rules.specs.declared.resource.Resource.{Resource}
use Rattle.c62_rules.specs.Resource.{capacity_of, taken_by, place_of}
use Rattle.c62_rules.specs.Capacity.{uses, used}
use Rattle.c62_packet.specs.declared.placed.Placed.{Placed}
use Rattle.c62_packet.specs.Packed.{issued}
use Rattle.c62_why.specs.declared.taken.Taken.{Taken}

-- how many of these resources have a place: each has a place of its own, so that is how much of it there is among them
abbrev pub times : ℕ → List Resource → ℕ
times place taken = count_by (λ each. place_of each == place) taken

-- how much of a resource an instruction takes of a cycle
abbrev pub uses_at : Resource → ℕ → Placed → ℕ
uses_at r cycle p = if p.cycle == cycle then uses r p.insn p.unit else 0

abbrev pub holds : Resource → ℕ → Placed → Bool
holds r cycle p = nat_lt 0 (uses_at r cycle p)

-- how much of it the cycle before an instruction's would have to have, with that instruction
abbrev pub wanted : List Placed → Placed → Resource → ℕ
wanted placed one r = used r (one.cycle - 1) (issued placed) + uses r one.insn one.unit

abbrev pub is_lacking : List Placed → Placed → Resource → Bool
is_lacking placed one r = nat_lt (capacity_of r) (wanted placed one r)

-- there is enough of it for the instruction
abbrev pub IsEnoughFor : List Placed → Placed → Resource → Type 0
IsEnoughFor placed one r = wanted placed one r ≤ capacity_of r

-- there is not, and this is the first instruction of that cycle which takes of it
pub record IsLacking (placed : List Placed) (one : Placed) (r : Resource) (taken : Taken) : Type 0 where
  pub resource : taken.resource ≡ r
  pub over : capacity_of r < wanted placed one r
  pub holder : Placed
  pub is_first : find (holds r (one.cycle - 1)) placed ≡ Some holder
  pub by : taken.by ≡ holder.line

-- of the resources that the instruction takes the first of which there is not enough
pub record IsFirstTaken (placed : List Placed) (one : Placed) (taken : Taken) : Type 0 where
  pub place : ℕ
  pub resource : Resource
  pub takes : slice_get (taken_by one.insn one.unit) place ≡ Some resource
  pub lacks : IsLacking placed one resource taken
  pub enough : All (IsEnoughFor placed one) (take place (taken_by one.insn one.unit))

-- there is one, or enough of all that it takes
abbrev pub FindsTaken : List Placed → Placed → Option Taken → Type 0
FindsTaken placed one found = MatchOption found (All (IsEnoughFor placed one) (taken_by one.insn one.unit)) (IsFirstTaken placed one)

-- ---- all of which there is not enough

abbrev pub line_in : Option Placed → ℕ
line_in None = 0
line_in (Some holder) = holder.line

-- a resource, and the first instruction of the cycle before that takes of it
abbrev pub taken_at : List Placed → Placed → Resource → Taken
taken_at placed one r = record { resource = r; by = line_in (find (holds r (one.cycle - 1)) placed) }

abbrev pub is_of : Resource → Taken → Bool
is_of r taken = place_of taken.resource == place_of r

-- a resource beside others, where there is not enough of it, and it is none of them
abbrev pub with_taken : List Placed → Placed → Taken → List Taken → Resource → List Taken
with_taken placed one first more r =
    if is_of r first || list_any (is_of r) more then more
    else (if is_lacking placed one r then more ++ taken_at placed one r ∷ [] else more)
