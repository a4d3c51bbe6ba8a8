-- Dependences in a circle, from iteration to iteration (docs/SCHEDULING.md, "Pipelined loops"; docs/MACHINE.md, "Dependences").
use Rattle.std.specs.Prelude.{◌≡◌, ℕ, ◌+◌, ◌<◌, ℤ, pos, ◌+ℤ◌, Bool, List, [], ◌∷◌, length, All, sum_by, IsTrue}
use Rattle.c62_insn.specs.declared.insn.Insn.{Insn}
use Rattle.c62_meaning.specs.Instances.{IsOfMemory, DataBounds}
use Rattle.c62_loop.specs.Stage.{Straights, insns_of, begin_of}
use Rattle.c62_loop_bound.specs.declared.dependence.Dependence.{Dependence}

-- nothing stands before the loop or behind it
abbrev pub alone : List Insn → Straights
alone body = record { before = []; body = body; behind = [] }

-- The instruction of number `to`, so many iterations later, must come so many cycles behind that of number `from`, for registers or
-- memory. Of memory nothing is asked between iterations where a promise takes it away.
pub record IsDependence (promised : Insn → Insn → Bool) (body : List Insn) (one : Dependence) : Type 0 where
  pub near : one.apart < 3
  pub from : one.from < length body
  pub to : one.to < length body
  pub asked : DataBounds (insns_of (alone body) 3) one.from (begin_of (alone body) one.apart + one.to) one.latency
  pub needed : IsOfMemory asked.bounds.applies → IsTrue (promised asked.bounds.first asked.bounds.second) → one.apart ≡ 0

-- from number `from` to number `to`, dependence by dependence, the last one first
abbrev pub Leads : ℕ → List Dependence → ℕ → Type 0
Leads from [] to = from ≡ to
Leads from (one ∷ way) to = (one.to ≡ to) × Leads from way one.from

abbrev pub latencies : List Dependence → ℤ
latencies [] = pos 0
latencies (one ∷ way) = latencies way +ℤ one.latency

-- how many iterations lie between the ends
abbrev pub iterations : List Dependence → ℕ
iterations way = sum_by (λ one. one.apart) way

-- from a number to itself
pub record IsCircle (promised : Insn → Insn → Bool) (body : List Insn) (circle : List Dependence) : Type 0 where
  pub each : All (IsDependence promised body) circle
  pub number : ℕ
  pub closed : Leads number circle number
