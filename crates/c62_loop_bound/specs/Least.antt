-- How few cycles may lie between two passes of any kernel of a loop (docs/SCHEDULING.md, "Pipelined loops").
use Rattle.std.specs.Prelude.{◌≡◌, ◌⊎◌, ℕ, ◌<◌, ◌≤◌, pos, Bool, List, All}
use Rattle.std.specs.Int.{div_ceil}
use Rattle.c62_op.specs.declared.register.Reg.{Reg}
use Rattle.c62_insn.specs.declared.insn.Insn.{Insn}
use Rattle.c62_rows.specs.Rows.{IsRow}
use Rattle.c62_loop.specs.Counter.{work_of}
use Rattle.c62_loop.specs.Loop.{Region, Pipelined, interval}
use Rattle.c62_loop.specs.Whole.{insns_in}
use Rattle.c62_loop_match.specs.declared.promise.Promise.{Promise}
use Rattle.c62_loop_match.specs.Promise.{promises}
use Rattle.c62_loop_match.specs.Decide.{Decided}
use Rattle.c62_loop_bound.specs.declared.share.Share.{Share}
use Rattle.c62_loop_bound.specs.declared.dependence.Dependence.{Dependence}
use Rattle.c62_loop_bound.specs.Share.{width_of, cycles_of, AreCovered}
use Rattle.c62_loop_bound.specs.Circle.{IsCircle, latencies, iterations}

-- the work of an iteration
abbrev pub body_of : Region → List Insn
body_of region = insns_in (work_of region.counter region.body)

-- so many cycles are asked: by a share
pub record IsByShare (counter : Reg) (body : List Insn) (cycles : ℕ) : Type 0 where
  pub share : Share
  pub some : 0 < width_of share
  pub is : cycles ≡ cycles_of counter body share

-- or by a circle, whose latencies come to a sum that its iterations have to hold
pub record IsByCircle (promised : Insn → Insn → Bool) (body : List Insn) (cycles : ℕ) : Type 0 where
  pub circle : List Dependence
  pub closed : IsCircle promised body circle
  pub some : 0 < iterations circle
  pub sum : ℕ
  pub sum_is : latencies circle ≡ pos sum
  pub is : cycles ≡ div_ceil sum (iterations circle)

-- some share or circle asks for as many cycles, and no share for more
pub record IsAsked (promised : Insn → Insn → Bool) (counter : Reg) (body : List Insn) (cycles : ℕ) : Type 0 where
  pub shares : AreCovered counter body cycles
  pub attained : 0 < cycles → IsByShare counter body cycles ⊎ IsByCircle promised body cycles

-- ---- law

-- Whatever packets pipeline the loop, each such as a text of packets may have: no fewer cycles lie between two passes of their kernel.
abbrev pub NoIntervalIsShorter : Promise → Region → ℕ → Type 0
NoIntervalIsShorter promise region cycles =
    IsAsked (promises promise) region.counter (body_of region) cycles → (loop : Pipelined) (most : ℕ)
    → Decided (promises promise) region loop most → All IsRow loop.text.rows → cycles ≤ interval loop
