-- A counted loop, straight instructions before and behind it, and its software pipelined packets (docs/CHECK.md, "Pipelined
-- loops"; SPRU198, "Software Pipelining").
use Rattle.std.specs.Prelude.{◌≡◌, ℕ, zero, suc, ◌+◌, ◌^◌, ◌<◌, ◌≤◌, List, [], ◌++◌, length, take, slice_get, All, Some, IsTrue, IsFalse}
use Rattle.c62_op.specs.declared.register.Reg.{Reg}
use Rattle.c62_op.specs.Shape.{is_branch}
use Rattle.c62_insn.specs.Insn.{op_of}
use Rattle.c62_read.specs.declared.block.SerialInsn.{SerialInsn}
use Rattle.c62_serial.specs.State.{Machine, IsSound, word_in}
use Rattle.c62_serial.specs.Serial.{serial}
use Rattle.c62_packet.specs.declared.placed.Placed.{Placed}
use Rattle.c62_packet.specs.Packed.{AreDrained, HaveOneBranch}
use Rattle.c62_meaning.specs.Instances.{AreInstancesFrom}
use Rattle.c62_flight.specs.Text.{Text, row_of, aim_of, IsIssuable}
use Rattle.c62_flight.specs.Issued.{Visit, issued_on}
use Rattle.c62_flight.specs.Laid.{straight, straight_end}
use Rattle.c62_flight.specs.Cut.{IsCut}
use Rattle.c62_loop.specs.Counter.{touches, steps_on, steps_in, IsCounted, CountsFrom, work_of}

-- ---- the serial loop

-- The instructions above the label, those of the loop's block, whose number this is, and those behind it. The counter is the
-- register that the block's last branch tests.
pub record Region : Type 0 where
  pub before : List SerialInsn
  pub body : List SerialInsn
  pub behind : List SerialInsn
  pub counter : Reg
  pub number : ℕ

abbrev pub rounds : List SerialInsn → ℕ → List SerialInsn
rounds body zero = []
rounds body (suc trips) = body ++ rounds body trips

-- from the label on, the instructions that a run takes whose loop goes round so many times
abbrev pub loop_path : Region → ℕ → List SerialInsn
loop_path region trips = rounds region.body trips ++ region.behind

-- and with those above it
abbrev pub serial_path : Region → ℕ → List SerialInsn
serial_path region trips = region.before ++ loop_path region trips

-- what the counter holds when a run comes to the label
abbrev pub trips_of : Region → Machine → ℕ
trips_of region opening = word_in (serial region.before opening).machine region.counter

-- The loop counts: its block lowers the counter by one, and all that touches it from the label on are steps and branches to the loop.
-- What stands above may do with it what it likes, but branches nowhere.
pub record IsCountedLoop (region : Region) : Type 0 where
  pub straight_before : All (λ entry. IsFalse (is_branch (op_of entry.insn))) region.before
  pub body : All (IsCounted region.counter region.number) region.body
  pub behind : All (IsCounted region.counter region.number) region.behind
  pub one_step : steps_in region.counter region.body ≡ 1
  pub no_step_behind : steps_in region.counter region.behind ≡ 0

-- ---- its packets

-- Rows of a text, one behind the other: from the first on so many of the prolog, of the kernel, and of the epilog. The kernel's
-- branches name the label of this number.
pub record Pipelined : Type 0 where
  pub text : Text
  pub first : ℕ
  pub prolog : ℕ
  pub kernel : ℕ
  pub epilog : ℕ
  pub label : ℕ

abbrev pub kernel_row : Pipelined → ℕ
kernel_row loop = loop.first + loop.prolog

abbrev pub epilog_row : Pipelined → ℕ
epilog_row loop = kernel_row loop + loop.kernel

-- the row behind the epilog
abbrev pub last_row : Pipelined → ℕ
last_row loop = epilog_row loop + loop.epilog

-- the cycle in which the kernel is begun
abbrev pub prolog_cycles : Pipelined → ℕ
prolog_cycles loop = straight_end loop.text loop.first 0 loop.prolog

-- the cycles from one pass to the next
abbrev pub interval : Pipelined → ℕ
interval loop = straight_end loop.text (kernel_row loop) 0 loop.kernel

-- the cycle in which a pass of the kernel is begun, the first being number 0
abbrev pub pass_start : Pipelined → ℕ → ℕ
pass_start loop zero = prolog_cycles loop
pass_start loop (suc pass) = pass_start loop pass + interval loop

-- so many passes of the kernel from number pass on
abbrev pub passes_from : Pipelined → ℕ → ℕ → List Visit
passes_from loop pass zero = []
passes_from loop pass (suc count) = straight loop.text (kernel_row loop) (pass_start loop pass) loop.kernel ++ passes_from loop (suc pass) count

-- the rows that a run takes whose kernel is passed so many times
abbrev pub visits_of : Pipelined → ℕ → List Visit
visits_of loop passes = straight loop.text loop.first 0 loop.prolog ++ (passes_from loop 0 passes ++ straight loop.text (epilog_row loop) (pass_start loop passes) loop.epilog)

-- the cycle in which the epilog is over
abbrev pub cycles_of : Pipelined → ℕ → ℕ
cycles_of loop passes = straight_end loop.text (epilog_row loop) (pass_start loop passes) loop.epilog

-- These rows stand in the text, and of each at most one instruction is a branch. The label is at the kernel's first.
pub record IsPipelined (loop : Pipelined) : Type 0 where
  pub issuable : IsIssuable loop.text
  pub one_branch : (number : ℕ) → loop.first ≤ number → number < last_row loop → HaveOneBranch (row_of loop.text number).insns
  pub rows : last_row loop ≤ length loop.text.rows
  pub some : 0 < loop.kernel
  pub labelled : aim_of loop.text loop.label ≡ kernel_row loop

-- ---- the match

-- A branch takes effect when this pass of the kernel is over.
abbrev pub EndsPass : Pipelined → ℕ → Placed → Type 0
EndsPass loop pass p = p.cycle + 6 ≡ pass_start loop (suc pass)

-- The packets hold the loop of so many trips in so many passes of the kernel: what is issued are instances of the instructions above
-- the label, of steps and branches of their own, and of the work of the loop.
pub record IsMatch (region : Region) (loop : Pipelined) (trips passes : ℕ) (opening : Machine) : Type 0 where
  pub some : 0 < passes
  -- the steps and branches, in an order in which they are instances
  pub control : List SerialInsn
  pub touch : All (λ entry. IsTrue (touches region.counter entry)) control
  pub counted : All (IsCounted region.counter loop.label) control
  pub instances : AreInstancesFrom opening (region.before ++ (control ++ work_of region.counter (loop_path region trips))) (issued_on loop.text (visits_of loop passes))
  -- all has landed when the epilog is over
  pub drained : AreDrained (cycles_of loop passes) (issued_on loop.text (visits_of loop passes))
  -- each step finds the counter above 0 or stops there, and they are enough to bring it there
  pub counts : CountsFrom region.counter trips control
  pub enough : trips ≤ steps_in region.counter control
  -- each branch takes effect at the end of a pass, and finds the counter at 0 from the last pass on, and not before
  pub decides : (i : ℕ) (entry : SerialInsn) (p : Placed) → slice_get control i ≡ Some entry
      → slice_get instances.placed (length region.before + i) ≡ Some p
      → IsFalse (steps_on region.counter entry)
      → (pass : ℕ) × EndsPass loop pass p × (steps_in region.counter (take i control) + passes ≡ trips + suc pass)
  -- at the end of each pass but the last some branch does
  pub decided : (pass : ℕ) → suc pass < passes
      → (i : ℕ) × (entry : SerialInsn) × (p : Placed) × (slice_get control i ≡ Some entry)
      × (slice_get instances.placed (length region.before + i) ≡ Some p)
      × IsFalse (steps_on region.counter entry) × EndsPass loop pass p

-- ---- law

-- From every sound machine that comes to the label with so many trips in the counter the flight from the first row of the prolog comes to the row behind the
-- epilog with nothing in flight, and has left the registers, memory and faulted lines of the serial path.
abbrev pub PipelinedIsSerial : Region → Pipelined → ℕ → ℕ → Type 0
PipelinedIsSerial region loop trips passes = IsCountedLoop region → IsPipelined loop → (opening : Machine)
    → IsMatch region loop trips passes opening → IsSound opening → trips_of region opening ≡ trips → trips < 2 ^ 32 → (more : ℕ)
    → IsCut loop.text loop.first (cycles_of loop passes + more) opening (last_row loop) (cycles_of loop passes) (serial (serial_path region trips) opening).machine
