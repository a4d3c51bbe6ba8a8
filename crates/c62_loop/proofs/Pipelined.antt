-- A pipelined loop does what its serial loop does.
use Rattle.std.proofs.Common.{◌≡◌, ℕ, ◌+◌, ◌-◌, ◌^◌, ◌<◌, ◌≤◌, List, ◌++◌, sym, ◌∙◌, ap, subst, arith}
use Rattle.c62_op.specs.declared.register.Reg.{Reg}
use Rattle.c62_read.specs.declared.block.SerialInsn.{SerialInsn}
use Rattle.c62_serial.specs.State.{Machine, IsSound, with_word}
use Rattle.c62_serial.proofs.MachineLemmas.{sound_run}
use Rattle.c62_serial.specs.Serial.{serial}
use Rattle.c62_meaning.proofs.Lookup.{In_from_Contains}
use Rattle.c62_flight.specs.Issued.{Visit}
use Rattle.c62_flight.specs.Cut.{IsCut}
use Rattle.c62_loop.specs.Along.{IsAlong}
use Rattle.c62_loop.specs.Counter.{steps_in, work_of}
use Rattle.c62_loop.specs.Loop.{Region, loop_path, serial_path, trips_of, IsCountedLoop, Pipelined, last_row, visits_of}
use Rattle.c62_loop.specs.Loop.{cycles_of, IsPipelined, IsMatch, PipelinedIsSerial}
use Rattle.c62_loop.proofs.Machines.{machine_after, serial_machine}
use Rattle.c62_loop.proofs.Apart.{work_commutes, apart}
use Rattle.c62_loop.proofs.Along.{flies_along}
use Rattle.c62_loop.proofs.Counting.{after_both, serial_both, no_work, path_counted, path_steps, path_counts}
use Rattle.c62_loop.proofs.RowsWithin.{rows_within}
use Rattle.c62_loop.proofs.ControlActs.{touched, is_counted}
use Rattle.c62_loop.proofs.Branches.{steers}

module _ (region : Region) (loop : Pipelined) (trips passes : ℕ) (counted : IsCountedLoop region)
    (is : IsPipelined loop) (opening : Machine)
    (m : IsMatch region loop trips passes opening) (sound : IsSound opening)
    (begins : trips_of region opening ≡ trips) (small : trips < 2 ^ 32) where
  abbrev counter : Reg
  counter = region.counter

  abbrev work : List SerialInsn
  work = work_of counter (loop_path region trips)

  abbrev path : List SerialInsn
  path = region.before ++ (m.control ++ work)

  -- where the instructions above the label lead
  abbrev start : Machine
  start = (serial region.before opening).machine

  abbrev visits : List Visit
  visits = visits_of loop passes

  left : (serial path opening).machine ≡ (serial (serial_path region trips) opening).machine
  left =
      serial_both region.before (m.control ++ work) opening
      ∙ serial_machine (m.control ++ work) start
      ∙ after_both m.control work start
      ∙ ap (λ (machine : Machine). machine_after work machine) all_control
      ∙ work_commutes counter (loop_path region trips) 0 start
      ∙ sym whole
      ∙ sym (serial_both region.before (loop_path region trips) opening)
    where
      none_left : trips - steps_in counter m.control ≡ 0
      none_left = let l : trips ≤ steps_in counter m.control = m.enough in omega arith

      all_control : machine_after m.control start ≡ with_word counter 0 start
      all_control =
          apart counter loop.label m.control trips start
          (is_counted region loop trips passes counted opening m sound begins small) m.counts
          (sound_run region.before opening sound) begins small
          ∙ ap (λ (p : List SerialInsn). with_word counter (trips - steps_in counter m.control)
          (machine_after p start))
          (no_work counter m.control
          (touched region loop trips passes counted opening m sound begins small))
          ∙ ap (λ n. with_word counter n start) none_left

      none_behind : trips - steps_in counter (loop_path region trips) ≡ 0
      none_behind = let e : steps_in counter (loop_path region trips) ≡ trips = path_steps region counted trips in
          omega arith

      whole : (serial (loop_path region trips) start).machine ≡ with_word counter 0 (machine_after work start)
      whole =
          serial_machine (loop_path region trips) start
          ∙ apart counter region.number (loop_path region trips) trips start (path_counted region counted trips)
          (path_counts region counted trips) (sound_run region.before opening sound) begins small
          ∙ ap (λ n. with_word counter n (machine_after work start)) none_behind

  is_along : IsAlong loop.text loop.first path visits (last_row loop) (cycles_of loop passes) opening
  is_along = record {
    issuable = is.issuable;
    one_branch = λ visit c.
        (let r = rows_within loop passes visit (In_from_Contains visit (visits_of loop passes) c) in grind arith);
    instances = m.instances;
    drained = m.drained;
    steers = steers region loop trips passes counted is opening m sound begins small;
  }

  comes : (more : ℕ) → IsCut loop.text loop.first (cycles_of loop passes + more) opening (last_row loop)
      (cycles_of loop passes) (serial (serial_path region trips) opening).machine
  comes more =
      subst (λ (machine : Machine). IsCut loop.text loop.first (cycles_of loop passes + more) opening (last_row loop)
      (cycles_of loop passes) machine) left
      (flies_along loop.text loop.first path visits (last_row loop) (cycles_of loop passes) opening sound is_along more)

pub pipelined_is_serial : (region : Region) (loop : Pipelined) (trips passes : ℕ)
    → PipelinedIsSerial region loop trips passes
pipelined_is_serial region loop trips passes counted is opening m sound begins small more = comes region loop trips
    passes counted is opening m sound begins small more
