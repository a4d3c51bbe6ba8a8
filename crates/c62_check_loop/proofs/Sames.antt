-- What is told to be the same does the same.
use Rattle.std.proofs.Common.{◌≡◌, ℕ, suc, ◌+◌, ◌-◌, ◌^◌, ◌<◌, ◌≤◌, Bool, refl, sym, ◌∙◌, ap, subst, arith}
use Rattle.c62_insn.specs.declared.insn.Insn.{Insn}
use Rattle.c62_serial.specs.State.{Machine, IsSound}
use Rattle.c62_serial.specs.Serial.{serial}
use Rattle.c62_flight.specs.Text.{Text}
use Rattle.c62_flight.specs.Cut.{IsCut}
use Rattle.c62_flight.specs.Laid.{straight_end}
use Rattle.c62_loop.specs.Loop.{Region, Pipelined, serial_path, trips_of, epilog_row, last_row, pass_start, interval}
use Rattle.c62_loop.specs.Loop.{cycles_of}
use Rattle.c62_loop.specs.Whole.{AreApart}
use Rattle.c62_loop.proofs.Passes.{end_from}
use Rattle.c62_loop.proofs.Exact.{pipelined_for_all_trips}
use Rattle.c62_loop_match.specs.Decide.{Decided}
use Rattle.c62_check_loop.specs.Laws.{SameIsSerial}

-- a pass more takes the interval more
one_pass_more : (loop : Pipelined) (passes : ℕ) → cycles_of loop (suc passes) ≡ cycles_of loop passes + interval loop
one_pass_more loop passes =
    let later : cycles_of loop (suc passes) ≡ pass_start loop (suc passes) + straight_end loop.text (epilog_row loop) 0
    loop.epilog
    = end_from loop.text (epilog_row loop) (pass_start loop (suc passes)) loop.epilog in
    let here : cycles_of loop passes ≡ pass_start loop passes + straight_end loop.text (epilog_row loop) 0 loop.epilog
    = end_from loop.text (epilog_row loop) (pass_start loop passes) loop.epilog in
    let next : pass_start loop (suc passes) ≡ pass_start loop passes + interval loop = refl in
    omega (arith, later, here, next)

-- and so does a trip more
pub one_trip_more : (loop : Pipelined) (most count : ℕ) → most ≤ count
    → cycles_of loop (count + 1 - most) ≡ cycles_of loop (count - most) + interval loop
one_trip_more loop most count enough =
    let e : count + 1 - most ≡ suc (count - most) = omega (arith, enough) in
    ap (λ n. cycles_of loop n) e ∙ one_pass_more loop (count - most)

leaves : (promised : Insn → Insn → Bool) (region : Region) (loop : Pipelined) (most : ℕ)
    → Decided promised region loop most → (opening : Machine) (count : ℕ)
    → IsSound opening → trips_of region opening ≡ count → most + 1 ≤ count → count < 2 ^ 32
    → AreApart promised region count opening → (more : ℕ)
    → IsCut loop.text loop.first (cycles_of loop (count - most) + more) opening (last_row loop)
    (cycles_of loop (count - most))
    (serial (serial_path region count) opening).machine
leaves promised region loop most decided opening count sound counter enough few apart more =
    let passes : ℕ = count - most in
    let all : most + (count - most) ≡ count = omega (arith, enough) in
    let some : 0 < count - most = omega (arith, enough) in
    subst
    (λ n. IsCut loop.text loop.first (cycles_of loop (count - most) + more) opening (last_row loop)
    (cycles_of loop (count - most))
    (serial (serial_path region n) opening).machine)
    all
    (pipelined_for_all_trips promised region loop most decided.counts decided.stands decided.pipelines opening
    (count - most) sound some (counter ∙ sym all)
    (subst (λ n. n < 2 ^ 32) (sym all) few) (subst (λ n. AreApart promised region n opening) (sym all) apart) more)

pub same_is_serial : (promised : Insn → Insn → Bool) (region : Region) (packets : Text) (trips cycles first last : ℕ)
    → SameIsSerial promised region packets trips cycles first last
same_is_serial promised region packets trips cycles first last same = record {
  loop = same.loop;
  relined = same.relined;
  first_is = same.first_is;
  last_is = same.last_is;
  takes = λ count. cycles_of same.loop (count - same.most);
  one_more = λ count enough. one_trip_more same.loop same.most count (omega (arith, enough, same.trips_are))
      ∙ ap (λ n. cycles_of same.loop (count - same.most) + n) (sym same.cycles_are);
  leaves = λ opening count sound counter enough few apart more.
      leaves promised region same.loop same.most same.decided opening count sound counter
      (omega (arith, enough, same.trips_are)) few apart more;
}
