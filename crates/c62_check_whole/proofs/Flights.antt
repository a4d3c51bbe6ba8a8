-- Flights over parts of a text, one behind the other.
use Rattle.std.proofs.Common.{Bool, ◌≡◌, ℕ, ◌+◌, ◌-◌, ◌^◌, ◌<◌, ◌≤◌, sym, ◌∙◌, subst, arith}
use Rattle.c62_insn.specs.declared.insn.Insn.{Insn}
use Rattle.c62_serial.specs.State.{Machine, IsSound}
use Rattle.c62_serial.specs.Serial.{serial}
use Rattle.c62_flight.specs.declared.stop.Stop.{Stop}
use Rattle.c62_flight.specs.Text.{Text}
use Rattle.c62_flight.specs.Flight.{Flies}
use Rattle.c62_flight.proofs.Joined.{flies_on}
use Rattle.c62_loop.specs.Loop.{Region, Pipelined, IsCountedLoop, IsPipelined, IsMatch, serial_path, trips_of, last_row, cycles_of}
use Rattle.c62_loop.specs.Whole.{AreApart, IsPipelining}
use Rattle.c62_loop.proofs.Exact.{exact}
use Rattle.c62_loop.proofs.Whole.{is_match}
use Rattle.c62_loop.proofs.Pipelined.{pipelined_is_serial}
use Rattle.c62_check_loop.specs.Relined.{AreRelined}
use Rattle.c62_check_rest.specs.Laws.{ComesTo}
use Rattle.c62_check_whole.specs.Whole.{FliesTo}
use Rattle.c62_check_whole.proofs.Texts.{SameRows}
use Rattle.c62_check_whole.proofs.LoopTexts.{moved_loop, moved_stands, moved_match}

-- what flies from where a flight comes with nothing in flight is the rest of it
pub flies_behind : (text : Text) (first row : ℕ) (opening middle final : Machine) (stop : Stop)
    → ComesTo text first opening row middle → FliesTo text row middle stop final → FliesTo text first opening stop final
flies_behind text first row opening middle final stop comes rest = record {
  cycles = comes.cycles + rest.cycles;
  flies = λ more.
      (let e : comes.cycles + (rest.cycles + more) ≡ comes.cycles + rest.cycles + more = omega arith in
      subst (λ n. Flies text first n opening stop (comes.cycles + rest.cycles) final) e
      (flies_on text first (rest.cycles + more) opening row comes.cycles middle (comes.cut (rest.cycles + more)) stop
      rest.cycles final (rest.flies more)));
}

-- ---- a loop, in a text that has its rows

module _ (promised : Insn → Insn → Bool) (region : Region) (packets text : Text) (loop : Pipelined) (most : ℕ)
    (counts : IsCountedLoop region) (stands : IsPipelined loop) (pipelines : IsPipelining promised region loop most)
    (one_is : AreRelined packets loop.text) (is : AreRelined packets text)
    (same : SameRows loop.text text loop.first (last_row loop)) where
  by_passes : (opening : Machine) (passes : ℕ) → IsSound opening → 0 < passes
      → trips_of region opening ≡ most + passes → most + passes < 2 ^ 32
      → AreApart promised region (most + passes) opening
      → ComesTo text loop.first opening (last_row loop) (serial (serial_path region (most + passes)) opening).machine
  by_passes opening passes sound some begins small apart =
      let m : IsMatch region loop (most + passes) passes opening
      = is_match promised region loop most passes (exact promised region loop most passes pipelines some) some opening
      sound begins small apart in
      record {
        cycles = cycles_of (moved_loop packets text loop one_is is same) passes;
        cut = λ more. pipelined_is_serial region (moved_loop packets text loop one_is is same) (most + passes) passes
            counts (moved_stands packets text loop one_is is same stands) opening
            (moved_match packets text loop one_is is same region (most + passes) passes opening m) sound begins small
            more;
      }

  pub comes_behind : (opening : Machine) (count : ℕ) → IsSound opening → most + 1 ≤ count
      → trips_of region opening ≡ count → count < 2 ^ 32 → AreApart promised region count opening
      → ComesTo text loop.first opening (last_row loop) (serial (serial_path region count) opening).machine
  comes_behind opening count sound enough begins small apart =
      let all : most + (count - most) ≡ count = omega (arith, enough) in
      let some : 0 < count - most = omega (arith, enough) in
      subst (λ n. ComesTo text loop.first opening (last_row loop) (serial (serial_path region n) opening).machine) all
      (by_passes opening (count - most) sound some (begins ∙ sym all) (subst (λ n. n < 2 ^ 32) (sym all) small)
      (subst (λ n. AreApart promised region n opening) (sym all) apart))
