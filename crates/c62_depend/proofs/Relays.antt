-- A dependence that is kept by two others, over an instruction between.
use Rattle.c62_depend.proofs.Common.{◌≡◌, ℕ, ◌<◌, ℤ, ◌+ℤ◌, ◌≤ℤ◌, List, Option, Some, None, refl, arith, ints, Insn}
use Rattle.c62_depend.proofs.Common.{Bounds, IsLatency, latency}
use Rattle.c62_depend.proofs.Latencies.{latency-is}

-- two dependences through a number between, which sum to enough
pub record Relay (block : List Insn) (i j : ℕ) (bound : ℤ) : Type 0 where
  pub by : ℕ
  pub after : i < by
  pub before : by < j
  pub first : ℤ
  pub second : ℤ
  pub is_first : latency block i by ≡ Some first
  pub is_second : latency block by j ≡ Some second
  pub enough : bound ≤ℤ (first +ℤ second)

-- a bound is at most the latency
pub bound_below : (block : List Insn) (i j : ℕ) (b : ℤ) → Bounds block i j b → (m : ℤ) × (latency block i j ≡ Some m)
    × (b ≤ℤ m)
bound_below block i j b w = from (latency block i j) refl (latency-is block i j)
  where
    from : (o : Option ℤ) → latency block i j ≡ o → IsLatency block i j o → (m : ℤ) × (latency block i j ≡ Some m)
        × (b ≤ℤ m)
    from None e g = absurd (g (b, w))
    from (Some m) e g = (m, e, g.greatest b w)

pub relay : (block : List Insn) (i k j : ℕ) (b one other : ℤ) → i < k → k < j → Bounds block i k one
    → Bounds block k j other → b ≤ℤ (one +ℤ other)
    → Relay block i j b
relay block i k j b one other after before first second sum =
    let m = bound_below block i k one first in
    let n = bound_below block k j other second in
    let low : one ≤ℤ m.0 = m.2 in
    let high : other ≤ℤ n.0 = n.2 in
    record {
      by = k;
      after = after;
      before = before;
      first = m.0;
      second = n.0;
      is_first = m.1;
      is_second = n.1;
      enough = omega (arith, ints);
    }
