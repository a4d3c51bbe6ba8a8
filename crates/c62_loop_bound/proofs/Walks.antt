-- Round a circle of dependences each pass comes so much later that its latencies fit.
use Rattle.std.proofs.Common.{arith, Bool, ◌≡◌, ℕ, suc, ◌+◌, ◌*◌, ◌<◌, ◌≤◌, pos, ◌+ℤ◌, ◌≤ℤ◌, List, [], ◌∷◌, refl}
use Rattle.std.proofs.Common.{ap}
use Rattle.std.proofs.Common.{subst, lt_of_mul-lt-mul_right}
use Rattle.std.specs.Prelude.{All}
use Rattle.std.specs.Int.{div_ceil}
use Rattle.std.proofs.lemmas.Int.{ints}
use Rattle.std.proofs.lemmas.Grind.{div_ceil_times}
use Rattle.std.proofs.lemmas.List.Sums.{sum_by-cons}
use Rattle.c62_insn.specs.declared.insn.Insn.{Insn}
use Rattle.c62_loop.specs.Loop.{Region, Pipelined, interval}
use Rattle.c62_loop.specs.Whole.{IsPipelining}
use Rattle.c62_loop_bound.specs.declared.dependence.Dependence.{Dependence}
use Rattle.c62_loop_bound.specs.Circle.{IsDependence, Leads, latencies, iterations, IsCircle}
use Rattle.c62_loop_bound.specs.Least.{IsByCircle}
use Rattle.c62_loop_bound.proofs.Instances.{body, apart, start, binds}

-- what has room in so many rounds takes no more
pub few_rounds : (count by cycles : ℕ) → 0 < by → count ≤ by * cycles → div_ceil count by ≤ cycles
few_rounds count by cycles some fits =
    let above : div_ceil count by * by < count + by = (div_ceil_times count by some).1 in
    let one : suc cycles * by ≡ by + by * cycles = omega arith in
    let below : div_ceil count by * by < suc cycles * by = omega (arith, above, fits, one) in
    let fewer : div_ceil count by < suc cycles = lt_of_mul-lt-mul_right by below in
    omega (arith, fewer)

module _ (promised : Insn → Insn
    → Bool) (region : Region) (loop : Pipelined) (most : ℕ) (m : IsPipelining promised region loop most) where
  abbrev gap : ℕ
  gap = apart promised region loop most m

  abbrev begun : ℕ → ℕ
  begun a = start promised region loop most m a

  -- a way of dependences binds its ends
  way_binds : (from : ℕ) (way : List Dependence) (to : ℕ)
      → All (IsDependence promised (body promised region loop most m)) way → Leads from way to
      → (pos (begun from) +ℤ latencies way) ≤ℤ pos (begun to + gap * iterations way)
  way_binds from [] to each leads =
      let e : begun from ≡ begun to = ap begun leads in
      let none : gap * iterations [] ≡ 0 = omega arith in
      let start : latencies [] ≡ pos 0 = refl in
      omega (arith, ints, e, none, start)
  way_binds from (one ∷ way) to each leads =
      let rest : (pos (begun from) +ℤ latencies way) ≤ℤ pos (begun one.from + gap * iterations way)
      = way_binds from way one.from (λ k d l. each (suc k) d (omega (arith, l))) leads.1 in
      let here : (pos (begun one.from) +ℤ one.latency) ≤ℤ pos (begun one.to + gap * one.apart)
      = binds promised region loop most m one (each 0 one (omega arith)) in
      let end : begun one.to ≡ begun to = ap begun leads.0 in
      let sum : iterations (one ∷ way) ≡ one.apart + iterations way = sum_by-cons (λ (d : Dependence). d.apart) one way
      in
      let grown : gap * iterations (one ∷ way) ≡ gap * (one.apart + iterations way) = ap (λ n. gap * n) sum in
      let both : gap * (one.apart + iterations way) ≡ gap * one.apart + gap * iterations way = omega arith in
      let whole : latencies (one ∷ way) ≡ latencies way +ℤ one.latency = refl in
      omega (arith, ints, rest, here, end, grown, both, whole)

  -- so the latencies of a circle fit into its iterations
  pub circle_fits : (circle : List Dependence) (sum : ℕ) → IsCircle promised (body promised region loop most m) circle
      → latencies circle ≡ pos sum → sum ≤ iterations circle * interval loop
  circle_fits circle sum closed is =
      let fits : (pos (begun closed.number) +ℤ latencies circle) ≤ℤ pos (begun closed.number + gap * iterations circle)
      = way_binds closed.number circle closed.number closed.each closed.closed in
      let known : (pos (begun closed.number) +ℤ pos sum) ≤ℤ pos (begun closed.number + gap * iterations circle)
      = subst (λ z. (pos (begun closed.number) +ℤ z) ≤ℤ pos (begun closed.number + gap * iterations circle)) is fits in
      let same : gap ≡ interval loop = m.same_interval in
      let turned : gap * iterations circle ≡ iterations circle * gap = omega arith in
      let there : iterations circle * gap ≡ iterations circle * interval loop = ap (λ n. iterations circle * n) same in
      omega (arith, ints, known, turned, there)

  pub circle_below : (cycles : ℕ) → IsByCircle promised (body promised region loop most m) cycles
      → cycles ≤ interval loop
  circle_below cycles by =
      let fits : by.sum ≤ iterations by.circle * interval loop = circle_fits by.circle by.sum by.closed by.sum_is in
      let rounds : div_ceil by.sum (iterations by.circle) ≤ interval loop = few_rounds by.sum (iterations by.circle)
      (interval loop) by.some fits in
      let is : cycles ≡ div_ceil by.sum (iterations by.circle) = by.is in
      omega (arith, rounds, is)
