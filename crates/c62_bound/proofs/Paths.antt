-- No schedule is shorter than a height and the cycle of its instruction.
use Rattle.std.proofs.Common.{arith, ◌≡◌, ℕ, zero, suc, ◌+◌, ◌<◌, ◌≤◌, List, length, Option, Some, None, refl, ap}
use Rattle.std.proofs.Common.{subst, inl, inr}
use Rattle.std.specs.Prelude.{IsSome, ℤ}
use Rattle.std.proofs.lemmas.Int.{ints}
use Rattle.std.proofs.lemmas.Option.{none-some, same_Some}
use Rattle.c62_insn.specs.declared.insn.Insn.{Insn}
use Rattle.c62_op.specs.Shape.{delay_of}
use Rattle.c62_insn.specs.Insn.{op_of}
use Rattle.c62_rules.specs.Dependence.{Bounds, IsLatency}
use Rattle.c62_depend.specs.Plan.{IsPlan}
use Rattle.c62_depend.specs.Latency.{latency}
use Rattle.c62_depend.specs.Height.{height, delay_at, delay_in, IsHeight}
use Rattle.c62_depend.proofs.Rules.{height_is}
use Rattle.c62_depend.proofs.Latencies.{latency-is}
use Rattle.c62_sheet.specs.declared.entry.Spot.{Spot}
use Rattle.c62_sheet.specs.Lawful.{Spots, IsAt, spot_at}
use Rattle.c62_sheet.proofs.Used.{insn_at}
use Rattle.c62_bound.specs.Laws.{IsSeated}

-- the spot of a placed number
pub spot_of : (o : Option Spot) → IsSome o → (s : Spot) × (o ≡ Some s)
spot_of None is = cc
spot_of (Some s) is = (s, refl)

pub bound_of : (block : List Insn) (i j : ℕ) (o : Option ℤ) (cycles : ℤ) → IsLatency block i j o → o ≡ Some cycles
    → Bounds block i j cycles
bound_of block i j None cycles is e = absurd (none-some cycles e)
bound_of block i j (Some l) cycles is e = subst (λ x. Bounds block i j x) (same_Some l cycles e) is.applies

module _ (block : List Insn) (set : Spots) (most : ℕ) (plan : IsPlan block) (seated : IsSeated block set most) where
  -- by the delay of i
  own_delay : (i : ℕ) (s : Spot) → i < length block → IsAt set i s → height block i ≡ delay_at block i
      → s.cycle + height block i + 1 ≤ most
  own_delay i s within is e =
      let w = insn_at block i within in
      let ends = seated.ends i w.0 s w.1 is in
      let own : delay_at block i ≡ delay_of (op_of w.0) = ap delay_in w.1 in
      omega (arith, ends, own, e)

  -- the height of each number ends within the length, from the last numbers up
  rises : (steps i : ℕ) (s : Spot) → i < length block → length block ≤ i + steps → IsAt set i s
      → s.cycle + height block i + 1 ≤ most
  rises zero i s within few is = absurd (omega (arith, within, few))
  rises (suc steps) i s within few is =
      let h : IsHeight block i (height block i) = height_is block i within in
      elim h.attained [
        | inl e ↦ own_delay i s within is e
        | inr w ↦
            (let j : ℕ = w.0 in
            let cycles : ℤ = w.1 in
            let short = plan.short i j cycles w.2 in
            let before : i < j = short.before in
            let inside : j < length block = short.within in
            let t = spot_of (spot_at set j) (seated.complete j inside) in
            let kept = seated.delays i j cycles s t.0
            (bound_of block i j (latency block i j) cycles (latency-is block i j) w.2) is t.1 in
            let behind = rises steps j t.0 inside (omega (arith, before, few)) t.1 in
            omega (arith, ints, kept, behind, w.3))
      ]

  pub height_ends : (i : ℕ) (s : Spot) → i < length block → IsAt set i s → s.cycle + height block i + 1 ≤ most
  height_ends i s within is = rises (length block) i s within (omega arith) is

  pub height_below : (i : ℕ) → i < length block → height block i + 1 ≤ most
  height_below i within =
      let s = spot_of (spot_at set i) (seated.complete i within) in
      let ends = height_ends i s.0 within s.1 in
      omega (arith, ends)
