-- A way of dependences that closes is a circle, and asks for as many cycles as its sums say.
use Rattle.std.proofs.Common.{arith, ◌≡◌, ℕ, ◌+◌, ◌<◌, pos, ◌+ℤ◌, Bool, List, ◌∷◌, refl, sym, ap, ◌∙◌, subst, inr}
use Rattle.std.specs.Prelude.{All}
use Rattle.std.specs.Int.{div_ceil}
use Rattle.std.proofs.lemmas.List.Sums.{sum_by-cons}
use Rattle.c62_op.specs.declared.register.Reg.{Reg}
use Rattle.c62_insn.specs.declared.insn.Insn.{Insn}
use Rattle.c62_loop_bound.specs.declared.dependence.Dependence.{Dependence}
use Rattle.c62_loop_bound.specs.declared.circle.Sums.{Sums}
use Rattle.c62_loop_bound.specs.Share.{AreCovered}
use Rattle.c62_loop_bound.specs.Circle.{IsDependence, Leads, iterations}
use Rattle.c62_loop_bound.specs.Least.{IsByCircle, IsAsked}
use Rattle.c62_loop_bound.specs.Steps.{IsSum}

-- ---- sums

-- with one dependence more a way comes to that much more
pub one_longer : (one : Dependence) (way : List Dependence) (rest sums : Sums) → IsSum way one.from rest
    → sums.from ≡ rest.from → sums.cycles ≡ rest.cycles +ℤ one.latency
    → sums.iterations ≡ rest.iterations + one.apart → IsSum (one ∷ way) one.to sums
one_longer one way rest sums is from cycles passed =
    let more : iterations (one ∷ way) ≡ one.apart + iterations way = sum_by-cons (λ (d : Dependence). d.apart) one way
    in
    let old : rest.iterations ≡ iterations way = is.passed in
    record {
      leads = (refl, subst (λ n. Leads n way one.from) (sym from) is.leads);
      cycles = cycles ∙ ap (λ z. z +ℤ one.latency) is.cycles;
      passed = omega (arith, more, old, passed);
    }

-- a closed way asks for as many cycles
pub by_circle : (promised : Insn → Insn → Bool) (body : List Insn) (circle : List Dependence) (to : ℕ) (sums : Sums)
    (cycles : ℕ) → IsSum circle to sums → sums.from ≡ to → All (IsDependence promised body) circle
    → (0 < sums.iterations) × ((sum : ℕ) × (sums.cycles ≡ pos sum) × (cycles ≡ div_ceil sum sums.iterations))
    → IsByCircle promised body cycles
by_circle promised body circle to sums cycles is same each share = record {
  circle = circle;
  closed = record { each = each; number = to; closed = subst (λ n. Leads n circle to) same is.leads };
  some = subst (λ n. 0 < n) is.passed share.0;
  sum = share.1.0;
  sum_is = sym is.cycles ∙ share.1.1;
  is = share.1.2 ∙ ap (λ n. div_ceil share.1.0 n) is.passed;
}

-- ---- the most

-- where shares ask for no more than so many cycles, they ask for no more than for more
pub covered_more : (counter : Reg) (body : List Insn) (least more : ℕ) → least < more → AreCovered counter body least
    → AreCovered counter body more
covered_more counter body least more above covered = record {
  units = λ set few some. omega (arith, above, covered.units set few some);
  cross_paths = λ side. omega (arith, above, covered.cross_paths side);
  data_paths = λ side. omega (arith, above, covered.data_paths side);
  reads = λ reg. omega (arith, above, covered.reads reg);
}

-- where a circle asks for more, that is asked
pub asked_more : (promised : Insn → Insn → Bool) (counter : Reg) (body : List Insn) (least more : ℕ)
    → IsAsked promised counter body least → (least < more) × IsByCircle promised body more
    → IsAsked promised counter body more
asked_more promised counter body least more asked by = record {
  shares = covered_more counter body least more by.0 asked.shares;
  attained = λ some. inr by.1;
}
