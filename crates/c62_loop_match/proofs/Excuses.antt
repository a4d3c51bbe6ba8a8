-- Two that exclude each other or are apart, and the distance that is asked of them.
use Rattle.std.proofs.Common.{◌≡◌, ℕ, ◌-◌, ℤ, Bool, not, ◌&&◌, ◌||◌, List, Option, Some, None, refl, sym, ◌∙◌, ap}
use Rattle.std.proofs.Common.{subst}
use Rattle.std.specs.Prelude.{nat_lt, slice_get, option_map, MatchOption}
use Rattle.std.proofs.lemmas.Option.{same_Some}
use Rattle.c62_op.specs.declared.register.Cond.{Cond as Condition}
use Rattle.c62_insn.specs.declared.insn.Insn.{Insn}
use Rattle.c62_insn.specs.Insn.{cond_of}
use Rattle.c62_rules.specs.Dependence.{are_opposite, are_exclusive, are_apart, are_disjoint, exclusive_by, condition_in}
use Rattle.c62_rules.specs.Dependence.{disjoint_by, range_in}
use Rattle.c62_pair.specs.declared.uses.Uses.{Uses}
use Rattle.c62_pair.specs.declared.reg_set.RegSet.{RegSet}
use Rattle.c62_pair.specs.declared.covered.Covered.{Covered}
use Rattle.c62_pair.specs.Uses.{insns_in}
use Rattle.c62_pair.specs.Covered.{range_is}
use Rattle.c62_depend.specs.Latency.{latency_of}
use Rattle.c62_loop_match.specs.declared.path.Instance.{Instance}
use Rattle.c62_loop_match.specs.declared.early.Early.{Early}
use Rattle.c62_loop_match.specs.Distances.{exclusive_under, disjoint_under, IsKept, KeepsPair}
use Rattle.c62_loop_match.specs.Early.{IsEarlyBy, IsEarlyBehind}
use Rattle.c62_loop_match.proofs.Written.{AreWritten, written_are}

exclusive_same : (path : List Uses) (written : RegSet) (i j : ℕ) (a b : Option Condition) → AreWritten path written i j
    → exclusive_under written a b ≡ exclusive_by (insns_in path) i j a b
exclusive_same path written i j (Some one) (Some other) are = ap (λ t. are_opposite one other && not t)
    (written_are path written i j are one.reg)
exclusive_same path written i j (Some one) None are = refl
exclusive_same path written i j None b are = refl

disjoint_same : (path : List Uses) (written : RegSet) (i j : ℕ) (a b : Option Covered) → AreWritten path written i j
    → disjoint_under written a b ≡ disjoint_by (insns_in path) i j (option_map range_is a) (option_map range_is b)
disjoint_same path written i j (Some one) (Some other) are = ap
    (λ t. are_apart (range_is one) (range_is other) && not t) (written_are path written i j are one.base)
disjoint_same path written i j (Some one) None are = refl
disjoint_same path written i j None b are = refl

pub excuses : (path : List Uses) (written : RegSet) (i j : ℕ) (u v : Uses) → AreWritten path written i j
    → slice_get (insns_in path) i ≡ Some u.insn → slice_get (insns_in path) j ≡ Some v.insn
    → (exclusive_under written (cond_of u.insn) (cond_of v.insn) ≡ are_exclusive (insns_in path) i j)
    × (disjoint_under written u.covered v.covered ≡ are_disjoint (insns_in path) i j)
excuses path written i j u v are at_i at_j = (
  exclusive_same path written i j (cond_of u.insn) (cond_of v.insn) are
      ∙ ap (λ o. exclusive_by (insns_in path) i j (condition_in o) (cond_of v.insn)) (sym at_i)
      ∙ ap (λ o. exclusive_by (insns_in path) i j (condition_in (slice_get (insns_in path) i)) (condition_in o))
      (sym at_j),
  disjoint_same path written i j u.covered v.covered are
      ∙ ap (λ o. disjoint_by (insns_in path) i j o (option_map range_is v.covered)) u.covered_is
      ∙ ap (λ o. disjoint_by (insns_in path) i j (range_in (Some u.insn)) o) v.covered_is
      ∙ ap (λ o. disjoint_by (insns_in path) i j (range_in o) (range_in (Some v.insn))) (sym at_i)
      ∙ ap (λ o. disjoint_by (insns_in path) i j (range_in (slice_get (insns_in path) i)) (range_in o))
      (sym at_j),
)

-- the latency between two, as it is found of them
latency_same : (promised : Insn → Insn
    → Bool) (path : List Uses) (from to : ℕ) (written : RegSet) (i j : ℕ) (u v : Uses)
    → AreWritten path written i j → slice_get (insns_in path) i ≡ Some u.insn
    → slice_get (insns_in path) j ≡ Some v.insn
    → latency_of (exclusive_under written (cond_of u.insn) (cond_of v.insn))
    (disjoint_under written u.covered v.covered || (nat_lt from to && promised u.insn v.insn)) u.insn v.insn
    ≡ latency_of (are_exclusive (insns_in path) i j)
    (are_disjoint (insns_in path) i j || (nat_lt from to && promised u.insn v.insn)) u.insn v.insn
latency_same promised path from to written i j u v are at_i at_j =
    let told = excuses path written i j u v are at_i at_j in
    ap (λ x. latency_of x (disjoint_under written u.covered v.covered || (nat_lt from to && promised u.insn v.insn))
    u.insn v.insn) told.0
    ∙ ap (λ x. latency_of (are_exclusive (insns_in path) i j) (x || (nat_lt from to && promised u.insn v.insn)) u.insn
    v.insn) told.1

-- two that are as far apart are kept
pub pair_kept : (promised : Insn → Insn
    → Bool) (path : List Uses) (instances : List Instance) (from to i j : ℕ) (u v : Uses) (x y : Instance)
    → slice_get (insns_in path) i ≡ Some u.insn → slice_get (insns_in path) j ≡ Some v.insn
    → slice_get instances i ≡ Some x → slice_get instances j ≡ Some y
    → IsKept (latency_of (are_exclusive (insns_in path) i j)
    (are_disjoint (insns_in path) i j || (nat_lt from to && promised u.insn v.insn)) u.insn v.insn) x.cycle
    y.cycle
    → KeepsPair promised (insns_in path) instances from to i j
pair_kept promised path instances from to i j u v x y at_i at_j at_x at_y found p q a b is_p is_q is_a is_b =
    let one = subst (λ z. IsKept
    (latency_of (are_exclusive (insns_in path) i j)
    (are_disjoint (insns_in path) i j || (nat_lt from to && promised z v.insn)) z v.insn) x.cycle y.cycle)
    (same_Some u.insn p (sym at_i ∙ is_p)) found in
    let two = subst (λ z. IsKept
    (latency_of (are_exclusive (insns_in path) i j)
    (are_disjoint (insns_in path) i j || (nat_lt from to && promised p z)) p z) x.cycle y.cycle)
    (same_Some v.insn q (sym at_j ∙ is_q)) one in
    let three = subst (λ (z : Instance). IsKept
    (latency_of (are_exclusive (insns_in path) i j)
    (are_disjoint (insns_in path) i j || (nat_lt from to && promised p q)) p q) z.cycle y.cycle)
    (same_Some x a (sym at_x ∙ is_a)) two in
    subst (λ (z : Instance). IsKept
    (latency_of (are_exclusive (insns_in path) i j)
    (are_disjoint (insns_in path) i j || (nat_lt from to && promised p q)) p q) a.cycle z.cycle)
    (same_Some y b (sym at_y ∙ is_b)) three

-- what is told of two is told of both in the path
pub pair_told : (promised : Insn → Insn
    → Bool) (path : List Uses) (instances : List Instance) (from to : ℕ) (written : RegSet) (i j : ℕ) (u v : Uses)
    (x y : Instance) (needed : Option ℤ) (found : Option Early)
    → AreWritten path written i j → slice_get (insns_in path) i ≡ Some u.insn
    → slice_get (insns_in path) j ≡ Some v.insn → slice_get instances i ≡ Some x
    → slice_get instances j ≡ Some y
    → needed ≡ latency_of (exclusive_under written (cond_of u.insn) (cond_of v.insn))
    (disjoint_under written u.covered v.covered || (nat_lt from to && promised u.insn v.insn)) u.insn v.insn
    → MatchOption found (IsKept needed x.cycle y.cycle) (IsEarlyBy needed x y (to - from))
    → MatchOption found (KeepsPair promised (insns_in path) instances from to i j)
    (IsEarlyBehind promised (insns_in path) instances from to i j)
pair_told promised path instances from to written i j u v x y needed None are at_i at_j at_x at_y is found =
    pair_kept promised path instances from to i j u v x y at_i at_j at_x at_y
    (subst (λ o. IsKept o x.cycle y.cycle) (is
    ∙ latency_same promised path from to written i j u v are at_i at_j) found)
pair_told promised path instances from to written i j u v x y needed (Some early) are at_i at_j at_x at_y is found =
    record {
      p = u.insn;
      q = v.insn;
      is_p = at_i;
      is_q = at_j;
      first = x;
      second = y;
      is_first = at_x;
      is_second = at_y;
      by = subst (λ o. IsEarlyBy o x y (to - from) early) (is
          ∙ latency_same promised path from to written i j u v are at_i at_j) found;
    }
