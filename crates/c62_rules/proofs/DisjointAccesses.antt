-- When the test says that two accesses are disjoint.
use Rattle.std.proofs.Common.{◌≡◌, ℕ, ◌+◌, ◌-◌, ◌<◌, ◌≤◌, true, false, not, List, Option, Some, None, refl, sym, ap}
use Rattle.std.proofs.Common.{subst, ◌⊎◌, inl, inr, ⊎_elim, arith}
use Rattle.std.specs.Prelude.{◌||◌, nat_le, slice_get}
use Rattle.std.proofs.lemmas.Bool.{and_parts, or_cases, or_left, or_right, leb-true, le-leb, false≢true}
use Rattle.c62_op.specs.declared.register.Reg.{Reg}
use Rattle.c62_op.specs.Takes.{same_reg}
use Rattle.c62_op.proofs.Registers.{same_reg-is, same_reg-refl}
use Rattle.c62_insn.specs.declared.insn.Insn.{Insn}
use Rattle.c62_insn.specs.Insn.{op_of, operands_of}
use Rattle.c62_rules.specs.Exclusive.{is_written_by, IsUnwritten}
use Rattle.c62_rules.specs.Disjoint.{Range, range_of, range_in, are_apart, disjoint_by, are_disjoint, IsDisjoint}
use Rattle.c62_rules.specs.Disjoint.{DisjointIsTold}
use Rattle.c62_rules.proofs.Exclusive.{none_of, none_written, unwritten_by, both_true}

-- ---- disjoint accesses

pub disjoint-is : (block : List Insn) (i j : ℕ) (p q : Insn) → i < j → slice_get block i ≡ Some p
    → slice_get block j ≡ Some q → are_disjoint block i j ≡ true
    → IsDisjoint block i j p q
disjoint-is block i j p q before at_i at_j h =
    by_ranges (range_of (op_of p) (operands_of p)) (range_of (op_of q) (operands_of q)) refl refl
    (subst (λ (o : Option Insn). disjoint_by block i j (range_of (op_of p) (operands_of p)) (range_in o) ≡ true) at_j
    (subst (λ (o : Option Insn). disjoint_by block i j (range_in o) (range_in (slice_get block j)) ≡ true) at_i h))
  where
    by_ranges : (a b : Option Range) → range_of (op_of p) (operands_of p) ≡ a → range_of (op_of q) (operands_of q) ≡ b
        → disjoint_by block i j a b ≡ true
        → IsDisjoint block i j p q
    by_ranges None b e f h = absurd (false≢true h)
    by_ranges (Some one) None e f h = absurd (false≢true h)
    by_ranges (Some one) (Some other) e f h =
        let parts = and_parts (are_apart one other) (not (is_written_by block i (j - i) one.base)) h in
        let tests = and_parts (same_reg one.base other.base)
        (nat_le (one.begin + one.size) other.begin || nat_le (other.begin + other.size) one.begin) parts.0 in
        record {
          one = one;
          other = other;
          is_one = e;
          is_other = f;
          same = same_reg-is one.base other.base tests.0;
          apart = ⊎_elim {C = (one.begin + one.size ≤ other.begin) ⊎ (other.begin + other.size ≤ one.begin)}
              (λ l. inl (leb-true (one.begin + one.size) other.begin l))
              (λ r. inr (leb-true (other.begin + other.size) one.begin r))
              (or_cases (nat_le (one.begin + one.size) other.begin) (nat_le (other.begin + other.size) one.begin)
              tests.1);
          unwritten = λ k delay insn low high at writes.
              unwritten_by block i (j - i) one.base (none_of (is_written_by block i (j - i) one.base) parts.1) k delay
              insn low (omega (arith, high, before)) at writes;
        }

-- one side of two ranges, as the test has it
pub side_true : (b c m n : ℕ) → (b + m ≤ c) ⊎ (c + n ≤ b) → (nat_le (b + m) c || nat_le (c + n) b) ≡ true
side_true b c m n (inl le) = or_left (nat_le (b + m) c) (nat_le (c + n) b) (le-leb (b + m) c le)
side_true b c m n (inr le) = or_right (nat_le (b + m) c) (nat_le (c + n) b) (le-leb (c + n) b le)

-- what are_disjoint tells
pub disjoint-told : (block : List Insn) (i j : ℕ) (p q : Insn) → DisjointIsTold block i j p q
disjoint-told block i j p q before at_i at_j = (disjoint-is block i j p q before at_i at_j, from)
  where
    from : IsDisjoint block i j p q → are_disjoint block i j ≡ true
    from x =
        let same : same_reg x.one.base x.other.base ≡ true = subst (λ (r : Reg). same_reg x.one.base r ≡ true) x.same
        (same_reg-refl x.one.base) in
        let apart : are_apart x.one x.other ≡ true = both_true same
        (side_true x.one.begin x.other.begin x.one.size x.other.size x.apart) in
        let count : j ≡ i + (j - i) = omega (arith, before) in
        let free : is_written_by block i (j - i) x.one.base ≡ false
        = none_written block i (j - i) x.one.base
        (subst (λ (n : ℕ). IsUnwritten block i n x.one.base) count x.unwritten) in
        let told : disjoint_by block i j (Some x.one) (Some x.other) ≡ true = both_true apart (ap not free) in
        subst (λ (o : Option Insn). disjoint_by block i j (range_in o) (range_in (slice_get block j)) ≡ true) (sym at_i)
        (subst (λ (o : Option Insn). disjoint_by block i j (range_in (Some p)) (range_in o) ≡ true) (sym at_j)
        (subst (λ (r : Option Range). disjoint_by block i j r (range_in (Some q)) ≡ true) (sym x.is_one)
        (subst (λ (r : Option Range). disjoint_by block i j (Some x.one) r ≡ true) (sym x.is_other) told)))
