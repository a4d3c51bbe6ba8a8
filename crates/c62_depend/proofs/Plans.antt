-- What always holds of a plan.
use Rattle.c62_depend.proofs.Common.{◌≡◌, ℕ, zero, suc, ◌+◌, ◌*◌, ◌-◌, ◌<◌, ◌≤◌, ℤ, true, not, List, [], ◌∷◌, length}
use Rattle.c62_depend.proofs.Common.{map, Option, Some, None, refl}
use Rattle.c62_depend.proofs.Common.{sym, ap, ◌∙◌, subst, arith, inl, inr, ◌⊎◌, slice_get, nat_le, IsTrue, pos, ◌-ℤ◌}
use Rattle.c62_depend.proofs.Common.{and_parts, leb-true, ints}
use Rattle.c62_depend.proofs.Common.{nat_tests, length-map, none-some, slice_get_within, slice_get_cases, Side}
use Rattle.c62_depend.proofs.Common.{FunctionalUnit, Op, Operands, Insn}
use Rattle.c62_depend.proofs.Common.{takes, side_of, is_branch, op_of, operands_of, unit_of, IsLatency, IsGreatestBound}
use Rattle.c62_depend.proofs.Common.{same_side-is, same_side-refl}
use Rattle.c62_depend.proofs.Common.{same_unit-refl, branch_last, operations, is_block, latency, as_bound, height}
use Rattle.c62_depend.proofs.Common.{branch_side, side_or, side_in}
use Rattle.c62_depend.proofs.Common.{suits, side_at, suits_at, side, stands_on, IsShort, IsPlan, unnumbered}
use Rattle.std.proofs.lemmas.Simd.{map-map}
use Rattle.c62_op.specs.declared.register.Letter.{Letter}
use Rattle.c62_insn.proofs.InsnLemmas.{has_written_unit}
use Rattle.c62_op.proofs.SideLemmas.{takes_on_side}
use Rattle.c62_read.specs.declared.block.SerialInsn.{SerialInsn}
use Rattle.c62_depend.proofs.Latencies.{latency-is, bounds-small}
use Rattle.c62_depend.proofs.Heights.{height-small}
use Rattle.c62_depend.proofs.Numbers.{some_number}
use Rattle.c62_read.specs.declared.limits.TheConstants.{MOST_INSTRUCTIONS}

pub short_is : (block : List Insn) (i j : ℕ) (cycles : ℤ) → latency block i j ≡ Some cycles → IsShort block i j cycles
short_is block i j cycles e =
    let bound : IsGreatestBound block i j cycles = subst (IsLatency block i j) e (latency-is block i j) in
    let small = bounds-small block i j cycles bound.applies in
    let at = bound.applies in
    record {
      before = at.before;
      within = slice_get_within block j at.second at.is_second;
      least = small.0;
      most =
          small.1;
    }

-- a latency as a number is small
pub number_small : (block : List Insn) (i j n : ℕ) → as_bound n ≡ latency block i j → n ≤ 11
number_small block i j zero e = omega arith
number_small block i j (suc n) e =
    omega (arith, ints, (short_is block i j (pos (suc n) -ℤ pos 6) (sym e ∙ some_number (suc n) (omega arith))).most)

-- ---- units

-- where the operands decide for no side, an operation is taken on both sides alike
takes_alike : (op : Op) (operands : Operands) (letter : Letter) (s t : Side) → side_of operands ≡ None
    → takes op operands (record { letter = letter; side = s }) ≡ takes op operands
    (record { letter = letter; side = t })
takes_alike op operands letter s t none = grind (arith, nat_tests)

-- some unit suits an instruction: the one that takes it, on the side of the instruction
some_suits : (block : List Insn) (p : Insn) → (unit : FunctionalUnit) × (suits block p unit ≡ true)
some_suits block p = let found = has_written_unit p in
    (there found.0.letter, suits_there (side_of (operands_of p)) refl found.0 found.1 found.2)
  where
    there : Letter → FunctionalUnit
    there letter = record { letter = letter; side = side_in block p }

    suits_on : (u : FunctionalUnit) → u.side ≡ side_in block p → takes (op_of p) (operands_of p) u ≡ true
        → (unit_of p ≡ None) ⊎ (unit_of p ≡ Some u)
        → suits block p (there u.letter) ≡ true
    suits_on u lies taken written = rw (← lies) (grind (arith, nat_tests, same_side-refl, same_unit-refl))

    suits_there : (o : Option Side) → side_of (operands_of p) ≡ o → (u : FunctionalUnit)
        → takes (op_of p) (operands_of p) u ≡ true
        → (unit_of p ≡ None) ⊎ (unit_of p ≡ Some u) → suits block p (there u.letter) ≡ true
    suits_there (Some s) e u taken written =
        suits_on u (takes_on_side (op_of p) (operands_of p) u s e taken
        ∙ sym (ap (side_or (branch_side block (unit_of p))) e)) taken written
    suits_there None e u taken (inl none) =
        suits_on (there u.letter) refl (takes_alike (op_of p) (operands_of p) u.letter (side_in block p) u.side e
        ∙ taken) (inl none)
    suits_there None e u taken (inr one) =
        suits_on u (sym (ap (side_or (branch_side block (unit_of p))) e ∙ ap (branch_side block) one)) taken (inr one)

stands_is : (block : List Insn) (i : ℕ) → i < length block → (unit : FunctionalUnit) × IsTrue (stands_on block i unit)
unfolding stands_on
stands_is block i within = elim (slice_get_cases block i).1 [
  | inl found ↦
      let some = some_suits block found.0 in
      (some.0, rw found.2 some.1)
  | inr past ↦ absurd (omega (arith, past.0))
]

on_side_is : (block : List Insn) (i : ℕ) (unit : FunctionalUnit) → IsTrue (stands_on block i unit)
    → unit.side ≡ side block i
unfolding stands_on side
on_side_is block i unit h = by_insn (slice_get block i) h
  where
    by_insn : (o : Option Insn) → suits_at block o unit ≡ true → unit.side ≡ side_at block o
    by_insn None h = cc
    by_insn (Some p) h = same_side-is unit.side (side_in block p) (and_parts _ _ h).0

abbrev pub IsBranchLast : List Insn → Type 0
IsBranchLast block = (i : ℕ) (insn : Insn) → slice_get block i ≡ Some insn → IsTrue (is_branch (op_of insn))
    → i + 1 ≡ length block

branch-last : (block : List Insn) → branch_last (map op_of block) ≡ true → IsBranchLast block
branch-last [] h i insn at is = absurd (none-some insn at)
branch-last (p ∷ []) h zero insn at is = refl
branch-last (p ∷ []) h (suc i) insn at is = absurd (none-some insn at)
branch-last (p ∷ next ∷ rest) h zero insn at is = grind (arith, nat_tests)
branch-last (p ∷ next ∷ rest) h (suc i) insn at is =
    omega (arith, branch-last (next ∷ rest) (and_parts (not (is_branch (op_of p))) _ h).1 i insn at is)

pub plan_is : (block : List Insn) → length block ≤ MOST_INSTRUCTIONS → IsBranchLast block → IsPlan block
plan_is block few branch = record {
  few = few;
  branch = branch;
  short = short_is block;
  low = λ i within. (let small : height block i ≤ 5 * (length block - i) = height-small block i within in omega arith);
  stands = stands_is block;
  on_side = on_side_is block;
}

pub many_insns : (entries : List SerialInsn) → length (unnumbered entries) ≡ length entries
many_insns entries = length-map entries (λ (entry : SerialInsn). entry.insn)

pub few_insns : (entries : List SerialInsn) → IsTrue (is_block entries)
    → length (unnumbered entries) ≤ MOST_INSTRUCTIONS
few_insns entries sound =
    let parts = and_parts (nat_le (length entries) MOST_INSTRUCTIONS) (branch_last (operations entries)) sound in
    omega (arith, leb-true (length entries) MOST_INSTRUCTIONS parts.0, many_insns entries)

ops_of : (entries : List SerialInsn) → map op_of (unnumbered entries) ≡ operations entries
ops_of entries = map-map op_of (λ (entry : SerialInsn). entry.insn) entries

pub last_branch : (entries : List SerialInsn) → IsTrue (is_block entries) → IsBranchLast (unnumbered entries)
last_branch entries sound =
    let parts = and_parts (nat_le (length entries) MOST_INSTRUCTIONS) (branch_last (operations entries)) sound in
    branch-last (unnumbered entries) (ap branch_last (ops_of entries) ∙ parts.1)
