-- The registers that instructions of a block write, one after the other.
use Rattle.c62_depend.proofs.Common.{◌≡◌, ℕ, suc, zero, ◌+◌, ◌-◌, ◌<◌, ◌≤◌, Bool, true, false, List, [], ◌∷◌, Option}
use Rattle.c62_depend.proofs.Common.{Some, None, refl, sym, ap, ◌∙◌, subst, arith, length, get_or}
use Rattle.c62_depend.proofs.Common.{◌||◌, list_any, Contains, slice_get, Reg, Insn, same_reg, same_reg-refl}
use Rattle.c62_depend.proofs.Common.{same_reg-is, register_writes, RegSet, reg_in, Uses, insns_in, both_ways, or_cases}
use Rattle.c62_depend.proofs.Common.{or_left, or_right}
use Rattle.c62_depend.proofs.Common.{false_from_ne_true, inl, inr}
use Rattle.c62_depend.proofs.Common.{not, ◌&&◌}
use Rattle.c62_op.specs.declared.register.Cond.{Cond as Condition}
use Rattle.c62_insn.specs.Insn.{cond_of}
use Rattle.c62_rules.specs.Dependence.{writes_in, is_written_by, Range, range_in, are_apart, disjoint_by, are_disjoint}
use Rattle.c62_rules.specs.Dependence.{are_opposite, condition_in, exclusive_by, are_exclusive}
use Rattle.std.specs.Prelude.{option_map, is_some}
use Rattle.c62_depend.proofs.Common.{nat_tests}
use Rattle.c62_depend.proofs.Bounds.{write_of, set_of, is_written}
use Rattle.c62_depend.proofs.Latencies.{insn_at}

pub some_write : (reg : Reg) (delay : ℕ) (writes : List (Reg × ℕ)) → Contains writes (reg, delay)
    → list_any (λ (write : Reg × ℕ). same_reg write.0 reg) writes ≡ true
some_write reg delay [] (k, l, e) = absurd (omega (arith, l))
some_write reg delay (w ∷ writes) (zero, l, e) =
    or_left (same_reg w.0 reg) _ (ap (λ (x : Reg × ℕ). same_reg x.0 reg) e ∙ same_reg-refl reg)
some_write reg delay (w ∷ writes) (suc k, l, e) = or_right (same_reg w.0 reg) _
    (some_write reg delay writes (k, omega (arith, l), e))

pub a_write : (reg : Reg) (writes : List (Reg × ℕ)) → list_any (λ (write : Reg × ℕ). same_reg write.0 reg) writes ≡ true
    → (delay : ℕ) × Contains writes (reg, delay)
a_write reg [] h = cc
a_write reg (w ∷ writes) h = elim
    (or_cases (same_reg w.0 reg) (list_any (λ (write : Reg × ℕ). same_reg write.0 reg) writes) h) [
      | inl first ↦ (let same : w.0 ≡ reg = same_reg-is w.0 reg first in
          (w.1, (0, omega arith, ap (λ (r : Reg). (r, w.1)) same)))
      | inr later ↦ (let found = a_write reg writes later in
          (found.0, (suc found.1.0, omega (arith, found.1.1), found.1.2)))
    ]

pub same_tests : (a b : Bool) → (a ≡ true → b ≡ true) → (b ≡ true → a ≡ true) → a ≡ b
same_tests true b to from = sym (to refl)
same_tests false b to from = sym (false_from_ne_true b (λ h. both_ways false refl (from h)))

-- the set of what an instruction writes
pub writes_are : (u : Uses) (reg : Reg) → reg_in u.written reg ≡ writes_in reg (Some u.insn)
writes_are u reg = same_tests (reg_in u.written reg) (writes_in reg (Some u.insn)) to from
  where
    to : reg_in u.written reg ≡ true → writes_in reg (Some u.insn) ≡ true
    to h = elim (or_cases (reg_in u.at_once reg) (reg_in u.results reg) (sym (u.written_are reg) ∙ h)) [
      | inl now ↦ some_write reg 0 (register_writes u.insn) (write_of u false reg now)
      | inr late ↦ some_write reg u.delay (register_writes u.insn) (write_of u true reg late)
    ]

    from : writes_in reg (Some u.insn) ≡ true → reg_in u.written reg ≡ true
    from h =
        let found = a_write reg (register_writes u.insn) h in
        let there = set_of u reg found.0 found.1 in
        is_written u there.0 reg there.2
