-- What keeps the bounds keeps the fifth packet rule.
use Rattle.std.proofs.Common.{◌≡◌, ℕ, ◌+◌, ◌<◌, ◌≤◌, ◌-ℤ◌, pos, List}
use Rattle.std.proofs.Common.{Some, refl, sym, ◌∙◌, ap, subst, ◌⊎◌, inl, inr, ⊎_elim, arith}
use Rattle.std.specs.Prelude.{◌↔◌, IsTrue}
use Rattle.std.specs.List.{list_any}
use Rattle.std.proofs.lemmas.Int.{ints}
use Rattle.std.proofs.lemmas.Bool.{cases_Bool, cases_lt, cases_eq, cases_order, or_right}
use Rattle.std.proofs.lemmas.Option.{same_Some}
use Rattle.c62_op.specs.declared.register.Reg.{Reg}
use Rattle.c62_op.specs.declared.register.Cond.{Cond as Condition}
use Rattle.c62_op.specs.Takes.{same_reg}
use Rattle.c62_op.proofs.Registers.{same_reg-refl}
use Rattle.c62_insn.specs.declared.insn.Insn.{Insn}
use Rattle.c62_insn.specs.Insn.{cond_of, operand_reads, is_condition_on, reads_register}
use Rattle.c62_rules.specs.PacketRules.{Issue, Issues, IsIssued, LandsIn, MayLandTogether, HasOneLanding}
use Rattle.c62_rules.specs.Exclusive.{are_exclusive, IsExclusive}
use Rattle.c62_rules.specs.Dependence.{KeepsBounds, ReadAfterWrite, WriteAfterRead, WriteAfterWrite}
use Rattle.c62_rules.proofs.Exclusive.{exclusive-is}

-- ---- the fifth packet rule

pub may-swapped : (issues : Issues) (p q : Issue) → MayLandTogether issues p q → MayLandTogether issues q p
may-swapped issues p q may = record {
  one = may.other;
  other = may.one;
  is_one = may.is_other;
  is_other = may.is_one;
  same = sym may.same;
  opposite = λ e. may.opposite (sym e);
  stays = λ k r t at lands.
      let both = may.stays k r t at (subst (λ (reg : Reg). LandsIn r reg t) (sym may.same) lands) in (both.1, both.0);
}

reads_condition : (insn : Insn) (test : Condition) (reg : Reg) → cond_of insn ≡ Some test → test.reg ≡ reg
    → IsTrue (reads_register insn reg)
reads_condition insn test reg is same =
    or_right (list_any (λ (read : Reg). same_reg read reg) (operand_reads insn)) (is_condition_on reg (cond_of insn))
    (ap (is_condition_on reg) is ∙ ap (λ (r : Reg). same_reg r reg) same ∙ same_reg-refl reg)

module _ (block : List Insn) (issues : Issues) (kept : KeepsBounds block issues) where
  -- a write lands before a later reader is issued
  lands_before : (k i : ℕ) (r p : Issue) (reg : Reg) (t : ℕ) → k < i → IsIssued issues k r → IsIssued issues i p
      → LandsIn r reg t → IsTrue (reads_register p.insn reg) → t < p.cycle
  lands_before k i r p reg t before at_k at_i (delay, writes, time) reads =
      let bound = kept.keeps k i (pos (delay + 1)) r p
      (record {
        first = r.insn;
        second = p.insn;
        is_first = kept.insns k r at_k;
        is_second = kept.insns i p at_i;
        before = before;
        applies = ReadAfterWrite reg delay writes reads refl;
      })
      at_k at_i in
      omega (arith, ints, bound, time)

  -- and not before an earlier one is
  lands_after : (i k : ℕ) (p r : Issue) (reg : Reg) (t : ℕ) → i < k → IsIssued issues i p → IsIssued issues k r
      → LandsIn r reg t → IsTrue (reads_register p.insn reg) → p.cycle ≤ t
  lands_after i k p r reg t before at_i at_k (delay, writes, time) reads =
      let bound = kept.keeps i k (pos 0 -ℤ pos delay) p r
      (record {
        first = p.insn;
        second = r.insn;
        is_first = kept.insns i p at_i;
        is_second = kept.insns k r at_k;
        before = before;
        applies = WriteAfterRead reg delay writes reads refl;
      })
      at_i at_k in
      omega (arith, ints, bound, time)

  excused : (i j : ℕ) (p q : Issue) → i < j → IsIssued issues i p → IsIssued issues j q
      → IsExclusive block i j p.insn q.insn → MayLandTogether issues p q
  excused i j p q before at_i at_j x = record {
    one = x.one;
    other = x.other;
    is_one = x.is_one;
    is_other = x.is_other;
    same = x.same;
    opposite = x.opposite;
    stays = λ k r t at_k lands. ⊎_elim {C = (p.cycle ≤ t) ↔ (q.cycle ≤ t)}
        (λ lt.
        let one : t < p.cycle = lands_before k i r p x.one.reg t lt at_k at_i lands first in
        let two : t < q.cycle = lands_before k j r q x.one.reg t (omega (arith, lt, before)) at_k at_j lands second in
        ((λ le. absurd (omega (arith, le, one))), (λ le. absurd (omega (arith, le, two)))))
        (λ ge. ⊎_elim {C = (p.cycle ≤ t) ↔ (q.cycle ≤ t)}
        (λ lt. absurd (x.unwritten k lands.0 r.insn ge lt (kept.insns k r at_k) lands.1))
        (λ late.
        let one : p.cycle ≤ t = lands_after i k p r x.one.reg t (omega (arith, late, before)) at_i at_k lands first in
        let two : q.cycle ≤ t = behind k r t at_k lands late in
        ((λ le. two), (λ le. one)))
        (cases_lt k j))
        (cases_lt k i);
  }
    where
      first : IsTrue (reads_register p.insn x.one.reg)
      first = reads_condition p.insn x.one x.one.reg x.is_one refl

      second : IsTrue (reads_register q.insn x.one.reg)
      second = reads_condition q.insn x.other x.one.reg x.is_other (sym x.same)

      -- also where q itself writes the register
      behind : (k : ℕ) (r : Issue) (t : ℕ) → IsIssued issues k r → LandsIn r x.one.reg t → j ≤ k → q.cycle ≤ t
      behind k r t at_k lands late = ⊎_elim {C = q.cycle ≤ t}
          (λ e.
          let there : IsIssued issues k q = subst (λ (n : ℕ). IsIssued issues n q) e at_j in
          let same : q ≡ r = same_Some q r (sym there ∙ at_k) in
          let cycle : q.cycle ≡ r.cycle = ap (λ (z : Issue). z.cycle) same in
          omega (arith, cycle, lands.2))
          (λ ne. lands_after j k q r x.one.reg t (omega (arith, ne, late)) at_j at_k lands second)
          (cases_eq j k)

  in_order : (i j : ℕ) (p q : Issue) (reg : Reg) (cycle : ℕ) → i < j → IsIssued issues i p → IsIssued issues j q
      → LandsIn p reg cycle → LandsIn q reg cycle
      → MayLandTogether issues p q
  in_order i j p q reg cycle before at_i at_j mine theirs = ⊎_elim {C = MayLandTogether issues p q}
      (λ yes. excused i j p q before at_i at_j
      (exclusive-is block i j p.insn q.insn before (kept.insns i p at_i) (kept.insns j q at_j) yes))
      (λ no.
      let bound = kept.keeps i j (pos (mine.0 + 1) -ℤ pos theirs.0) p q
      (record {
        first = p.insn;
        second = q.insn;
        is_first = kept.insns i p at_i;
        is_second = kept.insns j q at_j;
        before = before;
        applies = WriteAfterWrite reg mine.0 theirs.0 mine.1 theirs.1 no refl;
      })
      at_i at_j in
      absurd (omega (arith, ints, bound, mine.2, theirs.2)))
      (cases_Bool (are_exclusive block i j))

  -- what keeps the bounds keeps the fifth rule
  pub one_landing : HasOneLanding issues
  one_landing i j p q reg cycle at_i at_j mine theirs = ⊎_elim {C = (i ≡ j) ⊎ MayLandTogether issues p q}
      (λ e. inl e)
      (λ o. inr (⊎_elim {C = MayLandTogether issues p q}
      (λ lt. in_order i j p q reg cycle lt at_i at_j mine theirs)
      (λ gt. may-swapped issues q p (in_order j i q p reg cycle gt at_j at_i theirs mine))
      o))
      (cases_order i j)
