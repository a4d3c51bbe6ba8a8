-- Which instructions meet another openly at a register.
use Rattle.c62_depend.proofs.Common.{◌≡◌, ℕ, ◌<◌, Bool, true, false, List, Option, Some, None, refl, sym, ap, ◌∙◌, inl}
use Rattle.c62_depend.proofs.Common.{inr, ◌&&◌, ◌||◌, not, nat_lt, get_or, length, slice_get, Reg, Insn, Uses, reg_in}
use Rattle.c62_depend.proofs.Common.{insns_in, or_cases, or_left, or_right, and_parts, lt-ltb, ltb-true, is_some}
use Rattle.c62_depend.proofs.Common.{register_writes, reads_register}
use Rattle.std.specs.Prelude.{is_none}
use Rattle.c62_op.specs.declared.register.Cond.{Cond as Condition}
use Rattle.std.proofs.lemmas.List.Folds.{list_any_at, Any-from_list_any}
use Rattle.c62_rules.specs.Dependence.{writes_in}
use Rattle.c62_depend.specs.Direct.{is_open, uses_register, meet_in, meet_openly}
use Rattle.c62_depend.specs.Open.{uses_in, is_openly, IsOpenAt, AreOpenly, at_register}
use Rattle.c62_depend.specs.declared.register_users.RegisterUsers.{RegisterUsers}
use Rattle.c62_depend.proofs.Latencies.{insn_at}
use Rattle.c62_depend.proofs.WrittenLemmas.{writes_are, same_tests, a_write, some_write}
use Rattle.c62_depend.specs.declared.number_set.NumberSet.{NumberSet}
use Rattle.c62_depend.specs.NumberSet.{number_in}

-- ---- those that meet an instruction openly

pub openly_meet : (uses : List Uses) (j : ℕ) (q : Uses) (known : RegisterUsers) (first second all : NumberSet)
    → j < length uses → q ≡ get_or uses j q
    → IsOpenAt uses j known
    → ((k : ℕ) → number_in first k ≡ true → (reg : Reg) × (reg_in q.used reg ≡ true)
    × (number_in (at_register known.writers reg) k ≡ true))
    → ((k : ℕ) → ((reg : Reg) × (reg_in q.used reg ≡ true) × (number_in (at_register known.writers reg) k ≡ true))
    → number_in first k ≡ true)
    → ((k : ℕ) → number_in second k ≡ true → (reg : Reg) × (reg_in q.written reg ≡ true)
    × (number_in (at_register known.users reg) k ≡ true))
    → ((k : ℕ) → ((reg : Reg) × (reg_in q.written reg ≡ true) × (number_in (at_register known.users reg) k ≡ true))
    → number_in second k ≡ true)
    → ((k : ℕ) → number_in all k ≡ (number_in first k || number_in second k)) → AreOpenly uses j all
openly_meet uses j q known first second all within at are from_first to_first from_second to_second joined k =
    same_tests (number_in all k) (nat_lt k j && meet_openly block k j (slice_get block k) (slice_get block j))
    (λ h. joins (sym (joined k) ∙ h)) apart
  where
    block : List Insn
    block = insns_in uses

    here : slice_get block j ≡ Some q.insn
    here = insn_at uses j q within at

    -- a register that p uses so, and q
    meets : (p : Insn) (reg : Reg) → slice_get block k ≡ Some p → k < j → is_open block k j reg ≡ true
        → ((writes_in reg (Some p) && uses_register q.insn reg) || (uses_register p reg && writes_in reg (Some q.insn)))
        ≡ true
        → (nat_lt k j && meet_openly block k j (slice_get block k) (slice_get block j)) ≡ true
    meets p reg at_k before opened h = rw (at_k, here, lt-ltb k j before) (elim (or_cases _ _ h) [
      | inl writes ↦
          let parts = and_parts (writes_in reg (Some p)) (uses_register q.insn reg) writes in
          let w = a_write reg (register_writes p) parts.0 in
          or_left _ _ (list_any_at (λ (write : Reg × ℕ). is_open block k j write.0 && uses_register q.insn write.0)
          (register_writes p)
          w.1.0 (reg, w.0) w.1.1 (rw (w.1.2, opened, parts.1) refl))
      | inr uses_it ↦
          let parts = and_parts (uses_register p reg) (writes_in reg (Some q.insn)) uses_it in
          let w = a_write reg (register_writes q.insn) parts.1 in
          elim (or_cases (reads_register p reg) (writes_in reg (Some p)) parts.0) [
            | inl reads ↦
                or_right _ _ (list_any_at (λ (write : Reg × ℕ). is_open block k j write.0 && reads_register p write.0)
                (register_writes q.insn)
                w.1.0 (reg, w.0) w.1.1 (rw (w.1.2, opened, reads) refl))
            | inr writes ↦
                let v = a_write reg (register_writes p) writes in
                or_left _ _ (list_any_at (λ (write : Reg
                × ℕ). is_open block k j write.0 && uses_register q.insn write.0) (register_writes p)
                v.1.0 (reg, v.0) v.1.1 (rw (v.1.2, opened, or_right (reads_register q.insn reg) _ parts.1) refl))
          ]
    ])

    -- number k is at a register
    at_k : (so : Reg → Option Insn → Bool) (reg : Reg) → is_openly so block j reg k ≡ true
        → ((o : Option Insn) → so reg o ≡ true → is_some o ≡ true)
        → (k < j) × ((p : Insn) × (slice_get block k ≡ Some p) × (so reg (Some p) ≡ true))
        × (is_open block k j reg ≡ true)
    at_k so reg h some =
        let parts = and_parts (nat_lt k j) (so reg (slice_get block k) && is_open block k j reg) h in
        let rest = and_parts (so reg (slice_get block k)) (is_open block k j reg) parts.1 in
        (ltb-true k j parts.0, by_insn (slice_get block k) refl rest.0, rest.1)
      where
        by_insn : (o : Option Insn) → slice_get block k ≡ o → so reg o ≡ true → (p : Insn)
            × (slice_get block k ≡ Some p) × (so reg (Some p) ≡ true)
        by_insn None e is = (let clash : false ≡ true = some None is in cc)
        by_insn (Some p) e is = (p, e, is)

    written_some : (reg : Reg) (o : Option Insn) → writes_in reg o ≡ true → is_some o ≡ true
    written_some reg None h = h
    written_some reg (Some p) h = refl

    used_some : (reg : Reg) (o : Option Insn) → uses_in reg o ≡ true → is_some o ≡ true
    used_some reg None h = h
    used_some reg (Some p) h = refl

    used_is : (reg : Reg) → reg_in q.used reg ≡ uses_register q.insn reg
    used_is reg = q.used_are reg ∙ rw (q.reads_are reg, writes_are q reg) refl

    joins : (number_in first k || number_in second k) ≡ true
        → (nat_lt k j && meet_openly block k j (slice_get block k) (slice_get block j)) ≡ true
    joins h = elim (or_cases (number_in first k) (number_in second k) h) [
      | inl one ↦
          let w = from_first k one in
          let m = at_k writes_in w.0 (sym (are.writers w.0 k) ∙ w.2) (written_some w.0) in
          meets m.1.0 w.0 m.1.1 m.0 m.2 (or_left _ _ (both_true m.1.2 (sym (used_is w.0) ∙ w.1)))
      | inr other ↦
          let w = from_second k other in
          let m = at_k uses_in w.0 (sym (are.users w.0 k) ∙ w.2) (used_some w.0) in
          meets m.1.0 w.0 m.1.1 m.0 m.2 (or_right _ _ (both_true m.1.2 (sym (writes_are q w.0) ∙ w.1)))
    ]
      where
        both_true : {a b : Bool} → a ≡ true → b ≡ true → (a && b) ≡ true
        both_true one other = rw (one, other) refl

    apart : (nat_lt k j && meet_openly block k j (slice_get block k) (slice_get block j)) ≡ true
        → number_in all k ≡ true
    apart h =
        let parts = and_parts (nat_lt k j) (meet_openly block k j (slice_get block k) (slice_get block j)) h in
        by_insn (slice_get block k) refl (ltb-true k j parts.0)
        (ap (meet_openly block k j (slice_get block k)) (sym here) ∙ parts.1)
      where
        by_insn : (o : Option Insn) → slice_get block k ≡ o → k < j
            → meet_openly block k j (slice_get block k) (Some q.insn) ≡ true
            → number_in all k ≡ true
        by_insn None e before is =
            (let clash : false ≡ true = ap (λ (x : Option Insn). meet_openly block k j x (Some q.insn)) (sym e)
            ∙ is in cc)
        by_insn (Some p) e before is =
            let met : meet_in (is_open block k j) p q.insn ≡ true = ap
            (λ (x : Option Insn). meet_openly block k j x (Some q.insn)) (sym e) ∙ is in
            joined k ∙ elim (or_cases _ _ met) [
              | inl writes ↦
                  let w = Any-from_list_any (λ (write : Reg
                  × ℕ). is_open block k j write.0 && uses_register q.insn write.0) (register_writes p) writes in
                  let tests = and_parts (is_open block k j w.1.0) (uses_register q.insn w.1.0) w.4 in
                  let it = some_write w.1.0 w.1.1 (register_writes p) (w.0, w.2, w.3) in
                  or_left (number_in first k) (number_in second k)
                  (to_first k (
                    w.1.0,
                    used_is w.1.0 ∙ tests.1,
                    are.writers w.1.0 k
                        ∙ rw (lt-ltb k j before, e, it, tests.0) refl,
                  ))
              | inr reads ↦
                  let w = Any-from_list_any (λ (write : Reg × ℕ). is_open block k j write.0 && reads_register p write.0)
                  (register_writes q.insn) reads in
                  let tests = and_parts (is_open block k j w.1.0) (reads_register p w.1.0) w.4 in
                  let it = some_write w.1.0 w.1.1 (register_writes q.insn) (w.0, w.2, w.3) in
                  or_right (number_in first k) (number_in second k)
                  (to_second k (
                    w.1.0,
                    writes_are q w.1.0 ∙ it,
                    are.users w.1.0 k
                        ∙ rw (
                          lt-ltb k j before,
                          e,
                          or_left (reads_register p w.1.0) (writes_in w.1.0 (Some p)) tests.1,
                          tests.0,
                        ) refl,
                  ))
            ]

-- whether an instruction has no condition
pub none_told : (o r : Option Condition) (t : Bool) → r ≡ o → is_some r ≡ not t → t ≡ is_none o
none_told o r t same e = rw (← same) (of_option r t e)
  where
    of_option : (r : Option Condition) (t : Bool) → is_some r ≡ not t → t ≡ is_none r
    of_option None true e = refl
    of_option None false e = cc
    of_option (Some cond) true e = cc
    of_option (Some cond) false e = refl
