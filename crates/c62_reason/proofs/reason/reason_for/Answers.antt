use Rattle.std.proofs.Common.{rules, arith, ◌≡◌, ℕ, ℤ, w32, FitsSigned, to_z, of_z, List, subst}
use Rattle.std.proofs.lemmas.Int.{to_z-of_z}
use Rattle.std.specs.Prelude.{All}
use Rattle.c62_op.specs.declared.register.Reg.{Reg}
use Rattle.c62_insn.specs.Insn.{register_writes}
use Rattle.c62_depend.specs.Plan.{insns_of}
use Rattle.c62_reason.specs.Reason.{IsRead, IsSpared, IsOverwritten}
use Rattle.c62_reason.proofs.AskingReasons.{HasWrite, none_read, none_spared, none_both, asks_read, asks_spared}
use Rattle.c62_reason.proofs.AskingReasons.{both_write, read_reason, overwritten_reason, written_reason, order_reason}
use Rattle.c62_reason.proofs.reason.reason_for.Goals as goal

pub insn-first-requires : goal.insn-first-requires
insn-first-requires c =
    let short = c.len-all.ensures.sound.short c.args.first c.args.second c.args.cycles c.requires.latency in
    let before = short.before in
    let within = c.requires.within in
    omega (arith, before, within)

pub returns-in-Some : goal.returns-in-Some
returns-in-Some c =
    let block = insns_of c.args.plan.now in
    let p = c.insn-first.result in
    let q = c.insn-second.result in
    let fits : FitsSigned w32 c.args.cycles = search rules in
    let same : to_z w32 (of_z w32 c.args.cycles) ≡ c.args.cycles = to_z-of_z w32 c.args.cycles fits in
    let writes : c.as_slice.result.now ≡ register_writes p = search rules in
    read_reason block c.args.first c.args.second p q c.args.cycles c.insn-first.ensures c.insn-second.ensures
    c.in-Some.reg
    (asks_read block c.args.first c.args.second p q c.args.cycles c.in-Some.reg
    (subst (λ (ws : List (Reg × ℕ)). HasWrite (IsRead q c.args.cycles) ws c.in-Some.reg) writes
    (subst (λ (z : ℤ). HasWrite (IsRead q z) c.as_slice.result.now c.in-Some.reg) same c.in-Some.ensures)))

pub returns-in-Some-first_spared : goal.returns-in-Some-first_spared
returns-in-Some-first_spared c =
    let block = insns_of c.args.plan.now in
    let p = c.insn-first.result in
    let q = c.insn-second.result in
    let fits : FitsSigned w32 c.args.cycles = search rules in
    let same : to_z w32 (of_z w32 c.args.cycles) ≡ c.args.cycles = to_z-of_z w32 c.args.cycles fits in
    let writes : c.as_slice.result.now ≡ register_writes p = search rules in
    let others : c.as_slice-2.result.now ≡ register_writes q = search rules in
    overwritten_reason block c.args.first c.args.second p q c.args.cycles c.insn-first.ensures c.insn-second.ensures
    c.in-Some-first_spared.reg
    (none_read block c.args.first c.args.second p q c.args.cycles
    (subst (λ (ws : List (Reg × ℕ)). All (λ write. IsRead q c.args.cycles write → ⊥) ws) writes
    (subst (λ (z : ℤ). All (λ write. IsRead q z write → ⊥) c.as_slice.result.now) same c.in_default.ensures)))
    (asks_spared block c.args.first c.args.second p q c.args.cycles c.in-Some-first_spared.reg
    (subst (λ (ws : List (Reg × ℕ)). HasWrite (IsSpared p c.args.cycles) ws c.in-Some-first_spared.reg) others
    (subst (λ (z : ℤ). HasWrite (IsSpared p z) c.as_slice-2.result.now c.in-Some-first_spared.reg) same
    c.in-Some-first_spared.ensures)))

pub returns-in-Some-first_overwritten : goal.returns-in-Some-first_overwritten
returns-in-Some-first_overwritten c =
    let block = insns_of c.args.plan.now in
    let p = c.insn-first.result in
    let q = c.insn-second.result in
    let fits : FitsSigned w32 c.args.cycles = search rules in
    let same : to_z w32 (of_z w32 c.args.cycles) ≡ c.args.cycles = to_z-of_z w32 c.args.cycles fits in
    let writes : c.as_slice.result.now ≡ register_writes p = search rules in
    let others : c.as_slice-2.result.now ≡ register_writes q = search rules in
    let again : c.as_slice-3.result.now ≡ register_writes p = search rules in
    written_reason block c.args.first c.args.second p q c.args.cycles c.insn-first.ensures c.insn-second.ensures
    c.in-Some-first_overwritten.reg
    (none_read block c.args.first c.args.second p q c.args.cycles
    (subst (λ (ws : List (Reg × ℕ)). All (λ write. IsRead q c.args.cycles write → ⊥) ws) writes
    (subst (λ (z : ℤ). All (λ write. IsRead q z write → ⊥) c.as_slice.result.now) same c.in_default.ensures)))
    (none_spared block c.args.first c.args.second p q c.args.cycles
    (subst (λ (ws : List (Reg × ℕ)). All (λ write. IsSpared p c.args.cycles write → ⊥) ws) others
    (subst (λ (z : ℤ). All (λ write. IsSpared p z write → ⊥) c.as_slice-2.result.now) same
    c.in_default-first_spared.ensures)))
    (both_write block c.args.first c.args.second p q c.args.cycles c.in-Some-first_overwritten.reg
    (subst (λ (ws : List (Reg × ℕ)). HasWrite (IsOverwritten q c.args.cycles) ws c.in-Some-first_overwritten.reg) again
    (subst (λ (z : ℤ). HasWrite (IsOverwritten q z) c.as_slice-3.result.now c.in-Some-first_overwritten.reg) same
    c.in-Some-first_overwritten.ensures)))
    c.requires.latency

pub returns : goal.returns
returns c =
    let block = insns_of c.args.plan.now in
    let p = c.insn-first.result in
    let q = c.insn-second.result in
    let fits : FitsSigned w32 c.args.cycles = search rules in
    let same : to_z w32 (of_z w32 c.args.cycles) ≡ c.args.cycles = to_z-of_z w32 c.args.cycles fits in
    let writes : c.as_slice.result.now ≡ register_writes p = search rules in
    let others : c.as_slice-2.result.now ≡ register_writes q = search rules in
    let again : c.as_slice-3.result.now ≡ register_writes p = search rules in
    order_reason block c.args.first c.args.second p q c.args.cycles c.insn-first.ensures c.insn-second.ensures
    c.reason_of_order.result
    (none_read block c.args.first c.args.second p q c.args.cycles
    (subst (λ (ws : List (Reg × ℕ)). All (λ write. IsRead q c.args.cycles write → ⊥) ws) writes
    (subst (λ (z : ℤ). All (λ write. IsRead q z write → ⊥) c.as_slice.result.now) same c.in_default.ensures)))
    (none_spared block c.args.first c.args.second p q c.args.cycles
    (subst (λ (ws : List (Reg × ℕ)). All (λ write. IsSpared p c.args.cycles write → ⊥) ws) others
    (subst (λ (z : ℤ). All (λ write. IsSpared p z write → ⊥) c.as_slice-2.result.now) same
    c.in_default-first_spared.ensures)))
    (none_both block c.args.first c.args.second p q c.args.cycles
    (subst (λ (ws : List (Reg × ℕ)). All (λ write. IsOverwritten q c.args.cycles write → ⊥) ws) again
    (subst (λ (z : ℤ). All (λ write. IsOverwritten q z write → ⊥) c.as_slice-3.result.now) same
    c.in_default-first_overwritten.ensures)))
    (c.reason_of_order.ensures block c.args.first c.args.second c.args.cycles) c.requires.latency
