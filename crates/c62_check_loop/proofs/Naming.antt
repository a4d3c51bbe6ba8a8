-- Registers that are named.
use Rattle.std.proofs.Common.{◌≡◌, ℕ, zero, suc, ◌+◌, ◌<◌, true, ◌||◌, List, ◌++◌, length, get_or, Some}
use Rattle.std.proofs.Common.{refl, sym, ◌∙◌, ap}
use Rattle.std.proofs.Common.{subst, arith}
use Rattle.std.specs.List.{flat_map, range_with_len}
use Rattle.std.proofs.lemmas.Bool.{or_left, or_right}
use Rattle.std.proofs.lemmas.List.{append-nil, append_assoc}
use Rattle.std.proofs.lemmas.Option.{none-some, same_Some}
use Rattle.c62_op.specs.declared.register.Reg.{Reg}
use Rattle.c62_op.specs.declared.operands.Operands.{Operands}
use Rattle.c62_op.specs.declared.operands.Operands.TheVariants.{Access}
use Rattle.c62_op.specs.declared.operands.AddressForm.{AddressForm}
use Rattle.c62_op.specs.declared.operands.Offset.{Offset}
use Rattle.c62_op.specs.Takes.{same_reg}
use Rattle.c62_op.proofs.Registers.{same_reg-refl}
use Rattle.c62_insn.specs.declared.insn.Insn.{Insn}
use Rattle.c62_insn.specs.Insn.{operands_of}
use Rattle.c62_rules.specs.Exclusive.{writes_in}
use Rattle.c62_pair.specs.declared.reg_set.RegSet.{RegSet}
use Rattle.c62_pair.specs.declared.uses.Uses.{Uses}
use Rattle.c62_pair.specs.RegSet.{reg_in}
use Rattle.c62_read.specs.declared.block.SerialInsn.{SerialInsn}
use Rattle.c62_depend.proofs.WrittenLemmas.{writes_are}
use Rattle.c62_loop_match.proofs.Starts.{more}
use Rattle.c62_check_loop.specs.Told.{data_in, IsNamed}

-- with more registers an instruction stays named
pub named_more : (insn : Insn) (one other both : RegSet)
    → ((reg : Reg) → reg_in both reg ≡ (reg_in one reg || reg_in other reg)) → IsNamed one insn → IsNamed both insn
named_more insn one other both joined named = record {
  writes = λ reg w. joined reg ∙ or_left _ _ (named.writes reg w);
  loads = λ reg e. joined reg ∙ or_left _ _ (named.loads reg e);
}

pub named_last : (insn : Insn) (one other both : RegSet)
    → ((reg : Reg) → reg_in both reg ≡ (reg_in one reg || reg_in other reg)) → IsNamed other insn → IsNamed both insn
named_last insn one other both joined named = record {
  writes = λ reg w. joined reg ∙ or_right _ _ (named.writes reg w);
  loads = λ reg e. joined reg ∙ or_right _ _ (named.loads reg e);
}

pub one_more_named : (past : List SerialInsn) (n : ℕ) (entry : SerialInsn) (one other both : RegSet)
    → n < length past → entry ≡ get_or past n entry
    → ((reg : Reg) → reg_in both reg ≡ (reg_in one reg || reg_in other reg)) → IsNamed other entry.insn
    → ((k : ℕ) (d : SerialInsn) → k < n → IsNamed one (get_or past k d).insn)
    → (k : ℕ) (d : SerialInsn) → k < n + 1 → IsNamed both (get_or past k d).insn
one_more_named past n entry one other both inside is joined new old =
    more (λ (e : SerialInsn). IsNamed both e.insn) past n entry inside is
    (named_last entry.insn one other both joined new)
    (λ k d l. named_more (get_or past k d).insn one other both joined (old k d l))

pub named_with : (insn : Insn) (uses : Uses) (register : Reg) (regs : RegSet) → uses.insn ≡ insn
    → data_in (operands_of insn) ≡ Some register
    → ((reg : Reg) → reg_in regs reg ≡ (reg_in uses.written reg || same_reg register reg)) → IsNamed regs insn
named_with insn uses register regs is loaded joined = record {
  writes = λ reg w. joined reg
      ∙ or_left _ _ (writes_are uses reg ∙ ap (λ x. writes_in reg (Some x)) is ∙ w);
  loads = λ reg e. joined reg
      ∙ or_right _ _ (subst (λ r. same_reg register r ≡ true) (same_Some register reg (sym loaded ∙ e))
      (same_reg-refl register));
}

pub named_alone : (insn : Insn) (uses : Uses) → uses.insn ≡ insn
    → ((reg : Reg) → data_in (operands_of insn) ≡ Some reg → ⊥) → IsNamed uses.written insn
named_alone insn uses is none = record {
  writes = λ reg w. writes_are uses reg ∙ ap (λ x. writes_in reg (Some x)) is ∙ w;
  loads = λ reg e. absurd (none reg e);
}

not_loaded : (operands : Operands)
    → ((register base : Reg) (form : AddressForm) (offset : Offset) → operands ≡ Access register base form offset → ⊥)
    → (reg : Reg) → data_in operands ≡ Some reg → ⊥
not_loaded (Access register base form offset) none reg e = none register base form offset refl
not_loaded _ none reg e = none-some reg e

pub named_loaded : (insn : Insn) (uses : Uses) (operands : Operands) (register base : Reg) (form : AddressForm)
    (offset : Offset) (regs : RegSet) → uses.insn ≡ insn → operands ≡ operands_of insn
    → operands ≡ Access register base form offset
    → ((reg : Reg) → reg_in regs reg ≡ (reg_in uses.written reg || same_reg register reg)) → IsNamed regs insn
named_loaded insn uses operands register base form offset regs is has loaded joined =
    named_with insn uses register regs is (ap data_in (sym has ∙ loaded)) joined

pub named_unloaded : (insn : Insn) (uses : Uses) (operands : Operands) → uses.insn ≡ insn → operands ≡ operands_of insn
    → ((register base : Reg) (form : AddressForm) (offset : Offset) → operands ≡ Access register base form offset → ⊥)
    → IsNamed uses.written insn
named_unloaded insn uses operands is has none =
    named_alone insn uses is (λ reg e. not_loaded operands none reg (ap data_in has ∙ e))

-- ---- words

more_from : {X : Type 0} (f : ℕ → List X) (start n : ℕ)
    → flat_map f (range_with_len start (suc n)) ≡ flat_map f (range_with_len start n) ++ f (start + n)
more_from f start zero = (let e : start + 0 ≡ start = omega arith in
    append-nil (f start) ∙ ap f (sym e))
more_from f start (suc n) =
    let e : start + 1 + n ≡ start + suc n = omega arith in
    ap (λ xs. f start ++ xs) (more_from f (start + 1) n ∙ ap (λ k. flat_map f (range_with_len (start + 1) n) ++ f k) e)
    ∙ sym (append_assoc (f start) (flat_map f (range_with_len (start + 1) n)) (f (start + suc n)))

pub flat_map-more : {X : Type 0} (f : ℕ → List X) (n : ℕ)
    → flat_map f (range_with_len 0 (n + 1)) ≡ flat_map f (range_with_len 0 n) ++ f n
flat_map-more f n =
    let s : n + 1 ≡ suc n = omega arith in
    let start : 0 + n ≡ n = omega arith in
    ap (λ k. flat_map f (range_with_len 0 k)) s ∙ more_from f 0 n
    ∙ ap (λ k. flat_map f (range_with_len 0 n) ++ f k) start
