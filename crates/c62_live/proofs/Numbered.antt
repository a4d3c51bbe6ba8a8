-- The registers of a side, one after the other.
use Rattle.std.proofs.Common.{arith, ◌≡◌, ◌∙◌, ℕ, zero, suc, ◌+◌, ◌<◌, List, [], ◌∷◌, ◌++◌, length, Some, refl, sym, ap}
use Rattle.std.proofs.Common.{subst, inl, inr}
use Rattle.std.specs.Prelude.{slice_get}
use Rattle.std.proofs.lemmas.Bool.{cases_lt}
use Rattle.std.proofs.lemmas.Grind.{common_steps}
use Rattle.std.proofs.lemmas.Option.{slice_get_within, same_Some}
use Rattle.c62_op.specs.declared.register.Side.{Side}
use Rattle.c62_op.specs.declared.register.Reg.{Reg}
use Rattle.c62_live.specs.Live.{AreRegisters}

pub push_before : {X : Type 0} (xs : List X) (x : X) (j : ℕ) → j < length xs
    → slice_get (xs ++ x ∷ []) j ≡ slice_get xs j
push_before [] x j inside = absurd (omega (arith, inside))
push_before (y ∷ xs) x zero inside = refl
push_before (y ∷ xs) x (suc j) inside = push_before xs x j (omega (arith, inside))

pub push_last : {X : Type 0} (xs : List X) (x : X) → slice_get (xs ++ x ∷ []) (length xs) ≡ Some x
push_last [] x = refl
push_last (y ∷ xs) x = push_last xs x

-- the first registers of a side
pub record AreFirst (side : Side) (regs : List Reg) (count : ℕ) : Type 0 where
  pub long : length regs ≡ count
  pub each : (k : ℕ) (reg : Reg) → slice_get regs k ≡ Some reg → (reg.side ≡ side) × (reg.number ≡ k)

pub none_yet : (side : Side) (regs : List Reg) → regs ≡ [] → AreFirst side regs 0
none_yet side regs none = rw none (record { long = refl; each = λ k reg at. absurd cc })

pub one_more : (side : Side) (regs more : List Reg) (reg : Reg) (count : ℕ) → more ≡ regs ++ reg ∷ [] → reg.side ≡ side
    → reg.number ≡ count
    → AreFirst side regs count → AreFirst side more (count + 1)
one_more side regs more reg count is on numbered are =
    let long = are.long in
    let longer : length more ≡ length regs + 1 = grind (arith, common_steps, is) in
    record {
      long = omega (arith, long, longer);
      each = λ k other at. (
          elim (cases_lt k (length regs)) [
            | inl before ↦ are.each k other (sym (push_before regs reg k before)
                ∙ (sym (ap (λ rs. slice_get rs k) is) ∙ at))
            | inr after ↦
                (let inside : k < length more = slice_get_within more k other at in
                let here : k ≡ length regs = omega (arith, after, inside, longer) in
                let last : slice_get more k ≡ Some reg = ap (λ rs. slice_get rs k) is
                ∙ (ap (λ n. slice_get (regs ++ reg ∷ []) n) here ∙ push_last regs reg) in
                let same : reg ≡ other = same_Some reg other (sym last ∙ at) in
                let place : count ≡ k = omega (arith, long, here) in
                subst (λ (r : Reg). (r.side ≡ side) × (r.number ≡ k)) same (on, numbered ∙ place))
          ]);
    }

pub all_registers : (side : Side) (regs : List Reg) (count : ℕ) → count ≡ 16 → AreFirst side regs count
    → AreRegisters side regs
all_registers side regs count end are = record { count = are.long ∙ end; each = are.each }
