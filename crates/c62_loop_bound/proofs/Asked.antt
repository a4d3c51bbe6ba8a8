-- What is found of a region is asked.
use Rattle.std.proofs.Common.{◌≡◌, ℕ, Bool, List, sym, subst, inl}
use Rattle.std.specs.Prelude.{All}
use Rattle.c62_op.specs.declared.register.Reg.{Reg}
use Rattle.c62_insn.specs.declared.insn.Insn.{Insn}
use Rattle.c62_loop_bound.specs.declared.dependence.Dependence.{Dependence}
use Rattle.c62_loop_bound.specs.Share.{AreCovered}
use Rattle.c62_loop_bound.specs.Circle.{IsDependence}
use Rattle.c62_loop_bound.specs.Least.{IsAsked}
use Rattle.c62_loop_bound.specs.Steps.{IsFound}

-- what shares are found to ask for, where no share asks for more
pub asked_by_shares : (promised : Insn → Insn → Bool) (counter : Reg) (body work : List Insn) (cycles : ℕ)
    → work ≡ body → IsFound counter work cycles → AreCovered counter work cycles
    → IsAsked promised counter body cycles
asked_by_shares promised counter body work cycles same found covered =
    subst (λ (insns : List Insn). IsAsked promised counter insns cycles) same
    (record { shares = covered; attained = λ some. inl (found some) })

-- dependences of the same instructions, in the same list
pub same_dependences : (promised : Insn → Insn → Bool) (body work : List Insn) (given found : List Dependence)
    → work ≡ body → given ≡ found → All (IsDependence promised work) found → All (IsDependence promised body) given
same_dependences promised body work given found same is all =
    subst (λ (insns : List Insn). All (IsDependence promised insns) given) same
    (subst (All (IsDependence promised work)) (sym is) all)
