-- Work of iterations past the last is work, and instances of it stand for it.
use Rattle.std.proofs.Common.{◌≡◌, ℕ, zero, suc, ◌+◌, Bool, true, false, List, [], ◌∷◌, Some, refl, sym, ◌∙◌}
use Rattle.std.proofs.Common.{inl, inr, ⊎_elim}
use Rattle.std.specs.Prelude.{slice_get, filter}
use Rattle.std.proofs.lemmas.Bool.{cases_Bool, or_left, false≢true}
use Rattle.std.proofs.lemmas.Option.{none-some, same_Some}
use Rattle.c62_op.specs.declared.register.Reg.{Reg}
use Rattle.c62_read.specs.declared.block.SerialInsn.{SerialInsn}
use Rattle.c62_meaning.proofs.Lookup.{In}
use Rattle.c62_loop.specs.Counter.{touches, steps_on, steps_in, work_of}
use Rattle.c62_loop.specs.Stage.{Stage}
use Rattle.c62_loop.specs.Whole.{StandFor}
use Rattle.c62_loop.specs.Collapsed.{Beyond, IsHeld, past_work, past_placed}
use Rattle.c62_loop.proofs.Lists.{at_place, in_mapped}
use Rattle.c62_loop.proofs.Apart.{no_more}
use Rattle.c62_loop.proofs.Standing.{IsOf, AreOf, instance_stands}
use Rattle.std.proofs.Common.{arith}

-- the stage at a place is of the instruction there
of_at : (entries : List SerialInsn) (stages : List Stage) → AreOf entries stages → (place : ℕ) (entry : SerialInsn)
    (stage : Stage) → slice_get entries place ≡ Some entry → slice_get stages place ≡ Some stage → IsOf entry stage
of_at [] stages h place entry stage at_e at_s = absurd (none-some entry at_e)
of_at (e ∷ entries) [] h place entry stage at_e at_s = absurd (none-some stage at_s)
of_at (e ∷ entries) (s ∷ stages) h zero entry stage at_e at_s = grind (arith, same_Some)
of_at (e ∷ entries) (s ∷ stages) h (suc place) entry stage at_e at_s = of_at entries stages h.1 place entry stage at_e
    at_s

module _ (work : List SerialInsn) (stages : List Stage) where
  pub past_stand : (interval passes : ℕ) → AreOf work stages → (beyond : List Beyond)
      → ((one : Beyond) → In one beyond → IsHeld work stages one)
      → StandFor (past_work beyond) (past_placed interval beyond passes)
  past_stand interval passes are [] each = tt
  past_stand interval passes are (one ∷ beyond) each =
      let h : IsHeld work stages one = each one (inl refl) in (
        instance_stands interval passes one.entry one.stage (passes + one.number)
            (of_at work stages are h.place one.entry one.stage h.entry_is h.stage_is),
        past_stand interval passes are beyond (λ other k. each other (inr k)),
      )

  pub past_inside : (beyond : List Beyond) → ((one : Beyond) → In one beyond → IsHeld work stages one)
      → (entry : SerialInsn) → In entry (past_work beyond) → In entry work
  past_inside beyond each entry h = grind (arith, in_mapped, at_place work)

filter_all : {X : Type 0} (f : X → Bool) (xs : List X) → ((x : X) → In x xs → f x ≡ true) → filter f xs ≡ xs
filter_all f [] h = refl
filter_all f (x ∷ xs) h = grind (arith, filter_all f xs)

-- what touches no counter is all work
pub all_work : (counter : Reg) (xs : List SerialInsn) → ((x : SerialInsn) → In x xs → touches counter x ≡ false)
    → work_of counter xs ≡ xs
all_work counter xs none = grind (arith, filter_all)

pub no_steps : (counter : Reg) (xs : List SerialInsn) → ((x : SerialInsn) → In x xs → touches counter x ≡ false)
    → steps_in counter xs ≡ 0
no_steps counter [] none = refl
no_steps counter (x ∷ xs) none =
    no_more counter x xs
    (⊎_elim {C = steps_on counter x ≡ false}
    (λ t. absurd (false≢true (sym (none x (inl refl)) ∙ or_left _ _ t))) (λ f. f) (cases_Bool (steps_on counter x)))
    ∙ no_steps counter xs (λ y h. none y (inr h))
