-- Steps, one after the other.
use Rattle.std.proofs.Common.{◌≡◌, ℕ, zero, suc, ◌+◌, ◌<◌, List, [], ◌∷◌, ◌++◌, not, length, take, get_or, sym, ◌∙◌, ap}
use Rattle.std.proofs.Common.{arith, true, false, min, ⊎_elim}
use Rattle.std.proofs.lemmas.Bool.{cases_Bool, cond-true, cond-false}
use Rattle.c62_op.specs.declared.register.Reg.{Reg}
use Rattle.c62_read.specs.declared.block.SerialInsn.{SerialInsn}
use Rattle.std.proofs.Math.Seq.{take-suc}
use Rattle.std.proofs.lemmas.List.Elements.{filter-append}
use Rattle.c62_loop.specs.Counter.{steps_in, steps_on, size_of, touches, work_of}
use Rattle.c62_loop_match.specs.Form.{step_of}

module _ (counter : Reg) where
  steps_first : (x : SerialInsn) (xs : List SerialInsn)
      → steps_in counter (x ∷ xs) ≡ step_of counter x + steps_in counter xs
  steps_first x xs = ⊎_elim {C = steps_in counter (x ∷ xs) ≡ step_of counter x + steps_in counter xs}
      (λ (t : steps_on counter x ≡ true).
      (let a : steps_in counter (x ∷ xs) ≡ size_of x + steps_in counter xs = cond-true _ _ _ t in
      let b : step_of counter x ≡ size_of x = cond-true _ _ _ t in omega arith))
      (λ (f : steps_on counter x ≡ false).
      (let a : steps_in counter (x ∷ xs) ≡ steps_in counter xs = cond-false _ _ _ f in
      let b : step_of counter x ≡ 0 = cond-false _ _ _ f in omega arith))
      (cases_Bool (steps_on counter x))

  steps_more : (xs : List SerialInsn) (k : ℕ) (d : SerialInsn) → k < length xs
      → steps_in counter (take (suc k) xs) ≡ steps_in counter (take k xs) + step_of counter (get_or xs k d)
  steps_more [] k d l = absurd (omega arith)
  steps_more (x ∷ xs) zero d l = let e : steps_in counter (x ∷ []) ≡ step_of counter x + 0 = steps_first x [] in e
      ∙ omega arith
  steps_more (x ∷ xs) (suc k) d l =
      let rest : steps_in counter (take (suc k) xs) ≡ steps_in counter (take k xs) + step_of counter (get_or xs k d) =
      steps_more xs k d (omega arith) in
      let one : steps_in counter (x ∷ take (suc k) xs) ≡ step_of counter x + steps_in counter (take (suc k) xs) =
      steps_first x (take (suc k) xs) in
      let other : steps_in counter (x ∷ take k xs) ≡ step_of counter x + steps_in counter (take k xs) = steps_first x
      (take k xs) in
      one ∙ ap (λ n. step_of counter x + n) rest
      ∙ (let e : step_of counter x + (steps_in counter (take k xs) + step_of counter (get_or xs k d)) ≡ step_of
      counter x + steps_in counter (take k xs) + step_of counter (get_or xs k d) = omega arith in e)
      ∙ ap (λ n. n + step_of counter (get_or xs k d)) (sym other)

  -- the sum goes no higher than the most
  pub steps_next : (xs : List SerialInsn) (k : ℕ) (d : SerialInsn) (steps next most : ℕ) → k < length xs
      → steps ≡ min (steps_in counter (take k xs)) most → next ≡ min (steps + step_of counter (get_or xs k d)) most
      → next ≡ min (steps_in counter (take (k + 1) xs)) most
  steps_next xs k d steps next most inside old new =
      let s : k + 1 ≡ suc k = omega arith in
      let more : steps_in counter (take (k + 1) xs) ≡ steps_in counter (take k xs) + step_of counter (get_or xs k d) =
      ap (λ n. steps_in counter (take n xs)) s ∙ steps_more xs k d inside in
      omega arith

  pub work_next : (xs : List SerialInsn) (k : ℕ) (d : SerialInsn) (work next : List SerialInsn) → k < length xs
      → work ≡ work_of counter (take k xs)
      → next ≡ work ++ work_of counter (get_or xs k d ∷ []) → next ≡ work_of counter (take (k + 1) xs)
  work_next xs k d work next inside old new =
      let s : suc k ≡ k + 1 = omega arith in
      new ∙ ap (λ ys. ys ++ work_of counter (get_or xs k d ∷ [])) old
      ∙ sym (filter-append (λ (entry : SerialInsn). not (touches counter entry)) (take k xs) (get_or xs k d ∷ []))
      ∙ ap (work_of counter) (sym (take-suc xs k d inside)) ∙ ap (λ n. work_of counter (take n xs)) s
