-- The steps and branches of a pipelined loop come in turn, in any number of passes.
use Rattle.std.proofs.Common.{◌≡◌, ℕ, zero, suc, ◌+◌, ◌<◌, ◌≤◌, List, [], ◌∷◌, ◌++◌}
use Rattle.std.proofs.Common.{map, Some, refl, sym, subst, inl, inr, arith}
use Rattle.std.specs.Prelude.{slice_get}
use Rattle.std.proofs.lemmas.Option.{none-some, same_Some}
use Rattle.c62_op.specs.declared.register.Reg.{Reg}
use Rattle.c62_packet.specs.declared.placed.Placed.{Placed}
use Rattle.c62_meaning.specs.Cut.{moved}
use Rattle.c62_meaning.proofs.Lookup.{In, In_from_Contains, Contains_from_In, In-append_cases}
use Rattle.c62_loop.specs.Stage.{cycles_in}
use Rattle.c62_loop.specs.Whole.{Control, IsInTurn, AreInTurn, StandInTurn}
use Rattle.c62_loop.proofs.Lists.{in_mapped}
use Rattle.c62_loop.proofs.PassControl.{control_from, control_of, later_passes, in_pass}

module _ (counter : Reg) where
  turn_later : (p q : Placed) (j k : ℕ) → j ≤ k → IsInTurn counter p q → IsInTurn counter (moved j p) (moved k q)
  turn_later p q j k l h = grind arith

  turn_moved : (k : ℕ) (ps : List Placed) → StandInTurn counter ps → StandInTurn counter (map (moved k) ps)
  turn_moved k [] h = h
  turn_moved k (p ∷ ps) h = (
    λ x y c d.
        let a = in_mapped (moved k) ps y (In_from_Contains y (map (moved k) ps) d) in
        let s : moved k p ≡ x = only (moved k p) x (In_from_Contains x (moved k p ∷ []) c) in
        subst (λ z. IsInTurn counter z y) s (subst (λ z. IsInTurn counter (moved k p) z) (sym a.2)
        (turn_later p a.0 k k (omega arith)
        (h.0 p a.0 (Contains_from_In p (p ∷ []) (inl refl)) (Contains_from_In a.0 ps a.1)))),
    turn_moved k ps h.1,
  )
    where
      only : (z x : Placed) → In x (z ∷ []) → z ≡ x
      only z x h = grind arith

  turn_both : (xs ys : List Placed) → StandInTurn counter xs → StandInTurn counter ys
      → ((p q : Placed) → In p xs → In q ys → IsInTurn counter p q) → StandInTurn counter (xs ++ ys)
  turn_both [] ys h k b = k
  turn_both (x ∷ xs) ys h k b = (
    λ p q c d.
        let s : x ≡ p = only x p (In_from_Contains p (x ∷ []) c) in
        elim (In-append_cases q xs ys (In_from_Contains q (xs ++ ys) d)) [
          | inl m ↦ h.0 p q c (Contains_from_In q xs m)
          | inr m ↦ subst (λ z. IsInTurn counter z q) s (b x q (inl refl) m)
        ],
    turn_both xs ys h.1 k (λ p q m n. b p q (inr m) n),
  )
    where
      only : (z x : Placed) → In x (z ∷ []) → z ≡ x
      only z x h = grind arith

  pub turn_at : (ps : List Placed) → StandInTurn counter ps → (i j : ℕ) (p q : Placed) → i < j → slice_get ps i ≡ Some p
      → slice_get ps j ≡ Some q → IsInTurn counter p q
  turn_at [] h i j p q l at_p at_q = absurd (none-some p at_p)
  turn_at (x ∷ ps) h i zero p q l at_p at_q = absurd (omega arith)
  turn_at (x ∷ ps) h zero (suc j) p q l at_p at_q =
      h.0 p q (Contains_from_In p (x ∷ []) (inl (same_Some x p at_p))) (Contains_from_In q ps (at ps j at_q))
    where
      at : (ps : List Placed) (j : ℕ) → slice_get ps j ≡ Some q → In q ps
      at [] j e = absurd (none-some q e)
      at (y ∷ ps) zero e = inl (same_Some y q e)
      at (y ∷ ps) (suc j) e = inr (at ps j e)
  turn_at (x ∷ ps) h (suc i) (suc j) p q l at_p at_q = turn_at ps h.1 i j p q (omega arith) at_p at_q

  module _ (control : Control) (interval : ℕ) (early_turn : StandInTurn counter control.early)
      (kernel_turn : StandInTurn counter control.kernel)
      (seam : AreInTurn counter control.early control.kernel)
      (next : AreInTurn counter control.kernel (map (moved interval) control.kernel)) where
    passes_turn : (pass count : ℕ) → StandInTurn counter (control_from control.kernel interval pass count)
    passes_turn pass zero = grind arith
    passes_turn pass (suc count) =
        turn_both (map (moved (cycles_in interval pass)) control.kernel)
        (control_from control.kernel interval (suc pass) count)
        (turn_moved (cycles_in interval pass) control.kernel kernel_turn)
        (passes_turn (suc pass) count)
        (λ p q m n.
        let a = in_mapped (moved (cycles_in interval pass)) control.kernel p m in
        let b = in_pass control.kernel interval (suc pass) count q n in
        let u : cycles_in interval (suc pass) ≤ cycles_in interval (suc pass + b.0) = later_passes interval (suc pass)
        (suc pass + b.0) (omega arith) in
        let h : IsInTurn counter a.0 (moved interval b.2)
        = next a.0 (moved interval b.2) (Contains_from_In a.0 control.kernel a.1)
        (Contains_from_In (moved interval b.2) (map (moved interval) control.kernel)
        (mapped b.2 control.kernel b.3)) in
        subst (λ z. IsInTurn counter z q) (sym a.2)
        (subst (λ z. IsInTurn counter (moved (cycles_in interval pass) a.0) z) (sym b.4) (record {
          order = (let o : a.0.cycle ≤ interval + b.2.cycle = h.order in omega arith);
          step = λ t. (let o : a.0.cycle < interval + b.2.cycle = h.step t in omega arith);
        })))
      where
        mapped : (q : Placed) (ps : List Placed) → In q ps → In (moved interval q) (map (moved interval) ps)
        mapped q [] h = absurd h
        mapped q (p ∷ ps) h = grind (arith, mapped q ps)

    pub control_turn : (passes : ℕ) → StandInTurn counter (control_of control interval passes)
    control_turn passes =
        turn_both control.early (control_from control.kernel interval 0 passes) early_turn (passes_turn 0 passes)
        (λ p q m n.
        let b = in_pass control.kernel interval 0 passes q n in
        let h : IsInTurn counter p b.2 = seam p b.2 (Contains_from_In p control.early m)
        (Contains_from_In b.2 control.kernel b.3) in
        subst (λ z. IsInTurn counter p z) (sym b.4) (record {
          order = (let o : p.cycle ≤ b.2.cycle = h.order in omega arith);
          step = λ t. (let o : p.cycle < b.2.cycle = h.step t in omega arith);
        }))
