-- That steps and tests of the counter stand in turn, found one by one.
use Rattle.std.proofs.Common.{◌≡◌, ℕ, zero, suc, ◌+◌, ◌<◌, ◌≤◌, true, false, ◌&&◌, List, [], ◌∷◌, length, map}
use Rattle.std.proofs.Common.{drop, get_or, refl, sym, ◌∙◌, ap, subst, inl, inr, ⊎_elim, arith}
use Rattle.std.specs.List.{list_all}
use Rattle.std.proofs.lemmas.Bool.{cond-true, cond-false, and_parts, false≢true, leb-true, ltb-true, cases_Bool}
use Rattle.std.proofs.Math.Seq.{drop-cons}
use Rattle.c62_op.specs.declared.register.Reg.{Reg}
use Rattle.c62_packet.specs.declared.placed.Placed.{Placed}
use Rattle.c62_meaning.specs.Cut.{moved}
use Rattle.c62_meaning.proofs.Lookup.{In, In_from_Contains}
use Rattle.c62_loop.specs.Counter.{steps_on}
use Rattle.c62_loop.specs.Whole.{entry_of, IsInTurn, AreInTurn, StandInTurn}
use Rattle.c62_loop_match.specs.Turns.{in_turn}

-- ---- turns

turn_is : (counter : Reg) (later : ℕ) (p q : Placed) → in_turn counter later p q ≡ true
    → IsInTurn counter p (moved later q)
turn_is counter later p q e = ⊎_elim {C = IsInTurn counter p (moved later q)}
    (λ (t : steps_on counter (entry_of p) ≡ true).
    (let l : p.cycle < later + q.cycle = ltb-true _ _ (sym (cond-true _ _ _ t)
    ∙ e) in record { order = omega arith; step = λ s. l }))
    (λ (f : steps_on counter (entry_of p) ≡ false). record {
      order = leb-true _ _ (sym (cond-false _ _ _ f)
          ∙ e);
      step = λ s. absurd (false≢true (sym f ∙ s));
    })
    (cases_Bool (steps_on counter (entry_of p)))

turn_each : (counter : Reg) (later : ℕ) (p : Placed) (qs : List Placed) → list_all (in_turn counter later p) qs ≡ true
    → (q : Placed) → In q (map (moved later) qs) → IsInTurn counter p q
turn_each counter later p [] e q h = absurd h
turn_each counter later p (x ∷ qs) e q (inl s) = subst (λ y. IsInTurn counter p y) s
    (turn_is counter later p x (and_parts _ _ e).0)
turn_each counter later p (x ∷ qs) e q (inr h) = turn_each counter later p qs (and_parts _ _ e).1 q h

pub turn_all : (counter : Reg) (later : ℕ) (ps qs : List Placed)
    → list_all (λ p. list_all (in_turn counter later p) qs) ps ≡ true → AreInTurn counter ps (map (moved later) qs)
turn_all counter later ps qs e p q c d = each ps e (In_from_Contains p ps c)
  where
    each : (ps : List Placed) → list_all (λ p. list_all (in_turn counter later p) qs) ps ≡ true → In p ps
        → IsInTurn counter p q
    each [] e h = absurd h
    each (x ∷ ps) e (inl s) = subst (λ y. IsInTurn counter y q) s
        (turn_each counter later x qs (and_parts _ _ e).0 q (In_from_Contains q (map (moved later) qs) d))
    each (x ∷ ps) e (inr h) = each ps (and_parts _ _ e).1 h

pub same_place : (ps : List Placed) → map (moved 0) ps ≡ ps
same_place [] = refl
same_place (p ∷ ps) = let e : 0 + p.cycle ≡ p.cycle = omega arith in ap (λ n. record p { cycle = n } ∷ map (moved 0) ps)
    e ∙ ap (λ qs. p ∷ qs) (same_place ps)

pub Standing : Reg → List Placed → ℕ → Type 0
Standing counter placed k = StandInTurn counter (drop k placed) → StandInTurn counter placed

pub standing_first : (counter : Reg) (placed : List Placed) → Standing counter placed 0
unfolding Standing
standing_first counter placed h = h

pub standing_next : (counter : Reg) (placed : List Placed) (k : ℕ) (p : Placed) → k < length placed
    → p ≡ get_or placed k p
    → list_all (in_turn counter 0 p) (drop (k + 1) placed) ≡ true → Standing counter placed k
    → Standing counter placed (k + 1)
unfolding Standing
standing_next counter placed k p inside at e old rest =
    let s : suc k ≡ k + 1 = omega arith in
    let front : drop k placed ≡ p ∷ drop (k + 1) placed = drop-cons placed k p inside
    ∙ ap (λ x. x ∷ drop (suc k) placed) (sym at) ∙ ap (λ n. p ∷ drop n placed) s in
    let one : AreInTurn counter (p ∷ []) (drop (k + 1) placed) = subst (λ qs. AreInTurn counter (p ∷ []) qs)
    (same_place (drop (k + 1) placed))
    (turn_all counter 0 (p ∷ []) (drop (k + 1) placed) (ap (λ b. b && true) e)) in
    old (subst (λ xs. StandInTurn counter xs) (sym front) (one, rest))

pub standing_all : (counter : Reg) (placed : List Placed) (k : ℕ) → length placed ≤ k → Standing counter placed k
    → StandInTurn counter placed
unfolding Standing
standing_all counter placed k past old = old (subst (λ xs. StandInTurn counter xs) (sym (none placed k past)) tt)
  where
    none : {X : Type 0} (xs : List X) (k : ℕ) → length xs ≤ k → drop k xs ≡ []
    none [] zero l = refl
    none [] (suc k) l = refl
    none (x ∷ xs) zero l = absurd (omega arith)
    none (x ∷ xs) (suc k) l = none xs k (omega arith)
