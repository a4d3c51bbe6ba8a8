-- The branches of a packet that ran.
use Rattle.std.proofs.Common.{◌≡◌, ℕ, ◌+◌, Bool, true, false, ◌&&◌, cond, eqb, List, [], ◌∷◌, Option, Some, None, refl}
use Rattle.std.proofs.Common.{sym, ◌∙◌, ap, subst, ◌⊎◌, inl, inr}
use Rattle.std.specs.Prelude.{fold, filter, is_some}
use Rattle.std.specs.Option.{option_or}
use Rattle.std.proofs.lemmas.Bool.{cond-true, cond-false, and_from, and_right, eq-eqb}
use Rattle.c62_insn.specs.declared.effect.Target.{Target}
use Rattle.c62_packet.specs.declared.placed.Placed.{Placed}
use Rattle.c62_meaning.specs.Packet.{Did}
use Rattle.c62_meaning.proofs.Lookup.{In}
use Rattle.c62_flight.specs.declared.stop.Stop.TheVariants.{Branches}
use Rattle.c62_flight.specs.Issued.{first_of, goes_in}
use Rattle.c62_flight.specs.Broken.{has_branched, two_branches}
use Rattle.c62_exec.specs.declared.taken.Taken.{Taken}
use Rattle.c62_exec.specs.declared.taken.Taken.TheVariants.{Nothing, One, Two}
use Rattle.c62_exec.specs.Step.{taken_with}
use Rattle.c62_exec.proofs.Issues.{taken_by}

module _ (did : Did) (cycle : ℕ) where
  abbrev AreOf : List Placed → Type 0
  AreOf ps = (p : Placed) → In p ps → p.cycle ≡ cycle

  abbrev branched : List Placed → List Placed
  branched ps = filter (has_branched did cycle) ps

  abbrev goes : List Placed → Option Target
  goes ps = first_of (goes_in did (cycle + 6)) ps

  -- what the branches of a packet say of two that ran, and of the one
  abbrev pub Tells : Taken → List Placed → Type 0
  Tells Nothing ps = (two_branches (branched ps) ≡ None) × (goes ps ≡ None)
  Tells (One target line) ps = (two_branches (branched ps) ≡ None) × (goes ps ≡ Some target)
  Tells (Two first second) ps = two_branches (branched ps) ≡ Some (Branches first second)

  not_branched : (p : Placed) (ps : List Placed) → (did p).target ≡ None → branched (p ∷ ps) ≡ branched ps
  not_branched p ps e = cond-false _ _ _ (and_right _ _ (ap is_some e))

  is_branched : (p : Placed) (ps : List Placed) (target : Target) → p.cycle ≡ cycle → (did p).target ≡ Some target
      → branched (p ∷ ps) ≡ p ∷ branched ps
  is_branched p ps target at e = cond-true _ _ _ (and_from _ _ (eq-eqb _ _ at) (ap is_some e))

  goes_past : (p : Placed) (ps : List Placed) → (did p).target ≡ None → goes (p ∷ ps) ≡ goes ps
  goes_past p ps e = ap (λ o. option_or o (goes ps)) (none (eqb (p.cycle + 6) (cycle + 6)))
    where
      none : (b : Bool) → cond b (did p).target None ≡ None
      none true = e
      none false = refl

  goes_there : (p : Placed) (ps : List Placed) (target : Target) → p.cycle ≡ cycle → (did p).target ≡ Some target
      → goes (p ∷ ps) ≡ Some target
  goes_there p ps target at e = ap (λ o. option_or o (goes ps)) (cond-true _ _ _ (eq-eqb _ _ (ap (λ n. n + 6) at)) ∙ e)

  two_stay : (first second : ℕ) (ps : List Placed) → fold (taken_by did) (Two first second) ps ≡ Two first second
  two_stay first second [] = refl
  two_stay first second (p ∷ ps) = ap (λ taken. fold (taken_by did) taken ps) (stays (did p).target)
      ∙ two_stay first second ps
    where
      stays : (o : Option Target) → taken_with (Two first second) o p.line ≡ Two first second
      stays None = refl
      stays (Some target) = refl

  -- with one that ran, none of these did, or one
  abbrev OneTold : Target → ℕ → List Placed → Type 0
  OneTold target line ps =
      ((fold (taken_by did) (One target line) ps ≡ One target line) × (branched ps ≡ []))
      ⊎ ((q : Placed) × (rest : List Placed) × (fold (taken_by did) (One target line) ps ≡ Two line q.line)
      × (branched ps ≡ q ∷ rest))

  one_told : (target : Target) (line : ℕ) (ps : List Placed) → AreOf ps → OneTold target line ps
  one_told target line [] of = inl (refl, refl)
  one_told target line (p ∷ ps) of = by_target (one_told target line ps (λ q h. of q (inr h))) (did p).target refl
    where
      first : (o : Option Target) → (did p).target ≡ o
          → fold (taken_by did) (One target line) (p ∷ ps) ≡ fold (taken_by did)
          (taken_with (One target line) o p.line) ps
      first o e = ap (λ z. fold (taken_by did) (taken_with (One target line) z p.line) ps) e

      by_target : OneTold target line ps → (o : Option Target) → (did p).target ≡ o → OneTold target line (p ∷ ps)
      by_target others None e =
          elim others [
            | inl r ↦ inl (first None e ∙ r.0, not_branched p ps e ∙ r.1)
            | inr r ↦ inr (r.0, r.1, first None e ∙ r.2, not_branched p ps e ∙ r.3)
          ]
      by_target others (Some other) e =
          inr (
            p,
            branched ps,
            first (Some other) e
                ∙ two_stay line p.line ps,
            is_branched p ps other (of p (inl refl)) e,
          )

  tells_past : (taken : Taken) (p : Placed) (ps : List Placed) → (did p).target ≡ None → Tells taken ps
      → Tells taken (p ∷ ps)
  tells_past Nothing p ps e t = (ap two_branches (not_branched p ps e) ∙ t.0, goes_past p ps e ∙ t.1)
  tells_past (One target line) p ps e t = (ap two_branches (not_branched p ps e) ∙ t.0, goes_past p ps e ∙ t.1)
  tells_past (Two first second) p ps e t = ap two_branches (not_branched p ps e) ∙ t

  -- so it is of a whole packet
  pub taken_tells : (ps : List Placed) → AreOf ps → Tells (fold (taken_by did) Nothing ps) ps
  taken_tells [] of = (refl, refl)
  taken_tells (p ∷ ps) of = by_target (taken_tells ps (λ q h. of q (inr h))) (did p).target refl
    where
      first : (o : Option Target) → (did p).target ≡ o
          → fold (taken_by did) (taken_with Nothing o p.line) ps ≡ fold (taken_by did) Nothing (p ∷ ps)
      first o e = ap (λ z. fold (taken_by did) (taken_with Nothing z p.line) ps) (sym e)

      by_target : Tells (fold (taken_by did) Nothing ps) ps → (o : Option Target) → (did p).target ≡ o
          → Tells (fold (taken_by did) Nothing (p ∷ ps)) (p ∷ ps)
      by_target others None e =
          subst (λ taken. Tells taken (p ∷ ps)) (first None e)
          (tells_past (fold (taken_by did) Nothing ps) p ps e others)
      by_target others (Some target) e =
          let at : p.cycle ≡ cycle = of p (inl refl) in
          let here : branched (p ∷ ps) ≡ p ∷ branched ps = is_branched p ps target at e in
          subst (λ taken. Tells taken (p ∷ ps)) (first (Some target) e)
          (elim (one_told target p.line ps (λ q h. of q (inr h))) [
            | inl r ↦ subst (λ taken. Tells taken (p ∷ ps)) (sym r.0)
                (ap two_branches (here ∙ ap (λ qs. p ∷ qs) r.1), goes_there p ps target at e)
            | inr r ↦ subst (λ taken. Tells taken (p ∷ ps)) (sym r.2) (ap two_branches (here ∙ ap (λ qs. p ∷ qs) r.3))
          ])
