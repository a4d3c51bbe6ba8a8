-- Whether a branch is in flight.
use Rattle.std.proofs.Common.{◌≡◌, ℕ, zero, suc, ◌+◌, ◌-◌, ◌*◌, ◌%◌, ◌<◌, ◌≤◌, Bool, true, false, ◌&&◌, ◌||◌, ltb, List}
use Rattle.std.proofs.Common.{[], ◌∷◌, length, get_or, Option, Some, None, refl, sym, ◌∙◌, ap, subst, ⊎_elim, inl, inr}
use Rattle.std.proofs.Common.{arith}
use Rattle.std.specs.Prelude.{is_some, nat_le, nat_lt, cond}
use Rattle.std.specs.List.{list_any}
use Rattle.std.proofs.lemmas.Bool.{and_from, and_parts, cases_Bool, lt-ltb, ltb-true}
use Rattle.c62_insn.specs.declared.effect.Target.{Target}
use Rattle.c62_serial.specs.State.{Machine}
use Rattle.c62_packet.specs.declared.placed.Placed.{Placed}
use Rattle.c62_meaning.specs.Packet.{Did}
use Rattle.c62_meaning.proofs.Lookup.{In, In_from_Contains, Contains_from_In}
use Rattle.c62_meaning.proofs.Runs.{the_run}
use Rattle.c62_flight.specs.Issued.{is_in_flight, turn}
use Rattle.c62_flight.proofs.Told.{turn_told}
use Rattle.c62_exec.specs.Step.{Way}
use Rattle.c62_exec.proofs.Extended.{alone}
use Rattle.c62_exec.proofs.InRow.{InRow}
use Rattle.c62_exec.proofs.RowBegins.{Standing}

-- two tests that hold together are one
same_tests : (a b : Bool) → (a ≡ true → b ≡ true) → (b ≡ true → a ≡ true) → a ≡ b
same_tests true true f g = refl
same_tests true false f g = sym (f refl)
same_tests false true f g = g refl
same_tests false false f g = refl

any_at : (turns : List (Option Target)) → list_any is_some turns ≡ true → (k : ℕ) × (target : Target)
    × (k < length turns) × (get_or turns k None ≡ Some target)
any_at [] e = absurd cc
any_at (Some target ∷ turns) e = (0, target, omega arith, refl)
any_at (None ∷ turns) e = let r = any_at turns e in (suc r.0, r.1, omega (arith, r.2), r.3)

at_any : (turns : List (Option Target)) (k : ℕ) (target : Target) → get_or turns k None ≡ Some target
    → list_any is_some turns ≡ true
at_any [] k target e = absurd cc
at_any (Some other ∷ turns) k target e = refl
at_any (None ∷ turns) zero target e = absurd cc
at_any (None ∷ turns) (suc k) target e = at_any turns k target e

in_any : (f : Placed → Bool) (p : Placed) (ps : List Placed) → In p ps → f p ≡ true → list_any f ps ≡ true
in_any f p [] h e = absurd h
in_any f p (q ∷ ps) (inl s) e = ap (λ b. b || list_any f ps) (ap f s ∙ e)
in_any f p (q ∷ ps) (inr h) e = either (f q) (in_any f p ps h e)
  where
    either : (b : Bool) → list_any f ps ≡ true → (b || list_any f ps) ≡ true
    either true k = refl
    either false k = k

any_in : (f : Placed → Bool) (ps : List Placed) → list_any f ps ≡ true → (p : Placed) × In p ps × (f p ≡ true)
any_in f [] e = absurd cc
any_in f (q ∷ ps) e = by_test (λ k. any_in f ps k) (f q) refl e
  where
    by_test : (list_any f ps ≡ true → (p : Placed) × In p ps × (f p ≡ true)) → (b : Bool) → f q ≡ b
        → (b || list_any f ps) ≡ true
        → (p : Placed) × In p (q ∷ ps) × (f p ≡ true)
    by_test others true t k = (q, inl refl, t)
    by_test others false t k = let r = others k in (r.0, inr r.1, r.2)

has_some : (o : Option Target) → is_some o ≡ true → (target : Target) × (o ≡ Some target)
has_some None e = absurd cc
has_some (Some target) e = (target, refl)

module _ (block : List Placed) (opening : Machine) (cycle : ℕ) (way : Way) (standing : Standing block opening cycle way)
  where
    placed_turn : (k : ℕ) (target : Target) → k < 6 → get_or way.turns k None ≡ Some target
        → list_any (is_in_flight (the_run block opening) cycle) block ≡ true
    placed_turn k target l e =
        let t : ℕ = cycle + 1 + (k + 5 - cycle % 6) % 6 in
        let from : cycle < t = omega arith in
        let to : t ≤ cycle + 6 = omega arith in
        let place : t % 6 ≡ k = omega arith in
        let turns : turn (alone opening block) t ≡ Some target = sym (standing.row.turns t from to)
        ∙ ap (λ n. get_or way.turns n None) place ∙ e in
        let told = (turn_told (alone opening block) t).some target turns in
        let inside : In told.placed block = In_from_Contains told.placed block told.inside in
        let early : told.placed.cycle < cycle = standing.early told.placed inside in
        let when : told.placed.cycle + 6 ≡ t = told.when in
        in_any (is_in_flight (the_run block opening) cycle) told.placed block inside
        (and_from _ _ (ap is_some told.ran)
        (and_from _ _ (lt-ltb _ _ early) (lt-ltb _ _ (let l : cycle < told.placed.cycle + 6 = omega arith in l))))

    flying_turn : list_any (is_in_flight (the_run block opening) cycle) block ≡ true → list_any is_some way.turns ≡ true
    flying_turn e =
        let p = any_in (is_in_flight (the_run block opening) cycle) block e in
        let parts = and_parts (is_some (the_run block opening p.0).target)
        (nat_lt p.0.cycle cycle && nat_lt cycle (p.0.cycle + 6)) p.2 in
        let times = and_parts (nat_lt p.0.cycle cycle) (nat_lt cycle (p.0.cycle + 6)) parts.1 in
        let target = has_some (the_run block opening p.0).target parts.0 in
        let early : p.0.cycle < cycle = ltb-true _ _ times.0 in
        let late : cycle < p.0.cycle + 6 = ltb-true _ _ times.1 in
        let at : get_or way.turns ((p.0.cycle + 6) % 6) None ≡ turn (alone opening block) (p.0.cycle + 6) =
        standing.row.turns (p.0.cycle + 6) late (omega arith) in
        by_turn p.0 target.0 (turn (alone opening block) (p.0.cycle + 6)) refl p.1 target.1 at
      where
        by_turn : (p : Placed) (target : Target) (o : Option Target) → turn (alone opening block) (p.cycle + 6) ≡ o
            → In p block → (the_run block opening p).target ≡ Some target
            → get_or way.turns ((p.cycle + 6) % 6) None ≡ turn (alone opening block) (p.cycle + 6)
            → list_any is_some way.turns ≡ true
        by_turn p target None e h ran at =
            absurd ((turn_told (alone opening block) (p.cycle + 6)).none e target
            (record { placed = p; inside = Contains_from_In p block h; ran = ran; when = refl }))
        by_turn p target (Some other) e h ran at = at_any way.turns ((p.cycle + 6) % 6) other (at ∙ e)

    -- the places tell it
    pub in_flight : list_any is_some way.turns ≡ list_any (is_in_flight (the_run block opening) cycle) block
    in_flight =
        same_tests (list_any is_some way.turns) (list_any (is_in_flight (the_run block opening) cycle) block)
        (λ e. let r = any_at way.turns e in let size : length way.turns ≡ 6 = standing.row.size in placed_turn r.0 r.1
        (omega (arith, r.2)) r.3) flying_turn
