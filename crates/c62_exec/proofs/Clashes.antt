-- A clash is two writes of one register in a slot.
use Rattle.std.proofs.Common.{◌≡◌, ℕ, suc, ◌+◌, ◌≤◌, Bool, true, false, ◌&&◌, ◌||◌, cond, eqb, List, [], ◌∷◌, ◌++◌}
use Rattle.std.proofs.Common.{length, Option, Some, None, refl, sym, ◌∙◌, ap, subst, inl, inr, arith}
use Rattle.std.specs.Prelude.{find, filter, option_map, ◌==◌}
use Rattle.std.specs.List.{flat_map, list_any}
use Rattle.std.specs.Option.{option_or}
use Rattle.std.proofs.lemmas.Bool.{and_left, ne_eqb}
use Rattle.c62_op.specs.declared.register.Reg.{Reg}
use Rattle.c62_op.specs.Takes.{same_reg}
use Rattle.c62_serial.specs.State.{Machine}
use Rattle.c62_serial.specs.Effect.{Act, act_of}
use Rattle.c62_packet.specs.declared.placed.Placed.{Placed}
use Rattle.c62_packet.specs.Clash.{is_landing}
use Rattle.c62_meaning.specs.Packet.{Did, word_before, byte_before}
use Rattle.c62_meaning.proofs.Lookup.{In, Contains_from_In}
use Rattle.c62_meaning.proofs.Runs.{the_run, the_run_runs}
use Rattle.c62_pipe.specs.declared.slot.Due.{Due}
use Rattle.c62_pipe.specs.Flight.{Slot, made_by}
use Rattle.c62_pipe.proofs.Slots.{due_of, due_in, few_due}
use Rattle.c62_flight.specs.declared.stop.Stop.{Stop}
use Rattle.c62_flight.specs.declared.stop.Stop.TheVariants.{Clash}
use Rattle.c62_flight.specs.Issued.{first_of}
use Rattle.c62_flight.specs.Broken.{has_branched, two_branches, lands_in, met_by, clash, broken}
use Rattle.c62_flight.proofs.Lists.{first_of-same, filter-none}
use Rattle.c62_exec.specs.Step.{met_in, clash_in}
use Rattle.c62_exec.proofs.Extended.{alone}

or_none : (o : Option Stop) → option_or o None ≡ o
or_none None = refl
or_none (Some stop) = refl

or_assoc : (a b c : Option Stop) → option_or (option_or a b) c ≡ option_or a (option_or b c)
or_assoc None b c = refl
or_assoc (Some stop) b c = refl

-- ---- a write that is met

-- the clash with the first of these writes in the slot that is of the register
abbrev found_in : Reg → ℕ → Slot → Option Stop
found_in reg line slot = option_map (λ (other : Due). Clash reg line other.line)
    (find (λ (other : Due). same_reg other.reg reg) slot)

-- of the writes of one instruction
found_of : (t c line : ℕ) (reg : Reg) (mine : ℕ) (ws : List ((Reg × ℕ) × ℕ)) (rest : Slot)
    → found_in reg mine (due_of t c line ws ++ rest) ≡ cond
    (list_any (λ (w : (Reg × ℕ) × ℕ). is_landing c reg t w.0) ws) (Some (Clash reg mine line))
    (found_in reg mine rest)
found_of t c line reg mine [] rest = refl
found_of t c line reg mine (w ∷ ws) rest =
    by_time (found_of t c line reg mine ws rest) (eqb (c + w.0.1) t)
  where
    by_reg : (found_in reg mine (due_of t c line ws ++ rest) ≡ cond
        (list_any (λ (v : (Reg × ℕ) × ℕ). is_landing c reg t v.0) ws) (Some (Clash reg mine line))
        (found_in reg mine rest)) → (same : Bool)
        → option_map (λ (other : Due). Clash reg mine other.line)
        (cond same (Some (made_by line w))
        (find (λ (other : Due). same_reg other.reg reg) (due_of t c line ws ++ rest)))
        ≡ cond ((same && true) || list_any (λ (v : (Reg × ℕ) × ℕ). is_landing c reg t v.0) ws)
        (Some (Clash reg mine line)) (found_in reg mine rest)
    by_reg others true = refl
    by_reg others false = others

    not_yet : (found_in reg mine (due_of t c line ws ++ rest) ≡ cond
        (list_any (λ (v : (Reg × ℕ) × ℕ). is_landing c reg t v.0) ws) (Some (Clash reg mine line))
        (found_in reg mine rest)) → (same : Bool)
        → found_in reg mine (due_of t c line ws ++ rest) ≡ cond
        ((same && false) || list_any (λ (v : (Reg × ℕ) × ℕ). is_landing c reg t v.0) ws)
        (Some (Clash reg mine line)) (found_in reg mine rest)
    not_yet others true = others
    not_yet others false = others

    by_time : (found_in reg mine (due_of t c line ws ++ rest) ≡ cond
        (list_any (λ (v : (Reg × ℕ) × ℕ). is_landing c reg t v.0) ws) (Some (Clash reg mine line))
        (found_in reg mine rest)) → (at : Bool)
        → found_in reg mine (cond at (made_by line w ∷ due_of t c line ws) (due_of t c line ws) ++ rest)
        ≡ cond ((same_reg w.0.0 reg && at) || list_any (λ (v : (Reg × ℕ) × ℕ). is_landing c reg t v.0) ws)
        (Some (Clash reg mine line)) (found_in reg mine rest)
    by_time others true = by_reg others (same_reg w.0.0 reg)
    by_time others false = not_yet others (same_reg w.0.0 reg)

-- of those of instructions
found_all : (did : Did) (t : ℕ) (reg : Reg) (mine : ℕ) (qs : List Placed)
    → option_map (λ (q : Placed). Clash reg mine q.line) (find (lands_in did reg t) qs) ≡ found_in reg mine
    (due_in did t qs)
found_all did t reg mine [] = refl
found_all did t reg mine (q ∷ qs) = by_test (found_all did t reg mine qs) (lands_in did reg t q)
    ∙ sym (found_of t q.cycle q.line reg mine (did q).writes (due_in did t qs))
  where
    by_test : (option_map (λ (r : Placed). Clash reg mine r.line) (find (lands_in did reg t) qs) ≡ found_in reg mine
        (due_in did t qs)) → (b : Bool)
        → option_map (λ (r : Placed). Clash reg mine r.line) (cond b (Some q) (find (lands_in did reg t) qs))
        ≡ cond b (Some (Clash reg mine q.line)) (found_in reg mine (due_in did t qs))
    by_test others true = refl
    by_test others false = others

-- ---- the first write that is met

abbrev met_at : ℕ → ℕ → ℕ → Slot → (Reg × ℕ) × ℕ → Option Stop
met_at t c line rest w = cond (eqb (c + w.0.1) t) (met_in (made_by line w) rest) None

none_due : (t c line : ℕ) (rest : Slot) (ws : List ((Reg × ℕ) × ℕ)) → length (due_of t c line ws) ≤ 0
    → first_of (met_at t c line rest) ws ≡ None
none_due t c line rest [] l = refl
none_due t c line rest (w ∷ ws) l = by_time (λ h. none_due t c line rest ws h) (eqb (c + w.0.1) t) l
  where
    by_time : (length (due_of t c line ws) ≤ 0 → first_of (met_at t c line rest) ws ≡ None) → (at : Bool)
        → length (cond at (made_by line w ∷ due_of t c line ws) (due_of t c line ws)) ≤ 0
        → option_or (cond at (met_in (made_by line w) rest) None) (first_of (met_at t c line rest) ws) ≡ None
    by_time others true h = absurd (omega arith)
    by_time others false h = others h

nothing : (slot : Slot) → length slot ≤ 0 → slot ≡ []
nothing [] l = refl
nothing (d ∷ slot) l = absurd (omega arith)

-- of an instruction of whose writes one lands at most
heads : (t c line : ℕ) (rest : Slot) (ws : List ((Reg × ℕ) × ℕ)) → length (due_of t c line ws) ≤ 1
    → clash_in (due_of t c line ws ++ rest) ≡ option_or (first_of (met_at t c line rest) ws) (clash_in rest)
heads t c line rest [] l = refl
heads t c line rest (w ∷ ws) l = by_time (λ h. heads t c line rest ws h) (eqb (c + w.0.1) t) l
  where
    by_time : (length (due_of t c line ws) ≤ 1
        → clash_in (due_of t c line ws ++ rest) ≡ option_or (first_of (met_at t c line rest) ws) (clash_in rest))
        → (at : Bool)
        → length (cond at (made_by line w ∷ due_of t c line ws) (due_of t c line ws)) ≤ 1
        → clash_in (cond at (made_by line w ∷ due_of t c line ws) (due_of t c line ws) ++ rest)
        ≡ option_or (option_or (cond at (met_in (made_by line w) rest) None) (first_of (met_at t c line rest) ws))
        (clash_in rest)
    by_time others true h =
        let few : length (due_of t c line ws) ≤ 0 = omega arith in
        let none : due_of t c line ws ≡ [] = nothing (due_of t c line ws) few in
        ap (λ slot. option_or (met_in (made_by line w) (slot ++ rest)) (clash_in (slot ++ rest))) none
        ∙ ap (λ o. option_or o (clash_in rest))
        (sym (ap (λ o. option_or (met_in (made_by line w) rest) o) (none_due t c line rest ws few)
        ∙ or_none (met_in (made_by line w) rest)))
    by_time others false h = others h

-- what clashes in a cycle is what clashes in its slot
pub clash_is : (did : Did) (t : ℕ) (ps : List Placed)
    → ((p : Placed) → In p ps → length (due_of t p.cycle p.line (did p).writes) ≤ 1)
    → clash did t ps ≡ clash_in (due_in did t ps)
clash_is did t [] h = refl
clash_is did t (p ∷ ps) h =
    ap (λ o. option_or o (clash did t ps))
    (first_of-same (met_by did t p ps) (met_at t p.cycle p.line (due_in did t ps)) (did p).writes
    (λ w _. ap (λ o. cond (eqb (p.cycle + w.0.1) t) o None) (found_all did t w.0.0 p.line ps)))
    ∙ ap (λ o. option_or (first_of (met_at t p.cycle p.line (due_in did t ps)) (did p).writes) o)
    (clash_is did t ps (λ q k. h q (inr k)))
    ∙ sym (heads t p.cycle p.line (due_in did t ps) (did p).writes (h p (inl refl)))

-- ---- in a run

pub clash_of_run : (block : List Placed) (opening : Machine) (t : ℕ)
    → clash (the_run block opening) t block ≡ clash_in (due_in (the_run block opening) t block)
clash_of_run block opening t =
    clash_is (the_run block opening) t block (λ p h.
    subst (λ (a : Act). length (due_of t p.cycle p.line a.writes) ≤ 1)
    (sym (the_run_runs block opening p (Contains_from_In p block h)))
    (few_due t p.cycle p.line p.insn opening.base (word_before block opening (the_run block opening) p.cycle)
    (byte_before block opening (the_run block opening) p.cycle)))

-- a cycle behind the last issue is broken by a clash alone
pub broken_later : (block : List Placed) (opening : Machine) (t : ℕ) → ((p : Placed) → In p block → p.cycle ≡ t → ⊥)
    → broken (alone opening block) t ≡ clash_in (due_in (the_run block opening) t block)
broken_later block opening t h =
    ap (λ fs. option_or (two_branches fs) (clash (the_run block opening) t block))
    (filter-none (has_branched (the_run block opening) t) block (λ p k. and_left _ _ (ne_eqb _ _ (h p k))))
    ∙ clash_of_run block opening t
