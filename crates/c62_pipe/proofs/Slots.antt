-- What the slots of the ring hold.
use Rattle.std.proofs.Common.{◌≡◌, Bool, true, false, inl, inr, ℕ, ◌+◌, ◌-◌, ◌%◌, ◌<◌, ◌≤◌, List, [], ◌∷◌, ◌++◌, length}
use Rattle.std.proofs.Common.{get_or, set, cond, eqb, refl, sym, ◌∙◌, ap, subst, ⊎_elim, append_assoc, length-append}
use Rattle.std.proofs.Common.{arith}
use Rattle.std.specs.List.{zip, flat_map}
use Rattle.std.proofs.lemmas.Bool.{cases_eq, cases_lt, cond-false, cond_both, eqb-true, ne_eqb}
use Rattle.std.proofs.lemmas.List.{append-nil, length-set, get_or-set_other, get_or_past}
use Rattle.std.proofs.lemmas.Grind.{get_or-set_at}
use Rattle.std.proofs.lemmas.List.Elements.{All-from_get_or}
use Rattle.c62_op.specs.declared.register.Reg.{Reg}
use Rattle.c62_insn.specs.declared.insn.Insn.{Insn}
use Rattle.c62_insn.specs.Insn.{op_of, operands_of, register_writes}
use Rattle.c62_insn.proofs.InsnLemmas.{writes_delay}
use Rattle.c62_serial.specs.Effect.{Act, no_act, runs, operand_values, act_on, act_of}
use Rattle.c62_packet.specs.declared.placed.Placed.{Placed}
use Rattle.c62_meaning.specs.Packet.{Did}
use Rattle.c62_meaning.proofs.Lookup.{In, Contains_from_In}
use Rattle.c62_meaning.proofs.Landings.{act_writes, Rising, rising_writes}
use Rattle.c62_pipe.specs.Flight.{Slot, due, made_by, with_write, with_writes, FitsSlots}
use Rattle.std.proofs.lemmas.Bool.Decides.{nat_tests}

-- of the writes of an instruction of this line issued in this cycle, those that land at t
abbrev pub due_of : ℕ → ℕ → ℕ → List ((Reg × ℕ) × ℕ) → Slot
due_of t cycle line [] = []
due_of t cycle line (w ∷ ws) = cond (eqb (cycle + w.0.1) t) (made_by line w ∷ due_of t cycle line ws)
    (due_of t cycle line ws)

-- of the writes of instructions, those that land at t
abbrev pub due_in : Did → ℕ → List Placed → Slot
due_in did t ps = flat_map (λ p. due_of t p.cycle p.line (did p).writes) ps

-- a write lands within four cycles
abbrev pub AreSoon : List ((Reg × ℕ) × ℕ) → Type 0
AreSoon ws = (w : (Reg × ℕ) × ℕ) → In w ws → w.0.1 ≤ 4

-- ---- the slot of a cycle

-- within five cycles each has a slot of its own
apart : (c t u : ℕ) → c ≤ t → t < c + 5 → c ≤ u → u < c + 5 → (t ≡ u → ⊥) → t % 5 ≡ u % 5 → ⊥
apart c t u a b d e ne same = ne (omega arith)

pub due-set_same : (slots : List Slot) (t u : ℕ) (slot : Slot) → length slots ≡ 5 → t % 5 ≡ u % 5
    → due (set slots (u % 5) slot) t ≡ slot
due-set_same slots t u slot l e = grind (arith, get_or-set_at slots (u % 5) (t % 5) slot)

pub due-set_other : (slots : List Slot) (t u : ℕ) (slot : Slot) → (t % 5 ≡ u % 5 → ⊥)
    → due (set slots (u % 5) slot) t ≡ due slots t
due-set_other slots t u slot ne = get_or-set_other slots (u % 5) (t % 5) slot [] ne

due_write : (c line t : ℕ) (slots : List Slot) (w : (Reg × ℕ) × ℕ) → length slots ≡ 5 → c ≤ t → t < c + 5 → w.0.1 ≤ 4
    → due (with_write c line slots w) t ≡ cond (eqb (c + w.0.1) t) (due slots t ++ made_by line w ∷ []) (due slots t)
due_write c line t slots w l a b s = grind (arith, nat_tests, due-set_same, due-set_other, apart)

pub length-writes : (c line : ℕ) (ws : List ((Reg × ℕ) × ℕ)) (slots : List Slot)
    → length (with_writes c line ws slots) ≡ length slots
length-writes c line [] slots = refl
length-writes c line (w ∷ ws) slots = length-writes c line ws (with_write c line slots w)
    ∙ length-set slots ((c + w.0.1) % 5) _

pub due_writes : (c line t : ℕ) (ws : List ((Reg × ℕ) × ℕ)) (slots : List Slot) → length slots ≡ 5 → c ≤ t → t < c + 5
    → AreSoon ws
    → due (with_writes c line ws slots) t ≡ due slots t ++ due_of t c line ws
due_writes c line t [] slots l a b s = sym (append-nil (due slots t))
due_writes c line t (w ∷ ws) slots l a b s =
    due_writes c line t ws (with_write c line slots w) (length-set slots ((c + w.0.1) % 5) _
    ∙ l) a b (λ v h. s v (inr h))
    ∙ ap (λ slot. slot ++ due_of t c line ws) (due_write c line t slots w l a b (s w (inl refl)))
    ∙ step (eqb (c + w.0.1) t)
  where
    step : (x : Bool) → cond x (due slots t ++ made_by line w ∷ []) (due slots t) ++ due_of t c line ws
        ≡ due slots t ++ cond x (made_by line w ∷ due_of t c line ws) (due_of t c line ws)
    step true = append_assoc (due slots t) (made_by line w ∷ []) (due_of t c line ws)
    step false = refl

-- ---- what an instruction adds

pub act_soon : (insn : Insn) (base : ℕ) (word : Reg → ℕ) (byte : ℕ → ℕ) → AreSoon (act_of insn base word byte).writes
act_soon insn base word byte w h = writes_delay insn w.0.0 w.0.1
    (Contains_from_In w.0 (register_writes insn) (act_writes insn base word byte w h))

pub due_none : (t c line : ℕ) (ws : List ((Reg × ℕ) × ℕ)) → ((w : (Reg × ℕ) × ℕ) → In w ws → c + w.0.1 ≡ t → ⊥)
    → due_of t c line ws ≡ []
due_none t c line [] h = refl
due_none t c line (w ∷ ws) h =
    cond-false _ _ _ (ne_eqb _ _ (h w (inl refl))) ∙ due_none t c line ws (λ v k. h v (inr k))

In-keys : (ks : List (Reg × ℕ)) (vs : List ℕ) (w : (Reg × ℕ) × ℕ) → In w (zip ks vs) → In w.0 ks
In-keys [] vs w h = absurd h
In-keys (k ∷ ks) vs w h = grind (arith, In-keys ks)

one_due : (t c line : ℕ) (ks : List (Reg × ℕ)) (vs : List ℕ) → Rising ks → length (due_of t c line (zip ks vs)) ≤ 1
one_due t c line [] vs h = omega arith
one_due t c line (k ∷ ks) [] h = omega arith
one_due t c line (k ∷ ks) (v ∷ vs) h =
    let P : Slot → Type 0 = λ slot. length slot ≤ 1 in
    cond_both (eqb (c + k.1) t) (made_by line (k, v) ∷ due_of t c line (zip ks vs)) (due_of t c line (zip ks vs)) P
    (λ e.
    let at : c + k.1 ≡ t = eqb-true _ _ e in
    let none : due_of t c line (zip ks vs) ≡ [] = due_none t c line (zip ks vs)
    (λ w i f. let r : k.1 < w.0.1 = h.0 w.0 (In-keys ks vs w i) in omega arith) in
    rw none (omega arith))
    (λ e. one_due t c line ks vs h.1)

-- an instruction has at most one write that lands at t
pub few_due : (t c line : ℕ) (insn : Insn) (base : ℕ) (word : Reg → ℕ) (byte : ℕ → ℕ)
    → length (due_of t c line (act_of insn base word byte).writes) ≤ 1
few_due t c line insn base word byte =
    let P : Act → Type 0 = λ a. length (due_of t c line a.writes) ≤ 1 in
    cond_both (runs word insn) (act_on insn base (operand_values word insn) byte) no_act P
    (λ e. one_due t c line (register_writes insn) _ (rising_writes (op_of insn) (operands_of insn))) (λ e. omega arith)

-- it fits where each slot of the five cycles holds at most 39
pub fits : (c line : ℕ) (ws : List ((Reg × ℕ) × ℕ)) (slots : List Slot) → length slots ≡ 5 → AreSoon ws
    → ((t : ℕ) → length (due_of t c line ws) ≤ 1)
    → ((t : ℕ) → c ≤ t → t < c + 5 → length (due slots t) ≤ 39) → FitsSlots (with_writes c line ws slots)
fits c line ws slots l s one h = All-from_get_or (λ slot. length slot ≤ 40) (with_writes c line ws slots) [] at
  where
    at : (k : ℕ) → k < length (with_writes c line ws slots) → length (get_or (with_writes c line ws slots) k []) ≤ 40
    at k u =
        let n : length (with_writes c line ws slots) ≡ 5 = length-writes c line ws slots ∙ l in
        let t : ℕ = c + (k + 5 - c % 5) % 5 in
        let from : c ≤ t = omega arith in
        let below : t < c + 5 = omega arith in
        let slot : t % 5 ≡ k = omega arith in
        let e : get_or (with_writes c line ws slots) (t % 5) [] ≡ due slots t ++ due_of t c line ws = due_writes c line
        t ws slots l from below s in
        let m : length (due slots t ++ due_of t c line ws) ≤ 40
        = (let x : length (due slots t) ≤ 39 = h t from below in let y : length (due_of t c line ws) ≤ 1 = one t in
        omega (arith, length-append (due slots t) (due_of t c line ws))) in
        subst (λ j. length (get_or (with_writes c line ws slots) j []) ≤ 40) slot (rw e m)

-- ---- room for one write more

grows : (c line : ℕ) (ws : List ((Reg × ℕ) × ℕ)) (slots : List Slot) (k : ℕ) → k < length slots
    → length (get_or slots k []) ≤ length (get_or (with_writes c line ws slots) k [])
grows c line [] slots k l = omega arith
grows c line (w ∷ ws) slots k l =
    let n : length (with_write c line slots w) ≡ length slots = length-set slots ((c + w.0.1) % 5) _ in
    let rest : length (get_or (with_write c line slots w) k []) ≤ length
    (get_or (with_writes c line ws (with_write c line slots w)) k []) = grows c line ws
    (with_write c line slots w) k (omega arith) in
    let one : length (get_or slots k []) ≤ length (get_or (with_write c line slots w) k [])
    = ⊎_elim {C = length (get_or slots k []) ≤ length (get_or (with_write c line slots w) k [])}
    (λ e.
    let at : get_or (with_write c line slots w) k [] ≡ due slots (c + w.0.1) ++ made_by line w ∷ [] = get_or-set_at
    slots ((c + w.0.1) % 5) k (due slots (c + w.0.1) ++ made_by line w ∷ []) [] e (omega arith) in
    let size : length (get_or (with_write c line slots w) k []) ≡ length (due slots (c + w.0.1)) + 1 = ap length at
    ∙ length-append (due slots (c + w.0.1)) (made_by line w ∷ []) in
    let same : length (due slots (c + w.0.1)) ≡ length (get_or slots k []) = ap (λ j. length (get_or slots j []))
    (sym e) in
    omega arith)
    (λ ne. let same : length (get_or (with_write c line slots w) k []) ≡ length (get_or slots k []) = ap length
    (get_or-set_other slots ((c + w.0.1) % 5) k (due slots (c + w.0.1) ++ made_by line w ∷ []) [] ne) in omega
    arith)
    (cases_eq k ((c + w.0.1) % 5)) in
    omega arith

pub room_for : (c line : ℕ) (w : (Reg × ℕ) × ℕ) (ws : List ((Reg × ℕ) × ℕ)) (slots : List Slot)
    → FitsSlots (with_writes c line (w ∷ ws) slots) → length (due slots (c + w.0.1)) < 40
room_for c line w ws slots fits =
    let k : ℕ = (c + w.0.1) % 5 in
    ⊎_elim {C = length (due slots (c + w.0.1)) < 40}
    (λ l.
    let n : length (with_write c line slots w) ≡ length slots = length-set slots ((c + w.0.1) % 5) _ in
    let m : length (with_writes c line (w ∷ ws) slots) ≡ length slots = length-writes c line (w ∷ ws) slots in
    let all : length (get_or (with_writes c line ws (with_write c line slots w)) ((c + w.0.1) % 5) []) ≤ 40 = fits
    ((c + w.0.1) % 5) [] (omega arith) in
    let rest : length (get_or (with_write c line slots w) ((c + w.0.1) % 5) []) ≤ length
    (get_or (with_writes c line ws (with_write c line slots w)) ((c + w.0.1) % 5) []) = grows c line ws
    (with_write c line slots w) ((c + w.0.1) % 5) (omega arith) in
    let at : get_or (with_write c line slots w) ((c + w.0.1) % 5) [] ≡ due slots (c + w.0.1) ++ made_by line w ∷ [] =
    get_or-set_at slots ((c + w.0.1) % 5) ((c + w.0.1) % 5) (due slots (c + w.0.1) ++ made_by line w ∷ []) []
    refl l in
    let size : length (get_or (with_write c line slots w) ((c + w.0.1) % 5) []) ≡ length (due slots (c + w.0.1)) + 1 =
    ap length at ∙ length-append (due slots (c + w.0.1)) (made_by line w ∷ []) in
    omega arith)
    (λ g. let none : length (due slots (c + w.0.1)) ≡ 0 = ap length (get_or_past slots ((c + w.0.1) % 5) [] g) in omega
    arith)
    (cases_lt ((c + w.0.1) % 5) (length slots))
