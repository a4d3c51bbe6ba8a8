-- The lines that a run of packets leaves as faulted are those of its faults.
use Rattle.std.proofs.Common.{◌≡◌, ◌∙◌, ◌⊎◌, inl, inr, ℕ, Bool, true, false, List, [], ◌∷◌, ◌++◌, length, Option, Some}
use Rattle.std.proofs.Common.{None, refl, sym, ap, subst, arith}
use Rattle.std.specs.Prelude.{◌↔◌, ◌%◌, ◌+◌, ◌==◌, ◌&&◌, ◌||◌, nat_le, Contains, IsTrue}
use Rattle.std.specs.Option.{option_to_list}
use Rattle.std.proofs.lemmas.Bool.Decides.{nat_tests}
use Rattle.std.proofs.lemmas.List.Folds.{list_any-append}
use Rattle.c62_insn.specs.declared.effect.Access.{Access}
use Rattle.c62_serial.specs.declared.chain.Chain.{Chain}
use Rattle.c62_serial.specs.declared.state.TheConstants.{MEMORY_BYTES}
use Rattle.c62_serial.specs.State.{Machine, IsSound}
use Rattle.c62_serial.specs.Effect.{is_fault}
use Rattle.c62_serial.specs.Chain.{Standing}
use Rattle.c62_serial.proofs.ChainLemmas.{one_chain}
use Rattle.c62_packet.specs.declared.placed.Placed.{Placed}
use Rattle.c62_packet.specs.Packed.{Packed}
use Rattle.c62_meaning.specs.Packet.{Did}
use Rattle.c62_meaning.specs.Meaning.{HasFaulted}
use Rattle.c62_meaning.proofs.Lookup.{In, In_from_Contains, Contains_from_In}
use Rattle.c62_pipe.specs.Chain.{RunsPackets, block_of, packet_blocks}
use Rattle.c62_pipe.proofs.Chains.{packets_determined}
use Rattle.c62_flight.specs.declared.stop.Stop.{Stop}
use Rattle.c62_flight.specs.Text.{Text}
use Rattle.c62_flight.specs.Issued.{issued_on}
use Rattle.c62_flight.specs.Flight.{Flies}
use Rattle.c62_flight.specs.Laws.{Outcome}
use Rattle.c62_flight.proofs.OneFlight.{one_flight}
use Rattle.c62_faulted.specs.declared.fault.Fault.{Fault}
use Rattle.c62_faulted.specs.Faulted.{fault_by, has_line, with_faults}
use Rattle.c62_faulted.proofs.FirstLemmas.{line_all}
use Rattle.c62_faulted_packets.specs.Done.{entry_of, fault_done, faults_done}
use Rattle.c62_faulted_packets.specs.Chain.{FaultOn, FindsPacketFaults}
use Rattle.c62_faulted_packets.specs.Flight.{FindsFlightFaults}

abbrev is_on : ℕ → Fault → Bool
is_on line fault = line == fault.line

-- ---- an instruction

access_line : (line : ℕ) (p : Placed) (access : Access)
    → has_line line (option_to_list (fault_by (entry_of p) (Some access))) ≡ (is_fault (Some access) && line == p.line)
access_line line p access = either (access.address % access.size == 0) refl
    (nat_le (access.address + access.size) MEMORY_BYTES) refl
  where
    or_false : (b : Bool) → (b || false) ≡ b
    or_false true = refl
    or_false false = refl

    either : (b : Bool) → access.address % access.size == 0 ≡ b → (c : Bool)
        → nat_le (access.address + access.size) MEMORY_BYTES ≡ c
        → has_line line (option_to_list (fault_by (entry_of p) (Some access))) ≡
        (is_fault (Some access) && line == p.line)
    either false e c f = rw e (or_false (line == p.line))
    either true e true f = rw (e, f) refl
    either true e false f = rw (e, f) (or_false (line == p.line))

one_line : (line : ℕ) (p : Placed) (access : Option Access)
    → has_line line (option_to_list (fault_by (entry_of p) access)) ≡ (is_fault access && line == p.line)
one_line line p None = refl
one_line line p (Some access) = access_line line p access

-- ---- instructions

-- one of these, of this line, made an access that faults
abbrev Faulty : Did → List Placed → ℕ → Type 0
Faulty did ps line = (p : Placed) × In p ps × (p.line ≡ line) × IsTrue (is_fault (did p).access)

line_of_done : (did : Did) (ps : List Placed) (line : ℕ) → IsTrue (has_line line (faults_done did ps))
    → Faulty did ps line
line_of_done did [] line h = absurd cc
line_of_done did (p ∷ ps) line h =
    let parts : (has_line line (option_to_list (fault_done did p)) || has_line line (faults_done did ps)) ≡ true = sym
    (list_any-append (is_on line) (option_to_list (fault_done did p)) (faults_done did ps)) ∙ h in
    either (is_fault (did p).access) refl (line == p.line) refl parts (λ later. line_of_done did ps line later)
  where
    Before : Type 0
    Before = IsTrue (has_line line (faults_done did ps)) → Faulty did ps line

    behind : IsTrue (has_line line (faults_done did ps)) → Before → Faulty did (p ∷ ps) line
    behind later rest = let r = rest later in (r.0, inr r.1, r.2, r.3)

    either : (b : Bool) → is_fault (did p).access ≡ b → (c : Bool) → (line == p.line) ≡ c
        → (has_line line (option_to_list (fault_done did p)) || has_line line (faults_done did ps)) ≡ true
        → Before → Faulty did (p ∷ ps) line
    either true e true f parts rest =
        (p, inl refl, (let same : line ≡ p.line = grind (arith, nat_tests, f) in sym same), e)
    either true e false f parts rest =
        let none : has_line line (option_to_list (fault_done did p)) ≡ false = one_line line p (did p).access
        ∙ rw (e, f) refl in
        behind (rw none at parts) rest
    either false e c f parts rest =
        let none : has_line line (option_to_list (fault_done did p)) ≡ false = one_line line p (did p).access
        ∙ rw e refl in
        behind (rw none at parts) rest

done_of_line : (did : Did) (ps : List Placed) (line : ℕ) → Faulty did ps line
    → IsTrue (has_line line (faults_done did ps))
done_of_line did [] line (q, h, e, f) = absurd h
done_of_line did (p ∷ ps) line (q, h, e, f) =
    list_any-append (is_on line) (option_to_list (fault_done did p)) (faults_done did ps)
    ∙ either h (λ k. done_of_line did ps line (q, k, e, f))
  where
    or_true : (b : Bool) → (b || true) ≡ true
    or_true true = refl
    or_true false = refl

    either : (p ≡ q) ⊎ In q ps → (In q ps → IsTrue (has_line line (faults_done did ps)))
        → (has_line line (option_to_list (fault_done did p)) || has_line line (faults_done did ps)) ≡ true
    either (inl same) rest =
        let fault : is_fault (did p).access ≡ true = subst (λ (r : Placed). is_fault (did r).access ≡ true) (sym same) f
        in
        let at : p.line ≡ line = subst (λ (r : Placed). r.line ≡ line) (sym same) e in
        let test : (line == p.line) ≡ true = grind (arith, nat_tests, at) in
        let here : has_line line (option_to_list (fault_done did p)) ≡ true = one_line line p (did p).access
        ∙ rw (fault, test) refl in
        rw here refl
    either (inr k) rest =
        let later : has_line line (faults_done did ps) ≡ true = rest k in
        rw later (or_true (has_line line (option_to_list (fault_done did p))))

-- the lines of what instructions did that faults
pub lines_done : (did : Did) (ps : List Placed) (line : ℕ)
    → IsTrue (has_line line (faults_done did ps)) ↔ HasFaulted ps did line
lines_done did ps line = (
  (λ h. let r = line_of_done did ps line h in
      record { placed = r.0; inside = Contains_from_In r.0 ps r.1; of_line = r.2; faults = r.3 }),
  (λ h. done_of_line did ps line (h.placed, In_from_Contains h.placed ps h.inside, h.of_line, h.faults)),
)

-- ---- chains

only : {P : Type 0} (line : ℕ) → Contains [] line ⊎ P → P
only line (inl c) = let e = c.1 in absurd (omega (arith, e))
only line (inr p) = p

-- a line had faulted, or does here, or behind it
has_come : (A B C : Type 0) (x y z : Bool) → x ≡ (y || z) → (A → B ⊎ C) → (C → IsTrue y) → A ⊎ IsTrue z → B ⊎ IsTrue x
has_come A B C x y z all here lines (inr h) = inr (let e : z ≡ true = h in grind (arith, all, e))
has_come A B C x y z all here lines (inl a) = by (here a)
  where
    by : B ⊎ C → B ⊎ IsTrue x
    by (inl b) = inl b
    by (inr c) = inr (let e : y ≡ true = lines c in grind (arith, all, e))

comes : (A B C : Type 0) (x y z : Bool) → x ≡ (y || z) → (B ⊎ C → A) → (IsTrue y → C) → B ⊎ IsTrue x → A ⊎ IsTrue z
comes A B C x y z all here lines (inl b) = inl (here (inl b))
comes A B C x true z all here lines (inr h) = inl (here (inr (lines refl)))
comes A B C x false z all here lines (inr h) = inr (sym all ∙ h)

come_lines : (packets : List Packed) (machine final : Machine) (numbers : List ℕ) (faults : List Fault) (line : ℕ)
    → FaultOn packets machine numbers final faults
    → Contains final.faults line ↔ (Contains machine.faults line ⊎ IsTrue (has_line line faults))
come_lines packets machine final [] faults line come =
    let P : Machine → List Fault → Type 0 = λ m fs. Contains m.faults line
    ↔ (Contains machine.faults line ⊎ IsTrue (has_line line fs)) in
    subst (λ m. P m faults) (sym come.0) (subst (λ fs. P machine fs) (sym come.1) ((λ c. inl c), first))
  where
    first : Contains machine.faults line ⊎ IsTrue false → Contains machine.faults line
    first (inl c) = c
    first (inr e) = absurd cc
come_lines packets machine final (number ∷ numbers) faults line come =
    let block : List Placed = (block_of packets number).placed in
    let mine : List Fault = faults_done come.1.did (block_of packets number).placed in
    let rest = come_lines packets come.0.machine final numbers come.2 line come.3 in
    let here = come.1.leaves.state.faults line in
    let lines = lines_done come.1.did (block_of packets number).placed line in
    let all : has_line line faults ≡ (has_line line mine || has_line line come.2) =
    ap (λ (fs : List Fault). has_line line fs) come.4 ∙ list_any-append (is_on line) mine come.2 in (
      (λ c. has_come (Contains come.0.machine.faults line) (Contains machine.faults line)
          (HasFaulted block come.1.did line) (has_line line faults) (has_line line mine) (has_line line come.2)
          all here.0
          lines.1 (rest.0 c)),
      (λ h. rest.1 (comes (Contains come.0.machine.faults line) (Contains machine.faults line)
          (HasFaulted block come.1.did line) (has_line line faults) (has_line line mine) (has_line line come.2)
          all here.1
          lines.0 h)),
    )

pub tells_packet_lines : (packets : List Packed) (opening : Machine) (limit : ℕ) (told : List Fault) (chain : Chain)
    (cycles : ℕ) (final : Machine)
    → IsSound opening → opening.faults ≡ [] → FindsPacketFaults packets opening limit told
    → RunsPackets packets opening limit chain cycles final
    → (line : ℕ) → IsTrue (has_line line told) ↔ Contains final.faults line
tells_packet_lines packets opening limit told chain cycles final sound none finds runs line =
    let same = one_chain (length packets) (packet_blocks packets) opening limit finds.standing runs.standing
    (packets_determined packets) sound finds.whole runs.whole in
    let machine : final ≡ finds.standing.machine = runs.left
    ∙ sym (ap (λ (standing : Standing). standing.machine) same) in
    let all : has_line line told ≡ has_line line finds.faults = ap (λ (fs : List Fault). has_line line fs) finds.first
    ∙ line_all line [] finds.faults in
    let lines = subst (λ (m : Machine). Contains m.faults line ↔ (Contains opening.faults line
    ⊎ IsTrue (has_line line finds.faults))) (sym machine)
    (come_lines packets opening finds.standing.machine finds.standing.numbers finds.faults line finds.come) in (
      (λ h. lines.1 (inr (sym all ∙ h))),
      (λ c. all ∙ only line (subst (λ (before : List ℕ). Contains before line ⊎ IsTrue
          (has_line line finds.faults)) none
          (lines.0 c))),
    )

-- ---- flights

pub tells_flight_lines : (text : Text) (first limit : ℕ) (opening : Machine) (told : List Fault) (stop : Stop)
    (cycles : ℕ) (final : Machine)
    → opening.faults ≡ [] → FindsFlightFaults text first limit opening told
    → Flies text first limit opening stop cycles final
    → (line : ℕ) → IsTrue (has_line line told) ↔ Contains final.faults line
tells_flight_lines text first limit opening told stop cycles final none finds flies line =
    let one : Outcome = record { stop = finds.stop; cycles = finds.cycles; final = finds.final } in
    let other : Outcome = record { stop = stop; cycles = cycles; final = final } in
    let same : other ≡ one = one_flight text first limit opening one other finds.flies flies in
    let machine : final ≡ finds.final = ap (λ (outcome : Outcome). outcome.final) same in
    let faults : List Fault = faults_done finds.flies.did (issued_on text finds.flies.path) in
    let all : has_line line told ≡ has_line line faults = ap (λ (fs : List Fault). has_line line fs) finds.first_each
    ∙ line_all line [] faults in
    let left = finds.flies.runs.leaves.faults line in
    let lines = lines_done finds.flies.did (issued_on text finds.flies.path) line in (
      (λ h. subst (λ (m : Machine). Contains m.faults line) (sym machine) (left.1 (inr (lines.0 (sym all ∙ h))))),
      (λ c. all ∙ lines.1 (only line (subst (λ (before : List ℕ). Contains before line
          ⊎ HasFaulted (issued_on text finds.flies.path) finds.flies.did line) none
          (left.0 (subst (λ (m : Machine). Contains m.faults line) machine c))))),
    )
