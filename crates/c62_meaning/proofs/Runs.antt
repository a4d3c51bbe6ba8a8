-- Every block of packets has one run.
use Rattle.std.proofs.Common.{◌≡◌, ℕ, zero, suc, ◌+◌, ◌*◌, ◌<◌, List, [], ◌∷◌, ◌++◌, map, refl, sym, ◌∙◌, ap, inl, inr}
use Rattle.std.proofs.Common.{⊎_elim, arith}
use Rattle.std.proofs.lemmas.Bool.{cases_lt}
use Rattle.std.specs.List.{flat_map}
use Rattle.c62_op.specs.declared.register.Reg.{Reg}
use Rattle.c62_op.specs.Units.{index_of as unit_index}
use Rattle.c62_serial.specs.State.{Machine, index_of, byte_in}
use Rattle.c62_serial.specs.Effect.{Act, no_act, act_of}
use Rattle.c62_packet.specs.declared.placed.Placed.{Placed}
use Rattle.c62_meaning.specs.Landing.{latest, value_or}
use Rattle.c62_meaning.specs.Packet.{Did, write_landing, access_landings, access_time, register_landings}
use Rattle.c62_meaning.specs.Packet.{memory_landings, word_before, byte_before, IsRun}
use Rattle.c62_meaning.proofs.Lookup.{In, In_from_Contains, Contains_from_In, latest-append, latest-late}
use Rattle.c62_meaning.proofs.Acting.{act_same}
use Rattle.c62_meaning.proofs.Landings.{from_In-writes, from_In-access}

-- what was issued before t did the same
abbrev pub Same : List Placed → Did → Did → ℕ → Type 0
Same block did did' t = (p : Placed) → In p block → p.cycle < t → did p ≡ did' p

same_latest : (block : List Placed) (did did' : Did) (t cell : ℕ) → Same block did did' t
    → latest cell t (flat_map (register_landings did) block) ≡ latest cell t (flat_map (register_landings did') block)
same_latest [] did did' t cell same = refl
same_latest (p ∷ ps) did did' t cell same =
    let rest = same_latest ps did did' t cell (λ q h l. same q (inr h) l) in
    ⊎_elim {C = latest cell t (flat_map (register_landings did) (p ∷ ps)) ≡ latest cell t
    (flat_map (register_landings did') (p ∷ ps))}
    (λ lt. latest-append cell t (register_landings did p) _ _ rest
    ∙ ap (λ (a : Act). latest cell t
    (map (write_landing p.cycle) a.writes ++ flat_map (register_landings did') ps)) (same p (inl refl) lt))
    (λ ge. latest-late cell t (register_landings did p) _
    (λ w h. let s = from_In-writes p.cycle (did p).writes w h in let e : w.time ≡ p.cycle + s.0.0.1 = s.3 in
    omega arith)
    ∙ rest ∙ sym (latest-late cell t (register_landings did' p) _
    (λ w h. let s = from_In-writes p.cycle (did' p).writes w h in let e : w.time ≡ p.cycle + s.0.0.1 = s.3 in
    omega arith)))
    (cases_lt p.cycle t)

same_stored : (block : List Placed) (did did' : Did) (t a : ℕ) → Same block did did' t
    → latest a (8 * t) (flat_map (memory_landings did) block) ≡ latest a (8 * t) (flat_map (memory_landings did') block)
same_stored [] did did' t a same = refl
same_stored (p ∷ ps) did did' t a same =
    let rest = same_stored ps did did' t a (λ q h l. same q (inr h) l) in
    ⊎_elim {C = latest a (8 * t) (flat_map (memory_landings did) (p ∷ ps)) ≡ latest a (8 * t)
    (flat_map (memory_landings did') (p ∷ ps))}
    (λ lt. latest-append a (8 * t) (memory_landings did p) _ _ rest
    ∙ ap (λ (x : Act). latest a (8 * t)
    (access_landings (access_time p) x.access ++ flat_map (memory_landings did') ps)) (same p (inl refl) lt))
    (λ ge. latest-late a (8 * t) (memory_landings did p) _
    (λ w h. let e : w.time ≡ 8 * p.cycle + unit_index p.unit =
    (from_In-access (access_time p) (did p).access w h).at in omega arith)
    ∙ rest ∙ sym (latest-late a (8 * t) (memory_landings did' p) _
    (λ w h. let e : w.time ≡ 8 * p.cycle + unit_index p.unit =
    (from_In-access (access_time p) (did' p).access w h).at in omega arith)))
    (cases_lt p.cycle t)

pub same_words : (block : List Placed) (s : Machine) (did did' : Did) (t : ℕ) (reg : Reg) → Same block did did' t
    → word_before block s did t reg ≡ word_before block s did' t reg
same_words block s did did' t reg same = grind (arith, same_latest block did did' t (index_of reg) same)

pub same_bytes : (block : List Placed) (s : Machine) (did did' : Did) (t a : ℕ) → Same block did did' t
    → byte_before block s did t a ≡ byte_before block s did' t a
same_bytes block s did did' t a same = ap (λ o. value_or o (byte_in s a)) (same_stored block did did' t a same)

-- what an instruction does, where those issued before it did this
abbrev pub act_after : List Placed → Machine → Did → Placed → Act
act_after block s did p = act_of p.insn s.base (word_before block s did p.cycle) (byte_before block s did p.cycle)

act_after_same : (block : List Placed) (s : Machine) (did did' : Did) (p : Placed) → Same block did did' p.cycle
    → act_after block s did p ≡ act_after block s did' p
act_after_same block s did did' p same =
    act_same p.insn s.base s.base (word_before block s did p.cycle) (word_before block s did' p.cycle)
    (byte_before block s did p.cycle) (byte_before block s did' p.cycle) refl
    (λ reg h. same_words block s did did' p.cycle reg same)
    (λ a h. same_bytes block s did did' p.cycle a same)

-- what does the same as a run is one
pub run_same : (block : List Placed) (s : Machine) (did did' : Did) → ((p : Placed) → In p block → did p ≡ did' p)
    → IsRun block s did → IsRun block s did'
run_same block s did did' same run p h =
    sym (same p (In_from_Contains p block h)) ∙ run p h ∙ act_after_same block s did did' p (λ q k l. same q k)

-- two runs of a block do the same
pub one_run : (block : List Placed) (s : Machine) (did did' : Did) → IsRun block s did → IsRun block s did' → (t : ℕ)
    → Same block did did' t
one_run block s did did' r r' zero p h l = absurd (omega arith)
one_run block s did did' r r' (suc t) p h l =
    r p (Contains_from_In p block h)
    ∙ act_after_same block s did did' p (λ q k u. one_run block s did did' r r' t q k (omega arith))
    ∙ sym (r' p (Contains_from_In p block h))

-- what the instructions do, to this depth
unfoldable pub acts_to : List Placed → Machine → ℕ → Did
acts_to block s zero p = no_act
acts_to block s (suc k) p = act_after block s (acts_to block s k) p

acts_settle : (block : List Placed) (s : Machine) (k m : ℕ) (p : Placed) → p.cycle < k → p.cycle < m
    → acts_to block s k p ≡ acts_to block s m p
unfolding acts_to
acts_settle block s zero m p l u = absurd (omega arith)
acts_settle block s (suc k) zero p l u = absurd (omega arith)
acts_settle block s (suc k) (suc m) p l u = grind (arith, acts_settle block s k m, act_after_same block s)

unfoldable pub the_run : List Placed → Machine → Did
the_run block s p = acts_to block s (suc p.cycle) p

-- each block has a run
pub the_run_runs : (block : List Placed) (s : Machine) → IsRun block s (the_run block s)
unfolding the_run acts_to
the_run_runs block s p h = grind (arith, act_after_same, acts_settle)
