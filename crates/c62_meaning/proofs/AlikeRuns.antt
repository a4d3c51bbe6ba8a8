-- Blocks with the same instructions in the same places, from whatever lines, do the same and leave the same but for
-- faults.
use Rattle.std.proofs.Common.{◌≡◌, ℕ, zero, suc, List, [], ◌∷◌, ◌++◌, map, get_or, refl, ◌∙◌, ap}
use Rattle.std.proofs.Common.{arith}
use Rattle.std.specs.Prelude.{fold}
use Rattle.std.specs.List.{flat_map}
use Rattle.c62_op.specs.declared.register.Reg.{Reg}
use Rattle.c62_rules.specs.PacketRules.{Issue}
use Rattle.c62_serial.specs.declared.serial.Exit.{Exit}
use Rattle.c62_serial.specs.declared.serial.Exit.TheVariants.{Next}
use Rattle.c62_serial.specs.State.{Machine, IsSound}
use Rattle.c62_serial.specs.Effect.{Act, act_of}
use Rattle.c62_serial.specs.Serial.{exit_after}
use Rattle.c62_serial.proofs.MachineLemmas.{same_machine}
use Rattle.c62_packet.specs.declared.placed.Placed.{Placed}
use Rattle.c62_packet.specs.Packed.{issue_of, issues_of}
use Rattle.c62_meaning.specs.Landing.{Landing}
use Rattle.c62_meaning.specs.Packet.{Did, register_landings, memory_landings, word_before, byte_before, IsRun}
use Rattle.c62_meaning.specs.Meaning.{LeavesState}
use Rattle.c62_meaning.specs.Alike.{without_faults, AreSameButFaults, MeanAlike}
use Rattle.c62_meaning.proofs.Lookup.{In}
use Rattle.c62_meaning.proofs.Acting.{act_same}
use Rattle.c62_meaning.proofs.Runs.{acts_to, the_run, the_run_runs, one_run}
use Rattle.c62_meaning.proofs.SerialPackets.{meaning_leaves}
use Rattle.std.proofs.lemmas.Bool.Decides.{nat_tests}

-- ---- lists of what stands alike

first_alike : (p q : Placed) (ps qs : List Placed) → issues_of (p ∷ ps) ≡ issues_of (q ∷ qs) → issue_of p ≡ issue_of q
first_alike p q ps qs alike = ap (λ (issues : List Issue). get_or issues 0 (issue_of p)) alike

rest_alike : (p q : Placed) (ps qs : List Placed) → issues_of (p ∷ ps) ≡ issues_of (q ∷ qs)
    → issues_of ps ≡ issues_of qs
rest_alike p q ps qs alike = cc

-- what depends on the issue alone
abbrev DoAlike : Did → Did → Type 0
DoAlike did did' = (p q : Placed) → issue_of p ≡ issue_of q → did p ≡ did' q

landings_alike : (f g : Placed → List Landing) (block others : List Placed) → issues_of block ≡ issues_of others
    → ((p q : Placed) → issue_of p ≡ issue_of q → f p ≡ g q) → flat_map f block ≡ flat_map g others
landings_alike f g [] [] alike same = refl
landings_alike f g [] (q ∷ qs) alike same = absurd cc
landings_alike f g (p ∷ ps) [] alike same = absurd cc
landings_alike f g (p ∷ ps) (q ∷ qs) alike same =
    ap (λ (ls : List Landing). ls ++ flat_map f ps) (same p q (first_alike p q ps qs alike))
    ∙ ap (λ (ls : List Landing). g q ++ ls) (landings_alike f g ps qs (rest_alike p q ps qs alike) same)

acts_listed : (did did' : Did) (block others : List Placed) → issues_of block ≡ issues_of others → DoAlike did did'
    → map did block ≡ map did' others
acts_listed did did' [] [] alike same = refl
acts_listed did did' [] (q ∷ qs) alike same = absurd cc
acts_listed did did' (p ∷ ps) [] alike same = absurd cc
acts_listed did did' (p ∷ ps) (q ∷ qs) alike same =
    ap (λ (act : Act). act ∷ map did ps) (same p q (first_alike p q ps qs alike))
    ∙ ap (λ (acts : List Act). did' q ∷ acts) (acts_listed did did' ps qs (rest_alike p q ps qs alike) same)

-- ---- what they find

-- two blocks, what their instructions did, and the machines before
record FindAlike (block others : List Placed) (s s' : Machine) (did did' : Did) : Type 0 where
  pub alike : issues_of block ≡ issues_of others
  pub same : AreSameButFaults s s'
  pub acts : DoAlike did did'

words_alike : (block others : List Placed) (s s' : Machine) (did did' : Did) (t : ℕ) (reg : Reg)
    → FindAlike block others s s' did did'
    → word_before block s did t reg ≡ word_before others s' did' t reg
words_alike block others s s' did did' t reg h = grind (
  arith,
  landings_alike (register_landings did) (register_landings did') block others h.alike,
)

bytes_alike : (block others : List Placed) (s s' : Machine) (did did' : Did) (t a : ℕ)
    → FindAlike block others s s' did did'
    → byte_before block s did t a ≡ byte_before others s' did' t a
bytes_alike block others s s' did did' t a h = grind (
  arith,
  landings_alike (memory_landings did) (memory_landings did') block others h.alike,
)

-- ---- what they do

acts_alike : (block others : List Placed) (s s' : Machine) (k : ℕ) → issues_of block ≡ issues_of others
    → AreSameButFaults s s'
    → DoAlike (acts_to block s k) (acts_to others s' k)
unfolding acts_to
acts_alike block others s s' zero alike same p q e = refl
acts_alike block others s s' (suc k) alike same p q e =
    let h : FindAlike block others s s' (acts_to block s k) (acts_to others s' k)
    = record { alike = alike; same = same; acts = acts_alike block others s s' k alike same } in
    act_same p.insn s.base s'.base (word_before block s (acts_to block s k) p.cycle)
    (word_before others s' (acts_to others s' k) p.cycle)
    (byte_before block s (acts_to block s k) p.cycle) (byte_before others s' (acts_to others s' k) p.cycle)
    (ap (λ (m : Machine). m.base) same)
    (λ reg _. words_alike block others s s' (acts_to block s k) (acts_to others s' k) p.cycle reg h)
    (λ a _. bytes_alike block others s s' (acts_to block s k) (acts_to others s' k) p.cycle a h)
    ∙ ap (λ (i : Issue). act_of i.insn s'.base (word_before others s' (acts_to others s' k) i.cycle)
    (byte_before others s' (acts_to others s' k) i.cycle)) e

runs_alike : (block others : List Placed) (s s' : Machine) → issues_of block ≡ issues_of others → AreSameButFaults s s'
    → DoAlike (the_run block s) (the_run others s')
unfolding the_run
runs_alike block others s s' alike same p q e =
    acts_alike block others s s' (suc p.cycle) alike same p q e
    ∙ ap (λ (i : Issue). acts_to others s' (suc i.cycle) q) e

listed_in : (did did' : Did) (ps : List Placed) → ((p : Placed) → In p ps → did p ≡ did' p) → map did ps ≡ map did' ps
listed_in did did' [] same = refl
listed_in did did' (p ∷ ps) same = grind (arith, listed_in did did' ps)

-- a run is the run of its block
run_listed : (block : List Placed) (s : Machine) (did : Did) → IsRun block s did
    → map did block ≡ map (the_run block s) block
run_listed block s did run =
    listed_in did (the_run block s) block
    (λ p h. one_run block s did (the_run block s) run (the_run_runs block s) (suc p.cycle) p h (omega arith))

-- ---- what they leave

bare_is_sound : (machine : Machine) → IsSound machine → IsSound (without_faults machine)
bare_is_sound machine sound = grind arith

same_left : (block others : List Placed) (cycles : ℕ) (opening opening' final final' : Machine)
    → FindAlike block others opening opening' (the_run block opening) (the_run others opening')
    → LeavesState block cycles opening (the_run block opening) final
    → LeavesState others cycles opening' (the_run others opening') final' → AreSameButFaults final final'
same_left block others cycles opening opening' final final' h p q = grind (
  arith,
  nat_tests,
  same_machine,
  bare_is_sound,
  words_alike,
  bytes_alike,
)

exit_listed : (did : Did) (ps : List Placed) (exit : Exit)
    → fold (λ exit p. exit_after exit (did p).target) exit ps ≡ fold (λ exit (act : Act). exit_after exit act.target)
    exit (map did ps)
exit_listed did [] exit = refl
exit_listed did (p ∷ ps) exit = exit_listed did ps (exit_after exit (did p).target)

pub mean_alike : (block others : List Placed) (cycles : ℕ) → MeanAlike block others cycles
mean_alike block others cycles alike opening opening' ran ran' same one other = grind (
  arith,
  runs_alike block others opening opening' alike same,
  run_listed block opening one.did one.run,
  acts_listed (the_run block opening) (the_run others opening') block others alike,
  run_listed others opening' other.did other.run,
  same_left block others cycles opening opening' ran.machine ran'.machine,
  meaning_leaves block cycles opening ran (the_run block opening) (the_run_runs block opening) one,
  the_run_runs block opening,
  meaning_leaves others cycles opening' ran' (the_run others opening') (the_run_runs others opening') other,
  the_run_runs others opening',
  exit_listed one.did block Next,
  exit_listed other.did others Next,
)
