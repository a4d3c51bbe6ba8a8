-- A block of packets whose faults are noted.
use Rattle.std.proofs.Common.{◌≡◌, ◌∙◌, ℕ, ◌+◌, ◌<◌, List, [], ◌∷◌, ◌++◌, length, get_or, take, refl, sym, ap}
use Rattle.std.specs.Option.{option_to_list}
use Rattle.std.proofs.lemmas.List.{append-nil, take_all, take_more}
use Rattle.std.proofs.lemmas.List.Sums.{fold-append}
use Rattle.std.proofs.Common.{arith}
use Rattle.c62_serial.specs.declared.serial.Exit.{Exit}
use Rattle.c62_serial.specs.State.{Machine}
use Rattle.c62_serial.specs.Effect.{Act}
use Rattle.c62_packet.specs.declared.placed.Placed.{Placed}
use Rattle.c62_packet.specs.Packed.{Packed}
use Rattle.c62_meaning.proofs.Runs.{the_run, the_run_runs}
use Rattle.c62_pipe.specs.Chain.{Does}
use Rattle.c62_pipe.specs.Flight.{Flight, act_at}
use Rattle.c62_pipe.proofs.Flying.{In-drop, does}
use Rattle.c62_pipe.proofs.Running.{Running, next_in}
use Rattle.c62_faulted.specs.declared.fault.Fault.{Fault}
use Rattle.c62_faulted.specs.Faulted.{fault_by, with_fault, with_faults}
use Rattle.c62_faulted_packets.specs.Done.{entry_of, fault_at, faults_done}
use Rattle.c62_faulted_packets.specs.Chain.{RunsNoted}
use Rattle.c62_faulted_packets.proofs.Done.{done_append, done_once}

-- so far these faults were noted of a block
abbrev pub IsNotedTo : List Placed → Machine → ℕ → (before told : List Fault) → Type 0
IsNotedTo block opening next before told =
    told ≡ with_faults before (faults_done (the_run block opening) (take next block))

-- those of the next instruction are, too
pub noted_next : (block : List Placed) (opening : Machine) (cycle next : ℕ) (flight : Flight) (machine : Machine)
    (exit : Exit) (room : ℕ) (p : Placed) (before told now : List Fault)
    → Running block opening cycle next flight machine exit room → next < length block → get_or block next p ≡ p
    → p.cycle ≡ cycle → IsNotedTo block opening next before told
    → now ≡ with_faults told (option_to_list (fault_at machine p)) → IsNotedTo block opening (next + 1) before now
noted_next block opening cycle next flight machine exit room p before told now running inside found at noted adds =
    let did = the_run block opening in
    let more : take (next + 1) block ≡ take next block ++ p ∷ [] = take_more block next p inside
    ∙ ap (λ z. take next block ++ z ∷ []) found in
    let same : act_at p machine ≡ the_run block opening p =
    does block opening cycle next running.upto flight machine p running.flying
    (In-drop block next p (next_in block next p inside found)) at in
    adds
    ∙ ap (λ (act : Act). with_faults told (option_to_list (fault_by (entry_of p) act.access))) same
    ∙ ap (λ faults. with_faults faults (option_to_list (fault_by (entry_of p) (the_run block opening p).access))) noted
    ∙ sym (fold-append with_fault before (faults_done (the_run block opening) (take next block))
    (option_to_list (fault_by (entry_of p) (the_run block opening p).access)))
    ∙ ap (λ faults. with_faults before (faults_done (the_run block opening) (take next block) ++ faults))
    (sym (append-nil (option_to_list (fault_by (entry_of p) (the_run block opening p).access))))
    ∙ ap (λ faults. with_faults before faults)
    (sym (done_append (the_run block opening) (take next block) (p ∷ [])))
    ∙ ap (λ ps. with_faults before (faults_done (the_run block opening) ps)) (sym more)

-- a block that ran, and all of whose faults were noted
pub runs_noted : (block : Packed) (opening final : Machine) (exit : Exit) (before told : List Fault)
    → Does block opening final exit → IsNotedTo block.placed opening (length block.placed) before told
    → RunsNoted block opening final exit before told
runs_noted block opening final exit before told does noted = record {
  does = does;
  noted = noted
      ∙ ap (λ ps. with_faults before (faults_done (the_run block.placed opening) ps))
      (take_all (length block.placed) block.placed (omega arith))
      ∙ ap (λ faults. with_faults before faults)
      (done_once block.placed opening (the_run block.placed opening) does.did
      (the_run_runs block.placed opening) does.run);
}
