-- The faults of what instructions did.
use Rattle.std.proofs.Common.{◌≡◌, ◌∙◌, ℕ, suc, List, [], ◌∷◌, ◌++◌, refl, sym, ap, inl, inr, arith}
use Rattle.std.specs.List.{flat_map}
use Rattle.std.specs.Option.{option_to_list}
use Rattle.std.proofs.lemmas.Grind.{flat_map-append}
use Rattle.c62_serial.specs.State.{Machine}
use Rattle.c62_serial.specs.Effect.{Act}
use Rattle.c62_packet.specs.declared.placed.Placed.{Placed}
use Rattle.c62_meaning.specs.Packet.{Did, IsRun}
use Rattle.c62_meaning.proofs.Lookup.{In}
use Rattle.c62_meaning.proofs.Runs.{one_run}
use Rattle.c62_faulted.specs.declared.fault.Fault.{Fault}
use Rattle.c62_faulted.specs.Faulted.{fault_by}
use Rattle.c62_faulted_packets.specs.Done.{entry_of, faults_done}

pub done_append : (did : Did) (ps qs : List Placed)
    → faults_done did (ps ++ qs) ≡ faults_done did ps ++ faults_done did qs
done_append did ps qs = flat_map-append (λ (p : Placed). option_to_list (fault_by (entry_of p) (did p).access)) ps qs

-- what did the same had the same faults
pub done_same : (did did' : Did) (ps : List Placed) → ((p : Placed) → In p ps → did p ≡ did' p)
    → faults_done did ps ≡ faults_done did' ps
done_same did did' [] same = refl
done_same did did' (p ∷ ps) same =
    ap (λ (act : Act). option_to_list (fault_by (entry_of p) act.access) ++ faults_done did ps) (same p (inl refl))
    ∙ ap (λ (faults : List Fault). option_to_list (fault_by (entry_of p) (did' p).access) ++ faults)
    (done_same did did' ps (λ q h. same q (inr h)))

-- two runs of a block have the same
pub done_once : (block : List Placed) (opening : Machine) (did did' : Did) → IsRun block opening did
    → IsRun block opening did' → faults_done did block ≡ faults_done did' block
done_once block opening did did' run run' =
    done_same did did' block (λ p h. one_run block opening did did' run run' (suc p.cycle) p h (omega arith))
