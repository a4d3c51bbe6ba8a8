-- Parts one behind the other, each of which has landed when the next begins.
use Rattle.std.proofs.Common.{◌≡◌, ◌+◌, List, [], ◌∷◌, sym, subst, arith}
use Rattle.std.specs.Prelude.{◌↔◌}
use Rattle.std.specs.List.{All}
use Rattle.std.proofs.lemmas.List.Elements.{All-head, All-tail}
use Rattle.std.proofs.lemmas.List.Sums.{sum_by-cons}
use Rattle.c62_serial.specs.State.{Machine, IsSound}
use Rattle.c62_serial.specs.Effect.{no_act}
use Rattle.c62_packet.specs.Packed.{AreDrained}
use Rattle.c62_meaning.specs.Packet.{Did}
use Rattle.c62_meaning.specs.Landed.{LandOneByOne}
use Rattle.c62_meaning.specs.Cut.{RunsTo, since, joined, Part, in_turn, cycles_of_all, RunInTurn, LeadTo, LandInTurn}
use Rattle.c62_meaning.specs.Cut.{PartsRunInTurn}
use Rattle.c62_meaning.proofs.CutWords.{drained_landed}
use Rattle.c62_meaning.proofs.Cuts.{on}
use Rattle.c62_meaning.proofs.JoinedRuns.{runs_nothing, nothing_runs}
use Rattle.c62_meaning.proofs.CutLandings.{drained_cuts}

abbrev Drained : List Part → Type 0
Drained parts = All (λ part. AreDrained part.cycles part.issued) parts

more_cycles : (part : Part) (parts : List Part) → cycles_of_all (part ∷ parts) ≡ part.cycles + cycles_of_all parts
more_cycles part parts = sum_by-cons (λ part. part.cycles) part parts

first_drained : (part : Part) (parts : List Part) → Drained (part ∷ parts) → AreDrained part.cycles part.issued
first_drained part parts h = All-head (λ part. AreDrained part.cycles part.issued) part parts h

rest_drained : (part : Part) (parts : List Part) → Drained (part ∷ parts) → Drained parts
rest_drained part parts h = All-tail (λ part. AreDrained part.cycles part.issued) part parts h

abbrev AllRunTo : List Part → Machine → Did → Machine → Type 0
AllRunTo parts opening did final = RunsTo (in_turn parts) (cycles_of_all parts) opening did final

run_in_turn : (parts : List Part) → Drained parts → (opening : Machine) (did : Did) (final : Machine) → IsSound opening
    → AllRunTo parts opening did final → RunInTurn parts opening did final
run_in_turn [] drained opening did final sound r = nothing_runs 0 opening did final sound r
run_in_turn (part ∷ parts) drained opening did final sound r =
    let s = (drained_cuts part.cycles part.issued (in_turn parts)).splits opening (cycles_of_all parts) did final sound
    (first_drained part parts drained)
    (subst (λ n. RunsTo (in_turn (part ∷ parts)) n opening did final) (more_cycles part parts) r) in (
      s.0,
      s.1,
      run_in_turn parts (rest_drained part parts drained) s.0 (since part.cycles did) final s.1.leaves.sound
          s.2,
    )

all_in_turn : (parts : List Part) → Drained parts → (opening : Machine) (did : Did) (final : Machine) → IsSound opening
    → RunInTurn parts opening did final → AllRunTo parts opening did final
all_in_turn [] drained opening did final sound e = grind arith
all_in_turn (part ∷ parts) drained opening did final sound (middle, one, rest) =
    subst (λ n. RunsTo (in_turn (part ∷ parts)) n opening did final) (sym (more_cycles part parts))
    ((on part.cycles part.issued (in_turn parts) opening did
    (drained_landed part.cycles part.issued opening did (first_drained part parts drained) one.run) middle
    (cycles_of_all parts) final one).1
    (all_in_turn parts (rest_drained part parts drained) middle (since part.cycles did) final one.leaves.sound rest))

lead_to : (parts : List Part) (opening : Machine) (did : Did) (final : Machine) → RunInTurn parts opening did final
    → LeadTo parts opening final
lead_to [] opening did final e = e
lead_to (part ∷ parts) opening did final (middle, one, rest) =
    (middle, did, one, lead_to parts middle (since part.cycles did) final rest)

led_to : (parts : List Part) → Drained parts → (opening final : Machine) → IsSound opening → LeadTo parts opening final
    → (did : Did) × AllRunTo parts opening did final
led_to [] drained opening final sound e = (
  (λ p. no_act),
  subst (λ m. RunsTo [] 0 opening (λ p. no_act) m) (sym e)
      (runs_nothing 0 opening (λ p. no_act) sound),
)
led_to (part ∷ parts) drained opening final sound (middle, did, one, rest) =
    let r = led_to parts (rest_drained part parts drained) middle final one.leaves.sound rest in (
      joined part.cycles did r.0,
      subst (λ n. RunsTo (in_turn (part ∷ parts)) n opening (joined part.cycles did r.0) final)
          (sym (more_cycles part parts))
          ((drained_cuts part.cycles part.issued (in_turn parts)).joins opening middle (cycles_of_all parts) did r.0
          final (first_drained part parts drained) one r.1),
    )

land_in_turn : (parts : List Part) → Drained parts → (opening : Machine) (did : Did) (final : Machine)
    → RunInTurn parts opening did final
    → LandOneByOne (in_turn parts) did ↔ LandInTurn parts did
land_in_turn [] drained opening did final runs = grind arith
land_in_turn (part ∷ parts) drained opening did final (middle, one, rest) =
    let cut = (drained_cuts part.cycles part.issued (in_turn parts)).one_by_one opening did
    (first_drained part parts drained) one.run in
    let others = land_in_turn parts (rest_drained part parts drained) middle (since part.cycles did) final rest in
    ((λ h. let b = cut.0 h in (b.0, others.0 b.1)), (λ h. cut.1 (h.0, others.1 h.1)))

pub parts_run_in_turn : (parts : List Part) → PartsRunInTurn parts
parts_run_in_turn parts drained opening final sound = record {
  each = λ did. (run_in_turn parts drained opening did final sound, all_in_turn parts drained opening did final sound);
  one_by_one = λ did runs. land_in_turn parts drained opening did final runs;
  all = (
    (λ r. lead_to parts opening r.0 final (run_in_turn parts drained opening r.0 final sound r.1)),
    led_to parts
        drained opening final sound,
  );
}
