-- A text flies along a path whose branches lead along it.
use Rattle.std.proofs.Common.{◌≡◌, ℕ, ◌+◌, ◌≤◌, true, List, length, Option, Some, None, refl, sym, ◌∙◌, ap}
use Rattle.std.proofs.Common.{arith}
use Rattle.std.specs.Prelude.{slice_get, is_some, filter}
use Rattle.std.specs.Option.{option_or}
use Rattle.std.proofs.lemmas.Bool.{false≢true}
use Rattle.std.proofs.lemmas.Option.{same_Some}
use Rattle.c62_insn.specs.declared.effect.Target.{Target}
use Rattle.c62_read.specs.declared.block.SerialInsn.{SerialInsn}
use Rattle.c62_serial.specs.State.{Machine, IsSound}
use Rattle.c62_serial.specs.Effect.{Act}
use Rattle.c62_serial.specs.Serial.{serial}
use Rattle.c62_serial.proofs.BranchLemmas.{goes_branch}
use Rattle.c62_packet.specs.declared.placed.Placed.{Placed}
use Rattle.c62_packet.specs.Packed.{is_branching}
use Rattle.c62_meaning.specs.Packet.{Did, word_before, byte_before, IsRun}
use Rattle.c62_meaning.specs.Landed.{LandOneByOne}
use Rattle.c62_meaning.specs.Instances.{AreAsSerial}
use Rattle.c62_meaning.proofs.Lookup.{In, In_from_Contains, Contains_from_In}
use Rattle.c62_meaning.proofs.Runs.{the_run, the_run_runs}
use Rattle.c62_meaning.proofs.CutWords.{drained_landed}
use Rattle.c62_meaning.proofs.Instances.{instances_are_serial_from}
use Rattle.c62_flight.specs.Text.{Text, At}
use Rattle.c62_flight.specs.Issued.{Visit, Issued, issued_on}
use Rattle.c62_flight.specs.Broken.{has_branched, two_branches, clash, broken}
use Rattle.c62_flight.specs.Cut.{IsCut}
use Rattle.c62_flight.proofs.Told.{clash_told}
use Rattle.c62_loop.specs.Along.{Steers, IsAlong, FliesAlong}
use Rattle.c62_loop.proofs.Lists.{at_place, place_of}
use Rattle.c62_loop.proofs.Visits.{once, few, leads_along}

few_are_none : (ps : List Placed) → length ps ≤ 1 → two_branches ps ≡ None
few_are_none ps l = grind arith

module _ (text : Text) (first : ℕ) (path : List SerialInsn) (visits : List Visit) (row cycle : ℕ) (opening : Machine)
    (sound : IsSound opening)
    (is : IsAlong text first path visits row cycle opening) where
  abbrev placed : List Placed
  placed = issued_on text visits

  abbrev did : Did
  did = the_run placed opening

  abbrev issued : Issued
  issued = record { placed = placed; did = did }

  run : IsRun placed opening did
  run = the_run_runs placed opening

  as_serial : AreAsSerial path placed is.instances.placed opening did
  as_serial = instances_are_serial_from opening path placed is.instances did sound run

  steers : Steers text first visits row cycle did
  steers = is.steers did as_serial.acts

  branches : (p : Placed) → is_some (did p).target ≡ true → In p placed → is_branching p ≡ true
  branches p t h = by_target (did p).target refl t
    where
      by_target : (o : Option Target) → (did p).target ≡ o → is_some o ≡ true → is_branching p ≡ true
      by_target None e t = absurd (false≢true t)
      by_target (Some target) e t =
          goes_branch p.insn opening.base (word_before placed opening did p.cycle)
          (byte_before placed opening did p.cycle) target
          (ap (λ (a : Act). a.target) (sym (run p (Contains_from_In p placed h))) ∙ e)

  one_by_one : LandOneByOne placed did
  one_by_one i j p q reg c at_i at_j h k =
      let a = in_path p i at_i in
      let b = in_path q j at_j in
      let same : a.0 ≡ b.0 = as_serial.one_by_one a.0 b.0 p q reg c a.1 b.1 h k in
      let one : p ≡ q = same_Some p q (sym a.1 ∙ ap (λ n. slice_get is.instances.placed n) same ∙ b.1) in
      once text issued is.issuable.in_order (At first) 0 visits (At row) cycle steers.along i j p at_i (at_j
      ∙ ap Some (sym one))
    where
      in_path : (p : Placed) (i : ℕ) → slice_get placed i ≡ Some p → (n : ℕ)
          × (slice_get is.instances.placed n ≡ Some p)
      in_path p i at = place_of is.instances.placed p
          (In_from_Contains p is.instances.placed
          ((is.instances.members p).0 (Contains_from_In p placed (at_place placed i p at))))

  quiet : (c : ℕ) → broken issued c ≡ None
  quiet c =
      ap (λ o. option_or o (clash did c placed))
      (few_are_none (filter (has_branched did c) placed)
      (few text issued did branches (At first) 0 visits (At row) cycle steers.along
      (λ visit h. is.one_branch visit (Contains_from_In visit visits h)) (λ p h. h) c))
      ∙ (clash_told placed did).1 one_by_one c

  cut : (more : ℕ) → IsCut text first (cycle + more) opening row cycle (serial path opening).machine
  cut more = record {
    path = visits;
    did = did;
    runs = record { run = run; leaves = as_serial.leaves cycle is.drained };
    leads = leads_along text issued quiet (cycle + more) (At first) 0 visits (At row) cycle steers.along (omega arith);
    whole = λ c _. quiet c;
    drained = record { all = drained_landed cycle placed opening did is.drained run; branches = steers.over };
  }

pub flies_along : (text : Text) (first : ℕ) (path : List SerialInsn) (visits : List Visit) (row cycle : ℕ)
    (opening : Machine) → FliesAlong text first path visits row cycle opening
flies_along text first path visits row cycle opening sound is more = cut text first path visits row cycle opening sound
    is more
