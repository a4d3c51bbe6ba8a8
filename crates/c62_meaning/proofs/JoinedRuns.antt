-- Runs that are joined and moved.
use Rattle.std.proofs.Common.{◌≡◌, ℕ, ◌+◌, ◌-◌, ◌<◌, ◌≤◌, List, [], map, get_or, sym, ◌∙◌, ap, subst}
use Rattle.std.proofs.Common.{arith}
use Rattle.std.specs.Prelude.{◌↔◌, Contains}
use Rattle.std.proofs.lemmas.Bool.{lt-ltb, le-ltb, cond-true, cond-false}
use Rattle.std.proofs.lemmas.List.{append-nil}
use Rattle.std.proofs.lemmas.List.Elements.{All-append, All-map}
use Rattle.c62_rules.specs.Length.{landing_end}
use Rattle.c62_serial.specs.State.{Machine, IsSound}
use Rattle.c62_serial.specs.Effect.{Act}
use Rattle.c62_packet.specs.declared.placed.Placed.{Placed}
use Rattle.c62_packet.specs.Packed.{AreDrained, issue_of}
use Rattle.c62_meaning.specs.Packet.{Did, IsRun}
use Rattle.c62_meaning.specs.Cut.{HaveLanded, RunsTo, moved, since, delayed, RunsLater, behind, joined, Settles}
use Rattle.c62_meaning.proofs.Lookup.{In, Contains_from_In}
use Rattle.c62_meaning.proofs.Runs.{run_same}
use Rattle.c62_meaning.proofs.SerialPackets.{state_one, state_same, made, made_leaves}
use Rattle.c62_meaning.proofs.CutWords.{drained_landed}
use Rattle.c62_meaning.proofs.Cuts.{IsLeft, begins, runs_on, on}

-- ---- runs joined and moved

-- what does the same runs alike
pub runs_alike : (issued : List Placed) (cycles : ℕ) (opening : Machine) (did did' : Did) (final : Machine)
    → ((p : Placed) → In p issued → did p ≡ did' p)
    → RunsTo issued cycles opening did final → RunsTo issued cycles opening did' final
runs_alike issued cycles opening did did' final same r = grind (
  arith,
  run_same issued opening did did' same r.run,
  state_same issued cycles opening did did' final same r.leaves,
)

-- in a sound machine a run leaves one
pub runs_to : (issued : List Placed) (cycles : ℕ) (opening : Machine) (did : Did) → IsSound opening
    → IsRun issued opening did → (final : Machine) × RunsTo issued cycles opening did final
runs_to issued cycles opening did sound run =
    (made issued cycles opening did, record { run = run; leaves = made_leaves issued cycles opening did sound })

-- nothing leaves all as it was
nothing_left : (t : ℕ) (opening : Machine) (did : Did) → IsLeft t [] opening did opening
nothing_left t opening did = grind arith

pub nothing_landed : (t : ℕ) (did : Did) → HaveLanded t [] did
nothing_landed t did = grind arith

pub runs_nothing : (cycles : ℕ) (opening : Machine) (did : Did) → IsSound opening → RunsTo [] cycles opening did opening
runs_nothing cycles opening did sound = grind arith

pub nothing_runs : (cycles : ℕ) (opening : Machine) (did : Did) (final : Machine) → IsSound opening
    → RunsTo [] cycles opening did final → final ≡ opening
nothing_runs cycles opening did final sound r = state_one [] cycles opening did final opening r.leaves
    (runs_nothing cycles opening did sound).leaves

delayed_since : (t : ℕ) (did : Did) (p : Placed) → since t (delayed t did) p ≡ did p
delayed_since t did p = let e : t + p.cycle - t ≡ p.cycle = omega arith in ap (λ c. did (record p { cycle = c })) e

pub runs_later : (t : ℕ) (issued : List Placed) → RunsLater t issued
runs_later t issued opening cycles did final =
    let there = λ (did' : Did). runs_on t [] issued opening did' (nothing_landed t did') opening
    (nothing_left t opening did') cycles final in
    record {
      moves = (
        (λ r. (there (delayed t did)).1
            (runs_alike issued cycles opening did (since t (delayed t did)) final
            (λ p h. sym (delayed_since t did p)) r)),
        (λ r. runs_alike issued cycles opening (since t (delayed t did)) did final (λ p h. delayed_since t did p)
            ((there (delayed t did)).0 r)),
      );
      back = there did;
    }

-- what is joined does first what the one did, and behind it what the other did
pub joined_early : (t : ℕ) (first second : Did) (p : Placed) → p.cycle < t → joined t first second p ≡ first p
joined_early t first second p l = cond-true _ _ _ (lt-ltb p.cycle t l)

pub joined_late : (t : ℕ) (first second : Did) (p : Placed) → since t (joined t first second) p ≡ second p
joined_late t first second p = cond-false _ _ _ (le-ltb (t + p.cycle) t (omega arith)) ∙ delayed_since t second p

pub joined_landed : (t : ℕ) (early : List Placed) (first second : Did) → HaveLanded t early first
    → HaveLanded t early (joined t first second)
joined_landed t early first second have = record {
  before = have.before;
  landed = λ p write h w. have.landed p write h
      (subst (λ (a : Act). Contains a.writes write) (joined_early t first second p (have.before p h)) w);
}

module _ (t : ℕ) (early late : List Placed) where
  pub splits : (opening : Machine) (cycles : ℕ) (did : Did) (final : Machine) → IsSound opening → HaveLanded t early did
      → RunsTo (behind t early late) (t + cycles) opening did final
      → (middle : Machine) × RunsTo early t opening did middle × RunsTo late cycles middle (since t did) final
  splits opening cycles did final sound have r =
      let first = runs_to early t opening did sound
      (begins t early late opening did (λ p h. let l : p.cycle < t = have.before p h in omega arith) r.run) in
      (first.0, first.1, (on t early late opening did have first.0 cycles final first.1).0 r)

  pub joins : (opening middle : Machine) (cycles : ℕ) (first second : Did) (final : Machine) → HaveLanded t early first
      → RunsTo early t opening first middle
      → RunsTo late cycles middle second final
      → RunsTo (behind t early late) (t + cycles) opening (joined t first second) final
  joins opening middle cycles first second final have one other =
      (on t early late opening (joined t first second) (joined_landed t early first second have) middle cycles final
      (runs_alike early t opening first (joined t first second) middle
      (λ p h. sym (joined_early t first second p (have.before p (Contains_from_In p early h)))) one)).1
      (runs_alike late cycles middle second (since t (joined t first second)) final
      (λ p h. sym (joined_late t first second p)) other)

-- once all has landed nothing changes
pub landed_settles : (t : ℕ) (issued : List Placed) (opening : Machine) (more : ℕ) (did : Did) (final : Machine)
    → IsSound opening → HaveLanded t issued did
    → RunsTo issued t opening did final ↔ RunsTo issued (t + more) opening did final
landed_settles t issued opening more did final sound have = (
  (λ r. subst (λ ps. RunsTo ps (t + more) opening did final) (append-nil issued)
      ((on t issued [] opening did have final more final r).1 (runs_nothing more final (since t did) r.leaves.sound))),
  (λ r. (let first = runs_to issued t opening did sound r.run in
      let same : final ≡ first.0
      = nothing_runs more first.0 (since t did) final first.1.leaves.sound
      ((on t issued [] opening did have first.0 more final first.1).0
      (subst (λ ps. RunsTo ps (t + more) opening did final) (sym (append-nil issued)) r)) in
      subst (λ m. RunsTo issued t opening did m) (sym same) first.1)),
)

pub settles : (t : ℕ) (issued : List Placed) → Settles t issued
settles t issued drained opening more did final sound = (
  (λ r. (landed_settles t issued opening more did final sound (drained_landed t issued opening did drained r.run)).0 r),
  (λ r. (landed_settles t issued opening more did final sound (drained_landed t issued opening did drained r.run)).1 r),
)

-- what follows what has landed has landed when both are over
pub both_drained : (t u : ℕ) (early late : List Placed) → AreDrained t early → AreDrained u late
    → AreDrained (t + u) (behind t early late)
both_drained t u early late a b =
    let P : Placed → Type 0 = λ p. landing_end (issue_of p) ≤ t + u in
    All-append P early (map (moved t) late)
    (λ k d l. let e : landing_end (issue_of (get_or early k d)) ≤ t = a k d l in omega arith)
    (All-map P (moved t) late (λ k d l. let e : landing_end (issue_of (get_or late k d)) ≤ u = b k d l in omega arith))
