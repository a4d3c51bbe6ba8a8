-- A flight over idle rows, and one that is over where it begins.
use Rattle.std.proofs.Common.{◌≡◌, ℕ, zero, suc, ◌+◌, ◌<◌, ◌≤◌, Bool, false, ◌||◌, cond, List, [], ◌++◌, length, Some}
use Rattle.std.proofs.Common.{None, refl, sym, ◌∙◌, ap, subst, inr, arith}
use Rattle.std.specs.Prelude.{nat_le, map}
use Rattle.std.proofs.lemmas.Bool.{lt-ltb, le-ltb}
use Rattle.c62_serial.specs.State.{Machine, IsSound}
use Rattle.c62_serial.specs.Effect.{no_act}
use Rattle.c62_serial.specs.Chain.{Position as ChainPosition}
use Rattle.c62_packet.specs.declared.placed.Placed.{Placed}
use Rattle.c62_meaning.specs.Packet.{Did}
use Rattle.c62_meaning.specs.Cut.{RunsTo}
use Rattle.c62_meaning.proofs.Lookup.{In_from_Contains}
use Rattle.c62_meaning.proofs.JoinedRuns.{nothing_landed, runs_nothing}
use Rattle.c62_flight.specs.declared.stop.Stop.{Stop}
use Rattle.c62_flight.specs.declared.stop.Stop.TheVariants.{End, Limit}
use Rattle.c62_flight.specs.Text.{Text, At, row_of}
use Rattle.c62_flight.specs.Issued.{Visit, Issued, issue_in, issued_on}
use Rattle.c62_flight.specs.Broken.{IsWholeBefore}
use Rattle.c62_flight.specs.Flight.{ended, Leads, Flies}
use Rattle.c62_flight.specs.Cut.{IsCut, IsDrained}
use Rattle.c62_flight.specs.Laid.{straight, straight_end, FliesAs}
use Rattle.c62_flight.proofs.Joined.{flies_on}
use Rattle.c62_flight.proofs.Straight.{leads_plain}
use Rattle.c62_exec_back.specs.Spaced.{AreIdle}

-- ---- a flight that is over where it begins

abbrev nothing_did : Did
nothing_did p = no_act

abbrev nothing : Issued
nothing = record { placed = []; did = nothing_did }

stays : (text : Text) (row limit : ℕ) (machine : Machine) (stop : Stop) → IsSound machine
    → ended text limit nothing (At row) 0 ≡ Some stop
    → Flies text row limit machine stop 0 machine
stays text row limit machine stop sound e = record {
  path = [];
  did = nothing_did;
  runs = runs_nothing 4 machine nothing_did sound;
  last = At row;
  end = 0;
  leads = (refl, refl);
  stops = inr (record { whole = λ c. refl; ends = e; told = refl });
}

pub stays_behind : (text : Text) (row limit : ℕ) (machine : Machine) → IsSound machine → length text.rows ≤ row
    → Flies text row limit machine End 0 machine
stays_behind text row limit machine sound l =
    stays text row limit machine End sound
    (ap (λ (b : Bool). cond (b || false) (cond (nat_le limit 0) (Some Limit) None) (Some End))
    (le-ltb row (length text.rows) l))

pub stays_limited : (text : Text) (row : ℕ) (machine : Machine) → IsSound machine → row < length text.rows
    → Flies text row 0 machine Limit 0 machine
stays_limited text row machine sound l =
    stays text row 0 machine Limit sound
    (ap (λ (b : Bool). cond (b || false) (cond (nat_le 0 0) (Some Limit) None) (Some End))
    (lt-ltb row (length text.rows) l))

-- ---- a flight with a part before it

pub joined : (text : Text) (row next cycle : ℕ) (machine middle : Machine) (last : ChainPosition) (final : Machine)
    (least rest : ℕ) → ((more : ℕ) → IsCut text row (cycle + more) machine next cycle middle)
    → ((t : ℕ) → rest ≤ t → least ≤ cycle + t) → FliesAs text next middle last final rest
    → FliesAs text row machine last final least
joined text row next cycle machine middle last final least rest cut longer f = record {
  stop = f.stop;
  taken = cycle + f.taken;
  long = longer f.taken f.long;
  told = f.told;
  flies = λ more h.
      let e : cycle + (f.taken + more) ≡ cycle + f.taken + more = omega arith in
      subst (λ n. Flies text row n machine f.stop (cycle + f.taken) final) e
      (flies_on text row (f.taken + more) machine next cycle middle (cut (f.taken + more)) f.stop f.taken final
      (f.flies more h));
}

-- ---- idle rows

nothing_issued : (text : Text) (row next start count : ℕ) → AreIdle text row next → row + count ≤ next
    → issued_on text (straight text row start count) ≡ []
nothing_issued text row next start zero idle within = refl
nothing_issued text row next start (suc count) idle within =
    let none : (row_of text row).insns ≡ [] = idle row (omega arith) (omega arith) in
    ap (λ (ps : List Placed). map (issue_in start) ps ++ issued_on text
    (straight text (row + 1) (start + (row_of text row).idle + 1) count)) none
    ∙ nothing_issued text (row + 1) next (start + (row_of text row).idle + 1) count
    (λ number low high. idle number (omega arith) high) (omega arith)

later_end : (text : Text) (row start count : ℕ)
    → straight_end text row start count ≡ start + straight_end text row 0 count
later_end text row start zero = omega arith
later_end text row start (suc count) =
    let idle : ℕ = (row_of text row).idle in
    let one : straight_end text (row + 1) (start + idle + 1) count ≡ start + idle + 1 + straight_end text (row + 1) 0
    count = later_end text (row + 1) (start + idle + 1) count in
    let other : straight_end text (row + 1) (0 + idle + 1) count ≡ 0 + idle + 1 + straight_end text (row + 1) 0 count =
    later_end text (row + 1) (0 + idle + 1) count in
    omega (arith, one, other)

-- one part behind another
pub two_parts : (text : Text) (row count more : ℕ)
    → straight_end text row 0 (count + more) ≡ straight_end text row 0 count + straight_end text (row + count) 0
    more
two_parts text row zero more =
    let e : row + 0 ≡ row = omega arith in
    let z : 0 + more ≡ more = omega arith in
    let all = ap (straight_end text row 0) z in
    let last = ap (λ r. straight_end text r 0 more) e in
    omega (arith, all, last)
two_parts text row (suc count) more =
    let idle : ℕ = (row_of text row).idle in
    let s : suc count + more ≡ suc (count + more) = omega arith in
    let whole = ap (straight_end text row 0) s in
    let all : straight_end text (row + 1) (0 + idle + 1) (count + more) ≡ 0 + idle + 1 + straight_end text (row + 1) 0
    (count + more) = later_end text (row + 1) (0 + idle + 1) (count + more) in
    let first : straight_end text (row + 1) (0 + idle + 1) count ≡ 0 + idle + 1 + straight_end text (row + 1) 0 count =
    later_end text (row + 1) (0 + idle + 1) count in
    let rest : straight_end text (row + 1) 0 (count + more) ≡ straight_end text (row + 1) 0 count + straight_end text
    (row + 1 + count) 0 more = two_parts text (row + 1) count more in
    let e : row + 1 + count ≡ row + suc count = omega arith in
    let last : straight_end text (row + 1 + count) 0 more ≡ straight_end text (row + suc count) 0 more = ap
    (λ r. straight_end text r 0 more) e in
    omega (arith, whole, all, first, rest, last)

module _ (text : Text) (row count : ℕ) (machine : Machine) (idle : AreIdle text row (row + count))
    (within : row + count ≤ length text.rows) (sound : IsSound machine) where
  abbrev path : List Visit
  path = straight text row 0 count

  abbrev over : ℕ
  over = straight_end text row 0 count

  none : [] ≡ issued_on text path
  none = sym (nothing_issued text row (row + count) 0 count idle (omega arith))

  idle_cut : (more : ℕ) → IsCut text row (over + more) machine (row + count) over machine
  idle_cut more = record {
    path = path;
    did = nothing_did;
    runs = subst (λ (ps : List Placed). RunsTo ps over machine nothing_did machine) none
        (runs_nothing over machine nothing_did sound);
    leads = subst (λ (ps : List Placed). Leads text (over + more) (record { placed = ps; did = nothing_did }) (At row) 0
        path (At (row + count)) over) none
        (leads_plain text (over + more) nothing (λ c. refl) (λ c. refl) row 0 count within (omega arith));
    whole = subst (λ (ps : List Placed). IsWholeBefore (record { placed = ps; did = nothing_did }) over) none
        (λ c _. refl);
    drained = subst (λ (ps : List Placed). IsDrained (record { placed = ps; did = nothing_did }) over) none (record {
      all = nothing_landed over nothing_did;
      branches = λ p target inside e. absurd (In_from_Contains p [] inside);
    });
  }

  pub over_idle : (last : ChainPosition) (final : Machine) (least : ℕ)
      → FliesAs text (row + count) machine last final least
      → FliesAs text row machine last final (least + over)
  over_idle last final least f = joined text row (row + count) over machine machine last final (least + over) least
      idle_cut (λ t l. omega arith) f
