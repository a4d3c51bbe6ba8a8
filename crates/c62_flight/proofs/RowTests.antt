-- Tests that say of the rows of a text how it flies.
use Rattle.std.proofs.Common.{◌≡◌, ℕ, zero, suc, ◌+◌, ◌<◌, Bool, true, ◌&&◌, List, [], ◌∷◌, Option, Some, None}
use Rattle.std.proofs.Common.{refl, ◌⊎◌, inl, inr, ⊎_elim, arith}
use Rattle.std.specs.Prelude.{min, is_some, is_none, nat_lt, nat_le}
use Rattle.std.specs.List.{list_all}
use Rattle.std.proofs.lemmas.Bool.{cases_lt}
use Rattle.c62_serial.specs.State.{Machine, IsSound}
use Rattle.c62_packet.specs.declared.placed.Placed.{Placed}
use Rattle.c62_meaning.specs.Meaning.{LeavesState}
use Rattle.c62_meaning.proofs.Runs.{the_run, the_run_runs}
use Rattle.c62_flight.specs.declared.stop.Stop.{Stop}
use Rattle.c62_flight.specs.Text.{Text, Position, At, position_after}
use Rattle.c62_flight.specs.Issued.{Visit, Issued, issued_on, turn, over_of}
use Rattle.c62_flight.specs.Broken.{broken, IsWholeBefore}
use Rattle.c62_flight.specs.Flight.{ended, Leads, Flies}
use Rattle.c62_flight.specs.Samples.{Runs}
use Rattle.c62_flight.proofs.Fronts.{Early}
use Rattle.c62_flight.proofs.Stops.{quiet}
use Rattle.c62_flight.proofs.Flying.{flies_from}
use Rattle.c62_flight.proofs.PathTimes.{Goes}
use Rattle.c62_flight.proofs.Underway.{on_path}
use Rattle.std.proofs.lemmas.Bool.Decides.{nat_tests}

-- ---- tests

abbrev pub none_below : (ℕ → Option Stop) → ℕ → Bool
none_below f zero = true
none_below f (suc n) = is_none (f n) && none_below f n

is_none-none : (o : Option Stop) → is_none o ≡ true → o ≡ None
is_none-none o e = grind arith

pub none_at : (f : ℕ → Option Stop) (n c : ℕ) → none_below f n ≡ true → c < n → f c ≡ None
none_at f zero c e l = absurd (omega arith)
none_at f (suc n) c e l = grind (arith, none_at f n c, is_none-none (f n))

pub early_by : (end : ℕ) (ps : List Placed) → list_all (λ p. nat_lt p.cycle end) ps ≡ true → Early end ps
early_by end [] e p h = absurd h
early_by end (q ∷ ps) e p h = grind (arith, nat_tests, early_by end ps)

-- `Leads`, without its whole cycles
abbrev pub Steps : Text → ℕ → Issued → Position → ℕ → List Visit → Position → ℕ → Type 0
Steps text limit issued position cycle [] last end = (last ≡ position) × (end ≡ cycle)
Steps text limit issued position cycle (visit ∷ path) last end =
    ((position ≡ At visit.row) × (cycle ≡ visit.start) × (ended text limit issued position cycle ≡ None))
    × Steps text limit issued (position_after text visit.row (turn issued (over_of text issued visit)))
    (over_of text issued visit) path last end

pub leads_by : (text : Text) (limit : ℕ) (issued : Issued) (position : Position) (cycle : ℕ) (path : List Visit)
    (last : Position) (end most : ℕ) → IsWholeBefore issued most
    → list_all (λ (v : Visit). nat_le v.start most) path ≡ true → Steps text limit issued position cycle path last end
    → Leads text limit issued position cycle path last end
leads_by text limit issued position cycle [] last end most whole starts steps = steps
leads_by text limit issued position cycle (visit ∷ path) last end most whole starts steps = grind (
  arith,
  nat_tests,
  leads_by text limit issued (position_after text visit.row (turn issued (over_of text issued visit))) (over_of text
      issued visit) path last end most whole,
)

-- a path that ends
pub record IsTold (text : Text) (limit : ℕ) (opening : Machine) (path : List Visit) (last : Position) (end : ℕ)
    (stop : Stop) : Type 0 where
  pub steps : Steps text limit (on_path text opening path) (At 0) 0 path last end
  pub starts : list_all (λ (v : Visit). nat_le v.start (end + 4)) path ≡ true
  pub early : list_all (λ p. nat_lt p.cycle end) (issued_on text path) ≡ true
  pub whole : none_below (broken (on_path text opening path)) (end + 4) ≡ true
  pub ends : ended text limit (on_path text opening path) last end ≡ Some stop

pub leaves_so : (text : Text) (limit : ℕ) (opening : Machine) (path : List Visit) (last : Position) (end : ℕ)
    (stop : Stop) → IsSound opening
    → IsTold text limit opening path last end stop
    → (final : Machine) × Flies text 0 limit opening stop end final
    × LeavesState (issued_on text path) (end + 4) opening (the_run (issued_on text path) opening) final
leaves_so text limit opening path last end stop sound t =
    flies_from text 0 limit opening path stop end sound (record {
      issued = on_path text opening path;
      is = refl;
      run = the_run_runs (issued_on text path) opening;
      last = last;
      end = end;
      leads = leads_by text limit (on_path text opening path) (At 0) 0 path last end (end + 4)
          (λ c l. none_at (broken (on_path text opening path)) (end + 4) c t.whole l) t.starts t.steps;
      stops = inr (record {
        whole = λ c. ⊎_elim {C = broken (on_path text opening path) c ≡ None}
            (λ l. none_at (broken (on_path text opening path)) (end + 4) c t.whole l)
            (λ l. quiet opening (on_path text opening path) end c (the_run_runs (issued_on text path) opening)
            (early_by end (issued_on text path) t.early) l) (cases_lt c (end + 4));
        ends = t.ends;
        told = refl;
      });
    })

pub ends_so : (text : Text) (limit : ℕ) (opening : Machine) (path : List Visit) (last : Position) (end : ℕ)
    (stop : Stop) → IsSound opening
    → IsTold text limit opening path last end stop → Runs text limit opening stop end
ends_so text limit opening path last end stop sound t = let r = leaves_so text limit opening path last end stop sound t
    in (r.0, r.1)

-- a path with a broken cycle
pub record IsBroken (text : Text) (limit : ℕ) (opening : Machine) (path : List Visit) (last : Position) (end cycle : ℕ)
    (stop : Stop) : Type 0 where
  pub steps : Steps text limit (on_path text opening path) (At 0) 0 path last end
  pub starts : list_all (λ (v : Visit). nat_le v.start cycle) path ≡ true
  pub whole : none_below (broken (on_path text opening path)) cycle ≡ true
  pub breaks : broken (on_path text opening path) cycle ≡ Some stop
  pub seen : (cycle < end) ⊎ (is_some (ended text limit (on_path text opening path) last end) ≡ true)

pub breaks_so : (text : Text) (limit : ℕ) (opening : Machine) (path : List Visit) (last : Position) (end cycle : ℕ)
    (stop : Stop) → IsSound opening
    → IsBroken text limit opening path last end cycle stop → Runs text limit opening stop (min (cycle + 1) end)
breaks_so text limit opening path last end cycle stop sound t =
    let g : Goes text limit opening [] (At 0) 0 path stop (min (cycle + 1) end) = record {
      issued = on_path text opening path;
      is = refl;
      run = the_run_runs (issued_on text path) opening;
      last = last;
      end = end;
      leads = leads_by text limit (on_path text opening path) (At 0) 0 path last end cycle
          (λ c l. none_at (broken (on_path text opening path)) cycle c t.whole l) t.starts t.steps;
      stops = inl (record {
        cycle = cycle;
        whole = λ c l. none_at (broken (on_path text opening path)) cycle c t.whole l;
        breaks = t.breaks;
        seen = t.seen;
        told = refl;
      });
    } in
    let r = flies_from text 0 limit opening path stop (min (cycle + 1) end) sound g in (r.0, r.1)

abbrev pub v : ℕ → ℕ → Visit
v row start = record { row = row; start = start }
