-- A run of a text, row by row.
use Rattle.std.proofs.Common.{◌≡◌, ℕ, suc, ◌+◌, ◌-◌, ◌*◌, ◌%◌, ◌<◌, ◌≤◌, Bool, true, false, ◌&&◌, ◌||◌, cond, ltb, List}
use Rattle.std.proofs.Common.{[], ◌∷◌, ◌++◌, length, map, get_or, Option, Some, None, refl, sym, ◌∙◌, ap, subst, ⊎_elim}
use Rattle.std.proofs.Common.{inl, inr, arith}
use Rattle.std.specs.Prelude.{All, is_some, nat_le, nat_lt}
use Rattle.std.specs.List.{list_any, flat_map}
use Rattle.std.specs.List.Sorted.{IsStrictlyIncreasing}
use Rattle.std.proofs.lemmas.Bool.{cases_lt}
use Rattle.std.proofs.lemmas.List.{append-nil}
use Rattle.std.proofs.lemmas.Grind.{flat_map-append}
use Rattle.c62_op.specs.Units.{index_of as unit_index}
use Rattle.c62_insn.specs.declared.effect.Target.{Target}
use Rattle.c62_serial.specs.State.{Machine, IsSound}
use Rattle.c62_packet.specs.declared.placed.Placed.{Placed}
use Rattle.c62_meaning.specs.Meaning.{LeavesState}
use Rattle.c62_meaning.proofs.Runs.{the_run, the_run_runs}
use Rattle.c62_pipe.specs.Flight.{Flight, due, IsIdle}
use Rattle.c62_pipe.proofs.Order.{Ascends}
use Rattle.c62_pipe.proofs.Flying.{Flying, start}
use Rattle.c62_flight.specs.declared.stop.Stop.{Stop}
use Rattle.c62_flight.specs.Text.{Text, Row, row_of, Position, At, Outside, position_after}
use Rattle.c62_flight.specs.Issued.{Visit, Issued, issue_in, issued_in, issued_on, turn, over, over_of}
use Rattle.c62_flight.specs.Broken.{broken, IsWholeBefore}
use Rattle.c62_flight.specs.Flight.{ended, Leads, Stops, Flies}
use Rattle.c62_flight.proofs.Fronts.{Early, over_later}
use Rattle.c62_flight.proofs.LaterPaths.{path_early}
use Rattle.c62_flight.proofs.Underway.{on_path, IsUnderway, begun, goes_further}
use Rattle.c62_exec.specs.declared.run.Flown.{Flown}
use Rattle.c62_exec.specs.declared.underway.Passed.{Passed}
use Rattle.c62_exec.specs.declared.underway.Passed.TheVariants.{Over, Broken}
use Rattle.c62_exec.specs.Step.{Way, on_way, clash_from, settled, flown_from, row_passes}
use Rattle.c62_exec.proofs.Extended.{alone}
use Rattle.c62_exec.proofs.InRow.{InRow, IsOver, IsBroken, Went}
use Rattle.c62_exec.proofs.RowBegins.{Standing, both_ascend, row_goes_on}
use Rattle.c62_exec.proofs.Down.{lands, leaves, Finds, finds, all_quiet}

-- A run stands there in a cycle: what was issued on its path is in flight.
pub record IsAt (text : Text) (first limit : ℕ) (opening : Machine) (path : List Visit) (position : Position)
    (cycle : ℕ) (way : Way) : Type 0 where
  pub standing : Standing (issued_on text path) opening cycle way
  pub under : IsUnderway text first limit opening path position cycle
  pub whole : IsWholeBefore (on_path text opening path) cycle

-- a cycle of its last row is broken, and has ended
pub record IsHurt (text : Text) (first limit : ℕ) (opening : Machine) (path : List Visit) (at : ℕ) (stop : Stop)
    (way : Way) : Type 0 where
  pub last : Position
  pub end : ℕ
  pub under : IsUnderway text first limit opening path last end
  pub breaks : broken (on_path text opening path) at ≡ Some stop
  pub whole : IsWholeBefore (on_path text opening path) at
  pub before : at < end
  pub ascends : Ascends (issued_on text path)
  pub flying : Flying (issued_on text path) opening (at + 1) (length (issued_on text path)) (8 * (at + 1)) way.flight
      way.machine

-- the path with a row more, begun in this cycle
abbrev pub on_to : List Visit → ℕ → ℕ → List Visit
on_to path row cycle = path ++ record { row = row; start = cycle } ∷ []

-- a row is over, or broken
abbrev pub Goes : Text → ℕ → ℕ → Machine → List Visit → ℕ → ℕ → Passed → Way → Type 0
Goes text first limit opening path row cycle (Over end turned) way =
    IsAt text first limit opening (on_to path row cycle) (position_after text row turned) end way × (cycle < end)
Goes text first limit opening path row cycle (Broken at stop) way = IsHurt text first limit opening
    (on_to path row cycle) at stop way

-- a text flies so on this path
pub record FliesBy (text : Text) (first limit : ℕ) (opening : Machine) (stop : Stop) (cycles : ℕ) (final : Machine)
    (path : List Visit) : Type 0 where
  pub flies : Flies text first limit opening stop cycles final
  pub by : flies.path ≡ path

module _ (text : Text) (first limit : ℕ) (opening : Machine) where
  -- nothing is in flight
  pub at_first : (way : Way) → IsSound opening → IsIdle way.flight → length way.turns ≡ 6
      → ((t : ℕ) → get_or way.turns (t % 6) None ≡ None) → way.machine ≡ opening
      → IsAt text first limit opening [] (At first) 0 way
  at_first way sound idle size none same = record {
    standing = record {
      row = record {
        flying = subst (λ m. Flying [] opening 0 0 0 way.flight m) (sym same)
            (start [] opening way.flight sound idle.size idle.slots idle.stores);
        size = size;
        turns = λ t a b. none t;
      };
      early = λ p h. absurd h;
      ascends = tt;
    };
    under = begun text first limit opening;
    whole = λ c l. absurd (omega arith);
  }

  module _ (path : List Visit) (row cycle : ℕ) (way : Way)
      (there : IsAt text first limit opening path (At row) cycle way)
      (on : ended text limit (on_path text opening path) (At row) cycle ≡ None)
      (rises : IsStrictlyIncreasing (map (λ (p : Placed). unit_index p.unit) (row_of text row).insns)) where
    visit : Visit
    visit = record { row = row; start = cycle }

    longer : issued_on text (path ++ record { row = row; start = cycle } ∷ []) ≡ issued_on text path ++ map
        (issue_in cycle) (row_of text row).insns
    longer = flat_map-append (issued_in text) path (record { row = row; start = cycle } ∷ [])
        ∙ ap (λ ps. issued_on text path ++ ps) (append-nil (map (issue_in cycle) (row_of text row).insns))

    went : Went (issued_on text (path ++ record { row = row; start = cycle } ∷ [])) opening cycle (row_of text row).idle
        (row_passes (row_of text row).insns (row_of text row).idle cycle way).passed
        (row_passes (row_of text row).insns (row_of text row).idle cycle way).way
    went =
        subst (λ block. Went block opening cycle (row_of text row).idle
        (row_passes (row_of text row).insns (row_of text row).idle cycle way).passed
        (row_passes (row_of text row).insns (row_of text row).idle cycle way).way) (sym longer)
        (row_goes_on (issued_on text path) opening cycle way (row_of text row).insns there.standing rises
        (row_of text row).idle there.whole)

    ascends : Ascends (issued_on text (path ++ record { row = row; start = cycle } ∷ []))
    ascends = subst Ascends (sym longer)
        (both_ascend (issued_on text path) opening cycle way (row_of text row).insns there.standing rises)

    further : IsUnderway text first limit opening (path ++ record { row = row; start = cycle } ∷ [])
        (position_after text row (turn (on_path text opening (path ++ record { row = row; start = cycle } ∷ []))
        (over_of text (on_path text opening (path ++ record { row = row; start = cycle } ∷ []))
        (record { row = row; start = cycle }))))
        (over_of text (on_path text opening (path ++ record { row = row; start = cycle } ∷ []))
        (record { row = row; start = cycle }))
    further =
        goes_further text first limit opening path (At row) (record { row = row; start = cycle }) there.under
        (record { there = refl; when = refl; on = on; whole = there.whole })

    by_passed : (passed : Passed) (now : Way)
        → Went (issued_on text (path ++ record { row = row; start = cycle } ∷ [])) opening cycle (row_of text row).idle
        passed now → Goes text first limit opening path row cycle passed now
    by_passed (Over end turned) now w =
        let block : List Placed = issued_on text (path ++ record { row = row; start = cycle } ∷ []) in
        let under : IsUnderway text first limit opening (path ++ record { row = row; start = cycle } ∷ [])
        (position_after text row turned) end
        = subst (λ o. IsUnderway text first limit opening (path ++ record { row = row; start = cycle } ∷ [])
        (position_after text row o) end) (sym w.goes)
        (subst (λ n. IsUnderway text first limit opening (path ++ record { row = row; start = cycle } ∷ [])
        (position_after text row (turn (on_path text opening (path ++ record { row = row; start = cycle } ∷ [])) n)) n)
        (sym w.over) further) in
        let later : cycle < end = subst (λ n. cycle < n) (sym w.over)
        (over_later (on_path text opening (path ++ record { row = row; start = cycle } ∷ [])) cycle
        (row_of text row).idle) in (
          record {
            standing = record {
              row = w.row;
              early = path_early text limit (on_path text opening (path ++ record { row = row; start = cycle } ∷ []))
                  (At first) 0
                  (path ++ record { row = row; start = cycle } ∷ []) (position_after text row turned) end under;
              ascends = ascends;
            };
            under = under;
            whole = w.whole;
          },
          later,
        )
    by_passed (Broken at stop) now w = record {
      last = position_after text row (turn (on_path text opening (path ++ record { row = row; start = cycle } ∷ []))
          (over_of text (on_path text opening (path ++ record { row = row; start = cycle } ∷ []))
          (record { row = row; start = cycle })));
      end = over_of text (on_path text opening (path ++ record { row = row; start = cycle } ∷ []))
          (record { row = row; start = cycle });
      under = further;
      breaks = w.breaks;
      whole = w.whole;
      before = w.before;
      ascends = ascends;
      flying = w.flying;
    }

    -- a row goes as its text's flight does
    pub row_flies : Goes text first limit opening path row cycle
        (row_passes (row_of text row).insns (row_of text row).idle cycle way).passed
        (row_passes (row_of text row).insns (row_of text row).idle cycle way).way
    row_flies = by_passed (row_passes (row_of text row).insns (row_of text row).idle cycle way).passed
        (row_passes (row_of text row).insns (row_of text row).idle cycle way).way went

  -- a run whose cycle was broken stops by that
  pub hurt_flies : (path : List Visit) (at : ℕ) (stop : Stop) (way : Way)
      → IsHurt text first limit opening path at stop way
      → FliesBy text first limit opening stop (at + 1) (settled 4 (at + 1) way).machine path
  hurt_flies path at stop way h =
      let down = lands (issued_on text path) opening h.ascends 4 (at + 1) (8 * (at + 1)) way h.flying in
      record {
        flies = record {
          path = path;
          did = the_run (issued_on text path) opening;
          runs = record {
            run = the_run_runs (issued_on text path) opening;
            leaves = leaves (issued_on text path) opening h.ascends (at + 1 + 4) down.0 (settled 4 (at + 1) way).flight
                (settled 4 (at + 1) way).machine down.1;
          };
          last = h.last;
          end = h.end;
          leads = h.under;
          stops = inl (record {
            cycle = at;
            whole = h.whole;
            breaks = h.breaks;
            seen = inl h.before;
            told = let before : at < h.end = h.before in omega arith;
          });
        };
        by = refl;
      }

  -- one that ends where it stands stops so, or by a clash of what still lands
  pub ended_flies : (path : List Visit) (position : Position) (end : ℕ) (stop : Stop) (way : Way)
      → (there : IsAt text first limit opening path position end way)
      → ended text limit (on_path text opening path) position end ≡ Some stop
      → FliesBy text first limit opening (flown_from stop end (clash_from 4 end way.flight.slots)).stop
      (flown_from stop end (clash_from 4 end way.flight.slots)).cycles (settled 4 end way).machine path
  ended_flies path position end stop way there e =
      by_clash (clash_from 4 end way.flight.slots)
      (finds (issued_on text path) opening there.standing.ascends 4 end end (8 * end) way.flight way.machine
      there.standing.row.flying there.standing.early (omega arith) (omega arith))
    where
      block : List Placed
      block = issued_on text path

      flies : (told : Stop) → Stops text limit (on_path text opening path) position end told end
          → FliesBy text first limit opening told end (settled 4 end way).machine path
      flies told stops =
          let down = lands (issued_on text path) opening there.standing.ascends 4 end (8 * end) way
          there.standing.row.flying in
          let left = leaves (issued_on text path) opening there.standing.ascends (end + 4) down.0
          (settled 4 end way).flight (settled 4 end way).machine down.1 in
          record {
            flies = record {
              path = path;
              did = the_run (issued_on text path) opening;
              runs = record {
                run = the_run_runs (issued_on text path) opening;
                leaves = left;
              };
              last = position;
              end = end;
              leads = there.under;
              stops = stops;
            };
            by = refl;
          }

      by_clash : (found : Option (ℕ × Stop)) → Finds (issued_on text path) opening there.standing.ascends 4 end found
          → FliesBy text first limit opening (flown_from stop end found).stop (flown_from stop end found).cycles
          (settled 4 end way).machine path
      by_clash None f =
          flies stop
          (inr (record {
            whole = all_quiet (issued_on text path) opening there.standing.ascends end there.standing.early
                there.whole f;
            ends = e;
            told = refl;
          }))
      by_clash (Some (at, clash)) f =
          let from : end ≤ at = f.0 in
          flies clash
          (inl (record {
            cycle = at;
            whole = λ c l. ⊎_elim {C = broken (on_path text opening path) c ≡ None} (λ a. there.whole c a)
                (λ a. f.3 c a l) (cases_lt c end);
            breaks = f.2;
            seen = inr (ap is_some e);
            told = omega arith;
          }))
