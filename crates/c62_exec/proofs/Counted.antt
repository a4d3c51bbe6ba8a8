-- A run whose rows are counted.
use Rattle.std.proofs.Common.{◌≡◌, ℕ, ◌+◌, ◌<◌, ◌≤◌, List, [], length, refl, sym, ◌∙◌, ap, subst, arith}
use Rattle.std.specs.Prelude.{All, min}
use Rattle.c62_serial.specs.State.{Machine}
use Rattle.c62_flight.specs.declared.stop.Stop.{Stop}
use Rattle.c62_flight.specs.Text.{Text, Position, At}
use Rattle.c62_flight.specs.Issued.{Visit}
use Rattle.c62_exec.specs.declared.tally.Count.{Count}
use Rattle.c62_exec.specs.declared.tally.Tally.{Tally}
use Rattle.c62_exec.specs.Step.{Way}
use Rattle.c62_exec.specs.Counts.{AreBelow, CountsFlight, FliesTallied, IsFresh, IsTally, closed, with_cycles, with_run}
use Rattle.c62_exec.proofs.Paths.{FliesBy, IsAt, on_to}
use Rattle.c62_exec.proofs.Tallies.{below_later, fresh_below, fresh_tally, tally_more, tally_over, same_length}

-- A run stands there in a cycle, and this was counted on its path.
pub record IsCounted (text : Text) (first limit : ℕ) (opening : Machine) (position : Position) (cycle : ℕ) (way : Way)
    (tally : Tally) : Type 0 where
  pub path : List Visit
  pub there : IsAt text first limit opening path position cycle way
  pub tallied : IsTally (length text.rows) path tally
  pub below : AreBelow cycle tally

module _ (text : Text) (first limit : ℕ) (opening : Machine) where
  pub counted_first : (way : Way) (count : ℕ) (tally : Tally) → IsAt text first limit opening [] (At first) 0 way
      → IsFresh count tally
      → IsCounted text first limit opening (At first) 0 way tally
  counted_first way count tally there fresh =
      record {
        path = [];
        there = there;
        tallied = fresh_tally count tally fresh (length text.rows);
        below = fresh_below
            count tally fresh;
      }

  -- a row more was begun
  pub record IsBegun (row cycle : ℕ) (old new : Tally) : Type 0 where
    pub counts : new.counts.items ≡ with_run (min row (length text.rows)) (closed cycle old)
    pub place : new.row ≡ min row (length text.rows)
    pub start : new.start ≡ cycle
    pub below : AreBelow (cycle + 1) new

  module _ (row cycle : ℕ) (way : Way) (old new : Tally)
      (counted : IsCounted text first limit opening (At row) cycle way old) (begun : IsBegun row cycle old new)
    where
      more : IsTally (length text.rows) (on_to counted.path row cycle) new
      more = tally_more (length text.rows) counted.path row cycle old new counted.tallied begun.counts begun.place
          begun.start

      -- and is over
      pub counted_over : (position : Position) (end : ℕ) (now : Way)
          → IsAt text first limit opening (on_to counted.path row cycle) position end now → cycle < end
          → IsCounted text first limit opening position end now new
      counted_over position end now there later = record {
        path = on_to counted.path row cycle;
        there = there;
        tallied = more;
        below = below_later (cycle + 1) end new begun.below (omega arith);
      }

      -- or the run stops behind it, or by it
      pub stopped_counted : (stop : Stop) (cycles : ℕ) (final : Machine)
          → FliesBy text first limit opening stop cycles final (on_to counted.path row cycle)
          → FliesTallied text first limit opening stop cycles final new
      stopped_counted stop cycles final by =
          record {
            flies = by.flies;
            tallied = subst (λ path. IsTally (length text.rows) path new) (sym by.by) more;
            below = begun.below.cycles;
          }

  -- the run ends where it stands
  pub ended_counted : (position : Position) (cycle : ℕ) (way : Way) (tally : Tally)
      → (counted : IsCounted text first limit opening position cycle way tally)
      → (stop : Stop) (cycles : ℕ) (final : Machine) → FliesBy text first limit opening stop cycles final counted.path
      → FliesTallied text first limit opening stop cycles final tally
  ended_counted position cycle way tally counted stop cycles final by =
      record {
        flies = by.flies;
        tallied = subst (λ path. IsTally (length text.rows) path tally) (sym by.by)
            counted.tallied;
        below = counted.below.cycles;
      }

  pub all_counted : (stop : Stop) (cycles : ℕ) (final : Machine) (tally : Tally) (counts : List Count)
      → FliesTallied text first limit opening stop cycles final tally
      → length tally.counts.items ≡ length text.rows + 1 → counts ≡ closed cycles tally
      → CountsFlight text first limit opening stop cycles final counts
  all_counted stop cycles final tally counts is each same = record {
    flies = is.flies;
    each = same_length cycles tally counts same ∙ each;
    are = tally_over (length text.rows) is.flies.path cycles tally counts is.tallied same;
  }
