-- What each way through the loop over rows comes to.
use Rattle.std.proofs.Common.{◌≡◌, ℕ, ◌+◌, ◌-◌, ◌*◌, ◌<◌, ◌≤◌, ◌⊎◌, Bool, true, false, List, length, map, Option, Some}
use Rattle.std.proofs.Common.{None, refl, sym, ◌∙◌, ap, subst, arith}
use Rattle.std.specs.Prelude.{is_some}
use Rattle.std.specs.List.{list_any}
use Rattle.c62_insn.specs.declared.effect.Target.{Target}
use Rattle.c62_serial.specs.State.{Machine}
use Rattle.c62_flight.specs.declared.stop.Stop.{Stop}
use Rattle.c62_flight.specs.declared.stop.Stop.TheVariants.{End, Limit, Register}
use Rattle.c62_flight.specs.Text.{Text, Position, At, Outside, row_of, position_after, IsIssuable}
use Rattle.c62_flight.specs.Issued.{Visit}
use Rattle.c62_flight.specs.Flight.{ended}
use Rattle.c62_flight.proofs.Underway.{on_path}
use Rattle.c62_exec.specs.declared.run.Flown.{Flown}
use Rattle.c62_exec.specs.declared.underway.Passed.{Passed}
use Rattle.c62_exec.specs.declared.underway.Passed.TheVariants.{Over, Broken}
use Rattle.c62_exec.specs.Step.{Way, Gone, gone, row_passes, clash_from, flown_from, settled}
use Rattle.c62_exec.proofs.Paths.{IsAt, IsHurt, Goes, FliesBy, on_to, row_flies, hurt_flies, ended_flies}
use Rattle.c62_exec.proofs.Loop.{row_rises, goes, limited, over_all}

module _ (text : Text) (first limit : ℕ) (opening : Machine) (path : List Visit) where
  -- the run came down where it stood
  pub down_flies : (position : Position) (end : ℕ) (stop : Stop) (way left : Way) (flown : Flown)
      → (there : IsAt text first limit opening path position end way)
      → ended text limit (on_path text opening path) position end ≡ Some stop
      → flown ≡ flown_from stop end (clash_from 4 end way.flight.slots)
      → left ≡ settled 4 end way
      → FliesBy text first limit opening flown.stop flown.cycles left.machine path
  down_flies position end stop way left flown there e f l =
      subst (λ (g : Flown). FliesBy text first limit opening g.stop g.cycles left.machine path) (sym f)
      (subst (λ (w : Way). FliesBy text first limit opening
      (flown_from stop end (clash_from 4 end way.flight.slots)).stop
      (flown_from stop end (clash_from 4 end way.flight.slots)).cycles w.machine path) (sym l)
      (ended_flies text first limit opening path position end stop way there e))

  pub limit_flies : (row cycle : ℕ) (way left : Way) (flown : Flown)
      → (there : IsAt text first limit opening path (At row) cycle way)
      → (row < length text.rows) ⊎ (list_any is_some way.turns ≡ true) → limit ≤ cycle
      → flown ≡ flown_from Limit cycle (clash_from 4 cycle way.flight.slots)
      → left ≡ settled 4 cycle way
      → FliesBy text first limit opening flown.stop flown.cycles left.machine path
  limit_flies row cycle way left flown there on l f e =
      down_flies (At row) cycle Limit way left flown there
      (limited text first limit opening path row cycle way there on l) f e

  pub end_flies : (row cycle : ℕ) (way left : Way) (flown : Flown)
      → (there : IsAt text first limit opening path (At row) cycle way)
      → length text.rows ≤ row → list_any is_some way.turns ≡ false
      → flown ≡ flown_from End cycle (clash_from 4 cycle way.flight.slots)
      → left ≡ settled 4 cycle way
      → FliesBy text first limit opening flown.stop flown.cycles left.machine path
  end_flies row cycle way left flown there l none f e =
      down_flies (At row) cycle End way left flown there
      (over_all text first limit opening path row cycle way there l none) f e

  pub register_flies : (word end : ℕ) (way left : Way) (flown : Flown)
      → IsAt text first limit opening path (Outside word) end way
      → flown ≡ flown_from (Register word) end (clash_from 4 end way.flight.slots)
      → left ≡ settled 4 end way
      → FliesBy text first limit opening flown.stop flown.cycles left.machine path
  register_flies word end way left flown there f e = down_flies (Outside word) end (Register word) way left flown there
      refl f e

  module _ (row cycle : ℕ) (way now : Way) (passed : Passed) (is : IsIssuable text)
      (there : IsAt text first limit opening path (At row) cycle way)
      (on : (row < length text.rows) ⊎ (list_any is_some way.turns ≡ true)) (before : cycle < limit)
      (went : gone passed now ≡ row_passes (row_of text row).insns (row_of text row).idle cycle way) where
    it_goes : Goes text first limit opening path row cycle passed now
    it_goes =
        subst (λ (g : Gone). Goes text first limit opening path row cycle g.passed g.way) (sym went)
        (row_flies text first limit opening path row cycle way there
        (goes text first limit opening path row cycle way there on before) (row_rises text row is))

    -- the row was over
    pub was_over : (end : ℕ) (turned : Option Target) (position : Position) → passed ≡ Over end turned
        → position_after text row turned ≡ position
        → IsAt text first limit opening (on_to path row cycle) position end now × (cycle < end)
    was_over end turned position e p =
        subst (λ o. IsAt text first limit opening (on_to path row cycle) o end now
        × (cycle < end)) p (subst (λ q. Goes text first limit opening path row cycle q now) e it_goes)

    -- a cycle of it was broken
    pub was_broken : (at : ℕ) (stop : Stop) (left : Way) → passed ≡ Broken at stop → left ≡ settled 4 (at + 1) now
        → FliesBy text first limit opening stop (at + 1) left.machine (on_to path row cycle)
    was_broken at stop left e l =
        subst (λ (w : Way). FliesBy text first limit opening stop (at + 1) w.machine (on_to path row cycle)) (sym l)
        (hurt_flies text first limit opening (on_to path row cycle) at stop now
        (subst (λ q. Goes text first limit opening path row cycle q now) e it_goes))
