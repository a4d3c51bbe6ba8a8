-- A limit says nothing of a flight that does not stop by it.
use Rattle.std.proofs.Common.{◌≡◌, ℕ, ◌<◌, ◌≤◌, ◌⊎◌, List, [], ◌∷◌, sym, ◌∙◌, inl, inr, arith}
use Rattle.std.proofs.lemmas.Bool.{cases_lt}
use Rattle.std.proofs.lemmas.Option.{none-some}
use Rattle.c62_serial.specs.State.{Machine}
use Rattle.c62_flight.specs.declared.stop.Stop.{Stop}
use Rattle.c62_flight.specs.declared.stop.Stop.TheVariants.{Limit}
use Rattle.c62_flight.specs.Text.{Text, Position}
use Rattle.c62_flight.specs.Issued.{Visit, Issued, over_of}
use Rattle.c62_flight.specs.Flight.{stands_after, Leads, Stops}
use Rattle.c62_flight.specs.Laws.{IsWholeFrom, FliesUnderMore}
use Rattle.std.proofs.lemmas.Bool.Decides.{nat_tests}

module _ (limit greater : ℕ) (more : limit ≤ greater) where
  module _ (text : Text) (issued : Issued) where
    leads_under_more : (position : Position) (cycle : ℕ) (path : List Visit) (last : Position) (end : ℕ)
        → Leads text limit issued position cycle path last end
        → Leads text greater issued position cycle path last end
    leads_under_more position cycle [] last end leads = leads
    leads_under_more position cycle (visit ∷ path) last end leads = grind (
      arith,
      nat_tests,
      leads_under_more (stands_after text issued visit) (over_of text issued visit) path last end leads.1,
    )

    stops_under_more : (last : Position) (end : ℕ) (stop : Stop) (cycles : ℕ) → (stop ≡ Limit → ⊥) → IsWholeFrom end issued
        → Stops text limit issued last end stop cycles
        → Stops text greater issued last end stop cycles
    stops_under_more last end stop cycles other l (inl b) = inl (record {
      cycle = b.cycle;
      whole = b.whole;
      breaks = b.breaks;
      seen = inl (early (cases_lt b.cycle end));
      told = b.told;
    })
      where
        early : (b.cycle < end) ⊎ (end ≤ b.cycle) → b.cycle < end
        early (inl e) = e
        early (inr late) = absurd (none-some stop (sym (l b.cycle late) ∙ b.breaks))
    stops_under_more last end stop cycles other l (inr e) = grind arith

pub under_more : (text : Text) (first limit : ℕ) (opening : Machine) (stop : Stop) (cycles : ℕ) (final : Machine)
    → FliesUnderMore text first limit opening stop cycles final
under_more text first limit opening stop cycles final f other l greater more = grind (
  arith,
  leads_under_more limit greater more text,
  stops_under_more limit greater more text,
)
