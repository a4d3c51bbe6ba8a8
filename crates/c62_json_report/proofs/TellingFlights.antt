-- The table of a run in flight and its document are of one list of rows.
use Rattle.std.proofs.Common.{◌≡◌, ◌∙◌, ℕ, Bool, true, false, List, [], ◌∷◌, ◌++◌, drop, refl, sym, ap, if◌then◌else◌}
use Rattle.std.specs.Prelude.{codes}
use Rattle.std.specs.List.{flat_map}
use Rattle.std.proofs.lemmas.List.{append-nil}
use Rattle.std.proofs.lemmas.Grind.{flat_map-append}
use Rattle.json.specs.Token.{key}
use Rattle.c62_read.specs.Program.{Name}
use Rattle.c62_exec.specs.declared.tally.Count.{Count}
use Rattle.c62_profile.specs.Table.{thousandths}
use Rattle.c62_profile.specs.Flights.{Block, counts_in, cycles_of, flight_blocks, flight_table}
use Rattle.c62_profile.specs.Flights.{is_told, rows_in, runs_of, told_counts, told_row as told_line}
use Rattle.c62_json.specs.Document.{array, object}
use Rattle.c62_json_report.specs.Profile.{end_told, flight_blocks_told, flight_rows, told, told_row}
use Rattle.c62_json_report.specs.AlikeRows.{Counted, FlightRow, TellFlight, counted_members, counted_text}
use Rattle.c62_json_report.specs.AlikeRows.{flight_line, flight_object}

abbrev counted_of : List Count → ℕ → Counted
counted_of counts whole = record {
  runs = runs_of counts;
  cycles = cycles_of counts;
  share = thousandths (cycles_of counts) whole;
}

abbrev fact_of : List Count → ℕ → Block → FlightRow
fact_of counts whole block = record {
  first = block.first;
  label = block.label;
  counted = counted_of (counts_in counts block) whole;
}

abbrev facts_of : List Count → ℕ → Block → List FlightRow
facts_of counts whole block = if is_told block then fact_of counts whole block ∷ [] else []

-- a row that is there or isn't
one : {X : Type 0} (tell : FlightRow → List X) (row : FlightRow) (there : Bool)
    → (if there then tell row else []) ≡ flat_map tell (if there then row ∷ [] else [])
one tell row true = sym (append-nil (tell row))
one tell row false = refl

line_told : (counts : List Count) (whole : ℕ) (block : Block)
    → told_line counts whole block ≡ flat_map flight_line (facts_of counts whole block)
unfolding told_counts
line_told counts whole block = one flight_line (fact_of counts whole block) (is_told block)

object_told : (counts : List Count) (whole : ℕ) (block : Block)
    → told_row counts whole block ≡ flat_map flight_object (facts_of counts whole block)
unfolding told
object_told counts whole block = one flight_object (fact_of counts whole block) (is_told block)

-- what is told of each block is told of all
all_told : {X : Type 0} (facts : Block → List FlightRow) (tell : Block → List X) (each : FlightRow → List X)
    → ((block : Block) → tell block ≡ flat_map each (facts block)) → (blocks : List Block)
    → flat_map tell blocks ≡ flat_map each (flat_map facts blocks)
all_told facts tell each is [] = refl
all_told facts tell each is (block ∷ blocks) =
    ap (λ front. front ++ flat_map tell blocks) (is block)
    ∙ ap (λ rest. flat_map each (facts block) ++ rest) (all_told facts tell each is blocks)
    ∙ sym (flat_map-append each (facts block) (flat_map facts blocks))

pub flight_told : (labels : List (Name × ℕ)) (counts : List Count) (whole : ℕ)
    → TellFlight (flight_table labels counts whole) (flight_rows labels whole counts)
unfolding flight_table told_counts told flight_blocks_told end_told
flight_told labels counts whole = record {
  rows = flat_map (facts_of counts whole) (flight_blocks labels counts);
  behind = counted_of (drop (rows_in counts) counts) whole;
  table_is = ap (λ rows. codes "block runs cycles share\n" ++ rows
      ++ (codes "end" ++ counted_text (counted_of (drop (rows_in counts) counts) whole)))
      (all_told (facts_of counts whole) (told_line counts whole) flight_line (line_told counts whole)
      (flight_blocks labels counts));
  told_is = ap (λ rows. object ((key (codes "rows") ∷ array rows)
      ++ (key (codes "end") ∷ object (counted_members (counted_of (drop (rows_in counts) counts) whole)))))
      (all_told (facts_of counts whole) (told_row counts whole) flight_object (object_told counts whole)
      (flight_blocks labels counts));
}
