-- Where lines stand.
use Rattle.std.proofs.Common.{◌≡◌, ◌≤◌, ◌&&◌, not, cond, refl, true, false, ℕ, Bool, List, ◌∷◌, [], Option, Some, None}
use Rattle.std.proofs.Common.{arith, inl, inr}
use Rattle.std.specs.Prelude.{is_none, is_some, IfSome, unwrap_or}
use Rattle.std.specs.Option.{option_map_or}
use Rattle.std.proofs.lemmas.Bool.{cases_Bool}
use Rattle.std.proofs.lemmas.Bool.Decides.{nat_tests}
use Rattle.c62_read.specs.Program.{Name}
use Rattle.c62_adopt_line.specs.Line.{Line}
use Rattle.c62_adopt_cut.specs.Cut.{Place, begins_packet, cycle_at, cycles_of, cuts_of, first_of, is_filled}
use Rattle.c62_adopt_cut.specs.Cut.{last_packet, place_of, stand_of, start_of, with_label_cut}

pub start_low : (cycle : ℕ) (cuts : List ℕ) → start_of cycle cuts ≤ cycle
start_low cycle [] = omega arith
start_low cycle (cut ∷ cuts) = grind (arith, nat_tests, start_low cycle cuts)

pub stand_low : (above : List Line) (line : Line) → (stand_of above line).start ≤ (stand_of above line).cycle
stand_low above line = let place = first_of above line in start_low (cycle_at place)
    (with_label_cut place (cuts_of place.above))

start_here : (cycle : ℕ) (cuts : List ℕ) → start_of cycle (cycle ∷ cuts) ≡ cycle
start_here cycle cuts = grind (arith, nat_tests, start_low cycle cuts)

-- a label begins a block in its own cycle
pub labelled_stand : (above : List Line) (line : Line) → is_some line.label ≡ true → line.beside ≡ false
    → (stand_of above line).start ≡ (stand_of above line).cycle
labelled_stand above line labelled alone = rw (alone, labelled) (start_here _ (cuts_of above))

pub labelled_here : (above : List Line) (line : Line) → line.beside ≡ false
    → (stand_of above line).cycle ≡ cycles_of above
labelled_here above line alone = rw alone refl

-- a line with a label has no bars
pub alone : (beside : Bool) (label : Option Name) → is_some label ≡ true → (beside ≡ true → label ≡ None)
    → beside ≡ false
alone false label labelled none = refl
alone true None labelled none = absurd cc
alone true (Some label) labelled none = let no = none refl in absurd cc

-- ---- lines further down stand in no earlier cycle

-- the cycle of the last packet, or the next one where there is none
abbrev pub latest : List Line → ℕ
latest above = option_map_or cycle_at (last_packet above) (cycles_of above)

packet_low : (above : List Line) → IfSome (last_packet above) (λ place. cycle_at place ≤ cycles_of above)
packet_low [] = tt
packet_low (line ∷ above) = elim (cases_Bool (begins_packet line)) [
  | inl begins ↦ rw begins (omega arith)
  | inr other ↦ rw other
      (elim (cases_Bool (is_some line.label))
      [ inl labelled ↦ rw labelled tt | inr plain ↦ rw plain (go (last_packet above) (packet_low above)) ])
]
  where
    go : (found : Option Place) → IfSome found (λ place. cycle_at place ≤ cycles_of above)
        → IfSome found (λ place. cycle_at place ≤ cycles_of (line ∷ above))
    go None low = tt
    go (Some place) low = omega (arith, low)

found_low : (found : Option Place) (now : ℕ) → IfSome found (λ place. cycle_at place ≤ now)
    → option_map_or cycle_at found now ≤ now
found_low None now low = omega arith
found_low (Some place) now low = low

latest_low : (above : List Line) → latest above ≤ cycles_of above
latest_low above = found_low (last_packet above) (cycles_of above) (packet_low above)

found_rises : (found : Option Place) (now later : ℕ) → now ≤ later
    → option_map_or cycle_at found now ≤ option_map_or cycle_at found later
found_rises None now later rises = rises
found_rises (Some place) now later rises = omega arith

pub latest_rises : (above : List Line) (line : Line) → latest above ≤ latest (line ∷ above)
latest_rises above line =
    let low = latest_low above in
    elim (cases_Bool (begins_packet line)) [
      | inl begins ↦ rw begins low
      | inr other ↦
          rw other (elim (cases_Bool (is_some line.label)) [
            | inl labelled ↦ rw labelled (omega arith)
            | inr plain ↦ rw plain
                (found_rises (last_packet above) (cycles_of above) (cycles_of (line ∷ above)) (omega arith))
          ])
    ]

late_by : (beside : Bool) (found : Option Place) (here : Place) → (beside && is_none found) ≡ false
    → option_map_or cycle_at found (cycle_at here) ≤ cycle_at here
    → option_map_or cycle_at found (cycle_at here) ≤ cycle_at (cond beside (unwrap_or found here) here)
late_by true None here bars low = absurd cc
late_by true (Some place) here bars low = omega arith
late_by false found here bars low = low

pub stand_late : (above : List Line) (line : Line) → (line.beside && is_none (last_packet above)) ≡ false
    → latest above ≤ (stand_of above line).cycle
stand_late above line bars = late_by line.beside (last_packet above) (place_of above line) bars (latest_low above)

latest_by : (filled beside : Bool) (label : Option Name) (found : Option Place) (here : Place) (now : ℕ) → filled ≡ true
    → (beside && is_none found) ≡ false → (beside ≡ true → label ≡ None)
    → cycle_at (cond beside (unwrap_or found here) here)
    ≡ option_map_or cycle_at (cond (filled && not beside) (Some here) (cond (is_some label) None found)) now
latest_by false beside label found here now says bars none = absurd cc
latest_by true false label found here now says bars none = refl
latest_by true true None None here now says bars none = absurd cc
latest_by true true None (Some place) here now says bars none = refl
latest_by true true (Some label) found here now says bars none = let no = none refl in absurd cc

-- what a line says stands in the last packet of all down to it
pub stand_latest : (above : List Line) (line : Line) → is_filled line.says ≡ true
    → (line.beside && is_none (last_packet above)) ≡ false
    → (line.beside ≡ true → line.label ≡ None) → (stand_of above line).cycle ≡ latest (line ∷ above)
stand_latest above line filled bars none =
    latest_by (is_filled line.says) line.beside line.label (last_packet above) (place_of above line)
    (cycles_of (line ∷ above)) filled bars none
