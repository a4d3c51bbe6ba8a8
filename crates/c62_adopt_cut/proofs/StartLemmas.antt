-- Blocks begin no earlier further down.
use Rattle.std.proofs.Common.{◌≡◌, ◌≤◌, ◌+◌, ◌&&◌, not, cond, ap, refl, true, false, ℕ, Bool, List, ◌∷◌, [], ◌++◌}
use Rattle.std.proofs.Common.{Option, Some, None, arith, inl, inr}
use Rattle.std.specs.Prelude.{is_none, is_some, IfSome, unwrap_or}
use Rattle.std.specs.Option.{option_map_or}
use Rattle.std.proofs.lemmas.Bool.{cases_Bool}
use Rattle.std.proofs.lemmas.Bool.Decides.{nat_tests}
use Rattle.c62_read.specs.Program.{Name}
use Rattle.c62_adopt_line.specs.Line.{Line}
use Rattle.c62_adopt_cut.specs.Cut.{Place, begins_packet, cycle_at, cycles_of, cuts_of, first_of, is_branching}
use Rattle.c62_adopt_cut.specs.Cut.{is_cut_behind, is_filled, label_cuts, last_packet, place_of, stand_at, stand_of}
use Rattle.c62_adopt_cut.specs.Cut.{start_of, with_branch_cut, with_cut, with_label_cut}
use Rattle.c62_adopt_cut.proofs.StandLemmas.{start_low}

-- ---- the last cut

start_later : (cycle later : ℕ) (cuts : List ℕ) → cycle ≤ later → start_of cycle cuts ≤ start_of later cuts
start_later cycle later [] behind = omega arith
start_later cycle later (cut ∷ cuts) behind = let rest = start_later cycle later cuts behind in grind (arith, nat_tests)

one_cut_more : (cycle cut : ℕ) (cuts : List ℕ) → start_of cycle cuts ≤ start_of cycle (cut ∷ cuts)
one_cut_more cycle cut cuts = grind (arith, nat_tests)

label_cut_more : (cycle : ℕ) (place : Place) (cuts : List ℕ)
    → start_of cycle cuts ≤ start_of cycle (with_label_cut place cuts)
label_cut_more cycle place cuts = elim (cases_Bool (is_some place.line.label)) [
  | inl labelled ↦ rw labelled (one_cut_more cycle (cycles_of place.above) cuts)
  | inr plain ↦ rw plain (omega arith)
]

cut_more : (cycle at : ℕ) (cuts : List ℕ) → start_of cycle cuts ≤ start_of cycle (with_cut at cuts)
cut_more cycle at cuts = elim (cases_Bool (is_cut_behind at cuts)) [
  | inl behind ↦ rw behind (omega arith)
  | inr last ↦ rw last (one_cut_more cycle (at + 6) cuts)
]

branch_cut_more : (cycle : ℕ) (place : Place) (cuts : List ℕ)
    → start_of cycle cuts ≤ start_of cycle (with_branch_cut place cuts)
branch_cut_more cycle place cuts = elim (cases_Bool (is_branching place.line.says)) [
  | inl branch ↦ rw branch (cut_more cycle (cycle_at (first_of place.above place.line)) cuts)
  | inr other ↦ rw other (omega arith)
]

-- where a block would begin that the next line goes on with
abbrev pub start_now : List Line → ℕ
start_now above = start_of (cycles_of above) (cuts_of above)

-- a line begins where those above it would, or behind that, and what is below it begins there, or behind that
pub start_here : (above : List Line) (line : Line) → start_now above ≤ (stand_at (place_of above line)).start
start_here above line = label_cut_more (cycles_of above) (place_of above line) (cuts_of above)

pub start_below : (above : List Line) (line : Line) → (stand_at (place_of above line)).start ≤ start_now (line ∷ above)
start_below above line =
    let cuts = with_label_cut (place_of above line) (cuts_of above) in
    let more = branch_cut_more (cycles_of above) (place_of above line) cuts in
    let later = start_later (cycles_of above) (cycles_of (line ∷ above)) (cuts_of (line ∷ above)) (omega arith) in
    omega (arith, more, later)

start_rises : (above : List Line) (line : Line) → start_now above ≤ start_now (line ∷ above)
start_rises above line = omega (arith, start_here above line, start_below above line)

-- ---- the last packet

-- the block of the last packet begins here, or that of the next line where there is none
abbrev pub lowest : List Line → ℕ
lowest above = option_map_or (λ place. (stand_at place).start) (last_packet above) (start_now above)

packet_by : (begins labelled : Bool) (here : Place) (found : Option Place) (now : ℕ) → (stand_at here).start ≤ now
    → IfSome found (λ place. (stand_at place).start ≤ now)
    → IfSome (cond begins (Some here) (cond labelled None found)) (λ place. (stand_at place).start ≤ now)
packet_by true labelled here found now low others = low
packet_by false true here found now low others = tt
packet_by false false here found now low others = others

packet_later : (found : Option Place) (now later : ℕ) → now ≤ later
    → IfSome found (λ place. (stand_at place).start ≤ now)
    → IfSome found (λ place. (stand_at place).start ≤ later)
packet_later None now later rises low = tt
packet_later (Some place) now later rises low = omega (arith, rises, low)

packet_begun : (above : List Line) → IfSome (last_packet above) (λ place. (stand_at place).start ≤ start_now above)
packet_begun [] = tt
packet_begun (line ∷ above) =
    packet_by (begins_packet line) (is_some line.label) (place_of above line) (last_packet above)
    (start_now (line ∷ above)) (start_below above line)
    (packet_later (last_packet above) (start_now above) (start_now (line ∷ above)) (start_rises above line)
    (packet_begun above))

found_begun : (found : Option Place) (now : ℕ) → IfSome found (λ place. (stand_at place).start ≤ now)
    → option_map_or (λ place. (stand_at place).start) found now ≤ now
found_begun None now low = omega arith
found_begun (Some place) now low = low

pub lowest_now : (above : List Line) → lowest above ≤ start_now above
lowest_now above = found_begun (last_packet above) (start_now above) (packet_begun above)

found_rises : (found : Option Place) (now later : ℕ) → now ≤ later
    → option_map_or (λ place. (stand_at place).start) found now ≤ option_map_or (λ place. (stand_at place).start) found
    later
found_rises None now later rises = rises
found_rises (Some place) now later rises = omega arith

rises_by : (begins labelled : Bool) (here : Place) (found : Option Place) (now later : ℕ) → now ≤ (stand_at here).start
    → now ≤ later
    → option_map_or (λ place. (stand_at place).start) found now ≤ now
    → option_map_or (λ place. (stand_at place).start) found now
    ≤ option_map_or (λ place. (stand_at place).start) (cond begins (Some here) (cond labelled None found)) later
rises_by true labelled here found now later below rises low = omega (arith, below, low)
rises_by false true here found now later below rises low = omega (arith, rises, low)
rises_by false false here found now later below rises low = found_rises found now later rises

pub lowest_rises : (above : List Line) (line : Line) → lowest above ≤ lowest (line ∷ above)
lowest_rises above line =
    rises_by (begins_packet line) (is_some line.label) (place_of above line) (last_packet above) (start_now above)
    (start_now (line ∷ above)) (start_here above line)
    (start_rises above line) (lowest_now above)

-- ---- a line

begun_by : (beside : Bool) (found : Option Place) (here : Place) (now : ℕ) → (beside && is_none found) ≡ false
    → now ≤ (stand_at here).start → option_map_or (λ place. (stand_at place).start) found now ≤ now
    → option_map_or (λ place. (stand_at place).start) found now ≤
    (stand_at (cond beside (unwrap_or found here) here)).start
begun_by true None here now bars low most = absurd cc
begun_by true (Some place) here now bars low most = omega arith
begun_by false found here now bars low most = omega (arith, low, most)

-- a line stands in no block that begins before that of the last packet
pub stand_begun : (above : List Line) (line : Line) → (line.beside && is_none (last_packet above)) ≡ false
    → lowest above ≤ (stand_of above line).start
stand_begun above line bars =
    begun_by line.beside (last_packet above) (place_of above line) (start_now above) bars (start_here above line)
    (lowest_now above)

filled_by : (filled beside : Bool) (label : Option Name) (found : Option Place) (here : Place) (now : ℕ) → filled ≡ true
    → (beside && is_none found) ≡ false → (beside ≡ true → label ≡ None)
    → (stand_at (cond beside (unwrap_or found here) here)).start
    ≡ option_map_or (λ place. (stand_at place).start)
    (cond (filled && not beside) (Some here) (cond (is_some label) None found)) now
filled_by false beside label found here now filled bars none = absurd cc
filled_by true false label found here now filled bars none = refl
filled_by true true None None here now filled bars none = absurd cc
filled_by true true None (Some place) here now filled bars none = refl
filled_by true true (Some label) found here now filled bars none = let no = none refl in absurd cc

-- what a line says stands in the block of the packet that is then the last
pub stand_lowest : (above : List Line) (line : Line) → is_filled line.says ≡ true
    → (line.beside && is_none (last_packet above)) ≡ false
    → (line.beside ≡ true → line.label ≡ None) → (stand_of above line).start ≡ lowest (line ∷ above)
stand_lowest above line filled bars none =
    filled_by (is_filled line.says) line.beside line.label (last_packet above) (place_of above line)
    (start_now (line ∷ above)) filled bars none

no_packet : (begins labelled : Bool) (here : Place) (found : Option Place) (now : ℕ) → begins ≡ false → labelled ≡ true
    → option_map_or (λ place. (stand_at place).start) (cond begins (Some here) (cond labelled None found)) now ≡ now
no_packet true labelled here found now none some = absurd cc
no_packet false true here found now none some = refl
no_packet false false here found now none some = absurd cc

other_of : {X : Type 0} (b : Bool) (x y : X) → b ≡ false → cond b x y ≡ y
other_of true x y none = absurd cc
other_of false x y none = refl

begins_none : (filled beside : Bool) → filled ≡ false → (filled && not beside) ≡ false
begins_none true beside none = absurd cc
begins_none false beside none = refl

-- a label without an instruction begins a block that the next line may go on with
pub labelled_lowest : (above : List Line) (line : Line) → is_filled line.says ≡ false → is_some line.label ≡ true
    → line.beside ≡ false
    → (stand_of above line).start ≤ lowest (line ∷ above)
labelled_lowest above line empty labelled alone =
    let here = place_of above line in
    let stand : (stand_of above line).start ≡ (stand_at here).start =
    ap (λ (place : Place). (stand_at place).start)
    (other_of line.beside (unwrap_or (last_packet above) here) here alone) in
    let low : lowest (line ∷ above) ≡ start_now (line ∷ above) =
    no_packet (begins_packet line) (is_some line.label) here (last_packet above) (start_now (line ∷ above))
    (begins_none (is_filled line.says) line.beside empty) labelled in
    omega (arith, stand, low, start_below above line)

pub lowest_early : (above : List Line) → lowest above ≤ cycles_of above
lowest_early above = omega (arith, lowest_now above, start_low (cycles_of above) (cuts_of above))
