-- What a line does to the clock.
use Rattle.std.proofs.Common.{◌≡◌, ◌≤◌, ◌+◌, ◌*◌, ◌∙◌, ap, sym, refl, true, false, ℕ, List, ◌∷◌, length, Option, Some}
use Rattle.std.proofs.Common.{None, arith, inl, inr}
use Rattle.std.specs.Prelude.{is_some, option_map, IfSome}
use Rattle.std.proofs.lemmas.Bool.{cases_Bool}
use Rattle.std.proofs.lemmas.Bool.Decides.{nat_tests}
use Rattle.c62_adopt_line.specs.Line.{Line}
use Rattle.c62_adopt_cut.specs.declared.clock.Clock.{Clock}
use Rattle.c62_adopt_cut.specs.declared.clock.Stand.{Stand}
use Rattle.c62_adopt_cut.specs.Cut.{begins_packet, cycles_added, cycles_of, cuts_of, is_branching, last_packet}
use Rattle.c62_adopt_cut.specs.Cut.{place_of, stand_at, stand_of, with_cut, with_label_cut}
use Rattle.c62_adopt_cut.specs.Clock.{AreCuts, IsClockOf, IsClockAt, IsClockBehind, packet_below}

label_cut : (above : List Line) (line : Line) (now : ℕ) → is_some line.label ≡ true → now ≡ cycles_of above
    → with_label_cut (place_of above line) (cuts_of above) ≡ now ∷ cuts_of above
label_cut above line now labelled is = rw (labelled, is) refl

pub at_label : (old new : Clock) (above : List Line) (line : Line) → is_some line.label ≡ true → IsClockOf old above
    → new.now ≡ old.now
    → new.packet ≡ old.packet → AreCuts new.now new.start new.last (old.now ∷ cuts_of above) → IsClockAt new above line
at_label old new above line labelled clock now packet cuts =
    record {
      now = now ∙ clock.now;
      cuts = rw (label_cut above line old.now labelled clock.now) cuts;
      packet = packet ∙ clock.packet;
      early = rw (packet, now) clock.early;
    }

branch_cut : (above : List Line) (line : Line) (stand : Stand) → is_branching line.says ≡ true
    → stand ≡ stand_of above line
    → cuts_of (line ∷ above) ≡ with_cut stand.cycle (with_label_cut (place_of above line) (cuts_of above))
branch_cut above line stand branching is =
    rw branching (ap (λ (s : Stand). with_cut s.cycle (with_label_cut (place_of above line) (cuts_of above))) (sym is))

pub behind_branch : (old new : Clock) (above : List Line) (line : Line) (stand : Stand) → is_branching line.says ≡ true
    → stand ≡ stand_of above line → IsClockAt old above line → new.now ≡ old.now → new.packet ≡ old.packet
    → AreCuts new.now new.start new.last (with_cut stand.cycle (with_label_cut (place_of above line) (cuts_of above)))
    → IsClockBehind new above line
behind_branch old new above line stand branching is clock now packet cuts =
    record {
      now = now ∙ clock.now;
      cuts = rw (branch_cut above line stand branching is) cuts;
      packet = packet ∙ clock.packet;
      early = rw (packet, now) clock.early;
    }

-- time goes on
later : (now start last more : ℕ) (cuts : List ℕ) → AreCuts now start last cuts → AreCuts (now + more) start last cuts
later now start last more cuts are =
    record {
      starts = λ cycle behind. are.starts cycle (omega arith);
      behind = are.behind;
      below = omega (arith, are.below);
      near = omega (arith, are.near);
    }

packet_here : (packet : Option Stand) (above : List Line) (line : Line)
    → packet ≡ option_map stand_at (last_packet above)
    → packet_below packet (stand_of above line) line ≡ option_map stand_at (last_packet (line ∷ above))
packet_here packet above line is = elim (cases_Bool (begins_packet line)) [
  | inl begins ↦ let alone : line.beside ≡ false = grind (arith, nat_tests) in rw (begins, alone) refl
  | inr other ↦ rw other
      (elim (cases_Bool (is_some line.label)) [ inl labelled ↦ rw labelled refl | inr plain ↦ rw plain is ])
]

early_below : (packet : Option Stand) (stand : Stand) (line : Line) (now : ℕ) → stand.cycle ≤ now
    → IfSome packet (λ s. s.cycle ≤ now)
    → IfSome (packet_below packet stand line) (λ s. s.cycle ≤ now)
early_below packet stand line now past early = elim (cases_Bool (begins_packet line)) [
  | inl begins ↦ rw begins past
  | inr other ↦ rw other
      (elim (cases_Bool (is_some line.label)) [ inl labelled ↦ rw labelled tt | inr plain ↦ rw plain early ])
]

later_packet : (packet : Option Stand) (now more : ℕ) → IfSome packet (λ s. s.cycle ≤ now)
    → IfSome packet (λ s. s.cycle ≤ now + more)
later_packet None now more early = tt
later_packet (Some stand) now more early = omega (arith, early)

pub below_line : (clock : Clock) (above : List Line) (line : Line) (stand : Stand) (added : ℕ)
    → clock.now ≤ 255 * length above → IsClockBehind clock above line → stand ≡ stand_of above line
    → added ≡ cycles_added line → added ≤ 255
    → stand.cycle ≤ clock.now
    → IsClockOf (record {
      now = clock.now + added;
      start = clock.start;
      last = clock.last;
      packet = packet_below
          clock.packet stand line;
    }) (line ∷ above)
below_line clock above line stand added small behind is adds few past =
    record {
      now = rw (adds, behind.now) refl;
      cuts = later clock.now clock.start clock.last added (cuts_of (line ∷ above)) behind.cuts;
      packet = rw is (packet_here clock.packet above line behind.packet);
      early = later_packet (packet_below clock.packet stand line) clock.now added
          (early_below clock.packet stand line clock.now past behind.early);
      small = omega arith;
    }
