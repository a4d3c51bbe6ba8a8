-- Texts of few rows, and how they fly.
use Rattle.std.proofs.Common.{◌≡◌, ℕ, [], ◌∷◌, refl, sym, ap, arith}
use Rattle.std.specs.Prelude.{IsFalse}
use Rattle.c62_serial.specs.State.{Machine, IsSound, word_in}
use Rattle.c62_insn.specs.declared.effect.Target.TheVariants.{Register as ToRegister}
use Rattle.c62_meaning.proofs.Runs.{acts_to, the_run}
use Rattle.c62_flight.specs.declared.stop.Stop.TheVariants.{End, Register, Limit}
use Rattle.c62_flight.specs.Text.{At, Outside, is_address, leads_to}
use Rattle.c62_flight.specs.Samples.{b3, three_a1, branch, leave, packet, nop, text_of, Runs}
use Rattle.c62_flight.specs.Samples.{over_mvk, in_the_slots, go_on, six_in_flight, SamplesFly}
use Rattle.c62_flight.proofs.RowTests.{ends_so, v}
use Rattle.c62_flight.proofs.ClashRows.{clash, clash_behind, branches, end_and_back_flies, branches_first}

-- ---- texts

empty : (opening : Machine) → IsSound opening → Runs (text_of [] []) 0 opening End 0
unfolding the_run acts_to
empty opening sound = grind (arith, ends_so (text_of [] []) 0 opening ([]) (At 0) 0 End sound)

one_packet : (opening : Machine) → IsSound opening → Runs (text_of (packet (three_a1 1 ∷ []) ∷ []) []) 9 opening End 1
unfolding the_run acts_to
one_packet opening sound =
    ends_so (text_of (packet (three_a1 1 ∷ []) ∷ []) []) 9 opening (v 0 0 ∷ []) (At 1) 1 End sound
    (record { steps = ((refl, refl, refl), (refl, refl)); starts = refl; early = refl; whole = refl; ends = refl })

no_cycle : (opening : Machine) → IsSound opening → Runs (text_of (packet (three_a1 1 ∷ []) ∷ []) []) 0 opening Limit 0
unfolding the_run acts_to
no_cycle opening sound =
    ends_so (text_of (packet (three_a1 1 ∷ []) ∷ []) []) 0 opening ([]) (At 0) 0 Limit sound
    (record { steps = (refl, refl); starts = refl; early = refl; whole = refl; ends = refl })

last_cycle : (opening : Machine) → IsSound opening → Runs (text_of (nop 8 ∷ []) []) 1 opening End 9
unfolding the_run acts_to
last_cycle opening sound = grind (arith, ends_so (text_of (nop 8 ∷ []) []) 1 opening (v 0 0 ∷ []) (At 1) 9 End sound)

five_slots : (opening : Machine) → IsSound opening → Runs (over_mvk 4) 100 opening End 6
unfolding the_run acts_to
five_slots opening sound = grind (arith, ends_so (over_mvk 4) 100 opening (v 0 0 ∷ v 1 1 ∷ []) (At 3) 6 End sound)

nop_ended : (opening : Machine) → IsSound opening → Runs (over_mvk 8) 100 opening End 6
unfolding the_run acts_to
nop_ended opening sound = grind (arith, ends_so (over_mvk 8) 100 opening (v 0 0 ∷ v 1 1 ∷ []) (At 3) 6 End sound)

last_slot : (opening : Machine) → IsSound opening → Runs (over_mvk 3) 100 opening End 6
unfolding the_run acts_to
last_slot opening sound = grind (
  arith,
  ends_so (over_mvk 3) 100 opening (v 0 0 ∷ v 1 1 ∷ v 2 5 ∷ []) (At 3) 6 End sound,
)

last_line : (opening : Machine) → IsSound opening
    → Runs (text_of (packet (branch 1 0 ∷ []) ∷ []) (0 ∷ [])) 7 opening Limit 7
unfolding the_run acts_to
last_line opening sound = grind (
  arith,
  ends_so (text_of (packet (branch 1 0 ∷ []) ∷ []) (0 ∷ [])) 7 opening (v 0 0 ∷ v 1 1 ∷ v 2 2 ∷ v 3 3 ∷ v 4 4 ∷ v 5 5
      ∷ v 0 6 ∷ []) (At 1) 7 Limit sound,
)

two_labels : (opening : Machine) → IsSound opening → Runs in_the_slots 100 opening End 8
unfolding the_run acts_to
two_labels opening sound = grind (
  arith,
  ends_so in_the_slots 100 opening (v 0 0 ∷ v 1 1 ∷ v 2 2 ∷ v 3 6 ∷ v 5 7 ∷ []) (At 6) 8 End sound,
)

in_flight : (opening : Machine) → IsSound opening → Runs six_in_flight 9 opening Limit 9
unfolding the_run acts_to
in_flight opening sound = grind (
  arith,
  ends_so six_in_flight 9 opening (v 0 0 ∷ v 1 1 ∷ v 2 2 ∷ v 3 3 ∷ v 4 4 ∷ v 5 5 ∷ v 5 6 ∷ v 5 7 ∷ v 5 8 ∷ []) (At 5)
      9 Limit sound,
)

register : (opening : Machine) → IsSound opening
    → IsFalse (is_address (text_of (packet (leave 1 ∷ []) ∷ nop 8 ∷ []) []) (word_in opening b3))
    → Runs (text_of (packet (leave 1 ∷ []) ∷ nop 8 ∷ []) []) 100 opening (Register (word_in opening b3)) 6
unfolding the_run acts_to
register opening sound none = grind (
  arith,
  ends_so (text_of (packet (leave 1 ∷ []) ∷ nop 8 ∷ []) []) 100 opening (v 0 0 ∷ v 1 1 ∷ []) (Outside (word_in opening
      b3)) 6 (Register (word_in opening b3)) sound,
)

-- where a word leads that is known
leads_by_word : (word found : ℕ) → found ≡ word → leads_to go_on (ToRegister word) ≡ leads_to go_on (ToRegister found)
leads_by_word word found e = ap (λ w. leads_to go_on (ToRegister w)) (sym e)

third_row : (opening : Machine) → IsSound opening → word_in opening b3 ≡ 2147483712 → Runs go_on 100 opening End 7
unfolding the_run acts_to
third_row opening sound e = grind (
  arith,
  leads_by_word 2147483712 (word_in opening b3) e,
  ends_so go_on 100 opening (v 0 0 ∷ v 1 1 ∷ v 2 6 ∷ []) (At 3) 7 End sound,
)

row_behind : (opening : Machine) → IsSound opening → word_in opening b3 ≡ 2147483744 → Runs go_on 100 opening End 6
unfolding the_run acts_to
row_behind opening sound e = grind (
  arith,
  ends_so go_on 100 opening (v 0 0 ∷ v 1 1 ∷ []) (At 3) 6 End sound,
  leads_by_word 2147483744 (word_in opening b3) e,
)

no_row : (opening : Machine) → IsSound opening → word_in opening b3 ≡ 2147483776
    → Runs go_on 100 opening (Register 2147483776) 6
unfolding the_run acts_to
no_row opening sound e = grind (
  arith,
  ends_so go_on 100 opening (v 0 0 ∷ v 1 1 ∷ []) (Outside 2147483776) 6 (Register 2147483776) sound,
  leads_by_word 2147483776 (word_in opening b3) e,
)

within_row : (opening : Machine) → IsSound opening → word_in opening b3 ≡ 2147483716
    → Runs go_on 100 opening (Register 2147483716) 6
unfolding the_run acts_to
within_row opening sound e = grind (
  arith,
  ends_so go_on 100 opening (v 0 0 ∷ v 1 1 ∷ []) (Outside 2147483716) 6 (Register 2147483716) sound,
  leads_by_word 2147483716 (word_in opening b3) e,
)

small_word : (opening : Machine) → IsSound opening → word_in opening b3 ≡ 64 → Runs go_on 100 opening (Register 64) 6
unfolding the_run acts_to
small_word opening sound e = grind (
  arith,
  ends_so go_on 100 opening (v 0 0 ∷ v 1 1 ∷ []) (Outside 64) 6 (Register 64) sound,
  leads_by_word 64 (word_in opening b3) e,
)

pub samples_fly : (opening : Machine) → IsSound opening → SamplesFly opening
samples_fly opening sound = record {
  empty = empty opening sound;
  one_packet = one_packet opening sound;
  no_cycle = no_cycle opening sound;
  last_cycle = last_cycle opening sound;
  five_slots = five_slots opening sound;
  nop_ended = nop_ended opening sound;
  last_slot = last_slot opening sound;
  last_line = last_line opening sound;
  two_labels = two_labels opening sound;
  in_flight = in_flight opening sound;
  register = register opening sound;
  third_row = third_row opening sound;
  row_behind = row_behind opening sound;
  no_row = no_row opening sound;
  within_row = within_row opening sound;
  small_word = small_word opening sound;
  clash = clash opening sound;
  clash_behind = clash_behind opening sound;
  branches = branches opening sound;
  branches_first = branches_first opening sound;
  end_and_back = end_and_back_flies opening sound;
}
