-- Small texts whose flights hang on a register, told by computation.
use Rattle.std.proofs.Common.{[], ◌∷◌}
use Rattle.std.proofs.Common.{refl, arith}
use Rattle.std.specs.Prelude.{◌%◌, ◌^◌, slice_index}
use Rattle.c62_serial.specs.Memory.{number_of, bytes_from}
use Rattle.c62_meaning.proofs.Runs.{acts_to, the_run}
use Rattle.c62_flight.specs.declared.stop.Stop.TheVariants.{End, Clash}
use Rattle.c62_flight.specs.Text.{At}
use Rattle.c62_flight.specs.Samples.{a2, square, packet, text_of}
use Rattle.c62_flight.specs.Samples.{if_over, maybe_clash, one_or_other}
use Rattle.c62_flight.specs.Samples.{load, with_a1, RunsWithA1, LeavesInA2, SamplesHang}
use Rattle.c62_flight.proofs.RowTests.{ends_so, breaks_so, leaves_so, v}

-- ---- texts

hang_nop_whole : RunsWithA1 0 if_over End 10
unfolding the_run acts_to
hang_nop_whole a0 others memory faults sound = grind (
  arith,
  ends_so if_over 100 (with_a1 0 a0 others memory faults) (v 0 0 ∷ v 1 1 ∷ []) (At 2) 10 End sound,
)

hang_nop_cut : RunsWithA1 1 if_over End 6
unfolding the_run acts_to
hang_nop_cut a0 others memory faults sound = grind (
  arith,
  ends_so if_over 100 (with_a1 1 a0 others memory faults) (v 0 0 ∷ v 1 1 ∷ []) (At 2) 6 End sound,
)

hang_no_clash : RunsWithA1 0 maybe_clash End 2
unfolding the_run acts_to
hang_no_clash a0 others memory faults sound = grind (
  arith,
  ends_so maybe_clash 100 (with_a1 0 a0 others memory faults) (v 0 0 ∷ v 1 1 ∷ []) (At 2) 2 End sound,
)

hang_clash : RunsWithA1 1 maybe_clash (Clash a2 1 2) 2
unfolding the_run acts_to
hang_clash a0 others memory faults sound = grind (
  arith,
  breaks_so maybe_clash 100 (with_a1 1 a0 others memory faults) (v 0 0 ∷ v 1 1 ∷ []) (At 2) 2 1 (Clash a2 1 2) sound,
)

hang_other : RunsWithA1 0 one_or_other End 6
unfolding the_run acts_to
hang_other a0 others memory faults sound = grind (
  arith,
  ends_so one_or_other 100 (with_a1 0 a0 others memory faults) (v 0 0 ∷ v 1 1 ∷ []) (At 3) 6 End sound,
)

hang_one : RunsWithA1 1 one_or_other End 7
unfolding the_run acts_to
hang_one a0 others memory faults sound = grind (
  arith,
  ends_so one_or_other 100 (with_a1 1 a0 others memory faults) (v 0 0 ∷ v 1 1 ∷ v 2 6 ∷ []) (At 3) 7 End sound,
)

hang_product_lands : LeavesInA2 3 (text_of (packet (square 1 ∷ []) ∷ []) []) 1 (λ memory. 9)
unfolding the_run acts_to
hang_product_lands a0 others memory faults sound =
    let r = leaves_so (text_of (packet (square 1 ∷ []) ∷ []) []) 100 (with_a1 3 a0 others memory faults) (v 0 0 ∷ [])
    (At 1) 1 End sound
    (record { steps = ((refl, refl, refl), (refl, refl)); starts = refl; early = refl; whole = refl; ends = refl }) in
    (r.0, r.1, r.2.words a2)

hang_load_lands : LeavesInA2 8 (text_of (packet (load 1 ∷ []) ∷ []) []) 1
    (λ memory. number_of (bytes_from (slice_index memory) 8 4) % 2 ^ 32)
unfolding the_run acts_to
hang_load_lands a0 others memory faults sound =
    let r = leaves_so (text_of (packet (load 1 ∷ []) ∷ []) []) 100 (with_a1 8 a0 others memory faults) (v 0 0 ∷ [])
    (At 1) 1 End sound
    (record { steps = ((refl, refl, refl), (refl, refl)); starts = refl; early = refl; whole = refl; ends = refl }) in
    (r.0, r.1, r.2.words a2)

pub samples_hang : SamplesHang
samples_hang = record {
  nop_whole = hang_nop_whole;
  nop_cut = hang_nop_cut;
  no_clash = hang_no_clash;
  clash = hang_clash;
  other = hang_other;
  one = hang_one;
  product_lands = hang_product_lands;
  load_lands = hang_load_lands;
}
