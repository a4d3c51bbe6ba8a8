-- A block that is told to be the same does what it does in any text that has its rows.
use Rattle.std.proofs.Common.{◌≡◌, ℕ, zero, suc, ◌+◌, ◌-◌, ◌<◌, ◌≤◌, Bool, true, List, [], ◌∷◌, length, map}
use Rattle.std.proofs.Common.{Some, None, refl, sym, ap, subst, ◌∙◌, inl, inr, arith}
use Rattle.std.specs.Prelude.{nat_le, slice_index_or, if◌then◌else◌}
use Rattle.std.specs.List.{list_all}
use Rattle.std.proofs.lemmas.Bool.{and_parts, leb-true, cond-true, cond-false}
use Rattle.c62_insn.specs.declared.effect.Target.{Target}
use Rattle.c62_insn.specs.declared.effect.Target.TheVariants.{Block as ToBlock, Register as ToRegister}
use Rattle.c62_op.specs.Shape.{is_branch}
use Rattle.c62_insn.specs.Insn.{op_of}
use Rattle.c62_rules.specs.PacketRules.{Issue}
use Rattle.c62_read.specs.Block.{Serial}
use Rattle.c62_serial.specs.declared.serial.Exit.{Exit}
use Rattle.c62_serial.specs.declared.serial.Exit.TheVariants.{Next, Block, Register}
use Rattle.c62_serial.specs.State.{Machine, IsSound}
use Rattle.c62_serial.specs.Serial.{Ran, serial}
use Rattle.c62_packet.specs.declared.placed.Placed.{Placed}
use Rattle.c62_packet.specs.Packed.{Packed, IsPacketBlock, issues_of, is_branching}
use Rattle.c62_meaning.specs.Cut.{moved, since}
use Rattle.c62_meaning.specs.Meaning.{IsMeaning}
use Rattle.c62_meaning.proofs.Lookup.{In, In_from_Contains}
use Rattle.c62_meaning.proofs.SerialPackets.{are_serial}
use Rattle.c62_flight.specs.declared.stop.Stop.TheVariants.{Register as StopRegister}
use Rattle.c62_flight.specs.Text.{Text, At, Outside, row_of, aim_of, leads_to, is_address, row_at}
use Rattle.c62_flight.specs.Flight.{Flies}
use Rattle.c62_flight.specs.Cut.{IsCut}
use Rattle.c62_flight.specs.Issued.{Visit, issued_on}
use Rattle.c62_flight.specs.Laid.{straight, straight_end, IsLaid}
use Rattle.c62_flight.proofs.LaidBlock.{exit_plain, cut_plain, exit_turned, cut_turned, flies_out, any_branch}
use Rattle.c62_check.specs.declared.verdict.Verdict.TheVariants.{Same}
use Rattle.c62_check.specs.Schedule.{IsPackedWithLines}
use Rattle.c62_check.proofs.Lined.{schedules_packed}
use Rattle.c62_check_loop.specs.Relined.{AreRelined}
use Rattle.c62_check_rest.specs.Starts.{Starts, start_at}
use Rattle.c62_check_rest.specs.Rows.{has_slots, have_slots, last_idle, end_of}
use Rattle.c62_check_rest.specs.Told.{Fits, IsChecked}
use Rattle.c62_check_rest.specs.Laws.{GoesOn}
use Rattle.c62_check_rest.proofs.Naming.{named_exit, ran_named, serial_named, exit_fits, serial_fits}
use Rattle.c62_check_rest.proofs.Issues.{is_packet_block, issues_are, cycles_are, same_tests}
use Rattle.c62_check_rest.proofs.Lining.{text_lined, are_relined, lined_issues}
use Rattle.c62_check_rest.proofs.Standing.{as_many, same_path, same_end, begins_before}
use Rattle.c62_check_rest.proofs.Serials.{row_is}
use Rattle.c62_check_whole.proofs.Texts.{SameRows, same_issued}

-- ---- lists

abbrev in_cycle : Placed → ℕ → Placed
in_cycle p cycle = record p { cycle = cycle }

moved_none : (ps : List Placed) → map (moved 0) ps ≡ ps
moved_none [] = refl
moved_none (p ∷ ps) =
    let same : 0 + p.cycle ≡ p.cycle = omega arith in
    ap (λ c. in_cycle p c ∷ map (moved 0) ps) same ∙ ap (λ xs. p ∷ xs) (moved_none ps)

all_in : {X : Type 0} (f : X → Bool) (xs : List X) → list_all f xs ≡ true → (x : X) → In x xs → f x ≡ true
all_in f [] all x h = absurd h
all_in {X} f (y ∷ ys) all x (inl e) = subst (λ (z : X). f z ≡ true) e (and_parts (f y) (list_all f ys) all).0
all_in f (y ∷ ys) all x (inr h) = all_in f ys (and_parts (f y) (list_all f ys) all).1 x h

-- ---- rows

-- with slots no row begins behind those of a branch
in_slots : (end idle : ℕ) (p : Placed) → has_slots end idle p ≡ true → is_branching p ≡ true → end ≤ p.cycle + 6 + idle
in_slots end idle p slots branches =
    leb-true end (p.cycle + 6 + idle) (sym (cond-true (is_branching p) (nat_le end (p.cycle + 6 + idle)) true branches)
    ∙ slots)

none_late : (text : Text) (first count : ℕ) (p : Placed) (visit : Visit)
    → straight_end text first 0 count ≤ p.cycle + 6 + last_idle text first count
    → In visit (straight text first 0 count) → visit.start < p.cycle + 6
none_late text first zero p visit slots h = absurd h
none_late text first (suc count) p visit slots h =
    let before = begins_before text first 0 count visit h in
    let same : first + suc count - 1 ≡ first + count = omega arith in
    let last : straight_end text first 0 (suc count) ≤ p.cycle + 6 + (row_idle text (first + count))
    = subst (λ n. straight_end text first 0 (suc count) ≤ p.cycle + 6 + row_idle text n) same slots in
    omega (arith, before, last)
  where
    row_idle : Text → ℕ → ℕ
    row_idle text row = (row_of text row).idle

-- ---- one block, in a text that has its rows

module _ (starts : Starts) (packets : Text) (block_number : ℕ) (block : Serial) (first count : ℕ)
    (ends : start_at starts (block_number + 1) ≡ Some (first + count))
    (checked : IsChecked starts packets first count block Same) where
  abbrev label : ℕ
  label = checked.label

  abbrev fits : Fits starts packets first count checked.label block checked.packed
  fits = checked.fits refl

  abbrev pub made : IsPackedWithLines checked.named checked.packed
  made = schedules_packed checked.named checked.packed checked.found

  abbrev pub lined : Packed
  lined = made.lined

  packet : IsPacketBlock lined
  packet = is_packet_block checked.packed lined made.alike checked.is_block

  -- the packets with the lines of the block's instructions
  abbrev pub own : Text
  own = text_lined packets first count lined.placed

  pub own_relined : AreRelined packets own
  own_relined = are_relined packets first count lined.placed

  module _ (text : Text) (relined : AreRelined packets text) (same : SameRows own text first (first + count)) where
    same_issues : issues_of lined.placed ≡ issues_of (issued_on packets (straight packets first 0 count))
    same_issues = sym (issues_are checked.packed lined made.alike checked.is_block)
        ∙ ap issues_of checked.holds

    holds : issued_on text (straight text first 0 count) ≡ lined.placed
    holds = sym (same_issued own text first (first + count) same first 0 count (omega arith) (omega arith))
        ∙ lined_issues packets first count lined.placed fits.within same_issues

    end_is : straight_end text first 0 count ≡ straight_end packets first 0 count
    end_is = same_end packets text relined first 0 count

    path_is : straight text first 0 count ≡ straight packets first 0 count
    path_is = same_path packets text relined first 0 count

    slots_lined : have_slots (end_of packets first count) (last_idle packets first count) lined.placed ≡ true
    slots_lined = sym (same_tests (λ (i : Issue). if is_branch (op_of i.insn) then
        nat_le (end_of packets first count) (i.cycle + 6 + last_idle packets first count) else true)
        checked.packed.placed lined.placed (issues_are checked.packed lined made.alike checked.is_block)) ∙ fits.slots

    laid : IsLaid text lined first count 0
    laid = record {
      holds = moved_none (issued_on text (straight text first 0 count)) ∙ holds;
      rows = (let many = as_many packets text relined in
          let within = fits.within in omega (arith, many, within));
      lasts = (let same = cycles_are checked.packed lined made.alike checked.is_block in
          let lasts = fits.lasts in let e = end_is in omega (arith, same, lasts, e));
      slots = λ p visit there branches begun. from_none visit.start (p.cycle + 6) (none_late packets first count p visit
          (in_slots (end_of packets first count) (last_idle packets first count) p
          (all_in (has_slots (end_of packets first count) (last_idle packets first count)) lined.placed slots_lined p
          (In_from_Contains p lined.placed there)) branches)
          (subst (λ (path : List Visit). In visit path) path_is
          (In_from_Contains visit (straight text first 0 count) begun)));
    }
      where
        from_none : (start end : ℕ) → start < end → 0 + start < end
        from_none start end l = omega (arith, l)

    -- ---- from one machine

    module _ (opening : Machine) (sound : IsSound opening) where
      abbrev ran : Ran
      ran = serial checked.named.insns opening

      meaning : IsMeaning lined.placed lined.cycles opening ran
      meaning = subst (λ n. IsMeaning lined.placed n opening ran) (sym made.is.cycles)
          ((are_serial checked.named.insns lined.placed made.is.branch_last made.is.holds opening ran sound).1 refl)

      same_ran : ran ≡ ran_named label (serial block.insns opening)
      same_ran = serial_named label block.insns checked.named.insns checked.is_named opening

      abbrev left : Machine
      left = (serial block.insns opening).machine

      machine_is : ran.machine ≡ left
      machine_is = ap (λ (r : Ran). r.machine) same_ran

      exit_is : ran.exit ≡ named_exit label (serial block.insns opening).exit
      exit_is = ap (λ (r : Ran). r.exit) same_ran

      right : exit_fits starts (aim_of packets label) (serial block.insns opening).exit ≡ true
      right = serial_fits starts (aim_of packets label) block.insns (record { machine = opening; exit = Next }) fits.aims
          refl

      aims_same : aim_of text label ≡ aim_of packets label
      aims_same = ap (λ (aims : List ℕ). slice_index_or aims label (length text.rows)) (sym relined.aims)
          ∙ ap (λ (d : ℕ). slice_index_or packets.aims label d) (as_many packets text relined)

      goes_next : ((p : Placed) → In p (issued_on text (straight text first 0 count))
          → (since 0 meaning.did p).target ≡ None)
          → (exit : Exit) → named_exit label exit ≡ Next → GoesOn starts block_number text first opening left exit
      goes_next none Next same = (
        first + count,
        ends,
        record {
          cycles = straight_end text first 0 count;
          cut = λ more. subst (λ m. IsCut text first (straight_end text first 0 count + more) opening (first + count)
              (straight_end text first 0 count) m) machine_is
              (cut_plain text lined first count 0 laid packet opening ran sound meaning none more);
        },
      )
      goes_next none (Block other) same = absurd cc
      goes_next none (Register word) same = absurd cc

      module _ (branch : Placed) (there : In branch (issued_on text (straight text first 0 count))) where
        goes_block : (number : ℕ) → (since 0 meaning.did branch).target ≡ Some (ToBlock number) → (exit : Exit)
            → named_exit label exit ≡ Block number → exit_fits starts (aim_of packets label) exit ≡ true
            → GoesOn starts block_number text first opening left exit
        goes_block number ran_to Next same fit = absurd cc
        goes_block number ran_to (Register word) same fit = absurd cc
        goes_block number ran_to (Block other) same fit =
            let named : number ≡ label = (let e : Block label ≡ Block number = same in cc) in
            let goes : leads_to text (ToBlock number) ≡ At (aim_of packets label)
            = ap (λ (n : ℕ). At (aim_of text n)) named ∙ ap At aims_same in (
              aim_of packets label,
              row_is (start_at starts other) (aim_of packets label) fit,
              record {
                cycles = branch.cycle + 6;
                cut = λ more. subst (λ m. IsCut text first (branch.cycle + 6 + more) opening (aim_of packets label)
                    (branch.cycle + 6) m) machine_is
                    (cut_turned text lined first count 0 laid packet opening ran sound meaning branch (ToBlock number)
                    there ran_to (aim_of packets label) goes more);
              },
            )

        goes_out : (word : ℕ) → (since 0 meaning.did branch).target ≡ Some (ToRegister word) → (exit : Exit)
            → named_exit label exit ≡ Register word
            → GoesOn starts block_number text first opening left exit
        goes_out word ran_to Next same = absurd cc
        goes_out word ran_to (Block other) same = absurd cc
        goes_out word ran_to (Register own) same = λ out. (
            let named : own ≡ word = (let e : Register own ≡ Register word = same in cc) in
            let goes : leads_to text (ToRegister word) ≡ Outside own
            = subst (λ w. leads_to text (ToRegister w) ≡ Outside own) named
            (cond-false (is_address text own) (At (row_at own)) (Outside own) out) in
            record {
              cycles = branch.cycle + 6;
              flies = λ more. subst (λ m. Flies text first (branch.cycle + 6 + more) opening (StopRegister own)
                  (branch.cycle + 6) m) machine_is
                  (flies_out text lined first count 0 laid packet opening ran sound meaning branch (ToRegister word)
                  there ran_to own goes more);
            })

        goes_turned : (target : Target) → (since 0 meaning.did branch).target ≡ Some target
            → GoesOn starts block_number text first opening left (serial block.insns opening).exit
        goes_turned (ToBlock number) ran_to = goes_block number ran_to (serial block.insns opening).exit
            (sym exit_is ∙ exit_turned text lined first count 0 laid packet opening ran sound meaning branch
            (ToBlock number) there ran_to) right
        goes_turned (ToRegister word) ran_to = goes_out word ran_to (serial block.insns opening).exit
            (sym exit_is ∙ exit_turned text lined first count 0 laid packet opening ran sound meaning branch
            (ToRegister word) there ran_to)

      pub goes_on : GoesOn starts block_number text first opening left (serial block.insns opening).exit
      goes_on = elim (any_branch text lined first count 0 laid packet opening ran sound meaning) [
        | inl none ↦ goes_next none (serial block.insns opening).exit
            (sym exit_is ∙ exit_plain text lined first count 0 laid packet opening ran sound meaning none)
        | inr b ↦ goes_turned b.0 b.2 b.1 b.3
      ]
