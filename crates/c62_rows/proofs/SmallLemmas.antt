-- What is read of so many lines is small, and what the reader asks before a line.
use Rattle.std.proofs.Common.{arith, ◌≡◌, ℕ, ◌+◌, ◌-◌, ◌*◌, ◌<◌, ◌≤◌, List, [], ◌∷◌, length, Option, Some, None, Bool}
use Rattle.std.proofs.Common.{true, false, refl, sym, ap, subst}
use Rattle.std.specs.Prelude.{All, IfSome, ◌^◌}
use Rattle.std.specs.Option.{option_map_or}
use Rattle.std.proofs.lemmas.List.{append-nil, length-append}
use Rattle.std.proofs.lemmas.List.Elements.{All-nil}
use Rattle.c62_read.specs.Program.{Name, Numbered}
use Rattle.c62_line.specs.Line.{Says, Nothing, Pause, Does, Jumps}
use Rattle.c62_packet.specs.declared.placed.Placed.{Placed}
use Rattle.c62_adopt_line.specs.Line.{Line}
use Rattle.c62_adopt_cut.specs.Cut.{begins_packet}
use Rattle.c62_flight.specs.Text.{Row, no_row}
use Rattle.c62_rows.specs.Rows.{IsRow, with_insn, with_idle}
use Rattle.c62_rows.specs.Reading.{Reading, no_reading, all_rows, with_label, begun, on_current, is_target, with_target}
use Rattle.c62_rows.specs.Reading.{with_named, at_line, AddsInsn, AddsSays}
use Rattle.c62_rows.specs.Sound.{IsSound, IsSmall}
use Rattle.c62_rows.specs.Read.{IsReady, IsShort, AddsShortLine}
use Rattle.c62_adopt_cut.specs.declared.text.TheConstants.{MOST_BYTES}
use Rattle.c62_op.specs.declared.set.InstructionSet.{InstructionSet}

-- ---- so many lines

pub none_small : IsSmall 0 no_reading
none_small = record { rows = omega arith; idle = tt }

-- before what a line says: as many lines, and a row more
pub record IsSmallAt (lines : ℕ) (reading : Reading) : Type 0 where
  pub rows : length (all_rows reading) ≤ lines + 1
  pub idle : IfSome reading.current (λ row. row.idle ≤ 255 * lines)

label_small : (lines : ℕ) (label : Option Name) (reading : Reading) → IsSmall lines reading
    → IsSmall lines (with_label label reading)
label_small lines None reading is = is
label_small lines (Some label) reading is = record
    { rows = omega (arith, is.rows, ap length (append-nil (all_rows reading))); idle = tt }

pub at_small : (lines : ℕ) (line : Line) (reading : Reading) → IsSmall lines reading
    → IsSmallAt lines (at_line line reading)
at_small lines line reading is = by (begins_packet line) refl
  where
    below : Reading
    below = with_label line.label reading

    small : IsSmall lines below
    small = label_small lines line.label reading is

    by : (b : Bool) → begins_packet line ≡ b → IsSmallAt lines (begun line below)
    by true e = rw e (record
        { rows = omega (arith, small.rows, length-append (all_rows below) (no_row ∷ [])); idle = omega arith })
    by false e = rw e (record { rows = omega (arith, small.rows); idle = small.idle })

changed_small : (lines more : ℕ) (change : Row
    → Row) (done : List Row) (current : Option Row) (labels targets : List (Name × ℕ)) (words : List (ℕ × Name))
    → IsSmallAt lines (record { done = done; current = current; labels = labels; targets = targets; words = words })
    → more ≤ 255 → ((row : Row) → (change row).idle ≡ row.idle + more)
    → IsSmall (lines + 1)
    (on_current change (record
    { done = done; current = current; labels = labels; targets = targets; words = words }))
changed_small lines more change done None labels targets words is less adds = record { rows = is.rows; idle = tt }
changed_small lines more change done (Some row) labels targets words is less adds =
    record {
      rows = omega (arith, is.rows, length-append done (row ∷ []), length-append done (change row ∷ []));
      idle = omega (arith, is.idle, less, adds row);
    }

insn_small : (lines : ℕ) (entry : Numbered) (old new : Reading) → IsSmallAt lines old → AddsInsn entry old new
    → IsSmall (lines + 1) new
insn_small lines entry old new is adds =
    subst (IsSmall (lines + 1)) (sym adds.adds)
    (changed_small lines 0 (with_insn adds.placed) old.done old.current old.labels old.targets old.words is
    (omega arith) (λ row. omega arith))

target_small : (lines : ℕ) (target : Name) (number : ℕ) (reading : Reading) → IsSmallAt lines reading
    → IsSmallAt lines (with_target target number reading)
target_small lines target number reading is = by (is_target target reading) refl
  where
    by : (b : Bool) → is_target target reading ≡ b → IsSmallAt lines (with_target target number reading)
    by true e = rw e is
    by false e = rw e (record { rows = is.rows; idle = is.idle })

weaker : (lines : ℕ) (current : Option Row) → IfSome current (λ row. row.idle ≤ 255 * lines)
    → IfSome current (λ row. row.idle ≤ 255 * (lines + 1))
weaker lines None is = tt
weaker lines (Some row) is = omega (arith, is)

named_small : (lines : ℕ) (word : Option Name) (number : ℕ) (reading : Reading) → IsSmallAt lines reading
    → IsSmallAt lines (with_named word number reading)
named_small lines None number reading is = is
named_small lines (Some name) number reading is =
    let with = target_small lines name number reading is in
    record { rows = with.rows; idle = with.idle }

says_small : (lines number : ℕ) (word : Option Name) (says : Says) (old new : Reading) → IsSmallAt lines old
    → IsShort says
    → AddsSays number word says old new → IsSmall (lines + 1) new
says_small lines number word Nothing old new is short same =
    subst (IsSmall (lines + 1)) (sym same) (record { rows = is.rows; idle = weaker lines old.current is.idle })
says_small lines number word (Pause n) old new is short same =
    subst (IsSmall (lines + 1)) (sym same)
    (changed_small lines (n - 1) (with_idle (n - 1)) old.done old.current old.labels old.targets old.words is
    (omega (arith, short)) (λ row. refl))
says_small lines number word (Does parts) old new is short adds = insn_small lines _ (with_named word number old) new
    (named_small lines word number old is) adds
says_small lines number word (Jumps parts target) old new is short adds =
    insn_small lines _ (with_target target number old) new (target_small lines target number old is) adds

pub line_small : (isa : InstructionSet) (lines number : ℕ) (bytes : List ℕ) (old new : Reading) → IsSmall lines old
    → AddsShortLine isa number bytes old new → IsSmall (lines + 1) new
line_small isa lines number bytes old new is adds =
    says_small lines number adds.adds.said.word adds.adds.said.line.says (at_line adds.adds.said.line old) new
    (at_small lines adds.adds.said.line old is)
    adds.short adds.adds.adds

-- ---- what the reader asks before a line, and before what it says

insns_in-zero : (current : Option Row) → IfSome current IsRow
    → All (λ (p : Placed). p.cycle ≡ 0) (option_map_or (λ row. row.insns) current [])
insns_in-zero None none = All-nil _
insns_in-zero (Some row) one = one.cycles

pub ready_if : (lines : ℕ) (reading : Reading) → IsSound reading → IsSmallAt lines reading → lines ≤ MOST_BYTES
    → IsReady reading
ready_if lines reading sound small few =
    record {
      idle = below reading.current small.idle;
      cycles = insns_in-zero reading.current sound.current;
      targets =
          sound.targets;
    }
  where
    below : (current : Option Row) → IfSome current (λ row. row.idle ≤ 255 * lines)
        → IfSome current (λ row. row.idle < 2 ^ 31)
    below None none = tt
    below (Some row) one = omega (arith, one, few)

label_ready : (label : Option Name) (reading : Reading) → IsReady reading → IsReady (with_label label reading)
label_ready None reading is = is
label_ready (Some label) reading is = record { idle = tt; cycles = All-nil _; targets = is.targets }

pub at_ready : (line : Line) (reading : Reading) → IsReady reading → IsReady (at_line line reading)
at_ready line reading is = by (begins_packet line) refl
  where
    below : Reading
    below = with_label line.label reading

    ready : IsReady below
    ready = label_ready line.label reading is

    by : (b : Bool) → begins_packet line ≡ b → IsReady (begun line below)
    by true e = rw e (record { idle = omega arith; cycles = All-nil _; targets = ready.targets })
    by false e = rw e ready
