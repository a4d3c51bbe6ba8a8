-- The labels of a text stand in the order of their rows.
use Rattle.std.proofs.Common.{arith, ◌≡◌, ℕ, ◌+◌, ◌-◌, ◌≤◌, Bool, true, false, List, [], ◌∷◌, ◌++◌, length}
use Rattle.std.proofs.Common.{length-append, Option, Some, None, refl, sym, ◌∙◌, ap, subst}
use Rattle.std.proofs.lemmas.List.{append-nil}
use Rattle.c62_line.specs.Line.{Says, Nothing, Pause, Does, Jumps}
use Rattle.c62_read.specs.Program.{Name, Numbered}
use Rattle.c62_read.specs.Text.{lines_of}
use Rattle.c62_adopt_line.specs.Line.{Line}
use Rattle.c62_adopt_cut.specs.Cut.{begins_packet}
use Rattle.c62_flight.specs.Text.{Row, Text, no_row}
use Rattle.c62_rows.specs.Rows.{with_insn, with_idle}
use Rattle.c62_rows.specs.Reading.{Reading, no_reading, all_rows, with_label, begun, on_current, is_target, with_target}
use Rattle.c62_rows.specs.Reading.{with_named, at_line, AddsInsn, AddsSays, AddsLine}
use Rattle.c62_rows.specs.Text.{LeadsTo, IsText}
use Rattle.c62_rows.specs.Laws.{RiseTo, LabelsRise}
use Rattle.c62_rows.proofs.Worded.{same_count}
use Rattle.c62_op.specs.declared.set.InstructionSet.{InstructionSet}

-- ---- labels

more_rows : (rows more from : ℕ) (labels : List (Name × ℕ)) → rows ≤ more → RiseTo rows from labels
    → RiseTo more from labels
more_rows rows more from [] less rise = omega (arith, less, rise)
more_rows rows more from (label ∷ labels) less rise = (rise.0, more_rows rows more label.1 labels less rise.1)

one_label : (rows from : ℕ) (name : Name) (labels : List (Name × ℕ)) → RiseTo rows from labels
    → RiseTo rows from (labels ++ (name, rows) ∷ [])
one_label rows from name [] rise = (rise, omega arith)
one_label rows from name (label ∷ labels) rise = (rise.0, one_label rows label.1 name labels rise.1)

-- ---- lines

abbrev AreRising : Reading → Type 0
AreRising reading = RiseTo (length (all_rows reading)) 0 reading.labels

-- rows are added, and no label
record Grows (old new : Reading) : Type 0 where
  pub rows : length (all_rows old) ≤ length (all_rows new)
  pub labels : new.labels ≡ old.labels

grown : (old new : Reading) → Grows old new → AreRising old → AreRising new
grown old new grows rise =
    subst (RiseTo (length (all_rows new)) 0) (sym grows.labels)
    (more_rows (length (all_rows old)) (length (all_rows new)) 0 old.labels grows.rows rise)

label_rising : (label : Option Name) (reading : Reading) → AreRising reading → AreRising (with_label label reading)
label_rising None reading rise = rise
label_rising (Some label) reading rise =
    subst (λ (rows : List Row). RiseTo (length rows) 0 (reading.labels ++ (label, length (all_rows reading)) ∷ []))
    (sym (append-nil (all_rows reading)))
    (one_label (length (all_rows reading)) 0 label reading.labels rise)

begun_grows : (line : Line) (reading : Reading) → Grows reading (begun line reading)
begun_grows line reading = by (begins_packet line) refl
  where
    by : (b : Bool) → begins_packet line ≡ b → Grows reading (begun line reading)
    by true e = rw e (record { rows = omega (arith, length-append (all_rows reading) (no_row ∷ [])); labels = refl })
    by false e = rw e (record { rows = omega arith; labels = refl })

at_line_rising : (line : Line) (reading : Reading) → AreRising reading → AreRising (at_line line reading)
at_line_rising line reading rise =
    grown (with_label line.label reading) (at_line line reading) (begun_grows line (with_label line.label reading))
    (label_rising line.label reading rise)

change_grows : (change : Row
    → Row) (done : List Row) (current : Option Row) (labels targets : List (Name × ℕ)) (words : List (ℕ × Name))
    → Grows (record { done = done; current = current; labels = labels; targets = targets; words = words })
    (on_current change (record { done = done; current = current; labels = labels; targets = targets; words = words }))
change_grows change done None labels targets words = record { rows = omega arith; labels = refl }
change_grows change done (Some row) labels targets words =
    record { rows = omega (arith, length-append done (row ∷ []), length-append done (change row ∷ [])); labels = refl }

target_grows : (target : Name) (number : ℕ) (reading : Reading) → Grows reading (with_target target number reading)
target_grows target number reading = by (is_target target reading) refl
  where
    by : (b : Bool) → is_target target reading ≡ b → Grows reading (with_target target number reading)
    by true e = rw e (record { rows = omega arith; labels = refl })
    by false e = rw e (record { rows = omega arith; labels = refl })

named_grows : (word : Option Name) (number : ℕ) (reading : Reading) → Grows reading (with_named word number reading)
named_grows None number reading = record { rows = omega arith; labels = refl }
named_grows (Some name) number reading = let with = target_grows name number reading in record
    { rows = with.rows; labels = with.labels }

both_grow : (old mid new : Reading) → Grows old mid → Grows mid new → Grows old new
both_grow old mid new one other = record {
  rows = omega (arith, one.rows, other.rows);
  labels = other.labels
      ∙ one.labels;
}

insn_grows : (entry : Numbered) (old new : Reading) → AddsInsn entry old new → Grows old new
insn_grows entry old new adds =
    subst (Grows old) (sym adds.adds)
    (change_grows (with_insn adds.placed) old.done old.current old.labels old.targets old.words)

says_grows : (number : ℕ) (word : Option Name) (says : Says) (old new : Reading) → AddsSays number word says old new
    → Grows old new
says_grows number word Nothing old new same = subst (Grows old) (sym same)
    (record { rows = omega arith; labels = refl })
says_grows number word (Pause n) old new same =
    subst (Grows old) (sym same)
    (change_grows (with_idle (n - 1)) old.done old.current old.labels old.targets old.words)
says_grows number word (Does parts) old new adds =
    both_grow old (with_named word number old) new (named_grows word number old)
    (insn_grows _ (with_named word number old) new adds)
says_grows number word (Jumps parts target) old new adds =
    both_grow old (with_target target number old) new (target_grows target number old)
    (insn_grows _ (with_target target number old) new adds)

line_rising : (isa : InstructionSet) (number : ℕ) (bytes : List ℕ) (old new : Reading)
    → AddsLine isa number bytes old new → AreRising old
    → AreRising new
line_rising isa number bytes old new adds rise =
    grown (at_line adds.said.line old) new
    (says_grows number adds.said.word adds.said.line.says (at_line adds.said.line old) new adds.adds)
    (at_line_rising adds.said.line old rise)

-- ---- texts

lines_rising : (isa : InstructionSet) (number : ℕ) (old : Reading) (lines : List (List ℕ)) (new : Reading)
    → LeadsTo isa number old lines new
    → AreRising old → AreRising new
lines_rising isa number old [] new same rise = subst AreRising (sym same) rise
lines_rising isa number old (bytes ∷ lines) new (next, adds, leads) rise =
    lines_rising isa (number + 1) next lines new leads (line_rising isa number bytes old next adds rise)

pub labels_rise : (isa : InstructionSet) (text : List ℕ) → LabelsRise isa text
labels_rise isa text flying labels is =
    let rise : RiseTo (length (all_rows is.reading)) 0 is.reading.labels =
    lines_rising isa 1 no_reading (lines_of text) is.reading is.reads.leads (omega arith) in
    let count = same_count is.reading.words is.reading.labels (all_rows is.reading) flying.rows is.flies.rows in
    subst (RiseTo (length flying.rows) 0) (sym is.named)
    (more_rows (length (all_rows is.reading)) (length flying.rows) 0 is.reading.labels (omega (arith, count)) rise)
