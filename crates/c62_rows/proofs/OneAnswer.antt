-- A text makes rows in one way, or is refused in one way.
use Rattle.std.proofs.Common.{arith, ◌≡◌, inl, inr, ℕ, ◌+◌, List, [], ◌∷◌, Option, None, refl, sym, ap, ◌∙◌, subst}
use Rattle.c62_read.specs.Program.{Name}
use Rattle.c62_read.specs.Text.{lines_of}
use Rattle.c62_packet.specs.declared.placed.Placed.{Placed}
use Rattle.c62_flight.specs.Text.{Row, Text}
use Rattle.c62_rows.specs.declared.fault.RowsCause.{RowsCause}
use Rattle.c62_rows.specs.declared.fault.RowsFault.{RowsFault}
use Rattle.c62_rows.specs.declared.fault.RowsFault.TheVariants.{At, From, Memory}
use Rattle.c62_rows.specs.Worded.{IsWorded, AreInsnsWorded, IsRowWorded, AreWorded}
use Rattle.c62_rows.specs.Reading.{Reading, no_reading, all_rows}
use Rattle.c62_rows.specs.Text.{LeadsTo, RefusesAmong, IsReading, FliesOf, IsText, IsTextFrom, IsLost}
use Rattle.c62_rows.specs.Text.{lost_among, first_row, Refuses, RefusesFrom}
use Rattle.c62_rows.specs.Laws.{HasOneAnswer, HasOneText, HasOneStart, HasOneRefusal}
use Rattle.c62_rows.proofs.OneLine.{same_insn, one_line, line_not_refused, one_line_refusal}
use Rattle.c62_op.specs.declared.set.InstructionSet.{InstructionSet}

-- ---- all lines

one_reading : (isa : InstructionSet) (number : ℕ) (old : Reading) (lines : List (List ℕ)) (new other : Reading)
    → LeadsTo isa number old lines new
    → LeadsTo isa number old lines other
    → new ≡ other
one_reading isa number old [] new other a b = a ∙ sym b
one_reading isa number old (bytes ∷ lines) new other (next, adds, a) (then, adds_too, b) =
    let same : then ≡ next = one_line isa number bytes old then next adds_too adds in
    one_reading isa (number + 1) next lines new other a
    (subst (λ (r : Reading). LeadsTo isa (number + 1) r lines other) same b)

read_not_refused : (isa : InstructionSet) (number : ℕ) (old : Reading) (lines : List (List ℕ)) (new : Reading)
    (line : ℕ) (cause : RowsCause)
    → LeadsTo isa number old lines new
    → RefusesAmong isa number old lines line cause → ⊥
read_not_refused isa number old [] new line cause leads refused = refused
read_not_refused isa number old (bytes ∷ lines) new line cause (next, adds, leads) (inl refused) =
    line_not_refused isa number bytes old next cause adds refused.1
read_not_refused isa number old (bytes ∷ lines) new line cause (next, adds, leads) (inr (then, adds_too, refused)) =
    let same : then ≡ next = one_line isa number bytes old then next adds_too adds in
    read_not_refused isa (number + 1) next lines new line cause leads
    (subst (λ (r : Reading). RefusesAmong isa (number + 1) r lines line cause) same refused)

abbrev AreSame : ℕ → RowsCause → ℕ → RowsCause → Type 0
AreSame line cause other then = (line ≡ other) × (cause ≡ then)

one_among : (isa : InstructionSet) (number : ℕ) (old : Reading) (lines : List (List ℕ)) (line other : ℕ)
    (cause then : RowsCause)
    → RefusesAmong isa number old lines line cause
    → RefusesAmong isa number old lines other then → AreSame line cause other then
one_among isa number old [] line other cause then a b = absurd a
one_among isa number old (bytes ∷ lines) line other cause then (inl a) (inl b) = (
  a.0
      ∙ sym b.0,
  one_line_refusal isa number bytes old cause then a.1 b.1,
)
one_among isa number old (bytes ∷ lines) line other cause then (inl a) (inr (next, adds, b)) = absurd
    (line_not_refused isa number bytes old next cause adds a.1)
one_among isa number old (bytes ∷ lines) line other cause then (inr (next, adds, a)) (inl b) = absurd
    (line_not_refused isa number bytes old next then adds b.1)
one_among isa number old (bytes ∷ lines) line other cause then (inr (next, adds, a)) (inr (after, adds_too, b)) =
    let same : after ≡ next = one_line isa number bytes old after next adds_too adds in
    one_among isa (number + 1) next lines line other cause then a
    (subst (λ (r : Reading). RefusesAmong isa (number + 1) r lines other then) same b)

-- ---- rows with words

module _ (words : List (ℕ × Name)) (labels : List (Name × ℕ)) where
  one_worded : (p one other : Placed) → IsWorded words labels p one → IsWorded words labels p other → one ≡ other
  one_worded p one other a b =
      let insn : one.insn ≡ other.insn = same_insn one.insn other.insn (a.parts ∙ sym b.parts) in
      grind (arith, insn, a.line, b.line, a.cycle, b.cycle, a.unit, b.unit)

  one_insns : (placed one other : List Placed) → AreInsnsWorded words labels placed one
      → AreInsnsWorded words labels placed other → one ≡ other
  one_insns [] [] [] a b = refl
  one_insns (p ∷ placed) (q ∷ one) (r ∷ other) a b = rw (one_worded p q r a.0 b.0, one_insns placed one other a.1 b.1)
      refl
  one_insns [] (q ∷ one) other a b = absurd a
  one_insns [] [] (r ∷ other) a b = absurd b
  one_insns (p ∷ placed) [] other a b = absurd a
  one_insns (p ∷ placed) (q ∷ one) [] a b = absurd b

  one_row : (row one other : Row) → IsRowWorded words labels row one → IsRowWorded words labels row other → one ≡ other
  one_row row one other a b =
      let insns : one.insns ≡ other.insns = one_insns row.insns one.insns other.insns a.insns b.insns in
      grind (arith, insns, a.idle, b.idle)

  one_rows : (rows one other : List Row) → AreWorded words labels rows one → AreWorded words labels rows other
      → one ≡ other
  one_rows [] [] [] a b = refl
  one_rows (p ∷ rows) (q ∷ one) (r ∷ other) a b = rw (one_row p q r a.0 b.0, one_rows rows one other a.1 b.1) refl
  one_rows [] (q ∷ one) other a b = absurd a
  one_rows [] [] (r ∷ other) a b = absurd b
  one_rows (p ∷ rows) [] other a b = absurd a
  one_rows (p ∷ rows) (q ∷ one) [] a b = absurd b

one_flight : (reading : Reading) (flying other : Text) → FliesOf reading flying → FliesOf reading other → flying ≡ other
one_flight reading flying other a b =
    let rows : flying.rows ≡ other.rows = one_rows reading.words reading.labels (all_rows reading) flying.rows
    other.rows a.rows b.rows in
    let aims : flying.aims ≡ other.aims = a.aims ∙ sym b.aims in
    grind (arith, rows, aims)

-- ---- texts

same_reading : (isa : InstructionSet) (text : List ℕ) (one other : Reading) → IsReading isa text one
    → IsReading isa text other → other ≡ one
same_reading isa text one other a b = one_reading isa 1 no_reading (lines_of text) other one b.leads a.leads

one_text : (isa : InstructionSet) (text : List ℕ) → HasOneText isa text
one_text isa text flying other labels names a b =
    let same : b.reading ≡ a.reading = same_reading isa text a.reading b.reading a.reads b.reads in (
      one_flight a.reading flying other a.flies (subst (λ (r : Reading). FliesOf r other) same b.flies),
      a.named ∙ ap (λ (r : Reading). r.labels) (sym same) ∙ sym b.named,
    )

one_start : (isa : InstructionSet) (text : List ℕ) (from : Option Name) → HasOneStart isa text from
one_start isa text from flying other first next a b =
    let same = one_text isa text flying other a.labels b.labels a.is_text b.is_text in
    let row : first_row from a.labels ≡ first_row from b.labels = ap (first_row from) same.1 in
    (same.0, grind (arith, a.begins, b.begins, row))

not_refused : (isa : InstructionSet) (text : List ℕ) (flying : Text) (labels : List (Name × ℕ)) (line : ℕ)
    (cause : RowsCause)
    → IsText isa text flying labels
    → Refuses isa text (At line cause) → ⊥
not_refused isa text flying labels line cause is (inl long) = absurd (omega (arith, is.reads.short, long.long))
not_refused isa text flying labels line cause is (inr (inl first)) =
    read_not_refused isa 1 no_reading (lines_of text) is.reading line cause is.reads.leads first.among
not_refused isa text flying labels line cause is (inr (inr lost)) =
    let same : lost.reading ≡ is.reading = same_reading isa text is.reading lost.reading is.reads lost.reads in
    let found : lost_among lost.reading.targets lost.reading.labels ≡ None = ap
    (λ (r : Reading). lost_among r.targets r.labels) same ∙ is.found in
    absurd (grind (arith, found, lost.lost.lost))

one_lost : (targets labels : List (Name × ℕ)) (line other : ℕ) (cause then : RowsCause)
    → IsLost targets labels line cause → IsLost targets labels other then
    → AreSame line cause other then
one_lost targets labels line other cause then a b =
    let line_is : line ≡ other = grind (arith, a.lost, b.lost) in
    (line_is, a.told ∙ sym b.told)

one_fault : (isa : InstructionSet) (text : List ℕ) (line other : ℕ) (cause then : RowsCause)
    → Refuses isa text (At line cause)
    → Refuses isa text (At other then)
    → AreSame line cause other then
one_fault isa text line other cause then (inl a) (inl b) = (a.none ∙ sym b.none, a.told ∙ sym b.told)
one_fault isa text line other cause then (inl a) (inr (inl b)) = absurd (omega (arith, a.long, b.short))
one_fault isa text line other cause then (inl a) (inr (inr b)) = absurd (omega (arith, a.long, b.reads.short))
one_fault isa text line other cause then (inr (inl a)) (inl b) = absurd (omega (arith, b.long, a.short))
one_fault isa text line other cause then (inr (inr a)) (inl b) = absurd (omega (arith, b.long, a.reads.short))
one_fault isa text line other cause then (inr (inl a)) (inr (inl b)) =
    one_among isa 1 no_reading (lines_of text) line other
    cause then a.among b.among
one_fault isa text line other cause then (inr (inl a)) (inr (inr b)) =
    absurd (read_not_refused isa 1 no_reading (lines_of text) b.reading line cause b.reads.leads a.among)
one_fault isa text line other cause then (inr (inr a)) (inr (inl b)) =
    absurd (read_not_refused isa 1 no_reading (lines_of text) a.reading other then a.reads.leads b.among)
one_fault isa text line other cause then (inr (inr a)) (inr (inr b)) =
    let same : b.reading ≡ a.reading = same_reading isa text a.reading b.reading a.reads b.reads in
    one_lost a.reading.targets a.reading.labels line other cause then a.lost
    (subst (λ (r : Reading). IsLost r.targets r.labels other then) same b.lost)

starts_not_refused : (isa : InstructionSet) (text : List ℕ) (from : Option Name) (flying : Text) (first : ℕ)
    (fault : RowsFault)
    → IsTextFrom isa text from flying first
    → RefusesFrom isa text from fault → fault ≡ Memory
starts_not_refused isa text from flying first Memory is refused = refl
starts_not_refused isa text from flying first (At line cause) is refused = absurd
    (not_refused isa text flying is.labels line cause is.is_text refused)
starts_not_refused isa text from flying first From is refused =
    let same = one_text isa text flying refused.flying is.labels refused.labels is.is_text refused.is_text in
    let row : first_row from is.labels ≡ first_row from refused.labels = ap (first_row from) same.1 in
    absurd (grind (arith, is.begins, refused.lacks, row))

one_refusal : (isa : InstructionSet) (text : List ℕ) (from : Option Name) → HasOneRefusal isa text from
one_refusal isa text from Memory other a b = inr (inl refl)
one_refusal isa text from (At line cause) Memory a b = inr (inr refl)
one_refusal isa text from From Memory a b = inr (inr refl)
one_refusal isa text from From From a b = inl refl
one_refusal isa text from (At line cause) From a b =
    absurd (not_refused isa text b.flying b.labels line cause b.is_text a)
one_refusal isa text from From (At line cause) a b =
    absurd (not_refused isa text a.flying a.labels line cause a.is_text b)
one_refusal isa text from (At line cause) (At other then) a b =
    let same = one_fault isa text line other cause then a b in
    inl (ap (λ (l : ℕ). At l cause) same.0 ∙ ap (At other) same.1)

pub one_answer : (isa : InstructionSet) (text : List ℕ) (from : Option Name) → HasOneAnswer isa text from
one_answer isa text from = record {
  rows = one_text isa text;
  start = one_start isa text from;
  refusal = starts_not_refused isa text from;
  one_refusal = one_refusal isa text from;
}
