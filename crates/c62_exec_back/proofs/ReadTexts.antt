-- What is read of an adopted text is sound, and has its labels and its rows.
use Rattle.std.proofs.Common.{◌≡◌, ℕ, ◌+◌, ◌≤◌, true, false, ◌==◌, List, [], ◌∷◌, length, Some, None, sym, ◌∙◌, ap}
use Rattle.std.proofs.Common.{subst, inl, inr, arith}
use Rattle.std.specs.Prelude.{All}
use Rattle.std.specs.List.{AllByRecursion, AllZip, list_any}
use Rattle.std.specs.Option.{option_to_list}
use Rattle.std.specs.Str.{bytes_eq}
use Rattle.std.proofs.lemmas.Bool.{cases_Bool, eqb-true}
use Rattle.std.proofs.lemmas.Option.{same_Some}
use Rattle.std.proofs.lemmas.List.{length-append}
use Rattle.std.proofs.lemmas.List.Elements.{All-cons, All-nil}
use Rattle.c62_read.specs.Program.{Name}
use Rattle.c62_read.specs.Text.{lines_of}
use Rattle.c62_serial.specs.Chain.{Position, At, Ended}
use Rattle.c62_serial.specs.declared.chain.End.TheVariants.{End as FellThrough, Register as LeftBy, Limit as Stopped}
use Rattle.c62_packet.specs.Packed.{Packed, IsPacketBlock}
use Rattle.c62_adopt_line.specs.Line.{Line}
use Rattle.c62_adopt_cut.specs.Cut.{cuts_of}
use Rattle.c62_adopt_cut.specs.Blocks.{Draft}
use Rattle.c62_adopt_cut.specs.Home.{homes_in, starts_of}
use Rattle.c62_adopt_cut.specs.Text.{Cut}
use Rattle.c62_adopt_cut.proofs.OverLemmas.{blocks_are_over}
use Rattle.c62_adopt.specs.Answer.{IsAdopted, code_in, code_read, code_cut}
use Rattle.c62_adopt.specs.Blocks.{IsBlockOf}
use Rattle.c62_adopt.proofs.AimLemmas.{blocks_are_aimed}
use Rattle.c62_meaning.proofs.Lookup.{In}
use Rattle.c62_flight.specs.Text.{Row, Text}
use Rattle.c62_flight.specs.Laid.{IsOutside}
use Rattle.c62_flight.specs.Numbered.{IsSameText}
use Rattle.c62_flight.proofs.Numbered.{fly_the_same}
use Rattle.c62_rows.specs.Reading.{Reading, all_rows, no_reading}
use Rattle.c62_rows.specs.Sound.{IsSound as IsSoundReading}
use Rattle.c62_rows.specs.Text.{IsReading, LeadsTo, aims_among, lost_among}
use Rattle.c62_rows.specs.Word.{row_named}
use Rattle.c62_rows.proofs.SoundLemmas.{line_sound, none_sound, rows_are}
use Rattle.c62_exec_back.specs.Laws.{FliesAsRun}
use Rattle.c62_exec_back.proofs.Beginnings.{begins, begins_end, begins_first, span}
use Rattle.c62_exec_back.proofs.RowPairs.{AreRowsOf, BothWays, own_text}
use Rattle.c62_exec_back.proofs.SameTexts.{same_text}
use Rattle.c62_exec_back.proofs.Laying.{spaced}
use Rattle.c62_exec_back.proofs.Pairs.{AreAdopted, of_home}
use Rattle.c62_exec_back.proofs.BlockStarts.{are_rising, start_at, starts_rise}
use Rattle.c62_exec_back.proofs.ReadRows.{AreEarly, IsCutBy, begun_stays, labelled}
use Rattle.c62_exec_back.proofs.ReadyRows.{cut_stays}
use Rattle.c62_exec_back.proofs.Spaced.{spaced_flies}
use Rattle.c62_exec_back.proofs.Together.{AreBoth, text_both}
use Rattle.c62_op.specs.declared.set.InstructionSet.{InstructionSet}

-- ---- what is read is sound

leads_sound : (isa : InstructionSet) (number : ℕ) (old : Reading) (lines : List (List ℕ)) (new : Reading)
    → IsSoundReading old
    → LeadsTo isa number old lines new → IsSoundReading new
leads_sound isa number old [] new is same = subst IsSoundReading (sym same) is
leads_sound isa number old (bytes ∷ lines) new is leads = leads_sound isa (number + 1) leads.0 lines new
    (line_sound isa number bytes old leads.0 is leads.1) leads.2

-- ---- labels are of rows

early_row : (done : List Row) (labels : List (Name × ℕ)) (label : Name) (row : ℕ) → AreEarly done labels
    → row_named label labels ≡ Some row → row ≤ length done
early_row done [] label row early e = absurd cc
early_row done (x ∷ labels) label row early e = elim (cases_Bool (bytes_eq label x.0)) [
  | inl here ↦ (let same : x.1 ≡ row = same_Some x.1 row (rw here at e) in let l = early.0 in omega (arith, same, l))
  | inr other ↦ early_row done labels label row early.1 (rw other at e)
]

-- ---- the first block begins with a row

any_in : (cycle : ℕ) (cuts : List ℕ) → list_any (λ cut. cut == cycle) cuts ≡ true → In cycle cuts
any_in cycle [] e = absurd cc
any_in cycle (cut ∷ cuts) e = elim (cases_Bool (cut == cycle)) [
  | inl here ↦ inl (eqb-true cut cycle here)
  | inr other ↦ inr (any_in cycle cuts (rw other at e))
]

module _ (lines : List Line) (end : ℕ) (packets : List Packed) (rows : List Row) (whole : span rows ≡ end)
    (cuts : (cycle : ℕ) → In cycle (cuts_of lines) → IsCutBy rows (homes_in lines) cycle) where
  abbrev Begun : List Draft → Type 0
  Begun drafts = (row : ℕ) × (row ≤ length rows) × (begins rows row ≡ start_at end drafts 0)

  cut_begun : (draft : Draft) (drafts : List Draft) → AreAdopted lines end (draft ∷ drafts) packets
      → IsCutBy rows (homes_in lines) draft.start → Begun (draft ∷ drafts)
  cut_begun draft drafts are (inl row) = row
  cut_begun draft drafts are (inr branch) =
      let b = of_home lines end (draft ∷ drafts) packets are branch.0 branch.1 in
      let l = starts_rise end (draft ∷ drafts) 0 b.0 are.rising (omega arith) in
      let from = b.2.start in let before = branch.2 in
      absurd (omega (arith, l, from, before))

  first_begun : (drafts : List Draft) → AreAdopted lines end drafts packets → Begun drafts
  first_begun [] are = (length rows, omega arith, begins_end rows ∙ whole)
  first_begun (draft ∷ drafts) are = elim (cases_Bool (draft.start == 0)) [
    | inl zero_start ↦ (0, omega arith, begins_first rows ∙ sym (eqb-true draft.start 0 zero_start))
    | inr other ↦ cut_begun draft drafts are
        (cuts draft.start (any_in draft.start (cuts_of lines) (rw other at are.of_lines.cuts.0)))
  ]

-- ---- a text

all_blocks : (whole drafts : List Draft) (packets : List Packed) → AllZip (IsBlockOf whole) drafts packets
    → All IsPacketBlock packets
all_blocks whole [] [] zip = All-nil IsPacketBlock
all_blocks whole [] (block ∷ packets) zip = absurd zip
all_blocks whole (draft ∷ drafts) [] zip = absurd zip
all_blocks whole (draft ∷ drafts) (block ∷ packets) zip = All-cons IsPacketBlock block packets zip.0.is_block
    (all_blocks whole drafts packets zip.1)

still_outside : (text other : Text) (position : Position) → length text.rows ≡ length other.rows
    → IsOutside other position → IsOutside text position
still_outside text other (At number) same out = tt
still_outside text other (Ended FellThrough) same out = tt
still_outside text other (Ended Stopped) same out = tt
still_outside text other (Ended (LeftBy word)) same out = rw same out

module _ (isa : InstructionSet) (text : List ℕ) (packets : List Packed) (adopted : IsAdopted isa false text packets 0)
    (reading : Reading)
    (reads : IsReading isa (code_in (code_read isa text)) reading)
    (found : lost_among reading.targets reading.labels ≡ None) where
  abbrev cut : Cut
  cut = code_cut isa text

  both : AreBoth cut reading
  both = text_both isa (code_in (code_read isa text)) reading reads adopted.read.cut.whole

  are : AreAdopted both.lines cut.cycles cut.drafts packets
  are = record {
    over = blocks_are_over false cut adopted.read.cut.over;
    blocks = adopted.read.cut.blocks;
    aimed = blocks_are_aimed isa (code_in (code_read isa text));
    of_lines = both.blocks;
    rising = are_rising cut.cycles cut.drafts both.blocks.rising
        (subst (λ n. AllByRecursion (λ start. start ≤ n) (starts_of cut.drafts)) (sym both.cycles) both.blocks.early);
  }

  abbrev rows : List Row
  rows = all_rows reading

  whole : span rows ≡ cut.cycles
  whole = both.rows.cycles ∙ sym both.cycles

  sound : IsSoundReading reading
  sound = leads_sound isa 1 no_reading (lines_of (code_in (code_read isa text))) reading none_sound reads.leads

  read : AreRowsOf both.lines cut.cycles cut.drafts reading
  read = record {
    whole = whole;
    from = both.rows.from;
    to = both.rows.to;
    labels = ap labelled both.all ∙ both.rows.labels
        ∙ sym (begun_stays reading.done (option_to_list reading.current) reading.labels both.rows.early);
    within = λ label row e.
        (let l = early_row reading.done reading.labels label row both.rows.early e in
        let more = length-append reading.done (option_to_list reading.current) in omega (arith, l, more));
    units = rows_are reading sound;
    found = found;
    begun = first_begun both.lines cut.cycles packets rows whole
        (λ cycle h. cut_stays reading.done (option_to_list reading.current) (homes_in both.lines) cycle
        (both.rows.cuts cycle h)) cut.drafts are;
  }

  abbrev given : BothWays
  given = record {
    lines = both.lines;
    end = cut.cycles;
    drafts = cut.drafts;
    packets = packets;
    are = are;
    reading = reading;
    read = read;
  }

  abbrev laid : Text
  laid = own_text given

  abbrev as_read : Text
  as_read = record { rows = rows; aims = aims_among reading.targets reading.labels }

  same : IsSameText laid as_read
  same = same_text given

  pub flies_as_run : FliesAsRun as_read packets
  flies_as_run opening limit standing start chain out =
      let f = spaced_flies laid packets (spaced given)
      (all_blocks cut.drafts cut.drafts packets adopted.read.cut.blocks)
      opening limit standing start chain (still_outside laid as_read standing.position same.count out) in
      record {
        stop = f.stop;
        taken = f.taken;
        long = f.long;
        told = f.told;
        flies = λ more h. fly_the_same laid as_read same 0 (f.taken + more) opening f.stop f.taken standing.machine
            (f.flies more h);
      }

  pub no_words : reading.words ≡ []
  no_words = both.rows.words
