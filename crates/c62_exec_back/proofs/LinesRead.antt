-- All lines that are adopted as they stand are read in flight.
use Rattle.std.proofs.Common.{◌≡◌, ℕ, ◌+◌, ◌-◌, ◌<◌, true, false, cond, ◌&&◌, List, [], ◌∷◌, ◌++◌, length, Option, Some}
use Rattle.std.proofs.Common.{None, Ok, Err, refl, sym, ◌∙◌, ap, subst, inl, arith}
use Rattle.std.specs.Prelude.{Result, map, is_none, IfSome}
use Rattle.std.specs.Map.{keys_of}
use Rattle.std.specs.Option.{option_to_list, option_map_or}
use Rattle.std.proofs.lemmas.Bool.Decides.{nat_tests}
use Rattle.std.proofs.lemmas.List.Elements.{All-contains}
use Rattle.c62_op.specs.declared.operands.Operands.{Operands}
use Rattle.c62_line.specs.Line.{Parts, Says, Nothing, Pause, Does, Jumps}
use Rattle.c62_read.specs.Program.{Name}
use Rattle.c62_packet.specs.declared.placed.Placed.{Placed}
use Rattle.c62_packet.specs.Packed.{Packed}
use Rattle.c62_listing_reader.specs.Said.{aimed_parts}
use Rattle.c62_adopt_line.specs.declared.fault.LineFault.{LineFault}
use Rattle.c62_adopt_line.specs.Line.{Line, line_says}
use Rattle.c62_adopt_line.specs.Laws.{HasTarget, IsWhole, names_block}
use Rattle.c62_adopt_line.proofs.WholeLines.{line_whole}
use Rattle.c62_adopt_cut.specs.declared.fault.TextCause.{TextCause}
use Rattle.c62_adopt_cut.specs.Blocks.{Draft, Drafts, issue_at, with_line}
use Rattle.c62_adopt_cut.specs.Cut.{is_filled, last_packet, stand_of}
use Rattle.c62_adopt_cut.specs.Home.{Home, home, home_in, home_said, homes_in, label_in}
use Rattle.c62_adopt_cut.specs.Laws.{labels_given}
use Rattle.c62_adopt_cut.specs.Text.{Cut, and_line, hindrance, judged, read_below, unless_hindered}
use Rattle.c62_adopt_cut.proofs.HomeLemmas.{AreHome, line_home}
use Rattle.c62_adopt_cut.proofs.KeptLemmas.{IsFree, unhindered}
use Rattle.c62_adopt_cut.proofs.StandLemmas.{stand_low}
use Rattle.c62_meaning.proofs.Lookup.{In, Contains_from_In, In-append_left, In-append_right}
use Rattle.c62_meaning.proofs.Instances.{in_map}
use Rattle.c62_flight.specs.Text.{Row}
use Rattle.c62_rows.specs.Rows.{IsRow, MayJoin, with_idle, with_insn}
use Rattle.c62_rows.specs.Sound.{IsSound as IsSoundReading}
use Rattle.c62_rows.specs.Word.{Said, row_says}
use Rattle.c62_rows.specs.declared.fault.RowsCause.TheVariants.{TooManyTargets}
use Rattle.c62_rows.specs.Reading.{Reading, all_rows, at_line, hindrance as row_hindrance, insns_above, is_beyond}
use Rattle.c62_rows.specs.Reading.{is_given, is_one_more, number_of, on_current, with_target, AddsLine, AddsSays}
use Rattle.c62_rows.specs.Text.{LeadsTo}
use Rattle.c62_rows.proofs.SoundLemmas.{at_line_sound, line_sound}
use Rattle.c62_exec_back.proofs.Beginnings.{span}
use Rattle.c62_exec_back.proofs.Existing.{IsMade, made, may_join, near}
use Rattle.c62_exec_back.proofs.AimedInsns.{unaimed}
use Rattle.c62_exec_back.proofs.Joining.{AreApart}
use Rattle.c62_exec_back.proofs.Pairs.{AreAdopted}
use Rattle.c62_exec_back.proofs.LineHomes.{line_bound}
use Rattle.c62_exec_back.proofs.Pauses.{line_lasts}
use Rattle.c62_exec_back.proofs.Rising.{units_rise}
use Rattle.c62_exec_back.proofs.ReadyRows.{IsReady, ready}
use Rattle.c62_exec_back.proofs.RowLines.{NamesTarget, line_steps, names_target}
use Rattle.c62_exec_back.proofs.Stood.{stood_at, stood_append, stood_from}
use Rattle.c62_exec_back.proofs.LineLabels.{with_said, all_lines, all_have, open_alike}
use Rattle.c62_exec_back.proofs.NamedTargets.{IsFine, named_fine, target_known, few_targets, not_taken}
use Rattle.c62_rows.specs.declared.reader.TheConstants.{MOST_TARGETS}
use Rattle.c62_op.specs.declared.set.InstructionSet.{InstructionSet}

module _ (isa : InstructionSet) (lines : List Line) (end : ℕ) (blocks : List Draft) (packets : List Packed)
    (are : AreAdopted lines end blocks packets) (few : length (labels_given blocks) < MOST_TARGETS) where
  abbrev given : List Name
  given = labels_given blocks

  module _ (above : List Line) (number : ℕ) (drafts : Drafts) (line : Line) (bytes : List ℕ) (old : Reading)
      (fine : IsFine given above drafts old) (whole : IsWhole isa line)
      (free : IsFree above drafts line) (counted : number ≡ length above + 1)
      (says_line : line_says isa bytes ≡ Ok line)
      (sub : (h : Home) → In h (homes_in (line ∷ above)) → In h (homes_in lines)) where
    abbrev said : Said
    said = record { line = line; word = None }

    abbrev mid : Reading
    mid = at_line line old

    says_said : row_says isa bytes ≡ Ok said
    unfolding row_says
    says_said = rw says_line refl

    open_row : (line.beside && is_none old.current) ≡ false
    open_row = ap (λ b. line.beside && b) (open_alike old.done old.current (last_packet above) fine.rows.is_open)
        ∙ free.bars

    not_given : is_given line.label old ≡ false
    not_given = not_taken given above drafts old fine line.label free.taken

    not_beyond : (target : Name) → is_beyond target old ≡ false
    not_beyond target = let l = few_targets given drafts above old few fine in grind (arith, nat_tests, l)

    unhindered_row : row_hindrance said old ≡ None
    unfolding row_hindrance
    unhindered_row = rw (open_row, not_given) (by line.says)
      where
        by : (says : Says) → cond (is_one_more None says old) (Some TooManyTargets) None ≡ None
        by (Jumps parts target) = rw (not_beyond target) refl
        by _ = refl

    it : IsReady above line drafts old mid
    it = ready above drafts old fine.rows line.beside line.label line.says open_row whole.beside

    mid_sound : IsSoundReading mid
    mid_sound = at_line_sound line old fine.sound

    -- the row that the instruction joins
    joins : (h0 : Home) (other : ℕ) (p : Placed) → In h0 (homes_in (line ∷ above)) → h0.issue.line ≡ length above + 1
        → h0.start + h0.issue.cycle ≡ (stand_of above line).cycle
        → IsMade lines end blocks packets are h0 other p → is_filled line.says ≡ true → MayJoin (insns_above mid) p
    joins h0 other p there at_line_h when is filled =
        let at_row = it.filled filled in
        let row : Row = at_row.0 in
        let above_is : insns_above mid ≡ row.insns = ap (λ o. option_map_or (λ (r : Row). r.insns) o []) at_row.1 in
        let row_is : IsRow row = subst (λ (o : Option Row). IfSome o IsRow) at_row.1 mid_sound.current in
        subst (λ (xs : List Placed). MayJoin xs p) (sym above_is)
        (may_join lines end blocks packets are h0 (sub h0 there) other p is row.insns
        (λ n q0 pair0 x h.
        let s = stood row at_row.1 x h in
        let r = fine.rows.from (stood_at (span mid.done) x) s in
        near lines end blocks packets are h0 (sub h0 there) n q0 pair0 old.targets r.0 (stood_at (span mid.done) x)
        (sub r.0 (In-append_left r.0 (homes_in above) _ r.1)) r.2
        (All-contains (λ (y : Placed). y.cycle ≡ 0) row.insns x row_is.cycles (Contains_from_In x row.insns h))
        (at_row.2 ∙ sym when)) (units_rise row.insns row_is.in_order)
        (λ x h.
        let s = stood row at_row.1 x h in
        let r = fine.rows.from (stood_at (span mid.done) x) s in
        let l = line_bound above r.0 r.1 in
        let own = r.2.line in omega (arith, l, own, at_line_h)))
      where
        stood : (row : Row) → mid.current ≡ Some row → (x : Placed) → In x row.insns
            → In (stood_at (span mid.done) x) (stood_from 0 (all_rows old))
        stood row at_row x h =
            let rows : all_rows mid ≡ mid.done ++ row ∷ [] = ap
            (λ (current : Option Row). mid.done ++ option_to_list current) at_row in
            let parted = stood_append 0 mid.done (row ∷ []) in
            let z : 0 + span mid.done ≡ span mid.done = omega arith in
            let last : In (stood_at (span mid.done) x) (map (stood_at (0 + span mid.done)) row.insns)
            = subst (λ n. In (stood_at n x) (map (stood_at (0 + span mid.done)) row.insns)) z
            (in_map (stood_at (0 + span mid.done)) x row.insns h) in
            subst (In (stood_at (span mid.done) x)) (ap (stood_from 0) (sym rows) ∙ it.stood)
            (subst (In (stood_at (span mid.done) x)) (sym parted)
            (In-append_right (stood_at (span mid.done) x) (stood_from 0 mid.done)
            (map (stood_at (0 + span mid.done)) row.insns ++ [])
            (In-append_left (stood_at (span mid.done) x) (map (stood_at (0 + span mid.done)) row.insns) [] last)))

    abbrev block : Option Name
    block = label_in (stand_of above line).start (line ∷ above)

    abbrev own : Parts → Option Name → Home
    own parts target = home block (stand_of above line).start
        (issue_at (stand_of above line) (length above + 1) parts target)

    own_when : (parts : Parts) (target : Option Name)
        → (own parts target).start + (own parts target).issue.cycle ≡ (stand_of above line).cycle
    own_when parts target = let low = stand_low above line in omega (arith, low)

    -- what it comes to
    record IsNext (says : Says) : Type 0 where
      next : Reading
      adds : AddsSays number None says mid next
      apart : AreApart (keys_of next.targets)
      known : (name : Name) → In name (keys_of next.targets) → In name given

    mid_apart : AreApart (keys_of mid.targets)
    mid_apart = subst (λ (ts : List (Name × ℕ)). AreApart (keys_of ts)) (sym it.targets) fine.apart

    mid_known : (name : Name) → In name (keys_of mid.targets) → In name given
    mid_known = subst (λ (ts : List (Name × ℕ)). (name : Name) → In name (keys_of ts)
        → In name given) (sym it.targets) fine.known

    own_there : (parts : Parts) (target : Option Name) (says : Says) → line.says ≡ says
        → home_said (length above + 1) (stand_of above line) block says ≡ own parts target ∷ []
        → In (own parts target) (homes_in (line ∷ above))
    own_there parts target says e is =
        In-append_right (own parts target) (homes_in above) (home_in above line)
        (subst (λ (homes : List Home). In (own parts target) homes)
        (sym (ap (home_said (length above + 1) (stand_of above line) block) e ∙ is)) (inl refl))

    does_next : (parts : Parts) → line.says ≡ Does parts → IsNext (Does parts)
    does_next parts e =
        let h0 : Home = own parts None in
        let there : In h0 (homes_in (line ∷ above)) = own_there parts None (Does parts) e refl in
        let m = made lines end blocks packets are h0 0 (sub h0 there) in
        let p : Placed = m.0 in
        let plain : names_block parts.operands ≡ false = subst HasTarget e whole.target in
        let same : aimed_parts 0 parts ≡ parts = ap
        (λ (o : Operands). record { op = parts.op; operands = o; cond = parts.cond; unit = parts.unit })
        (unaimed parts.operands 0 plain) in
        record {
          next = on_current (with_insn p) mid;
          adds = record {
            placed = p;
            is = record { parts = m.1.parts ∙ same; line = m.1.line ∙ sym counted; cycle = m.1.cycle; unit = m.1.unit };
            joins = joins h0 0 p there refl (own_when parts None) m.1 (ap is_filled e);
            adds = refl;
          };
          apart = mid_apart;
          known = mid_known;
        }

    jumps_next : (parts : Parts) (target : Name) → line.says ≡ Jumps parts target → IsNext (Jumps parts target)
    jumps_next parts target e =
        let h0 : Home = own parts (Some target) in
        let there : In h0 (homes_in (line ∷ above)) = own_there parts (Some target) (Jumps parts target) e refl in
        let named : ℕ = number_of target mid in
        let m = made lines end blocks packets are h0 named (sub h0 there) in
        let p : Placed = m.0 in
        let new = named_fine given target number mid mid_apart mid_known
        (target_known lines end blocks packets are h0 target
        (sub h0 there) refl) in
        let names : NamesTarget target number mid (with_target target number mid) = names_target target number mid in
        let still : insns_above (with_target target number mid) ≡ insns_above mid = ap
        (λ (o : Option Row). option_map_or (λ (r : Row). r.insns) o []) names.current in
        record {
          next = on_current (with_insn p) (with_target target number mid);
          adds = record {
            placed = p;
            is = record { parts = m.1.parts; line = m.1.line ∙ sym counted; cycle = m.1.cycle; unit = m.1.unit };
            joins = subst (λ (xs : List Placed). MayJoin xs p) (sym still)
                (joins h0 named p there refl (own_when parts (Some target)) m.1 (ap is_filled e));
            adds = refl;
          };
          apart = new.0;
          known = new.1;
        }

    next_is : (says : Says) → line.says ≡ says → IsNext says
    next_is Nothing e = record { next = mid; adds = refl; apart = mid_apart; known = mid_known }
    next_is (Pause n) e = record
        { next = on_current (with_idle (n - 1)) mid; adds = refl; apart = mid_apart; known = mid_known }
    next_is (Does parts) e = does_next parts e
    next_is (Jumps parts target) e = jumps_next parts target e

    -- the line is read, and what was read is fine
    pub line_reads : (next : Reading) × AddsLine isa number bytes old next
        × IsFine given (line ∷ above) (with_line number (stand_of above line) line drafts) next
    line_reads =
        let n = next_is line.says refl in
        let adds : AddsLine isa number bytes old n.next = record
        { said = said; says = says_said; free = unhindered_row; adds = n.adds } in (
          n.next,
          adds,
          record {
            rows = line_steps above number drafts line.beside line.label old n.next fine.rows open_row whole.beside
                counted line.says (line_lasts isa bytes line says_line) n.adds;
            sound = line_sound isa number bytes old n.next fine.sound adds;
            apart = n.apart;
            known = n.known;
          },
        )

  -- ---- all lines

  -- what is read of lines below others
  pub record IsRead (number : ℕ) (old : Reading) (rest : List (List ℕ)) : Type 0 where
    pub reading : Reading
    pub leads : LeadsTo isa number old rest reading
    pub above : List Line
    pub drafts : Drafts
    pub fine : IsFine given above drafts reading

  module _ (above : List Line) (number : ℕ) (drafts : Drafts) (bytes : List ℕ) (rest : List (List ℕ)) (old : Reading)
      (home : AreHome above number drafts) (fine : IsFine given above drafts old) (read : Line → Cut)
      (behind : (line : Line) (next : Reading)
      → AreHome (line ∷ above) (number + 1) (with_line number (stand_of above line) line drafts)
      → IsFine given (line ∷ above) (with_line number (stand_of above line) line drafts) next
      → ((h : Home) → In h (homes_in (all_lines isa (line ∷ above) rest)) → In h (homes_in lines))
      → (read line).fault ≡ None → IsRead (number + 1) next rest) where
    hindered_reads : (line : Line) → line_says isa bytes ≡ Ok line
        → ((h : Home) → In h (homes_in (all_lines isa (line ∷ above) rest)) → In h (homes_in lines))
        → (found : Option TextCause) → (found ≡ None → IsFree above drafts line)
        → (and_line above drafts number (unless_hindered found line) read).fault ≡ None
        → IsRead number old (bytes ∷ rest)
    hindered_reads line says sub (Some cause) free none = absurd cc
    hindered_reads line says sub None free none = let whole : IsWhole isa line = line_whole isa bytes line says in
        let r = line_reads above number drafts line bytes old fine whole (free refl) home.numbered says
        (λ h there. sub h (all_have isa (line ∷ above) rest h there)) in
        let more = behind line r.0 (line_home isa above number drafts line whole (free refl) home) r.2 sub none in
        record {
          reading = more.reading;
          leads = (r.0, r.1, more.leads);
          above = more.above;
          drafts = more.drafts;
          fine = more.fine;
        }

    said_reads : (said : Result Line LineFault) → line_says isa bytes ≡ said
        → ((h : Home) → In h (homes_in (all_lines isa (with_said said above) rest)) → In h (homes_in lines))
        → (and_line above drafts number (judged above drafts said) read).fault ≡ None → IsRead number old (bytes ∷ rest)
    said_reads (Err fault) is sub none = absurd cc
    said_reads (Ok line) is sub none = hindered_reads line is sub (hindrance above drafts line)
        (unhindered above drafts line) none

  pub lines_read : (above : List Line) (number : ℕ) (drafts : Drafts) (rest : List (List ℕ)) (old : Reading)
      → AreHome above number drafts → IsFine given above drafts old
      → ((h : Home) → In h (homes_in (all_lines isa above rest)) → In h (homes_in lines))
      → (read_below isa above drafts number rest).fault ≡ None → IsRead number old rest
  unfolding read_below
  lines_read above number drafts [] old home fine sub none = record
      { reading = old; leads = refl; above = above; drafts = drafts; fine = fine }
  lines_read above number drafts (bytes ∷ rest) old home fine sub none =
      said_reads above number drafts bytes rest old home fine
      (λ line. read_below isa (line ∷ above) (with_line number (stand_of above line) line drafts) (number + 1) rest)
      (λ line next more fine_next sub_next none_next. lines_read (line ∷ above) (number + 1)
      (with_line number (stand_of above line) line drafts) rest next more fine_next sub_next none_next)
      (line_says isa bytes) refl sub none
