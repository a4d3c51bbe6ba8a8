-- Packets of which all is told to be the same run as their program, part by part.
use Rattle.std.proofs.Common.{◌≡◌, ℕ, zero, suc, ◌+◌, ◌-◌, ◌^◌, ◌<◌, ◌≤◌, Bool, true, false, List, [], ◌∷◌, ◌++◌, length}
use Rattle.std.proofs.Common.{Option, Some, None, refl, sym, ◌∙◌, ap, subst, inl, inr, ⊎_elim, arith}
use Rattle.std.specs.Prelude.{All, IsTrue, IsFalse, slice_get, option_map, is_none, not, if◌then◌else◌, ◌==◌, ◌&&◌}
use Rattle.std.specs.List.{list_all}
use Rattle.std.proofs.lemmas.Bool.{and_parts, false≢true, cases_lt}
use Rattle.std.proofs.lemmas.Bool.Decides.{nat_tests}
use Rattle.std.proofs.lemmas.List.{length-append}
use Rattle.std.proofs.lemmas.Option.{none-some, same_Some, slice_get-map, slice_get_within}
use Rattle.clap.specs.Words.{Text as Name}
use Rattle.c62_op.specs.declared.register.Reg.{Reg}
use Rattle.c62_insn.specs.Insn.{operands_of}
use Rattle.c62_read.specs.declared.block.SerialInsn.{SerialInsn}
use Rattle.c62_read.specs.Block.{Serial, IsProgram, is_block, is_labelled, labels_in, target_stands, targets_stand}
use Rattle.c62_serial.specs.declared.serial.Exit.{Exit}
use Rattle.c62_serial.specs.declared.serial.Exit.TheVariants.{Next, Block, Register}
use Rattle.c62_serial.specs.declared.chain.Chain.{Chain}
use Rattle.c62_serial.specs.declared.chain.End.{End as ChainEnd}
use Rattle.c62_serial.specs.declared.chain.End.TheVariants.{End as FellThrough, Register as LeftBy, Limit as Stopped}
use Rattle.c62_serial.specs.State.{Machine, IsSound}
use Rattle.c62_serial.specs.Effect.{no_act}
use Rattle.c62_serial.specs.Serial.{serial}
use Rattle.c62_serial.specs.Chain.{Position, At, Ended, Leads, RunsProgram, position_at, position_after, end_of}
use Rattle.c62_serial.proofs.ChainLemmas.{at_block, past_end, leads_nowhere}
use Rattle.c62_serial.proofs.MachineLemmas.{sound_run}
use Rattle.c62_meaning.proofs.Lookup.{In, In_from_Contains}
use Rattle.c62_meaning.proofs.JoinedRuns.{runs_nothing}
use Rattle.c62_flight.specs.declared.stop.Stop.{Stop}
use Rattle.c62_flight.specs.declared.stop.Stop.TheVariants.{End}
use Rattle.c62_flight.specs.Text.{Text, is_address}
use Rattle.c62_flight.specs.Cut.{IsCut}
use Rattle.c62_flight.proofs.Stays.{stays_behind}
use Rattle.c62_loop.specs.Loop.{serial_path, trips_of, last_row}
use Rattle.c62_loop_match.specs.Promise.{promises}
use Rattle.c62_loop.specs.Whole.{AreApart}
use Rattle.c62_check_loop.specs.declared.verdict.LoopVerdict.{LoopVerdict}
use Rattle.c62_check_loop.specs.Region.{last_of, is_apart_below, is_branch_entry}
use Rattle.c62_check_rest.specs.Laws.{ComesTo, LeavesBy, GoesOn}
use Rattle.c62_check_rest.specs.Starts.{start_at}
use Rattle.c62_check_loops.specs.Covered.{is_told, is_bare, has_below, follows_loop}
use Rattle.c62_check_loops.specs.Fit.{first_block, block_behind}
use Rattle.c62_check_loops.specs.Told.{AreLoopsTold}
use Rattle.c62_check_loops.proofs.Loops.{there_at}
use Rattle.c62_check_loops.specs.Constant.{constant_at}
use Rattle.c62_check_whole.specs.Promised.{last_in, AreMade, IsKept, KeepsPromises}
use Rattle.c62_check_whole.specs.Whole.{StopsAs, FliesTo, FliesAsProgram, CheckedLoopsAreSerial}
use Rattle.c62_check_whole.proofs.Chains.{Goes, goes_both, goes_one, goes_rest, is_named, exit_named}
use Rattle.c62_check_whole.proofs.SerialLoops.{block_at, goes_part, last_behind}
use Rattle.c62_check_whole.proofs.Texts.{SameRows, as_long}
use Rattle.c62_check_whole.proofs.BlockTexts.{goes_on}
use Rattle.c62_check_whole.proofs.Flights.{flies_behind, comes_behind}
use Rattle.c62_check_whole.proofs.Parts.{LoopOf, LoopPart, Part, Enters, enters_first, leaves_last}
use Rattle.c62_check_whole.proofs.Behind.{behind_loop, behind_block, behind_pass, first_below, behind_within}
use Rattle.c62_check_whole.proofs.Trips.{are_made}
use Rattle.c62_check_whole.proofs.Walks.{Agrees, Walk, walk}

-- ---- labels

all_at : {X : Type 0} (f : X → Bool) (xs : List X) (k : ℕ) (x : X) → list_all f xs ≡ true → slice_get xs k ≡ Some x
    → f x ≡ true
all_at f [] k x all at = absurd (none-some x at)
all_at {X} f (y ∷ ys) zero x all at = subst (λ (z : X). f z ≡ true) (same_Some y x at)
    (and_parts (f y) (list_all f ys) all).0
all_at f (y ∷ ys) (suc k) x all at = all_at f ys k x (and_parts (f y) (list_all f ys) all).1 at

targets_of : (blocks : List Serial) → targets_stand blocks ≡ true
    → list_all (λ block. list_all (λ entry. target_stands (labels_in blocks) (operands_of entry.insn)) block.insns)
    blocks ≡ true
unfolding targets_stand
targets_of blocks stand = stand

-- a block that has a label is there, and isn't bare
labelled_there : (o : Option Serial) → is_labelled (option_map (λ (block : Serial). block.label) o) ≡ true
    → (block : Serial) × (o ≡ Some block) × (is_bare o ≡ false)
labelled_there None h = absurd (false≢true h)
labelled_there (Some block) h =
    (block, refl, by_label block.label h (not (is_branch_entry (last_of block.insns))))
  where
    by_label : (label : Option (List ℕ)) → is_labelled (Some label) ≡ true → (b : Bool) → (is_none label && b) ≡ false
    by_label None h b = absurd (false≢true h)
    by_label (Some name) h b = refl

-- where it stands a flight is cut
stands_still : (text : Text) (row limit : ℕ) (machine : Machine) → IsSound machine
    → IsCut text row limit machine row 0 machine
stands_still text row limit machine sound = record {
  path = [];
  did = λ _. no_act;
  runs = runs_nothing 0 machine (λ _. no_act) sound;
  leads = (refl, refl);
  whole = λ c l. absurd (omega (arith, l));
  drained = record {
    all = record {
      before = λ p c. absurd (In_from_Contains p [] c);
      landed = λ p write c w. absurd (In_from_Contains p [] c);
    };
    branches = λ p target c e. absurd (In_from_Contains p [] c);
  };
}

not_bare : (told bare other : Bool) → bare ≡ false → (told && (bare && other)) ≡ false
not_bare told bare other e = grind (arith, e)

nothing_follows : (blocks : List Serial) (told : List (Option LoopVerdict)) (j : ℕ) → is_bare (slice_get blocks j) ≡ false
    → follows_loop blocks told j ≡ false
nothing_follows blocks told zero e = refl
nothing_follows blocks told (suc j) e =
    let some : (suc j == 0) ≡ false = grind (arith, nat_tests) in
    let back : suc j - 1 + 1 ≡ suc j = omega arith in
    ap (λ (b : Bool). if b then false else (is_told told (suc j - 1) && has_below blocks (suc j - 1))) some
    ∙ not_bare (is_told told (suc j - 1)) (is_bare (slice_get blocks (suc j - 1 + 1)))
    (not (is_apart_below blocks (suc j - 1))) (ap (λ (n : ℕ). is_bare (slice_get blocks n)) back ∙ e)

module _ (trips : List (Name × ℕ)) (apart : List Reg) (blocks : List Serial) (packets : Text) (answer : List ℕ)
    (program : IsProgram blocks) (whole : All (λ block. IsTrue (is_block block.insns)) blocks)
    (is : AreLoopsTold trips apart blocks packets answer true true) where
  abbrev Enter : ℕ → ℕ → Type 0
  Enter k row = Enters trips apart blocks packets answer is k row

  all : Walk trips apart blocks packets answer is 0 0
  all = walk trips apart blocks packets answer is (length blocks) 0 0 (omega arith)
      (enters_first trips apart blocks packets answer is)

  abbrev text : Text
  text = all.text

  -- where a branch of a block goes is entered
  goes_free : (k j : ℕ) (block : Serial) (machine : Machine) → slice_get blocks k ≡ Some block
      → (serial block.insns machine).exit ≡ Block j
      → (j < length blocks) × (follows_loop blocks is.loops j ≡ false)
  goes_free k j block machine there exit =
      let named : is_named (labels_in blocks) (Block j) ≡ true
      = subst (λ (e : Exit). is_named (labels_in blocks) e ≡ true) exit
      (exit_named (labels_in blocks) block.insns machine
      (all_at (λ (b : Serial). list_all (λ entry. target_stands (labels_in blocks) (operands_of entry.insn)) b.insns)
      blocks k block (targets_of blocks program.1) there)) in
      let has = labelled_there (slice_get blocks j)
      (subst (λ (o : Option (Option (List ℕ))). is_labelled o ≡ true)
      (slice_get-map (λ (b : Serial). b.label) blocks j) named) in (
        slice_get_within blocks j has.0 has.1,
        nothing_follows blocks is.loops j has.2,
      )

  -- ---- from one machine

  module _ (opening : Machine) (kept : KeepsPromises trips apart blocks opening) where
    -- no loop that ran last stands at this block or behind it
    abbrev Before : List ℕ → ℕ → Type 0
    Before front k = (j : ℕ) → last_in front ≡ Some j → is_told is.loops j ≡ true → j < k

    abbrev From : List ℕ → ℕ → Machine → Type 0
    From front k machine =
        Goes blocks opening (position_at (length blocks) 0) front machine (position_at (length blocks) k)

    abbrev Rests : ℕ → Type 0
    Rests fuel = (front numbers : List ℕ) (k row : ℕ) (machine final : Machine) (stop : ChainEnd) (out : Stop)
        → length numbers ≤ fuel → IsSound machine → k ≤ length blocks → Enter k row → Before front k
        → From front k machine → Goes blocks machine (position_at (length blocks) k) numbers final (Ended stop)
        → StopsAs text stop out → FliesTo text row machine out final

    -- nothing goes on from an end
    over : (numbers : List ℕ) (machine final : Machine) (one stop : ChainEnd)
        → Goes blocks machine (Ended one) numbers final (Ended stop) → (final ≡ machine) × (stop ≡ one)
    unfolding Leads
    over [] machine final one stop goes = (goes.0, (let e : Ended stop ≡ Ended one = goes.1 in cc))
    over (number ∷ numbers) machine final one stop goes = absurd (let e : Ended one ≡ At number = goes.0 in cc)

    at_end : (row : ℕ) (numbers : List ℕ) (machine final : Machine) (stop : ChainEnd) (out : Stop) → IsSound machine
        → Enter (length blocks) row → Goes blocks machine (Ended FellThrough) numbers final (Ended stop)
        → StopsAs text stop out → FliesTo text row machine out final
    at_end row numbers machine final stop out sound enters goes stops =
        let e = over numbers machine final FellThrough stop goes in
        let ends : out ≡ End = subst (λ (s : ChainEnd). StopsAs text s out) e.1 stops in
        let last : row ≡ length packets.rows = same_Some row (length packets.rows)
        (sym enters.at ∙ leaves_last trips apart blocks packets answer is) in
        let long : length text.rows ≤ row = (let n = as_long packets text all.relined in omega (arith, n, last)) in
        subst (λ (m : Machine). FliesTo text row machine out m) (sym e.0)
        (subst (λ (s : Stop). FliesTo text row machine s machine) (sym ends) (record {
          cycles = 0;
          flies = λ more. stays_behind text row (0 + more) machine sound long;
        }))

    -- ---- a loop

    at_loop : (fuel : ℕ) → Rests fuel → (front numbers : List ℕ) (k row : ℕ) (machine final : Machine)
        (stop : ChainEnd) (out : Stop) → length numbers ≤ suc fuel → IsSound machine → k < length blocks → Enter k row
        → Before front k
        → From front k machine → Goes blocks machine (At k) numbers final (Ended stop)
        → StopsAs text stop out → (part : LoopPart trips apart blocks packets answer is k)
        → Agrees trips apart blocks packets answer is text k (inl part)
        → FliesTo text row machine out final
    at_loop fuel rests front numbers k row machine final stop out long sound within enters before from goes stops part
        agrees =
        let of : LoopOf trips apart blocks packets answer is part.number = part.of in
        let begin : first_block blocks part.number ≡ k = part.is_first in
        let starts : start_at is.starts k ≡ Some of.first
        = subst (λ (n : ℕ). start_at is.starts n ≡ Some of.first) begin of.begins in
        let first : row ≡ of.first = same_Some row of.first (sym enters.at ∙ starts) in
        let below = first_below trips apart blocks packets answer is part.number in
        let keeps : IsKept apart (constant_at blocks part.number) of.region of.least machine
        = kept.each part.number of.block of.label of.region of.least machine of.there of.labelled of.found of.sure
        (record {
          numbers = front;
          stands = subst (λ (p : Position). Goes blocks opening (position_at (length blocks) 0) front machine p)
              (at_block (length blocks) k within ∙ ap At (sym begin)) from;
          elsewhere = λ e. (let l = before part.number e of.one in absurd (omega (arith, l, begin, below)));
        }) in
        let made : AreMade of.region of.least machine
        = are_made trips blocks part.number of.region of.label (constant_at blocks part.number) of.least machine of.found
        refl of.sure sound keeps.trips in
        let count : ℕ = trips_of of.region machine in
        let enough = made.enough in
        let least = of.same.trips_are in
        let some : suc (count - 1) ≡ count = omega (arith, enough, least) in
        let runs = goes_part blocks whole part.number of.region of.found of.same.decided.counts (count - 1) machine
        sound (sym some) (subst (λ n. n < 2 ^ 32) (sym some) made.word) in
        let left : Machine = (serial (serial_path of.region (suc (count - 1))) machine).machine in
        let mine : Goes blocks machine (At k) runs.0.path left
        (position_at (length blocks) (block_behind blocks part.number))
        = subst (λ (n : ℕ). Goes blocks machine (At n) runs.0.path left
        (position_at (length blocks) (block_behind blocks part.number))) begin runs.0.goes in
        let rest = goes_rest blocks machine left final (At k)
        (position_at (length blocks) (block_behind blocks part.number)) stop runs.0.path numbers mine goes in
        let shorter : length rest.0 ≤ fuel = fewer runs.0.path rest.0 numbers fuel rest.1 runs.1 long in
        let comes : ComesTo text of.same.loop.first machine (last_row of.same.loop) left
        = comes_behind (promises is.promise) of.region packets text of.same.loop of.same.most of.same.decided.counts
        of.same.decided.stands of.same.decided.pipelines of.same.relined all.relined
        (subst (λ n. SameRows of.same.loop.text text n (last_row of.same.loop)) of.same.first_is
        (subst (λ n. SameRows of.same.loop.text text of.first n) of.same.last_is agrees))
        machine (suc (count - 1)) sound (omega (arith, enough, least, some)) (sym some)
        (subst (λ n. n < 2 ^ 32) (sym some) made.word)
        (subst (λ n. AreApart (promises is.promise) of.region n machine) (sym some)
        (keeps.stay_apart is.promise is.promised)) in
        let there : ComesTo text row machine of.last left
        = subst (λ n. ComesTo text n machine of.last left) (sym (first ∙ of.same.first_is))
        (subst (λ n. ComesTo text of.same.loop.first machine n left) (sym of.same.last_is) comes) in
        flies_behind text row of.last machine left final out there
        (rests (front ++ runs.0.path) rest.0 (block_behind blocks part.number) of.last left final stop out shorter
        (sound_run (serial_path of.region (suc (count - 1))) machine sound)
        (behind_within trips apart blocks packets answer is part.number of)
        (behind_loop trips apart blocks packets answer is part.number of)
        (λ j e t. runs.0.below j (last_behind front runs.0.path j runs.1 e))
        (goes_both blocks opening machine left (position_at (length blocks) 0) (At k)
        (position_at (length blocks) (block_behind blocks part.number)) front runs.0.path
        (subst (λ (p : Position). Goes blocks opening (position_at (length blocks) 0) front machine p)
        (at_block (length blocks) k within) from) mine)
        rest.2 stops)
      where
        fewer : (path zs numbers : List ℕ) (fuel : ℕ) → numbers ≡ path ++ zs → (path ≡ [] → ⊥)
            → length numbers ≤ suc fuel → length zs ≤ fuel
        fewer [] zs numbers fuel e some l = absurd (some refl)
        fewer (x ∷ path) zs numbers fuel e some l =
            let n : length numbers ≡ suc (length (path ++ zs)) = ap (λ (ns : List ℕ). length ns) e in
            let both : length (path ++ zs) ≡ length path + length zs = length-append path zs in
            omega (arith, n, both, l)

    -- ---- another block

    -- where the packets of a block go on
    abbrev Follows : ℕ → ℕ → Machine → Machine → Exit → Type 0
    Follows k row machine left Next = (later : ℕ) × Enter (k + 1) later × ComesTo text row machine later left
    Follows k row machine left (Block j) =
        (later : ℕ) × ((j < length blocks) × Enter j later) × ComesTo text row machine later left
    Follows k row machine left (Register word) =
        IsFalse (is_address text word) → LeavesBy text row machine word left

    at_other : (fuel : ℕ) → Rests fuel → (front numbers : List ℕ) (k row : ℕ) (machine final : Machine)
        (stop : ChainEnd) (out : Stop) (block : Serial) → slice_get blocks k ≡ Some block → is_told is.loops k ≡ false
        → length numbers ≤ suc fuel → IsSound machine → k < length blocks → From front k machine
        → Goes blocks machine (At k) numbers final (Ended stop) → StopsAs text stop out
        → Follows k row machine (serial block.insns machine).machine (serial block.insns machine).exit
        → FliesTo text row machine out final
    at_other fuel rests front numbers k row machine final stop out block there none long sound within from goes stops
        follows =
        by_exit (serial block.insns machine).exit refl follows
      where
        mine : Goes blocks machine (At k) (k ∷ []) (serial block.insns machine).machine
            (position_after (length blocks) k (serial block.insns machine).exit)
        mine = subst (λ (b : Serial). Goes blocks machine (At k) (k ∷ []) (serial b.insns machine).machine
            (position_after (length blocks) k (serial b.insns machine).exit)) (block_at blocks whole k block there)
            (goes_one blocks machine k)

        fewer : (zs : List ℕ) → numbers ≡ k ∷ zs → length zs ≤ fuel
        fewer zs e =
            let n : length numbers ≡ suc (length zs) = ap (λ (ns : List ℕ). length ns) e in omega (arith, n, long)

        alone : (j : ℕ) → In j (k ∷ []) → is_told is.loops j ≡ true → (m : ℕ) → j < m
        alone j (inl e) t m = absurd (false≢true (sym none ∙ subst (λ (n : ℕ). is_told is.loops n ≡ true) (sym e) t))
        alone j (inr h) t m = absurd h

        some : (k ∷ []) ≡ [] → ⊥
        some e = absurd cc

        to_block : (next later : ℕ) → Goes blocks machine (At k) (k ∷ []) (serial block.insns machine).machine (position_at (length blocks) next)
            → next ≤ length blocks → Enter next later → ComesTo text row machine later (serial block.insns machine).machine
            → FliesTo text row machine out final
        to_block next later ours fits enters comes =
            let rest = goes_rest blocks machine (serial block.insns machine).machine final (At k) (position_at (length blocks) next) stop (k ∷ [])
            numbers ours goes in
            flies_behind text row later machine (serial block.insns machine).machine final out comes
            (rests (front ++ k ∷ []) rest.0 next later (serial block.insns machine).machine final stop out (fewer rest.0 rest.1)
            (sound_run block.insns machine sound) fits enters
            (λ j e t. alone j (last_behind front (k ∷ []) j some e) t next)
            (goes_both blocks opening machine (serial block.insns machine).machine (position_at (length blocks) 0) (At k)
            (position_at (length blocks) next) front (k ∷ [])
            (subst (λ (p : Position). Goes blocks opening (position_at (length blocks) 0) front machine p)
            (at_block (length blocks) k within) from) ours)
            rest.2 stops)

        turned : (exit : Exit) → (serial block.insns machine).exit ≡ exit
            → Goes blocks machine (At k) (k ∷ []) (serial block.insns machine).machine (position_after (length blocks) k exit)
        turned exit e = subst (λ (x : Exit). Goes blocks machine (At k) (k ∷ []) (serial block.insns machine).machine
            (position_after (length blocks) k x)) e mine

        by_exit : (exit : Exit) → (serial block.insns machine).exit ≡ exit → Follows k row machine (serial block.insns machine).machine exit
            → FliesTo text row machine out final
        by_exit Next e follows = to_block (k + 1) follows.0 (turned Next e) (omega (arith, within)) follows.1 follows.2
        by_exit (Block j) e follows =
            let l = follows.1.0 in
            to_block j follows.0 (turned (Block j) e) (omega (arith, l)) follows.1.1 follows.2
        by_exit (Register word) e follows =
            let rest = goes_rest blocks machine (serial block.insns machine).machine final (At k) (Ended (LeftBy word)) stop (k ∷ []) numbers
            (turned (Register word) e) goes in
            let ends = over rest.0 (serial block.insns machine).machine final (LeftBy word) stop rest.2 in
            let so : StopsAs text (LeftBy word) out = subst (λ (s : ChainEnd). StopsAs text s out) ends.1 stops in
            let leaves = follows so.0 in
            subst (λ (m : Machine). FliesTo text row machine out m) (sym ends.0)
            (subst (λ (s : Stop). FliesTo text row machine s (serial block.insns machine).machine) (sym so.1)
            (record { cycles = leaves.cycles; flies = leaves.flies }))

    at_part : (fuel : ℕ) → Rests fuel → (front numbers : List ℕ) (k row : ℕ) (machine final : Machine)
        (stop : ChainEnd) (out : Stop) → length numbers ≤ suc fuel → IsSound machine → k < length blocks → Enter k row
        → Before front k
        → From front k machine → Goes blocks machine (At k) numbers final (Ended stop)
        → StopsAs text stop out → (part : Part trips apart blocks packets answer is k)
        → Agrees trips apart blocks packets answer is text k part
        → FliesTo text row machine out final
    at_part fuel rests front numbers k row machine final stop out long sound within enters before from goes stops
        (inl p) agrees =
        at_loop fuel rests front numbers k row machine final stop out long sound within enters before from goes stops p
        agrees
    at_part fuel rests front numbers k row machine final stop out long sound within enters before from goes stops
        (inr (inl p)) agrees =
        let first : row ≡ p.first = same_Some row p.first (sym enters.at ∙ p.begins) in
        subst (λ n. FliesTo text n machine out final) (sym first)
        (at_other fuel rests front numbers k p.first machine final stop out p.block p.there p.none long sound within
        from goes stops
        (by_exit (serial p.block.insns machine).exit refl
        (goes_on is.starts packets k p.block p.first p.count p.ends p.checked text all.relined agrees machine sound)))
      where
        by_exit : (exit : Exit) → (serial p.block.insns machine).exit ≡ exit
            → GoesOn is.starts k text p.first machine (serial p.block.insns machine).machine exit
            → Follows k p.first machine (serial p.block.insns machine).machine exit
        by_exit Next e (later, at, comes) =
            (later, record { at = at; free = (behind_block trips apart blocks packets answer is k p).free }, comes)
        by_exit (Block j) e (later, at, comes) =
            let goes = goes_free k j p.block machine p.there e in
            (later, (goes.0, record { at = at; free = goes.1 }), comes)
        by_exit (Register word) e leaves = leaves
    at_part fuel rests front numbers k row machine final stop out long sound within enters before from goes stops
        (inr (inr p)) agrees =
        let first : row ≡ p.row = same_Some row p.row (sym enters.at ∙ p.begins) in
        subst (λ n. FliesTo text n machine out final) (sym first)
        (at_other fuel rests front numbers k p.row machine final stop out p.block p.there p.none long sound within from
        goes stops
        (subst (λ (xs : List SerialInsn). Follows k p.row machine (serial xs machine).machine
        (serial xs machine).exit) (sym p.empty) (
          p.row,
          behind_pass trips apart blocks packets answer is k p,
          record {
            cycles = 0;
            cut = λ more. stands_still text p.row (0 + more) machine sound;
          },
        )))

    -- ---- all of it

    nothing_left : (numbers : List ℕ) → length numbers ≤ 0 → (k : ℕ) (machine final : Machine) (stop : ChainEnd)
        → Goes blocks machine (At k) numbers final (Ended stop) → ⊥
    unfolding Leads
    nothing_left [] long k machine final stop goes = let e : Ended stop ≡ At k = goes.1 in absurd cc
    nothing_left (number ∷ numbers) long k machine final stop goes = absurd (omega (arith, long))

    stands_at : (k : ℕ) (numbers : List ℕ) (machine final : Machine) (stop : ChainEnd) → k < length blocks
        → Goes blocks machine (position_at (length blocks) k) numbers final (Ended stop)
        → Goes blocks machine (At k) numbers final (Ended stop)
    stands_at k numbers machine final stop l goes =
        subst (λ (p : Position). Goes blocks machine p numbers final (Ended stop)) (at_block (length blocks) k l) goes

    -- behind the last block
    last_flies : (numbers : List ℕ) (k row : ℕ) (machine final : Machine) (stop : ChainEnd) (out : Stop)
        → IsSound machine → k ≤ length blocks → length blocks ≤ k → Enter k row
        → Goes blocks machine (position_at (length blocks) k) numbers final (Ended stop) → StopsAs text stop out
        → FliesTo text row machine out final
    last_flies numbers k row machine final stop out sound fits beyond enters goes stops =
        let e : k ≡ length blocks = omega (arith, fits, beyond) in
        at_end row numbers machine final stop out sound (subst (λ n. Enter n row) e enters)
        (subst (λ (p : Position). Goes blocks machine p numbers final (Ended stop))
        (past_end (length blocks) k beyond) goes) stops

    rest_flies : (fuel : ℕ) → Rests fuel
    rest_flies zero front numbers k row machine final stop out long sound fits enters before from goes stops =
        ⊎_elim {C = FliesTo text row machine out final} (λ (l : k < length blocks). absurd
        (nothing_left numbers long k machine final stop (stands_at k numbers machine final stop l goes)))
        (λ (l : length blocks ≤ k). last_flies numbers k row machine final stop out sound fits l enters goes stops)
        (cases_lt k (length blocks))
    rest_flies (suc fuel) front numbers k row machine final stop out long sound fits enters before from goes stops =
        ⊎_elim {C = FliesTo text row machine out final} (λ (l : k < length blocks).
        (let has = there_at blocks k l in
        let part = all.each k row has.0 (omega arith) has.1 enters in
        at_part fuel (rest_flies fuel) front numbers k row machine final stop out long sound l enters before from
        (stands_at k numbers machine final stop l goes) stops part.1.0 part.1.1))
        (λ (l : length blocks ≤ k). last_flies numbers k row machine final stop out sound fits l enters goes stops)
        (cases_lt k (length blocks))

    flies_whole : IsSound opening → FliesAsProgram blocks text opening
    flies_whole sound = record {
      flies = λ limit chain stop final runs stops. by_position limit chain stop final runs stops
          runs.standing.position refl;
    }
      where
        none_last : (j : ℕ) → last_in [] ≡ Some j → ⊥
        none_last j h = none-some j h

        by_position : (limit : ℕ) (chain : Chain) (stop : Stop) (final : Machine)
            (runs : RunsProgram blocks opening limit chain final) → StopsAs text chain.stop stop → (position : Position)
            → runs.standing.position ≡ position → FliesTo text 0 opening stop final
        by_position limit chain stop final runs stops (At number) e = absurd
            (let t : chain.stop ≡ Stopped = ap (λ (c : Chain). c.stop) runs.told ∙ ap end_of e in
            subst (λ (s : ChainEnd). StopsAs text s stop) t stops)
        by_position limit chain stop final runs stops (Ended last) e =
            let t : chain.stop ≡ last = ap (λ (c : Chain). c.stop) runs.told ∙ ap end_of e in
            let so : StopsAs text last stop = subst (λ (s : ChainEnd). StopsAs text s stop) t stops in
            subst (λ (m : Machine). FliesTo text 0 opening stop m) (sym runs.left)
            (rest_flies (length runs.standing.numbers) [] runs.standing.numbers 0 0 opening runs.standing.machine last
            stop (omega arith) sound (omega arith) (enters_first trips apart blocks packets answer is)
            (λ j h t. absurd (none_last j h))
            (leads_nowhere (length blocks) _ opening (position_at (length blocks) 0))
            (subst (λ (p : Position). Goes blocks opening (position_at (length blocks) 0) runs.standing.numbers
            runs.standing.machine p) e runs.whole.stands) so)

pub checked_loops_are_serial : (trips : List (Name × ℕ)) (apart : List Reg) (blocks : List Serial) (packets : Text)
    (answer : List ℕ)
    → CheckedLoopsAreSerial trips apart blocks packets answer
checked_loops_are_serial trips apart blocks packets answer program whole is = record {
  lined = text trips apart blocks packets answer program whole is;
  relined = (all trips apart blocks packets answer program whole is).relined;
  run = λ opening sound kept. flies_whole trips apart blocks packets answer program whole is opening kept sound;
}
