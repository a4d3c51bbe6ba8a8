-- Each instruction of a line is at home in a block.
use Rattle.std.proofs.Common.{◌≡◌, ◌≤◌, ◌+◌, ◌==◌, ap, cond, refl, true, false, ℕ, Bool, List, ◌∷◌, ◌++◌, [], length}
use Rattle.std.proofs.Common.{Option, Some, None, arith, inl, inr, append-nil}
use Rattle.std.specs.Prelude.{is_some, IsTrue}
use Rattle.std.specs.Option.{option_to_list}
use Rattle.std.proofs.lemmas.Bool.{cases_Bool}
use Rattle.std.proofs.lemmas.Bool.Decides.{nat_tests}
use Rattle.c62_line.specs.Line.{Says, Nothing, Pause, Does, Jumps}
use Rattle.c62_read.specs.Program.{Name}
use Rattle.c62_adopt_line.specs.Line.{Line}
use Rattle.c62_adopt_line.specs.Laws.{IsWhole}
use Rattle.c62_adopt_cut.specs.declared.clock.Stand.{Stand}
use Rattle.c62_adopt_cut.specs.Cut.{cycles_of, is_filled, stand_of}
use Rattle.c62_adopt_cut.specs.Blocks.{Drafts, all_drafts, issue_at, no_drafts, with_label, with_line, with_says}
use Rattle.c62_adopt_cut.specs.Home.{AreOfLines, Home, home, home_said, homes_in, is_cut, label_in, label_at, labels_in}
use Rattle.c62_adopt_cut.specs.Home.{starts_of}
use Rattle.c62_adopt_cut.proofs.CutLemmas.{cuts_stay, label_cut, stand_cut}
use Rattle.c62_adopt_cut.proofs.KeptLemmas.{IsFree}
use Rattle.c62_adopt_cut.proofs.StandLemmas.{alone, labelled_here, labelled_stand}
use Rattle.c62_adopt_cut.proofs.StartLemmas.{lowest, labelled_lowest, lowest_early, lowest_rises, stand_begun}
use Rattle.c62_adopt_cut.proofs.StartLemmas.{stand_lowest}
use Rattle.c62_adopt_cut.proofs.OpenHomes.{all_low, Have, new_has, opened_has}
use Rattle.c62_op.specs.declared.set.InstructionSet.{InstructionSet}

-- ---- a line

-- the blocks are of these lines
pub record AreHome (above : List Line) (number : ℕ) (drafts : Drafts) : Type 0 where
  pub numbered : number ≡ length above + 1
  pub have : Have (λ start. label_in start above) (lowest above) (homes_in above) (labels_in above)
      (λ start. IsTrue (is_cut above start)) drafts

pub none_home : AreHome [] 1 no_drafts
none_home = record {
  numbered = refl;
  have = record {
    instructions = refl;
    labels_are = refl;
    at_cuts = tt;
    rising = λ i j d low below. absurd
        (omega arith);
    low_enough = tt;
    named = λ start. refl;
  };
}

abbrev Homely : List Line → ℕ → List Home → List Name → (ℕ → Type 0) → Drafts → Type 0
Homely above low homes labels cuts drafts = Have (λ start. label_in start above) low homes labels cuts drafts

module _ (isa : InstructionSet) (above : List Line) (line : Line) where
  abbrev named_with : Option Name → ℕ → Option Name
  named_with label start = label_at start label (cycles_of above) (label_in start above)

  abbrev cut_here : ℕ → Type 0
  cut_here start = IsTrue (is_cut (line ∷ above) start)

  -- what the blocks have stays, where lines below begin no earlier
  stays : (low : ℕ) (drafts : Drafts) → lowest above ≤ low
      → Homely above (lowest above) (homes_in above) (labels_in above) (λ start. IsTrue (is_cut above start)) drafts
      → Homely above low (homes_in above) (labels_in above) cut_here drafts
  stays low drafts more have = record {
    instructions = have.instructions;
    labels_are = have.labels_are;
    at_cuts = cuts_stay above line (starts_of (all_drafts drafts)) have.at_cuts;
    rising = have.rising;
    low_enough = all_low (lowest above) low (starts_of (all_drafts drafts)) more have.low_enough;
    named = have.named;
  }

  label_names : (label : Name) (start : ℕ) → start ≡ cycles_of above → (cycle : ℕ) → start ≤ cycle
      → named_with (Some label) cycle ≡ cond (cycle == start) (Some label) None
  label_names label start is cycle behind =
      let same : (cycles_of above == cycle) ≡ (cycle == start) = grind (arith, nat_tests, is) in
      ap (λ (b : Bool). cond b (Some label) None) same

  -- the line's label has begun a block
  labelled_has : (drafts : Drafts) (stand : Stand) (label : Option Name)
      → (is_some label ≡ true → stand.cycle ≡ cycles_of above)
      → (is_some label ≡ true → stand.start ≡ stand.cycle) → (is_some label ≡ true → cut_here (cycles_of above))
      → lowest above ≤ stand.start
      → Homely above (lowest above) (homes_in above) (labels_in above) (λ start. IsTrue (is_cut above start)) drafts
      → Have (named_with label) stand.start (homes_in above) (labels_in above ++ option_to_list label) cut_here
      (with_label label stand.cycle drafts)
  labelled_has drafts stand None here begins cut low have = rw (append-nil (labels_in above))
      (stays stand.start drafts low have)
  labelled_has drafts stand (Some label) here begins cut low have =
      let at : stand.cycle ≡ cycles_of above = here refl in
      rw (begins refl)
      (new_has (λ start. label_in start above) stand.start (homes_in above) (labels_in above) cut_here drafts
      (stays stand.start drafts low have)
      (named_with (Some label)) (Some label) stand.cycle (omega (arith, begins refl)) (rw at (cut refl))
      (label_names label stand.cycle at))

  -- what the line says has gone into its block
  says_has : (found : ℕ → Option Name) (labels : List Name) (drafts : Drafts) (number : ℕ) (stand : Stand) (says : Says)
      → number ≡ length above + 1 → cut_here stand.start
      → Have found stand.start (homes_in above) labels cut_here drafts
      → Have found stand.start (homes_in above ++ home_said (length above + 1) stand (found stand.start) says) labels
      cut_here (with_says number stand says drafts)
  says_has found labels drafts number stand Nothing is cut have = rw (append-nil (homes_in above)) have
  says_has found labels drafts number stand (Pause n) is cut have = rw (append-nil (homes_in above)) have
  says_has found labels drafts number stand (Does parts) is cut have =
      rw is (opened_has found stand.start (homes_in above) labels cut_here drafts stand.start
      (issue_at stand (length above + 1) parts None) have (omega arith) cut)
  says_has found labels drafts number stand (Jumps parts target) is cut have =
      rw is (opened_has found stand.start (homes_in above) labels cut_here drafts stand.start
      (issue_at stand (length above + 1) parts (Some target)) have (omega arith) cut)

  -- a line with neither label nor instruction
  plain_has : (drafts : Drafts) (number : ℕ) (stand : Stand) (label at : Option Name) (says : Says)
      → is_some label ≡ false → is_filled says ≡ false
      → Homely above (lowest above) (homes_in above) (labels_in above) (λ start. IsTrue (is_cut above start)) drafts
      → Have (named_with label) (lowest (line ∷ above)) (homes_in above ++ home_said (length above + 1) stand at says)
      (labels_in above ++ option_to_list label) cut_here
      (with_says number stand says (with_label label stand.cycle drafts))
  plain_has drafts number stand (Some label) at says none empty have = absurd cc
  plain_has drafts number stand None at Nothing none empty have =
      rw (append-nil (homes_in above), append-nil (labels_in above))
      (stays (lowest (line ∷ above)) drafts (lowest_rises above line) have)
  plain_has drafts number stand None at (Pause n) none empty have = absurd cc
  plain_has drafts number stand None at (Does parts) none empty have = absurd cc
  plain_has drafts number stand None at (Jumps parts target) none empty have = absurd cc

  later_has : (found : ℕ → Option Name) (low more : ℕ) (homes : List Home) (labels : List Name) (drafts : Drafts)
      → low ≤ more
      → Have found low homes labels cut_here drafts → Have found more homes labels cut_here drafts
  later_has found low more homes labels drafts rises have = record {
    instructions = have.instructions;
    labels_are = have.labels_are;
    at_cuts = have.at_cuts;
    rising = have.rising;
    low_enough = all_low low more (starts_of (all_drafts drafts)) rises have.low_enough;
    named = have.named;
  }

  -- a line that has one of the two
  full_has : (number : ℕ) (drafts : Drafts) → IsWhole isa line → IsFree above drafts line
      → (stand_of above line).start ≤ lowest (line ∷ above)
      → AreHome above number drafts
      → Have (λ start. label_in start (line ∷ above)) (lowest (line ∷ above)) (homes_in (line ∷ above))
      (labels_in (line ∷ above)) cut_here
      (with_line number (stand_of above line) line drafts)
  full_has number drafts whole free under home =
      let stand = stand_of above line in
      let begun = labelled_has drafts stand line.label
      (λ labelled. labelled_here above line (alone line.beside line.label labelled whole.beside))
      (λ labelled. labelled_stand above line labelled (alone line.beside line.label labelled whole.beside))
      (label_cut above line)
      (stand_begun above line free.bars) home.have in
      later_has (named_with line.label) stand.start (lowest (line ∷ above)) (homes_in (line ∷ above))
      (labels_in (line ∷ above))
      (with_line number stand line drafts) under
      (says_has (named_with line.label) (labels_in (line ∷ above)) (with_label line.label stand.cycle drafts) number
      stand line.says home.numbered
      (stand_cut above line free.bars) begun)

pub line_home : (isa : InstructionSet) (above : List Line) (number : ℕ) (drafts : Drafts) (line : Line)
    → IsWhole isa line
    → IsFree above drafts line → AreHome above number drafts
    → AreHome (line ∷ above) (number + 1) (with_line number (stand_of above line) line drafts)
line_home isa above number drafts line whole free home = record { numbered = omega (arith, home.numbered); have = go }
  where
    go : Have (λ start. label_in start (line ∷ above)) (lowest (line ∷ above)) (homes_in (line ∷ above))
        (labels_in (line ∷ above))
        (λ start. IsTrue (is_cut (line ∷ above) start)) (with_line number (stand_of above line) line drafts)
    go = elim (cases_Bool (is_filled line.says)) [
      | inl filled ↦
          full_has isa above line number drafts whole free
          (let same = stand_lowest above line filled free.bars whole.beside in omega (arith, same)) home
      | inr empty ↦ elim (cases_Bool (is_some line.label)) [
        | inl labelled ↦
            full_has isa above line number drafts whole free
            (labelled_lowest above line empty labelled (alone line.beside line.label labelled whole.beside)) home
        | inr none ↦
            plain_has isa above line drafts number (stand_of above line) line.label
            (label_in (stand_of above line).start (line ∷ above)) line.says none empty home.have
      ]
    ]

pub are_of_lines : (above : List Line) (number : ℕ) (drafts : Drafts) → AreHome above number drafts
    → AreOfLines above (all_drafts drafts)
are_of_lines above number drafts home = record {
  instructions = home.have.instructions;
  labels = home.have.labels_are;
  cuts = home.have.at_cuts;
  rising = home.have.rising;
  early = all_low (lowest above) (cycles_of above) (starts_of (all_drafts drafts)) (lowest_early above)
      home.have.low_enough;
}
