-- The line of an instruction in its block.
use Rattle.c62_adopt_back.proofs.Common.{nat_tests, arith, ◌≡◌, ℕ, ◌+◌, ◌<◌, ◌≤◌, List, [], ◌∷◌, ◌++◌, length, Bool}
use Rattle.c62_adopt_back.proofs.Common.{true, false, Some, None, refl}
use Rattle.c62_adopt_back.proofs.Common.{sym, ap, subst, is_none, ◌&&◌, ◌||◌, if◌then◌else◌, Says, Placed}
use Rattle.c62_adopt_back.proofs.Common.{is_branching_placed, issue_of, Line}
use Rattle.c62_adopt_back.proofs.Common.{line_said, Stand, cuts_of, last_packet, stand_of, Draft, Drafts, Issue}
use Rattle.c62_adopt_back.proofs.Common.{begins_at, opened, with_line}
use Rattle.std.proofs.lemmas.Bool.{cases_Bool, true≢false}
use Rattle.std.proofs.Common.{inl, inr}
use Rattle.std.proofs.lemmas.Slice.Zip.{AllZip-long}
use Rattle.c62_rules.specs.Length.{landing_end}
use Rattle.c62_adopt_cut.specs.Cut.{with_cut}
use Rattle.c62_adopt_cut.specs.Blocks.{issue_at, with_issue}
use Rattle.c62_adopt_cut.specs.Text.{begins_one_more, ends_behind, hindrance, is_one_more, is_too_late}
use Rattle.c62_adopt_back.proofs.Cuts.{AreCuts, cut_by_branch, last_cut}
use Rattle.c62_adopt_back.proofs.Said.{IsSaid, lands_at, parts_written, target_written}
use Rattle.c62_adopt_back.proofs.Blocks.{IsAt, IsDraftOf, IsIssueOf, Site, as_opened, not_opened}
use Rattle.c62_adopt.proofs.PacketsLemmas.{zip_push}
use Rattle.c62_read.specs.declared.limits.TheConstants.{MOST_BLOCKS, MOST_INSTRUCTIONS}
use Rattle.c62_packet.specs.declared.limits.TheConstants.{MOST_CYCLES}

-- ---- nothing stands against it

no_more : (says : Says) (stand : Stand) (drafts : Drafts) (done : List Draft) (draft : Draft) (beside : Bool)
    → opened stand.start drafts ≡ record { done = done; current = Some draft } → length draft.issues < MOST_INSTRUCTIONS
    → is_one_more stand (line_said beside None says) drafts ≡ false
no_more says stand drafts done draft beside opens few = elim (cases_Bool (begins_at stand.start drafts.current)) [
  | inl begun ↦ let same = as_opened stand.start drafts _ opens begun in grind (arith, nat_tests)
  | inr none ↦ grind (arith, nat_tests)
]

no_more_blocks : (says : Says) (stand : Stand) (drafts : Drafts) (done : List Draft) (draft : Draft) (beside : Bool)
    → opened stand.start drafts ≡ record { done = done; current = Some draft } → length done < MOST_BLOCKS
    → begins_one_more stand (line_said beside None says) drafts ≡ false
no_more_blocks says stand drafts done draft on opens few = elim (cases_Bool (begins_at stand.start drafts.current)) [
  | inl begun ↦ grind (arith, nat_tests)
  | inr none ↦ let same = not_opened stand.start drafts done draft opens none in grind (arith, nat_tests)
]

-- where an instruction of a block of so many cycles stands
pub record Fits (cycles : ℕ) (p : Placed) : Type 0 where
  pub ends : landing_end (issue_of p) ≤ cycles
  pub last : is_branching_placed p ≡ true → cycles ≡ p.cycle + 6

in_time : (p : Placed) (start cycles : ℕ) → Fits cycles p → cycles ≤ MOST_CYCLES
    → ends_behind MOST_CYCLES (record { cycle = start + p.cycle; start = start }) (parts_written p) ≡ false
in_time p start cycles fits short = grind (arith, nat_tests, lands_at p start, fits.ends, fits.last)

module _ (above : List Line) (drafts : Drafts) (beside : Bool) (says : Says) where
  abbrev line : Line
  line = line_said beside None says

  free : (beside && is_none (last_packet above)) ≡ false → is_too_late (stand_of above line) says ≡ false
      → is_one_more (stand_of above line) line drafts ≡ false
      → begins_one_more (stand_of above line) line drafts ≡ false
      → hindrance above drafts line ≡ None
  unfolding hindrance
  free placed early room few = rw (placed, early, room, few) refl

-- ---- what it does

-- a line where its packet stands, in a block that is open or opens with it
pub record Stands (site : Site) (next : ℕ) (p : Placed) (above : List Line) (beside : Bool) (line : Line) : Type 0 where
  pub stand : stand_of above line ≡ record { cycle = site.start + p.cycle; start = site.start }
  pub below : (beside && is_none (last_packet above)) ≡ false
  pub time : next + (if beside then 0 else 1) ≡ p.cycle + 1

more_cuts : (branched branching : Bool) (start cycles cycle : ℕ) (cuts : List ℕ)
    → AreCuts start (last_cut branched start cycles) cuts
    → (branching ≡ true → branched ≡ false) → (branching ≡ true → cycles ≡ cycle + 6)
    → AreCuts start (last_cut (branched || branching) start cycles)
    (if branching then with_cut (start + cycle) cuts else cuts)
more_cuts true true start cycles cycle cuts are one last = absurd (true≢false (one refl))
more_cuts false true start cycles cycle cuts are one last =
    let end : (start + cycle) + 6 ≡ start + cycles = omega (arith, last refl) in
    subst (λ (n : ℕ). AreCuts start n (with_cut (start + cycle) cuts)) end
    (cut_by_branch start (start + cycle) cuts are (omega arith))
more_cuts true false start cycles cycle cuts are one last = are
more_cuts false false start cycles cycle cuts are one last = are

module _ (site : Site) (next : ℕ) (branched : Bool) (placed : List Placed) (above : List Line) (drafts : Drafts)
    (is : IsAt site next branched placed above drafts) (p : Placed) (beside : Bool) (says : Says)
    (said : IsSaid (parts_written p) (target_written site.name p) says)
    (stands : Stands site next p above beside (line_said beside None says)) where
  abbrev here : Line
  here = line_said beside None says

  abbrev stand : Stand
  stand = record { cycle = site.start + p.cycle; start = site.start }

  abbrev new_issue : ℕ → Issue
  new_issue number = issue_at stand number (parts_written p) (target_written site.name p)

  abbrev grown : ℕ → Drafts
  grown number = record { done = site.done; current = Some (with_issue (new_issue number) is.draft) }

  with_here : (number : ℕ) → with_line number (stand_of above here) here drafts ≡ grown number
  with_here number = rw (stands.stand, said.adds number stand drafts, is.opens) refl

  grown_draft : (number : ℕ)
      → IsDraftOf site.name site.label site.start (placed ++ p ∷ []) (with_issue (new_issue number) is.draft)
  grown_draft number = record {
    label_is = is.is.label_is;
    starts = is.is.starts;
    issues = zip_push (IsIssueOf site.name) is.draft.issues placed (new_issue number) p is.is.issues
        (record { parts = refl; target = refl; cycle = omega arith });
  }

  cuts_below : (is_branching_placed p ≡ true → branched ≡ false) → Fits site.cycles p
      → AreCuts site.start (last_cut (branched || is_branching_placed p) site.start site.cycles)
      (cuts_of (here ∷ above))
  cuts_below one fits =
      rw (said.branching, ap (λ (s : Stand). s.cycle) stands.stand)
      (more_cuts branched (is_branching_placed p) site.start site.cycles p.cycle (cuts_of above) is.cuts one fits.last)

  pub is_below : (number : ℕ) → (is_branching_placed p ≡ true → branched ≡ false) → Fits site.cycles p
      → IsAt site (p.cycle + 1) (branched || is_branching_placed p) (placed ++ p ∷ []) (here ∷ above)
      (with_line number (stand_of above here) here drafts)
  is_below number one fits = rw (with_here number) (record {
    passed = grind (arith, nat_tests, is.passed, stands.time, said.cycle);
    cuts = cuts_below one fits;
    draft = with_issue (new_issue number) is.draft;
    opens = grind (arith, nat_tests, is.is.starts);
    is = grown_draft number;
    begun = λ some. grind (arith, nat_tests, is.is.starts);
  })

  pub nothing_against : length site.done < MOST_BLOCKS → length placed < MOST_INSTRUCTIONS → site.cycles ≤ MOST_CYCLES
      → Fits site.cycles p → hindrance above drafts here ≡ None
  nothing_against blocks few short fits =
      let count : length placed ≡ length is.draft.issues = AllZip-long (IsIssueOf site.name) is.draft.issues placed
      is.is.issues in
      free above drafts beside says stands.below
      (rw (stands.stand, said.late stand) (in_time p site.start site.cycles fits short))
      (subst (λ (s : Stand). is_one_more s here drafts ≡ false) (sym stands.stand)
      (no_more says stand drafts site.done is.draft beside is.opens (omega (arith, count, few))))
      (subst (λ (s : Stand). begins_one_more s here drafts ≡ false) (sym stands.stand)
      (no_more_blocks says stand drafts site.done is.draft beside is.opens blocks))
