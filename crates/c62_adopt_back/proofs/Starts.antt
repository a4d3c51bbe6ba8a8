-- Where a block begins behind others.
use Rattle.c62_adopt_back.proofs.Common.{nat_tests, arith, ◌≡◌, ℕ, ◌<◌, ◌≤◌, List, [], ◌∷◌, ◌++◌, length, Bool, true}
use Rattle.c62_adopt_back.proofs.Common.{false, Option, Some, None, refl}
use Rattle.c62_adopt_back.proofs.Common.{list_any, codes, label_lines, Nothing, Name, label_is, Line, line_said}
use Rattle.c62_adopt_back.proofs.Common.{cuts_of, cycles_of, stand_of, Drafts}
use Rattle.c62_adopt_back.proofs.Common.{all_drafts, begins_at, with_line}
use Rattle.c62_token.specs.Number.{is_label}
use Rattle.c62_adopt_line.proofs.ListedLines.{empty_reads, label_reads}
use Rattle.c62_adopt_cut.specs.Blocks.{new_draft}
use Rattle.c62_adopt_cut.specs.Text.{hindrance}
use Rattle.c62_adopt_back.proofs.Cuts.{AreCuts, cut_by_label}
use Rattle.c62_adopt_back.proofs.Blocks.{IsAt, Site}
use Rattle.c62_adopt_back.proofs.Leading.{Leads, no_lines, one_line}
use Rattle.c62_read.specs.declared.limits.TheConstants.{MOST_BLOCKS}
use Rattle.c62_op.specs.declared.set.InstructionSet.{InstructionSet}

-- The blocks above are over, and the next begins in this cycle, where it has a label or they cut the text there.
pub record AreOver (start : ℕ) (cut : Bool) (above : List Line) (drafts : Drafts) : Type 0 where
  pub passed : cycles_of above ≡ start
  pub first : ℕ
  pub last : ℕ
  pub cuts : AreCuts first last (cuts_of above)
  pub low : first ≤ start
  pub late : last ≤ start
  pub parted : cut ≡ true → (last ≡ start) × (begins_at start drafts.current ≡ false)

-- ---- a label

labelling : Name → Line
labelling label = line_said false (Some label) Nothing

label_free : (above : List Line) (drafts : Drafts) (label : Name)
    → list_any (λ draft. label_is label draft.label) (all_drafts drafts) ≡ false
    → length (all_drafts drafts) < MOST_BLOCKS
    → hindrance above drafts (labelling label) ≡ None
unfolding hindrance labelling
label_free above drafts label free few = grind (arith, nat_tests)

module _ (isa : InstructionSet) (name : ℕ → List ℕ) (start cycles : ℕ) (cut : Bool) (above : List Line)
    (drafts : Drafts)
    (is : AreOver start cut above drafts) where
  abbrev site : Option Name → Site
  site label = record { name = name; done = all_drafts drafts; label = label; start = start; cycles = cycles }

  labelled : (label : Name) (number : ℕ)
      → IsAt (site (Some label)) 0 false [] (labelling label ∷ above)
      (with_line number (stand_of above (labelling label)) (labelling label) drafts)
  unfolding labelling
  labelled label number = record {
    passed = omega (arith, is.passed);
    cuts = rw is.passed (cut_by_label is.first is.last start (cuts_of above) is.cuts is.low is.late);
    draft = new_draft (Some label) start;
    opens = rw is.passed (grind (arith, nat_tests));
    is = record { label_is = refl; starts = refl; issues = tt };
    begun = λ some. rw is.passed (grind (arith, nat_tests));
  }

  unlabelled : cut ≡ true → IsAt (site None) 0 false [] above drafts
  unlabelled parted =
      let at = is.parted parted in
      record {
        passed = omega (arith, is.passed);
        cuts = record {
          starts = λ c le. grind (arith, nat_tests, is.cuts.starts c, is.low, at.0);
          behind = rw (← at.0)
              is.cuts.behind;
        };
        draft = new_draft None start;
        opens = rw at.1 refl;
        is = record { label_is = refl; starts = refl; issues = tt };
        begun = λ some. absurd (omega (arith, some refl));
      }

  pub label_leads : (label : Option Name) (number : ℕ) → ((l : Name) → label ≡ Some l → is_label l ≡ true)
      → ((l : Name) → label ≡ Some l → list_any (λ draft. label_is l draft.label) (all_drafts drafts) ≡ false)
      → (label ≡ None → cut ≡ true) → length (all_drafts drafts) < MOST_BLOCKS
      → Leads isa above drafts number (label_lines label) (IsAt (site label) 0 false [])
  unfolding labelling
  label_leads None number good free parted few = no_lines isa above drafts number (IsAt (site None) 0 false [])
      (unlabelled (parted refl))
  label_leads (Some label) number good free parted few =
      one_line isa above drafts number (label ++ codes ":") (labelling label) (IsAt (site (Some label)) 0 false [])
      (label_reads isa label (good label refl)) (label_free above drafts label (free label refl) few)
      (labelled label number)

-- ---- an empty line

gap_free : (above : List Line) (drafts : Drafts) → hindrance above drafts (line_said false None Nothing) ≡ None
unfolding hindrance
gap_free above drafts = refl

pub gap_leads : (isa : InstructionSet) (start : ℕ) (cut : Bool) (above : List Line) (drafts : Drafts) (number : ℕ)
    (Is : List Line → Drafts
    → Type 0)
    → AreOver start cut above drafts → ((a : List Line) → AreOver start cut a drafts → Is a drafts)
    → Leads isa above drafts number ([] ∷ []) Is
gap_leads isa start cut above drafts number Is are then_is =
    one_line isa above drafts number [] (line_said false None Nothing) Is (empty_reads isa) (gap_free above drafts)
    (then_is (line_said false None Nothing ∷ above) (record {
      passed = omega (arith, are.passed);
      first = are.first;
      last = are.last;
      cuts = are.cuts;
      low = are.low;
      late = are.late;
      parted = are.parted;
    }))
