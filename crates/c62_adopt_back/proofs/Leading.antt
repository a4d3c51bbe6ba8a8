-- Lines below others that are read without a fault.
use Rattle.c62_adopt_back.proofs.Common.{◌≡◌, ℕ, ◌+◌, List, [], ◌∷◌, ◌++◌, None, Ok, refl, ◌∙◌, append_assoc, Line}
use Rattle.c62_adopt_back.proofs.Common.{line_says, Drafts, stand_of}
use Rattle.c62_adopt_back.proofs.Common.{with_line}
use Rattle.c62_adopt_cut.specs.Text.{hindrance, read_below}
use Rattle.c62_op.specs.declared.set.InstructionSet.{InstructionSet}

-- reading these lines leads to lines and blocks that are such
pub record Leads (isa : InstructionSet) (above : List Line) (drafts : Drafts) (number : ℕ) (lines : List (List ℕ))
    (Is : List Line → Drafts
    → Type 0) : Type 0 where
  pub end : ℕ
  pub passed : List Line
  pub final : Drafts
  pub reads : (below : List (List ℕ))
      → read_below isa above drafts number (lines ++ below) ≡ read_below isa passed final end below
  pub is : Is passed final

pub no_lines : (isa : InstructionSet) (above : List Line) (drafts : Drafts) (number : ℕ)
    (Is : List Line → Drafts → Type 0) → Is above drafts
    → Leads isa above drafts number [] Is
no_lines isa above drafts number Is is = record
    { end = number; passed = above; final = drafts; reads = λ below. refl; is = is }

pub then_lines : (isa : InstructionSet) (above : List Line) (drafts : Drafts) (number : ℕ) (lines more : List (List ℕ))
    (Is To : List Line
    → Drafts → Type 0)
    → Leads isa above drafts number lines Is → ((a : List Line) (d : Drafts) (n : ℕ) → Is a d → Leads isa a d n more To)
    → Leads isa above drafts number (lines ++ more) To
then_lines isa above drafts number lines more Is To first next =
    let second = next first.passed first.final first.end first.is in
    record {
      end = second.end;
      passed = second.passed;
      final = second.final;
      reads = λ below. rw (append_assoc lines more below) (first.reads (more ++ below) ∙ second.reads below);
      is = second.is;
    }

reads_line : (isa : InstructionSet) (above : List Line) (drafts : Drafts) (number : ℕ) (bytes : List ℕ)
    (below : List (List ℕ)) (line : Line)
    → line_says isa bytes ≡ Ok line → hindrance above drafts line ≡ None
    → read_below isa above drafts number (bytes ∷ below)
    ≡ read_below isa (line ∷ above) (with_line number (stand_of above line) line drafts) (number + 1) below
unfolding read_below
reads_line isa above drafts number bytes below line says free = rw (says, free) refl

pub one_line : (isa : InstructionSet) (above : List Line) (drafts : Drafts) (number : ℕ) (bytes : List ℕ) (line : Line)
    (Is : List Line
    → Drafts → Type 0)
    → line_says isa bytes ≡ Ok line → hindrance above drafts line ≡ None
    → Is (line ∷ above) (with_line number (stand_of above line) line drafts)
    → Leads isa above drafts number (bytes ∷ []) Is
one_line isa above drafts number bytes line Is says free is = record {
  end = number + 1;
  passed = line ∷ above;
  final = with_line number (stand_of above line) line drafts;
  reads = λ below. reads_line isa above drafts number bytes below line says free;
  is = is;
}

pub so_leads : (isa : InstructionSet) (above : List Line) (drafts : Drafts) (number : ℕ) (lines : List (List ℕ))
    (Is To : List Line → Drafts
    → Type 0)
    → Leads isa above drafts number lines Is → ((a : List Line) (d : Drafts) → Is a d → To a d)
    → Leads isa above drafts number lines To
so_leads isa above drafts number lines Is To lead then_is =
    record {
      end = lead.end;
      passed = lead.passed;
      final = lead.final;
      reads = lead.reads;
      is = then_is lead.passed
          lead.final lead.is;
    }
