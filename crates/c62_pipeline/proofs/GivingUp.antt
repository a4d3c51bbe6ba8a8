-- Loops whose packets are given up.
use Rattle.std.proofs.Common.{◌≡◌, ◌∙◌, ◌<◌, ℕ, suc, List, Option, Some, None, length, get_or, arith, refl, sym, subst, inl, inr}
use Rattle.std.proofs.lemmas.Option.{none-some}
use Rattle.std.proofs.lemmas.List.Elements.{All-map}
use Rattle.std.specs.Prelude.{All, [], ◌∷◌, map}
use Rattle.clap.specs.Words.{Text as Name}
use Rattle.c62_op.specs.declared.register.Reg.{Reg}
use Rattle.c62_op.specs.declared.set.InstructionSet.{InstructionSet}
use Rattle.c62_read.specs.Block.{Serial}
use Rattle.c62_loop.specs.Loop.{Region}
use Rattle.c62_modulo.specs.declared.made.Made.{Made}
use Rattle.c62_pipeline.specs.declared.chosen.Choice.{Choice}
use Rattle.c62_pipeline.specs.declared.written.Pipelining.{Pipelining}
use Rattle.c62_pipeline.specs.Checked.{IsWrittenOf}
use Rattle.c62_pipeline.specs.Chosen.{IsChosen, IsCountedAs, given_up, given_up_where}

counted_where : (trips : List (Name × ℕ)) (apart : List Reg) (label : Option Name) (constant : Option ℕ) (region : Region)
    (made : Made) (choice : Choice) → choice.made ≡ Some made → IsCountedAs trips apart label constant region choice
    → IsCountedAs trips apart label constant region (given_up_where (Some made) choice)
counted_where trips apart label constant region made choice same (number, inl is) =
    absurd (none-some made (sym is.none ∙ same))
counted_where trips apart label constant region made choice same (number, inr (promise, of, is)) =
    (number, inr (promise, of, (number, tt, tt)))

chosen_where : (trips : List (Name × ℕ)) (apart : List Reg) (blocks : List Serial) (made : Option Made) (choice : Choice)
    → choice.made ≡ made → IsChosen trips apart blocks choice → IsChosen trips apart blocks (given_up_where made choice)
chosen_where trips apart blocks None choice same is = is
chosen_where trips apart blocks (Some made) choice same (inl is) = absurd (none-some made (sym is.none ∙ same))
chosen_where trips apart blocks (Some made) choice same (inr (inl is)) = absurd (none-some made (sym is.none ∙ same))
chosen_where trips apart blocks (Some made) choice same (inr (inr (inl is))) = absurd (none-some made (sym is.none ∙ same))
chosen_where trips apart blocks (Some made) choice same (inr (inr (inr is))) =
    inr (inr (inr (record {
      block = is.block;
      at = is.at;
      counter = is.counter;
      counts = is.counts;
      found = counted_where trips apart is.block.label _ _ made choice same is.found;
    })))

pub given_up_chosen : (trips : List (Name × ℕ)) (apart : List Reg) (blocks : List Serial) (choice : Choice)
    → IsChosen trips apart blocks choice → IsChosen trips apart blocks (given_up choice)
given_up_chosen trips apart blocks choice is = chosen_where trips apart blocks choice.made choice refl is

all_chosen : (trips : List (Name × ℕ)) (apart : List Reg) (blocks : List Serial) (choices : List Choice)
    → All (IsChosen trips apart blocks) choices → All (λ choice. IsChosen trips apart blocks (given_up choice)) choices
all_chosen trips apart blocks choices all =
    λ k d less. given_up_chosen trips apart blocks (get_or choices k d) (all k d less)

none_where : (made : Option Made) (choice : Choice) → choice.made ≡ made → (given_up_where made choice).made ≡ None
none_where None choice same = same
none_where (Some made) choice same = refl

all_none : (choices : List Choice) → All (λ choice. (given_up choice).made ≡ None) choices
all_none choices = λ k d less. none_where (get_or choices k d).made (get_or choices k d) refl

-- each block has its own packets where all are given up
pub all_given_up : (isa : InstructionSet) (trips : List (Name × ℕ)) (apart : List Reg) (blocks : List Serial) (own : List ℕ)
    (choices : List Choice) (written : Pipelining) → All (IsChosen trips apart blocks) choices → written.text.items ≡ own
    → written.loops.items ≡ map given_up choices → IsWrittenOf isa trips apart blocks own written
all_given_up isa trips apart blocks own choices written all text loops = record {
  does = inr (record {
    text = text;
    none = subst (All (λ choice. choice.made ≡ None)) (sym loops)
        (All-map (λ choice. choice.made ≡ None) given_up choices (all_none choices));
  });
  chosen = subst (All (IsChosen trips apart blocks)) (sym loops)
      (All-map (IsChosen trips apart blocks) given_up choices (all_chosen trips apart blocks choices all));
}

-- the choices of which each was given up
pub each_given_up : (new old : List Choice) → length new ≡ length old
    → ((k : ℕ) (d : Choice) → k < length old → get_or new k d ≡ given_up (get_or old k d))
    → new ≡ map given_up old
each_given_up [] [] same at = refl
each_given_up (n ∷ new) (o ∷ old) same at =
    rw (
      at 0 n (omega arith),
      each_given_up new old (omega (arith, same)) (λ k d less. at (suc k) d (omega (arith, less))),
    ) refl
each_given_up new old same at = absurd (omega arith)
