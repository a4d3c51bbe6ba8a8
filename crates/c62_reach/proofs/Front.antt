-- The front of a text that is too long tells enough.
use Rattle.std.proofs.Common.{◌+◌, ◌≡◌, ◌∙◌, ◌<◌, ◌≤◌, ℕ, List, length, take, refl, sym, ap}
use Rattle.std.proofs.Common.{subst, inl, inr, ⊎_elim, arith}
use Rattle.std.proofs.lemmas.Bool.{cases_lt}
use Rattle.std.proofs.lemmas.List.{take_all, length-take}
use Rattle.c62_reach.specs.declared.fault.ReachFault.TheVariants.{From}
use Rattle.c62_reach.specs.Taken.{IsTaken, IsTakenFrom, IsTooLong, Lacks}
use Rattle.c62_adopt_cut.specs.declared.text.TheConstants.{MOST_BYTES}
use Rattle.c62_op.specs.declared.set.InstructionSet.{InstructionSet}

-- a text that isn't too long is read whole
whole : (all text : List ℕ) → text ≡ take (MOST_BYTES + 1) all → length text ≤ MOST_BYTES → text ≡ all
whole all text read short =
    let len : length text ≡ length (take (MOST_BYTES + 1) all) = ap length read in
    read ∙ take_all (MOST_BYTES + 1) all (omega (arith, length-take (MOST_BYTES + 1) all))

pub taken_all : (isa : InstructionSet) (name all text taken : List ℕ) → text ≡ take (MOST_BYTES + 1) all
    → IsTaken isa name text taken
    → IsTaken isa name all taken
taken_all isa name all text taken read (inl long) =
    let len : length text ≡ length (take (MOST_BYTES + 1) all) = ap length read in
    let long_text = long.long in
    let full : length text ≡ (MOST_BYTES + 1) = omega (arith, length-take (MOST_BYTES + 1) all) in
    inl (record {
      long = omega (arith, length-take (MOST_BYTES + 1) all);
      own = long.own ∙ take_all (MOST_BYTES + 1) text (omega arith) ∙ read;
    })
taken_all isa name all text taken read (inr from) = inr
    (subst (λ (t : List ℕ). IsTakenFrom isa name t taken) (whole all text read from.short) from)

pub lacks_all : (isa : InstructionSet) (name all text : List ℕ) → text ≡ take (MOST_BYTES + 1) all
    → Lacks isa name text From → Lacks isa name all From
lacks_all isa name all text read lacks =
    subst (λ (t : List ℕ). Lacks isa name t From) (whole all text read lacks.0) lacks
