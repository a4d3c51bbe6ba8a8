-- The first line that `lint` answers, and what is explained, are of the fault that the text is refused for.
use Rattle.std.proofs.Common.{◌≡◌, ◌≢◌, ◌∙◌, inl, inr, ℕ, zero, suc, ◌≤◌, List, [], ◌∷◌, ◌++◌, length, map}
use Rattle.std.proofs.Common.{take, Result, Ok, Err, refl, ap, ◌+◌, arith}
use Rattle.std.proofs.lemmas.Bool.Decides.{nat_tests}
use Rattle.std.specs.Result.{result_err}
use Rattle.std.specs.Prelude.{not, ◌==◌, is_err, IfErr, codes, true}
use Rattle.std.proofs.lemmas.List.{length-append, append_assoc}
use Rattle.c62_line.specs.declared.fault.Cause.TheVariants.{Memory}
use Rattle.c62_line.specs.declared.fault.ReadFault.{ReadFault}
use Rattle.c62_line.specs.Fault.{cause_name}
use Rattle.c62_read.specs.Program.{Fails, Refusal, program_in}
use Rattle.c62_place.specs.declared.place.Place.{Place}
use Rattle.c62_lint.specs.Faults.{faults_in, refusal_of}
use Rattle.c62_lint.specs.Laws.{first_among}
use Rattle.c62_lint.proofs.FaultLemmas.{first_refusal}
use Rattle.c62_explain.specs.Picture.{AddsHelp, Explains, Lints, LintsText, few, lint_line, position}
use Rattle.c62_explain.specs.Sentence.{sentence}
use Rattle.c62_explain.proofs.HintLemmas.{both_help}
use Rattle.c62_teach.specs.Linted.{BeginsWith, IsLintedSerial}
use Rattle.c62_teach.specs.Taught.{TeachesSerial}
use Rattle.c62_op.specs.declared.set.InstructionSet.{InstructionSet}

-- a line isn't empty
some_line : (name : List ℕ) (fault : ReadFault) (place : Place) → 1 ≤ length (lint_line name fault place)
some_line name fault place =
    let front = position name fault.line place ++ codes ": error: " ++ cause_name fault.cause ++ codes ": " ++ sentence
    fault.cause in
    let whole : length (lint_line name fault place) ≡ length front + length (codes "\n") = length-append front
    (codes "\n") in
    let one : length (codes "\n") ≡ 1 = refl in
    omega (arith, whole, one)

some_lines : (first others lines : List ℕ) → lines ≡ first ++ others → 1 ≤ length first → not (length lines == 0) ≡ true
some_lines first others lines whole some =
    let more : 1 ≤ length lines = omega (arith, ap length whole, length-append first others, some) in
    grind (arith, nat_tests)

-- what is told of a text, by its first fault
pub record IsTold (isa : InstructionSet) (name text lines : List ℕ) {T : Type 0} (r : Result T Refusal) : Type 0 where
  pub refused : not (length lines == 0) ≡ is_err r
  pub first : IfErr r (λ refusal. BeginsWith isa name text refusal lines)

told_by : (isa : InstructionSet) (name text lines : List ℕ) (faults : List ReadFault) (refusals : List Refusal)
    (n : ℕ) {T : Type 0}
    (r : Result T Refusal)
    → 1 ≤ n → map refusal_of faults ≡ take n refusals → Lints isa name text faults lines
    → first_among refusals ≡ result_err r
    → IsTold isa name text lines r
told_by isa name text lines faults refusals zero r some are says first = absurd (omega arith)
told_by isa name text lines [] [] (suc n) (Ok x) some are says first = rw says (record { refused = refl; first = tt })
told_by isa name text lines [] [] (suc n) (Err e) some are says first = absurd cc
told_by isa name text lines [] (refusal ∷ refusals) (suc n) r some are says first = absurd cc
told_by isa name text lines (fault ∷ faults) [] (suc n) r some are says first = absurd cc
told_by isa name text lines (fault ∷ faults) (refusal ∷ refusals) (suc n) (Ok x) some are says first = absurd cc
told_by isa name text lines (fault ∷ faults) (refusal ∷ refusals) (suc n) (Err e) some are
    (line, others, whole, one, more)
    first = record {
      refused = some_lines line others lines whole (rw (one.says) (some_line name fault one.place));
      first = record { fault = fault; same = cc; first = line; others = others; whole = whole; told = one };
    }

pub linted_by : (isa : InstructionSet) (most : ℕ) (name text lines : List ℕ) → 1 ≤ most
    → LintsText isa name text most lines
    → IsLintedSerial isa most name text lines (not (length lines == 0))
linted_by isa most name text lines some says =
    let least : 1 ≤ few most = omega (arith, some) in
    let told = told_by isa name text lines says.faults (faults_in isa text) (few most)
    (program_in isa text) least says.all
    says.says (first_refusal isa text) in
    record { all = says; refused = told.refused; first = told.first }

-- help may stand behind an explanation
more_explained : (isa : InstructionSet) (name text out more : List ℕ) (fault : ReadFault) → fault.line ≢ 0
    → Explains isa name text fault out
    → AddsHelp fault.line out more
    → Explains isa name text fault more
more_explained isa name text out more fault some (inl none) added = absurd (some none.0)
more_explained isa name text out more fault some (inr pictured) (hint, is, helps) = inr (record {
  place = pictured.place;
  there = pictured.there;
  help = pictured.help ++ hint;
  helps = both_help fault.line pictured.help hint pictured.helps helps;
  says = is ∙ ap (λ (front : List ℕ). front ++ hint) pictured.says ∙ append_assoc _ pictured.help hint;
})

pub taught_by : (isa : InstructionSet) (name text more : List ℕ) (fault : ReadFault) → fault.cause ≢ Memory
    → Fails fault (program_in isa text)
    → Explains isa name text fault more
    → TeachesSerial isa name text more
taught_by isa name text more fault known (inl memory) explains = absurd (known (ap (λ (f : ReadFault). f.cause) memory))
taught_by isa name text more fault known (inr is) explains = rw is
    (record { fault = fault; same = refl; explains = explains })

pub taught_more : (isa : InstructionSet) (name text out more : List ℕ) (fault : ReadFault) → fault.cause ≢ Memory
    → fault.line ≢ 0
    → Fails fault (program_in isa text)
    → Explains isa name text fault out → AddsHelp fault.line out more → TeachesSerial isa name text more
taught_more isa name text out more fault known some fails explains added =
    taught_by isa name text more fault known fails (more_explained isa name text out more fault some explains added)
