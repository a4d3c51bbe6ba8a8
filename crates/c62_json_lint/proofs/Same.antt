-- The document of a serial text tells what its lines tell.
use Rattle.std.proofs.Common.{arith, ◌≡◌, ◌∙◌, ℕ, zero, suc, ◌≤◌, List, [], ◌∷◌, length, map, take}
use Rattle.std.proofs.Common.{Result, Ok, Err, refl, sym}
use Rattle.std.proofs.lemmas.Bool.Decides.{nat_tests}
use Rattle.std.specs.Prelude.{is_err, nat_lt}
use Rattle.std.specs.Result.{result_err}
use Rattle.c62_read.specs.Program.{Refusal, program_in}
use Rattle.c62_lint.specs.Faults.{faults_in, refusal_of}
use Rattle.c62_lint.specs.Laws.{first_among}
use Rattle.c62_lint.proofs.FaultLemmas.{first_refusal}
use Rattle.c62_explain.specs.Picture.{few}
use Rattle.c62_explain.specs.declared.placed.PlacedFault.{PlacedFault}
use Rattle.c62_json_lint.specs.Laws.{DocumentsTellTheLines, FaultyIsRefused}
use Rattle.c62_op.specs.declared.set.InstructionSet.{InstructionSet}

pub tell_the_lines : (isa : InstructionSet) (most : ℕ) (file text : List ℕ) → DocumentsTellTheLines isa most file text
tell_the_lines isa most file text out told faulty lines is = record {
  lines = lines.placed;
  faults = is.faults;
  says = lines.says;
  also = is.says;
  same = lines.are.faults ∙ sym is.are.faults;
}

some_told : (faults : List PlacedFault) (refusals : List Refusal) (n : ℕ) {T : Type 0} (r : Result T Refusal) → 1 ≤ n
    → map (λ placed. refusal_of placed.fault) faults ≡ take n refusals → first_among refusals ≡ result_err r
    → nat_lt 0 (length faults) ≡ is_err r
some_told faults refusals zero r some are first = absurd (omega arith)
some_told [] [] (suc n) (Ok x) some are first = refl
some_told [] [] (suc n) (Err e) some are first = absurd cc
some_told [] (refusal ∷ refusals) (suc n) r some are first = absurd cc
some_told (fault ∷ faults) [] (suc n) r some are first = absurd cc
some_told (fault ∷ faults) (refusal ∷ refusals) (suc n) (Ok x) some are first = absurd cc
some_told (fault ∷ faults) (refusal ∷ refusals) (suc n) (Err e) some are first = grind (arith, nat_tests)

pub faulty_is_refused : (isa : InstructionSet) (most : ℕ) (file text : List ℕ) → FaultyIsRefused isa most file text
faulty_is_refused isa most file text some told faulty is =
    let least : 1 ≤ few most = omega (arith, some) in
    is.some ∙ some_told is.faults (faults_in isa text) (few most) (program_in isa text) least is.are.faults
    (first_refusal isa text)
