-- Lines that are told one behind the other.
use Rattle.std.proofs.Common.{◌≡◌, ℕ, suc, ◌+◌, ◌<◌, List, ◌∷◌, ◌++◌, length, drop, get_or, sym, ◌∙◌, ap}
use Rattle.std.proofs.Common.{append_assoc, arith}
use Rattle.std.specs.List.{flat_map}
use Rattle.std.proofs.Math.Seq.{drop-cons}
use Rattle.c62_read.specs.Block.{Serial}
use Rattle.c62_apart.specs.declared.marks.Meeting.{Meeting}
use Rattle.c62_apart.specs.Sentence.{line_at, lines_upto}

pub told_next : {X : Type 0} (line : X → List ℕ) (all : List X) (k : ℕ) (item : X) (out now whole : List ℕ)
    → k < length all → item ≡ get_or all k item → out ++ flat_map line (drop k all) ≡ whole → now ≡ out ++ line item
    → now ++ flat_map line (drop (k + 1) all) ≡ whole
told_next line all k item out now whole inside is before adds =
    let next : k + 1 ≡ suc k = omega arith in
    let cut : drop k all ≡ item ∷ drop (suc k) all =
    drop-cons all k item inside ∙ ap (λ one. one ∷ drop (suc k) all) (sym is) in
    rw next (ap (λ o. o ++ flat_map line (drop (suc k) all)) adds
    ∙ append_assoc out (line item) (flat_map line (drop (suc k) all))
    ∙ ap (λ rest. out ++ flat_map line rest) (sym cut)
    ∙ before)

pub told_block : (base : ℕ) (blocks : List Serial) (met : List Meeting) (number : ℕ) (first out now : List ℕ)
    → out ≡ first ++ lines_upto base blocks met number → now ≡ out ++ line_at base blocks met number
    → now ≡ first ++ lines_upto base blocks met (number + 1)
told_block base blocks met number first out now before adds =
    let next : number + 1 ≡ suc number = omega arith in
    rw next (adds ∙ ap (λ o. o ++ line_at base blocks met number) before
    ∙ append_assoc first (lines_upto base blocks met number) (line_at base blocks met number))
