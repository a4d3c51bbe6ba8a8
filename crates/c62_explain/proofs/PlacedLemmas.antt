-- Faults with their columns, and the lines that tell them.
use Rattle.std.proofs.Common.{arith, ◌≡◌, ℕ, suc, ◌+◌, ◌<◌, List, [], ◌∷◌, ◌++◌, length, get_or, drop}
use Rattle.std.proofs.Common.{refl, sym, ap, ◌∙◌}
use Rattle.std.proofs.Common.{append_assoc}
use Rattle.std.proofs.lemmas.List.{map-append}
use Rattle.std.proofs.lemmas.List.Elements.{All-push}
use Rattle.std.proofs.Math.Seq.{drop-cons}
use Rattle.std.specs.Prelude.{All, map, take}
use Rattle.std.specs.List.{flat_map}
use Rattle.c62_line.specs.declared.fault.ReadFault.{ReadFault}
use Rattle.c62_lint.specs.Faults.{faults_in, refusal_of}
use Rattle.c62_explain.specs.declared.placed.PlacedFault.{PlacedFault}
use Rattle.c62_explain.specs.Picture.{few, Lints, LintsOne, LintsText}
use Rattle.c62_explain.specs.Placed.{ArePlaced, IsPlaced, LintsPlaced, placed_line}
use Rattle.c62_op.specs.declared.set.InstructionSet.{InstructionSet}

tells_one : (isa : InstructionSet) (name text : List ℕ) (placed : PlacedFault) → IsPlaced isa text placed
    → LintsOne isa name text placed.fault (placed_line name placed)
unfolding placed_line
tells_one isa name text placed is = record { place = is.place; there = is.there; says = rw is.column refl }

tells_all : (isa : InstructionSet) (name text : List ℕ) (all : List PlacedFault) → All (IsPlaced isa text) all
    → Lints isa name text (map (λ placed. placed.fault) all) (flat_map (placed_line name) all)
tells_all isa name text [] there = refl
tells_all isa name text (placed ∷ others) there = (
  placed_line name placed,
  flat_map (placed_line name) others,
  refl,
  tells_one isa name text placed (there 0 placed (omega arith)),
  tells_all isa name text others (λ k d within. there (suc k) d (omega (arith, within))),
)

refusals_of : (all : List PlacedFault) → map refusal_of (map (λ placed. placed.fault) all)
    ≡ map (λ placed. refusal_of placed.fault) all
refusals_of [] = refl
refusals_of (placed ∷ others) = ap (λ rest. refusal_of placed.fault ∷ rest) (refusals_of others)

pub are_placed : (isa : InstructionSet) (text : List ℕ) (most : ℕ) (faults : List ReadFault) (all : List PlacedFault)
    → map refusal_of faults ≡ take (few most) (faults_in isa text)
    → map (λ placed. placed.fault) all ≡ faults → All (IsPlaced isa text) all → ArePlaced isa text most all
are_placed isa text most faults all is same there = record {
  faults = sym (refusals_of all) ∙ (ap (map refusal_of) same ∙ is);
  there = there;
}

pub lints_text : (isa : InstructionSet) (name text : List ℕ) (most : ℕ) (out : List ℕ)
    → LintsPlaced isa name text most out
    → LintsText isa name text most out
lints_text isa name text most out lints = record {
  faults = map (λ placed. placed.fault) lints.placed;
  all = refusals_of lints.placed ∙ lints.are.faults;
  says = rw lints.says (tells_all isa name text lints.placed lints.are.there);
}

-- one more of the faults, with its column
next_same : (faults : List ReadFault) (index : ℕ) (all : List PlacedFault) (placed : PlacedFault) (fault : ReadFault)
    → index < length faults → placed.fault ≡ get_or faults index fault
    → map (λ each. each.fault) all ++ drop index faults ≡ faults
    → map (λ each. each.fault) (all ++ placed ∷ []) ++ drop (index + 1) faults ≡ faults
next_same faults index all placed fault within at whole =
    let told : List ReadFault = map (λ (each : PlacedFault). each.fault) all in
    let one : suc index ≡ index + 1 = omega arith in
    let more : drop index faults ≡ placed.fault ∷ drop (index + 1) faults =
    drop-cons faults index fault within
    ∙ (ap (λ (n : ℕ). get_or faults index fault ∷ drop n faults) one
    ∙ ap (λ (it : ReadFault). it ∷ drop (index + 1) faults) (sym at)) in
    ap (λ (front : List ReadFault). front ++ drop (index + 1) faults)
    (map-append (λ (each : PlacedFault). each.fault) all (placed ∷ []))
    ∙ (append_assoc told (placed.fault ∷ []) (drop (index + 1) faults)
    ∙ (ap (λ (rest : List ReadFault). told ++ rest) (sym more) ∙ whole))

pub placed_next : (isa : InstructionSet) (text : List ℕ) (faults : List ReadFault) (index : ℕ)
    (all new : List PlacedFault)
    (placed : PlacedFault) (fault : ReadFault) → index < length faults
    → placed.fault ≡ get_or faults index fault → IsPlaced isa text placed
    → (map (λ each. each.fault) all ++ drop index faults ≡ faults) × All (IsPlaced isa text) all
    → new ≡ all ++ placed ∷ []
    → (map (λ each. each.fault) new ++ drop (index + 1) faults ≡ faults) × All (IsPlaced isa text) new
placed_next isa text faults index all new placed fault within at is before pushed = rw pushed (
  next_same faults index all placed fault within at before.0,
  All-push (IsPlaced isa text) all placed before.1 is,
)
