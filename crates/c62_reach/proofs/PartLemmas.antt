-- Parts, line by line.
use Rattle.std.proofs.Common.{◌≡◌, ◌<◌, ◌+◌, ◌∙◌, ℕ, length, take, get_or, true, false, List, [], ◌∷◌, ◌++◌, Option}
use Rattle.std.proofs.Common.{Some, None, is_some, is_none, map, ap, sym, refl, append_assoc}
use Rattle.std.specs.List.{cons_option, filter_map}
use Rattle.std.specs.Option.{option_to_list}
use Rattle.std.proofs.lemmas.List.{map-append, take_more}
use Rattle.std.proofs.lemmas.List.Elements.{filter_map-append}
use Rattle.c62_read.specs.Program.{Name}
use Rattle.c62_reach.specs.declared.part.Part.{Part as PartRead}
use Rattle.c62_reach.specs.File.{files_below}
use Rattle.c62_reach.specs.Part.{Growing, Part, closed, label_at, new_part, parts_below, with_line}
use Rattle.c62_reach.specs.PartRead.{part_read}
use Rattle.c62_op.specs.declared.set.InstructionSet.{InstructionSet}

none_is : (label : Option Name) → is_none label ≡ true → label ≡ None
none_is None e = refl
none_is (Some label) e = absurd cc

some_is : (label : Option Name) → is_none label ≡ false → is_some label ≡ true
some_is None e = absurd cc
some_is (Some label) e = refl

-- a line without a label belongs to the part
pub goes_on : (isa : InstructionSet) (files : ℕ) (label : Option Name) (parts : List Part) (last : Growing)
    (line : List ℕ) (lines : List (List ℕ))
    → is_none label ≡ true → label ≡ label_at line
    → parts ++ parts_below isa (files_below files line) (with_line isa line last) lines
    ≡ parts ++ parts_below isa files last (line ∷ lines)
unfolding parts_below
goes_on isa files label parts last line lines none same = rw (sym same ∙ none_is label none) refl

-- one with a label begins another
pub begins : (isa : InstructionSet) (files : ℕ) (label : Option Name) (done : List PartRead) (part : PartRead)
    (last : Growing) (line : List ℕ) (lines : List (List ℕ)) → is_none label ≡ false
    → part_read part ≡ closed last → label ≡ label_at line
    → map part_read (done ++ part ∷ [])
    ++ parts_below isa (files_below files line) (with_line isa line (new_part files label)) lines
    ≡ map part_read done ++ parts_below isa files last (line ∷ lines)
unfolding parts_below
begins isa files label done part last line lines some same is =
    let labelled : is_some (label_at line) ≡ true = ap is_some (sym is) ∙ some_is label some in
    let below = parts_below isa (files_below files line) (with_line isa line (new_part files label)) lines in
    rw (labelled, ← is, ← same)
    (ap (λ (parts : List Part). parts ++ below) (map-append part_read done (part ∷ []))
    ∙ append_assoc (map part_read done) (part_read part ∷ []) below)

-- where no line is left, it is the last one
pub all_parts : (isa : InstructionSet) (files : ℕ) (done : List PartRead) (part : PartRead) (last : Growing)
    → part_read part ≡ closed last
    → map part_read (done ++ part ∷ []) ≡ map part_read done ++ parts_below isa files last []
unfolding parts_below
all_parts isa files done part last same =
    map-append part_read done (part ∷ []) ∙ ap (λ (p : Part). map part_read done ++ p ∷ []) same

-- ---- the parts that are named

option_alone : {X : Type 0} (found : Option X) → cons_option found [] ≡ option_to_list found
option_alone None = refl
option_alone (Some x) = refl

pub named_more : (part : Name → Option ℕ) (names : List Name) (i : ℕ) (name : Name) (start old new : List ℕ)
    (named : Option ℕ) → i < length names → name ≡ get_or names i name
    → old ≡ start ++ filter_map part (take i names) → named ≡ part name → new ≡ old ++ option_to_list named
    → new ≡ start ++ filter_map part (take (i + 1) names)
named_more part names i name start old new named inside is so_far found added =
    let one : filter_map part (name ∷ []) ≡ option_to_list named = option_alone (part name)
    ∙ ap option_to_list (sym found) in
    let list : take (i + 1) names ≡ take i names ++ name ∷ [] = take_more names i name inside
    ∙ ap (λ (n : Name). take i names ++ n ∷ []) (sym is) in
    let all : filter_map part (take (i + 1) names) ≡ filter_map part (take i names) ++ option_to_list named =
    ap (filter_map part) list ∙ filter_map-append part (take i names) (name ∷ [])
    ∙ ap (λ (l : List ℕ). filter_map part (take i names) ++ l) one in
    added ∙ ap (λ (l : List ℕ). l ++ option_to_list named) so_far
    ∙ append_assoc start (filter_map part (take i names)) (option_to_list named)
    ∙ ap (λ (l : List ℕ). start ++ l) (sym all)
