-- What is found for a loop, where what is promised of accesses is known.
use Rattle.std.proofs.Common.{◌≡◌, ◌∙◌, ℕ, false, List, Option, Some, None, Result, Ok, Err, refl, sym, ap, subst, inl, inr}
use Rattle.std.specs.Prelude.{IfOk, slice_get}
use Rattle.c62_read.specs.Block.{Serial}
use Rattle.c62_check_loop.specs.Region.{counter_of}
use Rattle.c62_op.specs.declared.register.Reg.{Reg}
use Rattle.c62_loop.specs.Loop.{Region}
use Rattle.c62_loop_match.specs.declared.promise.Promise.{Promise}
use Rattle.clap.specs.Words.{Text as Name}
use Rattle.c62_check_loops.specs.Constant.{constant_at}
use Rattle.c62_check_loops.specs.Granted.{is_enough}
use Rattle.c62_check_loops.specs.Promised.{IsPromiseOf}
use Rattle.c62_pipeline.specs.declared.chosen.Choice.{Choice}
use Rattle.c62_pipeline.specs.declared.chosen.Kept.TheVariants.{NoCounter, NoTrips, Used}
use Rattle.c62_pipeline.specs.Chosen.{IsChosen, IsCountedAs, IsFound, UsesCounter, counts_down, loop_alone}

pub found_of : {E : Type 0} (r : Result Choice E) (trips : List (Name × ℕ)) (apart : List Reg) (label : Name)
    (constant : Option ℕ) (promise : Promise) (region : Region)
    → IsPromiseOf apart promise → IfOk r (IsFound promise region)
    → IfOk r (IsCountedAs trips apart (Some label) constant region)
found_of (Ok choice) trips apart label constant promise region of is = (is.0, inr (promise, of, is))
found_of (Err e) trips apart label constant promise region of is = tt

pub left_of : (trips : List (Name × ℕ)) (apart : List Reg) (label : Name) (constant : Option ℕ) (region : Region) (choice : Choice)
    → choice.number ≡ region.number → choice.made ≡ None → choice.kept ≡ NoTrips → choice.limit ≡ None
    → is_enough trips label constant 1 ≡ false
    → IsCountedAs trips apart (Some label) constant region choice
left_of trips apart label constant region choice number made kept unlimited why =
    (number, inl (record { none = made; told = kept; unlimited = unlimited; why = why }))

pub none_counts : (label : Option Name) (number : ℕ) (block : Serial) → counts_down label None number block ≡ false
none_counts None number block = refl
none_counts (Some label) number block = refl

pub uncounted_of : (trips : List (Name × ℕ)) (apart : List Reg) (blocks : List Serial) (block : Serial) (number : ℕ)
    (choice : Choice) → slice_get blocks number ≡ Some block → choice.number ≡ number → choice.made ≡ None
    → choice.kept ≡ NoCounter → choice.limit ≡ None
    → counts_down block.label (counter_of blocks number) number block ≡ false
    → IsChosen trips apart blocks choice
uncounted_of trips apart blocks block number choice at numbered none told unlimited why =
    inr (inl (record {
      none = none;
      told = told;
      unlimited = unlimited;
      block = block;
      at = ap (slice_get blocks) numbered ∙ at;
      why = ap (λ k. counts_down block.label (counter_of blocks k) k block) numbered ∙ why;
    }))

pub chosen_of : {E : Type 0} (r : Result Choice E) (trips : List (Name × ℕ)) (apart : List Reg) (blocks : List Serial)
    (block : Serial) (label : Name) (number : ℕ) (counter : Reg) (region : Region)
    → slice_get blocks number ≡ Some block → block.label ≡ Some label → counter_of blocks number ≡ Some counter
    → region ≡ loop_alone number block counter
    → IfOk r (IsCountedAs trips apart (Some label) (constant_at blocks number) region)
    → IfOk r (IsChosen trips apart blocks)
chosen_of (Err e) trips apart blocks block label number counter region at named counts same is = tt
chosen_of (Ok choice) trips apart blocks block label number counter region at named counts same is =
    let found : IsCountedAs trips apart block.label (constant_at blocks number) (loop_alone number block counter) choice
    = subst (λ (l : Option Name). IsCountedAs trips apart l (constant_at blocks number)
    (loop_alone number block counter) choice) (sym named)
    (subst (λ (r : Region). IsCountedAs trips apart (Some label) (constant_at blocks number) r choice) same is) in
    let numbered : choice.number ≡ number = found.0 in
    inr (inr (inr (record {
      block = block;
      at = ap (slice_get blocks) numbered ∙ at;
      counter = counter;
      counts = ap (counter_of blocks) numbered ∙ counts;
      found = subst (λ (k : ℕ). IsCountedAs trips apart block.label (constant_at blocks k)
          (loop_alone k block counter) choice) (sym numbered) found;
    })))

pub used_of : (trips : List (Name × ℕ)) (apart : List Reg) (blocks : List Serial) (block : Serial) (number : ℕ)
    (counter : Reg) (line : ℕ) (choice : Choice) → slice_get blocks number ≡ Some block
    → counter_of blocks number ≡ Some counter → UsesCounter counter number block.insns line → choice.number ≡ number
    → choice.made ≡ None → choice.kept ≡ Used line counter → choice.limit ≡ None → IsChosen trips apart blocks choice
used_of trips apart blocks block number counter line choice at tests uses numbered none told unlimited =
    inr (inr (inl (record {
      none = none;
      unlimited = unlimited;
      block = block;
      at = ap (slice_get blocks) numbered ∙ at;
      counter = counter;
      tests = ap (counter_of blocks) numbered ∙ tests;
      line = line;
      uses = subst (λ (k : ℕ). UsesCounter counter k block.insns line) (sym numbered) uses;
      told = told;
    })))
