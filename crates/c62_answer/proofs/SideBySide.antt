-- What blocks that are packed side by side come to.
use Rattle.std.proofs.Common.{◌≡◌, List, [], ◌∷◌, map, subst, sym}
use Rattle.std.specs.Prelude.{Ok, Err, IfOk, MatchResult}
use Rattle.std.specs.declared.result.Result.{Result}
use Rattle.std.specs.List.{AllZip}
use Rattle.c62_read.specs.Block.{Serial}
use Rattle.c62_packet.specs.Packed.{Packed}
use Rattle.c62_show.specs.declared.shown.Shown.{Shown}
use Rattle.c62_command.specs.declared.command.Packing.{Packing}
use Rattle.c62_command.specs.declared.command.Showing.{Showing}
use Rattle.c62_answer.specs.Schedule.{AreScheduled, AreShown, IsScheduled, IsShown}

module _ {X Y : Type 0} (E : Type 0) (R : X → Y → Type 0) where
  all_given : (xs : List X) (ys : List Y) → AllZip (λ x (r : Result Y E). IfOk r (R x)) xs (map Ok ys) → AllZip R xs ys
  all_given [] [] all = tt
  all_given [] (y ∷ ys) all = absurd all
  all_given (x ∷ xs) [] all = absurd all
  all_given (x ∷ xs) (y ∷ ys) all = (all.0, all_given xs ys all.1)

  -- where all calls were Ok, each value is what its call gave
  pub gathered : (xs asked : List X) (results : List (Result Y E)) (values ys : List Y) → asked ≡ xs
      → AllZip (λ x (r : Result Y E). IfOk r (R x)) asked results → results ≡ map Ok ys → values ≡ ys
      → AllZip R xs values
  gathered xs asked results values ys same all oks are =
      let here : AllZip (λ x (r : Result Y E). IfOk r (R x)) xs results =
      subst (λ (l : List X). AllZip (λ x (r : Result Y E). IfOk r (R x)) l results) same all in
      let there : AllZip (λ x (r : Result Y E). IfOk r (R x)) xs (map Ok ys) =
      subst (λ (l : List (Result Y E)). AllZip (λ x (r : Result Y E). IfOk r (R x)) xs l) oks here in
      subst (λ (l : List Y). AllZip R xs l) (sym are) (all_given xs ys there)

-- what follows of the value of an `Ok`
pub where_ok : {T E : Type 0} (r : Result T E) (P Q : T → Type 0) (F : E → Type 0) → MatchResult r P F
    → ((v : T) → P v → Q v) → IfOk r Q
where_ok (Ok v) P Q F h f = f v h
where_ok (Err e) P Q F h f = tt

pub all_scheduled : (packing : Packing) (blocks : List Serial) (packets : List Packed)
    → AllZip (IsScheduled packing) blocks packets
    → AreScheduled packing blocks packets
all_scheduled packing [] [] all = tt
all_scheduled packing [] (q ∷ packets) all = absurd all
all_scheduled packing (b ∷ blocks) [] all = absurd all
all_scheduled packing (b ∷ blocks) (q ∷ packets) all = (all.0, all_scheduled packing blocks packets all.1)

pub all_shown : (showing : Showing) (blocks : List Serial) (shown : List Shown) → AllZip (IsShown showing) blocks shown
    → AreShown showing blocks shown
all_shown showing [] [] all = tt
all_shown showing [] (q ∷ shown) all = absurd all
all_shown showing (b ∷ blocks) [] all = absurd all
all_shown showing (b ∷ blocks) (q ∷ shown) all = (all.0, all_shown showing blocks shown all.1)
