-- Tests of words.
use Rattle.std.proofs.Common.{◌≡◌, Bool, List, map}
use Rattle.std.specs.List.{list_any}
use Rattle.clap.proofs.WalkLemmas.{list_any-map}

pub any_mapped : {X Y : Type 0} (p : Y → Bool) (f : X → Y) (xs : List X)
    → list_any (λ x. p (f x)) xs ≡ list_any p (map f xs)
any_mapped p f xs = list_any-map p f xs
