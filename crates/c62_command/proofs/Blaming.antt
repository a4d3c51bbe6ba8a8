-- The setting that a refusal blames.
use Rattle.std.proofs.Common.{◌≡◌, ◌≢◌, ℕ, [], ◌∷◌, Option, None, refl}
use Rattle.std.specs.Prelude.{slice_get}
use Rattle.clap.specs.Words.{Kinds, Text}
use Rattle.c62_command.specs.Blamed.{if_taken}

pub nothing_at : (k : ℕ) → None ≡ slice_get {X = Text} [] k
nothing_at k = refl

pub none_taken : {A : Type 0} (faults : Kinds) (found : Option A) → faults ≢ [] → None ≡ if_taken faults found
none_taken [] found some = absurd (some refl)
none_taken (kind ∷ kinds) found some = refl
