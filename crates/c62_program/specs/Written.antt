-- What becomes of a text that the program writes of its own (docs/COMMANDS.md, "Statuses").
use Rattle.std.specs.Prelude.{◌≡◌, ℕ, List, Option, Result, Ok, Err, codes}
use Rattle.std.specs.Io.KnownBytes.{Appends, Keeps}
use Rattle.c62_answer.specs.Message.{Tells}

-- It is written and the status is this one, or the output takes no more than a front of it.
pub data IsWritten (text : List ℕ) (done : ℕ) (old new errors told : Option (List ℕ)) (status : ℕ) : Type 0 where
  Whole : status ≡ done → Appends old new text → Keeps errors told → IsWritten text done old new errors told status
  Broken : status ≡ 4 → Tells old new text → Tells errors told (codes "output\n") → IsWritten text done old new errors told status

-- the status behind what a stream answers, and what is said of that
abbrev pub IsStatusBehind : {E : Type 0} → Result (Unit {0}) E → (done : ℕ) → (errors told : Option (List ℕ)) → (status : ℕ) → Type 0
IsStatusBehind (Ok _) done errors told status = (status ≡ done) × Keeps errors told
IsStatusBehind (Err _) done errors told status = (status ≡ 4) × Tells errors told (codes "output\n")
