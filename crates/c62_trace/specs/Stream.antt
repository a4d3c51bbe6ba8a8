-- What a stream got of a trace.
use Rattle.std.specs.Prelude.{◌≡◌, ℕ, List, ◌++◌, Option, Result, Ok, Err, take}
use Rattle.std.specs.Io.KnownBytes.{Appends}
use Rattle.c62_trace.specs.declared.offering.Refused.{Refused}

-- whether a stream took all that it was sent, or refused some
abbrev pub Sent : Type 0
Sent = Result (Unit {0}) Refused

-- All of a text stands behind what the stream held; or a front of it, where the stream refused what follows.
abbrev pub IsTold : Sent → Option (List ℕ) → Option (List ℕ) → List ℕ → Type 0
IsTold (Ok _) old new text = Appends old new text
IsTold (Err _) old new text = (count : ℕ) × Appends old new (take count text)

-- so it is with more of the text, whatever was told before
abbrev pub TellsMore : (before after : Sent) → Option (List ℕ) → Option (List ℕ) → List ℕ → Type 0
TellsMore before after middle new more =
    (old : Option (List ℕ)) (text : List ℕ) → IsTold before old middle text → IsTold after old new (text ++ more)

-- so far a text was written: what was sent of it, and what isn't yet
abbrev pub IsWritten : (opening : Option (List ℕ)) → Sent → (stream : Option (List ℕ)) → (unsent text : List ℕ) → Type 0
IsWritten opening whole stream unsent text = (sent : List ℕ) × (sent ++ unsent ≡ text) × IsTold whole opening stream sent

-- and this more of it, whatever was written before
abbrev pub WritesMore : Sent → Option (List ℕ) → List ℕ → Sent → Option (List ℕ) → List ℕ → List ℕ → Type 0
WritesMore whole stream unsent whole' stream' unsent' more =
    (opening : Option (List ℕ)) (text : List ℕ) → IsWritten opening whole stream unsent text
    → IsWritten opening whole' stream' unsent' (text ++ more)
