-- What becomes of a text, from what the stream answers.
use Rattle.std.proofs.Common.{◌≡◌, ℕ, List, Option, Some, None, Result, Ok, Err, sym, refl, codes}
use Rattle.std.specs.Io.KnownBytes.{Keeps}
use Rattle.clap.specs.Words.{Text}
use Rattle.c62_answer.specs.Message.{told_of}
use Rattle.c62_answer.proofs.WholeRuns.{told_tells}
use Rattle.c62_explain.specs.Topic.{page_in}
use Rattle.c62_program.specs.Written.{Broken, IsStatusBehind, IsWritten, Whole}
use Rattle.c62_program.specs.Teaching.{IsTopicRun, Known, Short, Unasked, Unknown, unknown_message}
use Rattle.c62_program.specs.declared.page.TheConstants.{EXPLAIN}

pub is_written : {E : Type 0} (result : Result (Unit {0}) E) (text : List ℕ) (done : ℕ)
    (old new errors told : Option (List ℕ)) (status : ℕ)
    → told_of result old new text → IsStatusBehind result done errors told status
    → IsWritten text done old new errors told status
is_written (Ok written) text done old new errors told status all behind = Whole behind.0 all behind.1
is_written (Err refused) text done old new errors told status front behind = Broken behind.0 front behind.1

-- ---- names

pub unasked : {E : Type 0} (result : Result (Unit {0}) E) (asked : Option Text) (output errors told : Option (List ℕ))
    → asked ≡ None → told_of result errors told EXPLAIN.now
    → Keeps output output → IsTopicRun asked output output errors told 2
unasked result asked output errors told none says kept = Unasked none refl kept
    (told_tells result errors told EXPLAIN.now says)

pub unknown : {E : Type 0} (result : Result (Unit {0}) E) (name : Text) (output errors told : Option (List ℕ))
    → None ≡ page_in name
    → told_of result errors told (unknown_message name) → Keeps output output
    → IsTopicRun (Some name) output output errors told 2
unknown result name output errors told none says kept = Unknown name refl (sym none) refl kept
    (told_tells result errors told (unknown_message name) says)

pub known : (name text : Text) (old new errors told : Option (List ℕ)) (status : ℕ) → Some text ≡ page_in name
    → IsWritten text 0 old new errors told status
    → IsTopicRun (Some name) old new errors told status
known name text old new errors told status is written = Known name text refl (sym is) written

pub short : {E : Type 0} (result : Result (Unit {0}) E) (asked : Option Text) (output errors told : Option (List ℕ))
    → told_of result errors told (codes "memory\n")
    → Keeps output output → IsTopicRun asked output output errors told 3
short result asked output errors told says kept = Short refl kept (told_tells result errors told _ says)
