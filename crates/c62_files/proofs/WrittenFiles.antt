-- Files that are written, one file more.
use Rattle.std.proofs.Common.{arith, ◌≡◌, ◌∙◌, ℕ, zero, suc, ◌+◌, ◌<◌, List, [], ◌∷◌, length, drop, map, get_or, refl}
use Rattle.std.proofs.Common.{sym, ap, subst, inl, inr}
use Rattle.std.proofs.lemmas.List.{drop_more}
use Rattle.c62_files.specs.Words.{Text}
use Rattle.c62_files.specs.Writing.{AreBegun, AreWritten, Holding, IsNameIn, IsReplaced}
use Rattle.c62_files.specs.Writing.{StopsAt, text_output}
use Rattle.c62_files.specs.declared.writing.Output.{Output}

-- what is still to be written leads from here to where all is written
abbrev pub IsOnWay : (before : Holding) (all : List (Text × List ℕ)) (now : Holding) (rest : List (Text × List ℕ))
    → Type 0
IsOnWay before all now rest = (after : Holding) → AreWritten now rest after → AreWritten before all after

-- and what is begun leads to where some of all is
abbrev pub IsBegunOnWay : (before : Holding) (all : List (Text × List ℕ)) (now : Holding) (rest : List (Text × List ℕ))
    → Type 0
IsBegunOnWay before all now rest = (after : Holding) → AreBegun now rest after → AreBegun before all after

-- and where what is left stops, all stop
abbrev pub IsStopOnWay : (before : Holding) (all : List (Text × List ℕ)) (now : Holding) (rest : List (Text × List ℕ))
    → Type 0
IsStopOnWay before all now rest = (name : Text) (after : Holding) → StopsAt now rest name after
    → StopsAt before all name after

-- the files from i on are the file at i and those behind it
from_here : (files : List Output) (i : ℕ) (d file : Output) → i < length files → file ≡ get_or files i d
    → map text_output (drop i files) ≡ text_output file ∷ map text_output (drop (i + 1) files)
from_here files i d file within is =
    ap (map text_output) (drop_more files i d within)
    ∙ ap (λ f. text_output f ∷ map text_output (drop (i + 1) files)) (sym is)

write : (before now next : Holding) (all rest : List (Text × List ℕ)) (name : Text) (bytes : List ℕ)
    → IsReplaced now name bytes next
    → IsOnWay before all now ((name, bytes) ∷ rest) → IsOnWay before all next rest
unfolding AreWritten
write before now next all rest name bytes replaced so_far after written = so_far after (next, replaced, written)

begin : (before now next : Holding) (all rest : List (Text × List ℕ)) (name : Text) (bytes : List ℕ)
    → IsReplaced now name bytes next
    → IsBegunOnWay before all now ((name, bytes) ∷ rest) → IsBegunOnWay before all next rest
unfolding AreBegun
begin before now next all rest name bytes replaced so_far after begun = so_far after (inr (next, replaced, begun))

stop : (before now next : Holding) (all rest : List (Text × List ℕ)) (name : Text) (bytes : List ℕ)
    → IsReplaced now name bytes next
    → IsStopOnWay before all now ((name, bytes) ∷ rest) → IsStopOnWay before all next rest
unfolding StopsAt
stop before now next all rest name bytes replaced so_far at after stops =
    so_far at after (inr (next, replaced, stops))

here : (before now : Holding) (all rest : List (Text × List ℕ)) (name : Text) (bytes : List ℕ)
    → IsStopOnWay before all now ((name, bytes) ∷ rest) → StopsAt before all name now
unfolding StopsAt
here before now all rest name bytes so_far = so_far name now (inl (refl, refl))

pub one_written : (before now next : Holding) (all : List (Text × List ℕ)) (files : List Output) (i : ℕ)
    (d file : Output) → i < length files
    → file ≡ get_or files i d → IsReplaced now file.name.now file.bytes.now next
    → IsOnWay before all now (map text_output (drop i files))
    → IsOnWay before all next (map text_output (drop (i + 1) files))
one_written before now next all files i d file within is replaced so_far =
    write before now next all (map text_output (drop (i + 1) files)) file.name.now file.bytes.now replaced
    (subst (IsOnWay before all now) (from_here files i d file within is) so_far)

pub one_begun : (before now next : Holding) (all : List (Text × List ℕ)) (files : List Output) (i : ℕ) (d file : Output)
    → i < length files
    → file ≡ get_or files i d → IsReplaced now file.name.now file.bytes.now next
    → IsBegunOnWay before all now (map text_output (drop i files))
    → IsBegunOnWay before all next (map text_output (drop (i + 1) files))
one_begun before now next all files i d file within is replaced so_far =
    begin before now next all (map text_output (drop (i + 1) files)) file.name.now file.bytes.now replaced
    (subst (IsBegunOnWay before all now) (from_here files i d file within is) so_far)

pub one_passed : (before now next : Holding) (all : List (Text × List ℕ)) (files : List Output) (i : ℕ)
    (d file : Output) → i < length files
    → file ≡ get_or files i d → IsReplaced now file.name.now file.bytes.now next
    → IsStopOnWay before all now (map text_output (drop i files))
    → IsStopOnWay before all next (map text_output (drop (i + 1) files))
one_passed before now next all files i d file within is replaced so_far =
    stop before now next all (map text_output (drop (i + 1) files)) file.name.now file.bytes.now replaced
    (subst (IsStopOnWay before all now) (from_here files i d file within is) so_far)

pub stops_here : (before now : Holding) (all : List (Text × List ℕ)) (files : List Output) (i : ℕ) (d file : Output)
    → i < length files → file ≡ get_or files i d → IsStopOnWay before all now (map text_output (drop i files))
    → StopsAt before all file.name.now now
stops_here before now all files i d file within is so_far =
    here before now all (map text_output (drop (i + 1) files)) file.name.now file.bytes.now
    (subst (IsStopOnWay before all now) (from_here files i d file within is) so_far)

pub all_written : (before now : Holding) (all rest : List (Text × List ℕ)) → rest ≡ [] → IsOnWay before all now rest
    → AreWritten before all now
unfolding AreWritten
all_written before now all rest none so_far = so_far now (rw none refl)

-- where nothing is written, the files are begun
pub none_begun : (before : Holding) (files : List (Text × List ℕ)) → AreBegun before files before
unfolding AreBegun
none_begun before [] = refl
none_begun before (file ∷ files) = inl refl

pub written_begun : (before after : Holding) (files : List (Text × List ℕ)) → AreWritten before files after
    → AreBegun before files after
unfolding AreWritten AreBegun
written_begun before after [] written = written
written_begun before after (file ∷ files) written = inr
    (written.0, written.1, written_begun written.0 after files written.2)

pub some_begun : (before now : Holding) (all rest : List (Text × List ℕ)) → IsBegunOnWay before all now rest
    → AreBegun before all now
some_begun before now all rest so_far = so_far now (none_begun now rest)

pub names_file : (files : List Output) (i : ℕ) (d file : Output) → i < length files → file ≡ get_or files i d
    → IsNameIn file.name.now (map text_output files)
names_file [] i d file within is = absurd (omega arith)
names_file (first ∷ files) zero d file within is = inl (ap (λ f. f.name.now) is)
names_file (first ∷ files) (suc i) d file within is = inr (names_file files i d file (omega arith) is)
