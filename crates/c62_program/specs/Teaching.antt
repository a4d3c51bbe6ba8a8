-- What is told by `lint`, and behind `--explain`, `--strict` and `--apart` (docs/FAULTS.md; docs/REPORT.md, "Strict runs"; docs/CHECK.md,
-- "A run that is looked at").
use Rattle.std.specs.Prelude.{◌≡◌, ℕ, ◌==◌, ◌&&◌, ◌||◌, Bool, true, false, List, [], ◌∷◌, ◌++◌, codes, Option, Some, None, if◌then◌else◌}
use Rattle.std.specs.Str.{bytes_eq}
use Rattle.std.specs.Io.KnownBytes.{Keeps}
use Rattle.std.specs.Option.{IsSomeAnd}
use Rattle.clap.specs.Words.{Text}
use Rattle.c62_answer.specs.Message.{Tells}
use Rattle.c62_answer.specs.Run.{IsRun, Streams, streams}
use Rattle.c62_command.specs.CommandLine.{Ask, asked}
use Rattle.c62_files.specs.Call.{From, Standard, File, Named, Parts}
use Rattle.c62_explain.specs.Topic.{page_in}
use Rattle.c62_teach.specs.Apart.{TellsApart}
use Rattle.c62_teach.specs.Faulted.{TellsFaults}
use Rattle.c62_teach.specs.Taught.{Teaches}
use Rattle.c62_program.specs.Written.{IsWritten}
use Rattle.c62_program.specs.declared.page.TheConstants.{EXPLAIN}
use Rattle.c62_op.specs.declared.set.InstructionSet.{InstructionSet}

-- what a text is called: by its file, and standard input is `-`
abbrev pub text_name : From → Text
text_name Standard = codes "-"
text_name (File name) = name
text_name (Named text listing) = text
text_name (Parts text listing) = text

-- the same of the listing of a check
abbrev pub listing_name : From → Text
listing_name Standard = codes "-"
listing_name (File name) = name
listing_name (Named text listing) = listing
listing_name (Parts text listing) = listing

-- ---- lint

abbrev pub status_by : Bool → ℕ
status_by faulty = if faulty then 1 else 0

-- the lines are written, and the status says whether there is a fault
abbrev pub IsLintRun : (lines : List ℕ) → (faulty : Bool) → (old new errors told : Option (List ℕ)) → (status : ℕ) → Type 0
IsLintRun lines faulty old new errors told status = IsWritten lines (status_by faulty) old new errors told status

-- ---- more than a run tells

-- behind words that are refused: why they are
abbrev pub behind_words : (blamed : List ℕ) → (status : ℕ) → List ℕ
behind_words blamed status = if status == 2 then blamed else []

-- a run came to its end, or to its limit
abbrev pub has_run : (status : ℕ) → Bool
has_run status = status == 0 || status == 6

-- a text is refused, or packets aren't the same
abbrev pub is_taught : (status : ℕ) → Bool
is_taught status = status == 1 || status == 5

-- behind a text that is refused: what explains its fault; behind packets that aren't the same: what is told of that; behind a run in which
-- accesses fault: that they do; and behind another: where accesses meet that are to be apart
abbrev pub behind_text : (refused apart faulted : List ℕ) → (status : ℕ) → List ℕ
behind_text refused apart faulted status =
    if is_taught status then refused else (if status == 7 then faulted else (if has_run status then apart else []))

-- where accesses meet that are to be apart, and else all is well, the status says so
abbrev pub status_with : (meets : Bool) → (status : ℕ) → ℕ
status_with meets status = if meets && status == 0 then 5 else status

-- words are run, and behind what that tells stands more, by the status
pub record RunsMore (isa : InstructionSet) (words : List Text) (more : ℕ → List ℕ) (old new : Streams) (status : ℕ) : Type 0 where
  -- what the error stream holds then
  pub told : Option (List ℕ)
  pub runs : IsRun isa words old (streams new.input new.output told) status
  pub behind : Tells told new.errors (more status)

-- this explains the fault of a text, for what is asked of it, where that is wanted
abbrev pub TeachesWanted : InstructionSet → (wanted : Bool) → Ask → (name listing text more : List ℕ) → Type 0
TeachesWanted isa true ask name listing text more = Teaches isa ask name listing text more
TeachesWanted isa false ask name listing text more = more ≡ []

-- what is told of a text: what explains its fault, where accesses meet that are to be apart, and which fault in a strict run
pub record AreTold (isa : InstructionSet) (wanted : Bool) (ask : Ask) (name listing text : List ℕ) (refused apart faulted : List ℕ) (meets : Bool) : Type 0 where
  pub explains : TeachesWanted isa wanted ask name listing text refused
  pub watches : TellsApart isa ask text apart meets
  -- the accesses that fault
  pub faults : List ℕ
  pub which : TellsFaults isa ask text faults
  pub both : faulted ≡ apart ++ faults

-- so it is of what a source gives, for what the words ask of it
abbrev pub AreToldOf : InstructionSet → (wanted : Bool) → List Text → From → (bytes : List ℕ) → (refused apart faulted : List ℕ) → (meets : Bool) → Type 0
AreToldOf isa wanted words source bytes refused apart faulted meets =
    IsSomeAnd (asked words) (λ ask. AreTold isa wanted ask (text_name source) (listing_name source) bytes refused apart faulted meets)

-- ---- names

-- `explain`
abbrev pub is_topic : List Text → Bool
is_topic [] = false
is_topic (command ∷ words) = bytes_eq command (codes "explain")

-- an option begins with `-`
abbrev pub is_option : Text → Bool
is_option [] = false
is_option (first ∷ rest) = first == 45

-- the name behind `explain`: one word, and no option
abbrev pub name_asked : List Text → Option Text
name_asked (command ∷ name ∷ []) = if is_option name then None else Some name
name_asked _ = None

abbrev pub unknown_message : Text → List ℕ
unknown_message name = codes "error: " ++ name ++ codes " is no fault and no rule: docs/FAULTS.md has them\n"

-- What the name is said to be is written. Of no name, or of one that is none, standard error says so; and memory may run out.
pub data IsTopicRun (asked : Option Text) (old new errors told : Option (List ℕ)) (status : ℕ) : Type 0 where
  Unasked : asked ≡ None → status ≡ 2 → Keeps old new → Tells errors told EXPLAIN.now → IsTopicRun asked old new errors told status
  Unknown : (name : Text) → asked ≡ Some name → page_in name ≡ None → status ≡ 2 → Keeps old new → Tells errors told (unknown_message name)
      → IsTopicRun asked old new errors told status
  Known : (name text : Text) → asked ≡ Some name → page_in name ≡ Some text → IsWritten text 0 old new errors told status
      → IsTopicRun asked old new errors told status
  Short : status ≡ 3 → Keeps old new → Tells errors told (codes "memory\n") → IsTopicRun asked old new errors told status
