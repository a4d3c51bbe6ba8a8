-- What keeps a trip of a loop from being shorter (docs/SCHEDULING.md, "Loops of a program").
use Rattle.std.specs.Prelude.{◌≡◌, ℕ, List, [], ◌∷◌, ◌++◌, map, slice_get, unwrap_or, Option, Some, None, codes, decimal, if◌then◌else◌}
use Rattle.std.specs.Fmt.{signed_decimal}
use Rattle.std.specs.List.{flat_map}
use Rattle.c62_op.specs.Name.{register_name}
use Rattle.c62_op.specs.Units.{all_units}
use Rattle.c62_op.specs.declared.register.Unit.{Unit as FunctionalUnit}
use Rattle.c62_insn.specs.declared.unit_set.UnitSet.{UnitSet}
use Rattle.c62_insn.specs.UnitSet.{unit_in}
use Rattle.c62_read.specs.declared.block.SerialInsn.{SerialInsn}
use Rattle.c62_rules.specs.declared.resource.Resource.{Resource}
use Rattle.c62_rules.specs.declared.resource.Resource.TheVariants.{CrossPath, DataPath}
use Rattle.c62_grid.specs.Paths.{path_name}
use Rattle.c62_grid.specs.Words.{counted, unit_name}
use Rattle.c62_loop.specs.Counter.{work_of}
use Rattle.c62_loop.specs.Loop.{Region}
use Rattle.c62_loop_match.specs.declared.promise.Promise.{Promise}
use Rattle.c62_loop_match.specs.Promise.{promises}
use Rattle.c62_loop_bound.specs.declared.cause.Cause.TheVariants.{Share as ByShare, Circle as ByCircle}
use Rattle.c62_loop_bound.specs.declared.cause.Cause.{Cause}
use Rattle.c62_loop_bound.specs.declared.dependence.Dependence.{Dependence}
use Rattle.c62_loop_bound.specs.declared.share.Share.{Share}
use Rattle.c62_loop_bound.specs.declared.share.Share.TheVariants.{Units, CrossPath as OfCrossPath, DataPath as OfDataPath, Reads}
use Rattle.c62_loop_bound.specs.Cause.{IsCauseOf}
use Rattle.c62_loop_bound.specs.Least.{body_of, IsAsked}
use Rattle.c62_pipeline.specs.declared.limit.Limit.{Limit}

abbrev pub lines_in : List SerialInsn → List ℕ
lines_in entries = map (λ entry. entry.line) entries

-- No packets of the loop have a trip of fewer cycles, this asks for as many, and these lines have the instructions that dependences number.
pub record IsLimitOf (promise : Promise) (region : Region) (limit : Limit) : Type 0 where
  pub asked : IsAsked (promises promise) region.counter (body_of region) limit.cycles
  pub cause : IsCauseOf (promises promise) region.counter (body_of region) limit.cycles limit.cause
  pub lines : limit.lines.items ≡ lines_in (work_of region.counter region.body)

-- ---- words

abbrev pub unit_word : UnitSet → FunctionalUnit → List ℕ
unit_word set unit = if unit_in set unit then codes " " ++ unit_name unit else []

abbrev pub path_word : Resource → List ℕ
path_word path = codes " " ++ path_name path

-- ` .D1`, ` .L1 .S1`, ` 1X`, ` T2`, ` reads of A5`
abbrev pub share_words : Share → List ℕ
share_words (Units set) = flat_map (unit_word set) all_units
share_words (OfCrossPath side) = path_word (CrossPath side)
share_words (OfDataPath side) = path_word (DataPath side)
share_words (Reads reg) = codes " reads of " ++ register_name reg

-- the line of the instruction of a number, or 0 where there is none
abbrev pub line_of : List ℕ → ℕ → ℕ
line_of lines number = unwrap_or (slice_get lines number) 0

-- ` -5-> 3`: line 3 comes five cycles behind the one before at least
unfoldable pub step_words : List ℕ → Dependence → List ℕ
step_words lines one = codes " -" ++ signed_decimal one.latency ++ codes "-> " ++ decimal (line_of lines one.to)

-- of a circle, of which the last dependence stands first
abbrev pub steps_words : List ℕ → List Dependence → List ℕ
steps_words lines [] = []
steps_words lines (last ∷ before) = steps_words lines before ++ step_words lines last

-- a circle begins where its last dependence leads to
abbrev pub first_line : List ℕ → List Dependence → ℕ
first_line lines [] = 0
first_line lines (last ∷ before) = line_of lines last.to

-- ` lines 1 -5-> 3 -1-> 5 -1-> 1 over 1 iteration`
unfoldable pub circle_words : List ℕ → List Dependence → ℕ → List ℕ
circle_words lines circle over =
    codes " lines " ++ decimal (first_line lines circle) ++ steps_words lines circle ++ codes " over " ++ counted over (codes "iteration")

abbrev pub bound_words : List ℕ → ℕ → List ℕ
bound_words what cycles = what ++ decimal cycles ++ codes ":"

abbrev pub cause_words : List ℕ → ℕ → Cause → List ℕ
cause_words lines cycles (ByShare share) = bound_words (codes "; resource bound ") cycles ++ share_words share
cause_words lines cycles (ByCircle steps over) =
    bound_words (codes "; loop carried dependence bound ") cycles ++ circle_words lines steps.items over

-- `; resource bound 3: .D1`, or `; loop carried dependence bound 7: lines 1 -5-> 3 -1-> 5 -1-> 1 over 1 iteration`
unfoldable pub limit_words : Limit → List ℕ
limit_words limit = cause_words limit.lines.items limit.cycles limit.cause

abbrev pub limit_told : Option Limit → List ℕ
limit_told None = []
limit_told (Some limit) = limit_words limit
