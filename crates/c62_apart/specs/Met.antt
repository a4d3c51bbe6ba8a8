-- Accesses that are promised to be apart, and meet (docs/CHECK.md, "A run that is looked at").
use Rattle.std.specs.Prelude.{◌≡◌, ℕ, nat_lt, Bool, ◌==◌, ◌&&◌, not, List, [], ◌∷◌, ◌++◌, find, fold, length, Option, Some, None, if◌then◌else◌}
use Rattle.std.specs.List.{list_any}
use Rattle.std.specs.Option.{option_to_list}
use Rattle.c62_op.specs.declared.register.Reg.{Reg}
use Rattle.c62_op.specs.Takes.{same_reg}
use Rattle.c62_read.specs.Block.{Serial}
use Rattle.c62_serial.specs.State.{Machine}
use Rattle.c62_serial.specs.Chain.{Standing, IsProgramChain}
use Rattle.c62_apart.specs.declared.marks.Meeting.{Meeting}
use Rattle.c62_apart.specs.declared.touch.Touch.{Touch}
use Rattle.c62_apart.specs.Touch.{touches_on}
use Rattle.c62_apart.specs.Visit.{first_visit}

-- a touch of this byte in this stay
abbrev pub is_here : (stay byte : ℕ) → Touch → Bool
is_here stay byte touch = touch.visit.stay == stay && touch.byte == byte

-- and from another register
abbrev pub is_other : (stay byte : ℕ) → Reg → Touch → Bool
is_other stay byte base touch = is_here stay byte touch && not (same_reg touch.base base)

-- the first touch of its byte in its stay from another register, of these
abbrev pub first_other : List Touch → Touch → Option Touch
first_other seen touch = find (is_other touch.visit.stay touch.byte touch.base) seen

-- two meet where the first is of an iteration before
abbrev pub meeting_with : Option Touch → Touch → Option Meeting
meeting_with None touch = None
meeting_with (Some one) touch = if nat_lt one.visit.iteration touch.visit.iteration then Some (record { earlier = one; later = touch }) else None

-- those of a run's touches, behind these, with what was touched before
abbrev pub meetings : (seen later : List Touch) → List Meeting
meetings seen [] = []
meetings seen (touch ∷ later) = option_to_list (meeting_with (first_other seen touch) touch) ++ meetings (seen ++ touch ∷ []) later

-- a meeting of this later line is among these
abbrev pub has_line : ℕ → List Meeting → Bool
has_line line told = list_any (λ meeting. line == meeting.later.line) told

-- of each later line the first is told
abbrev pub with_meeting : List Meeting → Meeting → List Meeting
with_meeting told meeting = if has_line meeting.later.line told then told else told ++ meeting ∷ []

abbrev pub with_meetings : List Meeting → List Meeting → List Meeting
with_meetings told all = fold with_meeting told all

abbrev pub told_of : List Touch → List Meeting
told_of touches = with_meetings [] (meetings [] touches)

-- The meetings of a program's run under a limit, of each later line the first, in the order in which they come.
pub record FindsMeetings (program : List Serial) (regs : List Reg) (opening : Machine) (limit : ℕ) (told : List Meeting) : Type 0 where
  pub standing : Standing
  pub whole : IsProgramChain program opening limit standing
  pub are : told ≡ told_of (touches_on program regs (first_visit (length program)) opening standing.numbers)
