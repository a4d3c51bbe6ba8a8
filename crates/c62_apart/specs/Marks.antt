-- What is kept of the touches of a byte: the first of a stay, and the first from another register than that.
use Rattle.std.specs.Prelude.{◌≡◌, ℕ, ◌≤◌, ◌<◌, ◌==◌, List, ◌++◌, find, length, slice_index_or, Option, Some, None, option_and_then, if◌then◌else◌}
use Rattle.c62_op.specs.declared.register.Reg.{Reg}
use Rattle.c62_op.specs.Takes.{same_reg}
use Rattle.c62_serial.specs.declared.state.TheConstants.{MEMORY_BYTES}
use Rattle.c62_apart.specs.declared.marks.Mark.{Mark}
use Rattle.c62_apart.specs.declared.marks.Meeting.{Meeting}
use Rattle.c62_apart.specs.declared.touch.Touch.{Touch}
use Rattle.c62_apart.specs.Met.{is_here, is_other, told_of}

abbrev pub no_mark : Mark
no_mark = record { first = None; other = None }

-- what a mark says in a stay: one of another stay says nothing
abbrev pub said_by : ℕ → Option Touch → Mark → Mark
said_by stay None mark = no_mark
said_by stay (Some first) mark = if first.visit.stay == stay then mark else no_mark

abbrev pub said_in : ℕ → Mark → Mark
said_in stay mark = said_by stay mark.first mark

-- the first other touch than from this register
abbrev pub other_by : Reg → Option Touch → Option Touch → Option Touch
other_by base None other = None
other_by base (Some first) other = if same_reg first.base base then other else Some first

abbrev pub other_than : Reg → Mark → Option Touch
other_than base mark = other_by base mark.first mark.other

-- a mark after one touch more
abbrev pub with_other : Touch → Option Touch → Option Touch → Mark
with_other touch first None = record { first = first; other = Some touch }
with_other touch first (Some other) = record { first = first; other = Some other }

abbrev pub with_first : Touch → Option Touch → Option Touch → Mark
with_first touch None other = record { first = Some touch; other = None }
with_first touch (Some first) other =
    if same_reg touch.base first.base then record { first = Some first; other = other } else with_other touch (Some first) other

abbrev pub with_touch : Touch → Mark → Mark
with_touch touch mark = with_first touch mark.first mark.other

-- what a mark should say of a byte in a stay, of these touches
abbrev pub first_here : (stay byte : ℕ) → List Touch → Option Touch
first_here stay byte seen = find (is_here stay byte) seen

abbrev pub mark_of : (stay byte : ℕ) → List Touch → Mark
mark_of stay byte seen = record {
  first = first_here stay byte seen;
  other = option_and_then (λ first. find (is_other stay byte first.base) seen) (first_here stay byte seen);
}

-- The marks say of each byte what they should from this stay on, which no touch is behind, and these are the meetings so far.
pub record IsWatched (seen : List Touch) (stay : ℕ) (marks : List Mark) (met : List Meeting) : Type 0 where
  pub size : length marks ≡ MEMORY_BYTES
  pub past : (other byte : ℕ) → stay < other → first_here other byte seen ≡ None
  pub says : (other byte : ℕ) → stay ≤ other → byte < MEMORY_BYTES → said_in other (slice_index_or marks byte no_mark) ≡ mark_of other byte seen
  pub told : met ≡ told_of seen

-- Where so much was seen, these touches of a stay are seen behind it.
abbrev pub Sees : ℕ → List Touch → (marks : List Mark) (met : List Meeting) → (now : List Mark) (more : List Meeting) → Type 0
Sees stay touches marks met now more = (seen : List Touch) (last : ℕ) → last ≤ stay → IsWatched seen last marks met → IsWatched (seen ++ touches) stay now more
