-- Whether what runs above comes to a line (docs/ADOPT.md, "Alignment").
use Rattle.std.specs.Prelude.{ℕ, ◌+◌, ◌-◌, min, Bool, true, false, not, ◌==◌, ◌&&◌, ◌||◌, if◌then◌else◌, Option, Some, None, is_some, is_none, option_map}
use Rattle.c62_op.specs.Shape.{is_branch}
use Rattle.c62_line.specs.Line.{Parts, Says, Nothing, Does, Jumps}
use Rattle.c62_adopt_line.specs.Line.{Line}
use Rattle.c62_adopt_cut.specs.Cut.{begins_packet, cycles_added}
use Rattle.c62_adopt_code.specs.declared.way.Way.{Way}

-- Of the lines above: whether none has a label, an instruction or a NOP; how many cycles the last packet has come to, of which six are as many
-- as any more; and how many cycles it is until a branch without a condition takes effect that no label stands below.
abbrev pub way : Bool → ℕ → Option ℕ → Way
way untouched age left = record { untouched = untouched; age = age; left = left }

abbrev pub first_way : Way
first_way = way true 0 None

-- to a label what is above may run on, and jump
abbrev pub labelled_way : Way
labelled_way = way false 0 None

-- six cycles behind its own a branch without a condition takes effect
abbrev pub goes_away : Says → Bool
goes_away (Does parts) = is_branch parts.op && is_none parts.cond
goes_away (Jumps parts label) = is_branch parts.op && is_none parts.cond
goes_away _ = false

abbrev pub is_silent : Says → Bool
is_silent Nothing = true
is_silent _ = false

abbrev pub sooner : ℕ → Option ℕ → ℕ
sooner cycles None = cycles
sooner cycles (Some left) = min cycles left

abbrev pub with_branch : Says → Way → Way
with_branch says old = if goes_away says then record old { left = Some (sooner (6 - old.age) old.left) } else old

-- what jumps to a label goes on below it
abbrev pub at_label : Line → Way → Way
at_label line old = if is_some line.label then way false old.age None else old

abbrev pub age_behind : Line → ℕ → ℕ
age_behind line age = min 6 ((if begins_packet line then 0 else age) + cycles_added line)

abbrev pub with_cycles : Line → Way → Way
with_cycles line old =
    way (old.untouched && is_silent line.says) (age_behind line old.age) (option_map (λ left. left - cycles_added line) old.left)

-- below a line
abbrev pub way_on : Line → Way → Way
way_on line old = with_branch line.says (with_cycles line (at_label line old))

abbrev pub is_over : Option ℕ → Bool
is_over None = false
is_over (Some left) = left == 0

-- nothing above runs on to here
abbrev pub comes_nothing : Way → Bool
comes_nothing old = old.untouched || is_over old.left
