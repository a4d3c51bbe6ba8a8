-- What a desk's calls do to its board (docs/SCHEDULING.md, "A step of a side" and "Proposals"). Memory may run out where the
-- board still has room: what is handed to viewers wants some too.
use Rattle.std.specs.Prelude.{◌≡◌, ◌≤◌, length, Option, None}
use Rattle.c62_op.specs.declared.register.Side.{Side}
use Rattle.c62_board.specs.State.{BoardState, HasNoRoomFor, IsReadyNow, IsLeastNow, TakesTurn}
use Rattle.c62_board.specs.declared.fault.CommitFault.{CommitFault}
use Rattle.c62_board.specs.declared.fault.CommitFault.TheVariants.{NotReady, Stale, Memory}
use Rattle.c62_board.specs.declared.turn.Proposal.{Proposal}
use Rattle.c62_board.specs.declared.turn.Turn.{Turn}
use Rattle.c62_board.specs.declared.turn.Turn.TheVariants.{Placed, Ejected, Memory as OutOfMemory}
use Rattle.c62_view.specs.Course.{course}
use Rattle.c62_view.specs.Past.{Past}
use Rattle.c62_view.specs.ViewDesk.{DeskState}

-- nothing was changed but that there may be more room
abbrev pub Stays : BoardState → BoardState → Type 0
Stays old new = (new ≡ record old { room = new.room }) × (old.room ≤ new.room)

-- why a proposal was not committed
abbrev pub IsDeskFault : BoardState → Proposal → CommitFault → Type 0
IsDeskFault board proposal NotReady = IsReadyNow board proposal.number → ⊥
IsDeskFault board proposal (Stale entries) =
    IsReadyNow board proposal.number × (IsLeastNow board proposal.number proposal.spot → ⊥) × (entries ≡ length board.journal)
IsDeskFault board proposal Memory = IsReadyNow board proposal.number × IsLeastNow board proposal.number proposal.spot

-- whatever turn the side has, it adds entries
abbrev pub HasEntriesToAdd : BoardState → Side → Type 0
HasEntriesToAdd board = HasNoRoomFor (record board { room = 0 })

-- The step of a side did this. It changed nothing but where it placed.
abbrev pub IsDeskStep : BoardState → Side → Turn → BoardState → Type 0
IsDeskStep old side (Placed i s) new = TakesTurn old side (Placed i s) new
IsDeskStep old side (Ejected q i s) new = TakesTurn old side (Ejected q i s) new
IsDeskStep old side OutOfMemory new = HasEntriesToAdd old side × Stays old new
IsDeskStep old side turn new = TakesTurn old side turn new × (new ≡ old)

-- what a desk told: all of its journal, which is published
abbrev pub IsTold : DeskState → Past → Type 0
IsTold desk told = (told.book ≡ desk.name) × (told.log ≡ desk.board.journal) × (course desk.shown ≡ (desk.board.plan, desk.board.journal))

-- where the call added nothing, it told nothing, and what is published is as it was
abbrev pub IsQuiet : DeskState → DeskState → Option Past → Type 0
IsQuiet old new told = new.board.journal ≡ old.board.journal → (told ≡ None) × (new.shown ≡ old.shown)
