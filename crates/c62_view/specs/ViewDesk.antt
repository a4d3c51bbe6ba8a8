-- A desk as contracts see it, and by its fields.
use Rattle.std.specs.Prelude.{◌≡◌, drop, fold}
use Rattle.logbook.specs.Pages.{Book}
use Rattle.c62_board.specs.State.{BoardState}
use Rattle.c62_view.specs.declared.desk.Desk.TheInside.{Inside}
use Rattle.c62_view.specs.Course.{Version, held}
use Rattle.c62_view.specs.Batches.{played}
use Rattle.c62_view.specs.Past.{head_of}

-- its board, whose history it keeps, and the version that is published
pub record DeskState : Type 0 where
  pub board : BoardState
  pub name : Book
  pub shown : Version

abbrev pub state_of : Inside → DeskState
state_of d = record { board = d.board; name = d.front.book; shown = d.writer.desk.shown.value }

-- The history is the board's journal, and what is published, with what the writer has pending, plays to the board's plan and
-- journal.
pub record IsKept (d : Inside) : Type 0 where
  pub head_is : d.head ≡ head_of d.front.book
  pub noted : d.front.log ≡ d.board.journal
  pub followed : (fold played (held d.writer.desk.shown.value) (drop d.writer.behind d.writer.log.items)).0 ≡ (d.board.plan, d.board.journal)
  pub named : d.writer.desk.shown.value.past.book ≡ d.front.book
