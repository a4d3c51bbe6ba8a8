-- What is shown of blocks and of loops (docs/SHOW.md; docs/PAGE.md).
use Rattle.std.specs.Prelude.{ℕ, Bool, List, if◌then◌else◌}
use Rattle.c62_read.specs.Block.{Serial}
use Rattle.c62_show.specs.declared.shown.Shown.{Shown}
use Rattle.c62_show.specs.Picture.{picture}
use Rattle.c62_show.specs.Summary.{summary}
use Rattle.c62_page.specs.Page.{page_of}
use Rattle.c62_pipeline.specs.declared.written.Pipelining.{Pipelining}
use Rattle.c62_pipeline.specs.Kernel.{kernels}
use Rattle.c62_page_loops.specs.Page.{loops_page_of}
use Rattle.c62_command.specs.declared.command.Drawing.{Drawing}
use Rattle.c62_command.specs.declared.command.Drawing.TheVariants.{Columns, Page}
use Rattle.c62_command.specs.declared.command.Showing.{Showing}

-- the picture of blocks of a text, or their heads alone
abbrev pub columns : (summary : Bool) → List Shown → List ℕ
columns heads shown = if heads then summary shown else picture shown

-- so, or as a page
abbrev pub drawing : Showing → (text : List ℕ) → List Shown → List ℕ
drawing showing text shown = if showing.page then page_of text shown else columns showing.summary shown

-- what became of the loops of a text, and their kernels, drawn so
abbrev pub loop_drawing : Drawing → (text : List ℕ) → List Serial → Pipelining → List ℕ
loop_drawing Columns text program written = kernels program written
loop_drawing Page text program written = loops_page_of text program written
