-- The pages that the program tells of itself (docs/COMMANDS.md, "Help").
use Rattle.std.specs.Prelude.{ℕ, List, [], ◌∷◌, ◌++◌, codes, Option, Some, None, if◌then◌else◌}
use Rattle.std.specs.Str.{bytes_eq}
use Rattle.clap.specs.Words.{Text}
use Rattle.c62_program.specs.declared.page.Page.{Page as Told}
use Rattle.c62_program.specs.declared.page.Page.TheVariants.{Version, Status, Lint, Explain, Trace}
use Rattle.c62_json.specs.declared.version.TheConstants.{VERSION}
use Rattle.c62_program.specs.declared.page.TheConstants.{TOOLCHAIN, STATUS, LINT, EXPLAIN, TRACE}

-- the page behind `help`
abbrev pub help_page : Text → Option Told
help_page page =
    if bytes_eq page (codes "status") then Some Status
    else (if bytes_eq page (codes "lint") then Some Lint
    else (if bytes_eq page (codes "explain") then Some Explain
    else (if bytes_eq page (codes "trace") then Some Trace
    else None)))

-- `--version`, or `help` and a page
abbrev pub page_asked : List Text → Option Told
page_asked (word ∷ []) = if bytes_eq word (codes "--version") then Some Version else None
page_asked (word ∷ page ∷ []) = if bytes_eq word (codes "help") then help_page page else None
page_asked _ = None

abbrev pub page_text : Told → List ℕ
page_text Version = codes "c62 " ++ VERSION.now ++ codes " (" ++ TOOLCHAIN.now ++ codes ")\n"
page_text Status = STATUS.now
page_text Lint = LINT.now
page_text Explain = EXPLAIN.now
page_text Trace = TRACE.now
