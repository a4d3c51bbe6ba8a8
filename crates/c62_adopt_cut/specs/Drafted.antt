-- Blocks, and what is read of a text, as the code has them.
use Rattle.std.specs.Prelude.{map, option_map}
use Rattle.c62_line.specs.Line.{parts_of}
use Rattle.c62_adopt_cut.specs.Blocks.{Issue, Draft, Drafts}
use Rattle.c62_adopt_cut.specs.Text.{Cut, Refusal}
use Rattle.c62_adopt_cut.specs.declared.draft.Issue.{Issue as IssueRead}
use Rattle.c62_adopt_cut.specs.declared.draft.Draft.{Draft as DraftRead}
use Rattle.c62_adopt_cut.specs.declared.draft.Drafts.{Drafts as DraftsRead}
use Rattle.c62_adopt_cut.specs.declared.fault.TextFault.{TextFault}
use Rattle.c62_adopt_cut.specs.declared.text.Cut.{Cut as CutRead}

abbrev pub issue_of : IssueRead → Issue
issue_of issue = record { parts = parts_of issue.insn; target = issue.target; line = issue.line; cycle = issue.cycle }

abbrev pub draft_of : DraftRead → Draft
draft_of draft = record { label = draft.label; start = draft.start; issues = map issue_of draft.issues.items }

abbrev pub drafts_of : DraftsRead → Drafts
drafts_of drafts = record { done = map draft_of drafts.done.items; current = option_map draft_of drafts.current }

abbrev pub refusal_of : TextFault → Refusal
refusal_of fault = (fault.line, fault.cause)

abbrev pub cut_of : CutRead → Cut
cut_of cut = record { drafts = map draft_of cut.drafts.items; cycles = cut.cycles; fault = option_map refusal_of cut.fault }
