use Rattle.std.proofs.Common.{◌≡◌, false, true, length, refl, sym, ◌∙◌}
use Rattle.std.specs.Prelude.{nat_lt}
use Rattle.std.specs.List.{list_all}
use Rattle.std.proofs.lemmas.Bool.{le-ltb}
use Rattle.c62_token.specs.Token.{is_allowed}
use Rattle.c62_listing_reader.specs.declared.line.Above.{Above}
use Rattle.c62_listing_reader.specs.declared.line.Front.{Front}
use Rattle.c62_listing_reader.specs.declared.names.Names.{Names}
use Rattle.c62_listing_reader.specs.declared.text.Cut.{Cut}
use Rattle.c62_listing_reader.specs.Text.{content}
use Rattle.c62_listing_reader.specs.Cut.{line_cut}
use Rattle.c62_listing_reader.specs.Begin.{front_of}
use Rattle.c62_listing_reader.specs.Said.{Drafts}
use Rattle.c62_listing_reader.specs.Faults.{is_misplaced, line_says}
use Rattle.c62_listing_reader.specs.Reading.{drafts_of, line_saying, rest_saying}
use Rattle.c62_listing_reader.proofs.judge.judge.Goals as goal
use Rattle.c62_line.specs.declared.limits.TheConstants.{MOST_LINE}
use Rattle.c62_op.specs.declared.set.InstructionSet.{InstructionSet}

-- where the bytes, the length and the beginning are right, the rest decides
rest_decides : (isa : InstructionSet) (names : Names) (drafts : Drafts) (above : Above) (cut : Cut) (front : Front)
    → front ≡ front_of (content (line_cut cut)) → list_all is_allowed (content (line_cut cut)) ≡ true
    → nat_lt MOST_LINE (length (content (line_cut cut))) ≡ false → is_misplaced front above ≡ false
    → line_saying isa names drafts above cut ≡ rest_saying isa names drafts above cut front
unfolding line_says
rest_decides isa names drafts above cut front is allowed short placed = rw (← is, allowed, short, placed) refl

pub returns-clause-judged : goal.returns-clause-judged
returns-clause-judged c =
    let names = c.args.names.now in
    let drafts = drafts_of c.args.blocks.now in
    let line = content (line_cut c.args.cut.now) in
    let allowed : list_all is_allowed line ≡ true = rw c.content-line.ensures at (sym c.if-not-has_text.ensures) in
    let short = rw c.content-line.ensures at
    (le-ltb MOST_LINE (length c.content-line.result.now) c.if-line-gt-MOST_LINE.false) in
    let placed = sym c.is_misplaced.ensures ∙ c.if-is_misplaced.false in
    rw (rest_decides c.args.isa names drafts c.args.above c.args.cut.now c.args.front c.requires.front allowed short
    placed)
    c.with_rest.ensures.judged
