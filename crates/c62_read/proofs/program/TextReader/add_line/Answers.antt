use Rattle.c62_read.proofs.Common.{◌≡◌, [], arith, rules, nil_from_length, drafts_of}
use Rattle.c62_read.proofs.WalkLemmas.{empty_line}
use Rattle.c62_read.proofs.program.TextReader.add_line.Goals as goal

pub returns-in-empty : goal.returns-in-empty
returns-in-empty c =
    let none : c.args.line.now ≡ [] = nil_from_length c.args.line.now (omega (arith, c.in-empty.len_below)) in
    search (empty_line c.args.isa c.args.number c.args.line.now (drafts_of c.args.self.now) none, rules)
