use Rattle.std.proofs.Common.{◌≡◌, [], drop, ap, refl, rules}
use Rattle.std.proofs.lemmas.List.{drop_all}
use Rattle.c62_files.specs.Words.{texts}
use Rattle.c62_dumping.proofs.Cuts.{no_file_more, no_name_more, one_file_more}
use Rattle.c62_dumping.proofs.cutting.files_of.Goals as goal

pub returns-in_default : goal.returns-in_default
returns-in_default c = no_file_more _ _ _ _ _ c.in_default.ensures c.loop-name.invariant

pub loop-name-preserved : goal.loop-name-preserved
loop-name-preserved c =
    one_file_more c.args.names.now c.loop-name.name-index _ _ _ _ _ _ _ _ _ _ _ _ (search rules) refl c.in-Some.ensures
    c.first_of.ensures.first c.first_of.ensures.behind
    refl c.in_ok-push.ensures.items c.loop-name.invariant

pub returns : goal.returns
returns c =
    let none : texts (drop c.loop-name.name-index c.args.names.now) ≡ [] = ap texts
    (drop_all c.loop-name.name-index c.args.names.now (search rules)) in
    no_name_more _ _ _ _ _ none c.loop-name.invariant
