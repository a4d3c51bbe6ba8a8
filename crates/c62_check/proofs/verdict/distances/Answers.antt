use Rattle.std.proofs.Common.{rules, ◌≡◌, length}
use Rattle.c62_depend.specs.Plan.{insns_of}
use Rattle.c62_check.proofs.Lined.{same_length, is_schedule}
use Rattle.c62_check.proofs.Rising.{all_keep}
use Rattle.c62_check.proofs.verdict.distances.Goals as goal

pub all_early-requires : goal.all_early-requires
all_early-requires c = same_length c.args.plan.now.insns c.args.numbered.now c.requires.numbered.same

pub returns-then-is_empty : goal.returns-then-is_empty
returns-then-is_empty c =
    let none : length c.in_ok-early.early.items ≡ 0 = search rules in
    is_schedule c.args.plan.now c.args.packets.now c.args.numbered.now c.requires.branch_last c.requires.own_length
    c.requires.numbered
    (all_keep (insns_of c.args.plan.now) c.args.numbered.now c.in_ok-early.early.items c.in_ok-early.ensures none)
