use Rattle.std.proofs.Common.{◌≡◌, ◌++◌, drop}
use Rattle.std.specs.List.{flat_map}
use Rattle.c62_json.specs.Document.{object}
use Rattle.c62_json_check.specs.Blocks.{early_members}
use Rattle.c62_json_check.proofs.block.push_all_early.Given as goal

-- with the objects of the others it is the whole
abbrev pub invariant-loop-each : goal.invariant-loop-each
invariant-loop-each l =
    (l.out.tokens ++ flat_map (λ each. object (early_members each)) (drop l.each-index l.early)
    ≡ l.fn.out.tokens ++ flat_map (λ each. object (early_members each)) l.early)
    × (l.out.before ≡ l.fn.out.before)
