use Rattle.std.proofs.Common.{◌≡◌, ◌∙◌, List, Option, Some, None, false, rules, sym, ap, subst}
use Rattle.clap.specs.Words.{Text as Name}
use Rattle.c62_op.specs.declared.register.Reg.{Reg}
use Rattle.c62_read.specs.declared.block.SerialInsn.{SerialInsn}
use Rattle.c62_check_loop.specs.Region.{counter_of}
use Rattle.c62_loop_match.specs.Form.{is_counted_loop}
use Rattle.c62_loop_match.specs.Parts.{region_of as region_read}
use Rattle.std.specs.Prelude.{IfOk, map}
use Rattle.c62_command.specs.Promises.{trips_of}
use Rattle.c62_check_loops.specs.Constant.{constant_at}
use Rattle.c62_pipeline.specs.Chosen.{IsCountedAs, UsesCounter, counts_down}
use Rattle.c62_pipeline.proofs.Choosing.{chosen_of, none_counts, uncounted_of, used_of}
use Rattle.c62_pipeline.proofs.chosen.loop_choice.Goals.{in_default-via-in-Some+in_default, in_default-via-in_default}
use Rattle.c62_pipeline.proofs.chosen.loop_choice.Goals as goal

pub returns-in_default : goal.returns-in_default
returns-in_default c =
    let out = c.without in
    let why : counts_down c.args.block.now.label (counter_of c.args.blocks.now c.args.number) c.args.number
    c.args.block.now ≡ false
    = elim c.in_default.branch [
      | in_default-via-in-Some+in_default w ↦ (let none : c.args.block.now.label ≡ None
          = search (rules, c.label.ensures, w.in_default.is-1) in
          ap (λ (l : Option Name). counts_down l (counter_of c.args.blocks.now c.args.number) c.args.number
          c.args.block.now) none)
      | in_default-via-in_default w ↦ (let none : counter_of c.args.blocks.now c.args.number ≡ None
          = search (rules, c.counter_of.ensures, w.in_default.is-0, c.from.ensures) in
          ap (λ (r : Option Reg). counts_down c.args.block.now.label r c.args.number c.args.block.now) none
          ∙ none_counts c.args.block.now.label c.args.number c.args.block.now)
    ] in
    uncounted_of (map trips_of c.args.promises.now.trips.items) c.args.promises.now.apart.items c.args.blocks.now
    c.args.block.now c.args.number out.result c.requires out.ensures.number out.ensures.made out.ensures.kept
    out.ensures.limit why

pub returns-then-is_counted_loop : goal.returns-then-is_counted_loop
returns-then-is_counted_loop c =
    let labelled : c.args.block.now.label ≡ Some c.in-Some-Some.label.now
    = search (rules, c.label.ensures, c.in-Some-Some.is-1) in
    let counts : counter_of c.args.blocks.now c.args.number ≡ Some c.in-Some-Some.counter
    = search (rules, c.counter_of.ensures, c.in-Some-Some.is-0, c.from.ensures) in
    let found : IfOk c.counted.result (IsCountedAs (map trips_of c.args.promises.now.trips.items)
    c.args.promises.now.apart.items (Some c.in-Some-Some.label.now) (constant_at c.args.blocks.now c.args.number)
    (region_read c.in_ok-region.region))
    = rw c.constant_at-constant.ensures at c.counted.ensures in
    chosen_of c.counted.result (map trips_of c.args.promises.now.trips.items) c.args.promises.now.apart.items
    c.args.blocks.now c.args.block.now c.in-Some-Some.label.now c.args.number c.in-Some-Some.counter
    (region_read c.in_ok-region.region) c.requires labelled counts c.in_ok-region.ensures found

pub returns-in-Some : goal.returns-in-Some
returns-in-Some c =
    let counts : counter_of c.args.blocks.now c.args.number ≡ Some c.in-Some-Some.counter
    = search (rules, c.counter_of.ensures, c.in-Some-Some.is-0, c.from.ensures) in
    let out = c.without-in-Some in
    used_of (map trips_of c.args.promises.now.trips.items) c.args.promises.now.apart.items c.args.blocks.now
    c.args.block.now c.args.number c.in-Some-Some.counter c.in-Some.line out.result c.requires counts
    (subst (λ (xs : List SerialInsn). UsesCounter c.in-Some-Some.counter c.args.number xs c.in-Some.line)
    c.insns.ensures.same (rw c.in-Some.is at c.used_in.ensures)) out.ensures.number out.ensures.made
    out.ensures.kept out.ensures.limit

pub returns : goal.returns
returns c =
    let labelled : c.args.block.now.label ≡ Some c.in-Some-Some.label.now
    = search (rules, c.label.ensures, c.in-Some-Some.is-1) in
    let counts : counter_of c.args.blocks.now c.args.number ≡ Some c.in-Some-Some.counter
    = search (rules, c.counter_of.ensures, c.in-Some-Some.is-0, c.from.ensures) in
    let none : is_counted_loop (region_read c.in_ok-region.region) ≡ false
    = search (rules, c.is_counted_loop.ensures.written) in
    let why : counts_down c.args.block.now.label (counter_of c.args.blocks.now c.args.number) c.args.number
    c.args.block.now ≡ false
    = rw (labelled, counts) (ap is_counted_loop (sym c.in_ok-region.ensures) ∙ none) in
    let out = c.without-in-None in
    uncounted_of (map trips_of c.args.promises.now.trips.items) c.args.promises.now.apart.items c.args.blocks.now
    c.args.block.now c.args.number out.result c.requires out.ensures.number out.ensures.made out.ensures.kept
    out.ensures.limit why
