use Rattle.std.proofs.Common.{◌≡◌, ◌++◌, ◌∙◌, List, ap, sym, subst}
use Rattle.std.specs.Prelude.{All}
use Rattle.c62_apart.specs.declared.touch.Touch.{Touch}
use Rattle.c62_apart.specs.Marks.{Sees}
use Rattle.c62_apart.specs.Touch.{touches_in}
use Rattle.c62_apart.proofs.Touching.{IsWithin, all_within}
use Rattle.c62_apart.proofs.run.run_watched.Goals as goal

pub see_all-requires-clause-stay : goal.see_all-requires-clause-stay
see_all-requires-clause-stay c =
    let is : c.deref.result.now ≡ touches_in c.args.regs.now c.args.visit c.args.state.now.machine
    c.args.block.now.insns =
    c.deref.ensures.value ∙ c.in_ok-exit.ensures.touches ∙ ap (λ (all : List Touch).
    all ++ touches_in c.args.regs.now c.args.visit c.args.state.now.machine c.args.block.now.insns)
    c.new-touches.ensures.items in
    let all : All (IsWithin c.args.visit.stay) c.deref.result.now =
    subst (λ (ts : List Touch). All (IsWithin c.args.visit.stay) ts) (sym is)
    (all_within c.args.regs.now c.args.visit c.args.state.now.machine c.args.block.now.insns) in
    λ k d h. (all k d h).stays

pub see_all-requires-clause-bytes : goal.see_all-requires-clause-bytes
see_all-requires-clause-bytes c =
    let is : c.deref.result.now ≡ touches_in c.args.regs.now c.args.visit c.args.state.now.machine
    c.args.block.now.insns =
    c.deref.ensures.value ∙ c.in_ok-exit.ensures.touches ∙ ap (λ (all : List Touch).
    all ++ touches_in c.args.regs.now c.args.visit c.args.state.now.machine c.args.block.now.insns)
    c.new-touches.ensures.items in
    let all : All (IsWithin c.args.visit.stay) c.deref.result.now =
    subst (λ (ts : List Touch). All (IsWithin c.args.visit.stay) ts) (sym is)
    (all_within c.args.regs.now c.args.visit c.args.state.now.machine c.args.block.now.insns) in
    λ k d h. (all k d h).within

pub returns-clause-sees : goal.returns-clause-sees
returns-clause-sees c =
    let is : c.deref.result.now ≡ touches_in c.args.regs.now c.args.visit c.args.state.now.machine
    c.args.block.now.insns =
    c.deref.ensures.value ∙ c.in_ok-exit.ensures.touches ∙ ap (λ (all : List Touch).
    all ++ touches_in c.args.regs.now c.args.visit c.args.state.now.machine c.args.block.now.insns)
    c.new-touches.ensures.items in
    subst (λ (ts : List Touch). Sees c.args.visit.stay ts c.args.watch.now.marks.items c.args.watch.now.met.items
    c.see_all.new.self.marks.items c.see_all.new.self.met.items) is c.in_ok-see_all.ensures.sees
