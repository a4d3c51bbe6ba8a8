use Rattle.std.proofs.Common.{rules, ◌≡◌, ◌+◌, ◌++◌, [], ◌∷◌, List, take, sym, subst, arith}
use Rattle.std.proofs.lemmas.List.{take_all}
use Rattle.c62_apart.specs.declared.touch.Touch.{Touch}
use Rattle.c62_apart.specs.Marks.{Sees}
use Rattle.c62_apart.proofs.Watching.{sees_more, take_more}
use Rattle.c62_apart.proofs.marks.Watch.see_all.Goals as goal

pub loop-touch-preserved : goal.loop-touch-preserved
loop-touch-preserved c =
    let same : c.touch-item.result.visit.stay ≡ c.args.stay = search rules in
    let next : take (c.loop-touch.touch-index + 1) c.args.touches.now
    ≡ take c.loop-touch.touch-index c.args.touches.now ++ c.touch-item.result ∷ [] =
    take_more c.args.touches.now c.loop-touch.touch-index c.touch-item.result c.loop-touch-test.true c.touch-item.is in
    record {
      size = c.in_ok-see.ensures.size;
      sees = subst (λ (all : List Touch). Sees c.args.stay all c.args.self.now.marks.items c.args.self.now.met.items
          c.see.new.self.marks.items c.see.new.self.met.items) (sym next)
          (sees_more c.args.stay (take c.loop-touch.touch-index c.args.touches.now) c.touch-item.result
          c.loop-touch.self.marks.items c.see.new.self.marks.items c.loop-touch.self.met.items c.see.new.self.met.items
          c.args.self.now.marks.items c.args.self.now.met.items same c.loop-touch.invariant.sees
          c.in_ok-see.ensures.sees);
    }

pub returns-clause-sees : goal.returns-clause-sees
returns-clause-sees c =
    let whole : take c.loop-touch.touch-index c.args.touches.now ≡ c.args.touches.now =
    take_all c.loop-touch.touch-index c.args.touches.now (omega (arith, c.loop-touch-test.false)) in
    subst (λ (all : List Touch). Sees c.args.stay all c.args.self.now.marks.items c.args.self.now.met.items
    c.loop-touch.self.marks.items c.loop-touch.self.met.items) whole c.loop-touch.invariant.sees
