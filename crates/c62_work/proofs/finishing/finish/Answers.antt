use Rattle.std.proofs.Common.{◌≡◌, Bool, true, false, sym, ap, ◌∙◌, subst}
use Rattle.std.specs.Prelude.{MatchBool}
use Rattle.c62_board.specs.State.{nothing_of, IsCleared}
use Rattle.c62_work.specs.Finish.{FillsOut, CannotFill}
use Rattle.c62_work.proofs.Filling.{finished_kept, finished_anew}
use Rattle.c62_work.proofs.finishing.finish.Goals.{then-not-branch+in_ok-fill-2, else-not-branch}
use Rattle.c62_work.proofs.finishing.finish.Goals as goal

if_true : (P Q : Type 0) (b : Bool) → b ≡ true → MatchBool b P Q → P
if_true P Q b e h = subst (λ (x : Bool). MatchBool x P Q) e h

if_false : (P Q : Type 0) (b : Bool) → b ≡ false → MatchBool b P Q → Q
if_false P Q b e h = subst (λ (x : Bool). MatchBool x P Q) e h

pub returns : goal.returns
returns c = elim c.if-not-branch.branch [
  | then-not-branch+in_ok-fill-2 w ↦
      let first = c.in_ok-board.board in
      let left = c.fill.new.board in
      let cleared = w.clear.new.self in
      let last = w.fill-then-not-branch.new.board in
      let cannot : CannotFill first = if_false (FillsOut first left) (CannotFill first) c.in_ok-fill.field-0
      w.if-not-branch.true c.in_ok-fill.ensures.filled in
      let empty : IsCleared left cleared = w.clear.ensures in
      let found : w.in_ok-fill-2.field-0 ≡ true = w.in_ok-fill-2.ensures.from_nothing (empty.empty.spots
      ∙ sym (ap nothing_of empty.empty.plan_is)) in
      let out : FillsOut cleared last = if_true (FillsOut cleared last) (CannotFill cleared) w.in_ok-fill-2.field-0
      found w.in_ok-fill-2.ensures.filled in
      rw w.board-is
      (finished_anew c.args.board c.args.plan.now first c.in_ok-board.ensures left cleared last cannot
      c.fill.ensures.plan c.fill.ensures.budget empty out)
  | else-not-branch w ↦
      let first = c.in_ok-board.board in
      let left = c.fill.new.board in
      let out : FillsOut first left = if_true (FillsOut first left) (CannotFill first) c.in_ok-fill.field-0
      w.if-not-branch.false c.in_ok-fill.ensures.filled in
      rw w.board-is (finished_kept c.args.board c.args.plan.now first c.in_ok-board.ensures left out)
]
