-- Promises, one after the other.
use Rattle.std.proofs.Common.{◌≡◌, ◌∙◌, ℕ, suc, ◌+◌, ◌<◌, Bool, true, false, List, [], ◌∷◌, length, map, take, get_or}
use Rattle.std.proofs.Common.{refl, sym, ap, arith}
use Rattle.std.specs.Prelude.{◌||◌}
use Rattle.std.specs.List.{list_any, position}
use Rattle.std.proofs.lemmas.List.{length-map, take_more}
use Rattle.std.proofs.lemmas.List.Folds.{list_any-append}
use Rattle.clap.specs.Words.{Text}
use Rattle.c62_op.specs.declared.register.Reg.{Reg}
use Rattle.c62_op.specs.Takes.{same_reg}
use Rattle.c62_pair.specs.declared.reg_set.RegSet.{RegSet}
use Rattle.c62_pair.specs.RegSet.{reg_in}
use Rattle.c62_read.specs.Block.{Serial}
use Rattle.c62_read.proofs.BlockLemmas.{position_map}
use Rattle.c62_check_loops.specs.Granted.{is_loop_named, names_loop}
use Rattle.c62_check_loops.specs.Promised.{is_among}

-- a test of what stands for the elements
pub any_mapped : {A B : Type 0} (f : A → B) (p : B → Bool) (xs : List A)
    → list_any p (map f xs) ≡ list_any (λ x. p (f x)) xs
any_mapped f p [] = refl
any_mapped f p (x ∷ xs) = ap (λ (b : Bool). p (f x) || b) (any_mapped f p xs)

pub position_mapped : {A B : Type 0} (f : A → B) (p : B → Bool) (xs : List A)
    → position p (map f xs) ≡ position (λ x. p (f x)) xs
position_mapped f p xs = rw (position_map p f xs, length-map) refl

-- one block more
pub names_next : (blocks : List Serial) (label : Text) (number : ℕ) (found new : Bool)
    → found ≡ names_loop blocks label number
    → new ≡ (found || is_loop_named blocks label number) → new ≡ names_loop blocks label (number + 1)
names_next blocks label number found new so is =
    let next : suc number ≡ number + 1 = omega arith in
    is ∙ ap (λ (b : Bool). b || is_loop_named blocks label number) so ∙ ap (names_loop blocks label) next

or_false : (b : Bool) → (b || false) ≡ b
or_false true = refl
or_false false = refl

-- one register more
pub among_next : (regs : List Reg) (k : ℕ) (one : Reg) (old new : RegSet) → k < length regs → one ≡ get_or regs k one
    → ((reg : Reg) → reg_in old reg ≡ is_among (take k regs) reg)
    → ((other : Reg) → reg_in new other ≡ (reg_in old other || same_reg one other))
    → (reg : Reg) → reg_in new reg ≡ is_among (take (k + 1) regs) reg
among_next regs k one old new within is so grows reg =
    let f : Reg → Bool = λ r. same_reg r reg in
    let more : is_among (take (k + 1) regs) reg ≡ (is_among (take k regs) reg || same_reg one reg) =
    ap (λ (xs : List Reg). list_any f xs) (take_more regs k one within)
    ∙ (list_any-append f (take k regs) (get_or regs k one ∷ [])
    ∙ (ap (λ (r : Reg). is_among (take k regs) reg || (same_reg r reg || false)) (sym is)
    ∙ ap (λ (b : Bool). is_among (take k regs) reg || b) (or_false (same_reg one reg)))) in
    grows reg ∙ (ap (λ (b : Bool). b || same_reg one reg) (so reg) ∙ sym more)
