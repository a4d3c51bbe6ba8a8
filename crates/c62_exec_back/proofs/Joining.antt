-- Instructions that share a packet of an adopted block may share a row.
use Rattle.std.proofs.Common.{◌≡◌, ℕ, ◌+◌, ◌≤◌, List, [], ◌∷◌, ◌++◌, length, Some, refl, sym, ◌∙◌, ap, inl, inr, arith}
use Rattle.std.specs.Prelude.{map, sum_by}
use Rattle.std.proofs.lemmas.Bool.{eq-eqb}
use Rattle.std.proofs.lemmas.List.Sums.{sum_by-cons}
use Rattle.c62_op.specs.declared.operands.Operands.{Operands}
use Rattle.c62_op.specs.declared.operands.Operands.TheVariants.{Three, ConstantFirst, ConstantSecond, Two, Field}
use Rattle.c62_op.specs.declared.operands.Operands.TheVariants.{Constant, Access, Block as ToBlock, Register}
use Rattle.c62_op.specs.declared.register.Unit.{Unit as FunctionalUnit}
use Rattle.c62_insn.specs.declared.insn.Insn.{Insn}
use Rattle.c62_insn.specs.Insn.{op_of, operands_of, aimed_operands}
use Rattle.c62_rules.specs.declared.resource.Resource.{Resource}
use Rattle.c62_rules.specs.declared.resource.Resource.TheVariants.{OnUnit, ReadsOf}
use Rattle.c62_rules.specs.Resource.{cross_path_taken, data_path_taken, taken_by}
use Rattle.c62_op.specs.Shape.{crosses_to, data_path_of, reads_of}
use Rattle.c62_op.specs.declared.operands.Op.{Op}
use Rattle.c62_rules.specs.Capacity.{AreEnough, uses_in}
use Rattle.c62_packet.specs.declared.placed.Placed.{Placed}
use Rattle.c62_packet.specs.Packed.{issue_of, issued, is_branching}
use Rattle.c62_meaning.proofs.Lookup.{In}

-- ---- sums

abbrev pub total : {X : Type 0} → (X → ℕ) → List X → ℕ
total f [] = 0
total f (x ∷ xs) = f x + total f xs

-- no two are the same
abbrev pub AreApart : {X : Type 0} → List X → Type 0
AreApart [] = Unit {0}
AreApart (x ∷ xs) = ((y : _) → In y xs → y ≡ x → ⊥) × AreApart xs

record Without {X : Type 0} (f : X → ℕ) (x : X) (xs : List X) : Type 0 where
  others : List X
  sum : total f xs ≡ f x + total f others
  kept : (y : X) → In y xs → (y ≡ x → ⊥) → In y others

without : {X : Type 0} (f : X → ℕ) (x : X) (xs : List X) → In x xs → Without f x xs
without f x [] h = absurd h
without f x (y ∷ xs) (inl e) = record {
  others = xs;
  sum = ap (λ z. f z + total f xs) e;
  kept = λ z h other. first z h other;
}
  where
    first : (z : _) → In z (y ∷ xs) → (z ≡ x → ⊥) → In z xs
    first z (inl s) other = absurd (other (sym s ∙ e))
    first z (inr k) other = k
without f x (y ∷ xs) (inr h) =
    let r = without f x xs h in
    record {
      others = y ∷ r.others;
      sum = (let s = r.sum in omega (arith, s));
      kept = λ z k other. later r z k other;
    }
  where
    later : (r : Without f x xs) (z : _) → In z (y ∷ xs) → (z ≡ x → ⊥) → In z (y ∷ r.others)
    later r z (inl s) other = inl s
    later r z (inr k) other = inr (r.kept z k other)

-- what is apart and among others comes to no more than these
pub total_within : {X : Type 0} (f : X → ℕ) (xs ys : List X) → AreApart xs → ((x : X) → In x xs → In x ys)
    → total f xs ≤ total f ys
total_within f [] ys apart inside = omega arith
total_within f (x ∷ xs) ys apart inside =
    let r = without f x ys (inside x (inl refl)) in
    let rest = total_within f xs r.others apart.1 (λ y h. r.kept y (inside y (inr h)) (apart.0 y h)) in
    let s = r.sum in omega (arith, rest, s)

pub total_ones : {X : Type 0} (xs : List X) → total (λ _. 1) xs ≡ length xs
total_ones [] = refl
total_ones (x ∷ xs) = let rest = total_ones xs in omega (arith, rest)

-- ---- resources

abbrev taken : ℕ → Resource → Placed → ℕ
taken cycle r p = uses_in cycle r (Some (issue_of p))

total_used : (cycle : ℕ) (r : Resource) (placed : List Placed)
    → sum_by (uses_in cycle r) (issued placed) ≡ total (taken cycle r) placed
total_used cycle r [] = refl
total_used cycle r (p ∷ placed) =
    let one = sum_by-cons (uses_in cycle r) (Some (issue_of p)) (issued placed) in
    let rest = total_used cycle r placed in omega (arith, one, rest)

-- what an operation with these operands takes on a unit
abbrev taken_of : Op → FunctionalUnit → Operands → List Resource
taken_of op unit operands =
    (OnUnit unit ∷ [] ++ cross_path_taken unit.side (crosses_to unit.side operands) ++ data_path_taken
    (data_path_of operands)) ++ map ReadsOf (reads_of op operands)

-- the number of a label takes nothing
number_takes : (operands : Operands) (op : Op) (unit : FunctionalUnit) (number other : ℕ)
    → taken_of op unit (aimed_operands number operands) ≡ taken_of op unit (aimed_operands other operands)
number_takes (Three x y d) op unit number other = refl
number_takes (ConstantFirst k x d) op unit number other = refl
number_takes (ConstantSecond x k d) op unit number other = refl
number_takes (Two x d) op unit number other = refl
number_takes (Field source left right destination) op unit number other = refl
number_takes (Constant k d) op unit number other = refl
number_takes (Access register base form offset) op unit number other = refl
number_takes (ToBlock old) op unit number other = refl
number_takes (Register x) op unit number other = refl

pub same_taken : (operands : Operands) (a b : Insn) (number other : ℕ) (unit : FunctionalUnit) → op_of a ≡ op_of b
    → operands_of a ≡ aimed_operands number operands → operands_of b ≡ aimed_operands other operands
    → taken_by a unit ≡ taken_by b unit
same_taken operands a b number other unit op e f =
    ap (taken_of (op_of a) unit) e ∙ number_takes operands (op_of a) unit number other
    ∙ ap (λ (o : Op). taken_of o unit (aimed_operands other operands)) op
    ∙ sym (ap (taken_of (op_of b) unit) f)

-- two instructions of a line, one in its row and one in its block
pub record IsLike (cycle : ℕ) (p q : Placed) : Type 0 where
  pub here : p.cycle ≡ 0
  pub there : q.cycle ≡ cycle
  pub unit : p.unit ≡ q.unit
  pub line : p.line ≡ q.line
  pub taken : taken_by p.insn p.unit ≡ taken_by q.insn q.unit
  pub branching : is_branching p ≡ is_branching q

like_taken : (cycle : ℕ) (r : Resource) (p q : Placed) → IsLike cycle p q → taken 0 r p ≡ taken cycle r q
like_taken cycle r p q is = rw (eq-eqb p.cycle 0 is.here, eq-eqb q.cycle cycle is.there, is.taken) refl

abbrev pub AreLike : ℕ → List Placed → List Placed → Type 0
AreLike cycle [] [] = Unit {0}
AreLike cycle (p ∷ ps) (q ∷ qs) = IsLike cycle p q × AreLike cycle ps qs
AreLike cycle _ _ = ⊥

like_total : (cycle : ℕ) (r : Resource) (ps qs : List Placed) → AreLike cycle ps qs
    → total (taken 0 r) ps ≡ total (taken cycle r) qs
like_total cycle r [] [] are = refl
like_total cycle r [] (q ∷ qs) are = absurd are
like_total cycle r (p ∷ ps) [] are = absurd are
like_total cycle r (p ∷ ps) (q ∷ qs) are =
    let one = like_taken cycle r p q are.0 in let rest = like_total cycle r ps qs are.1 in omega (arith, one, rest)

-- in a row there is enough of what there is enough of in the block
pub enough_in_row : (cycle : ℕ) (ps qs block : List Placed) → AreLike cycle ps qs → AreApart qs
    → ((q : Placed) → In q qs → In q block) → AreEnough cycle (issued block) → AreEnough 0 (issued ps)
enough_in_row cycle ps qs block like apart inside enough r =
    let mine = total_used 0 r ps in
    let same = like_total cycle r ps qs like in
    let within = total_within (taken cycle r) qs block apart inside in
    let whole = total_used cycle r block in
    let fits = enough r in
    omega (arith, mine, same, within, whole, fits)
