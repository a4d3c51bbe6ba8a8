-- The one branch of a block that lies in rows, and how long the block takes.
use Rattle.std.proofs.Common.{◌≡◌, ℕ, ◌+◌, ◌≤◌, Bool, true, List, [], ◌∷◌, length, Option, Some, None, refl}
use Rattle.std.proofs.Common.{sym, ◌∙◌, ap, subst, ◌⊎◌, inl, inr, arith}
use Rattle.std.specs.Prelude.{fold, count_by, filter, find}
use Rattle.std.specs.Option.{option_map_or}
use Rattle.std.proofs.lemmas.Bool.{false≢true}
use Rattle.std.proofs.lemmas.List.Sums.{length-filter}
use Rattle.c62_insn.specs.declared.effect.Target.TheVariants.{Block as ToBlock}
use Rattle.c62_op.specs.declared.register.Reg.{Reg}
use Rattle.c62_op.specs.declared.operands.Operands.TheVariants.{Block as BlockOperand}
use Rattle.c62_op.specs.Shape.{is_branch}
use Rattle.c62_insn.specs.declared.effect.Target.{Target}
use Rattle.c62_insn.specs.declared.insn.Insn.{Insn}
use Rattle.c62_insn.specs.Insn.{op_of, operands_of}
use Rattle.c62_rules.specs.PacketRules.{Issue}
use Rattle.c62_rules.specs.Length.{last_landing_end}
use Rattle.c62_serial.specs.declared.serial.Exit.{Exit}
use Rattle.c62_serial.specs.Effect.{act_of}
use Rattle.c62_serial.specs.Serial.{exit_to, exit_after}
use Rattle.c62_packet.specs.declared.placed.Placed.{Placed}
use Rattle.c62_packet.specs.Packed.{Packed, issue_of, issues_of, is_branching, IsPacketBlock}
use Rattle.c62_meaning.specs.Packet.{Did}
use Rattle.c62_meaning.proofs.Lookup.{In}
use Rattle.c62_flight.proofs.Told.{find_none, find_some}
use Rattle.std.proofs.lemmas.Bool.Decides.{nat_tests}

-- ---- one branch

-- what goes to a block names it
pub goes_to : (insn : Insn) (base : ℕ) (word : Reg → ℕ) (byte : ℕ → ℕ) (number : ℕ)
    → (act_of insn base word byte).target ≡ Some (ToBlock number) → operands_of insn ≡ BlockOperand number
goes_to insn base word byte number h = grind (arith, nat_tests)

none_counted : {X : Type 0} (f : X → Bool) (xs : List X) → length (filter f xs) ≤ 0 → (x : X) → In x xs → f x ≡ true → ⊥
none_counted f [] l x h t = h
none_counted f (y ∷ xs) l x h t = grind (arith, none_counted f xs)

-- behind one that counts none does
rest_counted : {X : Type 0} (f : X → Bool) (x : X) (xs : List X) → length (filter f (x ∷ xs)) ≤ 1 → f x ≡ true
    → length (filter f xs) ≤ 0
rest_counted f x xs l t = grind arith

fewer_counted : {X : Type 0} (f : X → Bool) (x : X) (xs : List X) → length (filter f (x ∷ xs)) ≤ 1
    → length (filter f xs) ≤ 1
fewer_counted f x xs l = grind arith

one_counted : {X : Type 0} (f : X → Bool) (xs : List X) → length (filter f xs) ≤ 1 → (x y : X) → In x xs → In y xs
    → f x ≡ true → f y ≡ true → x ≡ y
one_counted f [] l x y h k s t = absurd h
one_counted f (z ∷ xs) l x y (inl e) (inl e') s t = sym e ∙ e'
one_counted f (z ∷ xs) l x y (inl e) (inr k) s t = grind (arith, none_counted f xs, rest_counted f z xs l)
one_counted f (z ∷ xs) l x y (inr h) (inl e) s t = grind (arith, none_counted f xs, rest_counted f z xs l)
one_counted f (z ∷ xs) l x y (inr h) (inr k) s t = one_counted f xs (fewer_counted f z xs l) x y h k s t

pub filter_fewer : {X : Type 0} (f g : X → Bool) (xs : List X) → ((x : X) → In x xs → f x ≡ true → g x ≡ true)
    → length (filter f xs) ≤ length (filter g xs)
filter_fewer f g [] h = omega arith
filter_fewer f g (x ∷ xs) h = grind (arith, filter_fewer f g xs)

pub one_branch : (block : Packed) (p q : Placed) → IsPacketBlock block → In p block.placed → In q block.placed
    → is_branching p ≡ true → is_branching q ≡ true → p ≡ q
one_branch block p q packet h k s t =
    let few : count_by is_branching block.placed ≤ 1 = packet.one_branch in
    let same : length (filter is_branching block.placed) ≡ count_by is_branching block.placed = length-filter
    is_branching block.placed in
    one_counted is_branching block.placed (omega arith) p q h k s t

-- one of these goes somewhere, or none
pub any_target : (did : Did) (ps : List Placed) → ((p : Placed) → In p ps → (did p).target ≡ None)
    ⊎ ((p : Placed) × (target : Target) × In p ps × ((did p).target ≡ Some target))
any_target did [] = inl (λ p h. absurd h)
any_target did (q ∷ ps) = by_head (did q).target refl (any_target did ps)
  where
    by_head : (o : Option Target) → (did q).target ≡ o → ((p : Placed) → In p ps → (did p).target ≡ None)
        ⊎ ((p : Placed) × (target : Target) × In p ps × ((did p).target ≡ Some target))
        → ((p : Placed) → In p (q ∷ ps) → (did p).target ≡ None)
        ⊎ ((p : Placed) × (target : Target) × In p (q ∷ ps) × ((did p).target ≡ Some target))
    by_head (Some target) e rest = inr (q, target, inl refl, e)
    by_head None e (inr r) = inr (r.0, r.1, inr r.2, r.3)
    by_head None e (inl none) = inl
        (λ p h. elim h [ inl s ↦ subst (λ r. (did r).target ≡ None) s e | inr k ↦ none p k ])

pub exit_none : (did : Did) (ps : List Placed) (exit : Exit) → ((p : Placed) → In p ps → (did p).target ≡ None)
    → fold (λ exit p. exit_after exit (did p).target) exit ps ≡ exit
exit_none did [] exit h = refl
exit_none did (p ∷ ps) exit h = grind (arith, exit_none did ps exit)

-- all that go somewhere go there
exit_kept : (did : Did) (ps : List Placed) (target : Target)
    → ((p : Placed) (t : Target) → In p ps → (did p).target ≡ Some t → t ≡ target)
    → fold (λ exit p. exit_after exit (did p).target) (exit_to target) ps ≡ exit_to target
exit_kept did [] target h = refl
exit_kept did (p ∷ ps) target h = by_head (exit_kept did ps target (λ q t k. h q t (inr k))) (did p).target refl
  where
    by_head : fold (λ exit p. exit_after exit (did p).target) (exit_to target) ps ≡ exit_to target → (o : Option Target)
        → (did p).target ≡ o → fold (λ exit p. exit_after exit (did p).target)
        (exit_after (exit_to target) (did p).target) ps ≡ exit_to target
    by_head rest None e = ap (λ o. fold (λ exit p. exit_after exit (did p).target) (exit_after (exit_to target) o) ps) e
        ∙ rest
    by_head rest (Some t) e =
        ap (λ o. fold (λ exit p. exit_after exit (did p).target) (exit_after (exit_to target) o) ps) e
        ∙ ap (λ t. fold (λ exit p. exit_after exit (did p).target) (exit_to t) ps) (h p t (inl refl) e) ∙ rest

pub exit_some : (did : Did) (ps : List Placed) (exit : Exit) (p : Placed) (target : Target) → In p ps
    → (did p).target ≡ Some target
    → ((p : Placed) (t : Target) → In p ps → (did p).target ≡ Some t → t ≡ target)
    → fold (λ exit p. exit_after exit (did p).target) exit ps ≡ exit_to target
exit_some did [] exit p target h e all = absurd h
exit_some did (q ∷ ps) exit p target (inl s) e all =
    ap (λ o. fold (λ exit p. exit_after exit (did p).target) (exit_after exit o) ps)
    (subst (λ r. (did r).target ≡ Some target) (sym s) e)
    ∙ exit_kept did ps target (λ r t k. all r t (inr k))
exit_some did (q ∷ ps) exit p target (inr h) e all = exit_some did ps (exit_after exit (did q).target) p target h e
    (λ r t k. all r t (inr k))

-- ---- how long a block takes

In-issues : (ps : List Placed) (i : Issue) → In i (issues_of ps) → (p : Placed) × In p ps × (issue_of p ≡ i)
In-issues [] i h = absurd h
In-issues (p ∷ ps) i (inl e) = (p, inl refl, e)
In-issues (p ∷ ps) i (inr h) = let r = In-issues ps i h in (r.0, inr r.1, r.2)

to_issues : (ps : List Placed) (p : Placed) → In p ps → In (issue_of p) (issues_of ps)
to_issues [] p h = absurd h
to_issues (q ∷ ps) p h = grind (arith, to_issues ps p)

-- with a branch it takes its six cycles more
pub branch_length : (block : Packed) (p : Placed) → IsPacketBlock block → In p block.placed → is_branching p ≡ true
    → block.cycles ≡ p.cycle + 6
branch_length block p packet h b = packet.own_length
    ∙ by_found (find (λ (i : Issue). is_branch (op_of i.insn)) (issues_of block.placed)) refl
  where
    by_found : (o : Option Issue) → find (λ (i : Issue). is_branch (op_of i.insn)) (issues_of block.placed) ≡ o
        → option_map_or (λ (branch : Issue). branch.cycle + 6) o (last_landing_end (issues_of block.placed)) ≡ p.cycle +
        6
    by_found None e = absurd
        (false≢true (sym (find_none (λ (i : Issue). is_branch (op_of i.insn)) (issues_of block.placed) e
        (issue_of p) (to_issues block.placed p h)) ∙ b))
    by_found (Some i) e =
        let f = find_some (λ (i : Issue). is_branch (op_of i.insn)) (issues_of block.placed) i e in
        let r = In-issues block.placed i f.0 in
        let same : r.0 ≡ p = one_branch block r.0 p packet r.1 h
        (subst (λ (x : Issue). is_branch (op_of x.insn) ≡ true) (sym r.2) f.1) b in
        ap (λ (x : Issue). x.cycle + 6) (sym r.2) ∙ ap (λ (q : Placed). q.cycle + 6) same
