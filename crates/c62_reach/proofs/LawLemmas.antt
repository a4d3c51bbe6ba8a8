-- The laws of parts that are taken.
use Rattle.std.proofs.Common.{◌≡◌, ◌<◌, ◌≤◌, ◌∙◌, ℕ, Bool, true, false, List, Some, length, get_or, refl, sym, ap}
use Rattle.std.proofs.Common.{subst, inl, inr, arith, true≢false}
use Rattle.std.proofs.lemmas.List.{get_or_default, same_lists}
use Rattle.std.proofs.lemmas.Option.{same_Some}
use Rattle.c62_reach.specs.Ended.{ended_lines}
use Rattle.c62_reach.specs.Part.{Part}
use Rattle.c62_reach.specs.Reach.{IsMarked, IsReached, start, more, Leads, Marks}
use Rattle.c62_reach.specs.Taken.{IsTaken, IsTakenFrom, first_part, lines_spelled, parts_in, text_taken}
use Rattle.c62_reach.specs.Laws.{AreLeast, AreWhole, IsClosed, IsOne}
use Rattle.c62_reach.proofs.SearchLemmas.{leads_inside}
use Rattle.c62_op.specs.declared.set.InstructionSet.{InstructionSet}

pub are_whole : (parts : List Part) (first : ℕ) (marks : List Bool) → AreWhole parts first marks
are_whole parts first marks is j k there marked leads inside =
    (is.reached k inside).1 (more j k ((is.reached j there).0 marked) leads)

least : (parts : List Part) (first : ℕ) (others : List Bool) → IsMarked others first → IsClosed parts others → (k : ℕ)
    → IsReached parts first k → k < length parts
    → IsMarked others k
least parts first others begins closed k start inside = begins
least parts first others begins closed k (more j _ reached leads) inside =
    closed j k (least parts first others begins closed j reached (leads_inside parts j k leads)) leads inside

pub are_least : (parts : List Part) (first : ℕ) (marks others : List Bool) → AreLeast parts first marks others
are_least parts first marks others is begins closed k inside marked = least parts first others begins closed k
    ((is.reached k inside).0 marked) inside

-- marks that say the same are the same
same_bits : (a b : Bool) → (a ≡ true → b ≡ true) → (b ≡ true → a ≡ true) → a ≡ b
same_bits true b to back = sym (to refl)
same_bits false true to back = back refl
same_bits false false to back = refl

same_marks : (parts : List Part) (first : ℕ) (one other : List Bool) → Marks parts first one → Marks parts first other
    → one ≡ other
same_marks parts first one other a b =
    same_lists one other (a.len ∙ sym b.len) (λ k d inside.
    let there : k < length parts = subst (λ (n : ℕ). k < n) a.len inside in
    let beside : k < length other = subst (λ (n : ℕ). k < n) (sym b.len) there in
    let same : get_or one k false ≡ get_or other k false =
    same_bits (get_or one k false) (get_or other k false) (λ h. (b.reached k there).1 ((a.reached k there).0 h))
    (λ h. (a.reached k there).1 ((b.reached k there).0 h)) in
    get_or_default one k d false inside ∙ same ∙ sym (get_or_default other k d false beside))

from_one : (isa : InstructionSet) (name text one other : List ℕ) → IsTakenFrom isa name text one
    → IsTakenFrom isa name text other → one ≡ other
from_one isa name text one other a b =
    let first : a.reached.first ≡ b.reached.first = same_Some a.reached.first b.reached.first (sym a.reached.named
    ∙ b.reached.named) in
    let marks : a.marks ≡ b.marks =
    same_marks (parts_in isa text) a.reached.first a.marks b.marks a.reached.reached
    (subst (λ (n : ℕ). Marks (parts_in isa text) n b.marks) (sym first) b.reached.reached) in
    a.taken ∙ ap (λ (m : List Bool). text_taken m (ended_lines text) (lines_spelled isa text)) marks ∙ sym b.taken

pub is_one : (isa : InstructionSet) (name text one other : List ℕ) → IsOne isa name text one other
is_one isa name text one other (inl a) (inl b) = a.own ∙ sym b.own
is_one isa name text one other (inr a) (inr b) = from_one isa name text one other a b
is_one isa name text one other (inl a) (inr b) = let long = a.long in let short = b.short in absurd (omega arith)
is_one isa name text one other (inr a) (inl b) = let long = b.long in let short = a.short in absurd (omega arith)
