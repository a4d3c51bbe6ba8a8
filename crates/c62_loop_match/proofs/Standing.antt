-- Lists that stand for one another, from what holds at each number.
use Rattle.std.proofs.Common.{◌≡◌, ℕ, suc, ◌+◌, ◌<◌, ◌≤◌, List, [], ◌∷◌, length, map, get_or, ◌∙◌, ap, subst, ⊎_elim}
use Rattle.std.proofs.Common.{arith}
use Rattle.std.proofs.lemmas.Bool.{cases_lt}
use Rattle.std.proofs.lemmas.List.{get_or_default}
use Rattle.c62_read.specs.declared.block.SerialInsn.{SerialInsn}
use Rattle.c62_packet.specs.declared.placed.Placed.{Placed}
use Rattle.c62_meaning.specs.Laws.{StandsAs}
use Rattle.c62_loop.specs.Whole.{StandFor, IsStageOf, AreStagesOf}
use Rattle.c62_loop_match.specs.declared.parts.Stage.{Stage as StageRead}
use Rattle.c62_loop_match.specs.Parts.{stage_of}

pub stand_whole : (entries : List SerialInsn) (placed : List Placed) → length placed ≡ length entries
    → ((k : ℕ) (d : SerialInsn) (q : Placed) → k < length entries → StandsAs (get_or entries k d) (get_or placed k q))
    → StandFor entries placed
stand_whole [] [] e h = tt
stand_whole [] (p ∷ placed) e h = absurd (omega arith)
stand_whole (x ∷ entries) [] e h = absurd (omega arith)
stand_whole (x ∷ entries) (p ∷ placed) e h =
    (h 0 x p (omega arith), stand_whole entries placed (omega arith) (λ k d q l. h (suc k) d q (omega arith)))

-- ---- one number more

pub stand_more : (entries : List SerialInsn) (placed : List Placed) (n : ℕ) (e : SerialInsn) (p : Placed)
    → n < length entries → n < length placed → e ≡ get_or entries n e → p ≡ get_or placed n p
    → StandsAs e p → ((k : ℕ) (d : SerialInsn) (q : Placed) → k < n → StandsAs (get_or entries k d) (get_or placed k q))
    → (k : ℕ) (d : SerialInsn) (q : Placed) → k < n + 1 → StandsAs (get_or entries k d) (get_or placed k q)
stand_more entries placed n e p inside within is_e is_p one old k d q l =
    ⊎_elim {C = StandsAs (get_or entries k d) (get_or placed k q)} (λ (h : k < n). old k d q h)
    (λ (h : n ≤ k). (let s : n ≡ k = omega arith in
    let a : e ≡ get_or entries k d = is_e ∙ get_or_default entries n e d inside ∙ ap (λ m. get_or entries m d) s in
    let b : p ≡ get_or placed k q = is_p ∙ get_or_default placed n p q within ∙ ap (λ m. get_or placed m q) s in
    subst (λ x. StandsAs x (get_or placed k q)) a (subst (λ y. StandsAs e y) b one)))
    (cases_lt k n)

pub stages_more : (most : ℕ) (entries : List SerialInsn) (stages : List StageRead) (n : ℕ) (e : SerialInsn)
    (s : StageRead) → n < length entries → n < length stages → e ≡ get_or entries n e → s ≡ get_or stages n s
    → IsStageOf most e (stage_of s)
    → ((k : ℕ) (d : SerialInsn) (t : StageRead) → k < n
    → IsStageOf most (get_or entries k d) (stage_of (get_or stages k t)))
    → (k : ℕ) (d : SerialInsn) (t : StageRead) → k < n + 1
    → IsStageOf most (get_or entries k d) (stage_of (get_or stages k t))
stages_more most entries stages n e s inside within is_e is_s one old k d t l =
    ⊎_elim {C = IsStageOf most (get_or entries k d) (stage_of (get_or stages k t))} (λ (h : k < n). old k d t h)
    (λ (h : n ≤ k). (let i : n ≡ k = omega arith in
    let a : e ≡ get_or entries k d = is_e ∙ get_or_default entries n e d inside ∙ ap (λ m. get_or entries m d) i in
    let b : s ≡ get_or stages k t = is_s ∙ get_or_default stages n s t within ∙ ap (λ m. get_or stages m t) i in
    subst (λ x. IsStageOf most x (stage_of (get_or stages k t))) a (subst (λ y. IsStageOf most e (stage_of y)) b one)))
    (cases_lt k n)

pub stages_whole : (most : ℕ) (entries : List SerialInsn) (stages : List StageRead) → length stages ≡ length entries
    → ((k : ℕ) (d : SerialInsn) (s : StageRead) → k < length entries
    → IsStageOf most (get_or entries k d) (stage_of (get_or stages k s)))
    → AreStagesOf most entries (map stage_of stages)
stages_whole most [] [] e h = tt
stages_whole most [] (s ∷ stages) e h = absurd (omega arith)
stages_whole most (x ∷ entries) [] e h = absurd (omega arith)
stages_whole most (x ∷ entries) (s ∷ stages) e h =
    (h 0 x s (omega arith), stages_whole most entries stages (omega arith) (λ k d q l. h (suc k) d q (omega arith)))
