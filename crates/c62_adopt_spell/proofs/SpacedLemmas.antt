-- Words with a blank behind each, in two parts.
use Rattle.std.proofs.Common.{◌≡◌, ◌∙◌, ap, sym, refl, ℕ, List, [], ◌∷◌, ◌++◌, append_assoc, append-nil}
use Rattle.std.specs.Prelude.{codes}
use Rattle.c62_token.specs.Kind.{Word}
use Rattle.c62_adopt_line.specs.Plain.{spaced}
use Rattle.c62_adopt_spell.specs.declared.names.Setting.{Setting}
use Rattle.c62_adopt_spell.specs.declared.sum.Sum.{Sum}
use Rattle.c62_adopt_spell.specs.Sum.{Steps, flushed, step, summed}

pub spaced_both : (one other : List Word) → spaced (one ++ other) ≡ spaced one ++ spaced other
spaced_both [] other = refl
spaced_both (word ∷ one) other =
    ap (λ (bytes : List ℕ). (word ++ codes " ") ++ bytes) (spaced_both one other)
    ∙ sym (append_assoc (word ++ codes " ") (spaced one) (spaced other))

-- behind one more word the whole stays
pub step_more : (names : List Setting) (sum next : Sum) (word : Word) (words : List Word) (old new : List ℕ)
    → Steps (step names sum word) old new next
    → new ++ spaced (summed names next words) ≡ old ++ spaced (summed names sum (word ∷ words))
step_more names sum next word words old new steps =
    rw (steps.written, steps.sum_is)
    (append_assoc old (spaced (step names sum word).0) (spaced (summed names (step names sum word).1 words))
    ∙ ap (λ (bytes : List ℕ). old ++ bytes)
    (sym (spaced_both (step names sum word).0 (summed names (step names sum word).1 words))))
