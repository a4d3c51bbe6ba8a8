-- Proofs that stand one behind another, as the pairs that a list of them makes.

-- a proof, and those behind it
infixr 4 ◌⨾◌
pub ◌⨾◌ : {X Y : Type 0} → X → Y → X × Y
x ⨾ y = (x, y)
