-- Values that may be absent.
use Rattle.c62_sheet.proofs.Common.{◌≡◌, true, false, Option, Some, None, refl, sym, ◌∙◌, IsSome, is_none, false≢true}
use Rattle.c62_sheet.proofs.Common.{none-some, arith}

pub value_of_some : {A : Type 0} (o : Option A) → IsSome o → (x : A) × (o ≡ Some x)
value_of_some None h = absurd (false≢true h)
value_of_some (Some x) h = (x, refl)

pub some_is : {A : Type 0} (o : Option A) (x : A) → o ≡ Some x → IsSome o
some_is o x e = rw e refl

pub none_not_some : {A : Type 0} (o : Option A) → o ≡ None → IsSome o → ⊥
none_not_some o e h = let v = value_of_some o h in none-some v.0 (sym e ∙ v.1)

pub some_from_not_none : {A : Type 0} (o : Option A) → (o ≡ None → ⊥) → IsSome o
some_from_not_none o h = grind arith

pub not_none : {A : Type 0} (o : Option A) → is_none o ≡ false → IsSome o
not_none o e = grind arith

pub is_none-is : {A : Type 0} (o : Option A) → is_none o ≡ true → o ≡ None
is_none-is o e = grind arith
