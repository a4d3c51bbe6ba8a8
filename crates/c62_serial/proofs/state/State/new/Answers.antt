use Rattle.std.proofs.Common.{◌≡◌, ℕ, List, refl, arith, rules}
use Rattle.std.proofs.lemmas.List.Elements.{All-replicate}
use Rattle.std.specs.Prelude.{All, replicate}
use Rattle.c62_serial.proofs.state.State.new.Goals as goal

zeros : (count : ℕ) (bytes : List ℕ) → bytes ≡ replicate count 0 → All (λ byte. byte ≡ 0) bytes
zeros count bytes e = rw e (All-replicate (λ byte. byte ≡ 0) count 0 refl)

pub returns : goal.returns
returns c = record {
  base = refl;
  sound = record { registers = refl; memory = search rules; rising = λ k h. absurd (omega arith) };
  words = All-replicate (λ word. word ≡ 0) 32 0 refl;
  bytes = zeros 65536 c.in_ok-vec.field-0.items (c.in_ok-vec.ensures.items_if_clones_equal (λ y h. h));
  faults = c.new.ensures.items;
}
