-- The bytes of a store.
use Rattle.std.proofs.Common.{◌≡◌, ℕ, zero, suc, ◌+◌, ◌/◌, ◌%◌, ◌^◌, ◌<◌, ◌≤◌, true, List, [], ◌∷◌, ◌++◌, length, take}
use Rattle.std.proofs.Common.{drop, get_or, set, ◌-◌, inl, inr, refl, ◌∙◌, sym, ap, arith}
use Rattle.std.specs.Prelude.{◌==◌, nat_le}
use Rattle.std.proofs.lemmas.Bool.{and_parts}
use Rattle.std.proofs.lemmas.Bool.Decides.{nat_tests}
use Rattle.std.proofs.Math.Nat.{div-div-eq-div-mul, mul_comm, pow-suc}
use Rattle.std.proofs.lemmas.List.Edits.{sets-eq}
use Rattle.std.proofs.lemmas.List.{length-set, length-take, length-drop, length-append, length-take-le}
use Rattle.std.proofs.lemmas.List.{get_or_append_left, get_or-append_right, get_or-take, get_or-drop}
use Rattle.c62_serial.specs.Memory.{is_good, bytes_of, put, written}
use Rattle.c62_serial.specs.Laws.{StoresItsBytes, StoresWordAsBytes}

pub length-bytes_of : (size value : ℕ) → length (bytes_of size value) ≡ size
length-bytes_of zero value = refl
length-bytes_of (suc size) value = ap suc (length-bytes_of size (value / 256))

pub byte_of : (size value offset : ℕ) → offset < size
    → get_or (bytes_of size value) offset 0 ≡ value / 256 ^ offset % 256
byte_of zero value offset h = absurd (omega arith)
byte_of (suc size) value zero h = omega arith
byte_of (suc size) value (suc offset) h =
    let e : value / 256 / 256 ^ offset ≡ value / 256 ^ suc offset = div-div-eq-div-mul value 256 (256 ^ offset)
    ∙ ap (λ n. value / n) (mul_comm 256 (256 ^ offset) ∙ sym (pow-suc 256 offset)) in
    byte_of size (value / 256) offset (omega arith) ∙ ap (λ n. n % 256) e

pub is_within : (address size : ℕ) → is_good address size ≡ true → address + size ≤ 65536
is_within address size h =
    let e : nat_le (address + size) 65536 ≡ true = (and_parts (address % size == 0) (nat_le (address + size) 65536) h).1
    in grind (arith, nat_tests)

pub written_good : (address size value : ℕ) (memory : List ℕ) → is_good address size ≡ true
    → written address size value memory ≡ put address (bytes_of size value) size memory
written_good address size value memory h = rw h refl

length-put : (memory bytes : List ℕ) (address size : ℕ) → length bytes ≡ size → address + size ≤ length memory
    → length (put address bytes size memory) ≡ length memory
length-put memory bytes address size b h =
    simp (length-append, length-take, length-drop) (omega arith)

front_length : (memory bytes : List ℕ) (address : ℕ) → address ≤ length memory
    → length (take address memory ++ bytes) ≡ address + length bytes
front_length memory bytes address h = simp (length-append, length-take) (omega arith)

put_inside : (memory bytes : List ℕ) (address size offset : ℕ) → length bytes ≡ size → address + size ≤ length memory
    → offset < size
    → get_or (put address bytes size memory) (address + offset) 0 ≡ get_or bytes offset 0
put_inside memory bytes address size offset b h l =
    let e : address + offset - address ≡ offset = omega arith in
    let f = get_or-append_right (take address memory) bytes address (address + offset) 0
    (length-take-le address memory (omega arith)) (omega arith) in
    get_or_append_left (take address memory ++ bytes) (drop (address + size) memory) 0 (address + offset)
    (omega (arith, front_length memory bytes address (omega arith)))
    ∙ rw e at f

put_before : (memory bytes : List ℕ) (address size other : ℕ) → length bytes ≡ size → address + size ≤ length memory
    → other < address
    → get_or (put address bytes size memory) other 0 ≡ get_or memory other 0
put_before memory bytes address size other b h l =
    get_or_append_left (take address memory ++ bytes) (drop (address + size) memory) 0 other
    (omega (arith, front_length memory bytes address (omega arith)))
    ∙ get_or_append_left (take address memory) bytes 0 other
    (omega (arith, length-take-le address memory (omega arith)))
    ∙ get_or-take address memory other 0 l

put_after : (memory bytes : List ℕ) (address size other : ℕ) → length bytes ≡ size → address + size ≤ length memory
    → address + size ≤ other
    → get_or (put address bytes size memory) other 0 ≡ get_or memory other 0
put_after memory bytes address size other b h l =
    let e : address + size + (other - (address + size)) ≡ other = omega arith in
    let f = get_or-drop (address + size) memory (other - (address + size)) 0 in
    get_or-append_right (take address memory ++ bytes) (drop (address + size) memory) (address + size) other 0
    (omega (arith, front_length memory bytes address (omega arith))) l
    ∙ rw e at f

pub stores : (memory : List ℕ) (address size value : ℕ) → length memory ≡ 65536 → is_good address size ≡ true
    → StoresItsBytes memory address size value
stores memory address size value l good =
    let b : length (bytes_of size value) ≡ size = length-bytes_of size value in
    let h : address + size ≤ length memory = omega (arith, is_within address size good) in
    record {
      size_stays = rw good (length-put memory (bytes_of size value) address size b h);
      inside = λ offset i. rw good (put_inside memory (bytes_of size value) address size offset b h i
          ∙ byte_of size value offset i);
      outside = λ other o. rw good (elim o [
        | inl i ↦ put_before memory (bytes_of size value) address size other b h i
        | inr i ↦ put_after memory (bytes_of size value) address size other b h i
      ]);
    }

good_byte : (address : ℕ) → address < 65536 → is_good address 1 ≡ true
good_byte address h =
    let e : (address % 1 == 0) ≡ true = (let z : address % 1 ≡ 0 = omega arith in grind (arith, nat_tests)) in
    let f : nat_le (address + 1) 65536 ≡ true = grind (arith, nat_tests) in
    rw (e, f) refl

-- a stored byte
stored_byte : (memory : List ℕ) (address value : ℕ) → length memory ≡ 65536 → address < 65536
    → written address 1 value memory ≡ set memory address (value % 256)
stored_byte memory address value l h =
    written_good address 1 value memory (good_byte address h)
    ∙ sym (sets-eq (value % 256 ∷ []) memory address (omega arith))

-- four bytes in turn
set_four : (memory : List ℕ) (address a b c d : ℕ) → address + 4 ≤ length memory
    → put address (a ∷ b ∷ c ∷ d ∷ []) 4 memory ≡ set (set (set (set memory address a) (address + 1) b) (address + 2) c)
    (address + 3) d
set_four memory address a b c d h =
    let e : address + 1 ≡ suc address = omega arith in
    let f : address + 2 ≡ suc (suc address) = omega arith in
    let g : address + 3 ≡ suc (suc (suc address)) = omega arith in
    sym (rw (e, f, g) (sets-eq (a ∷ b ∷ c ∷ d ∷ []) memory address h))

pub stores_bytes : (memory : List ℕ) (address value : ℕ) → length memory ≡ 65536 → is_good address 4 ≡ true
    → StoresWordAsBytes memory address value
stores_bytes memory address value l good =
    let h : address + 4 ≤ 65536 = is_within address 4 good in
    let x0 = set memory address (value % 256) in
    let x1 = set x0 (address + 1) (value / 2 ^ 8 % 256) in
    let x2 = set x1 (address + 2) (value / 2 ^ 16 % 256) in
    let l0 : length x0 ≡ 65536 = length-set memory address (value % 256) ∙ l in
    let l1 : length x1 ≡ 65536 = length-set x0 (address + 1) (value / 2 ^ 8 % 256) ∙ l0 in
    let l2 : length x2 ≡ 65536 = length-set x1 (address + 2) (value / 2 ^ 16 % 256) ∙ l1 in
    let w0 : written address 1 value memory ≡ x0 = stored_byte memory address value l (omega arith) in
    let w1 : written (address + 1) 1 (value / 2 ^ 8) x0 ≡ x1 = stored_byte x0 (address + 1) (value / 2 ^ 8) l0
    (omega arith) in
    let w2 : written (address + 2) 1 (value / 2 ^ 16) x1 ≡ x2 = stored_byte x1 (address + 2) (value / 2 ^ 16) l1
    (omega arith) in
    let w3 : written (address + 3) 1 (value / 2 ^ 24) x2 ≡ set x2 (address + 3) (value / 2 ^ 24 % 256) = stored_byte x2
    (address + 3) (value / 2 ^ 24) l2 (omega arith) in
    let q2 : value / 256 / 256 ≡ value / 2 ^ 16 = div-div-eq-div-mul value 256 256 in
    let q3 : value / 256 / 256 / 256 ≡ value / 2 ^ 24 = rw q2 (div-div-eq-div-mul value (2 ^ 16) 256) in
    let x3 = λ (c d : ℕ). set (set x1 (address + 2) (c % 256)) (address + 3) (d % 256) in
    let four : put address (bytes_of 4 value) 4 memory ≡ x3 (value / 256 / 256) (value / 256 / 256 / 256)
    = set_four memory address (value % 256) (value / 256 % 256) (value / 256 / 256 % 256)
    (value / 256 / 256 / 256 % 256) (omega arith) in
    written_good address 4 value memory good ∙ four
    ∙ ap (λ (c : ℕ). x3 c (value / 256 / 256 / 256)) q2 ∙ ap (λ (d : ℕ). x3 (value / 2 ^ 16) d) q3
    ∙ sym (
    ap (λ (m : List ℕ). written (address + 3) 1 (value / 2 ^ 24)
    (written (address + 2) 1 (value / 2 ^ 16) (written (address + 1) 1 (value / 2 ^ 8) m))) w0
    ∙ ap (λ (m : List ℕ). written (address + 3) 1 (value / 2 ^ 24) (written (address + 2) 1 (value / 2 ^ 16) m)) w1
    ∙ ap (λ (m : List ℕ). written (address + 3) 1 (value / 2 ^ 24) m) w2
    ∙ w3)
