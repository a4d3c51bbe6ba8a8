-- The lines and the members that tell of the machine are of one list of facts.
use Rattle.std.proofs.Common.{◌≡◌, ◌∙◌, ℕ, zero, suc, ◌+◌, ◌*◌, ◌/◌, ◌%◌, ◌<◌, ◌==◌, List, [], ◌∷◌, ◌++◌, map}
use Rattle.std.proofs.Common.{refl, sym, ap, arith, if◌then◌else◌}
use Rattle.std.specs.Prelude.{codes, decimal, slice_index}
use Rattle.std.specs.List.{flat_map, range_with_len}
use Rattle.std.proofs.lemmas.Grind.{flat_map-append}
use Rattle.json.specs.Token.{Token, key, string}
use Rattle.c62_op.specs.declared.register.Side.{Side}
use Rattle.c62_op.specs.declared.register.Side.TheVariants.{A, B}
use Rattle.c62_op.specs.Name.{file_letter}
use Rattle.c62_serial.specs.State.{Machine, byte_in, first_of}
use Rattle.c62_serial.specs.Memory.{bytes_from, bytes_of, number_of}
use Rattle.c62_report.specs.Report.{address_text, fault_line, file_lines, machine_lines, memory_words, word_lines}
use Rattle.c62_json.specs.Document.{array, count, object}
use Rattle.c62_json_report.specs.Machine.{bytes_of_word, digits, faults, file, machine_members, memory, registers}
use Rattle.c62_json_report.specs.Machine.{word, words}
use Rattle.c62_json_report.specs.Alike.{Fact, HoldsBytes, TellSame, register_line, register_member, word_line}
use Rattle.c62_json_report.specs.Alike.{word_member}

-- ---- lists

through : {X : Type 0} (told : Fact → List X) (fact : ℕ → Fact) (ks : List ℕ)
    → flat_map told (map fact ks) ≡ flat_map (λ k. told (fact k)) ks
through told fact [] = refl
through told fact (k ∷ ks) = ap (λ rest. told (fact k) ++ rest) (through told fact ks)

alike : (f g : ℕ → List Token) → ((k : ℕ) → f k ≡ g k) → (ks : List ℕ) → flat_map f ks ≡ flat_map g ks
alike f g same [] = refl
alike f g same (k ∷ ks) = rw (same k, alike f g same ks) refl

-- ---- bytes

low : (byte more : ℕ) → byte < 256 → (byte + 256 * more) % 256 ≡ byte
low byte more small = omega (arith, small)

high : (byte more : ℕ) → byte < 256 → (byte + 256 * more) / 256 ≡ more
high byte more small = omega (arith, small)

-- a store of what a load reads writes the bytes that were read
pub bytes_back : (byte : ℕ → ℕ) → ((place : ℕ) → byte place < 256) → (place count : ℕ)
    → bytes_of count (number_of (bytes_from byte place count)) ≡ bytes_from byte place count
bytes_back byte small place zero = refl
bytes_back byte small place (suc count) =
    rw (
      low (byte place) (number_of (bytes_from byte (place + 1) count)) (small place),
      high (byte place) (number_of (bytes_from byte (place + 1) count)) (small place),
      bytes_back byte small (place + 1) count,
    )
    refl

-- ---- facts

register_fact : Machine → Side → ℕ → Fact
register_fact machine side number = record {
  name = file_letter side ++ decimal number;
  value = slice_index machine.registers (first_of side + number);
}

register_facts : Machine → Side → List Fact
register_facts machine side = map (register_fact machine side) (range_with_len 0 16)

word_fact : Machine → ℕ → Fact
word_fact machine k = record {
  name = address_text machine.base (4 * k);
  value = number_of (bytes_of_word machine k);
}

word_facts : Machine → List Fact
word_facts machine = map (word_fact machine) (range_with_len 0 memory_words)

file_told : (machine : Machine) (side : Side)
    → file_lines machine side ≡ flat_map register_line (register_facts machine side)
unfolding file_lines register_fact register_facts
file_told machine side = sym (through register_line (register_fact machine side) (range_with_len 0 16))

file_kept : (machine : Machine) (side : Side)
    → file machine side ≡ flat_map register_member (register_facts machine side)
unfolding file register_fact register_facts
file_kept machine side = sym (through register_member (register_fact machine side) (range_with_len 0 16))

words_told : (machine : Machine) → word_lines machine memory_words ≡ flat_map word_line (word_facts machine)
unfolding word_lines word_fact word_facts
words_told machine = sym (through word_line (word_fact machine) (range_with_len 0 memory_words))

word_kept : (machine : Machine) → HoldsBytes machine → (k : ℕ) → word machine k ≡ word_member (word_fact machine k)
unfolding word word_fact
word_kept machine small k =
    ap (λ bytes. if number_of (bytes_of_word machine k) == 0 then []
    else key (address_text machine.base (4 * k)) ∷ string (digits bytes) ∷ [])
    (sym (bytes_back (byte_in machine) small (4 * k) 4))

words_kept : (machine : Machine) → HoldsBytes machine
    → words machine memory_words ≡ flat_map word_member (word_facts machine)
unfolding words word_facts
words_kept machine small =
    alike (word machine) (λ k. word_member (word_fact machine k)) (word_kept machine small)
    (range_with_len 0 memory_words)
    ∙ sym (through word_member (word_fact machine) (range_with_len 0 memory_words))

-- ---- the whole

whole_text : (a b words faults : List ℕ) (in_a in_b held : List Fact)
    → a ≡ flat_map register_line in_a → b ≡ flat_map register_line in_b → words ≡ flat_map word_line held
    → a ++ b ++ words ++ faults ≡ flat_map register_line (in_a ++ in_b) ++ flat_map word_line held ++ faults
whole_text a b words faults in_a in_b held is_a is_b is =
    rw (is_a, is_b, is, flat_map-append register_line in_a in_b) refl

whole_document : (a b words faults : List Token) (in_a in_b held : List Fact)
    → a ≡ flat_map register_member in_a → b ≡ flat_map register_member in_b → words ≡ flat_map word_member held
    → (key (codes "registers") ∷ object (a ++ b)) ++ (key (codes "memory") ∷ object words) ++ faults
    ≡ (key (codes "registers") ∷ object (flat_map register_member (in_a ++ in_b)))
    ++ (key (codes "memory") ∷ object (flat_map word_member held)) ++ faults
whole_document a b words faults in_a in_b held is_a is_b is =
    rw (is_a, is_b, is, flat_map-append register_member in_a in_b) refl

pub tell_same : (machine : Machine) → HoldsBytes machine → TellSame (machine_lines machine) (machine_members machine)
unfolding machine_lines registers memory faults
tell_same machine small = record {
  registers = register_facts machine A ++ register_facts machine B;
  words = word_facts machine;
  faults = machine.faults;
  text = whole_text (file_lines machine A) (file_lines machine B) (word_lines machine memory_words)
      (flat_map fault_line machine.faults) (register_facts machine A) (register_facts machine B) (word_facts machine)
      (file_told machine A) (file_told machine B) (words_told machine);
  document = whole_document (file machine A) (file machine B) (words machine memory_words)
      (key (codes "faults") ∷ array (map count machine.faults)) (register_facts machine A) (register_facts machine B)
      (word_facts machine) (file_kept machine A) (file_kept machine B) (words_kept machine small);
}
