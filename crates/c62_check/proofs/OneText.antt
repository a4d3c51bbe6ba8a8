-- A check tells one text.
use Rattle.std.proofs.Common.{arith, ◌≡◌, ℕ, zero, suc, ◌<◌, ◌≤◌, ◌+◌, ◌&&◌, Bool, true, false, List, [], ◌∷◌, ◌++◌}
use Rattle.std.proofs.Common.{length, Some, refl, sym, ap, subst, ◌∙◌, inl, inr}
use Rattle.std.specs.Prelude.{All, IsTrue, slice_get}
use Rattle.std.specs.List.{flat_map, list_all}
use Rattle.std.proofs.lemmas.Bool.{cases_lt}
use Rattle.std.proofs.lemmas.Option.{slice_get_within}
use Rattle.c62_read.specs.Block.{Serial, is_block, labels_in}
use Rattle.c62_packet.specs.Packed.{Packed, IsPacketBlock}
use Rattle.c62_packet.specs.Packets.{labels_of}
use Rattle.c62_check.specs.declared.early.Early.{Early}
use Rattle.c62_check.specs.declared.verdict.Verdict.{Verdict as Answer}
use Rattle.c62_check.specs.declared.verdict.Verdict.TheVariants.{Same, Missing, Extra, TooEarly}
use Rattle.c62_check.specs.Judged.{AreVerdicts, all_same}
use Rattle.c62_check.specs.Checked.{HasOneText, IsChecked}
use Rattle.c62_check.specs.Lines.{block_line, early_words, lines_from, other_line, told_lines, verdict_lines}
use Rattle.c62_check.specs.Verdict.{IsSameVerdict, is_same}
use Rattle.c62_check.proofs.OneVerdict.{one_verdict}
use Rattle.c62_check.proofs.Others.{same_others}
use Rattle.c62_check.proofs.Serially.{holds_at, there}

same_lines : (number : ℕ) (one other : Answer) → IsSameVerdict one other
    → verdict_lines number one ≡ verdict_lines number other
unfolding verdict_lines
same_lines number Same Same same = refl
same_lines number (Missing line) (Missing other) same = rw same refl
same_lines number (Extra line) (Extra other) same = rw same refl
same_lines number (TooEarly early) (TooEarly others) same = ap (flat_map (λ each. block_line number (early_words each)))
    same
same_lines number Same (Missing other) same = absurd same
same_lines number Same (Extra other) same = absurd same
same_lines number Same (TooEarly others) same = absurd same
same_lines number (Missing line) Same same = absurd same
same_lines number (Missing line) (Extra other) same = absurd same
same_lines number (Missing line) (TooEarly others) same = absurd same
same_lines number (Extra line) Same same = absurd same
same_lines number (Extra line) (Missing other) same = absurd same
same_lines number (Extra line) (TooEarly others) same = absurd same
same_lines number (TooEarly early) Same same = absurd same
same_lines number (TooEarly early) (Missing other) same = absurd same
same_lines number (TooEarly early) (Extra other) same = absurd same

same_word : (one other : Answer) → IsSameVerdict one other → is_same one ≡ is_same other
same_word Same Same same = refl
same_word (Missing line) (Missing other) same = refl
same_word (Extra line) (Extra other) same = refl
same_word (TooEarly early) (TooEarly others) same = refl
same_word Same (Missing other) same = absurd same
same_word Same (Extra other) same = absurd same
same_word Same (TooEarly others) same = absurd same
same_word (Missing line) Same same = absurd same
same_word (Missing line) (Extra other) same = absurd same
same_word (Missing line) (TooEarly others) same = absurd same
same_word (Extra line) Same same = absurd same
same_word (Extra line) (Missing other) same = absurd same
same_word (Extra line) (TooEarly others) same = absurd same
same_word (TooEarly early) Same same = absurd same
same_word (TooEarly early) (Missing other) same = absurd same
same_word (TooEarly early) (Extra other) same = absurd same

abbrev AreAlike : List Answer → List Answer → Type 0
AreAlike ones others = (k : ℕ) (one other : Answer) → slice_get ones k ≡ Some one → slice_get others k ≡ Some other
    → IsSameVerdict one other

alike : (number : ℕ) (ones others : List Answer) → length ones ≡ length others → AreAlike ones others
    → (lines_from number ones ≡ lines_from number others) × (list_all is_same ones ≡ list_all is_same others)
alike number [] [] long are = (refl, refl)
alike number [] (other ∷ others) long are = absurd (omega (arith, long))
alike number (one ∷ ones) [] long are = absurd (omega (arith, long))
alike number (one ∷ ones) (other ∷ others) long are =
    let first = are 0 one other refl refl in
    let rest = alike (number + 1) ones others (omega (arith, long)) (λ k x y at also. are (suc k) x y at also) in
    (rw (same_lines number one other first, rest.0) refl, rw (same_word one other first, rest.1) refl)

all_alike : (others : List ℕ) (ones also : List Answer) → list_all is_same ones ≡ list_all is_same also
    → all_same others ones ≡ all_same others also
all_alike [] ones also e = e
all_alike (number ∷ others) ones also e = refl

module _ (program : List Serial) (packets : List Packed) (blocks : All (λ block. IsTrue (is_block block.insns)) program)
    (sound : All IsPacketBlock packets) where
  verdicts_alike : (ones others : List Answer) → AreVerdicts program packets ones → AreVerdicts program packets others
      → AreAlike ones others
  verdicts_alike ones others a b k one other at also =
      let inside = slice_get_within ones k one at in
      let count = a.count in
      let block = there program k (omega (arith, inside, count)) in
      let packed = there packets k (omega (arith, inside, count)) in
      one_verdict block.0 packed.0 (holds_at (λ each. IsTrue (is_block each.insns)) program k block.0 blocks block.1)
      (holds_at IsPacketBlock packets k packed.0 sound packed.1) one other
      (a.each k block.0 packed.0 one block.1 packed.1 at)
      (b.each k block.0 packed.0 other block.1 packed.1 also)

  one_text_of : (text other : List ℕ) (same also : Bool) → IsChecked program packets text same
      → IsChecked program packets other also
      → (text ≡ other) × (same ≡ also)
  one_text_of text other same also a b =
      let numbers : a.others ≡ b.others = same_others program packets a.others b.others a.judged.are_others b.judged.are_others in
      let both = alike 0 a.verdicts b.verdicts (a.judged.are_verdicts.count ∙ sym b.judged.are_verdicts.count)
      (verdicts_alike a.verdicts b.verdicts a.judged.are_verdicts b.judged.are_verdicts) in
      let listed = labels_of packets in
      let labels = labels_in program in (
        a.told
            ∙ (ap (λ (ns : List ℕ). told_lines listed labels ns a.verdicts) numbers
            ∙ (ap (λ (ls : List ℕ). flat_map (λ n. other_line listed labels n) b.others ++ ls) both.0 ∙ sym b.told)),
        a.all
            ∙ (ap (λ (ns : List ℕ). all_same ns a.verdicts) numbers
            ∙ (all_alike b.others a.verdicts b.verdicts both.1 ∙ sym b.all)),
      )

pub one_text : (program : List Serial) (packets : List Packed) → HasOneText program packets
one_text program packets blocks sound text other same also a b = one_text_of program packets blocks sound text other
    same also a b
