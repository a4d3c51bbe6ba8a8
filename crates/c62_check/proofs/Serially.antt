-- Packets that are checked to be the same, block by block.
use Rattle.std.proofs.Common.{arith, ◌≡◌, ℕ, zero, suc, ◌<◌, Bool, true, List, [], ◌∷◌, length, map, Option, Some, refl}
use Rattle.std.proofs.Common.{sym, ap, subst, ◌∙◌}
use Rattle.std.specs.Prelude.{All, slice_get, IsTrue, ◌&&◌}
use Rattle.std.specs.List.{list_all}
use Rattle.std.proofs.lemmas.Bool.{and_parts}
use Rattle.std.proofs.lemmas.List.{length-map}
use Rattle.std.proofs.lemmas.Option.{none-some, same_Some, slice_get_within, get_or_from_slice_get}
use Rattle.c62_read.specs.Block.{Serial, is_block, labels_in}
use Rattle.c62_serial.specs.State.{Machine, IsSound}
use Rattle.c62_packet.specs.Packed.{Packed, IsPacketBlock}
use Rattle.c62_packet.specs.Packets.{labels_of}
use Rattle.c62_packet.specs.Alike.{Unlined, unlined, AreAlike}
use Rattle.c62_pipe.specs.Chain.{ArePacked, IsBlockPacked}
use Rattle.c62_pipe.proofs.Chains.{run_alike}
use Rattle.c62_pipe.proofs.AlikeChains.{chain_alike}
use Rattle.c62_check.specs.declared.verdict.Verdict.{Verdict}
use Rattle.c62_check.specs.declared.verdict.Verdict.TheVariants.{Same, Missing, Extra, TooEarly}
use Rattle.c62_check.specs.Schedule.{IsSchedule}
use Rattle.c62_check.specs.Verdict.{IsVerdict, is_same}
use Rattle.c62_check.specs.Judged.{AreOthers, AreVerdicts, IsOther, all_same}
use Rattle.c62_check.specs.Checked.{IsChecked, HaveNumberings, SaysSame}
use Rattle.c62_check.specs.Serial.{RunAsProgram, CheckedAreSerial}
use Rattle.c62_check.proofs.Lined.{schedules_packed}
use Rattle.c62_check.proofs.Exact.{is_exact}
use Rattle.c62_check.proofs.Others.{same_labels}

-- ---- lists

pub there : {X : Type 0} (xs : List X) (k : ℕ) → k < length xs → (x : X) × (slice_get xs k ≡ Some x)
there [] k lt = absurd (omega (arith, lt))
there (x ∷ xs) zero lt = (x, refl)
there (x ∷ xs) (suc k) lt = there xs k (omega (arith, lt))

all_at : {X : Type 0} (f : X → Bool) (xs : List X) (k : ℕ) (x : X) → list_all f xs ≡ true → slice_get xs k ≡ Some x
    → f x ≡ true
all_at f [] k x all at = absurd (none-some x at)
all_at {X} f (y ∷ ys) zero x all at = subst (λ (z : X). f z ≡ true) (same_Some y x at)
    (and_parts (f y) (list_all f ys) all).0
all_at f (y ∷ ys) (suc k) x all at = all_at f ys k x (and_parts (f y) (list_all f ys) all).1 at

all_by : {X : Type 0} (f : X → Bool) (xs : List X) → ((k : ℕ) (x : X) → slice_get xs k ≡ Some x → f x ≡ true)
    → list_all f xs ≡ true
all_by f [] each = refl
all_by f (x ∷ xs) each =
    ap (λ (b : Bool). b && list_all f xs) (each 0 x refl) ∙ all_by f xs (λ k y at. each (suc k) y at)

pub holds_at : {X : Type 0} (P : X → Type 0) (xs : List X) (k : ℕ) (x : X) → All P xs → slice_get xs k ≡ Some x → P x
holds_at P xs k x all at = subst P (get_or_from_slice_get xs k x x at) (all k x (slice_get_within xs k x at))

-- ---- every block is a schedule

pub as_many : (program : List Serial) (packets : List Packed) → labels_of packets ≡ labels_in program
    → length packets ≡ length program
as_many program packets labels =
    sym (length-map packets (λ (block : Packed). block.label))
    ∙ (ap (λ (ls : List (Option (List ℕ))). length ls) labels ∙ length-map program (λ (block : Serial). block.label))

abbrev AreSchedules : List Serial → List Packed → Type 0
AreSchedules program packets =
    (number : ℕ) (block : Serial) (packed : Packed) → slice_get program number ≡ Some block
    → slice_get packets number ≡ Some packed → IsSchedule block packed

schedule_of : (block : Serial) (packed : Packed) (verdict : Verdict) → is_same verdict ≡ true
    → IsVerdict block packed verdict → IsSchedule block packed
schedule_of block packed Same e says = says
schedule_of block packed (Missing line) e says = absurd cc
schedule_of block packed (Extra line) e says = absurd cc
schedule_of block packed (TooEarly early) e says = absurd cc

are_schedules : (program : List Serial) (packets : List Packed) (verdicts : List Verdict)
    → AreVerdicts program packets verdicts → list_all is_same verdicts ≡ true
    → AreSchedules program packets
are_schedules program packets verdicts are all number block packed at_block at_packed =
    let within = slice_get_within program number block at_block in
    let beside = slice_get_within packets number packed at_packed in
    let count = are.count in
    let own = there verdicts number (omega (arith, within, beside, count)) in
    schedule_of block packed own.0 (all_at is_same verdicts number own.0 all own.1)
    (are.each number block packed own.0 at_block at_packed own.1)

-- ---- they run as the program

pub record AreLined (program : List Serial) (packets : List Packed) : Type 0 where
  pub lined : List Packed
  pub alike : AreAlike packets lined
  pub are_packed : ArePacked program lined

packed_more : (block : Serial) (program : List Serial) (packed : Packed) (packets : List Packed)
    → IsBlockPacked block packed → ArePacked program packets
    → ArePacked (block ∷ program) (packed ∷ packets)
packed_more block program packed packets one rest = record { count = ap suc rest.count; each = each }
  where
    each : (number : ℕ) (b : Serial) (p : Packed) → slice_get (block ∷ program) number ≡ Some b
        → slice_get (packed ∷ packets) number ≡ Some p → IsBlockPacked b p
    each zero b p at_b at_p =
        subst (λ (x : Serial). IsBlockPacked x p) (same_Some block b at_b)
        (subst (λ (x : Packed). IsBlockPacked block x) (same_Some packed p at_p) one)
    each (suc number) b p at_b at_p = rest.each number b p at_b at_p

are_lined : (program : List Serial) (packets : List Packed) → length packets ≡ length program
    → AreSchedules program packets → AreLined program packets
are_lined [] [] many all = record {
  lined = [];
  alike = refl;
  are_packed = record
      { count = refl; each = λ number block packed at_block at_packed. absurd (none-some block at_block) };
}
are_lined [] (packed ∷ packets) many all = absurd (omega (arith, many))
are_lined (block ∷ program) [] many all = absurd (omega (arith, many))
are_lined (block ∷ program) (packed ∷ packets) many all =
    let one = schedules_packed block packed (all 0 block packed refl refl) in
    let rest = are_lined program packets (omega (arith, many)) (λ number b p at_b at_p. all (suc number) b p at_b at_p)
    in
    record {
      lined = one.lined ∷ rest.lined;
      alike = ap (λ (u : Unlined). u ∷ map unlined packets) one.alike
          ∙ ap (λ (us : List Unlined). unlined one.lined ∷ us) rest.alike;
      are_packed = packed_more block program one.lined rest.lined one.is rest.are_packed;
    }

run_as : (program : List Serial) (lined packets : List Packed) (opening : Machine) (limit : ℕ) → AreAlike packets lined
    → ArePacked program lined → IsSound opening
    → RunAsProgram program lined packets opening limit
run_as program lined packets opening limit alike are sound = record {
  packed = λ chain final runs.
      (let one = (run_alike program lined opening final limit chain are sound).packed runs in
      let other = chain_alike lined packets opening opening limit (sym alike) refl sound chain one.0 final one.1 in (
        one.0,
        other.left,
        other.runs,
        record {
          machine = other.machine;
          places = other.places;
          faulted = other.faulted;
          others_faulted =
              other.others_faulted;
        },
      ));
  serial = λ chain cycles left runs.
      (let other = chain_alike packets lined opening opening limit alike refl sound chain cycles left runs in (
        other.left,
        (run_alike program lined opening other.left limit chain are sound).serial cycles other.runs,
        record {
          machine = sym other.machine;
          places = other.places;
          faulted = other.others_faulted;
          others_faulted =
              other.faulted;
        },
      ));
}

-- ---- where all is the same

-- then no block differs, and each verdict is that the packets are a schedule
parts_same : (others : List ℕ) (verdicts : List Verdict) → all_same others verdicts ≡ true
    → (others ≡ []) × (list_all is_same verdicts ≡ true)
parts_same [] verdicts e = (refl, e)
parts_same (number ∷ others) verdicts e = absurd cc

-- blocks and labels are the same, and each block's packets are a schedule of it
record AreAllSame (program : List Serial) (packets : List Packed) : Type 0 where
  pub labels : labels_of packets ≡ labels_in program
  pub schedules : AreSchedules program packets

all_are_same : (program : List Serial) (packets : List Packed) (text : List ℕ) (same : Bool)
    → IsChecked program packets text same → same ≡ true → AreAllSame program packets
all_are_same program packets text same checked e =
    let parts = parts_same checked.others checked.verdicts (sym checked.all ∙ e) in
    record {
      labels = same_labels program packets (subst (AreOthers program packets) parts.0 checked.judged.are_others);
      schedules = are_schedules program packets checked.verdicts checked.judged.are_verdicts parts.1;
    }

pub checked_are_serial : (program : List Serial) (packets : List Packed) (text : List ℕ)
    → CheckedAreSerial program packets text
checked_are_serial program packets text checked =
    let all = all_are_same program packets text true checked refl in
    let made = are_lined program packets (as_many program packets all.labels) all.schedules in
    record {
      lined = made.lined;
      alike = made.alike;
      are_packed = made.are_packed;
      run = λ opening limit sound. run_as program made.lined packets opening limit made.alike made.are_packed sound;
    }

-- ---- exactly where some numbering is

numberings : (program : List Serial) (packets : List Packed) (text : List ℕ) (same : Bool)
    → IsChecked program packets text same → same ≡ true → HaveNumberings program packets
numberings program packets text same checked so =
    let all = all_are_same program packets text same checked so in
    record {
      labels = all.labels;
      numbered = λ number block packed at_block at_packed.
          (let schedule = all.schedules number block packed at_block at_packed in
          (schedule.numbered, schedule.numbering));
    }

same_is : (verdict : Verdict) → verdict ≡ Same → is_same verdict ≡ true
same_is verdict e = ap is_same e

-- where the labels are the same no block differs
none_other : (program : List Serial) (packets : List Packed) (others : List ℕ) (verdicts : List Verdict)
    → labels_of packets ≡ labels_in program → AreOthers program packets others → list_all is_same verdicts ≡ true
    → all_same others verdicts ≡ true
none_other program packets [] verdicts labels are all = all
none_other program packets (number ∷ others) verdicts labels are all =
    let first : IsOther program packets number = are.differ 0 number (omega arith) in
    absurd (first (ap (λ (ls : List (Option (List ℕ))). slice_get ls number) labels))

is_the_same : (program : List Serial) (packets : List Packed) (text : List ℕ) (same : Bool)
    → All (λ block. IsTrue (is_block block.insns)) program → All IsPacketBlock packets
    → IsChecked program packets text same → HaveNumberings program packets → same ≡ true
is_the_same program packets text same sound lawful checked have =
    let verdicts = checked.verdicts in
    let are = checked.judged.are_verdicts in
    checked.all ∙ none_other program packets checked.others verdicts have.labels checked.judged.are_others
    (all_by is_same verdicts (λ number verdict at. (
    let within = slice_get_within verdicts number verdict at in
    let count = are.count in
    let block = there program number (omega (arith, within, count)) in
    let packed = there packets number (omega (arith, within, count)) in
    let says = are.each number block.0 packed.0 verdict block.1 packed.1 at in
    same_is verdict
    ((is_exact block.0 packed.0 verdict
    (holds_at (λ (b : Serial). IsTrue (is_block b.insns)) program number block.0 sound block.1)
    (holds_at IsPacketBlock packets number packed.0 lawful packed.1) says).1
    (have.numbered number block.0 packed.0 block.1 packed.1)))))

pub says_same : (program : List Serial) (packets : List Packed) (text : List ℕ) (same : Bool)
    → SaysSame program packets text same
says_same program packets text same sound lawful checked =
    (numberings program packets text same checked, is_the_same program packets text same sound lawful checked)
