-- Packets that are alike but for lines have the same chain.
use Rattle.std.proofs.Common.{◌≡◌, ℕ, ◌<◌, true, false, List, [], ◌∷◌, length, map, get_or, slice_get, Some, refl}
use Rattle.std.proofs.Common.{sym, ◌∙◌, ap, subst, ◌⊎◌, inl, inr, arith}
use Rattle.std.specs.Prelude.{◌↔◌, ◌==◌, ◌&&◌, ◌||◌, Contains}
use Rattle.std.proofs.lemmas.Bool.{or_cases, or_left, or_right, and_parts, and_from, eqb-true, eq-eqb}
use Rattle.std.proofs.lemmas.List.{get_or_default, length-map}
use Rattle.std.proofs.lemmas.Option.{slice_get-get_or, get_or_from_slice_get, slice_get_within}
use Rattle.std.proofs.Math.ListN.{get_or-map}
use Rattle.c62_serial.specs.declared.serial.Exit.{Exit}
use Rattle.c62_serial.specs.State.{Machine, IsSound}
use Rattle.c62_serial.specs.Effect.{Act, is_fault, no_act}
use Rattle.c62_serial.specs.Serial.{Ran}
use Rattle.c62_serial.specs.Chain.{Position, Leads, position_at, position_after}
use Rattle.c62_packet.specs.declared.placed.Placed.{Placed}
use Rattle.c62_packet.specs.Packed.{Packed}
use Rattle.c62_packet.specs.Alike.{Unlined, unlined, AreAlike}
use Rattle.c62_meaning.specs.Packet.{Did}
use Rattle.c62_meaning.specs.Meaning.{HasFaulted, IsMeaning}
use Rattle.c62_meaning.specs.Alike.{without_faults, AreSameButFaults}
use Rattle.c62_meaning.proofs.SerialPackets.{has_one_meaning}
use Rattle.c62_meaning.proofs.AlikeRuns.{mean_alike}
use Rattle.c62_pipe.specs.Chain.{no_block, block_of, packet_blocks, cycles_taken}
use Rattle.c62_pipe.specs.Alike.{Places, StandsIn, HaveFaulted, ChainAlike}

-- blocks of one number are alike
block_alike : (packets others : List Packed) (number : ℕ) → AreAlike packets others
    → unlined (block_of packets number) ≡ unlined (block_of others number)
block_alike packets others number alike =
    sym (get_or-map unlined packets number no_block)
    ∙ ap (λ (blocks : List Unlined). get_or blocks number (unlined no_block)) alike
    ∙ get_or-map unlined others number no_block

-- ---- places that fault

abbrev no_place : Places
no_place number position = false

-- places, and those of a block whose instructions did this
abbrev with_block : Places → ℕ → List Act → Places
with_block places number acts other position = places other position ||
    (other == number && is_fault (get_or acts position no_act).access)

-- nothing ran
none_faulted : (packets : List Packed) (opening final : Machine) → final ≡ opening
    → HaveFaulted packets no_place opening final
none_faulted packets opening final e line = grind arith

-- one block ran, and then the rest
record RanFirst (packets : List Packed) (number : ℕ) (did : Did) (acts : List Act) (places : Places)
    (opening next final : Machine) : Type 0 where
  pub acted : map did (block_of packets number).placed ≡ acts
  pub first : (line : ℕ)
      → Contains next.faults line ↔ (Contains opening.faults line
      ⊎ HasFaulted (block_of packets number).placed did line)
  pub rest : HaveFaulted packets places next final

act_at : (did : Did) (block : List Placed) (acts : List Act) (i : ℕ) (p : Placed) → map did block ≡ acts
    → i < length block → get_or block i p ≡ p → get_or acts i no_act ≡ did p
act_at did block acts i p acted l e =
    let inside : i < length acts = omega (arith, ap (λ (xs : List Act). length xs) acted, length-map block did) in
    get_or_default acts i no_act (did p) inside ∙ ap (λ (xs : List Act). get_or xs i (did p)) (sym acted)
    ∙ get_or-map did block i p ∙ ap did e

first_places : (packets : List Packed) (number : ℕ) (did : Did) (acts : List Act) (places : Places)
    (opening next final : Machine) (line : ℕ)
    → RanFirst packets number did acts places opening next final → HasFaulted (block_of packets number).placed did line
    → StandsIn packets (with_block places number acts) line
first_places packets number did acts places opening next final line ran h =
    let block : List Placed = (block_of packets number).placed in
    let k : ℕ = h.inside.0 in
    let l : k < length block = h.inside.1 in
    let e : get_or block k h.placed ≡ h.placed = h.inside.2 in
    record {
      number = number;
      position = k;
      placed = h.placed;
      stands = slice_get-get_or block k h.placed l ∙ ap Some e;
      of_line = h.of_line;
      inside = or_right (places number k) _ (and_from _ _ (eq-eqb number number refl)
          (subst (λ (act : Act). is_fault act.access ≡ true) (sym (act_at did block acts k h.placed ran.acted l e))
          h.faults));
    }

later_places : (packets : List Packed) (number : ℕ) (acts : List Act) (places : Places) (line : ℕ)
    → StandsIn packets places line → StandsIn packets (with_block places number acts) line
later_places packets number acts places line s = record {
  number = s.number;
  position = s.position;
  placed = s.placed;
  stands = s.stands;
  of_line = s.of_line;
  inside = or_left (places s.number s.position) _ s.inside;
}

which_places : (packets : List Packed) (number : ℕ) (did : Did) (acts : List Act) (places : Places)
    (opening next final : Machine) (line : ℕ)
    → RanFirst packets number did acts places opening next final → StandsIn packets (with_block places number acts) line
    → HasFaulted (block_of packets number).placed did line ⊎ StandsIn packets places line
which_places packets number did acts places opening next final line ran s = elim
    (or_cases (places s.number s.position) _ s.inside) [
      | inl h ↦ inr (record {
        number = s.number;
        position = s.position;
        placed = s.placed;
        stands = s.stands;
        of_line = s.of_line;
        inside = h;
      })
      | inr h ↦ (let both = and_parts (s.number == number) _ h in inl (here (eqb-true s.number number both.0) both.1))
    ]
  where
    here : s.number ≡ number → is_fault (get_or acts s.position no_act).access ≡ true
        → HasFaulted (block_of packets number).placed did line
    here e fault =
        let block : List Placed = (block_of packets number).placed in
        let stands = subst (λ n. slice_get (block_of packets n).placed s.position ≡ Some s.placed) e s.stands in
        let l : s.position < length block = slice_get_within block s.position s.placed stands in
        let at : get_or block s.position s.placed ≡ s.placed = get_or_from_slice_get block s.position s.placed s.placed
        stands in
        record {
          placed = s.placed;
          inside = (s.position, l, at);
          of_line = s.of_line;
          faults = subst (λ (act : Act). is_fault act.access ≡ true)
              (act_at did block acts s.position s.placed ran.acted l at) fault;
        }

more_faulted : (packets : List Packed) (number : ℕ) (did : Did) (acts : List Act) (places : Places)
    (opening next final : Machine)
    → RanFirst packets number did acts places opening next final
    → HaveFaulted packets (with_block places number acts) opening final
more_faulted packets number did acts places opening next final ran line = (
  (λ c. elim ((ran.rest line).0 c) [
    | inl n ↦ elim ((ran.first line).0 n)
        [ inl o ↦ inl o | inr h ↦ inr (first_places packets number did acts places opening next final line ran h) ]
    | inr s ↦ inr (later_places packets number acts places line s)
  ]),
  (λ h. elim h [
    | inl o ↦ (ran.rest line).1 (inl ((ran.first line).1 (inl o)))
    | inr s ↦ elim (which_places packets number did acts places opening next final line ran s) [
      | inl f ↦ (ran.rest line).1 (inl ((ran.first line).1 (inr f)))
      | inr r ↦ (ran.rest line).1 (inr r)
    ]
  ]),
)

-- ---- chains

record LeadTheSame (packets others : List Packed) (opening opening' final : Machine) (position last : Position)
    (numbers : List ℕ) : Type 0 where
  pub left : Machine
  pub leads : Leads (length packets) (packet_blocks others) opening' position numbers left last
  pub machine : AreSameButFaults final left
  pub places : Places
  pub faulted : HaveFaulted packets places opening final
  pub others_faulted : HaveFaulted others places opening' left

lead_alike : (packets others : List Packed) (opening opening' final : Machine) (position last : Position)
    (numbers : List ℕ) → AreAlike packets others
    → AreSameButFaults opening opening' → IsSound opening'
    → Leads (length packets) (packet_blocks packets) opening position numbers final last
    → LeadTheSame packets others opening opening' final position last numbers
unfolding Leads
lead_alike packets others opening opening' final position last [] alike same sound leads = record {
  left = opening';
  leads = (refl, leads.1);
  machine = ap without_faults leads.0 ∙ same;
  places = no_place;
  faulted = none_faulted packets opening final leads.0;
  others_faulted = none_faulted others opening' opening' refl;
}
lead_alike packets others opening opening' final position last (number ∷ numbers) alike same sound leads =
    let block : Packed = block_of packets number in
    let other : Packed = block_of others number in
    let e : unlined block ≡ unlined other = block_alike packets others number alike in
    let ran : Ran = leads.1 in
    let one : IsMeaning block.placed block.cycles opening ran = leads.2 in
    let meaning = has_one_meaning other.placed block.cycles opening' sound in
    let both = mean_alike block.placed other.placed block.cycles (ap (λ (u : Unlined). u.issues) e) opening opening' ran
    meaning.ran same one meaning.is in
    let rest = lead_alike packets others ran.machine meaning.ran.machine final
    (position_after (length packets) number ran.exit) last numbers alike both.machine
    meaning.is.leaves.state.sound leads.3 in
    let Does : ℕ → Type 0 = λ cycles. IsMeaning other.placed cycles opening' meaning.ran in
    let From : Exit → Type 0 = λ exit. Leads (length packets) (packet_blocks others) meaning.ran.machine
    (position_after (length packets) number exit) numbers rest.left last in
    let acts : List Act = map one.did block.placed in
    record {
      left = rest.left;
      leads = (
        leads.0,
        meaning.ran,
        subst Does (ap (λ (u : Unlined). u.cycles) e) meaning.is,
        subst From both.exit
            rest.leads,
      );
      machine = rest.machine;
      places = with_block rest.places number acts;
      faulted = more_faulted packets number one.did acts rest.places opening ran.machine final
          (record { acted = refl; first = one.leaves.state.faults; rest = rest.faulted });
      others_faulted = more_faulted others number meaning.is.did acts rest.places opening' meaning.ran.machine rest.left
          (record { acted = sym both.acts; first = meaning.is.leaves.state.faults; rest = rest.others_faulted });
    }

cycles_alike : (packets others : List Packed) (numbers : List ℕ) → AreAlike packets others
    → cycles_taken packets numbers ≡ cycles_taken others numbers
cycles_alike packets others numbers alike = grind (arith, block_alike packets others)

pub chain_alike : (packets others : List Packed) (opening opening' : Machine) (limit : ℕ)
    → ChainAlike packets others opening opening' limit
chain_alike packets others opening opening' limit alike same sound chain cycles final run =
    let count : length packets ≡ length others = sym (length-map packets unlined)
    ∙ ap (λ (us : List Unlined). length us) alike ∙ length-map others unlined in
    let standing = run.standing in
    let both = lead_alike packets others opening opening' standing.machine (position_at (length packets) 0)
    standing.position standing.numbers alike same sound run.whole.stands in
    let Stands : ℕ → Type 0 = λ n. Leads n (packet_blocks others) opening' (position_at n 0) standing.numbers both.left
    standing.position in
    record {
      left = both.left;
      runs = record {
        standing = record { numbers = standing.numbers; machine = both.left; position = standing.position };
        whole = record { stands = subst Stands count both.leads; stopped = run.whole.stopped };
        told = run.told;
        taken = run.taken ∙ cycles_alike packets others standing.numbers alike;
        left = refl;
      };
      machine = ap without_faults run.left ∙ both.machine;
      places = both.places;
      faulted = λ line. (let P : Machine
          → Type 0 = λ m. Contains m.faults line ↔ (Contains opening.faults line
          ⊎ StandsIn packets both.places line) in subst P (sym run.left) (both.faulted line));
      others_faulted = both.others_faulted;
    }
