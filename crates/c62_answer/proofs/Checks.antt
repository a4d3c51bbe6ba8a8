-- A check of the front of an input is one of the whole.
use Rattle.std.proofs.Common.{◌≡◌, ◌∙◌, ℕ, ◌+◌, ◌-◌, ◌<◌, ◌≤◌, Bool, false, List, [], ◌∷◌, ◌++◌, length, take, drop}
use Rattle.std.proofs.Common.{Result, refl, sym, ap, subst, arith, append_assoc, append-nil, inl, inr, ◌⊎◌}
use Rattle.std.specs.Prelude.{codes, IsErrAnd}
use Rattle.std.proofs.Math.Seq.{take-append-add}
use Rattle.std.proofs.Math.ListN.{drop_of_length-le}
use Rattle.std.proofs.lemmas.Bool.{cases_lt}
use Rattle.std.proofs.lemmas.List.{length-append, length-take, take-append-drop, take-append-le, take_all}
use Rattle.c62_line.specs.declared.fault.Cause.TheVariants.{TextTooLong}
use Rattle.c62_read.specs.Program.{BlockParts, Refusal}
use Rattle.c62_listing_reader.specs.Faults.{drafts_in as listed_in}
use Rattle.c62_packet.specs.Packed.{Packed}
use Rattle.c62_answer.specs.Message.{fault_message, of_text}
use Rattle.c62_answer.specs.Parting.{IsCut, IsEnded, IsParted}
use Rattle.c62_adopt.specs.Answer.{code_read}
use Rattle.c62_adopt.proofs.CodeLemmas.{adopted_same, code_read-take, refuses_same as packets_refused}
use Rattle.c62_command.specs.declared.command.Form.{Form}
use Rattle.c62_command.specs.declared.command.Form.TheVariants.{Listed, Written}
use Rattle.c62_answer.specs.Texts.{IsNoProgram, SaysNoPackets, SaysPackets}
use Rattle.c62_answer.specs.Check.{HasFaultyListing, HasFaultyText, IsCheck, IsEndless, IsNoCheck}
use Rattle.c62_answer.specs.Check.IsNoCheck.{Endless, FaultyListing, FaultyText, Unparted}
use Rattle.c62_answer.proofs.TooLong.{read_same, refuses_same, short_said, too_long, too_long_listing}
use Rattle.c62_read.specs.Program.{most_bytes}
use Rattle.c62_listing_reader.specs.Faults.{most_bytes as most_listing_bytes}
use Rattle.c62_adopt_cut.specs.Text.{most_bytes as most_packets_bytes}
use Rattle.c62_op.specs.declared.set.InstructionSet.{InstructionSet}

-- a line that ends in front of more bytes, unless it ends with the input
ended_more : (end rest more : List ℕ) → IsEnded end rest → ((end ≡ []) → more ≡ [])
    → IsEnded (end ++ more) (rest ++ more)
ended_more end rest more (inl feed) only = inl (ap (λ (xs : List ℕ). xs ++ more) feed)
ended_more end rest more (inr (inl feed)) only = inr (inl (ap (λ (xs : List ℕ). xs ++ more) feed))
ended_more end rest more (inr (inr none)) only = rw (none.0, none.1, only none.0) (inr (inr (refl, refl)))

-- where there is room for its end, a line ends in the front too
ended_front : (end rest : List ℕ) (room : ℕ) → 2 ≤ room → IsEnded end rest → (other : List ℕ)
    × IsEnded (take room end) other
ended_front end rest room enough (inl feed) =
    let size : room ≡ 1 + (room - 1) = omega (arith, enough) in (
      take (room - 1) rest,
      inl (ap (λ (xs : List ℕ). take room xs) feed ∙ ap (λ (n : ℕ). take n (10 ∷ rest)) size
          ∙ take-append-add (10 ∷ []) rest (room - 1)),
    )
ended_front end rest room enough (inr (inl feed)) =
    let size : room ≡ 2 + (room - 2) = omega (arith, enough) in (
      take (room - 2) rest,
      inr (inl (ap (λ (xs : List ℕ). take room xs) feed ∙ ap (λ (n : ℕ). take n (13 ∷ 10 ∷ rest)) size
          ∙ take-append-add (13 ∷ 10 ∷ []) rest (room - 2))),
    )
ended_front end rest room enough (inr (inr none)) =
    ([], inr (inr (ap (λ (xs : List ℕ). take room xs) none.0 ∙ take_all room [] (omega arith), refl)))

-- how long a cut is
module _ {input text listing : List ℕ} (cut : IsCut input text listing) where
  cut_length : length input ≡ length text + 3 + length cut.begun.end
  cut_length =
      let all : length input ≡ length text + length cut.behind = ap length cut.whole ∙ length-append text cut.behind in
      let line : length cut.behind ≡ 3 + length cut.begun.end = ap length cut.begun.whole
      ∙ length-append (codes "---") cut.begun.end in
      omega (arith, all, line)

  end_length : length cut.begun.end ≤ 2 + length listing
  end_length = go cut.begun.ended
    where
      go : IsEnded cut.begun.end listing → length cut.begun.end ≤ 2 + length listing
      go (inl feed) = let size : length cut.begun.end ≡ 1 + length listing = ap length feed
          ∙ length-append (10 ∷ []) listing in omega (arith, size)
      go (inr (inl feed)) = let size : length cut.begun.end ≡ 2 + length listing = ap length feed
          ∙ length-append (13 ∷ 10 ∷ []) listing in omega (arith, size)
      go (inr (inr none)) = let size : length cut.begun.end ≡ 0 = ap length none.0 in omega (arith, size)

-- the most bytes of a text and packets with the longest line between them
abbrev pub most_parted : ℕ
most_parted = most_bytes + 5 + most_packets_bytes

module _ (isa : InstructionSet) (all : List ℕ) (n : ℕ) (enough : most_parted + 1 ≤ n) where
  -- what is left out, if anything is
  left_out : length (take n all) < n → drop n all ≡ []
  left_out less = let size = length-take n all in drop_of_length-le all (omega (arith, less, size))

  -- a text that isn't too long is parted off the whole as off the front
  cut_of_front : (text listing : List ℕ) → IsCut (take n all) text listing → length text ≤ most_bytes
      → IsCut all text (listing ++ drop n all)
  cut_of_front text listing cut short =
      let more : List ℕ = drop n all in
      let end : List ℕ = cut.begun.end in
      let size = cut_length cut in
      let only : (end ≡ [])
      → more ≡ [] = λ none.
      (let nothing : length end ≡ 0 = ap length none in left_out (omega (arith, size, nothing, short, enough)))
      in
      record {
        lines = cut.lines;
        behind = cut.behind ++ more;
        begun = record {
          end = end ++ more;
          ended = ended_more end listing more cut.begun.ended only;
          whole = ap (λ (xs : List ℕ). xs ++ more) cut.begun.whole ∙ append_assoc (codes "---") end more;
        };
        whole = sym (take-append-drop n all) ∙ ap (λ (xs : List ℕ). xs ++ more) cut.whole
            ∙ append_assoc text cut.behind more;
      }

  cut_in_front : (text listing : List ℕ) → IsCut all text listing → length text ≤ most_bytes → (other : List ℕ)
      × IsCut (take n all) text other
  cut_in_front text listing cut short =
      let end : List ℕ = cut.begun.end in
      let room : ℕ = n - length text - 3 in
      let size : n ≡ length text + (3 + room) = omega (arith, short, enough) in
      let fed = ended_front end listing room (omega (arith, short, enough)) cut.begun.ended in (
        fed.0,
        record {
          lines = cut.lines;
          behind = codes "---" ++ take room end;
          begun = record { end = take room end; ended = fed.1; whole = refl };
          whole =
              ap (λ (xs : List ℕ). take n xs) cut.whole
              ∙ ap (λ (k : ℕ). take k (text ++ cut.behind)) size
              ∙ take-append-add text cut.behind (3 + room)
              ∙ ap (λ (xs : List ℕ). text ++ take (3 + room) xs) cut.begun.whole
              ∙ ap (λ (xs : List ℕ). text ++ xs) (take-append-add (codes "---") end room);
        },
      )

  pub parted_of_front : (text listing : List ℕ) → IsParted (take n all) text listing → length text ≤ most_bytes
      → IsParted all text (listing ++ drop n all)
  parted_of_front text listing parted short = record {
    cut = cut_of_front text listing parted.cut short;
    first = λ other rest cut. elim (cases_lt (length other) (length text)) [
      | inl less ↦
          let front = cut_in_front other rest cut (omega (arith, less, short)) in
          let least = parted.first other front.0 front.1 in
          absurd (omega (arith, less, least))
      | inr more ↦ more
    ];
  }

  -- the listing says as much in the front
  same_listing : (text listing : List ℕ) → IsCut (take n all) text listing → length text ≤ most_bytes
      → listed_in isa listing ≡ listed_in isa (listing ++ drop n all)
  same_listing text listing cut short =
      let size = cut_length cut in
      let ends = end_length cut in
      elim (cases_lt (length (take n all)) n) [
        | inl whole ↦ ap (listed_in isa) (sym (append-nil listing)
            ∙ ap (λ (xs : List ℕ). listing ++ xs) (sym (left_out whole)))
        | inr full ↦
            let long : most_listing_bytes < length listing = omega (arith, size, ends, full, short, enough) in
            let more = length-append listing (drop n all) in
            too_long_listing isa listing long
            ∙ sym (too_long_listing isa (listing ++ drop n all) (omega (arith, long, more)))
      ]

  -- and so do packets as they are written
  pub same_code : (text listing : List ℕ) → IsCut (take n all) text listing → length text ≤ most_bytes
      → code_read isa listing ≡ code_read isa (listing ++ drop n all)
  same_code text listing cut short =
      let size = cut_length cut in
      let ends = end_length cut in
      elim (cases_lt (length (take n all)) n) [
        | inl whole ↦ ap (code_read isa) (sym (append-nil listing)
            ∙ ap (λ (xs : List ℕ). listing ++ xs) (sym (left_out whole)))
        | inr full ↦
            let long : most_packets_bytes + 1 ≤ length listing = omega (arith, size, ends, full, short, enough) in
            sym (code_read-take isa listing)
            ∙ ap (code_read isa) (sym (take-append-le (most_packets_bytes + 1) listing (drop n all) long))
            ∙ code_read-take isa (listing ++ drop n all)
      ]

  pub says_all : (form : Form) (text listing : List ℕ) (packets : List Packed) → IsCut (take n all) text listing
      → length text ≤ most_bytes
      → SaysPackets isa form listing packets → SaysPackets isa form (listing ++ drop n all) packets
  says_all Listed text listing packets cut short is = read_same isa listing (listing ++ drop n all) packets
      (same_listing text listing cut short) is
  says_all Written text listing packets cut short is = adopted_same isa false listing (listing ++ drop n all) packets 0
      (same_code text listing cut short) is

  none_all : (form : Form) (text listing message : List ℕ) → IsCut (take n all) text listing → length text ≤ most_bytes
      → SaysNoPackets isa form listing message → SaysNoPackets isa form (listing ++ drop n all) message
  none_all Listed text listing message cut short is = record {
    fault = is.fault;
    known = is.known;
    refused = refuses_same isa listing (listing ++ drop n all) is.fault
        (same_listing text listing cut short) is.refused;
    told = is.told;
  }
  none_all Written text listing message cut short is = record {
    fault = is.fault;
    known = is.known;
    refused = packets_refused isa false listing (listing ++ drop n all) is.fault (same_code text listing cut short)
        is.refused;
    told = is.told;
  }

  -- ---- checks

  unfoldable pub check_all : (form : Form) (same : Bool) (answer : List ℕ) → IsCheck isa form (take n all) same answer
      → IsCheck isa form all same answer
  check_all form same answer is =
      let short = short_said isa is.text is.program is.says in
      record {
        text = is.text;
        listing = is.listing ++ drop n all;
        parted = parted_of_front is.text is.listing is.parted short;
        program = is.program;
        says = is.says;
        packets = is.packets;
        read = says_all form is.text is.listing is.packets is.parted.cut short is.read;
        checked = is.checked;
        serial = is.serial;
      }

  pub taken_short : length (take n all) ≤ most_bytes → take n all ≡ all
  taken_short short = let size = length-take n all in take_all n all (omega (arith, short, size, enough))

  -- where no text that isn't too long is parted off the front, none is off the whole
  endless_all : (least : ℕ) → most_bytes < least → least ≤ length (take n all)
      → ((text listing : List ℕ) → IsCut (take n all) text listing → most_bytes < length text) → IsEndless all
  endless_all least long within none =
      let size = length-take n all in
      record {
        long = omega (arith, long, within, size);
        none = λ text listing cut. elim (cases_lt most_bytes (length text)) [
          | inl more ↦ more
          | inr short ↦ let front = cut_in_front text listing cut short in absurd
              (omega (arith, short, none text front.0 front.1))
        ];
      }

  -- a text that is too long in the front is so in the whole
  long_all : (text listing message : List ℕ) → IsParted (take n all) text listing → most_bytes < length text
      → IsNoProgram isa text message → IsEndless all × (message ≡ fault_message 0 TextTooLong)
  long_all text listing message parted long is =
      let size = cut_length parted.cut in (
        endless_all (length text) long (omega (arith, size))
            (λ other rest cut. let least = parted.first other rest cut in omega (arith, long, least)),
        subst (λ (p : Result (List BlockParts) Refusal). IsErrAnd p (λ fault. message ≡ fault_message fault.0 fault.1))
            (too_long isa text long) is,
      )

  pub faulty_text_front : (message : List ℕ) → HasFaultyText isa (take n all) message
      → (IsEndless all × (message ≡ of_text (fault_message 0 TextTooLong))) ⊎ HasFaultyText isa all message
  faulty_text_front message is =
      elim (cases_lt most_bytes (length is.text)) [
        | inl long ↦ let endless = long_all is.text is.listing is.fault is.parted long is.refused in inl
            (endless.0, is.told ∙ ap of_text endless.1)
        | inr short ↦ inr (record {
          text = is.text;
          listing = is.listing ++ drop n all;
          parted = parted_of_front is.text is.listing is.parted short;
          fault = is.fault;
          refused = is.refused;
          told = is.told;
        })
      ]

  faulty_text_all : (form : Form) (message : List ℕ) → HasFaultyText isa (take n all) message
      → IsNoCheck isa form all message
  faulty_text_all form message is = elim (faulty_text_front message is) [
    | inl endless ↦ Endless endless.0 endless.1
    | inr faulty ↦ FaultyText faulty
  ]

  faulty_listing_all : (form : Form) (message : List ℕ) → HasFaultyListing isa form (take n all) message
      → IsNoCheck isa form all message
  faulty_listing_all form message is =
      let short = short_said isa is.text is.program is.says in
      FaultyListing (record {
        text = is.text;
        listing = is.listing ++ drop n all;
        parted = parted_of_front is.text is.listing is.parted short;
        program = is.program;
        says = is.says;
        fault = is.fault;
        refused = none_all form is.text is.listing is.fault is.parted.cut short is.refused;
        told = is.told;
      })

  pub endless_front : IsEndless (take n all) → IsEndless all
  endless_front endless = endless_all (length (take n all)) endless.long (omega arith) endless.none

  pub no_check_all : (form : Form) (message : List ℕ) → IsNoCheck isa form (take n all) message
      → IsNoCheck isa form all message
  no_check_all form message (Endless endless told) = Endless (endless_front endless) told
  no_check_all form message (Unparted unparted told) = subst (λ (xs : List ℕ). IsNoCheck isa form xs message)
      (taken_short unparted.short) (Unparted unparted told)
  no_check_all form message (FaultyText is) = faulty_text_all form message is
  no_check_all form message (FaultyListing is) = faulty_listing_all form message is
