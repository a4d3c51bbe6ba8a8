-- A listing is adopted as itself.
use Rattle.c62_adopt_back.proofs.Common.{nat_tests, arith, ◌≡◌, ℕ, ◌+◌, ◌≤◌, List, [], ◌∷◌, ◌++◌, length, map, Bool}
use Rattle.c62_adopt_back.proofs.Common.{true, false, None, refl, sym, ap, ◌∙◌}
use Rattle.c62_adopt_back.proofs.Common.{subst, append_assoc, append-nil, codes, nat_lt, All, All-tail, AllByRecursion}
use Rattle.c62_adopt_back.proofs.Common.{list_all, Name, operands_of}
use Rattle.c62_adopt_back.proofs.Common.{Packed, all_lines, listing, name_in, Line, cycles_of, Draft, Drafts}
use Rattle.c62_adopt_back.proofs.Common.{all_drafts, no_drafts, cut_at}
use Rattle.std.proofs.lemmas.Bool.{and_parts, le-ltb}
use Rattle.std.proofs.lemmas.List.{take_all}
use Rattle.std.proofs.Common.{Ok}
use Rattle.c62_read.specs.Text.{lines_of}
use Rattle.c62_packet.specs.Packets.{labels_of}
use Rattle.c62_read.specs.Block.{target_stands}
use Rattle.c62_listing.specs.Listing.{text_of}
use Rattle.c62_listing_reader.specs.Laws.{AreShown}
use Rattle.c62_listing_reader.proofs.BlocksLemmas.{HasLines, IsSmall}
use Rattle.c62_listing_reader.proofs.LinesLemmas.{all_allowed}
use Rattle.c62_listing_reader.proofs.TextLengths.{all_length}
use Rattle.c62_listing_reader.proofs.ReadBackLemmas.{IsFit, all_fit, all_placed, all_writable, each, fit}
use Rattle.c62_listing_reader.proofs.ReadBackLemmas.{lines_of as has_lines}
use Rattle.c62_listing_reader.proofs.ReadBackLemmas.{small}
use Rattle.c62_listing_reader.proofs.UntoldLemmas.{are_allowed}
use Rattle.c62_adopt_cut.specs.Flight.{cycles_lacking}
use Rattle.c62_adopt_cut.specs.Text.{Cut, most_bytes, read_below, text_cut}
use Rattle.c62_adopt_spell.specs.Laws.{stays}
use Rattle.c62_adopt_spell.specs.Local.{mark_of, none_above}
use Rattle.c62_adopt_spell.specs.Text.{spelled_text}
use Rattle.c62_adopt_spell.proofs.SpellLemmas.{stay as stay_so}
use Rattle.c62_adopt_code.specs.Code.{code_of, plain_code}
use Rattle.c62_adopt_code.specs.Laws.{is_plain}
use Rattle.c62_adopt_code.proofs.OwnLemmas.{own_code}
use Rattle.c62_adopt.specs.Answer.{IsAdopted, IsAdoptedCut, code_read}
use Rattle.c62_adopt.proofs.CodeLemmas.{adopted_by as adopted_as, short_read}
use Rattle.c62_adopt_back.specs.Laws.{AreParted, IsAdoptedAsItself, ListingsStay}
use Rattle.c62_adopt_back.proofs.Adopted.{ArePlacedIn, IsPlacedIn, taken}
use Rattle.c62_adopt_back.proofs.Alike.{listing_alike}
use Rattle.c62_adopt_back.proofs.Cycles.{IsListed}
use Rattle.c62_adopt_back.proofs.Good.{all_good, all_listed, branch_once}
use Rattle.c62_adopt_back.proofs.Leading.{Leads}
use Rattle.c62_adopt_back.proofs.Own.{all_plain, all_stay}
use Rattle.c62_adopt_back.proofs.Over.{IsFound, IsSettled, none_in_flight, none_lacking}
use Rattle.c62_adopt_back.proofs.Targets.{all_aimed, labels_so}
use Rattle.c62_adopt_back.proofs.Walk.{AreAllPassed, all_lead}
use Rattle.c62_adopt_cut.specs.declared.text.TheConstants.{MOST_BYTES}
use Rattle.c62_op.specs.declared.set.InstructionSet.{InstructionSet}

-- ---- the lines of a text that is made of lines

before_feed : (line rest : List ℕ) → are_allowed line ≡ true → lines_of (line ++ 10 ∷ rest) ≡ line ∷ lines_of rest
before_feed [] rest all = refl
before_feed (b ∷ line) rest all = grind (arith, nat_tests, before_feed line rest)

lines_back : (lines : List (List ℕ)) → list_all are_allowed lines ≡ true → lines_of (text_of lines) ≡ lines
lines_back [] all = refl
lines_back (line ∷ lines) all =
    let parts = and_parts (are_allowed line) (list_all are_allowed lines) all in
    rw (
      append_assoc line (codes "\n") (text_of lines),
      before_feed line (text_of lines) parts.0,
      lines_back lines
          parts.1,
    ) refl

-- what is read of such a text, where its lines lead to these lines and blocks
cut_by : (isa : InstructionSet) (lines : List (List ℕ)) (Is : List Line → Drafts → Type 0)
    (lead : Leads isa [] no_drafts 1 lines Is)
    → list_all are_allowed lines ≡ true
    → length (text_of lines) ≤ MOST_BYTES
    → text_cut isa (text_of lines) ≡ cut_at lead.passed lead.final None
unfolding read_below text_cut
cut_by isa lines Is lead allowed short =
    let fits : nat_lt most_bytes (length (text_of lines)) ≡ false = le-ltb most_bytes (length (text_of lines)) short in
    rw (fits, lines_back lines allowed) (ap (read_below isa [] no_drafts 1) (sym (append-nil lines)) ∙ lead.reads [])

-- ---- all of a block

recursive : {X : Type 0} (P : X → Type 0) (xs : List X) → All P xs → AllByRecursion P xs
recursive P [] all = tt
recursive P (x ∷ xs) all = (all 0 x (omega arith), recursive P xs (All-tail P x xs all))

both : {X : Type 0} (P Q R : X → Type 0) (xs : List X) → ((x : X) → P x → Q x → R x) → AllByRecursion P xs
    → AllByRecursion Q xs → AllByRecursion R xs
both P Q R [] give one other = tt
both P Q R (x ∷ xs) give one other = (give x one.0 other.0, both P Q R xs give one.1 other.1)

module _ (isa : InstructionSet) (packets : List Packed) (shown : AreShown isa packets) (drafts : List Draft)
    (same : map (λ draft. draft.label) drafts ≡ labels_of packets) where
  abbrev name : ℕ → Name
  name = name_in packets

  placed_in : (block : Packed) → IsFit isa packets shown block → ArePlacedIn name drafts block
  placed_in block is =
      recursive (IsPlacedIn name drafts) block.placed
      (all_placed isa packets shown (IsPlacedIn name drafts)
      (λ p written stands. record {
        written = written;
        aimed = all_aimed packets drafts same shown.distinct (operands_of p.insn)
            (and_parts (target_stands (labels_of packets) (operands_of p.insn)) _ stands).0;
      })
      block.placed is.is.as_written is.stand)

  settled : (block : Packed) → IsFit isa packets shown block → IsSettled isa name drafts block
  settled block is = record {
    found = both (IsListed isa name block.cycles) (IsPlacedIn name drafts)
        (IsFound isa name drafts block.cycles) block.placed
        (λ p listed placed. record { listed = listed; found = placed.aimed.found })
        (all_listed isa name block is.is (all_writable isa packets shown block is)) (placed_in block is);
    once = branch_once block is.is;
  }

-- ---- the text

adopted_by : (isa : InstructionSet) (drain : Bool) (text : List ℕ) (cut : Cut) (packets : List Packed)
    → code_read isa text ≡ Ok text
    → text_cut isa text ≡ cut
    → IsAdoptedCut drain cut packets → cycles_lacking cut ≡ 0 → IsAdopted isa drain text packets 0
adopted_by isa drain text cut packets own is adopted none = adopted_as isa drain text text packets 0 own (record {
  cut = subst (λ (c : Cut). IsAdoptedCut drain c packets) (sym is) adopted;
  lacking = sym (ap cycles_lacking is ∙ none);
})

spelled_by : (isa : InstructionSet) (lines : List (List ℕ)) → list_all are_allowed lines ≡ true
    → list_all (stays isa) lines ≡ true
    → spelled_text isa (text_of lines) ≡ text_of lines
unfolding spelled_text
spelled_by isa lines allowed stay =
    rw (lines_back lines allowed, stay_so isa lines (mark_of (text_of lines)) none_above stay) refl

plain_by : (isa : InstructionSet) (lines : List (List ℕ)) → list_all are_allowed lines ≡ true
    → list_all is_plain lines ≡ true
    → length (text_of lines) ≤ MOST_BYTES
    → plain_code isa (text_of lines) ≡ Ok (text_of lines)
unfolding plain_code
plain_by isa lines allowed plain short = rw (lines_back lines allowed, own_code isa lines plain)
    (ap Ok (take_all MOST_BYTES (text_of lines) short))

-- lines that say something without directives and comments are the code of their text
coded_by : (isa : InstructionSet) (lines : List (List ℕ)) → list_all are_allowed lines ≡ true
    → list_all is_plain lines ≡ true
    → list_all (stays isa) lines ≡ true
    → length (text_of lines) ≤ MOST_BYTES → code_read isa (text_of lines) ≡ Ok (text_of lines)
unfolding code_of
coded_by isa lines allowed plain stay short =
    let fits : nat_lt (most_bytes + 1) (length (text_of lines)) ≡ false = le-ltb (most_bytes + 1)
    (length (text_of lines)) (omega (arith, short)) in
    short_read isa (text_of lines) short
    ∙ rw (spelled_by isa lines allowed stay, fits) (plain_by isa lines allowed plain short)

module _ (isa : InstructionSet) (drain : Bool) (packets : List Packed) (shown : AreShown isa packets)
    (parted : AreParted packets) where
  adopted : IsAdoptedAsItself isa drain packets
  adopted =
      let name : ℕ → Name = name_in packets in
      let fits : AllByRecursion (IsFit isa packets shown) packets = fit isa packets shown packets shown.are_blocks
      (all_fit isa packets shown packets shown.closed shown.within) shown.labels shown.begun in
      let lines : List (List ℕ) = all_lines name packets in
      let allowed = all_allowed name packets
      (each isa packets shown (HasLines name) (has_lines isa packets shown) packets fits)
      in
      let short = all_length isa name packets shown.few
      (each isa packets shown (IsSmall isa name) (small isa packets shown) packets fits) in
      let lead = all_lead isa name packets shown.few (all_good isa packets shown fits parted) in
      let drafts : List Draft = all_drafts lead.final in
      let end : ℕ = cycles_of lead.passed in
      let cut : text_cut isa (listing packets) ≡ cut_at lead.passed lead.final None = cut_by isa lines
      (AreAllPassed name packets) lead allowed short in
      let plain = all_plain isa name packets
      (each isa packets shown (IsSmall isa name) (small isa packets shown) packets fits) in
      let stay = all_stay isa name packets
      (each isa packets shown (IsSmall isa name) (small isa packets shown) packets fits) in
      let own : code_read isa (listing packets) ≡ Ok (listing packets) = coded_by isa lines allowed plain stay short in
      let same = labels_so name 0 end drafts packets lead.is.read in
      let settle = each isa packets shown (IsSettled isa name drafts)
      (settled isa packets shown drafts same) packets fits in
      let of = taken name drafts 0 end drafts packets lead.is.read
      (each isa packets shown (ArePlacedIn name drafts) (placed_in isa packets shown drafts same) packets fits)
      shown.are_blocks
      in
      record {
        others = of.others;
        adopted = adopted_by isa drain (listing packets) (cut_at lead.passed lead.final None) of.others own cut
            (record {
              whole = refl;
              over = none_in_flight isa name drafts drain 0 end drafts packets lead.is.read settle;
              blocks = of.blocks;
            }) (none_lacking isa name drafts 0 end drafts packets lead.is.read settle);
        alike = of.alike;
        same = sym (listing_alike packets of.others of.alike);
      }

pub listings_stay : (isa : InstructionSet) (drain : Bool) (packets : List Packed) → ListingsStay isa drain packets
listings_stay isa drain packets shown parted = adopted isa drain packets shown parted
