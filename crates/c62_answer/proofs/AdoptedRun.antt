-- Packets run as those that are read of their listing.
use Rattle.std.proofs.Common.{◌≡◌, ℕ, false, List, refl, subst, sym}
use Rattle.c62_packet.specs.Packed.{Packed}
use Rattle.c62_packet.specs.Alike.{AreAlike}
use Rattle.c62_pipe.proofs.AlikeChains.{chain_alike}
use Rattle.c62_listing_reader.specs.Faults.{IsRead}
use Rattle.c62_adopt.proofs.ReadBackLemmas.{adopts_listings}
use Rattle.c62_adopt.proofs.RefusalLemmas.{one_answer}
use Rattle.c62_answer.specs.AdoptedRun.{RunsAsItsListing}
use Rattle.c62_op.specs.declared.set.InstructionSet.{InstructionSet}

pub runs_as_its_listing : (isa : InstructionSet) (text : List ℕ) → RunsAsItsListing isa text
runs_as_its_listing isa text settings course outcome report listing sim is =
    let run = sim.reported in
    let one : sim.packets ≡ is.packets =
    ((one_answer isa false text).adoption sim.packets is.packets 0 0 sim.read is.adopted).0 in
    let back = adopts_listings isa false text is.packets 0 is.adopted in
    let alike : AreAlike sim.packets back.others = subst (λ (packets : List Packed). AreAlike packets back.others)
    (sym one) back.alike in
    record {
      packets = back.others;
      read = subst (λ (t : List ℕ). IsRead isa t back.others) (sym is.listed) back.read;
      same = chain_alike sim.packets back.others run.opening run.opening course.blocks alike refl run.begin.sound
          run.chain run.cycles run.final run.run;
    }
