use Rattle.c62_answer.proofs.answer.document.Goals as goal

pub returns-in-Pack : goal.returns-in-Pack
returns-in-Pack g c = rw c.in-Pack.is c.pack_document.ensures

pub returns-in-Show : goal.returns-in-Show
returns-in-Show g c = rw c.in-Show.is c.show_document.ensures

pub returns-in-ShowListing : goal.returns-in-ShowListing
returns-in-ShowListing g c = rw c.in-ShowListing.is c.show_listing_document.ensures

pub returns-in-ShowPackets : goal.returns-in-ShowPackets
returns-in-ShowPackets g c = rw c.in-ShowPackets.is c.show_packets_document.ensures

pub returns-in-Run : goal.returns-in-Run
returns-in-Run g c = rw c.in-Run.is c.run_document.ensures

pub returns-in-Serial : goal.returns-in-Serial
returns-in-Serial g c = rw c.in-Serial.is c.serial_document.ensures

pub returns-in-Sim : goal.returns-in-Sim
returns-in-Sim g c = rw c.in-Sim.is c.sim_document.ensures

pub returns-in-Exec : goal.returns-in-Exec
returns-in-Exec g c = rw c.in-Exec.is c.exec_document.ensures

pub returns-in-Adopt : goal.returns-in-Adopt
returns-in-Adopt g c = rw c.in-Adopt.is c.adopt_document.ensures

pub returns-in-Check : goal.returns-in-Check
returns-in-Check g c = rw c.in-Check.is c.verdicts_document.ensures

pub returns-in-CheckLoops : goal.returns-in-CheckLoops
returns-in-CheckLoops g c = rw c.in-CheckLoops.is c.loop_verdicts_document.ensures

pub returns-in-RunLoops : goal.returns-in-RunLoops
returns-in-RunLoops g c = rw c.in-RunLoops.is c.loop_report_document.ensures
