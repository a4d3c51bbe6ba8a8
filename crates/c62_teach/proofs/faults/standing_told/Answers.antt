use Rattle.c62_teach.proofs.faults.standing_told.Goals as goal

pub returns-in-Listed : goal.returns-in-Listed
returns-in-Listed c = rw c.in-Listed.is c.listing_told.ensures

pub returns-in-Written : goal.returns-in-Written
returns-in-Written c = rw c.in-Written.is c.written_told.ensures
