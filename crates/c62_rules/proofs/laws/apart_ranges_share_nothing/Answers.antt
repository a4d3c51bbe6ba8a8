use Rattle.c62_rules.proofs.Ranges.{apart-share-nothing, meet-in-a-byte}
use Rattle.c62_rules.proofs.laws.apart_ranges_share_nothing.Goals as goal

pub returns-clause-apart : goal.returns-clause-apart
returns-clause-apart c = apart-share-nothing

pub returns-clause-meet : goal.returns-clause-meet
returns-clause-meet c = meet-in-a-byte
