use Rattle.automata_steps.proofs.IndexRecords.{room-short, room-long}
use Rattle.automata_steps.proofs.index.with_index.Goals as goal

pub with_links-requires-clause-room : goal.with_links-requires-clause-room
with_links-requires-clause-room g c = room-short _ _ c.requires.accepted.shape c.if-s-le16384.true

pub with_links-requires-else-s-le16384-clause-room : goal.with_links-requires-else-s-le16384-clause-room
with_links-requires-else-s-le16384-clause-room g c = room-long _ _ c.requires.accepted.shape
