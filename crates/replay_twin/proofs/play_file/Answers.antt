-- An index of nothing has its room, and an accepted table's records fit it.
use Rattle.automata_files.proofs.AcceptedByCheck.{accepted-of}
use Rattle.automata_steps.proofs.IndexLinked.{blank}
use Rattle.automata_steps.proofs.IndexRecords.{room-long}
use Rattle.replay_twin.proofs.play_file.Goals as goal

pub index_of-requires-clause-blank : goal.index_of-requires-clause-blank
index_of-requires-clause-blank g c = blank

pub index_of-requires-clause-room_for : goal.index_of-requires-clause-room_for
index_of-requires-clause-room_for g c = room-long _ _ (accepted-of c.args.s.now c.check.result c.check.ensures c.in-Ok.shape c.in-Ok.is).shape
