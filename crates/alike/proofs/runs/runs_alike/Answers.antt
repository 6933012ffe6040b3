use Rattle.automata_records.proofs.PlacesRead.{most-automata}
use Rattle.alike.proofs.runs.runs_alike.Goals as goal

pub places_alike-requires : goal.places_alike-requires
places_alike-requires c = most-automata c.args.t.now c.args.shape c.requires.shape
