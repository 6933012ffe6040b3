use Rattle.alike.proofs.Alike.{automaton-in, clock-in}
use Rattle.alike.proofs.runs.literal_alike.Goals as goal

pub bounds-locations-a : goal.bounds-locations-a
bounds-locations-a c = automaton-in c.args.t.now c.args.shape c.args.l _ _ c.literal_edge-e.ensures c.automaton_of-a.ensures c.requires.0 c.requires.1

pub bounds-ages-a : goal.bounds-ages-a
bounds-ages-a c = automaton-in c.args.t.now c.args.shape c.args.l _ _ c.literal_edge-e.ensures c.automaton_of-a.ensures c.requires.0 c.requires.1

pub clock_alike-requires : goal.clock_alike-requires
clock_alike-requires c = (c.requires.0, clock-in c.args.t.now c.args.shape c.requires.0 c.args.l c.requires.1 c.in-Clock.k c.in-Clock.ensures)
