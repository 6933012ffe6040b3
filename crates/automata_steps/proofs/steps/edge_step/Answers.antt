use Prim.Native.Nat.{◌<◌}
use native.Mathlib.Omega.{arith}
use Rattle.automata_records.proofs.PlacesRead.{most-automata}
use Rattle.automata_steps.proofs.steps.edge_step.Goals as goal

pub bounds-locations-i : goal.bounds-locations-i
bounds-locations-i c =
    let few-automata : c.args.automaton < 8 = omega (arith, c.requires.automaton_lt_automata, most-automata c.args.s.now c.args.shape c.requires.accepted.shape) in
    few-automata

pub take_edge-requires : goal.take_edge-requires
take_edge-requires c =
    let few-automata : c.args.automaton < 8 = omega (arith, c.requires.automaton_lt_automata, most-automata c.args.s.now c.args.shape c.requires.accepted.shape) in
    (c.requires.accepted, c.requires.has_index, few-automata, c.in_ok-e.ensures.choice_in)
