use mathlib.Core.Path.{sym, ◌∙◌}
use native.Mathlib.Omega.{arith}
use lib.ListN.{get_or-eq_default}
use Rattle.model.specs.AutomataTable.{read_automata}
use Rattle.automata_records.proofs.PlacesRead.{home-is, length-homes}
use Rattle.automata_files.proofs.structure.automaton_at.Goals as goal

pub returns-then-location-shape : goal.returns-then-location-shape
returns-then-location-shape c =
    c.home_of.ensures ∙ sym (home-is c.args.s.now c.args.shape c.requires c.args.location c.if-location-shape.true)

pub returns-else-location-shape : goal.returns-else-location-shape
returns-else-location-shape c =
    sym (get_or-eq_default (read_automata c.args.s.now).homes 0 (omega (arith, length-homes c.args.s.now c.args.shape c.requires, c.if-location-shape.false)))
