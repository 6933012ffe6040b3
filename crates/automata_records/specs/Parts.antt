-- The trigger of a literal, which the code has as an enum, in the words of the model. Assumes nothing: these are definitions.
use Rattle.model.specs.AutomataTable as M
use Rattle.automata_records.specs.declared.fields.LiteralTrigger.{LiteralTrigger}
use Rattle.automata_records.specs.declared.fields.LiteralTrigger.TheVariants.{Always, Event, Clock}

abbrev pub literal_trigger_for : LiteralTrigger → M.LiteralTrigger
literal_trigger_for Always = M.always
literal_trigger_for (Event e) = M.event e
literal_trigger_for (Clock k) = M.clock k
