-- Where a set's variables and nodes stand. Assumes nothing: these are definitions.
use Rattle.machines.specs.declared.values.Values.{Values}
use Rattle.chart_records.specs.declared.Shape.{Shape}
use Rattle.chart_records.specs.Places.{first_variable}

abbrev pub values_of : Shape → Values
values_of sh = record { first = first_variable sh; variables = sh.variables; nodes = sh.nodes }
