-- A set whose turns are taken. Assumes nothing: these are definitions.
use Rattle.std.specs.Prelude.{List, ℕ, replicate}
use Rattle.model.specs.Limits.{most_states, most_actions, most_priorities}
use Rattle.model.specs.ChartSet.{read_charts}
use Rattle.chart_records.specs.declared.Shape.{Shape}
use Rattle.chart_records.specs.Accepted.{Accepted}
use Rattle.chart_steps.specs.Tables.{HasRows, HasEnds, HasActions, action_keys}
use Rattle.chart_steps.specs.declared.tables.Tables.{Tables}

-- tables in which nothing is filled yet
abbrev pub no_tables : Tables
no_tables = record {
  rows = replicate most_states (replicate most_priorities 256);
  ends = replicate most_states 0;
  first = replicate action_keys 65535;
  next = replicate most_actions 65535;
}

-- What is known of a set whose turns are taken: it is accepted, and its tables are its own.
pub record Prepared (s : List ℕ) (sh : Shape) (t : Tables) : Type 0 where
  pub accepted : Accepted s sh
  pub has_rows : HasRows (read_charts s) t.rows
  pub has_ends : HasEnds (read_charts s) t.rows t.ends
  pub has_actions : HasActions s sh t.first t.next
