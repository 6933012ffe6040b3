-- What both formats say in the same records: of each part its initial place, of each place its part, the variables, and the nodes, which follow them.
-- Assumes nothing: these are definitions.
use Rattle.std.specs.Prelude.{List, map, ℕ, ◌+◌, ◌*◌, ◌^◌, ◌≤◌, ◌<◌, length, take, drop}
use Rattle.model.specs.Limits.{most_variables}
use Rattle.prelude.specs.Lists.{upto}
use Rattle.records.specs.Bytes.{byte, two, two±}
use Rattle.expressions.specs.Nodes.{Node, node_at}
use Rattle.model.specs.Runs.{Variable}
use Rattle.machines.specs.declared.values.Values.{Values}

-- ---- parts and places: the parts' records stand first, and the places' follow

abbrev pub initial_in : List ℕ → ℕ → ℕ
initial_in s c = two s (16 * c + 2)

abbrev pub home_in : List ℕ → ℕ → ℕ → ℕ
home_in s parts i = byte s (16 * (parts + i) + 1)

abbrev pub initials_in : List ℕ → ℕ → List ℕ
initials_in s parts = map (initial_in s) (upto parts)

abbrev pub homes_in : List ℕ → ℕ → ℕ → List ℕ
homes_in s parts places = map (home_in s parts) (upto places)

-- ---- variables and nodes

module _ (s : List ℕ) (v : Values) where
  abbrev pub variable_in : ℕ → Variable
  variable_in i = record {
    lowest = two± s (16 * (v.first + i) + 2);
    highest = two± s (16 * (v.first + i) + 4);
    start = two± s (16 * (v.first + i) + 6);
  }

  abbrev pub variables_in : List Variable
  variables_in = map variable_in (upto v.variables)

  -- the records of the nodes, one after the other
  abbrev pub node_part : List ℕ
  node_part = take (16 * v.nodes) (drop (16 * (v.first + v.variables)) s)

  abbrev pub nodes_in : List Node
  nodes_in = map (node_at node_part) (upto v.nodes)

  -- their records are in the file, and a run has a place for each variable
  pub record HasValues : Type 0 where
    pub few : v.variables ≤ most_variables
    pub early : v.first < 2 ^ 20
    pub room : 16 * (v.first + v.variables + v.nodes) ≤ length s
