-- A set's parts, places, variables and nodes, where `machines` looks for them. Assumes nothing.
use mathlib.Core.Path.{◌≡◌, sym, ap, ◌∙◌, subst}
use mathlib.Core.List.{List}
use Prim.Native.Nat.{ℕ}
use native.Mathlib.Omega.{arith}
use Rattle.model.specs.ChartSet.{read_charts}
use Rattle.chart_records.specs.declared.Shape.{Shape}
use Rattle.chart_records.specs.Shape.{IsShape}
use Rattle.chart_records.proofs.PlacesRead.{inside, most-charts, most-states, most-transitions, most-variables, homes-are, variables-are, nodes-are}
use Rattle.machines.specs.declared.values.Values.{Values}
use Rattle.machines.specs.Files.{homes_in, variables_in, nodes_in, HasValues}
use Rattle.chart_steps.specs.Values.{values_of}

module _ (s : List ℕ) (sh : Shape) (is : IsShape s sh) where
  pub homes_in_lem : homes_in s sh.charts sh.states ≡ (read_charts s).homes
  homes_in_lem = sym (homes-are s sh is)

  module _ (v : Values) (e : v ≡ values_of sh) where
    pub has-values : HasValues s v
    has-values =
        subst (HasValues s) (sym e)
        (record {
          few = most-variables s sh is;
          early = omega (arith, most-charts s sh is, most-states s sh is, most-transitions s sh is);
          room = omega (arith, inside s sh is);
        })

    pub variables-in : variables_in s v ≡ (read_charts s).variables
    variables-in = ap (variables_in s) e ∙ sym (variables-are s sh is)

    pub nodes-in : nodes_in s v ≡ (read_charts s).nodes
    nodes-in = ap (nodes_in s) e ∙ sym (nodes-are s sh is)
