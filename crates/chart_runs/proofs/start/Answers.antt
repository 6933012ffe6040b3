use mathlib.Core.Path.{sym, ap, ◌∙◌}
use mathlib.Core.List.{map}
use lib.IntN.{pos}
use lib.ListN.{replicate}
use Rattle.prelude.specs.Lists.{upto, padded}
use Rattle.prelude.proofs.Maps.{map-map}
use Rattle.chart_records.proofs.PlacesRead.{most-charts, initial-are}
use Rattle.machines.specs.Files.{variable_in}
use Rattle.chart_steps.proofs.ValuesRead.{has-values, variables-in}
use Rattle.chart_runs.proofs.start.Goals as goal

pub initial_places-states-requires : goal.initial_places-states-requires
initial_places-states-requires c =
    most-charts c.args.s.now c.args.shape c.requires

pub start_values-variables-requires : goal.start_values-variables-requires
start_values-variables-requires c =
    has-values c.args.s.now c.args.shape c.requires c.values_of-values.result c.values_of-values.ensures

pub returns : goal.returns
returns c =
    let s = c.args.s.now in
    let sh = c.args.shape in
    let v = c.values_of-values in
    let states = c.initial_places-states.ensures ∙ ap (padded 8 0) (sym (initial-are s sh c.requires)) in
    let values = c.start_values-variables.ensures
    ∙ ap (padded 64 (pos 0))
    (sym (map-map (variable_in s v.result) (λ x. x.start) (upto v.result.variables)) ∙ ap (map (λ x. x.start)) (variables-in s sh c.requires v.result v.ensures)) in
    λ i. record { at = states i; timers = replicate 8 0; world = record { vars = values i; events = 0; position = 1; cycles = 0 } }
