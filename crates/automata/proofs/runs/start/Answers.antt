use mathlib.Core.Path.{sym, ap, ◌∙◌}
use mathlib.Core.List.{map}
use lib.IntN.{pos}
use lib.ListN.{replicate}
use Rattle.model.specs.Limits.{most_clocks}
use Rattle.prelude.specs.Lists.{upto, padded}
use Rattle.prelude.proofs.Maps.{map-map}
use Rattle.automata_records.proofs.PlacesRead.{most-automata, initial-are}
use Rattle.machines.specs.Files.{variable_in}
use Rattle.automata_steps.proofs.ValuesRead.{has-values, variables-in}
use Rattle.automata.proofs.runs.start.Goals as goal

pub initial_places-locations-requires : goal.initial_places-locations-requires
initial_places-locations-requires c =
    most-automata c.args.s.now c.args.shape c.requires

pub start_values-variables-requires : goal.start_values-variables-requires
start_values-variables-requires c =
    has-values c.args.s.now c.args.shape c.requires c.values_of-values.result c.values_of-values.ensures

pub returns : goal.returns
returns c =
    let s = c.args.s.now in
    let sh = c.args.shape in
    let v = c.values_of-values in
    let locations = c.initial_places-locations.ensures ∙ ap (padded 8 0) (sym (initial-are s sh c.requires)) in
    let values = c.start_values-variables.ensures
    ∙ ap (padded 64 (pos 0))
    (sym (map-map (variable_in s v.result) (λ x. x.start) (upto v.result.variables)) ∙ ap (map (λ x. x.start)) (variables-in s sh c.requires v.result v.ensures)) in
    λ i. record { at = locations i; timers = replicate most_clocks 0; world = record { vars = values i; events = 0; position = 1; cycles = 0 } }
