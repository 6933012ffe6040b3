use mathlib.Core.Path.{ap, ◌∙◌, sym}
use mathlib.Core.Bool.{◌&&◌}
use Rattle.model.specs.Runs.{rest_zero_values}
use Rattle.machines.proofs.Files.{length-variables}
use Rattle.machines.proofs.checks.shared_possible.Goals as goal

pub returns : goal.returns
returns c =
    let a = c.args in
    let behind = c.variables_unused.ensures ∙ sym (ap (λ n. rest_zero_values n a.variables) (length-variables a.s.now a.values)) in
    λ i. c.places_possible.ensures i
    && c.variables_possible.ensures i
    && c.counts_possible.ensures i
    && c.unused.ensures i
    && behind i
