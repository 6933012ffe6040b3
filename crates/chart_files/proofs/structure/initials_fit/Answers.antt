use mathlib.Core.Path.{sym, ap, ◌∙◌}
use mathlib.Core.Bool.{◌&&◌}
use Rattle.prelude.specs.Lists.{all, upto}
use Rattle.chart_files.specs.Structure.{transition_fits_initials, action_fits_initials, left_once}
use Rattle.chart_files.proofs.StructureFramed.{initials-is}
use Rattle.chart_files.proofs.structure.initials_fit.Goals as goal

pub returns : goal.returns
returns c =
    let s = c.args.s.now in
    let sh = c.args.shape in
    let initial = c.count_initials.ensures in
    let left = c.count_sources.ensures in
    (λ j. (c.all_left_once.ensures ∙ ap (λ l. all (left_once s sh l) (upto sh.charts)) left) j
    && (c.transitions_fit_initials.ensures ∙ ap (λ l. all (transition_fits_initials s sh l) (upto sh.transitions)) initial) j
    && (c.actions_fit_initials.ensures ∙ ap (λ l. all (action_fits_initials s sh l) (upto sh.actions)) initial) j)
    ∙ sym (initials-is s sh c.requires.0 c.requires.1)
