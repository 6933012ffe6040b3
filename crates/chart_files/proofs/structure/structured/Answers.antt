use mathlib.Core.Path.{sym, ap, ◌∙◌}
use mathlib.Core.Bool.{◌&&◌}
use mathlib.Core.List.{◌++◌}
use lib.ListN.{length}
use Rattle.prelude.specs.Lists.{all, upto}
use Rattle.prelude.proofs.Loops.{and_assoc}
use Rattle.model.specs.ChartSet.{read_charts}
use Rattle.model.specs.ChartFile.{inside_charts, initial_fits, priorities_differ, at_most_eight}
use Rattle.chart_checks.proofs.NamesFramed.{initials-known}
use Rattle.chart_records.proofs.PlacesRead.{length-initial}
use Rattle.chart_files.proofs.structure.structured.Goals as goal

pub initials_fit-requires : goal.initials_fit-requires
initials_fit-requires c =
    (c.requires.0, initials-known c.args.s.now c.args.shape c.requires.0 c.requires.2)

pub returns : goal.returns
returns c =
    let s = c.args.s.now in
    let cs = read_charts s in
    let every = c.initials_fit.ensures ∙ ap (λ n. all (initial_fits (read_charts s)) (upto n)) (sym (length-initial s c.args.shape c.requires.0)) in
    (λ j. c.inside_charts.ensures j && every j && c.priorities_differ.ensures j && c.owners_act.ensures j)
    ∙ and_assoc (inside_charts cs && all (initial_fits cs) (upto (length cs.initial)) && all (priorities_differ cs) (upto (length cs.homes))) (all (at_most_eight (cs.entries ++ cs.exits ++ cs.waiting_actions)) (upto (length cs.homes))) (all (at_most_eight cs.transition_actions) (upto (length cs.transitions)))
