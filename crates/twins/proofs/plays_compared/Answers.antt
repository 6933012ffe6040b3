use Rattle.twins.proofs.PlaysAlike.{plays-alike}
use Rattle.twins.proofs.ComparedCalls.{charts-are, fresh-alike}
use Rattle.twins.proofs.Matched.{outs, corresponding-alike, now-corresponds}
use Rattle.alike.specs.Alike.{outs_alike, runs_alike}
use Rattle.prelude.proofs.Bools.{clash, of-true}
use Rattle.model.specs.Outcome.{settled}
use Rattle.model.specs.ChartSet.{read_charts}
use Rattle.model.specs.Charts.{charts}
use Rattle.model.specs.AutomataTable.{read_automata}
use Rattle.model.specs.Automata.{automata}
use Rattle.machines.specs.Playing.{playing, play_call}
use Rattle.model.specs.Calls.{chart_sets, automata_tables}
use Rattle.twins.specs.Compared.{alike}
use Rattle.twins.proofs.AlikeBoth.{unrefused}
use Rattle.chart_runs.specs.RunOf as charts-run
use Rattle.automata.specs.RunOf as automata-run
use lib.Dec.{eqb}
use lib.ListN.{length}
use borrow.Author.Tests.{eq-eqb}
use mathlib.Core.Bool.{true, ◌&&◌}
use mathlib.Core.Path.{◌≡◌, ap, ◌∙◌}
use Rattle.twins.proofs.plays_compared.Goals as goal

pub returns-then-counts_alike-runs_alike : goal.returns-then-counts_alike-runs_alike
returns-then-counts_alike-runs_alike c =
    let a = c.args in
    let s = a.s.now in
    let t = a.t.now in
    let masks = a.masks.now in
    let r = charts-run.run_of c.start-run.result in
    let q = automata-run.run_of c.start-twin.result in
    let x = unrefused chart_sets s c.requires.0.unrefused r (playing (charts (read_charts s)) masks r) c.play_in_place-played.ensures in
    let y = unrefused automata_tables t c.requires.1.unrefused q (playing (automata (read_automata t)) masks q) c.play_in_place-other.ensures in
    let run = ap (λ z. z.lent) x ∙ ap (λ z. (play_call chart_sets s masks z).lent) c.start-run.ensures in
    let twin = ap (λ z. z.lent) y ∙ ap (λ z. (play_call automata_tables t masks z).lent) c.start-twin.ensures in
    λ i. record { verdict = alike (length masks); run = run i; twin = twin i }

pub returns-else-counts_alike-runs_alike : goal.returns-else-counts_alike-runs_alike
returns-else-counts_alike-runs_alike c =
    let a = c.args in
    let s = a.s.now in
    let t = a.t.now in
    let table = a.table in
    let r = charts-run.run_of c.start-run.result in
    let q = automata-run.run_of c.start-twin.result in
    let fresh = fresh-alike s t c.requires.0.unrefused c.requires.1.unrefused c.requires.2 c.start-run.ensures c.start-twin.ensures in
    let p = plays-alike s t c.requires.0.unrefused c.requires.1.unrefused a.masks.now r q fresh in
    let same : c.counts_alike.result ≡ true = c.counts_alike.ensures ∙ (λ i. outs_alike eqb (c.play_in_place-played.ensures i).answer (c.play_in_place-other.ensures i).answer) ∙ outs (λ n k. n ≡ k) eqb (λ n k e. eq-eqb n k e) (settled r (playing (charts (read_charts s)) a.masks.now r)).answer (settled q (playing (automata (read_automata t)) a.masks.now q)).answer p.0 in
    let same_runs : c.runs_alike.result ≡ true =
    c.runs_alike.ensures
    ∙ (λ i. runs_alike t table (c.play_in_place-played.ensures i).lent (c.play_in_place-other.ensures i).lent)
    ∙ corresponding-alike s t table c.requires.1 (charts-are s t table c.requires.1 c.requires.2) _ _ (now-corresponds s t table c.requires.1 _ _ p.1) in
    clash {b = c.counts_alike.result && c.runs_alike.result} (of-true (λ i. same i && same_runs i)) c.if-counts_alike-runs_alike.false
