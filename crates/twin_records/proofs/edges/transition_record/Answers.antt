use mathlib.Core.Path.{◌≡◌, sym, ap, ◌∙◌}
use mathlib.Core.List.{[], ◌∷◌, ◌++◌}
use Prim.Native.Nat.{◌<◌}
use native.Mathlib.Omega.{arith}
use Rattle.records.specs.Bytes.{bytes2}
use Rattle.model.specs.Owned.{home}
use Rattle.model.specs.ChartSet.{read_charts, transition}
use Rattle.chart_records.specs.Places.{transition_at}
use Rattle.chart_records.proofs.PlacesRead.{transition-is, home-is}
use Rattle.chart_steps.proofs.Accepted.{source_known}
use Rattle.twin_records.specs.Texts.{record_text}
use Rattle.twin_records.proofs.edges.transition_record.Goals as goal

pub returns : goal.returns
returns c =
    let x = c.args in
    let ok = c.requires.0 in
    let cs = read_charts x.s.now in
    let same : transition_at x.s.now x.shape x.t ≡ transition cs x.t = sym (transition-is x.s.now x.shape ok.shape x.t c.requires.1) in
    let source : c.source_of-source.result ≡ (transition cs x.t).source = c.source_of-source.ensures ∙ ap (λ y. y.source) same in
    let target : c.target_of.result ≡ (transition cs x.t).target = c.target_of.ensures ∙ ap (λ y. y.target) same in
    let known : c.source_of-source.result < x.shape.states = omega (arith, c.source_of-source.ensures, source_known x.s.now x.shape ok x.t c.requires.1) in
    let home : c.home_of.result ≡ home cs.homes (transition cs x.t).source =
    c.home_of.ensures ∙ sym (home-is x.s.now x.shape ok.shape c.source_of-source.result known) ∙ ap (home cs.homes) source in
    c.edge_bytes.ensures ∙ (λ i. record_text 35 (home i ∷ bytes2 (source i) ++ bytes2 (target i) ++ (0 ∷ [])))
