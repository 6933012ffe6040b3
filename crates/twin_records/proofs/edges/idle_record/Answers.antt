use mathlib.Core.Path.{sym, ap, ◌∙◌}
use mathlib.Core.List.{[], ◌∷◌, ◌++◌}
use Rattle.records.specs.Bytes.{bytes2}
use Rattle.chart_records.proofs.PlacesRead.{home-is}
use Rattle.twin_records.specs.Texts.{record_text}
use Rattle.twin_records.proofs.edges.idle_record.Goals as goal

pub returns : goal.returns
returns c =
    let x = c.args in
    c.edge_bytes.ensures
    ∙ ap (λ h. record_text 35 (h ∷ bytes2 x.state ++ bytes2 x.state ++ (1 ∷ []))) (c.home_of.ensures ∙ sym (home-is x.s.now x.shape c.requires.0.shape x.state c.requires.1))
