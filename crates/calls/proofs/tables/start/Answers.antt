use mathlib.Core.Path.{◌≡◌, sym}
use mathlib.Core.Option.{none}
use Rattle.model.specs.AutomataFile.{automata_refusal}
use Rattle.calls.proofs.tables.start.Goals as goal

pub returns : goal.returns
returns c =
    let unrefused : automata_refusal c.args.s.now ≡ none = sym c.in_ok-shape.ensures.answer in
    rw unrefused c.start.ensures
