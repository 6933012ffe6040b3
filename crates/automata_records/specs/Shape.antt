-- A framed automata file by its counts. Assumes nothing: these are definitions.
use Rattle.std.specs.Prelude.{◌≡◌, List, ℕ}
use Rattle.std.proofs.Math.Option.{none}
use Rattle.framing.specs.Framing.{how_many, framing}
use Rattle.model.specs.AutomataFile.{automata_limits}
use Rattle.automata_records.specs.declared.Shape.{Shape}

-- the file is framed, and each count is the file's
pub record IsShape (s : List ℕ) (sh : Shape) : Type 0 where
  pub framed : framing 33 automata_limits s ≡ none
  pub automata : sh.automata ≡ how_many 33 s
  pub locations : sh.locations ≡ how_many 34 s
  pub edges : sh.edges ≡ how_many 35 s
  pub literals : sh.literals ≡ how_many 36 s
  pub clocks : sh.clocks ≡ how_many 37 s
  pub variables : sh.variables ≡ how_many 38 s
  pub nodes : sh.nodes ≡ how_many 39 s
  pub updates : sh.updates ≡ how_many 40 s
  pub resets : sh.resets ≡ how_many 41 s
