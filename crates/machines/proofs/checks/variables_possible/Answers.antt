use borrow.Author.Rules.{rules}
use mathlib.Core.Path.{refl, sym, ◌∙◌}
use mathlib.Core.Bool.{Bool}
use mathlib.Core.List.{List}
use Prim.Native.Nat.{ℕ}
use lib.IntN.{ℤ, pos}
use lib.ListN.{get_or}
use Rattle.prelude.proofs.Ranges.{all_upto}
use Rattle.model.specs.Runs.{in_bounds}
use Rattle.machines.specs.declared.values.Values.{Values}
use Rattle.machines.specs.Files.{variable_in}
use Rattle.machines.proofs.Files.{variables_fit}
use Rattle.machines.proofs.checks.variables_possible.Goals as goal

abbrev inside : List ℕ → Values → List ℤ → ℕ → Bool
inside s values variables v = in_bounds (variable_in s values v) (get_or variables v (pos 0))

pub returns : goal.returns
returns c =
    let a = c.args in
    all_upto (inside a.s.now a.values a.variables) _ _ _ _ c.all.ensures.ran refl (λ x b q k. search rules)
    ∙ sym (variables_fit a.s.now a.values a.variables)
