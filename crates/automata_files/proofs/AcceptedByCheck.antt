-- What the check of a file tells of it. Assumes nothing.
use mathlib.Core.Path.{◌≡◌, sym, ap, ◌∙◌}
use mathlib.Core.Option.{some}
use mathlib.Core.List.{List}
use Prim.Native.Nat.{ℕ}
use Rattle.records.specs.RefusalOf as Table
use Rattle.records.specs.declared.refusals.Refusal.{Refusal}
use Rattle.model.specs.AutomataFile.{automata_refusal}
use Rattle.automata_records.specs.declared.Shape.{Shape}
use Rattle.std.specs.Prelude.{Result, Ok, Err}
use Rattle.automata_files.specs.Checked.{IsChecked, refusal_of}
use Rattle.automata_records.specs.Accepted.{Accepted}

module _ (s : List ℕ) (r : Result Shape Refusal) (is : IsChecked s r) where
  pub accepted-of : (sh : Shape) → r ≡ Ok sh → Accepted s sh
  accepted-of sh e = record { shape = is.shape sh e; unrefused = sym is.answer ∙ ap refusal_of e }

  pub refused-of : (w : Refusal) → r ≡ Err w → automata_refusal s ≡ some (Table.refusal_of w)
  refused-of w e = sym is.answer ∙ ap refusal_of e
