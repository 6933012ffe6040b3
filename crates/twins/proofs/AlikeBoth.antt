-- What the functions of accepted files answer and leave is what the model's calls do. Assumes nothing.
use mathlib.Core.Path.{◌≡◌, sym, ap, ◌∙◌}
use mathlib.Core.List.{List}
use Prim.Native.Nat.{ℕ}
use mathlib.Core.Option.{none}
use Rattle.records.specs.Refusal.{Out, unless_refused}
use Rattle.model.specs.Outcome.{Outcome, settled}
use Rattle.model.specs.Runs.{Run}
use Rattle.model.specs.Calls.{Format}

-- of a file that is not refused
pub unrefused : {A : Type 0} (f : Format) (s : List ℕ) → f.refusal s ≡ none → {x : Outcome A Run} (r : Run) (o : Out (A × Run)) → x ≡ settled r o → x ≡ settled r (unless_refused (f.refusal s) o)
unrefused f s ok r o e = e ∙ sym (ap (λ z. settled r (unless_refused z o)) ok)
