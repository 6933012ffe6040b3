-- The length of a translation: at most that of the most records of each kind. Assumes nothing.
use mathlib.Core.Path.{◌≡◌, refl, sym, ap, ◌∙◌}
use mathlib.Core.Bool.{Bool, true, false}
use mathlib.Core.Option.{Option, some, none}
use mathlib.Core.List.{List, ◌++◌}
use Prim.Native.Nat.{ℕ, ◌≤◌}
use native.Mathlib.Omega.{arith}
use lib.Dec.{ltb}
use lib.ListN.{length, drop}
use Rattle.model.specs.Limits.{longest_table}
use Rattle.records.specs.Refusal.{Refusal, short_buffer, Out, val, ◌>>◌, fault_if, unless_refused}
use Rattle.model.specs.Outcome.{settled}
use Rattle.model.specs.ChartFile.{charts_refusal}
use Rattle.model.specs.Translation.{twin_bytes, written, translate}
use Rattle.model.proofs.TranslationAccepted.{short-twin}

module _ (s buffer : List ℕ) (n : ℕ) where
  abbrev text : List ℕ
  text = twin_bytes s

  counted : (b : Bool) → (settled buffer (fault_if b short_buffer >> val (length text, text ++ drop (length text) buffer))).answer ≡ val n → n ≡ length text
  counted true d = let z : ◌≡◌ {A = ℕ} 0 1 = cc in absurd (omega arith)
  counted false d = cc

  abbrev answered : Option Refusal → Out ℕ
  answered o = (settled buffer (unless_refused o (written text buffer))).answer

  -- of any bytes
  pub short : (translate s buffer).answer ≡ val n → n ≤ longest_table
  short e = go (charts_refusal s) refl
    where
      go : (o : Option Refusal) → charts_refusal s ≡ o → n ≤ longest_table
      go none q = let m : n ≡ length text = counted (ltb (length buffer) (length text)) (ap answered (sym q) ∙ e) in omega (arith, m, short-twin s q)
      go (some w) q = let d : answered (some w) ≡ val n = ap answered (sym q) ∙ e in let z : ◌≡◌ {A = ℕ} 0 1 = cc in absurd (omega arith)
