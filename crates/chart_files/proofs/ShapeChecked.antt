-- The refusal of a file, by the tests of framing and the tests behind them. Assumes nothing.
use mathlib.Core.Path.{◌≡◌, refl, sym, ap, ◌∙◌, subst}
use mathlib.Core.Bool.{Bool, true, false, not, cond}
use mathlib.Core.Option.{Option, some, none}
use mathlib.Core.List.{List, [], ◌∷◌, ◌++◌}
use Prim.Native.Nat.{ℕ}
use native.Mathlib.Omega.{arith}
use Rattle.prelude.specs.Lists.{all}
use Rattle.records.specs.Refusal.{Refusal, stray_byte, broken_code, dangling_number, broken_structure, broken_node, zero_ticks, unlike_waits, lowest}
use Rattle.records.specs.Bytes.{records}
use Rattle.framing.specs.Framing.{framing, framing_tests}
use Rattle.model.specs.ChartSet.{read_charts}
use Rattle.model.specs.ChartFile.{chart_limits, charts_refusal, unused, unused_are_zero, in_code, all_named, structured, nodes_fit, all_ticking, wait_alike}
use Rattle.chart_records.specs.Shape.{IsShape}
use Rattle.chart_files.specs.Checked.{IsChecked}
use Rattle.records.specs.RefusalOf.{refusal_of}
use Rattle.chart_records.specs.declared.Shape.{Shape}
use Rattle.records.specs.declared.refusals.Refusal as declared-refusal
use Rattle.records.specs.declared.refusals.Refusal.TheVariants.{StrayByte, BrokenCode, DanglingNumber, BrokenStructure, BrokenNode, ZeroTicks, UnlikeWaits}
use Rattle.std.specs.Prelude.{Ok, Err}

-- of two lists of tests the first decides where it refuses
abbrev or_else : Option Refusal → Option Refusal → Option Refusal
or_else (some w) o = some w
or_else none o = o

lowest-append : (xs ys : List (Refusal × Bool)) → lowest (xs ++ ys) ≡ or_else (lowest xs) (lowest ys)
unfolding lowest
lowest-append [] ys = refl
lowest-append (x ∷ xs) ys = go x.1 (lowest-append xs ys)
  where
    go : (b : Bool) → lowest (xs ++ ys) ≡ or_else (lowest xs) (lowest ys) → cond b (some x.0) (lowest (xs ++ ys)) ≡ or_else (cond b (some x.0) (lowest xs)) (lowest ys)
    go true e = refl
    go false e = e

-- what the tests behind framing come to, in their order
abbrev pub outcome : Bool → Bool → Bool → Bool → Bool → Bool → Bool → Option Refusal
outcome zeros codes names shaped nodes ticks waits =
    lowest
    ((stray_byte, not zeros)
    ∷ (broken_code, not codes)
    ∷ (dangling_number, not names)
    ∷ (broken_structure, not shaped)
    ∷ (broken_node, not nodes)
    ∷ (zero_ticks, not ticks)
    ∷ (unlike_waits, not waits)
    ∷ [])

module _ (s : List ℕ) where
  abbrev behind : Option Refusal
  behind =
      outcome
      (all (λ r. unused_are_zero (unused r) r) (records s))
      (all in_code (records s))
      (all_named (read_charts s))
      (structured (read_charts s))
      (nodes_fit (read_charts s))
      (all_ticking (read_charts s))
      (wait_alike (read_charts s))

  by-framing : charts_refusal s ≡ or_else (framing 1 chart_limits s) behind
  by-framing = lowest-append (framing_tests 1 chart_limits s) _

  pub refused-framing : {w : Refusal} → framing 1 chart_limits s ≡ some w → charts_refusal s ≡ some w
  refused-framing e = by-framing ∙ ap (λ o. or_else o behind) e

  module _ (framed : framing 1 chart_limits s ≡ none) {a b c d e f g : Bool}
      (zeros : all (λ r. unused_are_zero (unused r) r) (records s) ≡ a)
      (codes : all in_code (records s) ≡ b)
      (names : all_named (read_charts s) ≡ c)
      (shaped : structured (read_charts s) ≡ d)
      (nodes : nodes_fit (read_charts s) ≡ e)
      (ticks : all_ticking (read_charts s) ≡ f)
      (waits : wait_alike (read_charts s) ≡ g) where
    pub refusal_is : charts_refusal s ≡ outcome a b c d e f g
    refusal_is = by-framing ∙ ap (λ o. or_else o behind) framed ∙ (λ i. outcome (zeros i) (codes i) (names i) (shaped i) (nodes i) (ticks i) (waits i))

-- ---- the answers

pub refused : (s : List ℕ) (w : declared-refusal.Refusal) → charts_refusal s ≡ some (refusal_of w) → IsChecked s (Err w)
refused s w e = record { answer = sym e; shape = λ sh q. let z : ◌≡◌ {A = ℕ} 0 1 = cc in absurd (omega arith) }

-- of a framed file: the first test that it fails, or none
module _ (s : List ℕ) (framed : framing 1 chart_limits s ≡ none) where
  pub stray_bytes : all (λ r. unused_are_zero (unused r) r) (records s) ≡ false → IsChecked s (Err StrayByte)
  unfolding lowest
  stray_bytes z = refused s StrayByte (refusal_is s framed z refl refl refl refl refl refl)

  module _ (zeros : all (λ r. unused_are_zero (unused r) r) (records s) ≡ true) where
    pub broken_codes : all in_code (records s) ≡ false → IsChecked s (Err BrokenCode)
    unfolding lowest
    broken_codes z = refused s BrokenCode (refusal_is s framed zeros z refl refl refl refl refl)

    module _ (codes : all in_code (records s) ≡ true) where
      pub dangling_numbers : all_named (read_charts s) ≡ false → IsChecked s (Err DanglingNumber)
      unfolding lowest
      dangling_numbers z = refused s DanglingNumber (refusal_is s framed zeros codes z refl refl refl refl)

      module _ (names : all_named (read_charts s) ≡ true) where
        pub unstructured : structured (read_charts s) ≡ false → IsChecked s (Err BrokenStructure)
        unfolding lowest
        unstructured z = refused s BrokenStructure (refusal_is s framed zeros codes names z refl refl refl)

        module _ (shaped : structured (read_charts s) ≡ true) where
          pub broken_nodes : nodes_fit (read_charts s) ≡ false → IsChecked s (Err BrokenNode)
          unfolding lowest
          broken_nodes z = refused s BrokenNode (refusal_is s framed zeros codes names shaped z refl refl)

          module _ (nodes : nodes_fit (read_charts s) ≡ true) where
            pub without_ticks : all_ticking (read_charts s) ≡ false → IsChecked s (Err ZeroTicks)
            unfolding lowest
            without_ticks z = refused s ZeroTicks (refusal_is s framed zeros codes names shaped nodes z refl)

            module _ (ticks : all_ticking (read_charts s) ≡ true) where
              pub unlike : wait_alike (read_charts s) ≡ false → IsChecked s (Err UnlikeWaits)
              unfolding lowest
              unlike z = refused s UnlikeWaits (refusal_is s framed zeros codes names shaped nodes ticks z)

              pub accepted : (sh : Shape) → IsShape s sh → wait_alike (read_charts s) ≡ true → IsChecked s (Ok sh)
              unfolding lowest
              accepted sh is z = record {
                answer = sym (refusal_is s framed zeros codes names shaped nodes ticks z);
                shape = λ sh' q. let p : sh ≡ sh' = cc in subst (IsShape s) p is;
              }

pub ruleset outcomes = (stray_bytes, broken_codes, dangling_numbers, unstructured, broken_nodes, without_ticks, unlike, accepted)
