-- What the codes and ranges of all records say of the things of a kind. Assumes nothing.
use mathlib.Core.Path.{◌≡◌, sym, ap, ◌∙◌}
use mathlib.Core.Bool.{Bool, true, ◌&&◌}
use mathlib.Core.List.{List, [], ◌∷◌}
use Prim.Native.Nat.{ℕ, ◌+◌, ◌≤◌, ◌<◌}
use native.Mathlib.Omega.{arith}
use lib.Dec.{leb}
use Rattle.prelude.specs.Lists.{all, case_of}
use Rattle.records.specs.Bytes.{byte, records, kind}
use Rattle.framing.specs.Framing.{how_many, first_of}
use Rattle.records.proofs.Records.{record_at, byte-record}
use Rattle.prelude.proofs.Counts.{and-true}
use Rattle.model.specs.ChartFile.{chart_limits, between, in_code, transition_in_code, variable_in_code, node_in_code, deed_in_code, action_in_code}
use Rattle.chart_records.specs.declared.Shape.{Shape}
use Rattle.chart_records.specs.Shape.{IsShape}
use Rattle.chart_records.specs.Places.{first_transition, first_action, transition_at, place_at}
use Rattle.chart_records.proofs.PlacesRead.{first-transition, first-action}
use Rattle.chart_records.proofs.Places.{ranged, thing-passes}

-- the tests of the codes of a kind
abbrev codes_of : ℕ → List ℕ → Bool
codes_of k r = case_of k ((3, transition_in_code r) ∷ (4, variable_in_code r) ∷ (5, node_in_code r) ∷ (6, action_in_code r) ∷ []) true

module _ (s : List ℕ) (sh : Shape) (is : IsShape s sh) (coded : all in_code (records s) ≡ true) where
  -- thing i of kind k passes the test of its kind
  thing-in-code : (k at i : ℕ) → first_of k s ≡ at → i < how_many k s → codes_of k (record_at s (at + i)) ≡ true
  thing-in-code k at i d h =
      let r = record_at s (at + i) in
      let t : (in_code r ≡ true) × (kind r ≡ k) = thing-passes 1 chart_limits s is.framed in_code coded k at i d h in
      sym (ap (λ n. codes_of n r) t.1) ∙ t.0

  pub priority-in-code : (t : ℕ) → t < sh.transitions → (1 ≤ (transition_at s sh t).priority) × ((transition_at s sh t).priority ≤ 16)
  unfolding case_of
  priority-in-code t h =
      let r = record_at s (first_transition sh + t) in
      let e : transition_in_code r ≡ true = thing-in-code 3 (first_transition sh) t (first-transition s sh is) (omega (arith, is.transitions)) in
      ranged 1 16 (transition_at s sh t).priority
      (ap (between 1 16) (sym (byte-record s (first_transition sh + t) 1 (omega arith)))
      ∙ (and-true (between 1 16 (byte r 1)) (leb (byte r 6) 3) (and-true (between 1 16 (byte r 1) && leb (byte r 6) 3) _ e).0).0)

  pub place-in-code : (i : ℕ) → i < sh.actions → (1 ≤ place_at s sh i) × (place_at s sh i ≤ 4)
  unfolding case_of
  place-in-code i h =
      let r = record_at s (first_action sh + i) in
      let e : action_in_code r ≡ true = thing-in-code 6 (first_action sh) i (first-action s sh is) (omega (arith, is.actions)) in
      ranged 1 4 (place_at s sh i)
      (ap (between 1 4) (sym (byte-record s (first_action sh + i) 1 (omega arith)))
      ∙ (and-true (between 1 4 (byte r 1)) (deed_in_code (byte r 4) (byte r 5)) (and-true (between 1 4 (byte r 1) && deed_in_code (byte r 4) (byte r 5)) _ e).0).0)
