-- The first record of a file that breaks a rule. Assumes nothing: these are definitions.
use Rattle.std.specs.Prelude.{◌≡◌, Bool, true, false, not, ◌&&◌, ◌||◌, List, ℕ, ◌*◌, ◌/◌, ◌<◌, leb, ltb, eqb, length, take, drop, Option, Some, None}
use Rattle.records.specs.Bytes.{byte, four}
use Rattle.model.specs.Charts.{ticks}
use Rattle.model.specs.ChartSet.{read_transition}
use Rattle.model.specs.ChartFile.{unused, unused_are_zero, in_code, ticking}
use Rattle.model.specs.AutomataFile.{unused_in_table, table_in_code}
use Rattle.findings.specs.declared.Rule.{Rule}
use Rattle.findings.specs.declared.Rule.TheVariants.{SetKinds, SetBytes, SetCodes, SetTicks, TableKinds, TableBytes, TableCodes}

-- what a rule asks of a record, as the model's tests of refusals 2, 4, 5, 9 and 11 do of each
abbrev pub test_of : Rule → List ℕ → Bool
test_of SetKinds r = leb 1 (byte r 0) && leb (byte r 0) 6
test_of SetBytes r = unused_are_zero (unused r) r
test_of SetCodes r = in_code r
test_of SetTicks r =
    (not (eqb (byte r 0) 3) || ticking (read_transition r).trigger)
    && (not (eqb (byte r 0) 6) || (not (eqb (byte r 1) 4) || ltb 0 (ticks (four r 12))))
test_of TableKinds r = leb 33 (byte r 0) && leb (byte r 0) 41
test_of TableBytes r = unused_are_zero (unused_in_table r) r
test_of TableCodes r = table_in_code r

abbrev pub record_in : List ℕ → ℕ → List ℕ
record_in s n = take 16 (drop (16 * n) s)

-- the first n records pass
abbrev pub Passed : (List ℕ → Bool) → List ℕ → ℕ → Type 0
Passed test s n = (j : ℕ) → j < n → test (record_in s j) ≡ true

-- the record breaks the rule, and no earlier one does; or none does
abbrev pub FoundIn : (List ℕ → Bool) → List ℕ → Option ℕ → Type 0
FoundIn test s (Some n) = (n < length s / 16) × Passed test s n × (test (record_in s n) ≡ false)
FoundIn test s None = Passed test s (length s / 16)
