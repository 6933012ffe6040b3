-- The code's refusals as those of the table, which are all but the faults in a turn, and its results as outcomes. Assumes nothing: these are definitions.
use Rattle.std.specs.Prelude.{Result, Ok, Err}
use Rattle.std.proofs.Math.Option.{Option, some, none}
use Rattle.records.specs.Refusal as R
use Rattle.records.specs.Refusal.{Out, val, fault}
use Rattle.records.specs.declared.refusals.Refusal.{Refusal}
use Rattle.records.specs.declared.refusals.Refusal.TheVariants.{OddLength, UnorderedKinds, WrongAmounts, StrayByte, BrokenCode, DanglingNumber, BrokenStructure, BrokenNode, ZeroTicks, ShortBuffer, BadTable, ImpossibleRun, MisplacedEvents, CyclesDone, BrokenPath, ShortRows, BrokenLine, WrongSort, ShortSpace, UnlikeWaits}

abbrev pub refusal_of : Refusal → R.Refusal
refusal_of OddLength = R.odd_length
refusal_of UnorderedKinds = R.unordered_kinds
refusal_of WrongAmounts = R.wrong_amounts
refusal_of StrayByte = R.stray_byte
refusal_of BrokenCode = R.broken_code
refusal_of DanglingNumber = R.dangling_number
refusal_of BrokenStructure = R.broken_structure
refusal_of BrokenNode = R.broken_node
refusal_of ZeroTicks = R.zero_ticks
refusal_of ShortBuffer = R.short_buffer
refusal_of BadTable = R.bad_table
refusal_of ImpossibleRun = R.impossible_run
refusal_of MisplacedEvents = R.misplaced_events
refusal_of CyclesDone = R.cycles_done
refusal_of BrokenPath = R.broken_path
refusal_of ShortRows = R.short_rows
refusal_of BrokenLine = R.broken_line
refusal_of WrongSort = R.wrong_sort
refusal_of ShortSpace = R.short_space
refusal_of UnlikeWaits = R.unlike_waits

-- A result as what a computation comes to, and as the refusal alone, by the number in the table of each error.
abbrev pub out_of : {A E : Type 0} → (E → R.Refusal) → Result A E → Out A
out_of number_of (Ok x) = val x
out_of number_of (Err w) = fault (number_of w)

abbrev pub error_of : {A E : Type 0} → (E → R.Refusal) → Result A E → Option R.Refusal
error_of number_of (Ok x) = none
error_of number_of (Err w) = some (number_of w)
