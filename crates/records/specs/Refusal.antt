-- The refusal table of document 01, grown by document 02: one constructor for each number, and what a computation comes to. Assumes nothing: these are definitions.
use Rattle.std.specs.Prelude.{Bool, true, false, cond, List, [], ◌∷◌, ℕ}
use Rattle.std.proofs.Math.Option.{Option, some, none}

pub data Refusal : Type 0 where
  -- chart file
  odd_length unordered_kinds wrong_amounts stray_byte broken_code dangling_number broken_structure broken_node zero_ticks : Refusal
  -- translating
  short_buffer : Refusal
  -- automata file
  bad_table : Refusal
  -- before a turn
  impossible_run misplaced_events cycles_done : Refusal
  -- in a turn
  out_of_range zero_divisor out_of_bounds none_open many_open : Refusal
  -- path back
  broken_path short_rows : Refusal
  -- a guard's line
  broken_line wrong_sort short_space : Refusal
  -- chart file, after 9
  unlike_waits : Refusal

-- The number of each in the table.
abbrev pub refusal_number : Refusal → ℕ
refusal_number odd_length = 1
refusal_number unordered_kinds = 2
refusal_number wrong_amounts = 3
refusal_number stray_byte = 4
refusal_number broken_code = 5
refusal_number dangling_number = 6
refusal_number broken_structure = 7
refusal_number broken_node = 8
refusal_number zero_ticks = 9
refusal_number short_buffer = 10
refusal_number bad_table = 11
refusal_number impossible_run = 12
refusal_number misplaced_events = 13
refusal_number cycles_done = 14
refusal_number out_of_range = 15
refusal_number zero_divisor = 16
refusal_number out_of_bounds = 17
refusal_number none_open = 18
refusal_number many_open = 19
refusal_number broken_path = 20
refusal_number short_rows = 21
refusal_number broken_line = 22
refusal_number wrong_sort = 23
refusal_number short_space = 24
refusal_number unlike_waits = 25

-- "Within one place the lowest number that applies is given": of tests in ascending order, the first that applies.
unfoldable pub lowest : List (Refusal × Bool) → Option Refusal
lowest [] = none
lowest (x ∷ xs) = cond x.1 (some x.0) (lowest xs)

-- What a computation comes to: a value, or the first refusal or fault met.
pub data Out (A : Type 0) : Type 0 where
  val : A → Out A
  fault : Refusal → Out A

infixl 10 ◌>>=◌ ◌>>◌
abbrev pub ◌>>=◌ : {A B : Type 0} → Out A → (A → Out B) → Out B
val a >>= f = f a
fault w >>= f = fault w

abbrev pub ◌>>◌ : {A B : Type 0} → Out A → Out B → Out B
m >> k = m >>= λ _. k

-- a fault where the test applies
abbrev pub fault_if : Bool → Refusal → Out (Unit {0})
fault_if true w = fault w
fault_if false w = val tt

-- the truth of the first picks one of the others, and the other is not touched
abbrev pub choose : {A : Type 0} → Out Bool → Out A → Out A → Out A
choose (val true) a b = a
choose (val false) a b = b
choose (fault w) a b = fault w

-- a fault where there is a refusal, else the value
abbrev pub unless_refused : {A : Type 0} → Option Refusal → Out A → Out A
unless_refused (some w) o = fault w
unless_refused none o = o
