-- Of the code: places in a text, and what begins there, as the grammar has it. Assumes nothing: these are definitions.
use Rattle.std.specs.Prelude.{◌≡◌, Bool, true, false, Option, Some, None, List, ℕ, ◌+◌, ◌≤◌, ◌<◌, eqb, length, drop}
use Rattle.std.proofs.Math.Option as Opt
use Rattle.records.specs.Bytes.{byte}
use Rattle.records.specs.Refusal.{Out}
use Rattle.arithmetic.specs.Operators.{arithmetic_code, comparison_code}
use Rattle.guards.specs.Trees.{Binary, arithmetic, comparison, both, either, binary_level}
use Rattle.guards.specs.Grammar.{Read, read, outside, unspaced, is_digit}
use Rattle.guard_reader.specs.declared.lexemes.Sign.{Sign}

-- `next` is the first place from `at` on that has no space
pub record Skipped (text : List ℕ) (at next : ℕ) : Type 0 where
  pub skips : drop next text ≡ unspaced (drop at text)
  pub onward : at ≤ next
  pub inside : next ≤ length text

-- whether a mark comes next, behind spaces; and the place behind it
abbrev pub marked : List ℕ → ℕ → ℕ → Bool
marked text at mark = eqb (byte (unspaced (drop at text)) 0) mark

pub record MarkAt (text : List ℕ) (at mark next : ℕ) : Type 0 where
  pub found : marked text at mark ≡ true
  pub rest : drop next text ≡ drop 1 (unspaced (drop at text))
  pub onward : at < next
  pub inside : next ≤ length text

abbrev pub FindsMark : List ℕ → ℕ → ℕ → Option ℕ → Type 0
FindsMark text at mark (Some next) = MarkAt text at mark next
FindsMark text at mark None = marked text at mark ≡ false

-- a number that was read, and the place behind it
pub record ReadNumber (text : List ℕ) (at most : ℕ) (m : Out (Read ℕ)) (n next : ℕ) : Type 0 where
  pub same : m ≡ read n (drop next text)
  pub low : n ≤ most
  pub stops : is_digit (byte text next) ≡ false
  pub onward : at ≤ next
  pub inside : next ≤ length text

abbrev pub ReadsNumber : List ℕ → ℕ → ℕ → Out (Read ℕ) → Option (ℕ × ℕ) → Type 0
ReadsNumber text at most m (Some r) = ReadNumber text at most m r.0 r.1
ReadsNumber text at most m None = m ≡ outside

-- codes 3 to 7, 16 to 18, 20 and 21
abbrev pub binary_code : Binary → ℕ
binary_code (arithmetic o) = arithmetic_code o
binary_code (comparison o) = comparison_code o
binary_code both = 20
binary_code either = 21

-- an operator of so many bytes that begins at a place, or none
pub record IsSign (o : Binary) (n at : ℕ) (s : Sign) : Type 0 where
  pub code : s.code ≡ binary_code o
  pub level : s.level ≡ binary_level o
  pub next : s.next ≡ at + n

abbrev pub SignIs : Opt.Option (Binary × ℕ) → ℕ → Option Sign → Type 0
SignIs Opt.none at None = Unit
SignIs Opt.none at (Some s) = ⊥
SignIs (Opt.some x) at None = ⊥
SignIs (Opt.some x) at (Some s) = IsSign x.0 x.1 at s
