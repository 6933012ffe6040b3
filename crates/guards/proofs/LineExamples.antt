-- Lines of document 02 and of its open points, worked out by the definitions. Assumes nothing.
use mathlib.Core.Path.{◌≡◌, refl}
use mathlib.Core.Bool.{true}
use mathlib.Core.List.{[], ◌∷◌}
use Prim.Native.Nat.{ℕ}
use Prim.Native.String.{String}
use lib.Dec.{eqb}
use lib.IntN.{pos, negsuc}
use Rattle.prelude.specs.Lists.{all}
use Rattle.records.specs.Refusal.{broken_line, wrong_sort, short_space, Out, val, fault, refusal_number}
use Rattle.arithmetic.specs.Operators.{sum, difference, less}
use Rattle.model.specs.Replay.{digits}
use Rattle.lines.specs.Ascii.{ascii}
use Rattle.expressions.specs.Nodes as N
use Rattle.guards.specs.Trees.{Tree, constant, variable, binary, choice, arithmetic, comparison, nodes_from}
use Rattle.guards.specs.Grammar.{line_tree, Grammar}
use Rattle.guards.specs.Texts.{text_of}
use Rattle.guards.specs.Calls.{read_guard, GuardCalls}

abbrev zero_constant : Tree
zero_constant = constant (pos 0)

abbrev below_zero : Tree → Tree
below_zero t = binary (comparison less) t zero_constant

abbrev minus_three : Tree
minus_three = constant (negsuc 2)

-- ---- a minus belongs to a constant where no operand stands before it

difference-read : line_tree (ascii "v0-3<0") ≡ val (below_zero (binary (arithmetic difference) (variable 0) (constant (pos 3))))
unfolding Grammar
difference-read = refl

negative-read : line_tree (ascii "v0- -3<0") ≡ val (below_zero (binary (arithmetic difference) (variable 0) minus_three))
unfolding Grammar
negative-read = refl

closed-operand : line_tree (ascii "(v0)-3<0") ≡ val (below_zero (binary (arithmetic difference) (variable 0) (constant (pos 3))))
unfolding Grammar
closed-operand = refl

spaced-minus : line_tree (ascii "- 3<0") ≡ fault broken_line
unfolding Grammar
spaced-minus = refl

-- ---- grouping

left-grouped : line_tree (ascii "1-2-3<0") ≡ val (below_zero (binary (arithmetic difference) (binary (arithmetic difference) (constant (pos 1)) (constant (pos 2))) (constant (pos 3))))
unfolding Grammar
left-grouped = refl

right-grouped :
    line_tree (ascii "0<0?1:0<0?2:3")
    ≡ val (choice (below_zero zero_constant) (constant (pos 1)) (choice (below_zero zero_constant) (constant (pos 2)) (constant (pos 3))))
unfolding Grammar
right-grouped = refl

-- ---- refusals

leading-zero : line_tree (ascii "v01<0") ≡ fault broken_line
unfolding Grammar
leading-zero = refl

past-variables : line_tree (ascii "v64<0") ≡ fault broken_line
unfolding Grammar
past-variables = refl

past-constants : line_tree (ascii "v0-2147483648<0") ≡ fault broken_line
unfolding Grammar
past-constants = refl

lowest-constant : line_tree (ascii "v0--2147483648<0") ≡ val (below_zero (binary (arithmetic difference) (variable 0) (constant (negsuc 2147483647))))
unfolding Grammar
lowest-constant = refl

compared-twice : (read_guard (ascii "v0<1<2") []).answer ≡ fault wrong_sort
unfolding GuardCalls
compared-twice = refl

no_room : (read_guard (ascii "v0<1") []).answer ≡ fault short_space
unfolding GuardCalls
no_room = refl

-- the number that a line is refused by, where there is no room for its nodes
abbrev number : Out ℕ → ℕ
number (val n) = 0
number (fault w) = refusal_number w

abbrev refused_by : String → ℕ
refused_by line = number (read_guard (ascii line) []).answer

outside-lines :
    all (λ line. eqb (refused_by line) 22) ("" ∷ " " ∷ "-v0<0" ∷ "- 3<0" ∷ "00<0" ∷ "01<0" ∷ "-00<0" ∷ "-01<0" ∷ "v01<0" ∷ "v64<0" ∷ "v 0<0" ∷ "2147483648<0" ∷ "v0-2147483648<0" ∷ "-2147483649<0" ∷ "v0=0" ∷ "v0=<0" ∷ "v0< =0" ∷ "v0&v1" ∷ "v0<0&&" ∷ "(v0<0" ∷ "v0<0)" ∷ "v0<0?1" ∷ "v0<0?1:2:3" ∷ "0<0<" ∷ "v0<1<2)" ∷ [])
    ≡ true
unfolding GuardCalls
outside-lines = refl

wrong-sorts : all (λ line. eqb (refused_by line) 23) ("v0" ∷ "-3" ∷ "v0-3" ∷ "v0<1<2" ∷ "!v0<3" ∷ "!-3" ∷ "v0<0?1:2" ∷ "v0&&v1" ∷ "(v0<0)+1" ∷ "0<(v0<0)" ∷ "v0?1:2<0" ∷ "(v0<0?v1<0:1)<0" ∷ []) ≡ true
unfolding GuardCalls
wrong-sorts = refl

lines-without-room : all (λ line. eqb (refused_by line) 24) ("v0<0" ∷ " v0 < 0 " ∷ "v0--3<0" ∷ "v0- -3<0" ∷ "v0 -3<0" ∷ "-0<0" ∷ "!!(v0<0)" ∷ "(((v0<0)))" ∷ "v63==2147483647" ∷ "v0--2147483648<=0" ∷ "(0<0?1:0<0?2:3)<0" ∷ "(0<0?0<0?1:2:3)<0" ∷ "v0<0||v1<0&&v2==3" ∷ []) ≡ true
unfolding GuardCalls
lines-without-room = refl

-- ---- numbering, and the writer's parentheses

numbered : nodes_from 0 (below_zero (variable 7)) ≡ N.variable 7 ∷ N.constant (pos 0) ∷ N.comparison less 0 1 ∷ []
unfolding GuardCalls
numbered = refl

kept : text_of (binary (comparison less) (binary (arithmetic sum) (constant (pos 1)) (binary (arithmetic sum) (constant (pos 2)) (constant (pos 3)))) (constant (pos 4))) ≡ ascii "1+(2+3)<4"
unfolding text_of digits
kept = refl

bare-negative : text_of (below_zero (binary (arithmetic difference) (variable 0) minus_three)) ≡ ascii "v0--3<0"
unfolding text_of digits
bare-negative = refl
