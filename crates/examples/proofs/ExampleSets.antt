-- Files for the examples: records of each kind, text, and chart sets as bytes. Assumes nothing: these are definitions.
use mathlib.Core.List.{List, [], ◌∷◌, ◌++◌, map}
use Prim.Native.Nat.{ℕ, suc}
use Prim.Native.Char.{code}
use Prim.Native.String.{String, len, char_at}
use lib.IntN.{ℤ, pos}
use Rattle.model.specs.Runs.{Run}
use Rattle.prelude.specs.Lists.{gather, upto, padded}
use Rattle.records.specs.Bytes.{bytes2, bytes4}
use Rattle.expressions.proofs.ExampleNodes.{rec16, node, constant, read, binary}

-- ---- text

-- the ASCII bytes of a text
abbrev pub ascii : String → List ℕ
ascii t = map (λ i. code (char_at t i)) (upto (len t))

-- masks as standard input has them
abbrev pub input_of : List ℕ → List ℕ
input_of masks = gather bytes4 masks

-- ---- records; a negative number is given by its code, as 65535 for −1

abbrev pub chart : (initial : ℕ) → List ℕ
chart initial = rec16 (1 ∷ 0 ∷ bytes2 initial)

abbrev pub state : (chart : ℕ) → List ℕ
state c = rec16 (2 ∷ c ∷ [])

abbrev pub transition : (priority source target trigger event ms guard : ℕ) → List ℕ
transition p s t trigger event ms guard = rec16 (3 ∷ p ∷ bytes2 s ++ bytes2 t ++ (trigger ∷ event ∷ bytes4 ms) ++ bytes2 guard)

-- with neither guard nor trigger, on an event, and timed
abbrev pub freely : (priority source target : ℕ) → List ℕ
freely p s t = transition p s t 0 0 0 65535

abbrev pub on_event : (priority source target event : ℕ) → List ℕ
on_event p s t e = transition p s t 1 e 0 65535

abbrev pub timed : (trigger source target ms : ℕ) → List ℕ
timed trigger s t ms = transition 1 s t trigger 0 ms 65535

abbrev pub variable : (lowest highest start : ℕ) → List ℕ
variable lo hi z = rec16 (4 ∷ 0 ∷ bytes2 lo ++ bytes2 hi ++ bytes2 z)

abbrev pub action : (place owner deed x node : ℕ) → List ℕ
action place owner deed x n = rec16 (6 ∷ place ∷ bytes2 owner ++ (deed ∷ x ∷ bytes2 n))

-- the same with a guard, node g (request 4)
abbrev pub guarded : (g place owner deed x node : ℕ) → List ℕ
guarded g place owner deed x n = rec16 (6 ∷ place ∷ bytes2 owner ++ (deed ∷ x ∷ bytes2 n) ++ bytes2 (suc g))

-- done every so many milliseconds while its state idles (request 4)
abbrev pub while_idle : (ms owner deed x node : ℕ) → List ℕ
while_idle ms owner deed x n = rec16 (6 ∷ 4 ∷ bytes2 owner ++ (deed ∷ x ∷ bytes2 n) ++ bytes4 0 ++ bytes4 ms)

-- ---- the zero-watch set, byte for byte

abbrev pub zero_watch : List ℕ
zero_watch =
    1 ∷ 0 ∷ 0 ∷ 0 ∷ 0 ∷ 0 ∷ 0 ∷ 0 ∷ 0 ∷ 0 ∷ 0 ∷ 0 ∷ 0 ∷ 0 ∷ 0 ∷ 0 ∷
    2 ∷ 0 ∷ 0 ∷ 0 ∷ 0 ∷ 0 ∷ 0 ∷ 0 ∷ 0 ∷ 0 ∷ 0 ∷ 0 ∷ 0 ∷ 0 ∷ 0 ∷ 0 ∷
    2 ∷ 0 ∷ 0 ∷ 0 ∷ 0 ∷ 0 ∷ 0 ∷ 0 ∷ 0 ∷ 0 ∷ 0 ∷ 0 ∷ 0 ∷ 0 ∷ 0 ∷ 0 ∷
    2 ∷ 0 ∷ 0 ∷ 0 ∷ 0 ∷ 0 ∷ 0 ∷ 0 ∷ 0 ∷ 0 ∷ 0 ∷ 0 ∷ 0 ∷ 0 ∷ 0 ∷ 0 ∷
    3 ∷ 1 ∷ 0 ∷ 0 ∷ 1 ∷ 0 ∷ 0 ∷ 0 ∷ 0 ∷ 0 ∷ 0 ∷ 0 ∷ 255 ∷ 255 ∷ 0 ∷ 0 ∷
    3 ∷ 1 ∷ 1 ∷ 0 ∷ 2 ∷ 0 ∷ 0 ∷ 0 ∷ 0 ∷ 0 ∷ 0 ∷ 0 ∷ 2 ∷ 0 ∷ 0 ∷ 0 ∷
    3 ∷ 2 ∷ 1 ∷ 0 ∷ 1 ∷ 0 ∷ 1 ∷ 0 ∷ 0 ∷ 0 ∷ 0 ∷ 0 ∷ 255 ∷ 255 ∷ 0 ∷ 0 ∷
    3 ∷ 1 ∷ 2 ∷ 0 ∷ 1 ∷ 0 ∷ 1 ∷ 1 ∷ 0 ∷ 0 ∷ 0 ∷ 0 ∷ 255 ∷ 255 ∷ 0 ∷ 0 ∷
    4 ∷ 0 ∷ 156 ∷ 255 ∷ 100 ∷ 0 ∷ 1 ∷ 0 ∷ 0 ∷ 0 ∷ 0 ∷ 0 ∷ 0 ∷ 0 ∷ 0 ∷ 0 ∷
    5 ∷ 2 ∷ 0 ∷ 0 ∷ 0 ∷ 0 ∷ 0 ∷ 0 ∷ 0 ∷ 0 ∷ 0 ∷ 0 ∷ 0 ∷ 0 ∷ 0 ∷ 0 ∷
    5 ∷ 1 ∷ 0 ∷ 0 ∷ 0 ∷ 0 ∷ 0 ∷ 0 ∷ 0 ∷ 0 ∷ 0 ∷ 0 ∷ 0 ∷ 0 ∷ 0 ∷ 0 ∷
    5 ∷ 17 ∷ 0 ∷ 0 ∷ 1 ∷ 0 ∷ 0 ∷ 0 ∷ 0 ∷ 0 ∷ 0 ∷ 0 ∷ 0 ∷ 0 ∷ 0 ∷ 0 ∷
    5 ∷ 2 ∷ 0 ∷ 0 ∷ 0 ∷ 0 ∷ 0 ∷ 0 ∷ 0 ∷ 0 ∷ 0 ∷ 0 ∷ 0 ∷ 0 ∷ 0 ∷ 0 ∷
    5 ∷ 1 ∷ 0 ∷ 0 ∷ 0 ∷ 0 ∷ 0 ∷ 0 ∷ 2 ∷ 0 ∷ 0 ∷ 0 ∷ 0 ∷ 0 ∷ 0 ∷ 0 ∷
    5 ∷ 4 ∷ 3 ∷ 0 ∷ 4 ∷ 0 ∷ 0 ∷ 0 ∷ 0 ∷ 0 ∷ 0 ∷ 0 ∷ 0 ∷ 0 ∷ 0 ∷ 0 ∷
    5 ∷ 1 ∷ 0 ∷ 0 ∷ 0 ∷ 0 ∷ 0 ∷ 0 ∷ 1 ∷ 0 ∷ 0 ∷ 0 ∷ 0 ∷ 0 ∷ 0 ∷ 0 ∷
    6 ∷ 3 ∷ 2 ∷ 0 ∷ 1 ∷ 0 ∷ 5 ∷ 0 ∷ 0 ∷ 0 ∷ 0 ∷ 0 ∷ 0 ∷ 0 ∷ 0 ∷ 0 ∷
    6 ∷ 3 ∷ 3 ∷ 0 ∷ 1 ∷ 0 ∷ 6 ∷ 0 ∷ 0 ∷ 0 ∷ 0 ∷ 0 ∷ 0 ∷ 0 ∷ 0 ∷ 0 ∷ []

-- states 0 to 3 in a line: at once, on event 0, after so many milliseconds
abbrev pub waiting : (ms : ℕ) → List ℕ
waiting ms = chart 0 ++ state 0 ++ state 0 ++ state 0 ++ state 0 ++ freely 1 0 1 ++ on_event 1 1 2 0 ++ timed 2 2 3 ms

-- one state after the initial one; a variable from −1 to 5, start 0, is assigned the constant of this code on the way
abbrev pub assigning : (constant : ℕ) → List ℕ
assigning z = chart 0 ++ state 0 ++ state 0 ++ freely 1 0 1 ++ variable 65535 5 0 ++ constant z ++ action 3 0 1 0 0

-- Priorities out of file order, and all three groups of actions: leaving 1 adds 1 to v, transition 1 multiplies it by 10, entering 2 takes 3 away.
abbrev pub grouped : List ℕ
grouped =
    chart 0 ++ state 0 ++ state 0 ++ state 0
    ++ freely 1 0 1 ++ freely 5 1 2 ++ on_event 2 1 1 4
    ++ variable 65436 100 1
    ++ (read 0 ++ constant 1 ++ binary 3 0 1) ++ (read 0 ++ constant 10 ++ binary 5 3 4) ++ (read 0 ++ constant 3 ++ binary 4 6 7)
    ++ action 1 2 1 0 8 ++ action 2 1 1 0 2 ++ action 3 1 1 0 5

-- Two charts: transition 1 raises event 3 twice; the second chart goes to 5 on event 3, or to 6 on event 4, and back from 5 on event 3.
abbrev pub raising : List ℕ
raising =
    chart 0 ++ chart 3 ++ state 0 ++ state 0 ++ state 0 ++ state 1 ++ state 1 ++ state 1 ++ state 1
    ++ freely 1 0 1 ++ freely 1 1 2 ++ freely 1 3 4 ++ on_event 1 4 5 3 ++ on_event 2 4 6 4 ++ on_event 1 5 4 3
    ++ action 3 1 2 3 0 ++ action 3 1 2 3 0

-- Two charts: the second counts cycles in v; the first goes from 1 to 2 every 200 ms where 3 ≤ v, and back after 65,836 ms, whose low two bytes are 300.
abbrev pub timing : List ℕ
timing =
    chart 0 ++ chart 3 ++ state 0 ++ state 0 ++ state 0 ++ state 1 ++ state 1
    ++ freely 1 0 1 ++ transition 1 1 2 3 0 200 2 ++ timed 2 2 1 65836 ++ freely 1 3 4 ++ freely 1 4 4
    ++ variable 0 100 0
    ++ (constant 3 ++ read 0 ++ binary 18 0 1) ++ (read 0 ++ constant 1 ++ binary 3 3 4)
    ++ action 3 4 1 0 5

-- Two charts: the first is as `waiting` for 300 ms, but goes on to 3 only where v is 1; the second sets v to 1 on event 1.
abbrev pub held_back : List ℕ
held_back =
    chart 0 ++ chart 4 ++ state 0 ++ state 0 ++ state 0 ++ state 0 ++ state 1 ++ state 1
    ++ freely 1 0 1 ++ on_event 1 1 2 0 ++ transition 1 2 3 2 0 300 2 ++ freely 1 4 5 ++ on_event 1 5 5 1
    ++ variable 0 1 0
    ++ (read 0 ++ constant 1 ++ binary 16 0 1) ++ constant 1
    ++ action 3 4 1 0 3

-- on event 0, a guard that divides by v, which is 0
abbrev pub dividing : List ℕ
dividing =
    chart 0 ++ state 0 ++ state 0 ++ state 0
    ++ freely 1 0 1 ++ transition 1 1 2 1 0 0 4
    ++ variable 0 9 0
    ++ (constant 1 ++ read 0 ++ binary 6 0 1 ++ constant 0 ++ binary 16 2 3)

-- two charts: the first assigns 5 to v, the second 6, which is too high
abbrev pub overstepping : List ℕ
overstepping =
    chart 0 ++ chart 2 ++ state 0 ++ state 0 ++ state 1 ++ state 1 ++ freely 1 0 1 ++ freely 1 2 3
    ++ variable 65535 5 0 ++ constant 5 ++ constant 6 ++ action 3 0 1 0 0 ++ action 3 1 1 0 1

-- two charts whose states alternate, clocks that leave both, and two variables, the second negative throughout
abbrev pub alternating : List ℕ
alternating =
    chart 0 ++ chart 1 ++ state 0 ++ state 1 ++ state 0 ++ state 1
    ++ freely 1 0 2 ++ freely 1 1 3 ++ timed 2 3 3 500 ++ timed 3 2 2 3_600_000
    ++ variable 0 9 1 ++ variable 65526 65535 65533

-- Two variables, the second negative throughout, and two assignments in each group of actions, whose order matters: leaving 1 adds 1 to it and doubles it,
-- transition 1 takes 1 away and triples it, entering 2 adds 5 and doubles it.
abbrev pub paired : (lowest highest lowestOfSecond : ℕ) → List ℕ
paired lo hi lo₂ =
    chart 0 ++ state 0 ++ state 0 ++ state 0 ++ freely 1 0 1 ++ freely 1 1 2
    ++ variable lo hi 1 ++ variable lo₂ 65535 65533
    ++ (read 1 ++ constant 1 ++ binary 3 0 1) ++ (read 1 ++ constant 2 ++ binary 5 3 4)
    ++ (read 1 ++ constant 1 ++ binary 4 6 7) ++ (read 1 ++ constant 3 ++ binary 5 9 10)
    ++ (read 1 ++ constant 5 ++ binary 3 12 13) ++ (read 1 ++ constant 2 ++ binary 5 15 16)
    ++ action 1 2 1 1 14 ++ action 1 2 1 1 17 ++ action 2 1 1 1 2 ++ action 2 1 1 1 5 ++ action 3 1 1 1 8 ++ action 3 1 1 1 11

-- a run that is lent to be started
abbrev pub blank : Run
blank = record { at = []; timers = []; world = record { vars = []; events = 0; position = 0; cycles = 0 } }

-- a lent run of charts: its first states, ages and variables, the rest zero
abbrev pub run : (at timers : List ℕ) (vars : List ℤ) (events position cycles : ℕ) → Run
run at timers vars events position cycles = record {
  at = padded 8 0 at;
  timers = padded 8 0 timers;
  world = record { vars = padded 64 (pos 0) vars; events = events; position = position; cycles = cycles };
}
