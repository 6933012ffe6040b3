-- The claims. Demands 1 to 3, the path led back, and the theorems of each request, each stated in full in the terms of the definitions that the exported functions' contracts cite, and proved by citing the work. Who believes the definitions
-- (specs/ of records, expressions, model, guards, and `Playing` of machines) and this file needs no other proof. Assumes nothing.
use mathlib.Core.Path.{◌≡◌, ap}
use mathlib.Core.Option.{some, none}
use mathlib.Core.Bool.{true, not, ◌&&◌}
use mathlib.Core.List.{List, ◌∷◌, ◌++◌}
use Prim.Native.Nat.{ℕ, ◌+◌, ◌-◌, ◌*◌, ◌/◌, ◌%◌, ◌≤◌, ◌<◌}
use Prim.Native.Char.{code}
use lib.Dec.{T, ltb}
use lib.ListN.{length, take}
use Rattle.prelude.specs.Lists.{all}
use Rattle.records.specs.Refusal.{Refusal, wrong_sort, short_space, val, fault, ◌>>=◌, ◌>>◌, fault_if, unless_refused}
use Rattle.records.proofs.RoundTrips.{of-bytes}
use Rattle.expressions.specs.Nodes.{node_at}
use Rattle.model.specs.Outcome.{settled}
use Rattle.model.specs.Runs.{Run, Call, start, turn, cycle}
use Rattle.model.specs.ChartSet.{read_charts}
use Rattle.model.specs.Charts.{ticks, charts}
use Rattle.model.specs.ChartFile.{charts_refusal}
use Rattle.model.specs.AutomataTable.{read_automata}
use Rattle.model.specs.Automata.{automata}
use Rattle.model.specs.AutomataFile.{automata_refusal}
use Rattle.model.specs.Translation.{twin, twin_bytes, written, translate}
use Rattle.model.specs.PathBack.{walk_start, led_back, rows_written, path_back}
use Rattle.model.specs.Calls.{Format, start_call, turn_call, cycle_call}
use Rattle.model.specs.Correspondence.{Demand₃}
use Rattle.model.specs.TakenPath.{taken_path, taken_rows}
use Rattle.model.proofs.ChartsTicks.{ticks-nearest, ticks-only}
use Rattle.model.proofs.CorrespondenceDemand3.{demand-3}
use Rattle.model.proofs.TranslationWritten.{twin-back}
use Rattle.model.proofs.TranslationAccepted.{twin-accepted}
use Rattle.model.proofs.TakenPathTwin.{twin_path-path_back}
use Rattle.model.proofs.TurnsCycle.{after_turn, charts-cycle-by-turns, table-cycle-by-turns}
use Rattle.machines.specs.Playing.{playing, play_call}
use Rattle.machines.proofs.PlayingCalls.{calls_leave, CallsDone, StopsAt, played-as-calls, refused-as-call}
use Rattle.guards.specs.Trees.{Tree, is_truth, fits, node_count, nodes_from, records_of}
use Rattle.guards.specs.Grammar.{line_tree}
use Rattle.guards.specs.Rules.{Line, opens}
use Rattle.guards.specs.Texts.{text_of}
use Rattle.guards.specs.Lists.{list_refusal, tree_of}
use Rattle.guards.specs.Calls.{read_guard, written_line, write_guard, written as writtenNodes}
use Rattle.guards.proofs.ReadCalls.{read_guard-answer, nodes_read, write_guard-reread}
use Rattle.guards.proofs.WrittenCalls.{write_guard-answer, line_written, read_guard-rewritten}
use Rattle.guards.proofs.Parentheses.{text_of-needed, text_of-fewest}
use Rattle.guards.proofs.Lines.{line_tree-correct, line_tree-complete, Line-unique}
use Rattle.monuvaleck.proofs.Settled.{settled-kept}

-- ---- demand 1: "A bad set, table, state or path gets the refusal number the paper fixes, and nothing lent has changed."
-- That each function answers by these definitions, for any bytes, runs, events and buffers, is its contract in src/.

-- whatever refuses or faults, everything lent keeps its contents
module _ (f : Format) (s : List ℕ) (r : Run) (w : Refusal) where
  start-kept : (start_call f s r).answer ≡ fault w → (start_call f s r).lent ≡ r
  start-kept = settled-kept r (unless_refused (f.refusal s) (val (tt, start (f.machine s)))) w

  turn-kept : (events : ℕ) → (turn_call f s events r).answer ≡ fault w → (turn_call f s events r).lent ≡ r
  turn-kept events = settled-kept r (unless_refused (f.refusal s) (turn (f.machine s) events r)) w

  cycle-kept : (events : ℕ) → (cycle_call f s events r).answer ≡ fault w → (cycle_call f s events r).lent ≡ r
  cycle-kept events = settled-kept r (unless_refused (f.refusal s) (cycle (f.machine s) events r)) w

  play-kept : (masks : List ℕ) → (play_call f s masks r).answer ≡ fault w → (play_call f s masks r).lent ≡ r
  play-kept masks = settled-kept r (unless_refused (f.refusal s) (playing (f.machine s) masks r)) w

translate-kept : (s buffer : List ℕ) (w : Refusal) → (translate s buffer).answer ≡ fault w → (translate s buffer).lent ≡ buffer
translate-kept s buffer = settled-kept buffer (unless_refused (charts_refusal s) (written (twin_bytes s) buffer))

path-kept : (s path rows : List ℕ) (w : Refusal) → (path_back s path rows).answer ≡ fault w → (path_back s path rows).lent ≡ rows
path-kept s path rows = settled-kept rows (unless_refused (charts_refusal s) (led_back (read_charts s) path (walk_start (read_charts s)) >>= λ led. rows_written led rows))

-- a file's refusal comes first, whatever else is lent
module _ (f : Format) (s : List ℕ) (w : Refusal) (refused : f.refusal s ≡ some w) (r : Run) where
  start-refused : start_call f s r ≡ record { answer = fault w; lent = r }
  start-refused = ap (λ o. settled r (unless_refused o (val (tt, start (f.machine s))))) refused

  turn-refused : (events : ℕ) → turn_call f s events r ≡ record { answer = fault w; lent = r }
  turn-refused events = ap (λ o. settled r (unless_refused o (turn (f.machine s) events r))) refused

  cycle-refused : (events : ℕ) → cycle_call f s events r ≡ record { answer = fault w; lent = r }
  cycle-refused events = ap (λ o. settled r (unless_refused o (cycle (f.machine s) events r))) refused

  play-refused : (masks : List ℕ) → play_call f s masks r ≡ record { answer = fault w; lent = r }
  play-refused masks = ap (λ o. settled r (unless_refused o (playing (f.machine s) masks r))) refused

-- ---- demand 2: the translation is the one its rules give, record for record; a cycle is its turns; many cycles are as many calls

-- the twin's file, read back, is the twin, and a reader of tables accepts it
module _ (s : List ℕ) (bytes : T (all (λ b. ltb b 256) s)) (accepted : charts_refusal s ≡ none) where
  twin-read : read_automata (twin_bytes s) ≡ twin (read_charts s)
  twin-read = twin-back s bytes accepted

  twin-unrefused : automata_refusal (twin_bytes s) ≡ none
  twin-unrefused = twin-accepted s bytes accepted

-- a cycle of an accepted file is a turn with the events, and then, unless that was time's, a cycle without any
charts-cycle : (s : List ℕ) → charts_refusal s ≡ none → (events : ℕ) (r : Run) → cycle (charts (read_charts s)) events r ≡ (turn (charts (read_charts s)) events r >>= after_turn (charts (read_charts s)))
charts-cycle = charts-cycle-by-turns

automata-cycle : (s : List ℕ) → automata_refusal s ≡ none → (events : ℕ) (r : Run) → cycle (automata (read_automata s)) events r ≡ (turn (automata (read_automata s)) events r >>= after_turn (automata (read_automata s)))
automata-cycle = table-cycle-by-turns

-- so many cycles played are as many cycle calls, each done, and leave the same run; where masks are left, the next call would be refused or fault
cycles-played : (f : Format) (s masks : List ℕ) (r : Run) (n : ℕ) → (play_call f s masks r).answer ≡ val n →
    CallsDone f s (take n masks) r × ((play_call f s masks r).lent ≡ calls_leave f s (take n masks) r) × ((n < length masks) → (w : Refusal) × StopsAt f s masks n r w)
cycles-played = played-as-calls

none-played : (f : Format) (s : List ℕ) (events : ℕ) (masks : List ℕ) (r : Run) (w : Refusal) → (play_call f s (events ∷ masks) r).answer ≡ fault w →
    ((cycle_call f s events r).answer ≡ fault w) × ((play_call f s (events ∷ masks) r).lent ≡ r)
none-played = refused-as-call

-- ---- demand 3: twin and charts move alike in every crawl (specs/Correspondence says it in full)

twin-and-charts-move-alike : Demand₃
twin-and-charts-move-alike = demand-3

-- ---- a path of the twin is led back to exactly the transitions it came from

-- For every accepted set and every list of turns and cycles from the start: the path that the twin takes, led back into any lent rows, gives the rows that the charts' transitions make, or 21 where they have no room.
path-led-back : (s : List ℕ) → T (all (λ b. ltb b 256) s) → charts_refusal s ≡ none → (calls : List Call) (lent : List ℕ) →
    path_back s (taken_path (twin_bytes s) calls (start (automata (read_automata (twin_bytes s))))) lent ≡ settled lent (rows_written (taken_rows s calls (start (charts (read_charts s)))) lent)
path-led-back = twin_path-path_back

-- ---- guards typed as a line (specs/ of guards say the grammar, the text that is written, and the two calls)

-- whatever refuses, what is lent keeps its contents
read_kept : (text nodes : List ℕ) (w : Refusal) → (read_guard text nodes).answer ≡ fault w → (read_guard text nodes).lent ≡ nodes
read_kept text nodes = settled-kept nodes (line_tree text >>= λ t. fault_if (not (fits t && is_truth t)) wrong_sort >> (fault_if (ltb (length nodes / 16) (node_count t)) short_space >> val (writtenNodes (node_count t) (records_of (nodes_from 0 t)) nodes)))

write_kept : (nodes text : List ℕ) (w : Refusal) → (write_guard nodes text).answer ≡ fault w → (write_guard nodes text).lent ≡ text
write_kept nodes text = settled-kept text (unless_refused (list_refusal (node_at nodes) (length nodes / 16)) (fault_if (ltb (length text) (length (written_line nodes))) short_space >> val (writtenNodes (length (written_line nodes)) (written_line nodes) text)))

-- "every written line that fits in 256 bytes is read back as its tree", numbered as the reader does, into whatever has room
line-read-back : (nodes lent : List ℕ) (n : ℕ) → T (all (λ b. ltb b 256) nodes) → (write_guard nodes lent).answer ≡ val n → n ≤ 256 → (out : List ℕ) →
    let size = length nodes / 16 in
    read_guard (line_written nodes lent n) out ≡ settled out (fault_if (ltb (length out / 16) size) short_space >> val (writtenNodes size (records_of (nodes_from 0 (tree_of (node_at nodes) (size - 1)))) out))
line-read-back nodes lent n bytes e few = read_guard-rewritten nodes lent n (write_guard-answer nodes lent n e) (of-bytes nodes bytes) few

-- what the reader gives is a truth, and the writer takes it: of its refusals 24 alone is left
nodes-taken : (text lent : List ℕ) (n : ℕ) → (read_guard text lent).answer ≡ val n →
    (t : Tree) × (line_tree text ≡ val t) × (is_truth t ≡ true) × ((out : List ℕ) →
    write_guard (nodes_read text lent n) out ≡ settled out (fault_if (ltb (length out) (length (text_of t))) short_space >> val (writtenNodes (length (text_of t)) (text_of t) out)))
nodes-taken text lent n e = let was = read_guard-answer text lent n e in (was.0, was.1.line, was.1.truth, write_guard-reread text lent n was.0 was.1)

-- "The writer puts parentheses only where leaving them out would change the tree": without any pair of them the line is read as another tree or not at all, and no line of the tree has fewer
parentheses-needed : (t : Tree) (a b c : List ℕ) → text_of t ≡ a ++ (code "(" ∷ b) ++ (code ")" ∷ c) → line_tree (a ++ b ++ c) ≡ val t → ⊥
parentheses-needed = text_of-needed

parentheses-fewest : (t : Tree) (s : List ℕ) → line_tree s ≡ val t → opens (text_of t) ≤ opens s
parentheses-fewest = text_of-fewest

-- the grammar as rules: the reader gives only trees of the rules, and every one; no line has two
reader-correct : (t : Tree) (s : List ℕ) → line_tree s ≡ val t → Line t s
reader-correct = line_tree-correct

reader-complete : (t : Tree) (s : List ℕ) → Line t s → line_tree s ≡ val t
reader-complete = line_tree-complete

grammar-unambiguous : (t u : Tree) (s : List ℕ) → Line t s → Line u s → t ≡ u
grammar-unambiguous = Line-unique

-- ---- "to the nearest 100 ms with exact halves to the even tick": the ticks of a time are that, and nothing else is

times-rounded : (ms : ℕ) → (100 * ticks ms ≤ ms + 50) × (ms ≤ 100 * ticks ms + 50) × (ms % 100 ≡ 50 → ticks ms % 2 ≡ 0)
times-rounded = ticks-nearest

rounding-unique : (ms t : ℕ) → 100 * t ≤ ms + 50 → ms ≤ 100 * t + 50 → (ms % 100 ≡ 50 → t % 2 ≡ 0) → t ≡ ticks ms
rounding-unique ms t above below even = ticks-only ms t (above, below, even)
