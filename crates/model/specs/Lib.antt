-- The model: what document 01 means, with no code. A map, in the paper's order; the lower crates' specs hold the rest of it.
--
--   section of document 01      file                            definitions to look for
--   Records                     records/specs/Bytes             byte, two, four, two±, four±, records, of_kind
--                               Limits                          most_charts .. most_resets, most_priorities, most_owned, most_ticks, most_cycles
--                               ChartSet, AutomataTable         read_charts, read_automata, write_automata
--                               prelude/specs/Lists, Owned      keep, all, gather, from, ..; of: what an owner has, in file order
--                               Owned                           home: the chart of a state
--   Values                      expressions/specs/Nodes, Values readNode, compute, compare, number, truth
--   A chart's turn              World                           Variable, World, Run, Deed, Action, deed, guard_holds, action, actions
--                               Machine                         Answer, Machine, give, start
--                               Turns                           time_passed, stepped, turn, Call, Trace, cycle
--                               Charts                          ticks, after_holds, every_holds, row, transition_holds, acted, follow, chart_step
--   The translation             Translation                     Origin, origins, edgeOf, literals_of, updates_of, resets_of, twin, twin_bytes, translate
--                               Automata                        top, grown, literal_holds, open_edges, the_one, edge_step
--                               Correspondence                  clock_for, Corresponds, AnswersMatch, CallMatches, after_calls, MoveAlike, Demand₃
--   Refusal table               records/specs/Refusal, Framing  refusal_number, lowest, framing (1 to 3)
--                               ChartFile                       chart_limits, unused (4), in_code (5), all_named (6), .. charts_refusal
--                               AutomataFile                    automata_limits, automata_refusal (11)
--                               Checks                          possible (12), checked (12 to 14)
--   every refusal keeps what    Outcome, Calls                  settled, start_call, turn_call, cycle_call, call_trace, numbered, answer_code
--   is lent
--   Leading a path back         PathBack, TakenPath             step_fits, led_back, path_back; taken_path, taken_rows
--   The zero-watch set          Replay                          line, replay; its examples are in examples/proofs/MarkedExamples
--
-- Notation. `cond b x y` is x where b is true, else y. `get_or xs k d` is what stands at k in xs, d past its end. `x.0`, `x.1` are the parts of a pair. An `abbrev` is its text wherever it stands; an
-- `unfoldable` one is opened by name. `T b` is the fact that b is true. `Out A` is a value or the first refusal or fault met, and `>>=` goes on with a value. `of k xs` are the things that xs gives the owner k.
-- What is asked of a file or a run is named by what holds where it passes; the comment above says `not` and quotes the refusal that it answers where it does not.
-- Byte ranges are the paper's: (14, 15) are bytes 14 and 15. Laws about a file's definitions stand in proofs/ under that file's name, or that name and their subject.
pub mod Limits
pub mod Owned
pub mod World
pub mod Machine
pub mod Checks
pub mod Turns
pub mod Runs
pub mod Outcome
pub mod ChartSet
pub mod Charts
pub mod ChartFile
pub mod AutomataTable
pub mod Automata
pub mod AutomataFile
pub mod Translation
pub mod PathBack
pub mod Calls
pub mod Replay
pub mod Correspondence
pub mod TakenPath
