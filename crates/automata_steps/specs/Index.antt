-- The index of a table, built once: chains over record numbers, one for each owner of each kind that has owners. Assumes nothing: these are definitions.
use Rattle.std.specs.Prelude.{◌≡◌, ◌⊎◌, Bool, List, ℕ, ◌+◌, ◌*◌, ◌-◌, ◌≤◌, ◌<◌, eqb, length, get_or}
use Rattle.model.specs.Limits.{most_states, most_edges, table_records}
use Rattle.records.specs.Bytes.{two}
use Rattle.machines.specs.Chains.{earliest}
use Rattle.automata_records.specs.declared.Shape.{Shape}
use Rattle.automata_records.specs.Places.{first_edge, first_literal, first_clock, first_update, first_reset}
use Rattle.automata_steps.specs.declared.index.Span.{Span}

-- An edge's source, and the edge of a literal, of an update and of a reset, stand in the same bytes of the record.
abbrev pub owner_in : List ℕ → ℕ → ℕ
owner_in s n = two s (16 * n + 2)

abbrev pub owned_by : List ℕ → ℕ → ℕ → Bool
owned_by s o n = eqb (owner_in s n) o

-- Of the records from `start` up to `end` each names the next of its owner; 65,535 is none.
abbrev pub NextOf : List ℕ → ℕ → ℕ → List ℕ → Type 0
NextOf s start end next = (n : ℕ) → start ≤ n → n < end → get_or next n 0 ≡ earliest (owned_by s (owner_in s n)) (n + 1) (end - (n + 1))

-- And of each owner the first is named at the owner's key, `base` and its number.
pub record Linked (s : List ℕ) (start end base owners : ℕ) (first next : List ℕ) : Type 0 where
  pub first_of : (o : ℕ) → o < owners → get_or first (base + o) 0 ≡ earliest (owned_by s o) start (end - start)
  pub next_of : NextOf s start end next

-- outside some places
abbrev pub Apart : ℕ → ℕ → ℕ → Type 0
Apart lo hi k = (k < lo) ⊎ (hi ≤ k)

-- where the keys of literals begin, and those of updates and resets; how many keys there are
abbrev pub literal_keys : ℕ
literal_keys = most_states

abbrev pub effect_keys : ℕ
effect_keys = most_states + most_edges

abbrev pub table_keys : ℕ
table_keys = most_states + 2 * most_edges

-- Edges by their source, literals by their edge, and in one chain updates and then resets by their edge: keys from 0, `literal_keys` and `effect_keys` on.
pub record HasIndex (s : List ℕ) (sh : Shape) (first next : List ℕ) : Type 0 where
  pub edges : Linked s (first_edge sh) (first_literal sh) 0 most_states first next
  pub literals : Linked s (first_literal sh) (first_clock sh) literal_keys most_edges first next
  pub effects : Linked s (first_update sh) (first_reset sh + sh.resets) effect_keys most_edges first next
  pub places : first_reset sh + sh.resets ≤ length next

-- What no chain has: the records of other kinds, and the places behind the records. They stay as they were.
abbrev pub Unchained : Shape → ℕ → Type 0
Unchained sh n = Apart (first_edge sh) (first_clock sh) n × Apart (first_update sh) (first_reset sh + sh.resets) n

abbrev pub KeepsUnchained : Shape → List ℕ → List ℕ → Type 0
KeepsUnchained sh next₀ next = (n : ℕ) → Unchained sh n → get_or next n 0 ≡ get_or next₀ n 0

-- ---- while it is built

-- a place for each record
abbrev pub RoomFor : Shape → List ℕ → Type 0
RoomFor sh next = first_reset sh + sh.resets ≤ length next

-- from a key on nothing is named
abbrev pub Vacant : ℕ → List ℕ → Type 0
Vacant k first = (j : ℕ) → k ≤ j → j < table_keys → get_or first j 0 ≡ 65535

-- a key for each owner, and nothing named
pub record Blank (first : List ℕ) : Type 0 where
  pub keys : length first ≡ table_keys
  pub vacant : Vacant 0 first

-- a kind that can be linked: its records and keys have room, the records lie in the file, their owners have keys, and nothing is named there yet
pub record Linkable (s : List ℕ) (sp : Span) (first next : List ℕ) : Type 0 where
  pub keys : length first ≡ table_keys
  pub ordered : sp.start ≤ sp.end
  pub space : (sp.end ≤ table_records) × (sp.end ≤ length next)
  pub read : 16 * sp.end ≤ length s
  pub room : sp.base + sp.owners ≤ table_keys
  pub own : (n : ℕ) → sp.start ≤ n → n < sp.end → owner_in s n < sp.owners
  pub empty : (o : ℕ) → o < sp.owners → get_or first (sp.base + o) 0 ≡ 65535

-- it is linked, and what other kinds have stays
pub record Links (s : List ℕ) (sp : Span) (first₀ next₀ first next : List ℕ) : Type 0 where
  pub linked : Linked s sp.start sp.end sp.base sp.owners first next
  pub other_firsts : (k : ℕ) → Apart sp.base (sp.base + sp.owners) k → get_or first k 0 ≡ get_or first₀ k 0
  pub other_nexts : (n : ℕ) → Apart sp.start sp.end n → get_or next n 0 ≡ get_or next₀ n 0
  pub keys : length first ≡ length first₀
  pub places : length next ≡ length next₀
