-- The texts of automata records: one record, the records of a kind, those that belong to an edge; and what a writer of them does. Assumes nothing: these are definitions.
use Rattle.std.specs.Prelude.{List, [], ◌∷◌, ◌++◌, map, ℕ, ◌+◌, ◌≤◌}
use Rattle.prelude.specs.Lists.{gather, padded}
use Rattle.records.specs.Bytes.{bytes2}
use Rattle.expressions.specs.Nodes.{write_node}
use Rattle.records.specs.Wrote.{Wrote}
use Rattle.model.specs.Runs.{Action}
use Rattle.model.specs.ChartSet.{ChartSet}
use Rattle.model.specs.Translation.{Origin, edge_number, edge_of, literals_of, updates_of, resets_of}
use Rattle.model.specs.AutomataTable.{Automata, Literal, write_edge, write_literal, write_clock, write_variable, write_update, write_reset}

-- "Unnamed bytes are zero."
abbrev pub record_text : ℕ → List ℕ → List ℕ
record_text kind body = padded 16 0 (kind ∷ body)

-- the records of a kind, from what stands behind their kind bytes
abbrev pub section : ℕ → List (List ℕ) → List ℕ
section kind bodies = gather (record_text kind) bodies

-- the record of an origin's edge
abbrev pub edge_text : ChartSet → Origin → List ℕ
edge_text cs o = record_text 35 (write_edge (edge_of cs o))

-- the records of the things of an edge
abbrev pub edge_texts : {A : Type 0} → ℕ → (ℕ × A → List ℕ) → ℕ → List A → List ℕ
edge_texts kind body e xs = gather (λ x. record_text kind (body (e, x))) xs

abbrev pub literal_texts : ℕ → List Literal → List ℕ
literal_texts = edge_texts 36 write_literal

abbrev pub update_texts : ℕ → List Action → List ℕ
update_texts = edge_texts 40 write_update

abbrev pub reset_texts : ℕ → List ℕ → List ℕ
reset_texts = edge_texts 41 write_reset

-- those of an origin's edge
abbrev pub literals_text : ChartSet → Origin → List ℕ
literals_text cs o = literal_texts (edge_number cs o) (literals_of cs o)

abbrev pub updates_text : ChartSet → Origin → List ℕ
updates_text cs o = update_texts (edge_number cs o) (updates_of cs o)

abbrev pub resets_text : ChartSet → Origin → List ℕ
resets_text cs o = reset_texts (edge_number cs o) (resets_of cs o)

-- The file in three parts: kinds 33 to 35, 36 to 39, 40 and 41.
module _ (au : Automata) where
  abbrev pub places_text : List ℕ
  places_text = section 33 (map (λ i. 0 ∷ bytes2 i) au.initial) ++ section 34 (map (λ h. h ∷ []) au.homes) ++ section 35 (map write_edge au.edges)

  abbrev pub tests_text : List ℕ
  tests_text = section 36 (map write_literal au.literals) ++ section 37 (map write_clock au.clocks) ++ section 38 (map write_variable au.variables) ++ section 39 (map write_node au.nodes)

  abbrev pub effects_text : List ℕ
  effects_text = section 40 (map write_update au.updates) ++ section 41 (map write_reset au.resets)

-- A text written over `before` from `at` on, with the place behind it not far.
pub record Puts (before : List ℕ) (at : ℕ) (text : List ℕ) (after : List ℕ) (next far : ℕ) : Type 0 where
  pub wrote : Wrote before at text after next
  pub near : next ≤ at + far
