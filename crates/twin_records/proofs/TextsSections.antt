-- The sections of a twin's file, from the texts of single numbers. Assumes nothing.
use mathlib.Core.Path.{◌≡◌, sym, ap, ◌∙◌}
use mathlib.Core.List.{List, [], ◌∷◌, ◌++◌, map}
use Prim.Native.Nat.{ℕ, ◌+◌, ◌*◌, ◌/◌, ◌%◌, ◌^◌, ◌<◌}
use native.Mathlib.Omega.{arith}
use Rattle.prelude.specs.Lists.{gather, upto}
use Rattle.records.specs.Bytes.{signed, bytes2, bytes2±}
use Rattle.records.proofs.RoundTrips.{unsigned_signed}
use Rattle.prelude.proofs.Maps.{gather-map}
use Rattle.prelude.proofs.Lists.{gather_append}
use Rattle.model.specs.ChartSet.{ChartSet}
use Rattle.model.specs.AutomataTable.{write_edge}
use Rattle.model.specs.Translation.{from_transition, transition_count, state_count, idle_origins, origins, edge_of, twin}
use Rattle.twin_records.specs.Texts.{record_text, section, edge_text}
use Rattle.prelude.proofs.Gathered.{gather-gather}

-- a list of things by their numbers
pub placed-text : {A : Type 0} (kind : ℕ) (body : A → List ℕ) (g : ℕ → A) (xs : List A) (n : ℕ) → xs ≡ map g (upto n) →
    gather (λ i. record_text kind (body (g i))) (upto n) ≡ section kind (map body xs)
placed-text kind body g xs n e =
    sym (ap (λ l. section kind (map body l)) e ∙ gather-map body (record_text kind) (map g (upto n)) ∙ gather-map g (λ x. record_text kind (body x)) (upto n))

-- a list gathered of lists
pub gathered-text : {A B : Type 0} (kind : ℕ) (body : B → List ℕ) (g : A → List B) (xs : List A) →
    section kind (map body (gather g xs)) ≡ gather (λ x. section kind (map body (g x))) xs
gathered-text kind body g xs =
    gather-map body (record_text kind) (gather g xs)
    ∙ gather-gather (λ x. record_text kind (body x)) g xs
    ∙ (λ i. gather (λ x. sym (gather-map body (record_text kind) (g x)) i) xs)

-- two lists, one after the other
pub section-append : {A : Type 0} (kind : ℕ) (body : A → List ℕ) (xs ys : List A) → section kind (map body xs) ++ section kind (map body ys) ≡ section kind (map body (xs ++ ys))
section-append kind body xs ys =
    (λ i. gather-map body (record_text kind) xs i ++ gather-map body (record_text kind) ys i)
    ∙ sym (gather-map body (record_text kind) (xs ++ ys) ∙ gather_append (λ x. record_text kind (body x)) xs ys)

-- the edges by their origins: of the transitions, then of each state's idling
pub edges-text : (cs : ChartSet) →
    gather (λ t. edge_text cs (from_transition t)) (upto (transition_count cs)) ++ gather (λ st. gather (edge_text cs) (idle_origins cs st)) (upto (state_count cs)) ≡ section 35 (map write_edge (twin cs).edges)
edges-text cs =
    sym
    (gather-map write_edge (record_text 35) (map (edge_of cs) (origins cs))
    ∙ gather-map (edge_of cs) (λ e. record_text 35 (write_edge e)) (origins cs)
    ∙ gather_append (edge_text cs) (map from_transition (upto (transition_count cs))) (gather (idle_origins cs) (upto (state_count cs)))
    ∙ (λ i. gather-map from_transition (edge_text cs) (upto (transition_count cs)) i ++ gather-gather (edge_text cs) (idle_origins cs) (upto (state_count cs)) i))

-- a number of two bytes is written as it stood
pub bytes_back : (b c : ℕ) → b < 256 → c < 256 → bytes2± (signed (2 ^ 15) (b + 256 * c)) ≡ b ∷ c ∷ []
bytes_back b c l m =
    ap bytes2 (unsigned_signed (2 ^ 15) (b + 256 * c) (omega arith))
    ∙ (λ i. (let e : (b + 256 * c) % 256 ≡ b = omega arith in e) i ∷ (let e : ((b + 256 * c) / 256) % 256 ≡ c = omega arith in e) i ∷ [])
