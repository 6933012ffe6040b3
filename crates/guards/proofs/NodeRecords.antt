-- Nodes written as records are read back, wherever they stand in the list. Assumes nothing.
use mathlib.Core.Path.{◌≡◌, refl, sym, ap, ◌∙◌, subst}
use mathlib.Core.List.{List, [], ◌∷◌, ◌++◌, append_assoc}
use Prim.Native.Nat.{ℕ, zero, suc, ◌+◌, ◌*◌, ◌^◌, ◌<◌}
use native.Mathlib.Omega.{arith}
use lib.ListN.{length, drop, length-append}
use lib.Seq.{drop-append-add, get_or-drop}
use lib.IntN.{ℤ, pos}
use lib.Signed.{mag}
use Rattle.prelude.specs.Lists.{gather}
use Rattle.records.specs.Bytes.{byte, two, four±}
use Rattle.records.proofs.RoundTrips.{OfBytes, two-bytes2, four±-bytes4±, two-low, four±-low}
use Rattle.arithmetic.specs.Operators.{sum, difference, product, quotient, remainder, equal, less, at_most}
use Rattle.expressions.specs.Nodes.{Node, constant, variable, arithmetic, choice, comparison, negation, both, either, unknown, node_by, read_node, node_of, node_at, node_bytes, Nodes}
use Rattle.expressions.proofs.Codes.{by_code}
use Rattle.guards.specs.Trees.{node_record, records_of}

-- a node that a record can hold: its numbers have 16 bits, its constant 32
abbrev Numbers : ℕ → ℕ → Type 0
Numbers a b = (a < 2 ^ 16) × (b < 2 ^ 16)

abbrev pub Recordable : Node → Type 0
Recordable (constant z) = mag z < 2 ^ 31
Recordable (variable v) = v < 2 ^ 16
Recordable (arithmetic o a b) = Numbers a b
Recordable (choice t a b) = (t < 2 ^ 16) × (a < 2 ^ 16) × (b < 2 ^ 16)
Recordable (comparison o a b) = Numbers a b
Recordable (negation a) = a < 2 ^ 16
Recordable (both a b) = Numbers a b
Recordable (either a b) = Numbers a b
Recordable unknown = Unit

abbrev pub AllRecordable : List Node → Type 0
AllRecordable [] = Unit
AllRecordable (x ∷ xs) = Recordable x × AllRecordable xs

pub recordable-append : (xs ys : List Node) → AllRecordable xs → AllRecordable ys → AllRecordable (xs ++ ys)
recordable-append [] ys p q = q
recordable-append (x ∷ xs) ys p q = (p.0, recordable-append xs ys p.1 q)

-- ---- one record

fields : (op a b c : ℕ) (z : ℤ) (r : List ℕ) → a < 2 ^ 16 → b < 2 ^ 16 → c < 2 ^ 16 → mag z < 2 ^ 31 →
    read_node ((5 ∷ node_bytes op a b c z) ++ r) ≡ node_by op a b c z
fields op a b c z r la lb lc lz = λ i. node_by op (two-bytes2 a la i) (two-bytes2 b lb i) (two-bytes2 c lc i) (four±-bytes4± z lz i)

pub read_node-record : (x : Node) (r : List ℕ) → Recordable x → read_node (node_record x ++ r) ≡ x
unfolding Nodes
read_node-record (constant z) r h = fields 1 0 0 0 z r (omega arith) (omega arith) (omega arith) h
read_node-record (variable v) r h = fields 2 v 0 0 (pos 0) r h (omega arith) (omega arith) (omega arith)
read_node-record (arithmetic sum a b) r h = fields 3 a b 0 (pos 0) r h.0 h.1 (omega arith) (omega arith)
read_node-record (arithmetic difference a b) r h = fields 4 a b 0 (pos 0) r h.0 h.1 (omega arith) (omega arith)
read_node-record (arithmetic product a b) r h = fields 5 a b 0 (pos 0) r h.0 h.1 (omega arith) (omega arith)
read_node-record (arithmetic quotient a b) r h = fields 6 a b 0 (pos 0) r h.0 h.1 (omega arith) (omega arith)
read_node-record (arithmetic remainder a b) r h = fields 7 a b 0 (pos 0) r h.0 h.1 (omega arith) (omega arith)
read_node-record (choice t a b) r h = fields 8 t a b (pos 0) r h.0 h.1 h.2 (omega arith)
read_node-record (comparison equal a b) r h = fields 16 a b 0 (pos 0) r h.0 h.1 (omega arith) (omega arith)
read_node-record (comparison less a b) r h = fields 17 a b 0 (pos 0) r h.0 h.1 (omega arith) (omega arith)
read_node-record (comparison at_most a b) r h = fields 18 a b 0 (pos 0) r h.0 h.1 (omega arith) (omega arith)
read_node-record (negation a) r h = fields 19 a 0 0 (pos 0) r h (omega arith) (omega arith) (omega arith)
read_node-record (both a b) r h = fields 20 a b 0 (pos 0) r h.0 h.1 (omega arith) (omega arith)
read_node-record (either a b) r h = fields 21 a b 0 (pos 0) r h.0 h.1 (omega arith) (omega arith)
read_node-record unknown r h = fields 0 0 0 0 (pos 0) r (omega arith) (omega arith) (omega arith) (omega arith)

-- ---- a list of them

pub node_record-length : (x : Node) → length (node_record x) ≡ 16
node_record-length (constant z) = refl
node_record-length (variable v) = refl
node_record-length (arithmetic o a b) = refl
node_record-length (choice t a b) = refl
node_record-length (comparison o a b) = refl
node_record-length (negation a) = refl
node_record-length (both a b) = refl
node_record-length (either a b) = refl
node_record-length unknown = refl

pub records_of-length : (xs : List Node) → length (records_of xs) ≡ 16 * length xs
unfolding gather
records_of-length [] = refl
records_of-length (x ∷ xs) = let h : length (records_of xs) ≡ 16 * length xs = records_of-length xs in length-append (node_record x) (records_of xs) ∙ omega (arith, node_record-length x)

pub node_at-records : (xs : List Node) (r : List ℕ) (n : ℕ) → AllRecordable xs → n < length xs → node_at (records_of xs ++ r) n ≡ node_of xs n
unfolding gather
node_at-records [] r n h l = absurd (omega arith)
node_at-records (x ∷ xs) r zero h l = ap read_node (append_assoc (node_record x) (records_of xs) r) ∙ read_node-record x (records_of xs ++ r) h.0
node_at-records (x ∷ xs) r (suc n) h l =
    ap read_node (
    ap (drop (16 * suc n)) (append_assoc (node_record x) (records_of xs) r)
    ∙ ap (λ k. drop k (node_record x ++ (records_of xs ++ r))) (let e : 16 * suc n ≡ length (node_record x) + 16 * n = omega (arith, node_record-length x) in e)
    ∙ drop-append-add (node_record x) (records_of xs ++ r) (16 * n))
    ∙ node_at-records xs r n h.1 (omega arith)

-- ---- and of any bytes what is read is such a node

pub node_at-recordable : (s : List ℕ) → OfBytes s → (n : ℕ) → Recordable (node_at s n)
node_at-recordable s bytes n =
    let r = drop (16 * n) s in
    let low : OfBytes r = λ k. subst (λ b. b < 256) (sym (get_or-drop (16 * n) s k 0)) (bytes (16 * n + k)) in
    let a = two-low r low 2 in
    let b = two-low r low 4 in
    let c = two-low r low 6 in
    by_code (λ k x. Recordable x) (two r 2) (two r 4) (two r 6) (four± r 8) (four±-low r low 8) a (a, b) (a, b) (a, b) (a, b) (a, b) (a, b, c) (a, b) (a, b) (a, b) a (a, b) (a, b) (λ k o. tt) (byte r 1)
