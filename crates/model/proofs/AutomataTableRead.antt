-- A file that was written says what was written, where each thing fits its fields. Assumes nothing.
use mathlib.Core.Path.{◌≡◌, refl, ap, ◌∙◌}
use mathlib.Core.Option.{Option, some, none}
use mathlib.Core.Bool.{Bool, true, false, cond, ◌&&◌}
use mathlib.Core.List.{List, [], ◌∷◌, map, append-nil}
use Prim.Native.Nat.{ℕ, ◌+◌, ◌*◌, ◌/◌, ◌%◌, ◌^◌, ◌<◌, ◌-◌}
use native.Mathlib.Omega.{arith}
use lib.Dec.{T, ltb, eqb, ltb→lt}
use lib.IntN.{ℤ}
use lib.Signed.{mag}
use Rattle.prelude.specs.Lists.{all, gather, case_of}
use Rattle.records.specs.Bytes.{byte, two, signed, unsigned, bytes2, of_kind}
use Rattle.records.proofs.RoundTrips.{two-bytes2, two±-bytes2±, four±-bytes4±}
use Rattle.arithmetic.specs.Operators as O
use Rattle.expressions.specs.Nodes as N
use Rattle.expressions.specs.Nodes.{Node, read_node, write_node}
use Rattle.model.specs.Runs.{Variable, Deed, assign, raise, Action}
use Rattle.model.specs.ChartSet.{read_guard, read_plus_one, read_variable}
use Rattle.model.specs.AutomataTable as A
use Rattle.prelude.specs.Lists.{bit}
use Rattle.model.specs.AutomataTable.{Automata, Edge, Literal, LiteralTrigger, Clock, sections, write_automata, read_automata, write_edge, write_literal, write_guard, write_clock, write_variable, write_plus_one, write_update, write_reset, read_edge, read_literal, read_clock, read_update, read_reset, timing_code}
use Rattle.prelude.proofs.Bools.{and_left, and_right, ne→eqb}
use Rattle.prelude.proofs.Lists.{all_cons, all_nil}
use Rattle.model.proofs.AutomataTableRecords.{record_of, records_of, written-kind}

-- ---- what fits its fields

abbrev pub short : ℕ → Bool
short n = ltb n 65536

abbrev pub fits_literal_trigger : LiteralTrigger → Bool
fits_literal_trigger A.always = true
fits_literal_trigger (A.event e) = true
fits_literal_trigger (A.clock k) = short k

-- 65,535 is no guard
abbrev pub fits_guard : Option ℕ → Bool
fits_guard none = true
fits_guard (some n) = ltb n 65535

abbrev pub fits_edge : Edge → Bool
fits_edge e = short e.source && short e.target

abbrev pub fits_literal : ℕ × Literal → Bool
fits_literal l = short l.0 && (fits_literal_trigger l.1.trigger && fits_guard l.1.guard)

abbrev pub fits_variable : Variable → Bool
fits_variable v = ltb (mag v.lowest) (2 ^ 15) && (ltb (mag v.highest) (2 ^ 15) && ltb (mag v.start) (2 ^ 15))

abbrev pub fits_node : Node → Bool
fits_node (N.constant z) = ltb (mag z) (2 ^ 31)
fits_node (N.variable v) = short v
fits_node (N.arithmetic o a b) = short a && short b
fits_node (N.choice t a b) = short t && (short a && short b)
fits_node (N.comparison o a b) = short a && short b
fits_node (N.negation a) = short a
fits_node (N.both a b) = short a && short b
fits_node (N.either a b) = short a && short b
fits_node N.unknown = true

abbrev pub fits_deed : Deed → Bool
fits_deed (assign v n) = short n
fits_deed (raise e) = true

abbrev pub fits_update : ℕ × Action → Bool
fits_update u = short u.0 && fits_guard u.1.guard && fits_deed u.1.deed

pub record Fits (au : Automata) : Type 0 where
  pub initial : T (all short au.initial)
  pub edges : T (all fits_edge au.edges)
  pub literals : T (all fits_literal au.literals)
  pub clocks : T (all (λ c. short c.ticks) au.clocks)
  pub variables : T (all fits_variable au.variables)
  pub nodes : T (all fits_node au.nodes)
  pub updates : T (all fits_update au.updates)
  pub resets : T (all (λ x. short x.0 && short x.1) au.resets)

-- ---- each thing back

two-of : (n : ℕ) → T (short n) → n % 256 + 256 * ((n / 256) % 256) ≡ n
two-of n t = two-bytes2 n (ltb→lt n 65536 t)

two±-of : (z : ℤ) → T (ltb (mag z) (2 ^ 15)) → signed (2 ^ 15) (unsigned (2 ^ 15) z % 256 + 256 * ((unsigned (2 ^ 15) z / 256) % 256)) ≡ z
two±-of z t = two±-bytes2± z (ltb→lt (mag z) (2 ^ 15) t)

pub edge-back : (e : Edge) → T (fits_edge e) → read_edge (record_of 35 (write_edge e)) ≡ e
edge-back e t = λ i. record {
  automaton = e.automaton;
  source = two-of e.source (and_left (short e.source) (short e.target) t) i;
  target = two-of e.target (and_right (short e.source) (short e.target) t) i;
  idles = flag e.idles i;
}
  where
    flag : (b : Bool) → eqb (bit b) 1 ≡ b
    flag true = refl
    flag false = refl

guard-back : (g : Option ℕ) → T (fits_guard g) → read_guard (two (write_guard g) 0) ≡ g
guard-back none t = refl
guard-back (some n) t =
    let h : n < 65535 = ltb→lt n 65535 t in
    ap read_guard (two-bytes2 n (omega arith)) ∙ rw (ne→eqb {a = n} {b = 65535} (λ e. omega arith))

pub literal-back : (l : ℕ × Literal) → T (fits_literal l) → read_literal (record_of 36 (write_literal l)) ≡ l
unfolding case_of
literal-back l t =
    let owner : T (short l.0) = and_left (short l.0) (fits_literal_trigger l.1.trigger && fits_guard l.1.guard) t in
    let rest : T (fits_literal_trigger l.1.trigger && fits_guard l.1.guard) = and_right (short l.0) (fits_literal_trigger l.1.trigger && fits_guard l.1.guard) t in
    go l.1.trigger l.1.guard owner (and_left (fits_literal_trigger l.1.trigger) (fits_guard l.1.guard) rest) (and_right (fits_literal_trigger l.1.trigger) (fits_guard l.1.guard) rest)
  where
    sign : (m : Bool) → eqb (cond m 1 2) 1 ≡ m
    sign true = refl
    sign false = refl

    go : (x : LiteralTrigger) (g : Option ℕ) → T (short l.0) → T (fits_literal_trigger x) → T (fits_guard g) →
        read_literal (record_of 36 (write_literal (l.0, record { must = l.1.must; trigger = x; guard = g }))) ≡ (l.0, record { must = l.1.must; trigger = x; guard = g })
    go A.always none a b d = λ i. (two-of l.0 a i, record { must = sign l.1.must i; trigger = A.always; guard = none })
    go A.always (some n) a b d = λ i. (two-of l.0 a i, record { must = sign l.1.must i; trigger = A.always; guard = guard-back (some n) d i })
    go (A.event e) none a b d = λ i. (two-of l.0 a i, record { must = sign l.1.must i; trigger = A.event e; guard = none })
    go (A.event e) (some n) a b d = λ i. (two-of l.0 a i, record { must = sign l.1.must i; trigger = A.event e; guard = guard-back (some n) d i })
    go (A.clock k) none a b d = λ i. (two-of l.0 a i, record { must = sign l.1.must i; trigger = A.clock (two-of k b i); guard = none })
    go (A.clock k) (some n) a b d = λ i. (two-of l.0 a i, record { must = sign l.1.must i; trigger = A.clock (two-of k b i); guard = guard-back (some n) d i })

pub clock-back : (c : Clock) → T (short c.ticks) → read_clock (record_of 37 (write_clock c)) ≡ c
unfolding case_of
clock-back c t = λ i. record { timing = timing-back c.timing i; ticks = two-of c.ticks t i }
  where
    timing-back : (k : A.Timing) → cond (eqb (timing_code k) 2) A.after A.every ≡ k
    timing-back A.after = refl
    timing-back A.every = refl

pub variable-back : (v : Variable) → T (fits_variable v) → read_variable (record_of 38 (write_variable v)) ≡ v
variable-back v t =
    let rest : T (ltb (mag v.highest) (2 ^ 15) && ltb (mag v.start) (2 ^ 15)) = and_right (ltb (mag v.lowest) (2 ^ 15)) (ltb (mag v.highest) (2 ^ 15) && ltb (mag v.start) (2 ^ 15)) t in
    λ i. record {
      lowest = two±-of v.lowest (and_left (ltb (mag v.lowest) (2 ^ 15)) (ltb (mag v.highest) (2 ^ 15) && ltb (mag v.start) (2 ^ 15)) t) i;
      highest = two±-of v.highest (and_left (ltb (mag v.highest) (2 ^ 15)) (ltb (mag v.start) (2 ^ 15)) rest) i;
      start = two±-of v.start (and_right (ltb (mag v.highest) (2 ^ 15)) (ltb (mag v.start) (2 ^ 15)) rest) i;
    }

pub node-back : (n : Node) → T (fits_node n) → read_node (record_of 39 (write_node n)) ≡ n
unfolding case_of
node-back (N.constant z) t = ap N.constant (four±-bytes4± z (ltb→lt (mag z) (2 ^ 31) t))
node-back (N.variable v) t = ap N.variable (two-of v t)
node-back (N.arithmetic o a b) t = go o (two-of a (and_left (short a) (short b) t)) (two-of b (and_right (short a) (short b) t))
  where
    go : (o : O.Arithmetic) → a % 256 + 256 * ((a / 256) % 256) ≡ a → b % 256 + 256 * ((b / 256) % 256) ≡ b →
        read_node (record_of 39 (write_node (N.arithmetic o a b))) ≡ N.arithmetic o a b
    go O.sum p q = λ i. N.arithmetic O.sum (p i) (q i)
    go O.difference p q = λ i. N.arithmetic O.difference (p i) (q i)
    go O.product p q = λ i. N.arithmetic O.product (p i) (q i)
    go O.quotient p q = λ i. N.arithmetic O.quotient (p i) (q i)
    go O.remainder p q = λ i. N.arithmetic O.remainder (p i) (q i)
node-back (N.choice c a b) t =
    let rest : T (short a && short b) = and_right (short c) (short a && short b) t in
    λ i. N.choice (two-of c (and_left (short c) (short a && short b) t) i) (two-of a (and_left (short a) (short b) rest) i) (two-of b (and_right (short a) (short b) rest) i)
node-back (N.comparison o a b) t = go o (two-of a (and_left (short a) (short b) t)) (two-of b (and_right (short a) (short b) t))
  where
    go : (o : O.Comparison) → a % 256 + 256 * ((a / 256) % 256) ≡ a → b % 256 + 256 * ((b / 256) % 256) ≡ b →
        read_node (record_of 39 (write_node (N.comparison o a b))) ≡ N.comparison o a b
    go O.equal p q = λ i. N.comparison O.equal (p i) (q i)
    go O.less p q = λ i. N.comparison O.less (p i) (q i)
    go O.at_most p q = λ i. N.comparison O.at_most (p i) (q i)
node-back (N.negation a) t = ap N.negation (two-of a t)
node-back (N.both a b) t = λ i. N.both (two-of a (and_left (short a) (short b) t) i) (two-of b (and_right (short a) (short b) t) i)
node-back (N.either a b) t = λ i. N.either (two-of a (and_left (short a) (short b) t) i) (two-of b (and_right (short a) (short b) t) i)
node-back N.unknown t = refl

plus-one-back : (g : Option ℕ) → T (fits_guard g) → read_plus_one (two (write_plus_one g) 0) ≡ g
plus-one-back none t = refl
plus-one-back (some n) t =
    let h : n < 65535 = ltb→lt n 65535 t in
    ap read_plus_one (two-bytes2 (n + 1) (omega arith)) ∙ rw (ne→eqb {a = n + 1} {b = 0} (λ e. omega arith)) (ap some (let e : n + 1 - 1 ≡ n = omega arith in e))

pub update-back : (u : ℕ × Action) → T (fits_update u) → read_update (record_of 40 (write_update u)) ≡ u
unfolding case_of
update-back u t =
    let owner : T (short u.0 && fits_guard u.1.guard) = and_left (short u.0 && fits_guard u.1.guard) (fits_deed u.1.deed) t in
    go u.1.deed u.1.guard (and_left (short u.0) (fits_guard u.1.guard) owner) (and_right (short u.0) (fits_guard u.1.guard) owner) (and_right (short u.0 && fits_guard u.1.guard) (fits_deed u.1.deed) t)
  where
    go : (d : Deed) (g : Option ℕ) → T (short u.0) → T (fits_guard g) → T (fits_deed d) →
        read_update (record_of 40 (write_update (u.0, record { guard = g; deed = d }))) ≡ (u.0, record { guard = g; deed = d })
    go (assign v n) none a b c = λ i. (two-of u.0 a i, record { guard = none; deed = assign v (two-of n c i) })
    go (assign v n) (some m) a b c = λ i. (two-of u.0 a i, record { guard = plus-one-back (some m) b i; deed = assign v (two-of n c i) })
    go (raise x) none a b c = λ i. (two-of u.0 a i, record { guard = none; deed = raise x })
    go (raise x) (some m) a b c = λ i. (two-of u.0 a i, record { guard = plus-one-back (some m) b i; deed = raise x })

pub reset-back : (x : ℕ × ℕ) → T (short x.0 && short x.1) → read_reset (record_of 41 (write_reset x)) ≡ x
reset-back x t = λ i. (two-of x.0 (and_left (short x.0) (short x.1) t) i, two-of x.1 (and_right (short x.0) (short x.1) t) i)

-- ---- the file back

module _ {A B : Type 0} where
  map-map : {C : Type 0} (f : B → C) (g : A → B) (xs : List A) → map f (map g xs) ≡ map (λ x. f (g x)) xs
  map-map f g [] = refl
  map-map f g (x ∷ xs) = ap (λ l. f (g x) ∷ l) (map-map f g xs)

map_back : {A : Type 0} (p : A → Bool) (f : A → A) → ((x : A) → T (p x) → f x ≡ x) → (xs : List A) → T (all p xs) → map f xs ≡ xs
unfolding all
map_back p f h [] t = refl
map_back p f h (x ∷ xs) t = λ i. h x (and_left (p x) (all p xs) t) i ∷ map_back p f h xs (and_right (p x) (all p xs) t) i

module _ (au : Automata) where
  -- a kind's records, read
  things-back : {A : Type 0} (k : ℕ) (rd : List ℕ → A) (wr : A → List ℕ) (xs : List A) (p : A → Bool) →
      gather (λ x. cond (eqb x.0 k) (records_of x) []) (sections au) ≡ map (record_of k) (map wr xs) →
      ((x : A) → T (p x) → rd (record_of k (wr x)) ≡ x) → T (all p xs) → map rd (of_kind k (write_automata au)) ≡ xs
  things-back k rd wr xs p e h t =
      ap (map rd) (written-kind au k ∙ e) ∙ map-map rd (record_of k) (map wr xs) ∙ map-map (λ b. rd (record_of k b)) wr xs ∙ map_back p (λ x. rd (record_of k (wr x))) h xs t

  pub read_automata-written : Fits au → read_automata (write_automata au) ≡ au
  unfolding gather
  read_automata-written ok = λ i. record {
    initial = things-back 33 (λ r. two r 2) (λ i. 0 ∷ bytes2 i) au.initial short (append-nil _) two-of ok.initial i;
    homes = things-back 34 (λ r. byte r 1) (λ h. h ∷ []) au.homes (λ h. true) (append-nil _) (λ x t. refl) (anything au.homes) i;
    edges = things-back 35 read_edge write_edge au.edges fits_edge (append-nil _) edge-back ok.edges i;
    literals = things-back 36 read_literal write_literal au.literals fits_literal (append-nil _) literal-back ok.literals i;
    clocks = things-back 37 read_clock write_clock au.clocks (λ c. short c.ticks) (append-nil _) clock-back ok.clocks i;
    variables = things-back 38 read_variable write_variable au.variables fits_variable (append-nil _) variable-back ok.variables i;
    nodes = things-back 39 read_node write_node au.nodes fits_node (append-nil _) node-back ok.nodes i;
    updates = things-back 40 read_update write_update au.updates fits_update (append-nil _) update-back ok.updates i;
    resets = things-back 41 read_reset write_reset au.resets (λ x. short x.0 && short x.1) (append-nil _) reset-back ok.resets i;
  }
    where
      anything : (xs : List ℕ) → T (all (λ h. true) xs)
      anything [] = all_nil (λ h. true)
      anything (x ∷ xs) = all_cons (λ h. true) x xs tt (anything xs)
