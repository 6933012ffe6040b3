-- Records laid out one after the other are read back, each and by its kind. Assumes nothing.
use mathlib.Core.Path.{◌≡◌, refl, ap, ◌∙◌}
use mathlib.Core.Option.{Option, some, none}
use mathlib.Core.Bool.{Bool, true, false, cond}
use mathlib.Core.List.{List, [], ◌∷◌, ◌++◌, map}
use Prim.Native.Nat.{ℕ, ◌+◌, ◌-◌, ◌*◌, ◌/◌, ◌≤◌}
use native.Mathlib.Omega.{arith}
use lib.Dec.{T, leb, eqb, eqb→eq, leb→le}
use lib.ListN.{length, replicate, length-append, length-map, length-replicate}
use lib.Seq.{take_at, drop_at}
use Rattle.prelude.specs.Lists.{all, keep, gather, padded}
use Rattle.records.specs.Bytes.{bytes2, cut, records, kind, of_kind}
use Rattle.expressions.specs.Nodes as N
use Rattle.expressions.specs.Nodes.{Node, write_node}
use Rattle.model.specs.Runs.{Deed, assign, raise, Action}
use Rattle.model.specs.AutomataTable as A
use Rattle.model.specs.AutomataTable.{Automata, LiteralTrigger, Literal, sections, automata_records, write_automata, write_edge, write_literal, write_literal_trigger, write_guard, write_clock, write_variable, write_update, write_reset}
use Rattle.prelude.proofs.Bools.{and_left, and_right, both_of, of-true, eq→eqb}
use Rattle.prelude.proofs.Lists.{keep_append, all-gather, all_cons, all_nil, all_map}

-- ---- records of 16 bytes

-- the record of a kind with given bytes behind the kind
abbrev pub record_of : ℕ → List ℕ → List ℕ
record_of k body = padded 16 0 (k ∷ body)

-- a section: a kind, and what stands in each of its records
abbrev pub records_of : ℕ × List (List ℕ) → List (List ℕ)
records_of x = map (λ body. padded 16 0 (x.0 ∷ body)) x.1

abbrev pub laid_out : List (List ℕ) → List ℕ
laid_out rs = gather (λ r. r) rs

length-padded : (bs : List ℕ) → length bs ≤ 16 → length (padded 16 0 bs) ≡ 16
length-padded bs h = length-append bs (replicate (16 - length bs) 0) ∙ rw (length-replicate {A = ℕ} (16 - length bs) 0) (omega arith)

abbrev pub sixteen : List ℕ → Bool
sixteen r = eqb (length r) 16

cut-records : (rs : List (List ℕ)) → T (all sixteen rs) → cut (length rs) (laid_out rs) ≡ rs
unfolding cut gather all
cut-records [] h = refl
cut-records (r ∷ rs) h =
    let e : length r ≡ 16 = eqb→eq (length r) 16 (and_left (sixteen r) (all sixteen rs) h) in
    rw (take_at r (laid_out rs) 16 e, drop_at r (laid_out rs) 16 e, cut-records rs (and_right (sixteen r) (all sixteen rs) h))

pub length-laid : (rs : List (List ℕ)) → T (all sixteen rs) → length (laid_out rs) ≡ 16 * length rs
unfolding gather all
length-laid [] h = refl
length-laid (r ∷ rs) h =
    let e : length r ≡ 16 = eqb→eq (length r) 16 (and_left (sixteen r) (all sixteen rs) h) in
    let i : length (laid_out rs) ≡ 16 * length rs = length-laid rs (and_right (sixteen r) (all sixteen rs) h) in
    length-append r (laid_out rs) ∙ omega arith

pub records-back : (rs : List (List ℕ)) → T (all sixteen rs) → records (laid_out rs) ≡ rs
records-back rs h = ap (λ n. cut n (laid_out rs)) (ap (λ n. n / 16) (length-laid rs h) ∙ go) ∙ cut-records rs h
  where
    go : (16 * length rs) / 16 ≡ length rs
    go = omega arith

-- ---- kinds

keep-kind : (j k : ℕ) (bs : List (List ℕ)) → keep (λ r. eqb (kind r) k) (map (record_of j) bs) ≡ cond (eqb j k) (map (record_of j) bs) []
unfolding keep
keep-kind j k bs = go (eqb j k) refl bs
  where
    go : (p : Bool) → eqb j k ≡ p → (bs : List (List ℕ)) → keep (λ r. eqb (kind r) k) (map (record_of j) bs) ≡ cond p (map (record_of j) bs) []
    go true q [] = refl
    go false q [] = refl
    go true q (b ∷ bs) = rw q (ap (λ l. record_of j b ∷ l) (go true q bs))
    go false q (b ∷ bs) = rw q (go false q bs)

pub keep-sections : (k : ℕ) (xs : List (ℕ × List (List ℕ))) →
    keep (λ r. eqb (kind r) k) (gather records_of xs) ≡ gather (λ x. cond (eqb x.0 k) (records_of x) []) xs
unfolding gather keep
keep-sections k [] = refl
keep-sections k (x ∷ xs) = keep_append (λ r. eqb (kind r) k) (records_of x) (gather records_of xs) ∙ (λ i. keep-kind x.0 k x.1 i ++ keep-sections k xs i)

-- ---- what a record has room for

abbrev pub fifteen : List ℕ → Bool
fifteen b = leb (length b) 15

sixteen-each : (k : ℕ) (bs : List (List ℕ)) → T (all fifteen bs) → T (all sixteen (map (record_of k) bs))
unfolding all
sixteen-each k [] u = tt
sixteen-each k (b ∷ bs) u =
    let l : length b ≤ 15 = leb→le (length b) 15 (and_left (fifteen b) (all fifteen bs) u) in
    both_of (sixteen (record_of k b)) (all sixteen (map (record_of k) bs))
    (of-true (eq→eqb (length-padded (k ∷ b) (omega arith))))
    (sixteen-each k bs (and_right (fifteen b) (all fifteen bs) u))

sixteen-sections : (xs : List (ℕ × List (List ℕ))) → T (all (λ x. all fifteen x.1) xs) → T (all sixteen (gather records_of xs))
sixteen-sections xs t = all-gather (λ x. all fifteen x.1) sixteen records_of (λ x u. sixteen-each x.0 x.1 u) xs t

-- ---- the records of automata

literal-short : (l : ℕ × Literal) → T (fifteen (write_literal l))
literal-short l = go l.1.trigger l.1.guard
  where
    go : (c : LiteralTrigger) (g : Option ℕ) → T (fifteen (cond l.1.must 1 2 ∷ bytes2 l.0 ++ write_literal_trigger c ++ write_guard g))
    go A.always none = tt
    go A.always (some n) = tt
    go (A.event e) none = tt
    go (A.event e) (some n) = tt
    go (A.clock k) none = tt
    go (A.clock k) (some n) = tt

node-short : (n : Node) → T (fifteen (write_node n))
node-short (N.constant z) = tt
node-short (N.variable v) = tt
node-short (N.arithmetic o a b) = tt
node-short (N.choice t a b) = tt
node-short (N.comparison o a b) = tt
node-short (N.negation a) = tt
node-short (N.both a b) = tt
node-short (N.either a b) = tt
node-short N.unknown = tt

update-short : (u : ℕ × Action) → T (fifteen (write_update u))
update-short u = go u.1.deed u.1.guard
  where
    go : (d : Deed) (g : Option ℕ) → T (fifteen (write_update (u.0, record { guard = g; deed = d })))
    go (assign v n) none = tt
    go (assign v n) (some m) = tt
    go (raise x) none = tt
    go (raise x) (some m) = tt

module _ (au : Automata) where
  bodies-short : T (all (λ x. all fifteen x.1) (sections au))
  bodies-short =
      all_cons _ _ _ (all_map fifteen (λ i. 0 ∷ bytes2 i) (λ x. tt) au.initial)
      (all_cons _ _ _ (all_map fifteen (λ h. h ∷ []) (λ x. tt) au.homes)
      (all_cons _ _ _ (all_map fifteen write_edge (λ x. tt) au.edges)
      (all_cons _ _ _ (all_map fifteen write_literal literal-short au.literals)
      (all_cons _ _ _ (all_map fifteen write_clock (λ x. tt) au.clocks)
      (all_cons _ _ _ (all_map fifteen write_variable (λ x. tt) au.variables)
      (all_cons _ _ _ (all_map fifteen write_node node-short au.nodes)
      (all_cons _ _ _ (all_map fifteen write_update update-short au.updates)
      (all_cons _ _ _ (all_map fifteen write_reset (λ x. tt) au.resets) (all_nil _)))))))))

  pub sixteen-records : T (all sixteen (automata_records au))
  sixteen-records = sixteen-sections (sections au) bodies-short

  pub written-records : records (write_automata au) ≡ automata_records au
  written-records = records-back (automata_records au) sixteen-records

  pub length-written : length (write_automata au) ≡ 16 * length (automata_records au)
  length-written = length-laid (automata_records au) sixteen-records

  pub written-kind : (k : ℕ) → of_kind k (write_automata au) ≡ gather (λ x. cond (eqb x.0 k) (records_of x) []) (sections au)
  written-kind k = ap (keep (λ r. eqb (kind r) k)) written-records ∙ keep-sections k (sections au)

  -- ---- how long it is

  -- a section has as many records as things
  length-section : {A : Type 0} (k : ℕ) (wr : A → List ℕ) (xs : List A) (rest : List (ℕ × List (List ℕ))) →
      length (gather records_of ((k, map wr xs) ∷ rest)) ≡ length xs + length (gather records_of rest)
  unfolding gather
  length-section k wr xs rest =
      length-append (records_of (k, map wr xs)) (gather records_of rest) ∙ ap (λ n. n + length (gather records_of rest)) (length-map (map wr xs) (record_of k) ∙ length-map xs wr)

  none_left : length (gather records_of []) ≡ 0
  unfolding gather
  none_left = refl

  -- of all kinds together
  abbrev pub things : ℕ
  things =
      length au.initial + length au.homes + length au.edges + length au.literals + length au.clocks + length au.variables + length au.nodes
      + length au.updates + length au.resets

  length-records : length (automata_records au) ≡ things
  length-records =
      length-section 33 (λ i. 0 ∷ bytes2 i) au.initial _
      ∙ ap (λ n. length au.initial + n)
      (length-section 34 (λ h. h ∷ []) au.homes _
      ∙ ap (λ n. length au.homes + n)
      (length-section 35 write_edge au.edges _
      ∙ ap (λ n. length au.edges + n)
      (length-section 36 write_literal au.literals _
      ∙ ap (λ n. length au.literals + n)
      (length-section 37 write_clock au.clocks _
      ∙ ap (λ n. length au.clocks + n)
      (length-section 38 write_variable au.variables _
      ∙ ap (λ n. length au.variables + n)
      (length-section 39 write_node au.nodes _
      ∙ ap (λ n. length au.nodes + n)
      (length-section 40 write_update au.updates _
      ∙ ap (λ n. length au.updates + n)
      (length-section 41 write_reset au.resets _
      ∙ ap (λ n. length au.resets + n)
      none_left))))))))
      ∙ omega arith

  -- 16 bytes for each thing
  pub written-length : length (write_automata au) ≡ 16 * things
  written-length = length-written ∙ ap (λ n. 16 * n) length-records
