-- An array whose nodes and words are as they were has the rows that it had, and is whole if it was.
use Rattle.std.proofs.Common.{◌≡◌, ℕ, zero, suc, ◌<◌, ◌≤◌, ◌≢◌, true, false, eqb, List, [], ◌∷◌, take, drop, Some, None, Option, sym, refl, ap, ◌∙◌, subst, arith}
use Rattle.std.proofs.lemmas.Bool.{eq-eqb, cond-true}
use Rattle.rows.specs.declared.row.Row.{Row}
use Rattle.rows.specs.Kind.{Kinds, rows}
use Rattle.pool.specs.declared.node.Node.{Node}
use Rattle.pool.specs.Memory.{Memory, node_at, count_at, height_at, slots_at, with_count, run_of}
use Rattle.pool.specs.Counts.{names, times, Reaches, here, step}
use Rattle.pool.specs.Order.{SameAt}
use Rattle.encodings.specs.declared.fields.Shape.{Shape}
use Rattle.encodings.specs.Meaning.{Encodings}
use Rattle.encodings.specs.Rows.{fields_of, shape_of, slots_of, gathered, offered, rows_at, rows_of, shapes_of, SlotsFit, WholeAt}

-- every node that k reaches is in q as it was
abbrev pub Kept : Memory → Memory → ℕ → Type 0
Kept m q k = (j : ℕ) → Reaches m.nodes k j → SameAt m q j

pub reaches_on : {ns : List Node} {a b c : ℕ} → Reaches ns a b → Reaches ns b c → Reaches ns a c
reaches_on r here = r
reaches_on r (step s c h) = step (reaches_on r s) c h

-- what some of the slots name, all of them name
pub times_take : (c n : ℕ) (ss : List (Option ℕ)) → times c (names (take n ss)) ≤ times c (names ss)
times_take c zero ss = omega arith
times_take c (suc n) [] = omega arith
times_take c (suc n) (None ∷ ss) = times_take c n ss
times_take c (suc n) (Some x ∷ ss) = omega (arith, times_take c n ss)

pub gathered_same : {A : Type 0} (f g : ℕ → Option A) (ss : List (Option ℕ)) → ((c : ℕ) → 0 < times c (names ss) → f c ≡ g c) → gathered f ss ≡ gathered g ss
gathered_same f g [] e = refl
gathered_same f g (None ∷ ss) e = refl
gathered_same {A = A} f g (Some x ∷ ss) e =
    let rest : gathered f ss ≡ gathered g ss = gathered_same f g ss (λ c h. e c (omega arith)) in
    let first : f x ≡ g x = e x (omega (arith, cond-true {A = ℕ} (eqb x x) 1 0 (eq-eqb x x refl))) in
    λ i. elim (first i) as (λ _. Option (List A)) [ None ↦ None | Some r ↦ elim (rest i) [ None ↦ None | Some l ↦ Some (r ∷ l) ] ]

pub offered_same : {A : Type 0} (f g : ℕ → Option A) (ss : List (Option ℕ)) → ((c : ℕ) → 0 < times c (names ss) → f c ≡ g c) → offered f ss ≡ offered g ss
offered_same f g [] e = refl
offered_same {A = A} f g (None ∷ ss) e =
    let rest : offered f ss ≡ offered g ss = offered_same f g ss e in
    λ i. elim (rest i) as (λ _. Option (List (Option A))) [ None ↦ None | Some l ↦ Some (None ∷ l) ]
offered_same {A = A} f g (Some x ∷ ss) e =
    let rest : offered f ss ≡ offered g ss = offered_same f g ss (λ c h. e c (omega arith)) in
    let first : f x ≡ g x = e x (omega (arith, cond-true {A = ℕ} (eqb x x) 1 0 (eq-eqb x x refl))) in
    λ i. elim (first i) as (λ _. Option (List (Option A))) [ None ↦ None | Some r ↦ elim (rest i) [ None ↦ None | Some l ↦ Some (Some r ∷ l) ] ]

-- what a node shows, from its children's rows and its run
abbrev pub shown : Kinds → Encodings → Node → List ℕ → Option (List (Option (List Row))) → Option (List Row)
shown ks es nd run cs =
    elim (eqb nd.encoding 1) [
      | true ↦ Some (rows (ks.kind nd.kind) nd.len run)
      | false ↦ elim cs [ None ↦ None | Some os ↦ es.rest (fields_of nd) os ]
    ]

module _ (ks : Kinds) (es : Encodings) (m q : Memory) where
  -- what the slots of k name is as it was, too
  child_kept : (k c : ℕ) → Kept m q k → 0 < times c (names (slots_of (node_at m k))) → Kept m q c
  child_kept k c kept h j r = kept j (reaches_on (step here c (omega (arith, times_take c (node_at m k).arity (slots_at m.nodes k)))) r)

  rows_at_kept : (f k : ℕ) → Kept m q k → rows_at ks es f q k ≡ rows_at ks es f m k
  rows_at_kept zero k kept = refl
  rows_at_kept (suc f) k kept =
      let nd : Node = node_at m k in
      let same = kept k here in
      let cq : List (Option ℕ) → Option (List (Option (List Row))) = λ ss. offered (rows_at ks es f q) ss in
      let children : cq (slots_of nd) ≡ offered (rows_at ks es f m) (slots_of nd)
      = offered_same (rows_at ks es f q) (rows_at ks es f m) (slots_of nd) (λ c h. rows_at_kept f c (child_kept k c kept h)) in
      (λ i. shown ks es (same.same_node i) (same.same_run i) (cq (slots_of (same.same_node i)))) ∙ ap (shown ks es nd (run_of m k)) children

  pub rows_kept : (k : ℕ) → Kept m q k → rows_of ks es q k ≡ rows_of ks es m k
  unfolding rows_of
  rows_kept k kept =
      ap (λ (x : Node). rows_at ks es (suc x.height) q k) (kept k here).same_node
      ∙ rows_at_kept (suc (height_at m.nodes k)) k kept

  pub whole_kept : (k : ℕ) → Kept m q k → WholeAt ks es m k → WholeAt ks es q k
  whole_kept k kept w =
      let nd : Node = node_at m k in
      let same = kept k here in
      let to : node_at q k ≡ with_count nd (count_at q.nodes k) = same.same_node in
      let from : with_count nd (count_at q.nodes k) ≡ node_at q k = sym to in
      let shapes : shapes_of m (slots_of nd) ≡ shapes_of q (slots_of nd)
      = gathered_same (λ c. Some (shape_of (node_at m c))) (λ c. Some (shape_of (node_at q c))) (slots_of nd)
      (λ c h. sym (ap (λ (x : Node). Some (shape_of x)) (child_kept k c kept h c here).same_node)) in
      record {
        known = subst (λ (x : Node). es.has x.encoding ≡ true) from w.known;
        fields_fit = subst (λ (x : Node). es.fields_fit (fields_of x) ≡ true) from w.fields_fit;
        slots_fit = subst (λ (x : Node). SlotsFit es (fields_of x) (shapes_of q (slots_of x))) from
            (subst (λ (o : Option (List Shape)). SlotsFit es (fields_of nd) o) shapes w.slots_fit);
        no_more = subst (λ (x : Node). names (drop x.arity x.slots) ≡ []) from w.no_more;
        flat_run = subst (λ (x : Node). x.encoding ≡ 1 → x.run ≡ (ks.kind x.kind).words x.len) from w.flat_run;
        flat_tidy = subst (λ (run : List ℕ). (node_at q k).encoding ≡ 1 → (ks.kind (node_at q k).kind).tidy (node_at q k).len run ≡ true) (sym same.same_run)
            (subst (λ (x : Node). x.encoding ≡ 1 → (ks.kind x.kind).tidy x.len (run_of m k) ≡ true) from w.flat_tidy);
        bare = subst (λ (x : Node). x.encoding ≢ 1 → x.run ≡ 0) from w.bare;
      }
