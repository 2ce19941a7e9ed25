-- A builder filled from an array whose children are Flat; and what the slots of an array say of the first child that is not.
use Rattle.std.proofs.Common.{◌≡◌, ℕ, zero, suc, ◌<◌, ◌≢◌, inl, inr, ⊎_elim, Bool, true, false, not, ◌&&◌, eqb, cond, List, [], ◌∷◌, length, get_or, take, drop, Some, None, Ok, Err, Option, Result, sym, refl, ap, ap₂, ◌∙◌, subst, add-one, arith}
use Rattle.std.specs.List.{list_any, position_from}
use Rattle.std.proofs.Math.Bool.{not-not}
use Rattle.std.proofs.lemmas.Bool.{cases_lt}
use Rattle.std.proofs.lemmas.List.{get_or-set_same, get_or-set_other}
use Rattle.std.proofs.lemmas.Option.{none-some, same_Some}
use Rattle.rows.specs.declared.row.Row.{Row}
use Rattle.rows.specs.Kind.{Kinds, rows}
use Rattle.rows.specs.Ours.{LawfulKinds}
use Rattle.pool.specs.declared.node.Node.{Node}
use Rattle.pool.specs.declared.node.PoolFault.{PoolFault}
use Rattle.pool.specs.Memory.{Memory, blank, node_at, count_at, slots_at, start_at, part}
use Rattle.pool.specs.Counts.{names, times}
use Rattle.pool.specs.Order.{Ordered, Change}
use Rattle.pool.specs.Sharing.{release}
use Rattle.pool.specs.Building.{open_node, opened, append_rows, finished}
use Rattle.pool.proofs.Counted.{hit_same, times_here, in_range, named_used, owed_used, owed_in}
use Rattle.pool.proofs.Releasing.{Sound}
use Rattle.pool.proofs.Filling.{Opens, opens, open_refused, finished_sound}
use Rattle.pool.proofs.Abandoning.{builder_change, builder_owed, abandoned}
use Rattle.encodings.specs.declared.fields.Shape.{Shape}
use Rattle.encodings.specs.declared.step.ExecutionStep.{ExecutionStep}
use Rattle.encodings.specs.declared.step.ExecutionStep.TheVariants.{ExecuteSlot, Done}
use Rattle.encodings.specs.declared.step.StepFault.{StepFault}
use Rattle.encodings.specs.declared.step.StepFault.TheVariants.{Pool, NoRows}
use Rattle.encodings.specs.Meaning.{Encodings, slots_fit, no_gap}
use Rattle.encodings.specs.Rows.{fields_of, shape_of, slots_of, gathered, flat_rows, Fills, StandsAt, given}
use Rattle.encodings.specs.Step.{all_flat}
use Rattle.encodings.specs.Flattening.{flattened, first_encoded, flat_given, flattening_step, Beside, Filling}
use Rattle.encodings.proofs.Keeping.{times_take, gathered_same}

-- ---- slots
-- a slot is absent
abbrev pub absent : Option ℕ → Bool
absent None = true
absent (Some c) = false

-- a slot has a child that is not Flat
abbrev pub encoded : Memory → Option ℕ → Bool
encoded m None = false
encoded m (Some c) = not (eqb (node_at m c).encoding 1)

pub gaps_any : (ss : List (Option ℕ)) → list_any absent ss ≡ not (no_gap ss)
gaps_any [] = refl
gaps_any (None ∷ ss) = refl
gaps_any (Some c ∷ ss) = gaps_any ss

pub first_encoded_is : (m : Memory) (ss : List (Option ℕ)) (x : ℕ) → first_encoded m ss x ≡ position_from (encoded m) x ss
first_encoded_is m [] x = refl
first_encoded_is m (None ∷ ss) x = rw add-one (first_encoded_is m ss (suc x))
first_encoded_is m (Some c ∷ ss) x = rw add-one (go (eqb (node_at m c).encoding 1) (first_encoded_is m ss (suc x)))
  where
    go : {o p : Option ℕ} (b : Bool) → o ≡ p → elim b as (λ _. Option ℕ) [ true ↦ o | false ↦ Some x ] ≡ cond (not b) (Some x) p
    go true e = e
    go false e = refl

-- the child in a slot is named
pub slot_named : (ss : List (Option ℕ)) (k : ℕ) (o : Option ℕ) → k < length ss → o ≡ get_or ss k o → (c : ℕ) → o ≡ Some c → 0 < times c (names ss)
slot_named [] k o l e c is = absurd (omega arith)
slot_named (None ∷ ss) zero o l e c is = absurd (none-some c (sym e ∙ is))
slot_named (Some d ∷ ss) zero o l e c is = omega (arith, hit_same d c (same_Some d c (sym e ∙ is)))
slot_named (None ∷ ss) (suc k) o l e c is = slot_named ss k o (omega arith) e c is
slot_named (Some d ∷ ss) (suc k) o l e c is = omega (arith, slot_named ss k o (omega arith) e c is)

-- where no child is asked for, all are Flat
pub none_encoded : (m : Memory) (ss : List (Option ℕ)) (x : ℕ) → first_encoded m ss x ≡ None → all_flat m ss ≡ true
none_encoded m [] x e = refl
none_encoded m (None ∷ ss) x e = none_encoded m ss (suc x) e
none_encoded m (Some c ∷ ss) x e = go (eqb (node_at m c).encoding 1) (first_encoded m ss (suc x)) (none_encoded m ss (suc x)) e
  where
    go : {f : Bool} (b : Bool) (o : Option ℕ) → (o ≡ None → f ≡ true) → elim b as (λ _. Option ℕ) [ true ↦ o | false ↦ Some x ] ≡ None → (b && f) ≡ true
    go true o flat n = flat n
    go false o flat n = absurd (none-some x (sym n))

-- slots that name nothing ask for nothing
pub first_taken : (m : Memory) (n : ℕ) (ss : List (Option ℕ)) (x : ℕ) → names (drop n ss) ≡ [] → first_encoded m ss x ≡ first_encoded m (take n ss) x
first_taken m zero [] x e = refl
first_taken m zero (None ∷ ss) x e = first_taken m zero ss (suc x) e
first_taken m zero (Some c ∷ ss) x e = let z : ◌≡◌ {A = ℕ} 0 1 = cc in absurd (omega arith)
first_taken m (suc n) [] x e = refl
first_taken m (suc n) (None ∷ ss) x e = first_taken m n ss (suc x) e
first_taken m (suc n) (Some c ∷ ss) x e =
    ap (λ (o : Option ℕ). elim (eqb (node_at m c).encoding 1) as (λ _. Option ℕ) [ true ↦ o | false ↦ Some x ]) (first_taken m n ss (suc x) e)

-- ---- two memories, in which what slots name is alike
abbrev pub Alike : Memory → Memory → List (Option ℕ) → Type 0
Alike m q ss = (c : ℕ) → 0 < times c (names ss) → node_at q c ≡ node_at m c

module _ (m q : Memory) where
  all_flat_alike : (ss : List (Option ℕ)) → Alike m q ss → all_flat q ss ≡ all_flat m ss
  all_flat_alike [] same = refl
  all_flat_alike (None ∷ ss) same = all_flat_alike ss same
  all_flat_alike (Some c ∷ ss) same =
      ap₂ (λ (nd : Node) (b : Bool). eqb nd.encoding 1 && b) (same c (times_here c (names ss))) (all_flat_alike ss (λ d h. same d (omega arith)))

  fills_alike : (ss : List (Option ℕ)) (shapes : List Shape) → Alike m q ss → Fills m ss shapes → Fills q ss shapes
  fills_alike [] [] same f = tt
  fills_alike [] (h ∷ hs) same f = f
  fills_alike (None ∷ ss) [] same f = f
  fills_alike (Some c ∷ ss) [] same f = f
  fills_alike (None ∷ ss) (h ∷ hs) same f = fills_alike ss hs same f
  fills_alike (Some c ∷ ss) (h ∷ hs) same f =
      (ap (λ (nd : Node). shape_of nd) (same c (times_here c (names ss))) ∙ f.0, fills_alike ss hs (λ d g. same d (omega arith)) f.1)

  stands_alike : (own : Encodings) (i : ℕ) → node_at q i ≡ node_at m i → Alike m q (slots_of (node_at m i)) → StandsAt own m i → StandsAt own q i
  stands_alike own i e same stands =
      record {
        known = subst (λ (nd : Node). own.has nd.encoding ≡ true) (sym e) stands.known;
        fields_fit = subst (λ (nd : Node). own.fields_fit (fields_of nd) ≡ true) (sym e) stands.fields_fit;
        shapes = stands.shapes;
        fills = subst (λ (nd : Node). Fills q (slots_of nd) stands.shapes) (sym e) (fills_alike (slots_of (node_at m i)) stands.shapes same stands.fills);
        slots_fit = subst (λ (nd : Node). slots_fit own (fields_of nd) stands.shapes ≡ true) (sym e) stands.slots_fit;
        no_more = subst (λ (nd : Node). names (drop nd.arity nd.slots) ≡ []) (sym e) stands.no_more;
        bare = subst (λ (nd : Node). nd.encoding ≢ 1 → nd.run ≡ 0) (sym e) stands.bare;
      }

-- ---- the step, by what was found
module _ (ks : Kinds) {own : Encodings} {m : Memory} {i : ℕ} (stands : StandsAt own m i) where
  -- the step, where the search for a child that is not Flat gives this, and the test of the slots this
  abbrev stepped : Option ℕ → Bool → Result ExecutionStep StepFault × Memory
  stepped o b =
      elim o [
        | Some x ↦ (Ok (ExecuteSlot x 1), m)
        | None ↦ elim b [ true ↦ flattened ks m i (flat_given ks own m i) | false ↦ (Err NoRows, m) ]
      ]

  sought : {o : Option ℕ} → o ≡ first_encoded m (slots_at m.nodes i) 0 → o ≡ first_encoded m (slots_of (node_at m i)) 0
  sought e = e ∙ first_taken m (node_at m i).arity (slots_at m.nodes i) 0 stands.no_more

  pub asks : (x : ℕ) → Some x ≡ first_encoded m (slots_at m.nodes i) 0 → (Ok (ExecuteSlot x 1), m) ≡ flattening_step ks own m i
  asks x e = ap (λ (o : Option ℕ). stepped o (no_gap (slots_of (node_at m i)))) (sought e)

  -- none is asked for, and b says whether a slot is absent
  pub asks_none : (b : Bool) → None ≡ first_encoded m (slots_at m.nodes i) 0 → b ≡ not (no_gap (slots_of (node_at m i))) → stepped None (not b) ≡ flattening_step ks own m i
  asks_none b e gap = ap₂ stepped (sought e) (ap not gap ∙ not-not (no_gap (slots_of (node_at m i))))

  pub flat_there : None ≡ first_encoded m (slots_at m.nodes i) 0 → all_flat m (slots_of (node_at m i)) ≡ true
  flat_there e = none_encoded m (slots_of (node_at m i)) 0 (sym (sought e))

-- ---- a Flat array in the place of i
-- what it is, where opening its builder gives this
abbrev flat_by : Kinds → Memory → ℕ → Option (List Row) → Result ℕ PoolFault × Memory → Result ExecutionStep StepFault × Memory
flat_by ks m i None o = elim o.0 [ Err e ↦ (Err (Pool e), m) | Ok j ↦ (Err NoRows, m) ]
flat_by ks m i (Some rs) o =
    let b : Result ℕ PoolFault × Memory = elim o.0 [ Err e ↦ (Err e, o.1) | Ok j ↦ (Ok j, finished (append_rows ks o.1 j 0 rs) j) ] in
    elim b.0 [ Err e ↦ (Err (Pool e), m) | Ok j ↦ (Ok (Done j), release b.1 i) ]

flattened_by : (ks : Kinds) (m : Memory) (i : ℕ) (whole : Option (List Row)) (o : Result ℕ PoolFault × Memory)
    → o ≡ opened m (node_at m i).kind (node_at m i).len ((ks.kind (node_at m i).kind).words (node_at m i).len) → flat_by ks m i whole o ≡ flattened ks m i whole
flattened_by ks m i None o e = ap (flat_by ks m i None) e
flattened_by ks m i (Some rs) o e = ap (flat_by ks m i (Some rs)) e

pub flattened_refused : (ks : Kinds) (m q : Memory) (i : ℕ) (whole : Option (List Row)) (e : PoolFault)
    → (Err e, q) ≡ opened m (node_at m i).kind (node_at m i).len ((ks.kind (node_at m i).kind).words (node_at m i).len) → (Err (Pool e), q) ≡ flattened ks m i whole
flattened_refused ks m q i whole e is =
    ap (λ (p : Memory). (Err (Pool e), p)) (open_refused m q (node_at m i).kind (node_at m i).len ((ks.kind (node_at m i).kind).words (node_at m i).len) e is)
    ∙ go whole
    ∙ flattened_by ks m i whole (Err e, q) is
  where
    go : (w : Option (List Row)) → (Err (Pool e), m) ≡ flat_by ks m i w (Err e, q)
    go None = refl
    go (Some rs) = refl

-- i is held, and its builder j is open in q
module _ {ks : Kinds} {own : Encodings} {m q : Memory} {hs : List ℕ} {i j : ℕ} (law : LawfulKinds ks) (o : Ordered m (i ∷ hs)) (stands : StandsAt own m i)
    (e : (Ok j, q) ≡ opened m (node_at m i).kind (node_at m i).len ((ks.kind (node_at m i).kind).words (node_at m i).len)) where
  at : Opens m q (node_at m i).kind (node_at m i).len ((ks.kind (node_at m i).kind).words (node_at m i).len) j
  at = opens m q (node_at m i).kind (node_at m i).len ((ks.kind (node_at m i).kind).words (node_at m i).len) j e

  change : (rs : List Row) → Change m (append_rows ks q j 0 rs) (j ∷ (i ∷ hs)) (i ∷ hs)
  change rs = builder_change ks m q (i ∷ hs) (node_at m i).kind (node_at m i).len j rs (law.lawful (node_at m i).kind) o e

  used : 0 < count_at m.nodes i
  used = owed_used m.nodes i hs o.counts

  -- what is in use is another node than the builder, and as it was
  other : (k : ℕ) → 0 < count_at m.nodes k → k ≢ j
  other k u is = let n = ap (λ (x : ℕ). count_at m.nodes x) is in omega (arith, at.lowest.1)

  same : (k : ℕ) → 0 < count_at m.nodes k → node_at q k ≡ node_at m k
  same k u =
      let w : ℕ = (ks.kind (node_at m i).kind).words (node_at m i).len in
      ap (λ (x : Memory). node_at x k) at.after ∙ get_or-set_other m.nodes j k (open_node (node_at m i).kind (node_at m i).len at.start w) blank (other k u)

  child_used : (c : ℕ) → 0 < times c (names (slots_of (node_at m i))) → 0 < count_at m.nodes c
  child_used c h = named_used m.nodes (i ∷ hs) o.counts i c used (omega (arith, h, times_take c (node_at m i).arity (slots_at m.nodes i)))

  alike : Alike m q (slots_of (node_at m i))
  alike c h = same c (child_used c h)

  pub given_same : flat_given ks own q i ≡ flat_given ks own m i
  given_same =
      let words : q.words ≡ m.words = ap (λ (x : Memory). x.words) at.after in
      ap (λ (nd : Node). given own (fields_of nd) (gathered (λ c. Some (flat_rows ks q c)) (slots_of nd))) (same i used)
      ∙ ap (given own (fields_of (node_at m i)))
      (gathered_same (λ c. Some (flat_rows ks q c)) (λ c. Some (flat_rows ks m c)) (slots_of (node_at m i))
      (λ c h. ap₂ (λ (nd : Node) (ws : List ℕ). Some (rows (ks.kind nd.kind) nd.len (part ws nd.start nd.run))) (alike c h) words))

  builder_is : node_at q j ≡ open_node (node_at m i).kind (node_at m i).len at.start ((ks.kind (node_at m i).kind).words (node_at m i).len)
  builder_is =
      let w : ℕ = (ks.kind (node_at m i).kind).words (node_at m i).len in
      ap (λ (x : Memory). node_at x j) at.after ∙ get_or-set_same m.nodes j (open_node (node_at m i).kind (node_at m i).len at.start w) blank at.lowest.0

  beside : (c : ℕ) → c ≢ j → Beside q c j
  beside c ne a b =
      let apart = (change []).ordered.apart in
      ⊎_elim
      (λ l. inr (apart j c (λ is. ne (sym is)) b a (omega arith)))
      (λ l. inl (apart c j ne a b l))
      (cases_lt (start_at q.nodes j) (start_at q.nodes c))

  pub filling : no_gap (slots_of (node_at m i)) ≡ true → all_flat m (slots_of (node_at m i)) ≡ true → Filling ks own q i j
  filling gapless flat =
      let after = (change []).ordered in
      let inside : (k : ℕ) → 0 < count_at m.nodes k → k < length q.nodes = λ k u. omega (arith, in_range m.nodes k u, o.nodes_long, after.nodes_long) in
      let e : node_at m i ≡ node_at q i = sym (same i used) in
      record {
        nodes_long = after.nodes_long;
        words_long = after.words_long;
        within = after.within;
        array_inside = inside i used;
        stands = stands_alike m q own i (same i used) alike stands;
        present = subst (λ (nd : Node). no_gap (slots_of nd) ≡ true) e gapless;
        flat = subst (λ (nd : Node). all_flat q (slots_of nd) ≡ true) e (all_flat_alike m q (slots_of (node_at m i)) alike ∙ flat);
        children = subst (λ (nd : Node). (c : ℕ) → 0 < times c (names (slots_of nd)) → (c < length q.nodes) × Beside q c j) e
            (λ c h. (inside c (child_used c h), beside c (other c (child_used c h))));
        inside = omega (arith, at.lowest.0, o.nodes_long, after.nodes_long);
        same_kind = ap (λ (nd : Node). nd.kind) builder_is ∙ ap (λ (nd : Node). nd.kind) e;
        same_len = ap (λ (nd : Node). nd.len) builder_is ∙ ap (λ (nd : Node). nd.len) e;
        run = ap (λ (nd : Node). nd.run) builder_is ∙ ap (λ (nd : Node). (ks.kind nd.kind).words nd.len) e;
      }

  -- p has the builder, as b, with these rows in it
  module _ {p : Memory} {b : ℕ} (is : b ≡ j) (rs : List Row) (after : p ≡ append_rows ks q j 0 rs) where
    pub open_sound : Sound p (b ∷ (i ∷ hs))
    open_sound =
        subst (λ (k : ℕ). Sound p (k ∷ (i ∷ hs))) (sym is)
        (subst (λ (x : Memory). Sound x (j ∷ (i ∷ hs))) (sym after) (builder_owed ks m q (i ∷ hs) (node_at m i).kind (node_at m i).len j rs (law.lawful (node_at m i).kind) o e))

    pub open_inside : b < length p.nodes
    open_inside = owed_in p.nodes b (i ∷ hs) open_sound.counts

    pub done_sound : Sound (finished p b) (i ∷ (b ∷ hs))
    done_sound =
        let s = finished_sound p b open_inside (b ∷ (i ∷ hs)) open_sound in
        record { counts = λ k. omega (arith, s.counts k); falling = s.falling; within = s.within }

    pub given_up : flat_given ks own q i ≡ None → (Err NoRows, release p b) ≡ flattened ks m i (flat_given ks own m i)
    given_up none =
        ap (λ (x : Memory). (Err NoRows, x)) (ap₂ release after is ∙ abandoned ks m q (i ∷ hs) (node_at m i).kind (node_at m i).len j rs (law.lawful (node_at m i).kind) o e)
        ∙ flattened_by ks m i None (Ok j, q) e
        ∙ ap (flattened ks m i) (sym none ∙ given_same)

    pub done : flat_given ks own q i ≡ Some rs → (Ok (Done b), release (finished p b) i) ≡ flattened ks m i (flat_given ks own m i)
    done some =
        ap₂ (λ (x : Memory) (k : ℕ). (Ok (Done k), release (finished x k) i)) after is
        ∙ flattened_by ks m i (Some rs) (Ok j, q) e
        ∙ ap (flattened ks m i) (sym some ∙ given_same)
