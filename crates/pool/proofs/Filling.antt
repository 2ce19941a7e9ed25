-- A builder that is opened and appended to, row by row.
use Rattle.std.proofs.Common.{◌≡◌, ℕ, suc, ◌+◌, ◌<◌, ◌≤◌, true, List, [], ◌∷◌, ◌++◌, length, get_or, set, take, drop, Some, None, Ok, Err, Option, Result, sym, refl, ap, ◌∙◌, subst, ⊎_elim, add-zero, arith}
use Rattle.std.proofs.lemmas.List.{get_or-set_same, length-set, take_more, length-take-le, length-drop, length-append}
use Rattle.rows.specs.declared.row.Row.{Row}
use Rattle.rows.specs.Kind.{Kinds, LawfulKind, appended}
use Rattle.rows.proofs.Appending.{appended_long}
use Rattle.pool.specs.declared.builder.Builder.{Builder}
use Rattle.pool.specs.declared.node.Node.{Node}
use Rattle.pool.specs.declared.node.PoolFault.{PoolFault}
use Rattle.pool.specs.Memory.{Memory, blank, node_at, height_at, start_at, run_at, with_encoding, put_node, run_of}
use Rattle.pool.specs.Counts.{names_of}
use Rattle.pool.specs.Finding.{lowest_free, find_run, Room, LowestNode}
use Rattle.pool.specs.Building.{open_node, opened, append_row, append_rows, finished, built, Open}
use Rattle.pool.proofs.Found.{lowest_free_is, found_room}
use Rattle.pool.proofs.Placing.{over_long}
use Rattle.pool.proofs.Building.{append_rows_is, opened_by}
use Rattle.pool.proofs.Counted.{named_set, set_cases}
use Rattle.pool.proofs.Releasing.{Sound}

-- the node and the run that an open builder has taken
pub record Opens (m q : Memory) (kind n w i : ℕ) : Type 0 where
  pub start : ℕ
  pub lowest : LowestNode m.nodes (Some i)
  pub sought : find_run m w ≡ Some start
  pub after : q ≡ put_node m i (open_node kind n start w)

pub opens : (m q : Memory) (kind n w i : ℕ) → (Ok i, q) ≡ opened m kind n w → Opens m q kind n w i
opens m q kind n w i = go (lowest_free m.nodes 0) (lowest_free_is m.nodes) (find_run m w) refl
  where
    go : (f : Option ℕ) → LowestNode m.nodes f → (r : Option ℕ) → find_run m w ≡ r → (Ok i, q) ≡ opened_by m kind n w f r → Opens m q kind n w i
    go None a r b e = let x = ap (λ (p : Result ℕ PoolFault × Memory). p.0) e in let z : ◌≡◌ {A = ℕ} 0 1 = cc in absurd (omega arith)
    go (Some j) a None b e = let x = ap (λ (p : Result ℕ PoolFault × Memory). p.0) e in let z : ◌≡◌ {A = ℕ} 0 1 = cc in absurd (omega arith)
    go (Some j) a (Some s) b e =
        let x = ap (λ (p : Result ℕ PoolFault × Memory). p.0) e in
        let same : j ≡ i = cc in
        record {
          start = s;
          lowest = subst (λ (k : ℕ). LowestNode m.nodes (Some k)) same a;
          sought = b;
          after = ap (λ (p : Result ℕ PoolFault × Memory). p.1) e ∙ ap (λ (k : ℕ). put_node m k (open_node kind n s w)) same;
        }

pub opened_ok : (m : Memory) (kind n w i : ℕ) (q : Memory) (r : Result ℕ PoolFault) → r ≡ Ok i → (r, q) ≡ opened m kind n w → Opens m q kind n w i
opened_ok m kind n w i q r ok e = opens m q kind n w i (ap (λ (x : Result ℕ PoolFault). (x, q)) (sym ok) ∙ e)

-- where a builder is refused, nothing has changed
pub open_refused : (m q : Memory) (kind n w : ℕ) (e : PoolFault) → (Err e, q) ≡ opened m kind n w → q ≡ m
open_refused m q kind n w e = go (lowest_free m.nodes 0) (find_run m w)
  where
    go : (f r : Option ℕ) → (Err e, q) ≡ opened_by m kind n w f r → q ≡ m
    go None r is = ap (λ (p : Result ℕ PoolFault × Memory). p.1) is
    go (Some j) None is = ap (λ (p : Result ℕ PoolFault × Memory). p.1) is
    go (Some j) (Some s) is =
        let x : ◌≡◌ {A = Result ℕ PoolFault} (Err e) (Ok j) = ap (λ (p : Result ℕ PoolFault × Memory). p.0) is in
        let z : ◌≡◌ {A = ℕ} 0 1 = cc in absurd (omega arith)

pub nodes_appended : (ks : Kinds) (m : Memory) (i k : ℕ) (rs : List Row) → (append_rows ks m i k rs).nodes ≡ m.nodes
nodes_appended ks m i k [] = refl
nodes_appended ks m i k (r ∷ rs) = nodes_appended ks (append_row ks m i k r) i (suc k) rs

-- words that rows are appended to are as many as before
pub words_appended : (ks : Kinds) (m : Memory) (i k : ℕ) (rs : List Row) → i < length m.nodes → start_at m.nodes i + run_at m.nodes i ≤ length m.words → LawfulKind (ks.kind (node_at m i).kind)
    → length (append_rows ks m i k rs).words ≡ length m.words
words_appended ks m i k rs inside fits law =
    let s : ℕ = start_at m.nodes i in
    let w : ℕ = run_at m.nodes i in
    let xs : List ℕ = appended (ks.kind (node_at m i).kind) (node_at m i).len (run_of m i) k rs in
    let long : length xs ≡ w = appended_long law (node_at m i).len (run_of m i) k rs ∙ length-take-le w (drop s m.words) (omega (arith, length-drop s m.words)) in
    ap (λ (x : Memory). length x.words) (append_rows_is ks m i k rs inside fits law) ∙ over_long m.words s w xs fits long

-- a builder that is open for a row is so after other rows, too
open_appended : (ks : Kinds) (m : Memory) (i k : ℕ) (rs : List Row) (j : ℕ) (r : Row) → LawfulKind (ks.kind (node_at m i).kind) → Open ks m i j r → Open ks (append_rows ks m i k rs) i j r
open_appended ks m i k rs j r law opens =
    let same : m.nodes ≡ (append_rows ks m i k rs).nodes = sym (nodes_appended ks m i k rs) in
    let long = words_appended ks m i k rs opens.inside opens.within law in
    let fits : start_at m.nodes i + run_at m.nodes i ≤ length (append_rows ks m i k rs).words = omega (arith, long, opens.within) in
    record {
      inside = subst (λ (ns : List Node). i < length ns) same opens.inside;
      within = subst (λ (ns : List Node). start_at ns i + run_at ns i ≤ length (append_rows ks m i k rs).words) same fits;
      whole = subst (λ (ns : List Node). run_at ns i ≡ (ks.kind (get_or ns i blank).kind).words (get_or ns i blank).len) same opens.whole;
      short = subst (λ (ns : List Node). j < (get_or ns i blank).len) same opens.short;
      taken = subst (λ (ns : List Node). (ks.kind (get_or ns i blank).kind).takes r ≡ true) same opens.taken;
    }

-- rows that are appended after others
pub append_two : (ks : Kinds) (m : Memory) (i k : ℕ) (rs xs : List Row) → append_rows ks m i k (rs ++ xs) ≡ append_rows ks (append_rows ks m i k rs) i (k + length rs) xs
append_two ks m i k [] xs = ap (λ (x : ℕ). append_rows ks m i x xs) (sym (add-zero k))
append_two ks m i k (r ∷ rs) xs =
    let e : suc k + length rs ≡ k + suc (length rs) = omega arith in
    append_two ks (append_row ks m i k r) i (suc k) rs xs ∙ ap (λ (y : ℕ). append_rows ks (append_rows ks (append_row ks m i k r) i (suc k) rs) i y xs) e

pub append_push : (ks : Kinds) (m : Memory) (i k : ℕ) (rs : List Row) (r : Row) → append_rows ks m i k (rs ++ r ∷ []) ≡ append_row ks (append_rows ks m i k rs) i (k + length rs) r
append_push ks m i k rs r = append_two ks m i k rs (r ∷ [])

-- Rows are appended so far: builder a is b now, at its node and with as many rows more, and memory m is q.
pub record SoFar (ks : Kinds) (m : Memory) (a : Builder) (rs : List Row) (q : Memory) (b : Builder) : Type 0 where
  pub after : q ≡ append_rows ks m a.node a.filled rs
  pub node : b.node ≡ a.node
  pub filled : b.filled ≡ a.filled + length rs

module _ (ks : Kinds) (m : Memory) (a : Builder) where
  pub none_so_far : SoFar ks m a [] m a
  none_so_far = record { after = refl; node = refl; filled = sym (add-zero a.filled) }

  module _ (rs : List Row) (q : Memory) (b : Builder) (so : SoFar ks m a rs q b) where
    at_builder : (f : ℕ → ℕ → Memory) → f b.node b.filled ≡ f a.node (a.filled + length rs)
    at_builder f = λ i. f (so.node i) (so.filled i)

    -- rows more, and one row more
    pub rows_more : (xs : List Row) (z : Memory) (c : Builder) → z ≡ append_rows ks q b.node b.filled xs → c.node ≡ b.node → c.filled ≡ b.filled + length xs → SoFar ks m a (rs ++ xs) z c
    rows_more xs z c after node filled =
        record {
          after = after
              ∙ at_builder (λ i k. append_rows ks q i k xs)
              ∙ ap (λ (x : Memory). append_rows ks x a.node (a.filled + length rs) xs) so.after
              ∙ sym (append_two ks m a.node a.filled rs xs);
          node = node ∙ so.node;
          filled = omega (arith, filled, so.filled, length-append rs xs);
        }

    pub row_more : (r : Row) (z : Memory) (c : Builder) → z ≡ append_row ks q b.node b.filled r → c.node ≡ b.node → c.filled ≡ b.filled + 1 → SoFar ks m a (rs ++ r ∷ []) z c
    row_more r z c after node filled = rows_more (r ∷ []) z c after node filled

    -- the builder is open now for a row for which it was at first
    pub open_so_far : (k : ℕ) (r : Row) → LawfulKind (ks.kind (node_at m a.node).kind) → Open ks m a.node k r → Open ks q b.node k r
    open_so_far k r law opens =
        subst (λ (i : ℕ). Open ks q i k r) (sym so.node)
        (subst (λ (x : Memory). Open ks x a.node k r) (sym so.after) (open_appended ks m a.node a.filled rs k r law opens))

module _ (ks : Kinds) (m q : Memory) (kind n w i : ℕ) (law : LawfulKind (ks.kind kind)) (o : Opens m q kind n w i) where
  room : Room m w o.start
  room = found_room m w o.start o.sought

  -- the node of the builder
  node_is : node_at q i ≡ open_node kind n o.start w
  node_is = ap (λ (x : Memory). node_at x i) o.after ∙ get_or-set_same m.nodes i (open_node kind n o.start w) blank o.lowest.0

  nodes_long : length q.nodes ≡ length m.nodes
  nodes_long = ap (λ (x : Memory). length x.nodes) o.after ∙ length-set m.nodes i (open_node kind n o.start w)

  words_are : q.words ≡ m.words
  words_are = ap (λ (x : Memory). x.words) o.after

  fits : start_at q.nodes i + run_at q.nodes i ≤ length q.words
  fits =
      let a = ap (λ (nd : Node). nd.start) node_is in
      let b = ap (λ (nd : Node). nd.run) node_is in
      let c = ap (λ (ws : List ℕ). length ws) words_are in
      omega (arith, a, b, c, room.inside)

  law_at : LawfulKind (ks.kind (node_at q i).kind)
  law_at = subst (λ (nd : Node). LawfulKind (ks.kind nd.kind)) (sym node_is) law

  words_long : (rs : List Row) → length (append_rows ks q i 0 rs).words ≡ length q.words
  words_long rs = words_appended ks q i 0 rs (omega (arith, o.lowest.0, nodes_long)) fits law_at

  -- the builder is open for row k
  pub open_at : (rs : List Row) (k : ℕ) (r : Row) → w ≡ (ks.kind kind).words n → k < n → (ks.kind kind).takes r ≡ true → Open ks (append_rows ks q i 0 rs) i k r
  open_at rs k r whole short taken =
      let same = nodes_appended ks q i 0 rs in
      let nd : node_at (append_rows ks q i 0 rs) i ≡ open_node kind n o.start w = ap (λ (ns : List Node). get_or ns i blank) same ∙ node_is in
      record {
        inside = omega (arith, ap (λ (ns : List Node). length ns) same, nodes_long, o.lowest.0);
        within = omega (arith, ap (λ (x : Node). x.start) nd, ap (λ (x : Node). x.run) nd, words_long rs, ap (λ (ws : List ℕ). length ws) words_are, room.inside);
        whole = subst (λ (x : Node). x.run ≡ (ks.kind x.kind).words x.len) (sym nd) whole;
        short = subst (λ (x : Node). k < x.len) (sym nd) short;
        taken = subst (λ (x : Node). (ks.kind x.kind).takes r ≡ true) (sym nd) taken;
      }

  pub builder_inside : (rs : List Row) → i < length (append_rows ks q i 0 rs).nodes
  builder_inside rs = omega (arith, ap (λ (ns : List Node). length ns) (nodes_appended ks q i 0 rs), nodes_long, o.lowest.0)

-- one row more
pub append_step : (ks : Kinds) (m : Memory) (i : ℕ) (rs : List Row) (k : ℕ) (d : Row) → k < length rs → append_row ks (append_rows ks m i 0 (take k rs)) i k (get_or rs k d) ≡ append_rows ks m i 0 (take (k + 1) rs)
append_step ks m i rs k d h =
    let l : length (take k rs) ≡ k = length-take-le k rs (omega arith) in
    sym (ap (λ (xs : List Row). append_rows ks m i 0 xs) (take_more rs k d h)
    ∙ append_push ks m i 0 (take k rs) (get_or rs k d)
    ∙ ap (λ (x : ℕ). append_row ks (append_rows ks m i 0 (take k rs)) i x (get_or rs k d)) (omega (arith, l)))

-- a build, from what opening its builder answered
abbrev finish_by : Kinds → List Row → Result ℕ PoolFault × Memory → Result ℕ PoolFault × Memory
finish_by ks rs o = elim o.0 [ Err f ↦ (Err f, o.1) | Ok j ↦ (Ok j, finished (append_rows ks o.1 j 0 rs) j) ]

-- what a build gives once its builder was opened
pub built_ok : (ks : Kinds) (m q : Memory) (kind n i : ℕ) (rs : List Row) (r : Result ℕ PoolFault) → r ≡ Ok i → (r, q) ≡ opened m kind n ((ks.kind kind).words n) → (Ok i, finished (append_rows ks q i 0 rs) i) ≡ built ks m kind n rs
built_ok ks m q kind n i rs r ok e = ap (λ (o : Result ℕ PoolFault × Memory). finish_by ks rs o) (ap (λ (x : Result ℕ PoolFault). (x, q)) (sym ok) ∙ e)

-- a builder that is finished is another node only by its encoding, and what can be released with it open can be released then
module _ (m : Memory) (i : ℕ) (inside : i < length m.nodes) where
  finished_at : (k : ℕ) → (e : ℕ) × (node_at (finished m i) k ≡ with_encoding (node_at m k) e)
  finished_at k =
      let nd : Node = with_encoding (node_at m i) 1 in
      ⊎_elim
      (λ (q : (k ≡ i) × (get_or (set m.nodes i nd) k blank ≡ nd)). (1, q.1 ∙ ap (λ (j : ℕ). with_encoding (node_at m j) 1) (sym q.0)))
      (λ (q : (k ≡ i → ⊥) × (get_or (set m.nodes i nd) k blank ≡ node_at m k)). ((node_at m k).encoding, q.1))
      (set_cases m.nodes i nd inside k)

  pub finished_sound : (hs : List ℕ) → Sound m hs → Sound (finished m i) hs
  finished_sound hs s =
      let height : (k : ℕ) → height_at (finished m i).nodes k ≡ height_at m.nodes k = λ k. ap (λ (nd : Node). nd.height) (finished_at k).1 in
      record {
        counts = λ k. omega (arith, s.counts k, named_set k m.nodes i (with_encoding (node_at m i) 1) inside, ap (λ (nd : Node). nd.count) (finished_at k).1);
        falling = λ k c h. omega (arith, height k, height c, s.falling k c (omega (arith, h, ap (λ (nd : Node). names_of c nd) (finished_at k).1)));
        within = λ k. omega (arith, s.within k, ap (λ (nd : Node). nd.start) (finished_at k).1, ap (λ (nd : Node). nd.run) (finished_at k).1);
      }
